-- What was weighed is what the signers weigh, and no kind needs more than five fifths.
use mathlib.Core.Path.{sym, subst}
use Prim.Native.Nat.{ℕ, ◌≤◌}
use Rattle.rulebook.specs.Packets.{certificate_of}
use Rattle.stakes.proofs.Laws.{weighable}
use Rattle.certificates.proofs.Judged.{fifths_le, lacks_same, lacks_some, lacks_none, weighed_told, too_light_lem}
use Rattle.certificates.proofs.weigh_in.Goals as goal

pub missing-missing-requires : goal.missing-missing-requires
missing-missing-requires c =
    weighable _ _ c.requires.fit _ (subst (λ (x : ℕ). x ≤ 5) (sym c.threshold_of-needed.ensures) (fifths_le _))

pub returns-then-missing-ne0 : goal.returns-then-missing-ne0
returns-then-missing-ne0 c =
    let cert = certificate_of c.args.c c.args.a.now c.args.b.now in
    let w = c.weigh_of-w.ensures in
    let l = lacks_same _ _ c.requires.fit _ cert _ w _ c.threshold_of-needed.ensures _ c.missing-missing.ensures in
    too_light_lem _ _ cert _ (lacks_some _ _ cert _ l c.if-missing-ne0.true) _ l

pub returns : goal.returns
returns c =
    let cert = certificate_of c.args.c c.args.a.now c.args.b.now in
    let w = c.weigh_of-w.ensures in
    let l = lacks_same _ _ c.requires.fit _ cert _ w _ c.threshold_of-needed.ensures _ c.missing-missing.ensures in
    weighed_told _ _ cert c.requires.kind _ w _ (lacks_none _ _ cert _ l c.if-missing-ne0.false)
