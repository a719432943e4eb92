-- What was weighed is what the signers weigh.
use mathlib.Core.Path.{sym, subst}
use Prim.Native.Nat.{ℕ, ◌≤◌}
use Rattle.rulebook.specs.Packets.{certificate_of}
use Rattle.stakes.proofs.Laws.{weighable}
use Rattle.certificates.proofs.Judged.{fifths_le, lacks_same, fine_weight}
use Rattle.certificates.proofs.weighs_enough.Goals as goal

pub missing-lacking-requires : goal.missing-lacking-requires
missing-lacking-requires c =
    weighable _ _ c.requires.fit _ (subst (λ (x : ℕ). x ≤ 5) (sym c.threshold_of-due.ensures) (fifths_le _))

pub returns : goal.returns
returns c h =
    let cert = certificate_of h c.args.a.now c.args.b.now in
    fine_weight _ _ cert _ (lacks_same _ _ c.requires.fit _ cert _ c.weigh_of-signed.ensures _ c.threshold_of-due.ensures _ c.missing-lacking.ensures)
