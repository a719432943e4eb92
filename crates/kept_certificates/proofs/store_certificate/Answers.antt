-- The block, then mask A, then mask B, and nothing else changes.
use mathlib.Core.Path.{◌∙◌, ap}
use mathlib.Core.List.{List}
use Prim.Native.Nat.{ℕ, ◌+◌}
use native.Mathlib.Omega.{arith}
use lib.ListN.{length, length-set}
use lib.Seq.{sets}
use Rattle.record.specs.Layout.{ledger_of}
use Rattle.kept_certificates.proofs.Laws.{storing_room, certificate_in_lem}
use Rattle.kept_certificates.proofs.store_certificate.Goals as goal

pub put_words-requires : goal.put_words-requires
put_words-requires c =
    record { inside = simp length-set (omega (arith, storing_room c.before.args.rec.now c.before.args.a.now c.before.args.b.now c.before.args.s.0 c.before.args.n c.kept_start-i.result c.before.requires c.kept_start-i.ensures)) }

pub put_words-requires-2 : goal.put_words-requires-2
put_words-requires-2 c =
    record { inside = omega (arith, storing_room c.before.args.rec.now c.before.args.a.now c.before.args.b.now c.before.args.s.0 c.before.args.n c.kept_start-i.result c.before.requires c.kept_start-i.ensures, c.put_words.auto.rec ∙ length-set c.before.args.rec.now c.kept_start-i.result c.before.args.block) }

pub returns : goal.returns
returns c =
    let a = c.before in
    let k = c.kept_start-i in
    ap (λ (xs : List ℕ). ledger_of xs)
    (c.put_words-2.ensures
    ∙ ap (λ (xs : List ℕ). sets xs (k.result + 1 + length a.args.a.now) a.args.b.now) c.put_words.ensures)
    ∙ certificate_in_lem a.args.rec.now a.args.a.now a.args.b.now a.args.s.0 a.args.n k.result a.args.block a.requires k.ensures
