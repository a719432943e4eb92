-- The words one after the other are one run of bytes.
use lib.ListN.{length}
use mathlib.Core.List.{List}
use mathlib.Core.Path.{ap, sym, subst}
use Prim.Native.Nat.{ℕ}
use native.Mathlib.Omega.{arith}
use Rattle.rule_laws.proofs.WordLaws.{Words}
use Rattle.numbers.specs.Written.{Written}
use Rattle.mask_words.proofs.Words.{put_none, put_room, put_more, put_all, mask_spelled}
use Rattle.mask_words.proofs.write_mask.Goals as goal

pub loop-word-init : goal.loop-word-init
loop-word-init c =
    let s = c.args in
    let h : Words s.mask.now = (λ n. (c.type_inv.mask n).fits) in
    (h, put_none s.bytes.now s.at s.mask.now (omega (arith, c.requires.ends, ap length (mask_spelled s.mask.now h))))

pub write_number-p-requires : goal.write_number-p-requires
write_number-p-requires c =
    let l = c.loop-word in
    let s = c.args in
    put_room s.bytes.now s.at s.mask.now l.bytes l.word-index l.p l.invariant.1 (omega arith)

pub loop-word-preserved : goal.loop-word-preserved
loop-word-preserved c =
    let l = c.loop-word in
    let s = c.args in
    (l.invariant.0, put_more s.bytes.now s.at s.mask.now l.bytes l.word-index l.p l.invariant.1 _ _ (omega arith) c.write_number-p.auto.bytes c.write_number-p.ensures)

pub returns : goal.returns
returns c =
    let l = c.loop-word in
    let s = c.args in
    subst (λ (z : List ℕ). Written s.bytes.now s.at z l.bytes l.p) (sym (mask_spelled s.mask.now l.invariant.0))
    (put_all s.bytes.now s.at s.mask.now l.bytes l.word-index l.p l.invariant.1 (omega arith))
