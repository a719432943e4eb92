-- The writing loop: the stores that are left, onto the bytes so far, are the stores of the whole number.
use mathlib.Core.Path.{◌≡◌, refl, sym, ap, ◌∙◌}
use mathlib.Core.List.{List}
use Prim.Native.Nat.{ℕ, suc, ◌+◌, ◌%◌, ◌/◌}
use native.Mathlib.Omega.{arith}
use native.Mathlib.Numerals.{add-one}
use lib.ListN.{length, set, length-set}
use lib.Seq.{sets}
use Rattle.rulebook.specs.Packets.{groups_of, number_bytes}
use Rattle.rule_laws.proofs.NumberLaws.{groups_last}
use Rattle.numbers.proofs.Turns.{write_more}
use Rattle.numbers.proofs.Stores.{stores_lay}
use Rattle.numbers.proofs.write_number.Goals as goal

pub loop-rest-init : goal.loop-rest-init
unfolding number_bytes
loop-rest-init c = (refl, (9, c.ranges.v.fits, refl, refl))

pub overflow_add-bytes : goal.overflow_add-bytes
overflow_add-bytes c = omega arith

pub overflow_cast-bytes : goal.overflow_cast-bytes
overflow_cast-bytes c = omega arith

pub bounds-bytes-i : goal.bounds-bytes-i
bounds-bytes-i c =
    let l = c.loop-rest in
    let i = l.invariant.1 in
    let g = write_more i.0 l.rest c.loop-rest-test.true i.1 in
    let e : l.i + length (groups_of i.0 l.rest) ≡ l.i + suc (length (groups_of g.0 (l.rest / 128))) = ap (λ (x : List ℕ). l.i + length x) g.1 in
    omega arith

pub overflow_add-i : goal.overflow_add-i
overflow_add-i c =
    let l = c.loop-rest in
    let i = l.invariant.1 in
    let g = write_more i.0 l.rest c.loop-rest-test.true i.1 in
    let e : l.i + length (groups_of i.0 l.rest) ≡ l.i + suc (length (groups_of g.0 (l.rest / 128))) = ap (λ (x : List ℕ). l.i + length x) g.1 in
    omega arith

pub loop-rest-smaller : goal.loop-rest-smaller
loop-rest-smaller c = omega arith

pub loop-rest-preserved : goal.loop-rest-preserved
loop-rest-preserved c =
    let l = c.loop-rest in
    let i = l.invariant.1 in
    let g = write_more i.0 l.rest c.loop-rest-test.true i.1 in
    let e : l.i + length (groups_of i.0 l.rest) ≡ l.i + suc (length (groups_of g.0 (l.rest / 128))) = ap (λ (x : List ℕ). l.i + length x) g.1 in (
      length-set l.bytes l.i _ ∙ l.invariant.0,
      (
        g.0,
        g.2,
        omega arith,
        i.3 ∙ ap (sets l.bytes l.i) g.1 ∙ ap (λ (x : ℕ). sets (set l.bytes l.i (l.rest % 128 + 128)) x (groups_of g.0 (l.rest / 128))) (sym (add-one l.i)),
      ),
    )

pub overflow_cast-bytes-2 : goal.overflow_cast-bytes-2
overflow_cast-bytes-2 c = omega arith

pub bounds-bytes-i-2 : goal.bounds-bytes-i-2
bounds-bytes-i-2 c =
    let l = c.loop-rest in
    let i = l.invariant.1 in
    let g = groups_last i.0 l.rest (omega arith) in
    let e : l.i + length (groups_of i.0 l.rest) ≡ l.i + 1 = ap (λ (x : List ℕ). l.i + length x) g in
    omega arith

pub overflow_add-result : goal.overflow_add-result
overflow_add-result c =
    let l = c.loop-rest in
    let i = l.invariant.1 in
    let g = groups_last i.0 l.rest (omega arith) in
    let e : l.i + length (groups_of i.0 l.rest) ≡ l.i + 1 = ap (λ (x : List ℕ). l.i + length x) g in
    omega arith

pub returns : goal.returns
returns c =
    let l = c.loop-rest in
    let i = l.invariant.1 in
    let g = groups_last i.0 l.rest (omega arith) in
    let e : l.i + length (groups_of i.0 l.rest) ≡ l.i + 1 = ap (λ (x : List ℕ). l.i + length x) g in
    record {
      next_is = omega arith;
      after_is = sym (i.3 ∙ ap (sets l.bytes l.i) g) ∙ stores_lay _ _ _ c.requires.ends;
    }
