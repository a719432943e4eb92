-- The reading loop: what is left to read, above the bits read so far, is the whole number.
use Rattle.std.specs.Prelude.{Ok}
use mathlib.Core.Path.{refl, sym, ap, ◌∙◌, subst}
use Prim.Native.Nat.{ℕ, ◌+◌, ◌*◌, ◌%◌, ◌^◌, ◌≤◌, ◌<◌}
use native.Mathlib.Omega.{arith}
use native.Mathlib.Nat.{mod-lt}
use lib.ListN.{drop}
use lib.Bits.{and_mask, bit_or}
use lib.Dec.{lit<, lit≤}
use Rattle.rulebook.specs.Packets.{number_from}
use Rattle.numbers.proofs.Turns.{onto, at_start, read_end, read_more, read_long, read_misfit, read_last, or_group, group_fits, group_lt, last_group_fits}
use Rattle.numbers.proofs.read_number.Goals as goal

pub loop-i-init : goal.loop-i-init
loop-i-init c = (refl, lit≤ tt, refl, lit< tt, at_start _ _)

pub overflow_shl-result : goal.overflow_shl-result
overflow_shl-result c = omega arith

pub overflow_add-result : goal.overflow_add-result
overflow_add-result c = omega arith

pub returns-then-last_fits : goal.returns-then-last_fits
returns-then-last_fits c =
    let l = c.loop-i in
    let hb = c.if-b-lt128.true in
    let ok = sym c.last_fits.ensures ∙ c.if-last_fits.true in
    ap (λ (x : ℕ). Ok (x, l.i + 1)) (or_group l.v c.from-b.result l.k l.invariant.3 (last_group_fits c.from-b.result l.k l.invariant.1 l.invariant.2 hb ok))
    ∙ sym (l.invariant.4 ∙ read_last _ l.i l.k l.v _ c.from-b.ensures (omega arith) hb ok)

pub returns-then-b-lt128 : goal.returns-then-b-lt128
returns-then-b-lt128 c =
    let l = c.loop-i in
    sym (l.invariant.4 ∙ read_misfit _ l.i l.k l.v _ c.from-b.ensures (omega arith) c.if-b-lt128.true (sym c.last_fits.ensures ∙ c.if-last_fits.false))

pub returns-then-k-ge63 : goal.returns-then-k-ge63
returns-then-k-ge63 c =
    let l = c.loop-i in
    sym (l.invariant.4 ∙ read_long _ l.i l.k l.v _ c.from-b.ensures (omega arith) c.if-b-lt128.false c.if-k-ge63.true)

pub overflow_shl-v : goal.overflow_shl-v
overflow_shl-v c = omega arith

pub overflow_add-k : goal.overflow_add-k
overflow_add-k c = omega arith

pub loop-i-preserved : goal.loop-i-preserved
loop-i-preserved c =
    let l = c.loop-i in
    let b = c.from-b.result in
    let k57 : l.k ≤ 57 = omega arith in
    let lo : b % 128 < 128 = mod-lt b (lit< tt) in
    let e = ap (λ (x : ℕ). bit_or l.v ((x * 2 ^ l.k) % 2 ^ 64)) (and_mask b 7) ∙ or_group l.v (b % 128) l.k l.invariant.3 (group_fits (b % 128) l.k lo k57) in (
      l.invariant.0,
      omega arith,
      omega arith,
      subst (λ (x : ℕ). x < 2 ^ (l.k + 7)) (sym e) (group_lt l.v (b % 128) l.k l.invariant.3 lo),
      l.invariant.4 ∙ read_more _ l.i l.k l.v _ c.from-b.ensures (omega arith) c.if-b-lt128.false c.if-k-ge63.false
          ∙ ap (λ (x : ℕ). onto x (l.k + 7) (l.i + 1) (number_from (l.k + 7) (drop (l.i + 1) c.args.bytes.now))) (sym e),
    )

pub returns : goal.returns
returns c = let l = c.loop-i in sym (l.invariant.4 ∙ read_end _ l.i l.k l.v (omega arith))
