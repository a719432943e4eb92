-- One turn of the loop over the numbers of a line. Assumes nothing.
use Rattle.std.specs.Prelude.{Option, Some, None, Result}
use mathlib.Core.Path.{◌≡◌, refl, sym, ap, ◌∙◌}
use mathlib.Core.List.{List}
use Prim.Native.Nat.{ℕ, zero, suc, ◌+◌, ◌-◌, ◌<◌, ◌≤◌}
use native.Mathlib.Omega.{arith}
use lib.ListN.{length, set, take, drop}
use lib.Dec.{ltb}
use borrow.Author.Tests.{lt-ltb, le-ltb}
use Rattle.rule_laws.proofs.ToolLaws.{given_on, given_off}
use Rattle.script.specs.declared.NoNumber.{NoNumber}
use Rattle.script.specs.declared.Word.{Word}
use Rattle.script.specs.Words.{WordIn}
use Rattle.script.specs.Digits.{decimal_of}
use Rattle.script.specs.Numbers.{word_from, word_to, Read, read, stopped, onward, numbers_from, numbers_of, NumbersIn}

-- The next word stands where it is said to.
pub word_from_lem : (line : List ℕ) (at : ℕ) (w : Word) → WordIn line at w → w.from ≡ word_from line at
unfolding word_from
word_from_lem line at w h = h.from.exact

pub word_to_lem : (line : List ℕ) (at : ℕ) (w : Word) → WordIn line at w → w.to ≡ word_to line at
unfolding word_to
word_to_lem line at w h = rw (← word_from_lem line at w h) h.to.exact

module _ (line : List ℕ) (n at count : ℕ) (out : List ℕ) where
  -- The line is at its end.
  pub numbers_end : length line ≤ at → numbers_from n line at count out ≡ read count out
  unfolding numbers_from
  numbers_end h = go n
    where
      go : (m : ℕ) → numbers_from m line at count out ≡ read count out
      go zero = refl
      go (suc m) = given_off (ltb at (length line)) (read count out) _ (le-ltb at (length line) h)

  module _ (w : Word) (h : WordIn line at w) (l : at < length line) where
    abbrev stops : Read
    stops = read count out

    abbrev goes : Read
    goes =
        onward (decimal_of (take (w.to - w.from) (drop w.from line))) (stopped count out) (λ v. numbers_from n line w.to (count + 1) (set out count v))

    -- Only spaces are left.
    pub numbers_none : w.to ≤ w.from → numbers_from (suc n) line at count out ≡ stops
    unfolding numbers_from
    numbers_none k =
        given_on (ltb at (length line)) stops _ (lt-ltb at (length line) l)
        ∙ given_off (ltb (word_from line at) (word_to line at)) stops _ (le-ltb (word_from line at) (word_to line at) (rw (word_from_lem line at w h, word_to_lem line at w h) at k))

    -- A further word.
    pub numbers_word : w.from < w.to → numbers_from (suc n) line at count out ≡ goes
    unfolding numbers_from
    numbers_word k =
        given_on (ltb at (length line)) stops _ (lt-ltb at (length line) l)
        ∙ given_on (ltb (word_from line at) (word_to line at)) stops _ (lt-ltb (word_from line at) (word_to line at) (rw (word_from_lem line at w h, word_to_lem line at w h) at k))
        ∙ (rw (word_from_lem line at w h, word_to_lem line at w h))

    pub numbers_bad : w.from < w.to → None ≡ decimal_of (take (w.to - w.from) (drop w.from line)) → numbers_from (suc n) line at count out ≡ stopped count out
    unfolding onward
    numbers_bad k e = numbers_word k ∙ ap (λ (d : Option ℕ). onward d (stopped count out) (λ v. numbers_from n line w.to (count + 1) (set out count v))) (sym e)

    pub numbers_more : (v : ℕ) → w.from < w.to → Some v ≡ decimal_of (take (w.to - w.from) (drop w.from line))
        → numbers_from (suc n) line at count out ≡ numbers_from n line w.to (count + 1) (set out count v)
    unfolding onward
    numbers_more v k e = numbers_word k ∙ ap (λ (d : Option ℕ). onward d (stopped count out) (λ v. numbers_from n line w.to (count + 1) (set out count v))) (sym e)

-- ---- the loop: after `count` numbers so many words may follow

abbrev pub ahead : List ℕ → ℕ → ℕ
ahead line count = suc (length line) - count

module _ (line : List ℕ) (at count : ℕ) (out : List ℕ) (w : Word) (h : WordIn line at w) (l : at < length line) (few : count ≤ length line) where
  one_more : ahead line count ≡ suc (length line - count)
  one_more = omega arith

  one_less : length line - count ≡ ahead line (count + 1)
  one_less = omega arith

  pub turn_none : w.to ≤ w.from → numbers_from (ahead line count) line at count out ≡ read count out
  turn_none k = ap (λ (f : ℕ). numbers_from f line at count out) one_more ∙ numbers_none line (length line - count) at count out w h l k

  pub turn_bad : w.from < w.to → None ≡ decimal_of (take (w.to - w.from) (drop w.from line))
      → numbers_from (ahead line count) line at count out ≡ stopped count out
  turn_bad k e = ap (λ (f : ℕ). numbers_from f line at count out) one_more ∙ numbers_bad line (length line - count) at count out w h l k e

  pub turn_more : (v : ℕ) (left : List ℕ) → w.from < w.to → Some v ≡ decimal_of (take (w.to - w.from) (drop w.from line)) → left ≡ set out count v
      → numbers_from (ahead line count) line at count out ≡ numbers_from (ahead line (count + 1)) line w.to (count + 1) left
  turn_more v left k e q =
      ap (λ (f : ℕ). numbers_from f line at count out) one_more
      ∙ numbers_more line (length line - count) at count out w h l v k e
      ∙ ap (λ (f : ℕ). numbers_from f line w.to (count + 1) (set out count v)) one_less
      ∙ ap (λ (x : List ℕ). numbers_from (ahead line (count + 1)) line w.to (count + 1) x) (sym q)

-- What is read, once it is known how the reading ends.
pub read_in : (line : List ℕ) (at : ℕ) (out : List ℕ) (a : Result ℕ NoNumber) (left : List ℕ) → numbers_of line at out ≡ record { answer = a; out = left } → length left ≡ length out
    → NumbersIn line at out a left
read_in line at out a left e h = record { answer = ap (λ (r : Read). r.answer) (sym e); buffer = ap (λ (r : Read). r.out) (sym e); long = h }

pub read_start : (line : List ℕ) (at : ℕ) (out : List ℕ) → numbers_of line at out ≡ numbers_from (ahead line 0) line at 0 out
unfolding numbers_of
read_start line at out = ap (λ (f : ℕ). numbers_from f line at 0 out) (omega arith)
