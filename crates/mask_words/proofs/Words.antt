-- Masks read and written a word at a time. Assumes nothing.
use Rattle.std.specs.Prelude.{Result, Ok, Err}
use mathlib.Core.Path.{◌≡◌, refl, sym, ap, ap₂, ◌∙◌, subst}
use mathlib.Core.List.{List, [], ◌∷◌, ◌++◌, append_assoc, append-nil}
use Prim.Native.Nat.{ℕ, zero, suc, ◌+◌, ◌-◌, ◌*◌, ◌/◌, ◌%◌, ◌^◌, ◌<◌, ◌≤◌}
use native.Mathlib.Omega.{arith}
use native.Mathlib.Nat.{sub-zero}
use native.Mathlib.Numerals.{add-one}
use lib.ListN.{length, get_or, set, take, length-append, length-set}
use lib.Seq.{take-suc, take-length, take-suc-set}
use Rattle.rulebook.specs.Packets.{number_at, number_bytes, above_word, word_then, mask_at, mask_bytes, joined}
use Rattle.rule_laws.proofs.WordLaws.{Words}
use Rattle.mask_words.specs.Told.{laid_as}
use Rattle.numbers.specs.Written.{Room, Written}
use Rattle.numbers.proofs.Stores.{after, stores_lay}
use Rattle.rulebook.specs.declared.Unread.{Unread}

-- ---- reading

-- Words that were read, in front of what is still to be read.
unfoldable pub ahead : List ℕ → Result (ℕ × ℕ) Unread → Result (ℕ × ℕ) Unread
ahead [] r = r
ahead (x ∷ xs) r = above_word x (ahead xs r)

ahead_more : (xs : List ℕ) (v : ℕ) (r : Result (ℕ × ℕ) Unread) → ahead (xs ++ (v ∷ [])) r ≡ ahead xs (above_word v r)
unfolding ahead
ahead_more [] v r = refl
ahead_more (x ∷ xs) v r = ap (above_word x) (ahead_more xs v r)

ahead_all : (xs : List ℕ) (p : ℕ) → ahead xs (Ok (0, p)) ≡ Ok (joined xs, p)
unfolding ahead above_word joined
ahead_all [] p = refl
ahead_all (x ∷ xs) p = ap (above_word x) (ahead_all xs p)

ahead_fell : (xs : List ℕ) (e : Unread) → ahead xs (Err e) ≡ Err e
unfolding ahead above_word
ahead_fell [] e = refl
ahead_fell (x ∷ xs) e = ap (above_word x) (ahead_fell xs e)

-- The first i of w words are read, and the next number stands at p.
pub record Taken (w : ℕ) (bytes : List ℕ) (at : ℕ) (words : List ℕ) (i p : ℕ) : Type 0 where
  pub long : length words ≡ w
  pub upto : i ≤ w
  pub left : ahead (take i words) (mask_at (w - i) bytes p) ≡ mask_at w bytes at

pub taken_none : (bytes words : List ℕ) (at : ℕ) → Taken (length words) bytes at words 0 at
unfolding ahead
taken_none bytes words at = record { long = refl; upto = omega arith; left = ap (λ (k : ℕ). mask_at k bytes at) (sub-zero (length words)) }

module _ (w : ℕ) (bytes : List ℕ) (at : ℕ) (words : List ℕ) (i p : ℕ) (t : Taken w bytes at words i p) where
  step : i < w → ahead (take i words) (word_then (number_at bytes p) (mask_at (w - (i + 1)) bytes)) ≡ mask_at w bytes at
  unfolding mask_at
  step h =
      let e : w - i ≡ suc (w - (i + 1)) = omega arith in
      sym (ap (λ (k : ℕ). ahead (take i words) (mask_at k bytes p)) e) ∙ t.left

  pub taken_more : (v next : ℕ) → i < w → number_at bytes p ≡ Ok (v, next) → Taken w bytes at (set words i v) (i + 1) next
  unfolding word_then
  taken_more v next h e =
      let l : i < length words = omega (arith, t.long) in
      record {
        long = simp length-set t.long;
        upto = omega arith;
        left =
            ap (λ (xs : List ℕ). ahead xs (mask_at (w - (i + 1)) bytes next)) (ap (λ (k : ℕ). take k (set words i v)) (add-one i) ∙ take-suc-set words i v l)
            ∙ ahead_more (take i words) v (mask_at (w - (i + 1)) bytes next)
            ∙ ap (λ (r : Result (ℕ × ℕ) Unread). ahead (take i words) (word_then r (mask_at (w - (i + 1)) bytes))) (sym e)
            ∙ step h;
      }

  -- A word that could not be read decides the mask.
  pub taken_fell : (e : Unread) (m : ℕ) → i < w → number_at bytes p ≡ Err e → laid_as (Err e) m ≡ mask_at w bytes at
  unfolding word_then laid_as
  taken_fell e m h q =
      sym (ahead_fell (take i words) e)
      ∙ ap (λ (r : Result (ℕ × ℕ) Unread). ahead (take i words) (word_then r (mask_at (w - (i + 1)) bytes))) (sym q)
      ∙ step h

  pub taken_all : w ≤ i → laid_as (Ok p) (joined words) ≡ mask_at w bytes at
  unfolding laid_as mask_at
  taken_all h =
      let z : w - i ≡ 0 = omega arith in
      let e : i ≡ length words = omega (arith, t.upto, t.long) in
      sym (ahead_all words p)
      ∙ ap (λ (xs : List ℕ). ahead xs (Ok (0, p))) (sym (ap (λ (k : ℕ). take k words) e ∙ take-length words))
      ∙ ap (λ (k : ℕ). ahead (take i words) (mask_at k bytes p)) (sym z)
      ∙ t.left

-- ---- writing

-- The words one after the other.
unfoldable pub word_bytes : List ℕ → List ℕ
word_bytes [] = []
word_bytes (x ∷ xs) = number_bytes x ++ word_bytes xs

pub mask_spelled : (ws : List ℕ) → Words ws → mask_bytes (length ws) (joined ws) ≡ word_bytes ws
unfolding mask_bytes joined word_bytes
mask_spelled [] h = refl
mask_spelled (x ∷ xs) h =
    let low : (x + 2 ^ 64 * joined xs) % 2 ^ 64 ≡ x = omega (arith, h 0) in
    let high : (x + 2 ^ 64 * joined xs) / 2 ^ 64 ≡ joined xs = omega (arith, h 0) in
    ap₂ (λ (a b : ℕ). number_bytes a ++ mask_bytes (length xs) b) low high ∙ ap (λ (y : List ℕ). number_bytes x ++ y) (mask_spelled xs (λ k. h (suc k)))

words_append : (xs ys : List ℕ) → word_bytes (xs ++ ys) ≡ word_bytes xs ++ word_bytes ys
unfolding word_bytes
words_append [] ys = refl
words_append (x ∷ xs) ys = ap (λ (z : List ℕ). number_bytes x ++ z) (words_append xs ys) ∙ sym (append_assoc (number_bytes x) (word_bytes xs) (word_bytes ys))

words_take : (ws : List ℕ) (i : ℕ) → i < length ws → word_bytes (take (i + 1) ws) ≡ word_bytes (take i ws) ++ number_bytes (get_or ws i 0)
unfolding word_bytes
words_take ws i h =
    ap word_bytes (ap (λ (k : ℕ). take k ws) (add-one i) ∙ take-suc ws i 0 h) ∙ words_append (take i ws) (get_or ws i 0 ∷ [])
    ∙ ap (λ (z : List ℕ). word_bytes (take i ws) ++ z) (append-nil (number_bytes (get_or ws i 0)))

words_part : (ws : List ℕ) (i : ℕ) → length (word_bytes (take i ws)) ≤ length (word_bytes ws)
unfolding word_bytes
words_part [] zero = omega arith
words_part [] (suc i) = omega arith
words_part (x ∷ xs) zero = omega arith
words_part (x ∷ xs) (suc i) =
    omega (arith, length-append (number_bytes x) (word_bytes (take i xs)), length-append (number_bytes x) (word_bytes xs), words_part xs i)

-- The first i words stand in the buffer, up to p.
pub record Put (buffer : List ℕ) (at : ℕ) (ws now : List ℕ) (i p : ℕ) : Type 0 where
  pub upto : i ≤ length ws
  pub long : length now ≡ length buffer
  pub room : at + length (word_bytes ws) ≤ length buffer
  pub done : Written buffer at (word_bytes (take i ws)) now p

module _ (buffer : List ℕ) (at : ℕ) (ws : List ℕ) where
  pub put_none : at + length (word_bytes ws) ≤ length buffer → Put buffer at ws buffer 0 at
  unfolding word_bytes
  put_none h =
      record {
        upto = omega arith;
        long = refl;
        room = h;
        done = record { next_is = omega arith; after_is = stores_lay buffer at [] (omega arith) };
      }

  module _ (now : List ℕ) (i p : ℕ) (t : Put buffer at ws now i p) where
    -- There is room for the next word.
    pub put_room : i < length ws → Room now p (number_bytes (get_or ws i 0))
    put_room h =
        record {
          ends = omega (arith, t.done.next_is, t.long, t.room, words_part ws (i + 1), ap length (words_take ws i h), length-append (word_bytes (take i ws)) (number_bytes (get_or ws i 0)));
        }

    pub put_more : (later : List ℕ) (next : ℕ) → i < length ws → length later ≡ length now → Written now p (number_bytes (get_or ws i 0)) later next → Put buffer at ws later (i + 1) next
    put_more later next h e w =
        record {
          upto = omega arith;
          long = e ∙ t.long;
          room = t.room;
          done =
              subst (λ (z : List ℕ). Written buffer at z later next) (sym (words_take ws i h))
              (after (omega (arith, t.room, words_part ws (i + 1), ap length (words_take ws i h))) t.done w);
        }

    pub put_all : length ws ≤ i → Written buffer at (word_bytes ws) now p
    put_all h =
        let e : i ≡ length ws = omega (arith, t.upto) in
        subst (λ (z : List ℕ). Written buffer at (word_bytes z) now p) (ap (λ (k : ℕ). take k ws) e ∙ take-length ws) t.done
