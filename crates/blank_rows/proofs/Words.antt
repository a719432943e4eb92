-- Words that are all 0, sixteen in a turn. Assumes nothing.
use mathlib.Core.Path.{◌≡◌, refl, sym, ap, ap₂, ◌∙◌}
use mathlib.Core.Bool.{Bool, true, false, ◌&&◌}
use mathlib.Core.List.{List}
use Prim.Native.Nat.{ℕ, ◌+◌, ◌-◌, ◌*◌, ◌/◌, ◌≤◌, ◌<◌}
use native.Mathlib.Omega.{arith}
use lib.ListN.{length}
use lib.Dec.{eqb, ltb}
use lib.Bits.{bit_or, or_comm, or_add_and, and_le_r}
use borrow.Author.Tests.{eq-eqb, eqb-true, ltb-true, ltb-false}
use Rattle.rulebook.specs.Tools.{all_to}
use Rattle.rulebook.specs.Ledger.{none}
use Rattle.rule_laws.proofs.ToolLaws.{by_test, same_test, and_both, both_and, all_same, all_at, all_each}
use Rattle.record.specs.Layout.{word_at}
use Rattle.kept_certificates.specs.Kept.{all_none}
use Rattle.kept_certificates.proofs.ByPlace.{all_split, all_parts}
use Rattle.blank_rows.specs.Blank.{none_from, seconds_none}

-- ---- words or-ed together

or_zero : (a b : ℕ) → bit_or a b ≡ 0 → a ≡ 0
or_zero a b e = omega (arith, or_add_and a b, and_le_r a b)

pub or_none : (a b : ℕ) → none (bit_or a b) ≡ (none a && none b)
or_none a b =
    same_test (none (bit_or a b)) (none a && none b)
    (λ t.
    let e = eqb-true (bit_or a b) 0 t in
    both_and (none a) (none b) (eq-eqb a 0 (or_zero a b e)) (eq-eqb b 0 (or_zero b a (or_comm b a ∙ e))))
    (λ t. let h = and_both (none a) (none b) t in eq-eqb (bit_or a b) 0 (ap₂ bit_or (eqb-true a 0 h.0) (eqb-true b 0 h.1)))

four_none : (a b c d : ℕ) → none (bit_or (bit_or a b) (bit_or c d)) ≡ ((none a && none b) && (none c && none d))
four_none a b c d = or_none (bit_or a b) (bit_or c d) ∙ ap₂ (λ (x y : Bool). x && y) (or_none a b) (or_none c d)

exchange : (a b c d : Bool) → ((a && b) && (c && d)) ≡ ((a && c) && (b && d))
exchange false b c d = refl
exchange true true c d = refl
exchange true false true d = refl
exchange true false false d = refl

and_true : (t : Bool) → t ≡ (t && true)
and_true true = refl
and_true false = refl

and_more : (x y z : Bool) → ((x && y) && z) ≡ (x && (y && z))
and_more true y z = refl
and_more false y z = refl

-- Eight tests, four by four.
all_four : (f : ℕ → Bool) → all_to 4 f ≡ ((f 0 && f 1) && (f 2 && f 3))
unfolding all_to
all_four f = and_more (f 0 && f 1) (f 2) (f 3)

all_eight : (f : ℕ → Bool) → all_to 8 f ≡ (((f 0 && f 1) && (f 2 && f 3)) && ((f 4 && f 5) && (f 6 && f 7)))
all_eight f = all_split 4 4 f ∙ ap₂ (λ (x y : Bool). x && y) (all_four f) (all_four (λ j. f (4 + j)))

-- ---- runs of words

module _ (ws : List ℕ) where
  abbrev word : ℕ → Bool
  word i = none (word_at ws i)

  pub from_split : (a m n : ℕ) → none_from ws a (m + n) ≡ (none_from ws a m && none_from ws (a + m) n)
  unfolding none_from
  from_split a m n =
      all_split m n (λ j. word (a + j))
      ∙ ap (λ (t : Bool). all_to m (λ j. word (a + j)) && t)
      (all_same n (λ j. word (a + (m + j))) (λ j. word (a + m + j)) (λ j h. let e : a + (m + j) ≡ a + m + j = omega arith in ap word e))

  -- n parts of k words.
  pub from_parts : (a n k : ℕ) → none_from ws a (n * k) ≡ all_to n (λ i. none_from ws (a + k * i) k)
  unfolding none_from
  from_parts a n k =
      all_parts n k (λ j. word (a + j))
      ∙ all_same n (λ i. all_to k (λ j. word (a + (k * i + j)))) (λ i. all_to k (λ j. word (a + k * i + j)))
      (λ i h. all_same k (λ j. word (a + (k * i + j))) (λ j. word (a + k * i + j)) (λ j l. let e : a + (k * i + j) ≡ a + k * i + j = omega arith in ap word e))

  pub one_none : (a : ℕ) → none_from ws a 1 ≡ word a
  unfolding none_from all_to
  one_none a = let e : a + 0 ≡ a = omega arith in ap word e

  pub two_none : (a : ℕ) → none_from ws a 2 ≡ (word a && word (a + 1))
  unfolding none_from all_to
  two_none a = let e : a + 0 ≡ a = omega arith in ap (λ (i : ℕ). word i && word (a + 1)) e

  pub three_none : (a : ℕ) → none_from ws a 3 ≡ (word a && (word (a + 1) && word (a + 2)))
  three_none a = from_split a 1 2 ∙ ap₂ (λ (x y : Bool). x && y) (one_none a) (two_none (a + 1) ∙ ap (λ (i : ℕ). word (a + 1) && word i) (omega arith))

  -- Eight words or-ed together, every second one.
  pub seconds_none_lem : (a : ℕ)
      → none (bit_or (bit_or (bit_or (word_at ws a) (word_at ws (a + 2))) (bit_or (word_at ws (a + 4)) (word_at ws (a + 6)))) (bit_or (bit_or (word_at ws (a + 8)) (word_at ws (a + 10))) (bit_or (word_at ws (a + 12)) (word_at ws (a + 14)))))
      ≡ seconds_none ws a
  unfolding seconds_none
  seconds_none_lem a =
      let e : a ≡ a + 2 * 0 = omega arith in
      or_none (bit_or (bit_or (word_at ws a) (word_at ws (a + 2))) (bit_or (word_at ws (a + 4)) (word_at ws (a + 6)))) (bit_or (bit_or (word_at ws (a + 8)) (word_at ws (a + 10))) (bit_or (word_at ws (a + 12)) (word_at ws (a + 14))))
      ∙ ap₂ (λ (x y : Bool). x && y) (four_none (word_at ws a) (word_at ws (a + 2)) (word_at ws (a + 4)) (word_at ws (a + 6))) (four_none (word_at ws (a + 8)) (word_at ws (a + 10)) (word_at ws (a + 12)) (word_at ws (a + 14)))
      ∙ ap (λ (i : ℕ). ((word i && word (a + 2)) && (word (a + 4) && word (a + 6))) && ((word (a + 8) && word (a + 10)) && (word (a + 12) && word (a + 14)))) e
      ∙ sym (all_eight (λ j. word (a + 2 * j)))

  -- Those from a place on and from the next one on are sixteen in a row.
  pub both_seconds : (a : ℕ) → (seconds_none ws a && seconds_none ws (a + 1)) ≡ none_from ws a 16
  unfolding seconds_none none_from
  both_seconds a =
      let even : ℕ → Bool = λ j. word (a + 2 * j) in
      let odd : ℕ → Bool = λ j. word (a + 1 + 2 * j) in
      let all : ℕ → Bool = λ j. word (a + j) in
      same_test (all_to 8 even && all_to 8 odd) (all_to 16 all)
      (λ t.
      let p = and_both (all_to 8 even) (all_to 8 odd) t in
      all_each 16 all
      (λ j b. by_test (ltb (2 * (j / 2)) j)
      (λ q.
      let c : 2 * (j / 2) < j = ltb-true (2 * (j / 2)) j q in
      let e : a + j ≡ a + 1 + 2 * (j / 2) = omega arith in
      ap word e ∙ all_at 8 (j / 2) odd p.1 (omega arith))
      (λ q.
      let c : j ≤ 2 * (j / 2) = ltb-false (2 * (j / 2)) j q in
      let e : a + j ≡ a + 2 * (j / 2) = omega arith in
      ap word e ∙ all_at 8 (j / 2) even p.0 (omega arith))))
      (λ t.
      both_and (all_to 8 even) (all_to 8 odd)
      (all_each 8 even (λ j b. all_at 16 (2 * j) all t (omega arith)))
      (all_each 8 odd (λ j b. let e : a + 1 + 2 * j ≡ a + (1 + 2 * j) = omega arith in ap word e ∙ all_at 16 (1 + 2 * j) all t (omega arith))))

  -- The last sixteen words and those of the first k turns.
  abbrev pub seen_to : ℕ → Bool
  seen_to k = none_from ws (length ws - 16) 16 && none_from ws 0 (16 * k)

  pub no_turn : (even odd last : ℕ) → last ≡ length ws - 16 → none even ≡ seconds_none ws last → none odd ≡ seconds_none ws (last + 1)
      → (none even && none odd) ≡ seen_to 0
  unfolding none_from all_to
  no_turn even odd last e f g =
      ap₂ (λ (x y : Bool). x && y) f g ∙ both_seconds last ∙ ap (λ (a : ℕ). none_from ws a 16) e ∙ and_true (none_from ws (length ws - 16) 16)

  pub one_turn : (k even odd e o : ℕ) → (none even && none odd) ≡ seen_to k → none e ≡ seconds_none ws (16 * k) → none o ≡ seconds_none ws (16 * k + 1)
      → (none (bit_or even e) && none (bit_or odd o)) ≡ seen_to (k + 1)
  one_turn k even odd e o seen f g =
      let more : 16 * k + 16 ≡ 16 * (k + 1) = omega arith in
      let start : 16 * k ≡ 0 + 16 * k = omega arith in
      let last : Bool = none_from ws (length ws - 16) 16 in
      ap₂ (λ (x y : Bool). x && y) (or_none even e) (or_none odd o)
      ∙ exchange (none even) (none e) (none odd) (none o)
      ∙ ap₂ (λ (x y : Bool). x && y) seen (ap₂ (λ (x y : Bool). x && y) f g ∙ both_seconds (16 * k) ∙ ap (λ (a : ℕ). none_from ws a 16) start)
      ∙ and_more last (none_from ws 0 (16 * k)) (none_from ws (0 + 16 * k) 16)
      ∙ ap (λ (t : Bool). last && t) (sym (from_split 0 (16 * k) 16) ∙ ap (none_from ws 0) more)

  -- After so many turns all words have been looked at.
  pub turns_done : (even odd k : ℕ) → 16 ≤ length ws → (none even && none odd) ≡ seen_to k → k ≡ (length ws - 1) / 16 → eqb (bit_or even odd) 0 ≡ all_none ws
  unfolding none_from all_none
  turns_done even odd k h seen done =
      let turns : ℕ = 16 * k in
      let behind : ℕ = length ws - 16 in
      or_none even odd
      ∙ seen
      ∙ same_test (all_to 16 (λ j. word (behind + j)) && all_to turns (λ j. word (0 + j))) (all_to (length ws) word)
      (λ t.
      let p = and_both (all_to 16 (λ j. word (behind + j))) (all_to turns (λ j. word (0 + j))) t in
      all_each (length ws) word
      (λ i b. by_test (ltb i turns)
      (λ q. let e : i ≡ 0 + i = omega arith in ap word e ∙ all_at turns i (λ j. word (0 + j)) p.1 (ltb-true i turns q))
      (λ q.
      let c : turns ≤ i = ltb-false i turns q in
      let e : i ≡ behind + (i - behind) = omega arith in
      ap word e ∙ all_at 16 (i - behind) (λ j. word (behind + j)) p.0 (omega arith))))
      (λ t.
      both_and (all_to 16 (λ j. word (behind + j))) (all_to turns (λ j. word (0 + j)))
      (all_each 16 (λ j. word (behind + j)) (λ j b. all_at (length ws) (behind + j) word t (omega arith)))
      (all_each turns (λ j. word (0 + j)) (λ j b. all_at (length ws) (0 + j) word t (omega arith))))
