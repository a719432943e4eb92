-- Pairs of hex digits: the loops over them, and the ways to read a word as a packet. Assumes nothing.
use Rattle.std.specs.Prelude.{Option, Some, None, IfSome}
use borrow.Author.Rules.{rules}
use mathlib.Core.Path.{◌≡◌, refl, sym, ap, ◌∙◌}
use mathlib.Core.Bool.{Bool, true, false, ◌&&◌}
use mathlib.Core.List.{List, []}
use Prim.Native.Nat.{ℕ, zero, suc, ◌+◌, ◌-◌, ◌*◌, ◌/◌, ◌%◌, ◌<◌, ◌≤◌}
use native.Mathlib.Numerals.{add-one}
use native.Mathlib.Omega.{arith}
use lib.ListN.{length, get_or, set, take, drop, length-set}
use lib.Dec.{eqb, leb, ltb}
use borrow.Author.Tests.{eq-eqb, ne_eqb, le-leb, lt-leb, leb-true, eqb-true, lt-ltb, le-ltb, ltb-true, ltb-false}
use Rattle.rulebook.specs.Tools.{all_to}
use Rattle.rule_laws.proofs.ToolLaws.{by_test, true_not_false, both_and, choose_on, choose_off, and_both, all_more, all_at}
use Rattle.std.specs.Option.{is_some}
use Rattle.std.specs.Simd.{first_chunks}
use Rattle.std.proofs.lemmas.List.{get_or-take, get_or-drop, drop-drop}
use Rattle.script.specs.Digits.{is_digit}
use Rattle.hex_bytes.specs.Bytes.{hex_digit, hex_pair, is_dash, pairs_good, spells_bytes, below, put_pairs, Pairs, hex_of, hex_into, HexIn}

-- ---- digits

pub below_in : (n v : ℕ) → v < n → below n v ≡ Some v
unfolding below
below_in n v h = choose_on _ _ _ (lt-ltb v n h)

pub below_out : (n v : ℕ) → n ≤ v → below n v ≡ None
unfolding below
below_out n v h = choose_off _ _ _ (le-ltb v n h)

-- What stands below the bound, and that nothing does.
pub below_some : (n v w : ℕ) → Some w ≡ below n v → (w ≡ v) × (w < n)
below_some n v w e =
    by_test (ltb v n)
    (λ t. let h = ltb-true v n t in let f = cc_some w v (e ∙ below_in n v h) in (f, omega arith))
    (λ t. absurd (some_none w (e ∙ below_out n v (ltb-false v n t))))
  where
    cc_some : (a b : ℕ) → Some a ≡ Some b → a ≡ b
    cc_some a b h = cc

    some_none : (a : ℕ) → Some a ≡ None → ⊥
    some_none a h = cc

pub below_none : (n v : ℕ) → None ≡ below n v → n ≤ v
below_none n v e = by_test (ltb v n) (λ t. absurd (none_some v (e ∙ below_in n v (ltb-true v n t)))) (λ t. ltb-false v n t)
  where
    none_some : (a : ℕ) → None ≡ Some a → ⊥
    none_some a h = cc

pub below_tells : (n v : ℕ) → is_some (below n v) ≡ true → v < n
below_tells n v e =
    by_test (ltb v n) (λ t. ltb-true v n t) (λ t. absurd (true_not_false (is_some (below n v)) e (ap (λ (o : Option ℕ). is_some o) (below_out n v (ltb-false v n t)))))

pub below_lacks : (n v : ℕ) → is_some (below n v) ≡ false → n ≤ v
below_lacks n v e =
    by_test (ltb v n) (λ t. absurd (true_not_false (is_some (below n v)) (ap (λ (o : Option ℕ). is_some o) (below_in n v (ltb-true v n t))) e)) (λ t. ltb-false v n t)

in_range : (low high b : ℕ) → low ≤ b → b ≤ high → (leb low b && leb b high) ≡ true
in_range low high b h k = both_and _ _ (le-leb low b h) (le-leb b high k)

out_of_range : (low high b : ℕ) → ((low ≤ b) × (b ≤ high) → ⊥) → (leb low b && leb b high) ≡ false
out_of_range low high b n = by_test (leb low b && leb b high) (λ t. let h = and_both (leb low b) (leb b high) t in absurd (n (leb-true low b h.0, leb-true b high h.1))) (λ t. t)

module _ (b : ℕ) where
  pub low_digit : 48 ≤ b → b ≤ 57 → Some (b - 48) ≡ below 16 (hex_digit b)
  unfolding hex_digit is_digit
  low_digit h k = sym (ap (below 16) (choose_on _ _ _ (in_range 48 57 b h k)) ∙ below_in 16 (b - 48) (omega arith))

  pub upper_digit : 65 ≤ b → b ≤ 70 → Some (b - 65 + 10) ≡ below 16 (hex_digit b)
  unfolding hex_digit is_digit
  upper_digit h k =
      let e : b - 65 + 10 ≡ b - 55 = omega arith in
      rw e (sym (ap (below 16) (choose_off _ _ _ (out_of_range 48 57 b (λ n. omega arith)) ∙ choose_on _ _ _ (in_range 65 70 b h k)) ∙ below_in 16 (b - 55) (omega arith)))

  pub lower_digit : 97 ≤ b → b ≤ 102 → Some (b - 97 + 10) ≡ below 16 (hex_digit b)
  unfolding hex_digit is_digit
  lower_digit h k =
      let e : b - 97 + 10 ≡ b - 87 = omega arith in
      rw e (sym (ap (below 16) (choose_off _ _ _ (out_of_range 48 57 b (λ n. omega arith)) ∙ choose_off _ _ _ (out_of_range 65 70 b (λ n. omega arith)) ∙ choose_on _ _ _ (in_range 97 102 b h k)) ∙ below_in 16 (b - 87) (omega arith)))

  pub no_digit : ((48 ≤ b) × (b ≤ 57) → ⊥) → ((65 ≤ b) × (b ≤ 70) → ⊥) → ((97 ≤ b) × (b ≤ 102) → ⊥) → None ≡ below 16 (hex_digit b)
  unfolding hex_digit is_digit
  no_digit l m n =
      sym (ap (below 16) (choose_off _ _ _ (out_of_range 48 57 b l) ∙ choose_off _ _ _ (out_of_range 65 70 b m) ∙ choose_off _ _ _ (out_of_range 97 102 b n)) ∙ below_out 16 16 (omega arith))

-- ---- a pair

-- The byte of a pair, of the values of its digits.
abbrev digit : List ℕ → ℕ → ℕ
digit w i = hex_digit (get_or w i 0)

module _ (w : List ℕ) where
  pub high_none : None ≡ below 16 (digit w 0) → None ≡ below 256 (hex_pair w 0)
  unfolding hex_pair
  high_none e =
      sym (ap (below 256) (choose_off _ _ _ (ap (λ (t : Bool). t && ltb (digit w 1) 16) (le-ltb (digit w 0) 16 (below_none 16 (digit w 0) e)))) ∙ below_out 256 256 (omega arith))

  pub low_none : (h : ℕ) → Some h ≡ below 16 (digit w 0) → None ≡ below 16 (digit w 1) → None ≡ below 256 (hex_pair w 0)
  unfolding hex_pair
  low_none h e f =
      let x = below_some 16 (digit w 0) h e in
      let t = lt-ltb (digit w 0) 16 (omega arith) in
      let u = le-ltb (digit w 1) 16 (below_none 16 (digit w 1) f) in
      sym (ap (below 256) (choose_off _ _ _ ((λ i. t i && u i))) ∙ below_out 256 256 (omega arith))

  pub both_some : (h l : ℕ) → Some h ≡ below 16 (digit w 0) → Some l ≡ below 16 (digit w 1) → Some (16 * h + l) ≡ below 256 (hex_pair w 0)
  unfolding hex_pair
  both_some h l e f =
      let x = below_some 16 (digit w 0) h e in
      let y = below_some 16 (digit w 1) l f in
      let g : 16 * h + l ≡ 16 * digit w 0 + digit w 1 = omega arith in
      rw g (sym (ap (below 256) (choose_on _ _ _ (both_and _ _ (lt-ltb (digit w 0) 16 (omega arith)) (lt-ltb (digit w 1) 16 (omega arith)))) ∙ below_in 256 (16 * digit w 0 + digit w 1) (omega arith)))

-- A pair by itself spells what it does in its place.
pairs_at : (k : ℕ) (w : List ℕ) (i : ℕ) → i < k → get_or (first_chunks 2 k w) i [] ≡ take 2 (drop (2 * i) w)
pairs_at zero w i h = absurd (omega arith)
pairs_at (suc k) w zero h = refl
pairs_at (suc k) w (suc i) h =
    let e : 2 + 2 * i ≡ 2 * suc i = omega arith in
    pairs_at k (drop 2 w) i (omega arith) ∙ ap (take 2) (drop-drop (2 * i) 2 w ∙ ap (λ (m : ℕ). drop m w) e)

byte_at : (w : List ℕ) (i j : ℕ) → j < 2 → get_or (take 2 (drop (2 * i) w)) j 0 ≡ get_or w (2 * i + j) 0
byte_at w i j h = get_or-take 2 (drop (2 * i) w) j 0 h ∙ get_or-drop (2 * i) w j 0

pub pair_alone : (k : ℕ) (w : List ℕ) (i : ℕ) {all : List (List ℕ)} → all ≡ first_chunks 2 k w → i < k → hex_pair (get_or all i []) 0 ≡ hex_pair w i
unfolding hex_pair
pair_alone k w i {all} f h =
    let e : 2 * i + 0 ≡ 2 * i = omega arith in
    let g : get_or all i [] ≡ take 2 (drop (2 * i) w) = ap (λ (ys : List (List ℕ)). get_or ys i []) f ∙ pairs_at k w i h in
    rw (g, byte_at w i 0 (omega arith), byte_at w i 1 (omega arith), e)

-- Whether pair number i is one of digits, of what was said of it alone.
module _ (k : ℕ) (w : List ℕ) (i : ℕ) {all : List (List ℕ)} (f : all ≡ first_chunks 2 k w) (h : i < k) (o : Option ℕ) (e : o ≡ below 256 (hex_pair (get_or all i []) 0)) where
  pub pair_is : o ≡ below 256 (hex_pair w i)
  pair_is = e ∙ ap (below 256) (pair_alone k w i f h)

  pub pair_tells : is_some o ≡ true → hex_pair w i ≤ 255
  pair_tells t = let x = below_tells 256 (hex_pair w i) (ap (λ (z : Option ℕ). is_some z) (sym pair_is) ∙ t) in omega arith

  pub pair_lacks : is_some o ≡ false → 255 < hex_pair w i
  pair_lacks t = let x = below_lacks 256 (hex_pair w i) (ap (λ (z : Option ℕ). is_some z) (sym pair_is) ∙ t) in omega arith

-- ---- a dash

pub dash_is : (w : List ℕ) → length w ≡ 1 → get_or w 0 0 ≡ 45 → true ≡ is_dash w
unfolding is_dash
dash_is w e f = rw (eq-eqb (length w) 1 e, eq-eqb (get_or w 0 0) 45 f)

pub dash_other : (w : List ℕ) → (length w ≡ 1 → get_or w 0 0 ≡ 45 → ⊥) → false ≡ is_dash w
unfolding is_dash
dash_other w n =
    by_test (eqb (length w) 1 && eqb (get_or w 0 0) 45)
    (λ t. let h = and_both (eqb (length w) 1) (eqb (get_or w 0 0) 45) t in absurd (n (eqb-true (length w) 1 h.0) (eqb-true (get_or w 0 0) 45 h.1)))
    (λ t. sym t)

-- ---- tests of pairs

pub pairs_none : (w : List ℕ) → pairs_good w 0 ≡ true
unfolding pairs_good all_to
pairs_none w = refl

pub pairs_more : (w : List ℕ) (i : ℕ) → hex_pair w i ≤ 255 → pairs_good w i ≡ true → pairs_good w (i + 1) ≡ true
unfolding pairs_good
pairs_more w i h g = all_more i (λ j. leb (hex_pair w j) 255) ∙ (λ k. g k && le-leb (hex_pair w i) 255 h k)

pub pair_at_lem : (w : List ℕ) (n i : ℕ) → pairs_good w n ≡ true → i < n → hex_pair w i ≤ 255
unfolding pairs_good
pair_at_lem w n i g h = leb-true (hex_pair w i) 255 (all_at n i (λ j. leb (hex_pair w j) 255) g h)

pub pairs_bad : (w : List ℕ) (n i : ℕ) → 255 < hex_pair w i → i < n → false ≡ pairs_good w n
pairs_bad w n i h l = by_test (pairs_good w n) (λ g. absurd (omega (arith, pair_at_lem w n i g l))) (λ t. sym t)

-- ---- a word that spells bytes

module _ (w : List ℕ) (room : ℕ) where
  pub bytes_odd : (length w % 2 ≡ 0 → ⊥) → false ≡ spells_bytes w room
  unfolding spells_bytes
  bytes_odd n = rw (ne_eqb (length w % 2) 0 n)

  pub bytes_many : length w % 2 ≡ 0 → room < length w / 2 → false ≡ spells_bytes w room
  unfolding spells_bytes
  bytes_many e l = rw (eq-eqb (length w % 2) 0 e, lt-leb (length w / 2) room l)

  pub bytes_say : length w % 2 ≡ 0 → length w / 2 ≤ room → pairs_good w (length w / 2) ≡ spells_bytes w room
  unfolding spells_bytes
  bytes_say e l = rw (eq-eqb (length w % 2) 0 e, le-leb (length w / 2) room l)

-- ---- the buffer

pub put_none : (w out : List ℕ) → out ≡ put_pairs w 0 out
unfolding put_pairs
put_none w out = refl

pub put_more : (w : List ℕ) (i b : ℕ) (out left : List ℕ) → b ≡ hex_pair w i → left ≡ put_pairs w i out → set left i b ≡ put_pairs w (i + 1) out
unfolding put_pairs
put_more w i b out left e f = rw (add-one, f, e)

pub put_end : (w : List ℕ) (i n : ℕ) (out left : List ℕ) → left ≡ put_pairs w i out → i ≤ n → n ≤ i → left ≡ put_pairs w n out
put_end w i n out left e h k = let q : i ≡ n = omega arith in rw q at e

put_length : (w : List ℕ) (n : ℕ) (out : List ℕ) → length (put_pairs w n out) ≡ length out
unfolding put_pairs
put_length w zero out = refl
put_length w (suc n) out = length-set (put_pairs w n out) n (hex_pair w n) ∙ put_length w n out

-- ---- the ways to read a word

-- A word that spells bytes has their pairs, and there is room.
pub bytes_pairs : (w out : List ℕ) → spells_bytes w (length out) ≡ true → Pairs w (length w / 2) out
unfolding spells_bytes
bytes_pairs w out e =
    let x = and_both (eqb (length w % 2) 0) (leb (length w / 2) (length out) && pairs_good w (length w / 2)) e in
    let y = and_both (leb (length w / 2) (length out)) (pairs_good w (length w / 2)) x.1 in
    record { digits = omega arith; room = leb-true (length w / 2) (length out) y.0; good = y.1 }

fits : {n k : ℕ} → n ≤ k → IfSome (Some n) (λ m. m ≤ k)
fits h = h

module _ (w out : List ℕ) where
  pub hex_dash : is_dash w ≡ true → HexIn w out (Some 0) out
  unfolding hex_of hex_into
  hex_dash e =
      record { answer = sym (choose_on (is_dash w) _ _ e); bytes = sym (choose_on (is_dash w) _ _ e); within = search rules }

  pub hex_bad : is_dash w ≡ false → spells_bytes w (length out) ≡ false → HexIn w out None out
  unfolding hex_of hex_into
  hex_bad e f =
      record {
        answer = sym (choose_off (is_dash w) _ _ e ∙ choose_off (spells_bytes w (length out)) _ _ f);
        bytes = sym (choose_off (is_dash w) _ _ e ∙ choose_off (spells_bytes w (length out)) _ _ f);
        within = search rules;
      }

  pub hex_good : (left : List ℕ) → is_dash w ≡ false → spells_bytes w (length out) ≡ true → left ≡ put_pairs w (length w / 2) out
      → HexIn w out (Some (length w / 2)) left
  unfolding hex_of hex_into
  hex_good left e f g =
      record {
        answer = sym (choose_off (is_dash w) _ _ e ∙ choose_on (spells_bytes w (length out)) _ _ f);
        bytes = g ∙ sym (choose_off (is_dash w) _ _ e ∙ choose_on (spells_bytes w (length out)) _ _ f);
        within = fits (omega (arith, (bytes_pairs w out f).room, ap length g ∙ put_length w (length w / 2) out));
      }
