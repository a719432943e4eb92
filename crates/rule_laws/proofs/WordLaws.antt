-- Laws of masks of several words, once over their number: which bit stands in which word, overlap and signers beyond the table word
-- by word, and the words of a mask that is built. Assumes nothing.
use mathlib.Core.Path.{◌≡◌, refl, sym, ap, ap₂, ◌∙◌}
use mathlib.Core.List.{List, [], ◌∷◌}
use mathlib.Core.Bool.{Bool, true, false, ◌&&◌, ◌||◌}
use Prim.Native.Nat.{ℕ, zero, suc, ◌+◌, ◌-◌, ◌*◌, ◌/◌, ◌%◌, ◌^◌, ◌<◌, ◌≤◌, min}
use native.Mathlib.Nat.{min-eq_left, min-eq_right, mul-add, mul_comm, mul_assoc, add-zero, pow-suc, add-mul-div_right}
use native.Mathlib.Omega.{arith}
use lib.ListN.{length, get_or}
use lib.Pow.{pow-add, pow_pos, pow_mono, shr-shr}
use lib.Dec.{leb, eqb}
use borrow.Author.Tests.{le-leb, lt-leb, leb-true, leb-false}
use Rattle.rulebook.specs.Tools.{part, sum_to, some_to}
use Rattle.rulebook.specs.Packets.{bit, mask_of, joined}
use Rattle.rule_laws.proofs.ToolLaws.{same_test, or_left, or_right, or_cases, sum_same}
use Rattle.rule_laws.proofs.MaskLaws.{zero_bit, mask_lt}
use Rattle.rule_laws.proofs.NumberLaws.{words_low}

-- Each word has 64 bits.
abbrev pub Words : List ℕ → Type 0
Words ws = (i : ℕ) → get_or ws i 0 < 2 ^ 64

-- ---- a word in front of others

-- The bits of the first word stay.
pub low_bit : (x m j : ℕ) → j < 64 → bit (x + 2 ^ 64 * m) j ≡ bit x j
unfolding bit
low_bit x m j h =
    let k = 64 - suc j in
    let e : 64 ≡ suc k + j = omega arith in
    let q = m * 2 ^ k in
    let p : 2 ^ 64 * m ≡ q * 2 * 2 ^ j =
    mul_comm (2 ^ 64) m ∙ ap (λ (y : ℕ). m * y) (ap (λ (y : ℕ). 2 ^ y) e ∙ pow-add 2 (suc k) j ∙ ap (λ (y : ℕ). y * 2 ^ j) (pow-suc 2 k))
    ∙ sym (mul_assoc m (2 ^ k * 2) (2 ^ j)) ∙ ap (λ (y : ℕ). y * 2 ^ j) (sym (mul_assoc m (2 ^ k) 2)) in
    let d : (x + 2 ^ 64 * m) / 2 ^ j ≡ x / 2 ^ j + q * 2 = ap (λ (y : ℕ). (x + y) / 2 ^ j) p ∙ add-mul-div_right x (q * 2) (pow_pos j) in
    let r : (x + 2 ^ 64 * m) / 2 ^ j % 2 ≡ x / 2 ^ j % 2 = omega arith in
    rw r

-- Those of the others come after them.
pub high_bit : (x m j : ℕ) → x < 2 ^ 64 → bit (x + 2 ^ 64 * m) (64 + j) ≡ bit m j
unfolding bit
high_bit x m j h =
    let d : (x + 2 ^ 64 * m) / 2 ^ 64 ≡ m = omega arith in
    ap (λ (y : ℕ). eqb (y % 2) 1) (sym (shr-shr (x + 2 ^ 64 * m) 64 j) ∙ ap (λ (y : ℕ). y / 2 ^ j) d)

-- "lowest nodes first": bit 64 i + j of a mask is bit j of its word i.
pub word_bit : (ws : List ℕ) → Words ws → (i j : ℕ) → j < 64 → bit (joined ws) (64 * i + j) ≡ bit (get_or ws i 0) j
unfolding joined
word_bit [] h i j l = zero_bit (64 * i + j) ∙ sym (zero_bit j)
word_bit (x ∷ xs) h zero j l = let e : 64 * 0 + j ≡ j = omega arith in rw e (low_bit x (joined xs) j l)
word_bit (x ∷ xs) h (suc i) j l =
    let e : 64 * suc i + j ≡ 64 + (64 * i + j) = omega arith in
    rw e (high_bit x (joined xs) (64 * i + j) (h 0) ∙ word_bit xs (λ k. h (suc k)) i j l)

-- A mask of w words is below 2 ^ 64 w.
pub joined_lt : (ws : List ℕ) → Words ws → joined ws < 2 ^ (64 * length ws)
unfolding joined
joined_lt [] h = omega arith
joined_lt (x ∷ xs) h = words_low (length xs) x (joined xs) (h 0) (joined_lt xs (λ k. h (suc k)))

-- ---- tests over the nodes of a word

-- Looked for among a + b nodes: among the first a, or among b from there.
pub some_split : (a b : ℕ) (p : ℕ → Bool) → some_to (a + b) p ≡ (some_to a p || some_to b (λ j. p (a + j)))
unfolding some_to
some_split a zero p = rw (add-zero a) (or_false (some_to a p))
  where
    or_false : (t : Bool) → t ≡ (t || false)
    or_false true = refl
    or_false false = refl
some_split a (suc b) p =
    let e : a + suc b ≡ suc (a + b) = omega arith in
    rw e (ap (λ (t : Bool). t || p (a + b)) (some_split a b p) ∙ or_assoc (some_to a p) (some_to b (λ j. p (a + j))) (p (a + b)))
  where
    or_assoc : (x y z : Bool) → ((x || y) || z) ≡ (x || (y || z))
    or_assoc true y z = refl
    or_assoc false y z = refl

pub sum_split : (a b : ℕ) (f : ℕ → ℕ) → sum_to (a + b) f ≡ sum_to a f + sum_to b (λ j. f (a + j))
unfolding sum_to
sum_split a zero f = rw (add-zero a) (sym (add-zero (sum_to a f)))
sum_split a (suc b) f =
    let e : a + suc b ≡ suc (a + b) = omega arith in
    rw e (omega (arith, sum_split a b f))

pub some_same : (n : ℕ) (p q : ℕ → Bool) → ((i : ℕ) → i < n → p i ≡ q i) → some_to n p ≡ some_to n q
unfolding some_to
some_same zero p q h = refl
some_same (suc n) p q h = ap₂ (λ (x y : Bool). x || y) (some_same n p q (λ i l. h i (omega arith))) (h n (omega arith))

-- Overlap, one word more.
pub both_more : (xs ys : List ℕ) (i : ℕ) → Words xs → Words ys
    → some_to (64 * (i + 1)) (λ n. bit (joined xs) n && bit (joined ys) n)
    ≡ (some_to (64 * i) (λ n. bit (joined xs) n && bit (joined ys) n) || some_to 64 (λ j. bit (get_or xs i 0) j && bit (get_or ys i 0) j))
both_more xs ys i h g =
    let e : 64 * (i + 1) ≡ 64 * i + 64 = omega arith in
    ap (λ (n : ℕ). some_to n (λ n. bit (joined xs) n && bit (joined ys) n)) e
    ∙ some_split (64 * i) 64 (λ n. bit (joined xs) n && bit (joined ys) n)
    ∙ ap (λ (t : Bool). some_to (64 * i) (λ n. bit (joined xs) n && bit (joined ys) n) || t)
    (some_same 64 (λ j. bit (joined xs) (64 * i + j) && bit (joined ys) (64 * i + j)) (λ j. bit (get_or xs i 0) j && bit (get_or ys i 0) j)
    (λ j l. ap₂ (λ (x y : Bool). x && y) (word_bit xs h i j l) (word_bit ys g i j l)))

-- ---- signers beyond the table

-- The first word, or the others beyond what is left of the table.
beyond_first : (c x m : ℕ) → x < 2 ^ 64 → leb (2 ^ c) (x + 2 ^ 64 * m) ≡ (leb (2 ^ c) x || leb (2 ^ (c - 64)) m)
beyond_first c x m h = go (leb 64 c) refl
  where
    go : (t : Bool) → leb 64 c ≡ t → leb (2 ^ c) (x + 2 ^ 64 * m) ≡ (leb (2 ^ c) x || leb (2 ^ (c - 64)) m)
    go true e =
        let l : 64 ≤ c = leb-true 64 c e in
        let k : c ≡ (c - 64) + 64 = omega arith in
        let p : 2 ^ c ≡ 2 ^ (c - 64) * 2 ^ 64 = ap (λ (y : ℕ). 2 ^ y) k ∙ pow-add 2 (c - 64) 64 in
        let big : 2 ^ 64 ≤ 2 ^ c = pow_mono l in
        rw (lt-leb (2 ^ c) x (omega arith))
        (same_test (leb (2 ^ c) (x + 2 ^ 64 * m)) (leb (2 ^ (c - 64)) m)
        (λ t. let q : 2 ^ c ≤ x + 2 ^ 64 * m = leb-true (2 ^ c) (x + 2 ^ 64 * m) t in le-leb (2 ^ (c - 64)) m (omega arith))
        (λ t. let q : 2 ^ (c - 64) ≤ m = leb-true (2 ^ (c - 64)) m t in le-leb (2 ^ c) (x + 2 ^ 64 * m) (omega arith)))
    go false e =
        let l : c < 64 = leb-false 64 c e in
        let z : c - 64 ≡ 0 = omega arith in
        let small : 2 ^ c ≤ 2 ^ 64 = pow_mono (let q : c ≤ 64 = omega arith in q) in
        rw z
        (same_test (leb (2 ^ c) (x + 2 ^ 64 * m)) (leb (2 ^ c) x || leb (2 ^ 0) m)
        (λ t. let q : 2 ^ c ≤ x + 2 ^ 64 * m = leb-true (2 ^ c) (x + 2 ^ 64 * m) t in split (leb (2 ^ 0) m) refl q)
        (λ t. or_cases (leb (2 ^ c) x) (leb (2 ^ 0) m) t
        (λ u. let q : 2 ^ c ≤ x = leb-true (2 ^ c) x u in le-leb (2 ^ c) (x + 2 ^ 64 * m) (omega arith))
        (λ u. let q : 1 ≤ m = leb-true 1 m u in le-leb (2 ^ c) (x + 2 ^ 64 * m) (omega arith))))
      where
        split : (u : Bool) → leb (2 ^ 0) m ≡ u → 2 ^ c ≤ x + 2 ^ 64 * m → (leb (2 ^ c) x || leb (2 ^ 0) m) ≡ true
        split true u q = or_right (leb (2 ^ c) x) (leb (2 ^ 0) m) u
        split false u q =
            let y : m < 1 = leb-false 1 m u in
            or_left (leb (2 ^ c) x) (leb (2 ^ 0) m) (le-leb (2 ^ c) x (omega arith))

some_one : (p : ℕ → Bool) → some_to 1 p ≡ p 0
unfolding some_to
some_one p = refl

some_zero : (p : ℕ → Bool) → false ≡ some_to 0 p
unfolding some_to
some_zero p = refl

-- Some of the first suc n: the first, or some later one.
some_first : (n : ℕ) (p : ℕ → Bool) → some_to (suc n) p ≡ (p 0 || some_to n (λ i. p (suc i)))
some_first n p =
    let e : suc n ≡ 1 + n = omega arith in
    rw e (some_split 1 n p ∙ ap₂ (λ (x y : Bool). x || y) (some_one p) (some_same n (λ i. p (1 + i)) (λ i. p (suc i)) (λ i l. let f : 1 + i ≡ suc i = omega arith in rw f)))

-- A mask goes beyond a table of c nodes where some word goes beyond what is left of the table at it.
pub beyond_words : (ws : List ℕ) (c : ℕ) → Words ws → leb (2 ^ c) (joined ws) ≡ some_to (length ws) (λ i. leb (2 ^ (c - 64 * i)) (get_or ws i 0))
unfolding joined
beyond_words [] c h = lt-leb (2 ^ c) 0 (pow_pos c) ∙ some_zero (λ i. leb (2 ^ (c - 64 * i)) 0)
beyond_words (x ∷ xs) c h =
    let z : c - 64 * 0 ≡ c = omega arith in
    beyond_first c x (joined xs) (h 0)
    ∙ ap₂ (λ (a b : Bool). a || b) (ap (λ (y : ℕ). leb (2 ^ y) x) (sym z))
    (beyond_words xs (c - 64) (λ k. h (suc k))
    ∙ some_same (length xs) (λ i. leb (2 ^ (c - 64 - 64 * i)) (get_or xs i 0)) (λ i. leb (2 ^ (c - 64 * suc i)) (get_or xs i 0))
    (λ i l. let e : c - 64 - 64 * i ≡ c - 64 * suc i = omega arith in rw e))
    ∙ sym (some_first (length xs) (λ i. leb (2 ^ (c - 64 * i)) (get_or (x ∷ xs) i 0)))

-- ---- the words of a mask that is built

sum_scale : (k n : ℕ) (f : ℕ → ℕ) → sum_to n (λ j. k * f j) ≡ k * sum_to n f
unfolding sum_to
sum_scale k zero f = omega arith
sum_scale k (suc n) f = rw (mul-add k (sum_to n f) (f n)) (omega (arith, sum_scale k n f))

part_scale : (t : Bool) (k x : ℕ) → part t (k * x) ≡ k * part t x
unfolding part
part_scale true k x = refl
part_scale false k x = omega arith

-- The first a nodes, and above them the b nodes from there on.
pub mask_split : (p : ℕ → Bool) (a b : ℕ) → mask_of p (a + b) ≡ mask_of p a + 2 ^ a * mask_of (λ j. p (a + j)) b
unfolding mask_of
mask_split p a b =
    sum_split a b (λ i. part (p i) (2 ^ i))
    ∙ ap (λ (x : ℕ). sum_to a (λ i. part (p i) (2 ^ i)) + x)
    (sum_same b (λ j. part (p (a + j)) (2 ^ (a + j))) (λ j. 2 ^ a * part (p (a + j)) (2 ^ j))
    (λ j l. ap (part (p (a + j))) (pow-add 2 a j) ∙ part_scale (p (a + j)) (2 ^ a) (2 ^ j))
    ∙ sum_scale (2 ^ a) b (λ j. part (p (a + j)) (2 ^ j)))

-- A table of more than 64 nodes: the first word names the first 64 nodes, the others those after them.
pub mask_words_lem : (p : ℕ → Bool) (n : ℕ) → 64 ≤ n
    → (mask_of p n % 2 ^ 64 ≡ mask_of p 64) × (mask_of p n / 2 ^ 64 ≡ mask_of (λ j. p (64 + j)) (n - 64))
mask_words_lem p n h =
    let e : n ≡ 64 + (n - 64) = omega arith in
    let s : mask_of p n ≡ mask_of p 64 + 2 ^ 64 * mask_of (λ j. p (64 + j)) (n - 64) = ap (mask_of p) e ∙ mask_split p 64 (n - 64) in
    let l = mask_lt p 64 in
    (omega arith, omega arith)

-- ---- a node's word and its bit there

pub node_bit : (ws : List ℕ) → Words ws → (n : ℕ) → bit (joined ws) n ≡ bit (get_or ws (n / 64) 0) (n % 64)
node_bit ws h n =
    let e : n ≡ 64 * (n / 64) + n % 64 = omega arith in
    ap (bit (joined ws)) e ∙ word_bit ws h (n / 64) (n % 64) (omega arith)

-- Past the last word there is nothing.
pub past_words : (ws : List ℕ) (i : ℕ) → length ws ≤ i → get_or ws i 0 ≡ 0
past_words [] i h = refl
past_words (x ∷ xs) zero h = absurd (omega arith)
past_words (x ∷ xs) (suc i) h = past_words xs i (omega arith)

-- ---- a mask that is built word by word

pub mask_same : (n : ℕ) (p q : ℕ → Bool) → ((i : ℕ) → i < n → p i ≡ q i) → mask_of p n ≡ mask_of q n
unfolding mask_of
mask_same n p q h = sum_same n (λ i. part (p i) (2 ^ i)) (λ i. part (q i) (2 ^ i)) (λ i l. ap (λ (t : Bool). part t (2 ^ i)) (h i l))

mask_zero : (p : ℕ → Bool) (n : ℕ) → n ≡ 0 → mask_of p n ≡ 0
unfolding mask_of sum_to
mask_zero p n e = rw e

-- The first word of a mask, and the others.
mask_first : (p : ℕ → Bool) (c : ℕ) → mask_of p c ≡ mask_of p (min 64 c) + 2 ^ 64 * mask_of (λ j. p (64 + j)) (c - 64)
mask_first p c = go (leb 64 c) refl
  where
    go : (t : Bool) → leb 64 c ≡ t → mask_of p c ≡ mask_of p (min 64 c) + 2 ^ 64 * mask_of (λ j. p (64 + j)) (c - 64)
    go true e =
        let l : 64 ≤ c = leb-true 64 c e in
        let k : c ≡ 64 + (c - 64) = omega arith in
        ap (mask_of p) k ∙ mask_split p 64 (c - 64) ∙ ap (λ (x : ℕ). mask_of p x + 2 ^ 64 * mask_of (λ j. p (64 + j)) (c - 64)) (sym (min-eq_left l))
    go false e =
        let l : c < 64 = leb-false 64 c e in
        let m : c ≤ 64 = omega arith in
        let z = mask_zero (λ j. p (64 + j)) (c - 64) (omega arith) in
        let s = ap (mask_of p) (min-eq_right m) in
        omega arith

-- Words of which each names its own nodes, as far as the table goes, are the mask of the table's nodes.
pub joined_built : (ws : List ℕ) (p : ℕ → Bool) (c : ℕ) → c ≤ 64 * length ws
    → ((i : ℕ) → i < length ws → get_or ws i 0 ≡ mask_of (λ j. p (64 * i + j)) (min 64 (c - 64 * i))) → joined ws ≡ mask_of p c
unfolding joined
joined_built [] p c h e = sym (mask_zero p c (omega arith))
joined_built (x ∷ xs) p c h e =
    let z : c - 64 * 0 ≡ c = omega arith in
    let first : x ≡ mask_of p (min 64 c) =
    e 0 (omega arith) ∙ ap (λ (n : ℕ). mask_of (λ j. p (64 * 0 + j)) (min 64 n)) z
    ∙ mask_same (min 64 c) (λ j. p (64 * 0 + j)) p (λ j l. ap p (let f : 64 * 0 + j ≡ j = omega arith in f)) in
    let rest : joined xs ≡ mask_of (λ j. p (64 + j)) (c - 64) =
    joined_built xs (λ j. p (64 + j)) (c - 64) (omega arith)
    (λ i l. e (suc i) (omega arith)
    ∙ ap (λ (n : ℕ). mask_of (λ j. p (64 * suc i + j)) (min 64 n)) (let f : c - 64 * suc i ≡ c - 64 - 64 * i = omega arith in f)
    ∙ mask_same (min 64 (c - 64 - 64 * i)) (λ j. p (64 * suc i + j)) (λ j. p (64 + (64 * i + j))) (λ j k. ap p (let f : 64 * suc i + j ≡ 64 + (64 * i + j) = omega arith in f))) in
    ap₂ (λ (a b : ℕ). a + 2 ^ 64 * b) first rest ∙ sym (mask_first p c)
