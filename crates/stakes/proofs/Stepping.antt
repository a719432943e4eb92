-- From set bit to set bit: what stepping over a word adds is what walking its places adds, over any width; and word by word over a
-- table. Assumes nothing.
use Rattle.std.proofs.Common.{◌≡◌, ℕ, zero, suc, ◌+◌, ◌-◌, ◌*◌, ◌/◌, ◌%◌, ◌^◌, ◌<◌, ◌≤◌, min, Bool, true, false, not, ◌&&◌, ◌||◌, eqb, ltb, leb, ◌⊎◌, List, length, get_or, take, drop, sym, refl, ap, ◌∙◌, ap₂, inl, inr, suc-le-suc, zero-le, lt_of_lt_of_le, mod-lt, pow-suc, div-one, arith, lit<, length-drop, get_or-drop, pow_mono, shr-shr, ltb-false, ltb-true, le-ltb, lt-ltb, leb-false, leb-true}
use native.Mathlib.Decide.{le_ind}
use lib.Count.{count_trailing_zeros, under}
use lib.Bits.{bit_and, bit_or, and_step, and_self, and_le_r}
use lib.Seq.{take-length}
use Rattle.rulebook.specs.Tools.{part, sum_to}
use Rattle.rulebook.specs.Weights.{most_stake, stake_in, weight, total_to}
use Rattle.rulebook.specs.Packets.{bit, mask_of, count_of, joined}
use Rattle.rule_laws.proofs.ToolLaws.{by_test, part_le, part_on, part_off, sum_same, sum_le, sum_const, sum_mono}
use Rattle.rule_laws.proofs.MaskLaws.{zero_bit, past_bit, mask_lt, mask_bit, or_bit, count_le}
use Rattle.rule_laws.proofs.WeightLaws.{weight_total}
use Rattle.rule_laws.proofs.WordLaws.{Words, word_bit, past_words, sum_split}
use Rattle.stakes.specs.declared.Weighed.{Weighed}
use Rattle.stakes.specs.Table.{Lent, weighed}
use Rattle.stakes.specs.Masks.{first_nodes, WordIn, marked, Marks}
use Rattle.stakes.proofs.Laws.{among_first}

-- ---- the lowest set bit

two : (x : ℕ) → x < 2 → (x ≡ 0) ⊎ (x ≡ 1)
two zero h = inl refl
two (suc zero) h = inr refl
two (suc (suc x)) h = absurd (omega arith)

odd_or_even : (m : ℕ) → (m % 2 ≡ 0) ⊎ (m % 2 ≡ 1)
odd_or_even m = two (m % 2) (mod-lt m (lit< tt))

-- Without its lowest set bit: a word that ends in 1 keeps the rest, one that ends in 0 loses a bit of the rest.
odd_left : (m : ℕ) → m % 2 ≡ 1 → bit_and m (m - 1) ≡ m / 2 * 2
odd_left m o =
    let h : (m - 1) / 2 ≡ m / 2 = omega arith in
    let e : (m - 1) % 2 ≡ 0 = omega arith in
    and_step m (m - 1) ∙ rw (h, e, o, and_self (m / 2)) (omega arith)

even_left : (m : ℕ) → 0 < m → m % 2 ≡ 0 → bit_and m (m - 1) ≡ bit_and (m / 2) (m / 2 - 1) * 2
even_left m p z =
    let h : (m - 1) / 2 ≡ m / 2 - 1 = omega arith in
    and_step m (m - 1) ∙ rw (h, z) (omega arith)

-- The lowest set bit of a word below 2 ^ n stands below n, however many places are looked at.
pub low_lt : (k n m : ℕ) → 0 < m → m < 2 ^ n → count_trailing_zeros k m < n
unfolding count_trailing_zeros
low_lt k zero m p h = absurd (omega arith)
low_lt zero (suc n) m p h = omega arith
low_lt (suc k) (suc n) m p h = go (odd_or_even m) (λ z. low_lt k n (m / 2) (omega arith) (let e : m < 2 ^ n * 2 = rw (pow-suc 2 n) at h in omega arith))
  where
    go : (m % 2 ≡ 0) ⊎ (m % 2 ≡ 1) → (m % 2 ≡ 0 → count_trailing_zeros k (m / 2) < n) → under (m % 2) (count_trailing_zeros k (m / 2)) < suc n
    go (inl z) ih = rw z (suc-le-suc (ih z))
    go (inr o) ih = rw o (suc-le-suc zero-le)

-- ---- what a word adds

-- The amounts of the nodes that a word of k places names, place by place.
unfoldable pub named : ℕ → (ℕ → ℕ) → ℕ → ℕ
named k f m = sum_to k (λ n. part (bit m n) (f n))

-- A sum from its first term on.
sum_first : (k : ℕ) (f : ℕ → ℕ) → sum_to (suc k) f ≡ f 0 + sum_to k (λ n. f (suc n))
unfolding sum_to
sum_first zero f = omega arith
sum_first (suc k) f = omega (arith, sum_first k f)

next_bit : (m n : ℕ) → bit m (suc n) ≡ bit (m / 2) n
unfolding bit
next_bit m n = ap (λ (x : ℕ). eqb (x % 2) 1) (ap (λ (k : ℕ). m / 2 ^ k) (omega arith) ∙ sym (shr-shr m 1 n))

-- The first place, and the places after it.
named_first : (k : ℕ) (f : ℕ → ℕ) (m : ℕ) → named (suc k) f m ≡ part (bit m 0) (f 0) + named k (λ n. f (suc n)) (m / 2)
unfolding named
named_first k f m =
    sum_first k (λ n. part (bit m n) (f n))
    ∙ ap (λ (x : ℕ). part (bit m 0) (f 0) + x)
    (sum_same k (λ n. part (bit m (suc n)) (f (suc n))) (λ n. part (bit (m / 2) n) (f (suc n))) (λ n l. ap (λ (t : Bool). part t (f (suc n))) (next_bit m n)))

first_is : (m d : ℕ) → m % 2 ≡ d → bit m 0 ≡ eqb d 1
unfolding bit
first_is m d e = ap (λ (x : ℕ). eqb (x % 2) 1) (div-one m) ∙ rw e

pub named_none : (k : ℕ) (f : ℕ → ℕ) → named k f 0 ≡ 0
unfolding named
named_none k f = omega (arith, sum_same k (λ n. part (bit 0 n) (f n)) (λ n. 0) (λ n l. part_off (bit 0 n) (f n) (zero_bit n)), sum_const k 0)

-- Stepping adds what walking adds: a word's lowest set bit adds its own amount, and the word without it the rest.
pub named_low : (k : ℕ) (f : ℕ → ℕ) (m : ℕ) → 0 < m → m < 2 ^ k → named k f m ≡ named k f (bit_and m (m - 1)) + f (count_trailing_zeros k m)
unfolding count_trailing_zeros
named_low zero f m p h = absurd (omega arith)
named_low (suc k) f m p h = go (odd_or_even m) (λ z. named_low k (λ n. f (suc n)) (m / 2) (omega arith) (let e : m < 2 ^ k * 2 = rw (pow-suc 2 k) at h in omega arith))
  where
    rest : ℕ → ℕ
    rest x = named k (λ n. f (suc n)) x

    half : (x : ℕ) → x * 2 / 2 ≡ x
    half x = omega arith

    doubled : (x : ℕ) → named (suc k) f (x * 2) ≡ rest x
    doubled x =
        named_first k f (x * 2)
        ∙ omega (arith, part_off (bit (x * 2) 0) (f 0) (first_is (x * 2) 0 (omega arith)), ap rest (half x))

    go : (m % 2 ≡ 0) ⊎ (m % 2 ≡ 1) → (m % 2 ≡ 0 → rest (m / 2) ≡ rest (bit_and (m / 2) (m / 2 - 1)) + f (suc (count_trailing_zeros k (m / 2))))
        → named (suc k) f m ≡ named (suc k) f (bit_and m (m - 1)) + f (under (m % 2) (count_trailing_zeros k (m / 2)))
    go (inl z) ih =
        rw z
        (omega (arith, named_first k f m, part_off (bit m 0) (f 0) (first_is m 0 z), ih z, ap (named (suc k) f) (even_left m p z), doubled (bit_and (m / 2) (m / 2 - 1))))
    go (inr o) ih =
        rw o (omega (arith, named_first k f m, part_on (bit m 0) (f 0) (first_is m 1 o), ap (named (suc k) f) (odd_left m o), doubled (m / 2)))

-- ---- the steps over a word

-- What was taken off and what is left make the whole word.
pub record Stepped (ss : List ℕ) (word signers weighs left : ℕ) : Type 0 where
  pub inside : left < 2 ^ length ss
  pub fits : left < 2 ^ 64
  pub count : signers + named 64 (λ _. 1) left ≡ named 64 (λ _. 1) word
  pub sum : weighs + named 64 (stake_in ss) left ≡ named 64 (stake_in ss) word
  pub few : named 64 (λ _. 1) word ≤ 64
  pub light : named 64 (stake_in ss) word ≤ most_stake

pub stepped_none : (ss : List ℕ) (word : ℕ) → WordIn ss word → word < 2 ^ 64 → Stepped ss word 0 0 word
unfolding named total_to
stepped_none ss word w h =
    record {
      inside = w.named;
      fits = h;
      count = omega arith;
      sum = omega arith;
      few = omega (arith, sum_le 64 (λ n. part (bit word n) 1) (λ _. 1) (λ n l. part_le (bit word n) 1), sum_const 64 1);
      light = omega (arith, sum_le 64 (λ n. part (bit word n) (stake_in ss n)) (stake_in ss) (λ n l. part_le (bit word n) (stake_in ss n)), w.light);
    }

module _ (ss : List ℕ) (word signers weighs left : ℕ) (s : Stepped ss word signers weighs left) where
  -- The next signer's place has a stake.
  pub stepped_place : 0 < left → count_trailing_zeros 64 left < length ss
  stepped_place p = low_lt 64 (length ss) left p s.inside

  pub stepped_more : 0 < left → Stepped ss word (signers + 1) (weighs + stake_in ss (count_trailing_zeros 64 left)) (bit_and left (left - 1))
  stepped_more p =
      record {
        inside = omega (arith, and_le_r left (left - 1), s.inside);
        fits = omega (arith, and_le_r left (left - 1), s.fits);
        count = omega (arith, s.count, named_low 64 (λ _. 1) left p s.fits);
        sum = omega (arith, s.sum, named_low 64 (stake_in ss) left p s.fits);
        few = s.few;
        light = s.light;
      }

  pub stepped_done : left ≡ 0 → record { signers = signers; weight = record { 0 = weighs } } ≡ weighed ss 64 (bit word)
  unfolding weighed count_of weight named
  stepped_done z =
      let a : named 64 (λ _. 1) left ≡ 0 = ap (named 64 (λ _. 1)) z ∙ named_none 64 (λ _. 1) in
      let b : named 64 (stake_in ss) left ≡ 0 = ap (named 64 (stake_in ss)) z ∙ named_none 64 (stake_in ss) in
      ap₂ (λ (x y : ℕ). record { signers = x; weight = record { 0 = y } }) (omega (arith, s.count, a)) (omega (arith, s.sum, b))

-- ---- word by word over a table

-- Nothing is added past c.
sum_past : (f : ℕ → ℕ) (c n : ℕ) → c ≤ n → ((i : ℕ) → c ≤ i → f i ≡ 0) → sum_to n f ≡ sum_to c f
unfolding sum_to
sum_past f c n l h = le_ind (λ (k : ℕ). sum_to k f ≡ sum_to c f) refl (λ k q e. omega (arith, h k q)) n l

-- No more than the whole table, wherever one stops.
total_most : (ss : List ℕ) (n : ℕ) → total_to ss n ≤ total_to ss (length ss)
unfolding total_to
total_most ss n =
    by_test (leb n (length ss))
    (λ e. sum_mono n (length ss) (stake_in ss) (leb-true n (length ss) e))
    (λ e. omega (arith, leb-false n (length ss) e, sum_past (stake_in ss) (length ss) n (omega (arith, leb-false n (length ss) e)) (past_words ss)))

-- The part of the stakes from a word's first node on.
part_tail : (ss : List ℕ) (from i : ℕ) → from ≡ 64 * i → take (length ss - from) (drop from ss) ≡ drop (64 * i) ss
part_tail ss from i e = ap (λ (n : ℕ). take n (drop from ss)) (sym (length-drop from ss)) ∙ take-length (drop from ss) ∙ ap (λ (n : ℕ). drop n ss) e

-- Two masks over lent stakes, and the words of them that are weighed: of the signers, or of the rest.
module _ (ss xs ys : List ℕ) (k : Lent ss) (hx : Words xs) (hy : Words ys) (rest : Bool) where
  abbrev is_marked : ℕ → Bool
  is_marked n = marked rest (bit (joined xs) n || bit (joined ys) n)

  -- A node of the table that is to be weighed.
  abbrev who : ℕ → Bool
  who n = ltb n (length ss) && is_marked n

  who_past : (n : ℕ) → length ss ≤ n → who n ≡ false
  who_past n l = rw (le-ltb n (length ss) l)

  who_in : (n : ℕ) → n < length ss → who n ≡ is_marked n
  who_in n l = rw (lt-ltb n (length ss) l)

  -- Word i, cut off at the table's end.
  module _ (i word : ℕ) (is : Marks rest (bit_or (get_or xs i 0) (get_or ys i 0)) word) where
    abbrev cut : ℕ
    cut = bit_and word (first_nodes (length ss - 64 * i))

    cut_is : cut ≡ mask_of (bit word) (min (length ss - 64 * i) 64)
    cut_is = among_first word (length ss - 64 * i)

    cut_lt : (n : ℕ) → min (length ss - 64 * i) 64 ≤ n → cut < 2 ^ n
    cut_lt n l = rw cut_is (lt_of_lt_of_le (mask_lt (bit word) (min (length ss - 64 * i) 64)) (pow_mono l))

    -- It names the table's nodes that are to be weighed, from node 64 i on.
    cut_who : (j : ℕ) → j < 64 → bit cut j ≡ who (64 * i + j)
    cut_who j l =
        by_test (ltb (64 * i + j) (length ss))
        (λ e. let h : 64 * i + j < length ss = ltb-true (64 * i + j) (length ss) e in
        rw cut_is (mask_bit (bit word) (min (length ss - 64 * i) 64) j (omega arith))
        ∙ is.each j l
        ∙ ap (marked rest) (or_bit (get_or xs i 0) (get_or ys i 0) j ∙ ap₂ (λ (x y : Bool). x || y) (sym (word_bit xs hx i j l)) (sym (word_bit ys hy i j l)))
        ∙ sym (who_in (64 * i + j) h))
        (λ e. let h : length ss ≤ 64 * i + j = ltb-false (64 * i + j) (length ss) e in
        past_bit cut (min (length ss - 64 * i) 64) j (cut_lt (min (length ss - 64 * i) 64) (omega arith)) (omega arith) ∙ sym (who_past (64 * i + j) h))

    -- What weighing it asks.
    cut_in : WordIn (drop (64 * i) ss) cut
    unfolding total_to
    cut_in =
        record {
          named = cut_lt (length (drop (64 * i) ss)) (omega (arith, length-drop (64 * i) ss));
          light = omega (
            arith,
            sum_split (64 * i) 64 (stake_in ss),
            sum_same 64 (stake_in (drop (64 * i) ss)) (λ j. stake_in ss (64 * i + j)) (λ j l. get_or-drop (64 * i) ss j 0),
            total_most ss (64 * i + 64),
            k.light,
          );
        }

    -- The same of the word as it is made and the stakes as they are lent.
    module _ (from nodes : ℕ) (e : from ≡ 64 * i) (f : nodes ≡ first_nodes (length ss - from)) where
      made_cut : bit_and word nodes ≡ cut
      made_cut = ap (bit_and word) (f ∙ ap (λ (n : ℕ). first_nodes (length ss - n)) e)

      pub word_in : WordIn (take (length ss - from) (drop from ss)) (bit_and word nodes)
      word_in = rw (part_tail ss from i e, made_cut) cut_in

      pub word_weighed : (here : Weighed) → here ≡ weighed (take (length ss - from) (drop from ss)) 64 (bit (bit_and word nodes))
          → here ≡ weighed (drop (64 * i) ss) 64 (bit cut)
      word_weighed here w = w ∙ ap₂ (λ (x : List ℕ) (y : ℕ). weighed x 64 (bit y)) (part_tail ss from i e) made_cut

  -- The nodes of the first i words are weighed.
  pub record Summed (signers weighs i : ℕ) : Type 0 where
    pub count : signers ≡ count_of who (64 * i)
    pub sum : weighs ≡ weight ss (64 * i) who

  pub summed_none : Summed 0 0 0
  unfolding count_of weight sum_to
  summed_none = record { count = refl; sum = refl }

  module _ (signers weighs i : ℕ) (m : Summed signers weighs i) (word : ℕ) (is : Marks rest (bit_or (get_or xs i 0) (get_or ys i 0)) word)
      (here : Weighed) (w : here ≡ weighed (drop (64 * i) ss) 64 (bit (cut i word is))) where
    pub summed_more : Summed (signers + here.signers) (weighs + here.weight.0) (i + 1)
    unfolding weighed count_of weight
    summed_more =
        let n : 64 * (i + 1) ≡ 64 * i + 64 = omega arith in
        let a : here.signers ≡ sum_to 64 (λ j. part (bit (cut i word is) j) 1) = ap (λ (x : Weighed). x.signers) w in
        let b : here.weight.0 ≡ sum_to 64 (λ j. part (bit (cut i word is) j) (stake_in (drop (64 * i) ss) j)) = ap (λ (x : Weighed). x.weight.0) w in
        record {
          count = rw n (omega (
            arith,
            m.count,
            a,
            sum_split (64 * i) 64 (λ n. part (who n) 1),
            sum_same 64 (λ j. part (bit (cut i word is) j) 1) (λ j. part (who (64 * i + j)) 1) (λ j l. ap (λ (t : Bool). part t 1) (cut_who i word is j l)),
          ));
          sum = rw n (omega (
            arith,
            m.sum,
            b,
            sum_split (64 * i) 64 (λ n. part (who n) (stake_in ss n)),
            sum_same 64 (λ j. part (bit (cut i word is) j) (stake_in (drop (64 * i) ss) j)) (λ j. part (who (64 * i + j)) (stake_in ss (64 * i + j)))
                (λ j l. ap₂ part (cut_who i word is j l) (get_or-drop (64 * i) ss j 0)),
          ));
        }

    -- There is room for it.
    pub summed_few : signers + here.signers ≤ 64 * (i + 1)
    summed_few = omega (arith, summed_more.count, count_le (64 * (i + 1)) who)

    pub summed_light : weighs + here.weight.0 ≤ most_stake
    summed_light = omega (arith, summed_more.sum, weight_total ss (64 * (i + 1)) who, total_most ss (64 * (i + 1)), k.light)

  pub summed_done : (signers weighs i : ℕ) → Summed signers weighs i → length ss ≤ 64 * i
      → record { signers = signers; weight = record { 0 = weighs } } ≡ weighed ss (length ss) is_marked
  unfolding weighed count_of weight
  summed_done signers weighs i m l =
      ap₂ (λ (x y : ℕ). record { signers = x; weight = record { 0 = y } })
      (m.count ∙ sum_past (λ n. part (who n) 1) (length ss) (64 * i) l (λ n q. part_off (who n) 1 (who_past n q))
      ∙ sum_same (length ss) (λ n. part (who n) 1) (λ n. part (is_marked n) 1) (λ n q. ap (λ (t : Bool). part t 1) (who_in n q)))
      (m.sum ∙ sum_past (λ n. part (who n) (stake_in ss n)) (length ss) (64 * i) l (λ n q. part_off (who n) (stake_in ss n) (who_past n q))
      ∙ sum_same (length ss) (λ n. part (who n) (stake_in ss n)) (λ n. part (is_marked n) (stake_in ss n)) (λ n q. ap (λ (t : Bool). part t (stake_in ss n)) (who_in n q)))

-- ---- the rest

-- Of k places, a word and what it leaves out.
without_bit : (k x j : ℕ) → x < 2 ^ k → j < k → bit ((2 ^ k - 1) - x) j ≡ not (bit x j)
without_bit zero x j h l = absurd (omega arith)
without_bit (suc k) x zero h l = first_is ((2 ^ suc k - 1) - x) (1 - x % 2) low ∙ go (odd_or_even x)
  where
    twice : 2 ^ suc k ≡ 2 ^ k * 2
    twice = pow-suc 2 k

    low : ((2 ^ suc k - 1) - x) % 2 ≡ 1 - x % 2
    low = let g : x < 2 ^ k * 2 = rw twice at h in rw twice (omega arith)

    go : (x % 2 ≡ 0) ⊎ (x % 2 ≡ 1) → eqb (1 - x % 2) 1 ≡ not (bit x 0)
    go (inl z) = rw z (ap not (sym (first_is x 0 z)))
    go (inr o) = rw o (ap not (sym (first_is x 1 o)))
without_bit (suc k) x (suc j) h l =
    next_bit ((2 ^ suc k - 1) - x) j ∙ ap (λ (y : ℕ). bit y j) half ∙ without_bit k (x / 2) j (let g : x < 2 ^ k * 2 = rw (pow-suc 2 k) at h in omega arith) (omega arith)
    ∙ ap not (sym (next_bit x j))
  where
    half : ((2 ^ suc k - 1) - x) / 2 ≡ (2 ^ k - 1) - x / 2
    half = let g : x < 2 ^ k * 2 = rw (pow-suc 2 k) at h in rw (pow-suc 2 k) (omega arith)

pub marks_rest : (rest : Bool) (word : ℕ) → word < 2 ^ 64 → rest ≡ true → Marks rest word ((2 ^ 64 - 1) - word)
unfolding marked
marks_rest rest word h e = rw e (record { each = λ j l. without_bit 64 word j h l })

pub marks_same : (rest : Bool) (word : ℕ) → rest ≡ false → Marks rest word word
unfolding marked
marks_same rest word e = rw e (record { each = λ j l. refl })

part_rest : (t : Bool) (w : ℕ) → part (not t) w + part t w ≡ w
unfolding part
part_rest true w = omega arith
part_rest false w = omega arith

rest_sum : (c : ℕ) (p : ℕ → Bool) (f : ℕ → ℕ) → sum_to c (λ n. part (not (p n)) (f n)) + sum_to c (λ n. part (p n) (f n)) ≡ sum_to c f
unfolding sum_to
rest_sum zero p f = refl
rest_sum (suc c) p f = omega (arith, rest_sum c p f, part_rest (p c) (f c))

-- What is left of count and total without the rest is the signers and their weight.
module _ (ss : List ℕ) (p : ℕ → Bool) (total : ℕ) (sum : total ≡ total_to ss (length ss)) (others : Weighed) (w : others ≡ weighed ss (length ss) (λ n. marked true (p n))) where
  rest_count : others.signers + count_of p (length ss) ≡ length ss
  unfolding weighed count_of marked
  rest_count = omega (arith, ap (λ (x : Weighed). x.signers) w, rest_sum (length ss) p (λ _. 1), sum_const (length ss) 1)

  rest_weight : others.weight.0 + weight ss (length ss) p ≡ total
  unfolding weighed weight total_to marked
  rest_weight = omega (arith, ap (λ (x : Weighed). x.weight.0) w, rest_sum (length ss) p (stake_in ss), sum)

  pub rest_few : others.signers ≤ length ss
  rest_few = omega (arith, rest_count)

  pub rest_light : others.weight.0 ≤ total
  rest_light = omega (arith, rest_weight)

  pub rest_off : record { signers = length ss - others.signers; weight = record { 0 = total - others.weight.0 } } ≡ weighed ss (length ss) p
  unfolding weighed
  rest_off = ap₂ (λ (x y : ℕ). record { signers = x; weight = record { 0 = y } }) (omega (arith, rest_count)) (omega (arith, rest_weight))
