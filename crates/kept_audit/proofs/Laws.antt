-- The kinds of places, the table of a record's stakes, and the 17 test of kept certificates as one loop over the places. Assumes nothing.
use mathlib.Core.Path.{◌≡◌, refl, sym, ap, ◌∙◌, subst}
use mathlib.Core.Bool.{Bool, true, false, not, ◌&&◌, ◌||◌}
use mathlib.Core.List.{List}
use Prim.Native.Nat.{ℕ, zero, suc, ◌+◌, ◌*◌, ◌≤◌, ◌<◌}
use native.Mathlib.Omega.{arith}
use lib.ListN.{length, get_or, take}
use lib.Seq.{get_or-take, length-take-le}
use lib.Dec.{eqb, leb, ltb}
use borrow.Author.Tests.{ltb-true, ltb-false, not-true, le-leb, lt-leb, eq-eqb, ne_eqb}
use Rattle.rulebook.specs.declared.CertificateKind.{CertificateKind}
use Rattle.rulebook.specs.declared.CertificateKind.TheVariants as certificate
use Rattle.rulebook.specs.Certificates.{Kept}
use Rattle.rulebook.specs.Tools.{all_to, sum_to}
use Rattle.rulebook.specs.Weights.{most_nodes, stake_in, total_to, slot_ok, last_slot}
use Rattle.rulebook.specs.PaperNumbers.{certificate_number}
use Rattle.rulebook.specs.Packets.{joined, certificate_of}
use Rattle.rulebook.specs.Ledger.{Ledger, none, no_kept, places, table_of, is_kept}
use Rattle.rulebook.specs.Pool.{place_kind, same_kind}
use Rattle.rulebook.specs.Checker.{judge_kind}
use Rattle.rulebook.specs.WellFormed.{is_fine, kept_in, in_turn, certificate_fits, certificates_fit}
use Rattle.rule_laws.proofs.ToolLaws.{given_on, given_off, and_both, both_and, or_left, or_right, or_cases, by_test, true_not_false, same_test, sum_same, all_more, all_at, all_each, all_same}
use Rattle.rule_laws.proofs.KeptPlaceLaws.{each_index, turn_at, apart_index}
use Rattle.record.specs.Layout.{mask_words, ledger_of}
use Rattle.record.specs.Tabled.{Tabled}
use Rattle.record.proofs.Places.{by_size}
use Rattle.record.proofs.BlockPlaces.{all_and}
use Rattle.stakes.specs.declared.LentTable.{LentTable}
use Rattle.stakes.specs.Table.{Fit}
use Rattle.certificates.specs.Told.{Keepable, headed}
use Rattle.kept_audit.specs.Judging.{Judging, filled_to}

-- ---- the kinds of places

pub later_kind : (n : ℕ) → (n ≡ 0 → ⊥) → (n ≡ 1 → ⊥) → (n ≡ 2 → ⊥) → (n ≡ 3 → ⊥) → certificate.NotarFallback ≡ place_kind n
unfolding place_kind
later_kind zero a b c d = absurd (a refl)
later_kind (suc zero) a b c d = absurd (b refl)
later_kind (suc (suc zero)) a b c d = absurd (c refl)
later_kind (suc (suc (suc zero))) a b c d = absurd (d refl)
later_kind (suc (suc (suc (suc n)))) a b c d = refl

-- Only places of kind 3 share a kind with one before them.
pub shared_kind : (m n : ℕ) → m < n → leb 4 m ≡ same_kind (place_kind m) (place_kind n)
unfolding place_kind same_kind certificate_number
shared_kind m zero h = absurd (omega arith)
shared_kind zero (suc zero) h = refl
shared_kind zero (suc (suc zero)) h = refl
shared_kind zero (suc (suc (suc zero))) h = refl
shared_kind zero (suc (suc (suc (suc n)))) h = refl
shared_kind (suc zero) (suc zero) h = absurd (omega arith)
shared_kind (suc zero) (suc (suc zero)) h = refl
shared_kind (suc zero) (suc (suc (suc zero))) h = refl
shared_kind (suc zero) (suc (suc (suc (suc n)))) h = refl
shared_kind (suc (suc zero)) (suc zero) h = absurd (omega arith)
shared_kind (suc (suc zero)) (suc (suc zero)) h = absurd (omega arith)
shared_kind (suc (suc zero)) (suc (suc (suc zero))) h = refl
shared_kind (suc (suc zero)) (suc (suc (suc (suc n)))) h = refl
shared_kind (suc (suc (suc zero))) (suc zero) h = absurd (omega arith)
shared_kind (suc (suc (suc zero))) (suc (suc zero)) h = absurd (omega arith)
shared_kind (suc (suc (suc zero))) (suc (suc (suc zero))) h = absurd (omega arith)
shared_kind (suc (suc (suc zero))) (suc (suc (suc (suc n)))) h = refl
shared_kind (suc (suc (suc (suc m)))) (suc zero) h = absurd (omega arith)
shared_kind (suc (suc (suc (suc m)))) (suc (suc zero)) h = absurd (omega arith)
shared_kind (suc (suc (suc (suc m)))) (suc (suc (suc zero))) h = absurd (omega arith)
shared_kind (suc (suc (suc (suc m)))) (suc (suc (suc (suc n)))) h = le-leb 4 (suc (suc (suc (suc m)))) (omega arith)

-- ---- the stakes in front of the others

module _ (xs : List ℕ) (m : ℕ) (h : m ≤ length xs) where
  pub front_long : length (take m xs) ≡ m
  front_long = length-take-le m xs h

  pub front_stake : (n : ℕ) → n < m → stake_in (take m xs) n ≡ stake_in xs n
  front_stake n l = get_or-take m xs n 0 l

  pub front_total : total_to (take m xs) (length (take m xs)) ≡ total_to xs m
  unfolding total_to
  front_total =
      ap (λ (k : ℕ). sum_to k (λ n. stake_in (take m xs) n)) front_long
      ∙ sum_same m (λ n. stake_in (take m xs) n) (λ n. stake_in xs n) (λ i l. front_stake i l)

-- Count and total of a record are the table of its stakes.
pub record_table : (l : Ledger) → Tabled l → l.count ≤ most_nodes → (t : LentTable) → t.count ≡ l.count → t.total.0 ≡ l.total → Fit (table_of l) t
record_table l k few t c w =
    let long = front_long l.stakes l.count k.few in
    let sum = front_total l.stakes l.count k.few ∙ k.sum in
    record { lent = record { few = omega (arith, long); light = omega (arith, sum, k.light) }; count = c ∙ sym long; total = w ∙ sym sum }

-- Masks have words for every node.
pub wide_words : (p : ℕ) → p ≤ most_nodes → p ≤ 64 * mask_words p
wide_words p h = by_size p (λ s e. omega (arith, e)) (λ s e. omega (arith, e))

pub slot_fine : (s : ℕ) → 1 ≤ s → s < suc last_slot → slot_ok s ≡ true
unfolding slot_ok
slot_fine s a b = both_and (leb 1 s) (leb s last_slot) (le-leb 1 s a) (le-leb s last_slot (omega arith))

-- Masks of the record's width can be judged with its stakes.
pub kept_judgeable : (ws : List ℕ) (s : ℕ) → Judging ws s → (t : LentTable) → Fit (table_of (ledger_of ws)) t → (stakes a b : List ℕ) → stakes ≡ table_of (ledger_of ws)
    → length a ≡ mask_words (places (ledger_of ws)) → length b ≡ mask_words (places (ledger_of ws)) → Keepable stakes t s a b
kept_judgeable ws s j t f stakes a b e x y =
    let l = ledger_of ws in
    let count : length stakes ≡ l.count = ap length e ∙ front_long l.stakes l.count j.table.few in
    record {
      weighty = record {
        fit = subst (λ (xs : List ℕ). Fit xs t) (sym e) f;
        wide = record { long = omega (arith, count, j.full, j.few, x, wide_words (places l) (omega (arith, j.full, j.few))); same = y ∙ sym x };
      };
      slot = slot_fine s j.later j.slot;
    }

-- ---- a place

-- What is judged is what the place keeps.
pub judged_same : (stakes table : List ℕ) (k : CertificateKind) (s n block : ℕ) (a b : List ℕ) (q : Kept) → stakes ≡ table → k ≡ place_kind n → block ≡ q.block
    → joined a ≡ q.maska → joined b ≡ q.maskb → is_fine (judge_kind stakes k (certificate_of (headed s block) a b)) ≡ is_fine (judge_kind table (place_kind n) (kept_in s q))
judged_same stakes table k s n block a b q e f g x y =
    λ i. is_fine (judge_kind (e i) (f i) (record { kind = 0; slot = s; block = g i; maska = x i; maskb = y i }))

module _ (stakes : List ℕ) (s n : ℕ) (q : Kept) where
  pub fits_none : is_kept q ≡ false → none q.block ≡ certificate_fits stakes s n q
  unfolding certificate_fits
  fits_none e = sym (given_off (is_kept q) (none q.block) (λ _. is_fine (judge_kind stakes (place_kind n) (kept_in s q))) e)

  pub fits_kept : is_kept q ≡ true → is_fine (judge_kind stakes (place_kind n) (kept_in s q)) ≡ certificate_fits stakes s n q
  unfolding certificate_fits
  fits_kept e = sym (given_on (is_kept q) (none q.block) (λ _. is_fine (judge_kind stakes (place_kind n) (kept_in s q))) e)

-- ---- a place behind others

module _ (qs : List Kept) (n : ℕ) where
  abbrev kept : ℕ → Bool
  kept m = is_kept (get_or qs m no_kept)

  abbrev same : ℕ → Bool
  same m = eqb (get_or qs m no_kept).block (get_or qs n no_kept).block

  -- Of the first m places, those of kind 3 are for other blocks than place n.
  abbrev pub apart_to : ℕ → Bool
  apart_to m = all_to m (λ k. not (leb 4 k) || not (same k))

  abbrev behind : Bool
  behind = all_to n (λ m. turn_at qs m n)

  shares_is : (m : ℕ) → m < n → (kept n && leb 4 m) ≡ (kept n && same_kind (place_kind m) (place_kind n))
  shares_is m h = ap (λ (t : Bool). kept n && t) (shared_kind m n h)

  turn_free : (m : ℕ) → m < n → (kept n && leb 4 m) ≡ false → turn_at qs m n ≡ true
  turn_free m h f = given_off _ true (λ _. in_turn (get_or qs m no_kept) (get_or qs n no_kept)) (sym (shares_is m h) ∙ f)

  turn_tested : (m : ℕ) → m < n → (kept n && leb 4 m) ≡ true → turn_at qs m n ≡ (kept m && not (same m))
  unfolding in_turn
  turn_tested m h f = given_on _ true (λ _. in_turn (get_or qs m no_kept) (get_or qs n no_kept)) (sym (shares_is m h) ∙ f)

  -- A free place is behind all, and so is one up to the first of kind 3.
  pub behind_free : (k : Bool) → k ≡ kept n → (k && ltb 4 n) ≡ false → true ≡ behind
  behind_free k e f =
      sym (all_each n (λ m. turn_at qs m n) (λ m h. turn_free m h (subst (λ (t : Bool). (t && leb 4 m) ≡ false) e (go k m h f))))
    where
      go : (k : Bool) (m : ℕ) → m < n → (k && ltb 4 n) ≡ false → (k && leb 4 m) ≡ false
      go true m h f = lt-leb 4 m (omega (arith, ltb-false 4 n f))
      go false m h f = refl

  pub past_first : (k : Bool) → k ≡ kept n → (k && ltb 4 n) ≡ true → (kept n ≡ true) × (4 < n)
  past_first k e f = let p = and_both k (ltb 4 n) f in (sym e ∙ p.0, ltb-true 4 n p.1)

  -- Else those of kind 3 before it are filled, and for other blocks.
  behind_is : kept n ≡ true → behind ≡ (filled_to qs n && apart_to n)
  behind_is e =
      all_same n (λ m. turn_at qs m n) (λ m. (not (leb 4 m) || kept m) && (not (leb 4 m) || not (same m)))
      (λ m h. by_test (leb 4 m)
      (λ t. turn_tested m h (both_and (kept n) (leb 4 m) e t) ∙ ap (λ (x : Bool). (not x || kept m) && (not x || not (same m))) (sym t))
      (λ t. turn_free m h (ap (λ (x : Bool). x && leb 4 m) e ∙ t) ∙ ap (λ (x : Bool). (not x || kept m) && (not x || not (same m))) (sym t)))
      ∙ sym (all_and n (λ m. not (leb 4 m) || kept m) (λ m. not (leb 4 m) || not (same m)))

  pub apart_none : apart_to 4 ≡ true
  apart_none = all_each 4 (λ k. not (leb 4 k) || not (same k)) (λ k h. or_left (not (leb 4 k)) (not (same k)) (ap not (lt-leb 4 k h)))

  pub apart_more : (m x y : ℕ) → apart_to m ≡ true → x ≡ (get_or qs m no_kept).block → y ≡ (get_or qs n no_kept).block → (x ≡ y → ⊥) → apart_to (m + 1) ≡ true
  apart_more m x y e ex ey f =
      let other : same m ≡ false = (λ i. eqb (sym ex i) (sym ey i)) ∙ ne_eqb x y f in
      all_more m _ ∙ both_and (apart_to m) _ e (or_right (not (leb 4 m)) (not (same m)) (ap not other))

  -- One for its block is enough to fail.
  pub behind_repeat : (m x y : ℕ) → kept n ≡ true → 4 ≤ m → m < n → x ≡ (get_or qs m no_kept).block → y ≡ (get_or qs n no_kept).block → x ≡ y → false ≡ behind
  behind_repeat m x y e l h ex ey f =
      by_test behind
      (λ t. true_not_false (same m) (eq-eqb _ _ (sym ex ∙ f ∙ ey)) (not-true (same m) (and_both (kept m) (not (same m))
      (sym (turn_tested m h (both_and (kept n) (leb 4 m) e (le-leb 4 m l))) ∙ all_at n m (λ m. turn_at qs m n) t h)).1))
      (λ t. sym t)

  pub behind_apart : (filled : Bool) → filled ≡ filled_to qs n → kept n ≡ true → apart_to n ≡ true → filled ≡ behind
  behind_apart filled e k a = e ∙ and_true (filled_to qs n) ∙ ap (λ (t : Bool). filled_to qs n && t) (sym a) ∙ sym (behind_is k)
    where
      and_true : (t : Bool) → t ≡ (t && true)
      and_true true = refl
      and_true false = refl

  -- A place of kind 3 behind all tells whether those up to it are filled.
  pub filled_more : (k : Bool) → k ≡ kept n → behind ≡ true → 4 < n + 1 → k ≡ filled_to qs (n + 1)
  filled_more k e b h =
      same_test k (filled_to qs (n + 1))
      (λ t.
      let f = sym e ∙ t in
      all_more n _ ∙ both_and (filled_to qs n) _ (and_both (filled_to qs n) (apart_to n) (sym (behind_is f) ∙ b)).0 (or_right (not (leb 4 n)) (kept n) f))
      (λ t. e ∙ or_cases (not (leb 4 n)) (kept n) (all_at (n + 1) n (λ m. not (leb 4 m) || kept m) t (omega arith))
      (λ f. true_not_false (leb 4 n) (le-leb 4 n (omega arith)) (not-true (leb 4 n) f)) (λ f. f))

-- ---- all places

module _ (stakes : List ℕ) (s : ℕ) (qs : List Kept) where
  -- The test of place n.
  abbrev pub place_fits : ℕ → Bool
  place_fits n = certificate_fits stakes s n (get_or qs n no_kept) && all_to n (λ m. turn_at qs m n)

  pub all_fit : certificates_fit stakes s qs ≡ all_to (length qs) place_fits
  unfolding certificates_fit
  all_fit =
      (λ i. each_index (certificate_fits stakes s) qs i && apart_index qs i)
      ∙ all_and (length qs) (λ n. certificate_fits stakes s n (get_or qs n no_kept)) (λ n. all_to n (λ m. turn_at qs m n))

  -- One that fails a part of its test is enough to fail.
  pub unfit : (n : ℕ) → n < length qs → (part : Bool) → (place_fits n ≡ true → part ≡ true) → part ≡ false → false ≡ certificates_fit stakes s qs
  unfit n h part f e =
      by_test (certificates_fit stakes s qs) (λ t. true_not_false part (f (all_at (length qs) n place_fits (sym all_fit ∙ t) h)) e) (λ t. sym t)
