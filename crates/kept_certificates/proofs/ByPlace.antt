-- Kept certificates by their place: tests of every place and of some place, and places that keep nothing. Assumes nothing.
use mathlib.Core.Path.{◌≡◌, refl, sym, ap, ap₂, ◌∙◌}
use mathlib.Core.Bool.{Bool, true, false, not, ◌&&◌, ◌||◌}
use mathlib.Core.List.{List, [], ◌∷◌}
use Prim.Native.Nat.{ℕ, zero, suc, ◌+◌, ◌*◌, ◌<◌, ◌≤◌}
use native.Mathlib.Omega.{arith}
use native.Mathlib.Nat.{add-zero, zero-mul}
use lib.ListN.{length, get_or, take, drop}
use borrow.Author.Tests.{not-true}
use Rattle.rulebook.specs.Tools.{whenever, all_to, some_to}
use Rattle.rulebook.specs.Certificates.{Kept}
use Rattle.rulebook.specs.Ledger.{none, no_kept, is_kept, most_certificates, places, certificates_at}
use Rattle.rulebook.specs.Pool.{place_kind, same_kind, some_kept}
use Rattle.rulebook.specs.WellFormed.{each_kept, kept_blank, certificate_fits, in_turn, certificates_apart, certificates_fit}
use Rattle.rule_laws.proofs.ToolLaws.{given_off, all_same, and_both, both_and}
use Rattle.rule_laws.proofs.WordLaws.{some_same}
use Rattle.record.specs.Layout.{word_at, tabulate, kept_at, mask_words, kept_words, row_start, kept_start, places_in, mask_from, kept_from, ledger_of, InSlot, KeptAt}
use Rattle.record.proofs.Tables.{length_tabulate, get_d_tabulate, part_table}
use Rattle.record.proofs.Places.{row_inside, places_words}
use Rattle.record.proofs.Reading.{kept_words_lem, ledger_shaped}
use Rattle.record.proofs.BlockPlaces.{all_first, all_and, some_first}
use Rattle.kept_certificates.specs.Kept.{all_none}
use Rattle.kept_certificates.proofs.Laws.{none_joined}

-- ---- a test of every place, of some place

pub each_places : (p : ℕ → Kept → Bool) (i : ℕ) (qs : List Kept) → each_kept p i qs ≡ all_to (length qs) (λ j. p (i + j) (get_or qs j no_kept))
unfolding each_kept all_to
each_places p i [] = refl
each_places p i (q ∷ qs) =
    let z : i ≡ i + 0 = omega arith in
    ap₂ (λ (x y : Bool). x && y) (ap (λ (k : ℕ). p k q) z)
    (each_places p (suc i) qs
    ∙ all_same (length qs) (λ j. p (suc i + j) (get_or qs j no_kept)) (λ j. p (i + suc j) (get_or qs j no_kept))
    (λ j h. let e : suc i + j ≡ i + suc j = omega arith in ap (λ (k : ℕ). p k (get_or qs j no_kept)) e))
    ∙ sym (all_first (length qs) (λ j. p (i + j) (get_or (q ∷ qs) j no_kept)))

-- The test holds of place j, and it keeps a certificate.
abbrev pub kept_and : (ℕ → Kept → Bool) → ℕ → Kept → Bool
kept_and p j q = whenever (is_kept q) (λ _. p j q) false

pub some_places : (p : ℕ → Kept → Bool) (i : ℕ) (qs : List Kept) → some_kept p i qs ≡ some_to (length qs) (λ j. kept_and p (i + j) (get_or qs j no_kept))
unfolding some_kept some_to
some_places p i [] = refl
some_places p i (q ∷ qs) =
    let z : i ≡ i + 0 = omega arith in
    ap₂ (λ (x y : Bool). x || y) (ap (λ (k : ℕ). kept_and p k q) z)
    (some_places p (suc i) qs
    ∙ some_same (length qs) (λ j. kept_and p (suc i + j) (get_or qs j no_kept)) (λ j. kept_and p (i + suc j) (get_or qs j no_kept))
    (λ j h. let e : suc i + j ≡ i + suc j = omega arith in ap (λ (k : ℕ). kept_and p k (get_or qs j no_kept)) e))
    ∙ sym (some_first (length qs) (λ j. kept_and p (i + j) (get_or (q ∷ qs) j no_kept)))

-- ---- the order of the places

-- What place b keeps is in turn behind what place a keeps, or is of another kind, or place b keeps nothing.
abbrev pub turns : ℕ → ℕ → Kept → Kept → Bool
turns a b q r = whenever (is_kept r && same_kind (place_kind a) (place_kind b)) (λ _. in_turn q r) true

-- Place k, the first being place i, is in turn behind every place before it.
abbrev pub behind_at : ℕ → List Kept → ℕ → Bool
behind_at i qs k = all_to k (λ j. turns (i + j) (i + k) (get_or qs j no_kept) (get_or qs k no_kept))

behind_first : (i k : ℕ) (q : Kept) (qs : List Kept) → (turns i (suc i + k) q (get_or qs k no_kept) && behind_at (suc i) qs k) ≡ behind_at i (q ∷ qs) (suc k)
behind_first i k q qs =
    let r : Kept = get_or qs k no_kept in
    let z : i ≡ i + 0 = omega arith in
    let m : suc i + k ≡ i + suc k = omega arith in
    ap₂ (λ (x y : Bool). x && y) (ap₂ (λ (a b : ℕ). turns a b q r) z m)
    (all_same k (λ j. turns (suc i + j) (suc i + k) (get_or qs j no_kept) r) (λ j. turns (i + suc j) (i + suc k) (get_or qs j no_kept) r)
    (λ j h. let n : suc i + j ≡ i + suc j = omega arith in ap₂ (λ (a b : ℕ). turns a b (get_or qs j no_kept) r) n m))
    ∙ sym (all_first k (λ j. turns (i + j) (i + suc k) (get_or (q ∷ qs) j no_kept) r))

pub apart_places : (i : ℕ) (qs : List Kept) → certificates_apart i qs ≡ all_to (length qs) (behind_at i qs)
unfolding certificates_apart all_to
apart_places i [] = refl
apart_places i (q ∷ qs) =
    let n = length qs in
    ap₂ (λ (x y : Bool). x && y) (each_places (λ j r. turns i j q r) (suc i) qs) (apart_places (suc i) qs)
    ∙ all_and n (λ k. turns i (suc i + k) q (get_or qs k no_kept)) (behind_at (suc i) qs)
    ∙ all_same n (λ k. turns i (suc i + k) q (get_or qs k no_kept) && behind_at (suc i) qs k) (λ k. behind_at i (q ∷ qs) (suc k)) (λ k h. behind_first i k q qs)
    ∙ sym (all_first n (behind_at i (q ∷ qs)))

-- A slot's kept certificates fit where each place does and is in turn behind those before it.
pub fit_places : (stakes : List ℕ) (s : ℕ) (qs : List Kept)
    → certificates_fit stakes s qs ≡ all_to (length qs) (λ k. certificate_fits stakes s (0 + k) (get_or qs k no_kept) && behind_at 0 qs k)
unfolding certificates_fit
fit_places stakes s qs =
    ap₂ (λ (x y : Bool). x && y) (each_places (certificate_fits stakes s) 0 qs) (apart_places 0 qs)
    ∙ all_and (length qs) (λ k. certificate_fits stakes s (0 + k) (get_or qs k no_kept)) (behind_at 0 qs)

-- ---- places that keep nothing

each_mono : (p r : ℕ → Kept → Bool) (i : ℕ) (qs : List Kept) → ((j : ℕ) (q : Kept) → p j q ≡ true → r j q ≡ true) → each_kept p i qs ≡ true → each_kept r i qs ≡ true
unfolding each_kept
each_mono p r i [] h e = refl
each_mono p r i (q ∷ qs) h e =
    let k = and_both (p i q) (each_kept p (suc i) qs) e in
    both_and (r i q) (each_kept r (suc i) qs) (h i q k.0) (each_mono p r (suc i) qs h k.1)

-- A blank place keeps nothing and has no block.
blank_unkept : (q : Kept) → kept_blank q ≡ true → (is_kept q ≡ false) × (none q.block ≡ true)
unfolding kept_blank
blank_unkept q e =
    let k = and_both (not (is_kept q)) (none q.block) e in (not-true (is_kept q) k.0, k.1)

blank_one : (stakes : List ℕ) (s i : ℕ) (q : Kept) → kept_blank q ≡ true → certificate_fits stakes s i q ≡ true
unfolding certificate_fits
blank_one stakes s i q e = let k = blank_unkept q e in given_off (is_kept q) _ _ k.0 ∙ k.1

blank_apart : (i : ℕ) (qs : List Kept) → each_kept (λ j q. kept_blank q) i qs ≡ true → certificates_apart i qs ≡ true
unfolding certificates_apart each_kept
blank_apart i [] e = refl
blank_apart i (q ∷ qs) e =
    let rest = (and_both (kept_blank q) (each_kept (λ j q. kept_blank q) (suc i) qs) e).1 in
    both_and _ (certificates_apart (suc i) qs)
    (each_mono (λ j r. kept_blank r) (λ j r. whenever (is_kept r && same_kind (place_kind i) (place_kind j)) (λ _. in_turn q r) true) (suc i) qs
    (λ j r t. given_off (is_kept r && same_kind (place_kind i) (place_kind j)) true (λ _. in_turn q r) (ap (λ (x : Bool). x && same_kind (place_kind i) (place_kind j)) (blank_unkept r t).0)) rest)
    (blank_apart (suc i) qs rest)

-- A slot that keeps no certificate fits, whatever the table.
pub blank_fits : (stakes : List ℕ) (s : ℕ) (qs : List Kept) → each_kept (λ j q. kept_blank q) 0 qs ≡ true → certificates_fit stakes s qs ≡ true
unfolding certificates_fit
blank_fits stakes s qs e =
    both_and (each_kept (certificate_fits stakes s) 0 qs) (certificates_apart 0 qs)
    (each_mono (λ j q. kept_blank q) (certificate_fits stakes s) 0 qs (λ j q t. blank_one stakes s j q t) e) (blank_apart 0 qs e)

-- ---- the words of such places

pub all_split : (a b : ℕ) (f : ℕ → Bool) → all_to (a + b) f ≡ (all_to a f && all_to b (λ j. f (a + j)))
unfolding all_to
all_split a zero f = rw (add-zero a) (and_true (all_to a f))
  where
    and_true : (t : Bool) → t ≡ (t && true)
    and_true true = refl
    and_true false = refl
all_split a (suc b) f =
    let e : a + suc b ≡ suc (a + b) = omega arith in
    rw e (ap (λ (t : Bool). t && f (a + b)) (all_split a b f) ∙ and_more (all_to a f) (all_to b (λ j. f (a + j))) (f (a + b)))
  where
    and_more : (x y z : Bool) → ((x && y) && z) ≡ (x && (y && z))
    and_more true y z = refl
    and_more false y z = refl

-- Tests of n parts of k.
pub all_parts : (n k : ℕ) (f : ℕ → Bool) → all_to (n * k) f ≡ all_to n (λ i. all_to k (λ j. f (k * i + j)))
unfolding all_to
all_parts zero k f = rw zero-mul refl
all_parts (suc n) k f =
    let e : suc n * k ≡ n * k + k = omega arith in
    ap (λ (m : ℕ). all_to m f) e
    ∙ all_split (n * k) k f
    ∙ ap₂ (λ (x y : Bool). x && y) (all_parts n k f) (all_same k (λ j. f (n * k + j)) (λ j. f (k * n + j)) (λ j l. let m : n * k + j ≡ k * n + j = omega arith in ap f m))

pub none_table : (n : ℕ) (f : ℕ → ℕ) → all_none (tabulate n f) ≡ all_to n (λ j. none (f j))
unfolding all_none
none_table n f =
    ap (λ (m : ℕ). all_to m (λ i. none (word_at (tabulate n f) i))) (length_tabulate n f)
    ∙ all_same n (λ i. none (word_at (tabulate n f) i)) (λ j. none (f j)) (λ i l. ap none (get_d_tabulate n i f 0 l))

-- A place is blank where its words are all 0.
blank_words : (w at : ℕ) (ws : List ℕ) → all_to (1 + 2 * w) (λ j. none (word_at ws (at + j))) ≡ kept_blank (kept_from w ws at)
unfolding kept_blank
blank_words w at ws =
    let f : ℕ → Bool = λ j. none (word_at ws (at + j)) in
    let mask : (k b : ℕ) → at + k ≡ b → all_to w (λ j. f (k + j)) ≡ none (mask_from w ws b) =
    (λ k b e. all_same w (λ j. f (k + j)) (λ j. none (word_at ws (b + j))) (λ j l. ap (λ (i : ℕ). none (word_at ws i)) (omega arith))
    ∙ sym (none_table w (λ j. word_at ws (b + j))) ∙ none_joined (tabulate w (λ j. word_at ws (b + j)))) in
    let z : at + 0 ≡ at = omega arith in
    let n : 1 + 2 * w ≡ suc (w + w) = omega arith in
    ap (λ (m : ℕ). all_to m f) n
    ∙ all_first (w + w) f
    ∙ ap₂ (λ (x y : Bool). x && y) (ap (λ (i : ℕ). none (word_at ws i)) z)
    (all_split w w (λ j. f (suc j))
    ∙ ap₂ (λ (x y : Bool). x && y)
    (all_same w (λ j. f (suc j)) (λ j. f (1 + j)) (λ j l. let e : suc j ≡ 1 + j = omega arith in ap f e) ∙ mask 1 (at + 1) refl)
    (all_same w (λ j. f (suc (w + j))) (λ j. f (1 + w + j)) (λ j l. let e : suc (w + j) ≡ 1 + w + j = omega arith in ap f e) ∙ mask (1 + w) (at + 1 + w) (omega arith)))
    ∙ turn (none (word_at ws at)) (none (mask_from w ws (at + 1)) && none (mask_from w ws (at + 1 + w)))
  where
    turn : (x y : Bool) → (x && y) ≡ (not (not y) && x)
    turn true true = refl
    turn true false = refl
    turn false true = refl
    turn false false = refl

-- The words of a slot's places are all 0 where it keeps no certificate.
pub slot_blank : (ws : List ℕ) (s from n p w : ℕ) → InSlot ws s → KeptAt ws s 0 from → p ≡ places (ledger_of ws) → w ≡ mask_words p → n ≡ 13 * (1 + 2 * w)
    → (from + n ≤ length ws) × (all_none (take n (drop from ws)) ≡ each_kept (λ i q. kept_blank q) 0 (certificates_at (ledger_of ws) s))
unfolding kept_start
slot_blank ws s from n p w h k e m size =
    let z = places_in ws in
    let f : ℕ → Bool = λ j. none (word_at ws (from + j)) in
    let same : w ≡ mask_words z = m ∙ ap mask_words (e ∙ places_words z ws) in
    let many : n ≡ most_certificates * kept_words z = rw (← same) size in
    let start : from ≡ row_start z s + kept_at = omega (arith, k.is) in
    let room : from + n ≤ length ws = omega (arith, start, many, row_inside z s h.slot, h.long) in
    let each : (i : ℕ) → i < most_certificates → all_to (kept_words z) (λ j. f (kept_words z * i + j)) ≡ kept_blank (get_or (certificates_at (ledger_of ws) s) i no_kept) =
    (λ i l.
    all_same (kept_words z) (λ j. f (kept_words z * i + j)) (λ j. none (word_at ws (kept_start z s i + j)))
    (λ j b. let q : from + (kept_words z * i + j) ≡ kept_start z s i + j = omega arith in ap (λ (t : ℕ). none (word_at ws t)) q)
    ∙ blank_words (mask_words z) (kept_start z s i) ws
    ∙ ap kept_blank (sym (kept_words_lem z ws s i h.slot l))) in (
      room,
      ap all_none (part_table ws 0 from n room)
          ∙ none_table n (λ j. word_at ws (from + j))
          ∙ ap (λ (t : ℕ). all_to t f) many
          ∙ all_parts most_certificates (kept_words z) f
          ∙ all_same most_certificates (λ i. all_to (kept_words z) (λ j. f (kept_words z * i + j))) (λ i. kept_blank (get_or (certificates_at (ledger_of ws) s) i no_kept)) each
          ∙ ap (λ (t : ℕ). all_to t (λ i. kept_blank (get_or (certificates_at (ledger_of ws) s) i no_kept))) (sym ((ledger_shaped ws).certificates s h.slot))
          ∙ sym (each_places (λ i q. kept_blank q) 0 (certificates_at (ledger_of ws) s)),
    )
