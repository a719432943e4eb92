-- Kept certificates by the numbers of their places: what a loop over the places finds and leaves. Assumes nothing.
use mathlib.Core.Path.{◌≡◌, refl, sym, ap, ◌∙◌, subst}
use mathlib.Core.Bool.{Bool, true, false, not, ◌&&◌}
use mathlib.Core.List.{List, [], ◌∷◌}
use Prim.Native.Nat.{ℕ, zero, suc, ◌+◌, ◌<◌}
use native.Mathlib.Omega.{arith}
use lib.ListN.{length, get_or, set, drop}
use lib.Dec.{eqb}
use borrow.Author.Tests.{not-true}
use Rattle.rulebook.specs.declared.CertificateKind.{CertificateKind}
use Rattle.rulebook.specs.Certificates.{Kept}
use Rattle.rulebook.specs.Tools.{whenever, all_to, some_to}
use Rattle.rulebook.specs.Ledger.{no_kept, is_kept}
use Rattle.rulebook.specs.Pool.{place_kind, same_kind, some_kept, named, kept_names}
use Rattle.rulebook.specs.Taking.{is_room, has_room, fill_kept}
use Rattle.rulebook.specs.Writers.{find_kept}
use Rattle.rulebook.specs.WellFormed.{each_kept, in_turn, certificates_apart}
use Rattle.rule_laws.proofs.ToolLaws.{choose_on, choose_off, given_on, given_off, and_both, both_and, or_cases, by_test, true_not_false, same_test, all_at, all_each, some_at, some_find}
use Rattle.rule_laws.proofs.CertificateLaws.{some_place, place_some, each_at, kept_within, no_room, apart_at_lem}

-- Counted from place 0.
from_zero : (n : ℕ) → 0 + n ≡ n
from_zero n = omega arith

-- ---- some place, every place

pub some_index : (p : ℕ → Kept → Bool) (qs : List Kept) → some_kept p 0 qs ≡ some_to (length qs) (λ n. is_kept (get_or qs n no_kept) && p n (get_or qs n no_kept))
some_index p qs =
    let f : ℕ → Bool = λ n. is_kept (get_or qs n no_kept) && p n (get_or qs n no_kept) in
    same_test (some_kept p 0 qs) (some_to (length qs) f)
    (λ e.
    let r = some_place p 0 qs e in
    let n = r.0 in
    some_at (length qs) n f (kept_within qs n r.1) (both_and (is_kept (get_or qs n no_kept)) (p n (get_or qs n no_kept)) r.1 (subst (λ (j : ℕ). p j (get_or qs n no_kept) ≡ true) (from_zero n) r.2)))
    (λ e.
    let r = some_find (length qs) f e in
    let n = r.0 in
    let a = and_both (is_kept (get_or qs n no_kept)) (p n (get_or qs n no_kept)) r.2 in
    place_some p 0 qs n a.0 (subst (λ (j : ℕ). p j (get_or qs n no_kept) ≡ true) (sym (from_zero n)) a.1))

pub each_all : (p : ℕ → Kept → Bool) (i : ℕ) (qs : List Kept) → ((n : ℕ) → n < length qs → p (i + n) (get_or qs n no_kept) ≡ true) → each_kept p i qs ≡ true
unfolding each_kept
each_all p i [] f = refl
each_all p i (q ∷ qs) f =
    both_and (p i q) (each_kept p (suc i) qs) (subst (λ (j : ℕ). p j q ≡ true) (omega arith) (f 0 (omega arith)))
    (each_all p (suc i) qs (λ n h. subst (λ (j : ℕ). p j (get_or qs n no_kept) ≡ true) (omega arith) (f (suc n) (omega arith))))

pub each_index : (p : ℕ → Kept → Bool) (qs : List Kept) → each_kept p 0 qs ≡ all_to (length qs) (λ n. p n (get_or qs n no_kept))
each_index p qs =
    let f : ℕ → Bool = λ n. p n (get_or qs n no_kept) in
    same_test (each_kept p 0 qs) (all_to (length qs) f)
    (λ e. all_each (length qs) f (λ n h. subst (λ (j : ℕ). p j (get_or qs n no_kept) ≡ true) (from_zero n) (each_at p 0 qs n h e)))
    (λ e. each_all p 0 qs (λ n h. subst (λ (j : ℕ). p j (get_or qs n no_kept) ≡ true) (sym (from_zero n)) (all_at (length qs) n f e h)))

-- ---- a free place

room_place : (k : CertificateKind) (i : ℕ) (qs : List Kept) → has_room k i qs ≡ true → (n : ℕ) × (n < length qs) × (is_room k (i + n) (get_or qs n no_kept) ≡ true)
unfolding has_room
room_place k i [] e = absurd cc
room_place k i (q ∷ qs) e =
    or_cases (is_room k i q) (has_room k (suc i) qs) e
    (λ t. (0, omega arith, subst (λ (j : ℕ). is_room k j q ≡ true) (omega arith) t))
    (λ t. let r = room_place k (suc i) qs t in (suc r.0, omega (arith, r.1), subst (λ (j : ℕ). is_room k j (get_or qs r.0 no_kept) ≡ true) (omega arith) r.2))

pub room_index : (k : CertificateKind) (qs : List Kept) → has_room k 0 qs ≡ some_to (length qs) (λ n. is_room k n (get_or qs n no_kept))
room_index k qs =
    let f : ℕ → Bool = λ n. is_room k n (get_or qs n no_kept) in
    same_test (has_room k 0 qs) (some_to (length qs) f)
    (λ e. let r = room_place k 0 qs e in some_at (length qs) r.0 f r.1 (subst (λ (j : ℕ). is_room k j (get_or qs r.0 no_kept) ≡ true) (from_zero r.0) r.2))
    (λ e.
    let r = some_find (length qs) f e in
    let n = r.0 in
    let a = and_both (same_kind (place_kind n) k) (not (is_kept (get_or qs n no_kept))) r.2 in
    by_test (has_room k 0 qs) (λ t. t)
    (λ t. true_not_false (is_kept (get_or qs n no_kept)) (no_room k 0 qs n r.1 t (subst (λ (j : ℕ). same_kind (place_kind j) k ≡ true) (sym (from_zero n)) a.0)) (not-true (is_kept (get_or qs n no_kept)) a.1)))

-- A certificate in the first free place for its kind is stored there.
fill_from : (k : CertificateKind) (i : ℕ) (p : Kept) (qs : List Kept) (n : ℕ) → n < length qs → is_room k (i + n) (get_or qs n no_kept) ≡ true
    → ((m : ℕ) → m < n → is_room k (i + m) (get_or qs m no_kept) ≡ false) → fill_kept k i p qs ≡ set qs n p
unfolding fill_kept
fill_from k i p [] n h e f = absurd (omega arith)
fill_from k i p (q ∷ qs) zero h e f =
    choose_on (is_room k i q) (p ∷ qs) (q ∷ fill_kept k (suc i) p qs) (subst (λ (j : ℕ). is_room k j q ≡ true) (omega arith) e)
fill_from k i p (q ∷ qs) (suc n) h e f =
    choose_off (is_room k i q) (p ∷ qs) (q ∷ fill_kept k (suc i) p qs) (subst (λ (j : ℕ). is_room k j q ≡ false) (omega arith) (f 0 (omega arith)))
    ∙ ap (λ (xs : List Kept). q ∷ xs)
    (fill_from k (suc i) p qs n (omega arith) (subst (λ (j : ℕ). is_room k j (get_or qs n no_kept) ≡ true) (omega arith) e)
    (λ m l. subst (λ (j : ℕ). is_room k j (get_or qs m no_kept) ≡ false) (omega arith) (f (suc m) (omega arith))))

pub fill_first : (k : CertificateKind) (p : Kept) (qs : List Kept) (n : ℕ) → n < length qs → is_room k n (get_or qs n no_kept) ≡ true
    → ((m : ℕ) → m < n → is_room k m (get_or qs m no_kept) ≡ false) → fill_kept k 0 p qs ≡ set qs n p
fill_first k p qs n h e f =
    fill_from k 0 p qs n h (subst (λ (j : ℕ). is_room k j (get_or qs n no_kept) ≡ true) (sym (from_zero n)) e)
    (λ m l. subst (λ (j : ℕ). is_room k j (get_or qs m no_kept) ≡ false) (sym (from_zero m)) (f m l))

-- ---- the one that a writer looks for

-- Place i keeps a certificate of kind j for block b.
abbrev pub is_asked : CertificateKind → ℕ → ℕ → Kept → Bool
is_asked j b i q = is_kept q && (same_kind (place_kind i) j && eqb q.block b)

find_from : (j : CertificateKind) (b i : ℕ) (qs : List Kept) (n : ℕ) → n < length qs → is_asked j b (i + n) (get_or qs n no_kept) ≡ true
    → ((m : ℕ) → m < n → is_asked j b (i + m) (get_or qs m no_kept) ≡ false) → find_kept j b i qs ≡ get_or qs n no_kept
unfolding find_kept
find_from j b i [] n h e f = absurd (omega arith)
find_from j b i (q ∷ qs) zero h e f = choose_on (is_asked j b i q) q (find_kept j b (suc i) qs) (subst (λ (m : ℕ). is_asked j b m q ≡ true) (omega arith) e)
find_from j b i (q ∷ qs) (suc n) h e f =
    choose_off (is_asked j b i q) q (find_kept j b (suc i) qs) (subst (λ (m : ℕ). is_asked j b m q ≡ false) (omega arith) (f 0 (omega arith)))
    ∙ find_from j b (suc i) qs n (omega arith) (subst (λ (m : ℕ). is_asked j b m (get_or qs n no_kept) ≡ true) (omega arith) e)
    (λ m l. subst (λ (x : ℕ). is_asked j b x (get_or qs m no_kept) ≡ false) (omega arith) (f (suc m) (omega arith)))

pub find_first : (j : CertificateKind) (b : ℕ) (qs : List Kept) (n : ℕ) → n < length qs → is_asked j b n (get_or qs n no_kept) ≡ true
    → ((m : ℕ) → m < n → is_asked j b m (get_or qs m no_kept) ≡ false) → find_kept j b 0 qs ≡ get_or qs n no_kept
find_first j b qs n h e f =
    find_from j b 0 qs n h (subst (λ (m : ℕ). is_asked j b m (get_or qs n no_kept) ≡ true) (sym (from_zero n)) e)
    (λ m l. subst (λ (x : ℕ). is_asked j b x (get_or qs m no_kept) ≡ false) (sym (from_zero m)) (f m l))

find_past : (j : CertificateKind) (b i : ℕ) (qs : List Kept) → ((n : ℕ) → n < length qs → is_asked j b (i + n) (get_or qs n no_kept) ≡ false) → find_kept j b i qs ≡ no_kept
unfolding find_kept
find_past j b i [] f = refl
find_past j b i (q ∷ qs) f =
    choose_off (is_asked j b i q) q (find_kept j b (suc i) qs) (subst (λ (m : ℕ). is_asked j b m q ≡ false) (omega arith) (f 0 (omega arith)))
    ∙ find_past j b (suc i) qs (λ n h. subst (λ (m : ℕ). is_asked j b m (get_or qs n no_kept) ≡ false) (omega arith) (f (suc n) (omega arith)))

pub find_none : (j : CertificateKind) (b : ℕ) (qs : List Kept) → ((n : ℕ) → n < length qs → is_asked j b n (get_or qs n no_kept) ≡ false) → find_kept j b 0 qs ≡ no_kept
find_none j b qs f = find_past j b 0 qs (λ n h. subst (λ (m : ℕ). is_asked j b m (get_or qs n no_kept) ≡ false) (sym (from_zero n)) (f n h))

-- ---- no two of one kind are for one block

-- The test of places m and n, m before n.
abbrev pub turn_at : List Kept → ℕ → ℕ → Bool
turn_at qs m n = whenever (is_kept (get_or qs n no_kept) && same_kind (place_kind m) (place_kind n)) (λ _. in_turn (get_or qs m no_kept) (get_or qs n no_kept)) true

apart_all : (i : ℕ) (qs : List Kept)
    → ((m n : ℕ) → m < n → n < length qs
    → whenever (is_kept (get_or qs n no_kept) && same_kind (place_kind (i + m)) (place_kind (i + n))) (λ _. in_turn (get_or qs m no_kept) (get_or qs n no_kept)) true ≡ true)
    → certificates_apart i qs ≡ true
unfolding certificates_apart
apart_all i [] f = refl
apart_all i (q ∷ qs) f =
    let test : ℕ → Kept → Bool = λ j r. whenever (is_kept r && same_kind (place_kind i) (place_kind j)) (λ _. in_turn q r) true in
    both_and (each_kept test (suc i) qs) (certificates_apart (suc i) qs)
    (each_all test (suc i) qs (λ n h.
    let first : i + 0 ≡ i = omega arith in
    let later : i + suc n ≡ suc i + n = omega arith in
    subst (λ (j : ℕ). whenever (is_kept (get_or qs n no_kept) && same_kind (place_kind i) (place_kind j)) (λ _. in_turn q (get_or qs n no_kept)) true ≡ true) later
    (subst (λ (j : ℕ). whenever (is_kept (get_or qs n no_kept) && same_kind (place_kind j) (place_kind (i + suc n))) (λ _. in_turn q (get_or qs n no_kept)) true ≡ true) first (f 0 (suc n) (omega arith) (omega arith)))))
    (apart_all (suc i) qs (λ m n l h.
    let first : i + suc m ≡ suc i + m = omega arith in
    let later : i + suc n ≡ suc i + n = omega arith in
    subst (λ (j : ℕ). whenever (is_kept (get_or qs n no_kept) && same_kind (place_kind (suc i + m)) (place_kind j)) (λ _. in_turn (get_or qs m no_kept) (get_or qs n no_kept)) true ≡ true) later
    (subst (λ (j : ℕ). whenever (is_kept (get_or qs n no_kept) && same_kind (place_kind j) (place_kind (i + suc n))) (λ _. in_turn (get_or qs m no_kept) (get_or qs n no_kept)) true ≡ true) first (f (suc m) (suc n) (omega arith) (omega arith)))))

pub apart_index : (qs : List Kept) → certificates_apart 0 qs ≡ all_to (length qs) (λ n. all_to n (λ m. turn_at qs m n))
apart_index qs =
    same_test (certificates_apart 0 qs) (all_to (length qs) (λ n. all_to n (λ m. turn_at qs m n)))
    (λ e. all_each (length qs) (λ n. all_to n (λ m. turn_at qs m n)) (λ n h. all_each n (λ m. turn_at qs m n) (λ m l.
    let both = is_kept (get_or qs n no_kept) && same_kind (place_kind m) (place_kind n) in
    by_test both
    (λ t.
    let a = and_both (is_kept (get_or qs n no_kept)) (same_kind (place_kind m) (place_kind n)) t in
    let same = subst (λ (j : ℕ). same_kind (place_kind (0 + m)) (place_kind j) ≡ true) (sym (from_zero n)) (subst (λ (j : ℕ). same_kind (place_kind j) (place_kind n) ≡ true) (sym (from_zero m)) a.1) in
    given_on both true (λ _. in_turn (get_or qs m no_kept) (get_or qs n no_kept)) t ∙ apart_at_lem 0 qs m n l e a.0 same)
    (λ t. given_off both true (λ _. in_turn (get_or qs m no_kept) (get_or qs n no_kept)) t))))
    (λ e. apart_all 0 qs (λ m n l h.
    let t = all_at n m (λ m. turn_at qs m n) (all_at (length qs) n (λ n. all_to n (λ m. turn_at qs m n)) e h) l in
    subst (λ (j : ℕ). whenever (is_kept (get_or qs n no_kept) && same_kind (place_kind (0 + m)) (place_kind j)) (λ _. in_turn (get_or qs m no_kept) (get_or qs n no_kept)) true ≡ true) (sym (from_zero n))
    (subst (λ (j : ℕ). whenever (is_kept (get_or qs n no_kept) && same_kind (place_kind j) (place_kind n)) (λ _. in_turn (get_or qs m no_kept) (get_or qs n no_kept)) true ≡ true) (sym (from_zero m)) t)))

-- ---- the blocks that they name, from the last place to the first

pub names_drop : (qs : List Kept) (bs : List ℕ) (i : ℕ) → i < length qs → kept_names (drop i qs) bs ≡ named (get_or qs i no_kept).block (kept_names (drop (suc i) qs) bs)
unfolding kept_names
names_drop [] bs i h = absurd (omega arith)
names_drop (q ∷ qs) bs zero h = refl
names_drop (q ∷ qs) bs (suc i) h = names_drop qs bs i (omega arith)

pub names_past : (qs : List Kept) (bs : List ℕ) → kept_names (drop (length qs) qs) bs ≡ bs
unfolding kept_names
names_past [] bs = refl
names_past (q ∷ qs) bs = names_past qs bs
