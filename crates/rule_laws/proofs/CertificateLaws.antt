-- Laws of kept certificates: places and kinds, what a certificate in the first free place leaves, which one a writer takes and what the
-- checker says of it. Assumes nothing.
use Rattle.std.specs.Prelude.{Ok}
use mathlib.Core.Path.{◌≡◌, refl, sym, ap, ◌∙◌, subst}
use mathlib.Core.Bool.{Bool, true, false, not, ◌&&◌, ◌||◌}
use mathlib.Core.List.{List, [], ◌∷◌}
use Prim.Native.Nat.{ℕ, zero, suc, ◌+◌, ◌-◌, ◌^◌, ◌≤◌, ◌<◌}
use native.Mathlib.Omega.{arith}
use lib.ListN.{length, get_or}
use lib.Dec.{eqb, leb}
use borrow.Author.Tests.{not-true, not-false, leb-true, leb-false, eqb-true, eqb-false, eq-eqb}
use Rattle.rulebook.specs.declared.CertificateKind.{CertificateKind}
use Rattle.rulebook.specs.declared.CertificateKind.TheVariants as certificate
use Rattle.rulebook.specs.declared.Refusal.TheVariants as refusal
use Rattle.rulebook.specs.Tools.{choose, whenever, all_to, some_to}
use Rattle.rulebook.specs.Certificates.{Certificate, Kept}
use Rattle.rulebook.specs.PaperNumbers.{certificate_number, kind_in, number_in}
use Rattle.rulebook.specs.Weights.{last_slot, family, slot_ok, total_to, reaches}
use Rattle.rulebook.specs.Ledger.{Ledger, none, no_kept, table_of, row_at, blocks_at, certificates_at, is_kept}
use Rattle.rulebook.specs.Pool.{fifths_of, place_kind, same_kind, serves_as, some_kept, is_for, kept_names}
use Rattle.rulebook.specs.Packets.{bit}
use Rattle.rulebook.specs.Checker.{is_other_kind, block_misfits, without_b, bad_signers, signed, signed_weight, judge_weight, judge_kind}
use Rattle.rulebook.specs.Taking.{is_room, has_room, fill_kept, is_repeat}
use Rattle.rulebook.specs.Writers.{find_kept, kept_for}
use Rattle.rulebook.specs.WellFormed.{flag, blocks_fit, each_kept, in_turn, certificates_apart, certificates_fit, row_fits, row_blank, head_fits, well_formed}
use Rattle.rule_laws.proofs.ToolLaws.{and_both, both_and, or_left, or_right, or_cases, or_none, by_test, true_not_false, given_on, given_off, given_both, choose_on, choose_off, all_at}
use Rattle.rule_laws.proofs.LowestLaws.{Among, ZeroFree, among_name, among_named, named_cases, free_named}
use Rattle.rule_laws.proofs.WeightLaws.{reaches_fewer}
use Rattle.rule_laws.proofs.KindLaws.{kind_back}
use Rattle.rule_laws.proofs.RuleLaws.{refuse_fine, refuse_none}

-- ---- kinds

pub same_kind_lem : (j k : CertificateKind) → same_kind j k ≡ true → j ≡ k
unfolding same_kind number_in
same_kind_lem j k e =
    sym (kind_back 0 j) ∙ ap (λ (n : ℕ). kind_in 0 (n + family 0)) (eqb-true (certificate_number j) (certificate_number k) e) ∙ kind_back 0 k

pub kind_same : (k : CertificateKind) → same_kind k k ≡ true
unfolding same_kind
kind_same k = eq-eqb (certificate_number k) (certificate_number k) refl

-- "a held kind 1 counts as 2, a 2 as 3": the four ways of serving.
pub serves_cases {ℓ} : {X : Type ℓ} (j k : CertificateKind) → serves_as j k ≡ true → (j ≡ k → X) → (j ≡ certificate.FastFinal → k ≡ certificate.Notar → X)
    → (j ≡ certificate.FastFinal → k ≡ certificate.NotarFallback → X) → (j ≡ certificate.Notar → k ≡ certificate.NotarFallback → X) → X
unfolding serves_as
serves_cases j k e same two three third =
    let fast = same_kind j certificate.FastFinal in
    let notar = same_kind k certificate.Notar in
    let fallback = same_kind k certificate.NotarFallback in
    or_cases (same_kind j k) ((fast && (notar || fallback)) || (same_kind j certificate.Notar && fallback)) e
    (λ t. same (same_kind_lem j k t))
    (λ t. or_cases (fast && (notar || fallback)) (same_kind j certificate.Notar && fallback) t
    (λ u. let a = and_both fast (notar || fallback) u in
    or_cases notar fallback a.1
    (λ w. two (same_kind_lem j certificate.FastFinal a.0) (same_kind_lem k certificate.Notar w))
    (λ w. three (same_kind_lem j certificate.FastFinal a.0) (same_kind_lem k certificate.NotarFallback w)))
    (λ u. let a = and_both (same_kind j certificate.Notar) fallback u in third (same_kind_lem j certificate.Notar a.0) (same_kind_lem k certificate.NotarFallback a.1)))

-- ---- places

-- A place of which the test holds, where it holds of some.
pub some_place : (p : ℕ → Kept → Bool) (i : ℕ) (qs : List Kept) → some_kept p i qs ≡ true → (n : ℕ) × (is_kept (get_or qs n no_kept) ≡ true) × (p (i + n) (get_or qs n no_kept) ≡ true)
unfolding some_kept
some_place p i [] e = absurd cc
some_place p i (q ∷ qs) e =
    or_cases (whenever (is_kept q) (λ _. p i q) false) (some_kept p (suc i) qs) e
    (λ t. let a = given_both (is_kept q) (λ _. p i q) t in (0, a.0, subst (λ (j : ℕ). p j q ≡ true) (omega arith) a.1))
    (λ t. let r = some_place p (suc i) qs t in (suc r.0, r.1, subst (λ (j : ℕ). p j (get_or qs r.0 no_kept) ≡ true) (omega arith) r.2))

pub place_some : (p : ℕ → Kept → Bool) (i : ℕ) (qs : List Kept) (n : ℕ) → is_kept (get_or qs n no_kept) ≡ true → p (i + n) (get_or qs n no_kept) ≡ true → some_kept p i qs ≡ true
unfolding some_kept
place_some p i [] n k e = absurd cc
place_some p i (q ∷ qs) zero k e =
    or_left (whenever (is_kept q) (λ _. p i q) false) (some_kept p (suc i) qs)
    (given_on (is_kept q) false (λ _. p i q) k ∙ subst (λ (j : ℕ). p j q ≡ true) (omega arith) e)
place_some p i (q ∷ qs) (suc n) k e =
    or_right (whenever (is_kept q) (λ _. p i q) false) (some_kept p (suc i) qs)
    (place_some p (suc i) qs n k (subst (λ (j : ℕ). p j (get_or qs n no_kept) ≡ true) (omega arith) e))

-- What holds of every place holds of each.
pub each_at : (p : ℕ → Kept → Bool) (i : ℕ) (qs : List Kept) (n : ℕ) → n < length qs → each_kept p i qs ≡ true → p (i + n) (get_or qs n no_kept) ≡ true
unfolding each_kept
each_at p i [] n h e = absurd (omega arith)
each_at p i (q ∷ qs) zero h e = subst (λ (j : ℕ). p j q ≡ true) (omega arith) (and_both (p i q) (each_kept p (suc i) qs) e).0
each_at p i (q ∷ qs) (suc n) h e =
    subst (λ (j : ℕ). p j (get_or qs n no_kept) ≡ true) (omega arith)
    (each_at p (suc i) qs n (omega arith) (and_both (p i q) (each_kept p (suc i) qs) e).1)

-- Past the places nothing is kept.
pub kept_within : (qs : List Kept) (n : ℕ) → is_kept (get_or qs n no_kept) ≡ true → n < length qs
kept_within [] n e = absurd cc
kept_within (q ∷ qs) zero e = omega arith
kept_within (q ∷ qs) (suc n) e = omega (arith, kept_within qs n e)

-- Where no place is free for a kind, each of its places keeps a certificate.
pub no_room : (k : CertificateKind) (i : ℕ) (qs : List Kept) (n : ℕ) → n < length qs → has_room k i qs ≡ false → same_kind (place_kind (i + n)) k ≡ true → is_kept (get_or qs n no_kept) ≡ true
unfolding has_room
no_room k i [] n h e s = absurd (omega arith)
no_room k i (q ∷ qs) zero h e s =
    let a = or_none (is_room k i q) (has_room k (suc i) qs) e in
    by_test (is_kept q) (λ t. t)
    (λ t. true_not_false (is_room k i q) (both_and (same_kind (place_kind i) k) (not (is_kept q)) (subst (λ (j : ℕ). same_kind (place_kind j) k ≡ true) (omega arith) s) (ap not t)) a.0)
no_room k i (q ∷ qs) (suc n) h e s =
    no_room k (suc i) qs n (omega arith) (or_none (is_room k i q) (has_room k (suc i) qs) e).1 (subst (λ (j : ℕ). same_kind (place_kind j) k ≡ true) (omega arith) s)

-- Two places of one kind, the later of which keeps a certificate: the earlier keeps another.
pub apart_at_lem : (i : ℕ) (qs : List Kept) (m n : ℕ) → m < n → certificates_apart i qs ≡ true → is_kept (get_or qs n no_kept) ≡ true
    → same_kind (place_kind (i + m)) (place_kind (i + n)) ≡ true → in_turn (get_or qs m no_kept) (get_or qs n no_kept) ≡ true
unfolding certificates_apart
apart_at_lem i [] m n h e k s = absurd cc
apart_at_lem i (q ∷ qs) m zero h e k s = absurd (omega arith)
apart_at_lem i (q ∷ qs) zero (suc n) h e k s =
    let test : ℕ → Kept → Bool = λ j r. whenever (is_kept r && same_kind (place_kind i) (place_kind j)) (λ _. in_turn q r) true in
    let a = and_both (each_kept test (suc i) qs) (certificates_apart (suc i) qs) e in
    let r = get_or qs n no_kept in
    let first : i + 0 ≡ i = omega arith in
    let later : i + suc n ≡ suc i + n = omega arith in
    let same = subst (λ (j : ℕ). same_kind (place_kind i) (place_kind j) ≡ true) later (subst (λ (j : ℕ). same_kind (place_kind j) (place_kind (i + suc n)) ≡ true) first s) in
    sym (given_on (is_kept r && same_kind (place_kind i) (place_kind (suc i + n))) true (λ _. in_turn q r) (both_and (is_kept r) (same_kind (place_kind i) (place_kind (suc i + n))) k same))
    ∙ each_at test (suc i) qs n (kept_within qs n k) a.0
apart_at_lem i (q ∷ qs) (suc m) (suc n) h e k s =
    let test : ℕ → Kept → Bool = λ j r. whenever (is_kept r && same_kind (place_kind i) (place_kind j)) (λ _. in_turn q r) true in
    let first : i + suc m ≡ suc i + m = omega arith in
    let later : i + suc n ≡ suc i + n = omega arith in
    apart_at_lem (suc i) qs m n (omega arith) (and_both (each_kept test (suc i) qs) (certificates_apart (suc i) qs) e).1 k
    (subst (λ (j : ℕ). same_kind (place_kind (suc i + m)) (place_kind j) ≡ true) later (subst (λ (j : ℕ). same_kind (place_kind j) (place_kind (i + suc n)) ≡ true) first s))

-- A record that 17 lets pass keeps certificates that fit.
pub record_certificates : (l : Ledger) → well_formed l ≡ true → (s : ℕ) → slot_ok s ≡ true → certificates_fit (table_of l) s (certificates_at l s) ≡ true
unfolding well_formed row_fits slot_ok
record_certificates l e s so =
    let range = and_both (leb 1 s) (leb s last_slot) so in
    let low = leb-true 1 s range.0 in
    let high = leb-true s last_slot range.1 in
    let is : suc (s - 1) ≡ s = omega arith in
    let p = given_both (head_fits l) _ e in
    let q = given_both (row_blank l) _ p.1 in
    let r = given_both (all_to last_slot (λ i. row_fits l (suc i))) _ q.1 in
    let f = subst (λ (t : ℕ). row_fits l t ≡ true) is (all_at last_slot (s - 1) (λ i. row_fits l (suc i)) r.0 (omega arith)) in
    let a = and_both (blocks_fit l s (blocks_at l s)) _ f in
    let b = and_both (flag (row_at l s).timed_out && flag (row_at l s).clash) _ a.1 in
    (and_both (certificates_fit (table_of l) s (certificates_at l s)) _ b.1).0

-- A test that follows from another.
pub each_mono : (f g : ℕ → Kept → Bool) (i : ℕ) (qs : List Kept) → ((j : ℕ) (q : Kept) → f j q ≡ true → g j q ≡ true) → each_kept f i qs ≡ true → each_kept g i qs ≡ true
unfolding each_kept
each_mono f g i [] h e = refl
each_mono f g i (q ∷ qs) h e =
    let a = and_both (f i q) (each_kept f (suc i) qs) e in both_and (g i q) (each_kept g (suc i) qs) (h i q a.0) (each_mono f g (suc i) qs h a.1)

-- ---- a certificate in the first free place for its kind

pub fill_long : (k : CertificateKind) (i : ℕ) (p : Kept) (qs : List Kept) → length (fill_kept k i p qs) ≡ length qs
unfolding fill_kept choose
fill_long k i p [] = refl
fill_long k i p (q ∷ qs) = go (is_room k i q) (fill_long k (suc i) p qs)
  where
    go : (z : Bool) → length (fill_kept k (suc i) p qs) ≡ length qs → length (choose z (p ∷ qs) (q ∷ fill_kept k (suc i) p qs)) ≡ suc (length qs)
    go true e = refl
    go false e = ap suc e

-- A place afterwards: as it was, or it kept nothing, is for that kind and keeps the certificate.
pub fill_at : {X : Type 0} (k : CertificateKind) (i : ℕ) (p : Kept) (qs : List Kept) (n : ℕ) → (get_or (fill_kept k i p qs) n no_kept ≡ get_or qs n no_kept → X)
    → (get_or (fill_kept k i p qs) n no_kept ≡ p → is_kept (get_or qs n no_kept) ≡ false → same_kind (place_kind (i + n)) k ≡ true → X) → X
unfolding fill_kept choose
fill_at k i p [] n f g = f refl
fill_at {X} k i p (q ∷ qs) n f g = go (is_room k i q) refl (λ m c d. fill_at k (suc i) p qs m c d) n f g
  where
    go : (z : Bool) → is_room k i q ≡ z
        → ((m : ℕ) → (get_or (fill_kept k (suc i) p qs) m no_kept ≡ get_or qs m no_kept → X)
        → (get_or (fill_kept k (suc i) p qs) m no_kept ≡ p → is_kept (get_or qs m no_kept) ≡ false → same_kind (place_kind (suc i + m)) k ≡ true → X) → X)
        → (m : ℕ) → (get_or (choose z (p ∷ qs) (q ∷ fill_kept k (suc i) p qs)) m no_kept ≡ get_or (q ∷ qs) m no_kept → X)
        → (get_or (choose z (p ∷ qs) (q ∷ fill_kept k (suc i) p qs)) m no_kept ≡ p → is_kept (get_or (q ∷ qs) m no_kept) ≡ false → same_kind (place_kind (i + m)) k ≡ true → X) → X
    go true e ih zero c d =
        let a = and_both (same_kind (place_kind i) k) (not (is_kept q)) e in
        d refl (not-true (is_kept q) a.1) (subst (λ (j : ℕ). same_kind (place_kind j) k ≡ true) (omega arith) a.0)
    go true e ih (suc m) c d = c refl
    go false e ih zero c d = c refl
    go false e ih (suc m) c d = ih m c (λ x y w. d x y (subst (λ (j : ℕ). same_kind (place_kind j) k ≡ true) (omega arith) w))

-- What holds of all, and of the new one in every place of its kind, holds of all afterwards.
pub fill_each : (f : ℕ → Kept → Bool) (k : CertificateKind) (i : ℕ) (p : Kept) (qs : List Kept) → ((j : ℕ) → same_kind (place_kind j) k ≡ true → f j p ≡ true)
    → each_kept f i qs ≡ true → each_kept f i (fill_kept k i p qs) ≡ true
unfolding each_kept fill_kept choose
fill_each f k i p [] h e = refl
fill_each f k i p (q ∷ qs) h e =
    go (is_room k i q) refl (and_both (f i q) (each_kept f (suc i) qs) e) (fill_each f k (suc i) p qs h)
  where
    go : (z : Bool) → is_room k i q ≡ z → (f i q ≡ true) × (each_kept f (suc i) qs ≡ true)
        → (each_kept f (suc i) qs ≡ true → each_kept f (suc i) (fill_kept k (suc i) p qs) ≡ true) → each_kept f i (choose z (p ∷ qs) (q ∷ fill_kept k (suc i) p qs)) ≡ true
    go true z a ih = both_and (f i p) (each_kept f (suc i) qs) (h i (and_both (same_kind (place_kind i) k) (not (is_kept q)) z).0) a.1
    go false z a ih = both_and (f i q) (each_kept f (suc i) (fill_kept k (suc i) p qs)) a.0 (ih a.1)

-- The test of two places of the record: those of one kind in turn.
apart_test : ℕ → Kept → ℕ → Kept → Bool
apart_test i q j r = whenever (is_kept r && same_kind (place_kind i) (place_kind j)) (λ _. in_turn q r) true

-- Behind a place that keeps nothing all of its kind keep nothing.
empty_turn : (i j : ℕ) (p q r : Kept) → is_kept q ≡ false → apart_test i q j r ≡ true → apart_test i p j r ≡ true
unfolding apart_test in_turn
empty_turn i j p q r t e =
    let both = is_kept r && same_kind (place_kind i) (place_kind j) in
    by_test both
    (λ u. true_not_false (is_kept q) (and_both (is_kept q) (not (eqb q.block r.block)) (sym (given_on both true (λ _. in_turn q r) u) ∙ e)).0 t)
    (λ u. given_off both true (λ _. in_turn p r) u)

-- The new one behind a place of its kind, which keeps another block.
turn_new : (i j : ℕ) (k : CertificateKind) (q p : Kept) → is_room k i q ≡ false → whenever (is_kept q) (λ _. is_repeat k p.block i q) false ≡ false
    → same_kind (place_kind j) k ≡ true → apart_test i q j p ≡ true
unfolding apart_test in_turn is_repeat
turn_new i j k q p z n s =
    let both = is_kept p && same_kind (place_kind i) (place_kind j) in
    by_test both
    (λ u.
    let ik : same_kind (place_kind i) k ≡ true =
    subst (λ (c : CertificateKind). same_kind (place_kind i) c ≡ true) (same_kind_lem (place_kind j) k s) (and_both (is_kept p) (same_kind (place_kind i) (place_kind j)) u).1 in
    given_on both true (λ _. in_turn q p) u
    ∙ by_test (is_kept q)
    (λ full.
    both_and (is_kept q) (not (eqb q.block p.block)) full
    (ap not (by_test (eqb q.block p.block)
    (λ e. true_not_false (whenever (is_kept q) (λ _. is_repeat k p.block i q) false)
    (given_on (is_kept q) false (λ _. is_repeat k p.block i q) full ∙ both_and (same_kind (place_kind i) k) (eqb q.block p.block) ik e) n)
    (λ e. e))))
    (λ hollow. true_not_false (is_room k i q) (both_and (same_kind (place_kind i) k) (not (is_kept q)) ik (ap not hollow)) z))
    (λ u. given_off both true (λ _. in_turn q p) u)

-- Still from the front, and none repeats another.
pub fill_kept_apart : (k : CertificateKind) (i : ℕ) (p : Kept) (qs : List Kept) → some_kept (is_repeat k p.block) i qs ≡ false
    → certificates_apart i qs ≡ true → certificates_apart i (fill_kept k i p qs) ≡ true
unfolding certificates_apart fill_kept choose some_kept apart_test
fill_kept_apart k i p [] d e = refl
fill_kept_apart k i p (q ∷ qs) d e =
    go (is_room k i q) refl
    (or_none (whenever (is_kept q) (λ _. is_repeat k p.block i q) false) (some_kept (is_repeat k p.block) (suc i) qs) d)
    (and_both (each_kept (apart_test i q) (suc i) qs) (certificates_apart (suc i) qs) e) (fill_kept_apart k (suc i) p qs)
  where
    go : (z : Bool) → is_room k i q ≡ z
        → (whenever (is_kept q) (λ _. is_repeat k p.block i q) false ≡ false) × (some_kept (is_repeat k p.block) (suc i) qs ≡ false)
        → (each_kept (apart_test i q) (suc i) qs ≡ true) × (certificates_apart (suc i) qs ≡ true)
        → (some_kept (is_repeat k p.block) (suc i) qs ≡ false → certificates_apart (suc i) qs ≡ true → certificates_apart (suc i) (fill_kept k (suc i) p qs) ≡ true)
        → certificates_apart i (choose z (p ∷ qs) (q ∷ fill_kept k (suc i) p qs)) ≡ true
    go true z n a ih =
        let t = not-true (is_kept q) (and_both (same_kind (place_kind i) k) (not (is_kept q)) z).1 in
        both_and (each_kept (apart_test i p) (suc i) qs) (certificates_apart (suc i) qs)
        (each_mono (apart_test i q) (apart_test i p) (suc i) qs (λ j r u. empty_turn i j p q r t u) a.0) a.1
    go false z n a ih =
        both_and (each_kept (apart_test i q) (suc i) (fill_kept k (suc i) p qs)) (certificates_apart (suc i) (fill_kept k (suc i) p qs))
        (fill_each (apart_test i q) k (suc i) p qs (λ j s. turn_new i j k q p z n.0 s) a.0) (ih n.1 a.1)

-- ---- the one that a writer takes

-- What is found stands in a place for the kind, and is for the block.
pub find_place : (j : CertificateKind) (b i : ℕ) (qs : List Kept) → is_kept (find_kept j b i qs) ≡ true
    → (n : ℕ) × (get_or qs n no_kept ≡ find_kept j b i qs) × (place_kind (i + n) ≡ j) × ((find_kept j b i qs).block ≡ b)
unfolding find_kept choose
find_place j b i [] e = absurd cc
find_place j b i (q ∷ qs) e = go (is_kept q && (same_kind (place_kind i) j && eqb q.block b)) refl (find_place j b (suc i) qs) e
  where
    go : (z : Bool) → (is_kept q && (same_kind (place_kind i) j && eqb q.block b)) ≡ z
        → (is_kept (find_kept j b (suc i) qs) ≡ true
        → (n : ℕ) × (get_or qs n no_kept ≡ find_kept j b (suc i) qs) × (place_kind (suc i + n) ≡ j) × ((find_kept j b (suc i) qs).block ≡ b))
        → is_kept (choose z q (find_kept j b (suc i) qs)) ≡ true
        → (n : ℕ) × (get_or (q ∷ qs) n no_kept ≡ choose z q (find_kept j b (suc i) qs)) × (place_kind (i + n) ≡ j) × ((choose z q (find_kept j b (suc i) qs)).block ≡ b)
    go true t ih u =
        let a = and_both (same_kind (place_kind i) j) (eqb q.block b) (and_both (is_kept q) _ t).1 in
        (0, refl, subst (λ (m : ℕ). place_kind m ≡ j) (omega arith) (same_kind_lem (place_kind i) j a.0), eqb-true q.block b a.1)
    go false t ih u =
        let r = ih u in (suc r.0, r.1, subst (λ (m : ℕ). place_kind m ≡ j) (omega arith) r.2, r.3)

-- Where such a one is kept, one is found.
pub find_some : (j : CertificateKind) (b i : ℕ) (qs : List Kept) (n : ℕ) → is_kept (get_or qs n no_kept) ≡ true → place_kind (i + n) ≡ j → (get_or qs n no_kept).block ≡ b
    → is_kept (find_kept j b i qs) ≡ true
unfolding find_kept choose
find_some j b i [] n k p e = absurd cc
find_some j b i (q ∷ qs) n k p e = go (is_kept q && (same_kind (place_kind i) j && eqb q.block b)) refl (find_some j b (suc i) qs) n k p e
  where
    go : (z : Bool) → (is_kept q && (same_kind (place_kind i) j && eqb q.block b)) ≡ z
        → ((m : ℕ) → is_kept (get_or qs m no_kept) ≡ true → place_kind (suc i + m) ≡ j → (get_or qs m no_kept).block ≡ b → is_kept (find_kept j b (suc i) qs) ≡ true)
        → (m : ℕ) → is_kept (get_or (q ∷ qs) m no_kept) ≡ true → place_kind (i + m) ≡ j
        → (get_or (q ∷ qs) m no_kept).block ≡ b → is_kept (choose z q (find_kept j b (suc i) qs)) ≡ true
    go true t ih m c d f = (and_both (is_kept q) _ t).0
    go false t ih zero c d f =
        let s : place_kind i ≡ j = subst (λ (m : ℕ). place_kind m ≡ j) (omega arith) d in
        true_not_false (is_kept q && (same_kind (place_kind i) j && eqb q.block b))
        (both_and (is_kept q) _ c (both_and (same_kind (place_kind i) j) (eqb q.block b) (subst (λ (h : CertificateKind). same_kind (place_kind i) h ≡ true) s (kind_same (place_kind i))) (eq-eqb q.block b f))) t
    go false t ih (suc m) c d f = ih m c (subst (λ (x : ℕ). place_kind x ≡ j) (omega arith) d) f

-- A kept certificate that serves: its place, and that it is the one that the writer takes.
pub record Serving (qs : List Kept) (k : CertificateKind) (b : ℕ) (q : Kept) : Type 0 where
  pub place : ℕ
  pub stands : get_or qs place no_kept ≡ q
  pub kept : is_kept q ≡ true
  pub serves : serves_as (place_kind place) k ≡ true
  pub block : q.block ≡ b

pub serves_same : (k : CertificateKind) → serves_as k k ≡ true
unfolding serves_as
serves_same k = or_left (same_kind k k) _ (kind_same k)

serves_third : serves_as certificate.Notar certificate.NotarFallback ≡ true
unfolding serves_as same_kind certificate_number
serves_third = refl

serves_two : serves_as certificate.FastFinal certificate.Notar ≡ true
unfolding serves_as same_kind certificate_number
serves_two = refl

serves_three : serves_as certificate.FastFinal certificate.NotarFallback ≡ true
unfolding serves_as same_kind certificate_number
serves_three = refl

-- What serves as kind 2 serves as kind 3.
pub serves_on : (j : CertificateKind) → serves_as j certificate.Notar ≡ true → serves_as j certificate.NotarFallback ≡ true
serves_on j e =
    let to : (i : CertificateKind) → j ≡ i → serves_as i certificate.NotarFallback ≡ true → serves_as j certificate.NotarFallback ≡ true = λ i p s.
    subst (λ (c : CertificateKind). serves_as c certificate.NotarFallback ≡ true) (sym p) s in
    serves_cases j certificate.Notar e (λ p. to certificate.Notar p serves_third) (λ p q. to certificate.FastFinal p serves_three) (λ p q. to certificate.FastFinal p serves_three)
    (λ p q. to certificate.Notar p serves_third)

-- What is found of kind j serves as kind k.
found_serving : (qs : List Kept) (j k : CertificateKind) (b : ℕ) → serves_as j k ≡ true → is_kept (find_kept j b 0 qs) ≡ true → Serving qs k b (find_kept j b 0 qs)
found_serving qs j k b s e =
    let r = find_place j b 0 qs e in
    record {
      place = r.0;
      stands = r.1;
      kept = e;
      serves = subst (λ (m : ℕ). serves_as (place_kind m) k ≡ true) (omega arith) (subst (λ (c : CertificateKind). serves_as c k ≡ true) (sym r.2) s);
      block = r.3;
    }

-- Where a kept certificate serves, the writer's does.
pub kept_serving : (qs : List Kept) (k : CertificateKind) (b : ℕ) → some_kept (is_for k b) 0 qs ≡ true → Serving qs k b (kept_for k b qs)
unfolding is_for kept_for
kept_serving qs k b e =
    let r = some_place (is_for k b) 0 qs e in
    let n = r.0 in
    let a = and_both (serves_as (place_kind n) k) (eqb (get_or qs n no_kept).block b) (subst (λ (m : ℕ). is_for k b m (get_or qs n no_kept) ≡ true) (omega arith) r.2) in
    let here : (j : CertificateKind) → place_kind n ≡ j → is_kept (find_kept j b 0 qs) ≡ true = λ j p. find_some j b 0 qs n r.1 (subst (λ (m : ℕ). place_kind m ≡ j) (omega arith) p) (eqb-true (get_or qs n no_kept).block b a.1) in
    let asked = find_kept k b 0 qs in
    let notar = find_kept certificate.Notar b 0 qs in
    let fast = find_kept certificate.FastFinal b 0 qs in
    let out : Kept = choose (is_kept asked) asked (choose (is_kept notar) notar fast) in
    let by_asked : is_kept asked ≡ true → Serving qs k b out = λ t.
    subst (Serving qs k b) (sym (choose_on (is_kept asked) asked (choose (is_kept notar) notar fast) t)) (found_serving qs k k b (serves_same k) t) in
    let by_notar : serves_as certificate.Notar k ≡ true → is_kept notar ≡ true → Serving qs k b out = λ s t.
    by_test (is_kept asked) by_asked (λ u.
    subst (Serving qs k b) (sym (choose_off (is_kept asked) asked (choose (is_kept notar) notar fast) u ∙ choose_on (is_kept notar) notar fast t)) (found_serving qs certificate.Notar k b s t)) in
    let by_fast : serves_as certificate.Notar k ≡ true → serves_as certificate.FastFinal k ≡ true → is_kept fast ≡ true → Serving qs k b out = λ s f t.
    by_test (is_kept asked) by_asked (λ u. by_test (is_kept notar) (by_notar s) (λ w.
    subst (Serving qs k b) (sym (choose_off (is_kept asked) asked (choose (is_kept notar) notar fast) u ∙ choose_off (is_kept notar) notar fast w)) (found_serving qs certificate.FastFinal k b f t))) in
    let to : (j i : CertificateKind) → k ≡ i → serves_as j i ≡ true → serves_as j k ≡ true = λ j i p s. subst (λ (c : CertificateKind). serves_as j c ≡ true) (sym p) s in
    serves_cases (place_kind n) k a.0
    (λ p. by_asked (here k p))
    (λ p q. by_fast (to certificate.Notar certificate.Notar q (serves_same certificate.Notar)) (to certificate.FastFinal certificate.Notar q serves_two) (here certificate.FastFinal p))
    (λ p q. by_fast (to certificate.Notar certificate.NotarFallback q serves_third) (to certificate.FastFinal certificate.NotarFallback q serves_three) (here certificate.FastFinal p))
    (λ p q. by_notar (to certificate.Notar certificate.NotarFallback q serves_third) (here certificate.Notar p))

-- ---- the blocks that kept certificates name

pub kept_free : (qs : List Kept) (bs : List ℕ) → ZeroFree bs → ZeroFree (kept_names qs bs)
unfolding kept_names
kept_free [] bs h = h
kept_free (q ∷ qs) bs h = free_named q.block (kept_names qs bs) (kept_free qs bs h)

-- A kept certificate's block is named, and so are the others.
pub kept_name : (qs : List Kept) (bs : List ℕ) (n b : ℕ) → (get_or qs n no_kept).block ≡ b → none b ≡ false → Among b (kept_names qs bs)
unfolding kept_names
kept_name [] bs n b e f = absurd (eqb-false b 0 f (sym e))
kept_name (q ∷ qs) bs zero b e f = among_name b q.block (kept_names qs bs) (sym e) (ap none e ∙ f)
kept_name (q ∷ qs) bs (suc n) b e f = among_named b q.block (kept_names qs bs) (kept_name qs bs n b e f)

pub kept_beside : (qs : List Kept) (bs : List ℕ) (b : ℕ) → Among b bs → Among b (kept_names qs bs)
unfolding kept_names
kept_beside [] bs b h = h
kept_beside (q ∷ qs) bs b h = among_named b q.block (kept_names qs bs) (kept_beside qs bs b h)

-- A block so named is a kept certificate's, or one of the others.
pub kept_names_cases : {X : Type 0} (qs : List Kept) (bs : List ℕ) (b : ℕ) → Among b (kept_names qs bs) → ((n : ℕ) → (get_or qs n no_kept).block ≡ b → X) → (Among b bs → X) → X
unfolding kept_names
kept_names_cases [] bs b h f g = g h
kept_names_cases (q ∷ qs) bs b h f g =
    named_cases b q.block (kept_names qs bs) h (λ _ e. f 0 (sym e)) (λ k. kept_names_cases qs bs b k (λ n e. f (suc n) e) g)

-- ---- a kept certificate that serves is judged as what it serves as

pub serves_fifths : (j k : CertificateKind) → serves_as j k ≡ true → fifths_of k ≤ fifths_of j
unfolding fifths_of
serves_fifths j k e =
    serves_cases j k e (λ p. subst (λ (c : CertificateKind). fifths_of k ≤ fifths_of c) (sym p) (omega arith)) (λ p q. rw (p, q) (omega arith)) (λ p q. rw (p, q) (omega arith))
    (λ p q. rw (p, q) (omega arith))

-- Where B must be 0 in what it serves as, it is 0 in what it is.
serves_alone : (j k : CertificateKind) → serves_as j k ≡ true → without_b j ≡ false → without_b k ≡ false
unfolding without_b
serves_alone j k e d =
    serves_cases j k e (λ p. subst (λ (c : CertificateKind). without_b c ≡ false) p d) (λ p q. true_not_false (without_b j) (rw p) d) (λ p q. true_not_false (without_b j) (rw p) d)
    (λ p q. true_not_false (without_b j) (rw p) d)

-- The masks of a certificate that the checker accepts name nodes of the table alone.
pub judged_masks : (stakes : List ℕ) (k : CertificateKind) (c : Certificate) → bad_signers (length stakes) k c ≡ false → (c.maska < 2 ^ length stakes) × (c.maskb < 2 ^ length stakes)
unfolding bad_signers
judged_masks stakes k c e =
    let n = length stakes in
    let a = or_none (leb (2 ^ n) c.maska || leb (2 ^ n) c.maskb) _ e in
    let b = or_none (leb (2 ^ n) c.maska) (leb (2 ^ n) c.maskb) a.0 in
    (leb-false (2 ^ n) c.maska b.0, leb-false (2 ^ n) c.maskb b.1)

-- 14 is not due of the same masks.
pub serves_signers : (count : ℕ) (j k : CertificateKind) (c d : Certificate) → serves_as j k ≡ true → d.maska ≡ c.maska → d.maskb ≡ c.maskb
    → bad_signers count j c ≡ false → bad_signers count k d ≡ false
unfolding bad_signers
serves_signers count j k c d s x y e =
    let over = leb (2 ^ count) c.maska || leb (2 ^ count) c.maskb in
    let both = some_to count (λ n. bit c.maska n && bit c.maskb n) in
    let a = or_none over (both || (without_b j && not (none c.maskb))) e in
    let b = or_none both (without_b j && not (none c.maskb)) a.1 in
    rw (x, y) (neither over (both || (without_b k && not (none c.maskb))) a.0 (neither both (without_b k && not (none c.maskb)) b.0 (alone (without_b j) refl b.1)))
  where
    neither : (a b : Bool) → a ≡ false → b ≡ false → (a || b) ≡ false
    neither a b e d = rw (e, d)

    alone : (w : Bool) → without_b j ≡ w → (w && not (none c.maskb)) ≡ false → (without_b k && not (none c.maskb)) ≡ false
    alone true t u = by_test (without_b k) (λ v. rw v u) (λ v. rw v)
    alone false t u = rw (serves_alone j k s t)

-- They weigh the same.
same_weight : (stakes : List ℕ) (c d : Certificate) → d.maska ≡ c.maska → d.maskb ≡ c.maskb → signed_weight stakes d ≡ signed_weight stakes c
unfolding signed_weight signed
same_weight stakes c d x y = rw (x, y)

-- So the checker accepts them as what they serve as.
pub serves_judged : (stakes : List ℕ) (j k : CertificateKind) (c d : Certificate) → serves_as j k ≡ true → is_other_kind k ≡ false → block_misfits k d.block ≡ false
    → d.slot ≡ c.slot → d.maska ≡ c.maska → d.maskb ≡ c.maskb → judge_kind stakes j c ≡ Ok tt → (bad_signers (length stakes) k d ≡ false) × (judge_kind stakes k d ≡ Ok tt)
unfolding judge_kind judge_weight
serves_judged stakes j k c d s z m es ea eb e =
    let n = length stakes in
    let t = total_to stakes n in
    let w = signed_weight stakes c in
    let p1 = refuse_fine (is_other_kind j) refusal.BadKind _ e in
    let p2 = refuse_fine (not (slot_ok c.slot)) refusal.BadSlot _ p1.1 in
    let p3 = refuse_fine (block_misfits j c.block) refusal.BadBlock _ p2.1 in
    let p4 = refuse_fine (bad_signers n j c) refusal.BadSigners _ p3.1 in
    let p5 = refuse_fine (not (reaches (fifths_of j) t w)) _ (Ok tt) p4.1 in
    let heavy = reaches_fewer (fifths_of k) (fifths_of j) t w (serves_fifths j k s) (not-false (reaches (fifths_of j) t w) p5.0) in
    let good = serves_signers n j k c d s ea eb p4.0 in (
      good,
      refuse_none (is_other_kind k) refusal.BadKind _ z
          (refuse_none (not (slot_ok d.slot)) refusal.BadSlot _ (ap (λ (x : ℕ). not (slot_ok x)) es ∙ p2.0)
          (refuse_none (block_misfits k d.block) refusal.BadBlock _ m
          (refuse_none (bad_signers n k d) refusal.BadSigners _ good
          (refuse_none (not (reaches (fifths_of k) t (signed_weight stakes d))) _ (Ok tt) (ap (λ (v : ℕ). not (reaches (fifths_of k) t v)) (same_weight stakes c d ea eb) ∙ ap not heavy) refl)))),
    )
