-- The first place that is looked for, and what it says: of room, of a repeat, of a certificate that serves; the kinds of the places.
-- Assumes nothing.
use mathlib.Core.Path.{◌≡◌, refl, sym, ap, ap₂, ◌∙◌}
use mathlib.Core.Bool.{Bool, true, false, ◌&&◌, ◌||◌, true≢false}
use mathlib.Core.List.{List, [], ◌∷◌}
use mathlib.Core.Logic.{◌⊎◌, inl, inr, ⊎_elim}
use Prim.Native.Nat.{ℕ, zero, suc, ◌+◌, ◌<◌, ◌≤◌}
use native.Mathlib.Omega.{arith}
use lib.ListN.{length, get_or, set}
use lib.Seq.{set-get_or, set_out}
use lib.Dec.{eqb, leb, ltb}
use Rattle.std.proofs.Common.{Option, Some, None, le-ltb}
use Rattle.std.specs.Option.{MatchOption, IfSome, is_some, unwrap_or}
use borrow.Author.Tests.{ltb-true, ltb-false, lt-ltb, le-leb, lt-leb, ne_eqb}
use Rattle.rulebook.specs.declared.CertificateKind.{CertificateKind}
use Rattle.rulebook.specs.declared.CertificateKind.TheVariants as certificate
use Rattle.rulebook.specs.Tools.{whenever, choose}
use Rattle.rulebook.specs.Certificates.{Kept}
use Rattle.rulebook.specs.PaperNumbers.{certificate_number}
use Rattle.rulebook.specs.Ledger.{Ledger, Row, no_kept, no_row, is_kept, certificates_at, put_certificates}
use Rattle.rulebook.specs.Pool.{place_kind, same_kind, serves_as, some_kept, is_for, kept_as}
use Rattle.rulebook.specs.Taking.{is_room, has_room, fill_kept, is_repeat}
use Rattle.rulebook.specs.Writers.{find_kept}
use Rattle.rule_laws.proofs.ToolLaws.{choose_on, choose_off, by_test, same_test}
use Rattle.kept_places.specs.declared.Sought.{Sought}
use Rattle.kept_places.specs.declared.Sought.TheVariants as sought
use Rattle.kept_places.specs.Seeking.{suits, wants, seeks, kind_of, from_place, to_place, first_place}

-- ---- what is looked for, kind and block before the masks

both_ways : (a b : Bool) → (a && b) ≡ (b && a)
both_ways true true = refl
both_ways true false = refl
both_ways false true = refl
both_ways false false = refl

sought_in_turn : (t : Sought) (i : ℕ) (q : Kept) → seeks t i q ≡ (suits t i q && wants t (is_kept q))
unfolding seeks suits wants
sought_in_turn (sought.Room k) i q = refl
sought_in_turn (sought.Same k b) i q = both_ways (is_kept q) (is_repeat k b i q)
sought_in_turn (sought.Serving k b) i q = both_ways (is_kept q) (is_for k b i q)

module _ (t : Sought) (i : ℕ) (q : Kept) (b : Bool) (e : b ≡ suits t i q) where
  by_suits : (x : Bool) → b ≡ x → seeks t i q ≡ (x && wants t (is_kept q))
  by_suits x f = sought_in_turn t i q ∙ ap (λ (y : Bool). y && wants t (is_kept q)) (sym e ∙ f)

  pub sought_not : b ≡ false → b ≡ seeks t i q
  sought_not f = f ∙ sym (by_suits false f)

  pub sought_wanted : (k w : Bool) → b ≡ true → k ≡ is_kept q → w ≡ wants t k → w ≡ seeks t i q
  sought_wanted k w f g h = h ∙ ap (wants t) g ∙ sym (by_suits true f)

-- ---- the kinds of the places

-- By cases: each of the first four places, and those behind them.
by_place : (P : ℕ → Type 0) → P 0 → P 1 → P 2 → P 3 → ((n : ℕ) → P (suc (suc (suc (suc n))))) → (n : ℕ) → P n
by_place P a b c d f zero = a
by_place P a b c d f (suc zero) = b
by_place P a b c d f (suc (suc zero)) = c
by_place P a b c d f (suc (suc (suc zero))) = d
by_place P a b c d f (suc (suc (suc (suc n)))) = f n

pub fast_place : (n : ℕ) → (eqb n 0) ≡ same_kind (place_kind n) certificate.FastFinal
unfolding place_kind same_kind certificate_number
fast_place = by_place (λ n. (eqb n 0) ≡ same_kind (place_kind n) certificate.FastFinal) refl refl refl refl (λ n. ne_eqb (suc (suc (suc (suc n)))) 0 (λ e. omega arith))

pub notar_place : (n : ℕ) → (eqb n 1) ≡ same_kind (place_kind n) certificate.Notar
unfolding place_kind same_kind certificate_number
notar_place = by_place (λ n. (eqb n 1) ≡ same_kind (place_kind n) certificate.Notar) refl refl refl refl (λ n. ne_eqb (suc (suc (suc (suc n)))) 1 (λ e. omega arith))

pub skip_place : (n : ℕ) → (eqb n 2) ≡ same_kind (place_kind n) certificate.Skip
unfolding place_kind same_kind certificate_number
skip_place = by_place (λ n. (eqb n 2) ≡ same_kind (place_kind n) certificate.Skip) refl refl refl refl (λ n. ne_eqb (suc (suc (suc (suc n)))) 2 (λ e. omega arith))

pub final_place : (n : ℕ) → (eqb n 3) ≡ same_kind (place_kind n) certificate.Final
unfolding place_kind same_kind certificate_number
final_place = by_place (λ n. (eqb n 3) ≡ same_kind (place_kind n) certificate.Final) refl refl refl refl (λ n. ne_eqb (suc (suc (suc (suc n)))) 3 (λ e. omega arith))

pub fallback_place : (n : ℕ) → (leb 4 n) ≡ same_kind (place_kind n) certificate.NotarFallback
unfolding place_kind same_kind certificate_number
fallback_place = by_place (λ n. (leb 4 n) ≡ same_kind (place_kind n) certificate.NotarFallback) refl refl refl refl (λ n. le-leb 4 (suc (suc (suc (suc n)))) (omega arith))

pub other_place : (n : ℕ) → (false) ≡ same_kind (place_kind n) certificate.Other
unfolding place_kind same_kind certificate_number
other_place = by_place (λ n. (false) ≡ same_kind (place_kind n) certificate.Other) refl refl refl refl (λ n. refl)

pub fast_serves : (n : ℕ) → (eqb n 0) ≡ serves_as (place_kind n) certificate.FastFinal
unfolding place_kind serves_as same_kind certificate_number
fast_serves = by_place (λ n. (eqb n 0) ≡ serves_as (place_kind n) certificate.FastFinal) refl refl refl refl (λ n. ne_eqb (suc (suc (suc (suc n)))) 0 (λ e. omega arith))

pub notar_serves : (n : ℕ) → (leb n 1) ≡ serves_as (place_kind n) certificate.Notar
unfolding place_kind serves_as same_kind certificate_number
notar_serves = by_place (λ n. (leb n 1) ≡ serves_as (place_kind n) certificate.Notar) refl refl refl refl (λ n. lt-leb (suc (suc (suc (suc n)))) 1 (omega arith))

pub skip_serves : (n : ℕ) → (eqb n 2) ≡ serves_as (place_kind n) certificate.Skip
unfolding place_kind serves_as same_kind certificate_number
skip_serves = by_place (λ n. (eqb n 2) ≡ serves_as (place_kind n) certificate.Skip) refl refl refl refl (λ n. ne_eqb (suc (suc (suc (suc n)))) 2 (λ e. omega arith))

pub final_serves : (n : ℕ) → (eqb n 3) ≡ serves_as (place_kind n) certificate.Final
unfolding place_kind serves_as same_kind certificate_number
final_serves = by_place (λ n. (eqb n 3) ≡ serves_as (place_kind n) certificate.Final) refl refl refl refl (λ n. ne_eqb (suc (suc (suc (suc n)))) 3 (λ e. omega arith))

pub fallback_serves : (n : ℕ) → (leb n 1 || leb 4 n) ≡ serves_as (place_kind n) certificate.NotarFallback
unfolding place_kind serves_as same_kind certificate_number
fallback_serves = by_place (λ n. (leb n 1 || leb 4 n) ≡ serves_as (place_kind n) certificate.NotarFallback) refl refl refl refl (λ n. ap₂ (λ (x y : Bool). x || y) (lt-leb (suc (suc (suc (suc n)))) 1 (omega arith)) (le-leb 4 (suc (suc (suc (suc n)))) (omega arith)))

pub other_serves : (n : ℕ) → (false) ≡ serves_as (place_kind n) certificate.Other
unfolding place_kind serves_as same_kind certificate_number
other_serves = by_place (λ n. (false) ≡ serves_as (place_kind n) certificate.Other) refl refl refl refl (λ n. refl)

-- A kind but for these two is served by its own places alone.
pub alone_serves : (n : ℕ) (k : CertificateKind) → (k ≡ certificate.Notar → ⊥) → (k ≡ certificate.NotarFallback → ⊥) → same_kind (place_kind n) k ≡ serves_as (place_kind n) k
alone_serves n certificate.FastFinal a b = sym (fast_place n) ∙ fast_serves n
alone_serves n certificate.Notar a b = absurd (a refl)
alone_serves n certificate.NotarFallback a b = absurd (b refl)
alone_serves n certificate.Skip a b = sym (skip_place n) ∙ skip_serves n
alone_serves n certificate.Final a b = sym (final_place n) ∙ final_serves n
alone_serves n certificate.Other a b = sym (other_place n) ∙ other_serves n

-- ---- the first place

at_from : (p : ℕ → Kept → Bool) (i n : ℕ) (qs : List Kept) (t : Bool) → p (i + suc n) (get_or qs n no_kept) ≡ t → p (suc i + n) (get_or qs n no_kept) ≡ t
at_from p i n qs t e = let m : suc i + n ≡ i + suc n = omega arith in ap (λ (k : ℕ). p k (get_or qs n no_kept)) m ∙ e

first_from_lem : (p : ℕ → Kept → Bool) (i : ℕ) (qs : List Kept) (n : ℕ) → n < length qs → ((j : ℕ) → j < n → p (i + j) (get_or qs j no_kept) ≡ false) → p (i + n) (get_or qs n no_kept) ≡ true
    → first_place p i qs ≡ n
unfolding first_place
first_from_lem p i [] n l f e = absurd (omega arith)
first_from_lem p i (q ∷ qs) zero l f e =
    let z : i ≡ i + 0 = omega arith in choose_on (p i q) 0 (suc (first_place p (suc i) qs)) (ap (λ (k : ℕ). p k q) z ∙ e)
first_from_lem p i (q ∷ qs) (suc n) l f e =
    let z : i ≡ i + 0 = omega arith in
    choose_off (p i q) 0 (suc (first_place p (suc i) qs)) (ap (λ (k : ℕ). p k q) z ∙ f 0 (omega arith))
    ∙ ap suc (first_from_lem p (suc i) qs n (omega arith) (λ j h. at_from p i j qs false (f (suc j) (omega arith))) (at_from p i n qs true e))

none_from : (p : ℕ → Kept → Bool) (i : ℕ) (qs : List Kept) → ((j : ℕ) → j < length qs → p (i + j) (get_or qs j no_kept) ≡ false) → first_place p i qs ≡ length qs
unfolding first_place
none_from p i [] f = refl
none_from p i (q ∷ qs) f =
    let z : i ≡ i + 0 = omega arith in
    choose_off (p i q) 0 (suc (first_place p (suc i) qs)) (ap (λ (k : ℕ). p k q) z ∙ f 0 (omega arith))
    ∙ ap suc (none_from p (suc i) qs (λ j h. at_from p i j qs false (f (suc j) (omega arith))))

-- From the first place on.
pub first_at : (p : ℕ → Kept → Bool) (qs : List Kept) (n : ℕ) → n < length qs → ((j : ℕ) → j < n → p j (get_or qs j no_kept) ≡ false) → p n (get_or qs n no_kept) ≡ true → first_place p 0 qs ≡ n
first_at p qs n l f e =
    let z : (j : ℕ) → 0 + j ≡ j = (λ j. omega arith) in
    first_from_lem p 0 qs n l (λ j h. ap (λ (k : ℕ). p k (get_or qs j no_kept)) (z j) ∙ f j h) (ap (λ (k : ℕ). p k (get_or qs n no_kept)) (z n) ∙ e)

pub first_none : (p : ℕ → Kept → Bool) (qs : List Kept) → ((j : ℕ) → j < length qs → p j (get_or qs j no_kept) ≡ false) → first_place p 0 qs ≡ length qs
first_none p qs f =
    let z : (j : ℕ) → 0 + j ≡ j = (λ j. omega arith) in none_from p 0 qs (λ j h. ap (λ (k : ℕ). p k (get_or qs j no_kept)) (z j) ∙ f j h)

-- ---- what it says

-- Some place is so, told by where the first is.
abbrev found : (ℕ → Kept → Bool) → ℕ → List Kept → Bool
found p i qs = ltb (first_place p i qs) (length qs)

next_below : (n m : ℕ) → ltb (suc n) (suc m) ≡ ltb n m
next_below n m =
    same_test (ltb (suc n) (suc m)) (ltb n m) (λ t. lt-ltb n m (let h = ltb-true (suc n) (suc m) t in omega arith))
    (λ t. lt-ltb (suc n) (suc m) (let h = ltb-true n m t in omega arith))

none_below : (m : ℕ) → ltb 0 (suc m) ≡ true
none_below m = lt-ltb 0 (suc m) (omega arith)

found_here : (t : Bool) (n m : ℕ) → ltb (choose t 0 (suc n)) (suc m) ≡ (t || ltb n m)
unfolding choose
found_here true n m = none_below m
found_here false n m = next_below n m

-- Room for a kind: 8 where there is none.
room_from : (k : CertificateKind) (i : ℕ) (qs : List Kept) → has_room k i qs ≡ found (is_room k) i qs
unfolding has_room first_place
room_from k i [] = refl
room_from k i (q ∷ qs) =
    ap (λ (t : Bool). is_room k i q || t) (room_from k (suc i) qs) ∙ sym (found_here (is_room k i q) (first_place (is_room k) (suc i) qs) (length qs))

kept_first_lem : (a b : Bool) → (a && b) ≡ whenever a (λ _. b) false
unfolding whenever
kept_first_lem true b = refl
kept_first_lem false b = refl

-- A kept certificate of which a test holds.
some_from : (p : ℕ → Kept → Bool) (i : ℕ) (qs : List Kept) → some_kept p i qs ≡ found (λ j q. is_kept q && p j q) i qs
unfolding some_kept first_place
some_from p i [] = refl
some_from p i (q ∷ qs) =
    ap₂ (λ (s t : Bool). s || t) (sym (kept_first_lem (is_kept q) (p i q))) (some_from p (suc i) qs)
    ∙ sym (found_here (is_kept q && p i q) (first_place (λ j q. is_kept q && p j q) (suc i) qs) (length qs))

pub room_found : (k : CertificateKind) (qs : List Kept) → has_room k 0 qs ≡ ltb (first_place (seeks (sought.Room k)) 0 qs) (length qs)
unfolding seeks
room_found k qs = room_from k 0 qs

-- 7.
pub repeat_found : (k : CertificateKind) (b : ℕ) (qs : List Kept) → some_kept (is_repeat k b) 0 qs ≡ ltb (first_place (seeks (sought.Same k b)) 0 qs) (length qs)
unfolding seeks
repeat_found k b qs = some_from (is_repeat k b) 0 qs

-- Held by a kept certificate.
pub kept_found : (l : Ledger) (k : CertificateKind) (s b : ℕ) → kept_as l k s b ≡ ltb (first_place (seeks (sought.Serving k b)) 0 (certificates_at l s)) (length (certificates_at l s))
unfolding seeks kept_as
kept_found l k s b = some_from (is_for k b) 0 (certificates_at l s)

find_from : (k : CertificateKind) (b i : ℕ) (qs : List Kept) → find_kept k b i qs ≡ get_or qs (first_place (λ j q. is_kept q && is_repeat k b j q) i qs) no_kept
unfolding find_kept first_place is_repeat choose
find_from k b i [] = refl
find_from k b i (q ∷ qs) = go (is_kept q && (same_kind (place_kind i) k && eqb q.block b)) (find_from k b (suc i) qs)
  where
    go : (t : Bool) → find_kept k b (suc i) qs ≡ get_or qs (first_place (λ j q. is_kept q && is_repeat k b j q) (suc i) qs) no_kept
        → choose t q (find_kept k b (suc i) qs) ≡ get_or (q ∷ qs) (choose t 0 (suc (first_place (λ j q. is_kept q && is_repeat k b j q) (suc i) qs))) no_kept
    go true e = refl
    go false e = e

-- The writer's: the kept certificate of a kind for a block, nothing where there is none.
pub find_place : (k : CertificateKind) (b : ℕ) (qs : List Kept) → find_kept k b 0 qs ≡ get_or qs (first_place (seeks (sought.Same k b)) 0 qs) no_kept
unfolding seeks
find_place k b qs = find_from k b 0 qs

fill_from : (k : CertificateKind) (i : ℕ) (p : Kept) (qs : List Kept) → fill_kept k i p qs ≡ set qs (first_place (is_room k) i qs) p
unfolding fill_kept first_place choose
fill_from k i p [] = refl
fill_from k i p (q ∷ qs) = go (is_room k i q) (fill_from k (suc i) p qs)
  where
    go : (t : Bool) → fill_kept k (suc i) p qs ≡ set qs (first_place (is_room k) (suc i) qs) p
        → choose t (p ∷ qs) (q ∷ fill_kept k (suc i) p qs) ≡ set (q ∷ qs) (choose t 0 (suc (first_place (is_room k) (suc i) qs))) p
    go true e = refl
    go false e = ap (λ (xs : List Kept). q ∷ xs) e

-- A certificate in the first free place for its kind is one store; none where there is no room.
module _ (l : Ledger) (k : CertificateKind) (s n : ℕ) (p : Kept) (e : n ≡ first_place (seeks (sought.Room k)) 0 (certificates_at l s)) where
  pub kept_at : put_certificates l s (set (certificates_at l s) n p) ≡ put_certificates l s (fill_kept k 0 p (certificates_at l s))
  unfolding seeks
  kept_at =
      ap (λ (qs : List Kept). put_certificates l s qs) (ap (λ (i : ℕ). set (certificates_at l s) i p) e ∙ sym (fill_from k 0 p (certificates_at l s)))

  pub kept_nowhere : length (certificates_at l s) ≤ n → l ≡ put_certificates l s (fill_kept k 0 p (certificates_at l s))
  kept_nowhere h =
      ap (λ (rs : List Row). record {
        count = l.count;
        total = l.total;
        own = l.own;
        genesis = l.genesis;
        armed = l.armed;
        stakes = l.stakes;
        rows = rs;
      }) (sym (set-get_or l.rows s no_row))
      ∙ ap (λ (qs : List Kept). put_certificates l s qs) (sym (set_out (certificates_at l s) n p h))
      ∙ kept_at

-- ---- the places that can be of use for a kind

-- A place before the first of them, or behind the last.
abbrev pub Outside : CertificateKind → ℕ → Type 0
Outside k n = (n < from_place k) ⊎ ((to_place k ≤ n) × (n < 13))

-- It is none of that kind's, and serves as none.
place_outside : (k : CertificateKind) (n : ℕ) → Outside k n → (same_kind (place_kind n) k ≡ false) × (serves_as (place_kind n) k ≡ false)
unfolding from_place to_place
place_outside certificate.FastFinal n h =
    let e = ne_eqb n 0 (λ z. ⊎_elim (λ x. omega arith) (λ x. omega (arith, x.0)) h) in (sym (fast_place n) ∙ e, sym (fast_serves n) ∙ e)
place_outside certificate.Notar n h =
    let a : 2 ≤ n = ⊎_elim (λ x. absurd (omega arith)) (λ x. x.0) h in
    (sym (notar_place n) ∙ ne_eqb n 1 (λ z. omega arith), sym (notar_serves n) ∙ lt-leb n 1 (omega arith))
place_outside certificate.NotarFallback n h = ⊎_elim (λ x. absurd (omega arith)) (λ x. absurd (omega (arith, x.0, x.1))) h
place_outside certificate.Skip n h =
    let e = ne_eqb n 2 (λ z. ⊎_elim (λ x. omega arith) (λ x. omega (arith, x.0)) h) in (sym (skip_place n) ∙ e, sym (skip_serves n) ∙ e)
place_outside certificate.Final n h =
    let e = ne_eqb n 3 (λ z. ⊎_elim (λ x. omega arith) (λ x. omega (arith, x.0)) h) in (sym (final_place n) ∙ e, sym (final_serves n) ∙ e)
place_outside certificate.Other n h = ⊎_elim (λ x. absurd (omega arith)) (λ x. absurd (omega (arith, x.0, x.1))) h

suits_outside : (t : Sought) (n : ℕ) (q : Kept) → Outside (kind_of t) n → suits t n q ≡ false
unfolding suits kind_of is_repeat is_for
suits_outside (sought.Room k) n q h = (place_outside k n h).0
suits_outside (sought.Same k b) n q h = rw (place_outside k n h).0 refl
suits_outside (sought.Serving k b) n q h = rw (place_outside k n h).1 refl

pub outside_not : (t : Sought) (n : ℕ) (q : Kept) → Outside (kind_of t) n → seeks t n q ≡ false
outside_not t n q h = sought_in_turn t n q ∙ ap (λ (x : Bool). x && wants t (is_kept q)) (suits_outside t n q h)

to_most : (k : CertificateKind) → to_place k ≤ 13
unfolding to_place
to_most certificate.FastFinal = omega arith
to_most certificate.Notar = omega arith
to_most certificate.NotarFallback = omega arith
to_most certificate.Skip = omega arith
to_most certificate.Final = omega arith
to_most certificate.Other = omega arith

-- What a search through the places from one to another finds.
abbrev pub at_place : Sought → List Kept → ℕ → Bool
at_place t qs j = seeks t j (get_or qs j no_kept)

abbrev pub Found : Sought → ℕ → ℕ → List Kept → Option ℕ → Type 0
Found t from to qs r =
    MatchOption r ((j : ℕ) → from ≤ j → j < to → at_place t qs j ≡ false)
    (λ n. (from ≤ n) × (n < to) × (at_place t qs n ≡ true) × ((j : ℕ) → from ≤ j → j < n → at_place t qs j ≡ false))

-- No place outside them is what is looked for.
module _ (t : Sought) (from to : ℕ) (f : from ≡ from_place (kind_of t)) (g : to ≡ to_place (kind_of t)) (qs : List Kept) (many : length qs ≡ 13) where
  before_not : (n : ℕ) → ((j : ℕ) → from ≤ j → j < n → at_place t qs j ≡ false) → (j : ℕ) → j < n → at_place t qs j ≡ false
  before_not n h j l =
      by_test (ltb j from) (λ x. outside_not t j (get_or qs j no_kept) (inl (omega (arith, ltb-true j from x)))) (λ x. h j (ltb-false j from x) l)

  pub first_found : (r : Option ℕ) → Found t from to qs r → unwrap_or r 13 ≡ first_place (seeks t) 0 qs
  first_found None h =
      sym many
      ∙ sym (first_none (seeks t) qs (λ j l. by_test (ltb j to) (λ x. before_not to h j (ltb-true j to x))
      (λ x. outside_not t j (get_or qs j no_kept) (inr (omega (arith, ltb-false j to x), omega (arith, many))))))
  first_found (Some n) h = sym (first_at (seeks t) qs n (omega (arith, h.1, g, to_most (kind_of t), many)) (before_not n h.3) h.2)

pub found_within : (t : Sought) (from to : ℕ) (qs : List Kept) (r : Option ℕ) → to ≤ 13 → Found t from to qs r → IfSome r (λ n. n < 13)
found_within t from to qs None b h = tt
found_within t from to qs (Some n) b h = omega (arith, h.1)

-- Whether a place was found is told by where it is.
pub is_found : (r : Option ℕ) (m : ℕ) → IfSome r (λ n. n < m) → is_some r ≡ ltb (unwrap_or r m) m
is_found None m h = sym (le-ltb m m (omega arith))
is_found (Some n) m h = sym (lt-ltb n m h)

pub found_below : (r : Option ℕ) (m : ℕ) → IfSome r (λ n. n < m) → is_some r ≡ true → unwrap_or r m < m
found_below None m h e = absurd (true≢false (sym e))
found_below (Some n) m h e = h

pub found_past : (r : Option ℕ) (m : ℕ) → is_some r ≡ false → m ≤ unwrap_or r m
found_past None m e = omega arith
found_past (Some n) m e = absurd (true≢false e)
