-- A list is empty exactly where its test passes.
use mathlib.Core.Path.{◌≡◌, refl, sym, ap, ◌∙◌}
use mathlib.Core.Bool.{Bool, true, false, not, ◌&&◌}
use mathlib.Core.List.{List, [], ◌∷◌, ◌++◌}
use Prim.Native.Nat.{ℕ, zero, suc}
use lib.ListN.{length, get_or}
use Rattle.rulebook.specs.declared.Cell.{Cell}
use Rattle.rulebook.specs.declared.CertificateKind.{CertificateKind}
use Rattle.rulebook.specs.Certificates.{Certificate, Found, Kept}
use Rattle.rulebook.specs.Certificates as found
use Rattle.rulebook.specs.PaperNumbers.{kind_in}
use Rattle.rulebook.specs.Tools.{whenever, all_to}
use Rattle.rulebook.specs.Weights.{last_slot}
use Rattle.rulebook.specs.Ledger.{Ledger, no_kept, cell_at, own_cell, certificates_at, is_kept}
use Rattle.rulebook.specs.Pool.{place_kind}
use Rattle.rulebook.specs.Packets.{certificate_at, bit}
use Rattle.rulebook.specs.Checker.{without_b}
use Rattle.rulebook.specs.WellFormed.{kept_in}
use Rattle.rule_laws.proofs.KeptPlaceLaws.{each_index}
use Rattle.safety.specs.Slot.{notar, notar_fallback, skip, skip_fallback, final}
use Rattle.safety.specs.Ballots.{has}
use Rattle.safety.specs.Ring.{ballot_a, ballot_b}
use Rattle.inquest.specs.declared.Line.{Line}
use Rattle.inquest.specs.Stands.{none_or, notar_stands, fallback_stands, late_stands, final_stands, slot_stands, stands}
use Rattle.inquest.specs.Vouched.{cell_vouched, signer_vouched, kept_vouched, slot_vouched, vouched, found_vouched, next_vouched, packet_vouched}
use Rattle.inquest.specs.Lists.{unless, is_empty, lines_to, cell_fallen, slot_fallen, fallen, cell_lacks, signer_lacks, place_lacks, kept_lacks, slot_lacks, lacking, found_lacks, next_lacks, lacking_in, NothingFallen, NothingLacking, NothingLackingIn}

-- The line of a test: none where it passes.
empty_unless : (t : Bool) (x : Line) → is_empty (unless t x) ≡ t
unfolding unless is_empty
empty_unless true x = refl
empty_unless false x = refl

-- Lines after lines: none where both are none.
empty_append : (xs ys : List Line) → is_empty (xs ++ ys) ≡ (is_empty xs && is_empty ys)
unfolding is_empty
empty_append [] ys = refl
empty_append (x ∷ xs) ys = refl

-- The line of a test in front of others.
empty_more : (t : Bool) (x : Line) (ys : List Line) {u : Bool} → is_empty ys ≡ u → is_empty (unless t x ++ ys) ≡ (t && u)
empty_more t x ys e = empty_append (unless t x) ys ∙ (λ i. empty_unless t x i && e i)

-- Lines by index: none where each has none.
empty_lines : (n : ℕ) (f : ℕ → List Line) (t : ℕ → Bool) → ((i : ℕ) → is_empty (f i) ≡ t i) → is_empty (lines_to n f) ≡ all_to n t
unfolding lines_to is_empty all_to
empty_lines zero f t h = refl
empty_lines (suc n) f t h = empty_append (lines_to n f) (f n) ∙ (λ i. empty_lines n f t h i && h n i)

-- ---- tests joined

and_assoc : (a b c : Bool) → ((a && b) && c) ≡ (a && (b && c))
and_assoc true b c = refl
and_assoc false b c = refl

and_true : (a : Bool) → (a && true) ≡ a
and_true true = refl
and_true false = refl

and_false : (a : Bool) → (a && false) ≡ false
and_false true = refl
and_false false = refl

-- The first test and the last ones, then those between.
five_tests : (g a b c d : Bool) → (a && (b && (c && (d && g)))) ≡ ((a && g) && (b && (c && d)))
five_tests true a b c d =
    ap (λ (t : Bool). a && (b && (c && t))) (and_true d) ∙ ap (λ (t : Bool). t && (b && (c && d))) (sym (and_true a))
five_tests false a b c d =
    ap (λ (t : Bool). a && (b && (c && t))) (and_false d) ∙ ap (λ (t : Bool). a && (b && t)) (and_false c) ∙ ap (λ (t : Bool). a && t) (and_false b) ∙ and_false a
    ∙ ap (λ (t : Bool). t && (b && (c && d))) (sym (and_false a))

-- ---- own votes

slot_fallen_lem : (l : Ledger) (s : ℕ) → is_empty (slot_fallen l s) ≡ slot_stands l s
unfolding slot_fallen cell_fallen slot_stands
slot_fallen_lem l s =
    let c = own_cell l s in
    let n = none_or c.notar (λ _. notar_stands l s c.notar) in
    let x = none_or c.fallback1 (λ _. fallback_stands l s c.fallback1) in
    let y = none_or c.fallback2 (λ _. fallback_stands l s c.fallback2) in
    let z = none_or c.fallback3 (λ _. fallback_stands l s c.fallback3) in
    let e = none_or c.skipfallback (λ _. late_stands l s) in
    let f = none_or c.finalvote (λ _. final_stands l s) in
    empty_more n _ _ (empty_more x _ _ (empty_more y _ _ (empty_more z _ _ (empty_more e _ _ (empty_unless f _))))) ∙ five_tests (e && f) n x y z

pub nothing_fallen : NothingFallen
unfolding fallen stands
nothing_fallen l = empty_lines last_slot (λ i. slot_fallen l (suc i)) (λ i. slot_stands l (suc i)) (λ i. slot_fallen_lem l (suc i))

-- ---- votes that a record lacks

cell_lacks_lem : (s m : ℕ) (c d : Cell) → is_empty (cell_lacks s m c d) ≡ cell_vouched c d
unfolding cell_lacks cell_vouched
cell_lacks_lem s m c d =
    let n = none_or c.notar (λ _. has d (notar c.notar)) in
    let x = none_or c.fallback1 (λ _. has d (notar_fallback c.fallback1)) in
    let y = none_or c.fallback2 (λ _. has d (notar_fallback c.fallback2)) in
    let z = none_or c.fallback3 (λ _. has d (notar_fallback c.fallback3)) in
    let k = none_or c.skip (λ _. has d skip) in
    let e = none_or c.skipfallback (λ _. has d skip_fallback) in
    let f = none_or c.finalvote (λ _. has d final) in
    empty_more n _ _ (empty_more x _ _ (empty_more y _ _ (empty_more z _ _ (empty_more k _ _ (empty_more e _ _ (empty_unless f _)))))) ∙ five_tests (k && (e && f)) n x y z

signer_lacks_lem : (k : CertificateKind) (c : Certificate) (m : ℕ) (d : Cell) → is_empty (signer_lacks k c m d) ≡ signer_vouched k c m d
unfolding signer_lacks signer_vouched
signer_lacks_lem k c m d =
    let a = whenever (bit c.maska m) (λ _. has d (ballot_a k c.block)) true in
    let b = whenever (not (without_b k) && bit c.maskb m) (λ _. has d (ballot_b k c.block)) true in
    empty_more a _ _ (empty_unless b _)

place_lacks_lem : (s m : ℕ) (d : Cell) (j : ℕ) (q : Kept) → is_empty (place_lacks s m d j q) ≡ kept_vouched s m d j q
unfolding place_lacks kept_vouched whenever is_empty
place_lacks_lem s m d j q = go (is_kept q)
  where
    go : (b : Bool) → is_empty (whenever b (λ _. signer_lacks (place_kind j) (kept_in s q) m d) []) ≡ whenever b (λ _. signer_vouched (place_kind j) (kept_in s q) m d) true
    go true = signer_lacks_lem (place_kind j) (kept_in s q) m d
    go false = refl

slot_lacks_lem : (l r : Ledger) (s : ℕ) → is_empty (slot_lacks l r s) ≡ slot_vouched l r s
unfolding slot_lacks slot_vouched kept_lacks
slot_lacks_lem l r s =
    let m = r.own in
    let d = own_cell r s in
    let qs = certificates_at l s in
    empty_append (cell_lacks s m (cell_at l s m) d) (lines_to (length qs) (λ j. place_lacks s m d j (get_or qs j no_kept)))
    ∙ (λ i. cell_lacks_lem s m (cell_at l s m) d i
    && (empty_lines (length qs) (λ j. place_lacks s m d j (get_or qs j no_kept)) (λ j. kept_vouched s m d j (get_or qs j no_kept)) (λ j. place_lacks_lem s m d j (get_or qs j no_kept))
    ∙ sym (each_index (kept_vouched s m d) qs)) i)

pub nothing_lacking : NothingLacking
unfolding lacking vouched
nothing_lacking l r = empty_lines last_slot (λ i. slot_lacks l r (suc i)) (λ i. slot_vouched l r (suc i)) (λ i. slot_lacks_lem l r (suc i))

-- ---- a packet

found_lacks_lem : (r : Ledger) (f : Found) → is_empty (found_lacks r f) ≡ found_vouched r f
unfolding found_lacks found_vouched is_empty
found_lacks_lem r (found.Whole c next) = signer_lacks_lem (kind_in r.count c.kind) c r.own (own_cell r c.slot)
found_lacks_lem r found.Early = refl
found_lacks_lem r found.Malformed = refl

next_lacks_lem : (r : Ledger) (packet : List ℕ) (f : Found) → is_empty (next_lacks r packet f) ≡ next_vouched r packet f
unfolding next_lacks next_vouched is_empty
next_lacks_lem r packet (found.Whole c next) = found_lacks_lem r (certificate_at packet next)
next_lacks_lem r packet found.Early = refl
next_lacks_lem r packet found.Malformed = refl

pub nothing_lacking_in : NothingLackingIn
unfolding lacking_in packet_vouched
nothing_lacking_in r packet =
    let f = certificate_at packet 0 in
    empty_append (found_lacks r f) (next_lacks r packet f) ∙ (λ i. found_lacks_lem r f i && next_lacks_lem r packet f i)
