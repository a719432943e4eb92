-- All that a proof's answer can depend on stands in the first 1,341 bytes of its packet: numbers have at most ten bytes, and a proof has at
-- most two certificates of 67 numbers. Assumes nothing.
use Rattle.std.specs.Prelude.{⊤, Result, Ok, Err}
use mathlib.Core.Path.{◌≡◌, refl, sym, ap, ◌∙◌}
use mathlib.Core.Bool.{Bool, true, false, not, ◌&&◌}
use mathlib.Core.List.{List, [], ◌∷◌, ◌++◌}
use Prim.Native.Nat.{ℕ, zero, suc, ◌+◌, ◌*◌, ◌%◌, ◌≤◌}
use native.Mathlib.Omega.{arith}
use lib.ListN.{length, take, drop, length-append, length-drop, take-append-drop}
use lib.Seq.{take_all, drop-append-le, length-take-le}
use lib.Dec.{eqb, leb, ltb}
use borrow.Author.Tests.{leb-true, leb-false, ltb-true, lt-ltb}
use Rattle.rulebook.specs.declared.CertificateKind.{CertificateKind}
use Rattle.rulebook.specs.declared.CertificateKind.TheVariants as certificate
use Rattle.rulebook.specs.declared.Refusal.TheVariants as refusal
use Rattle.rulebook.specs.Certificates.{Certificate, Found}
use Rattle.rulebook.specs.Certificates as found
use Rattle.rulebook.specs.Tools.{whenever}
use Rattle.rulebook.specs.Weights.{stakes_fit}
use Rattle.rulebook.specs.PaperNumbers.{kind_in, number_in}
use Rattle.rulebook.specs.Packets.{last_group, last_fits, above, number_from, placed, number_at, above_word, word_then, mask_at, words_in, and_then, certificate_at}
use Rattle.rulebook.specs.Checker.{One, good, bad, judged, judge, one_of, one_at, ended, second_of, first_in, proof_of, check_proof, accepted_of}
use Rattle.rule_laws.proofs.KindLaws.{words_most}
use Rattle.pieces.specs.State.{front_bytes}
use Rattle.rulebook.specs.declared.Accepted.{Accepted}
use Rattle.rulebook.specs.declared.Refusal.{Refusal}
use Rattle.rulebook.specs.declared.Unread.{Unread}
use Rattle.rulebook.specs.declared.Unread.TheVariants.{Early, Malformed}

-- ---- a number

-- A reading that uses at most so many bytes.
Uses : ℕ → Result (ℕ × ℕ) Unread → Type 0
Uses n (Ok (v, c)) = c ≤ n
Uses n (Err Early) = Unit
Uses n (Err Malformed) = Unit

uses_last : (k b : ℕ) → Uses 1 (last_group k b)
unfolding last_group whenever Uses
uses_last k b = go (last_fits k b)
  where
    go : (t : Bool) → Uses 1 (whenever t (λ _. Ok (b, 1)) (Err Malformed))
    go true = omega arith
    go false = tt

uses_more : (n m : ℕ) (r : Result (ℕ × ℕ) Unread) → n ≤ m → Uses n r → Uses m r
unfolding Uses
uses_more n m (Ok (v, c)) h u = omega arith
uses_more n m (Err Early) h u = tt
uses_more n m (Err Malformed) h u = tt

uses_above : (n g : ℕ) (r : Result (ℕ × ℕ) Unread) → Uses n r → Uses (n + 1) (above g r)
unfolding Uses above
uses_above n g (Ok (v, c)) u = omega arith
uses_above n g (Err Early) u = tt
uses_above n g (Err Malformed) u = tt

-- What is read of a number of which k bits are read, f groups to come after the next: no more than f + 1 bytes.
uses_from : (f k : ℕ) (bs : List ℕ) → 7 * f + k ≡ 63 → Uses (f + 1) (number_from k bs)
unfolding number_from whenever Uses
uses_from f k [] e = tt
uses_from zero k (b ∷ bs) e = go (leb 128 b) (ltb k 63) refl
  where
    go : (t u : Bool) → ltb k 63 ≡ u
        → Uses (zero + 1) (whenever t (λ _. whenever u (λ _. above (b % 128) (number_from (k + 7) bs)) (Err Malformed)) (last_group k b))
    go false u q = uses_more 1 (zero + 1) (last_group k b) (omega arith) (uses_last k b)
    go true true q = absurd (omega (arith, ltb-true k 63 q))
    go true false q = tt
uses_from (suc f) k (b ∷ bs) e = go (uses_from f (k + 7) bs (omega arith)) (leb 128 b) (ltb k 63)
  where
    go : Uses (f + 1) (number_from (k + 7) bs) → (t u : Bool)
        → Uses (suc f + 1) (whenever t (λ _. whenever u (λ _. above (b % 128) (number_from (k + 7) bs)) (Err Malformed)) (last_group k b))
    go ih false u = uses_more 1 (suc f + 1) (last_group k b) (omega arith) (uses_last k b)
    go ih true true = uses_more (f + 1 + 1) (suc f + 1) (above (b % 128) (number_from (k + 7) bs)) (omega arith) (uses_above (f + 1) (b % 128) (number_from (k + 7) bs) ih)
    go ih true false = tt

-- With as many bytes there, what follows them is not looked at.
from_front : (f k : ℕ) (bs rest : List ℕ) → 7 * f + k ≡ 63 → f + 1 ≤ length bs → number_from k (bs ++ rest) ≡ number_from k bs
unfolding number_from whenever
from_front f k [] rest e h = absurd (omega arith)
from_front zero k (b ∷ bs) rest e h = go (leb 128 b) (ltb k 63) refl
  where
    go : (t u : Bool) → ltb k 63 ≡ u
        → whenever t (λ _. whenever u (λ _. above (b % 128) (number_from (k + 7) (bs ++ rest))) (Err Malformed)) (last_group k b)
        ≡ whenever t (λ _. whenever u (λ _. above (b % 128) (number_from (k + 7) bs)) (Err Malformed)) (last_group k b)
    go false u q = refl
    go true true q = absurd (omega (arith, ltb-true k 63 q))
    go true false q = refl
from_front (suc f) k (b ∷ bs) rest e h =
    ap (λ (r : Result (ℕ × ℕ) Unread). whenever (leb 128 b) (λ _. whenever (ltb k 63) (λ _. above (b % 128) r) (Err Malformed)) (last_group k b))
    (from_front f (k + 7) bs rest (omega arith) (omega arith))

-- At a place of a packet: the same with whatever follows ten bytes, and no more than ten are used.
number_front : (bs rest : List ℕ) (at : ℕ) → at + 10 ≤ length bs → number_at (bs ++ rest) at ≡ number_at bs at
unfolding number_at
number_front bs rest at h =
    ap (placed at)
    (ap (number_from 0) (drop-append-le at bs rest (omega arith))
    ∙ from_front 9 0 (drop at bs) rest refl (omega (arith, length-drop at bs)))

-- The place after what was read is at most m.
UpTo : ℕ → Result (ℕ × ℕ) Unread → Type 0
UpTo m (Ok (v, next)) = next ≤ m
UpTo m (Err Early) = Unit
UpTo m (Err Malformed) = Unit

upto_placed : (at : ℕ) (r : Result (ℕ × ℕ) Unread) → Uses 10 r → UpTo (at + 10) (placed at r)
unfolding placed Uses UpTo
upto_placed at (Ok (v, c)) u = omega arith
upto_placed at (Err Early) u = tt
upto_placed at (Err Malformed) u = tt

number_upto : (bs : List ℕ) (at : ℕ) → UpTo (at + 10) (number_at bs at)
unfolding number_at
number_upto bs at = upto_placed at (number_from 0 (drop at bs)) (uses_from 9 0 (drop at bs) refl)

-- ---- a mask, once over its words

mask_then : (w : ℕ) (bs rest : List ℕ) (m : ℕ) (r : Result (ℕ × ℕ) Unread) → UpTo m r → ((next : ℕ) → next ≤ m → mask_at w (bs ++ rest) next ≡ mask_at w bs next)
    → word_then r (mask_at w (bs ++ rest)) ≡ word_then r (mask_at w bs)
unfolding word_then UpTo
mask_then w bs rest m (Ok (v, next)) u f = ap (above_word v) (f next u)
mask_then w bs rest m (Err Early) u f = refl
mask_then w bs rest m (Err Malformed) u f = refl

mask_front : (w : ℕ) (bs rest : List ℕ) (at : ℕ) → at + 10 * w ≤ length bs → mask_at w (bs ++ rest) at ≡ mask_at w bs at
unfolding mask_at
mask_front zero bs rest at h = refl
mask_front (suc w) bs rest at h =
    ap (λ (r : Result (ℕ × ℕ) Unread). word_then r (mask_at w (bs ++ rest))) (number_front bs rest at (omega arith))
    ∙ mask_then w bs rest (at + 10) (number_at bs at) (number_upto bs at) (λ next l. mask_front w bs rest next (omega arith))

upto_word : (m v : ℕ) (r : Result (ℕ × ℕ) Unread) → UpTo m r → UpTo m (above_word v r)
unfolding above_word UpTo
upto_word m v (Ok (x, next)) u = u
upto_word m v (Err Early) u = tt
upto_word m v (Err Malformed) u = tt

upto_then : (m k : ℕ) (r : Result (ℕ × ℕ) Unread) (f : ℕ → Result (ℕ × ℕ) Unread) → UpTo k r → ((next : ℕ) → next ≤ k → UpTo m (f next)) → UpTo m (word_then r f)
unfolding word_then UpTo
upto_then m k (Ok (v, next)) f u g = upto_word m v (f next) (g next u)
upto_then m k (Err Early) f u g = tt
upto_then m k (Err Malformed) f u g = tt

upto_more : (n m : ℕ) (r : Result (ℕ × ℕ) Unread) → n ≤ m → UpTo n r → UpTo m r
unfolding UpTo
upto_more n m (Ok (v, next)) h u = omega arith
upto_more n m (Err Early) h u = tt
upto_more n m (Err Malformed) h u = tt

mask_upto : (w : ℕ) (bs : List ℕ) (at : ℕ) → UpTo (at + 10 * w) (mask_at w bs at)
unfolding mask_at UpTo
mask_upto zero bs at = omega arith
mask_upto (suc w) bs at =
    upto_then (at + 10 * suc w) (at + 10) (number_at bs at) (mask_at w bs) (number_upto bs at)
    (λ next h. upto_more (next + 10 * w) (at + 10 * suc w) (mask_at w bs next) (omega arith) (mask_upto w bs next))

-- ---- a certificate

-- What follows a reading is the same wherever it is looked at.
then_same : (m : ℕ) (r : Result (ℕ × ℕ) Unread) (f g : ℕ → ℕ → Found) → UpTo m r → ((v next : ℕ) → next ≤ m → f v next ≡ g v next) → and_then r f ≡ and_then r g
unfolding and_then UpTo
then_same m (Ok (v, next)) f g u e = e v next u
then_same m (Err Early) f g u e = refl
then_same m (Err Malformed) f g u e = refl

-- The place after the certificate is at most m.
Within : ℕ → Found → Type 0
Within m (found.Whole c next) = next ≤ m
Within m found.Early = Unit
Within m found.Malformed = Unit

then_within : (m k : ℕ) (r : Result (ℕ × ℕ) Unread) (f : ℕ → ℕ → Found) → UpTo k r → ((v next : ℕ) → next ≤ k → Within m (f v next)) → Within m (and_then r f)
unfolding and_then UpTo Within
then_within m k (Ok (v, next)) f u g = g v next u
then_within m k (Err Early) f u g = tt
then_within m k (Err Malformed) f u g = tt

then_both : (m : ℕ) (q r : Result (ℕ × ℕ) Unread) (f g : ℕ → ℕ → Found) → q ≡ r → UpTo m r → ((v next : ℕ) → next ≤ m → f v next ≡ g v next) → and_then q f ≡ and_then r g
then_both m q r f g e u h = ap (λ (x : Result (ℕ × ℕ) Unread). and_then x f) e ∙ then_same m r f g u h

-- 67 numbers of ten bytes.
certificate_front : (bs rest : List ℕ) (at : ℕ) → at + 670 ≤ length bs → certificate_at (bs ++ rest) at ≡ certificate_at bs at
unfolding certificate_at
certificate_front bs rest at h =
    then_both (at + 10) (number_at (bs ++ rest) at) (number_at bs at) _ _ (number_front bs rest at (omega arith)) (number_upto bs at) (λ kind p hp.
    let w = words_most kind in
    then_both (p + 10) (number_at (bs ++ rest) p) (number_at bs p) _ _ (number_front bs rest p (omega arith)) (number_upto bs p) (λ slot q hq.
    then_both (q + 10) (number_at (bs ++ rest) q) (number_at bs q) _ _ (number_front bs rest q (omega arith)) (number_upto bs q) (λ block r hr.
    then_both (r + 10 * words_in kind) (mask_at (words_in kind) (bs ++ rest) r) (mask_at (words_in kind) bs r) _ _ (mask_front (words_in kind) bs rest r (omega arith)) (mask_upto (words_in kind) bs r) (λ maska t ht.
    then_both (t + 10 * words_in kind) (mask_at (words_in kind) (bs ++ rest) t) (mask_at (words_in kind) bs t) _ _ (mask_front (words_in kind) bs rest t (omega arith)) (mask_upto (words_in kind) bs t) (λ maskb next hn. refl)))))

certificate_within : (bs : List ℕ) (at : ℕ) → Within (at + 670) (certificate_at bs at)
unfolding certificate_at Within
certificate_within bs at =
    then_within (at + 670) (at + 10) (number_at bs at) _ (number_upto bs at) (λ kind p hp.
    let w = words_most kind in
    then_within (at + 670) (p + 10) (number_at bs p) _ (number_upto bs p) (λ slot q hq.
    then_within (at + 670) (q + 10) (number_at bs q) _ (number_upto bs q) (λ block r hr.
    then_within (at + 670) (r + 10 * words_in kind) (mask_at (words_in kind) bs r) _ (mask_upto (words_in kind) bs r) (λ maska t ht.
    then_within (at + 670) (t + 10 * words_in kind) (mask_at (words_in kind) bs t) _ (mask_upto (words_in kind) bs t) (λ maskb next hn. omega arith)))))

-- ---- a proof

Ends : ℕ → One → Type 0
Ends m (good c next) = next ≤ m
Ends m (bad r) = Unit

ends_judged : (m : ℕ) (v : Result ⊤ Refusal) (c : Certificate) (next : ℕ) → next ≤ m → Ends m (judged v c next)
unfolding judged Ends
ends_judged m (Ok tt) c next h = h
ends_judged m (Err r) c next h = tt

ends_of : (m : ℕ) (stakes : List ℕ) (f : Found) → Within m f → Ends m (one_of stakes f)
unfolding one_of Within Ends
ends_of m stakes (found.Whole c next) h = ends_judged m (judge stakes c) c next h
ends_of m stakes found.Early h = tt
ends_of m stakes found.Malformed h = tt

module _ (stakes bs rest : List ℕ) (long : front_bytes ≤ length bs) where
  one_front : (at : ℕ) → at ≤ 670 → one_at stakes (bs ++ rest) at ≡ one_at stakes bs at
  unfolding one_at
  one_front at h = ap (one_of stakes) (certificate_front bs rest at (omega arith))

  one_ends : (at : ℕ) → Ends (at + 670) (one_at stakes bs at)
  unfolding one_at
  one_ends at = ends_of (at + 670) stakes (certificate_at bs at) (certificate_within bs at)

  ended_front : (c : Certificate) (next : ℕ) → next ≤ 1340 → ended stakes (bs ++ rest) c next ≡ ended stakes bs c next
  unfolding ended
  ended_front c next h =
      ap (λ (t : Bool). whenever (not t) (λ _. Ok (accepted_of stakes c)) (Err refusal.BadLength))
      (lt-ltb next (length (bs ++ rest)) (omega (arith, length-append bs rest)) ∙ sym (lt-ltb next (length bs) (omega arith)))

  second_front : (c : Certificate) (o : One) → Ends 1340 o → second_of stakes (bs ++ rest) c o ≡ second_of stakes bs c o
  unfolding second_of Ends
  second_front c (good d next) h =
      ap (λ (a : Result Accepted Refusal). whenever (eqb d.kind (number_in (length stakes) certificate.Final) && eqb d.slot c.slot) (λ _. a) (Err refusal.NotAProof))
      (ended_front c next h)
  second_front c (bad r) h = refl

  ends_more : (n m : ℕ) (o : One) → n ≤ m → Ends n o → Ends m o
  unfolding Ends
  ends_more n m (good c next) h e = omega arith
  ends_more n m (bad r) h e = tt

  first_front : (k : CertificateKind) (c : Certificate) (next : ℕ) → next ≤ 670 → first_in stakes (bs ++ rest) k c next ≡ first_in stakes bs k c next
  unfolding first_in
  first_front certificate.FastFinal c next h = ended_front c next (omega arith)
  first_front certificate.Notar c next h =
      ap (second_of stakes (bs ++ rest) c) (one_front next h)
      ∙ second_front c (one_at stakes bs next) (ends_more (next + 670) 1340 (one_at stakes bs next) (omega arith) (one_ends next))
  first_front certificate.NotarFallback c next h = refl
  first_front certificate.Skip c next h = refl
  first_front certificate.Final c next h = refl
  first_front certificate.Other c next h = refl

  proof_of_front : (o : One) → Ends 670 o → proof_of stakes (bs ++ rest) o ≡ proof_of stakes bs o
  unfolding proof_of Ends
  proof_of_front (good c next) h = first_front (kind_in (length stakes) c.kind) c next h
  proof_of_front (bad r) h = refl

  check_front : check_proof stakes (bs ++ rest) ≡ check_proof stakes bs
  unfolding check_proof
  check_front =
      ap (λ (a : Result Accepted Refusal). whenever (stakes_fit stakes (length stakes)) (λ _. a) (Err refusal.BadSizes))
      (ap (proof_of stakes (bs ++ rest)) (one_front 0 (omega arith))
      ∙ proof_of_front (one_at stakes bs 0) (ends_more (0 + 670) 670 (one_at stakes bs 0) (omega arith) (one_ends 0)))

-- A packet of any length is answered as its first 1,341 bytes are.
pub front_decides : (stakes packet : List ℕ) → check_proof stakes (take front_bytes packet) ≡ check_proof stakes packet
front_decides stakes packet = go (leb (length packet) front_bytes) refl
  where
    go : (t : Bool) → leb (length packet) front_bytes ≡ t → check_proof stakes (take front_bytes packet) ≡ check_proof stakes packet
    go true e = ap (check_proof stakes) (take_all front_bytes packet (leb-true (length packet) front_bytes e))
    go false e =
        let l = leb-false (length packet) front_bytes e in
        sym (check_front stakes (take front_bytes packet) (drop front_bytes packet) (omega (arith, length-take-le front_bytes packet (omega arith))))
        ∙ ap (check_proof stakes) (take-append-drop front_bytes packet)
