-- The words of a kept certificate: a mask that is lent, words that are all 0, a run of stores. Assumes nothing.
use mathlib.Core.Path.{◌≡◌, refl, ap, ap₂, ◌∙◌}
use mathlib.Core.Bool.{Bool, true, false, not, ◌&&◌, ◌||◌}
use mathlib.Core.List.{List, [], ◌∷◌, ◌++◌}
use Prim.Native.Nat.{ℕ, zero, suc, ◌+◌, ◌*◌, ◌<◌, ◌≤◌}
use native.Mathlib.Omega.{arith}
use native.Mathlib.Nat.{add-zero}
use native.Mathlib.Numerals.{add-one}
use lib.ListN.{length, set, take, drop}
use lib.Seq.{sets}
use Rattle.std.specs.List.{fold}
use lib.Dec.{eqb}
use lib.Bits.{bit_or, or_comm, or_add_and, and_le_r}
use borrow.Author.Tests.{eqb-true, eq-eqb}
use Rattle.rulebook.specs.Tools.{all_to}
use Rattle.rulebook.specs.Certificates.{Kept}
use Rattle.rulebook.specs.Packets.{joined}
use Rattle.rulebook.specs.Ledger.{none, places, certificates_at, put_certificates}
use Rattle.rule_laws.proofs.ToolLaws.{same_test, all_at, all_each}
use Rattle.record.specs.Layout.{word_at, mask_words, places_in, mask_from, ledger_of, InKept, KeptAt}
use Rattle.record.proofs.Tables.{length_tabulate, part_table}
use Rattle.record.proofs.Places.{places_words}
use Rattle.record.proofs.Reading.{kept_read}
use Rattle.record.proofs.Replacing.{kept_stored}
use Rattle.kept_certificates.specs.Kept.{place_at, all_none, Lent, Storing}

-- ---- a mask that is lent

module _ (ws : List ℕ) (s n i : ℕ) (h : InKept ws s n) (k : KeptAt ws s n i) where
  -- The words of a mask.
  abbrev w : ℕ
  w = mask_words (places (ledger_of ws))

  words_are : w ≡ mask_words (places_in ws)
  words_are = ap mask_words (places_words (places_in ws) ws)

  -- The certificate's words lie within the record.
  pub kept_room : i + (1 + 2 * w) ≤ length ws
  kept_room = omega (arith, k.inside, words_are)

  part_lent : (from mask : ℕ) (xs : List ℕ) → xs ≡ take w (drop from ws) → from + w ≤ length ws → mask_from w ws from ≡ mask → Lent (ledger_of ws) mask xs
  part_lent from mask xs e b r =
      let part = e ∙ part_table ws 0 from w b in
      record { many = ap length part ∙ length_tabulate w (λ g. word_at ws (from + g)); spells = ap joined part ∙ r }

  pub a_lent : (xs : List ℕ) → xs ≡ take w (drop (i + 1) ws) → Lent (ledger_of ws) (place_at (ledger_of ws) s n).maska xs
  a_lent xs e =
      part_lent (i + 1) (place_at (ledger_of ws) s n).maska xs e (omega (arith, kept_room))
      (ap (λ (j : ℕ). mask_from j ws (i + 1)) words_are ∙ ap (λ (q : Kept). q.maska) (kept_read ws s n i h k.is))

  pub b_lent : (v : ℕ) (xs : List ℕ) → v ≡ w → xs ≡ take w (drop (i + 1 + v) ws) → Lent (ledger_of ws) (place_at (ledger_of ws) s n).maskb xs
  b_lent v xs m e =
      part_lent (i + 1 + w) (place_at (ledger_of ws) s n).maskb xs (e ∙ ap (λ (j : ℕ). take w (drop (i + 1 + j) ws)) m) (omega (arith, kept_room))
      (ap (λ (j : ℕ). mask_from j ws (i + 1 + j)) words_are ∙ ap (λ (q : Kept). q.maskb) (kept_read ws s n i h k.is))

-- ---- words that are all 0

or_left : (a b : ℕ) → bit_or a b ≡ 0 → a ≡ 0
or_left a b e = omega (arith, or_add_and a b, and_le_r a b)

or_right : (a b : ℕ) → bit_or a b ≡ 0 → b ≡ 0
or_right a b e = or_left b a (or_comm b a ∙ e)

-- All words or-ed together, from what was so far: nothing stands in any exactly where nothing does in what comes of it.
or_each : (ws : List ℕ) (a : ℕ) → fold bit_or a ws ≡ 0 → (a ≡ 0) × ((i : ℕ) → i < length ws → word_at ws i ≡ 0)
or_each [] a e = (e, λ i h. absurd (omega arith))
or_each (x ∷ xs) a e = let h = or_each xs (bit_or a x) e in (or_left a x h.0, at_each (or_right a x h.0) h.1)
  where
    at_each : x ≡ 0 → ((i : ℕ) → i < length xs → word_at xs i ≡ 0) → (i : ℕ) → i < suc (length xs) → word_at (x ∷ xs) i ≡ 0
    at_each z f zero l = z
    at_each z f (suc i) l = f i (omega arith)

or_none : (ws : List ℕ) (a : ℕ) → a ≡ 0 → ((i : ℕ) → i < length ws → word_at ws i ≡ 0) → fold bit_or a ws ≡ 0
or_none [] a e f = e
or_none (x ∷ xs) a e f = or_none xs (bit_or a x) (ap₂ bit_or e (f 0 (omega arith))) (λ i l. f (suc i) (omega arith))

pub or_found : (ws : List ℕ) → eqb (fold bit_or 0 ws) 0 ≡ all_none ws
unfolding all_none
or_found ws =
    same_test (eqb (fold bit_or 0 ws) 0) (all_to (length ws) (λ i. none (word_at ws i)))
    (λ t. all_each (length ws) (λ i. none (word_at ws i)) (λ i l. eq-eqb (word_at ws i) 0 ((or_each ws 0 (eqb-true (fold bit_or 0 ws) 0 t)).1 i l)))
    (λ t. eq-eqb (fold bit_or 0 ws) 0 (or_none ws 0 refl (λ i h. eqb-true (word_at ws i) 0 (all_at (length ws) i (λ i. none (word_at ws i)) t h))))

zero_joined : (ws : List ℕ) → ((i : ℕ) → i < length ws → word_at ws i ≡ 0) → joined ws ≡ 0
unfolding joined
zero_joined [] f = refl
zero_joined (x ∷ xs) f = omega (arith, f 0 (omega arith), zero_joined xs (λ i l. f (suc i) (omega arith)))

joined_zero : (ws : List ℕ) → joined ws ≡ 0 → (i : ℕ) → word_at ws i ≡ 0
unfolding joined
joined_zero [] e i = refl
joined_zero (x ∷ xs) e zero = omega arith
joined_zero (x ∷ xs) e (suc i) = joined_zero xs (omega arith) i

-- They spell the mask without a signer, and no others do.
pub none_joined : (ws : List ℕ) → all_none ws ≡ none (joined ws)
unfolding all_none
none_joined ws =
    same_test (all_to (length ws) (λ i. none (word_at ws i))) (none (joined ws))
    (λ t. eq-eqb (joined ws) 0 (zero_joined ws (λ i l. eqb-true (word_at ws i) 0 (all_at (length ws) i (λ i. none (word_at ws i)) t l))))
    (λ t. all_each (length ws) (λ i. none (word_at ws i)) (λ i l. eq-eqb (word_at ws i) 0 (joined_zero ws (eqb-true (joined ws) 0 t) i)))

-- A signer in either mask.
pub either_kept : (a b : Bool) → (not a || not b) ≡ not (a && b)
either_kept true b = refl
either_kept false b = refl

-- ---- a run of stores

pub sets_append : (xs ys ws : List ℕ) (at : ℕ) → sets (sets ws at xs) (at + length xs) ys ≡ sets ws at (xs ++ ys)
sets_append [] ys ws at = ap (λ (k : ℕ). sets ws k ys) (add-zero at)
sets_append (x ∷ xs) ys ws at =
    let e : at + suc (length xs) ≡ suc at + length xs = omega arith in
    ap (λ (k : ℕ). sets (sets (set ws at x) (suc at) xs) k ys) e ∙ sets_append xs ys (set ws at x) (suc at)

-- The place has room for all words of a certificate.
pub storing_room : (ws a b : List ℕ) (s n i : ℕ) → Storing ws s n a b → KeptAt ws s n i → i + (1 + (length a + length b)) ≤ length ws
storing_room ws a b s n i h k =
    let same : places (ledger_of ws) ≡ places_in ws = places_words (places_in ws) ws in
    omega (arith, k.inside, h.many_a ∙ ap mask_words same, h.many_b ∙ ap mask_words same)

-- The block, then mask A, then mask B.
pub certificate_in_lem : (ws a b : List ℕ) (s n i block : ℕ) → Storing ws s n a b → KeptAt ws s n i
    → ledger_of (sets (sets (set ws i block) (i + 1) a) (i + 1 + length a) b)
    ≡ put_certificates (ledger_of ws) s (set (certificates_at (ledger_of ws) s) n (record { block = block; maska = joined a; maskb = joined b }))
certificate_in_lem ws a b s n i block h k =
    let same : places (ledger_of ws) ≡ places_in ws = places_words (places_in ws) ws in
    ap (λ (ys : List ℕ). ledger_of ys) (sets_append a b (set ws i block) (i + 1) ∙ ap (λ (j : ℕ). sets (set ws i block) j (a ++ b)) (add-one i))
    ∙ kept_stored ws s n i block a b h.place k.is (h.many_a ∙ ap mask_words same) (h.many_b ∙ ap mask_words same)
