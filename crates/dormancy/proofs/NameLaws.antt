-- The blocks of a slot's places for certificates, by the words that stand there. Assumes nothing.
use mathlib.Core.Path.{◌≡◌, refl, sym, ap, ◌∙◌}
use mathlib.Core.Bool.{Bool, false, not, ◌||◌}
use mathlib.Core.List.{List, ◌++◌}
use Prim.Native.Nat.{ℕ, zero, suc, ◌+◌, ◌-◌, ◌*◌, ◌≤◌, ◌<◌}
use native.Mathlib.Omega.{arith}
use native.Mathlib.Nat.{mul-zero, mul-suc, mul_comm}
use native.Mathlib.Numerals.{add-one}
use lib.ListN.{length, get_or, take, drop, length-append, length-drop, get_or-append}
use lib.Seq.{length-take-le, get_or-take, get_or-append-add, get_or-drop}
use lib.Dec.{eqb}
use Rattle.rulebook.specs.Tools.{some_to}
use Rattle.rulebook.specs.Certificates.{Kept}
use Rattle.rulebook.specs.Ledger.{none, places, most_certificates, kept_at}
use Rattle.rule_laws.proofs.ToolLaws.{some_none, some_more}
use Rattle.rule_laws.proofs.WordLaws.{some_same}
use Rattle.record.specs.Layout.{word_at, mask_words, kept_words, kept_start, places_in, ledger_of, InSlot, KeptAt}
use Rattle.record.proofs.Places.{by_size, places_words}
use Rattle.record.proofs.Reading.{kept_read, ledger_shaped}
use Rattle.kept_certificates.proofs.ByPlace.{slot_blank}
use Rattle.dormancy.specs.Dormant.{names_from, names_kept}

-- ---- places so many words each, taken off one by one

-- The places behind the first k, m of them, each of so many words.
pub record Left (ws : List ℕ) (from apart : ℕ) (rest : List ℕ) (k m : ℕ) : Type 0 where
  pub long : length rest ≡ apart * m
  pub word : (j : ℕ) → j < length rest → get_or rest j 0 ≡ word_at ws (from + apart * k + j)

module _ {ws : List ℕ} {from apart : ℕ} where
  pub left_start : (most : ℕ) → from + most * apart ≤ length ws → (rest : List ℕ) → rest ≡ take (from + most * apart - from) (drop from ws) → Left ws from apart rest 0 most
  left_start most h rest e =
      let n : from + most * apart - from ≡ apart * most = omega (arith, mul_comm most apart) in
      let long : length rest ≡ apart * most =
      ap length e ∙ length-take-le _ (drop from ws) (omega (arith, length-drop from ws)) ∙ n in
      record {
        long = long;
        word =
            λ j b.
            ap (λ (z : List ℕ). get_or z j 0) e
            ∙ get_or-take _ (drop from ws) j 0 (omega arith)
            ∙ get_or-drop from ws j 0
            ∙ ap (word_at ws) (omega (arith, mul-zero apart));
      }

  module _ {rest : List ℕ} {k : ℕ} (some : 0 < apart) where
    -- None is left.
    pub left_end : (m : ℕ) → Left ws from apart rest k m → length rest < apart → m ≡ 0
    left_end zero h e = refl
    left_end (suc m) h e = absurd (omega (arith, h.long, mul-suc apart m))

    -- One more is taken off.
    module _ (x rest' : List ℕ) (e : rest ≡ x ++ rest') (n : length x ≡ apart) where
      pub left_more : (m : ℕ) → Left ws from apart rest k m → (r : ℕ) × (m ≡ suc r) × Left ws from apart rest' (k + 1) r × (get_or x 0 0 ≡ word_at ws (from + apart * k))
      left_more zero h = absurd (omega (arith, h.long, mul-zero apart, ap length e, length-append x rest'))
      left_more (suc r) h =
          let all : length rest ≡ length x + length rest' = ap length e ∙ length-append x rest' in (
            r,
            refl,
            record {
              long = omega (arith, all, h.long, mul-suc apart r);
              word =
                  λ j b.
                  sym (get_or-append-add x rest' j 0)
                  ∙ ap (λ (z : List ℕ). get_or z (length x + j) 0) (sym e)
                  ∙ h.word (length x + j) (omega arith)
                  ∙ ap (word_at ws) (omega (arith, mul-suc apart k, ap (λ (i : ℕ). apart * i) (add-one k)));
            },
            sym (get_or-append x rest' 0 0 (omega arith))
                ∙ ap (λ (z : List ℕ). get_or z 0 0) (sym e)
                ∙ h.word 0 (omega arith)
                ∙ ap (word_at ws) (omega arith),
          )

-- ---- words so many apart, looked at one by one

module _ (ws : List ℕ) (from apart : ℕ) where
  abbrev word : ℕ → ℕ
  word i = word_at ws (from + apart * i)

  pub named_start : false ≡ names_from ws from apart 0
  unfolding names_from
  named_start = sym (some_none (λ i. not (none (word i))))

  pub named_more : (n : ℕ) (x : Bool) → x ≡ names_from ws from apart n → (y : ℕ) → y ≡ word n → (x || not (eqb y 0)) ≡ names_from ws from apart (n + 1)
  unfolding names_from
  named_more n x h y e = (λ k. h k || not (none (e k))) ∙ sym (some_more n (λ i. not (none (word i))))

  pub named_end : (n m : ℕ) (x : Bool) → x ≡ names_from ws from apart n → n ≡ m → x ≡ names_from ws from apart m
  named_end n m x h e = h ∙ ap (names_from ws from apart) e

-- ---- as code computes it: k is where the slot's places begin, p the places for nodes, w the words of a mask

pub large_mask : (p w : ℕ) → w ≡ mask_words p → (w ≡ 1 → ⊥) → w ≡ 32
large_mask p w e ne = by_size p (λ h m. absurd (ne (e ∙ m))) (λ h m. e ∙ m)

module _ (ws : List ℕ) (s k p w apart : ℕ) (h : InSlot ws s) (at : KeptAt ws s 0 k) (e : p ≡ places (ledger_of ws)) (m : w ≡ mask_words p) (a : apart ≡ 1 + 2 * w) where
  pub places_inside : k + most_certificates * apart ≤ length ws
  places_inside = (slot_blank ws s k (most_certificates * apart) p w h at e m (ap (λ (i : ℕ). most_certificates * i) a)).0

  pub places_name : names_from ws k apart most_certificates ≡ names_kept (ledger_of ws) s
  unfolding names_from names_kept kept_start
  places_name =
      let l = ledger_of ws in
      let z : ℕ = places_in ws in
      let masks : w ≡ mask_words z = m ∙ ap mask_words (e ∙ places_words z ws) in
      let wide : apart ≡ kept_words z = omega (arith, a, masks) in
      some_same most_certificates (λ i. not (none (word_at ws (k + apart * i)))) (λ i. not (none (kept_at l s i).block))
      (λ i b.
      let q : k + apart * i ≡ kept_start z s i = rw wide (omega (arith, at.is)) in
      ap (λ (x : Kept). not (none x.block)) (kept_read ws s i (k + apart * i) (record { long = h.long; slot = h.slot; place = b }) q))
      ∙ ap (λ (n : ℕ). some_to n (λ i. not (none (kept_at l s i).block))) (sym ((ledger_shaped ws).certificates s h.slot))
