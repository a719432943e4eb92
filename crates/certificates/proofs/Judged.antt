-- Laws of one certificate: what was weighed of it, and what is told of it against the rule book. Assumes nothing.
use Rattle.std.specs.Prelude.{⊤, Result, Ok, Err}
use mathlib.Core.Path.{◌≡◌, refl, sym, ap, ap₂, ◌∙◌}
use mathlib.Core.Bool.{Bool, true, false, not, ◌&&◌, ◌||◌}
use mathlib.Core.List.{List}
use Prim.Native.Nat.{ℕ, zero, suc, ◌^◌, ◌≤◌}
use native.Mathlib.Omega.{arith}
use lib.ListN.{length, take}
use lib.Dec.{eqb, leb}
use borrow.Author.Tests.{le-leb, ne_eqb, eqb-true, eqb-false}
use Rattle.rulebook.specs.declared.Heading.{Heading}
use Rattle.rulebook.specs.Certificates.{Certificate}
use Rattle.rulebook.specs.Certificates as found
use Rattle.rulebook.specs.declared.CertificateKind.{CertificateKind}
use Rattle.rulebook.specs.declared.CertificateKind.TheVariants as certificate
use Rattle.rulebook.specs.declared.Refusal.{Refusal}
use Rattle.rulebook.specs.declared.Refusal.TheVariants as refusal
use Rattle.rulebook.specs.declared.Weight.{Weight}
use Rattle.rulebook.specs.Weights.{slot_ok, total_to, reaches, missing}
use Rattle.rulebook.specs.PaperNumbers.{kind_in, refusal_of}
use Rattle.rulebook.specs.Pool.{fifths_of}
use Rattle.rulebook.specs.Inputs.{refuse_if}
use Rattle.rulebook.specs.Ledger.{none}
use Rattle.rulebook.specs.Packets.{bit, count_of, words_in, certificate_of}
use Rattle.rulebook.specs.Checker.{is_other_kind, block_misfits, bad_signers, signed, signed_weight, lacking, judge_weight, accepted_of, judged, judge_kind, judge, one_of}
use Rattle.rulebook.specs.WellFormed.{is_fine}
use Rattle.rule_laws.proofs.ToolLaws.{by_test}
use Rattle.rule_laws.proofs.WeightLaws.{none_missing, some_missing}
use Rattle.rule_laws.proofs.KindLaws.{table_words}
use Rattle.certificate_numbers.specs.Told.{Masks, found_as}
use Rattle.stakes.specs.declared.LentTable.{LentTable}
use Rattle.stakes.specs.declared.Weighed.{Weighed}
use Rattle.stakes.specs.Table.{Fit, weighed}
use Rattle.certificates.specs.Told.{Wide, told, told_of, weighed_in}
use Rattle.rulebook.specs.declared.Unread.{Unread}
use Rattle.rulebook.specs.declared.Unread.TheVariants.{Early, Malformed}

-- No kind needs more than five fifths.
pub fifths_le : (k : CertificateKind) → fifths_of k ≤ 5
unfolding fifths_of
fifths_le certificate.FastFinal = omega arith
fifths_le certificate.Notar = omega arith
fifths_le certificate.NotarFallback = omega arith
fifths_le certificate.Skip = omega arith
fifths_le certificate.Final = omega arith
fifths_le certificate.Other = omega arith

-- ---- what is told, against the rule book

-- 15, and what is told else.
pub too_light_lem : (ws : List ℕ) (k : CertificateKind) (c : Certificate) (next : ℕ)
    → reaches (fifths_of k) (total_to ws (length ws)) (signed_weight ws c) ≡ false → (m : Weight) → m.0 ≡ lacking ws k c
    → Err (refusal.TooLight m) ≡ weighed_in ws k c next
unfolding weighed_in judge_weight refuse_if judged told
too_light_lem ws k c next e m f = rw e (ap (λ (x : ℕ). Err (refusal.TooLight (record { 0 = x }))) f)

pub heavy_enough : (ws : List ℕ) (k : CertificateKind) (c : Certificate) (next : ℕ)
    → reaches (fifths_of k) (total_to ws (length ws)) (signed_weight ws c) ≡ true → weighed_in ws k c next ≡ Ok (accepted_of ws c, next)
unfolding weighed_in judge_weight refuse_if judged told
heavy_enough ws k c next e = rw e

-- The signers' count and weight, as they are weighed.
weighed_signed : (ws : List ℕ) (c : Certificate) (w : Weighed) → w ≡ weighed ws (length ws) (λ n. bit c.maska n || bit c.maskb n)
    → w ≡ record { signers = count_of (signed c) (length ws); weight = record { 0 = signed_weight ws c } }
unfolding weighed signed signed_weight
weighed_signed ws c w e = e

-- What was weighed lacks what the certificate lacks.
pub lacks_same : (ws : List ℕ) (t : LentTable) → Fit ws t → (k : CertificateKind) (c : Certificate) (w : Weighed)
    → w ≡ weighed ws (length ws) (λ n. bit c.maska n || bit c.maskb n) → (n : ℕ) → n ≡ fifths_of k → (m : ℕ)
    → m ≡ missing n t.total.0 w.weight.0 → m ≡ lacking ws k c
unfolding lacking
lacks_same ws t f k c w q n e m h =
    let v : w.weight.0 ≡ signed_weight ws c = ap (λ (x : Weighed). x.weight.0) (weighed_signed ws c w q) in
    h ∙ ap (λ (x : ℕ). missing x t.total.0 w.weight.0) e
    ∙ ap₂ (λ (x y : ℕ). missing (fifths_of k) x y) f.total v

-- Something lacking is a weight below the threshold, and nothing lacking is not.
pub lacks_some : (ws : List ℕ) (k : CertificateKind) (c : Certificate) (m : ℕ) → m ≡ lacking ws k c → (m ≡ 0 → ⊥)
    → reaches (fifths_of k) (total_to ws (length ws)) (signed_weight ws c) ≡ false
unfolding lacking
lacks_some ws k c m e z = some_missing (fifths_of k) (total_to ws (length ws)) (signed_weight ws c) m e z

pub lacks_none : (ws : List ℕ) (k : CertificateKind) (c : Certificate) (m : ℕ) → m ≡ lacking ws k c → m ≡ 0
    → reaches (fifths_of k) (total_to ws (length ws)) (signed_weight ws c) ≡ true
unfolding lacking
lacks_none ws k c m e z = none_missing (fifths_of k) (total_to ws (length ws)) (signed_weight ws c) m e z

-- What is told of a certificate that was weighed.
pub weighed_told : (ws : List ℕ) (k : CertificateKind) (c : Certificate) → k ≡ kind_in (length ws) c.kind → (w : Weighed)
    → w ≡ weighed ws (length ws) (λ n. bit c.maska n || bit c.maskb n) → (next : ℕ)
    → reaches (fifths_of k) (total_to ws (length ws)) (signed_weight ws c) ≡ true
    → Ok (record { kind = k; slot = record { 0 = c.slot }; block = c.block; signers = w.signers; weight = w.weight }, next) ≡ weighed_in ws k c next
unfolding accepted_of
weighed_told ws k c e w q next r =
    ap₂ (λ (x : CertificateKind) (y : Weighed).
    Ok (record { kind = x; slot = record { 0 = c.slot }; block = c.block; signers = y.signers; weight = y.weight }, next))
    e (weighed_signed ws c w q)
    ∙ sym (heavy_enough ws k c next r)

-- ---- the tests in their order

-- The kind by the table's count is the kind by the lent stakes.
pub kind_heard : (ws : List ℕ) (t : LentTable) → Fit ws t → (k : CertificateKind) (n : ℕ) → k ≡ kind_in t.count n → k ≡ kind_in (length ws) n
kind_heard ws t f k n e = e ∙ ap (λ (x : ℕ). kind_in x n) f.count

module _ (ws : List ℕ) (k : CertificateKind) (c : Certificate) (next : ℕ) (e : k ≡ kind_in (length ws) c.kind) where
  -- 4: a kind that is none of the table's five.
  pub other_kind : is_other_kind k ≡ true → Err refusal.BadKind ≡ told_of ws c next
  unfolding told_of judge judge_kind refuse_if judged told
  other_kind o = rw (← e, o)

  module _ (known : is_other_kind k ≡ false) where
    -- 3.
    pub odd_slot : slot_ok c.slot ≡ false → Err refusal.BadSlot ≡ told_of ws c next
    unfolding told_of judge judge_kind refuse_if judged told
    odd_slot s = rw (← e, known, s)

    module _ (slot : slot_ok c.slot ≡ true) where
      -- 5.
      pub odd_block : block_misfits k c.block ≡ true → Err refusal.BadBlock ≡ told_of ws c next
      unfolding told_of judge judge_kind refuse_if judged told
      odd_block b = rw (← e, known, slot, b)

      module _ (block : block_misfits k c.block ≡ false) (count : ℕ) (n : count ≡ length ws) where
        masks_as : (b : Bool) → bad_signers count k c ≡ b → bad_signers (length ws) k c ≡ b
        masks_as b m = ap (λ (i : ℕ). bad_signers i k c) (sym n) ∙ m

        -- 14.
        pub odd_masks : bad_signers count k c ≡ true → Err refusal.BadSigners ≡ told_of ws c next
        unfolding told_of judge judge_kind refuse_if judged told
        odd_masks m = rw (← e, known, slot, block, masks_as true m)

        -- Then the weight decides.
        pub weight_left : bad_signers count k c ≡ false → weighed_in ws k c next ≡ told_of ws c next
        unfolding told_of judge judge_kind refuse_if judged weighed_in
        weight_left m = rw (← e, known, slot, block, masks_as false m)

-- ---- a certificate that a record keeps

-- By what its signers lack.
pub fine_weight : (ws : List ℕ) (k : CertificateKind) (c : Certificate) (m : ℕ) → m ≡ lacking ws k c → eqb m 0 ≡ is_fine (judge_weight ws k c)
unfolding judge_weight refuse_if is_fine
fine_weight ws k c m e =
    by_test (eqb m 0) (λ t. rw (t, lacks_none ws k c m e (eqb-true m 0 t))) (λ t. rw (t, lacks_some ws k c m e (eqb-false m 0 t)))

-- By its kind, block and masks, then by its signers.
module _ (ws : List ℕ) (t : LentTable) (f : Fit ws t) (k : CertificateKind) (c : Certificate) (slot : slot_ok c.slot ≡ true) (o m b : Bool)
    (other : o ≡ is_other_kind k) (misfits : m ≡ block_misfits k c.block) (masks : b ≡ bad_signers t.count k c) where
  masks_is : b ≡ bad_signers (length ws) k c
  masks_is = masks ∙ ap (λ (n : ℕ). bad_signers n k c) f.count

  in_order : (x y z : Bool) (v : Result ⊤ Refusal) → is_fine (refuse_if x refusal.BadKind (refuse_if false refusal.BadSlot (refuse_if y refusal.BadBlock (refuse_if z refusal.BadSigners v)))) ≡ (not (x || (y || z)) && is_fine v)
  unfolding refuse_if is_fine
  in_order true y z v = refl
  in_order false true z v = refl
  in_order false false true v = refl
  in_order false false false v = refl

  judged_is : is_fine (judge_kind ws k c) ≡ (not (o || (m || b)) && is_fine (judge_weight ws k c))
  unfolding judge_kind
  judged_is =
      (λ i. is_fine (refuse_if (sym other i) refusal.BadKind (refuse_if (not (slot i)) refusal.BadSlot (refuse_if (sym misfits i) refusal.BadBlock (refuse_if (sym masks_is i) refusal.BadSigners (judge_weight ws k c))))))
      ∙ in_order o m b (judge_weight ws k c)

  pub kept_refused : (o || (m || b)) ≡ true → false ≡ is_fine (judge_kind ws k c)
  kept_refused e = sym (judged_is ∙ ap (λ (x : Bool). not x && is_fine (judge_weight ws k c)) e)

  pub kept_weighed : (o || (m || b)) ≡ false → is_fine (judge_weight ws k c) ≡ is_fine (judge_kind ws k c)
  kept_weighed e = sym (judged_is ∙ ap (λ (x : Bool). not x && is_fine (judge_weight ws k c)) e)

-- ---- the masks' words

-- Past 4 they are wide enough for the table.
pub judge_wide : (ws : List ℕ) (t : LentTable) → Fit ws t → (h : Heading) (a b : List ℕ) → Masks h a b → (k : CertificateKind) → k ≡ kind_in (length ws) h.kind
    → is_other_kind k ≡ false → (count : ℕ) → count ≡ length ws → Wide count a b
judge_wide ws t f h a b m k e o count n =
    record {
      long = omega (arith, n, table_words (length ws) h.kind (ap is_other_kind (sym e) ∙ o) f.lent.few, m.long_a);
      same = m.long_b ∙ sym m.long_a;
    }

-- A mask names a node exactly where it goes beyond a table without nodes.
pub some_named_lem : (m : ℕ) → leb (2 ^ 0) m ≡ not (none m)
some_named_lem zero = refl
some_named_lem (suc m) = le-leb 1 (suc m) (omega arith) ∙ sym (ap not (ne_eqb (suc m) 0 (λ e. omega arith)))

-- ---- what was found

module _ (ws x y : List ℕ) (c : found.Found) where
  pub found_unread : (u : Unread) → found_as (Err u) x y ≡ c → Err (refusal_of u) ≡ told ws (one_of ws c)
  unfolding found_as one_of told refusal_of
  found_unread Early e = ap (λ (z : found.Found). told ws (one_of ws z)) e
  found_unread Malformed e = ap (λ (z : found.Found). told ws (one_of ws z)) e

  pub found_whole : (h : Heading) (next w : ℕ) → found_as (Ok (h, next)) x y ≡ c → w ≡ words_in h.kind
      → told_of ws (certificate_of h (take w x) (take w y)) next ≡ told ws (one_of ws c)
  unfolding found_as one_of told_of
  found_whole h next w e ew =
      ap (λ (n : ℕ). told_of ws (certificate_of h (take n x) (take n y)) next) ew ∙ ap (λ (z : found.Found). told ws (one_of ws z)) e
