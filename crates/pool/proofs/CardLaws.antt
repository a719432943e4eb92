-- What a slot's card shows, where it is the recount. Assumes nothing.
use mathlib.Core.Path.{◌≡◌, refl, sym, ap, ◌∙◌}
use mathlib.Core.Bool.{Bool, true, false, not, ◌&&◌}
use mathlib.Core.List.{List}
use Prim.Native.Nat.{ℕ, ◌≤◌}
use native.Mathlib.Omega.{arith}
use lib.Dec.{eqb, leb}
use borrow.Author.Tests.{eqb-true, eqb-false, ne_eqb, leb-true, leb-false, not-true}
use Rattle.rulebook.specs.declared.Tally.{Tally}
use Rattle.rulebook.specs.declared.Who.{Who}
use Rattle.rulebook.specs.declared.Who.TheVariants as who
use Rattle.rulebook.specs.declared.CertificateKind.{CertificateKind}
use Rattle.rulebook.specs.declared.CertificateKind.TheVariants as certificate
use Rattle.rulebook.specs.Tools.{part}
use Rattle.rulebook.specs.Weights.{reaches, missing}
use Rattle.rulebook.specs.Ledger.{Ledger, none, row_at}
use Rattle.rulebook.specs.Pool.{weigh, weighs, reached, missing_to, signers_of, fifths_of}
use Rattle.rulebook.specs.Cards.{recount, leader, most}
use Rattle.rule_laws.proofs.ToolLaws.{by_test, and_both, part_on, part_off, part_le, true_not_false}
use Rattle.rule_laws.proofs.WeightLaws.{reaches_more, reaches_missing, none_missing}
use Rattle.record.specs.Layout.{ledger_of}
use Rattle.record.specs.Tabled.{Tabled}
use Rattle.recounting.proofs.Leading.{lead_recount}
use Rattle.recounting.proofs.Using.{notar_card}
use Rattle.pool.specs.Weighing.{Carded}
use Rattle.pool.specs.OnCard.{lead_weight, on_card, is_on_card, is_behind}
use Rattle.pool.proofs.HeldLaws.{weigh_mono, counts_fallback}

module _ (l : Ledger) (s : ℕ) where
  -- the leader's weight is the card's
  lead_weighs : (b : ℕ) → 1 ≤ b → eqb b (leader l s) ≡ true → weigh l s (who.Notar b) ≡ most l s
  lead_weighs b h t =
      let e = eqb-true b (leader l s) t in
      let g = lead_recount l s in
      by_test (leb 1 (most l s)) (λ u. ap (λ (x : ℕ). weigh l s (who.Notar x)) e ∙ g.weight (leb-true 1 (most l s) u))
      (λ u. absurd (omega (arith, e, g.empty (omega (arith, leb-false 1 (most l s) u)))))

  lead_bound : (b : ℕ) → part (eqb b (leader l s)) (most l s) ≤ weigh l s (who.Notar b)
  lead_bound b =
      let p = part_le (eqb b (leader l s)) (most l s) in
      by_test (leb 1 (most l s))
      (λ u.
      let g = (lead_recount l s).block (leb-true 1 (most l s) u) in
      by_test (eqb b (leader l s)) (λ t. omega (arith, p, lead_weighs b (omega (arith, g, eqb-true b (leader l s) t)) t))
      (λ t. omega (arith, part_off (eqb b (leader l s)) (most l s) t)))
      (λ u. omega (arith, p, leb-false 1 (most l s) u))

  -- it shows no more than there is
  pub shown_within : (w : Who) → on_card (recount l s) w ≤ weigh l s w
  unfolding on_card lead_weight recount
  shown_within (who.Notar b) = lead_bound b
  shown_within (who.NotarOrFallback b) =
      omega (arith, lead_bound b, weigh_mono l s (who.Notar b) (who.NotarOrFallback b) (counts_fallback b))
  shown_within who.Skip = omega arith
  shown_within who.SkipOrFallback = omega arith
  shown_within who.Final = omega arith
  shown_within who.AnyNotar = omega arith

  -- it shows all
  pub shown_whole : (w : Who) → is_on_card (recount l s) w ≡ true → on_card (recount l s) w ≡ weigh l s w
  unfolding is_on_card on_card lead_weight recount
  shown_whole (who.Notar b) e =
      let h = and_both (not (none b)) (eqb b (leader l s)) e in
      part_on (eqb b (leader l s)) (most l s) h.1 ∙ sym (lead_weighs b (omega (arith, eqb-false b 0 (not-true (none b) h.0))) h.1)
  shown_whole (who.NotarOrFallback b) e = true_not_false false e refl
  shown_whole who.Skip e = refl
  shown_whole who.SkipOrFallback e = refl
  shown_whole who.Final e = refl
  shown_whole who.AnyNotar e = true_not_false false e refl

  -- a block that does not lead does not reach 60
  pub shown_behind : Tabled l → (k : ℕ) → 3 ≤ k → (w : Who) → is_behind (recount l s) w ≡ true → reaches k l.total (weigh l s w) ≡ false
  unfolding is_behind recount
  shown_behind t k h (who.Notar b) e =
      let p = and_both (not (none b)) (not (eqb b (leader l s))) e in
      let z = eqb-false b (leader l s) (not-true (eqb b (leader l s)) p.1) in
      notar_card l s t.sum t.some k b h (omega (arith, eqb-false b 0 (not-true (none b) p.0)))
      ∙ ap (λ (x : Bool). x && reaches k l.total (most l s)) (ne_eqb (leader l s) b (λ q. z (sym q)))
  shown_behind t k h (who.NotarOrFallback b) e = true_not_false false e refl
  shown_behind t k h who.Skip e = true_not_false false e refl
  shown_behind t k h who.SkipOrFallback e = true_not_false false e refl
  shown_behind t k h who.Final e = true_not_false false e refl
  shown_behind t k h who.AnyNotar e = true_not_false false e refl

fifths_most : (k : CertificateKind) → 3 ≤ fifths_of k
unfolding fifths_of
fifths_most certificate.FastFinal = omega arith
fifths_most certificate.Notar = omega arith
fifths_most certificate.NotarFallback = omega arith
fifths_most certificate.Skip = omega arith
fifths_most certificate.Final = omega arith
fifths_most certificate.Other = omega arith

-- ---- what was read of a card that is the recount

pub card_is : {ws : List ℕ} {s : ℕ} → Carded ws s → (t : Tally) → t ≡ (row_at (ledger_of ws) s).card → t ≡ recount (ledger_of ws) s
card_is {s = s} h t e = e ∙ h.cards s h.later (omega (arith, h.weighing.slot))

module _ (l : Ledger) (s : ℕ) (t : Tally) (card : t ≡ recount l s) where
  -- so much the signers weigh
  pub card_whole : (w : Who) (v : ℕ) → is_on_card t w ≡ true → v ≡ on_card t w → v ≡ weigh l s w
  card_whole w v e f =
      f ∙ ap (λ (x : Tally). on_card x w) card ∙ shown_whole l s w (ap (λ (x : Tally). is_on_card x w) (sym card) ∙ e)

  -- nothing is missing to a certificate that the card shows to be reached
  pub card_enough : (k : CertificateKind) (b n all v m : ℕ) → n ≡ fifths_of k → all ≡ l.total → (w : Who) → w ≡ signers_of k b → v ≡ on_card t w
      → m ≡ missing n all v → m ≡ 0 → m ≡ missing_to l k s b
  unfolding missing_to
  card_enough k b n all v m e a w d f g z =
      let u = f ∙ ap (λ (x : Tally). on_card x w) card in
      let h = none_missing n all v m g z in
      let r = reaches_more n all v (weigh l s w) (omega (arith, u, shown_within l s w)) h in
      let q = sym (reaches_missing n all (weigh l s w)) ∙ r in
      z ∙ sym (eqb-true (missing n all (weigh l s w)) 0 q) ∙ (λ i. missing (e i) (a i) (weigh l s (d i)))

  -- a block that does not lead
  pub card_behind : Tabled l → (k : CertificateKind) (b : ℕ) (w : Who) → w ≡ signers_of k b → is_behind t w ≡ true → reached l k s b ≡ false
  unfolding reached weighs
  card_behind h k b w d e =
      ap (λ (x : Who). reaches (fifths_of k) l.total (weigh l s x)) (sym d)
      ∙ shown_behind l s h (fifths_of k) (fifths_most k) w (ap (λ (x : Tally). is_behind x w) (sym card) ∙ e)
