-- What the card says without weighing: a claimed leader that no other block can overtake; a block that reaches 60 is the leader, so
-- kinds 1 and 2 by votes and rule F ask the card; kinds 4 and 5 are on it; what rules D and E can be told from it. Assumes nothing.
use mathlib.Core.Path.{◌≡◌, refl, sym, ap, ◌∙◌, subst}
use mathlib.Core.List.{List, []}
use mathlib.Core.Bool.{Bool, true, false, not, ◌&&◌, ◌||◌}
use Prim.Native.Nat.{ℕ, ◌+◌, ◌-◌, ◌≤◌, ◌<◌, ◌^◌}
use native.Mathlib.Omega.{arith}
use lib.ListN.{get_or}
use lib.Dec.{eqb, leb}
use borrow.Author.Tests.{eq-eqb, ne_eqb, eqb-true, eqb-false, leb-true, leb-false, not-true}
use Rattle.rulebook.specs.declared.Tally.{Tally}
use Rattle.rulebook.specs.declared.Who.{Who}
use Rattle.rulebook.specs.declared.Who.TheVariants as who
use Rattle.rulebook.specs.declared.CertificateKind.{CertificateKind}
use Rattle.rulebook.specs.declared.CertificateKind.TheVariants as certificate
use Rattle.rulebook.specs.Tools.{any_of, lowest}
use Rattle.rulebook.specs.Weights.{total_to, reaches, d_weights}
use Rattle.rulebook.specs.Ledger.{Ledger, none, no_cell, no_kept, no_card, card_of, row_at, cell_at, certificates_at}
use Rattle.rulebook.specs.Pool.{counts, weigh, weighs, signers_of, fifths_of, reached, place_kind, serves_as, some_kept, is_for, kept_as, held, named, names, kept_names, certifiable}
use Rattle.rulebook.specs.Rules.{fallback_weights, skip_weights, is_final, is_newcomer}
use Rattle.rulebook.specs.Cards.{Light, most, leader, recount, same_card}
use Rattle.rule_laws.proofs.ToolLaws.{by_test, and_both, or_cases, true_not_false}
use Rattle.rule_laws.proofs.WeightLaws.{short_fact, fact_short, reaches_more, weight_none, weight_same, weight_mono, weight_apart_lem}
use Rattle.rule_laws.proofs.LowestLaws.{Among, among_name, named_cases, free_none, free_named, free_positive, lowest_same, names_free, heavy_named}
use Rattle.rule_laws.proofs.CertificateLaws.{some_place, kept_free, kept_name, kept_beside, kept_names_cases}
use Rattle.rule_laws.proofs.FourthLaws.{weights_more}
use Rattle.recounting.proofs.Leading.{Lead, lead_one, lead_recount, lead_same}
pub use Rattle.recounting.proofs.Quick.{notar_apart, weigh_within, lead_quick, recount_leader}
pub use Rattle.recounting.proofs.Sixty.{sixty_leads, reached_some, notar_card}

-- ---- a slot whose cells stay, a blank slot, weights within the sizes

weigh_same : (l l' : Ledger) (s : ℕ) → l'.count ≡ l.count → l'.stakes ≡ l.stakes → ((m : ℕ) → cell_at l' s m ≡ cell_at l s m)
    → (w : Who) → weigh l' s w ≡ weigh l s w
unfolding weigh
weigh_same l l' s c t e w =
    rw (c, t) (weight_same l.stakes l.count (λ n. counts w (cell_at l' s n)) (λ n. counts w (cell_at l s n)) (λ i j. ap (counts w) (e i)))

-- The recount reads the slot's cells, the count and the stakes alone: it stays where another slot's vote is stored.
pub recount_same : (l l' : Ledger) (s : ℕ) → l'.count ≡ l.count → l'.stakes ≡ l.stakes → ((m : ℕ) → cell_at l' s m ≡ cell_at l s m)
    → recount l' s ≡ recount l s
unfolding recount
recount_same l l' s c t e =
    let same : (w : Who) → weigh l' s w ≡ weigh l s w = (λ w. weigh_same l l' s c t e w) in
    let r = lead_one l' s (leader l' s) (most l' s) (leader l s) (most l s) (lead_recount l' s) (lead_same l l' s (leader l s) (most l s) (λ m i. same (who.Notar m)) (lead_recount l s)) in
    rw (same who.Skip, same who.Final, same who.SkipOrFallback, r.0, r.1)

module _ (l : Ledger) (s : ℕ) where
  notar_any : (m : ℕ) → 1 ≤ m → weigh l s (who.Notar m) ≤ weigh l s who.AnyNotar
  unfolding weigh counts
  notar_any m k =
      weight_mono l.stakes l.count (λ n. eqb (cell_at l s n).notar m) (λ n. not (none (cell_at l s n).notar))
      (λ i d t. ap not (ne_eqb (cell_at l s i).notar 0 (λ z. omega (arith, eqb-true (cell_at l s i).notar m t))))

  -- No notar stake, no leader.
  pub lead_none : weigh l s who.AnyNotar ≡ 0 → Lead l s 0 0
  lead_none e =
      record {
        empty = λ _. refl;
        block = λ k. absurd (omega arith);
        weight = λ k. absurd (omega arith);
        above = λ m k. omega (arith, notar_any m k);
        lower = λ m k j z. absurd (omega arith);
      }

-- ---- the card in the rules: with a total that is the sum, and some stake

module _ (l : Ledger) (s : ℕ) (sum : total_to l.stakes l.count ≡ l.total) (some : 1 ≤ l.total) where
  -- Kinds 1, 2, 4 and 5 by the card.
  pub reached_one : (b : ℕ) → 1 ≤ b → reached l certificate.FastFinal s b ≡ (eqb (leader l s) b && reaches 4 l.total (most l s))
  unfolding reached weighs signers_of fifths_of
  reached_one b h = notar_card l s sum some 4 b (omega arith) h

  pub reached_two : (b : ℕ) → 1 ≤ b → reached l certificate.Notar s b ≡ (eqb (leader l s) b && reaches 3 l.total (most l s))
  unfolding reached weighs signers_of fifths_of
  reached_two b h = notar_card l s sum some 3 b (omega arith) h

  pub reached_four : (b : ℕ) → reached l certificate.Skip s b ≡ reaches 3 l.total (recount l s).skipcert.0
  unfolding reached weighs signers_of fifths_of recount
  reached_four b = refl

  pub reached_five : (b : ℕ) → reached l certificate.Final s b ≡ reaches 3 l.total (recount l s).finals.0
  unfolding reached weighs signers_of fifths_of recount
  reached_five b = refl

  -- ---- rule F: its block leads, or a kept certificate names it

  abbrev pub leading : List ℕ
  leading = named (leader l s) []

  -- a block for which a certificate is held is the leader, where votes reach it, or named by a kept one
  held_leads : (k : CertificateKind) (b : ℕ) → 1 ≤ b → (reached l k s b ≡ true → leader l s ≡ b) → held l k s b ≡ true → Among b (kept_names (certificates_at l s) leading)
  unfolding held kept_as is_for
  held_leads k b h lead e =
      let qs = certificates_at l s in
      let nb : none b ≡ false = ne_eqb b 0 (λ z. omega arith) in
      or_cases (reached l k s b) (some_kept (λ i q. serves_as (place_kind i) k && eqb q.block b) 0 qs) e
      (λ t. let z = lead t in kept_beside qs leading b (among_name b (leader l s) [] (sym z) (ap none z ∙ nb)))
      (λ t.
      let r = some_place (λ i q. serves_as (place_kind i) k && eqb q.block b) 0 qs t in
      kept_name qs leading r.0 b (eqb-true (get_or qs r.0 no_kept).block b (and_both (serves_as (place_kind (0 + r.0)) k) (eqb (get_or qs r.0 no_kept).block b) r.2).1) nb)

  pub final_leads : (b : ℕ) → 1 ≤ b → is_final l s b ≡ true → Among b (kept_names (certificates_at l s) leading)
  unfolding is_final
  final_leads b h e =
      or_cases (held l certificate.FastFinal s b) (held l certificate.Notar s b && held l certificate.Final s 0) e
      (λ t. held_leads certificate.FastFinal b h (λ u. eqb-true (leader l s) b (and_both (eqb (leader l s) b) _ (sym (reached_one b h) ∙ u)).0) t)
      (λ t.
      held_leads certificate.Notar b h (λ u. eqb-true (leader l s) b (and_both (eqb (leader l s) b) _ (sym (reached_two b h) ∙ u)).0)
      (and_both (held l certificate.Notar s b) (held l certificate.Final s 0) t).0)

  leader_named : (b : ℕ) → none (leader l s) ≡ false → b ≡ leader l s → Among b (names l s)
  leader_named b z e =
      let g = lead_recount l s in
      let one : 1 ≤ leader l s = positive (leader l s) z in
      let some : 1 ≤ most l s = by_test (leb 1 (most l s)) (λ t. leb-true 1 (most l s) t) (λ t. absurd (empty (leader l s) one (g.empty (omega (arith, leb-false 1 (most l s) t))))) in
      subst (λ (x : ℕ). Among x (names l s)) (sym e) (heavy_named l s (leader l s) one (omega (arith, g.weight some)))
    where
      positive : (x : ℕ) → none x ≡ false → 1 ≤ x
      positive x t = omega (arith, eqb-false x 0 t)

      empty : (x : ℕ) → 1 ≤ x → x ≡ 0 → ⊥
      empty x h t = omega arith

  -- F's newcomer is looked for among the leader and the kept certificates' blocks.
  pub newcomer_lead : lowest (is_newcomer l s) (certifiable l s) ≡ lowest (is_newcomer l s) (kept_names (certificates_at l s) (named (leader l s) []))
  unfolding certifiable names is_newcomer any_of
  newcomer_lead =
      let qs = certificates_at l s in
      let passes : ℕ → Bool = λ b. is_final l s b && not (eqb b (row_at l s).final) in
      let free = kept_free qs (names l s) (names_free l s l.count) in
      let few = kept_free qs leading (free_named (leader l s) [] free_none) in
      lowest_same passes (kept_names qs (names l s)) (kept_names qs leading) free few
      (λ b h e. final_leads b (free_positive (kept_names qs (names l s)) b free h) (and_both (is_final l s b) (not (eqb b (row_at l s).final)) e).0)
      (λ b h e. kept_names_cases qs leading b h
      (λ n t. kept_name qs (names l s) n b t (ne_eqb b 0 (λ z. omega (arith, free_positive (kept_names qs leading) b few h))))
      (λ t. kept_beside qs (names l s) b (named_cases b (leader l s) [] t (leader_named b) (λ u. true_not_false false u refl))))

  -- ---- rule D: where the leader's weights do not suffice, no block's do

  pub falls_quiet : (b : ℕ) → 1 ≤ b → d_weights l.total (most l s) (weigh l s who.Skip) ≡ false → fallback_weights l s b ≡ false
  unfolding fallback_weights
  falls_quiet b h e =
      let w = weigh l s (who.Notar b) in
      let k = weigh l s who.Skip in
      by_test (d_weights l.total w k)
      (λ t. true_not_false (d_weights l.total (most l s) k) (weights_more l.total w k (most l s) k ((lead_recount l s).above b h) (omega arith) t) e)
      (λ t. t)

  -- ---- rule E: the largest is on the card; two tests that need no weighing of all notar

  pub most_any : most l s ≤ weigh l s who.AnyNotar
  most_any =
      by_test (leb 1 (most l s))
      (λ t.
      let m = leb-true 1 (most l s) t in
      let g = lead_recount l s in
      omega (arith, g.weight m, notar_any l s (leader l s) (g.block m)))
      (λ t. omega (arith, leb-false 1 (most l s) t))

  pub initial_within : ((n : ℕ) → n < l.count → (none (cell_at l s n).notar || none (cell_at l s n).skip) ≡ true)
      → weigh l s who.Skip + weigh l s who.AnyNotar ≤ l.total
  unfolding weigh counts
  initial_within one =
      omega (
        arith,
        weight_apart_lem l.stakes l.count (λ n. not (none (cell_at l s n).skip)) (λ n. not (none (cell_at l s n).notar))
            (λ i d p q.
            or_cases (none (cell_at l s i).notar) (none (cell_at l s i).skip) (one i d)
            (λ t. true_not_false (none (cell_at l s i).notar) t (not-true (none (cell_at l s i).notar) q))
            (λ t. true_not_false (none (cell_at l s i).skip) t (not-true (none (cell_at l s i).skip) p))),
      )

  pub skip_card : skip_weights l s ≡ reaches 2 l.total (weigh l s who.Skip + weigh l s who.AnyNotar - most l s)
  unfolding skip_weights most
  skip_card = refl

  -- skip alone reaches 40
  pub skip_sure : reaches 2 l.total (weigh l s who.Skip) ≡ true → skip_weights l s ≡ true
  skip_sure e =
      skip_card ∙ reaches_more 2 l.total (weigh l s who.Skip) (weigh l s who.Skip + weigh l s who.AnyNotar - most l s) (omega (arith, most_any)) e

  -- what the leader does not have does not reach 40; no node has both initial votes
  pub skip_quiet : ((n : ℕ) → n < l.count → (none (cell_at l s n).notar || none (cell_at l s n).skip) ≡ true)
      → reaches 2 l.total (l.total - most l s) ≡ false → skip_weights l s ≡ false
  skip_quiet one e =
      skip_card ∙ fact_short 2 l.total (weigh l s who.Skip + weigh l s who.AnyNotar - most l s)
      (omega (arith, short_fact 2 l.total (l.total - most l s) e, initial_within one))

-- ---- sizes

pub recount_light : (l : Ledger) (s : ℕ) → total_to l.stakes l.count ≤ 2 ^ 48 → Light (recount l s)
unfolding recount
recount_light l s h =
    record {
      skip = omega (arith, weigh_within l s who.Skip);
      finals = omega (arith, weigh_within l s who.Final);
      skipcert = omega (arith, weigh_within l s who.SkipOrFallback);
    }

-- ---- a slot without votes

no_counts : (w : Who) → counts w no_cell ≡ false → (l : Ledger) (s : ℕ) → ((n : ℕ) → cell_at l s n ≡ no_cell) → weigh l s w ≡ 0
unfolding weigh
no_counts w f l s e = weight_none l.stakes l.count (λ n. counts w (cell_at l s n)) (λ i j. ap (counts w) (e i) ∙ f)

pub recount_none : (l : Ledger) (s : ℕ) → ((n : ℕ) → cell_at l s n ≡ no_cell) → recount l s ≡ no_card
unfolding recount counts
recount_none l s e =
    let r = recount_leader l s 0 0 (lead_none l s (no_counts who.AnyNotar refl l s e)) in
    rw (no_counts who.Skip refl l s e, no_counts who.Final refl l s e, no_counts who.SkipOrFallback refl l s e, r.0, r.1)

-- ---- the 17 test as an equation

pub same_card_lem : (t d : Tally) → same_card t d ≡ true → t ≡ d
unfolding same_card
same_card_lem t d e =
    let p = and_both (eqb t.skip.0 d.skip.0 && (eqb t.finals.0 d.finals.0 && eqb t.skipcert.0 d.skipcert.0)) _ e in
    let q = and_both (eqb t.skip.0 d.skip.0) _ p.0 in
    let r = and_both (eqb t.finals.0 d.finals.0) _ q.1 in
    let u = and_both (eqb t.leader d.leader) _ p.1 in
    let a = eqb-true t.skip.0 d.skip.0 q.0 in
    let b = eqb-true t.finals.0 d.finals.0 r.0 in
    let c = eqb-true t.skipcert.0 d.skipcert.0 r.1 in
    let f = eqb-true t.leader d.leader u.0 in
    let g = eqb-true t.weight.0 d.weight.0 u.1 in
    let z : card_of t.skip.0 t.finals.0 t.skipcert.0 t.leader t.weight.0 ≡ card_of d.skip.0 d.finals.0 d.skipcert.0 d.leader d.weight.0 =
    rw (a, b, c, f, g) in
    z

pub card_same : (t : Tally) → same_card t t ≡ true
unfolding same_card
card_same t =
    rw (eq-eqb t.skip.0 t.skip.0 refl, eq-eqb t.finals.0 t.finals.0 refl, eq-eqb t.skipcert.0 t.skipcert.0 refl, eq-eqb t.leader t.leader refl, eq-eqb t.weight.0 t.weight.0 refl)
