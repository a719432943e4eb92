-- Cells with the same votes, in whichever places, count alike; so ledgers with the same votes and certificates weigh and hold alike. Assumes nothing.
use mathlib.Core.Path.{◌≡◌, refl, sym, ap, ◌∙◌, subst}
use mathlib.Core.Bool.{Bool, true, false, not, ◌&&◌, ◌||◌}
use Prim.Native.Nat.{ℕ, ◌+◌}
use lib.Dec.{T, eqb}
use borrow.Author.Tests.{eqb-true, eqb-false, eq-eqb, not-true}
use Rattle.rulebook.specs.declared.Cell.{Cell}
use Rattle.rulebook.specs.declared.CertificateKind.{CertificateKind}
use Rattle.rulebook.specs.declared.Who.{Who}
use Rattle.rulebook.specs.declared.Who.TheVariants as who
use Rattle.rulebook.specs.Certificates.{Kept}
use Rattle.rulebook.specs.Weights.{reaches}
use Rattle.rulebook.specs.Ledger.{Ledger, none, cell_at, certificates_at, kept_at}
use Rattle.rulebook.specs.Pool.{has_fallback, counts, weigh, weighs, signers_of, fifths_of, reached, place_kind, same_kind, serves_as, is_for, kept_as, held}
use Rattle.rulebook.specs.Cards.{most, leader, recount}
use Rattle.rule_laws.proofs.ToolLaws.{and_both, both_and, or_left, or_right, or_cases, or_none, by_test, same_test, true_not_false}
use Rattle.rule_laws.proofs.WeightLaws.{weight_same}
use Rattle.rule_laws.proofs.CertificateLaws.{same_kind_lem, kind_same, some_place, place_some}
use Rattle.recounting.proofs.Leading.{lead_one, lead_recount, lead_same}
use Rattle.safety.specs.Slot.{Ballot, notar, notar_fallback, skip, skip_fallback, final}
use Rattle.safety.specs.Ballots.{has}
use Rattle.safety.proofs.Tests.{T_true, true_t}
use Rattle.safety.proofs.Cells.{Neat}
use Rattle.onlookers.specs.Accepted.{same_kept, is_kept_as, keeps_certificate}

-- ---- tests

and_on : (a b : Bool) → a ≡ true → (a && b) ≡ b
and_on a b e = rw e refl

-- Three different numbers are not all among two.
pigeons : (p q x y z : ℕ) → (eqb p x || eqb q x) ≡ true → (eqb p y || eqb q y) ≡ true → (eqb p z || eqb q z) ≡ true → ¬ (x ≡ y) → ¬ (x ≡ z) → ¬ (y ≡ z) → ⊥
pigeons p q x y z a b c xy xz yz =
    or_cases (eqb p x) (eqb q x) a
    (λ i. or_cases (eqb p y) (eqb q y) b (λ j. xy (sym (eqb-true p x i) ∙ eqb-true p y j))
    (λ j. or_cases (eqb p z) (eqb q z) c (λ k. xz (sym (eqb-true p x i) ∙ eqb-true p z k)) (λ k. yz (sym (eqb-true q y j) ∙ eqb-true q z k))))
    (λ i. or_cases (eqb p y) (eqb q y) b
    (λ j. or_cases (eqb p z) (eqb q z) c (λ k. yz (sym (eqb-true p y j) ∙ eqb-true p z k)) (λ k. xz (sym (eqb-true q x i) ∙ eqb-true q z k)))
    (λ j. xy (sym (eqb-true q x i) ∙ eqb-true q y j)))

-- ---- cells

-- A fallback is one of three; where the last place is free, of two.
first_two : (c : Cell) (x : ℕ) → none c.fallback3 ≡ true → none x ≡ false → has_fallback x c ≡ true → (eqb c.fallback1 x || eqb c.fallback2 x) ≡ true
unfolding has_fallback
first_two c x e nx h =
    or_cases (eqb c.fallback1 x) (eqb c.fallback2 x || eqb c.fallback3 x) h
    (λ t. or_left (eqb c.fallback1 x) (eqb c.fallback2 x) t)
    (λ t. or_cases (eqb c.fallback2 x) (eqb c.fallback3 x) t
    (λ u. or_right (eqb c.fallback1 x) (eqb c.fallback2 x) u)
    (λ u. absurd (eqb-false x 0 nx (sym (eqb-true c.fallback3 x u) ∙ eqb-true c.fallback3 0 e))))

-- Where a place is free the last one is.
last_free : (c : Cell) → Neat c → has_fallback 0 c ≡ true → none c.fallback3 ≡ true
unfolding has_fallback
last_free c ok h =
    by_test (none c.fallback3) (λ t. t)
    (λ t.
    let some : T (not (none c.fallback3)) = true_t (not (none c.fallback3)) (ap not t) in
    let a = ok.apart.third some in
    or_cases (eqb c.fallback1 0) (eqb c.fallback2 0 || eqb c.fallback3 0) h
    (λ u. T_true (none c.fallback3) (ok.front (true_t (none c.fallback1) u)).1)
    (λ u. or_cases (eqb c.fallback2 0) (eqb c.fallback3 0) u
    (λ w. true_not_false (none c.fallback2) w (not-true (none c.fallback2) (T_true (not (none c.fallback2)) a.0)))
    (λ w. w)))

-- Where every fallback of d is one of c's, and c has a place free, so has d.
free_too : (c d : Cell) → Neat c → Neat d → ((x : ℕ) → none x ≡ false → has_fallback x d ≡ true → has_fallback x c ≡ true) → has_fallback 0 c ≡ true → has_fallback 0 d ≡ true
unfolding has_fallback
free_too c d okc okd within h =
    by_test (has_fallback 0 d) (λ t. t)
    (λ t.
    let x : ℕ = d.fallback1 in
    let y : ℕ = d.fallback2 in
    let z : ℕ = d.fallback3 in
    let p = or_none (eqb x 0) (eqb y 0 || eqb z 0) t in
    let q = or_none (eqb y 0) (eqb z 0) p.1 in
    let third = okd.apart.third (true_t (not (none z)) (ap not q.1)) in
    let second = okd.apart.second (true_t (not (none y)) (ap not q.0)) in
    let last = last_free c okc h in
    let of : (b : ℕ) → none b ≡ false → has_fallback b d ≡ true → (eqb c.fallback1 b || eqb c.fallback2 b) ≡ true = λ b nb e. first_two c b last nb (within b nb e) in
    absurd (pigeons c.fallback1 c.fallback2 x y z
    (of x p.0 (or_left (eqb x x) (eqb y x || eqb z x) (eq-eqb x x refl)))
    (of y q.0 (or_right (eqb x y) (eqb y y || eqb z y) (or_left (eqb y y) (eqb z y) (eq-eqb y y refl))))
    (of z q.1 (or_right (eqb x z) (eqb y z || eqb z z) (or_right (eqb y z) (eqb z z) (eq-eqb z z refl))))
    second.1 third.1 third.2))

module _ (c d : Cell) (okc : Neat c) (okd : Neat d) (same : (b : Ballot) → has d b ≡ has c b) where
  notar_same : d.notar ≡ c.notar
  notar_same =
      by_test (none c.notar)
      (λ t. by_test (none d.notar)
      (λ u. eqb-true d.notar 0 u ∙ sym (eqb-true c.notar 0 t))
      (λ u. sym (eqb-true c.notar d.notar (and_both (not (none d.notar)) (eqb c.notar d.notar)
      (sym (same (notar d.notar)) ∙ both_and (not (none d.notar)) (eqb d.notar d.notar) (ap not u) (eq-eqb d.notar d.notar refl))).1)))
      (λ t. eqb-true d.notar c.notar (and_both (not (none c.notar)) (eqb d.notar c.notar)
      (same (notar c.notar) ∙ both_and (not (none c.notar)) (eqb c.notar c.notar) (ap not t) (eq-eqb c.notar c.notar refl))).1)

  -- 0 is no block, and stands for a place that is free.
  fallback_same : (b : ℕ) → has_fallback b d ≡ has_fallback b c
  fallback_same b =
      by_test (none b)
      (λ t. subst (λ (x : ℕ). has_fallback x d ≡ has_fallback x c) (sym (eqb-true b 0 t))
      (same_test (has_fallback 0 d) (has_fallback 0 c)
      (free_too d c okd okc (λ x nx e. sym (block x nx) ∙ e)) (free_too c d okc okd (λ x nx e. block x nx ∙ e))))
      (λ t. sym (block b t))
    where
      block : (x : ℕ) → none x ≡ false → has_fallback x c ≡ has_fallback x d
      block x nx = sym (and_on (not (none x)) (has_fallback x c) (ap not nx)) ∙ sym (same (notar_fallback x)) ∙ and_on (not (none x)) (has_fallback x d) (ap not nx)

  pub counts_same : (x : Who) → counts x d ≡ counts x c
  unfolding counts
  counts_same (who.Notar b) = ap (λ (y : ℕ). eqb y b) notar_same
  counts_same (who.NotarOrFallback b) = λ i. eqb (notar_same i) b || fallback_same b i
  counts_same who.Skip = same skip
  counts_same who.SkipOrFallback = λ i. same skip i || same skip_fallback i
  counts_same who.Final = same final
  counts_same who.AnyNotar = ap (λ (y : ℕ). not (none y)) notar_same

-- ---- weights and cards

module _ (l m : Ledger) (count : m.count ≡ l.count) (stakes : m.stakes ≡ l.stakes) (s : ℕ) (same : (n : ℕ) (x : Who) → counts x (cell_at m s n) ≡ counts x (cell_at l s n)) where
  pub weigh_same : (x : Who) → weigh m s x ≡ weigh l s x
  unfolding weigh
  weigh_same x =
      rw (count, stakes) (weight_same l.stakes l.count (λ n. counts x (cell_at m s n)) (λ n. counts x (cell_at l s n)) (λ i j. same i x))

  pub recount_same : recount m s ≡ recount l s
  unfolding recount
  recount_same =
      let r = lead_one m s (leader m s) (most m s) (leader l s) (most l s) (lead_recount m s) (lead_same l m s (leader l s) (most l s) (λ b i. weigh_same (who.Notar b)) (lead_recount l s)) in
      rw (weigh_same who.Skip, weigh_same who.Final, weigh_same who.SkipOrFallback, r.0, r.1)

-- ---- certificates

kept_refl : (q : Kept) → same_kept q q ≡ true
unfolding same_kept
kept_refl q = rw (eq-eqb q.block q.block refl, eq-eqb q.maska q.maska refl, eq-eqb q.maskb q.maskb refl) refl

kept_block : (p q : Kept) → same_kept p q ≡ true → p.block ≡ q.block
unfolding same_kept
kept_block p q e = eqb-true p.block q.block (and_both (eqb p.block q.block) _ e).0

-- A kept certificate that serves, in whichever place, serves.
serves_too : (l m : Ledger) (s : ℕ) → ((k : CertificateKind) (q : Kept) → keeps_certificate l k s q ≡ true → keeps_certificate m k s q ≡ true)
    → (k : CertificateKind) (b : ℕ) → kept_as l k s b ≡ true → kept_as m k s b ≡ true
unfolding kept_as keeps_certificate is_for is_kept_as
serves_too l m s same k b h =
    let r = some_place (is_for k b) 0 (certificates_at l s) h in
    let n : ℕ = r.0 in
    let q : Kept = kept_at l s n in
    let f = and_both (serves_as (place_kind (0 + n)) k) (eqb q.block b) r.2 in
    let there = same (place_kind (0 + n)) q (place_some (is_kept_as (place_kind (0 + n)) q) 0 (certificates_at l s) n r.1
    (both_and (same_kind (place_kind (0 + n)) (place_kind (0 + n))) (same_kept q q) (kind_same (place_kind (0 + n))) (kept_refl q))) in
    let t = some_place (is_kept_as (place_kind (0 + n)) q) 0 (certificates_at m s) there in
    let p : Kept = kept_at m s t.0 in
    let g = and_both (same_kind (place_kind (0 + t.0)) (place_kind (0 + n))) (same_kept p q) t.2 in
    place_some (is_for k b) 0 (certificates_at m s) t.0 t.1
    (both_and (serves_as (place_kind (0 + t.0)) k) (eqb p.block b)
    (subst (λ (j : CertificateKind). serves_as j k ≡ true) (sym (same_kind_lem (place_kind (0 + t.0)) (place_kind (0 + n)) g.0)) f.0)
    (eq-eqb p.block b (kept_block p q g.1 ∙ eqb-true q.block b f.1)))

pub held_same : (l m : Ledger) (s : ℕ) → m.total ≡ l.total → ((x : Who) → weigh m s x ≡ weigh l s x)
    → ((k : CertificateKind) (q : Kept) → keeps_certificate m k s q ≡ keeps_certificate l k s q) → (k : CertificateKind) (b : ℕ) → held m k s b ≡ held l k s b
unfolding held reached weighs
held_same l m s total weights kept k b =
    let stored : reaches (fifths_of k) m.total (weigh m s (signers_of k b)) ≡ reaches (fifths_of k) l.total (weigh l s (signers_of k b)) =
    (λ i. reaches (fifths_of k) (total i) (weights (signers_of k b) i)) in
    let serving : kept_as m k s b ≡ kept_as l k s b =
    same_test (kept_as m k s b) (kept_as l k s b) (serves_too m l s (λ j q e. sym (kept j q) ∙ e) k b) (serves_too l m s (λ j q e. kept j q ∙ e) k b) in
    λ i. stored i || serving i
