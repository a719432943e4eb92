-- Blocks offered to a node by the policy: each as the policy allows it at that moment, or not at all.
use mathlib.Core.Path.{◌≡◌, sym, subst}
use mathlib.Core.Bool.{Bool, true, false, not, ◌&&◌, ◌||◌}
use mathlib.Core.List.{List, [], ◌∷◌}
use Prim.Native.Nat.{ℕ}
use lib.Dec.{T, eqb, eqb→eq, eqb_refl}
use Rattle.rulebook.specs.declared.Block.{Block}
use Rattle.rulebook.specs.declared.Input.TheVariants as input
use Rattle.rulebook.specs.Tools.{whenever}
use Rattle.rulebook.specs.Ledger.{Ledger, none, blocks_at, some_block, all_blocks, is_free, has_number, is_block}
use Rattle.rulebook.specs.Rules.{fallback_weights}
use Rattle.rulebook.specs.Taking.{Arrival, of_input, of_packet, served}
use Rattle.safety.specs.Ballots.{announces}
use Rattle.safety.specs.Moves.{SameTable}
use Rattle.safety.specs.Ring.{after_all}
use Rattle.safety.proofs.Tests.{and_t, T_and, or_t, T-left, T-right}
use Rattle.safety.proofs.Growing.{Grow}
use Rattle.safety.proofs.Guards.{given_by, given_cases}
use Rattle.safety.proofs.Steps.{Ready}
use Rattle.safety.proofs.Lives.{step_ready, life_grow, life_table}
use Rattle.mail.specs.Policy.{may_announce, allowed, by_policy}
use Rattle.mail.proofs.Policy.{weights_stay_lem, says}
use Rattle.mail.proofs.Arrivals.{any_is}

-- Those of a list that the policy allows, each when its turn comes.
unfoldable pub offered : Ledger → List Arrival → List Arrival
offered l [] = []
offered l (i ∷ is) = whenever (allowed l i) (λ _. i ∷ offered (served l i).ledger is) (offered l is)

pub offered_policy : (l : Ledger) (is : List Arrival) → T (by_policy l (offered l is))
unfolding offered by_policy
offered_policy l [] = tt
offered_policy l (i ∷ is) =
    given_by (λ (js : List Arrival). T (by_policy l js)) (allowed l i) (offered l is) (λ _. i ∷ offered (served l i).ledger is) (offered_policy l is)
    (λ t. T_and (allowed l i) (by_policy (served l i).ledger (offered (served l i).ledger is)) t (offered_policy (served l i).ledger is))

-- They are of the list.
pub offered_of : (q : Arrival → Bool) (l : Ledger) (is : List Arrival) → T (any_is q (offered l is)) → T (any_is q is)
unfolding offered any_is
offered_of q l [] = λ t. t
offered_of q l (i ∷ is) =
    given_by (λ (js : List Arrival). T (any_is q js) → T (q i || any_is q is)) (allowed l i) (offered l is) (λ _. i ∷ offered (served l i).ledger is)
    (λ t. T-right (q i) (any_is q is) (offered_of q l is t))
    (λ _ t. or_t (q i) (any_is q (offered (served l i).ledger is)) t (λ u. T-left (q i) (any_is q is) u) (λ u. T-right (q i) (any_is q is) (offered_of q (served l i).ledger is u)))

-- A block with rule D's weights is allowed.
heavy_allowed : (l : Ledger) (i : Arrival) (s b p x : ℕ) → T (announces i s b p x) → T (fallback_weights l s b) → T (allowed l i)
unfolding may_announce
heavy_allowed l (of_input (input.Vote w)) s b p x t h = absurd t
heavy_allowed l (of_input (input.Block z k)) s b p x t h =
    let y = says z k s b p x t in
    T-right (all_blocks is_free (blocks_at l z.0)) (some_block (has_number k.number) (blocks_at l z.0) || fallback_weights l z.0 k.number)
    (T-right (some_block (has_number k.number) (blocks_at l z.0)) (fallback_weights l z.0 k.number)
    (subst (λ (n : ℕ). T (fallback_weights l z.0 n)) (sym y.number) (subst (λ (n : ℕ). T (fallback_weights l n b)) (sym y.slot) h)))
heavy_allowed l (of_input (input.Timeout z)) s b p x t h = absurd t
heavy_allowed l (of_input input.Look) s b p x t h = absurd t
heavy_allowed l (of_packet bytes) s b p x t h = absurd t

module _ {most : ℕ} (me : ℕ) where
  step_table : (l : Ledger) (i : Arrival) → Ready most me l → SameTable l (served l i).ledger
  unfolding after_all
  step_table l i r = life_table me l (i ∷ []) r

  step_grow : (l : Ledger) (i : Arrival) → Ready most me l → Grow l (served l i).ledger
  unfolding after_all
  step_grow l i r = life_grow me l (i ∷ []) r

  -- So a block of the list that has the weights is offered.
  pub offered_heavy : (l : Ledger) (is : List Arrival) → Ready most me l → (s b p x : ℕ) → T (not (none b)) → T (fallback_weights l s b) → T (any_is (λ i. announces i s b p x) is)
      → T (any_is (λ i. announces i s b p x) (offered l is))
  unfolding offered any_is
  offered_heavy l [] r s b p x nb h t = absurd t
  offered_heavy l (i ∷ is) r s b p x nb h t =
      let q : Arrival → Bool = λ j. announces j s b p x in
      let next = (served l i).ledger in
      given_cases (λ (js : List Arrival). T (any_is q js)) (allowed l i) (offered l is) (λ _. i ∷ offered next is)
      (λ n. or_t (q i) (any_is q is) t (λ u. absurd (refuse (allowed l i) n (heavy_allowed l i s b p x u h))) (λ u. offered_heavy l is r s b p x nb h u))
      (λ _. or_t (q i) (any_is q is) t (λ u. T-left (q i) (any_is q (offered next is)) u)
      (λ u. T-right (q i) (any_is q (offered next is)) (offered_heavy next is (step_ready me l i r) s b p x nb (weights_stay_lem l next (step_table l i r) (step_grow l i r) s b nb h) u)))
    where
      refuse : (a : Bool) → T (not a) → T a → ⊥
      refuse true n t = n
      refuse false n t = t

-- ---- kept blocks as they are shown

-- Block by block of slot t.
unfoldable pub as_shown : ℕ → List Block → List Arrival
as_shown t [] = []
as_shown t (k ∷ ks) = of_input (input.Block (record { 0 = t }) k) ∷ as_shown t ks

pub shown_in : (s b p x : ℕ) (ks : List Block) → T (some_block (is_block b p x) ks) → T (any_is (λ i. announces i s b p x) (as_shown s ks))
unfolding as_shown any_is some_block
shown_in s b p x [] t = absurd t
shown_in s b p x (k ∷ ks) t =
    let here = eqb s s && is_block b p x k in
    let rest = any_is (λ i. announces i s b p x) (as_shown s ks) in
    or_t (is_block b p x k) (some_block (is_block b p x) ks) t
    (λ u. T-left here rest (T_and (eqb s s) (is_block b p x k) (eqb_refl s) u))
    (λ u. T-right here rest (shown_in s b p x ks u))

pub shown_out : (t s b p x : ℕ) (ks : List Block) → T (any_is (λ i. announces i s b p x) (as_shown t ks)) → (t ≡ s) × T (some_block (is_block b p x) ks)
unfolding as_shown any_is some_block
shown_out t s b p x [] u = absurd u
shown_out t s b p x (k ∷ ks) u =
    or_t (eqb t s && is_block b p x k) (any_is (λ i. announces i s b p x) (as_shown t ks)) u
    (λ w. let a = and_t (eqb t s) (is_block b p x k) w in (eqb→eq t s a.0, T-left (is_block b p x k) (some_block (is_block b p x) ks) a.1))
    (λ w. let a = shown_out t s b p x ks w in (a.0, T-right (is_block b p x k) (some_block (is_block b p x) ks) a.1))

-- They are blocks, and nothing else.
pub shown_only : (q : Arrival → Bool) (t : ℕ) (ks : List Block) → ((k : Block) → ¬ T (q (of_input (input.Block (record { 0 = t }) k)))) → ¬ T (any_is q (as_shown t ks))
unfolding as_shown any_is
shown_only q t [] f u = u
shown_only q t (k ∷ ks) f u = or_t (q (of_input (input.Block (record { 0 = t }) k))) (any_is q (as_shown t ks)) u (f k) (λ w. shown_only q t ks f w)
