-- What was fed is enough, and the policy lets every block be announced that is asked for.
use mathlib.Core.Path.{◌≡◌, subst}
use mathlib.Core.Bool.{not, ◌&&◌}
use mathlib.Core.List.{List}
use Prim.Native.Nat.{ℕ, zero, suc, ◌-◌, ◌≤◌}
use native.Mathlib.Omega.{arith}
use native.Mathlib.Decide.{ℕ_discrete}
use lib.Dec.{T, eqb}
use lib.ListN.{length, replicate}
use Rattle.rulebook.specs.Weights.{places_for, weight, reaches, is_first}
use Rattle.rulebook.specs.Ledger.{Ledger, fresh, no_initial, own_cell, cell_at}
use Rattle.rulebook.specs.Pool.{counts, weigh}
use Rattle.rulebook.specs.Rules.{fallback_weights}
use Rattle.rulebook.specs.Taking.{Arrival}
use Rattle.safety.specs.Slot.{Test, notar, Heavy}
use Rattle.safety.specs.Ballots.{has}
use Rattle.safety.specs.Moves.{SameTable}
use Rattle.safety.specs.Ring.{life, cast_by, Ring}
use Rattle.safety.proofs.Tests.{and_t, or_t, T-left}
use Rattle.safety.proofs.Weighing.{reaches_more, weight_mono}
use Rattle.safety.proofs.Cells.{notar_is}
use Rattle.safety.proofs.Safety.{weight_padded, end_ready, end_table, own_stored}
use Rattle.chain.specs.OneChain.{OneParent}
use Rattle.chain.proofs.Chains.{arrivals_are_enough}
use Rattle.progress.proofs.NeverHangs.{never_hangs}
use Rattle.mail.specs.Mail.{timed_out_in}
use Rattle.mail.specs.Policy.{as_node, ParentFits}
use Rattle.mail.specs.Host.{Asked, MailFedIsEnough, AskedBlocksWeigh, FedNeverHangs}
use Rattle.mail.proofs.Votes.{fed_is_enough}
use Rattle.mail.proofs.Timeouts.{timed_out_is_enough}
use Rattle.mail.proofs.Policy.{announced_is_kept}

-- A weight that reaches its threshold in the table does so in a node's ledger.
in_ledger_lem : (k : ℕ) (ws : List ℕ) (me g : ℕ) (l : Ledger) (p : Test) → SameTable (fresh ws me g) l → Heavy k ws (length ws) p
    → T (reaches k l.total (weight l.stakes l.count p))
unfolding fresh
in_ledger_lem k ws me g l p same t = rw (same.total, same.stakes, same.count, weight_padded ws (replicate (places_for (length ws) - length ws) 0) p) t

-- Slot 1 is a first slot.
not_first_high : (s p : ℕ) → T (not (is_first s)) → suc p ≡ s → 1 ≤ p
unfolding is_first
not_first_high s zero t e = absurd (rw (← e) at t)
not_first_high s (suc p) t e = omega arith

module _ (stakes : List ℕ) (genesis : ℕ → ℕ) (honest : Test) (fed : ℕ → List Arrival) (ring : Ring stakes genesis honest fed) where
  abbrev end : ℕ → Ledger
  end n = life stakes genesis honest fed n

  -- The voter keeps an asked block with a parent in the slot before, for which it voted.
  asked_parent : (n s b p x : ℕ) → OneParent stakes genesis honest fed → Asked stakes genesis honest fed n s b p x → (suc p ≡ s) × T (has (cell_at (end n) p n) (notar x))
  asked_parent n s b p x one a =
      let v = ((end_ready stakes genesis honest fed ring n a.voter).inv.grounds s (notar b) (own_stored stakes genesis honest fed ring n s (notar b) a.voter a.voted)).next a.next in
      let e = one n a.voter n s b v.slot v.parent p x a.voter v.kept a.kept in
      (subst (λ (q : ℕ). suc q ≡ s) e.0 v.before, subst (λ (q : ℕ). T (has (cell_at (end n) q n) (notar x))) e.0 (subst (λ (y : ℕ). T (has (cell_at (end n) v.slot n) (notar y))) e.1 v.voted))

  -- So it passes 5 and 11 at every node.
  pub asked_fits : (n s b p x g : ℕ) → OneParent stakes genesis honest fed → Asked stakes genesis honest fed n s b p x → (1 ≤ s) × ParentFits g s p x
  asked_fits n s b p x g one a =
      let v = asked_parent n s b p x one a in
      let high = not_first_high s p a.next v.0 in
      (omega (arith, v.0), record { lower = omega (arith, v.0); number = (notar_is (cell_at (end n) p n) x v.1).0; first = λ e. absurd (omega (arith, high, e)) })

pub mail_fed_is_enough : MailFedIsEnough
mail_fed_is_enough stakes genesis honest fed ring one u last mail =
    record {
      woken = mail.woken;
      votes = λ n m s v h k lo hi nf t. elim (ℕ_discrete m n) [
        | yes e ↦ subst (λ (j : ℕ). T (has (cell_at (life stakes genesis honest fed j) s m) v)) e (own_stored stakes genesis honest fed ring m s v k t)
        | no ne ↦ fed_is_enough stakes genesis honest fed ring n m s v h k ne lo (omega arith) t (mail.votes n m s v h k ne lo hi nf t)
      ];
      initial = λ n s h lo hi a. or_t (not (no_initial (own_cell (life stakes genesis honest fed n) s))) (timed_out_in (fresh stakes n (genesis n)) (fed n) s) (mail.timeouts n s h lo hi a)
          (λ t. t) (λ t. timed_out_is_enough stakes n (genesis n) (ring.started n h) (fed n) s t);
      blocks = λ n m s b p x h k hi nf v t w.
          let a : Asked stakes genesis honest fed n s b p x = record { next = nf; voter = h; voted = v; kept = t; heavy = w } in
          let fit = asked_fits stakes genesis honest fed ring n s b p x (genesis m) one a in
          announced_is_kept stakes m (genesis m) (as_node (ring.started m k)) (fed m) (mail.policy m k) s b p x fit.0 (omega arith) fit.1
          (mail.blocks n m s b p x k hi a) (λ q y z. one m k n s b p x q y h t z);
    }

-- Notar votes for b that reach 40 and stand in an honest pool are rule D's weights there.
pub heavy_weighs : (stakes : List ℕ) (genesis : ℕ → ℕ) (honest : Test) (fed : ℕ → List Arrival) → Ring stakes genesis honest fed → (m s b : ℕ) → T (honest m)
    → (voters : Test) → Heavy 2 stakes (length stakes) voters → ((i : ℕ) → T (voters i) → T (has (cell_at (life stakes genesis honest fed m) s i) (notar b)))
    → T (fallback_weights (life stakes genesis honest fed m) s b)
unfolding fallback_weights weigh counts
heavy_weighs stakes genesis honest fed ring m s b k voters heavy pool =
    let l = life stakes genesis honest fed m in
    T-left (reaches 2 l.total (weight l.stakes l.count (λ i. eqb (cell_at l s i).notar b))) _
    (reaches_more 2 l.total (weight l.stakes l.count voters) (weight l.stakes l.count (λ i. eqb (cell_at l s i).notar b))
    (weight_mono l.stakes l.count voters (λ i. eqb (cell_at l s i).notar b) (λ i t. (notar_is (cell_at l s i) b (pool i t)).1))
    (in_ledger_lem 2 stakes m (genesis m) l voters (end_table stakes genesis honest fed ring m k) heavy))

pub asked_blocks_weigh : AskedBlocksWeigh
asked_blocks_weigh stakes genesis honest fed ring n m s b p x k a pool =
    heavy_weighs stakes genesis honest fed ring m s b k (λ i. honest i && cast_by stakes genesis honest fed i s (notar b)) a.heavy
    (λ i t. let z = and_t (honest i) (cast_by stakes genesis honest fed i s (notar b)) t in pool i z.0 z.1)

pub fed_never_hangs : FedNeverHangs
fed_never_hangs stakes genesis honest fed ring once u last mail s lo hi =
    let r = arrivals_are_enough stakes genesis honest fed ring once in
    never_hangs stakes genesis honest fed r.0 u last (mail_fed_is_enough stakes genesis honest fed r.0 r.1 u last mail) s lo hi
