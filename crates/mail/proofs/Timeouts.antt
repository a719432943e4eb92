-- An accepted timeout leaves an own initial vote in its slot, and it stays.
use Rattle.std.specs.Prelude.{⊤, Result, Ok, Err}
use mathlib.Core.Path.{◌≡◌, refl, sym, ap, ◌∙◌, subst}
use mathlib.Core.Bool.{Bool, true, false, not, ◌&&◌, ◌||◌}
use mathlib.Core.List.{List, [], ◌∷◌}
use Prim.Native.Nat.{ℕ, zero, suc, ◌+◌, ◌<◌, ◌≤◌}
use native.Mathlib.Omega.{arith}
use lib.Dec.{T, eqb, eqb→eq}
use Rattle.rulebook.specs.declared.Cell.{Cell}
use Rattle.rulebook.specs.declared.Input.{Input}
use Rattle.rulebook.specs.declared.Input.TheVariants as input
use Rattle.rulebook.specs.declared.VoteKind.TheVariants as vote
use Rattle.rulebook.specs.declared.Refusal.{Refusal}
use Rattle.rulebook.specs.Tools.{all_to}
use Rattle.rulebook.specs.Weights.{last_slot, slot_ok, window_of, first_of}
use Rattle.rulebook.specs.Ledger.{Ledger, none, no_initial, fresh, cell_at, own_cell, put_timed_out}
use Rattle.rulebook.specs.Votes.{with_vote, store_vote}
use Rattle.rulebook.specs.Rules.{State, state_of, cast, cast_skip, cast_skips}
use Rattle.rulebook.specs.Inputs.{timeout_verdict, time_out, verdict, intake, refused_with, fed_on, feed}
use Rattle.rulebook.specs.Taking.{Arrival, of_input, of_packet, served}
use Rattle.watchers.specs.Watching.{is_done}
use Rattle.rule_laws.proofs.ToolLaws.{all_at}
use Rattle.settling.proofs.Places.{first_low, first_high}
use Rattle.safety.specs.Slot.{skip}
use Rattle.safety.specs.Moves.{stay}
use Rattle.safety.specs.Ring.{after_all}
use Rattle.safety.proofs.Tests.{T_true, true_t, and_t, or_t}
use Rattle.safety.proofs.Along.{moves_grow}
use Rattle.safety.proofs.Growing.{Grow}
use Rattle.safety.proofs.Guards.{given_cases}
use Rattle.safety.proofs.Announced.{rest_onward, row_rest}
use Rattle.safety.proofs.Stores.{row_cells, store_stored}
use Rattle.safety.proofs.Steps.{Going, Ready, passed, mine, skip_going, row_going, start_going, timeout_in}
use Rattle.safety.proofs.Lives.{step_ready, life_grow, life_ready, start_sized, fresh_ready}
use Rattle.mail.specs.Mail.{times_out, timed_out_in, TimedOutIsEnough}
use Rattle.mail.proofs.Votes.{intake_grows}

-- Node me has an initial vote in slot s.
abbrev Voted : ℕ → Ledger → ℕ → Type 0
Voted me l s = T (not (no_initial (cell_at l s me)))

voted_grows : (me : ℕ) (l m : Ledger) (s : ℕ) → Grow l m → Voted me l s → Voted me m s
voted_grows me l m s g t = let e = (g.cells s me).initial t in rw (e.0, e.1) t

-- Slot s is one of its window's four.
abbrev in_window : ℕ → Bool
in_window s = eqb s 0 || (eqb (first_of s) s || (eqb (first_of s + 1) s || (eqb (first_of s + 2) s || eqb (first_of s + 3) s)))

in_window_lem : T (all_to (suc last_slot) in_window)
unfolding all_to first_of window_of
in_window_lem = tt

module _ {most : ℕ} (me : ℕ) (i : Arrival) (from : State) (me-in : me < most) where
  abbrev Goes : State → Type 0
  Goes o = Going most me i from o

  -- The skip that is cast in s is an initial vote in s.
  skip_votes : (o : State) (s : ℕ) → s < suc last_slot → Goes o → Voted me (cast_skip o s).ledger s
  unfolding cast_skip cast with_vote
  skip_votes o s h g =
      given_cases (λ (p : State). Voted me p.ledger s) (no_initial (own_cell o.ledger s)) o (λ _. cast o s vote.Skip 0)
      (λ e. subst (λ (c : Cell). T (not (no_initial c))) (mine me i from o s g) e)
      (λ e. let st = store_stored o.ledger s me skip h me-in g.shaped in
      subst (λ (k : ℕ). Voted me (store_vote o.ledger s k vote.Skip 0) s) (sym g.own)
      (subst (λ (c : Cell). T (not (no_initial c))) (sym st.here) (skipped (none (cell_at o.ledger s me).notar))))
    where
      skipped : (b : Bool) → T (not (b && false))
      skipped true = tt
      skipped false = tt

  -- It stays while other slots' skips are cast.
  skip_keeps : (o : State) (s t : ℕ) → t < suc last_slot → Goes o → Voted me o.ledger s → Voted me (cast_skip o t).ledger s
  skip_keeps o s t h g v =
      let at : Going most me i o o = record { moves = stay; shaped = g.shaped; own = g.own; seat = g.seat; inv = g.inv } in
      voted_grows me o.ledger (cast_skip o t).ledger s (moves_grow me i o (cast_skip o t) (skip_going me i o me-in o t h at).moves).1 v

  skips_vote : (o : State) (s : ℕ) → 1 ≤ s → s ≤ last_slot → Goes o → Voted me (cast_skips o s).ledger s
  unfolding cast_skips
  skips_vote o s lo hi g =
      let f = first_of s in
      let low = first_low s in
      let high = first_high s lo hi in
      let p1 = cast_skip o f in
      let g1 : Goes p1 = skip_going me i from me-in o f (omega arith) g in
      let p2 = cast_skip p1 (f + 1) in
      let g2 : Goes p2 = skip_going me i from me-in p1 (f + 1) (omega arith) g1 in
      let p3 = cast_skip p2 (f + 2) in
      let g3 : Goes p3 = skip_going me i from me-in p2 (f + 2) (omega arith) g2 in
      let here : (p : State) (t : ℕ) → t ≡ s → t < suc last_slot → Goes p → Voted me (cast_skip p t).ledger s =
      λ p t e h k. subst (λ (j : ℕ). Voted me (cast_skip p t).ledger j) e (skip_votes p t h k) in
      or_t (eqb s 0) (eqb f s || (eqb (f + 1) s || (eqb (f + 2) s || eqb (f + 3) s))) (true_t (in_window s) (all_at (suc last_slot) s in_window (T_true (all_to (suc last_slot) in_window) in_window_lem) (omega arith)))
      (λ u. absurd (omega (arith, eqb→eq s 0 u)))
      (λ u. or_t (eqb f s) (eqb (f + 1) s || (eqb (f + 2) s || eqb (f + 3) s)) u
      (λ x. skip_keeps p3 s (f + 3) (omega arith) g3 (skip_keeps p2 s (f + 2) (omega arith) g2 (skip_keeps p1 s (f + 1) (omega arith) g1 (here o f (eqb→eq f s x) (omega arith) g))))
      (λ y. or_t (eqb (f + 1) s) (eqb (f + 2) s || eqb (f + 3) s) y
      (λ x. skip_keeps p3 s (f + 3) (omega arith) g3 (skip_keeps p2 s (f + 2) (omega arith) g2 (here p1 (f + 1) (eqb→eq (f + 1) s x) (omega arith) g1)))
      (λ z. or_t (eqb (f + 2) s) (eqb (f + 3) s) z
      (λ x. skip_keeps p3 s (f + 3) (omega arith) g3 (here p2 (f + 2) (eqb→eq (f + 2) s x) (omega arith) g2))
      (λ x. here p3 (f + 3) (eqb→eq (f + 3) s x) (omega arith) g3))))

slot_low : (l : Ledger) (s : ℕ) → timeout_verdict l s ≡ Ok tt → 1 ≤ s
unfolding timeout_verdict slot_ok
slot_low l zero e = absurd (passed _ _ _ (passed _ _ _ e).1).0
slot_low l (suc s) e = omega arith

-- An input that is answered 0 has passed the tests.
pub done_fine : (l : Ledger) (i : Input) → T (is_done (served l (of_input i)).answer) → verdict l i ≡ Ok tt
unfolding served feed fed_on refused_with is_done
done_fine l i t = go (verdict l i) t
  where
    go : (v : Result ⊤ Refusal) → T (is_done (fed_on v l i).answer) → v ≡ Ok tt
    go (Ok tt) u = refl
    go (Err r) u = absurd u

module _ {most : ℕ} (me : ℕ) (l : Ledger) (r : Ready most me l) where
  pub timeout_votes : (i : Arrival) (s : ℕ) → timeout_verdict l s ≡ Ok tt → Voted me (time_out l s).ledger s
  unfolding time_out
  timeout_votes i s e =
      let g = start_going me l r i in
      let in_slot_lem = timeout_in me l r.count s e in
      let h : s < suc last_slot = in_slot_lem.1 in
      let o = state_of (put_timed_out l s) [] in
      let k : Going most me i (state_of l []) o = row_going me l r.count i s _ h refl refl refl
      (rest_onward i (state_of l []) (put_timed_out l s) [] (row_rest l s _ h r.shaped (record { blocks = refl; certificates = refl; final = refl })) (λ r t. absurd t)) g in
      given_cases (λ (p : State). Voted me p.ledger s) (no_initial (own_cell l s)) o (λ _. cast_skips o s)
      (λ f. subst (λ (c : Cell). T (not (no_initial c))) (ap (λ (j : ℕ). cell_at l s j) r.own ∙ sym (row_cells l s _ h r.shaped refl s me)) f)
      (λ f. skips_vote me i (state_of l []) (g.seat in_slot_lem.0) o s (slot_low l s e) (omega arith) k)

  arrival_votes : (i : Arrival) (s : ℕ) → T (times_out i s) → T (is_done (served l i).answer) → Voted me (served l i).ledger s
  unfolding verdict intake
  arrival_votes (of_input (input.Vote w)) s t d = absurd t
  arrival_votes (of_input (input.Block x b)) s t d = absurd t
  arrival_votes (of_input (input.Timeout x)) s t d =
      let i = input.Timeout x in
      let e = done_fine l i d in
      subst (λ (j : ℕ). Voted me (served l (of_input i)).ledger j) (eqb→eq x.0 s t)
      (voted_grows me (intake l i).ledger (served l (of_input i)).ledger x.0 (intake_grows me l r i e) (timeout_votes (of_input i) x.0 e))
  arrival_votes (of_input input.Look) s t d = absurd t
  arrival_votes (of_packet bytes) s t d = absurd t

life_voted : {most : ℕ} (me : ℕ) (l : Ledger) (is : List Arrival) → Ready most me l → (s : ℕ) → T (timed_out_in l is s) → Voted me (after_all l is) s
unfolding after_all timed_out_in
life_voted me l [] r s t = absurd t
life_voted me l (i ∷ is) r s t =
    let k = step_ready me l i r in
    let next = (served l i).ledger in
    or_t (times_out i s && is_done (served l i).answer) (timed_out_in next is s) t
    (λ u. let a = and_t (times_out i s) (is_done (served l i).answer) u in
    voted_grows me next (after_all next is) s (life_grow me next is k) (arrival_votes me l r i s a.0 a.1))
    (λ u. life_voted me next is k s u)

pub timed_out_is_enough : TimedOutIsEnough
timed_out_is_enough stakes me genesis e lived s t =
    let r = fresh_ready stakes me genesis (start_sized stakes me genesis e) in
    subst (λ (j : ℕ). T (not (no_initial (cell_at (after_all (fresh stakes me genesis) lived) s j)))) (sym (life_ready me (fresh stakes me genesis) lived r).own)
    (life_voted me (fresh stakes me genesis) lived r s t)
