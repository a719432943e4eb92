-- What was stored is free, so that a call can go on; a timeout's skips follow it. Assumes nothing.
use mathlib.Core.Path.{◌≡◌, refl, sym, ap, ◌∙◌, subst}
use mathlib.Core.Bool.{Bool, true, false}
use mathlib.Core.List.{List, [], ◌∷◌}
use Prim.Native.Nat.{ℕ, suc, ◌+◌, ◌*◌, ◌≤◌, ◌<◌}
use native.Mathlib.Omega.{arith}
use lib.ListN.{length}
use Rattle.rulebook.specs.declared.Block.{Block}
use Rattle.rulebook.specs.declared.Slot.{Slot}
use Rattle.rulebook.specs.declared.Vote.{Vote}
use Rattle.rulebook.specs.declared.Input.{Input}
use Rattle.rulebook.specs.declared.Input.TheVariants as input
use Rattle.rulebook.specs.Weights.{last_slot}
use Rattle.rulebook.specs.Ledger.{Ledger, no_initial, own_cell, put_timed_out}
use Rattle.rulebook.specs.Votes.{store_vote}
use Rattle.rulebook.specs.Rules.{State, state_of, cast_skips}
use Rattle.rulebook.specs.Run.{most_records}
use Rattle.rulebook.specs.Inputs.{verdict, vote_verdict, block_verdict, keep_block, timeout_verdict, time_out, intake}
use Rattle.rule_laws.proofs.ToolLaws.{given_on, given_off}
use Rattle.record.specs.Layout.{InSlot, ledger_of}
use Rattle.record.proofs.Places.{long_same}
use Rattle.settling.specs.Facts.{Sound}
use Rattle.settling.specs.Spare.{spare}
use Rattle.settling.specs.Steps.{SameNode, Paid, VoteFine, BlockFine, TimeoutFine}
use Rattle.settling.proofs.SpareLaws.{spare_most}
use Rattle.settling.proofs.Verdicts.{vote_fine, block_fine, timeout_fine}
use Rattle.settling.proofs.Life.{vote_paid, block_paid, timed_out_paid}
use Rattle.storing.specs.Storing.{Storing}
use Rattle.voter.specs.Outbox.{records_in, state_in, Moved}
use Rattle.voter.specs.Voting.{Live, LiveAt, CastingAt, Onward}
use Rattle.voter.proofs.LiveLaws.{node_then, votes_on_lem, onward_none}
use Rattle.intake.specs.Taking.{Taking}

-- A call begins: nothing is told yet.
pub begin : {ws out : List ℕ} {i : Input} → Taking ws out i → Live ws out 0
begin {ws = ws} h =
    record { long = h.long; room = h.room; sound = h.sound; budget = omega (arith, spare_most (ledger_of ws)) }

module _ {ws out : List ℕ} (ws' : List ℕ) {m : Ledger} (v : Live ws out 0) (long : length ws' ≡ length ws) (is : ledger_of ws' ≡ m) (paid : Paid (ledger_of ws) m 0) where
  same_as : SameNode (ledger_of ws) (ledger_of ws')
  same_as =
      record {
        own = ap (λ (l : Ledger). l.own) is ∙ paid.same.own;
        count = ap (λ (l : Ledger). l.count) is ∙ paid.same.count;
        total = ap (λ (l : Ledger). l.total) is ∙ paid.same.total;
        genesis = ap (λ (l : Ledger). l.genesis) is ∙ paid.same.genesis;
        stakes = ap (λ (l : Ledger). l.stakes) is ∙ paid.same.stakes;
      }

  -- The call goes on after something was stored.
  pub live_stored : Live ws' out 0
  live_stored =
      record {
        long = long_same ws ws' long v.long;
        room = v.room;
        sound = subst Sound (sym is) paid.sound;
        budget = omega (arith, spare_most (ledger_of ws'));
      }

  -- Something was stored, and nothing told.
  pub stored : {q : State} → state_of m [] ≡ q → Onward ws out 0 ws' out 0 q
  unfolding records_in
  stored e =
      record {
        moved = record { is = ap (λ (l : Ledger). state_of l []) is ∙ e; more = omega arith; rest = λ k h. refl };
        live = live_stored;
        same = same_as;
      }

  -- Something was stored, and then a part of the call came.
  pub stored_then : {ws'' left : List ℕ} {r : ℕ} {q : State} (f : State → State) → f (state_of m []) ≡ q
      → Onward ws' out 0 ws'' left r (f (state_in ws' out 0)) → Onward ws out 0 ws'' left r q
  unfolding records_in
  stored_then f e a =
      record {
        moved =
            record {
              is = a.moved.is ∙ ap (λ (l : Ledger). f (state_of l [])) is ∙ e;
              more = a.moved.more;
              rest = a.moved.rest;
            };
        live = a.live;
        same = node_then same_as a.same;
      }

-- ---- each input

module _ {ws out : List ℕ} (v : Vote) (h : Taking ws out (input.Vote v)) where
  vote_fits : VoteFine (ledger_of ws) v
  unfolding verdict
  vote_fits = vote_fine (ledger_of ws) v h.fine

  pub vote_storing : Storing ws v.slot.0 v.node.0
  vote_storing = record { long = h.long; sound = h.sound; low = vote_fits.low; high = vote_fits.high; node = vote_fits.node }

  pub vote_taken : (ws' : List ℕ) → length ws' ≡ length ws
      → ledger_of ws' ≡ store_vote (ledger_of ws) v.slot.0 v.node.0 v.kind v.block
      → Onward ws out 0 ws' out 0 (intake (ledger_of ws) (input.Vote v))
  unfolding intake
  vote_taken ws' long is = stored ws' (begin h) long is (vote_paid (ledger_of ws) h.sound v vote_fits) refl

module _ {ws out : List ℕ} (s : Slot) (b : Block) (h : Taking ws out (input.Block s b)) where
  block_fits : BlockFine (ledger_of ws) s.0 b
  unfolding verdict
  block_fits = block_fine (ledger_of ws) s.0 b h.fine

  pub block_placed : InSlot ws s.0
  block_placed = record { long = h.long; slot = omega (arith, block_fits.high) }

  pub block_taken : (ws' : List ℕ) → length ws' ≡ length ws → ledger_of ws' ≡ keep_block (ledger_of ws) s.0 b
      → Onward ws out 0 ws' out 0 (intake (ledger_of ws) (input.Block s b))
  unfolding intake
  block_taken ws' long is =
      stored ws' (begin h) long is (block_paid (ledger_of ws) h.sound s.0 b block_fits) refl

module _ {ws out : List ℕ} (s : Slot) (h : Taking ws out (input.Timeout s)) where
  pub timeout_casting : CastingAt ws out 0 s.0
  unfolding verdict
  timeout_casting =
      let f = timeout_fine (ledger_of ws) s.0 h.fine in
      record { live = record { live = begin h; low = f.low; high = f.high }; votes = f.votes }

module _ {ws out : List ℕ} (ws' : List ℕ) {s : ℕ} (v : CastingAt ws out 0 s) (long : length ws' ≡ length ws) (is : ledger_of ws' ≡ put_timed_out (ledger_of ws) s) where
  abbrev h : LiveAt ws out 0 s
  h = v.live

  out_paid : Paid (ledger_of ws) (put_timed_out (ledger_of ws) s) 0
  out_paid = timed_out_paid (ledger_of ws) h.live.sound s h.low h.high

  -- The window of a timed-out slot can be skipped.
  pub skips_casting : CastingAt ws' out 0 s
  skips_casting =
      record {
        live = record { live = live_stored ws' h.live long is out_paid; low = h.low; high = h.high };
        votes = votes_on_lem (same_as ws' h.live long is out_paid) v.votes;
      }

  pub timed_quiet : no_initial (own_cell (ledger_of ws) s) ≡ false → Onward ws out 0 ws' out 0 (time_out (ledger_of ws) s)
  unfolding time_out
  timed_quiet e = stored ws' h.live long is out_paid (sym (given_off _ _ _ e))

  pub timed_skips : no_initial (own_cell (ledger_of ws) s) ≡ true → {ws'' left : List ℕ} {r : ℕ}
      → Onward ws' out 0 ws'' left r (cast_skips (state_in ws' out 0) s) → Onward ws out 0 ws'' left r (time_out (ledger_of ws) s)
  unfolding time_out
  timed_skips e a = stored_then ws' h.live long is out_paid (λ (o : State). cast_skips o s) (sym (given_on _ _ _ e)) a

-- A look stores nothing.
pub look_taken : {ws out : List ℕ} → Taking ws out input.Look → Onward ws out 0 ws out 0 (intake (ledger_of ws) input.Look)
unfolding intake records_in
look_taken h = onward_none (begin h) refl
