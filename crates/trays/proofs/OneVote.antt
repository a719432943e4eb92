-- One vote of a tray: stored, its records behind those of the votes before, as feeding it alone gives them. Assumes nothing.
use Rattle.std.specs.Prelude.{Ok, Err}
use mathlib.Core.Path.{◌≡◌, refl, sym, ap, ◌∙◌, subst}
use mathlib.Core.List.{List, [], ◌++◌, reverse-reverse}
use Prim.Native.Nat.{ℕ}
use native.Mathlib.Omega.{arith}
use lib.ListN.{length}
use Rattle.rulebook.specs.declared.Vote.{Vote}
use Rattle.rulebook.specs.declared.Input.TheVariants as input
use Rattle.rulebook.specs.declared.Refusal.{Refusal}
use Rattle.rulebook.specs.PaperNumbers.{step_panel}
use Rattle.rulebook.specs.Ledger.{Ledger}
use Rattle.rulebook.specs.Votes.{store_vote}
use Rattle.rulebook.specs.Rules.{Record, State, state_of}
use Rattle.rulebook.specs.Run.{run}
use Rattle.rulebook.specs.Inputs.{Fed, vote_verdict, verdict, intake, fed_with, refused_with}
use Rattle.record.specs.Layout.{Counted, ledger_of}
use Rattle.record.proofs.Places.{long_same}
use Rattle.soundness.proofs.Laws.{sound_counted, sound_tabled}
use Rattle.settling.specs.Facts.{Sound}
use Rattle.settling.specs.Spare.{spare}
use Rattle.settling.specs.Steps.{SameNode, Paid, VoteFine}
use Rattle.settling.proofs.Verdicts.{vote_fine}
use Rattle.settling.proofs.Life.{vote_paid}
use Rattle.settling.proofs.FeedLaws.{feed_fine, feed_refused}
use Rattle.storing.specs.Storing.{Storing}
use Rattle.looks.specs.Looks.{Bounds, Noted}
use Rattle.voter.specs.Outbox.{records_in, state_in}
use Rattle.voter.specs.Voting.{Onward}
use Rattle.voter.proofs.LiveLaws.{onward_none, onward_is, onward_then}
use Rattle.fallbacks.specs.UnderWay.{UnderWay}
use Rattle.run.proofs.ScanLaws.{under_way}
use Rattle.trays.specs.Lent.{Serving, Taking, on_top, VoteServed}
use Rattle.tray_rules.proofs.Behind.{behind, run_behind}

-- The ledger with the vote stored.
abbrev pub with_vote : Ledger → Vote → Ledger
with_vote l v = store_vote l v.slot.0 v.node.0 v.kind v.block

module _ {ws out : List ℕ} {made : ℕ} {v : Vote} (k : Taking ws out made v) where
  fits : VoteFine (ledger_of ws) v
  fits = vote_fine (ledger_of ws) v k.fine

  pub vote_storing : Storing ws v.slot.0 v.node.0
  vote_storing =
      record { long = k.serving.live.long; sound = k.serving.live.sound; low = fits.low; high = fits.high; node = fits.node }

  module _ (ws' : List ℕ) (long : length ws' ≡ length ws) (is : ledger_of ws' ≡ with_vote (ledger_of ws) v) where
    paid : Paid (ledger_of ws) (with_vote (ledger_of ws) v) 0
    paid = vote_paid (ledger_of ws) k.serving.live.sound v fits

    same_as : SameNode (ledger_of ws) (ledger_of ws')
    same_as =
        record {
          own = ap (λ (l : Ledger). l.own) is ∙ paid.same.own;
          count = ap (λ (l : Ledger). l.count) is ∙ paid.same.count;
          total = ap (λ (l : Ledger). l.total) is ∙ paid.same.total;
          genesis = ap (λ (l : Ledger). l.genesis) is ∙ paid.same.genesis;
          stakes = ap (λ (l : Ledger). l.stakes) is ∙ paid.same.stakes;
        }

    -- The vote is stored, and nothing told yet.
    pub vote_stored : Onward ws out made ws' out made (state_of (with_vote (ledger_of ws) v) (records_in out made))
    vote_stored =
        record {
          moved =
              record {
                is = ap (λ (l : Ledger). state_of l (records_in out made)) is;
                more = omega arith;
                rest = λ i h. refl;
              };
          live =
              record {
                long = long_same ws ws' long k.serving.live.long;
                room = k.serving.live.room;
                sound = subst Sound (sym is) paid.sound;
                budget = omega (arith, k.serving.live.budget, paid.spent, ap spare is);
              };
          same = same_as;
        }

    -- The rules can run.
    pub vote_way : UnderWay ws' out made
    vote_way = under_way (sound_tabled ws k.serving.sound) vote_stored

    -- What was kept in mind of the votes before holds of this one too.
    pub vote_noted : (looks : List ℕ) → Noted (ledger_of ws) v.slot.0 v.node.0 v.kind looks → Bounds (ledger_of ws') looks
    vote_noted looks f = subst (λ (l : Ledger). Bounds l looks) (sym is) (f v.block fits.free)

    -- And then they have run.
    pub vote_run : {ws'' left : List ℕ} {r : ℕ} → Onward ws' out made ws'' left r (run (state_in ws' out made))
        → Onward ws out made ws'' left r (run (state_of (with_vote (ledger_of ws) v) (records_in out made)))
    vote_run a = onward_then (λ (x : State). run x) vote_stored a

-- What feeding gives, on top of earlier records, is what the rules give from them.
fed_on_top : (q : State) (rs : List Record) → behind rs q ≡ on_top (fed_with q) rs
unfolding fed_with
fed_on_top q rs = ap (λ (x : List Record). state_of q.ledger (x ++ rs)) (sym (reverse-reverse q.records))

module _ {ws out : List ℕ} {made : ℕ} (v : Vote) (h : Serving ws out made) where
  pub serving_counted : Counted ws
  serving_counted = sound_counted ws h.sound

  -- Refused.
  pub vote_refused : (r : Refusal) → vote_verdict (ledger_of ws) v ≡ Err r → VoteServed ws out made v ws out (Err r)
  unfolding verdict refused_with step_panel
  vote_refused r e =
      let f = feed_refused (ledger_of ws) (input.Vote v) r e in
      record {
        number = ap (λ (x : Fed). (step_panel x.answer).number) (sym f);
        onward = onward_none h.live (ap (λ (x : Fed). on_top x (records_in out made)) (sym f));
      }

  -- Taken.
  pub vote_taken : {ws' left : List ℕ} (m : ℕ) → vote_verdict (ledger_of ws) v ≡ Ok tt
      → Onward ws out made ws' left m (run (state_of (with_vote (ledger_of ws) v) (records_in out made)))
      → VoteServed ws out made v ws' left (Ok m)
  unfolding verdict intake fed_with step_panel
  vote_taken m e a =
      let f = feed_fine (ledger_of ws) (input.Vote v) e in
      record {
        number = ap (λ (x : Fed). (step_panel x.answer).number) (sym f);
        onward =
            onward_is a
            (run_behind (records_in out made) (state_of (with_vote (ledger_of ws) v) [])
            ∙ fed_on_top (run (intake (ledger_of ws) (input.Vote v))) (records_in out made)
            ∙ ap (λ (x : Fed). on_top x (records_in out made)) (sym f));
      }
