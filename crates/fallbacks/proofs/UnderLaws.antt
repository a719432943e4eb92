-- What a call that is under way at a slot knows of its record: cards and initial votes. Assumes nothing.
use mathlib.Core.List.{List}
use Prim.Native.Nat.{ℕ}
use native.Mathlib.Omega.{arith}
use Rattle.rulebook.specs.Ledger.{cell_at}
use Rattle.record.specs.Layout.{ledger_of}
use Rattle.settling.proofs.FactLaws.{formed, cell_facts}
use Rattle.pool.specs.Weighing.{Carded}
use Rattle.voter.specs.Voting.{CastingAt}
use Rattle.candidates.specs.Judging.{Judging}
use Rattle.fallbacks.specs.UnderWay.{UnderWayAt, VotingAt}

module _ {ws out : List ℕ} {at s : ℕ} (v : UnderWayAt ws out at s) where
  pub under_carded : Carded ws s
  under_carded =
      record {
        weighing = record { long = v.live.live.long; slot = omega (arith, v.live.high); table = v.table };
        later = v.live.low;
        cards = (formed (ledger_of ws) v.live.live.sound.formed).cards;
      }

  pub under_judging : Judging ws s
  under_judging =
      record {
        carded = under_carded;
        initial = λ n h. (cell_facts (cell_at (ledger_of ws) s n) (((formed (ledger_of ws) v.live.live.sound.formed).rows s v.live.low v.live.high).cells n (omega (arith, h, v.table.few)) h)).initial;
      }

pub under_casting : {ws out : List ℕ} {at s : ℕ} → VotingAt ws out at s → CastingAt ws out at s
under_casting v = record { live = v.under.live; votes = v.votes }
