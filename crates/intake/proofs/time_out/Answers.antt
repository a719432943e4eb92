-- The timeout is kept; its skips follow where the slot has no own initial vote.
use mathlib.Core.Path.{◌∙◌, ap, sym}
use Rattle.rulebook.specs.declared.Cell.{Cell}
use Rattle.rulebook.specs.Ledger.{no_initial}
use Rattle.voter.proofs.LiveLaws.{live_slot}
use Rattle.intake.proofs.Taken.{skips_casting, timed_skips, timed_quiet}
use Rattle.intake.proofs.time_out.Goals as goal

pub own_cell-requires : goal.own_cell-requires
own_cell-requires c = live_slot c.requires.live

pub cast_skips-requires : goal.cast_skips-requires
cast_skips-requires c = skips_casting _ c.requires c.mark_timed_out.auto.rec c.mark_timed_out.ensures

pub returns-then-idle : goal.returns-then-idle
returns-then-idle c =
    timed_skips _ c.requires c.mark_timed_out.auto.rec c.mark_timed_out.ensures (ap (λ (x : Cell). no_initial x) (sym c.own_cell.ensures) ∙ sym c.no_initial-idle.ensures ∙ c.if-idle.true) c.cast_skips.ensures

pub returns : goal.returns
returns c =
    timed_quiet _ c.requires c.mark_timed_out.auto.rec c.mark_timed_out.ensures (ap (λ (x : Cell). no_initial x) (sym c.own_cell.ensures) ∙ sym c.no_initial-idle.ensures ∙ c.if-idle.false)
