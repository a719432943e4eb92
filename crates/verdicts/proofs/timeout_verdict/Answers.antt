-- The tests of a timeout in their order.
use mathlib.Core.Path.{◌∙◌, sym}
use native.Mathlib.Omega.{arith}
use Rattle.verdicts.proofs.Chains.{timeout_watcher, timeout_slot, timeout_armed, timeout_kept, timeout_fine, slot_low, slot_high}
use Rattle.verdicts.proofs.timeout_verdict.Goals as goal

pub returns-then-is_watcher : goal.returns-then-is_watcher
returns-then-is_watcher c = timeout_watcher _ _ (sym c.is_watcher.ensures ∙ c.if-is_watcher.true)

pub returns-then-not-slot_ok : goal.returns-then-not-slot_ok
returns-then-not-slot_ok c =
    timeout_slot _ _ (sym c.is_watcher.ensures ∙ c.if-is_watcher.false) (sym c.slot_ok.ensures ∙ c.if-not-slot_ok.true)

pub is_armed-requires : goal.is_armed-requires
is_armed-requires c =
    let ok = sym c.slot_ok.ensures ∙ c.if-not-slot_ok.false in
    record { long = c.requires.long; later = slot_low _ ok; slot = omega (arith, slot_high _ ok) }

pub returns-then-not-is_armed : goal.returns-then-not-is_armed
returns-then-not-is_armed c =
    timeout_armed _ _ (sym c.is_watcher.ensures ∙ c.if-is_watcher.false) (sym c.slot_ok.ensures ∙ c.if-not-slot_ok.false) (sym c.is_armed.ensures ∙ c.if-not-is_armed.true)

pub timed_out-requires : goal.timed_out-requires
timed_out-requires c =
    record { long = c.requires.long; slot = omega (arith, slot_high _ (sym c.slot_ok.ensures ∙ c.if-not-slot_ok.false)) }

pub returns-then-timed_out : goal.returns-then-timed_out
returns-then-timed_out c =
    timeout_kept _ _ (sym c.is_watcher.ensures ∙ c.if-is_watcher.false) (sym c.slot_ok.ensures ∙ c.if-not-slot_ok.false) (sym c.is_armed.ensures ∙ c.if-not-is_armed.false) (sym c.timed_out.ensures ∙ c.if-timed_out.true)

pub returns : goal.returns
returns c =
    timeout_fine _ _ (sym c.is_watcher.ensures ∙ c.if-is_watcher.false) (sym c.slot_ok.ensures ∙ c.if-not-slot_ok.false) (sym c.is_armed.ensures ∙ c.if-not-is_armed.false) (sym c.timed_out.ensures ∙ c.if-timed_out.false)
