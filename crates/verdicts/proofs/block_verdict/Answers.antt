-- The tests of a block in their order.
use mathlib.Core.Path.{◌∙◌, sym}
use native.Mathlib.Omega.{arith}
use Rattle.verdicts.proofs.Chains.{block_slot, block_number, block_parent, block_same, block_other, block_fine, slot_high}
use Rattle.verdicts.proofs.block_verdict.Goals as goal

pub returns-then-not-slot_ok : goal.returns-then-not-slot_ok
returns-then-not-slot_ok c = block_slot _ _ _ (sym c.slot_ok.ensures ∙ c.if-not-slot_ok.true)

pub returns-then-b : goal.returns-then-b
returns-then-b c = block_number _ _ _ (sym c.slot_ok.ensures ∙ c.if-not-slot_ok.false) c.if-b.true

pub bad_parent-requires : goal.bad_parent-requires
bad_parent-requires c = c.requires.long

pub returns-then-bad_parent : goal.returns-then-bad_parent
returns-then-bad_parent c =
    block_parent _ _ _ (sym c.slot_ok.ensures ∙ c.if-not-slot_ok.false) c.if-b.false (sym c.bad_parent.ensures ∙ c.if-bad_parent.true)

pub keeps-requires : goal.keeps-requires
keeps-requires c =
    record { long = c.requires.long; slot = omega (arith, slot_high _ (sym c.slot_ok.ensures ∙ c.if-not-slot_ok.false)) }

pub returns-then-keeps : goal.returns-then-keeps
returns-then-keeps c =
    block_same _ _ _ (sym c.slot_ok.ensures ∙ c.if-not-slot_ok.false) c.if-b.false (sym c.bad_parent.ensures ∙ c.if-bad_parent.false) (sym c.keeps.ensures ∙ c.if-keeps.true)

pub stands_against-requires : goal.stands_against-requires
stands_against-requires c =
    record { long = c.requires.long; slot = omega (arith, slot_high _ (sym c.slot_ok.ensures ∙ c.if-not-slot_ok.false)) }

pub returns-then-stands_against : goal.returns-then-stands_against
returns-then-stands_against c =
    block_other _ _ _ (sym c.slot_ok.ensures ∙ c.if-not-slot_ok.false) c.if-b.false (sym c.bad_parent.ensures ∙ c.if-bad_parent.false) (sym c.keeps.ensures ∙ c.if-keeps.false) (sym c.stands_against.ensures ∙ c.if-stands_against.true)

pub returns : goal.returns
returns c =
    block_fine _ _ _ (sym c.slot_ok.ensures ∙ c.if-not-slot_ok.false) c.if-b.false (sym c.bad_parent.ensures ∙ c.if-bad_parent.false) (sym c.keeps.ensures ∙ c.if-keeps.false) (sym c.stands_against.ensures ∙ c.if-stands_against.false)
