-- The tests of a vote in their order.
use mathlib.Core.Path.{◌∙◌, sym, ap}
use native.Mathlib.Omega.{arith}
use borrow.Author.Tests.{leb-true, leb-false, eqb-true, eqb-false}
use Rattle.rulebook.specs.declared.Cell.{Cell}
use Rattle.rulebook.specs.Votes.{place_of}
use Rattle.rulebook.specs.Inputs.{place_verdict}
use Rattle.verdicts.proofs.Chains.{vote_kind_lem, vote_slot, vote_node, vote_own, vote_block, vote_place, slot_high}
use Rattle.verdicts.proofs.vote_verdict.Goals as goal

pub returns-then-is_other_vote : goal.returns-then-is_other_vote
returns-then-is_other_vote c = vote_kind_lem _ _ (sym c.is_other_vote.ensures ∙ c.if-is_other_vote.true)

pub returns-then-not-slot_ok : goal.returns-then-not-slot_ok
returns-then-not-slot_ok c =
    vote_slot _ _ (sym c.is_other_vote.ensures ∙ c.if-is_other_vote.false) (sym c.slot_ok.ensures ∙ c.if-not-slot_ok.true)

pub returns-then-not_in_table : goal.returns-then-not_in_table
returns-then-not_in_table c =
    let v = c.args.v in
    vote_node _ _ (sym c.is_other_vote.ensures ∙ c.if-is_other_vote.false) (sym c.slot_ok.ensures ∙ c.if-not-slot_ok.false) (omega (arith, c.count.ensures, leb-true c.count.result v.node.0 (sym c.not_in_table.ensures ∙ c.if-not_in_table.true)))

pub returns-then-eq : goal.returns-then-eq
returns-then-eq c =
    let v = c.args.v in
    vote_own _ _ (sym c.is_other_vote.ensures ∙ c.if-is_other_vote.false) (sym c.slot_ok.ensures ∙ c.if-not-slot_ok.false) (omega (arith, c.count.ensures, leb-false c.count.result v.node.0 (sym c.not_in_table.ensures ∙ c.if-not_in_table.false))) (eqb-true _ _ (sym c.if-eq.ensures) ∙ c.own.ensures)

pub returns-then-vote_misfits : goal.returns-then-vote_misfits
returns-then-vote_misfits c =
    let v = c.args.v in
    vote_block _ _ (sym c.is_other_vote.ensures ∙ c.if-is_other_vote.false) (sym c.slot_ok.ensures ∙ c.if-not-slot_ok.false) (omega (arith, c.count.ensures, leb-false c.count.result v.node.0 (sym c.not_in_table.ensures ∙ c.if-not_in_table.false))) (λ q. eqb-false _ _ (sym c.if-eq.ensures) (q ∙ sym c.own.ensures)) (sym c.vote_misfits.ensures ∙ c.if-vote_misfits.true)

pub load_cell-requires : goal.load_cell-requires
load_cell-requires c =
    let v = c.args.v in
    record {
      long = c.requires.long;
      slot = omega (arith, slot_high _ (sym c.slot_ok.ensures ∙ c.if-not-slot_ok.false));
      node = omega (arith, c.count.ensures, leb-false c.count.result v.node.0 (sym c.not_in_table.ensures ∙ c.if-not_in_table.false), c.requires.few);
    }

pub returns : goal.returns
returns c =
    let v = c.args.v in
    c.place_verdict.ensures
    ∙ ap place_verdict (c.place_of.ensures ∙ ap (λ (x : Cell). place_of x v.kind v.block) c.load_cell.ensures)
    ∙ vote_place _ _ (sym c.is_other_vote.ensures ∙ c.if-is_other_vote.false) (sym c.slot_ok.ensures ∙ c.if-not-slot_ok.false) (omega (arith, c.count.ensures, leb-false c.count.result v.node.0 (sym c.not_in_table.ensures ∙ c.if-not_in_table.false))) (λ q. eqb-false _ _ (sym c.if-eq.ensures) (q ∙ sym c.own.ensures)) (sym c.vote_misfits.ensures ∙ c.if-vote_misfits.false)
