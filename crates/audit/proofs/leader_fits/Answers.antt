-- No block, a weight that is not the block's, a block with more than all the others together, or no rival.
use mathlib.Core.Path.{◌∙◌, sym}
use native.Mathlib.Omega.{arith}
use Rattle.rulebook.specs.declared.Who.TheVariants as who
use Rattle.record.specs.Layout.{ledger_of}
use Rattle.pool.proofs.HeldLaws.{weigh_light}
use Rattle.audit.proofs.Summing.{summed_any, summed_lead}
use Rattle.audit.proofs.Fitting.{fits_none, fits_light, claim_some, claim_same, fits_quick, fits_unled}
use Rattle.audit.proofs.leader_fits.Goals as goal

pub returns-then-b-eq0 : goal.returns-then-b-eq0
returns-then-b-eq0 c =
    let a = c.args in
    let l = ledger_of a.rec.now in
    fits_none l a.s.0 a.t.leader a.t.weight.0 _ (summed_any l a.s.0 a.t.leader a.sums c.requires.sums) c.if-b-eq0.true

pub returns-then-v-w : goal.returns-then-v-w
returns-then-v-w c =
    let a = c.args in
    let l = ledger_of a.rec.now in
    fits_light l a.s.0 a.t.leader a.t.weight.0 _ (summed_lead l a.s.0 a.t.leader a.sums c.requires.sums c.if-b-eq0.false) c.if-b-eq0.false c.if-v-w.true

pub overflow_add-w : goal.overflow_add-w
overflow_add-w c =
    let a = c.args in
    let p = c.requires in
    let l = ledger_of a.rec.now in
    omega (arith, summed_lead l a.s.0 a.t.leader a.sums p.sums c.if-b-eq0.false, weigh_light p.weighing.table a.s.0 (who.Notar a.t.leader), p.weighing.table.light)

pub returns-then-any-w : goal.returns-then-any-w
returns-then-any-w c =
    let a = c.args in
    let p = c.requires in
    let l = ledger_of a.rec.now in
    fits_quick l a.s.0 a.t.leader a.t.weight.0 _ (summed_lead l a.s.0 a.t.leader a.sums p.sums c.if-b-eq0.false) c.if-b-eq0.false c.if-v-w.false _ (summed_any l a.s.0 a.t.leader a.sums p.sums) c.if-any-w.true

pub is_led-requires : goal.is_led-requires
is_led-requires c =
    let a = c.args in
    let p = c.requires in
    let l = ledger_of a.rec.now in
    let e = summed_lead l a.s.0 a.t.leader a.sums p.sums c.if-b-eq0.false in
    record {
      leading = record {
        weighing = p.weighing;
        block = omega (arith, c.if-b-eq0.false);
        some = claim_some l a.s.0 a.t.leader a.t.weight.0 _ e c.if-b-eq0.false c.if-v-w.false;
        weight = sym e ∙ claim_same l a.s.0 a.t.leader a.t.weight.0 _ e c.if-b-eq0.false c.if-v-w.false;
      };
      all = summed_any l a.s.0 a.t.leader a.sums p.sums;
    }

pub returns : goal.returns
returns c =
    let a = c.args in
    let p = c.requires in
    let l = ledger_of a.rec.now in
    fits_unled l a.s.0 a.t.leader a.t.weight.0 _ (summed_lead l a.s.0 a.t.leader a.sums p.sums c.if-b-eq0.false) c.if-b-eq0.false c.if-v-w.false _ c.is_led.ensures
