-- Where the first place is empty, all are to be. Else the loop has joined the tests of the places behind it: each place's own,
-- and its order behind those before it.
use mathlib.Core.Bool.{◌&&◌}
use mathlib.Core.Path.{◌∙◌, ap, sym}
use Prim.Native.Nat.{◌-◌}
use native.Mathlib.Omega.{arith}
use Rattle.rule_laws.proofs.ToolLaws.{all_none}
use Rattle.rulebook.specs.WellFormed.{kept_fits}
use Rattle.rulebook.specs.Ledger.{blocks_at}
use Rattle.rulebook.specs.declared.Block.{Block}
use Rattle.record.specs.Layout.{ledger_of}
use Rattle.record.specs.BlockPlaces.{behind}
use Rattle.soundness.proofs.Laws.{all_step, blocks_judged}
use Rattle.soundness.proofs.Empty.{blank_fits}
use Rattle.soundness.proofs.blocks_fit.Goals as goal

pub load_block-first-requires : goal.load_block-first-requires
load_block-first-requires c = record { long = c.requires.long; slot = c.requires.slot; place = omega arith }

pub returns-then-first-eq0 : goal.returns-then-first-eq0
returns-then-first-eq0 c =
    let a = c.args in let l = ledger_of a.rec.now in
    c.blocks_blank.ensures ∙ blank_fits l a.s.0 (blocks_at l a.s.0) c.load_block-first.result c.load_block-first.ensures c.if-first-eq0.true

pub loop-n-init : goal.loop-n-init
loop-n-init c = (omega arith, sym (all_none _))

pub load_block-b-requires : goal.load_block-b-requires
load_block-b-requires c = record { long = c.requires.long; slot = c.requires.slot; place = omega arith }

pub kept_fits-kept-requires : goal.kept_fits-kept-requires
kept_fits-kept-requires c = c.requires.long

pub is_behind-apart-requires : goal.is_behind-apart-requires
is_behind-apart-requires c = record { long = c.requires.long; slot = c.requires.slot; place = omega arith }

pub loop-n-preserved : goal.loop-n-preserved
loop-n-preserved c =
    let a = c.args in
    let l = ledger_of a.rec.now in
    let k = c.loop-n in
    let e = c.load_block-b.ensures in (
      omega arith,
      all_step k.n _ _ _ k.invariant.1
          (λ i. (c.kept_fits-kept.ensures ∙ ap (λ (x : Block). kept_fits l a.s.0 x) e) i
          && (c.is_behind-apart.ensures ∙ ap (λ (x : Block). behind (blocks_at l a.s.0) k.n x.number) e) i),
    )

pub returns : goal.returns
returns c =
    blocks_judged c.args.rec.now c.args.s.0 c.requires.slot c.loop-n.n _ (omega arith) c.loop-n.invariant.1
