-- Words of another length, a slot or a place past the last, and the block.
use mathlib.Core.Path.{◌∙◌, ap}
use Prim.Native.Nat.{◌-◌}
use native.Mathlib.Omega.{arith}
use lib.ListN.{get_or}
use Rattle.rulebook.specs.Ledger.{Ledger, no_block, blocks_at}
use Rattle.shown.proofs.Laws.{short_block, past_blocks, past_place, whole_ledger, whole_long}
use mathlib.Core.Bool.{not}
use Rattle.shown.proofs.kept_of.Goals as goal

pub returns-then-not-is_long : goal.returns-then-not-is_long
returns-then-not-is_long c =
    let a = c.args in
    short_block a.rec.now _ c.is_long.ensures (ap not c.if-not-is_long.true) a.s.0 a.n

pub returns-then-s-gt-LAST_SLOT : goal.returns-then-s-gt-LAST_SLOT
returns-then-s-gt-LAST_SLOT c =
    let a = c.args in
    past_blocks a.rec.now _ c.is_long.ensures (ap not c.if-not-is_long.false) a.s.0 a.n (omega arith)

pub returns-then-n-ge-MOST_BLOCKS : goal.returns-then-n-ge-MOST_BLOCKS
returns-then-n-ge-MOST_BLOCKS c =
    let a = c.args in
    past_place a.rec.now _ c.is_long.ensures (ap not c.if-not-is_long.false) a.s.0 a.n (omega arith) (omega arith)

pub load_block-requires : goal.load_block-requires
load_block-requires c =
    record { long = whole_long _ _ c.is_long.ensures (ap not c.if-not-is_long.false); slot = omega arith; place = omega arith }

pub returns : goal.returns
returns c =
    let a = c.args in
    c.load_block.ensures ∙ ap (λ (l : Ledger). get_or (blocks_at l a.s.0) a.n no_block) (whole_ledger a.rec.now _ c.is_long.ensures (ap not c.if-not-is_long.false))
