-- The tests in their order, then what is kept.
use Rattle.pieces.proofs.Ways.{piece_unready, piece_more, piece_unfit, piece_first}
use Rattle.pieces.proofs.Laid.{fits_few, table_taking}
use Rattle.pieces.proofs.Tests.{ready_words, ready_bytes, ready_taking, made_test}
use Rattle.std.specs.Prelude.{is_some, not}
use mathlib.Core.Path.{◌∙◌, ap, sym}
use native.Mathlib.Omega.{arith}
use Rattle.pieces.proofs.piece.Goals as goal

pub returns-then-not-is_ready : goal.returns-then-not-is_ready
returns-then-not-is_ready c = piece_unready _ _ _ _ (sym c.is_ready.ensures ∙ c.if-not-is_ready.true)

pub bounds-words-0 : goal.bounds-words-0
bounds-words-0 c = omega (arith, ready_words _ _ (sym c.is_ready.ensures ∙ c.if-not-is_ready.false))

pub keep_bytes-requires : goal.keep_bytes-requires
keep_bytes-requires c =
    ready_taking _ _ (sym c.is_ready.ensures ∙ c.if-not-is_ready.false) c.if-words-ne0.true

pub returns-then-words-ne0 : goal.returns-then-words-ne0
returns-then-words-ne0 c =
    piece_more _ _ _ _ (sym c.is_ready.ensures ∙ c.if-not-is_ready.false) c.if-words-ne0.true c.keep_bytes.ensures

pub returns-then-is_none : goal.returns-then-is_none
returns-then-is_none c =
    piece_unfit _ _ _ _ (sym c.is_ready.ensures ∙ c.if-not-is_ready.false) c.if-words-ne0.false (sym (made_test _) ∙ ap is_some (sym c.make_table.ensures) ∙ c.is_none.ensures ∙ ap not c.if-is_none.true)

pub keep_table-requires : goal.keep_table-requires
keep_table-requires c =
    record { words = ready_words _ _ (sym c.is_ready.ensures ∙ c.if-not-is_ready.false); few = fits_few _ (sym (made_test _) ∙ ap is_some (sym c.make_table.ensures) ∙ c.is_none.ensures ∙ ap not c.if-is_none.false) }

pub keep_bytes-requires-2 : goal.keep_bytes-requires-2
keep_bytes-requires-2 c =
    table_taking _ _ _ _ (ready_words _ _ (sym c.is_ready.ensures ∙ c.if-not-is_ready.false)) (ready_bytes _ _ (sym c.is_ready.ensures ∙ c.if-not-is_ready.false)) (fits_few _ (sym (made_test _) ∙ ap is_some (sym c.make_table.ensures) ∙ c.is_none.ensures ∙ ap not c.if-is_none.false)) c.keep_table.ensures

pub returns : goal.returns
returns c =
    piece_first _ _ _ _ (sym c.is_ready.ensures ∙ c.if-not-is_ready.false) c.if-words-ne0.false (sym (made_test _) ∙ ap is_some (sym c.make_table.ensures) ∙ c.is_none.ensures ∙ ap not c.if-is_none.false) c.keep_table.ensures c.keep_bytes-2.ensures
