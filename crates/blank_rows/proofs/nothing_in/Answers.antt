-- The words of a slot's row, one run.
use mathlib.Core.Path.{refl, ◌∙◌}
use Prim.Native.Nat.{◌+◌, ◌-◌, ◌*◌}
use native.Mathlib.Omega.{arith}
use Rattle.blank_rows.proofs.Rows.{row_starts, row_room, row_long, lent_none}
use Rattle.blank_rows.proofs.nothing_in.Goals as goal

pub kept_start-from-requires : goal.kept_start-from-requires
kept_start-from-requires c = record { long = c.requires.long; slot = c.requires.slot; place = omega arith }

pub overflow_sub-from : goal.overflow_sub-from
overflow_sub-from c = row_starts _ _ _ c.kept_start-from.ensures

pub overflow_mul-size : goal.overflow_mul-size
overflow_mul-size c =
    omega (arith, row_room c.args.rec.now c.args.s.0 c.kept_start-from.result c.places_in-places.result c.mask_words.result c.requires c.kept_start-from.ensures c.places_in-places.ensures c.mask_words.ensures)

pub overflow_add-size : goal.overflow_add-size
overflow_add-size c =
    omega (arith, row_room c.args.rec.now c.args.s.0 c.kept_start-from.result c.places_in-places.result c.mask_words.result c.requires c.kept_start-from.ensures c.places_in-places.ensures c.mask_words.ensures)

pub overflow_mul-size-2 : goal.overflow_mul-size-2
overflow_mul-size-2 c =
    omega (arith, row_room c.args.rec.now c.args.s.0 c.kept_start-from.result c.places_in-places.result c.mask_words.result c.requires c.kept_start-from.ensures c.places_in-places.ensures c.mask_words.ensures)

pub overflow_add-size-2 : goal.overflow_add-size-2
overflow_add-size-2 c =
    omega (arith, row_room c.args.rec.now c.args.s.0 c.kept_start-from.result c.places_in-places.result c.mask_words.result c.requires c.kept_start-from.ensures c.places_in-places.ensures c.mask_words.ensures)

pub overflow_mul-size-3 : goal.overflow_mul-size-3
overflow_mul-size-3 c =
    omega (arith, row_room c.args.rec.now c.args.s.0 c.kept_start-from.result c.places_in-places.result c.mask_words.result c.requires c.kept_start-from.ensures c.places_in-places.ensures c.mask_words.ensures)

pub overflow_add-size-3 : goal.overflow_add-size-3
overflow_add-size-3 c =
    omega (arith, row_room c.args.rec.now c.args.s.0 c.kept_start-from.result c.places_in-places.result c.mask_words.result c.requires c.kept_start-from.ensures c.places_in-places.ensures c.mask_words.ensures)

pub overflow_add-row : goal.overflow_add-row
overflow_add-row c =
    omega (arith, row_room c.args.rec.now c.args.s.0 c.kept_start-from.result c.places_in-places.result c.mask_words.result c.requires c.kept_start-from.ensures c.places_in-places.ensures c.mask_words.ensures)

pub offset_bounds-rec-from : goal.offset_bounds-rec-from
offset_bounds-rec-from c =
    omega (arith, row_room c.args.rec.now c.args.s.0 c.kept_start-from.result c.places_in-places.result c.mask_words.result c.requires c.kept_start-from.ensures c.places_in-places.ensures c.mask_words.ensures)

pub slice_bounds-row-end : goal.slice_bounds-row-end
slice_bounds-row-end c =
    omega (arith, row_room c.args.rec.now c.args.s.0 c.kept_start-from.result c.places_in-places.result c.mask_words.result c.requires c.kept_start-from.ensures c.places_in-places.ensures c.mask_words.ensures)

pub all_none-requires : goal.all_none-requires
all_none-requires c =
    row_long _ _ _ (20 + 13 * (1 + 2 * c.mask_words.result) + 7 * c.places_in-places.result) (omega arith) (row_room c.args.rec.now c.args.s.0 c.kept_start-from.result c.places_in-places.result c.mask_words.result c.requires c.kept_start-from.ensures c.places_in-places.ensures c.mask_words.ensures) refl

pub returns : goal.returns
returns c =
    c.all_none.ensures
    ∙ lent_none c.args.rec.now c.args.s.0 c.kept_start-from.result c.places_in-places.result c.mask_words.result c.requires
    c.kept_start-from.ensures c.places_in-places.ensures c.mask_words.ensures (c.kept_start-from.result - 20 + (20 + 13 * (1 + 2 * c.mask_words.result) + 7 * c.places_in-places.result) - (c.kept_start-from.result - 20)) (omega arith)
