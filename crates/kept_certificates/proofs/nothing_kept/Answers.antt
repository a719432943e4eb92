-- The words of all places, one run: a known number where masks have one word.
use mathlib.Core.Path.{refl, ◌∙◌}
use Prim.Native.Nat.{◌+◌, ◌-◌, ◌*◌}
use native.Mathlib.Omega.{arith}
use Rattle.kept_certificates.proofs.ByPlace.{slot_blank}
use Rattle.kept_certificates.proofs.nothing_kept.Goals as goal

pub kept_start-from-requires : goal.kept_start-from-requires
kept_start-from-requires c = record { long = c.requires.long; slot = c.requires.slot; place = omega arith }

pub overflow_add-few : goal.overflow_add-few
overflow_add-few c =
    omega (arith, (slot_blank c.args.rec.now c.args.s.0 c.kept_start-from.result 39 c.places_in.result c.mask_words-words.result c.requires c.kept_start-from.ensures c.places_in.ensures c.mask_words-words.ensures (omega (arith, c.if-words-eq1.true))).0)

pub offset_bounds-rec-from : goal.offset_bounds-rec-from
offset_bounds-rec-from c =
    omega (arith, (slot_blank c.args.rec.now c.args.s.0 c.kept_start-from.result 39 c.places_in.result c.mask_words-words.result c.requires c.kept_start-from.ensures c.places_in.ensures c.mask_words-words.ensures (omega (arith, c.if-words-eq1.true))).0)

pub slice_bounds-few-end : goal.slice_bounds-few-end
slice_bounds-few-end c =
    omega (arith, (slot_blank c.args.rec.now c.args.s.0 c.kept_start-from.result 39 c.places_in.result c.mask_words-words.result c.requires c.kept_start-from.ensures c.places_in.ensures c.mask_words-words.ensures (omega (arith, c.if-words-eq1.true))).0)

pub returns-then-words-eq1 : goal.returns-then-words-eq1
returns-then-words-eq1 c =
    c.all_none.ensures
    ∙ (slot_blank c.args.rec.now c.args.s.0 c.kept_start-from.result (c.kept_start-from.result + 39 - c.kept_start-from.result) c.places_in.result c.mask_words-words.result c.requires c.kept_start-from.ensures c.places_in.ensures c.mask_words-words.ensures (omega (arith, c.if-words-eq1.true))).1

pub overflow_mul-end : goal.overflow_mul-end
overflow_mul-end c =
    omega (arith, (slot_blank c.args.rec.now c.args.s.0 c.kept_start-from.result (13 * (1 + 2 * c.mask_words-words.result)) c.places_in.result c.mask_words-words.result c.requires c.kept_start-from.ensures c.places_in.ensures c.mask_words-words.ensures refl).0)

pub overflow_add-end : goal.overflow_add-end
overflow_add-end c =
    omega (arith, (slot_blank c.args.rec.now c.args.s.0 c.kept_start-from.result (13 * (1 + 2 * c.mask_words-words.result)) c.places_in.result c.mask_words-words.result c.requires c.kept_start-from.ensures c.places_in.ensures c.mask_words-words.ensures refl).0)

pub overflow_mul-end-2 : goal.overflow_mul-end-2
overflow_mul-end-2 c =
    omega (arith, (slot_blank c.args.rec.now c.args.s.0 c.kept_start-from.result (13 * (1 + 2 * c.mask_words-words.result)) c.places_in.result c.mask_words-words.result c.requires c.kept_start-from.ensures c.places_in.ensures c.mask_words-words.ensures refl).0)

pub overflow_add-end-2 : goal.overflow_add-end-2
overflow_add-end-2 c =
    omega (arith, (slot_blank c.args.rec.now c.args.s.0 c.kept_start-from.result (13 * (1 + 2 * c.mask_words-words.result)) c.places_in.result c.mask_words-words.result c.requires c.kept_start-from.ensures c.places_in.ensures c.mask_words-words.ensures refl).0)

pub offset_bounds-rec-from-2 : goal.offset_bounds-rec-from-2
offset_bounds-rec-from-2 c =
    omega (arith, (slot_blank c.args.rec.now c.args.s.0 c.kept_start-from.result (13 * (1 + 2 * c.mask_words-words.result)) c.places_in.result c.mask_words-words.result c.requires c.kept_start-from.ensures c.places_in.ensures c.mask_words-words.ensures refl).0)

pub slice_bounds-part-end : goal.slice_bounds-part-end
slice_bounds-part-end c =
    omega (arith, (slot_blank c.args.rec.now c.args.s.0 c.kept_start-from.result (13 * (1 + 2 * c.mask_words-words.result)) c.places_in.result c.mask_words-words.result c.requires c.kept_start-from.ensures c.places_in.ensures c.mask_words-words.ensures refl).0)

pub returns : goal.returns
returns c =
    c.all_none-2.ensures
    ∙ (slot_blank c.args.rec.now c.args.s.0 c.kept_start-from.result (c.kept_start-from.result + 13 * (1 + 2 * c.mask_words-words.result) - c.kept_start-from.result) c.places_in.result c.mask_words-words.result c.requires c.kept_start-from.ensures c.places_in.ensures c.mask_words-words.ensures (omega arith)).1
