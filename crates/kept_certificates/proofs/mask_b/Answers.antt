-- The words behind mask A.
use mathlib.Core.Path.{◌∙◌, ap}
use native.Mathlib.Omega.{arith}
use Rattle.record.specs.Layout.{mask_words}
use Rattle.kept_certificates.proofs.Laws.{kept_room, b_lent}
use Rattle.kept_certificates.proofs.mask_b.Goals as goal

pub overflow_add-kept_start-2 : goal.overflow_add-kept_start-2
overflow_add-kept_start-2 c =
    omega (arith, kept_room c.args.rec.now c.args.s.0 c.args.n c.kept_start.result c.requires c.kept_start.ensures, c.mask_words.ensures ∙ ap mask_words c.places_in.ensures)

pub mask_from-requires : goal.mask_from-requires
mask_from-requires c =
    omega (arith, kept_room c.args.rec.now c.args.s.0 c.args.n c.kept_start.result c.requires c.kept_start.ensures, c.mask_words.ensures ∙ ap mask_words c.places_in.ensures)

pub returns : goal.returns
returns c =
    b_lent c.args.rec.now c.args.s.0 c.args.n c.kept_start.result c.requires c.kept_start.ensures _ _ (c.mask_words.ensures ∙ ap mask_words c.places_in.ensures) c.mask_from.ensures
