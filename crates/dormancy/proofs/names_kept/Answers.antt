-- The places lie within the words, three or 65 words each.
use mathlib.Core.Path.{◌∙◌}
use native.Mathlib.Omega.{arith}
use Rattle.dormancy.proofs.NameLaws.{large_mask, places_inside, places_name}
use Rattle.dormancy.proofs.names_kept.Goals as goal

pub kept_start-from-requires : goal.kept_start-from-requires
kept_start-from-requires c = record { long = c.requires.long; slot = c.requires.slot; place = omega arith }

pub some_name-requires : goal.some_name-requires
some_name-requires c = (
  omega arith,
  places_inside c.args.rec.now c.args.s.0 c.kept_start-from.result c.places_in.result c.mask_words.result 3 c.requires
      c.kept_start-from.ensures c.places_in.ensures c.mask_words.ensures (omega (arith, c.if-mask_words-eq1.true)),
)

pub returns-then-mask_words-eq1 : goal.returns-then-mask_words-eq1
returns-then-mask_words-eq1 c =
    c.some_name.ensures
    ∙ places_name c.args.rec.now c.args.s.0 c.kept_start-from.result c.places_in.result c.mask_words.result 3 c.requires
    c.kept_start-from.ensures c.places_in.ensures c.mask_words.ensures (omega (arith, c.if-mask_words-eq1.true))

pub some_name-requires-else-mask_words-eq1 : goal.some_name-requires-else-mask_words-eq1
some_name-requires-else-mask_words-eq1 c = (
  omega arith,
  places_inside c.args.rec.now c.args.s.0 c.kept_start-from.result c.places_in.result c.mask_words.result 65 c.requires
      c.kept_start-from.ensures c.places_in.ensures c.mask_words.ensures (omega (arith, large_mask c.places_in.result c.mask_words.result c.mask_words.ensures c.if-mask_words-eq1.false)),
)

pub returns-else-mask_words-eq1 : goal.returns-else-mask_words-eq1
returns-else-mask_words-eq1 c =
    c.some_name-else-mask_words-eq1.ensures
    ∙ places_name c.args.rec.now c.args.s.0 c.kept_start-from.result c.places_in.result c.mask_words.result 65 c.requires
    c.kept_start-from.ensures c.places_in.ensures c.mask_words.ensures (omega (arith, large_mask c.places_in.result c.mask_words.result c.mask_words.ensures c.if-mask_words-eq1.false))
