-- The length in numbers; nothing wraps, since the places are few.
use mathlib.Core.Path.{◌≡◌, ◌∙◌, ap}
use native.Mathlib.Omega.{arith}
use Rattle.rulebook.specs.Weights.{places_for}
use Rattle.rule_laws.proofs.PlaceLaws.{places_few}
use Rattle.record.specs.Layout.{mask_words}
use Rattle.record.proofs.Places.{mask_few, record_long}
use Rattle.record.proofs.record_words.Goals as goal

pub overflow_mul-result : goal.overflow_mul-result
overflow_mul-result c =
    omega (arith, c.mask_words.ensures, mask_few c.places_for-p.result, c.places_for-p.ensures, places_few c.args.count)

pub overflow_add-result : goal.overflow_add-result
overflow_add-result c =
    omega (arith, c.mask_words.ensures, mask_few c.places_for-p.result, c.places_for-p.ensures, places_few c.args.count)

pub overflow_mul-result-2 : goal.overflow_mul-result-2
overflow_mul-result-2 c =
    omega (arith, c.mask_words.ensures, mask_few c.places_for-p.result, c.places_for-p.ensures, places_few c.args.count)

pub overflow_add-result-2 : goal.overflow_add-result-2
overflow_add-result-2 c =
    omega (arith, c.mask_words.ensures, mask_few c.places_for-p.result, c.places_for-p.ensures, places_few c.args.count)

pub returns : goal.returns
returns c =
    let p = places_for c.args.count in
    let mask : c.mask_words.result ≡ mask_words p = c.mask_words.ensures ∙ ap mask_words c.places_for-p.ensures in
    omega (arith, mask, c.places_for-p.ensures, record_long p)
