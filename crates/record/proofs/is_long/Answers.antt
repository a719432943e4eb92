-- The length in numbers; nothing wraps, since the places are told by the words, and of words of 64 bits the length tells all.
use mathlib.Core.Path.{◌≡◌, ◌∙◌, ap}
use Prim.Native.Nat.{◌+◌, ◌*◌}
use native.Mathlib.Omega.{arith}
use lib.ListN.{length}
use lib.Dec.{eqb}
use Rattle.record.specs.Layout.{mask_words, record_words, places_in}
use Rattle.record.proofs.Places.{mask_few, record_long, places_inside, places_words}
use Rattle.record.proofs.Spelled.{length_spelled}
use Rattle.record.proofs.is_long.Goals as goal

pub overflow_mul-result : goal.overflow_mul-result
overflow_mul-result c =
    let ws = c.args.rec.now in
    omega (arith, c.mask_words.ensures, mask_few c.places_in-p.result, c.places_in-p.ensures, places_words (places_in ws) ws, places_inside ws)

pub overflow_add-result : goal.overflow_add-result
overflow_add-result c =
    let ws = c.args.rec.now in
    omega (arith, c.mask_words.ensures, mask_few c.places_in-p.result, c.places_in-p.ensures, places_words (places_in ws) ws, places_inside ws)

pub overflow_mul-result-2 : goal.overflow_mul-result-2
overflow_mul-result-2 c =
    let ws = c.args.rec.now in
    omega (arith, c.mask_words.ensures, mask_few c.places_in-p.result, c.places_in-p.ensures, places_words (places_in ws) ws, places_inside ws)

pub overflow_add-result-2 : goal.overflow_add-result-2
overflow_add-result-2 c =
    let ws = c.args.rec.now in
    omega (arith, c.mask_words.ensures, mask_few c.places_in-p.result, c.places_in-p.ensures, places_words (places_in ws) ws, places_inside ws)

pub returns : goal.returns
returns c =
    let ws = c.args.rec.now in
    let same : c.places_in-p.result ≡ places_in ws = c.places_in-p.ensures ∙ places_words (places_in ws) ws in
    let mask : c.mask_words.result ≡ mask_words (places_in ws) = c.mask_words.ensures ∙ ap mask_words same in
    let e : 569 + 442 * c.mask_words.result + 120 * c.places_in-p.result ≡ record_words (places_in ws) = omega (arith, same, mask, record_long (places_in ws)) in
    ap (eqb (length ws)) e ∙ length_spelled ws (λ n. (c.shared_slice_known-1.given n).fits)
