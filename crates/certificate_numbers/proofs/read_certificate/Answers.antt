-- The heading, then mask A, then mask B, each into its own lent words; the first that was not read decides.
use Rattle.std.specs.Prelude.{Err}
use borrow.Author.Rules.{rules}
use mathlib.Core.Path.{◌≡◌, refl, sym}
use lib.Seq.{length-take-le}
use Rattle.certificate_numbers.proofs.Whole.{heading_fell, first_fell, second_fell, all_read, lent_enough, part_read, part_long}
use Rattle.certificate_numbers.proofs.read_certificate.Goals as goal

pub returns-in_err-c : goal.returns-in_err-c
returns-in_err-c c =
    let s = c.args in
    let q : c.from_residual.result ≡ Err c.in_err-c.field-0.0 = search rules in
    rw q (heading_fell s.bytes.now s.at _ s.a.now s.b.now (sym c.in_err-c.ensures))

pub slice_bounds-read_mask-end : goal.slice_bounds-read_mask-end
slice_bounds-read_mask-end c = lent_enough c.args.a.now _ _ c.requires.long_a c.words_in-words.ensures

pub slice_bounds-read_mask-end-2 : goal.slice_bounds-read_mask-end-2
slice_bounds-read_mask-end-2 c =
    sym (length-take-le c.words_in-words.result c.args.a.now (lent_enough c.args.a.now _ _ c.requires.long_a c.words_in-words.ensures))

pub returns-in_err-q : goal.returns-in_err-q
returns-in_err-q c =
    let bytes = c.args.bytes.now in
    let a = c.args.a.now in
    let n = c.words_in-words.result in
    let q : c.from_residual-in_err-q.result ≡ Err c.in_err-q.field-0.0 = search rules in
    rw q
    (first_fell bytes c.args.at _ _ n (sym c.in_ok-c.ensures) c.words_in-words.ensures _ _ _ _
    (part_read bytes _ n a _ (lent_enough a _ _ c.requires.long_a c.words_in-words.ensures) c.in_err-q.ensures))

pub slice_bounds-read_mask-end-3 : goal.slice_bounds-read_mask-end-3
slice_bounds-read_mask-end-3 c = lent_enough c.args.b.now _ _ c.requires.long_b c.words_in-words.ensures

pub slice_bounds-read_mask-end-4 : goal.slice_bounds-read_mask-end-4
slice_bounds-read_mask-end-4 c =
    sym (length-take-le c.words_in-words.result c.args.b.now (lent_enough c.args.b.now _ _ c.requires.long_b c.words_in-words.ensures))

pub returns-in_err-next : goal.returns-in_err-next
returns-in_err-next c =
    let bytes = c.args.bytes.now in
    let a = c.args.a.now in
    let b = c.args.b.now in
    let n = c.words_in-words.result in
    let q : c.from_residual-in_err-next.result ≡ Err c.in_err-next.field-0.0 = search rules in
    rw q
    (second_fell bytes c.args.at _ _ n (sym c.in_ok-c.ensures) c.words_in-words.ensures _ _
    (part_read bytes _ n a _ (lent_enough a _ _ c.requires.long_a c.words_in-words.ensures) c.in_ok-q.ensures) _ _ _ _
    (part_read bytes _ n b _ (lent_enough b _ _ c.requires.long_b c.words_in-words.ensures) c.in_err-next.ensures))

pub returns : goal.returns
returns c =
    let bytes = c.args.bytes.now in
    let a = c.args.a.now in
    let b = c.args.b.now in
    let n = c.words_in-words.result in
    let x = c.read_mask.new.mask in
    let y = c.read_mask-2.new.mask in
    let enoughA = lent_enough a _ _ c.requires.long_a c.words_in-words.ensures in
    let enoughB = lent_enough b _ _ c.requires.long_b c.words_in-words.ensures in
    all_read bytes c.args.at _ _ n (sym c.in_ok-c.ensures) c.words_in-words.ensures _ _
    (part_read bytes _ n a _ enoughA c.in_ok-q.ensures) _ _ x y _ _
    (part_read bytes _ n b _ enoughB c.in_ok-next.ensures) refl refl
    (part_long n a x enoughA c.read_mask.auto.mask) (part_long n b y enoughB c.read_mask-2.auto.mask)
