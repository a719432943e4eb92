-- By what was found at the place, with the masks at the front of the lent words.
use Rattle.std.specs.Prelude.{Err}
use borrow.Author.Rules.{rules}
use mathlib.Core.Path.{◌≡◌, sym, ◌∙◌}
use lib.Seq.{length-take-le}
use Rattle.rulebook.specs.PaperNumbers.{refusal_of}
use Rattle.rulebook.specs.Checker.{one_at}
use Rattle.certificate_numbers.proofs.Whole.{lent_enough}
use Rattle.certificates.proofs.Judged.{found_unread, found_whole}
use Rattle.certificates.proofs.one_at.Goals as goal

pub returns-in_err-c : goal.returns-in_err-c
unfolding one_at
returns-in_err-c c =
    let q : c.from_residual.result ≡ Err (refusal_of c.in_err-c.field-0.0) = search rules in
    rw q (found_unread c.args.stakes.now c.read_certificate.new.a c.read_certificate.new.b _ _ c.in_err-c.ensures)

pub slice_bounds-a-end : goal.slice_bounds-a-end
slice_bounds-a-end c = lent_enough c.read_certificate.new.a _ _ c.read_certificate.auto.a c.words_in-words.ensures

pub slice_bounds-judge-end : goal.slice_bounds-judge-end
slice_bounds-judge-end c =
    sym (length-take-le _ c.read_certificate.new.a (lent_enough c.read_certificate.new.a _ _ c.read_certificate.auto.a c.words_in-words.ensures))

pub slice_bounds-b-end : goal.slice_bounds-b-end
slice_bounds-b-end c = lent_enough c.read_certificate.new.b _ _ c.read_certificate.auto.b c.words_in-words.ensures

pub slice_bounds-judge-end-2 : goal.slice_bounds-judge-end-2
slice_bounds-judge-end-2 c =
    sym (length-take-le _ c.read_certificate.new.b (lent_enough c.read_certificate.new.b _ _ c.read_certificate.auto.b c.words_in-words.ensures))

pub judge-requires : goal.judge-requires
judge-requires c =
    let w = c.words_in-words in
    let x = c.read_certificate.new.a in
    let y = c.read_certificate.new.b in (
      c.requires,
      record {
        long_a = length-take-le w.result x (lent_enough x _ _ c.read_certificate.auto.a w.ensures) ∙ w.ensures;
        long_b = length-take-le w.result y (lent_enough y _ _ c.read_certificate.auto.b w.ensures) ∙ w.ensures;
      },
    )

pub returns : goal.returns
unfolding one_at
returns c =
    c.judge.ensures
    ∙ found_whole c.args.stakes.now c.read_certificate.new.a c.read_certificate.new.b _ _ _ _ c.in_ok-c.ensures c.words_in-words.ensures
