-- The first test that fails decides, once the four numbers are read. Assumes nothing.
use Rattle.std.specs.Prelude.{Err}
use mathlib.Core.Path.{◌≡◌, sym, ap, ◌∙◌}
use borrow.Author.Rules.{rules}
use lib.ListN.{length}
use Rattle.rulebook.specs.declared.Vote.{Vote}
use Rattle.rulebook.specs.Tools.{whenever}
use Rattle.rulebook.specs.Messages.{as_read, read_to, read_vote}
use Rattle.messages.proofs.Tested.{read_refused}
use Rattle.messages.proofs.read_vote.Goals as goal

pub returns-in_err-vote_tests : goal.returns-in_err-vote_tests
unfolding read_vote whenever as_read
returns-in_err-vote_tests c =
    let s = c.args in
    let q : c.from_residual-in_err-vote_tests.result ≡ Err c.in_err-vote_tests.field-0.0 = search rules in
    let e = read_refused s.count c.vote_of-v.result c.in_ok-block.next (length s.bytes.now) _ (sym c.in_err-vote_tests.ensures) in
    rw (q, sym c.count_fits.ensures ∙ c.if-not-count_fits.false)
    (simp (sym c.in_ok-kind.ensures, sym c.in_ok-node.ensures, sym c.in_ok-slot.ensures, sym c.in_ok-block.ensures)
    (sym (ap (λ (v : Vote). read_to s.count v c.in_ok-block.next (length s.bytes.now)) (sym c.vote_of-v.ensures) ∙ e)))
