-- `write_vote` answers the refusal and leaves the buffer, or lays the message at its front. Assumes nothing.
use Rattle.std.specs.Prelude.{Err}
use mathlib.Core.Path.{◌≡◌, sym}
use borrow.Author.Rules.{rules}
use lib.ListN.{length}
use Rattle.numbers.proofs.Stores.{writes_refused, writes_laid}
use Rattle.messages.proofs.Laid.{message_room, message_judged}
use Rattle.messages.proofs.write_vote.Goals as goal

pub returns-in_err-message_verdict : goal.returns-in_err-message_verdict
returns-in_err-message_verdict c =
    let s = c.args in
    let q : c.from_residual.result ≡ Err c.in_err-message_verdict.field-0.0 = search rules in
    rw q (writes_refused _ _ s.buffer.now _ (message_judged s.count (length s.buffer.now) s.v _ c.in_err-message_verdict.ensures))

pub lay_vote-requires : goal.lay_vote-requires
lay_vote-requires c = message_room c.args.count c.args.v c.args.buffer.now (sym c.in_ok-message_verdict.ensures)

pub returns : goal.returns
returns c =
    let s = c.args in
    writes_laid _ _ (message_judged s.count (length s.buffer.now) s.v _ c.in_ok-message_verdict.ensures) c.lay_vote.ensures
