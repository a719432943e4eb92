-- A mask that does not name the firm passes.
use Rattle.std.proofs.Common.{◌≡◌, not, ◌||◌, true, ap, ◌∙◌}
use Rattle.rulebook.specs.Tools.{whenever}
use Rattle.safety.specs.Ballots.{has}
use Rattle.inquest.specs.Lists.{unless}
use Rattle.inquest_lines.proofs.Laws.{laid_as}
use Rattle.signer_lines.specs.Signers.{ballot_of}
use Rattle.signer_lines.proofs.Laws.{not_or}
use Rattle.signer_lines.proofs.put_counted.Goals as goal

pub returns : goal.returns
returns c =
    let a = c.args in
    let t : (not a.named || c.has.result) ≡ whenever a.named (λ _. has a.d (ballot_of a.kind a.x.block)) true =
    ap (λ z. not a.named || z) c.has.ensures ∙ not_or a.named (has a.d (ballot_of a.kind a.x.block)) in
    laid_as (λ i. unless (t i) (record { slot = a.x.slot; node = a.x.node; kind = a.kind; block = c.block_of.ensures i; source = c.from.ensures i })) c.put_unless.ensures
