-- A word of 0 passes.
use Rattle.std.proofs.Common.{◌≡◌, ◌||◌, eqb, ap, ◌∙◌}
use Rattle.safety.specs.Ballots.{has}
use Rattle.inquest.specs.Stands.{none_or}
use Rattle.inquest.specs.Lists.{unless}
use Rattle.inquest_lines.proofs.Laws.{laid_as}
use Rattle.signer_lines.specs.Signers.{ballot_of}
use Rattle.signer_lines.proofs.Laws.{none_first}
use Rattle.signer_lines.proofs.put_stored.Goals as goal

pub returns : goal.returns
returns c =
    let a = c.args in
    let t : (eqb a.word 0 || c.has.result) ≡ none_or a.word (λ _. has a.d (ballot_of a.kind a.word)) =
    ap (λ z. eqb a.word 0 || z) c.has.ensures ∙ none_first a.word (has a.d (ballot_of a.kind a.word)) in
    laid_as (λ i. unless (t i) (record { slot = a.s; node = a.m; kind = a.kind; block = c.block_of.ensures i; source = 0 })) c.put_unless.ensures
