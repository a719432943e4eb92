-- Not all words are 0.
use mathlib.Core.Path.{◌∙◌, ap}
use mathlib.Core.Bool.{not}
use Rattle.kept_certificates.proofs.Laws.{none_joined}
use Rattle.kept_certificates.proofs.has_signers.Goals as goal

pub returns : goal.returns
returns c = ap not (c.all_none.ensures ∙ none_joined c.args.mask.now)
