-- The node's word, and its bit there.
use Rattle.std.proofs.Common.{rules}
use Rattle.signer_lines.proofs.Laws.{word_named}
use Rattle.signer_lines.proofs.names.Goals as goal

pub returns : goal.returns
returns c =
    let a = c.args in
    word_named a.mask.now (λ i. (c.type_inv.mask i).fits) a.n.0 _ (search rules)
