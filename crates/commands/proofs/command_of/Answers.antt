-- The first word, and whether the rest fits.
use Rattle.commands.proofs.Laws.{command_fits, command_none}
use Rattle.commands.proofs.command_of.Goals as goal

pub returns-then-arguments_fit : goal.returns-then-arguments_fit
returns-then-arguments_fit c =
    command_fits _ c.word_at-from.result c.word_at-from.ensures c.command_named-c.result c.command_named-c.ensures _ c.arguments_fit.ensures c.if-arguments_fit.true

pub returns : goal.returns
returns c =
    command_none _ c.word_at-from.result c.word_at-from.ensures c.command_named-c.result c.command_named-c.ensures _ c.arguments_fit.ensures c.if-arguments_fit.false
