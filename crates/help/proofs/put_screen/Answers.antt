use Rattle.help.specs.Manual.{screen}
use borrow.Author.Rules.{rules}
use Rattle.help.proofs.put_screen.Goals as goal

pub returns : goal.returns
unfolding screen
returns c = search rules
