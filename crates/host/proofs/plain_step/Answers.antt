-- The operation's contract, in the paper's numbers.
use Rattle.calls.proofs.Life.{step_met}
use Rattle.host.proofs.plain_step.Goals as goal

pub returns : goal.returns
returns c = step_met _ _ _ _ _ _ c.step.ensures
