-- The contract of the call is the life's next step.
use Rattle.inputs.specs.Inputs.{vote_input}
use Rattle.calls.specs.Operation.{one_input}
use Rattle.calls.proofs.Life.{met_goes_on}
use Rattle.host.proofs.lives_on.Goals as goal

pub returns : goal.returns
returns c =
    let a = c.args in
    met_goes_on (one_input (vote_input a.kind a.node a.slot a.block)) _ _ _ _ _ _ c.qr_vote.ensures
