-- One byte, and that a dash.
use native.Mathlib.Omega.{arith}
use Rattle.hex_bytes.proofs.Pairs.{dash_is, dash_other}
use Rattle.hex_bytes.proofs.is_dash.Goals as goal

pub returns-in-45 : goal.returns-in-45
returns-in-45 c = dash_is _ (omega arith) (omega arith)

pub returns-in_default : goal.returns-in_default
returns-in_default c = dash_other _ (λ h e. omega arith)

pub returns-in_default-2 : goal.returns-in_default-2
returns-in_default-2 c = dash_other _ (λ h e. omega arith)

pub returns-in_default-3 : goal.returns-in_default-3
returns-in_default-3 c = dash_other _ (λ h e. omega arith)
