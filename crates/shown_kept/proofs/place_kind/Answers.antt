-- The four single places, then kind 3.
use native.Mathlib.Omega.{arith}
use Rattle.kept_audit.proofs.Laws.{later_kind}
use Rattle.shown_kept.proofs.place_kind.Goals as goal

pub returns-in_default : goal.returns-in_default
returns-in_default c = later_kind _ (λ h. omega arith) (λ h. omega arith) (λ h. omega arith) (λ h. omega arith)
