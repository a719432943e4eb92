-- Something is missing to 40 exactly where it is not reached.
use mathlib.Core.Bool.{not}
use mathlib.Core.Path.{ap, sym}
use native.Mathlib.Omega.{arith}
use Rattle.rule_laws.proofs.WeightLaws.{reaches_found}
use Rattle.candidates.proofs.leads_alone.Goals as goal

pub overflow_sub-total : goal.overflow_sub-total
overflow_sub-total c = omega (arith, c.requires.notar)

pub returns : goal.returns
returns c = ap not (sym (reaches_found _ _ _ _ c.missing-rest.ensures))
