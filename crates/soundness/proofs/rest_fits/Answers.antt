-- The loop has joined the tests of the places behind it.
use mathlib.Core.Bool.{◌||◌}
use mathlib.Core.Path.{◌∙◌, ap, sym}
use Prim.Native.Nat.{ℕ, ◌-◌}
use native.Mathlib.Omega.{arith}
use lib.Dec.{ltb}
use Rattle.rule_laws.proofs.ToolLaws.{all_none}
use Rattle.rulebook.specs.Ledger.{none, places}
use Rattle.rulebook.specs.Weights.{stake_in}
use Rattle.rulebook.specs.Tools.{all_to}
use Rattle.record.specs.Layout.{ledger_of}
use Rattle.soundness.proofs.Laws.{all_step, all_done}
use Rattle.soundness.proofs.rest_fits.Goals as goal

pub loop-n-init : goal.loop-n-init
loop-n-init c = (omega arith, sym (all_none _))

pub stake-w-requires : goal.stake-w-requires
stake-w-requires c = record { long = c.requires; node = omega (arith, c.places_in-places.ensures) }

pub loop-n-preserved : goal.loop-n-preserved
loop-n-preserved c =
    (omega arith, all_step c.loop-n.n _ _ _ c.loop-n.invariant.1 (ap (λ (x : ℕ). ltb c.loop-n.n c.count-m.result || none x) c.stake-w.ensures))

pub returns : goal.returns
returns c =
    let l = ledger_of c.args.rec.now in
    all_done c.loop-n.n (places l) _ _ c.loop-n.invariant.1 (omega (arith, c.places_in-places.ensures))
    ∙ ap (λ (x : ℕ). all_to (places l) (λ k. ltb k x || none (stake_in l.stakes k))) c.count-m.ensures
