-- One store arms the window, and nothing else changes.
use mathlib.Core.Path.{refl}
use native.Mathlib.Omega.{arith}
use Rattle.rulebook.specs.Weights.{window_of}
use Rattle.record.proofs.Places.{words_in_lem}
use Rattle.record.proofs.Replacing.{armed_put}
use Rattle.record.proofs.arm.Goals as goal

pub bounds-rec-i : goal.bounds-rec-i
bounds-rec-i c = omega (arith, words_in_lem c.args.rec.now c.requires.long)

pub returns : goal.returns
unfolding window_of
returns c = armed_put c.args.rec.now c.args.s.0 _ c.requires refl
