-- The window's word in the head.
use mathlib.Core.Path.{sym}
use native.Mathlib.Omega.{arith}
use Rattle.record.specs.Layout.{places_in}
use Rattle.record.proofs.Places.{words_in_lem}
use Rattle.record.proofs.Reading.{armed_word}
use Rattle.record.proofs.armed_word.Goals as goal

pub bounds-rec-i : goal.bounds-rec-i
bounds-rec-i c = omega (arith, words_in_lem c.args.rec.now c.requires.0, c.requires.1)

pub returns : goal.returns
returns c = sym (armed_word (places_in c.args.rec.now) c.args.rec.now c.args.w c.requires.1)
