-- Each kind has its places.
use Rattle.kept_places.proofs.Laws.{fast_place, notar_place, skip_place, final_place, fallback_place, other_place}
use Rattle.kept_places.proofs.is_place_of.Goals as goal

pub returns-in-FastFinal : goal.returns-in-FastFinal
returns-in-FastFinal c = rw c.in-FastFinal.is (fast_place c.args.n)

pub returns-in-Notar : goal.returns-in-Notar
returns-in-Notar c = rw c.in-Notar.is (notar_place c.args.n)

pub returns-in-Skip : goal.returns-in-Skip
returns-in-Skip c = rw c.in-Skip.is (skip_place c.args.n)

pub returns-in-Final : goal.returns-in-Final
returns-in-Final c = rw c.in-Final.is (final_place c.args.n)

pub returns-in-NotarFallback : goal.returns-in-NotarFallback
returns-in-NotarFallback c = rw c.in-NotarFallback.is (fallback_place c.args.n)

pub returns-in-Other : goal.returns-in-Other
returns-in-Other c = rw c.in-Other.is (other_place c.args.n)
