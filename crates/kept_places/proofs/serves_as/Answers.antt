-- Two kinds are served by more than their own places.
use mathlib.Core.Path.{◌∙◌}
use Rattle.kept_places.proofs.Laws.{notar_serves, fallback_serves, alone_serves}
use Rattle.kept_places.proofs.serves_as.Goals as goal

pub returns-in-Notar : goal.returns-in-Notar
returns-in-Notar c = rw c.in-Notar.is (notar_serves c.args.n)

pub returns-in-NotarFallback : goal.returns-in-NotarFallback
returns-in-NotarFallback c = rw c.in-NotarFallback.is (fallback_serves c.args.n)

pub returns-in_default : goal.returns-in_default
returns-in_default c =
    c.is_place_of.ensures ∙ alone_serves c.args.n c.args.kind c.in_default.not-Notar c.in_default.not-NotarFallback
