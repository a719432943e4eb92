-- What a slot's card shows of the stake of the nodes that count.
use Rattle.std.specs.Prelude.{Bool, true, false, not, ◌&&◌, ℕ, eqb}
use Rattle.rulebook.specs.declared.Tally.{Tally}
use Rattle.rulebook.specs.declared.Who.{Who}
use Rattle.rulebook.specs.declared.Who.TheVariants as who
use Rattle.rulebook.specs.Tools.{part}
use Rattle.rulebook.specs.Ledger.{none}

-- Of a block its weight where it leads, else nothing.
unfoldable pub lead_weight : Tally → ℕ → ℕ
lead_weight t b = part (eqb b t.leader) t.weight.0

-- What the card shows: never more than there is. Of notar and fallback votes together it shows the notar votes.
unfoldable pub on_card : Tally → Who → ℕ
on_card t (who.Notar b) = lead_weight t b
on_card t (who.NotarOrFallback b) = lead_weight t b
on_card t who.Skip = t.skip.0
on_card t who.SkipOrFallback = t.skipcert.0
on_card t who.Final = t.finals.0
on_card t who.AnyNotar = 0

-- It shows all there is.
unfoldable pub is_on_card : Tally → Who → Bool
is_on_card t (who.Notar b) = not (none b) && eqb b t.leader
is_on_card t (who.NotarOrFallback b) = false
is_on_card t who.Skip = true
is_on_card t who.SkipOrFallback = true
is_on_card t who.Final = true
is_on_card t who.AnyNotar = false

-- It shows that the block asked for does not lead.
unfoldable pub is_behind : Tally → Who → Bool
is_behind t (who.Notar b) = not (none b) && not (eqb b t.leader)
is_behind t (who.NotarOrFallback b) = false
is_behind t who.Skip = false
is_behind t who.SkipOrFallback = false
is_behind t who.Final = false
is_behind t who.AnyNotar = false
