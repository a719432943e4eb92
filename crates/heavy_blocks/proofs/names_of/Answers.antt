-- Each element is the name of the counter at its place.
use borrow.Author.Rules.{rules}
use Rattle.counters.specs.Counting.{empty}
use Rattle.heavy_blocks.proofs.names_of.Goals as goal

pub returns : goal.returns
returns c =
    let items = c.map.ensures.items in
    record { long = items.long; each = λ i h. let k = items.at i empty 0 h in let q = k.2 in search (rules, q) }
