-- The places in turn are the slot's blocks.
use mathlib.Core.Path.{◌≡◌, refl, subst}
use mathlib.Core.List.{List}
use Rattle.std.proofs.Common.{rules, get_or}
use borrow.Author.Tests.{tests}
use Rattle.std.specs.List.{position}
use Rattle.std.proofs.lemmas.Iterator.{YieldsList-from_range, YieldsList-from_map}
use Rattle.std.proofs.lemmas.Iterator.Consumers.{YieldsList-at}
use Rattle.std.proofs.lemmas.Iterator.Search.{position_from_yields_List}
use Rattle.rulebook.specs.declared.Block.{Block}
use Rattle.rulebook.specs.Ledger.{blocks_at, is_free, no_block}
use Rattle.record.specs.Layout.{ledger_of}
use Rattle.record.proofs.Reading.{ledger_shaped}
use Rattle.record.proofs.BlockPlaces.{places_listed}
use Rattle.record.proofs.free_place.Goals as goal

pub returns : goal.returns
returns c =
    let ks = blocks_at (ledger_of c.args.rec.now) c.args.s.0 in
    subst (λ (js : List Block). c.position.result ≡ position is_free js) (places_listed ks 4 ((ledger_shaped c.args.rec.now).blocks c.args.s.0 c.requires.slot))
    (position_from_yields_List is_free _ _ c.position.result c.position.ensures.ran
    (YieldsList-from_map _ (λ i. get_or ks i no_block) (YieldsList-at c.map.ensures.source (YieldsList-from_range 0 4 4 refl refl)) c.map.ensures.closure (λ x r q k. search rules))
    (λ x b q k. search (rules, tests)))
