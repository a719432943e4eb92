-- A slot's places for blocks: what may stand behind others.
use Rattle.std.specs.Prelude.{Bool, List, ℕ, get_or}
use Rattle.rulebook.specs.declared.Block.{Block}
use Rattle.rulebook.specs.Tools.{all_to}
use Rattle.rulebook.specs.Ledger.{no_block}
use Rattle.rulebook.specs.WellFormed.{in_order}

-- The number is in order behind each of the first n places.
abbrev pub behind : List Block → ℕ → ℕ → Bool
behind ks n number = all_to n (λ j. in_order (get_or ks j no_block).number number)
