-- Whether two lent records are records.
use Rattle.std.specs.Prelude.{List, ℕ, ⊤, Result, Ok, Err}
use Rattle.rulebook.specs.Tools.{whenever}
use Rattle.soundness.specs.Sound.{sound_words}
use Rattle.difference_lines.specs.declared.Side.{Side}
use Rattle.difference_lines.specs.declared.Side.TheVariants as side

-- "A bad record is 17 with the side named, the first side if both are bad": the side, where there is one.
unfoldable pub both_sound : List ℕ → List ℕ → Result ⊤ Side
both_sound one two =
    whenever (sound_words one) (λ _. whenever (sound_words two) (λ _. Ok tt) (Err side.Second)) (Err side.First)
