-- Where words stand in a line: stretches of spaces and of anything else.
use Rattle.std.specs.Prelude.{◌≡◌, Bool, not, List, ℕ, ◌+◌, ◌≤◌, min, eqb, length, drop}
use Rattle.std.specs.List.{prefix_len}
use Rattle.script.specs.declared.Word.{Word}

abbrev pub is_space : ℕ → Bool
is_space b = eqb b 32

abbrev pub is_ink : ℕ → Bool
is_ink b = not (eqb b 32)

-- The place r after the stretch of bytes that pass a test from a place on, and that it lies within the line.
pub record Spanned (p : ℕ → Bool) (line : List ℕ) (at r : ℕ) : Type 0 where
  pub exact : r ≡ at + prefix_len p (drop at line)
  pub low : at ≤ r
  pub high : r ≤ length line

-- The next word at or after a place: past the spaces, up to the next space.
pub record WordIn (line : List ℕ) (at : ℕ) (w : Word) : Type 0 where
  pub from : Spanned is_space line (min at (length line)) w.from
  pub to : Spanned is_ink line w.from w.to
