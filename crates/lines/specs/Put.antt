-- Text put into a lent buffer.
use Rattle.std.specs.Prelude.{◌≡◌, List, ℕ, ◌+◌, min, max, length}
use Rattle.std.proofs.lemmas.List.Edits.{sets}

-- The place after k bytes from a place on, no further than the buffer reaches.
unfoldable pub reach : ℕ → ℕ → ℕ → ℕ
reach room at k = max at (min (at + k) room)

-- The bytes of a text stand in the buffer from a place on, as far as it reaches, every other byte as it was; and the place after them,
-- which is the buffer's end where it was full.
pub record Put (buffer : List ℕ) (at : ℕ) (text after : List ℕ) (next : ℕ) : Type 0 where
  pub bytes : after ≡ sets buffer at text
  pub place : next ≡ reach (length buffer) at (length text)
