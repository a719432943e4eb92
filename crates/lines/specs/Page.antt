-- Text put on a page: a lent buffer and the place in it.
use Rattle.std.specs.Prelude.{◌≡◌, List, ℕ}
use Rattle.lines.specs.declared.Page.{Page}
use Rattle.lines.specs.Put.{Put}

-- A text is put on a page from its place on, in the buffer that was lent.
pub record Wrote (before : Page) (text : List ℕ) (after : Page) : Type 0 where
  pub lent : after.bytes.ghost_name ≡ before.bytes.ghost_name
  pub put : Put before.bytes.now before.at text after.bytes.now after.at
