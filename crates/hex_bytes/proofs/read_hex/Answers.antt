-- A dash, a word that is not good, and one whose bytes are put.
use mathlib.Core.Path.{◌∙◌, sym}
use Rattle.hex_bytes.proofs.Pairs.{bytes_pairs, hex_dash, hex_bad, hex_good}
use Rattle.hex_bytes.proofs.read_hex.Goals as goal

pub returns-then-is_dash : goal.returns-then-is_dash
returns-then-is_dash c = hex_dash _ _ (sym c.is_dash.ensures ∙ c.if-is_dash.true)

pub returns-then-not-spells_bytes : goal.returns-then-not-spells_bytes
returns-then-not-spells_bytes c =
    hex_bad _ _ (sym c.is_dash.ensures ∙ c.if-is_dash.false) (sym c.spells_bytes.ensures ∙ c.if-not-spells_bytes.true)

pub put_pairs-requires : goal.put_pairs-requires
put_pairs-requires c = bytes_pairs _ _ (sym c.spells_bytes.ensures ∙ c.if-not-spells_bytes.false)

pub returns : goal.returns
returns c =
    hex_good _ _ _ (sym c.is_dash.ensures ∙ c.if-is_dash.false) (sym c.spells_bytes.ensures ∙ c.if-not-spells_bytes.false) c.put_pairs.ensures
