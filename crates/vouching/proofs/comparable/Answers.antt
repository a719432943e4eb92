-- 17 of either side, other tables, or none of it.
use Rattle.std.specs.Prelude.{◌≡◌, Ok}
use Rattle.std.proofs.Common.{rules}
use mathlib.Core.Path.{◌∙◌, sym}
use Rattle.differences.proofs.Both.{both_sounds}
use Rattle.vouching.proofs.Laws.{comparable_side, comparable_not, comparable_yes}
use Rattle.vouching.proofs.comparable.Goals as goal

pub returns-in_err-map_err : goal.returns-in_err-map_err
returns-in_err-map_err c =
    let a = c.args in comparable_side a.one.now a.two.now c.both_sound.ensures (search rules) (λ x e. search rules)

pub same_tables-requires : goal.same_tables-requires
same_tables-requires c = let e : c.both_sound.result ≡ Ok tt = search rules in both_sounds _ _ (sym c.both_sound.ensures ∙ e)

pub returns-then-not-same_tables : goal.returns-then-not-same_tables
returns-then-not-same_tables c =
    let e : c.both_sound.result ≡ Ok tt = search rules in
    comparable_not _ _ (both_sounds _ _ (sym c.both_sound.ensures ∙ e)) (sym c.same_tables.ensures ∙ c.if-not-same_tables.true)

pub returns : goal.returns
returns c =
    let e : c.both_sound.result ≡ Ok tt = search rules in
    comparable_yes _ _ (both_sounds _ _ (sym c.both_sound.ensures ∙ e)) (sym c.same_tables.ensures ∙ c.if-not-same_tables.false)
