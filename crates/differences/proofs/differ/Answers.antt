-- Each way out: 17 of either side, other tables, the votes.
use Rattle.std.specs.Prelude.{◌≡◌, Ok}
use Rattle.std.proofs.Common.{rules}
use mathlib.Core.Path.{◌∙◌, sym}
use Rattle.differences.proofs.Both.{both_sounds}
use Rattle.differences.proofs.ListLaws.{side_bad, tables_differ, votes_differ}
use Rattle.differences.proofs.differ.Goals as goal

pub returns-in_err-map_err : goal.returns-in_err-map_err
returns-in_err-map_err c =
    let a = c.args in side_bad a.one.now a.two.now a.list.now c.both_sound.ensures (search rules) (λ x e. search rules)

pub same_tables-requires : goal.same_tables-requires
same_tables-requires c = let e : c.both_sound.result ≡ Ok tt = search rules in both_sounds _ _ (sym c.both_sound.ensures ∙ e)

pub returns-then-not-same_tables : goal.returns-then-not-same_tables
returns-then-not-same_tables c =
    let a = c.args in
    let e : c.both_sound.result ≡ Ok tt = search rules in
    let k = both_sounds _ _ (sym c.both_sound.ensures ∙ e) in
    tables_differ a.one.now a.two.now a.list.now k.first k.second (sym c.same_tables.ensures ∙ c.if-not-same_tables.true) c.list_tables.ensures

pub list_votes-requires : goal.list_votes-requires
list_votes-requires c =
    let e : c.both_sound.result ≡ Ok tt = search rules in
    record { sounds = both_sounds _ _ (sym c.both_sound.ensures ∙ e); same = sym c.same_tables.ensures ∙ c.if-not-same_tables.false }

pub returns : goal.returns
returns c =
    let a = c.args in
    let e : c.both_sound.result ≡ Ok tt = search rules in
    let k = both_sounds _ _ (sym c.both_sound.ensures ∙ e) in
    votes_differ a.one.now a.two.now a.list.now k.first k.second (sym c.same_tables.ensures ∙ c.if-not-same_tables.false) c.list_votes.ensures
