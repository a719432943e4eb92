-- The length, then the sizes, else the fresh ledger's words.
use Rattle.std.specs.Prelude.{Result, Some, Err}
use borrow.Author.Rules.{rules}
use mathlib.Core.Path.{◌≡◌, sym, ◌∙◌}
use native.Mathlib.Omega.{arith}
use Rattle.rulebook.specs.declared.Refusal.{Refusal}
use Rattle.rulebook.specs.declared.Refusal.TheVariants as refusal
use Rattle.stakes.specs.declared.LentTable.{LentTable}
use Rattle.stakes.specs.Table.{made_of}
use Rattle.starts.proofs.Starts.{begun_short, begun_unfit, begun_odd, begun_done, begun_ready}
use Rattle.starts.proofs.begin.Goals as goal

pub returns-then-rec-record_words : goal.returns-then-rec-record_words
returns-then-rec-record_words c =
    let a = c.args in begun_short a.rec.now a.stakes.now a.own.0 a.odd a.genesis _ c.record_words.ensures c.if-rec-record_words.true

pub returns-in_err-table : goal.returns-in_err-table
returns-in_err-table c =
    let a = c.args in
    let r = c.in_err-table.field-0.0 in
    let q : c.from_residual.result ≡ Err r = search rules in
    let v : ◌≡◌ {A = Result LentTable Refusal} (Err r) (Err refusal.BadSizes) = rw c.in_err-table.ensures.ok_part at c.in_err-table.ensures.value in
    let b : r ≡ refusal.BadSizes = cc in
    rw (q, b)
    (begun_unfit a.rec.now a.stakes.now a.own.0 a.odd a.genesis _ c.record_words.ensures c.if-rec-record_words.false (sym c.in_err-table.ensures.ok_part ∙ c.make_table.ensures))

pub returns-then-odd-genesis : goal.returns-then-odd-genesis
returns-then-odd-genesis c =
    let a = c.args in
    let e : Some c.in_ok-table.table ≡ made_of a.stakes.now = sym c.in_ok-table.ensures.ok_part ∙ c.make_table.ensures in
    begun_odd a.rec.now a.stakes.now a.own.0 a.odd a.genesis _ c.record_words.ensures c.if-rec-record_words.false _ e c.if-odd-genesis.true

pub set_up-requires : goal.set_up-requires
set_up-requires c =
    let a = c.args in
    let e : Some c.in_ok-table.table ≡ made_of a.stakes.now = sym c.in_ok-table.ensures.ok_part ∙ c.make_table.ensures in
    begun_ready a.rec.now a.stakes.now _ e (c.if-rec-record_words.false ∙ c.record_words.ensures)

pub returns : goal.returns
returns c =
    let a = c.args in
    let e : Some c.in_ok-table.table ≡ made_of a.stakes.now = sym c.in_ok-table.ensures.ok_part ∙ c.make_table.ensures in
    begun_done a.rec.now a.stakes.now a.own.0 a.odd a.genesis _ c.record_words.ensures c.if-rec-record_words.false _ e _ c.if-odd-genesis.false (λ n. (c.type_inv.rec n).fits)
    (omega (arith, c.set_up.auto.rec, c.if-rec-record_words.false, c.record_words.ensures)) c.set_up.ensures
