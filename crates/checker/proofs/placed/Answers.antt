-- Up to 64 nodes the lent stakes stand at the front of the stake table, above that they stay.
use Rattle.std.specs.Prelude.{Some, Result, Err}
use borrow.Author.Rules.{rules}
use mathlib.Core.List.{List}
use mathlib.Core.Path.{◌≡◌, refl, sym, ap, ◌∙◌}
use Prim.Native.Nat.{ℕ}
use native.Mathlib.Omega.{arith}
use lib.ListN.{take}
use Rattle.rulebook.specs.declared.Refusal.{Refusal}
use Rattle.rulebook.specs.declared.Refusal.TheVariants as refusal
use Rattle.stakes.specs.declared.LentTable.{LentTable}
use Rattle.stakes.specs.Table.{made_of}
use Rattle.stakes.proofs.Laws.{made_none, made_some, made_fit}
use Rattle.stakes.proofs.Filling.{filled_front}
use Rattle.checker.proofs.placed.Goals as goal

pub returns-in_err-lent-clause-err : goal.returns-in_err-lent-clause-err
returns-in_err-lent-clause-err c =
    let r = c.in_err-lent.field-0.0 in
    let q : c.from_residual.result ≡ Err r = search rules in
    let v : ◌≡◌ {A = Result LentTable Refusal} (Err r) (Err refusal.BadSizes) = rw c.in_err-lent.ensures.ok_part at c.in_err-lent.ensures.value in
    rw q (record { fits = made_none c.args.stakes.now (sym c.in_err-lent.ensures.ok_part ∙ c.make_table.ensures); number = cc })

pub returns-then-lent-gt-TABLE_NODES-clause-ok : goal.returns-then-lent-gt-TABLE_NODES-clause-ok
returns-then-lent-gt-TABLE_NODES-clause-ok c =
    let ws = c.args.stakes.now in
    let e : Some c.in_ok-lent.lent ≡ made_of ws = sym c.in_ok-lent.ensures.ok_part ∙ c.make_table.ensures in
    record { fits = (made_some ws _ e).0; same = refl; table = made_fit ws _ e }

pub fill_table-requires : goal.fill_table-requires
fill_table-requires c =
    let ws = c.args.stakes.now in
    let e : Some c.in_ok-lent.lent ≡ made_of ws = sym c.in_ok-lent.ensures.ok_part ∙ c.make_table.ensures in
    record { room = omega arith; few = omega (arith, (made_fit ws _ e).count) }

pub returns-clause-ok : goal.returns-clause-ok
returns-clause-ok c =
    let ws = c.args.stakes.now in
    let t = c.in_ok-lent.lent in
    let e : Some t ≡ made_of ws = sym c.in_ok-lent.ensures.ok_part ∙ c.make_table.ensures in
    let f = made_fit ws t e in
    record {
      fits = (made_some ws t e).0;
      same = ap (λ (xs : List ℕ). take t.count xs) c.fill_table.ensures ∙ filled_front _ ws t.count f.count;
      table = f;
    }
