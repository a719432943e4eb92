-- No word, no block, a node that names one already, the total already, or the stake more.
use mathlib.Core.Path.{sym, ap, ◌∙◌, subst}
use Prim.Native.Nat.{ℕ, ◌+◌}
use native.Mathlib.Omega.{arith}
use lib.ListN.{get_or, set}
use Rattle.rulebook.specs.Votes.{store_vote}
use Rattle.record.specs.Layout.{ledger_of}
use Rattle.storing.proofs.Laws.{storing_weighs, storing_placed, storing_stake, stake_small}
use Rattle.parents.specs.Naming.{names_some}
use Rattle.looks.specs.Looks.{Bounds}
use Rattle.looks.proofs.Noted.{noted_outside, noted_other, noted_again, noted_full, noted_more}
use Rattle.looks.proofs.note_vote.Goals as goal

pub returns-then-looks-i : goal.returns-then-looks-i
returns-then-looks-i c =
    let p = c.requires.storing in
    λ x f. noted_outside (ledger_of c.args.rec.now) p.sound c.args.s.0 c.args.n.0 c.args.k x p.high (storing_placed p).node f c.args.looks.now c.requires.bounds c.if-looks-i.true

pub returns-then-not-names_block : goal.returns-then-not-names_block
returns-then-not-names_block c =
    let p = c.requires.storing in
    λ x f. noted_other (ledger_of c.args.rec.now) p.sound c.args.s.0 c.args.n.0 c.args.k x p.high (storing_placed p).node f c.args.looks.now c.requires.bounds (sym c.names_block.ensures ∙ c.if-not-names_block.true)

pub load_cell-requires : goal.load_cell-requires
load_cell-requires c = storing_placed c.requires.storing

pub returns-then-names_some : goal.returns-then-names_some
returns-then-names_some c =
    let p = c.requires.storing in
    λ x f. noted_again (ledger_of c.args.rec.now) p.sound c.args.s.0 c.args.n.0 c.args.k x p.high (storing_placed p).node f c.args.looks.now c.requires.bounds (ap names_some (sym c.load_cell.ensures) ∙ sym c.names_some.ensures ∙ c.if-names_some.true)

pub returns-then-all-look : goal.returns-then-all-look
returns-then-all-look c =
    let p = c.requires.storing in
    λ x f. noted_full (ledger_of c.args.rec.now) p.sound c.args.s.0 c.args.n.0 c.args.k x p.high (storing_placed p).node f c.args.looks.now c.requires.bounds (storing_weighs p).table (omega (arith, c.total-all.ensures, c.if-all-look.true))

pub stake-w-requires : goal.stake-w-requires
stake-w-requires c = storing_stake c.requires.storing

pub overflow_add-looks : goal.overflow_add-looks
overflow_add-looks c =
    let p = c.requires.storing in
    omega (arith, c.stake-w.ensures, c.if-all-look.false, c.total-all.ensures, stake_small p, (storing_weighs p).table.light)

pub returns : goal.returns
returns c =
    let p = c.requires.storing in
    let l = ledger_of c.args.rec.now in
    let s : ℕ = c.args.s.0 in
    λ x f. subst (λ (y : ℕ). Bounds (store_vote l s c.args.n.0 c.args.k x) (set c.args.looks.now s (get_or c.args.looks.now s 0 + y))) (sym c.stake-w.ensures)
    (noted_more l p.sound s c.args.n.0 c.args.k x p.high (storing_placed p).node f c.args.looks.now c.requires.bounds (omega (arith, c.if-looks-i.false)))
