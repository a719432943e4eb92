-- Four places of at most one each.
use Prim.Native.Nat.{ℕ, ◌+◌}
use native.Mathlib.Omega.{arith}
use Rattle.record.specs.Layout.{ledger_of}
use Rattle.shown_heavy.specs.Heavy.{light_names}
use Rattle.shown_heavy.proofs.Laws.{light_one}
use Rattle.shown_heavy.proofs.light_names.Goals as goal

pub overflow_add-result : goal.overflow_add-result
overflow_add-result c =
    let a = c.args in
    let one : (x y : ℕ) → _ = light_one (ledger_of a.rec.now) a.s.0 a.n.0 in
    omega (arith, light_one (ledger_of a.rec.now) a.s.0 a.n.0 a.c.notar a.c.fallback2, light_one (ledger_of a.rec.now) a.s.0 a.n.0 a.c.notar a.c.fallback3, c.light_name-third.ensures, c.light_name-fourth.ensures)

pub overflow_add-result-2 : goal.overflow_add-result-2
overflow_add-result-2 c =
    let a = c.args in
    let one : (x y : ℕ) → _ = light_one (ledger_of a.rec.now) a.s.0 a.n.0 in
    omega (arith, light_one (ledger_of a.rec.now) a.s.0 a.n.0 a.c.notar a.c.fallback1, light_one (ledger_of a.rec.now) a.s.0 a.n.0 a.c.notar a.c.fallback2, light_one (ledger_of a.rec.now) a.s.0 a.n.0 a.c.notar a.c.fallback3, c.light_name-second.ensures, c.light_name-third.ensures, c.light_name-fourth.ensures)

pub overflow_add-result-3 : goal.overflow_add-result-3
overflow_add-result-3 c =
    let a = c.args in
    let one : (x y : ℕ) → _ = light_one (ledger_of a.rec.now) a.s.0 a.n.0 in
    omega (arith, light_one (ledger_of a.rec.now) a.s.0 a.n.0 0 a.c.notar, light_one (ledger_of a.rec.now) a.s.0 a.n.0 a.c.notar a.c.fallback1, light_one (ledger_of a.rec.now) a.s.0 a.n.0 a.c.notar a.c.fallback2, light_one (ledger_of a.rec.now) a.s.0 a.n.0 a.c.notar a.c.fallback3, c.light_name-first.ensures, c.light_name-second.ensures, c.light_name-third.ensures, c.light_name-fourth.ensures)

pub returns : goal.returns
unfolding light_names
returns c =
    (λ i. c.light_name-first.ensures i + (c.light_name-second.ensures i + (c.light_name-third.ensures i + c.light_name-fourth.ensures i)))
