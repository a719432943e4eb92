-- Word by word: the total, or what was counted.
use Prim.Native.Nat.{ℕ, ◌+◌, ◌≤◌}
use native.Mathlib.Omega.{arith}
use Rattle.record.specs.Layout.{ledger_of}
use Rattle.looks.specs.Looks.{named_beside}
use Rattle.looks.proofs.Beside.{beside_total, from_none, from_more, from_all}
use Rattle.looks.proofs.first_looks.Goals as goal

pub overflow_add-t : goal.overflow_add-t
overflow_add-t c = omega (arith, c.total-all.ensures, c.requires.1.light)

pub returns : goal.returns
returns c =
    let l = ledger_of c.args.rec.now in
    let all : (s : ℕ) → named_beside l s ≤ c.total-all.result.0 + 1 = λ s. omega (arith, beside_total l s c.requires.1, c.total-all.ensures) in
    from_all l _ (from_more l 0 _ _ (all 0) (from_more l 1 _ _ (all 1) (from_more l 2 _ _ (all 2) (from_more l 3 _ _ (all 3) (from_more l 4 _ _ c.look_before-a.ensures (from_more l 5 _ _ (all 5) (from_more l 6 _ _ (all 6) (from_more l 7 _ _ (all 7) (from_more l 8 _ _ c.look_before-b.ensures (from_more l 9 _ _ (all 9) (from_more l 10 _ _ (all 10) (from_more l 11 _ _ (all 11) (from_more l 12 _ _ c.look_before-c.ensures (from_more l 13 _ _ (all 13) (from_more l 14 _ _ (all 14) (from_more l 15 _ _ (all 15) (from_more l 16 _ _ (all 16) (from_none l 17))))))))))))))))))
