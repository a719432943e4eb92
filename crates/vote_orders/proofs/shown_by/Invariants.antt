-- The places passed are in order, and no block leads by what they have.
use mathlib.Core.List.{List}
use Prim.Native.Nat.{ℕ}
use lib.ListN.{get_or}
use lib.Bits.{bit_and}
use Rattle.record.specs.Layout.{ledger_of}
use Rattle.vote_orders.proofs.Listed.{Listed}
use Rattle.vote_orders.proofs.shown_by.Given as goal

-- The node that a word of the list ends in.
abbrev pub node : List ℕ → ℕ → ℕ
node list j = bit_and (get_or list j 0) 2047

abbrev pub invariant-loop-word : goal.invariant-loop-word
invariant-loop-word l = Listed (ledger_of l.rec) l.s.0 l.b l.v.0 l.initial.rest.0 (node l.list) l.word-index l.block l.from l.run.0 l.rest.0
