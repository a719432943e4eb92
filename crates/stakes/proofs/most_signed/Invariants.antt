-- A word has at most 64 signers.
use Rattle.std.proofs.Common.{◌*◌, ◌≤◌, length}
use Rattle.stakes.proofs.most_signed.Given as goal

abbrev pub invariant-loop-x : goal.invariant-loop-x
invariant-loop-x l = (l.words ≤ 32) × (l.signers ≤ 64 * length l.yielded)
