-- The loop over the votes: what the first leave stands in front of what the others will leave, and what is kept in mind holds of it.
use mathlib.Core.Path.{◌≡◌}
use lib.ListN.{length}
use Rattle.std.specs.Iterator.Adapters.{enumerate_source, enumerate_count}
use Rattle.std.specs.Slice.Iter.{chunks_exact_rest, chunks_exact_size}
use Rattle.record.specs.Layout.{ledger_of}
use Rattle.looks.specs.Looks.{Bounds}
use Rattle.trays.proofs.Cuts.{Cut}
use Rattle.trays.proofs.AllVotes.{Going}
use Rattle.trays.proofs.serve_votes.Given as goal

abbrev pub invariant-loop-i : goal.invariant-loop-i
invariant-loop-i l =
    Cut l.votes (chunks_exact_rest (enumerate_source l.i-iterator)) (chunks_exact_size (enumerate_source l.i-iterator)) (enumerate_count l.i-iterator)
    × (length l.looks ≡ 17) × Bounds (ledger_of l.rec) l.looks × Going l.initial.rec l.initial.outbox l.votes l.initial.answers l.rec l.outbox l.answers l.made (enumerate_count l.i-iterator)
