-- A slot in which the live votes are level is decided nowhere, over seen lives.
use native.Mathlib.Omega.{arith}
use lib.Dec.{T}
use Rattle.rulebook.specs.declared.CertificateKind.TheVariants as certificate
use Rattle.rulebook.specs.Ledger.{cell_at}
use Rattle.rulebook.specs.Pool.{kept_as, held}
use Rattle.safety.specs.Ballots.{has}
use Rattle.stopped.proofs.Silent as book
use Rattle.seen.proofs.Ring.{book_ring}
use Rattle.stopped_seen.specs.Silent.{LevelHangs}
use Rattle.stopped_seen.proofs.Weights.{notar_same, others_same, both_same}
use Rattle.stopped_seen.proofs.Stopped.{seen_life, to, back}

pub level_hangs : LevelHangs
level_hangs stakes genesis honest live lives ring sub s b silent level n a =
    let all = seen_life stakes genesis honest live lives ring sub in
    let x = book.level_hangs stakes genesis honest live (λ n. (lives n).came) (book_ring stakes genesis honest lives ring) sub s b
    (record {
      alone = λ n m v a t. silent.alone n m v a (back stakes genesis honest live lives ring sub (λ l. T (has (cell_at l s m) v)) n a t);
      bare = λ n c a t. silent.bare n c a (back stakes genesis honest live lives ring sub (λ l. T (kept_as l certificate.NotarFallback s c)) n a t);
      bare_skip = λ n a t. silent.bare_skip n a (back stakes genesis honest live lives ring sub (λ l. T (kept_as l certificate.Skip s 0)) n a t);
    })
    (record {
      against = omega (arith, level.against, others_same stakes genesis honest live lives all s b);
      behind = omega (arith, level.behind, notar_same stakes genesis honest live lives all s b);
      short = λ y. omega (arith, level.short (omega (arith, y, notar_same stakes genesis honest live lives all s b)), both_same stakes genesis honest live lives all s b);
    }) n a in
    record {
      no_block = λ c some t. x.no_block c some (to stakes genesis honest live lives ring sub (λ l. T (held l certificate.NotarFallback s c)) n a t);
      no_skip = λ t. x.no_skip (to stakes genesis honest live lives ring sub (λ l. T (held l certificate.Skip s 0)) n a t);
    }
