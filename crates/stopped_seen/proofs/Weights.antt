-- Live weights by what outboxes told are those by what the rule book's lives make.
use mathlib.Core.Path.{◌≡◌, sym, ap, subst}
use mathlib.Core.Bool.{not, ◌&&◌, ◌||◌}
use mathlib.Core.List.{List}
use Prim.Native.Nat.{ℕ, ◌≤◌}
use native.Mathlib.Omega.{arith}
use lib.Dec.{T}
use lib.ListN.{length}
use Rattle.rulebook.specs.Weights.{weight}
use Rattle.rulebook.specs.Taking.{Arrival}
use Rattle.safety.specs.Slot.{Test, Ballot, notar, skip}
use Rattle.safety.specs.Ballots.{record_for}
use Rattle.safety.specs.Ring.{cast_by}
use Rattle.safety.proofs.Tests.{and_t, T_and}
use Rattle.safety.proofs.Weighing.{weight_mono}
use Rattle.stopped.specs.Stopped as book
use Rattle.seen.specs.Seen.{NodeSeen}
use Rattle.seen.specs.Ring.{Lives, told_ballot}
use Rattle.seen.proofs.Ring.{told_made}
use Rattle.stopped_seen.specs.Stopped.{live_notar, live_others, live_notar_or_skip, Leaning, outvoted, outright, with_skips}

-- Tests that agree at every live node weigh the same there.
agree : (ws : List ℕ) (live p q : Test) → ((n : ℕ) → T (live n) → p n ≡ q n) → weight ws (length ws) (λ n. live n && p n) ≡ weight ws (length ws) (λ n. live n && q n)
agree ws live p q e =
    omega (arith, half p q e, half q p (λ n h. sym (e n h)))
  where
    half : (p q : Test) → ((n : ℕ) → T (live n) → p n ≡ q n) → weight ws (length ws) (λ n. live n && p n) ≤ weight ws (length ws) (λ n. live n && q n)
    half p q e =
        weight_mono ws (length ws) (λ n. live n && p n) (λ n. live n && q n)
        (λ n t. let a = and_t (live n) (p n) t in T_and (live n) (q n) a.0 (subst T (e n a.0) a.1))

module _ (stakes : List ℕ) (genesis : ℕ → ℕ) (honest live : Test) (lives : Lives) (all : (n : ℕ) → T (live n) → NodeSeen stakes n (genesis n) (lives n)) (s b : ℕ) where
  abbrev fed : ℕ → List Arrival
  fed n = (lives n).came

  same : (n : ℕ) (v : Ballot) → T (live n) → told_ballot lives n s v ≡ cast_by stakes genesis honest fed n s v
  same n v h = told_made _ (lives n) (all n h).lived (record_for s v)

  pub notar_same : live_notar stakes live lives s b ≡ book.live_notar stakes genesis honest live fed s b
  notar_same = agree stakes live (λ n. told_ballot lives n s (notar b)) (λ n. cast_by stakes genesis honest fed n s (notar b)) (λ n h. same n (notar b) h)

  pub others_same : live_others stakes live lives s b ≡ book.live_others stakes genesis honest live fed s b
  others_same =
      agree stakes live (λ n. not (told_ballot lives n s (notar b))) (λ n. not (cast_by stakes genesis honest fed n s (notar b))) (λ n h. ap not (same n (notar b) h))

  pub both_same : live_notar_or_skip stakes live lives s b ≡ book.live_notar_or_skip stakes genesis honest live fed s b
  both_same =
      agree stakes live (λ n. told_ballot lives n s skip || told_ballot lives n s (notar b)) (λ n. cast_by stakes genesis honest fed n s skip || cast_by stakes genesis honest fed n s (notar b))
      (λ n h i. same n skip h i || same n (notar b) h i)

  pub leaning_down : Leaning stakes live lives s b → book.Leaning stakes genesis honest live fed s b
  leaning_down (outvoted y) = book.outvoted (omega (arith, others_same))
  leaning_down (outright y) = book.outright (omega (arith, notar_same))
  leaning_down (with_skips y z) = book.with_skips (omega (arith, notar_same)) (omega (arith, both_same))

  pub leaning_up : book.Leaning stakes genesis honest live fed s b → Leaning stakes live lives s b
  leaning_up (book.outvoted y) = outvoted (omega (arith, others_same))
  leaning_up (book.outright y) = outright (omega (arith, notar_same))
  leaning_up (book.with_skips y z) = with_skips (omega (arith, notar_same)) (omega (arith, both_same))
