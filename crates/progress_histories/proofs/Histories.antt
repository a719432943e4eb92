-- The histories, computed.
use Rattle.std.specs.Prelude.{Ok}
use mathlib.Core.Path.{◌≡◌, refl, ◌∙◌}
use mathlib.Core.Bool.{Bool, not}
use Prim.Native.Nat.{ℕ, ◌≤◌}
use native.Mathlib.Omega.{arith}
use lib.Dec.{T}
use Rattle.rulebook.specs.Ledger.{Ledger, cell_at, is_armed}
use Rattle.rulebook.specs.Inputs.{watch_verdict}
use Rattle.safety.specs.Slot.{Ballot, notar}
use Rattle.safety.specs.Ballots.{has}
use Rattle.safety.specs.Ring.{cast_by}
use Rattle.safety.specs.Watchers.{watched, FedGenuine}
use Rattle.safety.specs.Examples.{mail_test, packets_test}
use Rattle.safety.proofs.Tests.{T_true, true_t, and_t}
use Rattle.safety.proofs.Examples.{watched_ok}
use Rattle.safety.proofs.Watchers.{watched_mail_is_enough}
use Rattle.progress.specs.Rest.{is_final_vote}
use Rattle.progress.proofs.Watching.{watcher_woken_armed}
use Rattle.progress_histories.specs.Tests.{honest_in, fed_in, end_in, ends, tolds, end_of, told_of, up_to, within, meets_but, hangs_but, numbers_in, tests, the_fifth, the_certificates, the_acceptance, the_votes, the_initials, the_blocks}
use Rattle.progress_histories.specs.Histories.{HangsWithout, GoesOn, well, nothing_fed, no_mail, no_timeouts, no_block, with_block, fifth_block, answers_eight, fifth_hangs, many_parents, parents_hang, at_one_fifth, forged_certificates, going_ring, beside_going, watcher_has, WatchesGoing, tells_so, going_told}
use Rattle.progress_histories.proofs.Cells.{within_has}
use Rattle.progress_histories.proofs.Tests.{within_table, told_is, at_end, each, slot_of, own, hangs, goes_on_lem}

-- ---- each premise left out

at_one_fifth_computed : T (hangs_but the_fifth at_one_fifth 1 (ends at_one_fifth) (tolds at_one_fifth))
unfolding tests
at_one_fifth_computed = tt

pub at_one_fifth_lem : HangsWithout the_fifth at_one_fifth 1
at_one_fifth_lem = hangs at_one_fifth the_fifth 1 at_one_fifth_computed

forged_computed : T (hangs_but the_certificates forged_certificates 1 (ends forged_certificates) (tolds forged_certificates))
unfolding tests
forged_computed = tt

pub forged_certificates_lem : HangsWithout the_certificates forged_certificates 1
forged_certificates_lem = hangs forged_certificates the_certificates 1 forged_computed

nothing_computed : T (hangs_but the_acceptance nothing_fed 1 (ends nothing_fed) (tolds nothing_fed))
unfolding tests
nothing_computed = tt

pub nothing_fed_lem : HangsWithout the_acceptance nothing_fed 1
nothing_fed_lem = hangs nothing_fed the_acceptance 1 nothing_computed

no_mail_computed : T (hangs_but the_votes no_mail 1 (ends no_mail) (tolds no_mail))
unfolding tests
no_mail_computed = tt

pub no_mail_lem : HangsWithout the_votes no_mail 1
no_mail_lem = hangs no_mail the_votes 1 no_mail_computed

no_timeouts_computed : T (hangs_but the_initials no_timeouts 1 (ends no_timeouts) (tolds no_timeouts))
unfolding tests
no_timeouts_computed = tt

pub no_timeouts_lem : HangsWithout the_initials no_timeouts 1
no_timeouts_lem = hangs no_timeouts the_initials 1 no_timeouts_computed

no_block_computed : T (hangs_but the_blocks no_block 2 (ends no_block) (tolds no_block))
unfolding tests
no_block_computed = tt

pub no_block_lem : HangsWithout the_blocks no_block 2
no_block_lem = hangs no_block the_blocks 2 no_block_computed

fifth_computed : T (fifth_hangs (ends fifth_block) (tolds fifth_block))
unfolding tests answers_eight fifth_hangs
fifth_computed = tt

pub fifth_block_lem : HangsWithout the_blocks fifth_block 2
unfolding fifth_hangs
fifth_block_lem = hangs fifth_block the_blocks 2 (and_t (answers_eight (ends fifth_block)) (hangs_but the_blocks fifth_block 2 (ends fifth_block) (tolds fifth_block)) fifth_computed).1

parents_computed : T (parents_hang (ends many_parents) (tolds many_parents))
unfolding tests parents_hang
parents_computed = tt

pub many_parents_lem : HangsWithout the_blocks many_parents 2
unfolding parents_hang
many_parents_lem = hangs many_parents the_blocks 2 (and_t (numbers_in many_parents 2 (ends many_parents)) (hangs_but the_blocks many_parents 2 (ends many_parents) (tolds many_parents)) parents_computed).1

-- ---- all premises met

well_computed : T (meets_but 0 well 1 (ends well) (tolds well))
unfolding tests
well_computed = tt

pub well_goes_on : GoesOn well 1
well_goes_on = goes_on_lem well 1 (omega arith) well_computed

with_computed : T (meets_but 0 with_block 2 (ends with_block) (tolds with_block))
unfolding tests
with_computed = tt

pub with_block_lem : GoesOn with_block 2
with_block_lem = goes_on_lem with_block 2 (omega arith) with_computed

going_computed : T (going_told (ends going_ring) (tolds going_ring))
unfolding tests tells_so going_told
going_computed = tt

pub going_ring_lem : GoesOn going_ring 4
unfolding going_told
going_ring_lem = goes_on_lem going_ring 4 (omega arith) (and_t (tells_so (tolds going_ring)) (meets_but 0 going_ring 4 (ends going_ring) (tolds going_ring)) going_computed).1

-- ---- a watcher beside it

abbrev cast_going : ℕ → ℕ → Ballot → Bool
cast_going = cast_by going_ring.stakes going_ring.genesis (honest_in going_ring) (fed_in going_ring)

abbrev watched_going : Ledger
watched_going = watched going_ring.stakes 1 beside_going

beside_mail : T (mail_test (told_of (tolds going_ring)) (honest_in going_ring) 4 beside_going)
unfolding tests
beside_mail = tt

beside_packets : T (packets_test (told_of (tolds going_ring)) (honest_in going_ring) 4 3 beside_going)
unfolding tests
beside_packets = tt

beside_has : T (watcher_has going_ring 4 (ends going_ring) watched_going)
unfolding tests watcher_has
beside_has = tt

beside_started : watch_verdict going_ring.stakes 1 ≡ Ok tt
unfolding tests
beside_started = refl

beside_armed : T (is_armed watched_going 1)
unfolding tests
beside_armed = tt

beside_liar : T (has (cell_at watched_going 1 3) (notar 8))
unfolding tests
beside_liar = tt

beside_fed : FedGenuine (honest_in going_ring) cast_going going_ring.stakes beside_going
beside_fed =
    watched_ok going_ring.stakes going_ring.genesis 3 (honest_in going_ring) (fed_in going_ring) (told_of (tolds going_ring)) (within_table going_ring) (told_is going_ring) beside_going 4
    (λ m z e. omega (arith, within_table going_ring m z, e)) beside_mail beside_packets

beside_votes : (m s : ℕ) (v : Ballot) → T (honest_in going_ring m) → s ≤ 4 → T (not (is_final_vote v)) → T (cast_going m s v) → T (has (cell_at watched_going s m) v)
unfolding watcher_has
beside_votes m s v z hi nf t =
    let f : ℕ → ℕ → Bool = λ m s. within (cell_at (end_of (ends going_ring) m) s m) (cell_at watched_going s m) in
    let a = slot_of going_ring 4 (f m) (each going_ring (λ m. up_to 4 (f m)) beside_has m z) s hi in
    within_has (cell_at (end_in going_ring m) s m) (cell_at watched_going s m) v nf
    (at_end going_ring (λ l. within (cell_at l s m) (cell_at watched_going s m)) m z a) (own going_ring going_ring_lem.ring.started 4 m s v z t)

pub watches_going : WatchesGoing
watches_going =
    record {
      fed = beside_fed;
      genuine = watched_mail_is_enough going_ring.stakes going_ring.genesis (honest_in going_ring) (fed_in going_ring) going_ring_lem.ring 1 beside_started beside_going beside_fed;
      mail = record {
        started = beside_started;
        woken = true_t _ (watcher_woken_armed going_ring.stakes 1 beside_started beside_going ∙ T_true (is_armed watched_going 1) beside_armed);
        votes = λ m s v z lo hi nf t. beside_votes m s v z hi nf t;
      };
      liar = beside_liar;
    }
