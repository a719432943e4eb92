-- The histories, computed.
use mathlib.Core.Bool.{true, false}
use lib.Dec.{T}
use Rattle.finals_histories.specs.Tests.{fails_without, goes_fast, goes_slow, marks_wrong, computed, the_strength, the_first, the_parent, the_next, the_patience, the_votes, the_finals}
use Rattle.finals_histories.specs.Histories.{FailsWithout, GoesFast, GoesSlow, MarksWrong}
use Rattle.finals_histories.specs.Histories as ring
use Rattle.finals_histories.proofs.Tests.{fails_without_lem, goes_fast_lem, goes_slow_lem, marks_wrong_lem}

-- ---- all premises met, in rings as in demand 3

fast_computed : T (goes_fast false ring.fast_ring)
unfolding computed
fast_computed = tt

pub fast_ring_lem : GoesFast false ring.fast_ring
fast_ring_lem = goes_fast_lem ring.fast_ring false fast_computed

sixteen_computed : T (goes_fast false ring.sixteen_ring)
unfolding computed ring.through ring.numbers
sixteen_computed = tt

pub sixteen_ring_lem : GoesFast false ring.sixteen_ring
sixteen_ring_lem = goes_fast_lem ring.sixteen_ring false sixteen_computed

slow_computed : T (goes_slow false ring.slow_ring)
unfolding computed
slow_computed = tt

pub slow_ring_lem : GoesSlow false ring.slow_ring
slow_ring_lem = goes_slow_lem ring.slow_ring false slow_computed

-- ---- and where too much stake lies for one

fifth_computed : T (goes_fast true ring.exact_fifth)
unfolding computed
fifth_computed = tt

pub exact_fifth_lem : GoesFast true ring.exact_fifth
exact_fifth_lem = goes_fast_lem ring.exact_fifth true fifth_computed

third_computed : T (goes_slow true ring.third_lies)
unfolding computed
third_computed = tt

pub third_lies_lem : GoesSlow true ring.third_lies
third_lies_lem = goes_slow_lem ring.third_lies true third_computed

-- ---- each premise left out

hasty_computed : T (fails_without the_patience ring.hasty_ring)
unfolding computed
hasty_computed = tt

pub hasty_ring_lem : FailsWithout the_patience ring.hasty_ring
hasty_ring_lem = fails_without_lem ring.hasty_ring the_patience hasty_computed

later_computed : T (fails_without the_patience ring.later_timeout)
unfolding computed
later_computed = tt

pub later_timeout_lem : FailsWithout the_patience ring.later_timeout
later_timeout_lem = fails_without_lem ring.later_timeout the_patience later_computed

first_computed : T (fails_without the_first ring.other_first)
unfolding computed
first_computed = tt

pub other_first_lem : FailsWithout the_first ring.other_first
other_first_lem = fails_without_lem ring.other_first the_first first_computed

unready_computed : T (fails_without the_parent ring.unready_parent)
unfolding computed
unready_computed = tt

pub unready_parent_lem : FailsWithout the_parent ring.unready_parent
unready_parent_lem = fails_without_lem ring.unready_parent the_parent unready_computed

next_computed : T (fails_without the_next ring.other_parent)
unfolding computed
next_computed = tt

pub other_parent_lem : FailsWithout the_next ring.other_parent
other_parent_lem = fails_without_lem ring.other_parent the_next next_computed

votes_computed : T (fails_without the_votes ring.no_votes)
unfolding computed
votes_computed = tt

pub no_votes_lem : FailsWithout the_votes ring.no_votes
no_votes_lem = fails_without_lem ring.no_votes the_votes votes_computed

finals_computed : T (fails_without the_finals ring.no_finals)
unfolding computed
finals_computed = tt

pub no_finals_lem : FailsWithout the_finals ring.no_finals
no_finals_lem = fails_without_lem ring.no_finals the_finals finals_computed

sixty_computed : T (fails_without the_strength ring.exactly_sixty)
unfolding computed
sixty_computed = tt

pub exactly_sixty_lem : FailsWithout the_strength ring.exactly_sixty
exactly_sixty_lem = fails_without_lem ring.exactly_sixty the_strength sixty_computed

parents_computed : T (marks_wrong ring.two_parents 1)
unfolding computed
parents_computed = tt

pub two_parents_lem : MarksWrong ring.two_parents 1
two_parents_lem = marks_wrong_lem ring.two_parents 1 tt parents_computed
