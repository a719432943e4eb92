-- Rounds that go on from the ring of one chain.
use Prim.Native.Nat.{ℕ, zero, suc}
use native.Mathlib.Omega.{arith}
use lib.Dec.{T, ltb→lt}
use Rattle.rulebook.specs.Weights.{last_slot}
use Rattle.rulebook.specs.Ledger.{fresh}
use Rattle.rulebook.specs.Computes.{rules}
use Rattle.safety.specs.Examples.{six, honest_six, genesis_six}
use Rattle.chain_histories.specs.Rings.{fed_chain}
use Rattle.chain_histories.proofs.Rings.{chain_example}
use Rattle.mail.specs.Policy.{may_announce, by_policy}
use Rattle.mail.proofs.Rounds.{feeding_ends}
use Rattle.mail.proofs.Feeding.{feeding_goes_on}
use Rattle.finals_histories.specs.Rounds.{ChainRounds}

policy0 : T (by_policy (fresh six 0 (genesis_six 0)) (fed_chain 0))
unfolding rules may_announce by_policy
policy0 = tt

policy1 : T (by_policy (fresh six 1 (genesis_six 1)) (fed_chain 1))
unfolding rules may_announce by_policy
policy1 = tt

policy2 : T (by_policy (fresh six 2 (genesis_six 2)) (fed_chain 2))
unfolding rules may_announce by_policy
policy2 = tt

policy3 : T (by_policy (fresh six 3 (genesis_six 3)) (fed_chain 3))
unfolding rules may_announce by_policy
policy3 = tt

policy4 : T (by_policy (fresh six 4 (genesis_six 4)) (fed_chain 4))
unfolding rules may_announce by_policy
policy4 = tt

chain_policy : (n : ℕ) → T (honest_six n) → T (by_policy (fresh six n (genesis_six n)) (fed_chain n))
chain_policy zero h = policy0
chain_policy (suc zero) h = policy1
chain_policy (suc (suc zero)) h = policy2
chain_policy (suc (suc (suc zero))) h = policy3
chain_policy (suc (suc (suc (suc zero)))) h = policy4
chain_policy (suc (suc (suc (suc (suc n))))) h = absurd (omega (arith, ltb→lt (suc (suc (suc (suc (suc n))))) 5 h))

pub chain_rounds : ChainRounds
chain_rounds =
    let f = feeding_goes_on six genesis_six honest_six fed_chain chain_example.fed chain_example.announced chain_policy in
    let e = feeding_ends six genesis_six honest_six f.rounds last_slot (omega arith) f.feeds in
    record {
      fed = chain_example.fed;
      announced = chain_example.announced;
      policy = chain_policy;
      further = f;
      one_parent = f.feeds.one_parent;
      round = e.round;
      mail = e.was_fed;
    }
