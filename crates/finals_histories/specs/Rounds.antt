-- The premises of feeding can be met, with a liar: rounds go on from the ring of one chain, and by the end of one of them all mail was fed.
use Rattle.std.specs.Prelude.{ℕ, T}
use Rattle.rulebook.specs.Weights.{last_slot}
use Rattle.rulebook.specs.Ledger.{fresh}
use Rattle.safety.specs.Ring.{FedRing}
use Rattle.safety.specs.Examples.{six, honest_six, genesis_six}
use Rattle.chain.specs.OneChain.{OneParent, AnnouncedOnce}
use Rattle.chain_histories.specs.Rings.{fed_chain}
use Rattle.mail.specs.Policy.{by_policy}
use Rattle.mail.specs.Host.{MailFed}
use Rattle.mail.specs.Rounds.{Further}

-- Six nodes, one of them a liar with two stories, certificates handed over and blocks 7, 9 and 11 on one chain. What arrived is genuine, no block
-- was announced with two parents, and blocks came by the policy. So rounds of feeding go on from there, in each of which a block has one parent,
-- and by the end of one all mail of the 16 slots was fed.
pub record ChainRounds : Type 0 where
  pub fed : FedRing six genesis_six honest_six fed_chain
  pub announced : AnnouncedOnce six genesis_six honest_six fed_chain
  pub policy : (n : ℕ) → T (honest_six n) → T (by_policy (fresh six n (genesis_six n)) (fed_chain n))
  pub further : Further six genesis_six honest_six fed_chain
  pub one_parent : (k : ℕ) → OneParent six genesis_six honest_six (further.rounds k)
  pub round : ℕ
  pub mail : MailFed six genesis_six honest_six (further.rounds round) last_slot
