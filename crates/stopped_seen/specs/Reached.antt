-- Calls with which a ring goes on where a fifth has stopped.
use Rattle.std.specs.Prelude.{◌≡◌, not, List, ℕ, ◌≤◌, T}
use Rattle.rulebook.specs.Weights.{last_slot}
use Rattle.rulebook.specs.Ledger.{fresh}
use Rattle.safety.specs.Slot.{Test}
use Rattle.mail.specs.Policy.{by_policy}
use Rattle.seen.specs.Ring.{Lives, Ring, FedRing}
use Rattle.seen.specs.Chain.{AnnouncedOnce}
use Rattle.seen.specs.Progress.{Going}
use Rattle.calls.specs.Life.{Calls, Life}
use Rattle.stopped_seen.specs.Stopped.{FewStopped}
use Rattle.stopped_seen.specs.Fed.{OneAnnounced}

-- Further calls at the live nodes, and none at the others, with which the lives are a ring still and every slot is decided at every live node.
pub record LiveWentOn (stakes : List ℕ) (genesis : ℕ → ℕ) (honest live : Test) (lives : Lives) : Type 0 where
  pub after : Lives
  pub lived : (n : ℕ) → T (honest n) → Life stakes n (genesis n) (after n)
  pub go_on : (n : ℕ) → Calls (lives n) (after n)
  pub others : (n : ℕ) → T (not (live n)) → (after n).came ≡ (lives n).came
  pub ring : Ring stakes genesis honest after
  pub going : (s : ℕ) → 1 ≤ s → s ≤ last_slot → Going stakes live after last_slot s

-- NO RING IS STUCK WITH A FIFTH STOPPED, by calls: whatever the calls so far, blocks by the policy and no two of a slot at live nodes, the live nodes' lives can
-- go on with calls by whose end every slot is decided at all of them.
abbrev pub LiveLivesGoOn : Type 0
LiveLivesGoOn =
    (stakes : List ℕ) (genesis : ℕ → ℕ) (honest live : Test) (lives : Lives) → ((n : ℕ) → T (honest n) → Life stakes n (genesis n) (lives n))
    → FedRing stakes genesis honest lives → AnnouncedOnce honest lives → ((n : ℕ) → T (live n) → T (honest n)) → FewStopped stakes honest live
    → ((n : ℕ) → T (live n) → T (by_policy (fresh stakes n (genesis n)) (lives n).came)) → OneAnnounced stakes live lives last_slot
    → LiveWentOn stakes genesis honest live lives
