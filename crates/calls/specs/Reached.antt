-- LIVES CAN BE HAD: what a promise says of all lives is not said of none.
use Rattle.std.specs.Prelude.{◌≡◌, List, ◌++◌, ℕ, ◌≤◌, T}
use Rattle.rulebook.specs.Weights.{last_slot}
use Rattle.rulebook.specs.Ledger.{fresh}
use Rattle.rulebook.specs.Taking.{Arrival}
use Rattle.mail.specs.Policy.{by_policy}
use Rattle.safety.specs.Slot.{Test}
use Rattle.safety.specs.Ring as book
use Rattle.seen.specs.Seen.{Seen}
use Rattle.seen.specs.Ring.{Lives, Ring, FedRing}
use Rattle.seen.specs.Chain.{AnnouncedOnce}
use Rattle.seen.specs.Progress.{Going}
use Rattle.calls.specs.Life.{Calls, Life, Watch}

-- From whatever is seen, calls can be made with which these things arrive.
abbrev pub CallsBring : Type 0
CallsBring = (v : Seen) (is : List Arrival) → (w : Seen) × Calls v w × (w.came ≡ v.came ++ is)

-- So every life can go on with them,
abbrev pub CanGoOn : Type 0
CanGoOn =
    (stakes : List ℕ) (own genesis : ℕ) (v : Seen) → Life stakes own genesis v → (is : List Arrival)
    → (w : Seen) × Life stakes own genesis w × (w.came ≡ v.came ++ is)

-- a watcher's too.
abbrev pub CanWatchOn : Type 0
CanWatchOn =
    (stakes : List ℕ) (genesis : ℕ) (v : Seen) → Watch stakes genesis v → (is : List Arrival)
    → (w : Seen) × Watch stakes genesis w × (w.came ≡ v.came ++ is)

-- The premise can be met: every ring of the rule book is one of lives.
abbrev pub RingMet : Type 0
RingMet =
    (stakes : List ℕ) (genesis : ℕ → ℕ) (honest : Test) (fed : ℕ → List Arrival) → book.Ring stakes genesis honest fed
    → (lives : Lives) × Ring stakes genesis honest lives × ((n : ℕ) → T (honest n) → Life stakes n (genesis n) (lives n)) × ((n : ℕ) → (lives n).came ≡ fed n)

-- Further calls at each node, after those of its life so far, with which the lives are a ring still and every slot is decided.
pub record WentOn (stakes : List ℕ) (genesis : ℕ → ℕ) (honest : Test) (lives : Lives) : Type 0 where
  pub after : Lives
  pub lived : (n : ℕ) → T (honest n) → Life stakes n (genesis n) (after n)
  pub go_on : (n : ℕ) → Calls (lives n) (after n)
  pub ring : Ring stakes genesis honest after
  pub going : (s : ℕ) → 1 ≤ s → s ≤ last_slot → Going stakes honest after last_slot s

-- SO NO RING IS STUCK: whatever the calls of a ring's lives so far, blocks by the policy, each life can go on with calls by whose end every slot is
-- decided at every honest node.
abbrev pub LivesGoOn : Type 0
LivesGoOn =
    (stakes : List ℕ) (genesis : ℕ → ℕ) (honest : Test) (lives : Lives) → ((n : ℕ) → T (honest n) → Life stakes n (genesis n) (lives n))
    → FedRing stakes genesis honest lives → AnnouncedOnce honest lives
    → ((n : ℕ) → T (honest n) → T (by_policy (fresh stakes n (genesis n)) (lives n).came)) → WentOn stakes genesis honest lives
