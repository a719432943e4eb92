-- PROGRESS WITH A FIFTH STOPPED, over the written rules and honest lives: once the mail of the LIVE nodes is in, every slot is decided and every
-- window armed at all of them. First the premises and what the words mean, then the promises, each as a statement that proofs/ proves under the
-- same name in small letters.
use Rattle.std.specs.Prelude.{◌≡◌, Bool, not, ◌&&◌, ◌||◌, List, ℕ, suc, ◌*◌, ◌≤◌, ◌<◌, T, length}
use Rattle.rulebook.specs.Weights.{last_slot, weight, total_to, is_first}
use Rattle.rulebook.specs.Ledger.{cell_at, own_cell, no_initial, is_armed, fresh}
use Rattle.rulebook.specs.Taking.{Arrival}
use Rattle.safety.specs.Slot.{Test, Ballot, notar, skip}
use Rattle.safety.specs.Ballots.{has}
use Rattle.safety.specs.Ring.{life, cast_by, Ring}
use Rattle.safety.specs.Watchers.{watched}
use Rattle.chain.specs.OneChain.{kept_by}
use Rattle.progress.specs.Rest.{is_final_vote}
use Rattle.progress.specs.Progress.{accepted_in, MailIn, Going}
use Rattle.progress.specs.Watching.{WatcherMail, DecidedEverywhere}

-- A ring as in demand 3, and the nodes that are live. The others have lied, or were honest and have stopped: the life of such a node is what
-- arrived until it did, and its votes may stand in some live pools and not in others.
module _ (stakes : List ℕ) (genesis : ℕ → ℕ) (honest live : Test) (fed : ℕ → List Arrival) where
  -- The live stake that cast notar b in slot s; that did not; that cast skip; that cast one of the two.
  abbrev pub live_notar : ℕ → ℕ → ℕ
  live_notar s b = weight stakes (length stakes) (λ n. live n && cast_by stakes genesis honest fed n s (notar b))

  abbrev pub live_others : ℕ → ℕ → ℕ
  live_others s b = weight stakes (length stakes) (λ n. live n && not (cast_by stakes genesis honest fed n s (notar b)))

  abbrev pub live_skip : ℕ → ℕ
  live_skip s = weight stakes (length stakes) (λ n. live n && cast_by stakes genesis honest fed n s skip)

  abbrev pub live_notar_or_skip : ℕ → ℕ → ℕ
  live_notar_or_skip s b = weight stakes (length stakes) (λ n. live n && (cast_by stakes genesis honest fed n s skip || cast_by stakes genesis honest fed n s (notar b)))

  -- Live nodes are honest, and their stake reaches 60.
  pub record LiveEnough : Type 0 where
    pub honest_too : (n : ℕ) → T (live n) → T (honest n)
    pub heavy : 3 * total_to stakes (length stakes) ≤ 5 * weight stakes (length stakes) live

  -- The stake of honest nodes that have stopped is at most one fifth.
  abbrev pub FewStopped : Type 0
  FewStopped = 5 * weight stakes (length stakes) (λ n. honest n && not (live n)) ≤ total_to stakes (length stakes)

  -- Every live node has an initial vote in slot s.
  abbrev pub AllVoted : ℕ → Type 0
  AllVoted s = (n : ℕ) → T (live n) → T (not (no_initial (own_cell (life stakes genesis honest fed n) s)))

  -- THE PREMISE besides that of the ring: the mail of the slots up to u is in, at the ends of the live nodes' lives.
  pub record LiveMailIn (u : ℕ) : Type 0 where
    -- Every live node has had an accepted arrival;
    pub woken : (n : ℕ) → T (live n) → T (accepted_in (fresh stakes n (genesis n)) (fed n))
    -- every vote that a live node cast, finals aside, stands in every live node's pool;
    pub votes : (n m s : ℕ) (v : Ballot) → T (live n) → T (live m) → 1 ≤ s → s ≤ u → T (not (is_final_vote v))
        → T (cast_by stakes genesis honest fed m s v) → T (has (cell_at (life stakes genesis honest fed n) s m) v)
    -- every live node has an initial vote in every slot of a window that it has armed;
    pub initial : (n s : ℕ) → T (live n) → 1 ≤ s → s ≤ u → T (is_armed (life stakes genesis honest fed n) s)
        → T (not (no_initial (own_cell (life stakes genesis honest fed n) s)))
    -- outside first slots, where all of them have voted, a block that the live votes do not outvote is kept by every live node with the parent
    -- that its voters keep.
    pub blocks : (n m s b p x : ℕ) → T (live n) → T (live m) → s ≤ u → AllVoted s → T (not (is_first s)) → T (cast_by stakes genesis honest fed n s (notar b))
        → T (kept_by stakes genesis honest fed n s b p x) → 5 * live_others s b ≤ 2 * total_to stakes (length stakes)
        → T (kept_by stakes genesis honest fed m s b p x)

  -- The live votes lean on block b of slot s: those not for it are over 40, or those for it are over 40, or reach 20 and with the skips 60.
  pub data Leaning (s b : ℕ) : Type 0 where
    outvoted : 2 * total_to stakes (length stakes) < 5 * live_others s b → Leaning s b
    outright : 2 * total_to stakes (length stakes) < 5 * live_notar s b → Leaning s b
    with_skips : total_to stakes (length stakes) ≤ 5 * live_notar s b → 3 * total_to stakes (length stakes) ≤ 5 * live_notar_or_skip s b → Leaning s b

  -- In every slot up to u in which all live nodes have voted, their votes lean on each block that one of them voted for.
  abbrev pub AllLean : ℕ → Type 0
  AllLean u = (n s b : ℕ) → 1 ≤ s → s ≤ u → AllVoted s → T (live n) → T (cast_by stakes genesis honest fed n s (notar b)) → Leaning s b

  -- The white paper's third assumption, as far as votes show it: no two live nodes cast notar for two blocks of a slot.
  abbrev pub OneBlock : ℕ → Type 0
  OneBlock u = (n m s b c : ℕ) → T (live n) → T (live m) → 1 ≤ s → s ≤ u → T (cast_by stakes genesis honest fed n s (notar b))
      → T (cast_by stakes genesis honest fed m s (notar c)) → b ≡ c

  -- A way to it: hosts echo one block of a slot each, and announce a block only with echoes that reach 60. Node m's host echoed block b of slot s:
  pub record Echoes (u : ℕ) (echoed : ℕ → ℕ → ℕ → Bool) : Type 0 where
    pub once : (m s b c : ℕ) → T (honest m) → T (echoed m s b) → T (echoed m s c) → b ≡ c
    pub set : ℕ → ℕ → Test
    pub heavy : (n s : ℕ) → T (live n) → 1 ≤ s → s ≤ u → 3 * total_to stakes (length stakes) ≤ 5 * weight stakes (length stakes) (set n s)
    pub heard : (n s b m : ℕ) → T (live n) → 1 ≤ s → s ≤ u → T (cast_by stakes genesis honest fed n s (notar b)) → T (honest m) → T (set n s m) → T (echoed m s b)

-- ---- the promises

-- THE LIVE NODES NEVER HANG: where their mail of the slots up to u is in and their votes lean, each of these slots is decided at all of them and
-- its window armed.
abbrev pub LiveNeverHang : Type 0
LiveNeverHang =
    (stakes : List ℕ) (genesis : ℕ → ℕ) (honest live : Test) (fed : ℕ → List Arrival) → Ring stakes genesis honest fed → LiveEnough stakes genesis honest live fed
    → (u : ℕ) → u ≤ last_slot → LiveMailIn stakes genesis honest live fed u → AllLean stakes genesis honest live fed u
    → (s : ℕ) → 1 ≤ s → s ≤ u → Going stakes genesis live fed s

-- And the window that begins behind them is armed at every live node.
abbrev pub LiveNextWindow : Type 0
LiveNextWindow =
    (stakes : List ℕ) (genesis : ℕ → ℕ) (honest live : Test) (fed : ℕ → List Arrival) → Ring stakes genesis honest fed → LiveEnough stakes genesis honest live fed
    → (u : ℕ) → suc u ≤ last_slot → LiveMailIn stakes genesis honest live fed u → AllLean stakes genesis honest live fed u → T (is_first (suc u))
    → (n : ℕ) → T (live n) → T (is_armed (life stakes genesis live fed n) (suc u))

-- A watcher that has the votes of the live nodes holds the certificate that decides each slot,
abbrev pub LiveWatchersDecide : Type 0
LiveWatchersDecide =
    (stakes : List ℕ) (genesis : ℕ → ℕ) (honest live : Test) (fed : ℕ → List Arrival) → Ring stakes genesis honest fed → LiveEnough stakes genesis honest live fed
    → (u : ℕ) → u ≤ last_slot → LiveMailIn stakes genesis honest live fed u → AllLean stakes genesis honest live fed u
    → (s : ℕ) → 1 ≤ s → s ≤ u → DecidedEverywhere stakes genesis live fed u s

-- and has armed the windows of these slots and of the next one.
abbrev pub LiveWatchersArm : Type 0
LiveWatchersArm =
    (stakes : List ℕ) (genesis : ℕ → ℕ) (honest live : Test) (fed : ℕ → List Arrival) → Ring stakes genesis honest fed → LiveEnough stakes genesis honest live fed
    → (u : ℕ) → u ≤ last_slot → LiveMailIn stakes genesis honest live fed u → AllLean stakes genesis honest live fed u
    → (g : ℕ) (lived : List Arrival) → WatcherMail stakes genesis live fed u g lived
    → (s : ℕ) → 1 ≤ s → s ≤ suc u → s ≤ last_slot → T (is_armed (watched stakes g lived) s)

-- Under a fifth lying and at most a fifth stopped leave enough.
abbrev pub TwentyAndTwenty : Type 0
TwentyAndTwenty =
    (stakes : List ℕ) (genesis : ℕ → ℕ) (honest live : Test) (fed : ℕ → List Arrival) → Ring stakes genesis honest fed
    → ((n : ℕ) → T (live n) → T (honest n)) → FewStopped stakes genesis honest live fed
    → LiveEnough stakes genesis honest live fed

-- Votes for one block a slot lean.
abbrev pub OneBlockLeans : Type 0
OneBlockLeans =
    (stakes : List ℕ) (genesis : ℕ → ℕ) (honest live : Test) (fed : ℕ → List Arrival) → Ring stakes genesis honest fed → LiveEnough stakes genesis honest live fed
    → (u : ℕ) → OneBlock stakes genesis honest live fed u → AllLean stakes genesis honest live fed u

-- So do any votes where live stake is over 80: nothing is asked of the blocks then.
abbrev pub OverEightyLeans : Type 0
OverEightyLeans =
    (stakes : List ℕ) (genesis : ℕ → ℕ) (honest live : Test) (fed : ℕ → List Arrival) → 4 * total_to stakes (length stakes) < 5 * weight stakes (length stakes) live
    → (u : ℕ) → AllLean stakes genesis honest live fed u

-- So what is promised with nobody stopped is contained: it is the case in which every honest node is live.
abbrev pub NobodyStopped : Type 0
NobodyStopped =
    (stakes : List ℕ) (genesis : ℕ → ℕ) (honest : Test) (fed : ℕ → List Arrival) → Ring stakes genesis honest fed
    → (u : ℕ) → MailIn stakes genesis honest fed u
    → LiveEnough stakes genesis honest honest fed × LiveMailIn stakes genesis honest honest fed u × AllLean stakes genesis honest honest fed u

-- Where votes lean at most one block of a slot is not outvoted: so many does the premise on blocks ask for.
abbrev pub OneAsked : Type 0
OneAsked =
    (stakes : List ℕ) (genesis : ℕ → ℕ) (honest live : Test) (fed : ℕ → List Arrival) → Ring stakes genesis honest fed → LiveEnough stakes genesis honest live fed
    → (s b c : ℕ) → Leaning stakes genesis honest live fed s b → 5 * live_others stakes genesis honest live fed s b ≤ 2 * total_to stakes (length stakes)
    → 5 * live_others stakes genesis honest live fed s c ≤ 2 * total_to stakes (length stakes) → b ≡ c

-- Echoes leave one block.
abbrev pub EchoesLeaveOne : Type 0
EchoesLeaveOne =
    (stakes : List ℕ) (genesis : ℕ → ℕ) (honest live : Test) (fed : ℕ → List Arrival) → Ring stakes genesis honest fed
    → (u : ℕ) (echoed : ℕ → ℕ → ℕ → Bool) → Echoes stakes genesis honest live fed u echoed → OneBlock stakes genesis honest live fed u

-- THE RING NEVER HANGS WITH A FIFTH STOPPED: under a fifth lies, at most a fifth has stopped, the mail of the rest is in, and these voted for one
-- block a slot.
abbrev pub FifthStopped : Type 0
FifthStopped =
    (stakes : List ℕ) (genesis : ℕ → ℕ) (honest live : Test) (fed : ℕ → List Arrival) → Ring stakes genesis honest fed
    → ((n : ℕ) → T (live n) → T (honest n)) → FewStopped stakes genesis honest live fed
    → (u : ℕ) → u ≤ last_slot → LiveMailIn stakes genesis honest live fed u → OneBlock stakes genesis honest live fed u
    → (s : ℕ) → 1 ≤ s → s ≤ u → Going stakes genesis live fed s
