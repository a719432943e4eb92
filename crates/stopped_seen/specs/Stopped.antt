-- THE RING NEVER HANGS WITH A FIFTH STOPPED, over seen lives: once the mail of the LIVE nodes is in, every slot is decided and every window armed at all of
-- them. First the premise and what the words mean, then the promises, each as a statement that proofs/ proves under the same name in small letters.
use Rattle.std.specs.Prelude.{◌≡◌, Bool, not, ◌&&◌, ◌||◌, List, ℕ, suc, ◌*◌, ◌≤◌, ◌<◌, T, length}
use Rattle.rulebook.specs.Weights.{last_slot, weight, total_to, is_first}
use Rattle.rulebook.specs.Ledger.{cell_at, no_initial}
use Rattle.safety.specs.Slot.{Test, Ballot, notar, skip}
use Rattle.progress.specs.Rest.{is_final_vote}
use Rattle.seen.specs.Seen.{Seen, ledger_in}
use Rattle.seen.specs.Ring.{Lives, told_ballot, counted_ballot, Ring}
use Rattle.seen.specs.Chain.{block_kept}
use Rattle.seen.specs.Progress.{armed_in, MailIn, WatcherMail, Going}

-- ---- the premise

-- The table, the honest nodes, and those of them that are live. The others have lied, or were honest and have stopped: what is seen of such a node ends
-- where it did, and its votes may be counted at some live nodes and not at others.
module _ (stakes : List ℕ) (honest live : Test) where
  -- Live nodes are honest, and their stake reaches 60.
  pub record LiveEnough : Type 0 where
    pub honest_too : (n : ℕ) → T (live n) → T (honest n)
    pub heavy : 3 * total_to stakes (length stakes) ≤ 5 * weight stakes (length stakes) live

  -- The stake of honest nodes that have stopped is at most one fifth.
  abbrev pub FewStopped : Type 0
  FewStopped = 5 * weight stakes (length stakes) (λ n. honest n && not (live n)) ≤ total_to stakes (length stakes)

module _ (stakes : List ℕ) (live : Test) (lives : Lives) where
  -- The live stake whose outboxes told notar b of slot s; that did not; that told this or a skip.
  abbrev pub live_notar : ℕ → ℕ → ℕ
  live_notar s b = weight stakes (length stakes) (λ n. live n && told_ballot lives n s (notar b))

  abbrev pub live_others : ℕ → ℕ → ℕ
  live_others s b = weight stakes (length stakes) (λ n. live n && not (told_ballot lives n s (notar b)))

  abbrev pub live_notar_or_skip : ℕ → ℕ → ℕ
  live_notar_or_skip s b = weight stakes (length stakes) (λ n. live n && (told_ballot lives n s skip || told_ballot lives n s (notar b)))

  -- Every live node has an initial vote in slot s.
  abbrev pub AllVoted : ℕ → Type 0
  AllVoted s = (n : ℕ) → T (live n) → T (not (no_initial (cell_at (ledger_in (lives n)) s n)))

  -- THE MAIL of the slots up to u is in at the live nodes:
  pub record LiveMailIn (u : ℕ) : Type 0 where
    -- every live node has armed window 1, as the first step that is answered 0 makes it do;
    pub woken : (n : ℕ) → T (live n) → T (armed_in (lives n) 1)
    -- every vote that a live node's outbox told, finals aside, is counted in every live node's words;
    pub votes : (n m s : ℕ) (v : Ballot) → T (live n) → T (live m) → 1 ≤ s → s ≤ u → T (not (is_final_vote v))
        → T (told_ballot lives m s v) → T (counted_ballot lives n m s v)
    -- every live node has an initial vote in every slot of a window that it has armed;
    pub initial : (n s : ℕ) → T (live n) → 1 ≤ s → s ≤ u → T (armed_in (lives n) s) → T (not (no_initial (cell_at (ledger_in (lives n)) s n)))
    -- outside first slots, where all of them have voted, a block that the live votes do not outvote is kept by every live node with the parent that its
    -- voters keep.
    pub blocks : (n m s b p x : ℕ) → T (live n) → T (live m) → s ≤ u → AllVoted s → T (not (is_first s)) → T (told_ballot lives n s (notar b))
        → T (block_kept lives n s b p x) → 5 * live_others s b ≤ 2 * total_to stakes (length stakes)
        → T (block_kept lives m s b p x)

  -- The live votes lean on block b of slot s: those not for it are over 40, or those for it are over 40, or reach 20 and with the skips 60.
  pub data Leaning (s b : ℕ) : Type 0 where
    outvoted : 2 * total_to stakes (length stakes) < 5 * live_others s b → Leaning s b
    outright : 2 * total_to stakes (length stakes) < 5 * live_notar s b → Leaning s b
    with_skips : total_to stakes (length stakes) ≤ 5 * live_notar s b → 3 * total_to stakes (length stakes) ≤ 5 * live_notar_or_skip s b → Leaning s b

  -- In every slot up to u in which all live nodes have voted, their votes lean on each block that one of them voted for.
  abbrev pub AllLean : ℕ → Type 0
  AllLean u = (n s b : ℕ) → 1 ≤ s → s ≤ u → AllVoted s → T (live n) → T (told_ballot lives n s (notar b)) → Leaning s b

  -- ONE BLOCK: no two live nodes' outboxes told notar for two blocks of a slot.
  abbrev pub OneBlock : ℕ → Type 0
  OneBlock u =
      (n m s b c : ℕ) → T (live n) → T (live m) → 1 ≤ s → s ≤ u → T (told_ballot lives n s (notar b)) → T (told_ballot lives m s (notar c)) → b ≡ c

  -- A way to it, THE ECHO ROUND: hosts echo one block of a slot each, and announce a block only with echoes that reach 60. Node m's host echoed block b of
  -- slot s; `set n s` are those whose echoes node n's host had heard.
  pub record Echoes (honest : Test) (u : ℕ) (echoed : ℕ → ℕ → ℕ → Bool) : Type 0 where
    pub once : (m s b c : ℕ) → T (honest m) → T (echoed m s b) → T (echoed m s c) → b ≡ c
    pub set : ℕ → ℕ → Test
    pub heavy : (n s : ℕ) → T (live n) → 1 ≤ s → s ≤ u → 3 * total_to stakes (length stakes) ≤ 5 * weight stakes (length stakes) (set n s)
    pub heard : (n s b m : ℕ) → T (live n) → 1 ≤ s → s ≤ u → T (told_ballot lives n s (notar b)) → T (honest m) → T (set n s m) → T (echoed m s b)

-- ---- the promises

-- Under a fifth lying and at most a fifth stopped leave enough.
abbrev pub TwentyAndTwenty : Type 0
TwentyAndTwenty =
    (stakes : List ℕ) (genesis : ℕ → ℕ) (honest live : Test) (lives : Lives) → Ring stakes genesis honest lives → ((n : ℕ) → T (live n) → T (honest n))
    → FewStopped stakes honest live → LiveEnough stakes honest live

-- THE LIVE NODES NEVER HANG: where their mail of the slots up to u is in and their votes lean, each of these slots is decided, its window armed, and its
-- certificate written, at all of them; and so at every watcher that counts the live votes.
abbrev pub LiveNeverHang : Type 0
LiveNeverHang =
    (stakes : List ℕ) (genesis : ℕ → ℕ) (honest live : Test) (lives : Lives) → Ring stakes genesis honest lives → LiveEnough stakes honest live
    → (u : ℕ) → u ≤ last_slot → LiveMailIn stakes live lives u → AllLean stakes live lives u → (s : ℕ) → 1 ≤ s → s ≤ u → Going stakes live lives u s

-- The window that begins behind them is armed at every live node,
abbrev pub LiveNextWindow : Type 0
LiveNextWindow =
    (stakes : List ℕ) (genesis : ℕ → ℕ) (honest live : Test) (lives : Lives) → Ring stakes genesis honest lives → LiveEnough stakes honest live
    → (u : ℕ) → suc u ≤ last_slot → LiveMailIn stakes live lives u → AllLean stakes live lives u → T (is_first (suc u))
    → (n : ℕ) → T (live n) → T (armed_in (lives n) (suc u))

-- and at every such watcher.
abbrev pub LiveWatchersArm : Type 0
LiveWatchersArm =
    (stakes : List ℕ) (genesis : ℕ → ℕ) (honest live : Test) (lives : Lives) → Ring stakes genesis honest lives → LiveEnough stakes honest live
    → (u : ℕ) → u ≤ last_slot → LiveMailIn stakes live lives u → AllLean stakes live lives u → (g : ℕ) (v : Seen) → WatcherMail stakes live lives u g v
    → (s : ℕ) → 1 ≤ s → s ≤ suc u → s ≤ last_slot → T (armed_in v s)

-- Votes for one block a slot lean.
abbrev pub OneBlockLeans : Type 0
OneBlockLeans =
    (stakes : List ℕ) (genesis : ℕ → ℕ) (honest live : Test) (lives : Lives) → Ring stakes genesis honest lives → LiveEnough stakes honest live
    → (u : ℕ) → OneBlock stakes live lives u → AllLean stakes live lives u

-- So do any votes where live stake is over 80: nothing is asked of the blocks then.
abbrev pub OverEightyLeans : Type 0
OverEightyLeans =
    (stakes : List ℕ) (live : Test) (lives : Lives) → 4 * total_to stakes (length stakes) < 5 * weight stakes (length stakes) live
    → (u : ℕ) → AllLean stakes live lives u

-- So what is promised with nobody stopped is contained: it is the case in which every honest node is live.
abbrev pub NobodyStopped : Type 0
NobodyStopped =
    (stakes : List ℕ) (genesis : ℕ → ℕ) (honest : Test) (lives : Lives) → Ring stakes genesis honest lives → (u : ℕ) → MailIn stakes honest lives u
    → LiveEnough stakes honest honest × LiveMailIn stakes honest lives u × AllLean stakes honest lives u

-- Echoes leave one block.
abbrev pub EchoesLeaveOne : Type 0
EchoesLeaveOne =
    (stakes : List ℕ) (genesis : ℕ → ℕ) (honest live : Test) (lives : Lives) → Ring stakes genesis honest lives → ((n : ℕ) → T (live n) → T (honest n))
    → (u : ℕ) (echoed : ℕ → ℕ → ℕ → Bool) → Echoes stakes live lives honest u echoed → OneBlock stakes live lives u

-- THE RING NEVER HANGS WITH A FIFTH STOPPED: under a fifth lies, at most a fifth has stopped, the mail of the rest is in, and these voted for one block a
-- slot.
abbrev pub FifthStopped : Type 0
FifthStopped =
    (stakes : List ℕ) (genesis : ℕ → ℕ) (honest live : Test) (lives : Lives) → Ring stakes genesis honest lives → ((n : ℕ) → T (live n) → T (honest n))
    → FewStopped stakes honest live → (u : ℕ) → u ≤ last_slot → LiveMailIn stakes live lives u → OneBlock stakes live lives u
    → (s : ℕ) → 1 ≤ s → s ≤ u → Going stakes live lives u s
