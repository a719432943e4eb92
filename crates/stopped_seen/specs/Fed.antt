-- THE HOST'S FORM of the promise with a fifth stopped, over seen lives: what was fed to the live nodes, in place of what stands in their words. Each promise
-- is a statement that proofs/ proves under the same name in small letters.
use Rattle.std.specs.Prelude.{◌≡◌, not, ◌||◌, List, [], ◌++◌, ℕ, suc, ◌*◌, ◌≤◌, T, length}
use Rattle.rulebook.specs.Weights.{last_slot, total_to, is_first}
use Rattle.rulebook.specs.Ledger.{fresh, cell_at, no_initial}
use Rattle.rulebook.specs.Rules.{fallback_weights}
use Rattle.rulebook.specs.Run.{most_records}
use Rattle.rulebook.specs.Taking.{Arrival}
use Rattle.safety.specs.Slot.{Test, Ballot, notar}
use Rattle.safety.specs.Ring.{brought_by, announced_by}
use Rattle.progress.specs.Rest.{is_final_vote}
use Rattle.progress.specs.Progress.{accepted_in}
use Rattle.mail.specs.Mail.{timed_out_in}
use Rattle.mail.specs.Policy.{by_policy}
use Rattle.seen.specs.Seen.{ledger_in, Earlier}
use Rattle.seen.specs.Ring.{Lives, told_ballot, counted_ballot, Nodes, Ring, FedRing}
use Rattle.seen.specs.Chain.{block_kept, OneParent, AnnouncedOnce}
use Rattle.seen.specs.Progress.{armed_in, Going}
use Rattle.seen.specs.Fed.{DecidedBy, NoRingStuck}
use Rattle.stopped_seen.specs.Stopped.{live_others, LiveEnough, FewStopped, AllVoted, LiveMailIn, Leaning, AllLean, OneBlock}

module _ (stakes : List ℕ) (live : Test) (lives : Lives) where
  -- Block b of slot s is asked for, with the parent (p, x): outside first slots, every live node has voted and their votes do not outvote it, and live node
  -- n, whose outbox told a vote for it, keeps it in its words with that parent.
  pub record LiveAsked (n s b p x : ℕ) : Type 0 where
    pub next : T (not (is_first s))
    pub all_voted : AllVoted stakes live lives s
    pub voter : T (live n)
    pub voted : T (told_ballot lives n s (notar b))
    pub kept : T (block_kept lives n s b p x)
    pub few : 5 * live_others stakes live lives s b ≤ 2 * total_to stakes (length stakes)

  -- ONE BLOCK IS ANNOUNCED: no two blocks of a slot arrive at live nodes.
  abbrev pub OneAnnounced : ℕ → Type 0
  OneAnnounced u =
      (n m s b c p x q y : ℕ) → T (live n) → T (live m) → 1 ≤ s → s ≤ u → T (announced_by (lives n).came s b p x) → T (announced_by (lives m).came s c q y) → b ≡ c

-- THE MAIL WAS FED, for the slots up to u, to the live nodes:
pub record LiveMailFed (stakes : List ℕ) (genesis : ℕ → ℕ) (live : Test) (lives : Lives) (u : ℕ) : Type 0 where
  -- something that each answered 0;
  pub woken : (n : ℕ) → T (live n) → T (accepted_in (fresh stakes n (genesis n)) (lives n).came)
  -- every vote, finals aside, that another live node's outbox told;
  pub votes : (n m s : ℕ) (v : Ballot) → T (live n) → T (live m) → ¬ (m ≡ n) → 1 ≤ s → s ≤ u → T (not (is_final_vote v))
      → T (told_ballot lives m s v) → T (brought_by (lives n).came s m v)
  -- a timeout, answered 0, of every slot of an armed window in which it has no initial vote;
  pub timeouts : (n s : ℕ) → T (live n) → 1 ≤ s → s ≤ u → T (armed_in (lives n) s)
      → T (not (no_initial (cell_at (ledger_in (lives n)) s n)) || timed_out_in (fresh stakes n (genesis n)) (lives n).came s)
  -- every block that is asked for, and all blocks by the policy.
  pub blocks : (n m s b p x : ℕ) → T (live m) → s ≤ u → LiveAsked stakes live lives n s b p x → T (announced_by (lives m).came s b p x)
  pub policy : (n : ℕ) → T (live n) → T (by_policy (fresh stakes n (genesis n)) (lives n).came)

-- ---- the promises

-- What was fed is enough.
abbrev pub LiveMailFedIsEnough : Type 0
LiveMailFedIsEnough =
    (stakes : List ℕ) (genesis : ℕ → ℕ) (honest live : Test) (lives : Lives) → Ring stakes genesis honest lives → OneParent honest lives
    → ((n : ℕ) → T (live n) → T (honest n)) → (u : ℕ) → u ≤ last_slot → LiveMailFed stakes genesis live lives u → LiveMailIn stakes live lives u

-- The policy lets every such block be announced where the votes lean: it has rule D's weights in all live words that count the live votes of the slot.
abbrev pub LiveAskedWeigh : Type 0
LiveAskedWeigh =
    (stakes : List ℕ) (genesis : ℕ → ℕ) (honest live : Test) (lives : Lives) → Ring stakes genesis honest lives → ((n : ℕ) → T (live n) → T (honest n))
    → (n m s b p x : ℕ) → T (live m) → LiveAsked stakes live lives n s b p x → Leaning stakes live lives s b
    → ((k : ℕ) (v : Ballot) → T (live k) → T (told_ballot lives k s v) → T (not (is_final_vote v)) → T (counted_ballot lives m k s v))
    → T (fallback_weights (ledger_in (lives m)) s b)

-- Where one block of a slot is announced, live nodes vote for one.
abbrev pub OneAnnouncedIsOne : Type 0
OneAnnouncedIsOne =
    (stakes : List ℕ) (genesis : ℕ → ℕ) (honest live : Test) (lives : Lives) → Ring stakes genesis honest lives → ((n : ℕ) → T (live n) → T (honest n))
    → (u : ℕ) → OneAnnounced stakes live lives u → OneBlock stakes live lives u

-- THE RING NEVER HANGS WITH A FIFTH STOPPED, all of it over what arrives.
abbrev pub FedFifthStopped : Type 0
FedFifthStopped =
    (stakes : List ℕ) (genesis : ℕ → ℕ) (honest live : Test) (lives : Lives) → FedRing stakes genesis honest lives → AnnouncedOnce honest lives
    → ((n : ℕ) → T (live n) → T (honest n)) → FewStopped stakes honest live
    → (u : ℕ) → u ≤ last_slot → LiveMailFed stakes genesis live lives u → OneAnnounced stakes live lives u
    → (s : ℕ) → 1 ≤ s → s ≤ u → Going stakes live lives u s

-- ---- that it ends

-- ROUNDS of feeding the live nodes, of the slots up to u: by the end of the next round each was fed what was due at the end of this one. What else arrives,
-- and what the others are fed, does not matter.
pub record LiveRounds (stakes : List ℕ) (genesis : ℕ → ℕ) (honest live : Test) (lives : ℕ → Lives) (u : ℕ) : Type 0 where
  pub go_on : (k n : ℕ) → Earlier (lives k n) (lives (suc k) n)
  pub ring : (k : ℕ) → Ring stakes genesis honest (lives k)
  pub one_parent : (k : ℕ) → OneParent honest (lives k)
  pub honest_too : (n : ℕ) → T (live n) → T (honest n)
  pub policy : (k n : ℕ) → T (live n) → T (by_policy (fresh stakes n (genesis n)) (lives k n).came)
  -- Due is something that is answered 0;
  pub woken : (k n : ℕ) → T (live n) → T (accepted_in (fresh stakes n (genesis n)) (lives (suc k) n).came)
  -- every vote that another live node's outbox has told, finals aside;
  pub votes : (k n m s : ℕ) (v : Ballot) → T (live n) → T (live m) → ¬ (m ≡ n) → 1 ≤ s → s ≤ u → T (not (is_final_vote v))
      → T (told_ballot (lives k) m s v) → T (brought_by (lives (suc k) n).came s m v)
  -- the timeout of every slot of a window that it has armed, unless it has an initial vote there;
  pub timeouts : (k n s : ℕ) → T (live n) → 1 ≤ s → s ≤ u → T (armed_in (lives k n) s)
      → T (not (no_initial (cell_at (ledger_in (lives (suc k) n)) s n)) || timed_out_in (fresh stakes n (genesis n)) (lives (suc k) n).came s)
  -- and every block that is asked for.
  pub blocks : (k n m s b p x : ℕ) → T (live m) → s ≤ u → LiveAsked stakes live (lives k) n s b p x → T (announced_by (lives (suc k) m).came s b p x)

-- FEEDING ENDS: within 132 rounds for each node of the table, and one more, every slot up to u is decided at every live node, where these voted for one
-- block a slot and at most a fifth has stopped.
abbrev pub LiveRoundsDecide : Type 0
LiveRoundsDecide =
    (stakes : List ℕ) (genesis : ℕ → ℕ) (honest live : Test) (lives : ℕ → Lives) (u : ℕ) → u ≤ last_slot → LiveRounds stakes genesis honest live lives u
    → FewStopped stakes honest live → ((k : ℕ) → OneBlock stakes live (lives k) u)
    → DecidedBy stakes live lives u (suc (most_records * length stakes))

-- ---- and it can be done

-- More that can arrive at the live nodes, after all that did. Whatever lives go on with it are a ring still.
pub record LiveGoes (stakes : List ℕ) (genesis : ℕ → ℕ) (honest live : Test) (lives : Lives) : Type 0 where
  pub further : ℕ → List Arrival
  -- At the others nothing arrives: who has stopped has stopped.
  pub others : (n : ℕ) → T (not (live n)) → further n ≡ []
  pub ring : (after : Lives) → Nodes stakes genesis honest after → ((n : ℕ) → (after n).came ≡ (lives n).came ++ further n) → Ring stakes genesis honest after
  -- No block is announced to a live node that was announced to none of them before.
  pub announced : (n s b p x : ℕ) → T (live n) → T (announced_by ((lives n).came ++ further n) s b p x) → (m : ℕ) × T (live m) × T (announced_by (lives m).came s b p x)
  -- Where the live votes then lean every slot is decided.
  pub going : (after : Lives) → Nodes stakes genesis honest after → ((n : ℕ) → (after n).came ≡ (lives n).came ++ further n) → AllLean stakes live after last_slot
      → (s : ℕ) → 1 ≤ s → s ≤ last_slot → Going stakes live after last_slot s

-- Whatever arrived at a ring's nodes so far, blocks by the policy at the live ones, there is such more.
abbrev pub LiveNoRingStuck : Type 0
LiveNoRingStuck =
    (stakes : List ℕ) (genesis : ℕ → ℕ) (honest live : Test) (lives : Lives) → FedRing stakes genesis honest lives → AnnouncedOnce honest lives
    → LiveEnough stakes honest live → ((n : ℕ) → T (live n) → T (by_policy (fresh stakes n (genesis n)) (lives n).came)) → LiveGoes stakes genesis honest live lives

-- Such more, by whose end every slot is decided, and its certificate written, at every live node; and so at every watcher that counts the live votes.
pub record FifthGoes (stakes : List ℕ) (genesis : ℕ → ℕ) (honest live : Test) (lives : Lives) : Type 0 where
  pub further : ℕ → List Arrival
  pub others : (n : ℕ) → T (not (live n)) → further n ≡ []
  pub ring : (after : Lives) → Nodes stakes genesis honest after → ((n : ℕ) → (after n).came ≡ (lives n).came ++ further n) → Ring stakes genesis honest after
  pub going : (after : Lives) → Nodes stakes genesis honest after → ((n : ℕ) → (after n).came ≡ (lives n).came ++ further n)
      → (s : ℕ) → 1 ≤ s → s ≤ last_slot → Going stakes live after last_slot s

-- NO RING IS STUCK WITH A FIFTH STOPPED: whatever arrived so far, blocks by the policy and no two of a slot at live nodes, there is more that can arrive at the
-- live nodes, by whose end every slot is decided at all of them.
abbrev pub FifthNotStuck : Type 0
FifthNotStuck =
    (stakes : List ℕ) (genesis : ℕ → ℕ) (honest live : Test) (lives : Lives) → FedRing stakes genesis honest lives → AnnouncedOnce honest lives
    → ((n : ℕ) → T (live n) → T (honest n)) → FewStopped stakes honest live → ((n : ℕ) → T (live n) → T (by_policy (fresh stakes n (genesis n)) (lives n).came))
    → OneAnnounced stakes live lives last_slot → FifthGoes stakes genesis honest live lives

-- What is promised with nobody stopped is the case in which every honest node is live.
abbrev pub NobodyStuck : Type 0
NobodyStuck = LiveNoRingStuck → NoRingStuck
