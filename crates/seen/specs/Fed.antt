-- THE HOST'S FORM of progress over seen lives: what arrived, in place of what stands in the words at the end. Whether something that arrived was
-- answered 0, and whether blocks arrived by the policy, is said by the rule book on what arrived; that a host sees it of its calls is said in `calls`.
use Rattle.std.specs.Prelude.{◌≡◌, Bool, not, ◌&&◌, ◌||◌, List, ◌++◌, ℕ, suc, ◌*◌, ◌≤◌, T, length}
use Rattle.rulebook.specs.Weights.{last_slot, total_to, reaches, is_first}
use Rattle.rulebook.specs.Ledger.{none, fresh, cell_at, no_initial, blocks_at, some_block, is_free, has_number, keeps_block}
use Rattle.rulebook.specs.Rules.{fallback_weights}
use Rattle.rulebook.specs.Run.{most_records}
use Rattle.rulebook.specs.Taking.{Arrival}
use Rattle.safety.specs.Slot.{Test, Ballot, notar}
use Rattle.safety.specs.Ballots.{has}
use Rattle.safety.specs.Ring.{brought_by, announced_by}
use Rattle.safety.specs.Watchers.{HoldsGenuine}
use Rattle.progress.specs.Rest.{is_final_vote}
use Rattle.progress.specs.Progress.{accepted_in}
use Rattle.mail.specs.Mail.{timed_out_in}
use Rattle.mail.specs.Policy.{may_announce, by_policy, ParentFits}
use Rattle.seen.specs.Seen.{Seen, ledger_in, NodeSeen, WatcherSeen, Earlier}
use Rattle.seen.specs.Ring.{Lives, told_ballot, counted_ballot, Nodes, Ring, FedRing}
use Rattle.seen.specs.Chain.{block_kept, OneParent, AnnouncedOnce}
use Rattle.seen.specs.Progress.{armed_in, told_stake, MailIn, Going}

-- ---- one life

-- A node that answered 0 to the timeout of a slot has an initial vote in it in its words from then on.
abbrev pub TimedOutIsEnough : Type 0
TimedOutIsEnough =
    (stakes : List ℕ) (own genesis : ℕ) (life : Seen) → NodeSeen stakes own genesis life → (s : ℕ) → T (timed_out_in (fresh stakes own genesis) life.came s)
    → T (not (no_initial (cell_at (ledger_in life) s own)))

-- THE POLICY HAS ROOM: in the words of a life by the policy a block that may be announced, and is not kept yet, finds a free place.
abbrev pub PolicyHasRoom : Type 0
PolicyHasRoom =
    (stakes : List ℕ) (own genesis : ℕ) (life : Seen) → NodeSeen stakes own genesis life → T (by_policy (fresh stakes own genesis) life.came)
    → (s b : ℕ) → 1 ≤ s → s ≤ last_slot → T (not (none b)) → T (may_announce (ledger_in life) s b)
    → T (not (some_block (has_number b) (blocks_at (ledger_in life) s)))
    → T (some_block is_free (blocks_at (ledger_in life) s))

-- So every block that was announced by the policy is kept in the words, unless they keep its number with another parent.
abbrev pub AnnouncedIsKept : Type 0
AnnouncedIsKept =
    (stakes : List ℕ) (own genesis : ℕ) (life : Seen) → NodeSeen stakes own genesis life → T (by_policy (fresh stakes own genesis) life.came)
    → (s b p x : ℕ) → 1 ≤ s → s ≤ last_slot → ParentFits genesis s p x → T (announced_by life.came s b p x)
    → ((q y : ℕ) → T (keeps_block (ledger_in life) s b q y) → (p ≡ q) × (x ≡ y))
    → T (keeps_block (ledger_in life) s b p x)

-- ---- the ring

-- A vote that an honest node's outbox told, and that arrived at another honest node at any moment, alone or in a tray, is counted in that node's words,
-- whatever number was answered.
abbrev pub FedIsEnough : Type 0
FedIsEnough =
    (stakes : List ℕ) (genesis : ℕ → ℕ) (honest : Test) (lives : Lives) → Ring stakes genesis honest lives
    → (n m s : ℕ) (v : Ballot) → T (honest n) → T (honest m) → ¬ (m ≡ n) → 1 ≤ s → s ≤ last_slot
    → T (told_ballot lives m s v) → T (brought_by (lives n).came s m v) → T (counted_ballot lives n m s v)

-- The same of a watcher whose words count and keep what is genuine.
abbrev pub WatcherFedIsEnough : Type 0
WatcherFedIsEnough =
    (stakes : List ℕ) (genesis : ℕ → ℕ) (honest : Test) (lives : Lives) → Ring stakes genesis honest lives
    → (g : ℕ) (life : Seen) → WatcherSeen stakes g life → HoldsGenuine honest (told_ballot lives) (ledger_in life)
    → (m s : ℕ) (v : Ballot) → T (honest m) → 1 ≤ s → s ≤ last_slot
    → T (told_ballot lives m s v) → T (brought_by life.came s m v) → T (has (cell_at (ledger_in life) s m) v)

-- The stake table, which nodes are honest, and each node's life.
module _ (stakes : List ℕ) (honest : Test) (lives : Lives) where
  -- Block b of slot s is asked for, with the parent (p, x): outside first slots, honest outboxes' notar votes for it reach 40, and honest node
  -- n, whose outbox told one, keeps it in its words with that parent.
  pub record Asked (n s b p x : ℕ) : Type 0 where
    pub next : T (not (is_first s))
    pub voter : T (honest n)
    pub voted : T (told_ballot lives n s (notar b))
    pub kept : T (block_kept lives n s b p x)
    pub heavy : T (reaches 2 (total_to stakes (length stakes)) (told_stake stakes honest lives s b))

-- THE MAIL WAS FED, for the slots up to u, to the honest nodes:
module _ (stakes : List ℕ) (genesis : ℕ → ℕ) (honest : Test) (lives : Lives) where
  pub record MailFed (u : ℕ) : Type 0 where
    -- something that each answered 0;
    pub woken : (n : ℕ) → T (honest n) → T (accepted_in (fresh stakes n (genesis n)) (lives n).came)
    -- every vote, finals aside, that another honest node's outbox told;
    pub votes : (n m s : ℕ) (v : Ballot) → T (honest n) → T (honest m) → ¬ (m ≡ n) → 1 ≤ s → s ≤ u → T (not (is_final_vote v))
        → T (told_ballot lives m s v) → T (brought_by (lives n).came s m v)
    -- a timeout, answered 0, of every slot of an armed window in which it has no initial vote;
    pub timeouts : (n s : ℕ) → T (honest n) → 1 ≤ s → s ≤ u → T (armed_in (lives n) s)
        → T (not (no_initial (cell_at (ledger_in (lives n)) s n)) || timed_out_in (fresh stakes n (genesis n)) (lives n).came s)
    -- every block that is asked for, and all blocks by the policy.
    pub blocks : (n m s b p x : ℕ) → T (honest m) → s ≤ u → Asked stakes honest lives n s b p x → T (announced_by (lives m).came s b p x)
    pub policy : (n : ℕ) → T (honest n) → T (by_policy (fresh stakes n (genesis n)) (lives n).came)

-- What was fed is enough: where the mail was fed it is in, a number having one parent everywhere.
abbrev pub MailFedIsEnough : Type 0
MailFedIsEnough =
    (stakes : List ℕ) (genesis : ℕ → ℕ) (honest : Test) (lives : Lives) → Ring stakes genesis honest lives → OneParent honest lives
    → (u : ℕ) → u ≤ last_slot → MailFed stakes genesis honest lives u → MailIn stakes honest lives u

-- And the policy lets every such block be announced: a block that is asked for has rule D's weights in every honest node's words in which the
-- honest notar votes for it are counted.
abbrev pub AskedBlocksWeigh : Type 0
AskedBlocksWeigh =
    (stakes : List ℕ) (genesis : ℕ → ℕ) (honest : Test) (lives : Lives) → Ring stakes genesis honest lives
    → (n m s b p x : ℕ) → T (honest m) → Asked stakes honest lives n s b p x
    → ((k : ℕ) → T (honest k) → T (told_ballot lives k s (notar b)) → T (counted_ballot lives m k s (notar b)))
    → T (fallback_weights (ledger_in (lives m)) s b)

-- THE RING NEVER HANGS, all of it over what arrives: where the mail of the slots up to u was fed each of them is decided, its window armed, and its
-- certificate written at every honest node.
abbrev pub FedNeverHangs : Type 0
FedNeverHangs =
    (stakes : List ℕ) (genesis : ℕ → ℕ) (honest : Test) (lives : Lives) → FedRing stakes genesis honest lives → AnnouncedOnce honest lives
    → (u : ℕ) → u ≤ last_slot → MailFed stakes genesis honest lives u → (s : ℕ) → 1 ≤ s → s ≤ u → Going stakes honest lives u s

-- ---- that it ends

-- ROUNDS of feeding, of the slots up to u: each node's life by the end of round k, which goes on from one start. The ring's premises hold throughout,
-- and by the end of the next round each honest node was fed what was due at the end of this one. In what order, and what else arrives, does not matter.
pub record Rounds (stakes : List ℕ) (genesis : ℕ → ℕ) (honest : Test) (lives : ℕ → Lives) (u : ℕ) : Type 0 where
  pub go_on : (k n : ℕ) → Earlier (lives k n) (lives (suc k) n)
  pub ring : (k : ℕ) → Ring stakes genesis honest (lives k)
  pub one_parent : (k : ℕ) → OneParent honest (lives k)
  pub policy : (k n : ℕ) → T (honest n) → T (by_policy (fresh stakes n (genesis n)) (lives k n).came)
  -- Due is something that is answered 0;
  pub woken : (k n : ℕ) → T (honest n) → T (accepted_in (fresh stakes n (genesis n)) (lives (suc k) n).came)
  -- every vote that another honest node's outbox has told, finals aside;
  pub votes : (k n m s : ℕ) (v : Ballot) → T (honest n) → T (honest m) → ¬ (m ≡ n) → 1 ≤ s → s ≤ u → T (not (is_final_vote v))
      → T (told_ballot (lives k) m s v) → T (brought_by (lives (suc k) n).came s m v)
  -- the timeout of every slot of a window that it has armed, unless it has an initial vote there;
  pub timeouts : (k n s : ℕ) → T (honest n) → 1 ≤ s → s ≤ u → T (armed_in (lives k n) s)
      → T (not (no_initial (cell_at (ledger_in (lives (suc k) n)) s n)) || timed_out_in (fresh stakes n (genesis n)) (lives (suc k) n).came s)
  -- and every block that is asked for.
  pub blocks : (k n m s b p x : ℕ) → T (honest m) → s ≤ u → Asked stakes honest (lives k) n s b p x
      → T (announced_by (lives (suc k) m).came s b p x)

-- A round by whose end the mail is in, and how soon it comes.
pub record InBy (stakes : List ℕ) (honest : Test) (lives : ℕ → Lives) (u most : ℕ) : Type 0 where
  pub round : ℕ
  pub soon : round ≤ most
  pub mail : MailIn stakes honest (lives round) u

-- FEEDING ENDS: a node's outbox tells at most 132 records, so that within 132 rounds for each node of the table, and one more, the mail is in,
abbrev pub FeedingEnds : Type 0
FeedingEnds =
    (stakes : List ℕ) (genesis : ℕ → ℕ) (honest : Test) (lives : ℕ → Lives) (u : ℕ) → u ≤ last_slot → Rounds stakes genesis honest lives u
    → InBy stakes honest lives u (suc (most_records * length stakes))

-- A round by whose end every slot up to u is decided and its window armed, and how soon it comes.
pub record DecidedBy (stakes : List ℕ) (honest : Test) (lives : ℕ → Lives) (u most : ℕ) : Type 0 where
  pub round : ℕ
  pub soon : round ≤ most
  pub going : (s : ℕ) → 1 ≤ s → s ≤ u → Going stakes honest (lives round) u s

-- and every slot up to u decided.
abbrev pub RoundsDecide : Type 0
RoundsDecide =
    (stakes : List ℕ) (genesis : ℕ → ℕ) (honest : Test) (lives : ℕ → Lives) (u : ℕ) → u ≤ last_slot → Rounds stakes genesis honest lives u
    → DecidedBy stakes honest lives u (suc (most_records * length stakes))

-- ---- and it can be done

-- Further arrivals after each node's own: whatever lives go on with these are a ring still, and every slot is decided in it.
pub record Goes (stakes : List ℕ) (genesis : ℕ → ℕ) (honest : Test) (lives : Lives) : Type 0 where
  pub further : ℕ → List Arrival
  pub ring : (after : Lives) → Nodes stakes genesis honest after → ((n : ℕ) → (after n).came ≡ (lives n).came ++ further n) → Ring stakes genesis honest after
  pub going : (after : Lives) → Nodes stakes genesis honest after → ((n : ℕ) → (after n).came ≡ (lives n).came ++ further n)
      → (s : ℕ) → 1 ≤ s → s ≤ last_slot → Going stakes honest after last_slot s

-- SO NO RING IS STUCK: whatever arrived at a ring's nodes so far, blocks by the policy, there is more that can arrive, by whose end every slot is
-- decided at every honest node.
abbrev pub NoRingStuck : Type 0
NoRingStuck =
    (stakes : List ℕ) (genesis : ℕ → ℕ) (honest : Test) (lives : Lives) → FedRing stakes genesis honest lives → AnnouncedOnce honest lives
    → ((n : ℕ) → T (honest n) → T (by_policy (fresh stakes n (genesis n)) (lives n).came)) → Goes stakes genesis honest lives
