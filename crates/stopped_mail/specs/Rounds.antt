-- That it ends with a fifth stopped too: hosts of live nodes that feed again and again what these cast, what is asked for and what has timed out
-- have all the mail in after finitely many rounds. Each promise is a statement that proofs/ proves under the same name in small letters.
use Rattle.std.specs.Prelude.{◌≡◌, not, ◌||◌, List, [], ◌++◌, ℕ, suc, ◌*◌, ◌≤◌, T, length}
use Rattle.rulebook.specs.Weights.{last_slot}
use Rattle.rulebook.specs.Ledger.{fresh, own_cell, no_initial, is_armed}
use Rattle.rulebook.specs.Run.{most_records}
use Rattle.rulebook.specs.Taking.{Arrival}
use Rattle.safety.specs.Slot.{Test, Ballot}
use Rattle.safety.specs.Ring.{brought_by, announced_by, life, cast_by, Ring, FedRing}
use Rattle.chain.specs.OneChain.{OneParent, AnnouncedOnce}
use Rattle.progress.specs.Rest.{is_final_vote}
use Rattle.progress.specs.Progress.{accepted_in, Going}
use Rattle.mail.specs.Mail.{timed_out_in}
use Rattle.mail.specs.Policy.{by_policy}
use Rattle.mail.specs.Rounds.{DecidedBy, Goes, NoRingStuck}
use Rattle.stopped.specs.Stopped.{LiveEnough, FewStopped, LiveMailIn, AllLean, OneBlock}
use Rattle.stopped_mail.specs.Fed.{LiveAsked, OneAnnounced}

-- ROUNDS of feeding the live nodes, of the slots up to u, as those of `mail`: by the end of the next round each live node was fed what was due at the
-- end of this one. What else arrives, and what the others are fed, does not matter.
pub record LiveRounds (stakes : List ℕ) (genesis : ℕ → ℕ) (honest live : Test) (fed : ℕ → ℕ → List Arrival) (u : ℕ) : Type 0 where
  pub more : ℕ → ℕ → List Arrival
  pub go_on : (k n : ℕ) → fed (suc k) n ≡ fed k n ++ more k n
  pub ring : (k : ℕ) → Ring stakes genesis honest (fed k)
  pub one_parent : (k : ℕ) → OneParent stakes genesis honest (fed k)
  pub honest_too : (n : ℕ) → T (live n) → T (honest n)
  pub policy : (k n : ℕ) → T (live n) → T (by_policy (fresh stakes n (genesis n)) (fed k n))
  -- Due is something that the node accepts;
  pub woken : (k n : ℕ) → T (live n) → T (accepted_in (fresh stakes n (genesis n)) (fed (suc k) n))
  -- every vote that another live node has cast, finals aside;
  pub votes : (k n m s : ℕ) (v : Ballot) → T (live n) → T (live m) → ¬ (m ≡ n) → 1 ≤ s → s ≤ u → T (not (is_final_vote v))
      → T (cast_by stakes genesis honest (fed k) m s v) → T (brought_by (fed (suc k) n) s m v)
  -- the timeout of every slot of a window that it has armed, unless it has an initial vote there;
  pub timeouts : (k n s : ℕ) → T (live n) → 1 ≤ s → s ≤ u → T (is_armed (life stakes genesis honest (fed k) n) s)
      → T (not (no_initial (own_cell (life stakes genesis honest (fed (suc k)) n) s)) || timed_out_in (fresh stakes n (genesis n)) (fed (suc k) n) s)
  -- and every block that is asked for.
  pub blocks : (k n m s b p x : ℕ) → T (live m) → s ≤ u → LiveAsked stakes genesis honest live (fed k) n s b p x → T (announced_by (fed (suc k) m) s b p x)

-- A round by whose end the mail of the live nodes is in, and how soon it comes.
pub record LiveInBy (stakes : List ℕ) (genesis : ℕ → ℕ) (honest live : Test) (fed : ℕ → ℕ → List Arrival) (u most : ℕ) : Type 0 where
  pub round : ℕ
  pub soon : round ≤ most
  pub mail : LiveMailIn stakes genesis honest live (fed round) u

-- FEEDING ENDS: within 132 rounds for each node of the table, and one more, the mail of the live nodes is in.
abbrev pub LiveFeedingEnds : Type 0
LiveFeedingEnds =
    (stakes : List ℕ) (genesis : ℕ → ℕ) (honest live : Test) (fed : ℕ → ℕ → List Arrival) (u : ℕ) → u ≤ last_slot → LiveRounds stakes genesis honest live fed u
    → LiveInBy stakes genesis honest live fed u (suc (most_records * length stakes))

-- So every slot up to u is decided at every live node by then, where these voted for one block a slot and at most a fifth has stopped.
abbrev pub LiveRoundsDecide : Type 0
LiveRoundsDecide =
    (stakes : List ℕ) (genesis : ℕ → ℕ) (honest live : Test) (fed : ℕ → ℕ → List Arrival) (u : ℕ) → u ≤ last_slot → LiveRounds stakes genesis honest live fed u
    → FewStopped stakes genesis honest live (fed 0) → ((k : ℕ) → OneBlock stakes genesis honest live (fed k) u)
    → DecidedBy stakes genesis live fed u (suc (most_records * length stakes))

-- ---- and it can be done

-- More that can arrive at the live nodes, after the ring's lives so far.
pub record LiveGoes (stakes : List ℕ) (genesis : ℕ → ℕ) (honest live : Test) (fed : ℕ → List Arrival) : Type 0 where
  pub arrived : ℕ → List Arrival
  pub later : ℕ → List Arrival
  pub go_on : (n : ℕ) → arrived n ≡ fed n ++ later n
  -- At the others nothing arrives: who has stopped has stopped.
  pub others : (n : ℕ) → T (not (live n)) → later n ≡ []
  pub ring : Ring stakes genesis honest arrived
  -- No block is announced to a live node that was announced to none of them before.
  pub announced : (n s b p x : ℕ) → T (live n) → T (announced_by (arrived n) s b p x) → (m : ℕ) × T (live m) × T (announced_by (fed m) s b p x)
  -- Where the live votes then lean the mail is in, and every slot is decided.
  pub mail : AllLean stakes genesis honest live arrived last_slot → LiveMailIn stakes genesis honest live arrived last_slot
  pub going : AllLean stakes genesis honest live arrived last_slot → (s : ℕ) → 1 ≤ s → s ≤ last_slot → Going stakes genesis live arrived s

-- From any lives of a ring in which the blocks came by the policy at the live nodes there is such more: what these cast, the blocks that they keep, as the
-- policy allows, and timeouts are enough.
abbrev pub LiveNoRingStuck : Type 0
LiveNoRingStuck =
    (stakes : List ℕ) (genesis : ℕ → ℕ) (honest live : Test) (fed : ℕ → List Arrival) → FedRing stakes genesis honest fed → AnnouncedOnce stakes genesis honest fed
    → LiveEnough stakes genesis honest live fed → ((n : ℕ) → T (live n) → T (by_policy (fresh stakes n (genesis n)) (fed n)))
    → LiveGoes stakes genesis honest live fed

-- NO RING IS STUCK WITH A FIFTH STOPPED: where at most a fifth has stopped, and no two blocks of a slot were announced to live nodes, every slot can still be
-- decided at every live node.
abbrev pub FifthNotStuck : Type 0
FifthNotStuck =
    (stakes : List ℕ) (genesis : ℕ → ℕ) (honest live : Test) (fed : ℕ → List Arrival) → FedRing stakes genesis honest fed → AnnouncedOnce stakes genesis honest fed
    → ((n : ℕ) → T (live n) → T (honest n)) → FewStopped stakes genesis honest live fed
    → ((n : ℕ) → T (live n) → T (by_policy (fresh stakes n (genesis n)) (fed n))) → OneAnnounced stakes genesis honest live fed last_slot
    → Goes stakes genesis live fed

-- What `mail` promises with nobody stopped is its case: honest votes lean, whatever blocks they are for.
abbrev pub NobodyStuck : Type 0
NobodyStuck = LiveNoRingStuck → NoRingStuck
