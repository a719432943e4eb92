-- That it ends: honest nodes' hosts that feed again and again what was cast, announced and timed out have all the mail in after finitely many
-- rounds, and can always do so. Each promise is a statement that proofs/ proves under the same name in small letters.
use Rattle.std.specs.Prelude.{◌≡◌, not, ◌||◌, List, ◌++◌, ℕ, suc, ◌*◌, ◌≤◌, T, length}
use Rattle.rulebook.specs.Weights.{last_slot}
use Rattle.rulebook.specs.Ledger.{fresh, own_cell, no_initial, is_armed}
use Rattle.rulebook.specs.Run.{most_records}
use Rattle.rulebook.specs.Taking.{Arrival}
use Rattle.safety.specs.Slot.{Test, Ballot}
use Rattle.safety.specs.Ring.{brought_by, announced_by, life, cast_by, Ring, FedRing}
use Rattle.chain.specs.OneChain.{OneParent, AnnouncedOnce}
use Rattle.progress.specs.Rest.{is_final_vote}
use Rattle.progress.specs.Progress.{accepted_in, MailIn, Going}
use Rattle.mail.specs.Mail.{timed_out_in}
use Rattle.mail.specs.Policy.{by_policy}
use Rattle.mail.specs.Host.{Asked, MailFed}

-- ROUNDS of feeding, of the slots up to u: what arrived at each node by the end of round k. The ring's premises hold throughout, and by the
-- end of the next round each honest node was fed what was due at the end of this one. In what order, and what else arrives, does not matter.
pub record Rounds (stakes : List ℕ) (genesis : ℕ → ℕ) (honest : Test) (fed : ℕ → ℕ → List Arrival) (u : ℕ) : Type 0 where
  pub more : ℕ → ℕ → List Arrival
  pub go_on : (k n : ℕ) → fed (suc k) n ≡ fed k n ++ more k n
  pub ring : (k : ℕ) → Ring stakes genesis honest (fed k)
  pub one_parent : (k : ℕ) → OneParent stakes genesis honest (fed k)
  pub policy : (k n : ℕ) → T (honest n) → T (by_policy (fresh stakes n (genesis n)) (fed k n))
  -- Due is something that the node accepts;
  pub woken : (k n : ℕ) → T (honest n) → T (accepted_in (fresh stakes n (genesis n)) (fed (suc k) n))
  -- every vote that another honest node has cast, finals aside;
  pub votes : (k n m s : ℕ) (v : Ballot) → T (honest n) → T (honest m) → ¬ (m ≡ n) → 1 ≤ s → s ≤ u → T (not (is_final_vote v))
      → T (cast_by stakes genesis honest (fed k) m s v) → T (brought_by (fed (suc k) n) s m v)
  -- the timeout of every slot of a window that it has armed, unless it has an initial vote there;
  pub timeouts : (k n s : ℕ) → T (honest n) → 1 ≤ s → s ≤ u → T (is_armed (life stakes genesis honest (fed k) n) s)
      → T (not (no_initial (own_cell (life stakes genesis honest (fed (suc k)) n) s)) || timed_out_in (fresh stakes n (genesis n)) (fed (suc k) n) s)
  -- and every block that is asked for.
  pub blocks : (k n m s b p x : ℕ) → T (honest m) → s ≤ u → Asked stakes genesis honest (fed k) n s b p x → T (announced_by (fed (suc k) m) s b p x)

-- A round by whose end the mail was fed and is in, and how soon it comes.
pub record InBy (stakes : List ℕ) (genesis : ℕ → ℕ) (honest : Test) (fed : ℕ → ℕ → List Arrival) (u most : ℕ) : Type 0 where
  pub round : ℕ
  pub soon : round ≤ most
  pub was_fed : MailFed stakes genesis honest (fed round) u
  pub mail : MailIn stakes genesis honest (fed round) u

-- FEEDING ENDS: a node makes at most 132 records, so that within 132 rounds for each node of the table, and one more, there is one in which
-- no honest node makes a record; by its end the mail is in.
abbrev pub FeedingEnds : Type 0
FeedingEnds =
    (stakes : List ℕ) (genesis : ℕ → ℕ) (honest : Test) (fed : ℕ → ℕ → List Arrival) (u : ℕ) → u ≤ last_slot → Rounds stakes genesis honest fed u
    → InBy stakes genesis honest fed u (suc (most_records * length stakes))

-- A round by whose end every slot up to u is decided and its window armed, and how soon it comes.
pub record DecidedBy (stakes : List ℕ) (genesis : ℕ → ℕ) (honest : Test) (fed : ℕ → ℕ → List Arrival) (u most : ℕ) : Type 0 where
  pub round : ℕ
  pub soon : round ≤ most
  pub going : (s : ℕ) → 1 ≤ s → s ≤ u → Going stakes genesis honest (fed round) s

-- So the ring decides every slot, without clocks: after so many rounds at the latest.
abbrev pub RoundsDecide : Type 0
RoundsDecide =
    (stakes : List ℕ) (genesis : ℕ → ℕ) (honest : Test) (fed : ℕ → ℕ → List Arrival) (u : ℕ) → u ≤ last_slot → Rounds stakes genesis honest fed u
    → DecidedBy stakes genesis honest fed u (suc (most_records * length stakes))

-- ---- and it can be done

-- Further arrivals after those of the ring's lives.
pub record Further (stakes : List ℕ) (genesis : ℕ → ℕ) (honest : Test) (fed : ℕ → List Arrival) : Type 0 where
  pub rounds : ℕ → ℕ → List Arrival
  pub begins : (n : ℕ) → rounds 0 n ≡ fed n
  pub feeds : Rounds stakes genesis honest rounds last_slot

-- From any lives of a ring whose blocks came by the policy, its hosts can feed such rounds: what was cast, blocks that are kept somewhere and
-- that the policy allows, and timeouts are enough.
abbrev pub FeedingGoesOn : Type 0
FeedingGoesOn =
    (stakes : List ℕ) (genesis : ℕ → ℕ) (honest : Test) (fed : ℕ → List Arrival) → FedRing stakes genesis honest fed → AnnouncedOnce stakes genesis honest fed
    → ((n : ℕ) → T (honest n) → T (by_policy (fresh stakes n (genesis n)) (fed n))) → Further stakes genesis honest fed

-- What arrived by some later time, after the ring's lives so far, and that every slot is decided by then.
pub record Goes (stakes : List ℕ) (genesis : ℕ → ℕ) (honest : Test) (fed : ℕ → List Arrival) : Type 0 where
  pub arrived : ℕ → List Arrival
  pub later : ℕ → List Arrival
  pub go_on : (n : ℕ) → arrived n ≡ fed n ++ later n
  pub going : (s : ℕ) → 1 ≤ s → s ≤ last_slot → Going stakes genesis honest arrived s

-- SO NO RING IS STUCK: from any such lives every slot can still be decided, at every honest node.
abbrev pub NoRingStuck : Type 0
NoRingStuck =
    (stakes : List ℕ) (genesis : ℕ → ℕ) (honest : Test) (fed : ℕ → List Arrival) → FedRing stakes genesis honest fed → AnnouncedOnce stakes genesis honest fed
    → ((n : ℕ) → T (honest n) → T (by_policy (fresh stakes n (genesis n)) (fed n))) → Goes stakes genesis honest fed
