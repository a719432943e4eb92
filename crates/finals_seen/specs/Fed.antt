-- THE HOST'S FORM of the premise over seen lives: what arrived, and what was accepted of it, in place of what stands in the words at the end. That a host
-- sees it of its calls is said in Calls. Each promise is a statement that proofs/ proves under the same name in small letters.
use Rattle.std.specs.Prelude.{◌≡◌, not, List, ℕ, suc, ◌*◌, ◌≤◌, ◌<◌, T, length}
use Rattle.rulebook.specs.Weights.{last_slot, window_of, weight, total_to, is_first}
use Rattle.rulebook.specs.Ledger.{fresh}
use Rattle.rulebook.specs.Taking.{Arrival}
use Rattle.safety.specs.Slot.{Test, notar, final}
use Rattle.safety.specs.Ring.{brought_by}
use Rattle.safety.specs.Watchers.{HoldsGenuine}
use Rattle.finals.specs.Calm.{hasty_in}
use Rattle.finals.specs.Fed.{first_taken}
use Rattle.seen.specs.Seen.{Seen, ledger_in, WatcherSeen}
use Rattle.seen.specs.Ring.{Lives, told_ballot, Ring}
use Rattle.finals_seen.specs.Finals.{LedOn, Led, FinalsIn, Heard}

module _ (stakes : List ℕ) (genesis : ℕ → ℕ) (lives : Lives) (prompt : Test) (block : ℕ → ℕ) where
  -- LED BY WHAT WAS FED, on the parent (p, x): to every prompt node
  pub record LedFed (p x f u : ℕ) : Type 0 where
    pub begins : T (is_first f)
    pub last : u ≤ last_slot
    pub strong : 3 * total_to stakes (length stakes) < 5 * weight stakes (length stakes) prompt
    -- the leader's block was announced before any other of its slot that was accepted;
    pub first : (n : ℕ) → T (prompt n) → T (first_taken (fresh stakes n (genesis n)) (lives n).came f (block f) p x)
    pub next : (n t : ℕ) → T (prompt n) → f ≤ t → suc t ≤ u → T (first_taken (fresh stakes n (genesis n)) (lives n).came (suc t) (block (suc t)) t (block t))
    -- no timeout of such a window was accepted for a slot in which the node had not voted;
    pub patient : (n t : ℕ) → T (prompt n) → f ≤ t → t ≤ u → T (not (hasty_in (fresh stakes n (genesis n)) (lives n).came (window_of t)))
    -- and the notar votes that the others' outboxes told for these blocks were brought.
    pub votes : (n m t : ℕ) → T (prompt n) → T (prompt m) → ¬ (m ≡ n) → f ≤ t → t ≤ u
        → T (told_ballot lives m t (notar (block t))) → T (brought_by (lives n).came t m (notar (block t)))

  -- Their final votes were too.
  abbrev pub FinalsFed : ℕ → ℕ → Type 0
  FinalsFed f u =
      (n m t : ℕ) → T (prompt n) → T (prompt m) → ¬ (m ≡ n) → f ≤ t → t ≤ u → T (told_ballot lives m t final) → T (brought_by (lives n).came t m final)

  -- The prompt nodes' votes for slot t's block are among what arrived: their notar votes, where they have 80 percent, or these and the final votes that
  -- their outboxes told.
  pub data HeardFed (came : List Arrival) (t : ℕ) : Type 0 where
    by_notars : 4 * total_to stakes (length stakes) ≤ 5 * weight stakes (length stakes) prompt
        → ((m : ℕ) → T (prompt m) → T (brought_by came t m (notar (block t)))) → HeardFed came t
    by_finals : ((m : ℕ) → T (prompt m) → T (brought_by came t m (notar (block t))))
        → ((m : ℕ) → T (prompt m) → T (told_ballot lives m t final) × T (brought_by came t m final)) → HeardFed came t

-- What was fed is enough, at the honest nodes of a ring.
abbrev pub FedIsLed : Type 0
FedIsLed =
    (stakes : List ℕ) (genesis : ℕ → ℕ) (honest : Test) (lives : Lives) → Ring stakes genesis honest lives
    → (prompt : Test) → ((n : ℕ) → T (prompt n) → T (honest n)) → (block : ℕ → ℕ) (p x f u : ℕ) → LedFed stakes genesis lives prompt block p x f u
    → LedOn stakes genesis lives prompt block p x f u

abbrev pub FedFinalsIn : Type 0
FedFinalsIn =
    (stakes : List ℕ) (genesis : ℕ → ℕ) (honest : Test) (lives : Lives) → Ring stakes genesis honest lives
    → (prompt : Test) → ((n : ℕ) → T (prompt n) → T (honest n)) → (block : ℕ → ℕ) (f u : ℕ) → Led stakes genesis lives prompt block f u
    → FinalsFed stakes genesis lives prompt block f u → FinalsIn stakes genesis lives prompt block f u

-- So is it at an honest node that is not prompt,
abbrev pub FedIsHeard : Type 0
FedIsHeard =
    (stakes : List ℕ) (genesis : ℕ → ℕ) (honest : Test) (lives : Lives) → Ring stakes genesis honest lives
    → (prompt : Test) → ((n : ℕ) → T (prompt n) → T (honest n)) → (block : ℕ → ℕ) (f u : ℕ) → Led stakes genesis lives prompt block f u
    → (n t : ℕ) → T (honest n) → ¬ T (prompt n) → f ≤ t → t ≤ u → HeardFed stakes genesis lives prompt block (lives n).came t
    → Heard stakes genesis lives prompt block (lives n) t

-- and at a watcher that looks on in good faith.
abbrev pub WatcherFedIsHeard : Type 0
WatcherFedIsHeard =
    (stakes : List ℕ) (genesis : ℕ → ℕ) (honest : Test) (lives : Lives) → Ring stakes genesis honest lives
    → (prompt : Test) → ((n : ℕ) → T (prompt n) → T (honest n)) → (block : ℕ → ℕ) (f u : ℕ) → Led stakes genesis lives prompt block f u
    → (g : ℕ) (v : Seen) → WatcherSeen stakes g v → HoldsGenuine honest (told_ballot lives) (ledger_in v)
    → (t : ℕ) → f ≤ t → t ≤ u → HeardFed stakes genesis lives prompt block v.came t
    → Heard stakes genesis lives prompt block v t
