-- What a host feeds is enough: a vote that an honest node cast ends in the pool, and a timeout in an own initial vote, whatever else the node
-- was fed. Each promise is a statement that proofs/ proves under the same name in small letters.
use Rattle.std.specs.Prelude.{◌≡◌, Bool, false, not, ◌&&◌, ◌||◌, List, [], ◌∷◌, ℕ, ◌≤◌, T, eqb, Ok}
use Rattle.rulebook.specs.declared.Input.TheVariants as input
use Rattle.rulebook.specs.Weights.{last_slot}
use Rattle.rulebook.specs.Ledger.{Ledger, fresh, cell_at, own_cell, no_initial}
use Rattle.rulebook.specs.Inputs.{start_verdict, watch_verdict}
use Rattle.rulebook.specs.Taking.{Arrival, of_input, of_packet, served}
use Rattle.watchers.specs.Watching.{is_done}
use Rattle.safety.specs.Slot.{Test, Ballot}
use Rattle.safety.specs.Ballots.{has}
use Rattle.safety.specs.Ring.{after_all, brought_by, life, cast_by, Ring}
use Rattle.safety.specs.Watchers.{watched, HoldsGenuine}

-- ---- votes

-- A vote that an honest node cast, and that was fed to another honest node at any moment, stands in that node's pool at the end: it was there
-- already, or its place was free. 7 says the first; 8 is never due, since another vote in its place would be one that the same node cast.
abbrev pub FedIsEnough : Type 0
FedIsEnough =
    (stakes : List ℕ) (genesis : ℕ → ℕ) (honest : Test) (fed : ℕ → List Arrival) → Ring stakes genesis honest fed
    → (n m s : ℕ) (v : Ballot) → T (honest n) → T (honest m) → ¬ (m ≡ n) → 1 ≤ s → s ≤ last_slot
    → T (cast_by stakes genesis honest fed m s v) → T (brought_by (fed n) s m v) → T (has (cell_at (life stakes genesis honest fed n) s m) v)

-- The same of a watcher whose pool holds what is genuine.
abbrev pub WatcherFedIsEnough : Type 0
WatcherFedIsEnough =
    (stakes : List ℕ) (genesis : ℕ → ℕ) (honest : Test) (fed : ℕ → List Arrival) → Ring stakes genesis honest fed
    → (g : ℕ) → watch_verdict stakes g ≡ Ok tt → (lived : List Arrival) → HoldsGenuine honest (cast_by stakes genesis honest fed) (watched stakes g lived)
    → (m s : ℕ) (v : Ballot) → T (honest m) → 1 ≤ s → s ≤ last_slot
    → T (cast_by stakes genesis honest fed m s v) → T (brought_by lived s m v) → T (has (cell_at (watched stakes g lived) s m) v)

-- ---- timeouts

-- What arrives is the timeout of slot s.
abbrev pub times_out : Arrival → ℕ → Bool
times_out (of_input (input.Vote w)) s = false
times_out (of_input (input.Block t b)) s = false
times_out (of_input (input.Timeout t)) s = eqb t.0 s
times_out (of_input input.Look) s = false
times_out (of_packet bytes) s = false

-- One of the arrivals, from ledger l on, was the timeout of slot s, and accepted.
unfoldable pub timed_out_in : Ledger → List Arrival → ℕ → Bool
timed_out_in l [] s = false
timed_out_in l (i ∷ is) s = (times_out i s && is_done (served l i).answer) || timed_out_in (served l i).ledger is s

-- A node that accepted the timeout of a slot has an initial vote in it from then on.
abbrev pub TimedOutIsEnough : Type 0
TimedOutIsEnough =
    (stakes : List ℕ) (me genesis : ℕ) → start_verdict stakes me genesis ≡ Ok tt → (lived : List Arrival) (s : ℕ) → T (timed_out_in (fresh stakes me genesis) lived s)
    → T (not (no_initial (own_cell (after_all (fresh stakes me genesis) lived) s)))
