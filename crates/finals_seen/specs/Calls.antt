-- PATIENCE AND FIRST BLOCKS as a host sees them, call by call: what it called, what was answered, and the words that each call found. Each promise is a
-- statement that proofs/ proves under the same name in small letters.
use Rattle.std.specs.Prelude.{◌≡◌, Bool, false, not, ◌&&◌, ◌||◌, List, ℕ, suc, ◌≤◌, T, eqb}
use Rattle.rulebook.specs.declared.Input.TheVariants as input
use Rattle.rulebook.specs.Weights.{last_slot, window_of}
use Rattle.rulebook.specs.Ledger.{fresh, cell_at, no_initial}
use Rattle.rulebook.specs.Taking.{of_input}
use Rattle.safety.specs.Slot.{Test, notar}
use Rattle.safety.specs.Ballots.{announces}
use Rattle.safety.specs.Ring.{brought_by}
use Rattle.finals.specs.Calm.{hasty_in}
use Rattle.finals.specs.Fed.{is_block_of, first_taken}
use Rattle.seen.specs.Seen.{Seen, ledger_in}
use Rattle.seen.specs.Ring.{Lives, told_ballot, FedRing}
use Rattle.seen.specs.Chain.{AnnouncedOnce}
use Rattle.calls.specs.Operation.{Operation, one_input, a_tray, a_packet}
use Rattle.calls.specs.Life.{Calls, none, then, not_started, not_watched, Life}
use Rattle.finals_seen.specs.Finals.{Proved, Told}

-- ---- patience

-- A call of qr_timeout, or a step with a timeout, for a slot of window w in which the words that it found have no initial vote of node own: neither notar
-- nor skip, as qr_kept_votes reads them.
abbrev pub is_hasty : ℕ → Seen → Operation → ℕ → Bool
is_hasty own v (one_input (input.Vote x)) w = false
is_hasty own v (one_input (input.Block s b)) w = false
is_hasty own v (one_input (input.Timeout t)) w = eqb (window_of t.0) w && no_initial (cell_at (ledger_in v) t.0 own)
is_hasty own v (one_input input.Look) w = false
is_hasty own v (a_tray votes places answers) w = false
is_hasty own v (a_packet packet) w = false

-- One of the calls was, and was answered 0.
unfoldable pub hasty_by : ℕ → {v w : Seen} → Calls v w → ℕ → Bool
hasty_by own none w = false
hasty_by own (then {w = x} k o lent number made words left m) w = hasty_by own k w || (is_hasty own x o w && eqb number 0)
hasty_by own (not_started k stakes other genesis number words s n) w = hasty_by own k w
hasty_by own (not_watched k stakes genesis number words s n) w = hasty_by own k w

abbrev pub PatientSeen : Type 0
PatientSeen =
    (stakes : List ℕ) (own genesis : ℕ) (v : Seen) (h : Life stakes own genesis v) (w : ℕ) → T (not (hasty_by own h.calls w))
    → T (not (hasty_in (fresh stakes own genesis) v.came w))

-- ---- first blocks

-- A call of qr_block, or a step with a block, of slot s; and one with block b of slot s and the parent (p, x).
abbrev pub of_block : Operation → ℕ → Bool
of_block (one_input i) s = is_block_of (of_input i) s
of_block (a_tray votes places answers) s = false
of_block (a_packet packet) s = false

abbrev pub with_block : Operation → ℕ → ℕ → ℕ → ℕ → Bool
with_block (one_input i) s b p x = announces (of_input i) s b p x
with_block (a_tray votes places answers) s b p x = false
with_block (a_packet packet) s b p x = false

-- One of the calls was with a block of slot s, and was answered 0.
unfoldable pub taken_by : {v w : Seen} → Calls v w → ℕ → Bool
taken_by none s = false
taken_by (then k o lent number made words left m) s = taken_by k s || (of_block o s && eqb number 0)
taken_by (not_started k stakes own genesis number words t n) s = taken_by k s
taken_by (not_watched k stakes genesis number words t n) s = taken_by k s

-- The first of them was with block b and the parent (p, x).
unfoldable pub first_by : {v w : Seen} → Calls v w → (s b p x : ℕ) → Bool
first_by none s b p x = false
first_by (then k o lent number made words left m) s b p x = first_by k s b p x || (not (taken_by k s) && (with_block o s b p x && eqb number 0))
first_by (not_started k stakes own genesis number words t n) s b p x = first_by k s b p x
first_by (not_watched k stakes genesis number words t n) s b p x = first_by k s b p x

abbrev pub FirstSeen : Type 0
FirstSeen =
    (stakes : List ℕ) (own genesis : ℕ) (v : Seen) (h : Life stakes own genesis v) (s b p x : ℕ) → T (first_by h.calls s b p x)
    → T (first_taken (fresh stakes own genesis) v.came s b p x)

-- ---- all of it as hosts see it

-- The first window is led on genesis g by all honest nodes, as their hosts see it: each node's calls since its start was answered 0.
pub record LedByCalls (stakes : List ℕ) (honest : Test) (lives : Lives) (block : ℕ → ℕ) (g u : ℕ) : Type 0 where
  pub last : u ≤ last_slot
  pub life : (n : ℕ) → T (honest n) → Life stakes n g (lives n)
  -- The leader's block was the first of its slot that was answered 0, in slot 1 on genesis, then each on the one before;
  pub first : (n : ℕ) (h : T (honest n)) → T (first_by (life n h).calls 1 (block 1) 0 g)
  pub next : (n t : ℕ) (h : T (honest n)) → 1 ≤ t → suc t ≤ u → T (first_by (life n h).calls (suc t) (block (suc t)) t (block t))
  -- no timeout was answered 0 for a slot in which the node had not voted;
  pub patient : (n t : ℕ) (h : T (honest n)) → 1 ≤ t → t ≤ u → T (not (hasty_by n (life n h).calls (window_of t)))
  -- and each notar vote that another honest outbox told for these blocks was brought.
  pub votes : (n m t : ℕ) → T (honest n) → T (honest m) → ¬ (m ≡ n) → 1 ≤ t → t ≤ u
      → T (told_ballot lives m t (notar (block t))) → T (brought_by (lives n).came t m (notar (block t)))

-- BLOCKS ARE FINAL, all of it over what hosts call and read: what arrives is genuine, no block is announced with two parents, the first window is led well.
-- Then every honest node's outbox told (6, t, block t), its reader of final blocks answers that block, and its proof is written and accepted.
abbrev pub CallsMakeFinal : Type 0
CallsMakeFinal =
    (stakes : List ℕ) (honest : Test) (lives : Lives) (g : ℕ) → FedRing stakes (λ n. g) honest lives → AnnouncedOnce honest lives
    → (block : ℕ → ℕ) (u : ℕ) → LedByCalls stakes honest lives block g u
    → (n t : ℕ) → T (honest n) → 1 ≤ t → t ≤ u → Proved stakes (lives n) t (block t) × Told stakes (lives n) t (block t)
