-- ACKNOWLEDGING ONE SLOT CANNOT QUIETEN ANOTHER, over what is seen of a life, a node's or a watcher's: what a call leaves of the slots that nothing
-- names that arrived with it.
use Rattle.std.specs.Prelude.{◌≡◌, Bool, false, ◌&&◌, ◌||◌, List, [], ◌∷◌, ℕ, eqb, leb, get_or}
use Rattle.rulebook.specs.declared.Input.TheVariants as input
use Rattle.rulebook.specs.Certificates.{Found, Whole, Early, Malformed}
use Rattle.rulebook.specs.Packets.{certificate_at}
use Rattle.rulebook.specs.Ledger.{Row, no_cell, row_at}
use Rattle.rulebook.specs.Rules.{Record}
use Rattle.rulebook.specs.Taking.{Arrival, of_input, of_packet}
use Rattle.record.specs.Layout.{ledger_of}
use Rattle.answers.specs.Face.{Stepped}
use Rattle.seen.specs.Seen.{Seen, ledger_in, Alive}
use Rattle.calls.specs.Operation.{Operation, fed_by, first_records}
use Rattle.calls.specs.Life.{Met}
use Rattle.told.specs.Told.{count_of, tells}

-- The certificate that was read is for slot s.
unfoldable pub is_for : Found → ℕ → Bool
is_for (Whole c next) s = eqb c.slot s
is_for Early s = false
is_for Malformed s = false

-- What arrives names slot s: a vote, a block and a timeout their slot, a packet that of the certificate that it begins with, a look none.
unfoldable pub names : Arrival → ℕ → Bool
names (of_input (input.Vote v)) s = eqb v.slot.0 s
names (of_input (input.Block t b)) s = eqb t.0 s
names (of_input (input.Timeout t)) s = eqb t.0 s
names (of_input input.Look) s = false
names (of_packet bytes) s = is_for (certificate_at bytes 0) s

-- One of the arrivals does: of a tray one of its votes.
unfoldable pub some_names : List Arrival → ℕ → Bool
some_names [] s = false
some_names (i ∷ is) s = names i s || some_names is s

-- The record is an own vote for slot s, of whichever kind.
abbrev pub casts : ℕ → Record → Bool
casts s r = leb r.kind 5 && eqb r.slot s

-- From row a to row b of slot s, with these records told: what other nodes voted, the kept blocks, the kept certificates and the timed-out mark are exactly as
-- found. Own votes and the card are too where no own vote for the slot was told, the final mark where no (6, s, _) was, the mark of another where no (8, s, _) was.
pub record Apart (own : ℕ) (told : List Record) (s : ℕ) (a b : Row) : Type 0 where
  pub votes : (n : ℕ) → ¬ (n ≡ own) → get_or b.cells n no_cell ≡ get_or a.cells n no_cell
  pub blocks : b.blocks ≡ a.blocks
  pub certificates : b.certificates ≡ a.certificates
  pub timed_out : b.timed_out ≡ a.timed_out
  pub own_votes : count_of (casts s) told ≡ 0 → get_or b.cells own no_cell ≡ get_or a.cells own no_cell
  pub card : count_of (casts s) told ≡ 0 → b.card ≡ a.card
  pub final : count_of (tells 6 s) told ≡ 0 → b.final ≡ a.final
  pub another : count_of (tells 8 s) told ≡ 0 → b.clash ≡ a.clash

-- Whatever the call and its answer: so it is of every slot that nothing names that arrived with it, with the records of that very call's outbox.
abbrev pub OtherSlotsStay : Type 0
OtherSlotsStay =
    (stakes : List ℕ) (genesis : ℕ) (v : Seen) → Alive stakes genesis v
    → (o : Operation) (lent : List ℕ) (number made : ℕ) (words left : List ℕ) → Met o v.words lent number made words left
    → (s : ℕ) → some_names (fed_by o lent) s ≡ false → Apart (ledger_in v).own (first_records made left) s (row_at (ledger_in v) s) (row_at (ledger_of words) s)

-- What a call leaves that changes nothing: record and outbox as found.
pub record AsFound (ws lent words left : List ℕ) : Type 0 where
  pub kept : words ≡ ws
  pub outbox : left ≡ lent

-- A look that finds no rule to apply, so that it tells no record, changes nothing.
abbrev pub QuietLook : Type 0
QuietLook =
    (stakes : List ℕ) (genesis : ℕ) (v : Seen) → Alive stakes genesis v
    → (lent : List ℕ) (number : ℕ) (words left : List ℕ) → Stepped v.words lent input.Look number 0 words left → AsFound v.words lent words left
