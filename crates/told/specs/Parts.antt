-- A PROOF HANDED OVER IN ITS PARTS: what qr_split_proof answers of a packet, and that the block is final where qr_take took them. Each promise is a
-- statement that proofs/ proves under the same name in small letters.
use Rattle.std.specs.Prelude.{◌≡◌, List, ◌⊎◌, ℕ, ◌≤◌, ◌<◌, T, length, get_or, take, drop, Ok}
use Rattle.rulebook.specs.declared.Accepted.{Accepted}
use Rattle.rulebook.specs.declared.CertificateKind.TheVariants as certificate
use Rattle.rulebook.specs.Rules.{is_final}
use Rattle.rulebook.specs.Checker.{check_certificate, check_proof}
use Rattle.rulebook.specs.WellFormed.{outbox_words}
use Rattle.safety.specs.Promises.{AcceptedAs}
use Rattle.vouched_packets.specs.Split.{split_on}
use Rattle.answers.specs.Face.{Taken, SplitRead}
use Rattle.seen.specs.Seen.{Seen, ledger_in, Alive}
use Rattle.calls.specs.Operation.{a_packet}
use Rattle.calls.specs.Life.{next, Calls}

-- The parts of a proof of block b in slot s, the first with so many bytes: one certificate of kind 1, or one of kind 2 and one of kind 5, each of which is
-- a packet that the certificate checker accepts.
pub data Parts (stakes packet : List ℕ) (first s b : ℕ) : Type 0 where
  whole : first ≡ length packet → AcceptedAs (check_certificate stakes (take first packet)) certificate.FastFinal s b → Parts stakes packet first s b
  halves : first < length packet → AcceptedAs (check_certificate stakes (take first packet)) certificate.Notar s b
      → AcceptedAs (check_certificate stakes (drop first packet)) certificate.Final s 0 → Parts stakes packet first s b

-- What qr_split_proof says where it answers 0: the proof checker accepts the packet with the life's table, and these are its parts.
pub record Splits (stakes packet : List ℕ) (first : ℕ) : Type 0 where
  pub what : Accepted
  pub proven : check_proof stakes packet ≡ Ok what
  pub parts : Parts stakes packet first what.slot.0 what.block

abbrev pub SplitIsParts : Type 0
SplitIsParts =
    (stakes : List ℕ) (genesis : ℕ) (v : Seen) → Alive stakes genesis v → (packet : List ℕ) → ((i : ℕ) → get_or packet i 0 < 256)
    → (first : ℕ) → SplitRead (split_on v.words packet) 0 first → Splits stakes packet first

-- A PROOF OF TWO: where qr_take answers 0 or 7 to the first part, and later, after whatever calls, to the second, both are held and the block is final in the
-- words from then on.
abbrev pub HalvesMakeFinal : Type 0
HalvesMakeFinal =
    (stakes : List ℕ) (genesis : ℕ) (v : Seen) → Alive stakes genesis v → (packet : List ℕ) (first s b : ℕ)
    → AcceptedAs (check_certificate stakes (take first packet)) certificate.Notar s b → AcceptedAs (check_certificate stakes (drop first packet)) certificate.Final s 0
    → (lent : List ℕ) (number made : ℕ) (words left : List ℕ) → Taken v.words lent (take first packet) number made words left → (number ≡ 0) ⊎ (number ≡ 7)
    → (w : Seen) → Calls (next v (a_packet (take first packet)) lent made words left) w
    → (lent' : List ℕ) (number' made' : ℕ) (words' left' : List ℕ) → Taken w.words lent' (drop first packet) number' made' words' left' → (number' ≡ 0) ⊎ (number' ≡ 7)
    → (u : Seen) → Calls (next w (a_packet (drop first packet)) lent' made' words' left') u → T (is_final (ledger_in u) s b)

-- A PROOF OF ONE: where qr_take answers 0 or 7 to it.
abbrev pub WholeMakesFinal : Type 0
WholeMakesFinal =
    (stakes : List ℕ) (genesis : ℕ) (v : Seen) → Alive stakes genesis v → (packet : List ℕ) (s b : ℕ)
    → AcceptedAs (check_certificate stakes packet) certificate.FastFinal s b
    → (lent : List ℕ) (number made : ℕ) (words left : List ℕ) → Taken v.words lent packet number made words left → (number ≡ 0) ⊎ (number ≡ 7)
    → (w : Seen) → Calls (next v (a_packet packet) lent made words left) w → T (is_final (ledger_in w) s b)

-- THE SECOND PART: lent an outbox with room, qr_take answers 0 or 7 to a certificate of kind 5 that the checker accepts with the life's table, and so never 8,
-- at every moment and whatever was answered before: it names no block, so that only a repeat can stand in its place. Nothing is asked of other nodes.
abbrev pub SecondIsTaken : Type 0
SecondIsTaken =
    (stakes : List ℕ) (genesis : ℕ) (v : Seen) → Alive stakes genesis v → (packet : List ℕ) (s : ℕ)
    → AcceptedAs (check_certificate stakes packet) certificate.Final s 0
    → (lent : List ℕ) (number made : ℕ) (words left : List ℕ) → outbox_words ≤ length lent → Taken v.words lent packet number made words left
    → (number ≡ 0) ⊎ (number ≡ 7)
