-- What is answered about a lent record and a packet, and the lent list afterwards.
use Rattle.std.specs.Prelude.{not, List, [], ℕ, ◌+◌, ◌≤◌, length, ltb, Result, Ok, Err}
use Rattle.rulebook.specs.declared.Refusal.TheVariants as refusal
use Rattle.rulebook.specs.Certificates.{Certificate, Found}
use Rattle.rulebook.specs.Certificates as found
use Rattle.rulebook.specs.PaperNumbers.{kind_in}
use Rattle.rulebook.specs.Tools.{whenever}
use Rattle.rulebook.specs.Ledger.{Ledger, own_cell, is_watcher, table_of}
use Rattle.rulebook.specs.Packets.{certificate_at}
use Rattle.rulebook.specs.Checker.{check_certificate, check_proof}
use Rattle.record.specs.Layout.{Long, ledger_of}
use Rattle.soundness.specs.Sound.{sound_words}
use Rattle.inquest.specs.declared.Line.{Line}
use Rattle.inquest.specs.Lists.{signer_lacks, lacking_in}
use Rattle.inquest_lines.specs.declared.ListRefusal.{ListRefusal}
use Rattle.inquest_lines.specs.declared.ListRefusal.TheVariants as why
use Rattle.inquest_lines.specs.Lent.{Told, refused_by, listed_in, ToldIn, most_lines}
use Rattle.rulebook.specs.declared.Accepted.{Accepted}
use Rattle.rulebook.specs.declared.Refusal.{Refusal}

-- Where a certificate that was found ends; the packet's end where there is none.
unfoldable pub end_in : List ℕ → Found → ℕ
end_in packet (found.Whole c next) = next
end_in packet found.Early = length packet
end_in packet found.Malformed = length packet

-- Where the packet's first certificate ends.
abbrev pub first_end : List ℕ → ℕ
first_end packet = end_in packet (certificate_at packet 0)

-- A packet of one certificate is checked as one, a longer one as a proof.
unfoldable pub check_packet : List ℕ → List ℕ → Result Accepted Refusal
check_packet stakes packet =
    whenever (ltb (first_end packet) (length packet)) (λ _. check_proof stakes packet) (check_certificate stakes packet)

-- The votes that the packet counts the ledger's firm for and the ledger lacks. A watcher has no firm, and lacks nothing.
unfoldable pub packet_lacks : Ledger → List ℕ → List Line
packet_lacks r packet = whenever (not (is_watcher r)) (λ _. lacking_in r packet) []

-- The checker's refusal; else the lines, or 9 with how many there are.
unfoldable pub checked_on : Ledger → List ℕ → ℕ → Result Accepted Refusal → Told
checked_on r packet room (Err e) = refused_by (Err (why.Refused e))
checked_on r packet room (Ok a) = listed_in room (packet_lacks r packet)

-- 17 for words that are no record; then what the checker says of the packet under the record's stakes.
unfoldable pub packet_on : List ℕ → List ℕ → ℕ → Told
packet_on ws packet room =
    whenever (sound_words ws)
    (λ _. checked_on (ledger_of ws) packet room (check_packet (table_of (ledger_of ws)) packet))
    (refused_by (Err (why.Refused refusal.BadRecord)))

-- What is answered, and all words of the list afterwards.
abbrev pub PacketOf : List ℕ → List ℕ → List ℕ → Result ℕ ListRefusal → List ℕ → Type 0
PacketOf ws packet list r left = ToldIn list (packet_on ws packet (length list)) r left

-- ---- the parts

-- What one certificate counts the ledger's firm for and the ledger lacks.
abbrev pub read_lacks : Ledger → Certificate → List Line
read_lacks r c = signer_lacks (kind_in r.count c.kind) c r.own (own_cell r c.slot)

-- Words as many as their places ask for, and room to count a certificate's lines behind the first `at`.
pub record Reading (ws : List ℕ) (at : ℕ) : Type 0 where
  pub long : Long ws
  pub room : at + 2 ≤ most_lines
