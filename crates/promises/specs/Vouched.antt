-- Which votes a firm's record lacks, of another record and of a packet, and which blocks two records keep with two parents, on the operations'
-- contracts and at the face: the number and the value beside it, and what is left in the list.
use Rattle.std.specs.Prelude.{◌≡◌, true, false, List, ℕ, ◌*◌, ◌≤◌, ◌<◌, length, Ok, Err, Result}
use Rattle.rulebook.specs.declared.Accepted.{Accepted}
use Rattle.rulebook.specs.declared.Refusal.{Refusal}
use Rattle.rulebook.specs.PaperNumbers.{Panel, refusal_number}
use Rattle.rulebook.specs.Writers.{over}
use Rattle.rulebook.specs.Ledger.{is_watcher, table_of}
use Rattle.record.specs.Layout.{ledger_of}
use Rattle.soundness.specs.Sound.{sound_words}
use Rattle.difference_lines.specs.Lines.{same_tables}
use Rattle.inquest.specs.Vouched.{vouched, same_parents}
use Rattle.inquest_lines.specs.declared.ListRefusal.{ListRefusal}
use Rattle.inquest_lines.specs.Lent.{spell_lines, list_panel}
use Rattle.vouching.specs.Asked.{lacking_of, vouched_on, VouchedOf}
use Rattle.vouched_packets.specs.Asked.{check_packet, packet_lacks, packet_on, PacketOf}
use Rattle.same_parents.specs.Parents.{twice, parents_on, ParentsOf}
use Rattle.same_parents.specs.Parents as parents
use Rattle.answers.specs.Face.{LinesRead}
use Rattle.promises.specs.Differs.{shown_as}

-- A list that is too small for all n lines is 9, with the number of lines needed, and left as found; else the lines' words stand at its front,
-- words past them stay.
pub record Listed (n : ℕ) (words list : List ℕ) (p : Panel) (left : List ℕ) : Type 0 where
  pub cramped : length list < 5 * n → (p ≡ shown_as 9 n) × (left ≡ list)
  pub whole : 5 * n ≤ length list → (p ≡ shown_as 0 n) × (left ≡ over words list)

-- ---- two records

-- A bad record is 17 with the side, the first where both are bad; then 1 where the stake tables differ; a refusal leaves the list as found.
pub record TwoTold (one two : List ℕ) (n : ℕ) (words list : List ℕ) (p : Panel) (left : List ℕ) : Type 0 where
  pub first : sound_words one ≡ false → (p ≡ shown_as 17 1) × (left ≡ list)
  pub second : sound_words one ≡ true → sound_words two ≡ false → (p ≡ shown_as 17 2) × (left ≡ list)
  pub tables : sound_words one ≡ true → sound_words two ≡ true → same_tables (ledger_of one) (ledger_of two) ≡ false → (p ≡ shown_as 1 0) × (left ≡ list)
  pub lines : sound_words one ≡ true → sound_words two ≡ true → same_tables (ledger_of one) (ledger_of two) ≡ true → Listed n words list p left

-- The lines are those of the votes that the second's firm lacks.
abbrev pub Told : (one two list : List ℕ) (p : Panel) (left : List ℕ) → Type 0
Told one two list p left =
    TwoTold one two (length (lacking_of (ledger_of one) (ledger_of two))) (spell_lines (lacking_of (ledger_of one) (ledger_of two))) list p left

-- On the contract.
abbrev pub VouchedShown : Type 0
VouchedShown = (one two list : List ℕ) (r : Result ℕ ListRefusal) (left : List ℕ) → VouchedOf one two list r left → Told one two list (list_panel r) left

-- qr_vouched.
abbrev pub FaceVouched : Type 0
FaceVouched =
    (one two list : List ℕ) (number beside : ℕ) (left : List ℕ) → LinesRead (vouched_on one two (length list)) list number beside left → Told one two list (shown_as number beside) left

-- No line of a firm's record means that it tells of every vote that the first counts in its name.
abbrev pub FaceAllVouched : Type 0
FaceAllVouched =
    (one two list left : List ℕ) → is_watcher (ledger_of two) ≡ false → LinesRead (vouched_on one two (length list)) list 0 0 left → vouched (ledger_of one) (ledger_of two) ≡ true

-- ---- parents

-- The lines are those of the blocks that the two records keep with two parents.
abbrev pub ParentsTold : (one two list : List ℕ) (p : Panel) (left : List ℕ) → Type 0
ParentsTold one two list p left =
    TwoTold one two (length (twice (ledger_of one) (ledger_of two))) (parents.spell_lines (twice (ledger_of one) (ledger_of two))) list p left

-- On the contract.
abbrev pub ParentsShown : Type 0
ParentsShown =
    (one two list : List ℕ) (r : Result ℕ ListRefusal) (left : List ℕ) → ParentsOf one two list r left → ParentsTold one two list (list_panel r) left

-- qr_same_parents.
abbrev pub FaceSameParents : Type 0
FaceSameParents =
    (one two list : List ℕ) (number beside : ℕ) (left : List ℕ) → LinesRead (parents_on one two (length list)) list number beside left → ParentsTold one two list (shown_as number beside) left

-- No line means that no block of a slot and a number has two parents in the two records; and two records of one table that have none such are
-- answered 0 with no line, and the list as found.
pub record FaceOneParent : Type 0 where
  pub means : (one two list left : List ℕ) → LinesRead (parents_on one two (length list)) list 0 0 left → same_parents (ledger_of one) (ledger_of two) ≡ true
  pub only : (one two list : List ℕ) (number beside : ℕ) (left : List ℕ) → sound_words one ≡ true → sound_words two ≡ true → same_tables (ledger_of one) (ledger_of two) ≡ true
      → same_parents (ledger_of one) (ledger_of two) ≡ true → LinesRead (parents_on one two (length list)) list number beside left → (number ≡ 0) × (beside ≡ 0) × (left ≡ list)

-- ---- a packet

-- A bad record is 17; then what the checker says of the packet under the record's stakes, with 0 beside; a refusal leaves the list as found.
pub record PacketTold (ws packet list : List ℕ) (p : Panel) (left : List ℕ) : Type 0 where
  pub bad : sound_words ws ≡ false → (p ≡ shown_as 17 0) × (left ≡ list)
  pub refused : sound_words ws ≡ true → (r : Refusal) → check_packet (table_of (ledger_of ws)) packet ≡ Err r → (p ≡ shown_as (refusal_number r) 0) × (left ≡ list)
  pub lines : sound_words ws ≡ true → (a : Accepted) → check_packet (table_of (ledger_of ws)) packet ≡ Ok a → Listed (length (packet_lacks (ledger_of ws) packet)) (spell_lines (packet_lacks (ledger_of ws) packet)) list p left

-- On the contract.
abbrev pub PacketShown : Type 0
PacketShown = (ws packet list : List ℕ) (r : Result ℕ ListRefusal) (left : List ℕ) → PacketOf ws packet list r left → PacketTold ws packet list (list_panel r) left

-- qr_vouched_packet.
abbrev pub FaceVouchedPacket : Type 0
FaceVouchedPacket =
    (ws packet list : List ℕ) (number beside : ℕ) (left : List ℕ) → LinesRead (packet_on ws packet (length list)) list number beside left → PacketTold ws packet list (shown_as number beside) left
