-- What a host reads of a record, and the text of a number, over the contracts: the answer on the panel, and what a refusal leaves.
use Rattle.std.specs.Prelude.{◌≡◌, true, false, not, List, [], ◌∷◌, ℕ, ◌+◌, ◌*◌, ◌≤◌, ◌<◌, length, get_or, leb, ltb, eqb, Bool, Result, Ok}
use Rattle.rulebook.specs.declared.Block.{Block}
use Rattle.rulebook.specs.declared.Refusal.{Refusal}
use Rattle.rulebook.specs.declared.Refusal.TheVariants as refusal
use Rattle.rulebook.specs.declared.Accepted.{Accepted}
use Rattle.rulebook.specs.declared.Who.TheVariants as who
use Rattle.rulebook.specs.declared.Cell.{Cell}
use Rattle.rulebook.specs.PaperNumbers.{Panel, write_panel}
use Rattle.rulebook.specs.Tools.{part}
use Rattle.rulebook.specs.Weights.{slot_ok, d_weights}
use Rattle.rulebook.specs.Ledger.{none, table_of, row_at, cell_at, is_armed}
use Rattle.rulebook.specs.Pool.{weigh}
use Rattle.rulebook.specs.Rules.{fallback_weights}
use Rattle.rulebook.specs.Inputs.{refuse_if, not_in_table, block_verdict}
use Rattle.rulebook.specs.Writers.{Writes, over}
use Rattle.record.specs.Layout.{ledger_of}
use Rattle.mail.specs.Policy.{may_announce}
use Rattle.announcing.specs.Asked.{announced_on, announce_panel}
use Rattle.vouched_packets.specs.Asked.{first_end}
use Rattle.vouched_packets.specs.Split.{split_on, split_panel}
use Rattle.readers.specs.Asked.{final_on, armed_on, votes_on, blocks_kept, blocks_on, marks_kept, marks_on, head_kept, head_on, final_panel, armed_panel, votes_panel, cell_values, kept_values, blocks_panel, mark_values, marks_panel, head_values, head_panel}
use Rattle.readers.specs.Weighed.{weights_kept, weights_on, weight_values, weights_panel}
use Rattle.soundness.specs.Sound.{sound_words}
use Rattle.inquest_lines.specs.declared.ListRefusal.{ListRefusal}
use Rattle.inquest_lines.specs.Lent.{list_panel}
use Rattle.kept_lines.specs.Told.{certificates_told}
use Rattle.kept_lines.specs.Lent.{spell_all, certificates_on, ToldIn}
use Rattle.texts.specs.Texts.{refusal_text, text_room, text_on}
use Rattle.answers.specs.Face.{FinalRead, ArmedRead, AnnounceRead, SplitRead, VotesRead, BlocksRead, MarksRead, HeadRead, WeightsRead, CertificatesRead, Wrote}
use Rattle.promises.specs.Panels.{shown, sound_first, proof_checked}
use Rattle.promises.specs.Differs.{shown_as}
use Rattle.readers.specs.declared.BlockWeights.{BlockWeights}
use Rattle.readers.specs.declared.KeptBlocks.{KeptBlocks}
use Rattle.readers.specs.declared.RecordHead.{RecordHead}
use Rattle.readers.specs.declared.SlotMarks.{SlotMarks}

-- ---- what is answered

-- 17, then 3; else the block that the slot's row has as its final one.
abbrev pub FinalShown : Type 0
FinalShown =
    (ws : List ℕ) (s : ℕ) (a : Result ℕ Refusal) → a ≡ final_on ws s
    → final_panel a ≡ shown (sound_first ws (refuse_if (not (slot_ok s)) refusal.BadSlot (Ok tt))) ((row_at (ledger_of ws) s).final ∷ [])

-- 17, then 3; else 1 where the slot's window is armed.
abbrev pub ArmedShown : Type 0
ArmedShown =
    (ws : List ℕ) (s : ℕ) (a : Result Bool Refusal) → a ≡ armed_on ws s
    → armed_panel a ≡ shown (sound_first ws (refuse_if (not (slot_ok s)) refusal.BadSlot (Ok tt))) (part (is_armed (ledger_of ws) s) 1 ∷ [])

-- 17, then what qr_block refuses the block with; else 1 where the policy lets it be announced now.
abbrev pub AnnounceShown : Type 0
AnnounceShown =
    (ws : List ℕ) (s : ℕ) (b : Block) (a : Result Bool Refusal) → a ≡ announced_on ws s b
    → announce_panel a ≡ shown (sound_first ws (block_verdict (ledger_of ws) s b)) (part (may_announce (ledger_of ws) s b.number) 1 ∷ [])

-- 17, then what the proof checker refuses the packet with under the record's stakes; else as many bytes as its first certificate has.
abbrev pub SplitShown : Type 0
SplitShown =
    (ws packet : List ℕ) (a : Result ℕ Refusal) → a ≡ split_on ws packet
    → split_panel a ≡ shown (sound_first ws (proof_checked (table_of (ledger_of ws)) packet)) (first_end packet ∷ [])

-- 17, then 3, then 2; else the words of the node's cell in the slot.
abbrev pub VotesShown : Type 0
VotesShown =
    (ws : List ℕ) (s n : ℕ) (a : Result Cell Refusal) → a ≡ votes_on ws s n
    → votes_panel a
    ≡ shown (sound_first ws (refuse_if (not (slot_ok s)) refusal.BadSlot (refuse_if (not_in_table (ledger_of ws).count n) refusal.BadNode (Ok tt)))) (cell_values (cell_at (ledger_of ws) s n))

-- 17, then 3; else the words of the slot's four places for blocks.
abbrev pub BlocksShown : Type 0
BlocksShown =
    (ws : List ℕ) (s : ℕ) (a : Result KeptBlocks Refusal) → a ≡ blocks_on ws s
    → blocks_panel a ≡ shown (sound_first ws (refuse_if (not (slot_ok s)) refusal.BadSlot (Ok tt))) (kept_values (blocks_kept ws s))

-- 17, then 3; else the slot's two marks.
abbrev pub MarksShown : Type 0
MarksShown =
    (ws : List ℕ) (s : ℕ) (a : Result SlotMarks Refusal) → a ≡ marks_on ws s
    → marks_panel a ≡ shown (sound_first ws (refuse_if (not (slot_ok s)) refusal.BadSlot (Ok tt))) (mark_values (marks_kept ws s))

-- 17; else the words of the record's head.
abbrev pub HeadShown : Type 0
HeadShown = (ws : List ℕ) (a : Result RecordHead Refusal) → a ≡ head_on ws → head_panel a ≡ shown (sound_first ws (Ok tt)) (head_values (head_kept ws))

-- 17, then 3, then 5; else the block's four weights in the slot.
abbrev pub WeightsShown : Type 0
WeightsShown =
    (ws : List ℕ) (s b : ℕ) (a : Result BlockWeights Refusal) → a ≡ weights_on ws s b
    → weights_panel a
    ≡ shown (sound_first ws (refuse_if (not (slot_ok s)) refusal.BadSlot (refuse_if (none b) refusal.BadBlock (Ok tt)))) (weight_values (weights_kept ws s b))

-- qr_block_weights, answered 0: nothing is missing exactly where the block has rule D's weights, and with further notar stake x it would have
-- them exactly where x is what is missing or more.
pub record FaceWeightsMissing : Type 0 where
  pub nothing : (ws : List ℕ) (s b : ℕ) (values : List ℕ) → WeightsRead (weights_on ws s b) 0 values → fallback_weights (ledger_of ws) s b ≡ eqb (get_or values 3 0) 0
  pub least : (ws : List ℕ) (s b : ℕ) (values : List ℕ) → WeightsRead (weights_on ws s b) 0 values
      → (x : ℕ) → d_weights (ledger_of ws).total (weigh (ledger_of ws) s (who.Notar b) + x) (weigh (ledger_of ws) s who.Skip) ≡ leb (get_or values 3 0) x

-- The certificates that slot s of a record keeps.
abbrev pub kept_of : List ℕ → ℕ → List Accepted
kept_of ws s = certificates_told (ledger_of ws) s

-- 17, then 3, then 9 with the number of lines needed, each with the list as found; else the lines at its front, words past them stay.
pub record KeptTold (ws : List ℕ) (s : ℕ) (list : List ℕ) (p : Panel) (left : List ℕ) : Type 0 where
  pub bad : sound_words ws ≡ false → (p ≡ shown_as 17 0) × (left ≡ list)
  pub slotless : sound_words ws ≡ true → slot_ok s ≡ false → (p ≡ shown_as 3 0) × (left ≡ list)
  pub cramped : sound_words ws ≡ true → slot_ok s ≡ true → length list < 5 * length (kept_of ws s) → (p ≡ shown_as 9 (length (kept_of ws s))) × (left ≡ list)
  pub whole : sound_words ws ≡ true → slot_ok s ≡ true → 5 * length (kept_of ws s) ≤ length list
      → (p ≡ shown_as 0 (length (kept_of ws s))) × (left ≡ over (spell_all (ledger_of ws).count (kept_of ws s)) list)

abbrev pub CertificatesShown : Type 0
CertificatesShown =
    (ws : List ℕ) (s : ℕ) (list : List ℕ) (r : Result ℕ ListRefusal) (left : List ℕ) → ToldIn list (certificates_on ws s (length list)) r left → KeptTold ws s list (list_panel r) left

-- qr_kept_certificates.
abbrev pub FaceCertificates : Type 0
FaceCertificates =
    (ws : List ℕ) (s : ℕ) (list : List ℕ) (number beside : ℕ) (left : List ℕ) → CertificatesRead (certificates_on ws s (length list)) list number beside left
    → KeptTold ws s list (shown_as number beside) left

-- 9 for a buffer below 512 bytes; else the length of the text.
abbrev pub TextShown : Type 0
TextShown =
    (buffer : List ℕ) (n : ℕ) (a : Result ℕ Refusal) (after : List ℕ) → Writes (text_on (length buffer) n) buffer a after
    → write_panel a ≡ shown (refuse_if (ltb (length buffer) text_room) refusal.NoRoom (Ok tt)) (length (refusal_text n) ∷ [])

-- ---- a number that is not 0: zeros in the places lent for the values, and a buffer as found

-- qr_final_block; it is lent nothing else that it could change.
abbrev pub FaceFinalRefused : Type 0
FaceFinalRefused = (answer : Result ℕ Refusal) (number block : ℕ) → FinalRead answer number block → ¬ (number ≡ 0) → block ≡ 0

-- qr_is_armed likewise.
abbrev pub FaceArmedRefused : Type 0
FaceArmedRefused = (answer : Result Bool Refusal) (number armed : ℕ) → ArmedRead answer number armed → ¬ (number ≡ 0) → armed ≡ 0

-- qr_may_announce likewise.
abbrev pub FaceAnnounceRefused : Type 0
FaceAnnounceRefused = (answer : Result Bool Refusal) (number may : ℕ) → AnnounceRead answer number may → ¬ (number ≡ 0) → may ≡ 0

-- qr_split_proof likewise.
abbrev pub FaceSplitRefused : Type 0
FaceSplitRefused = (answer : Result ℕ Refusal) (number first : ℕ) → SplitRead answer number first → ¬ (number ≡ 0) → first ≡ 0

-- qr_kept_votes likewise.
abbrev pub FaceVotesRefused : Type 0
FaceVotesRefused =
    (answer : Result Cell Refusal) (number : ℕ) (values : List ℕ) → VotesRead answer number values → ¬ (number ≡ 0)
    → values ≡ 0 ∷ 0 ∷ 0 ∷ 0 ∷ 0 ∷ 0 ∷ 0 ∷ []

-- qr_kept_blocks likewise.
abbrev pub FaceBlocksRefused : Type 0
FaceBlocksRefused =
    (answer : Result KeptBlocks Refusal) (number : ℕ) (values : List ℕ) → BlocksRead answer number values → ¬ (number ≡ 0)
    → values ≡ 0 ∷ 0 ∷ 0 ∷ 0 ∷ 0 ∷ 0 ∷ 0 ∷ 0 ∷ 0 ∷ 0 ∷ 0 ∷ 0 ∷ []

-- qr_slot_marks likewise.
abbrev pub FaceMarksRefused : Type 0
FaceMarksRefused = (answer : Result SlotMarks Refusal) (number : ℕ) (values : List ℕ) → MarksRead answer number values → ¬ (number ≡ 0) → values ≡ 0 ∷ 0 ∷ []

-- qr_head likewise.
abbrev pub FaceHeadRefused : Type 0
FaceHeadRefused =
    (answer : Result RecordHead Refusal) (number : ℕ) (values : List ℕ) → HeadRead answer number values → ¬ (number ≡ 0) → values ≡ 0 ∷ 0 ∷ 0 ∷ 0 ∷ []

-- qr_block_weights likewise.
abbrev pub FaceWeightsRefused : Type 0
FaceWeightsRefused =
    (answer : Result BlockWeights Refusal) (number : ℕ) (values : List ℕ) → WeightsRead answer number values → ¬ (number ≡ 0) → values ≡ 0 ∷ 0 ∷ 0 ∷ 0 ∷ []

-- qr_kept_certificates: the list as found.
abbrev pub FaceCertificatesRefused : Type 0
FaceCertificatesRefused =
    (ws : List ℕ) (s : ℕ) (list : List ℕ) (number beside : ℕ) (left : List ℕ) → CertificatesRead (certificates_on ws s (length list)) list number beside left
    → ¬ (number ≡ 0) → left ≡ list

-- qr_refusal_text: 0 bytes written.
abbrev pub FaceTextRefused : Type 0
FaceTextRefused =
    (buffer : List ℕ) (n number written : ℕ) (after : List ℕ) → Wrote (text_on (length buffer) n) buffer number written after → ¬ (number ≡ 0)
    → (written ≡ 0) × (after ≡ buffer)
