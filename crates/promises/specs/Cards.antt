-- The tally card, over the contracts: what the question for it is answered, on the panel and at the face; a card that disagrees with the
-- recount is 17 wherever a node's record is lent; a refusal leaves every card as found.
use Rattle.std.specs.Prelude.{◌≡◌, true, not, List, [], ◌∷◌, ℕ, ◌≤◌, length, Result, Ok}
use Rattle.rulebook.specs.declared.Input.{Input}
use Rattle.rulebook.specs.declared.Refusal.{Refusal}
use Rattle.rulebook.specs.declared.Refusal.TheVariants as refusal
use Rattle.rulebook.specs.declared.Block.{Block}
use Rattle.rulebook.specs.declared.Tally.{Tally}
use Rattle.rulebook.specs.PaperNumbers.{Panel, step_panel}
use Rattle.rulebook.specs.Weights.{last_slot, slot_ok}
use Rattle.rulebook.specs.Ledger.{Ledger, row_at}
use Rattle.rulebook.specs.Cards.{recount}
use Rattle.rulebook.specs.Inputs.{refuse_if, feed}
use Rattle.record.specs.Layout.{ledger_of}
use Rattle.soundness.specs.Sound.{sound_words}
use Rattle.lines.specs.Answers.{answer_line, five_values, check_line}
use Rattle.writers.specs.Writing.{certificate_on, proof_on}
use Rattle.cards.specs.Asked.{card_on, card_values, card_panel}
use Rattle.announcing.specs.Asked.{announced_on}
use Rattle.readers.specs.Asked.{final_on, armed_on, votes_on, blocks_on, marks_on, head_on}
use Rattle.readers.specs.Weighed.{weights_on}
use Rattle.kept_lines.specs.Lent.{certificates_on}
use Rattle.standing.specs.Asked.{stands_on}
use Rattle.vouching.specs.Asked.{vouched_on}
use Rattle.vouched_packets.specs.Asked.{packet_on}
use Rattle.vouched_packets.specs.Split.{split_on}
use Rattle.same_parents.specs.Parents.{parents_on}
use Rattle.answers.specs.Face.{Stepped, Taken, Trayed, Wrote, CardRead, FinalRead, ArmedRead, AnnounceRead, SplitRead, VotesRead, BlocksRead, MarksRead, HeadRead, WeightsRead, Compared, LinesRead, CertificatesRead}
use Rattle.promises.specs.Panels.{shown, sound_first}
use Rattle.promises.specs.Printed.{Sends}

-- ---- what is answered

-- 17, then 3; else the five numbers of a recount of the slot's stored votes, zeros beside a refusal.
abbrev pub CardShown : Type 0
CardShown =
    (ws : List ℕ) (s : ℕ) (a : Result Tally Refusal) → a ≡ card_on ws s
    → card_panel a ≡ shown (sound_first ws (refuse_if (not (slot_ok s)) refusal.BadSlot (Ok tt))) (card_values (recount (ledger_of ws) s))

-- qr_card: five zeros beside a number that is not 0; it is lent nothing else that it could change.
abbrev pub FaceCardRefused : Type 0
FaceCardRefused =
    (answer : Result Tally Refusal) (number : ℕ) (values : List ℕ) → CardRead answer number values → ¬ (number ≡ 0) → values ≡ 0 ∷ 0 ∷ 0 ∷ 0 ∷ 0 ∷ []

-- "0 SKIP FINAL SKIPCERT BLOCK WEIGHT", or the number alone.
unfoldable pub card_line : Panel → List ℕ
card_line p = answer_line p (five_values p)

-- card: it is answered with the line of a check to which nothing is missing.
abbrev pub CardPrinted : Type 0
CardPrinted =
    (ws : List ℕ) (s number : ℕ) (values : List ℕ) → CardRead (card_on ws s) number values
    → Sends (check_line (record { number = number; values = values }) 0) (card_line (card_panel (card_on ws s)))

-- ---- "A node record whose card disagrees with the recount is 17."

-- Some slot's card is not what a recount of its stored votes gives.
pub record Disagrees (ws : List ℕ) : Type 0 where
  pub slot : ℕ
  pub low : 1 ≤ slot
  pub high : slot ≤ last_slot
  pub other : ¬ ((row_at (ledger_of ws) slot).card ≡ recount (ledger_of ws) slot)

-- Every function of the face that is lent a node's record answers 17: qr_vote, qr_block, qr_timeout and qr_look; qr_take; qr_tray; the two
-- writers; qr_card, qr_final_block, qr_is_armed, qr_may_announce, qr_split_proof, qr_kept_votes, qr_kept_blocks, qr_slot_marks, qr_head,
-- qr_kept_certificates and qr_block_weights; qr_differ, qr_vouched and qr_same_parents with the side whose record it is; qr_stands and
-- qr_vouched_packet.
pub record RefusedEverywhere (ws : List ℕ) : Type 0 where
  pub stepped : (out : List ℕ) (i : Input) (number made : ℕ) (ws' left : List ℕ) → Stepped ws out i number made ws' left → number ≡ 17
  pub taken : (out packet : List ℕ) (number made : ℕ) (ws' left : List ℕ) → Taken ws out packet number made ws' left → number ≡ 17
  pub trayed : (out votes places : List ℕ) (number made : ℕ) (ws' left answers : List ℕ) → Trayed ws out votes places number made ws' left answers
      → number ≡ 17
  pub certificate : (buffer : List ℕ) (kind s b number written : ℕ) (after : List ℕ)
      → Wrote (certificate_on ws (length buffer) kind s b) buffer number written after → number ≡ 17
  pub proof : (buffer : List ℕ) (s b number written : ℕ) (after : List ℕ) → Wrote (proof_on ws (length buffer) s b) buffer number written after
      → number ≡ 17
  pub card : (s number : ℕ) (values : List ℕ) → CardRead (card_on ws s) number values → number ≡ 17
  pub final : (s number block : ℕ) → FinalRead (final_on ws s) number block → number ≡ 17
  pub armed : (s number flag : ℕ) → ArmedRead (armed_on ws s) number flag → number ≡ 17
  pub announce : (s : ℕ) (b : Block) (number may : ℕ) → AnnounceRead (announced_on ws s b) number may → number ≡ 17
  pub split : (bytes : List ℕ) (number first : ℕ) → SplitRead (split_on ws bytes) number first → number ≡ 17
  pub votes : (s n number : ℕ) (values : List ℕ) → VotesRead (votes_on ws s n) number values → number ≡ 17
  pub blocks : (s number : ℕ) (values : List ℕ) → BlocksRead (blocks_on ws s) number values → number ≡ 17
  pub marks : (s number : ℕ) (values : List ℕ) → MarksRead (marks_on ws s) number values → number ≡ 17
  pub head : (number : ℕ) (values : List ℕ) → HeadRead (head_on ws) number values → number ≡ 17
  pub kept : (s : ℕ) (list : List ℕ) (number beside : ℕ) (left : List ℕ) → CertificatesRead (certificates_on ws s (length list)) list number beside left
      → (number ≡ 17) × (beside ≡ 0)
  pub weights : (s b number : ℕ) (values : List ℕ) → WeightsRead (weights_on ws s b) number values → number ≡ 17
  pub first : (two list : List ℕ) (number beside : ℕ) (left : List ℕ) → Compared ws two list number beside left → (number ≡ 17) × (beside ≡ 1)
  pub second : (one list : List ℕ) (number beside : ℕ) (left : List ℕ) → sound_words one ≡ true → Compared one ws list number beside left
      → (number ≡ 17) × (beside ≡ 2)
  pub stands : (list : List ℕ) (number beside : ℕ) (left : List ℕ) → LinesRead (stands_on ws (length list)) list number beside left
      → (number ≡ 17) × (beside ≡ 0)
  pub vouches : (two list : List ℕ) (number beside : ℕ) (left : List ℕ) → LinesRead (vouched_on ws two (length list)) list number beside left
      → (number ≡ 17) × (beside ≡ 1)
  pub vouched : (one list : List ℕ) (number beside : ℕ) (left : List ℕ) → sound_words one ≡ true → LinesRead (vouched_on one ws (length list)) list number beside left
      → (number ≡ 17) × (beside ≡ 2)
  pub parents : (two list : List ℕ) (number beside : ℕ) (left : List ℕ) → LinesRead (parents_on ws two (length list)) list number beside left
      → (number ≡ 17) × (beside ≡ 1)
  pub beside : (one list : List ℕ) (number beside : ℕ) (left : List ℕ) → sound_words one ≡ true → LinesRead (parents_on one ws (length list)) list number beside left
      → (number ≡ 17) × (beside ≡ 2)
  pub packet : (bytes list : List ℕ) (number beside : ℕ) (left : List ℕ) → LinesRead (packet_on ws bytes (length list)) list number beside left
      → (number ≡ 17) × (beside ≡ 0)

abbrev pub DisagreeingRefused : Type 0
DisagreeingRefused = (ws : List ℕ) → Disagrees ws → RefusedEverywhere ws

-- ---- "in fresh and in refused cases too"

-- Each slot's card is as it was.
abbrev pub SameCards : Ledger → Ledger → Type 0
SameCards l m = (s : ℕ) → (row_at m s).card ≡ (row_at l s).card

-- An input that is refused leaves every card as found, a refused vote of a tray too, which is a fold of `feed`.
abbrev pub RefusedCards : Type 0
RefusedCards = (l : Ledger) (i : Input) → ¬ ((step_panel (feed l i).answer).number ≡ 0) → SameCards l (feed l i).ledger

-- So does a call of qr_vote, qr_block, qr_timeout, qr_look, qr_take or qr_tray that is not answered 0.
pub record FaceRefusedCards : Type 0 where
  pub stepped : (ws out : List ℕ) (i : Input) (number made : ℕ) (ws' left : List ℕ) → Stepped ws out i number made ws' left → ¬ (number ≡ 0)
      → SameCards (ledger_of ws) (ledger_of ws')
  pub taken : (ws out packet : List ℕ) (number made : ℕ) (ws' left : List ℕ) → Taken ws out packet number made ws' left → ¬ (number ≡ 0)
      → SameCards (ledger_of ws) (ledger_of ws')
  pub trayed : (ws out votes places : List ℕ) (number made : ℕ) (ws' left answers : List ℕ)
      → Trayed ws out votes places number made ws' left answers → ¬ (number ≡ 0) → SameCards (ledger_of ws) (ledger_of ws')
