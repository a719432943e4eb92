-- Any two results that an operation of the face allows for one input are equal: the number, the values in the lent places, and all lent
-- memory afterwards, beside a refusal too. Assumes nothing.
use Rattle.std.specs.Prelude.{Bool, Result}
use mathlib.Core.Path.{◌≡◌, sym, ◌∙◌}
use mathlib.Core.List.{List}
use Prim.Native.Nat.{ℕ}
use Rattle.rulebook.specs.declared.Input.{Input}
use Rattle.rulebook.specs.PaperNumbers.{Panel}
use Rattle.rulebook.specs.Writers as writer
use Rattle.inquest_lines.specs.Lent.{Told}
use Rattle.kept_lines.specs.Lent.{Listing}
use Rattle.answers.specs.Face.{Beside, Started, Watched, Stepped, Taken, Trayed, Wrote, Read, ReadOne, MessageRead, CardRead, FinalRead, ArmedRead, SplitRead, AnnounceRead, VotesRead, BlocksRead, MarksRead, HeadRead, WeightsRead, Checked, Compared, LinesRead, CertificatesRead, Pieced, Ended}
use Rattle.rulebook.specs.declared.Accepted.{Accepted}
use Rattle.readers.specs.declared.BlockWeights.{BlockWeights}
use Rattle.rulebook.specs.declared.Cell.{Cell}
use Rattle.readers.specs.declared.KeptBlocks.{KeptBlocks}
use Rattle.readers.specs.declared.RecordHead.{RecordHead}
use Rattle.rulebook.specs.declared.Refusal.{Refusal}
use Rattle.readers.specs.declared.SlotMarks.{SlotMarks}
use Rattle.rulebook.specs.declared.Tally.{Tally}
use Rattle.rulebook.specs.declared.Vote.{Vote}

-- One value beside one number.
beside_one : {v v' : ℕ} {values : List ℕ} → Beside v values → Beside v' values → v ≡ v'
beside_one a b = cc

-- Any question, with its values or its one value.
read_one : {X : Type 0} {panel : Result X Refusal → Panel} {answer : Result X Refusal} {n n' : ℕ} {values values' : List ℕ} → Read panel answer n values
    → Read panel answer n' values' → (n ≡ n') × (values ≡ values')
read_one a b = (a.numbered ∙ sym b.numbered, a.valued ∙ sym b.valued)

read_one_value : {X : Type 0} {panel : Result X Refusal → Panel} {answer : Result X Refusal} {n n' value value' : ℕ} → ReadOne panel answer n value
    → ReadOne panel answer n' value' → (n ≡ n') × (value ≡ value')
read_one_value a b = (a.numbered ∙ sym b.numbered, beside_one a.valued b.valued)

-- qr_start.
pub started_one : {ws stakes left left' : List ℕ} {own genesis n n' : ℕ} → Started ws stakes own genesis n left → Started ws stakes own genesis n' left'
    → (n ≡ n') × (left ≡ left')
started_one a b = (a.numbered ∙ sym b.numbered, a.words ∙ sym b.words)

-- qr_watch.
pub watched_one : {ws stakes left left' : List ℕ} {genesis n n' : ℕ} → Watched ws stakes genesis n left → Watched ws stakes genesis n' left'
    → (n ≡ n') × (left ≡ left')
watched_one a b = (a.numbered ∙ sym b.numbered, a.words ∙ sym b.words)

-- qr_vote, qr_block, qr_timeout, qr_look.
pub stepped_one : {ws out left left' box box' : List ℕ} {i : Input} {n n' made made' : ℕ} → Stepped ws out i n made left box → Stepped ws out i n' made' left' box'
    → (n ≡ n') × (made ≡ made') × (left ≡ left') × (box ≡ box')
stepped_one a b =
    (a.numbered ∙ sym b.numbered, beside_one a.counted b.counted, a.words ∙ sym b.words, a.outbox ∙ sym b.outbox)

-- qr_take.
pub taken_one : {ws out packet left left' box box' : List ℕ} {n n' made made' : ℕ} → Taken ws out packet n made left box → Taken ws out packet n' made' left' box'
    → (n ≡ n') × (made ≡ made') × (left ≡ left') × (box ≡ box')
taken_one a b =
    (a.numbered ∙ sym b.numbered, beside_one a.counted b.counted, a.words ∙ sym b.words, a.outbox ∙ sym b.outbox)

-- qr_tray.
pub trayed_one : {ws out votes places left left' box box' answers answers' : List ℕ} {n n' made made' : ℕ} → Trayed ws out votes places n made left box answers
    → Trayed ws out votes places n' made' left' box' answers' → (n ≡ n') × (made ≡ made') × (left ≡ left') × (box ≡ box') × (answers ≡ answers')
trayed_one a b =
    (a.numbered ∙ sym b.numbered, beside_one a.counted b.counted, a.words ∙ sym b.words, a.outbox ∙ sym b.outbox, a.answered ∙ sym b.answered)

-- qr_write_certificate, qr_write_proof, qr_write_vote, qr_refusal_text.
pub wrote_one : {w : writer.Wrote} {buffer after after' : List ℕ} {n n' count count' : ℕ} → Wrote w buffer n count after → Wrote w buffer n' count' after'
    → (n ≡ n') × (count ≡ count') × (after ≡ after')
wrote_one a b = (a.numbered ∙ sym b.numbered, beside_one a.counted b.counted, a.bytes ∙ sym b.bytes)

-- qr_read_vote.
pub message_read_one : {answer : Result Vote Refusal} {n n' : ℕ} {values values' : List ℕ} → MessageRead answer n values → MessageRead answer n' values'
    → (n ≡ n') × (values ≡ values')
message_read_one = read_one

-- qr_card.
pub card_read_one : {answer : Result Tally Refusal} {n n' : ℕ} {values values' : List ℕ} → CardRead answer n values → CardRead answer n' values'
    → (n ≡ n') × (values ≡ values')
card_read_one = read_one

-- qr_final_block.
pub final_read_one : {answer : Result ℕ Refusal} {n n' block block' : ℕ} → FinalRead answer n block → FinalRead answer n' block'
    → (n ≡ n') × (block ≡ block')
final_read_one = read_one_value

-- qr_is_armed.
pub armed_read_one : {answer : Result Bool Refusal} {n n' armed armed' : ℕ} → ArmedRead answer n armed → ArmedRead answer n' armed'
    → (n ≡ n') × (armed ≡ armed')
armed_read_one = read_one_value

-- qr_split_proof.
pub split_read_one : {answer : Result ℕ Refusal} {n n' first first' : ℕ} → SplitRead answer n first → SplitRead answer n' first'
    → (n ≡ n') × (first ≡ first')
split_read_one = read_one_value

-- qr_may_announce.
pub announce_read_one : {answer : Result Bool Refusal} {n n' now now' : ℕ} → AnnounceRead answer n now → AnnounceRead answer n' now'
    → (n ≡ n') × (now ≡ now')
announce_read_one = read_one_value

-- qr_kept_votes.
pub votes_read_one : {answer : Result Cell Refusal} {n n' : ℕ} {values values' : List ℕ} → VotesRead answer n values → VotesRead answer n' values'
    → (n ≡ n') × (values ≡ values')
votes_read_one = read_one

-- qr_kept_blocks.
pub blocks_read_one : {answer : Result KeptBlocks Refusal} {n n' : ℕ} {values values' : List ℕ} → BlocksRead answer n values → BlocksRead answer n' values'
    → (n ≡ n') × (values ≡ values')
blocks_read_one = read_one

-- qr_slot_marks.
pub marks_read_one : {answer : Result SlotMarks Refusal} {n n' : ℕ} {values values' : List ℕ} → MarksRead answer n values → MarksRead answer n' values'
    → (n ≡ n') × (values ≡ values')
marks_read_one = read_one

-- qr_head.
pub head_read_one : {answer : Result RecordHead Refusal} {n n' : ℕ} {values values' : List ℕ} → HeadRead answer n values → HeadRead answer n' values'
    → (n ≡ n') × (values ≡ values')
head_read_one = read_one

-- qr_block_weights.
pub weights_read_one : {answer : Result BlockWeights Refusal} {n n' : ℕ} {values values' : List ℕ} → WeightsRead answer n values → WeightsRead answer n' values'
    → (n ≡ n') × (values ≡ values')
weights_read_one = read_one

-- qr_check_certificate, qr_check_proof.
pub checked_one : {count : ℕ} {answer : Result Accepted Refusal} {n n' missing missing' : ℕ} {values values' : List ℕ} → Checked count answer n values missing → Checked count answer n' values' missing'
    → (n ≡ n') × (values ≡ values') × (missing ≡ missing')
checked_one a b = (a.numbered ∙ sym b.numbered, a.valued ∙ sym b.valued, a.lacked ∙ sym b.lacked)

-- qr_differ.
pub compared_one : {one two list left left' : List ℕ} {n n' beside beside' : ℕ} → Compared one two list n beside left → Compared one two list n' beside' left'
    → (n ≡ n') × (beside ≡ beside') × (left ≡ left')
compared_one a b = (a.numbered ∙ sym b.numbered, beside_one a.counted b.counted, a.lines ∙ sym b.lines)

-- qr_stands.
pub lines_read_one : {told : Told} {list left left' : List ℕ} {n n' beside beside' : ℕ} → LinesRead told list n beside left → LinesRead told list n' beside' left'
    → (n ≡ n') × (beside ≡ beside') × (left ≡ left')
lines_read_one a b = (a.numbered ∙ sym b.numbered, beside_one a.counted b.counted, a.lines ∙ sym b.lines)

-- qr_kept_certificates.
pub certificates_read_one : {told : Listing} {list left left' : List ℕ} {n n' beside beside' : ℕ} → CertificatesRead told list n beside left → CertificatesRead told list n' beside' left'
    → (n ≡ n') × (beside ≡ beside') × (left ≡ left')
certificates_read_one a b = (a.numbered ∙ sym b.numbered, beside_one a.counted b.counted, a.lines ∙ sym b.lines)

-- qr_piece.
pub pieced_one : {ws bs stakes bytes left left' front front' : List ℕ} {n n' : ℕ} → Pieced ws bs stakes bytes n left front → Pieced ws bs stakes bytes n' left' front'
    → (n ≡ n') × (left ≡ left') × (front ≡ front')
pieced_one a b = (a.numbered ∙ sym b.numbered, a.words ∙ sym b.words, a.front ∙ sym b.front)

-- qr_end.
pub ended_one : {ws bs values values' left left' front front' : List ℕ} {n n' missing missing' : ℕ} → Ended ws bs n values missing left front
    → Ended ws bs n' values' missing' left' front' → (n ≡ n') × (values ≡ values') × (missing ≡ missing') × (left ≡ left') × (front ≡ front')
ended_one a b =
    let c = checked_one a.checked b.checked in
    (c.0, c.1, c.2, a.words ∙ sym b.words, a.front ∙ sym b.front)
