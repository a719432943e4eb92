-- The face's answers: the panel's number, the values beside it in lent places, and all lent memory afterwards.
use Rattle.std.specs.Prelude.{◌≡◌, List, [], ◌∷◌, ℕ, length, Bool, Result}
use Rattle.rulebook.specs.declared.Accepted.{Accepted}
use Rattle.rulebook.specs.declared.Input.{Input}
use Rattle.rulebook.specs.declared.Vote.{Vote}
use Rattle.rulebook.specs.PaperNumbers.{Panel, vote_number, number_in, start_panel, step_panel, write_panel, read_panel, check_number, check_values, check_missing}
use Rattle.rulebook.specs.Writers.{over}
use Rattle.rulebook.specs.Writers as written
pub use Rattle.inputs.specs.Inputs.{vote_input, block_input, timeout_input}
use Rattle.node.specs.Stepping.{step_leaves}
use Rattle.taking.specs.Taking.{take_leaves}
use Rattle.trays.specs.Lent.{tray_leaves}
use Rattle.vouched_packets.specs.Split.{split_panel}
use Rattle.announcing.specs.Asked.{announce_panel}
use Rattle.cards.specs.Asked.{card_panel}
use Rattle.difference_lines.specs.Lines.{spell_lines}
use Rattle.differences.specs.Lent.{differ, differ_panel}
use Rattle.inquest_lines.specs.Lent.{Told, list_panel}
use Rattle.inquest_lines.specs.Lent as inquest
use Rattle.kept_lines.specs.Lent.{Listing}
use Rattle.starts.specs.Starting.{start_judged, start_answer, start_left, watch_judged}
use Rattle.pieces.specs.Pieces.{piece_panel}
use Rattle.pieces.specs.State.{nodes, piece_leaves, end_leaves}
use Rattle.readers.specs.Asked.{final_panel, armed_panel, votes_panel, blocks_panel, marks_panel, head_panel}
use Rattle.readers.specs.Weighed.{weights_panel}
use Rattle.readers.specs.declared.BlockWeights.{BlockWeights}
use Rattle.rulebook.specs.declared.Cell.{Cell}
use Rattle.readers.specs.declared.KeptBlocks.{KeptBlocks}
use Rattle.readers.specs.declared.RecordHead.{RecordHead}
use Rattle.rulebook.specs.declared.Refusal.{Refusal}
use Rattle.readers.specs.declared.SlotMarks.{SlotMarks}
use Rattle.rulebook.specs.declared.Tally.{Tally}

-- The version of the face: raised with every change of a function, of a number, or of what a record's words mean.
abbrev pub version : ℕ
version = 1

-- The one value beside a number.
abbrev pub Beside : ℕ → List ℕ → Type 0
Beside v values = v ∷ [] ≡ values

-- A vote's "four numbers .. namely kind, node, slot, block".
abbrev pub vote_values : Vote → List ℕ
vote_values v = vote_number v.kind ∷ v.node.0 ∷ v.slot.0 ∷ v.block ∷ []

-- "An accepted check answers kind, slot, block, signer count and weight", under a table of so many nodes.
abbrev pub accepted_values : ℕ → Accepted → List ℕ
accepted_values count a = number_in count a.kind ∷ a.slot.0 ∷ a.block ∷ a.signers ∷ a.weight.0 ∷ []

-- Start: its number, and all the record's words.
pub record Started (ws stakes : List ℕ) (own genesis number : ℕ) (left : List ℕ) : Type 0 where
  pub numbered : number ≡ (start_panel (start_answer (start_judged ws stakes own genesis))).number
  pub words : left ≡ start_left (start_judged ws stakes own genesis) ws stakes own genesis

-- A watcher's start: its number, and all the record's words, those of a fresh node with the number after the last.
pub record Watched (ws stakes : List ℕ) (genesis number : ℕ) (left : List ℕ) : Type 0 where
  pub numbered : number ≡ (start_panel (start_answer (watch_judged ws stakes genesis))).number
  pub words : left ≡ start_left (watch_judged ws stakes genesis) ws stakes (length stakes) genesis

-- A step: its number, the count of its records, and all the words of record and outbox.
pub record Stepped (ws out : List ℕ) (i : Input) (number made : ℕ) (ws' left : List ℕ) : Type 0 where
  pub numbered : number ≡ (step_panel (step_leaves ws out i).answer).number
  pub counted : Beside made (step_panel (step_leaves ws out i).answer).values
  pub words : ws' ≡ (step_leaves ws out i).words
  pub outbox : left ≡ (step_leaves ws out i).outbox

-- A certificate taken from another firm: its number, the count of its records, and all the words of record and outbox.
pub record Taken (ws out packet : List ℕ) (number made : ℕ) (ws' left : List ℕ) : Type 0 where
  pub numbered : number ≡ (step_panel (take_leaves ws out packet).answer).number
  pub counted : Beside made (step_panel (take_leaves ws out packet).answer).values
  pub words : ws' ≡ (take_leaves ws out packet).words
  pub outbox : left ≡ (take_leaves ws out packet).outbox

-- A tray: its number, the count of all its votes' records, and all the words of record, outbox and answer buffer.
pub record Trayed (ws out votes places : List ℕ) (number made : ℕ) (ws' left answers : List ℕ) : Type 0 where
  pub numbered : number ≡ (step_panel (tray_leaves ws out votes places).answer).number
  pub counted : Beside made (step_panel (tray_leaves ws out votes places).answer).values
  pub words : ws' ≡ (tray_leaves ws out votes places).words
  pub outbox : left ≡ (tray_leaves ws out votes places).outbox
  pub answered : answers ≡ (tray_leaves ws out votes places).answers

-- A writer: its number, the count of its bytes, and the whole buffer.
pub record Wrote (wrote : written.Wrote) (buffer : List ℕ) (number count : ℕ) (after : List ℕ) : Type 0 where
  pub numbered : number ≡ (write_panel wrote.answer).number
  pub counted : Beside count (write_panel wrote.answer).values
  pub bytes : after ≡ over wrote.bytes buffer

-- A question that is answered on a panel: its number, and the values beside it.
pub record Read {X : Type 0} (panel : Result X Refusal → Panel) (answer : Result X Refusal) (number : ℕ) (values : List ℕ) : Type 0 where
  pub numbered : number ≡ (panel answer).number
  pub valued : values ≡ (panel answer).values

-- One that is answered with one value.
pub record ReadOne {X : Type 0} (panel : Result X Refusal → Panel) (answer : Result X Refusal) (number value : ℕ) : Type 0 where
  pub numbered : number ≡ (panel answer).number
  pub valued : Beside value (panel answer).values

-- A vote message: its number, and the vote's four numbers.
abbrev pub MessageRead : Result Vote Refusal → (number : ℕ) (values : List ℕ) → Type 0
MessageRead = Read read_panel

-- A slot's card: its number, and the card's five words.
abbrev pub CardRead : Result Tally Refusal → (number : ℕ) (values : List ℕ) → Type 0
CardRead = Read card_panel

-- A slot's final block: its number, and the block.
abbrev pub FinalRead : Result ℕ Refusal → (number value : ℕ) → Type 0
FinalRead = ReadOne final_panel

-- Whether a slot's window is armed: its number, and 1 or 0.
abbrev pub ArmedRead : Result Bool Refusal → (number value : ℕ) → Type 0
ArmedRead = ReadOne armed_panel

-- Where a proof's first certificate ends: its number, and the bytes of that certificate.
abbrev pub SplitRead : Result ℕ Refusal → (number value : ℕ) → Type 0
SplitRead = ReadOne split_panel

-- Whether a block may be announced now: its number, and 1 or 0.
abbrev pub AnnounceRead : Result Bool Refusal → (number value : ℕ) → Type 0
AnnounceRead = ReadOne announce_panel

-- A node's stored votes in a slot: its number, and the seven words of the cell.
abbrev pub VotesRead : Result Cell Refusal → (number : ℕ) (values : List ℕ) → Type 0
VotesRead = Read votes_panel

-- A slot's kept blocks: its number, and the twelve words of the four places.
abbrev pub BlocksRead : Result KeptBlocks Refusal → (number : ℕ) (values : List ℕ) → Type 0
BlocksRead = Read blocks_panel

-- A slot's marks: its number, and the two marks.
abbrev pub MarksRead : Result SlotMarks Refusal → (number : ℕ) (values : List ℕ) → Type 0
MarksRead = Read marks_panel

-- A record's head: its number, and the four words.
abbrev pub HeadRead : Result RecordHead Refusal → (number : ℕ) (values : List ℕ) → Type 0
HeadRead = Read head_panel

-- A block's weights in a slot: its number, and the four weights.
abbrev pub WeightsRead : Result BlockWeights Refusal → (number : ℕ) (values : List ℕ) → Type 0
WeightsRead = Read weights_panel

-- A check under a table of so many nodes: its number, its five values, and what is missing beside 15.
pub record Checked (count : ℕ) (answer : Result Accepted Refusal) (number : ℕ) (values : List ℕ) (missing : ℕ) : Type 0 where
  pub numbered : number ≡ check_number answer
  pub valued : values ≡ check_values count answer
  pub lacked : missing ≡ check_missing answer

-- Two records compared: its number, how many lines, beside 17 the side and beside 9 the lines needed, and all words of the list.
pub record Compared (one two list : List ℕ) (number beside : ℕ) (left : List ℕ) : Type 0 where
  pub numbered : number ≡ (differ_panel (differ one two (length list)).answer).number
  pub counted : Beside beside (differ_panel (differ one two (length list)).answer).values
  pub lines : left ≡ over (spell_lines (differ one two (length list)).lines) list

-- A list of the inquest: its number, how many lines, beside 17 of two records the side and beside 9 the lines needed, and all words of the list.
pub record LinesRead (told : Told) (list : List ℕ) (number beside : ℕ) (left : List ℕ) : Type 0 where
  pub numbered : number ≡ (list_panel told.answer).number
  pub counted : Beside beside (list_panel told.answer).values
  pub lines : left ≡ over told.words list

-- A slot's kept certificates: its number, how many lines, beside 9 the lines needed, and all words of the list.
pub record CertificatesRead (told : Listing) (list : List ℕ) (number beside : ℕ) (left : List ℕ) : Type 0 where
  pub numbered : number ≡ (list_panel told.answer).number
  pub counted : Beside beside (list_panel told.answer).values
  pub lines : left ≡ over told.words list

-- A piece of a proof: its number, and all words and bytes of the state.
pub record Pieced (ws bs stakes bytes : List ℕ) (number : ℕ) (ws' bs' : List ℕ) : Type 0 where
  pub numbered : number ≡ (piece_panel (piece_leaves ws bs stakes bytes).answer).number
  pub words : ws' ≡ (piece_leaves ws bs stakes bytes).words
  pub front : bs' ≡ (piece_leaves ws bs stakes bytes).bytes

-- The end of a proof in pieces: a check under the state's table, and all words and bytes of the state.
pub record Ended (ws bs : List ℕ) (number : ℕ) (values : List ℕ) (missing : ℕ) (ws' bs' : List ℕ) : Type 0 where
  pub checked : Checked (nodes ws) (end_leaves ws bs).answer number values missing
  pub words : ws' ≡ (end_leaves ws bs).words
  pub front : bs' ≡ (end_leaves ws bs).bytes
