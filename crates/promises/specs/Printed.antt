-- What the panel prints is the answer: where a maker of lines put the number and the values that the face's contract allows into a page
-- and left room there, the bytes up to its end, which are what is sent, are the line for that answer.
use Rattle.std.specs.Prelude.{◌≡◌, List, [], ◌∷◌, ℕ, ◌<◌, length, take, Result}
use Rattle.lines.specs.declared.Page.{Page}
use Rattle.rulebook.specs.declared.Input.{Input}
use Rattle.rulebook.specs.declared.Accepted.{Accepted}
use Rattle.rulebook.specs.declared.Refusal.{Refusal}
use Rattle.rulebook.specs.declared.Vote.{Vote}
use Rattle.rulebook.specs.PaperNumbers.{start_panel, step_panel, write_panel, read_panel, check_panel, check_missing}
use Rattle.rulebook.specs.Writers as written
use Rattle.lines.specs.Put.{Put}
use Rattle.lines.specs.Page as on_page
use Rattle.lines.specs.Answers.{number_line, start_line, step_line, tray_line, packet_line, message_line, check_line}
use Rattle.starts.specs.Starting.{start_judged, start_answer, watch_judged}
use Rattle.node.specs.Stepping.{step_leaves}
use Rattle.taking.specs.Taking.{take_leaves}
use Rattle.tray_rules.specs.Trays.{whole_votes}
use Rattle.trays.specs.Lent.{tray_leaves}
use Rattle.answers.specs.Face.{Started, Watched, Stepped, Taken, Trayed, Wrote, MessageRead, Checked}

-- A page in which one text was put, and the other is what is sent of it.
abbrev pub Sends : List ℕ → List ℕ → Type 0
Sends made sent = (page page' : List ℕ) (used : ℕ) → Put page 0 made page' used → used < length page → take used page' ≡ sent

-- The same of a page, on which the one text was put from the front on: where it left room, the bytes up to the page's place are the other.
abbrev pub PagePrinted : Type 0
PagePrinted =
    (made sent : List ℕ) → Sends made sent
    → (before after : Page) → before.at ≡ 0 → on_page.Wrote before made after → after.at < length before.bytes.now → take after.at after.bytes.now ≡ sent

-- start.
abbrev pub StartPrinted : Type 0
StartPrinted =
    (ws stakes : List ℕ) (own genesis number : ℕ) (left : List ℕ) → Started ws stakes own genesis number left
    → Sends (number_line number) (start_line (start_panel (start_answer (start_judged ws stakes own genesis))))

-- watch.
abbrev pub WatchPrinted : Type 0
WatchPrinted =
    (ws stakes : List ℕ) (genesis number : ℕ) (left : List ℕ) → Watched ws stakes genesis number left
    → Sends (number_line number) (start_line (start_panel (start_answer (watch_judged ws stakes genesis))))

-- vote, block, timeout and look: the records stand in the outbox that the step left.
abbrev pub StepPrinted : Type 0
StepPrinted =
    (ws out : List ℕ) (i : Input) (number made : ℕ) (ws' left : List ℕ) → Stepped ws out i number made ws' left
    → Sends (step_line (record { number = number; values = made ∷ [] }) left) (step_line (step_panel (step_leaves ws out i).answer) left)

-- take: likewise.
abbrev pub TakePrinted : Type 0
TakePrinted =
    (ws out packet : List ℕ) (number made : ℕ) (ws' left : List ℕ) → Taken ws out packet number made ws' left
    → Sends (step_line (record { number = number; values = made ∷ [] }) left) (step_line (step_panel (take_leaves ws out packet).answer) left)

-- tray: the votes' numbers stand at the front of the answer buffer that it left, as many as there are whole votes.
abbrev pub TrayPrinted : Type 0
TrayPrinted =
    (ws out votes places : List ℕ) (number made : ℕ) (ws' left answers : List ℕ) → Trayed ws out votes places number made ws' left answers
    → Sends (tray_line (record { number = number; values = made ∷ [] }) left (take (whole_votes votes) answers))
    (tray_line (step_panel (tray_leaves ws out votes places).answer) left (take (whole_votes votes) (tray_leaves ws out votes places).answers))

-- cert, proof and pack: the bytes stand in the buffer that the writer left.
abbrev pub PacketPrinted : Type 0
PacketPrinted =
    (wrote : written.Wrote) (buffer : List ℕ) (number count : ℕ) (after : List ℕ) → Wrote wrote buffer number count after
    → Sends (packet_line (record { number = number; values = count ∷ [] }) after) (packet_line (write_panel wrote.answer) after)

-- unpack.
abbrev pub MessagePrinted : Type 0
MessagePrinted =
    (answer : Result Vote Refusal) (number : ℕ) (values : List ℕ) → MessageRead answer number values
    → Sends (message_line (record { number = number; values = values })) (message_line (read_panel answer))

-- check and checkproof.
abbrev pub CheckPrinted : Type 0
CheckPrinted =
    (count : ℕ) (answer : Result Accepted Refusal) (number : ℕ) (values : List ℕ) (missing : ℕ) → Checked count answer number values missing
    → Sends (check_line (record { number = number; values = values }) missing) (check_line (check_panel count answer) (check_missing answer))
