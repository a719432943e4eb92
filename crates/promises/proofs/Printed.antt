-- What the panel prints is the answer. Assumes nothing.
use mathlib.Core.Path.{◌≡◌, ap, ◌∙◌, subst}
use mathlib.Core.List.{List}
use Prim.Native.Nat.{ℕ}
use lib.ListN.{take}
use Rattle.rule_laws.proofs.RuleLaws.{over_front}
use Rattle.lines.specs.Put.{Put}
use Rattle.lines.specs.Answers.{number_line, start_line, step_line, tray_line, packet_line, message_line, check_line}
use Rattle.lines.proofs.Putting.{stands_whole}
use Rattle.tray_rules.specs.Trays.{whole_votes}
use Rattle.promises.specs.Printed.{Sends, PagePrinted, StartPrinted, WatchPrinted, StepPrinted, TakePrinted, TrayPrinted, PacketPrinted, MessagePrinted, CheckPrinted}

-- A text in other words is sent as it stands.
pub sends : (made sent : List ℕ) → made ≡ sent → Sends made sent
sends made sent e page page' used w h =
    let s = stands_whole w h in (λ j. take (s.0 j) (s.1 j)) ∙ over_front made page ∙ e

pub page_printed : PagePrinted
page_printed made sent s before after front w =
    s before.bytes.now after.bytes.now after.at (subst (λ (at : ℕ). Put before.bytes.now at made after.bytes.now after.at) front w.put)

pub start_printed : StartPrinted
unfolding start_line
start_printed ws stakes own genesis number left s = sends _ _ (ap number_line s.numbered)

pub watch_printed : WatchPrinted
unfolding start_line
watch_printed ws stakes genesis number left s = sends _ _ (ap number_line s.numbered)

pub step_printed : StepPrinted
step_printed ws out i number made ws' left s =
    sends _ _ (λ j. step_line (record { number = s.numbered j; values = s.counted j }) left)

pub take_printed : TakePrinted
take_printed ws out packet number made ws' left s =
    sends _ _ (λ j. step_line (record { number = s.numbered j; values = s.counted j }) left)

pub tray_printed : TrayPrinted
tray_printed ws out votes places number made ws' left answers s =
    sends _ _ (λ j. tray_line (record { number = s.numbered j; values = s.counted j }) left (take (whole_votes votes) (s.answered j)))

pub packet_printed : PacketPrinted
packet_printed wrote buffer number count after s =
    sends _ _ (λ j. packet_line (record { number = s.numbered j; values = s.counted j }) after)

pub message_printed : MessagePrinted
message_printed answer number values s = sends _ _ (λ j. message_line (record { number = s.numbered j; values = s.valued j }))

pub check_printed : CheckPrinted
check_printed count answer number values missing s =
    sends _ _ (λ j. check_line (record { number = s.numbered j; values = s.valued j }) (s.lacked j))
