-- No two packets that the face accepted spell the same certificates. Assumes nothing.
use mathlib.Core.Path.{sym}
use mathlib.Core.List.{List}
use Prim.Native.Nat.{ℕ}
use Rattle.rulebook.specs.PaperNumbers.{check_number}
use Rattle.rulebook.specs.Checker.{check_certificate, check_proof}
use Rattle.rule_laws.proofs.PanelLaws.{done_told}
use Rattle.packets.specs.Promises as packet
use Rattle.packets.proofs.Spelling.{one_packet}
use Rattle.promises.specs.Spelling.{FaceAccepted, as_certificate, as_proof, FaceOnePacket}

accepted : (stakes p : List ℕ) → FaceAccepted stakes p → packet.AcceptedByEither stakes p
unfolding check_number
accepted stakes p (as_certificate values missing h) =
    let x = done_told (check_certificate stakes p) (sym h.numbered) in packet.as_certificate x.0 x.1
accepted stakes p (as_proof values missing h) =
    let x = done_told (check_proof stakes p) (sym h.numbered) in packet.as_proof x.0 x.1

pub face_one_packet : FaceOnePacket
face_one_packet stakes others p q hp hq a b same = one_packet stakes others p q hp hq (accepted stakes p a) (accepted others q b) same
