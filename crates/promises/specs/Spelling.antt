-- "No two accepted packets spell the same certificates", at the face.
use Rattle.std.specs.Prelude.{◌≡◌, List, ℕ, length}
use Rattle.rulebook.specs.Checker.{check_certificate, check_proof}
use Rattle.packets.specs.Promises.{Bytes, parts}
use Rattle.answers.specs.Face.{Checked}

-- The face accepted the packet: qr_check_certificate answered 0, or qr_check_proof did.
pub data FaceAccepted (stakes packet : List ℕ) : Type 0 where
  as_certificate : (values : List ℕ) (missing : ℕ) → Checked (length stakes) (check_certificate stakes packet) 0 values missing → FaceAccepted stakes packet
  as_proof : (values : List ℕ) (missing : ℕ) → Checked (length stakes) (check_proof stakes packet) 0 values missing → FaceAccepted stakes packet

-- Two packets that it accepted, and that read to the same certificates, are the same bytes, whatever the tables.
abbrev pub FaceOnePacket : Type 0
FaceOnePacket =
    (stakes others p q : List ℕ) → Bytes p → Bytes q → FaceAccepted stakes p → FaceAccepted others q → parts p ≡ parts q → p ≡ q
