-- The four numbers written one after the other, and what the writer answers. Assumes nothing.
use Rattle.std.specs.Prelude.{⊤, Result, Ok}
use mathlib.Core.Path.{◌≡◌, refl, subst}
use mathlib.Core.List.{List, ◌++◌, append_assoc}
use Prim.Native.Nat.{ℕ, ◌+◌, ◌≤◌}
use native.Mathlib.Omega.{arith}
use lib.ListN.{length, length-append}
use Rattle.rulebook.specs.declared.Vote.{Vote}
use Rattle.rulebook.specs.PaperNumbers.{vote_number}
use Rattle.rulebook.specs.Packets.{number_bytes}
use Rattle.rulebook.specs.Messages.{message_bytes, message_verdict, write_vote}
use Rattle.rulebook.specs.Writers.{wrote_on}
use Rattle.numbers.specs.Written.{Room, Written}
use Rattle.numbers.proofs.Stores.{after}
use Rattle.messages.proofs.Tested.{message_fine, message_length, message_few}
use Rattle.rulebook.specs.declared.Refusal.{Refusal}

-- One run of bytes.
pub four : {l l1 l2 l3 l4 : List ℕ} {p q r n k : ℕ} (v : Vote) → 0 + length (message_bytes v) ≤ length l → k ≡ vote_number v.kind
    → Written l 0 (number_bytes k) l1 p → Written l1 p (number_bytes v.node.0) l2 q → Written l2 q (number_bytes v.slot.0) l3 r
    → Written l3 r (number_bytes v.block) l4 n → Written l 0 (message_bytes v) l4 n
unfolding message_bytes
four {l} {l1} {l4 = l4} {p} {n = n} v h e w1 w2 w3 w4 =
    let k = number_bytes (vote_number v.kind) in
    let m = number_bytes v.node.0 in
    let s = number_bytes v.slot.0 in
    let b = number_bytes v.block in
    let e2 = length-append k m in
    let e3 = length-append (k ++ m) s in
    let e4 = length-append (k ++ m ++ s) b in
    let all = message_length v in
    let x1 : Written l 0 k l1 p = subst (λ (x : ℕ). Written l 0 (number_bytes x) l1 p) e w1 in
    let z : k ++ m ++ s ++ b ≡ k ++ (m ++ (s ++ b)) = simp append_assoc in
    subst (λ (y : List ℕ). Written l 0 y l4 n) z (after (omega arith) (after (omega arith) (after (omega arith) x1 w2) w3) w4)

-- Where nothing is refused there is room.
pub message_room : (count : ℕ) (v : Vote) (buffer : List ℕ) → message_verdict count (length buffer) v ≡ Ok tt → Room buffer 0 (message_bytes v)
message_room count v buffer e =
    let f = message_fine count (length buffer) v e in
    record { ends = omega (arith, message_few count v (Ok tt) f.0 f.2, f.1) }

-- What is answered, by what was found.
pub message_judged : (count room : ℕ) (v : Vote) (found : Result ⊤ Refusal) → found ≡ message_verdict count room v → write_vote count room v ≡ wrote_on found (message_bytes v)
unfolding write_vote
message_judged count room v found e = rw e refl
