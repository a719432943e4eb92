-- Demand 3 over seen lives, by the safety theorem on what arrived.
use mathlib.Core.Path.{◌≡◌, sym, ap, ◌∙◌}
use Prim.Native.Nat.{ℕ}
use Rattle.rulebook.specs.declared.Slot.{Slot}
use Rattle.safety.proofs.Promises as book
use Rattle.seen.specs.Safety.{Safe, ProofsAgree, MailIsEnough, FedSafe}
use Rattle.seen.proofs.Numbers.{zero_accepted}
use Rattle.seen.proofs.Ring.{genuine, book_ring, seen_ring, book_fed_ring}

same_slot : (x y : Slot) (s : ℕ) → x.0 ≡ s → y.0 ≡ s → x ≡ y
same_slot x y s p q = ap (λ (k : ℕ). record { 0 = k }) (p ∙ sym q)

pub safe : Safe
safe stakes genesis honest lives ring proof packet kind slot block signers weight missing kind' block' signers' weight' missing' g k x y =
    let p = zero_accepted x in
    let q = zero_accepted y in
    let all = ring.nodes.lived in
    rw (q.kind_is, q.block_is, p.block_is) at
    (book.packets_safe stakes genesis honest (λ n. (lives n).came) (book_ring stakes genesis honest lives ring) proof packet p.what q.what
    (genuine stakes genesis honest lives all proof g) (genuine stakes genesis honest lives all packet k) p.accepted q.accepted
    (same_slot q.what.slot p.what.slot slot q.slot_is p.slot_is))

pub proofs_agree : ProofsAgree
proofs_agree stakes genesis honest lives ring proof rival kind slot block signers weight missing kind' block' signers' weight' missing' g k x y =
    let p = zero_accepted x in
    let q = zero_accepted y in
    let all = ring.nodes.lived in
    sym q.block_is
    ∙ book.proofs_agree stakes genesis honest (λ n. (lives n).came) (book_ring stakes genesis honest lives ring) proof rival p.what q.what
    (genuine stakes genesis honest lives all proof g) (genuine stakes genesis honest lives all rival k) p.accepted q.accepted
    (same_slot q.what.slot p.what.slot slot q.slot_is p.slot_is)
    ∙ p.block_is

pub mail_is_enough : MailIsEnough
mail_is_enough stakes genesis honest lives ring =
    seen_ring stakes genesis honest lives ring.nodes (book.mail_is_enough stakes genesis honest (λ n. (lives n).came) (book_fed_ring stakes genesis honest lives ring))

pub fed_safe : FedSafe
fed_safe stakes genesis honest lives fed =
    let ring = mail_is_enough stakes genesis honest lives fed in (safe stakes genesis honest lives ring, proofs_agree stakes genesis honest lives ring)
