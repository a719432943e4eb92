-- Watchers and honest nodes as writers: what they write is accepted and genuine, and so their proofs agree.
use Rattle.std.specs.Prelude.{Ok}
use mathlib.Core.Path.{◌≡◌, sym, ap, ◌∙◌}
use Prim.Native.Nat.{ℕ, ◌<◌, ◌^◌}
use mathlib.Core.List.{List}
use native.Mathlib.Omega.{arith}
use lib.ListN.{length}
use Rattle.rulebook.specs.declared.Slot.{Slot}
use Rattle.rulebook.specs.declared.CertificateKind.{CertificateKind}
use Rattle.rulebook.specs.Ledger.{Ledger}
use Rattle.rulebook.specs.Taking.{Arrival}
use Rattle.rulebook.specs.Checker.{check_proof}
use Rattle.rulebook.specs.Writers.{write_proof}
use Rattle.safety.specs.Slot.{Test}
use Rattle.safety.specs.Ring.{cast_by, Ring, GenuinePacket}
use Rattle.safety.specs.Promises.{AcceptedAs, HonestProofsAgree}
use Rattle.safety.specs.Watchers.{WatchedCertificateAccepted, WatchedProofAccepted, WatchedFinalsGrounded, WatchedClashesGrounded, WatchedMailIsEnough, WatchedCertificateGenuine, WatchedProofGenuine, Writer, node, watcher, WatchedProofsAgree}
use Rattle.safety.proofs.Lives.{watch_sized}
use Rattle.safety.proofs.Safety.{in_table_lem}
use Rattle.safety.proofs.Packets.{proofs_agree}
use Rattle.safety.proofs.Written.{certificate_written, proof_written, written_proof_accepted}
use Rattle.safety.proofs.Promises.{counts_brought, keeps_handed, finals_behind, clashes_behind}
use Rattle.safety.proofs.Honest.{certificate_holds, proof_holds, written_proof_genuine}

pub watched_certificate_accepted : WatchedCertificateAccepted
watched_certificate_accepted stakes genesis start lived room k s b n h e = certificate_written stakes (length stakes) genesis (watch_sized stakes genesis start) lived room k s b n h e

pub watched_proof_accepted : WatchedProofAccepted
watched_proof_accepted stakes genesis start lived room s b n h e = proof_written stakes (length stakes) genesis (watch_sized stakes genesis start) lived room s b n h e

pub watched_finals_grounded : WatchedFinalsGrounded
watched_finals_grounded stakes genesis start lived s b t = finals_behind stakes (length stakes) genesis (watch_sized stakes genesis start) lived s b t

pub watched_clashes_grounded : WatchedClashesGrounded
watched_clashes_grounded stakes genesis start lived s b t = clashes_behind stakes (length stakes) genesis (watch_sized stakes genesis start) lived s b t

pub watched_mail_is_enough : WatchedMailIsEnough
watched_mail_is_enough stakes genesis honest fed ring g start lived f =
    let z = watch_sized stakes g start in
    record {
      pool = λ m s v h t. f.mail m s v h
          (counts_brought stakes (length stakes) g z lived m s v (λ e. let below = in_table_lem stakes genesis honest fed ring m h in omega (arith, below, e)) t);
      kept = keeps_handed stakes (length stakes) g z lived honest (cast_by stakes genesis honest fed) f.packets;
    }

pub watched_certificate_genuine : WatchedCertificateGenuine
watched_certificate_genuine stakes genesis honest fed ring g start lived holds room k s b size lt w =
    certificate_holds stakes honest (cast_by stakes genesis honest fed) (in_table_lem stakes genesis honest fed ring) (length stakes) g (watch_sized stakes g start) lived holds room k s b size lt w

pub watched_proof_genuine : WatchedProofGenuine
watched_proof_genuine stakes genesis honest fed ring g start lived holds room s b size lt w =
    proof_holds stakes honest (cast_by stakes genesis honest fed) (in_table_lem stakes genesis honest fed ring) (length stakes) g (watch_sized stakes g start) lived holds room s b size lt w

-- ---- two writers

same_slot : (x y : Slot) (s : ℕ) → x.0 ≡ s → y.0 ≡ s → x ≡ y
same_slot x y s p q = ap (λ (k : ℕ). record { 0 = k }) (p ∙ sym q)

module _ (stakes : List ℕ) (genesis : ℕ → ℕ) (honest : Test) (fed : ℕ → List Arrival) (ring : Ring stakes genesis honest fed) where
  -- What one of them writes as a proof.
  record Written (l : Ledger) (room s b : ℕ) : Type 0 where
    pub kind : CertificateKind
    pub accepted : AcceptedAs (check_proof stakes (write_proof l room s b).bytes) kind s b
    pub genuine : GenuinePacket (length stakes) honest (cast_by stakes genesis honest fed) (write_proof l room s b).bytes

  by_writer : (l : Ledger) → Writer stakes genesis honest fed l → (room s b size : ℕ) → b < 2 ^ 64 → (write_proof l room s b).answer ≡ Ok size → Written l room s b
  by_writer l (node n h before later e) room s b size lt w =
      let a = written_proof_accepted stakes n (genesis n) (ring.started n h) before room s b size lt w in
      record { kind = a.0; accepted = a.1; genuine = written_proof_genuine stakes genesis honest fed ring n h before later e room s b size lt w }
  by_writer l (watcher g start lived holds) room s b size lt w =
      let a = watched_proof_accepted stakes g start lived room s b size lt w in
      record { kind = a.0; accepted = a.1; genuine = watched_proof_genuine stakes genesis honest fed ring g start lived holds room s b size lt w }

pub watched_proofs_agree : WatchedProofsAgree
watched_proofs_agree stakes genesis honest fed ring l m x y room room' s b d size size' lt lt' w w' =
    let v = by_writer stakes genesis honest fed ring l x room s b size lt w in
    let v' = by_writer stakes genesis honest fed ring m y room' s d size' lt' w' in
    let p = v.accepted in
    let q = v'.accepted in
    let a = proofs_agree stakes genesis honest fed ring (write_proof l room s b).bytes (write_proof m room' s d).bytes p.what q.what v.genuine v'.genuine
    p.accepted q.accepted (same_slot q.what.slot p.what.slot s q.slot_is p.slot_is) in
    sym p.block_is ∙ sym a ∙ q.block_is

pub honest_proofs_agree : HonestProofsAgree
honest_proofs_agree stakes genesis honest fed ring n m h k before later e before' later' e' =
    watched_proofs_agree stakes genesis honest fed ring _ _ (node n h before later e) (node m k before' later' e')
