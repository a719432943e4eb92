-- Each way out of the two chains of refusals, and what nothing refused means. Assumes nothing.
use Rattle.std.specs.Prelude.{⊤, Result, Ok, Err}
use mathlib.Core.Path.{◌≡◌, refl}
use mathlib.Core.Bool.{Bool, true, false, not}
use Prim.Native.Nat.{ℕ, suc, ◌≤◌, ◌<◌}
use native.Mathlib.Omega.{arith}
use lib.Dec.{leb}
use borrow.Author.Tests.{lt-ltb, le-ltb, leb-true, ltb-false, eq-eqb, ne_eqb, not-false}
use Rattle.rulebook.specs.declared.CertificateKind.{CertificateKind}
use Rattle.rulebook.specs.declared.Refusal.{Refusal}
use Rattle.rulebook.specs.declared.Refusal.TheVariants as refusal
use Rattle.rulebook.specs.Weights.{last_slot, slot_ok}
use Rattle.rulebook.specs.Ledger.{Ledger, none}
use Rattle.rulebook.specs.Pool.{held}
use Rattle.rulebook.specs.Rules.{is_final}
use Rattle.rulebook.specs.Inputs.{refuse_if}
use Rattle.rulebook.specs.Checker.{is_other_kind, block_misfits}
use Rattle.rulebook.specs.Writers.{certificate_room, proof_room, certificate_verdict, proof_verdict}
use Rattle.rule_laws.proofs.ToolLaws.{and_both}

-- ---- the chains, exit by exit

-- The least room is what the table's size asks for.
module _ (l : Ledger) (room : ℕ) (k : CertificateKind) (s b least : ℕ) (e : least ≡ certificate_room l.count) where
  pub certificate_room_lem : room < least → Err refusal.NoRoom ≡ certificate_verdict l room k s b
  unfolding certificate_verdict refuse_if
  certificate_room_lem h = simp (lt-ltb room (certificate_room l.count) (omega (arith, e, h)))

  pub certificate_kind_lem : least ≤ room → is_other_kind k ≡ true → Err refusal.BadKind ≡ certificate_verdict l room k s b
  unfolding certificate_verdict refuse_if
  certificate_kind_lem h o = simp (le-ltb room (certificate_room l.count) (omega (arith, e, h)), o)

  pub certificate_slot : least ≤ room → is_other_kind k ≡ false → slot_ok s ≡ false → Err refusal.BadSlot ≡ certificate_verdict l room k s b
  unfolding certificate_verdict refuse_if
  certificate_slot h o f = simp (le-ltb room (certificate_room l.count) (omega (arith, e, h)), o, f)

  pub certificate_block : least ≤ room → is_other_kind k ≡ false → slot_ok s ≡ true → block_misfits k b ≡ true
      → Err refusal.BadBlock ≡ certificate_verdict l room k s b
  unfolding certificate_verdict refuse_if
  certificate_block h o f g = simp (le-ltb room (certificate_room l.count) (omega (arith, e, h)), o, f, g)

  pub certificate_held : least ≤ room → is_other_kind k ≡ false → slot_ok s ≡ true → block_misfits k b ≡ false → held l k s b ≡ false
      → Err refusal.NotHeld ≡ certificate_verdict l room k s b
  unfolding certificate_verdict refuse_if
  certificate_held h o f g i = simp (le-ltb room (certificate_room l.count) (omega (arith, e, h)), o, f, g, i)

  pub certificate_passed : least ≤ room → is_other_kind k ≡ false → slot_ok s ≡ true → block_misfits k b ≡ false → held l k s b ≡ true
      → Ok tt ≡ certificate_verdict l room k s b
  unfolding certificate_verdict refuse_if
  certificate_passed h o f g i = simp (le-ltb room (certificate_room l.count) (omega (arith, e, h)), o, f, g, i)

module _ (l : Ledger) (room s b least : ℕ) (e : least ≡ proof_room l.count) where
  pub proof_room_lem : room < least → Err refusal.NoRoom ≡ proof_verdict l room s b
  unfolding proof_verdict refuse_if
  proof_room_lem h = simp (lt-ltb room (proof_room l.count) (omega (arith, e, h)))

  pub proof_slot : least ≤ room → slot_ok s ≡ false → Err refusal.BadSlot ≡ proof_verdict l room s b
  unfolding proof_verdict refuse_if
  proof_slot h o = simp (le-ltb room (proof_room l.count) (omega (arith, e, h)), o)

  pub proof_block : least ≤ room → slot_ok s ≡ true → b ≡ 0 → Err refusal.BadBlock ≡ proof_verdict l room s b
  unfolding proof_verdict refuse_if
  proof_block h o f = simp (le-ltb room (proof_room l.count) (omega (arith, e, h)), o, eq-eqb b 0 f)

  pub proof_final : least ≤ room → slot_ok s ≡ true → (b ≡ 0 → ⊥) → is_final l s b ≡ false → Err refusal.NotHeld ≡ proof_verdict l room s b
  unfolding proof_verdict refuse_if
  proof_final h o f g = simp (le-ltb room (proof_room l.count) (omega (arith, e, h)), o, ne_eqb b 0 f, g)

  pub proof_passed : least ≤ room → slot_ok s ≡ true → (b ≡ 0 → ⊥) → is_final l s b ≡ true → Ok tt ≡ proof_verdict l room s b
  unfolding proof_verdict refuse_if
  proof_passed h o f g = simp (le-ltb room (proof_room l.count) (omega (arith, e, h)), o, ne_eqb b 0 f, g)

-- ---- nothing refused

-- A refusal that was not given.
pub not_refused : (t : Bool) (r : Refusal) (v : Result ⊤ Refusal) → refuse_if t r v ≡ Ok tt → (t ≡ false) × (v ≡ Ok tt)
unfolding refuse_if
not_refused true r v e = let z : ◌≡◌ {A = ℕ} 0 1 = cc in absurd (omega arith)
not_refused false r v e = (refl, e)

-- What a certificate that is written has passed.
pub record CertificateFine (l : Ledger) (free : ℕ) (k : CertificateKind) (s b : ℕ) : Type 0 where
  pub room : certificate_room l.count ≤ free
  pub kind : is_other_kind k ≡ false
  pub slot : slot_ok s ≡ true
  pub block : block_misfits k b ≡ false
  pub there : held l k s b ≡ true

pub certificate_fine : (l : Ledger) (room : ℕ) (k : CertificateKind) (s b : ℕ) → certificate_verdict l room k s b ≡ Ok tt
    → CertificateFine l room k s b
unfolding certificate_verdict
certificate_fine l room k s b e =
    let p = not_refused _ _ _ e in
    let q = not_refused _ _ _ p.1 in
    let r = not_refused _ _ _ q.1 in
    let t = not_refused _ _ _ r.1 in
    let u = not_refused _ _ _ t.1 in
    record {
      room = ltb-false room (certificate_room l.count) p.0;
      kind = q.0;
      slot = not-false (slot_ok s) r.0;
      block = t.0;
      there = not-false (held l k s b) u.0;
    }

-- What a proof that is written has passed.
pub record ProofFine (l : Ledger) (free s b : ℕ) : Type 0 where
  pub room : proof_room l.count ≤ free
  pub slot : slot_ok s ≡ true
  pub block : none b ≡ false
  pub final : is_final l s b ≡ true

pub proof_fine : (l : Ledger) (room s b : ℕ) → proof_verdict l room s b ≡ Ok tt → ProofFine l room s b
unfolding proof_verdict
proof_fine l room s b e =
    let p = not_refused _ _ _ e in
    let q = not_refused _ _ _ p.1 in
    let r = not_refused _ _ _ q.1 in
    let t = not_refused _ _ _ r.1 in
    record {
      room = ltb-false room (proof_room l.count) p.0;
      slot = not-false (slot_ok s) q.0;
      block = r.0;
      final = not-false (is_final l s b) t.0;
    }

-- One of the slots 1 to 16.
pub slot_row : (s : ℕ) → slot_ok s ≡ true → s < suc last_slot
unfolding slot_ok
slot_row s e = omega (arith, leb-true s 16 (and_both (leb 1 s) (leb s 16) e).1)
