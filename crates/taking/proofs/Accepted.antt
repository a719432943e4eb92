-- An accepted packet: its certificate, what is told of it, and where it is kept. Assumes nothing.
use Rattle.std.specs.Prelude.{Result, Ok, Err}
use mathlib.Core.Path.{◌≡◌, sym, ap, ◌∙◌}
use mathlib.Core.Bool.{true, false, not, ◌&&◌}
use mathlib.Core.List.{List}
use Prim.Native.Nat.{ℕ, suc, ◌≤◌, ◌<◌}
use native.Mathlib.Omega.{arith}
use lib.ListN.{length, take}
use lib.Dec.{eqb, ltb}
use borrow.Author.Tests.{lt-ltb, le-ltb, not-false}
use Rattle.rulebook.specs.declared.Accepted.{Accepted}
use Rattle.rulebook.specs.declared.CertificateKind.{CertificateKind}
use Rattle.rulebook.specs.declared.Refusal.TheVariants as refusal
use Rattle.rulebook.specs.Weights.{last_slot, places_for, slot_ok, stakes_fit, total_to}
use Rattle.rulebook.specs.Certificates.{Certificate, Kept}
use Rattle.rulebook.specs.Certificates as found
use Rattle.rulebook.specs.PaperNumbers.{kind_in}
use Rattle.rulebook.specs.Packets.{joined, words_in, certificate_at}
use Rattle.rulebook.specs.Ledger.{Ledger, most_certificates, places, table_of, certificates_at, put_certificates}
use Rattle.rulebook.specs.Pool.{some_kept}
use Rattle.rulebook.specs.Inputs.{refuse_if}
use Rattle.rulebook.specs.Checker.{good, is_other_kind, accepted_of, judge_kind, judge, judged, one_of, one_at, check_certificate}
use Rattle.rulebook.specs.Taking.{has_room, fill_kept, is_repeat, kept_verdict, keep_certificate, taken, take_packet}
use Rattle.rulebook.specs.WellFormed.{head_fits, well_formed}
use Rattle.rule_laws.proofs.ToolLaws.{given_both, and_both}
use Rattle.rule_laws.proofs.RuleLaws.{refuse_fine}
use Rattle.rule_laws.proofs.PlaceLaws.{placed_each}
use Rattle.rule_laws.proofs.AcceptedLaws.{Single, accepted_single}
use Rattle.settling.specs.Facts.{HeadFacts}
use Rattle.settling.specs.Steps.{kind_for, CertificateFine}
use Rattle.settling.proofs.FeedLaws.{packet_whole}
use Rattle.settling.proofs.KeptLaws.{table_long}
use Rattle.settling.proofs.Verdicts.{slot_range, certificate_fine}
use Rattle.certificate_numbers.specs.Told.{found_as}
use Rattle.record.specs.Layout.{mask_words, InSlot, ledger_of}
use Rattle.record.proofs.Reading.{ledger_shaped}
use Rattle.kept_places.specs.declared.Sought.TheVariants as sought
use Rattle.kept_places.specs.Seeking.{seeks, first_place}
use Rattle.kept_places.proofs.Laws.{room_found, repeat_found}
use Rattle.kept_places.proofs.Families.{family_words}
use Rattle.soundness.specs.Sound.{sound_words}
use Rattle.soundness.proofs.Laws.{front_fits, sound_long, sound_formed, sound_head, sound_placed}
use Rattle.taking.specs.Taking.{found_in, certificate_in, Accepting}
use Rattle.rulebook.specs.declared.Heading.{Heading}
use Rattle.rulebook.specs.declared.Refusal.{Refusal}
use Rattle.rulebook.specs.declared.Unread.{Unread}
use Rattle.rulebook.specs.declared.Unread.TheVariants.{Early, Malformed}

-- ---- 1 is never answered

fits_record : (l : Ledger) → well_formed l ≡ true → stakes_fit l.stakes l.count ≡ true
unfolding well_formed head_fits
fits_record l e =
    let head = (given_both (head_fits l) _ e).0 in
    let table = (and_both (eqb (places l) (places_for l.count)) _ head).1 in
    (and_both (stakes_fit l.stakes l.count) _ (and_both (stakes_fit l.stakes l.count && eqb (total_to l.stakes l.count) l.total) _ table).0).0

-- The stakes of a sound record are a table.
pub table_fits : (ws : List ℕ) → sound_words ws ≡ true → stakes_fit (table_of (ledger_of ws)) (length (table_of (ledger_of ws))) ≡ true
table_fits ws s = front_fits (ledger_of ws).stakes (ledger_of ws).count (sound_placed ws s) ∙ fits_record (ledger_of ws) (sound_formed ws s)

-- The stakes that the checker is lent are the record's table.
pub checked_as : (ws packet : List ℕ) {stakes : List ℕ} {x y : Result Accepted Refusal} → stakes ≡ table_of (ledger_of ws) → x ≡ check_certificate stakes packet → x ≡ y
    → check_certificate (table_of (ledger_of ws)) packet ≡ y
checked_as ws packet e f g = ap (λ (xs : List ℕ). check_certificate xs packet) (sym e) ∙ sym f ∙ g

-- ---- the masks that are read again

masks_read : (f : Result (Heading × ℕ) Unread) (a b : List ℕ) (c : Certificate) (n : ℕ) → found_as f a b ≡ found.Whole c n
    → (joined (take (words_in c.kind) a) ≡ c.maska) × (joined (take (words_in c.kind) b) ≡ c.maskb)
unfolding found_as found_in
masks_read (Ok (h, next)) a b c n e =
    let kind : h.kind ≡ c.kind = ap (λ (x : found.Found). (found_in x).kind) e in (
      ap (λ (k : ℕ). joined (take (words_in k) a)) (sym kind) ∙ ap (λ (x : found.Found). (found_in x).maska) e,
      ap (λ (k : ℕ). joined (take (words_in k) b)) (sym kind) ∙ ap (λ (x : found.Found). (found_in x).maskb) e,
    )
masks_read (Err Early) a b c n e = let z : ◌≡◌ {A = ℕ} 0 1 = cc in absurd (omega arith)
masks_read (Err Malformed) a b c n e = let z : ◌≡◌ {A = ℕ} 0 1 = cc in absurd (omega arith)

-- ---- 7 and 8

module _ (ws : List ℕ) (s : ℕ) (k : CertificateKind) (b : ℕ) (h : s < suc last_slot) where
  abbrev kept : List Kept
  kept = certificates_at (ledger_of ws) s

  all_kept : length kept ≡ most_certificates
  all_kept = (ledger_shaped ws).certificates s h

  repeat_is : (same : ℕ) → same ≡ first_place (seeks (sought.Same k b)) 0 kept → some_kept (is_repeat k b) 0 kept ≡ ltb same most_certificates
  repeat_is same e = repeat_found k b kept ∙ (λ i. ltb (sym e i) (all_kept i))

  room_is : (room : ℕ) → room ≡ first_place (seeks (sought.Room k)) 0 kept → has_room k 0 kept ≡ ltb room most_certificates
  room_is room e = room_found k kept ∙ (λ i. ltb (sym e i) (all_kept i))

  pub kept_repeat : (same : ℕ) → same ≡ first_place (seeks (sought.Same k b)) 0 kept → same < most_certificates → Err refusal.AlreadyKept ≡ kept_verdict kept k b
  unfolding kept_verdict refuse_if
  kept_repeat same e l = rw (repeat_is same e ∙ lt-ltb same most_certificates l)

  module _ (same room : ℕ) (e : same ≡ first_place (seeks (sought.Same k b)) 0 kept) (new : most_certificates ≤ same)
      (f : room ≡ first_place (seeks (sought.Room k)) 0 kept) where
    pub kept_free : room < most_certificates → Ok tt ≡ kept_verdict kept k b
    unfolding kept_verdict refuse_if
    kept_free l = rw (repeat_is same e ∙ le-ltb same most_certificates new, room_is room f ∙ lt-ltb room most_certificates l)

    pub kept_full : most_certificates ≤ room → Err refusal.OtherStands ≡ kept_verdict kept k b
    unfolding kept_verdict refuse_if
    kept_full l = rw (repeat_is same e ∙ le-ltb same most_certificates new, room_is room f ∙ le-ltb room most_certificates l)

-- ---- the certificate of an accepted packet

module _ (ws packet : List ℕ) (told : Accepted) (k : Accepting ws packet told) where
  abbrev ledger : Ledger
  ledger = ledger_of ws

  abbrev front : Certificate
  front = certificate_in packet

  head : HeadFacts ledger
  head = sound_head ws k.sound

  one : Single (table_of ledger) packet told
  one = accepted_single (table_of ledger) packet told k.checked

  front_is : front ≡ one.first
  unfolding certificate_in found_in
  front_is = ap found_in one.read

  front_read : certificate_at packet 0 ≡ found.Whole front (length packet)
  front_read = one.read ∙ ap (λ (c : Certificate). found.Whole c (length packet)) (sym front_is)

  front_fine : judge (table_of ledger) front ≡ Ok tt
  front_fine = ap (judge (table_of ledger)) front_is ∙ one.fine

  told_is : told ≡ accepted_of (table_of ledger) front
  told_is = sym one.answer ∙ ap (accepted_of (table_of ledger)) (sym front_is)

  pub told_kind : told.kind ≡ kind_for ledger front
  unfolding accepted_of
  told_kind = ap (λ (a : Accepted). a.kind) told_is ∙ ap (λ (n : ℕ). kind_in n front.kind) (table_long ledger head)

  pub told_slot : told.slot.0 ≡ front.slot
  unfolding accepted_of
  told_slot = ap (λ (a : Accepted). a.slot.0) told_is

  pub told_block : told.block ≡ front.block
  unfolding accepted_of
  told_block = ap (λ (a : Accepted). a.block) told_is

  -- It is of the table's family, and its slot is one of the 16.
  front_family : is_other_kind (kind_for ledger front) ≡ false
  unfolding judge judge_kind
  front_family =
      ap (λ (n : ℕ). is_other_kind (kind_in n front.kind)) (sym (table_long ledger head)) ∙ (refuse_fine (is_other_kind (kind_in (length (table_of ledger)) front.kind)) refusal.BadKind _ front_fine).0

  front_slot : front.slot ≤ last_slot
  unfolding judge judge_kind
  front_slot =
      let later = (refuse_fine (is_other_kind (kind_in (length (table_of ledger)) front.kind)) refusal.BadKind _ front_fine).1 in
      (slot_range front.slot (not-false (slot_ok front.slot) (refuse_fine (not (slot_ok front.slot)) refusal.BadSlot _ later).0)).1

  pub told_placed : InSlot ws told.slot.0
  told_placed = record { long = sound_long ws k.sound; slot = omega (arith, told_slot, front_slot) }

  -- Its masks have as many words as the record's.
  pub front_words : words_in front.kind ≡ mask_words (places ledger)
  front_words =
      family_words ledger.count front.kind front_family ∙ ap mask_words (sym (head.room ∙ placed_each ledger.count head.few))

  front_good : one_at (table_of ledger) packet 0 ≡ good front (length packet)
  unfolding one_at one_of judged
  front_good = rw (front_read, front_fine)

  -- The packet is taken as its certificate is.
  pub packet_taken : take_packet ledger packet ≡ taken ledger front
  packet_taken = packet_whole ledger packet front (length packet) front_good (omega arith)

  -- What is kept, by what is told and the masks that are read again.
  pub keeps_front : (ws' : List ℕ) (f : Result (Heading × ℕ) Unread) (a b : List ℕ) (w : ℕ) → found_as f a b ≡ certificate_at packet 0 → w ≡ mask_words (places ledger)
      → ledger_of ws' ≡ put_certificates ledger told.slot.0 (fill_kept told.kind 0 (record { block = told.block; maska = joined (take w a); maskb = joined (take w b) }) (certificates_at ledger told.slot.0))
      → ledger_of ws' ≡ keep_certificate ledger front
  unfolding keep_certificate
  keeps_front ws' f a b w r e q =
      let m = masks_read f a b front (length packet) (r ∙ front_read) in
      let words : w ≡ words_in front.kind = e ∙ sym front_words in
      q ∙ (λ i. put_certificates ledger (told_slot i)
      (fill_kept (told_kind i) 0
      (record { block = told_block i; maska = (ap (λ (n : ℕ). joined (take n a)) words ∙ m.0) i; maskb = (ap (λ (n : ℕ). joined (take n b)) words ∙ m.1) i })
      (certificates_at ledger (told_slot i))))

  pub verdict_told : kept_verdict (certificates_at ledger told.slot.0) told.kind told.block ≡ kept_verdict (certificates_at ledger front.slot) (kind_for ledger front) front.block
  verdict_told = λ i. kept_verdict (certificates_at ledger (told_slot i)) (told_kind i) (told_block i)

  -- What it has passed where neither 7 nor 8 stands against it.
  pub front_passes : kept_verdict (certificates_at ledger told.slot.0) told.kind told.block ≡ Ok tt → CertificateFine ledger front
  front_passes e = certificate_fine ledger front (table_long ledger head) front_fine (sym verdict_told ∙ e)
