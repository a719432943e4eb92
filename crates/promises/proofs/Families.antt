-- Each table reads and writes the kinds of its family alone. Assumes nothing.
use Rattle.std.specs.Prelude.{Ok, Err}
use mathlib.Core.Path.{◌≡◌, refl, sym, ap, ◌∙◌}
use mathlib.Core.Bool.{Bool, true, false}
use mathlib.Core.List.{List}
use Prim.Native.Nat.{ℕ, ◌≤◌, ◌<◌}
use native.Mathlib.Omega.{arith}
use lib.ListN.{length, get_or}
use borrow.Author.Tests.{le-ltb, lt-ltb}
use Rattle.rulebook.specs.declared.Accepted.{Accepted}
use Rattle.rulebook.specs.declared.Refusal.TheVariants as refusal
use Rattle.rulebook.specs.Certificates.{Certificate, Found}
use Rattle.rulebook.specs.Certificates as found
use Rattle.rulebook.specs.Tools.{part}
use Rattle.rulebook.specs.Weights.{is_large, family, stakes_fit}
use Rattle.rulebook.specs.PaperNumbers.{certificate_kind, kind_in, number_in, refusal_number, write_panel, check_number, check_values}
use Rattle.rulebook.specs.Inputs.{refuse_if}
use Rattle.rulebook.specs.Packets.{certificate_at}
use Rattle.rulebook.specs.Checker.{is_other_kind, judge_kind, judge, judged, one_of, one_at, accepted_of, single_of, check_certificate, proof_of, check_proof}
use Rattle.rulebook.specs.Writers.{certificate_room, wrote_on, certificate_verdict, write_certificate}
use Rattle.rule_laws.proofs.ToolLaws.{given_on}
use Rattle.rule_laws.proofs.RuleLaws.{refuse_fine}
use Rattle.rule_laws.proofs.KindLaws.{kind_range, number_back}
use Rattle.rule_laws.proofs.AcceptedLaws.{accepted_single, accepted_proof, Proven, one, two}
use Rattle.rule_laws.proofs.PanelLaws.{done_told}
use Rattle.record.specs.Layout.{ledger_of}
use Rattle.soundness.specs.Sound.{sound_words}
use Rattle.writers.specs.Writing.{certificate_on}
use Rattle.promises.specs.Families.{OfTable, ReadOwn, ReadsOwn, RefusesOther, WritesOwn, AsksOther, OldKindsStay}
use Rattle.promises.proofs.Held.{certificate_exactly}

-- ---- families

small_family : (count : ℕ) → count ≤ 64 → family count ≡ 0
unfolding family is_large part
small_family count h = rw (le-ltb 64 count h)

large_family : (count : ℕ) → 64 < count → family count ≡ 10
unfolding family is_large part
large_family count h = rw (lt-ltb 64 count h)

of_table : (count n : ℕ) → is_other_kind (kind_in count n) ≡ false → OfTable count n
of_table count n o =
    let r = kind_range count n o in
    record {
      old = λ h. let f = small_family count h in (omega (arith, f, r.0), omega (arith, f, r.1));
      new = λ h. let f = large_family count h in (omega (arith, f, r.0), omega (arith, f, r.1));
    }

not_of_table : (count n : ℕ) → ¬ OfTable count n → is_other_kind (kind_in count n) ≡ true
not_of_table count n other = go (is_other_kind (kind_in count n)) refl
  where
    go : (t : Bool) → is_other_kind (kind_in count n) ≡ t → is_other_kind (kind_in count n) ≡ true
    go true e = e
    go false e = absurd (other (of_table count n e))

pub old_kinds_stay : OldKindsStay
unfolding kind_in number_in
old_kinds_stay count h =
    let f = small_family count h in
    record { kinds = λ n. ap certificate_kind (omega (arith, f)); numbers = λ k. omega (arith, f) }

-- ---- the checkers

-- A certificate that is fine is of the table's family.
fine_kind : (stakes : List ℕ) (c : Certificate) → judge stakes c ≡ Ok tt → is_other_kind (kind_in (length stakes) c.kind) ≡ false
unfolding judge judge_kind
fine_kind stakes c j = (refuse_fine (is_other_kind (kind_in (length stakes) c.kind)) refusal.BadKind _ j).0

-- The kind that is told is the packet's.
told_kind : (stakes : List ℕ) (c : Certificate) (a : Accepted) → judge stakes c ≡ Ok tt → accepted_of stakes c ≡ a
    → get_or (check_values (length stakes) (Ok a)) 0 0 ≡ c.kind
unfolding check_values accepted_of
told_kind stakes c a j e = ap (λ (x : Accepted). number_in (length stakes) x.kind) (sym e) ∙ number_back (length stakes) c.kind (fine_kind stakes c j)

read_own : (stakes packet values : List ℕ) (a : Accepted) (c : Certificate) (n : ℕ) → values ≡ check_values (length stakes) (Ok a)
    → certificate_at packet 0 ≡ found.Whole c n → judge stakes c ≡ Ok tt → accepted_of stakes c ≡ a → ReadOwn stakes packet values
read_own stakes packet values a c n v r j e =
    record {
      first = c;
      next = n;
      read = r;
      family = of_table (length stakes) c.kind (fine_kind stakes c j);
      told = ap (λ (x : List ℕ). get_or x 0 0) v ∙ told_kind stakes c a j e;
    }

pub face_certificate_own : ReadsOwn check_certificate
unfolding check_number
face_certificate_own stakes packet values missing h =
    let x = done_told (check_certificate stakes packet) (sym h.numbered) in
    let s = accepted_single stakes packet x.0 x.1 in
    read_own stakes packet values x.0 s.first (length packet) (h.valued ∙ ap (check_values (length stakes)) x.1) s.read s.fine s.answer

pub face_proof_own : ReadsOwn check_proof
unfolding check_number
face_proof_own stakes packet values missing h =
    let x = done_told (check_proof stakes packet) (sym h.numbered) in
    go x.0 (h.valued ∙ ap (check_values (length stakes)) x.1) (accepted_proof stakes packet x.0 x.1)
  where
    go : (a : Accepted) → values ≡ check_values (length stakes) (Ok a) → Proven stakes packet a → ReadOwn stakes packet values
    go a v (one c r j k e) = read_own stakes packet values a c (length packet) v r j e
    go a v (two c d n r j k r2 j2 k2 s e) = read_own stakes packet values a c n v r j e

-- Another family's certificate is judged 4.
other_judged : (stakes : List ℕ) (c : Certificate) → is_other_kind (kind_in (length stakes) c.kind) ≡ true → judge stakes c ≡ Err refusal.BadKind
unfolding judge judge_kind refuse_if
other_judged stakes c o = rw o

module _ (stakes packet : List ℕ) (c : Certificate) (next : ℕ) (fit : stakes_fit stakes (length stakes) ≡ true) (r : certificate_at packet 0 ≡ found.Whole c next)
    (other : ¬ OfTable (length stakes) c.kind) where
  j : judge stakes c ≡ Err refusal.BadKind
  j = other_judged stakes c (not_of_table (length stakes) c.kind other)

  certificate_4 : check_number (check_certificate stakes packet) ≡ 4
  unfolding check_certificate one_at one_of judged single_of check_number refusal_number
  certificate_4 = rw (given_on (stakes_fit stakes (length stakes)) _ _ fit, r, j)

  proof_4 : check_number (check_proof stakes packet) ≡ 4
  unfolding check_proof one_at one_of judged proof_of check_number refusal_number
  proof_4 = rw (given_on (stakes_fit stakes (length stakes)) _ _ fit, r, j)

pub face_certificate_other : RefusesOther check_certificate
face_certificate_other stakes packet c next number values missing fit r other h = h.numbered ∙ certificate_4 stakes packet c next fit r other

pub face_proof_other : RefusesOther check_proof
face_proof_other stakes packet c next number values missing fit r other h = h.numbered ∙ proof_4 stakes packet c next fit r other

-- ---- the writer

pub face_writes_own : WritesOwn
unfolding write_panel
face_writes_own ws buffer kind s b count after h =
    let w = done_told (certificate_on ws (length buffer) kind s b).answer (sym h.numbered) in
    let x = certificate_exactly ws buffer kind s b _ after (record { answered = refl; bytes = h.bytes }) in
    of_table (ledger_of ws).count kind (x.only_then w.0 w.1).0.kind

pub face_asks_other : AsksOther
unfolding certificate_on write_certificate certificate_verdict wrote_on write_panel refusal_number refuse_if
face_asks_other ws buffer kind s b number count after so room other h =
    h.numbered
    ∙ rw (given_on (sound_words ws) _ _ so, le-ltb (length buffer) (certificate_room (ledger_of ws).count) room, not_of_table (ledger_of ws).count kind other)
