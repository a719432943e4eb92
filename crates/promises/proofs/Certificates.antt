-- Certificates from other firms, at the face. Assumes nothing.
use Rattle.std.specs.Prelude.{⊤, Result, Ok, Err}
use mathlib.Core.Path.{◌≡◌, refl, sym, ap, ◌∙◌}
use mathlib.Core.Bool.{Bool, true, false, not}
use mathlib.Core.List.{List}
use Prim.Native.Nat.{ℕ, ◌+◌, ◌≤◌, ◌<◌}
use native.Mathlib.Omega.{arith}
use lib.ListN.{length}
use lib.Dec.{eqb}
use borrow.Author.Tests.{le-ltb, eq-eqb}
use Rattle.rulebook.specs.declared.CertificateKind.{CertificateKind}
use Rattle.rulebook.specs.declared.Refusal.{Refusal}
use Rattle.rulebook.specs.declared.Refusal.TheVariants as refusal
use Rattle.rulebook.specs.Certificates.{Found}
use Rattle.rulebook.specs.Certificates as found
use Rattle.rulebook.specs.PaperNumbers.{Panel, kind_in, refusal_number, verdict_number}
use Rattle.rulebook.specs.Weights.{slot_ok}
use Rattle.rulebook.specs.Ledger.{Ledger, table_of, certificates_at, kept_at, is_kept}
use Rattle.rulebook.specs.Pool.{place_kind, same_kind, some_kept}
use Rattle.rulebook.specs.Inputs.{refuse_if}
use Rattle.rulebook.specs.Packets.{certificate_at}
use Rattle.rulebook.specs.Checker.{bad_signers, signed, signed_weight, lacking, judge_weight, judge_kind, judge, check_certificate}
use Rattle.rulebook.specs.Taking.{has_room, is_repeat, kept_verdict}
use Rattle.rulebook.specs.Writers.{masked_by}
use Rattle.rulebook.specs.WellFormed.{kept_in, each_kept, certificate_fits, in_turn, certificates_apart, certificates_fit, well_formed, outbox_words}
use Rattle.rule_laws.proofs.ToolLaws.{and_both, by_test, true_not_false}
use Rattle.rule_laws.proofs.KindLaws.{kind_back}
use Rattle.rule_laws.proofs.CertificateLaws.{kind_same, apart_at_lem, record_certificates}
use Rattle.rule_laws.proofs.PanelLaws.{refusal_numbered}
use Rattle.packets.proofs.Table.{table_of_record}
use Rattle.record.specs.Layout.{ledger_of}
use Rattle.soundness.specs.Sound.{sound_words}
use Rattle.soundness.proofs.Laws.{sound_formed}
use Rattle.taking.specs.Taking.{take_leaves}
use Rattle.promises.specs.Panels.{shown, sound_first, else_then, certificate_checked, kept_judged, take_judged}
use Rattle.promises.specs.Certificates.{AsChecked, FaceTakeChecked, certificate_in, BadlyKept, refused_one, repeated, BadlyKeptRefused}
use Rattle.promises.proofs.Shown.{take_shown}
use Rattle.promises.proofs.ShownChecks.{certificate_check_shown}
use Rattle.promises.proofs.Cards.{unsound_refused}

-- ---- the checker's refusals

-- 0, 7 and 8 are all that is due to a certificate that was accepted.
kept_number : (a b : Bool) (n : ℕ) → n ≡ verdict_number (refuse_if a refusal.AlreadyKept (refuse_if b refusal.OtherStands (Ok tt))) → ¬ (n ≡ 0) → ¬ (n ≡ 7) → n ≡ 8
unfolding refuse_if verdict_number refusal_number
kept_number true b n e z s = absurd (s e)
kept_number false true n e z s = e
kept_number false false n e z s = absurd (z e)

found_number : (l : Ledger) (x : Found) (n : ℕ) → n ≡ verdict_number (kept_judged l x) → ¬ (n ≡ 0) → ¬ (n ≡ 7) → n ≡ 8
unfolding kept_judged kept_verdict verdict_number
found_number l (found.Whole c next) n e z s =
    let qs = certificates_at l c.slot in
    let k = kind_in l.count c.kind in
    kept_number (some_kept (is_repeat k c.block) 0 qs) (not (has_room k 0 qs)) n e z s
found_number l found.Early n e z s = absurd (z e)
found_number l found.Malformed n e z s = absurd (z e)

as_checked : (l : Ledger) (x : Found) (v : Result ⊤ Refusal) (n m : ℕ) → n ≡ verdict_number (else_then v (kept_judged l x)) → m ≡ verdict_number v → AsChecked n m
unfolding else_then verdict_number
as_checked l x (Ok tt) n m e f = record { refused = λ ne. absurd (ne f); accepted = λ _ z s. found_number l x n e z s }
as_checked l x (Err r) n m e f =
    record { refused = λ _. e ∙ sym f; accepted = λ z _ _. absurd (omega (arith, refusal_numbered r, f, z)) }

take_passed : (ws out packet : List ℕ) → sound_words ws ≡ true → outbox_words ≤ length out
    → take_judged ws out packet ≡ else_then (certificate_checked (table_of (ledger_of ws)) packet) (kept_judged (ledger_of ws) (certificate_at packet 0))
unfolding take_judged sound_first refuse_if
take_passed ws out packet e h = rw (e, le-ltb (length out) outbox_words h)

pub face_take_checked : FaceTakeChecked
unfolding shown
face_take_checked ws out packet number made ws' left checked values missing e h t c =
    let l = ledger_of ws in
    let stakes = table_of l in
    as_checked l (certificate_at packet 0) (certificate_checked stakes packet) number checked
    (t.numbered
    ∙ ap (λ (p : Panel). p.number) (take_shown ws out packet (take_leaves ws out packet).answer _ _ (record { answered = refl; words = refl; outbox = refl }))
    ∙ ap verdict_number (take_passed ws out packet e h))
    (c.numbered ∙ ap (λ (p : Panel). p.number) (certificate_check_shown stakes packet (check_certificate stakes packet) refl).panel)

-- ---- 17 for what a record may not keep

-- The kind that a packet's number tells is the place's, and the tests read nothing else of it.
judged_in : (l : Ledger) (s i : ℕ) → l.count ≡ length (table_of l) → judge (table_of l) (certificate_in l s i) ≡ judge_kind (table_of l) (place_kind i) (kept_in s (kept_at l s i))
unfolding judge judge_kind judge_weight bad_signers lacking signed_weight signed masked_by
judged_in l s i e =
    let is : kind_in (length (table_of l)) (certificate_in l s i).kind ≡ place_kind i = ap (λ (n : ℕ). kind_in n (certificate_in l s i).kind) (sym e) ∙ kind_back l.count (place_kind i) in
    ap (λ (k : CertificateKind). judge_kind (table_of l) k (certificate_in l s i)) is

never_repeated : (l : Ledger) → well_formed l ≡ true → (s i j : ℕ) → slot_ok s ≡ true → i < j → is_kept (kept_at l s j) ≡ true → place_kind i ≡ place_kind j
    → ¬ ((kept_at l s i).block ≡ (kept_at l s j).block)
unfolding certificates_fit in_turn
never_repeated l f s i j so h k same e =
    let qs = certificates_at l s in
    let a = and_both (each_kept (certificate_fits (table_of l) s) 0 qs) (certificates_apart 0 qs) (record_certificates l f s so) in
    let here : (n : ℕ) → 0 + n ≡ n = λ n. omega arith in
    let one : same_kind (place_kind (0 + i)) (place_kind (0 + j)) ≡ true =
    (λ t. same_kind (place_kind (here i t)) (place_kind (here j t))) ∙ ap (λ (x : CertificateKind). same_kind x (place_kind j)) same ∙ kind_same (place_kind j) in
    let b = and_both (is_kept (kept_at l s i)) _ (apart_at_lem 0 qs i j h a.1 k one) in
    true_not_false (not (eqb (kept_at l s i).block (kept_at l s j).block)) b.1 (ap not (eq-eqb (kept_at l s i).block (kept_at l s j).block e))

never_badly : (l : Ledger) → well_formed l ≡ true → ¬ BadlyKept l
never_badly l f (refused_one s i so k ne) =
    let t = table_of_record l f in ne (judged_in l s i t.count ∙ t.kept s i so k)
never_badly l f (repeated s i j so h k same e) = never_repeated l f s i j so h k same e

pub badly_kept_refused : BadlyKeptRefused
badly_kept_refused ws b =
    unsound_refused ws (by_test (sound_words ws) (λ t. absurd (never_badly (ledger_of ws) (sound_formed ws t) b)) (λ t. t))
