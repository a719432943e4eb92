-- A certificate that was read of a packet is written the same wherever it stands; and what was taken is held.
use Rattle.std.specs.Prelude.{Result, Ok, Err}
use mathlib.Core.Path.{◌≡◌, refl, sym, ap, ◌∙◌, subst}
use mathlib.Core.Bool.{Bool, true, false, not, ◌&&◌}
use mathlib.Core.List.{List, [], ◌∷◌, ◌++◌, append-nil}
use mathlib.Core.Logic.{◌⊎◌, inl, inr}
use Prim.Native.Nat.{ℕ, ◌+◌, ◌-◌, ◌≤◌, ◌<◌}
use native.Mathlib.Omega.{arith}
use native.Mathlib.Nat.{zero-add}
use lib.Dec.{T, leb, ltb}
use lib.ListN.{length, get_or, take, drop, length-append, length-drop}
use lib.Seq.{drop-length, take-append_seam}
use borrow.Author.Tests.{eqb-true, eq-eqb, leb-true, le-leb, le-ltb, not-false}
use Rattle.rulebook.specs.declared.Accepted.{Accepted}
use Rattle.rulebook.specs.declared.CertificateKind.{CertificateKind}
use Rattle.rulebook.specs.declared.CertificateKind.TheVariants as certificate
use Rattle.rulebook.specs.declared.Refusal.{Refusal}
use Rattle.rulebook.specs.declared.Refusal.TheVariants as refusal
use Rattle.rulebook.specs.Weights.{slot_ok, stakes_fit}
use Rattle.rulebook.specs.Certificates.{Certificate}
use Rattle.rulebook.specs.Certificates as found
use Rattle.rulebook.specs.PaperNumbers.{kind_in, number_in, certificate_number, refusal_number, step_panel, check_number, check_values, check_missing}
use Rattle.rulebook.specs.Ledger.{Ledger, table_of, certificates_at, kept_at, is_kept, fresh}
use Rattle.rulebook.specs.Ledger as ledger
use Rattle.rulebook.specs.Pool.{place_kind, same_kind, some_kept, held}
use Rattle.rulebook.specs.Rules.{is_final}
use Rattle.rulebook.specs.Inputs.{Fed, refuse_if, fed_with, refused_with}
use Rattle.rulebook.specs.Taking.{Arrival, has_room, is_repeat, kept_verdict, taken_on, taken}
use Rattle.rulebook.specs.WellFormed.{outbox_words, kept_in}
use Rattle.rulebook.specs.Packets.{certificate_at, certificate_bytes}
use Rattle.rulebook.specs.Checker.{is_other_kind, block_misfits, accepted_of, judge, judge_kind, judged, one_of, one_at, ended, single_of, check_certificate, check_proof}
use Rattle.rule_laws.proofs.RuleLaws.{refuse_fine}
use Rattle.rule_laws.proofs.ToolLaws.{given_on, given_off, by_test, and_both, true_not_false}
use Rattle.rule_laws.proofs.CertificateLaws.{place_some, no_room}
use Rattle.rule_laws.proofs.KindLaws.{kind_back}
use Rattle.rule_laws.proofs.NumberLaws.{Fits64, certificate_read, certificate_back}
use Rattle.rule_laws.proofs.AcceptedLaws.{Proven, one, two, accepted_proof, accepted_single}
use Rattle.safety.specs.Promises.{AcceptedAs}
use Rattle.safety.specs.Ring.{after_all}
use Rattle.safety.proofs.Lives.{Sized, life_ready, fresh_ready}
use Rattle.safety.proofs.Tests.{true_t, T-left, T-right, T_and}
use Rattle.safety.proofs.Written.{count_is, stakes_are}
use Rattle.vouched_packets.specs.Asked.{end_in, first_end}
use Rattle.vouched_packets.specs.Split.{split_by, split_on, split_panel}
use Rattle.vouched_packets.proofs.Splitting.{split_sound}
use Rattle.answers.specs.Face.{Taken, Checked}
use Rattle.seen.specs.Seen.{Seen, ledger_in, Alive, node, watcher}
use Rattle.seen.proofs.Alive.{Common, alive_common}
use Rattle.seen.proofs.Numbers.{refusal_above}
use Rattle.calls.specs.Operation.{a_packet}
use Rattle.calls.specs.Life.{next, Calls, none, then, not_started, not_watched}
use Rattle.calls.proofs.Life.{many}
use Rattle.told.specs.Parts.{Parts, whole, halves, Splits, SplitIsParts, HalvesMakeFinal, WholeMakesFinal, SecondIsTaken}
use Rattle.told.proofs.Held.{right, single_taken, number_taken, taken_is_held}

-- ---- the parts of a packet

-- Lists that begin with as many elements, and end alike, begin alike.
fronts : (xs ys : List ℕ) (n : ℕ) → n ≤ length xs → xs ≡ ys ++ drop n xs → (ys ≡ take n xs) × (length ys ≡ n)
fronts xs ys n h e =
    let long : length xs ≡ length ys + (length xs - n) = ap length e ∙ length-append ys (drop n xs) ∙ ap (λ (k : ℕ). length ys + k) (length-drop n xs) in
    let m : length ys ≡ n = omega (arith, long, h) in
    (sym (ap (take n) e ∙ ap (λ (k : ℕ). take k (ys ++ drop n xs)) (sym m) ∙ take-append_seam ys (drop n xs)), m)

-- A certificate alone is read as it stands.
alone : (c : Certificate) → Fits64 c → certificate_at (certificate_bytes c) 0 ≡ found.Whole c (length (certificate_bytes c))
alone c f = subst (λ (bytes : List ℕ). certificate_at bytes 0 ≡ found.Whole c (length (certificate_bytes c))) (append-nil (certificate_bytes c)) (certificate_back [] c [] f ∙ ap (found.Whole c) (zero-add (length (certificate_bytes c))))

module _ (packet : List ℕ) (bytes : (i : ℕ) → get_or packet i 0 < 256) where
  first_part : (c : Certificate) (n : ℕ) → certificate_at packet 0 ≡ found.Whole c n → certificate_at (take n packet) 0 ≡ found.Whole c (length (take n packet))
  first_part c n e =
      let r = certificate_read packet 0 c n e in
      let f = fronts packet (certificate_bytes c) n r.inside (r.spelled bytes) in
      subst (λ (p : List ℕ). certificate_at p 0 ≡ found.Whole c (length p)) f.0 (alone c r.below)

  second_part : (d : Certificate) (n : ℕ) → certificate_at packet n ≡ found.Whole d (length packet) → certificate_at (drop n packet) 0 ≡ found.Whole d (length (drop n packet))
  second_part d n e =
      let r = certificate_read packet n d (length packet) e in
      let f : drop n packet ≡ certificate_bytes d = r.spelled bytes ∙ ap (λ (p : List ℕ). certificate_bytes d ++ p) (drop-length packet) ∙ append-nil (certificate_bytes d) in
      subst (λ (p : List ℕ). certificate_at p 0 ≡ found.Whole d (length p)) (sym f) (alone d r.below)

-- A packet that is one certificate, which the checker judges fine, is accepted.
accepts : (stakes packet : List ℕ) (c : Certificate) → stakes_fit stakes (length stakes) ≡ true → certificate_at packet 0 ≡ found.Whole c (length packet)
    → judge stakes c ≡ Ok tt → check_certificate stakes packet ≡ Ok (accepted_of stakes c)
unfolding check_certificate single_of one_at one_of judged ended
accepts stakes packet c fits e j =
    given_on (stakes_fit stakes (length stakes)) (Err refusal.BadSizes) (λ _. single_of stakes packet (one_at stakes packet 0)) fits
    ∙ rw (e, j) (given_on (not (ltb (length packet) (length packet))) (Err refusal.BadLength) (λ _. Ok (accepted_of stakes c)) (ap not (le-ltb (length packet) (length packet) (omega arith))))

as_accepted : (stakes packet : List ℕ) (c : Certificate) (k : CertificateKind) (s b : ℕ) → check_certificate stakes packet ≡ Ok (accepted_of stakes c)
    → kind_in (length stakes) c.kind ≡ k → c.slot ≡ s → c.block ≡ b → AcceptedAs (check_certificate stakes packet) k s b
unfolding accepted_of
as_accepted stakes packet c k s b e p q r = record { what = accepted_of stakes c; accepted = e; kind_is = p; slot_is = q; block_is = r }

-- A certificate of kind 5 names no block.
final_none : (stakes : List ℕ) (d : Certificate) → judge stakes d ≡ Ok tt → kind_in (length stakes) d.kind ≡ certificate.Final → d.block ≡ 0
unfolding judge judge_kind block_misfits
final_none stakes d e p =
    let j : judge_kind stakes certificate.Final d ≡ Ok tt = subst (λ (k : CertificateKind). judge_kind stakes k d ≡ Ok tt) p e in
    let slot = refuse_fine (is_other_kind certificate.Final) refusal.BadKind _ j in
    let block = refuse_fine (not (slot_ok d.slot)) refusal.BadSlot _ slot.1 in
    let none_is = refuse_fine (not (ledger.none d.block)) refusal.BadBlock _ block.1 in
    eqb-true d.block 0 (not-false (ledger.none d.block) none_is.0)

end_is : (packet : List ℕ) (c : Certificate) (n : ℕ) → certificate_at packet 0 ≡ found.Whole c n → first_end packet ≡ n
unfolding end_in
end_is packet c n e = ap (end_in packet) e

parts_of : (stakes packet : List ℕ) (a : Accepted) → stakes_fit stakes (length stakes) ≡ true → ((i : ℕ) → get_or packet i 0 < 256) → Proven stakes packet a
    → Parts stakes packet (first_end packet) a.slot.0 a.block
unfolding accepted_of
parts_of stakes packet a fits bytes (one c e j k q) =
    let n = length packet in
    subst (λ (m : ℕ). Parts stakes packet m a.slot.0 a.block) (sym (end_is packet c n e))
    (whole refl (as_accepted stakes (take n packet) c certificate.FastFinal a.slot.0 a.block (accepts stakes (take n packet) c fits (first_part packet bytes c n e) j) k
    (ap (λ (x : Accepted). x.slot.0) q) (ap (λ (x : Accepted). x.block) q)))
parts_of stakes packet a fits bytes (two c d n e j k f i l t q) =
    subst (λ (m : ℕ). Parts stakes packet m a.slot.0 a.block) (sym (end_is packet c n e))
    (halves (certificate_read packet n d (length packet) f).onward
    (as_accepted stakes (take n packet) c certificate.Notar a.slot.0 a.block (accepts stakes (take n packet) c fits (first_part packet bytes c n e) j) k
    (ap (λ (x : Accepted). x.slot.0) q) (ap (λ (x : Accepted). x.block) q))
    (as_accepted stakes (drop n packet) d certificate.Final a.slot.0 0 (accepts stakes (drop n packet) d fits (second_part packet bytes d n f) i) l
    (t ∙ ap (λ (x : Accepted). x.slot.0) q) (final_none stakes d i l)))

-- A proof is accepted only with a table that fits.
table_fits : (stakes packet : List ℕ) (a : Accepted) → check_proof stakes packet ≡ Ok a → stakes_fit stakes (length stakes) ≡ true
unfolding check_proof
table_fits stakes packet a e =
    by_test (stakes_fit stakes (length stakes)) (λ t. t)
    (λ t. let q : Err refusal.BadSizes ≡ Ok a = sym (given_off (stakes_fit stakes (length stakes)) (Err refusal.BadSizes) _ t) ∙ e in
    absurd cc)

-- ---- the promises

pub split_is_parts : SplitIsParts
unfolding split_by split_panel
split_is_parts stakes genesis v alive packet bytes first r = go (check_proof (table_of (ledger_in v)) packet) refl
  where
    common : Common stakes genesis v
    common = alive_common alive

    table : table_of (ledger_in v) ≡ stakes
    table = ap table_of common.lived.ledger ∙ stakes_are stakes common.own genesis common.size v.came

    answer : split_on v.words packet ≡ split_by packet (check_proof (table_of (ledger_in v)) packet)
    answer = sym (split_sound v.words packet common.lived.sound)

    number : 0 ≡ (split_panel (split_by packet (check_proof (table_of (ledger_in v)) packet))).number
    number = r.numbered ∙ ap (λ (a : Result ℕ Refusal). (split_panel a).number) answer

    values : first ∷ [] ≡ (split_panel (split_by packet (check_proof (table_of (ledger_in v)) packet))).values
    values = r.valued ∙ ap (λ (a : Result ℕ Refusal). (split_panel a).values) answer

    go : (x : Result Accepted Refusal) → check_proof (table_of (ledger_in v)) packet ≡ x → Splits stakes packet first
    go (Ok a) e =
        let p : check_proof stakes packet ≡ Ok a = subst (λ (ts : List ℕ). check_proof ts packet ≡ Ok a) table e in
        let f : first ∷ [] ≡ first_end packet ∷ [] = values ∙ ap (λ (x : Result Accepted Refusal). (split_panel (split_by packet x)).values) e in
        let g : first ≡ first_end packet = cc in
        record { what = a; proven = p; parts = subst (λ (m : ℕ). Parts stakes packet m a.slot.0 a.block) (sym g) (parts_of stakes packet a (table_fits stakes packet a p) bytes (accepted_proof stakes packet a p)) }
    go (Err x) e = refusal_above x (sym (number ∙ ap (λ (y : Result Accepted Refusal). (split_panel (split_by packet y)).number) e))

-- What was accepted is named by the check.
checks : (stakes packet : List ℕ) (k : CertificateKind) (s b : ℕ) (a : AcceptedAs (check_certificate stakes packet) k s b)
    → Checked (length stakes) (check_certificate stakes packet) 0 (number_in (length stakes) k ∷ s ∷ b ∷ a.what.signers ∷ a.what.weight.0 ∷ []) (check_missing (check_certificate stakes packet))
unfolding check_number check_values
checks stakes packet k s b a =
    record {
      numbered = sym (ap check_number a.accepted);
      valued = sym (ap (check_values (length stakes)) a.accepted ∙ (λ i. number_in (length stakes) (a.kind_is i) ∷ a.slot_is i ∷ a.block_is i ∷ a.what.signers ∷ a.what.weight.0 ∷ []));
      lacked = refl;
    }

-- So it is held from the call on that took it.
held_then : (stakes : List ℕ) (genesis : ℕ) (v : Seen) → Alive stakes genesis v → (packet : List ℕ) (k : CertificateKind) (s b : ℕ)
    → AcceptedAs (check_certificate stakes packet) k s b → (lent : List ℕ) (number made : ℕ) (words left : List ℕ) → Taken v.words lent packet number made words left
    → (number ≡ 0) ⊎ (number ≡ 7) → (w : Seen) → Calls (next v (a_packet packet) lent made words left) w → T (held (ledger_in w) k s b)
held_then stakes genesis v alive packet k s b a lent number made words left t x w calls =
    subst (λ (j : CertificateKind). T (held (ledger_in w) j s b)) (kind_back (length stakes) k)
    (taken_is_held stakes genesis v alive packet (number_in (length stakes) k) s b a.what.signers a.what.weight.0 _ (checks stakes packet k s b a) lent number made words left t x w calls).is_held

pub whole_makes_final : WholeMakesFinal
unfolding is_final
whole_makes_final stakes genesis v alive packet s b a lent number made words left t x w calls =
    T-left (held (ledger_in w) certificate.FastFinal s b) _ (held_then stakes genesis v alive packet certificate.FastFinal s b a lent number made words left t x w calls)

-- Calls and then further calls.
joined : {v w u : Seen} → Calls v w → Calls w u → Calls v u
joined k none = k
joined k (then l o lent number made words left m) = then (joined k l) o lent number made words left m
joined k (not_started l stakes own genesis number words s n) = not_started (joined k l) stakes own genesis number words s n
joined k (not_watched l stakes genesis number words s n) = not_watched (joined k l) stakes genesis number words s n

-- A life goes on with them.
alive_then : {stakes : List ℕ} {genesis : ℕ} {v w : Seen} → Alive stakes genesis v → Calls v w → Alive stakes genesis w
alive_then {stakes} {genesis} {v} {w} (node own h) k = node own (record { started = h.started; lived = many (fresh stakes own genesis) v w h.lived k })
alive_then {stakes} {genesis} {v} {w} (watcher h) k = watcher (record { started = h.started; lived = many (fresh stakes (length stakes) genesis) v w h.lived k })

pub halves_make_final : HalvesMakeFinal
unfolding is_final
halves_make_final stakes genesis v alive packet first s b a c lent number made words left t x w calls lent' number' made' words' left' t' x' u calls' =
    let since : Calls w u = joined (then none (a_packet (drop first packet)) lent' number' made' words' left' t') calls' in
    let later = alive_then alive (joined (then none (a_packet (take first packet)) lent number made words left t) calls) in
    T-right (held (ledger_in u) certificate.FastFinal s b) (held (ledger_in u) certificate.Notar s b && held (ledger_in u) certificate.Final s 0)
    (T_and (held (ledger_in u) certificate.Notar s b) (held (ledger_in u) certificate.Final s 0)
    (held_then stakes genesis v alive (take first packet) certificate.Notar s b a lent number made words left t x u (joined calls since))
    (held_then stakes genesis w later (drop first packet) certificate.Final s 0 c lent' number' made' words' left' t' x' u calls'))

-- ---- the second part

-- Where the place of kind 5 is taken, a repeat of the certificate without a block stands in it.
module _ (stakes : List ℕ) (me genesis : ℕ) (size : Sized stakes me) (came : List Arrival) (s : ℕ) (ok : slot_ok s ≡ true) where
  abbrev now : Ledger
  now = after_all (fresh stakes me genesis) came

  only_repeat : has_room certificate.Final 0 (certificates_at now s) ≡ false → some_kept (is_repeat certificate.Final 0) 0 (certificates_at now s) ≡ true
  unfolding slot_ok is_repeat place_kind same_kind certificate_number block_misfits
  only_repeat full =
      let ready = life_ready me (fresh stakes me genesis) came (fresh_ready stakes me genesis size) in
      let high : s < 17 = omega (arith, leb-true s 16 (and_both (leb 1 s) (leb s 16) ok).1) in
      let long : length (certificates_at now s) ≡ 13 = ready.shaped.certificates s high in
      let there : is_kept (kept_at now s 3) ≡ true = no_room certificate.Final 0 (certificates_at now s) 3 (omega (arith, long)) full refl in
      let fine = ready.inv.certificates s 3 (true_t (is_kept (kept_at now s 3)) there) in
      let nameless : (kept_at now s 3).block ≡ 0 = eqb-true (kept_at now s 3).block 0 (not-false (ledger.none (kept_at now s 3).block) (right (table_of now) certificate.Final (kept_in s (kept_at now s 3)) fine).2) in
      place_some (is_repeat certificate.Final 0) 0 (certificates_at now s) 3 there (eq-eqb (kept_at now s 3).block 0 nameless)

-- What meets a repeat or a free place is answered 7 or 0.
answered_by : (repeat room : Bool) (l : Ledger) (c : Certificate) → (room ≡ false → repeat ≡ true)
    → let n = (step_panel (taken_on (refuse_if repeat refusal.AlreadyKept (refuse_if (not room) refusal.OtherStands (Ok tt))) l c).answer).number in (n ≡ 0) ⊎ (n ≡ 7)
unfolding refuse_if taken_on fed_with refused_with step_panel refusal_number
answered_by true room l c f = inr refl
answered_by false true l c f = inl refl
answered_by false false l c f = true_not_false false (f refl) refl

pub second_is_taken : SecondIsTaken
unfolding taken kept_verdict accepted_of judge
second_is_taken stakes genesis v alive packet s a lent number made words left room t =
    let common = alive_common alive in
    let me = common.own in
    let l : Ledger = ledger_in v in
    let table : table_of l ≡ stakes = ap table_of common.lived.ledger ∙ stakes_are stakes me genesis common.size v.came in
    let count : l.count ≡ length (table_of l) = ap (λ (z : Ledger). z.count) common.lived.ledger ∙ count_is stakes me genesis common.size v.came ∙ sym (ap length table) in
    let g = accepted_single (table_of l) packet a.what (ap (λ (ts : List ℕ). check_certificate ts packet) table ∙ a.accepted) in
    let c : Certificate = g.first in
    let kind : CertificateKind = kind_in l.count c.kind in
    let named : kind ≡ certificate.Final = ap (λ (n : ℕ). kind_in n c.kind) count ∙ ap (λ (z : Accepted). z.kind) g.answer ∙ a.kind_is in
    let block_is_lem : c.block ≡ 0 = ap (λ (z : Accepted). z.block) g.answer ∙ a.block_is in
    let slot = (right (table_of l) (kind_in (length (table_of l)) c.kind) c g.fine).1 in
    let same : number ≡ (step_panel (taken l c).answer).number =
    number_taken v.words lent packet number made words left common.lived.sound t (le-leb outbox_words (length lent) room) ∙ ap (λ (z : Fed). (step_panel z.answer).number) (single_taken l packet a.what g) in
    let repeats : has_room kind 0 (certificates_at l c.slot) ≡ false → some_kept (is_repeat kind c.block) 0 (certificates_at l c.slot) ≡ true =
    (λ full. (λ i. some_kept (is_repeat (named i) (block_is_lem i)) 0 (certificates_at (common.lived.ledger i) c.slot))
    ∙ only_repeat stakes me genesis common.size v.came c.slot slot ((λ i. has_room (sym named i) 0 (certificates_at (sym common.lived.ledger i) c.slot)) ∙ full)) in
    subst (λ (n : ℕ). (n ≡ 0) ⊎ (n ≡ 7)) (sym same)
    (answered_by (some_kept (is_repeat kind c.block) 0 (certificates_at l c.slot)) (has_room kind 0 (certificates_at l c.slot)) l c repeats)
