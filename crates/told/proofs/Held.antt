-- A certificate that was taken, or was kept already, stands in its place to the end of the life.
use Rattle.std.specs.Prelude.{⊤, Result, Ok}
use mathlib.Core.Path.{◌≡◌, refl, sym, ap, ◌∙◌, subst}
use mathlib.Core.Bool.{Bool, true, false, not, ◌&&◌, ◌||◌}
use mathlib.Core.List.{List, [], ◌∷◌}
use mathlib.Core.Logic.{◌⊎◌, inl, inr, ⊎_elim}
use Prim.Native.Nat.{ℕ, suc, ◌+◌, ◌*◌, ◌≤◌}
use native.Mathlib.Omega.{arith}
use lib.ListN.{length, get_or}
use lib.Dec.{eqb, leb, ltb}
use borrow.Author.Tests.{eqb-true, eq-eqb, leb-true, leb-false, le-ltb, not-false}
use Rattle.rulebook.specs.declared.Accepted.{Accepted}
use Rattle.rulebook.specs.declared.CertificateKind.{CertificateKind}
use Rattle.rulebook.specs.declared.Refusal.{Refusal}
use Rattle.rulebook.specs.declared.Refusal.TheVariants as refusal
use Rattle.rulebook.specs.declared.CertificateKind.TheVariants as certificate
use Rattle.rulebook.specs.Tools.{choose}
use Rattle.rulebook.specs.Weights.{last_slot, slot_ok, weight, total_to, reaches}
use Rattle.rulebook.specs.PaperNumbers.{kind_in, step_panel, refusal_number}
use Rattle.rulebook.specs.Certificates.{Certificate, Kept, Found}
use Rattle.rulebook.specs.Packets.{bit}
use Rattle.rulebook.specs.Ledger.{Ledger, Row, no_kept, table_of, row_at, certificates_at, kept_at, is_kept, put_row, fresh}
use Rattle.rulebook.specs.Pool.{reached, fifths_of, place_kind, same_kind, serves_as, some_kept, is_for, kept_as, held}
use Rattle.rulebook.specs.Votes.{store_vote}
use Rattle.rulebook.specs.Rules.{State, state_of, cast}
use Rattle.rulebook.specs.Run.{run}
use Rattle.rulebook.specs.Inputs.{Fed, refuse_if, fed_with, refused_with}
use Rattle.rulebook.specs.Checker.{is_other_kind, block_misfits, bad_signers, accepted_of, signed, signed_weight, judge_weight, judge_kind, judge, judged, one_of, one_at, check_certificate}
use Rattle.rulebook.specs.Taking.{is_room, has_room, fill_kept, is_repeat, kept_verdict, kept_of, keep_certificate, taken_on, taken, taken_from, take_packet, of_packet, served}
use Rattle.rulebook.specs.WellFormed.{outbox_words, take_certificate}
use Rattle.rule_laws.proofs.RuleLaws.{refuse_fine}
use Rattle.rule_laws.proofs.ToolLaws.{by_test, true_not_false, and_both, both_and, or_right, given_on}
use Rattle.rule_laws.proofs.MaskLaws.{zero_bit}
use Rattle.rule_laws.proofs.WeightLaws.{weight_none}
use Rattle.rule_laws.proofs.CertificateLaws.{some_place, place_some}
use Rattle.rule_laws.proofs.AcceptedLaws.{Single, accepted_single}
use Rattle.settling.specs.Facts.{Sound}
use Rattle.settling.specs.Steps.{Lawful, kind_for}
use Rattle.settling.proofs.Places.{row_there, row_cases}
use Rattle.settling.proofs.FeedLaws.{take_on, take_short}
use Rattle.settling.proofs.Life.{taken_fine}
use Rattle.settling.proofs.LawfulRules.{run_keeps}
use Rattle.settling.proofs.Sounding.{sound_certificate}
use Rattle.settling.proofs.Soundness.{sound_lawful}
use Rattle.safety.specs.Ring.{after_all}
use Rattle.safety.proofs.Tests.{true_t}
use Rattle.safety.proofs.Growing.{Grow}
use Rattle.safety.proofs.Lives.{Sized, life_grow, life_ready, life_on, fresh_ready}
use Rattle.safety.proofs.Written.{count_is, stakes_are}
use Rattle.record.specs.Layout.{ledger_of}
use Rattle.soundness.specs.Sound.{sound_words}
use Rattle.soundness.proofs.Laws.{words_spelled, sound_formed, sound_ledger}
use Rattle.node.specs.Stepping.{Leaves}
use Rattle.taking.specs.Taking.{take_leaves}
use Rattle.answers.specs.Face.{Taken}
use Rattle.seen.specs.Seen.{Seen, ledger_in, LifeSeen, Earlier}
use Rattle.seen.proofs.Alive.{alive_common}
use Rattle.seen.proofs.Numbers.{zero_accepted}
use Rattle.seen.proofs.Progress.{gives}
use Rattle.calls.specs.Operation.{a_packet, one_with, fed_by}
use Rattle.calls.specs.Life.{next, none, then}
use Rattle.calls.proofs.OneCall.{call_did}
use Rattle.calls.proofs.Life.{many, calls_earlier}
use Rattle.told.specs.Held.{TakenIsHeld}

-- ---- kept

-- Place `place` of slot s keeps a certificate of kind k for block b.
pub record KeptIn (l : Ledger) (k : CertificateKind) (s b : ℕ) : Type 0 where
  pub place : ℕ
  pub some : is_kept (kept_at l s place) ≡ true
  pub kind : same_kind (place_kind place) k ≡ true
  pub block : (kept_at l s place).block ≡ b

repeat_kept : (l : Ledger) (k : CertificateKind) (s b : ℕ) → some_kept (is_repeat k b) 0 (certificates_at l s) ≡ true → KeptIn l k s b
unfolding is_repeat
repeat_kept l k s b e =
    let r = some_place (is_repeat k b) 0 (certificates_at l s) e in
    let n = r.0 in
    let q : is_repeat k b n (kept_at l s n) ≡ true = subst (λ (j : ℕ). is_repeat k b j (kept_at l s n) ≡ true) (omega arith) r.2 in
    let p = and_both (same_kind (place_kind n) k) (eqb (kept_at l s n).block b) q in
    record { place = n; some = r.1; kind = p.0; block = eqb-true (kept_at l s n).block b p.1 }

serves_same : (j k : CertificateKind) → same_kind j k ≡ true → serves_as j k ≡ true
unfolding serves_as
serves_same j k e = rw e refl

-- What is kept in a place is held.
pub kept_held : (l : Ledger) (k : CertificateKind) (s b : ℕ) → KeptIn l k s b → held l k s b ≡ true
unfolding held kept_as is_for
kept_held l k s b h =
    let n = h.place in
    let q : is_for k b n (kept_at l s n) ≡ true = both_and (serves_as (place_kind n) k) (eqb (kept_at l s n).block b) (serves_same (place_kind n) k h.kind) (eq-eqb (kept_at l s n).block b h.block) in
    or_right (reached l k s b) (kept_as l k s b)
    (place_some (is_for k b) 0 (certificates_at l s) n h.some (subst (λ (j : ℕ). is_for k b j (kept_at l s n) ≡ true) (omega arith) q))

-- ---- a certificate in a free place

fill_go : (t : Bool) (k : CertificateKind) (i : ℕ) (p q : Kept) (qs : List Kept) → is_room k i q ≡ t → (t || has_room k (suc i) qs) ≡ true
    → (has_room k (suc i) qs ≡ true → (n : ℕ) × (get_or (fill_kept k (suc i) p qs) n no_kept ≡ p) × (same_kind (place_kind (suc i + n)) k ≡ true))
    → (n : ℕ) × (get_or (choose t (p ∷ qs) (q ∷ fill_kept k (suc i) p qs)) n no_kept ≡ p) × (same_kind (place_kind (i + n)) k ≡ true)
unfolding choose
fill_go true k i p q qs r e f =
    let z : i ≡ i + 0 = omega arith in (0, refl, subst (λ (j : ℕ). same_kind (place_kind j) k ≡ true) z (and_both (same_kind (place_kind i) k) (not (is_kept q)) r).0)
fill_go false k i p q qs r e f =
    let x = f e in
    let z : suc i + x.0 ≡ i + suc x.0 = omega arith in (suc x.0, x.1, subst (λ (j : ℕ). same_kind (place_kind j) k ≡ true) z x.2)

fill_there : (k : CertificateKind) (i : ℕ) (p : Kept) (qs : List Kept) → has_room k i qs ≡ true
    → (n : ℕ) × (get_or (fill_kept k i p qs) n no_kept ≡ p) × (same_kind (place_kind (i + n)) k ≡ true)
unfolding has_room fill_kept
fill_there k i p [] e = true_not_false false e refl
fill_there k i p (q ∷ qs) e = fill_go (is_room k i q) k i p q qs refl e (λ x. fill_there k (suc i) p qs x)

-- What the checker accepts has a signer.
pub some_fifths : (k : CertificateKind) (t : ℕ) → 1 ≤ t → 1 ≤ fifths_of k * t
unfolding fifths_of
some_fifths certificate.FastFinal t h = omega arith
some_fifths certificate.Notar t h = omega arith
some_fifths certificate.NotarFallback t h = omega arith
some_fifths certificate.Skip t h = omega arith
some_fifths certificate.Final t h = omega arith
some_fifths certificate.Other t h = omega arith

module _ (stakes : List ℕ) (k : CertificateKind) (c : Certificate) (fine : judge_kind stakes k c ≡ Ok tt) where
  -- Its kind, slot and block are right, and its weight reaches.
  pub right : (is_other_kind k ≡ false) × (slot_ok c.slot ≡ true) × (block_misfits k c.block ≡ false) × (reaches (fifths_of k) (total_to stakes (length stakes)) (signed_weight stakes c) ≡ true)
  unfolding judge_kind judge_weight
  right =
      let a = refuse_fine (is_other_kind k) refusal.BadKind _ fine in
      let b = refuse_fine (not (slot_ok c.slot)) refusal.BadSlot _ a.1 in
      let d = refuse_fine (block_misfits k c.block) refusal.BadBlock _ b.1 in
      let e = refuse_fine (bad_signers (length stakes) k c) refusal.BadSigners _ d.1 in
      let f = refuse_fine (not (reaches (fifths_of k) (total_to stakes (length stakes)) (signed_weight stakes c))) _ (Ok tt) e.1 in
      (a.0, not-false (slot_ok c.slot) b.0, d.0, not-false _ f.0)

  pub some_signer : 1 ≤ total_to stakes (length stakes) → is_kept (kept_of c) ≡ true
  unfolding signed_weight signed reaches
  some_signer pos =
      by_test (eqb c.maska 0 && eqb c.maskb 0)
      (λ t.
      let z = and_both (eqb c.maska 0) (eqb c.maskb 0) t in
      let unsigned : (n : ℕ) → (bit c.maska n || bit c.maskb n) ≡ false = (λ n. (λ i. bit (eqb-true c.maska 0 z.0 i) n || bit (eqb-true c.maskb 0 z.1 i) n) ∙ (λ i. zero_bit n i || zero_bit n i)) in
      let w : signed_weight stakes c ≡ 0 = weight_none stakes (length stakes) (λ n. bit c.maska n || bit c.maskb n) (λ n _. unsigned n) in
      absurd (omega (arith, w, some_fifths k (total_to stakes (length stakes)) pos, leb-true (fifths_of k * total_to stakes (length stakes)) (5 * signed_weight stakes c) right.3)))
      (λ t. ap not t)

-- ---- the rules leave what is kept

record Keeping (l : Ledger) (o : State) : Type 0 where
  pub sound : Sound o.ledger
  pub same : (s : ℕ) → certificates_at o.ledger s ≡ certificates_at l s

row_keeps : (l m : Ledger) → Sound m → (t : ℕ) (r : Row) → t ≤ last_slot → r.certificates ≡ (row_at m t).certificates → ((s : ℕ) → certificates_at m s ≡ certificates_at l s) → (s : ℕ) → certificates_at (put_row m t r) s ≡ certificates_at l s
row_keeps l m h t r high e same s =
    row_cases m t r (λ i x. x.certificates ≡ certificates_at m i) s (omega (arith, h.shaped.rows)) e (λ _. refl) ∙ same s

keeping_lawful : (l : Ledger) → Lawful (Keeping l)
unfolding cast store_vote
keeping_lawful l =
    record {
      sound = λ o h. h.sound;
      vote = λ o t k b low high v e m w h.
          record { sound = sound_lawful.vote o t k b low high v e m w h.sound; same = row_keeps l o.ledger h.sound t _ high refl h.same };
      arm = λ o t low high e h. record { sound = sound_lawful.arm o t low high e h.sound; same = h.same };
      tell = λ o t b low high e m h. record { sound = sound_lawful.tell o t b low high e m h.sound; same = row_keeps l o.ledger h.sound t _ high refl h.same };
      clash = λ o t b low high e h. record { sound = sound_lawful.clash o t b low high e h.sound; same = row_keeps l o.ledger h.sound t _ high refl h.same };
    }

-- ---- taken

module _ (l : Ledger) (h : Sound l) (pos : 1 ≤ total_to (table_of l) (length (table_of l))) (c : Certificate) (j : judge (table_of l) c ≡ Ok tt) where
  abbrev kind : CertificateKind
  kind = kind_for l c

  abbrev places : List Kept
  places = certificates_at l c.slot

  -- Kept in the first free place, and by the rules' end.
  newly_kept : kept_verdict places kind c.block ≡ Ok tt → is_kept (kept_of c) ≡ true → KeptIn (run (state_of (keep_certificate l c) [])).ledger kind c.slot c.block
  unfolding keep_certificate
  newly_kept e some =
      let f = taken_fine l h c j e in
      let m : Ledger = keep_certificate l c in
      let end : Ledger = (run (state_of m [])).ledger in
      let x = fill_there kind 0 (kept_of c) places f.free in
      let n = x.0 in
      let now : certificates_at m c.slot ≡ fill_kept kind 0 (kept_of c) places = ap (λ (r : Row). r.certificates) (row_there l c.slot _ (omega (arith, h.shaped.rows, f.high))) in
      let same = (run_keeps (Keeping m) (keeping_lawful m) (state_of m []) (record { sound = sound_certificate l h c f; same = λ s. refl })).same c.slot in
      let is : kept_at end c.slot n ≡ kept_of c = ap (λ (qs : List Kept). get_or qs n no_kept) (same ∙ now) ∙ x.1 in
      let z : 0 + n ≡ n = omega arith in
      record {
        place = n;
        some = ap (λ (q : Kept). is_kept q) is ∙ some;
        kind = subst (λ (i : ℕ). same_kind (place_kind i) kind ≡ true) z x.2;
        block = ap (λ (q : Kept). q.block) is;
      }

  taken_by_lem : (a b : Bool) → some_kept (is_repeat kind c.block) 0 places ≡ a → has_room kind 0 places ≡ b → is_kept (kept_of c) ≡ true
      → let f = taken_on (refuse_if a refusal.AlreadyKept (refuse_if (not b) refusal.OtherStands (Ok tt))) l c in
      ((step_panel f.answer).number ≡ 0) ⊎ ((step_panel f.answer).number ≡ 7) → KeptIn f.ledger kind c.slot c.block
  unfolding refuse_if taken_on fed_with refused_with step_panel refusal_number kept_verdict
  taken_by_lem true b ea eb some x = repeat_kept l kind c.slot c.block ea
  taken_by_lem false true ea eb some x =
      newly_kept (λ i. refuse_if (ea i) refusal.AlreadyKept (refuse_if (not (eb i)) refusal.OtherStands (Ok tt))) some
  taken_by_lem false false ea eb some (inl x) = absurd (omega (arith, x))
  taken_by_lem false false ea eb some (inr x) = absurd (omega (arith, x))

  pub taken_kept : is_kept (kept_of c) ≡ true → ((step_panel (taken l c).answer).number ≡ 0) ⊎ ((step_panel (taken l c).answer).number ≡ 7) → KeptIn (taken l c).ledger kind c.slot c.block
  unfolding taken kept_verdict
  taken_kept some x = taken_by_lem (some_kept (is_repeat kind c.block) 0 places) (has_room kind 0 places) refl refl some x

-- A packet that the checker accepts is taken as the certificate that it reads to.
pub single_taken : (l : Ledger) (packet : List ℕ) (a : Accepted) (g : Single (table_of l) packet a) → take_packet l packet ≡ taken l g.first
unfolding take_packet one_at one_of judged taken_from
single_taken l packet a g =
    ap (λ (x : Found). taken_from l packet (one_of (table_of l) x)) g.read
    ∙ ap (λ (v : Result ⊤ Refusal). taken_from l packet (judged v g.first (length packet))) g.fine
    ∙ given_on (not (ltb (length packet) (length packet))) (refused_with l refusal.BadLength) (λ _. taken l g.first) (ap not (le-ltb (length packet) (length packet) (omega arith)))

-- ---- what is kept stays

pub kept_stays : (l m : Ledger) → Grow l m → (k : CertificateKind) (s b : ℕ) → KeptIn l k s b → KeptIn m k s b
kept_stays l m g k s b h =
    let e = g.certificates s h.place (true_t (is_kept (kept_at l s h.place)) h.some) in
    record { place = h.place; some = ap (λ (q : Kept). is_kept q) e ∙ h.some; kind = h.kind; block = ap (λ (q : Kept). q.block) e ∙ h.block }

-- ---- over what is seen

-- A packet is taken with room in the outbox alone.
with_room : (ws lent packet : List ℕ) (number made : ℕ) (words left : List ℕ) → sound_words ws ≡ true → Taken ws lent packet number made words left → (number ≡ 0) ⊎ (number ≡ 7) → leb outbox_words (length lent) ≡ true
unfolding take_leaves refused_with step_panel refusal_number
with_room ws lent packet number made words left sound t x =
    by_test (leb outbox_words (length lent)) (λ e. e)
    (λ e.
    let f : take_certificate (ledger_of ws) (length lent) packet ≡ refused_with (ledger_of ws) refusal.NoRoom = take_short (ledger_of ws) packet (length lent) (sound_formed ws sound) (leb-false outbox_words (length lent) e) in
    let n : number ≡ 9 = t.numbered ∙ ap (λ (z : Leaves). (step_panel z.answer).number) (given_on _ _ _ (words_spelled ws sound)) ∙ ap (λ (z : Fed). (step_panel z.answer).number) f in
    ⊎_elim (λ z. absurd (omega (arith, n, z))) (λ z. absurd (omega (arith, n, z))) x)

module _ (ws lent packet : List ℕ) (number made : ℕ) (words left : List ℕ) (sound : sound_words ws ≡ true) (t : Taken ws lent packet number made words left) (room : leb outbox_words (length lent) ≡ true) where
  pub number_taken : number ≡ (step_panel (take_packet (ledger_of ws) packet).answer).number
  unfolding take_leaves
  number_taken =
      t.numbered ∙ ap (λ (z : Leaves). (step_panel z.answer).number) (given_on _ _ _ (words_spelled ws sound))
      ∙ ap (λ (z : Fed). (step_panel z.answer).number) (take_on (ledger_of ws) packet (length lent) (sound_formed ws sound) (leb-true outbox_words (length lent) room))

  ledger_taken : ledger_of words ≡ (take_packet (ledger_of ws) packet).ledger
  unfolding fed_by one_with after_all served
  ledger_taken =
      (call_did (a_packet packet) ws lent number made words left sound t).ledger ∙ ap (after_all (ledger_of ws)) (given_on (leb outbox_words (length lent)) [] (λ _. of_packet packet ∷ []) room)

-- What is kept at a moment is kept at every later one.
pub kept_later : (stakes : List ℕ) (me genesis : ℕ) → Sized stakes me → (u w : Seen) → LifeSeen (fresh stakes me genesis) u → Earlier u w → (k : CertificateKind) (s b : ℕ)
    → KeptIn (ledger_in u) k s b → KeptIn (after_all (fresh stakes me genesis) w.came) k s b
kept_later stakes me genesis size u w lived e k s b h =
    let first = fresh stakes me genesis in
    let grown = life_grow me (after_all first u.came) e.since (life_ready me first u.came (fresh_ready stakes me genesis size)) in
    subst (λ (z : Ledger). KeptIn z k s b) (sym (ap (after_all first) e.goes_on ∙ life_on first u.came e.since))
    (kept_stays (after_all first u.came) (after_all (after_all first u.came) e.since) grown k s b (subst (λ (z : Ledger). KeptIn z k s b) lived.ledger h))

pub taken_is_held : TakenIsHeld
unfolding slot_ok judge accepted_of
taken_is_held stakes genesis v alive packet kind slot block signers weight missing ck lent number made words left t x w calls =
    let a = alive_common alive in
    let me = a.own in
    let first = fresh stakes me genesis in
    let l : Ledger = ledger_in v in
    let sound = a.lived.sound in
    let said = zero_accepted ck in
    let table : table_of l ≡ stakes = ap table_of a.lived.ledger ∙ stakes_are stakes me genesis a.size v.came in
    let count : l.count ≡ length (table_of l) = ap (λ (z : Ledger). z.count) a.lived.ledger ∙ count_is stakes me genesis a.size v.came ∙ sym (ap length table) in
    let g = accepted_single (table_of l) packet said.what (ap (λ (ts : List ℕ). check_certificate ts packet) table ∙ said.accepted) in
    let c : Certificate = g.first in
    let pos : 1 ≤ total_to (table_of l) (length (table_of l)) = subst (λ (ts : List ℕ). 1 ≤ total_to ts (length ts)) (sym table) a.size.some in
    let ok = right (table_of l) (kind_in (length (table_of l)) c.kind) c g.fine in
    let room = with_room v.words lent packet number made words left sound t x in
    let packets = single_taken l packet said.what g in
    let same : number ≡ (step_panel (taken l c).answer).number = number_taken v.words lent packet number made words left sound t room ∙ ap (λ (z : Fed). (step_panel z.answer).number) packets in
    let kept = taken_kept l (sound_ledger v.words sound) pos c g.fine (some_signer (table_of l) (kind_in (length (table_of l)) c.kind) c g.fine pos)
    (subst (λ (n : ℕ). (n ≡ 0) ⊎ (n ≡ 7)) same x) in
    let named : kind_for l c ≡ kind_in (length stakes) kind = ap (λ (n : ℕ). kind_in n c.kind) count ∙ ap (λ (z : Accepted). z.kind) g.answer ∙ said.kind_is in
    let slot_is : c.slot ≡ slot = ap (λ (z : Accepted). z.slot.0) g.answer ∙ said.slot_is in
    let block_is_lem : c.block ≡ block = ap (λ (z : Accepted). z.block) g.answer ∙ said.block_is in
    let u : Seen = next v (a_packet packet) lent made words left in
    let lived = many first v u a.lived (then none (a_packet packet) lent number made words left t) in
    let later = many first u w lived calls in
    let there : KeptIn (ledger_in u) (kind_for l c) c.slot c.block =
    subst (λ (z : Ledger). KeptIn z (kind_for l c) c.slot c.block) (sym (ledger_taken v.words lent packet number made words left sound t room ∙ ap (λ (z : Fed). z.ledger) packets)) kept in
    let end = kept_later stakes me genesis a.size u w lived (calls_earlier u w calls) (kind_for l c) c.slot c.block there in
    let slots = and_both (leb 1 c.slot) (leb c.slot last_slot) ok.1 in
    let kind_is_lem : kind_in (length (table_of l)) c.kind ≡ kind_in (length stakes) kind = sym (ap (λ (n : ℕ). kind_in n c.kind) count) ∙ named in
    gives stakes me genesis a.size w later (kind_in (length stakes) kind) slot block
    (subst (λ (k : CertificateKind). is_other_kind k ≡ false) kind_is_lem ok.0)
    (subst (λ (s : ℕ). 1 ≤ s) slot_is (leb-true 1 c.slot slots.0))
    (subst (λ (s : ℕ). s ≤ last_slot) slot_is (leb-true c.slot last_slot slots.1))
    ((λ i. block_misfits (sym kind_is_lem i) (sym block_is_lem i)) ∙ ok.2)
    (true_t (held (after_all first w.came) (kind_in (length stakes) kind) slot block)
    ((λ i. held (after_all first w.came) (sym named i) (sym slot_is i) (sym block_is_lem i)) ∙ kept_held (after_all first w.came) (kind_for l c) c.slot c.block end))
