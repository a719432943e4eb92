-- A certificate that the checker accepts, and that is not answered 8, is kept from then on.
use Rattle.std.specs.Prelude.{Ok, Err}
use mathlib.Core.Path.{◌≡◌, refl, sym, ap, ◌∙◌, subst}
use mathlib.Core.Bool.{Bool, true, false, not}
use mathlib.Core.List.{List, [], ◌∷◌}
use Prim.Native.Nat.{ℕ, suc, ◌+◌, ◌≤◌}
use native.Mathlib.Omega.{arith}
use lib.Dec.{T, eqb, eqb→eq, eqb_refl}
use lib.ListN.{length, get_or}
use Rattle.rulebook.specs.declared.CertificateKind.{CertificateKind}
use Rattle.rulebook.specs.declared.Refusal.TheVariants as refusal
use Rattle.rulebook.specs.Certificates.{Certificate, Kept}
use Rattle.rulebook.specs.Tools.{choose}
use Rattle.rulebook.specs.Weights.{last_slot, total_to}
use Rattle.rulebook.specs.Ledger.{Ledger, Row, none, places, table_of, no_kept, row_at, kept_at, is_kept, certificates_at, put_row}
use Rattle.rulebook.specs.Pool.{place_kind, same_kind, serves_as, some_kept, is_for, kept_as, certifiable, names}
use Rattle.rulebook.specs.Votes.{store_vote}
use Rattle.rulebook.specs.Rules.{State, state_of, cast}
use Rattle.rulebook.specs.Run.{run}
use Rattle.rulebook.specs.Inputs.{refuse_if, fed_with, refused_with}
use Rattle.rulebook.specs.Checker.{judge}
use Rattle.rulebook.specs.Taking.{is_room, has_room, fill_kept, is_repeat, kept_of, kept_verdict, keep_certificate, taken_on, taken}
use Rattle.rulebook.specs.WellFormed.{Shaped}
use Rattle.rule_laws.proofs.ToolLaws.{and_both, both_and, or_cases, true_not_false, choose_on, choose_off}
use Rattle.rule_laws.proofs.LowestLaws.{Among}
use Rattle.rule_laws.proofs.CertificateLaws.{same_kind_lem, some_place, place_some, serves_same, kept_name}
use Rattle.settling.specs.Facts.{Sound}
use Rattle.settling.specs.Steps.{Lawful, kind_for}
use Rattle.settling.proofs.Sounding.{sound_certificate}
use Rattle.settling.proofs.Soundness.{sound_lawful}
use Rattle.settling.proofs.LawfulRules.{run_keeps}
use Rattle.settling.proofs.KeptLaws.{judged_kept}
use Rattle.settling.proofs.Life.{taken_fine}
use Rattle.safety.proofs.Tests.{true_t, T_true, not_false}
use Rattle.safety.proofs.Stores.{row_part, row_here}
use Rattle.safety.proofs.Growing.{Grow}

-- A place for the kind that keeps a certificate of slot s for block b.
pub record IsKept (l : Ledger) (k : CertificateKind) (s b : ℕ) : Type 0 where
  pub place : ℕ
  pub kind : place_kind place ≡ k
  pub there : T (is_kept (kept_at l s place))
  pub block : (kept_at l s place).block ≡ b

pub kept_stays : (l m : Ledger) → Grow l m → (k : CertificateKind) (s b : ℕ) → IsKept l k s b → IsKept m k s b
kept_stays l m g k s b x =
    let e = g.certificates s x.place x.there in
    record {
      place = x.place;
      kind = x.kind;
      there = subst (λ (q : Kept). T (is_kept q)) (sym e) x.there;
      block = ap (λ (q : Kept). q.block) e ∙ x.block;
    }

pub kept_as_lem : (l : Ledger) (k : CertificateKind) (s b : ℕ) → IsKept l k s b → T (kept_as l k s b)
unfolding kept_as is_for
kept_as_lem l k s b x =
    let n = x.place in
    let q = kept_at l s n in
    let here : n ≡ 0 + n = omega arith in
    let serves : serves_as (place_kind n) k ≡ true = subst (λ (j : CertificateKind). serves_as (place_kind n) j ≡ true) x.kind (serves_same (place_kind n)) in
    let same : eqb q.block b ≡ true = T_true (eqb q.block b) (subst (λ (c : ℕ). T (eqb q.block c)) x.block (eqb_refl q.block)) in
    true_t _ (place_some (is_for k b) 0 (certificates_at l s) n (T_true (is_kept q) x.there)
    (subst (λ (i : ℕ). is_for k b i q ≡ true) here (both_and (serves_as (place_kind n) k) (eqb q.block b) serves same)))

-- Its block is one that a certificate can be for.
pub kept_certifiable : (l : Ledger) (k : CertificateKind) (s b : ℕ) → T (not (none b)) → IsKept l k s b → Among b (certifiable l s)
unfolding certifiable
kept_certifiable l k s b z x = kept_name (certificates_at l s) (names l s) x.place b x.block (not_false (none b) z)

-- ---- taken

-- Where there is room the certificate fills a place for its kind.
fill_here : (k : CertificateKind) (i : ℕ) (p : Kept) (qs : List Kept) → has_room k i qs ≡ true → (n : ℕ) × (place_kind (i + n) ≡ k) × (get_or (fill_kept k i p qs) n no_kept ≡ p)
unfolding has_room fill_kept
fill_here k i p [] e = absurd (true_not_false false e refl)
fill_here k i p (q ∷ qs) e = go (is_room k i q) refl (λ t. fill_here k (suc i) p qs t)
  where
    go : (z : Bool) → is_room k i q ≡ z → (has_room k (suc i) qs ≡ true → (n : ℕ) × (place_kind (suc i + n) ≡ k) × (get_or (fill_kept k (suc i) p qs) n no_kept ≡ p))
        → (n : ℕ) × (place_kind (i + n) ≡ k) × (get_or (choose (is_room k i q) (p ∷ qs) (q ∷ fill_kept k (suc i) p qs)) n no_kept ≡ p)
    go true f rest =
        let z : i ≡ i + 0 = omega arith in (
          0,
          subst (λ (j : ℕ). place_kind j ≡ k) z (same_kind_lem (place_kind i) k (and_both (same_kind (place_kind i) k) (not (is_kept q)) f).0),
          ap (λ (rs : List Kept). get_or rs 0 no_kept) (choose_on (is_room k i q) (p ∷ qs) (q ∷ fill_kept k (suc i) p qs) f),
        )
    go false f rest =
        let r = rest (or_cases (is_room k i q) (has_room k (suc i) qs) e (λ t. absurd (true_not_false (is_room k i q) t f)) (λ t. t)) in
        let z : suc i + r.0 ≡ i + suc r.0 = omega arith in (
          suc r.0,
          subst (λ (j : ℕ). place_kind j ≡ k) z r.1,
          ap (λ (rs : List Kept). get_or rs (suc r.0) no_kept) (choose_off (is_room k i q) (p ∷ qs) (q ∷ fill_kept k (suc i) p qs) f) ∙ r.2,
        )

-- The rules leave what is kept.
record Keeping (l : Ledger) (o : State) : Type 0 where
  pub sound : Sound o.ledger
  pub same : (s : ℕ) → certificates_at o.ledger s ≡ certificates_at l s

row_kept : (l : Ledger) (t : ℕ) (r : Row) → t ≤ last_slot → Shaped (places l) l → r.certificates ≡ (row_at l t).certificates → (s : ℕ) → certificates_at (put_row l t r) s ≡ certificates_at l s
row_kept l t r h sh e s = row_part (λ (q : Row). q.certificates) l t r (omega arith) sh e s

keeping_lawful : (l : Ledger) → Lawful (Keeping l)
unfolding cast store_vote
keeping_lawful l =
    record {
      sound = λ o h. h.sound;
      vote = λ o t k b lo hi v e m w h.
          record { sound = sound_lawful.vote o t k b lo hi v e m w h.sound; same = λ s. row_kept o.ledger t _ hi h.sound.shaped refl s ∙ h.same s };
      arm = λ o t lo hi e h. record { sound = sound_lawful.arm o t lo hi e h.sound; same = h.same };
      tell = λ o t b lo hi e m h.
          record { sound = sound_lawful.tell o t b lo hi e m h.sound; same = λ s. row_kept o.ledger t _ hi h.sound.shaped refl s ∙ h.same s };
      clash = λ o t b lo hi e h.
          record { sound = sound_lawful.clash o t b lo hi e h.sound; same = λ s. row_kept o.ledger t _ hi h.sound.shaped refl s ∙ h.same s };
    }

run_keeps_them : (o : State) → Sound o.ledger → (s : ℕ) → certificates_at (run o).ledger s ≡ certificates_at o.ledger s
run_keeps_them o h = (run_keeps (Keeping o.ledger) (keeping_lawful o.ledger) o (record { sound = h; same = λ s. refl })).same

module _ (l : Ledger) (h : Sound l) (some : 1 ≤ total_to (table_of l) (length (table_of l))) (c : Certificate) (j : judge (table_of l) c ≡ Ok tt) where
  abbrev kind : CertificateKind
  kind = kind_for l c

  repeated : some_kept (is_repeat kind c.block) 0 (certificates_at l c.slot) ≡ true → IsKept l kind c.slot c.block
  unfolding is_repeat
  repeated e =
      let r = some_place (is_repeat kind c.block) 0 (certificates_at l c.slot) e in
      let a = and_both (same_kind (place_kind (0 + r.0)) kind) (eqb (kept_at l c.slot r.0).block c.block) r.2 in
      let here : 0 + r.0 ≡ r.0 = omega arith in
      record {
        place = r.0;
        kind = subst (λ (i : ℕ). place_kind i ≡ kind) here (same_kind_lem (place_kind (0 + r.0)) kind a.0);
        there = true_t (is_kept (kept_at l c.slot r.0)) r.1;
        block = eqb→eq (kept_at l c.slot r.0).block c.block (true_t _ a.1);
      }

  filled : kept_verdict (certificates_at l c.slot) kind c.block ≡ Ok tt → IsKept (run (state_of (keep_certificate l c) [])).ledger kind c.slot c.block
  unfolding keep_certificate
  filled e =
      let f = taken_fine l h c j e in
      let o : State = state_of (keep_certificate l c) [] in
      let s = c.slot in
      let qs = fill_kept kind 0 (kept_of c) (certificates_at l s) in
      let r = fill_here kind 0 (kept_of c) (certificates_at l s) f.free in
      let row : certificates_at (keep_certificate l c) s ≡ qs = ap (λ (x : Row). x.certificates) (row_here l s _ (omega (arith, f.high)) h.shaped) in
      let at : kept_at (run o).ledger s r.0 ≡ kept_of c = ap (λ (ps : List Kept). get_or ps r.0 no_kept) (run_keeps_them o (sound_certificate l h c f) s ∙ row) ∙ r.2 in
      let here : 0 + r.0 ≡ r.0 = omega arith in
      record {
        place = r.0;
        kind = subst (λ (i : ℕ). place_kind i ≡ kind) here r.1;
        there = subst (λ (q : Kept). T (is_kept q)) (sym at) (true_t (is_kept (kept_of c)) (judged_kept (table_of l) kind c some f.judged));
        block = ap (λ (q : Kept). q.block) at;
      }

  by_verdict : (a b : Bool) → some_kept (is_repeat kind c.block) 0 (certificates_at l c.slot) ≡ a → has_room kind 0 (certificates_at l c.slot) ≡ b
      → ¬ (refuse_if a refusal.AlreadyKept (refuse_if (not b) refusal.OtherStands (Ok tt)) ≡ Err refusal.OtherStands)
      → IsKept (taken_on (refuse_if a refusal.AlreadyKept (refuse_if (not b) refusal.OtherStands (Ok tt))) l c).ledger kind c.slot c.block
  unfolding refuse_if taken_on fed_with refused_with kept_verdict
  by_verdict true b e f n = repeated e
  by_verdict false true e f n = filled (rw (e, f) refl)
  by_verdict false false e f n = absurd (n refl)

  -- What is not answered 8 is kept by the end of the call.
  pub taken_kept : ¬ (kept_verdict (certificates_at l c.slot) kind c.block ≡ Err refusal.OtherStands) → IsKept (taken l c).ledger kind c.slot c.block
  unfolding taken kept_verdict
  taken_kept n = by_verdict _ _ refl refl n
