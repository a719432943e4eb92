-- Lines of certificates put one after another, and the whole list or 9. Assumes nothing.
use Rattle.std.specs.Prelude.{⊤, Result, Ok, Err}
use mathlib.Core.Path.{◌≡◌, refl, sym, ap, ◌∙◌, subst}
use mathlib.Core.Bool.{true, false}
use mathlib.Core.List.{List, [], ◌∷◌}
use Prim.Native.Nat.{ℕ, zero, suc, ◌+◌, ◌*◌, ◌≤◌, ◌<◌}
use native.Mathlib.Omega.{arith}
use native.Mathlib.Numerals.{add-one}
use lib.ListN.{length, length-append}
use lib.Dec.{leb}
use borrow.Author.Tests.{le-leb, lt-leb}
use Rattle.rulebook.specs.declared.Accepted.{Accepted}
use Rattle.rulebook.specs.declared.Refusal.{Refusal}
use Rattle.rulebook.specs.declared.Refusal.TheVariants as refusal
use Rattle.rulebook.specs.Weights.{slot_ok}
use Rattle.rulebook.specs.Ledger.{Ledger, most_certificates, kept_at, is_kept}
use Rattle.rule_laws.proofs.ToolLaws.{by_test, given_on, given_off}
use Rattle.record.specs.Layout.{ledger_of}
use Rattle.soundness.specs.Sound.{sound_words}
use Rattle.cards.specs.Asked.{asked_on}
use Rattle.differences.proofs.Rows.{Spelled, spelled_by, laid_none, laid_then, laid_as}
use Rattle.inquest_lines.proofs.Laws.{told_as, told_refused}
use Rattle.inquest_lines.specs.declared.ListRefusal.{ListRefusal}
use Rattle.inquest_lines.specs.declared.ListRefusal.TheVariants as why
use Rattle.kept_lines.specs.Told.{told_of, place_told, told_to, certificates_told}
use Rattle.kept_lines.specs.Lent.{spell_told, spell_all, refused_by, listed_in, certificates_on, ToldIn, Laid}

-- ---- one run of lines after another

module _ (nodes : ℕ) where
  pub spelled : Spelled (spell_all nodes)
  unfolding spell_all
  spelled = spelled_by (spell_told nodes) (λ x. refl) refl (λ x xs. refl)

  -- ---- a slot's places

  module _ (l : Ledger) (s n : ℕ) where
    pub free_line : {list : List ℕ} {at : ℕ} → is_kept (kept_at l s n) ≡ false → Laid nodes list at (place_told l s n) list at
    unfolding place_told
    free_line {list} {at} e = laid_as (sym (given_off (is_kept (kept_at l s n)) [] (λ _. told_of l s n ∷ []) e)) (laid_none spelled list at)

    pub kept_line : {list left : List ℕ} {at next : ℕ} (x : Accepted) (m : ℕ) → is_kept (kept_at l s n) ≡ true → x ≡ told_of l s n → m ≡ nodes → Laid m list at (x ∷ []) left next
        → Laid nodes list at (place_told l s n) left next
    unfolding place_told
    kept_line {list} {left} {at} {next} x m e q p w =
        laid_as (ap (λ (y : Accepted). y ∷ []) q ∙ sym (given_on (is_kept (kept_at l s n)) [] (λ _. told_of l s n ∷ []) e)) (subst (λ (z : ℕ). Laid z list at (x ∷ []) left next) p w)

  module _ (l : Ledger) (s : ℕ) where
    pub first_place_lem : (list : List ℕ) → Laid nodes list 0 (told_to l s 0) list 0
    unfolding told_to
    first_place_lem list = laid_none spelled list 0

    pub next_place : {list now now' : List ℕ} {next next' : ℕ} (n : ℕ) → Laid nodes list 0 (told_to l s n) now next → Laid nodes now next (place_told l s n) now' next'
        → Laid nodes list 0 (told_to l s (n + 1)) now' next'
    unfolding told_to
    next_place n w v = laid_as (rw add-one) (laid_then spelled w v)

    pub last_place : {list now : List ℕ} {next : ℕ} (n : ℕ) → n ≡ most_certificates → Laid nodes list 0 (told_to l s n) now next → Laid nodes list 0 (certificates_told l s) now next
    unfolding certificates_told
    last_place n e w = laid_as (ap (told_to l s) e) w

-- A place has one line at most, a slot so many as it has places.
module _ (l : Ledger) (s : ℕ) where
  place_most : (n : ℕ) → length (place_told l s n) ≤ 1
  unfolding place_told
  place_most n =
      by_test (is_kept (kept_at l s n)) (λ e. omega (arith, ap length (given_on (is_kept (kept_at l s n)) [] (λ _. told_of l s n ∷ []) e)))
      (λ e. omega (arith, ap length (given_off (is_kept (kept_at l s n)) [] (λ _. told_of l s n ∷ []) e)))

  pub told_most : (n : ℕ) → length (told_to l s n) ≤ n
  unfolding told_to
  told_most zero = omega arith
  told_most (suc n) = omega (arith, length-append (told_to l s n) (place_told l s n), place_most n, told_most n)

  pub all_most : length (certificates_told l s) ≤ most_certificates
  unfolding certificates_told
  all_most = told_most most_certificates

-- ---- the whole list, or 9

module _ (nodes : ℕ) (list : List ℕ) (xs : List Accepted) where
  pub cramped : length list < 5 * length xs → listed_in (length list) nodes xs ≡ refused_by (Err (why.NoRoom (length xs)))
  unfolding listed_in
  cramped h = given_off (leb (5 * length xs) (length list)) (refused_by (Err (why.NoRoom (length xs)))) _ (lt-leb (5 * length xs) (length list) h)

  pub roomy : 5 * length xs ≤ length list → listed_in (length list) nodes xs ≡ record { answer = Ok (length xs); words = spell_all nodes xs }
  unfolding listed_in
  roomy h = given_on (leb (5 * length xs) (length list)) (refused_by (Err (why.NoRoom (length xs)))) _ (le-leb (5 * length xs) (length list) h)

-- ---- the call

module _ (ws : List ℕ) (s room : ℕ) where
  pub on_unsound : sound_words ws ≡ false → certificates_on ws s room ≡ refused_by (Err (why.Refused refusal.BadRecord))
  unfolding certificates_on
  on_unsound e = given_off (sound_words ws) (refused_by (Err (why.Refused refusal.BadRecord))) _ e

  pub on_none : sound_words ws ≡ true → slot_ok s ≡ false → certificates_on ws s room ≡ refused_by (Err (why.Refused refusal.BadSlot))
  unfolding certificates_on
  on_none e q =
      given_on (sound_words ws) (refused_by (Err (why.Refused refusal.BadRecord))) _ e ∙ given_off (slot_ok s) (refused_by (Err (why.Refused refusal.BadSlot))) _ q

  pub on_slot_lem : sound_words ws ≡ true → slot_ok s ≡ true → certificates_on ws s room ≡ listed_in room (ledger_of ws).count (certificates_told (ledger_of ws) s)
  unfolding certificates_on
  on_slot_lem e q =
      given_on (sound_words ws) (refused_by (Err (why.Refused refusal.BadRecord))) _ e ∙ given_on (slot_ok s) (refused_by (Err (why.Refused refusal.BadSlot))) _ q

module _ (ws : List ℕ) (s : ℕ) (list : List ℕ) where
  -- The refusal of a slot that may not be asked.
  pub asked_told : (r : Refusal) → asked_on ws s ≡ Err r → ToldIn list (certificates_on ws s (length list)) (Err (why.Refused r)) list
  unfolding asked_on
  asked_told r q =
      by_test (sound_words ws)
      (λ e. by_test (slot_ok s)
      (λ f. let z : ◌≡◌ {A = Result ⊤ Refusal} (Ok tt) (Err r) =
      sym (given_on (sound_words ws) (Err refusal.BadRecord) _ e ∙ given_on (slot_ok s) (Err refusal.BadSlot) (λ _. Ok tt) f) ∙ q in
      never z)
      (λ f. let d : ◌≡◌ {A = Result ⊤ Refusal} (Err refusal.BadSlot) (Err r) =
      sym (given_on (sound_words ws) (Err refusal.BadRecord) _ e ∙ given_off (slot_ok s) (Err refusal.BadSlot) (λ _. Ok tt) f) ∙ q in
      as_refused (on_none ws s (length list) e f) d))
      (λ e. let d : ◌≡◌ {A = Result ⊤ Refusal} (Err refusal.BadRecord) (Err r) = sym (given_off (sound_words ws) (Err refusal.BadRecord) _ e) ∙ q in
      as_refused (on_unsound ws s (length list) e) d)
    where
      never : {X : Type 0} {x : Refusal} → ◌≡◌ {A = Result ⊤ Refusal} (Ok tt) (Err x) → X
      never h = let z : ◌≡◌ {A = ℕ} 0 1 = cc in absurd (omega arith)

      as_refused : {x : Refusal} → certificates_on ws s (length list) ≡ refused_by (Err (why.Refused x)) → ◌≡◌ {A = Result ⊤ Refusal} (Err x) (Err r)
          → ToldIn list (certificates_on ws s (length list)) (Err (why.Refused r)) list
      as_refused {x} h d =
          let k : x ≡ r = cc in
          told_as (certificates_on ws s (length list)) (refused_by (Err (why.Refused r))) (h ∙ ap (λ (y : Refusal). refused_by (Err (why.Refused y))) k) (told_refused list (Err (why.Refused r)))

  pub slot_told : {r : Result ℕ ListRefusal} {left : List ℕ} → sound_words ws ≡ true → slot_ok s ≡ true
      → ToldIn list (listed_in (length list) (ledger_of ws).count (certificates_told (ledger_of ws) s)) r left → ToldIn list (certificates_on ws s (length list)) r left
  slot_told e q w = told_as (certificates_on ws s (length list)) _ (on_slot_lem ws s (length list) e q) w
