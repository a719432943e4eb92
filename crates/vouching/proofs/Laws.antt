-- The lines of two records by what the code has read. Assumes nothing.
use Rattle.std.specs.Prelude.{⊤, Result, Ok, Err}
use mathlib.Core.Path.{◌≡◌, refl, sym, ap, ◌∙◌}
use mathlib.Core.Bool.{Bool, true, false, not}
use mathlib.Core.List.{List, [], ◌++◌}
use Prim.Native.Nat.{ℕ, zero, suc, ◌+◌, ◌*◌, ◌≤◌, ◌<◌}
use native.Mathlib.Omega.{arith}
use lib.ListN.{length, get_or, length-append}
use borrow.Author.Tests.{eqb-false}
use Rattle.rulebook.specs.declared.Cell.{Cell}
use Rattle.rulebook.specs.declared.Refusal.TheVariants as refusal
use Rattle.rulebook.specs.Certificates.{Kept}
use Rattle.rulebook.specs.Tools.{whenever}
use Rattle.rulebook.specs.Weights.{last_slot}
use Rattle.rulebook.specs.Ledger.{Ledger, no_kept, most_certificates, cell_at, own_cell, certificates_at, is_kept, is_watcher}
use Rattle.rulebook.specs.Pool.{place_kind}
use Rattle.rulebook.specs.Packets.{bit}
use Rattle.rulebook.specs.WellFormed.{kept_in}
use Rattle.rule_laws.proofs.ToolLaws.{given_on, given_off, by_test}
use Rattle.record.specs.Layout.{ledger_of}
use Rattle.record.proofs.Reading.{ledger_shaped}
use Rattle.soundness.specs.Sound.{sound_words}
use Rattle.soundness.proofs.Laws.{sound_long, sound_head, sound_placed}
use Rattle.difference_lines.specs.declared.Side.{Side}
use Rattle.difference_lines.specs.declared.Side.TheVariants as side
use Rattle.difference_lines.specs.Lines.{same_tables}
use Rattle.differences.specs.Both.{both_sound}
use Rattle.differences.specs.Lent.{Sounds, Alike}
use Rattle.differences.proofs.Both.{side_unsound}
use Rattle.differences.proofs.TableLaws.{alike_count}
use Rattle.inquest.specs.declared.Line.{Line}
use Rattle.inquest.specs.Lists.{lines_to, cell_lacks, signer_lacks, place_lacks, kept_lacks, slot_lacks, lacking}
use Rattle.inquest_lines.specs.declared.ListRefusal.{ListRefusal}
use Rattle.inquest_lines.specs.declared.ListRefusal.TheVariants as why
use Rattle.inquest_lines.specs.Lent.{Laid, Told, refused_by, listed_in, ToldIn, most_lines}
use Rattle.inquest_lines.proofs.Laws.{spelled, laid_none, laid_then, laid_as, to_most, next_last, told_as, told_refused, told_nothing}
use Rattle.signer_lines.specs.declared.Signer.{Signer}
use Rattle.signer_lines.specs.Signers.{lacks}
use Rattle.signer_lines.proofs.Laws.{signer_lacks_lem, signer_most, cell_most}
use Rattle.vouching.specs.Asked.{lacking_of, of_two, comparable_on, Firms, Comparing}

-- ---- a place

module _ (s m : ℕ) (d : Cell) (n : ℕ) (q : Kept) {list : List ℕ} {at : ℕ} where
  pub place_none : is_kept q ≡ false → Laid list at (place_lacks s m d n q) list at
  unfolding place_lacks
  place_none e = laid_as (sym (given_off (is_kept q) [] (λ _. signer_lacks (place_kind n) (kept_in s q) m d) e)) (laid_none spelled list at)

  pub place_put : {left : List ℕ} {next : ℕ} (x : Signer) → is_kept q ≡ true → x.kind ≡ place_kind n → x.slot.0 ≡ s → x.node.0 ≡ m → x.block ≡ q.block
      → x.a ≡ bit q.maska m → x.b ≡ bit q.maskb m → Laid list at (lacks x d) left next → Laid list at (place_lacks s m d n q) left next
  unfolding place_lacks
  place_put x e ek es em eb ea ebb w =
      laid_as (signer_lacks_lem x d (place_kind n) (kept_in s q) m ek es em eb ea ebb ∙ sym (given_on (is_kept q) [] (λ _. signer_lacks (place_kind n) (kept_in s q) m d) e)) w

pub place_most : (s m : ℕ) (d : Cell) (n : ℕ) (q : Kept) → length (place_lacks s m d n q) ≤ 2
unfolding place_lacks
place_most s m d n q =
    by_test (is_kept q)
    (λ e. rw (given_on (is_kept q) [] (λ _. signer_lacks (place_kind n) (kept_in s q) m d) e) (signer_most (place_kind n) (kept_in s q) m d))
    (λ e. rw (given_off (is_kept q) [] (λ _. signer_lacks (place_kind n) (kept_in s q) m d) e) (omega arith))

-- ---- all places

-- So many lines, where each part below n has k at most.
below_most : (n k : ℕ) (f : ℕ → List Line) → ((i : ℕ) → i < n → length (f i) ≤ k) → length (lines_to n f) ≤ k * n
unfolding lines_to
below_most zero k f h = omega arith
below_most (suc n) k f h = omega (arith, length-append (lines_to n f) (f n), h n (omega arith), below_most n k f (λ i j. h i (omega arith)))

module _ (s m : ℕ) (d : Cell) (qs : List Kept) where
  -- The lines of place i.
  abbrev pub lacks_at : ℕ → List Line
  lacks_at i = place_lacks s m d i (get_or qs i no_kept)

  pub places_most : (n : ℕ) → length (lines_to n lacks_at) ≤ 2 * n
  places_most n = to_most n 2 lacks_at (λ i. place_most s m d i (get_or qs i no_kept))

  pub kept_most : length qs ≡ most_certificates → length (kept_lacks s m d qs) ≤ 26
  unfolding kept_lacks
  kept_most e = omega (arith, places_most (length qs))

  pub kept_put : {list left : List ℕ} {at next : ℕ} (n : ℕ) → n ≡ length qs → Laid list at (lines_to n lacks_at) left next → Laid list at (kept_lacks s m d qs) left next
  unfolding kept_lacks
  kept_put n e w = next_last lacks_at n w (length qs) e

-- ---- a slot

module _ (l r : Ledger) (s : ℕ) where
  pub slot_put : {v0 v1 v2 : List ℕ} {a0 a1 a2 : ℕ} (m : ℕ) (c d : Cell) → m ≡ r.own → c ≡ cell_at l s m → d ≡ own_cell r s → Laid v0 a0 (cell_lacks s m c d) v1 a1
      → Laid v1 a1 (kept_lacks s m d (certificates_at l s)) v2 a2 → Laid v0 a0 (slot_lacks l r s) v2 a2
  unfolding slot_lacks
  slot_put m c d em ec ed p q =
      laid_as ((λ i. cell_lacks s m (ec i) (ed i) ++ kept_lacks s m (ed i) (certificates_at l s))
      ∙ (λ i. cell_lacks s (em i) (cell_at l s (em i)) (own_cell r s) ++ kept_lacks s (em i) (own_cell r s) (certificates_at l s))) (laid_then spelled p q)

  pub slot_most : length (certificates_at l s) ≡ most_certificates → length (slot_lacks l r s) ≤ 33
  unfolding slot_lacks
  slot_most e =
      omega (
        arith,
        length-append (cell_lacks s r.own (cell_at l s r.own) (own_cell r s)) (kept_lacks s r.own (own_cell r s) (certificates_at l s)),
        cell_most s r.own (cell_at l s r.own) (own_cell r s),
        kept_most s r.own (own_cell r s) (certificates_at l s) e,
      )

pub cell_upto : (s m : ℕ) (c d : Cell) {list left : List ℕ} {at next : ℕ} → Laid list at (cell_lacks s m c d) left next → next ≤ at + 7
cell_upto s m c d w = omega (arith, w.many, cell_most s m c d)

-- ---- all slots

pub slots_most : (one : List ℕ) (r : Ledger) (n : ℕ) → n ≤ last_slot → length (lines_to n (λ i. slot_lacks (ledger_of one) r (suc i))) ≤ 33 * n
slots_most one r n h =
    below_most n 33 (λ i. slot_lacks (ledger_of one) r (suc i)) (λ i j. slot_most (ledger_of one) r (suc i) ((ledger_shaped one).certificates (suc i) (omega arith)))

pub all_most : (one : List ℕ) (r : Ledger) → length (lacking (ledger_of one) r) ≤ 528
unfolding lacking
all_most one r = omega (arith, slots_most one r last_slot (omega arith))

-- Two records of one table, the second a firm's: every slot can be compared.
module _ {one two : List ℕ} (f : Firms one two) where
  own_below : (ledger_of two).own < (ledger_of two).count
  unfolding is_watcher
  own_below =
      let h = (sound_head two f.alike.sounds.second).mine in
      let n = eqb-false (ledger_of two).own (ledger_of two).count f.firm in
      by_lt (ledger_of two).own (ledger_of two).count h n
    where
      by_lt : (a b : ℕ) → a ≤ b → (a ≡ b → ⊥) → a < b
      by_lt a b h n = omega (arith, h, n)

  pub compared : (s at : ℕ) → s < suc last_slot → at + 33 ≤ most_lines → Comparing one two s at
  compared s at h room =
      let e = alike_count f.alike in
      let first = f.alike.sounds.first in
      record {
        slot = record { long = sound_long one first; slot = h };
        there = record { long = sound_long two f.alike.sounds.second; slot = h };
        node = omega (arith, e, own_below, sound_placed one first);
        room = room;
      }

-- ---- the call

-- What is told of two records, by three tests, each with its refusal.
refused_of : (a b c : Bool) (told : Unit {0} → Told) (e : ListRefusal)
    → whenever a (λ _. whenever b (λ _. whenever c (λ _. Ok (tt {0})) (Err (why.Refused refusal.BadSizes))) (Err (why.BadRecord side.Second))) (Err (why.BadRecord side.First)) ≡ Err e
    → whenever a (λ _. whenever b (λ _. whenever c told (refused_by (Err (why.Refused refusal.BadSizes)))) (refused_by (Err (why.BadRecord side.Second)))) (refused_by (Err (why.BadRecord side.First)))
    ≡ refused_by (Err e)
unfolding whenever
refused_of true true true told e q = let z : ◌≡◌ {A = ℕ} 0 1 = cc in absurd (omega arith)
refused_of true true false told e q = let d : why.Refused refusal.BadSizes ≡ e = cc in ap (λ (x : ListRefusal). refused_by (Err x)) d
refused_of true false c told e q = let d : why.BadRecord side.Second ≡ e = cc in ap (λ (x : ListRefusal). refused_by (Err x)) d
refused_of false b c told e q = let d : why.BadRecord side.First ≡ e = cc in ap (λ (x : ListRefusal). refused_by (Err x)) d

fine_of : (a b c : Bool) → whenever a (λ _. whenever b (λ _. whenever c (λ _. Ok (tt {0})) (Err (why.Refused refusal.BadSizes))) (Err (why.BadRecord side.Second))) (Err (why.BadRecord side.First)) ≡ Ok (tt {0})
    → (a ≡ true) × (b ≡ true) × (c ≡ true)
unfolding whenever
fine_of true true true q = (refl, refl, refl)
fine_of true true false q = let z : ◌≡◌ {A = ℕ} 0 1 = cc in absurd (omega arith)
fine_of true false c q = let z : ◌≡◌ {A = ℕ} 0 1 = cc in absurd (omega arith)
fine_of false b c q = let z : ◌≡◌ {A = ℕ} 0 1 = cc in absurd (omega arith)

module _ (one two : List ℕ) where
  -- Two records that can be compared.
  pub comparable_fine : comparable_on one two ≡ Ok tt → Alike one two
  unfolding comparable_on
  comparable_fine q =
      let k = fine_of (sound_words one) (sound_words two) (same_tables (ledger_of one) (ledger_of two)) q in
      record { sounds = record { first = k.0; second = k.1 }; same = k.2 }

  -- 17 of the side that the test of both names.
  pub comparable_side : {r : Result ⊤ Side} {q : Result ⊤ ListRefusal} → r ≡ both_sound one two → (r ≡ Ok tt → ⊥) → ((x : Side) → r ≡ Err x → q ≡ Err (why.BadRecord x)) → q ≡ comparable_on one two
  unfolding comparable_on
  comparable_side {r = Ok u} {q = q} e n f = absurd (n refl)
  comparable_side {r = Err x} {q = q} e n f =
      let rest : Unit {0} → Result ⊤ ListRefusal = λ _. whenever (same_tables (ledger_of one) (ledger_of two)) (λ _. Ok tt) (Err (why.Refused refusal.BadSizes)) in
      f x refl
      ∙ side_unsound one two (λ s. ◌≡◌ {A = Result ⊤ ListRefusal} (Err (why.BadRecord s)) (whenever (sound_words one) (λ _. whenever (sound_words two) rest (Err (why.BadRecord side.Second))) (Err (why.BadRecord side.First)))) x (sym e)
      (λ d. sym (given_off (sound_words one) (Err (why.BadRecord side.First)) _ d))
      (λ d h. sym (given_on (sound_words one) (Err (why.BadRecord side.First)) _ d ∙ given_off (sound_words two) (Err (why.BadRecord side.Second)) rest h))

  module _ (k : Sounds one two) where
    onward : comparable_on one two ≡ whenever (same_tables (ledger_of one) (ledger_of two)) (λ _. Ok tt) (Err (why.Refused refusal.BadSizes))
    unfolding comparable_on
    onward =
        given_on (sound_words one) (Err (why.BadRecord side.First)) _ k.first ∙ given_on (sound_words two) (Err (why.BadRecord side.Second)) _ k.second

    -- 1.
    pub comparable_not : same_tables (ledger_of one) (ledger_of two) ≡ false → Err (why.Refused refusal.BadSizes) ≡ comparable_on one two
    comparable_not h = sym (onward ∙ given_off (same_tables (ledger_of one) (ledger_of two)) (Err (why.Refused refusal.BadSizes)) (λ _. Ok tt) h)

    pub comparable_yes : same_tables (ledger_of one) (ledger_of two) ≡ true → Ok tt ≡ comparable_on one two
    comparable_yes h = sym (onward ∙ given_on (same_tables (ledger_of one) (ledger_of two)) (Err (why.Refused refusal.BadSizes)) (λ _. Ok tt) h)

-- Each way out of what is told of them.
module _ (one two list : List ℕ) (told : Unit {0} → Told) where
  -- Their refusal is that of the question.
  pub two_refused : (e : ListRefusal) → comparable_on one two ≡ Err e → ToldIn list (of_two one two told) (Err e) list
  unfolding comparable_on
  two_refused e q =
      told_as (of_two one two told) (refused_by (Err e)) (refused_of (sound_words one) (sound_words two) (same_tables (ledger_of one) (ledger_of two)) told e q)
      (told_refused list (Err e))

  pub two_told : {r : Result ℕ ListRefusal} {left : List ℕ} → Alike one two → ToldIn list (told tt) r left → ToldIn list (of_two one two told) r left
  two_told k w =
      told_as (of_two one two told) (told tt)
      (given_on (sound_words one) (refused_by (Err (why.BadRecord side.First))) _ k.sounds.first ∙ given_on (sound_words two) (refused_by (Err (why.BadRecord side.Second))) _ k.sounds.second
      ∙ given_on (same_tables (ledger_of one) (ledger_of two)) (refused_by (Err (why.Refused refusal.BadSizes))) told k.same) w

-- The lines of the second's firm; a watcher has none.
module _ (one two list : List ℕ) where
  abbrev pub asked : Unit {0} → Told
  asked _ = listed_in (length list) (lacking_of (ledger_of one) (ledger_of two))

  pub watcher_told : is_watcher (ledger_of two) ≡ true → ToldIn list (asked tt) (Ok 0) list
  unfolding lacking_of
  watcher_told e =
      told_as (asked tt) (listed_in (length list) [])
      (ap (listed_in (length list)) (given_off (not (is_watcher (ledger_of two))) [] (λ _. lacking (ledger_of one) (ledger_of two)) (ap not e)))
      (told_nothing list)

  pub firm_told : {r : Result ℕ ListRefusal} {left : List ℕ} → is_watcher (ledger_of two) ≡ false → ToldIn list (listed_in (length list) (lacking (ledger_of one) (ledger_of two))) r left → ToldIn list (asked tt) r left
  unfolding lacking_of
  firm_told e w =
      told_as (asked tt) (listed_in (length list) (lacking (ledger_of one) (ledger_of two)))
      (ap (listed_in (length list)) (given_on (not (is_watcher (ledger_of two))) [] (λ _. lacking (ledger_of one) (ledger_of two)) (ap not e))) w
