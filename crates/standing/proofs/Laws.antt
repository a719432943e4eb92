-- The tests of own votes by the ways through them, as code that has gone such a way cites them. Assumes nothing.
use Rattle.std.specs.Prelude.{Result, Err}
use mathlib.Core.Path.{◌≡◌, sym, ap, ◌∙◌}
use mathlib.Core.Bool.{Bool, true, false, not, ◌&&◌}
use mathlib.Core.List.{List}
use Prim.Native.Nat.{ℕ, suc, ◌+◌, ◌-◌, ◌*◌, ◌≤◌, ◌<◌}
use native.Mathlib.Omega.{arith}
use lib.ListN.{length, get_or}
use lib.Dec.{eqb}
use borrow.Author.Tests.{eq-eqb, ne_eqb}
use Rattle.rulebook.specs.declared.Cell.{Cell}
use Rattle.rulebook.specs.declared.Block.{Block}
use Rattle.rulebook.specs.declared.CertificateKind.TheVariants as certificate
use Rattle.rulebook.specs.declared.Refusal.TheVariants as refusal
use Rattle.rulebook.specs.Tools.{whenever, some_to}
use Rattle.rulebook.specs.Weights.{last_slot, is_first}
use Rattle.rulebook.specs.Ledger.{Ledger, none, no_block, cell_at, own_cell, blocks_at, is_free, has_number}
use Rattle.rulebook.specs.Pool.{held, ready}
use Rattle.rulebook.specs.Rules.{parent_fits, fallback_weights, is_grounded, skip_weights}
use Rattle.rule_laws.proofs.ToolLaws.{given_on, given_off, some_at}
use Rattle.settling.proofs.FactLaws.{formed, cell_facts}
use Rattle.record.specs.Layout.{ledger_of}
use Rattle.record.proofs.BlockPlaces.{some_places}
use Rattle.candidates.specs.Judging.{Judging}
use Rattle.soundness.specs.Sound.{sound_words}
use Rattle.soundness.proofs.Laws.{sound_long, sound_formed, sound_cards, sound_placed, sound_tabled}
use Rattle.safety.specs.Moves.{no_fallback, not_for}
use Rattle.inquest.specs.Stands.{none_or, lets_notar, notar_stands, fallback_stands, late_stands, final_stands}
use Rattle.inquest.specs.declared.Line.{Line}
use Rattle.inquest.specs.Lists.{unless, lines_to, notar_line, fallback_line, late_line, final_line, cell_fallen, slot_fallen, fallen}
use Rattle.inquest_lines.specs.declared.ListRefusal.{ListRefusal}
use Rattle.inquest_lines.specs.declared.ListRefusal.TheVariants as why
use Rattle.inquest_lines.specs.Lent.{Laid, refused_by, listed_in, ToldIn}
use Rattle.inquest_lines.proofs.Laws.{spelled, laid_then, laid_as, unless_most, more_most, to_most, told_as, told_refused}
use Rattle.standing.specs.Asked.{stands_on, StandsOf}

pub parent_first : (l : Ledger) (s : ℕ) (b : Block) → is_first s ≡ true → ready l s b.parentslot.0 b.parent ≡ parent_fits l s (is_first s) b
unfolding parent_fits
parent_first l s b e = rw e

pub parent_later : (l : Ledger) (s : ℕ) (b : Block) → is_first s ≡ false
    → (eqb b.parentslot.0 (s - 1) && eqb (own_cell l (s - 1)).notar b.parent) ≡ parent_fits l s (is_first s) b
unfolding parent_fits
parent_later l s b e = rw e

module _ (l : Ledger) (s b : ℕ) (k : Block) where
  abbrev parent : Unit {0} → Bool
  parent _ = parent_fits l s (is_first s) k

  pub lets_free : k.number ≡ 0 → lets_notar l s b k ≡ false
  unfolding lets_notar
  lets_free h = given_off (not (is_free k) && has_number b k) false parent (ap (λ (t : Bool). not t && has_number b k) (eq-eqb k.number 0 h))

  pub lets_other : (k.number ≡ 0 → ⊥) → (k.number ≡ b → ⊥) → lets_notar l s b k ≡ false
  unfolding lets_notar
  lets_other n h = given_off (not (is_free k) && has_number b k) false parent (λ i. not (ne_eqb k.number 0 n i) && ne_eqb k.number b h i)

  pub lets_kept : (k.number ≡ 0 → ⊥) → k.number ≡ b → lets_notar l s b k ≡ parent_fits l s (is_first s) k
  unfolding lets_notar
  lets_kept n h = given_on (not (is_free k) && has_number b k) false parent (λ i. not (ne_eqb k.number 0 n i) && eq-eqb k.number b h i)

module _ (l : Ledger) (s b : ℕ) where
  -- The test of place i.
  abbrev pub lets_at : ℕ → Bool
  lets_at i = lets_notar l s b (get_or (blocks_at l s) i no_block)

  pub notar_places : (n : ℕ) → length (blocks_at l s) ≡ n → notar_stands l s b ≡ some_to n lets_at
  unfolding notar_stands
  notar_places n h = some_places (lets_notar l s b) (blocks_at l s) ∙ ap (λ (m : ℕ). some_to m lets_at) h

  pub notar_at : (n i : ℕ) → length (blocks_at l s) ≡ n → i < n → lets_at i ≡ true → notar_stands l s b ≡ true
  notar_at n i h j t = notar_places n h ∙ some_at n i lets_at j t

-- The own cell, as it was loaded.
module _ (l : Ledger) (s : ℕ) (c : Cell) (e : c ≡ own_cell l s) where
  module _ (b : ℕ) where
    abbrev weights : Unit {0} → Bool
    weights _ = whenever (fallback_weights l s b) (λ _. is_grounded l s b) false

    pub fallback_same : not_for b c ≡ false → fallback_stands l s b ≡ false
    unfolding fallback_stands
    fallback_same d = given_off (not_for b (own_cell l s)) false weights (ap (not_for b) (sym e) ∙ d)

    fallback_rest : not_for b c ≡ true → fallback_stands l s b ≡ weights tt
    unfolding fallback_stands
    fallback_rest d = given_on (not_for b (own_cell l s)) false weights (ap (not_for b) (sym e) ∙ d)

    pub fallback_light : not_for b c ≡ true → fallback_weights l s b ≡ false → fallback_stands l s b ≡ false
    fallback_light d w = fallback_rest d ∙ given_off (fallback_weights l s b) false (λ _. is_grounded l s b) w

    pub fallback_heavy : not_for b c ≡ true → fallback_weights l s b ≡ true → fallback_stands l s b ≡ is_grounded l s b
    fallback_heavy d w = fallback_rest d ∙ given_on (fallback_weights l s b) false (λ _. is_grounded l s b) w

  pub late_none : c.notar ≡ 0 → late_stands l s ≡ false
  unfolding late_stands
  late_none h = given_off (not (none (own_cell l s).notar)) false (λ _. skip_weights l s) (ap (λ (x : Cell). not (none x.notar)) (sym e) ∙ ap not (eq-eqb c.notar 0 h))

  pub late_weighs : (c.notar ≡ 0 → ⊥) → late_stands l s ≡ skip_weights l s
  unfolding late_stands
  late_weighs h = given_on (not (none (own_cell l s).notar)) false (λ _. skip_weights l s) (ap (λ (x : Cell). not (none x.notar)) (sym e) ∙ ap not (ne_eqb c.notar 0 h))

  abbrev plain : Cell → Bool
  plain x = not (none x.notar) && no_fallback x

  pub final_beside : plain c ≡ false → final_stands l s ≡ false
  unfolding final_stands
  final_beside d = given_off (plain (own_cell l s)) false (λ _. held l certificate.Notar s (own_cell l s).notar) (ap plain (sym e) ∙ d)

  pub final_held : plain c ≡ true → final_stands l s ≡ held l certificate.Notar s c.notar
  unfolding final_stands
  final_held d =
      given_on (plain (own_cell l s)) false (λ _. held l certificate.Notar s (own_cell l s).notar) (ap plain (sym e) ∙ d)
      ∙ ap (λ (x : Cell). held l certificate.Notar s x.notar) (sym e)

-- ---- sound words

-- Their slots can be judged.
pub judging : (ws : List ℕ) (s : ℕ) → sound_words ws ≡ true → 1 ≤ s → s ≤ last_slot → Judging ws s
judging ws s e low high =
    let f = formed (ledger_of ws) (sound_formed ws e) in
    record {
      carded = record { weighing = record { long = sound_long ws e; slot = omega arith; table = sound_tabled ws e }; later = low; cards = sound_cards ws e };
      initial = λ n h. (cell_facts (cell_at (ledger_of ws) s n) ((f.rows s low high).cells n (omega (arith, h, sound_placed ws e)) h)).initial;
    }

-- ---- lines

-- A slot has six at most.
pub slot_most : (l : Ledger) (s : ℕ) → length (slot_fallen l s) ≤ 6
unfolding slot_fallen cell_fallen
slot_most l s =
    let c = own_cell l s in
    more_most 5 (none_or c.notar (λ _. notar_stands l s c.notar)) _ _
    (more_most 4 (none_or c.fallback1 (λ _. fallback_stands l s c.fallback1)) _ _
    (more_most 3 (none_or c.fallback2 (λ _. fallback_stands l s c.fallback2)) _ _
    (more_most 2 (none_or c.fallback3 (λ _. fallback_stands l s c.fallback3)) _ _
    (more_most 1 (none_or c.skipfallback (λ _. late_stands l s)) _ _ (unless_most (none_or c.finalvote (λ _. final_stands l s)) _)))))

pub slots_most : (l : Ledger) (n : ℕ) → length (lines_to n (λ i. slot_fallen l (suc i))) ≤ 6 * n
slots_most l n = to_most n 6 (λ i. slot_fallen l (suc i)) (λ i. slot_most l (suc i))

pub fallen_most : (l : Ledger) → length (fallen l) ≤ 6 * last_slot
unfolding fallen
fallen_most l = slots_most l last_slot

-- A vote puts one line at most.
pub line_upto : (t : Bool) (x : Line) {list left : List ℕ} {at next : ℕ} → Laid list at (unless t x) left next → next ≤ at + 1
line_upto t x w = omega (arith, w.many, unless_most t x)

-- The lines of a slot one after the other, from the cell as it was loaded.
pub slot_put : (l : Ledger) (s : ℕ) (c : Cell) → c ≡ own_cell l s → {v0 v1 v2 v3 v4 v5 v6 : List ℕ} {a0 a1 a2 a3 a4 a5 a6 : ℕ}
    → Laid v0 a0 (notar_line l s c.notar) v1 a1 → Laid v1 a1 (fallback_line l s c.fallback1) v2 a2 → Laid v2 a2 (fallback_line l s c.fallback2) v3 a3
    → Laid v3 a3 (fallback_line l s c.fallback3) v4 a4 → Laid v4 a4 (late_line l s c.skipfallback) v5 a5 → Laid v5 a5 (final_line l s c.finalvote) v6 a6
    → Laid v0 a0 (slot_fallen l s) v6 a6
unfolding slot_fallen cell_fallen
slot_put l s c o p q r t u w = laid_as (ap (cell_fallen l s) o) (laid_then spelled p (laid_then spelled q (laid_then spelled r (laid_then spelled t (laid_then spelled u w)))))

-- ---- the call

-- Two allowed results are equal.
pub stands_one : (ws list : List ℕ) {left left' : List ℕ} {r r' : Result ℕ ListRefusal} → StandsOf ws list r left → StandsOf ws list r' left' → (r ≡ r') × (left ≡ left')
stands_one ws list a b = (a.answered ∙ sym b.answered, a.listed ∙ sym b.listed)

pub bad_told : (ws list : List ℕ) → sound_words ws ≡ false → StandsOf ws list (Err (why.Refused refusal.BadRecord)) list
unfolding stands_on
bad_told ws list e =
    told_as (stands_on ws (length list)) (refused_by (Err (why.Refused refusal.BadRecord))) (given_off (sound_words ws) (refused_by (Err (why.Refused refusal.BadRecord))) _ e)
    (told_refused list (Err (why.Refused refusal.BadRecord)))

pub good_told : (ws list : List ℕ) {r : Result ℕ ListRefusal} {left : List ℕ} → sound_words ws ≡ true → ToldIn list (listed_in (length list) (fallen (ledger_of ws))) r left → StandsOf ws list r left
unfolding stands_on
good_told ws list e w =
    told_as (stands_on ws (length list)) (listed_in (length list) (fallen (ledger_of ws))) (given_on (sound_words ws) (refused_by (Err (why.Refused refusal.BadRecord))) _ e) w
