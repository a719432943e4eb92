-- What the 17 test's loops and the stakes of a record come to. Assumes nothing.
use Rattle.std.specs.Prelude.{Some, None}
use mathlib.Core.Path.{◌≡◌, refl, sym, ap, ◌∙◌, subst}
use mathlib.Core.Bool.{Bool, true, false, ◌&&◌}
use mathlib.Core.List.{List}
use Prim.Native.Nat.{ℕ, suc, ◌+◌, ◌-◌, ◌<◌, ◌≤◌}
use native.Mathlib.Omega.{arith}
use lib.ListN.{length, get_or, take, get_or-eq_default}
use lib.Dec.{eqb, leb, ltb}
use borrow.Author.Tests.{leb-true, eq-eqb, ne_eqb, lt-ltb, ltb-true, ltb-false}
use Rattle.rulebook.specs.Tools.{whenever, all_to}
use Rattle.rulebook.specs.Weights.{most_nodes, most_stake, last_slot, stake_in, total_to, stakes_fit}
use Rattle.rulebook.specs.declared.Block.{Block}
use Rattle.rulebook.specs.declared.Cell.{Cell}
use Rattle.rulebook.specs.Ledger.{Ledger, no_block, no_cell, most_blocks, places, cell_at, own_cell, blocks_at, all_blocks, row_at, certificates_at}
use Rattle.rulebook.specs.Ledger as ledgers
use Rattle.rulebook.specs.Rules.{fallback_weights}
use Rattle.rulebook.specs.Cards.{CardsAgree, recount}
use Rattle.rulebook.specs.WellFormed.{flag, in_order, cell_fits, cell_blank, cells_fit, kept_fits, blocks_fit, certificates_fit, backs, own_fits, row_fits, card_fits, row_blank, head_fits, well_formed}
use Rattle.rule_laws.proofs.ToolLaws.{given_on, given_off, given_both, and_both, both_and, by_test, true_not_false, same_test, all_at, all_each, all_more, all_same}
use Rattle.rule_laws.proofs.PlaceLaws.{placed_each}
use Rattle.recounting.proofs.Using.{same_card_lem}
use Rattle.stakes.specs.declared.LentTable.{LentTable}
use Rattle.stakes.specs.Table.{table_of, made_of}
use Rattle.stakes.proofs.Laws.{made_none, made_some}
use Rattle.settling.specs.Facts.{HeadFacts, Sound}
use Rattle.settling.proofs.FactLaws.{both_given, cell_facts, head_facts, formed, count_placed}
use Rattle.record.specs.Layout.{Long, ledger_of, Counted}
use Rattle.record.specs.Spelling.{is_spelled}
use Rattle.record.specs.Tabled.{Tabled}
use Rattle.record.specs.BlockPlaces.{behind}
use Rattle.record.proofs.Reading.{ledger_shaped, cell_past}
use Rattle.record.proofs.BlockPlaces.{all_places, both_places}
use Rattle.record.proofs.Spelled.{spelled_long}
use Rattle.storing.proofs.Laws.{head_tabled}
use Rattle.kept_audit.proofs.Laws.{front_long, front_stake, front_total}
use Rattle.soundness.specs.Sound.{row_stands, sound_words, Headed, Standing, Backing}
use Rattle.soundness.proofs.Empty.{behind_none}

-- ---- a loop that joins tests

pub all_step : (n : ℕ) (f : ℕ → Bool) (ok here : Bool) → ok ≡ all_to n f → here ≡ f n → (ok && here) ≡ all_to (n + 1) f
all_step n f ok here a b = (λ i. a i && b i) ∙ sym (all_more n f)

pub all_done : (n m : ℕ) (f : ℕ → Bool) (ok : Bool) → ok ≡ all_to n f → n ≡ m → ok ≡ all_to m f
all_done n m f ok a e = a ∙ ap (λ (k : ℕ). all_to k f) e

-- One that fails is enough.
pub all_off : (n m : ℕ) (f : ℕ → Bool) → n < m → f n ≡ false → false ≡ all_to m f
all_off n m f h e = by_test (all_to m f) (λ t. true_not_false (f n) (all_at m n f t h) e) (λ t. sym t)

-- Such a loop over all of a slot's places for blocks.
module _ (ws : List ℕ) (s : ℕ) (h : s < suc last_slot) (n : ℕ) (ok : Bool) (four : n ≡ most_blocks) where
  all_joined : (f : ℕ → Bool) → ok ≡ all_to n f → ok ≡ all_to (length (blocks_at (ledger_of ws) s)) f
  all_joined f e = all_done n (length (blocks_at (ledger_of ws) s)) f ok e (four ∙ sym ((ledger_shaped ws).blocks s h))

  pub blocks_joined : (p : Block → Bool) → ok ≡ all_to n (λ i. p (get_or (blocks_at (ledger_of ws) s) i no_block)) → ok ≡ all_blocks p (blocks_at (ledger_of ws) s)
  blocks_joined p e = all_joined (λ i. p (get_or (blocks_at (ledger_of ws) s) i no_block)) e ∙ sym (all_places p (blocks_at (ledger_of ws) s))

  pub blocks_judged : ok ≡ all_to n (λ i. kept_fits (ledger_of ws) s (get_or (blocks_at (ledger_of ws) s) i no_block) && behind (blocks_at (ledger_of ws) s) i (get_or (blocks_at (ledger_of ws) s) i no_block).number)
      → ok ≡ blocks_fit (ledger_of ws) s (blocks_at (ledger_of ws) s)
  unfolding blocks_fit
  blocks_judged e =
      all_joined (λ i. kept_fits (ledger_of ws) s (get_or (blocks_at (ledger_of ws) s) i no_block) && behind (blocks_at (ledger_of ws) s) i (get_or (blocks_at (ledger_of ws) s) i no_block).number) e
      ∙ sym (both_places (kept_fits (ledger_of ws) s) (blocks_at (ledger_of ws) s))

-- ---- the stakes in front of the others

module _ (xs : List ℕ) (m : ℕ) (h : m ≤ length xs) where
  front_each : all_to (length (take m xs)) (λ n. leb 1 (stake_in (take m xs) n)) ≡ all_to m (λ n. leb 1 (stake_in xs n))
  front_each =
      ap (λ (k : ℕ). all_to k (λ n. leb 1 (stake_in (take m xs) n))) (front_long xs m h)
      ∙ all_same m (λ n. leb 1 (stake_in (take m xs) n)) (λ n. leb 1 (stake_in xs n)) (λ i l. ap (leb 1) (front_stake xs m h i l))

  pub front_fits : stakes_fit (take m xs) (length (take m xs)) ≡ stakes_fit xs m
  unfolding stakes_fit
  front_fits =
      λ i. (leb 1 (front_long xs m h i) && leb (front_long xs m h i) most_nodes) && (front_each i && leb (front_total xs m h i) most_stake)

pub table_sum : (ws : List ℕ) → (table_of ws).total.0 ≡ total_to ws (length ws)
unfolding table_of
table_sum ws = refl

-- The stakes and the total of a record, by the table that its stakes make.
pub stakes_judged : (l : Ledger) (t : LentTable) (kept : ℕ) → l.count ≤ places l → Some t ≡ made_of (take l.count l.stakes) → kept ≡ l.total
    → eqb t.total.0 kept ≡ (stakes_fit l.stakes l.count && eqb (total_to l.stakes l.count) l.total)
stakes_judged l t kept h e k =
    let made = made_some (take l.count l.stakes) t e in
    let f : stakes_fit l.stakes l.count ≡ true = sym (front_fits l.stakes l.count h) ∙ made.0 in
    let a : t.total.0 ≡ total_to l.stakes l.count =
    ap (λ (x : LentTable). x.total.0) made.1 ∙ table_sum (take l.count l.stakes) ∙ front_total l.stakes l.count h in
    rw (f, a, k)

pub stakes_unfit : (l : Ledger) → l.count ≤ places l → None ≡ made_of (take l.count l.stakes)
    → false ≡ (stakes_fit l.stakes l.count && eqb (total_to l.stakes l.count) l.total)
stakes_unfit l h e =
    let f : stakes_fit l.stakes l.count ≡ false = sym (front_fits l.stakes l.count h) ∙ made_none (take l.count l.stakes) e in
    rw f

-- More nodes than there are places.
pub stakes_many : (l : Ledger) (b : Bool) → places l < l.count → (stakes_fit l.stakes l.count && b) ≡ false
unfolding stakes_fit
stakes_many l b h =
    by_test (stakes_fit l.stakes l.count)
    (λ t.
    let each = (and_both (all_to l.count (λ n. leb 1 (stake_in l.stakes n))) _ (and_both (leb 1 l.count && leb l.count most_nodes) _ t).1).0 in
    let past = leb-true 1 (stake_in l.stakes (places l)) (all_at l.count (places l) (λ n. leb 1 (stake_in l.stakes n)) each h) in
    absurd (omega (arith, past, get_or-eq_default l.stakes 0 {n = places l} (omega arith))))
    (λ t. rw t)

-- ---- the own fallbacks

module _ (l : Ledger) (s b : ℕ) where
  pub backs_none : b ≡ 0 → true ≡ backs l s b
  unfolding backs
  backs_none e = rw (eq-eqb b 0 e)

  pub backs_some : (b ≡ 0 → ⊥) → fallback_weights l s b ≡ backs l s b
  unfolding backs
  backs_some e = rw (ne_eqb b 0 e)

-- Where the first place of a cell that fits is empty, so are the others: there is nothing to lean on.
pub own_none : (l : Ledger) (s : ℕ) (c : Cell) → c ≡ own_cell l s → cell_fits (own_cell l s) ≡ true → c.fallback1 ≡ 0 → true ≡ own_fits l s
unfolding own_fits
own_none l s c e f z =
    let g = cell_facts (own_cell l s) f in
    let o = own_cell l s in
    let x : o.fallback1 ≡ 0 = ap (λ (d : Cell). d.fallback1) (sym e) ∙ z in
    let y = behind_none o.fallback1 o.fallback2 x g.second in
    λ i. backs_none l s o.fallback1 x i && (backs_none l s o.fallback2 y i && backs_none l s o.fallback3 (behind_none o.fallback2 o.fallback3 y g.third) i)

pub own_joined : (l : Ledger) (s : ℕ) (c : Cell) (x y z : Bool) → c ≡ own_cell l s → x ≡ backs l s c.fallback1 → y ≡ backs l s c.fallback2
    → z ≡ backs l s c.fallback3 → (x && (y && z)) ≡ own_fits l s
unfolding own_fits
own_joined l s c x y z e f g h =
    (λ i. f i && (g i && h i)) ∙ ap (λ (d : Cell). backs l s d.fallback1 && (backs l s d.fallback2 && backs l s d.fallback3)) e

-- ---- the rows by themselves, then what own fallbacks lean on

abbrev pub standing : Ledger → Bool
standing l = all_to last_slot (λ i. row_stands l (suc i))

abbrev pub owned : Ledger → Bool
owned l = all_to last_slot (λ i. own_fits l (suc i))

-- Cells and card are asked together, the own fallbacks last.
own_last : (k m q c d o : Bool) → ((k && (m && (q && (c && o)))) && d) ≡ ((k && (m && (q && (c && d)))) && o)
own_last false m q c d o = refl
own_last true false q c d o = refl
own_last true true false c d o = refl
own_last true true true false d o = refl
own_last true true true true true true = refl
own_last true true true true true false = refl
own_last true true true true false true = refl
own_last true true true true false false = refl

and_more : (a b c : Bool) → (a && (b && c)) ≡ ((a && b) && c)
and_more true b c = refl
and_more false b c = refl

-- A row by its blocks and marks, then its kept certificates, then its votes.
module _ (l : Ledger) (s : ℕ) (kept : Bool) (x y : ℕ) (ek : kept ≡ blocks_fit l s (blocks_at l s)) (ex : x ≡ (row_at l s).timed_out) (ey : y ≡ (row_at l s).clash) where
  abbrev judged : Bool
  judged = certificates_fit (ledgers.table_of l) s (certificates_at l s)

  abbrev voted : Bool
  voted = cells_fit l s l.count && card_fits l s

  row_is : row_stands l s ≡ ((kept && (flag x && flag y)) && (judged && voted))
  unfolding row_stands
  row_is = (λ i. sym ek i && ((flag (sym ex i) && flag (sym ey i)) && (judged && voted))) ∙ and_more kept (flag x && flag y) (judged && voted)

  pub row_off : (kept && (flag x && flag y)) ≡ false → false ≡ row_stands l s
  row_off e = sym (row_is ∙ ap (λ (t : Bool). t && (judged && voted)) e)

  module _ (e : (kept && (flag x && flag y)) ≡ true) where
    row_kept : row_stands l s ≡ (judged && voted)
    row_kept = row_is ∙ ap (λ (t : Bool). t && (judged && voted)) e

    pub row_unjudged : judged ≡ false → false ≡ row_stands l s
    row_unjudged q = sym (row_kept ∙ ap (λ (t : Bool). t && voted) q)

    pub row_on : judged ≡ true → voted ≡ row_stands l s
    row_on q = sym (row_kept ∙ ap (λ (t : Bool). t && voted) q)

row_split : (l : Ledger) (s : ℕ) → (row_fits l s && card_fits l s) ≡ (row_stands l s && own_fits l s)
unfolding row_fits row_stands
row_split l s =
    own_last (blocks_fit l s (blocks_at l s)) (flag (row_at l s).timed_out && flag (row_at l s).clash) (certificates_fit (ledgers.table_of l) s (certificates_at l s)) (cells_fit l s l.count) (card_fits l s)
    (own_fits l s)

rows_split : (l : Ledger) → whenever (all_to last_slot (λ i. row_fits l (suc i))) (λ _. all_to last_slot (λ i. card_fits l (suc i))) false ≡ (standing l && owned l)
rows_split l =
    same_test (whenever (all_to last_slot (λ i. row_fits l (suc i))) (λ _. all_to last_slot (λ i. card_fits l (suc i))) false) (standing l && owned l)
    (λ e.
    let p = given_both (all_to last_slot (λ i. row_fits l (suc i))) _ e in
    let each : (i : ℕ) → i < last_slot → (row_stands l (suc i) ≡ true) × (own_fits l (suc i) ≡ true) =
    (λ i h. and_both (row_stands l (suc i)) (own_fits l (suc i)) (sym (row_split l (suc i)) ∙ both_and (row_fits l (suc i)) (card_fits l (suc i)) (all_at last_slot i (λ i. row_fits l (suc i)) p.0 h) (all_at last_slot i (λ i. card_fits l (suc i)) p.1 h))) in
    both_and (standing l) (owned l) (all_each last_slot (λ i. row_stands l (suc i)) (λ i h. (each i h).0)) (all_each last_slot (λ i. own_fits l (suc i)) (λ i h. (each i h).1)))
    (λ e.
    let p = and_both (standing l) (owned l) e in
    let each : (i : ℕ) → i < last_slot → (row_fits l (suc i) ≡ true) × (card_fits l (suc i) ≡ true) =
    (λ i h. and_both (row_fits l (suc i)) (card_fits l (suc i)) (row_split l (suc i) ∙ both_and (row_stands l (suc i)) (own_fits l (suc i)) (all_at last_slot i (λ i. row_stands l (suc i)) p.0 h) (all_at last_slot i (λ i. own_fits l (suc i)) p.1 h))) in
    both_given (all_to last_slot (λ i. row_fits l (suc i))) _ (all_each last_slot (λ i. row_fits l (suc i)) (λ i h. (each i h).0)) (all_each last_slot (λ i. card_fits l (suc i)) (λ i h. (each i h).1)))

-- What a row that stands says of its cells and card.
row_votes : (l : Ledger) (s : ℕ) → row_stands l s ≡ true → (cells_fit l s l.count ≡ true) × (card_fits l s ≡ true)
unfolding row_stands
row_votes l s e =
    let p = and_both (blocks_fit l s (blocks_at l s)) _ e in
    let q = and_both (flag (row_at l s).timed_out && flag (row_at l s).clash) _ p.1 in
    and_both (cells_fit l s l.count) (card_fits l s) (and_both (certificates_fit (ledgers.table_of l) s (certificates_at l s)) _ q.1).1

no_cell_fits : cell_fits no_cell ≡ true
unfolding cell_fits in_order
no_cell_fits = refl

module _ (ws : List ℕ) (h : Standing ws) where
  abbrev ledger : Ledger
  ledger = ledger_of ws

  stands : (s : ℕ) → 1 ≤ s → s ≤ last_slot → (cells_fit ledger s ledger.count ≡ true) × (card_fits ledger s ≡ true)
  stands s a b =
      let i : suc (s - 1) ≡ s = omega arith in
      row_votes ledger s (subst (λ (t : ℕ). row_stands ledger t ≡ true) i (all_at last_slot (s - 1) (λ i. row_stands ledger (suc i)) h.rows (omega arith)))

  agree : CardsAgree ledger
  unfolding card_fits
  agree s a b = same_card_lem (row_at ledger s).card (recount ledger s) (stands s a b).1

  -- A number without a place has no votes.
  own_cell_fits : (s : ℕ) → 1 ≤ s → s ≤ last_slot → cell_fits (own_cell ledger s) ≡ true
  unfolding cells_fit
  own_cell_fits s a b =
      let n = ledger.own in
      by_test (ltb n (places ledger))
      (λ q.
      let m = ltb-true n (places ledger) q in
      sym (given_on (ltb n ledger.count) (cell_blank (cell_at ledger s n)) (λ _. cell_fits (cell_at ledger s n)) (lt-ltb n ledger.count (omega (arith, m, h.headed.full))))
      ∙ all_at (places ledger) n (λ i. whenever (ltb i ledger.count) (λ _. cell_fits (cell_at ledger s i)) (cell_blank (cell_at ledger s i))) (stands s a b).0 m)
      (λ q. ap cell_fits (sym (cell_past ws s n (record { long = h.headed.long; slot = omega arith }) (ltb-false n (places ledger) q))) ∙ no_cell_fits)

  -- So the own fallbacks can be asked of the cards.
  pub standing_backs : (s : ℕ) → 1 ≤ s → s ≤ last_slot → Backing ws s
  standing_backs s a b =
      record {
        carded = record { weighing = record { long = h.headed.long; slot = omega arith; table = h.headed.table }; later = a; cards = agree };
        cell = own_cell_fits s a b;
      }

-- ---- the ways through the test

pub short_unsound : (ws : List ℕ) → is_spelled ws ≡ false → false ≡ sound_words ws
unfolding sound_words
short_unsound ws e = rw e

given_and : (a b : Bool) → whenever a (λ _. b) false ≡ (a && b)
given_and true b = given_on true false _ refl
given_and false b = given_off false false _ refl

module _ (ws : List ℕ) (spelled : is_spelled ws ≡ true) where
  pub test_whole : sound_words ws ≡ well_formed (ledger_of ws)
  unfolding sound_words
  test_whole = rw spelled

  pub head_unsound : head_fits (ledger_of ws) ≡ false → false ≡ sound_words ws
  unfolding well_formed
  head_unsound h = sym (test_whole ∙ given_off (head_fits (ledger_of ws)) false _ h)

  -- The rows are looked at only where the head is in range.
  pub rows_headed : head_fits (ledger_of ws) ≡ true → Headed ws
  rows_headed h =
      let f = head_facts (ledger_of ws) h in
      record { long = spelled_long ws spelled; table = head_tabled (ledger_of ws) f; few = f.few; full = f.room ∙ placed_each (ledger_of ws).count f.few }

  -- Where the head is in range, row 0, the other rows and what own fallbacks lean on decide.
  rows_decide : head_fits (ledger_of ws) ≡ true → sound_words ws ≡ ((row_blank (ledger_of ws) && standing (ledger_of ws)) && owned (ledger_of ws))
  unfolding well_formed
  rows_decide h =
      test_whole ∙ given_on (head_fits (ledger_of ws)) false _ h ∙ given_and (row_blank (ledger_of ws)) _ ∙ ap (λ (t : Bool). row_blank (ledger_of ws) && t) (rows_split (ledger_of ws))
      ∙ and_more (row_blank (ledger_of ws)) (standing (ledger_of ws)) (owned (ledger_of ws))

  pub rows_unsound : head_fits (ledger_of ws) ≡ true → (row_blank (ledger_of ws) && standing (ledger_of ws)) ≡ false → false ≡ sound_words ws
  rows_unsound h r = sym (rows_decide h ∙ ap (λ (t : Bool). t && owned (ledger_of ws)) r)

  pub owns_decide : (r : Bool) → head_fits (ledger_of ws) ≡ true → (row_blank (ledger_of ws) && standing (ledger_of ws)) ≡ true → r ≡ owned (ledger_of ws) → r ≡ sound_words ws
  owns_decide r h f d = d ∙ sym (rows_decide h ∙ ap (λ (t : Bool). t && owned (ledger_of ws)) f)

-- ---- sound words

pub words_spelled : (ws : List ℕ) → sound_words ws ≡ true → is_spelled ws ≡ true
unfolding sound_words
words_spelled ws e = (and_both (is_spelled ws) (well_formed (ledger_of ws)) e).0

pub sound_long : (ws : List ℕ) → sound_words ws ≡ true → Long ws
sound_long ws e = spelled_long ws (words_spelled ws e)

pub sound_formed : (ws : List ℕ) → sound_words ws ≡ true → well_formed (ledger_of ws) ≡ true
unfolding sound_words
sound_formed ws e = (and_both (is_spelled ws) (well_formed (ledger_of ws)) e).1

-- The ledger of sound words is sound.
pub sound_ledger : (ws : List ℕ) → sound_words ws ≡ true → Sound (ledger_of ws)
sound_ledger ws e = record { shaped = ledger_shaped ws; formed = sound_formed ws e }

-- Count, own number, stakes, total and genesis of sound words.
pub sound_head : (ws : List ℕ) → sound_words ws ≡ true → HeadFacts (ledger_of ws)
sound_head ws e = (formed (ledger_of ws) (sound_formed ws e)).head

-- "At every moment it equals what a recount of the stored votes gives": in sound words, as start, step and tray leave them.
pub sound_cards : (ws : List ℕ) → sound_words ws ≡ true → CardsAgree (ledger_of ws)
sound_cards ws e = (formed (ledger_of ws) (sound_formed ws e)).cards

-- "A node record whose card disagrees with the recount is 17."
pub disagreeing_unsound : (ws : List ℕ) (s : ℕ) → 1 ≤ s → s ≤ last_slot → ((row_at (ledger_of ws) s).card ≡ recount (ledger_of ws) s → ⊥) → sound_words ws ≡ false
disagreeing_unsound ws s a b ne = by_test (sound_words ws) (λ t. absurd (ne (sound_cards ws t s a b))) (λ t. t)

-- Every node of a sound record has a place.
pub sound_placed : (ws : List ℕ) → sound_words ws ≡ true → (ledger_of ws).count ≤ places (ledger_of ws)
sound_placed ws e = count_placed (ledger_of ws) (sound_head ws e)

pub sound_counted : (ws : List ℕ) → sound_words ws ≡ true → Counted ws
sound_counted ws e = record { long = sound_long ws e; few = sound_placed ws e }

-- A sound record's stakes are a table.
pub sound_tabled : (ws : List ℕ) → sound_words ws ≡ true → Tabled (ledger_of ws)
sound_tabled ws e = head_tabled (ledger_of ws) (sound_head ws e)
