-- Each writing keeps a ledger well-formed: a vote into a free place, a block that passed, a timeout, a final block, an armed window.
use mathlib.Core.Path.{◌≡◌, refl, sym, ap, ◌∙◌, subst}
use mathlib.Core.Bool.{Bool, true, false, not, ◌&&◌, ◌||◌}
use mathlib.Core.List.{List}
use Prim.Native.Nat.{ℕ, ◌<◌, ◌≤◌}
use native.Mathlib.Omega.{arith}
use lib.ListN.{length, get_or, set, take}
use lib.Seq.{get_or-set_same, get_or-set_other}
use lib.Dec.{eqb, ltb}
use borrow.Author.Tests.{not-true, eqb-true, eqb-false}
use Rattle.rulebook.specs.declared.Cell.{Cell}
use Rattle.rulebook.specs.declared.Block.{Block}
use Rattle.rulebook.specs.declared.VoteKind.{VoteKind}
use Rattle.rulebook.specs.declared.VoteKind.TheVariants as vote
use Rattle.rulebook.specs.declared.Place.TheVariants.{Free}
use Rattle.rulebook.specs.Tools.{whenever, all_to}
use Rattle.rulebook.specs.Weights.{last_slot, window_of}
use Rattle.rulebook.specs.Ledger.{Ledger, Row, none, no_cell, no_initial, places, table_of, no_card, row_at, cell_at, blocks_at, all_blocks, is_free, fill_block, put_row, put_blocks, put_certificates, put_timed_out, put_final, put_clash, put_armed}
use Rattle.rulebook.specs.Pool.{has_fallback}
use Rattle.rulebook.specs.Votes.{place_of, with_vote, fill_fallback, store_vote}
use Rattle.rulebook.specs.Cards.{tallied, recount, change_of, same_card}
use Rattle.rulebook.specs.Inputs.{bad_parent, misfits}
use Rattle.rulebook.specs.Certificates.{Kept}
use Rattle.rulebook.specs.WellFormed.{Shaped, in_order, cell_fits, cell_blank, cells_fit, kept_fits, blocks_apart, blocks_fit, certificates_fit, each_kept, block_blank, kept_blank, own_fits, row_blank}
use Rattle.rule_laws.proofs.ToolLaws.{given_on, and_both, both_and, or_left, or_right, or_cases, or_none, by_test, true_not_false}
use Rattle.rule_laws.proofs.BlockLaws.{all_mono, fill_all, fill_apart}
use Rattle.settling.specs.Facts.{CellFacts, RowFacts, Formed}
use Rattle.settling.specs.Steps.{weighed, BlockFine}
use Rattle.settling.proofs.Places.{row_else, row_cases, cell_cases, window_low}
use Rattle.recounting.proofs.Storing.{place_free}
use Rattle.recounting.proofs.Using.{recount_same}
use Rattle.settling.proofs.Weighing.{own_cells, own_row, own_stored}
use Rattle.settling.proofs.CardLaws.{recount_else, recount_row, card_stored}
use Rattle.settling.proofs.FactLaws.{count_placed, cell_facts, facts_cell}

-- ---- a cell

-- Of two places in order the later is empty where the earlier is.
pub order_none : (x y : ℕ) → in_order x y ≡ true → none x ≡ true → none y ≡ true
unfolding in_order
order_none x y e t =
    or_cases (none y) (not (none x) && not (eqb x y)) e (λ q. q)
    (λ q. true_not_false (none x) t (not-true (none x) (and_both (not (none x)) (not (eqb x y)) q).0))

-- An empty later place is in order; so is another block after a block.
pub none_order : (x y : ℕ) → none y ≡ true → in_order x y ≡ true
unfolding in_order
none_order x y t = or_left (none y) (not (none x) && not (eqb x y)) t

pub apart_order : (x y : ℕ) → none x ≡ false → eqb x y ≡ false → in_order x y ≡ true
unfolding in_order
apart_order x y a b = or_right (none y) (not (none x) && not (eqb x y)) (both_and (not (none x)) (not (eqb x y)) (ap not a) (ap not b))

-- A new fallback block in the first free of the three places.
fill_fits : (x y z : Bool) (c : Cell) (b : ℕ) → none c.fallback1 ≡ x → none c.fallback2 ≡ y → none c.fallback3 ≡ z
    → eqb c.fallback1 b ≡ false → eqb c.fallback2 b ≡ false → CellFacts c → CellFacts (fill_fallback x y z c b)
unfolding fill_fallback
fill_fits true y z c b ex ey ez p q f =
    let two = order_none c.fallback1 c.fallback2 f.second ex in
    let three = order_none c.fallback2 c.fallback3 f.third two in
    record {
      skip = f.skip;
      skipfallback = f.skipfallback;
      finalvote = f.finalvote;
      initial = f.initial;
      second = none_order b c.fallback2 two;
      third = f.third;
      apart = or_left (none c.fallback3) (not (eqb b c.fallback3)) three;
    }
fill_fits false true z c b ex ey ez p q f =
    record {
      skip = f.skip;
      skipfallback = f.skipfallback;
      finalvote = f.finalvote;
      initial = f.initial;
      second = apart_order c.fallback1 b ex p;
      third = none_order b c.fallback3 (order_none c.fallback2 c.fallback3 f.third ey);
      apart = f.apart;
    }
fill_fits false false true c b ex ey ez p q f =
    record {
      skip = f.skip;
      skipfallback = f.skipfallback;
      finalvote = f.finalvote;
      initial = f.initial;
      second = f.second;
      third = apart_order c.fallback2 b ey q;
      apart = or_right (none b) (not (eqb c.fallback1 b)) (ap not p);
    }
fill_fits false false false c b ex ey ez p q f = f

-- A vote into a free place, of any kind, keeps the cell in range.
vote_facts : (c : Cell) (k : VoteKind) (b : ℕ) → place_of c k b ≡ Free → CellFacts c → CellFacts (with_vote c k b)
unfolding place_of with_vote has_fallback
vote_facts c vote.Notar b e f =
    let p = place_free (eqb c.notar b) (no_initial c) e in
    let q = and_both (none c.notar) (none c.skip) p.1 in
    record {
      skip = f.skip;
      skipfallback = f.skipfallback;
      finalvote = f.finalvote;
      initial = or_right (none b) (none c.skip) q.1;
      second = f.second;
      third = f.third;
      apart = f.apart;
    }
vote_facts c vote.NotarFallback b e f =
    let p = place_free (has_fallback b c) (none c.fallback3) e in
    let q = or_none (eqb c.fallback1 b) (eqb c.fallback2 b || eqb c.fallback3 b) p.0 in
    let r = or_none (eqb c.fallback2 b) (eqb c.fallback3 b) q.1 in
    fill_fits (none c.fallback1) (none c.fallback2) (none c.fallback3) c b refl refl refl q.0 r.0 f
vote_facts c vote.Skip b e f =
    let p = place_free (not (none c.skip)) (no_initial c) e in
    let q = and_both (none c.notar) (none c.skip) p.1 in
    record {
      skip = omega arith;
      skipfallback = f.skipfallback;
      finalvote = f.finalvote;
      initial = or_left (none c.notar) false q.0;
      second = f.second;
      third = f.third;
      apart = f.apart;
    }
vote_facts c vote.SkipFallback b e f =
    record {
      skip = f.skip;
      skipfallback = omega arith;
      finalvote = f.finalvote;
      initial = f.initial;
      second = f.second;
      third = f.third;
      apart = f.apart;
    }
vote_facts c vote.Final b e f =
    record {
      skip = f.skip;
      skipfallback = f.skipfallback;
      finalvote = omega arith;
      initial = f.initial;
      second = f.second;
      third = f.third;
      apart = f.apart;
    }
vote_facts c vote.Other b e f = f

pub vote_fits : (c : Cell) (k : VoteKind) (b : ℕ) → place_of c k b ≡ Free → cell_fits c ≡ true → cell_fits (with_vote c k b) ≡ true
vote_fits c k b e f = facts_cell (with_vote c k b) (vote_facts c k b e (cell_facts c f))

-- ---- a row

-- Whether blocks may be kept depends on the ledger's genesis alone.
pub kept_same : (l m : Ledger) (s : ℕ) (b : Block) → m.genesis ≡ l.genesis → kept_fits m s b ≡ kept_fits l s b
unfolding kept_fits bad_parent
kept_same l m s b e = rw e

pub blocks_same : (l m : Ledger) (s : ℕ) (bs : List Block) → m.genesis ≡ l.genesis → blocks_fit l s bs ≡ true → blocks_fit m s bs ≡ true
unfolding blocks_fit
blocks_same l m s bs e f =
    let p = and_both (all_blocks (kept_fits l s) bs) (blocks_apart bs) f in
    both_and (all_blocks (kept_fits m s) bs) (blocks_apart bs) (all_mono (kept_fits l s) (kept_fits m s) bs (λ k q. kept_same l m s k e ∙ q) p.0) p.1

-- So the facts of a row are the same in a ledger with the same genesis, count and stakes.
pub row_same : (l m : Ledger) (s : ℕ) (r : Row) → m.genesis ≡ l.genesis → m.count ≡ l.count → m.stakes ≡ l.stakes → RowFacts l s r → RowFacts m s r
row_same l m s r g n e f =
    let k : places m ≡ places l = ap length e in
    record {
      blocks = blocks_same l m s r.blocks g f.blocks;
      timed_out = f.timed_out;
      clash = f.clash;
      certificates = subst (λ (ws : List ℕ). certificates_fit ws s r.certificates ≡ true) (sym (ap (λ (c : ℕ). take c m.stakes) n ∙ ap (λ (ws : List ℕ). take l.count ws) e)) f.certificates;
      cells = λ i a b. f.cells i (omega arith) (omega arith);
      beyond = λ i a b. f.beyond i (omega arith) (omega arith);
    }

-- The test of row 0, said of the row.
abbrev blank_of : ℕ → Row → Bool
blank_of p r =
    all_blocks block_blank r.blocks
    && ((none r.timed_out && (none r.final && none r.clash))
    && (same_card r.card no_card
    && (each_kept (λ i q. kept_blank q) 0 r.certificates
    && all_to p (λ n. whenever (ltb n 0) (λ _. cell_fits (get_or r.cells n no_cell)) (cell_blank (get_or r.cells n no_cell))))))

blank_is : (l : Ledger) → row_blank l ≡ blank_of (places l) (row_at l 0)
unfolding row_blank cells_fit
blank_is l = refl

module _ (l : Ledger) (h : Shaped (places l) l) (f : Formed l) where
  -- A row in range written to a slot, its card recounted.
  pub formed_row : (s : ℕ) (r : Row) → 1 ≤ s → s ≤ last_slot → RowFacts l s r → ((t : ℕ) → own_fits l t ≡ true → own_fits (put_row l s r) t ≡ true)
      → r.card ≡ recount (put_row l s r) s → Formed (put_row l s r)
  formed_row s r a b g own card =
      let m : Ledger = put_row l s r in
      let d = f.head in
      record {
        head =
            record {
              room = d.room;
              some = d.some;
              few = d.few;
              staked = d.staked;
              sum = d.sum;
              small = d.small;
              mine = d.mine;
              genesis = d.genesis;
              armed = d.armed;
              unused = d.unused;
            };
        blank = blank_is m ∙ ap (blank_of (places l)) (row_else l s r 0 (λ e. omega arith)) ∙ sym (blank_is l) ∙ f.blank;
        rows = λ t p q.
            row_same l m t (row_at m t) refl refl refl
            (row_cases l s r (RowFacts l) t (omega (arith, h.rows)) g (λ _. f.rows t p q));
        own = λ t p q. own t (f.own t p q);
        cards = λ t p q.
            row_cases l s r (λ i x. x.card ≡ recount m i) t (omega (arith, h.rows)) card (λ ne. f.cards t p q ∙ sym (recount_else l s r t ne));
      }

  module _ (s : ℕ) (a : 1 ≤ s) (b : s ≤ last_slot) where
    -- A vote of a node of the table into a free place.
    pub formed_vote : (n : ℕ) (k : VoteKind) (x : ℕ) → n < l.count → place_of (cell_at l s n) k x ≡ Free → misfits k x ≡ false → (n ≡ l.own → weighed l s k x ≡ true)
        → Formed (store_vote l s n k x)
    unfolding store_vote
    formed_vote n k x low e m w =
        let r : Row = row_at l s in
        let c : Cell = with_vote (cell_at l s n) k x in
        let g = f.rows s a b in
        let few = count_placed l f.head in
        let long : n < length r.cells = omega (arith, h.cells s (omega arith)) in
        formed_row s (record { blocks = r.blocks; timed_out = r.timed_out; final = r.final; clash = r.clash; card = tallied r.card (change_of l s n k x); certificates = r.certificates; cells = set r.cells n c }) a b
        (record {
          blocks = g.blocks;
          timed_out = g.timed_out;
          clash = g.clash;
          certificates = g.certificates;
          cells = λ i p q.
              cell_cases (λ _ y. cell_fits y ≡ true) r n c i long
              (vote_fits (cell_at l s n) k x e (g.cells n (omega arith) low)) (λ _. g.cells i p q);
          beyond = λ i p q.
              subst (λ (y : Cell). cell_blank y ≡ true)
              (sym (get_or-set_other r.cells n i c no_cell (λ z. omega arith))) (g.beyond i p q);
        })
        (own_stored l h s n k x b (omega arith) e w)
        (card_stored l h s n k x b (omega arith) low (f.head.staked n low) e m (f.cards s a b))

    -- Blocks that may be kept.
    pub formed_blocks : (xs : List Block) → blocks_fit l s xs ≡ true → Formed (put_blocks l s xs)
    formed_blocks xs e =
        let r : Row = row_at l s in
        let g = f.rows s a b in
        formed_row s (record { blocks = xs; timed_out = r.timed_out; final = r.final; clash = r.clash; card = r.card; certificates = r.certificates; cells = r.cells }) a b
        (record { blocks = e; timed_out = g.timed_out; clash = g.clash; certificates = g.certificates; cells = g.cells; beyond = g.beyond }) (own_row l s _ (omega (arith, h.rows)) refl)
        (f.cards s a b ∙ sym (recount_row l s _ (omega (arith, h.rows)) refl))

    -- Certificates that may be kept.
    pub formed_certificates : (qs : List Kept) → certificates_fit (table_of l) s qs ≡ true → Formed (put_certificates l s qs)
    formed_certificates qs e =
        let r : Row = row_at l s in
        let g = f.rows s a b in
        formed_row s (record { blocks = r.blocks; timed_out = r.timed_out; final = r.final; clash = r.clash; card = r.card; certificates = qs; cells = r.cells }) a b
        (record { blocks = g.blocks; timed_out = g.timed_out; clash = g.clash; certificates = e; cells = g.cells; beyond = g.beyond }) (own_row l s _ (omega (arith, h.rows)) refl)
        (f.cards s a b ∙ sym (recount_row l s _ (omega (arith, h.rows)) refl))

    pub formed_timed_out : Formed (put_timed_out l s)
    formed_timed_out =
        let r : Row = row_at l s in
        let g = f.rows s a b in
        formed_row s (record { blocks = r.blocks; timed_out = 1; final = r.final; clash = r.clash; card = r.card; certificates = r.certificates; cells = r.cells }) a b
        (record { blocks = g.blocks; timed_out = omega arith; clash = g.clash; certificates = g.certificates; cells = g.cells; beyond = g.beyond }) (own_row l s _ (omega (arith, h.rows)) refl)
        (f.cards s a b ∙ sym (recount_row l s _ (omega (arith, h.rows)) refl))

    pub formed_final : (x : ℕ) → Formed (put_final l s x)
    formed_final x =
        let r : Row = row_at l s in
        let g = f.rows s a b in
        formed_row s (record { blocks = r.blocks; timed_out = r.timed_out; final = x; clash = r.clash; card = r.card; certificates = r.certificates; cells = r.cells }) a b
        (record { blocks = g.blocks; timed_out = g.timed_out; clash = g.clash; certificates = g.certificates; cells = g.cells; beyond = g.beyond }) (own_row l s _ (omega (arith, h.rows)) refl)
        (f.cards s a b ∙ sym (recount_row l s _ (omega (arith, h.rows)) refl))

    pub formed_clash : Formed (put_clash l s)
    formed_clash =
        let r : Row = row_at l s in
        let g = f.rows s a b in
        formed_row s (record { blocks = r.blocks; timed_out = r.timed_out; final = r.final; clash = 1; card = r.card; certificates = r.certificates; cells = r.cells }) a b
        (record { blocks = g.blocks; timed_out = g.timed_out; clash = omega arith; certificates = g.certificates; cells = g.cells; beyond = g.beyond }) (own_row l s _ (omega (arith, h.rows)) refl)
        (f.cards s a b ∙ sym (recount_row l s _ (omega (arith, h.rows)) refl))

    pub formed_armed : Formed (put_armed l s)
    formed_armed =
        let m : Ledger = put_armed l s in
        let d = f.head in
        let w : ℕ = window_of s in
        record {
          head =
              record {
                room = d.room;
                some = d.some;
                few = d.few;
                staked = d.staked;
                sum = d.sum;
                small = d.small;
                mine = d.mine;
                genesis = d.genesis;
                armed = λ i p.
                    by_test (eqb i w)
                    (λ t. let e = ap (λ (z : ℕ). get_or (set l.armed w 1) z 0) (eqb-true i w t) ∙ get_or-set_same l.armed w 1 0 (omega (arith, window_low s a b, h.armed)) in omega (arith, e))
                    (λ t. let e = get_or-set_other l.armed w i 1 0 (eqb-false i w t) in omega (arith, e, d.armed i p));
                unused = d.unused;
              };
          blank = blank_is m ∙ sym (blank_is l) ∙ f.blank;
          rows = λ t p q. row_same l m t (row_at l t) refl refl refl (f.rows t p q);
          own = λ t p q. own_cells l m (record { own = refl; count = refl; total = refl; stakes = refl }) t (λ n. refl) (f.own t p q);
          cards = λ t p q. f.cards t p q ∙ sym (recount_same l m t refl refl (λ n. refl));
        }

-- An accepted block may be kept.
fine_kept : (l : Ledger) (s : ℕ) (b : Block) → BlockFine l s b → kept_fits l s b ≡ true
unfolding kept_fits
fine_kept l s b f =
    given_on (not (is_free b)) (none b.parentslot.0 && none b.parent) (λ _. not (none b.parent) && not (bad_parent l s b)) (ap not f.number)
    ∙ both_and (not (none b.parent)) (not (bad_parent l s b)) (ap not f.parent) (ap not f.ancestry)

-- It is kept beside the others.
pub fine_blocks : (l : Ledger) (s : ℕ) (b : Block) → BlockFine l s b → blocks_fit l s (blocks_at l s) ≡ true → blocks_fit l s (fill_block b (blocks_at l s)) ≡ true
unfolding blocks_fit
fine_blocks l s b f e =
    let bs : List Block = blocks_at l s in
    let p = and_both (all_blocks (kept_fits l s) bs) (blocks_apart bs) e in
    both_and (all_blocks (kept_fits l s) (fill_block b bs)) (blocks_apart (fill_block b bs))
    (fill_all (kept_fits l s) b bs (fine_kept l s b f) p.0) (fill_apart b bs f.number f.apart p.1)
