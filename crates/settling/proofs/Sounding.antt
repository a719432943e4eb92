-- What every call finds and leaves: a ledger of the right shape that is well-formed. Each writing keeps it so, and in it there is no fourth
-- own fallback.
use mathlib.Core.Path.{◌≡◌, sym, ap, ◌∙◌}
use mathlib.Core.Bool.{true, false, not, ◌&&◌}
use mathlib.Core.List.{List}
use Prim.Native.Nat.{ℕ, ◌<◌, ◌≤◌}
use native.Mathlib.Omega.{arith}
use lib.ListN.{set, length-set}
use lib.Dec.{ltb}
use borrow.Author.Tests.{not-true, eqb-false, ltb-true}
use lib.Arith.{lt_of_le-ne}
use Rattle.rulebook.specs.declared.Cell.{Cell}
use Rattle.rulebook.specs.declared.Block.{Block}
use Rattle.rulebook.specs.declared.VoteKind.{VoteKind}
use Rattle.rulebook.specs.declared.Place.TheVariants.{Free}
use Rattle.rulebook.specs.Weights.{last_slot, stake_in, total_to}
use Rattle.rulebook.specs.Ledger.{places, Ledger, Row, none, row_at, cell_at, is_watcher, own_cell, blocks_at, all_blocks, is_free, fill_block, put_certificates, put_timed_out, put_final, put_clash, put_armed}
use Rattle.rulebook.specs.Pool.{has_fallback}
use Rattle.rulebook.specs.Cards.{tallied, change_of}
use Rattle.rulebook.specs.Votes.{place_of, with_vote, store_vote}
use Rattle.rulebook.specs.Rules.{fallback_weights, find_block}
use Rattle.rulebook.specs.Inputs.{misfits, bad_parent, keep_block}
use Rattle.rulebook.specs.Certificates.{Certificate, Kept}
use Rattle.rulebook.specs.Taking.{fill_kept, kept_of, keep_certificate}
use Rattle.rulebook.specs.WellFormed.{Shaped, kept_fits, blocks_apart, blocks_fit}
use Rattle.rule_laws.proofs.ToolLaws.{given_on, and_both, sum_term}
use Rattle.rule_laws.proofs.BlockLaws.{fill_length, find_all}
use Rattle.rule_laws.proofs.CertificateLaws.{fill_long}
use Rattle.rule_laws.proofs.FourthLaws.{Counted}
use Rattle.settling.specs.Facts.{CellFacts, HeadFacts, Sound}
use Rattle.settling.specs.Steps.{weighed, BlockFine, kind_for, CertificateFine, WalkParent}
use Rattle.settling.proofs.Places.{shaped_row, shaped_armed}
use Rattle.settling.proofs.FactLaws.{formed, well_formed_lem, count_placed, cell_facts}
use Rattle.settling.proofs.FormedLaws.{formed_vote, formed_blocks, formed_certificates, formed_timed_out, formed_final, formed_clash, formed_armed, fine_blocks}
use Rattle.settling.proofs.KeptLaws.{fine_certificates}
use Rattle.settling.proofs.Weighing.{third_free}

-- ---- the shape

pub stored_shaped : (l : Ledger) (s n : ℕ) (k : VoteKind) (b : ℕ) → Shaped (places l) l → s ≤ last_slot → Shaped (places (store_vote l s n k b)) (store_vote l s n k b)
unfolding store_vote
stored_shaped l s n k b h a =
    let r : Row = row_at l s in
    let c : Cell = with_vote (cell_at l s n) k b in
    shaped_row l s (record { blocks = r.blocks; timed_out = r.timed_out; final = r.final; clash = r.clash; card = tallied r.card (change_of l s n k b); certificates = r.certificates; cells = set r.cells n c }) h a (h.blocks s (omega arith)) (h.certificates s (omega arith))
    (length-set r.cells n c ∙ h.cells s (omega arith))

module _ (l : Ledger) (h : Shaped (places l) l) where
  pub kept_shaped : (s : ℕ) (b : Block) → s ≤ last_slot → Shaped (places (keep_block l s b)) (keep_block l s b)
  unfolding keep_block
  kept_shaped s b a =
      let r : Row = row_at l s in
      shaped_row l s (record { blocks = fill_block b r.blocks; timed_out = r.timed_out; final = r.final; clash = r.clash; card = r.card; certificates = r.certificates; cells = r.cells }) (h) a
      (fill_length b r.blocks ∙ h.blocks s (omega arith)) (h.certificates s (omega arith)) (h.cells s (omega arith))

  pub timed_out_shaped : (s : ℕ) → s ≤ last_slot → Shaped (places (put_timed_out l s)) (put_timed_out l s)
  timed_out_shaped s a =
      let r : Row = row_at l s in
      shaped_row l s (record { blocks = r.blocks; timed_out = 1; final = r.final; clash = r.clash; card = r.card; certificates = r.certificates; cells = r.cells }) (h) a (h.blocks s (omega arith)) (h.certificates s (omega arith)) (h.cells s (omega arith))

-- The own number of a node that is no watcher is in the table, so a sound ledger has a place for its cells.
pub own_in : (l : Ledger) → Sound l → is_watcher l ≡ false → l.own < l.count
unfolding is_watcher
own_in l h v = lt_of_le-ne (formed l h.formed).head.mine (eqb-false l.own l.count v)

pub own_placed : (l : Ledger) → Sound l → l.own < l.count → l.own < places l
own_placed l h mine = omega (arith, count_placed l (formed l h.formed).head)

-- ---- each writing

module _ (l : Ledger) (h : Sound l) (s : ℕ) (a : 1 ≤ s) (b : s ≤ last_slot) where
  pub sound_vote : (n : ℕ) (k : VoteKind) (x : ℕ) → n < l.count → place_of (cell_at l s n) k x ≡ Free → misfits k x ≡ false → (n ≡ l.own → weighed l s k x ≡ true) → Sound (store_vote l s n k x)
  sound_vote n k x low e m w =
      record {
        shaped = stored_shaped l s n k x h.shaped b;
        formed = well_formed_lem (store_vote l s n k x) (formed_vote l h.shaped (formed l h.formed) s a b n k x low e m w);
      }

  pub sound_kept : (x : Block) → BlockFine l s x → Sound (keep_block l s x)
  unfolding keep_block
  sound_kept x e =
      record {
        shaped = kept_shaped l h.shaped s x b;
        formed = well_formed_lem (keep_block l s x) (formed_blocks l h.shaped (formed l h.formed) s a b (fill_block x (blocks_at l s)) (fine_blocks l s x e ((formed l h.formed).rows s a b).blocks));
      }

  pub sound_timed_out : Sound (put_timed_out l s)
  sound_timed_out =
      record {
        shaped = timed_out_shaped l h.shaped s b;
        formed = well_formed_lem (put_timed_out l s) (formed_timed_out l h.shaped (formed l h.formed) s a b);
      }

  pub sound_final : (x : ℕ) → Sound (put_final l s x)
  sound_final x =
      let r : Row = row_at l s in
      record {
        shaped = shaped_row l s (record { blocks = r.blocks; timed_out = r.timed_out; final = x; clash = r.clash; card = r.card; certificates = r.certificates; cells = r.cells }) h.shaped b (h.shaped.blocks s (omega arith)) (h.shaped.certificates s (omega arith)) (h.shaped.cells s (omega arith));
        formed = well_formed_lem (put_final l s x) (formed_final l h.shaped (formed l h.formed) s a b x);
      }

  pub sound_clash : Sound (put_clash l s)
  sound_clash =
      let r : Row = row_at l s in
      record {
        shaped = shaped_row l s (record { blocks = r.blocks; timed_out = r.timed_out; final = r.final; clash = 1; card = r.card; certificates = r.certificates; cells = r.cells }) h.shaped b (h.shaped.blocks s (omega arith)) (h.shaped.certificates s (omega arith)) (h.shaped.cells s (omega arith));
        formed = well_formed_lem (put_clash l s) (formed_clash l h.shaped (formed l h.formed) s a b);
      }

  pub sound_armed : Sound (put_armed l s)
  sound_armed =
      record {
        shaped = shaped_armed l s h.shaped;
        formed = well_formed_lem (put_armed l s) (formed_armed l h.shaped (formed l h.formed) s a b);
      }

-- An accepted certificate is kept in its slot.
pub sound_certificate : (l : Ledger) → Sound l → (c : Certificate) → CertificateFine l c → Sound (keep_certificate l c)
unfolding keep_certificate
sound_certificate l h c e =
    let s : ℕ = c.slot in
    let r : Row = row_at l s in
    let f = formed l h.formed in
    let b = e.high in
    let qs : List Kept = fill_kept (kind_for l c) 0 (kept_of c) r.certificates in
    record {
      shaped = shaped_row l s (record { blocks = r.blocks; timed_out = r.timed_out; final = r.final; clash = r.clash; card = r.card; certificates = qs; cells = r.cells }) h.shaped b
          (h.shaped.blocks s (omega arith)) (fill_long (kind_for l c) 0 (kept_of c) r.certificates ∙ h.shaped.certificates s (omega arith)) (h.shaped.cells s (omega arith));
      formed = well_formed_lem (put_certificates l s qs) (formed_certificates l h.shaped f s e.low b qs (fine_certificates l f c e));
    }

-- ---- no fourth own fallback

some_stake : (l : Ledger) → HeadFacts l → 1 ≤ l.total
unfolding total_to
some_stake l d = omega (arith, d.sum, d.staked 0 d.some, sum_term l.count 0 (stake_in l.stakes) d.some)

-- A block with rule D's weights that is not among the own fallbacks finds a free place.
pub fourth_free : (l : Ledger) → Sound l → l.own < l.count → (s : ℕ) → 1 ≤ s → s ≤ last_slot → (b : ℕ) → none b ≡ false → fallback_weights l s b ≡ true
    → has_fallback b (own_cell l s) ≡ false → none (own_cell l s).fallback3 ≡ true
fourth_free l h mine s low high b nb w new =
    let f = formed l h.formed in
    let d = f.head in
    let few = count_placed l d in
    let facts : (n : ℕ) → n < l.count → CellFacts (cell_at l s n) = λ n k. cell_facts (cell_at l s n) ((f.rows s low high).cells n (omega arith) k) in
    let counted : Counted l s = record { sum = d.sum; some = some_stake l d; initial = λ n k. (facts n k).initial } in
    third_free l s b counted (facts l.own mine) (f.own s low high) (record { block = nb; weights = w }) new

-- ---- the walk's next slot

-- A block that is found is kept, so its parent has a number.
pub walk_parent : (l : Ledger) → Sound l → (s : ℕ) → 1 ≤ s → s ≤ last_slot → (b : ℕ)
    → (not (none (find_block b (blocks_at l s)).parentslot.0) && ltb (find_block b (blocks_at l s)).parentslot.0 s) ≡ true
    → WalkParent s (find_block b (blocks_at l s)).parentslot.0 (find_block b (blocks_at l s)).parent
unfolding blocks_fit kept_fits
walk_parent l h s low high b e =
    let bs : List Block = blocks_at l s in
    let k : Block = find_block b bs in
    let p : ℕ = k.parentslot.0 in
    let t = and_both (not (none p)) (ltb p s) e in
    let fits = (and_both (all_blocks (kept_fits l s) bs) (blocks_apart bs) ((formed l h.formed).rows s low high).blocks).0 in
    let f = find_all (kept_fits l s) b bs fits (not-true (none p) t.0) in
    let g =
    sym (given_on (not (is_free k)) (none p && none k.parent) (λ _. not (none k.parent) && not (bad_parent l s k)) (ap not f.0)) ∙ f.1
    in
    let lower : p < s = ltb-true p s t.1 in
    record {
      low = lt_of_le-ne (omega arith) (λ z. eqb-false p 0 (not-true (none p) t.0) (sym z));
      lower = lower;
      high = omega arith;
      number = not-true (none k.parent) (and_both (not (none k.parent)) (not (bad_parent l s k)) g).0;
    }
