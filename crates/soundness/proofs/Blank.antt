-- A row with nothing in it stands, and any row by itself. Assumes nothing.
use mathlib.Core.Path.{◌≡◌, refl, sym, ap, ◌∙◌}
use mathlib.Core.Bool.{Bool, true, false, not, ◌&&◌, ◌||◌}
use mathlib.Core.List.{List, [], ◌∷◌}
use Prim.Native.Nat.{ℕ, zero, suc, ◌≤◌}
use native.Mathlib.Omega.{arith}
use lib.ListN.{get_or}
use borrow.Author.Tests.{eqb-true}
use Rattle.rulebook.specs.declared.Block.{Block}
use Rattle.rulebook.specs.declared.Tally.{Tally}
use Rattle.rulebook.specs.Tools.{all_to}
use Rattle.rulebook.specs.Weights.{last_slot}
use Rattle.rulebook.specs.Ledger.{Ledger, Row, none, no_block, no_card, places, table_of, row_at, blocks_at, all_blocks, is_free, certificates_at}
use Rattle.rulebook.specs.Cards.{same_card}
use Rattle.rulebook.specs.WellFormed.{flag, block_blank, kept_blank, each_kept, cells_fit, blocks_fit, certificates_fit, row_blank}
use Rattle.rule_laws.proofs.ToolLaws.{and_both, both_and, by_test, true_not_false}
use Rattle.recounting.proofs.Using.{same_card_lem}
use Rattle.kept_certificates.proofs.ByPlace as kept
use Rattle.blank_rows.specs.Blank.{nothing_in}
use Rattle.audit.proofs.Summing.{votes_blank}
use Rattle.soundness.specs.Sound.{row_stands, row_passes}
use Rattle.soundness.proofs.Empty.{blank_fits}

-- As row 0 has to be.
pub blank_first : (l : Ledger) → nothing_in l 0 ≡ row_blank l
unfolding nothing_in row_blank
blank_first l = refl

first_empty : (bs : List Block) → all_blocks block_blank bs ≡ true → (get_or bs 0 no_block).number ≡ 0
unfolding all_blocks block_blank
first_empty [] e = refl
first_empty (b ∷ bs) e = eqb-true b.number 0 (and_both (is_free b) _ (and_both (block_blank b) (all_blocks block_blank bs) e).0).0

none_flag : (x : ℕ) → none x ≡ true → flag x ≡ true
none_flag x e = ap flag (eqb-true x 0 e)

pub blank_stands : (l : Ledger) (s : ℕ) → places l ≡ l.count → nothing_in l s ≡ true → true ≡ row_stands l s
unfolding nothing_in row_stands
blank_stands l s full e =
    let r : Row = row_at l s in
    let marks : Bool = none r.timed_out && (none r.final && none r.clash) in
    let p = and_both (all_blocks block_blank r.blocks) _ e in
    let q = and_both marks _ p.1 in
    let m = and_both (none r.timed_out) _ q.0 in
    let c = and_both (same_card r.card no_card) _ q.1 in
    let k = and_both (each_kept (λ i q. kept_blank q) 0 r.certificates) (cells_fit l s 0) c.1 in
    sym
    (both_and (blocks_fit l s (blocks_at l s)) _
    (sym (blank_fits l s r.blocks (get_or r.blocks 0 no_block) refl (first_empty r.blocks p.0)) ∙ p.0)
    (both_and (flag r.timed_out && flag r.clash) _
    (both_and (flag r.timed_out) (flag r.clash) (none_flag r.timed_out m.0) (none_flag r.clash (and_both (none r.final) (none r.clash) m.1).1))
    (both_and (certificates_fit (table_of l) s (certificates_at l s)) _ (kept.blank_fits (table_of l) s r.certificates k.0)
    (sym (votes_blank l s full r.card refl c.0 k.1)))))

-- ---- any row

pub blank_passes : (l : Ledger) (s : ℕ) → places l ≡ l.count → nothing_in l s ≡ true → true ≡ row_passes l s
unfolding row_passes
blank_passes l zero full e = sym (sym (blank_first l) ∙ e)
blank_passes l (suc i) full e = blank_stands l (suc i) full e

pub first_filled : (l : Ledger) (s : ℕ) → s ≡ 0 → nothing_in l s ≡ false → false ≡ row_passes l s
unfolding row_passes
first_filled l zero z e = sym (sym (blank_first l) ∙ e)
first_filled l (suc i) z e = absurd (omega arith)

pub later_passes : (l : Ledger) (s : ℕ) → 1 ≤ s → row_stands l s ≡ row_passes l s
unfolding row_passes
later_passes l zero h = absurd (omega arith)
later_passes l (suc i) h = refl

-- A row whose card has a leader or a skip vote has something in it.
pub voted_filled : (l : Ledger) (s : ℕ) (t : Tally) → t ≡ (row_at l s).card → (not (none t.leader) || not (none t.skipcert.0)) ≡ true → false ≡ nothing_in l s
unfolding nothing_in
voted_filled l s t e v =
    by_test (nothing_in l s)
    (λ h.
    let r : Row = row_at l s in
    let p = and_both (all_blocks block_blank r.blocks) _ h in
    let q = and_both (none r.timed_out && (none r.final && none r.clash)) _ p.1 in
    let c = and_both (same_card r.card no_card) _ q.1 in
    let n : t ≡ no_card = e ∙ same_card_lem r.card no_card c.0 in
    true_not_false (not (none t.leader) || not (none t.skipcert.0)) v (ap (λ (x : Tally). not (none x.leader) || not (none x.skipcert.0)) n))
    (λ h. sym h)

-- Row 0 and those of slots 1 to 16.
pub rows_passed : (l : Ledger) → all_to (suc last_slot) (row_passes l) ≡ (row_blank l && all_to last_slot (λ i. row_stands l (suc i)))
unfolding row_passes all_to
rows_passed l = kept.all_split 1 16 (row_passes l)
