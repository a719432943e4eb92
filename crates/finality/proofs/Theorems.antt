-- Where no rule applies, what is final was told of. Assumes nothing.
use mathlib.Core.Path.{◌≡◌, refl, sym, ap, ◌∙◌, subst}
use mathlib.Core.Bool.{Bool, true, false, not, ◌&&◌, ◌||◌}
use mathlib.Core.List.{List, [], ◌∷◌}
use mathlib.Core.Logic.{inl, inr, ⊎_elim}
use Prim.Native.Nat.{ℕ, ◌≤◌, ◌<◌}
use native.Mathlib.Omega.{arith}
use lib.ListN.{length, length-append}
use lib.Dec.{eqb, leb}
use lib.Arith.{lt_of_le-ne}
use borrow.Author.Tests.{eqb-true, eqb-false, ne_eqb, not-true, leb-false, lt-leb}
use Rattle.rulebook.specs.declared.Block.{Block}
use Rattle.rulebook.specs.Tools.{lowest}
use Rattle.rulebook.specs.Ledger.{Ledger, none, row_at, certificates_at, blocks_at, some_block, all_blocks, is_free, has_number, is_block, keeps_block, put_final, put_clash}
use Rattle.rulebook.specs.Pool.{named, kept_names, certifiable}
use Rattle.rulebook.specs.Inputs.{bad_parent}
use Rattle.rulebook.specs.WellFormed.{in_order, kept_fits, blocks_apart, blocks_fit}
use Rattle.rulebook.specs.Rules.{Record, State, report, is_final, is_newcomer, tell_final, find_block, rule_g}
use Rattle.rulebook.specs.Run.{made}
use Rattle.rule_laws.proofs.ToolLaws.{given_on, choose_on, choose_off, by_test, and_both, both_and, or_cases, or_none, true_not_false}
use Rattle.rule_laws.proofs.LowestLaws.{free_none, free_named, low_find, low_le}
use Rattle.rule_laws.proofs.CertificateLaws.{kept_free}
use Rattle.rule_laws.proofs.BlockLaws.{find_all}
use Rattle.settling.proofs.FactLaws.{formed}
use Rattle.settling.proofs.RunLaws.{rule_f_lem, rule_g_lem}
use Rattle.settling.proofs.Spending.{tell_comes, G-comes}
use Rattle.rulebook.specs.Cards.{leader}
use Rattle.recounting.proofs.Using.{final_leads, newcomer_lead}
use Rattle.finality.specs.Finals.{IsTold, CertifiedIsTold, ParentIsTold}
use Rattle.finality.proofs.FinalLaws.{clash_on, final_first, final_other, F-on, walk_to_lem, G-stops, G-on}

-- A record more is another state.
more_not_same : (o : State) (l : Ledger) (k s b : ℕ) → report o l k s b ≡ o → ⊥
more_not_same o l k s b e = omega (arith, ap made e)

-- Telling that changes nothing: the block is the slot's, or the slot is marked.
told_already : (o : State) (s b : ℕ) → tell_final o s b ≡ o → IsTold o.ledger s b
told_already o s b e =
    let f : ℕ = (row_at o.ledger s).final in
    by_test (none f) (λ t. absurd (more_not_same o (put_final o.ledger s b) 6 s b (sym (final_first o s b t) ∙ e)))
    (λ t. by_test (eqb f b) (λ u. inl (eqb-true f b u))
    (λ u. by_test (none (row_at o.ledger s).clash)
    (λ v. absurd (more_not_same o (put_clash o.ledger s) 8 s b (sym (final_other o s b t u ∙ clash_on o s b v) ∙ e))) (λ v. inr v)))

-- ---- by certificates

pub certified_is_told : CertifiedIsTold
unfolding is_newcomer
certified_is_told o h t s b low high nb e =
    let l : Ledger = o.ledger in
    let f : ℕ = (row_at l s).final in
    by_test (eqb b f) (λ u. inl (sym (eqb-true b f u)))
    (λ u.
    let pos : 1 ≤ b = lt_of_le-ne (omega arith) (λ z. eqb-false b 0 nb (sym z)) in
    let bs : List ℕ = kept_names (certificates_at l s) (named (leader l s) []) in
    let few = kept_free (certificates_at l s) (named (leader l s) []) (free_named (leader l s) [] free_none) in
    let x : ℕ = lowest (is_newcomer l s) bs in
    let some : 1 ≤ x = (low_le (is_newcomer l s) bs b few (final_leads l s t.sum t.some b pos e) (both_and (is_final l s b) (not (eqb b f)) e (ap not u))).0 in
    let found : lowest (is_newcomer l s) (certifiable l s) ≡ x = newcomer_lead l s t.sum t.some in
    let nx : none x ≡ false = ne_eqb x 0 (λ z. omega arith) in
    let other : eqb x f ≡ false = not-true (eqb x f) (and_both (is_final l s x) (not (eqb x f)) (low_find (is_newcomer l s) bs some).1).1 in
    ⊎_elim (λ (q : f ≡ x). absurd (eqb-false x f other (sym q))) (λ q. inr q)
    (told_already o s x (ap (tell_final o s) (sym found) ∙ sym (F-on o s (ap none found ∙ nx)) ∙ sym (rule_f_lem o s) ∙ h.same 5 s low high)))

-- ---- as a parent

block_number : (b p x : ℕ) (j : Block) → is_block b p x j ≡ true → (not (is_free j) && has_number b j) ≡ true
unfolding is_block
block_number b p x j u =
    let g = and_both (not (is_free j)) (has_number b j && (eqb j.parentslot.0 p && eqb j.parent x)) u in
    both_and (not (is_free j)) (has_number b j) g.0 (and_both (has_number b j) (eqb j.parentslot.0 p && eqb j.parent x) g.1).0

block_parent : (b p x : ℕ) (j : Block) → is_block b p x j ≡ true → (j.parentslot.0 ≡ p) × (j.parent ≡ x)
unfolding is_block
block_parent b p x j u =
    let g = and_both (not (is_free j)) (has_number b j && (eqb j.parentslot.0 p && eqb j.parent x)) u in
    let q = and_both (eqb j.parentslot.0 p) (eqb j.parent x) (and_both (has_number b j) (eqb j.parentslot.0 p && eqb j.parent x) g.1).1 in
    (eqb-true j.parentslot.0 p q.0, eqb-true j.parent x q.1)

-- A kept block that fits has its parent in a lower slot.
kept_below : (l : Ledger) (s : ℕ) (k : Block) → is_free k ≡ false → kept_fits l s k ≡ true → k.parentslot.0 < s
unfolding kept_fits bad_parent
kept_below l s k free fits =
    let g = sym (given_on (not (is_free k)) (none k.parentslot.0 && none k.parent) (λ _. not (none k.parent) && not (bad_parent l s k)) (ap not free)) ∙ fits in
    let b = not-true (bad_parent l s k) (and_both (not (none k.parent)) (not (bad_parent l s k)) g).1 in
    leb-false s k.parentslot.0 (or_none (leb s k.parentslot.0) (none k.parentslot.0 && not (eqb k.parent l.genesis)) b).0

-- Of two blocks of a list one passes a test that the other may not.
none_of_both : (q r : Block → Bool) (ks : List Block) → ((j : Block) → q j ≡ true → r j ≡ true → ⊥) → all_blocks q ks ≡ true → some_block r ks ≡ true → ⊥
unfolding all_blocks some_block
none_of_both q r [] f a e = true_not_false false e refl
none_of_both q r (k ∷ ks) f a e =
    let b = and_both (q k) (all_blocks q ks) a in
    or_cases (r k) (some_block r ks) e (λ t. f k b.0 t) (λ t. none_of_both q r ks f b.1 t)

-- Two places in order do not both keep block b.
not_twice : (c d : Block) (b p x : ℕ) → (not (is_free c) && has_number b c) ≡ true → in_order c.number d.number ≡ true → is_block b p x d ≡ true → ⊥
unfolding in_order is_block
not_twice c d b p x ec o ed =
    let n = eqb-true c.number b (and_both (not (is_free c)) (has_number b c) ec).1 in
    let g = and_both (not (is_free d)) (has_number b d && (eqb d.parentslot.0 p && eqb d.parent x)) ed in
    let m = eqb-true d.number b (and_both (has_number b d) (eqb d.parentslot.0 p && eqb d.parent x) g.1).0 in
    or_cases (none d.number) (not (none c.number) && not (eqb c.number d.number)) o
    (λ t. true_not_false (none d.number) t (not-true (is_free d) g.0))
    (λ t. eqb-false c.number d.number (not-true (eqb c.number d.number) (and_both (not (none c.number)) (not (eqb c.number d.number)) t).1) (n ∙ sym m))

-- The block that is found is the one that is kept, with its parent.
find_only : (b p x : ℕ) (ks : List Block) → blocks_apart ks ≡ true → some_block (is_block b p x) ks ≡ true
    → ((find_block b ks).parentslot.0 ≡ p) × ((find_block b ks).parent ≡ x)
unfolding blocks_apart some_block find_block
find_only b p x [] a e = true_not_false false e refl
find_only b p x (k ∷ ks) a e =
    let it : Bool = not (is_free k) && has_number b k in
    let order = and_both (all_blocks (λ j. in_order k.number j.number) ks) (blocks_apart ks) a in
    by_test it
    (λ t.
    let is : find_block b (k ∷ ks) ≡ k = choose_on it k (find_block b ks) t in
    or_cases (is_block b p x k) (some_block (is_block b p x) ks) e (λ u. let q = parts k u in (ap (λ (j : Block). j.parentslot.0) is ∙ q.0, ap (λ (j : Block). j.parent) is ∙ q.1))
    (λ u. absurd (none_of_both (λ j. in_order k.number j.number) (is_block b p x) ks (λ j m n. not_twice k j b p x t m n) order.0 u)))
    (λ t.
    let is : find_block b (k ∷ ks) ≡ find_block b ks = choose_off it k (find_block b ks) t in
    or_cases (is_block b p x k) (some_block (is_block b p x) ks) e (λ u. true_not_false it (whole k u) t)
    (λ u. let q = find_only b p x ks order.1 u in (ap (λ (j : Block). j.parentslot.0) is ∙ q.0, ap (λ (j : Block). j.parent) is ∙ q.1)))
  where
    whole : (j : Block) → is_block b p x j ≡ true → (not (is_free j) && has_number b j) ≡ true
    whole j u = block_number b p x j u

    parts : (j : Block) → is_block b p x j ≡ true → (j.parentslot.0 ≡ p) × (j.parent ≡ x)
    parts j u = block_parent b p x j u

pub parent_is_told : ParentIsTold
unfolding keeps_block blocks_fit
parent_is_told o h sound s p x low high pos e =
    let l : Ledger = o.ledger in
    let bs : List Block = blocks_at l s in
    let k : Block = find_block (row_at l s).final bs in
    let fits = and_both (all_blocks (kept_fits l s) bs) (blocks_apart bs) ((formed l sound.formed).rows s low high).blocks in
    let is = find_only (row_at l s).final p x bs fits.1 e in
    let q : ℕ = k.parentslot.0 in
    let ne : none q ≡ false = ne_eqb q 0 (λ z. omega (arith, is.0)) in
    let kept = find_all (kept_fits l s) (row_at l s).final bs fits.0 ne in
    let below : q < s = kept_below l s k kept.0 kept.1 in
    let on : (eqb q 0 || leb s q) ≡ false = (λ i. ne i || lt-leb s q below i) in
    let w = walk_to_lem o s low k refl sound high on in
    let told : State = tell_final o q k.parent in
    let stays : rule_g o s ≡ o = sym (rule_g_lem o s) ∙ h.same 6 s low high in
    let came = tell_comes o sound q w.low w.high k.parent w.number in
    let same : told ≡ o =
    by_test (eqb (row_at told.ledger q).final k.parent)
    (λ t.
    let goes = G-comes told came.sound q w.low w.high in
    let ends : rule_g told q ≡ o = sym (G-on o s low k refl on t) ∙ stays in
    came.still (omega (
      arith,
      ap made ends,
      ap (λ (rs : List Record). length rs) goes.grown,
      length-append goes.fresh told.records,
      ap (λ (rs : List Record). length rs) came.grown,
      length-append came.fresh o.records,
    )))
    (λ t. sym (G-stops o s low k refl on t) ∙ stays) in
    subst (λ (j : ℕ). IsTold l j x) is.0 (subst (λ (y : ℕ). IsTold l q y) is.1 (told_already o q k.parent same))
