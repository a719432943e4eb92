-- What stands behind a vote where rule B or D casts it, and behind a final block that F or the walk reports.
use mathlib.Core.Path.{◌≡◌, sym, subst}
use mathlib.Core.Bool.{Bool, true, false, not, ◌&&◌}
use mathlib.Core.List.{List, [], ◌∷◌}
use Prim.Native.Nat.{ℕ, zero, suc, ◌+◌, ◌-◌, ◌≤◌, ◌<◌}
use native.Mathlib.Omega.{arith}
use lib.ListN.{get_or}
use lib.Dec.{T, eqb, eqb→eq, eqb_refl, T_not}
use Rattle.rulebook.specs.declared.Cell.{Cell}
use Rattle.rulebook.specs.declared.Block.{Block}
use Rattle.rulebook.specs.declared.CertificateKind.{CertificateKind}
use Rattle.rulebook.specs.declared.CertificateKind.TheVariants as certificate
use Rattle.rulebook.specs.Tools.{all_to}
use Rattle.rulebook.specs.Weights.{weight, reaches, d_weights, is_first}
use Rattle.rulebook.specs.Ledger.{Ledger, none, no_block, cell_at, own_cell, blocks_at, first_block, some_block, is_free, has_number, is_block, keeps_block, certificates_at, kept_at, is_kept}
use Rattle.rulebook.specs.Certificates.{Kept}
use Rattle.rulebook.specs.Pool.{has_fallback, counts, weigh, weighs, signers_of, fifths_of, reached, place_kind, serves_as, some_kept, is_for, kept_as, held, parent_held, skipped_between, ready}
use Rattle.rulebook.specs.Checker.{is_other_kind, block_misfits}
use Rattle.rulebook.specs.Rules.{parent_fits, fallback_weights, parent_backed, is_backed, is_grounded, is_final, find_block}
use Rattle.rule_laws.proofs.ToolLaws.{all_at}
use Rattle.rule_laws.proofs.BlockLaws.{find_kept_lem}
use Rattle.rule_laws.proofs.CertificateLaws.{some_place, serves_on}
use Rattle.safety.specs.Slot.{notar, notar_fallback, skip}
use Rattle.safety.specs.Ballots.{has}
use Rattle.safety.specs.Grounds.{signs, weight_of, Held, by_votes, by_kept, BackedAt, ReadyParent, HeldParent, NotarGrounds, FinalIn, fast, slow}
use Rattle.safety.proofs.Tests.{T_true, true_t, not_false, and_t, T_and, or_t, T-left, T-right}
use Rattle.safety.proofs.Weighing.{reaches_more, reaches_less, weights_more, weight_mono}
use Rattle.safety.proofs.Cells.{is_notar}
use Rattle.safety.proofs.Guards.{given_t}

-- ---- kept blocks

-- A block of which the test holds, and every test that holds of it holds of some.
pub some_block_at : (p : Block → Bool) (ks : List Block) → T (some_block p ks)
    → (k : Block) × T (p k) × ((q : Block → Bool) → T (q k) → T (some_block q ks))
unfolding some_block
some_block_at p [] t = absurd t
some_block_at p (k ∷ ks) t =
    or_t (p k) (some_block p ks) t
    (λ u. (k, u, λ q w. T-left (q k) (some_block q ks) w))
    (λ u. let h = some_block_at p ks u in (h.0, h.1, λ q w. T-right (q k) (some_block q ks) (h.2 q w)))

-- A kept block is kept with its own parent.
pub is_block_lem : (k : Block) (b : ℕ) → T (not (is_free k)) → T (has_number b k) → T (is_block b k.parentslot.0 k.parent k)
unfolding is_block
is_block_lem k b h e =
    T_and (not (is_free k)) (has_number b k && (eqb k.parentslot.0 k.parentslot.0 && eqb k.parent k.parent)) h
    (T_and (has_number b k) (eqb k.parentslot.0 k.parentslot.0 && eqb k.parent k.parent) e
    (T_and (eqb k.parentslot.0 k.parentslot.0) (eqb k.parent k.parent) (eqb_refl k.parentslot.0) (eqb_refl k.parent)))

-- A kept block has a number.
pub kept_number : (l : Ledger) (s b p x : ℕ) → T (keeps_block l s b p x) → T (not (none b))
unfolding keeps_block is_block
kept_number l s b p x t =
    let h = some_block_at (is_block b p x) (blocks_at l s) t in
    let k = h.0 in
    let a = and_t (not (is_free k)) (has_number b k && (eqb k.parentslot.0 p && eqb k.parent x)) h.1 in
    subst (λ (n : ℕ). T (not (none n))) (eqb→eq k.number b (and_t (has_number b k) _ a.1).0) a.0

-- ---- held

counts_signs : (k : CertificateKind) (b : ℕ) (c : Cell) → T (not (is_other_kind k)) → T (not (block_misfits k b)) → T (counts (signers_of k b) c) → T (signs k b c)
unfolding is_other_kind block_misfits counts signers_of
counts_signs certificate.FastFinal b c z m t = T-left (has c (notar b)) (has c (notar b)) (is_notar c b m t)
counts_signs certificate.Notar b c z m t = T-left (has c (notar b)) (has c (notar b)) (is_notar c b m t)
counts_signs certificate.NotarFallback b c z m t =
    or_t (eqb c.notar b) (has_fallback b c) t
    (λ u. T-left (has c (notar b)) (has c (notar_fallback b)) (is_notar c b m u))
    (λ u. T-right (has c (notar b)) (has c (notar_fallback b)) (T_and (not (none b)) (has_fallback b c) m u))
counts_signs certificate.Skip b c z m t = t
counts_signs certificate.Final b c z m t = T-left (not (none c.finalvote)) (not (none c.finalvote)) t
counts_signs certificate.Other b c z m t = absurd z

-- A first block that is there is one of the blocks.
first_some : (bs : List Block) → T (not (none (get_or bs 0 no_block).number))
    → T (some_block (is_block (get_or bs 0 no_block).number (get_or bs 0 no_block).parentslot.0 (get_or bs 0 no_block).parent) bs)
unfolding some_block
first_some [] h = absurd h
first_some (k ∷ ks) h =
    T-left (is_block k.number k.parentslot.0 k.parent k) (some_block (is_block k.number k.parentslot.0 k.parent) ks)
    (is_block_lem k k.number h (eqb_refl k.number))

module _ (l : Ledger) where
  pub held_held : (k : CertificateKind) (s b : ℕ) → T (not (is_other_kind k)) → T (not (block_misfits k b)) → T (held l k s b) → Held l k s b
  unfolding held reached kept_as is_for weighs weigh
  held_held k s b z m t =
      or_t (reached l k s b) (kept_as l k s b) t
      (λ u. by_votes (reaches_more (fifths_of k) l.total (weight l.stakes l.count (λ n. counts (signers_of k b) (cell_at l s n))) (weight l.stakes l.count (λ n. signs k b (cell_at l s n)))
      (weight_mono l.stakes l.count (λ n. counts (signers_of k b) (cell_at l s n)) (λ n. signs k b (cell_at l s n)) (λ n. counts_signs k b (cell_at l s n) z m)) u))
      (λ u.
      let p : ℕ → Kept → Bool = λ i q. serves_as (place_kind i) k && eqb q.block b in
      let r = some_place p 0 (certificates_at l s) (T_true (some_kept p 0 (certificates_at l s)) u) in
      let i = r.0 in
      let a = and_t (serves_as (place_kind i) k) (eqb (kept_at l s i).block b) (true_t (p i (kept_at l s i)) (subst (λ (j : ℕ). p j (kept_at l s i) ≡ true) (omega arith) r.2)) in
      by_kept i (true_t (is_kept (kept_at l s i)) r.1) a.0 (eqb→eq (kept_at l s i).block b a.1))

  -- A held kind 2 counts as 3.
  two_three : (s b : ℕ) → Held l certificate.Notar s b → Held l certificate.NotarFallback s b
  unfolding fifths_of
  two_three s b (by_votes t) =
      by_votes (reaches_more 3 l.total (weight l.stakes l.count (λ n. signs certificate.Notar b (cell_at l s n))) (weight l.stakes l.count (λ n. signs certificate.NotarFallback b (cell_at l s n)))
      (weight_mono l.stakes l.count (λ n. signs certificate.Notar b (cell_at l s n)) (λ n. signs certificate.NotarFallback b (cell_at l s n))
      (λ n u. or_t (has (cell_at l s n) (notar b)) (has (cell_at l s n) (notar b)) u
      (λ w. T-left (has (cell_at l s n) (notar b)) (has (cell_at l s n) (notar_fallback b)) w) (λ w. T-left (has (cell_at l s n) (notar b)) (has (cell_at l s n) (notar_fallback b)) w))) t)
  two_three s b (by_kept i t u e) =
      by_kept i t (true_t (serves_as (place_kind i) certificate.NotarFallback) (serves_on (place_kind i) (T_true (serves_as (place_kind i) certificate.Notar) u))) e

  backed_at_lem : (p x : ℕ) → T (not (none x)) → T (parent_held l p x) → BackedAt l p x
  unfolding parent_held is_other_kind block_misfits
  backed_at_lem zero x nx t = eqb→eq x l.genesis t
  backed_at_lem (suc p) x nx t =
      or_t (held l certificate.Notar (suc p) x) (held l certificate.NotarFallback (suc p) x) t
      (λ u. two_three (suc p) x (held_held certificate.Notar (suc p) x tt nx u))
      (λ u. held_held certificate.NotarFallback (suc p) x tt nx u)

  -- ---- rule B

  first_kept : (s : ℕ) → T (not (none (first_block l s).number)) → T (keeps_block l s (first_block l s).number (first_block l s).parentslot.0 (first_block l s).parent)
  unfolding keeps_block
  first_kept s h = first_some (blocks_at l s) h

  ready_parent_lem : (s b p x : ℕ) → T (keeps_block l s b p x) → T (not (none x)) → T (ready l s p x) → ReadyParent l s b
  unfolding ready skipped_between is_other_kind block_misfits
  ready_parent_lem s b p x kp nx t =
      let a = given_t _ _ t in
      let c = given_t _ _ a.1 in
      record {
        slot = p;
        parent = x;
        kept = kp;
        backed = backed_at_lem p x nx c.0;
        between = λ u y z.
            let e : suc p + (u - suc p) ≡ u = omega arith in
            held_held certificate.Skip u 0 tt tt (subst (λ (j : ℕ). T (held l certificate.Skip j 0)) e
            (true_t (held l certificate.Skip (suc p + (u - suc p)) 0)
            (all_at (s - suc p) (u - suc p) (λ i. held l certificate.Skip (suc p + i) 0) (T_true (all_to (s - suc p) (λ i. held l certificate.Skip (suc p + i) 0)) c.1) (omega arith))));
      }

  pub kept_grounds : (me : ℕ) → ((s : ℕ) → own_cell l s ≡ cell_at l s me) → ((s b p x : ℕ) → T (keeps_block l s b p x) → (p < s) × T (not (none x)))
      → (s : ℕ) (k : Block) → T (keeps_block l s k.number k.parentslot.0 k.parent) → T (parent_fits l s (is_first s) k) → NotarGrounds me l s k.number
  unfolding parent_fits
  kept_grounds me mine ok s k kp t =
      let g = ok s k.number k.parentslot.0 k.parent kp in
      record {
        first = λ f. ready_parent_lem s k.number k.parentslot.0 k.parent kp g.1 (as_first (is_first s) f t);
        next = λ f. let a = and_t (eqb k.parentslot.0 (s - 1)) (eqb (own_cell l (s - 1)).notar k.parent) (as_next (is_first s) f t) in
            let e = eqb→eq k.parentslot.0 (s - 1) a.0 in
            record {
              slot = k.parentslot.0;
              parent = k.parent;
              kept = kp;
              before = omega (arith, e, g.0);
              voted = is_notar (cell_at l k.parentslot.0 me) k.parent g.1
                  (subst (λ (j : ℕ). T (eqb (cell_at l j me).notar k.parent)) (sym e) (rw (mine (s - 1)) at a.1));
            };
      }
    where
      as_first : (f : Bool) → T f → T (parent_fits l s f k) → T (ready l s k.parentslot.0 k.parent)
      as_first true x y = y
      as_first false x y = absurd x

      as_next : (f : Bool) → T (not f) → T (parent_fits l s f k) → T (eqb k.parentslot.0 (s - 1) && eqb (own_cell l (s - 1)).notar k.parent)
      as_next true x y = absurd x
      as_next false x y = y

  pub notar_grounds : (me : ℕ) → ((s : ℕ) → own_cell l s ≡ cell_at l s me) → ((s b p x : ℕ) → T (keeps_block l s b p x) → (p < s) × T (not (none x)))
      → (s : ℕ) → T (not (none (first_block l s).number)) → T (parent_fits l s (is_first s) (first_block l s)) → NotarGrounds me l s (first_block l s).number
  notar_grounds me mine ok s h t = kept_grounds me mine ok s (first_block l s) (first_kept s h) t

  -- ---- rule D

  pub fallback_seen_lem : (s b : ℕ) → T (not (none b)) → T (fallback_weights l s b) → T (reaches 1 l.total (weight l.stakes l.count (λ n. has (cell_at l s n) (notar b))))
  unfolding fallback_weights weigh counts
  fallback_seen_lem s b h t =
      let w = weight l.stakes l.count (λ n. eqb (cell_at l s n).notar b) in
      let y = weight l.stakes l.count (λ n. not (none (cell_at l s n).skip)) in
      let up : T (reaches 1 l.total w) → T (reaches 1 l.total (weight l.stakes l.count (λ n. has (cell_at l s n) (notar b)))) =
      λ u. reaches_more 1 l.total w (weight l.stakes l.count (λ n. has (cell_at l s n) (notar b)))
      (weight_mono l.stakes l.count (λ n. eqb (cell_at l s n).notar b) (λ n. has (cell_at l s n) (notar b)) (λ n. is_notar (cell_at l s n) b h)) u
      in
      or_t (reaches 2 l.total w) (reaches 1 l.total w && reaches 3 l.total (y + w)) t
      (λ u. up (reaches_less 1 2 l.total w (omega arith) u))
      (λ u. up (and_t (reaches 1 l.total w) (reaches 3 l.total (y + w)) u).0)

  -- Rule D's weights over cells are its weights over ballots.
  pub fallback_weights_lem : (s b : ℕ) → T (not (none b)) → T (fallback_weights l s b) → T (d_weights l.total (weight_of l s (notar b)) (weight_of l s skip))
  unfolding fallback_weights weigh counts
  fallback_weights_lem s b h t =
      let x = weight l.stakes l.count (λ n. eqb (cell_at l s n).notar b) in
      let y = weight_of l s skip in
      let z = weight_of l s (notar b) in
      let g : x ≤ z = weight_mono l.stakes l.count (λ n. eqb (cell_at l s n).notar b) (λ n. has (cell_at l s n) (notar b)) (λ n. is_notar (cell_at l s n) b h) in
      weights_more l.total x y z y g (omega arith) t

  -- What D waited for: the block is kept, and its parent holds kind 3.
  pub fallback_parent : ((s b p x : ℕ) → T (keeps_block l s b p x) → (p < s) × T (not (none x))) → (s b : ℕ) → T (is_grounded l s b) → T (not (is_first s)) → HeldParent l s b
  unfolding is_grounded is_backed parent_backed keeps_block is_other_kind block_misfits
  fallback_parent ok s b t nf =
      or_t (is_first s) (some_block (is_backed l s b) (blocks_at l s)) t (λ u. absurd (T_not (is_first s) nf u))
      (λ u. let h = some_block_at (is_backed l s b) (blocks_at l s) u in
      let k = h.0 in
      let a = given_t _ _ h.1 in
      let c = and_t (not (is_free k)) (has_number b k) a.0 in
      let kp : T (keeps_block l s b k.parentslot.0 k.parent) = h.2 (is_block b k.parentslot.0 k.parent) (is_block_lem k b c.0 c.1) in
      let g = ok s b k.parentslot.0 k.parent kp in
      record { slot = k.parentslot.0; parent = k.parent; kept = kp; backed = held_held certificate.NotarFallback k.parentslot.0 k.parent tt g.1 (given_t _ _ a.1).1 })

  -- ---- rule F and the walk

  pub certified_final : (s b : ℕ) → T (not (none b)) → T (is_final l s b) → FinalIn l s b
  unfolding is_final is_other_kind block_misfits
  certified_final s b nb t =
      or_t (held l certificate.FastFinal s b) (held l certificate.Notar s b && held l certificate.Final s 0) t
      (λ u. fast (held_held certificate.FastFinal s b tt nb u))
      (λ u. let a = and_t (held l certificate.Notar s b) (held l certificate.Final s 0) u in
      slow (held_held certificate.Notar s b tt nb a.0) (held_held certificate.Final s 0 tt tt a.1))

  -- A block that is found with its parent is kept with it.
  pub found_kept : (s b : ℕ) → T (not (none (find_block b (blocks_at l s)).parentslot.0))
      → T (keeps_block l s b (find_block b (blocks_at l s)).parentslot.0 (find_block b (blocks_at l s)).parent)
  unfolding keeps_block
  found_kept s b t =
      true_t (some_block (is_block b (find_block b (blocks_at l s)).parentslot.0 (find_block b (blocks_at l s)).parent) (blocks_at l s))
      (find_kept_lem b (blocks_at l s) (not_false (none (find_block b (blocks_at l s)).parentslot.0) t))
