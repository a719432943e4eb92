-- Cells and blocks that pass the tests.
use mathlib.Core.Path.{subst}
use mathlib.Core.Bool.{not, ◌&&◌, ◌||◌}
use mathlib.Core.List.{List, [], ◌∷◌}
use Prim.Native.Nat.{ℕ}
use lib.Dec.{T, eqb, eqb→eq, T_not}
use Rattle.rulebook.specs.declared.Block.{Block}
use Rattle.rulebook.specs.declared.Cell.{Cell}
use Rattle.rulebook.specs.Ledger.{Ledger, none, is_free, has_number, is_block, some_block, all_blocks, keeps_block}
use Rattle.rulebook.specs.Pool.{has_fallback}
use Rattle.safety.specs.Slot.{Ballot, notar, notar_fallback, skip, skip_fallback, final}
use Rattle.safety.specs.Ballots.{has}
use Rattle.safety.proofs.Tests.{and_t, T_and, or_t}
use Rattle.safety.proofs.Cells.{notar_is, is_notar}
use Rattle.progress.specs.Rest.{is_final_vote}
use Rattle.progress_histories.specs.Tests.{within, kept_pass, as_kept}

-- What a place has is not none, where it is a block's.
not_none : {X : Type 0} (x b : ℕ) → T (not (none b)) → T (eqb x b) → T (none x) → X
not_none x b z e n = absurd (T_not (none b) z (subst (λ (y : ℕ). T (none y)) (eqb→eq x b e) n))

same_flag : (x y : ℕ) → T (none x || not (none y)) → T (not (none x)) → T (not (none y))
same_flag x y t u = or_t (none x) (not (none y)) t (λ z. absurd (T_not (none x) u z)) (λ z. z)

same_notar : (c d : Cell) (b : ℕ) → T (none c.notar || eqb d.notar c.notar) → T (has c (notar b)) → T (has d (notar b))
same_notar c d b t u =
    let h = notar_is c b u in
    is_notar d b h.0
    (or_t (none c.notar) (eqb d.notar c.notar) t (not_none c.notar b h.0 h.1) (λ z. subst (λ (y : ℕ). T (eqb d.notar y)) (eqb→eq c.notar b h.1) z))

same_fallback : (x b : ℕ) (d : Cell) → T (none x || has_fallback x d) → T (not (none b)) → T (eqb x b) → T (has_fallback b d)
same_fallback x b d t z e = or_t (none x) (has_fallback x d) t (not_none x b z e) (λ u. subst (λ (y : ℕ). T (has_fallback y d)) (eqb→eq x b e) u)

open_fallback : {X : Type 0} (c : Cell) (b : ℕ) → T (has_fallback b c) → (T (eqb c.fallback1 b) → X) → (T (eqb c.fallback2 b) → X) → (T (eqb c.fallback3 b) → X) → X
unfolding has_fallback
open_fallback c b t f g k =
    or_t (eqb c.fallback1 b) (eqb c.fallback2 b || eqb c.fallback3 b) t f (λ u. or_t (eqb c.fallback2 b) (eqb c.fallback3 b) u g k)

-- A cell that another is within has what the other has, finals aside.
pub within_has : (c d : Cell) (v : Ballot) → T (not (is_final_vote v)) → T (within c d) → T (has c v) → T (has d v)
unfolding within
within_has c d v nf t u =
    let notars = and_t (none c.notar || eqb d.notar c.notar) _ t in
    let skips = and_t (none c.skip || not (none d.skip)) _ notars.1 in
    let first = and_t (none c.fallback1 || has_fallback c.fallback1 d) _ skips.1 in
    let second = and_t (none c.fallback2 || has_fallback c.fallback2 d) _ first.1 in
    let third = and_t (none c.fallback3 || has_fallback c.fallback3 d) (none c.skipfallback || not (none d.skipfallback)) second.1 in
    cases v nf notars.0 skips.0 first.0 second.0 third.0 third.1 u
  where
    cases : (v : Ballot) → T (not (is_final_vote v)) → T (none c.notar || eqb d.notar c.notar) → T (none c.skip || not (none d.skip))
        → T (none c.fallback1 || has_fallback c.fallback1 d) → T (none c.fallback2 || has_fallback c.fallback2 d)
        → T (none c.fallback3 || has_fallback c.fallback3 d) → T (none c.skipfallback || not (none d.skipfallback)) → T (has c v) → T (has d v)
    cases (notar b) nf a s t1 t2 t3 e u = same_notar c d b a u
    cases (notar_fallback b) nf a s t1 t2 t3 e u =
        let h = and_t (not (none b)) (has_fallback b c) u in
        T_and (not (none b)) (has_fallback b d) h.0
        (open_fallback c b h.1 (same_fallback c.fallback1 b d t1 h.0) (same_fallback c.fallback2 b d t2 h.0) (same_fallback c.fallback3 b d t3 h.0))
    cases skip nf a s t1 t2 t3 e u = same_flag c.skip d.skip s u
    cases skip_fallback nf a s t1 t2 t3 e u = same_flag c.skipfallback d.skipfallback e u
    cases final nf a s t1 t2 t3 e u = absurd nf

-- A block whose number and parent are another's is kept where the other is.
as_block : (l : Ledger) (s b q x : ℕ) (k : Block) → T (is_block b q x k) → T (is_free k || (not (has_number b k) || as_kept l s k)) → T (keeps_block l s b q x)
unfolding is_block
as_block l s b q x k t u =
    let a = and_t (not (is_free k)) (has_number b k && (eqb k.parentslot.0 q && eqb k.parent x)) t in
    let c = and_t (has_number b k) (eqb k.parentslot.0 q && eqb k.parent x) a.1 in
    let d = and_t (eqb k.parentslot.0 q) (eqb k.parent x) c.1 in
    or_t (is_free k) (not (has_number b k) || as_kept l s k) u (λ z. absurd (T_not (is_free k) a.0 z))
    (λ z. or_t (not (has_number b k)) (as_kept l s k) z (λ w. absurd (T_not (has_number b k) w c.0))
    (λ w. rw (eqb→eq k.number b c.0, eqb→eq k.parentslot.0 q d.0, eqb→eq k.parent x d.1) at w))

-- Where all that a node keeps of block b is kept at l with its parent, so is b.
pub kept_passes : (l : Ledger) (s b q x : ℕ) (ks : List Block) → T (kept_pass (as_kept l s) b ks) → T (some_block (is_block b q x) ks) → T (keeps_block l s b q x)
unfolding kept_pass all_blocks some_block
kept_passes l s b q x [] t u = absurd u
kept_passes l s b q x (k ∷ ks) t u =
    let a = and_t (is_free k || (not (has_number b k) || as_kept l s k)) _ t in
    or_t (is_block b q x k) (some_block (is_block b q x) ks) u (λ z. as_block l s b q x k z a.0) (λ z. kept_passes l s b q x ks a.1 z)
