-- The words that a table is laid into. Assumes nothing.
use mathlib.Core.Path.{◌≡◌, sym, ap, ◌∙◌}
use mathlib.Core.Bool.{true, ◌&&◌}
use mathlib.Core.List.{List, [], ◌∷◌, ◌++◌}
use Prim.Native.Nat.{ℕ, suc, ◌+◌, ◌≤◌}
use native.Mathlib.Omega.{arith}
use lib.ListN.{length, drop, length-append, length-drop}
use lib.Seq.{take-length}
use lib.Dec.{leb}
use borrow.Author.Tests.{leb-true}
use Rattle.rulebook.specs.Tools.{all_to}
use Rattle.rulebook.specs.Weights.{most_nodes, most_stake, count_fits, stake_in, total_to, stakes_fit}
use Rattle.rule_laws.proofs.ToolLaws.{and_both}
use Rattle.pieces.specs.State.{state_words, front_bytes, mark, with_table, Taking}

-- A table that fits has at most 2,048 nodes.
pub fits_few : (stakes : List ℕ) → stakes_fit stakes (length stakes) ≡ true → length stakes ≤ 2048
unfolding stakes_fit
fits_few stakes e =
    let n = length stakes in
    let x = and_both (count_fits n) (all_to n (λ k. leb 1 (stake_in stakes k)) && leb (total_to stakes n) most_stake) e in
    leb-true n most_nodes (and_both (leb 1 n) (leb n most_nodes) x.0).1

-- The words that a table leaves: the mark of a packet without bytes, the count, the stakes, and what stood past them.
pub table_words : (ws stakes : List ℕ) → 2 ≤ length ws → with_table ws stakes ≡ 1 ∷ length stakes ∷ (stakes ++ drop (2 + length stakes) ws)
unfolding with_table
table_words [] stakes h = absurd (omega arith)
table_words (a ∷ []) stakes h = absurd (omega arith)
table_words (a ∷ b ∷ ws) stakes h =
    let n = length stakes in
    let e : 2 + n ≡ suc (suc n) = omega arith in
    ap (λ (x : List ℕ). 1 ∷ n ∷ (x ++ drop (2 + n) (1 ∷ n ∷ ws))) (take-length stakes)
    ∙ ap (λ (k : ℕ). 1 ∷ n ∷ (stakes ++ drop k (1 ∷ n ∷ ws))) e
    ∙ ap (λ (k : ℕ). 1 ∷ n ∷ (stakes ++ drop k (a ∷ b ∷ ws))) (sym e)

pub table_taking : (ws bs stakes ws' : List ℕ) → length ws ≡ state_words → length bs ≡ front_bytes → length stakes ≤ 2048 → ws' ≡ with_table ws stakes → Taking ws' bs
table_taking ws bs stakes ws' h k l e =
    let q : ws' ≡ 1 ∷ length stakes ∷ (stakes ++ drop (2 + length stakes) ws) = e ∙ table_words ws stakes (omega arith) in
    let m : mark ws' ≡ 1 = ap mark q in
    record {
      words = ap length q ∙ omega (arith, length-append stakes (drop (2 + length stakes) ws), length-drop (2 + length stakes) ws);
      bytes = k;
      begun = omega arith;
      within = omega arith;
    }
