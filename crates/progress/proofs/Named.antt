-- The blocks that a pool names: a vote's block is among them, and no block weighs more than rule E's largest.
use mathlib.Core.Path.{◌≡◌, refl, sym}
use mathlib.Core.Bool.{Bool, false, not, ◌||◌}
use mathlib.Core.List.{List, [], ◌∷◌}
use Prim.Native.Nat.{ℕ, zero, suc, ◌+◌, ◌*◌, ◌≤◌, ◌<◌}
use native.Mathlib.Omega.{arith}
use native.Mathlib.Decide.{ℕ_discrete}
use lib.Dec.{T, eqb, eqb→eq}
use Rattle.rulebook.specs.declared.Cell.{Cell}
use Rattle.rulebook.specs.Tools.{any_of, largest}
use Rattle.rulebook.specs.Ledger.{Ledger, none, cell_at, certificates_at}
use Rattle.rulebook.specs.Pool.{has_fallback, named, names_to, names, certifiable}
use Rattle.rule_laws.proofs.ToolLaws.{or_none, true_not_false}
use Rattle.rule_laws.proofs.LowestLaws.{Among, ZeroFree, among_named, among_name}
use Rattle.rule_laws.proofs.CertificateLaws.{kept_beside}
use Rattle.safety.specs.Slot.{notar, notar_fallback}
use Rattle.safety.specs.Ballots.{has}
use Rattle.safety.proofs.Tests.{T_true, true_t, not_false, and_t, or_t, T-left, T-right}
use Rattle.safety.proofs.Cells.{notar_is, some_block_lem}

-- Where a block of a list passes, some does.
pub among_any : (p : ℕ → Bool) (b : ℕ) (bs : List ℕ) → Among b bs → T (p b) → T (any_of p bs)
unfolding any_of
among_any p b [] h t = true_not_false false h refl
among_any p b (c ∷ cs) h t =
    or_t (eqb b c) (any_of (eqb b) cs) (true_t (eqb b c || any_of (eqb b) cs) h)
    (λ e. T-left (p c) (any_of p cs) (rw (eqb→eq b c e) at t))
    (λ e. T-right (p c) (any_of p cs) (among_any p b cs (T_true (any_of (eqb b) cs) e) t))

-- ---- a vote's block is named

name_first : (x b : ℕ) (bs : List ℕ) → T (not (none b)) → T (eqb x b) → Among b (named x bs)
name_first x b bs h e = among_name b x bs (sym (eqb→eq x b e)) (not_false (none x) (some_block_lem x b h e))

cell_names : (c : Cell) (b : ℕ) (bs : List ℕ) → T (has c (notar b) || has c (notar_fallback b))
    → Among b (named c.notar (named c.fallback1 (named c.fallback2 (named c.fallback3 bs))))
unfolding has_fallback
cell_names c b bs t =
    let last = named c.fallback3 bs in
    let later = named c.fallback2 last in
    or_t (has c (notar b)) (has c (notar_fallback b)) t
    (λ x. let h = notar_is c b x in name_first c.notar b (named c.fallback1 later) h.0 h.1)
    (λ x. let h = and_t (not (none b)) (eqb c.fallback1 b || (eqb c.fallback2 b || eqb c.fallback3 b)) x in
    among_named b c.notar (named c.fallback1 later)
    (or_t (eqb c.fallback1 b) (eqb c.fallback2 b || eqb c.fallback3 b) h.1
    (λ y. name_first c.fallback1 b later h.0 y)
    (λ y. among_named b c.fallback1 later
    (or_t (eqb c.fallback2 b) (eqb c.fallback3 b) y
    (λ z. name_first c.fallback2 b last h.0 z)
    (λ z. among_named b c.fallback2 last (name_first c.fallback3 b bs h.0 z))))))

names_to_lem : (l : Ledger) (s n b k : ℕ) → n < k → T (has (cell_at l s n) (notar b) || has (cell_at l s n) (notar_fallback b)) → Among b (names_to l s k)
unfolding names_to
names_to_lem l s n b zero h t = absurd (omega arith)
names_to_lem l s n b (suc k) h t =
    let c = cell_at l s k in
    elim (ℕ_discrete n k) [
      | yes e ↦ cell_names c b (names_to l s k) (rw e at t)
      | no ne ↦ among_named b c.notar _ (among_named b c.fallback1 _ (among_named b c.fallback2 _ (among_named b c.fallback3 _
          (names_to_lem l s n b k (omega arith) t))))
    ]

-- By a vote in the table, among all that a certificate can be for.
pub vote_certifiable : (l : Ledger) (s n b : ℕ) → n < l.count → T (has (cell_at l s n) (notar b) || has (cell_at l s n) (notar_fallback b)) → Among b (certifiable l s)
unfolding certifiable names
vote_certifiable l s n b h t = kept_beside (certificates_at l s) (names_to l s l.count) b (names_to_lem l s n b l.count h t)

-- ---- the largest

-- Where every block leaves room, the largest does.
pub largest_room : (f : ℕ → ℕ) (bs : List ℕ) (c d : ℕ) → ZeroFree bs → c ≤ d → ((b : ℕ) → 1 ≤ b → 5 * f b + c ≤ d) → 5 * largest f bs + c ≤ d
unfolding largest any_of
largest_room f [] c d z h g = omega arith
largest_room f (b ∷ bs) c d z h g =
    let n = or_none (eqb 0 b) (any_of (eqb 0) bs) z in
    omega (arith, g b (positive b n.0), largest_room f bs c d n.1 h g)
  where
    positive : (b : ℕ) → eqb 0 b ≡ false → 1 ≤ b
    positive zero e = true_not_false (eqb 0 0) refl e
    positive (suc b) e = omega arith
