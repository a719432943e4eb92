-- What stands behind votes and final blocks stays as a ledger grows.
use mathlib.Core.Path.{◌≡◌, refl, sym, ap, ◌∙◌, subst}
use mathlib.Core.Bool.{◌||◌}
use mathlib.Core.List.{List}
use Prim.Native.Nat.{ℕ, zero, suc, ◌≤◌}
use lib.ListN.{get_or}
use lib.Dec.{T}
use Rattle.rulebook.specs.declared.CertificateKind.{CertificateKind}
use Rattle.rulebook.specs.declared.CertificateKind.TheVariants as certificate
use Rattle.rulebook.specs.Weights.{weight, reaches, d_weights}
use Rattle.rulebook.specs.Ledger.{Ledger, no_kept, row_at, cell_at, keeps_block, kept_at, is_kept}
use Rattle.rulebook.specs.Certificates as found
use Rattle.rulebook.specs.Pool.{fifths_of}
use Rattle.rulebook.specs.Rules.{Record}
use Rattle.safety.specs.Slot.{Ballot, notar, notar_fallback, skip, skip_fallback, final}
use Rattle.safety.specs.Ballots.{has}
use Rattle.safety.specs.Ring.{ballot_a, ballot_b}
use Rattle.safety.specs.Grounds.{weight_of, Held, by_votes, by_kept, BackedAt, Grounds, FinalIn, fast, slow, ancestor, ClashIn, Behind}
use Rattle.safety.specs.Moves.{SameTable, SameRest}
use Rattle.safety.proofs.Tests.{or_t, T-left, T-right}
use Rattle.safety.proofs.Weighing.{reaches_more, weights_more, weight_mono}
use Rattle.safety.proofs.Cells.{Kept, kept_same, kept_trans, kept_has, kept_not_for, notar_present}

-- All that was there stays: cells, kept blocks and kept certificates only grow.
pub record Grow (l m : Ledger) : Type 0 where
  pub cells : (s n : ℕ) → Kept (cell_at l s n) (cell_at m s n)
  pub blocks : (s b p x : ℕ) → T (keeps_block l s b p x) → T (keeps_block m s b p x)
  pub certificates : (s j : ℕ) → T (is_kept (kept_at l s j)) → kept_at m s j ≡ kept_at l s j

pub grow_same : (l : Ledger) → Grow l l
grow_same l = record { cells = λ s n. kept_same (cell_at l s n); blocks = λ s b p x t. t; certificates = λ s j t. refl }

-- What equals a place that keeps a certificate keeps it.
pub kept_still : (q r : found.Kept) → r ≡ q → T (is_kept q) → T (is_kept r)
kept_still q r e t = subst (λ (x : found.Kept). T (is_kept x)) (sym e) t

pub grow_trans : (k l m : Ledger) → Grow k l → Grow l m → Grow k m
grow_trans k l m f g =
    record {
      cells = λ s n. kept_trans (cell_at k s n) (cell_at l s n) (cell_at m s n) (f.cells s n) (g.cells s n);
      blocks = λ s b p x t. g.blocks s b p x (f.blocks s b p x t);
      certificates = λ s j t. let e = f.certificates s j t in g.certificates s j (kept_still (kept_at k s j) (kept_at l s j) e t) ∙ e;
    }

-- A row that stays but for its cells keeps the same blocks and certificates.
module _ (l m : Ledger) (rest : (s : ℕ) → SameRest (row_at l s) (row_at m s)) where
  pub rest_blocks : (s b p x : ℕ) → T (keeps_block l s b p x) → T (keeps_block m s b p x)
  unfolding keeps_block
  rest_blocks s b p x t = rw (rest s).blocks t

  pub rest_blocks_back : (s b p x : ℕ) → T (keeps_block m s b p x) → T (keeps_block l s b p x)
  unfolding keeps_block
  rest_blocks_back s b p x t = rw (rest s).blocks at t

  pub rest_kept : (s j : ℕ) → kept_at m s j ≡ kept_at l s j
  rest_kept s j = ap (λ (qs : List found.Kept). get_or qs j no_kept) (rest s).certificates

module _ (l m : Ledger) (table : SameTable l m) (grow : Grow l m) where
  pub weight_grow : (k s : ℕ) (p : Ballot) (q : Ballot)
      → T (reaches k l.total (weight l.stakes l.count (λ n. has (cell_at l s n) p || has (cell_at l s n) q)))
      → T (reaches k m.total (weight m.stakes m.count (λ n. has (cell_at m s n) p || has (cell_at m s n) q)))
  weight_grow k s p q t =
      rw (table.total, table.stakes, table.count)
      (reaches_more k l.total (weight l.stakes l.count (λ n. has (cell_at l s n) p || has (cell_at l s n) q)) (weight l.stakes l.count (λ n. has (cell_at m s n) p || has (cell_at m s n) q))
      (weight_mono l.stakes l.count (λ n. has (cell_at l s n) p || has (cell_at l s n) q) (λ n. has (cell_at m s n) p || has (cell_at m s n) q)
      (λ n u. or_t (has (cell_at l s n) p) (has (cell_at l s n) q) u
      (λ w. T-left (has (cell_at m s n) p) (has (cell_at m s n) q) (kept_has (cell_at l s n) (cell_at m s n) p (grow.cells s n) w))
      (λ w. T-right (has (cell_at m s n) p) (has (cell_at m s n) q) (kept_has (cell_at l s n) (cell_at m s n) q (grow.cells s n) w))))
      t)

  pub seen_grow : (k s : ℕ) (p : Ballot) → T (reaches k l.total (weight l.stakes l.count (λ n. has (cell_at l s n) p)))
      → T (reaches k m.total (weight m.stakes m.count (λ n. has (cell_at m s n) p)))
  seen_grow k s p t =
      rw (table.total, table.stakes, table.count)
      (reaches_more k l.total (weight l.stakes l.count (λ n. has (cell_at l s n) p)) (weight l.stakes l.count (λ n. has (cell_at m s n) p))
      (weight_mono l.stakes l.count (λ n. has (cell_at l s n) p) (λ n. has (cell_at m s n) p)
      (λ n u. kept_has (cell_at l s n) (cell_at m s n) p (grow.cells s n) u))
      t)

  -- A ballot's weight only grows.
  ballot_grow : (s : ℕ) (p : Ballot) → weight_of l s p ≤ weight_of m s p
  ballot_grow s p =
      rw (table.stakes, table.count) (weight_mono l.stakes l.count (λ n. has (cell_at l s n) p) (λ n. has (cell_at m s n) p)
      (λ n u. kept_has (cell_at l s n) (cell_at m s n) p (grow.cells s n) u))

  -- Rule D's weights stay.
  pub weights_grow : (s b : ℕ) → T (d_weights l.total (weight_of l s (notar b)) (weight_of l s skip)) → T (d_weights m.total (weight_of m s (notar b)) (weight_of m s skip))
  weights_grow s b t =
      let x = weight_of l s (notar b) in
      let y = weight_of l s skip in
      let x' = weight_of m s (notar b) in
      let y' = weight_of m s skip in
      let gx : x ≤ x' = ballot_grow s (notar b) in
      let gy : y ≤ y' = ballot_grow s skip in
      subst (λ (z : ℕ). T (d_weights z x' y')) (sym table.total) (weights_more l.total x y x' y' gx gy t)

  pub held_grow : (k : CertificateKind) (s b : ℕ) → Held l k s b → Held m k s b
  held_grow k s b (by_votes t) = by_votes (weight_grow (fifths_of k) s (ballot_a k b) (ballot_b k b) t)
  held_grow k s b (by_kept j t u e) =
      let q = grow.certificates s j t in
      by_kept j (kept_still (kept_at l s j) (kept_at m s j) q t) u (ap (λ (x : found.Kept). x.block) q ∙ e)

  backed_grow : (p x : ℕ) → BackedAt l p x → BackedAt m p x
  backed_grow zero x e = rw table.genesis e
  backed_grow (suc p) x h = held_grow _ (suc p) x h

  pub grounds_grow : (me s : ℕ) (v : Ballot) → Grounds me l s v → Grounds me m s v
  grounds_grow me s (notar b) g =
      record {
        first = λ t. let f = g.first t in
            record {
              slot = f.slot;
              parent = f.parent;
              kept = grow.blocks s b f.slot f.parent f.kept;
              backed = backed_grow f.slot f.parent f.backed;
              between = λ u x y. held_grow _ u 0 (f.between u x y);
            };
        next = λ t. let f = g.next t in
            record {
              slot = f.slot;
              parent = f.parent;
              kept = grow.blocks s b f.slot f.parent f.kept;
              before = f.before;
              voted = kept_has (cell_at l f.slot me) (cell_at m f.slot me) (notar f.parent) (grow.cells f.slot me) f.voted;
            };
      }
  grounds_grow me s (notar_fallback b) g =
      record {
        before = kept_not_for b (cell_at l s me) (cell_at m s me) (grow.cells s me) g.before;
        seen = seen_grow 1 s (notar b) g.seen;
        weights = weights_grow s b g.weights;
        next = λ t. let f = g.next t in
            record {
              slot = f.slot;
              parent = f.parent;
              kept = grow.blocks s b f.slot f.parent f.kept;
              backed = held_grow _ f.slot f.parent f.backed;
            };
      }
  grounds_grow me s skip g = tt
  grounds_grow me s skip_fallback g = rw ((grow.cells s me).initial (notar_present (cell_at l s me) g)).0 g
  grounds_grow me s final g = tt

  pub final_grow : (s b : ℕ) → FinalIn l s b → FinalIn m s b
  final_grow s b (fast h) = fast (held_grow certificate.FastFinal s b h)
  final_grow s b (slow h f) = slow (held_grow certificate.Notar s b h) (held_grow certificate.Final s 0 f)
  final_grow s b (ancestor {s = t} {b = c} k i) = ancestor (final_grow t c k) (grow.blocks t c s b i)

  clash_grow : (s b : ℕ) → ClashIn l s b → ClashIn m s b
  clash_grow s b c =
      record { other = c.other; differs = c.differs; old = final_grow s c.other c.old; newcomer = final_grow s b c.newcomer }

  pub behind_grow : (r : Record) → Behind l r → Behind m r
  behind_grow r h =
      record { final = λ e. final_grow r.slot r.block (h.final e); clash = λ e. clash_grow r.slot r.block (h.clash e) }
