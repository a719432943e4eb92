-- Why final blocks lie on one chain: the whole argument, over what honest nodes cast and keep.
use mathlib.Core.Path.{◌≡◌, refl, sym, subst}
use mathlib.Core.Bool.{Bool, true, false, not, ◌&&◌, ◌||◌}
use mathlib.Core.List.{List}
use Prim.Native.Nat.{ℕ, zero, suc, ◌*◌, ◌≤◌, ◌<◌}
use native.Mathlib.Omega.{arith}
use native.Mathlib.Decide.{ℕ_discrete}
use lib.Dec.{T, leb, ltb, leb→le, nleb→lt, T_not}
use Rattle.rulebook.specs.Weights.{weight, total_to, is_first}
use Rattle.safety.specs.Slot.{Ballot, notar, notar_fallback, skip, skip_fallback, Test, other_notar, other_fallback, skipped, skipped_late, Heavy, Final, fast, slow}
use Rattle.safety.proofs.Tests.{and_t, T_and, or_t, T-left, by_test, not_not}
use Rattle.safety.proofs.Weighing.{reaches_le, le_reaches, reaches_less, weight_cover, weight_find, weight_zero}
use Rattle.safety.proofs.OneSlot.{safe}
use Rattle.chain.specs.Chain.{Link, Descends, itself, child, Chained, below, above, Certified, Skipped, Backed, Rooted}

without : (p q : Bool) → T p → T (p && not q || q)
without true true t = tt
without true false t = tt
without false q t = absurd t

module _ (ws : List ℕ) (k : ℕ) (honest : Test) (cast : ℕ → ℕ → Ballot → Bool) (kept : ℕ → ℕ → ℕ → ℕ → ℕ → Bool)
    (few : 5 * weight ws k (λ n. not (honest n)) < total_to ws k)
    (rooted : (n : ℕ) → T (honest n) → Rooted ws k honest cast kept n)
    (one_parent : (n m s b p x q y : ℕ) → T (honest n) → T (honest m) → T (kept n s b p x) → T (kept m s b q y) → (p ≡ q) × (x ≡ y)) where
  abbrev Cert : ℕ → ℕ → Type 0
  Cert s b = Certified ws k honest cast kept s b

  abbrev Back : ℕ → ℕ → Type 0
  Back p x = Backed ws k honest cast kept p x

  abbrev Skip : ℕ → Type 0
  Skip s = Skipped ws k honest cast kept s

  abbrev Desc : ℕ → ℕ → ℕ → ℕ → Type 0
  Desc p x s b = Descends honest kept p x s b

  abbrev Fin : ℕ → ℕ → Type 0
  Fin s b = Final ws k honest (cast s) b

  -- ---- honest nodes in heavy sets

  -- A set that reaches a fifth has an honest node.
  honest_in_lem : (f : ℕ) → 1 ≤ f → (p : Test) → Heavy f ws k p → (n : ℕ) × T (p n) × T (honest n)
  honest_in_lem f le p h =
      let m = weight_find ws k p (λ n. not (honest n))
      (omega (arith, few, reaches_le 1 (total_to ws k) (weight ws k p) (reaches_less 1 f (total_to ws k) (weight ws k p) le h))) in
      (m.0, m.1, not_not (honest m.0) m.2)

  -- Behind every certified block stands an honest notar vote.
  voter : (s b : ℕ) → Cert s b → (n : ℕ) × T (honest n) × T (cast s n (notar b))
  voter s b c =
      let m = honest_in_lem 3 (omega arith) c.set c.heavy in
      or_t (cast s m.0 (notar b)) (cast s m.0 (notar_fallback b)) (c.all m.0 m.2 m.1)
      (λ t. (m.0, m.2, t))
      (λ t. let q = (rooted m.0 m.2).fallback_seen s b t in
      let v = honest_in_lem 1 (omega arith) q.set q.heavy in (v.0, v.2, q.all v.0 v.2 v.1))

  -- ---- the parent of a certified block

  same_cert : (p q x y : ℕ) → p ≡ q → x ≡ y → Cert p x → Cert q y
  same_cert p q x y e f c = subst (λ (z : ℕ). Cert q z) f (subst (λ (z : ℕ). Cert z x) e c)

  -- Outside first slots, by an honest voter's parent: who of the set fell back held it certified, and where nobody did, the set voted for
  -- it one slot before.
  parent_certified : (s b : ℕ) → T (not (is_first s)) → Cert s b → (v p x : ℕ) → T (honest v) → T (kept v s b p x) → Cert p x
  parent_certified s b nf c v p x hv keeps =
      let late : Test = λ n. honest n && (c.set n && cast s n (notar_fallback b)) in
      by_test (ltb 0 (weight ws k late))
      (λ t. let m = weight_find ws k late (λ n. false) (omega (arith, leb→le, weight_zero ws k (λ n. false) (λ n h. tt))) in
      let a = and_t (honest m.0) (c.set m.0 && cast s m.0 (notar_fallback b)) m.1 in
      let z = and_t (c.set m.0) (cast s m.0 (notar_fallback b)) a.1 in
      let g = (rooted m.0 a.0).fallback_next s b nf z.1 in
      let e = one_parent m.0 v s b g.slot g.parent p x a.0 hv g.keeps keeps in
      same_cert g.slot p g.parent x e.0 e.1 g.certified)
      (λ t. record {
        set = λ n. c.set n && not (late n);
        all = λ n h u. let a = and_t (c.set n) (not (late n)) u in
            or_t (cast s n (notar b)) (cast s n (notar_fallback b)) (c.all n h a.0)
            (λ w. let g = (rooted n h).next_notar s b nf w in
            let e = one_parent n v s b g.slot g.parent p x h hv g.keeps keeps in
            T-left (cast p n (notar x)) (cast p n (notar_fallback x))
            (subst (λ (y : ℕ). T (cast p n (notar y))) e.1 (subst (λ (q : ℕ). T (cast q n (notar g.parent))) e.0 g.voted)))
            (λ w. absurd (T_not (late n) a.1 (T_and (honest n) (c.set n && cast s n (notar_fallback b)) h (T_and (c.set n) (cast s n (notar_fallback b)) a.0 w))));
        heavy = le_reaches 3 (total_to ws k) (weight ws k (λ n. c.set n && not (late n))) (omega (
          arith,
          nleb→lt 1 (weight ws k late) t,
          reaches_le 3 (total_to ws k) (weight ws k c.set) c.heavy,
          weight_cover ws k c.set (λ n. c.set n && not (late n)) late (λ n. without (c.set n) (late n)),
        ));
      })

  -- A certified block has a backed parent in a lower slot, and every slot between is skipped.
  pub record Parent (s b : ℕ) : Type 0 where
    pub slot : ℕ
    pub parent : ℕ
    pub link : Link honest kept s b slot parent
    pub lower : slot < s
    pub backed : Back slot parent
    pub between : (t : ℕ) → slot < t → t < s → Skip t

  pub certified_backed : (p x : ℕ) → Cert p x → Back p x
  certified_backed zero x c = tt
  certified_backed (suc p) x c = c

  pub backed_certified : (p x : ℕ) → 1 ≤ p → Back p x → Cert p x
  backed_certified zero x le d = absurd (omega arith)
  backed_certified (suc p) x le d = d

  pub parent_of : (s b : ℕ) → Cert s b → Parent s b
  parent_of s b c =
      let v = voter s b c in
      let r = rooted v.0 v.1 in
      by_test (is_first s)
      (λ h. let f = r.first_notar s b h v.2 in
      record {
        slot = f.slot;
        parent = f.parent;
        link = record { node = v.0; is_honest = v.1; keeps = f.keeps };
        lower = r.lower s b f.slot f.parent f.keeps;
        backed = f.backed;
        between = f.between;
      })
      (λ h. let f = r.next_notar s b h v.2 in
      record {
        slot = f.slot;
        parent = f.parent;
        link = record { node = v.0; is_honest = v.1; keeps = f.keeps };
        lower = omega (arith, f.before);
        backed = certified_backed f.slot f.parent (parent_certified s b h c v.0 f.slot f.parent v.1 f.keeps);
        between = λ t x y. absurd (omega (arith, f.before));
      })

  -- A final block is certified.
  pub final_certified : (s b : ℕ) → Fin s b → Cert s b
  final_certified s b (fast q) =
      record {
        set = q.set;
        all = λ n h t. T-left (cast s n (notar b)) (cast s n (notar_fallback b)) (q.all n h t);
        heavy = reaches_less 3 4 (total_to ws k) (weight ws k q.set) (omega arith) q.heavy;
      }
  final_certified s b (slow q f) =
      record { set = q.set; all = λ n h t. T-left (cast s n (notar b)) (cast s n (notar_fallback b)) (q.all n h t); heavy = q.heavy }

  -- ---- a final block and the certificates of its own slot and above

  module _ (s b : ℕ) (fin : Fin s b) where
    -- No block of slot 0 is final: a certified block has a parent in a lower slot.
    pos : 1 ≤ s
    pos = omega (arith, (parent_of s b (final_certified s b fin)).lower)

    alone : (c : ℕ) → Cert s c → c ≡ b
    alone c d =
        elim (ℕ_discrete c b) [
          | yes e ↦ e
          | no ne ↦ absurd (safe ws k honest (cast s) few (λ n h. (rooted n h).slots s) b fin (record {
            set = d.set;
            all = λ n h t. or_t (cast s n (notar c)) (cast s n (notar_fallback c)) (d.all n h t)
                (λ u. (notar c, u, other_notar ne)) (λ u. (notar_fallback c, u, other_fallback ne));
            heavy = d.heavy;
          }))
        ]

    not_skipped : ¬ Skip s
    not_skipped d =
        safe ws k honest (cast s) few (λ n h. (rooted n h).slots s) b fin (record {
          set = d.set;
          all = λ n h t. or_t (cast s n skip) (cast s n skip_fallback) (d.all n h t) (λ u. (skip, u, skipped)) (λ u. (skip_fallback, u, skipped_late));
          heavy = d.heavy;
        })

    at_slot : (t c : ℕ) → s ≡ t → Cert t c → Desc s b t c
    at_slot t c e d =
        subst (λ (p : ℕ). Desc s b p c) e
        (subst (λ (x : ℕ). Desc s b s x) (sym (alone c (subst (λ (p : ℕ). Cert p c) (sym e) d))) itself)

    -- The parent of a certified block above the final one stands in its slot or above: otherwise the final block's slot were skipped.
    descends_by : (fuel t c : ℕ) → t < fuel → s ≤ t → Cert t c → Desc s b t c
    descends_by zero t c h le d = absurd (omega arith)
    descends_by (suc fuel) t c h le d =
        elim (ℕ_discrete s t) [
          | yes e ↦ at_slot t c e d
          | no ne ↦
              let o = parent_of t c d in
              let least : s ≤ o.slot = by_test (leb s o.slot) (λ u. leb→le s o.slot u) (λ u. absurd (not_skipped (o.between s (nleb→lt s o.slot u) (omega arith)))) in
              child o.link
              (descends_by fuel o.slot o.parent (omega (arith, o.lower)) least
              (backed_certified o.slot o.parent (omega (arith, least, pos)) o.backed))
        ]

    -- A certified block in the final block's slot or above it is the final block or descends from it.
    pub descends : (t c : ℕ) → s ≤ t → Cert t c → Desc s b t c
    descends t c le d = descends_by (suc t) t c (omega arith) le d

  pub chained : (s b t c : ℕ) → Fin s b → Fin t c → Chained honest kept s b t c
  chained s b t c f g =
      by_test (leb s t)
      (λ u. below (descends s b f t c (leb→le s t u) (final_certified t c g)))
      (λ u. above (descends t c g s b (omega (arith, nleb→lt s t u)) (final_certified s b f)))

  -- ---- ancestors

  link_lower : (s b p x : ℕ) → Link honest kept s b p x → p < s
  link_lower s b p x l = (rooted l.node l.is_honest).lower s b p x l.keeps

  descends_le : (p x s b : ℕ) → Desc p x s b → p ≤ s
  descends_le p x s b itself = omega arith
  descends_le p x s b (child {q = q} {y = y} l d) = omega (arith, link_lower s b q y l, descends_le p x q y d)

  pub descends_trans : (p x q y s b : ℕ) → Desc p x q y → Desc q y s b → Desc p x s b
  descends_trans p x q y s b d itself = d
  descends_trans p x q y s b d (child {q = r} {y = z} l e) = child l (descends_trans p x q y r z d e)

  -- Two ancestors of one block: one is the other or its ancestor, since parents are one.
  ancestors_chained : (p x q y s b : ℕ) → Desc p x s b → Desc q y s b → Chained honest kept p x q y
  ancestors_chained p x q y s b itself e = above e
  ancestors_chained p x q y s b (child l d) itself = below (child l d)
  ancestors_chained p x q y s b (child {q = u} {y = z} l d) (child {q = r} {y = w} m e) =
      let o = one_parent m.node l.node s b r w u z m.is_honest l.is_honest m.keeps l.keeps in
      ancestors_chained p x q y u z d (subst (λ (i : ℕ). Desc q y u i) o.1 (subst (λ (i : ℕ). Desc q y i w) o.0 e))

  -- On one chain no slot has two blocks.
  in_slot_lem : (s b t c : ℕ) → s ≡ t → Desc s b t c → b ≡ c
  in_slot_lem s b t c e itself = refl
  in_slot_lem s b t c e (child {q = q} {y = y} l d) = absurd (omega (arith, link_lower t c q y l, descends_le s b q y d))

  pub one_block : (s b c : ℕ) → Chained honest kept s b s c → b ≡ c
  one_block s b c (below d) = in_slot_lem s b s c refl d
  one_block s b c (above d) = sym (in_slot_lem s c s b refl d)

  -- ---- blocks that have come to be final: by certificates, or as an ancestor of such a block

  pub record Source (s b : ℕ) : Type 0 where
    pub slot : ℕ
    pub block : ℕ
    pub final : Fin slot block
    pub from : Desc s b slot block

  pub sources_chained : (s b t c : ℕ) → Source s b → Source t c → Chained honest kept s b t c
  sources_chained s b t c p q = go (chained p.slot p.block q.slot q.block p.final q.final)
    where
      go : Chained honest kept p.slot p.block q.slot q.block → Chained honest kept s b t c
      go (below d) = ancestors_chained s b t c q.slot q.block (descends_trans s b p.slot p.block q.slot q.block p.from d) q.from
      go (above d) = ancestors_chained s b t c p.slot p.block p.from (descends_trans t c q.slot q.block p.slot p.block q.from d)
