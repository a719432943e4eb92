-- No rule applies to a node's ledger: what that says of rules A, D and E, over its pool and its own votes.
use mathlib.Core.Path.{◌≡◌, sym, ◌∙◌, subst}
use mathlib.Core.Bool.{Bool, true, false, not, ◌&&◌, ◌||◌}
use mathlib.Core.List.{List, [], ◌∷◌}
use Prim.Native.Nat.{ℕ, zero, suc, ◌+◌, ◌-◌, ◌*◌, ◌≤◌, ◌<◌}
use native.Mathlib.Omega.{arith}
use lib.Dec.{T, eqb, ltb, eqb→eq, eqb_refl, lt→ltb, ltb→lt, T_not, not_T}
use Rattle.rulebook.specs.declared.Cell.{Cell}
use Rattle.rulebook.specs.declared.Block.{Block}
use Rattle.rulebook.specs.declared.Who.TheVariants as who
use Rattle.rulebook.specs.declared.CertificateKind.TheVariants as certificate
use Rattle.rulebook.specs.Tools.{whenever, all_to, some_to, any_of, largest}
use Rattle.rulebook.specs.Weights.{last_slot, weight, reaches, is_first}
use Rattle.rulebook.specs.Ledger.{Ledger, none, cell_at, is_watcher, own_cell, no_initial, is_armed, put_armed, some_block, blocks_at, is_free, has_number, is_block, keeps_block}
use Rattle.rulebook.specs.Pool.{has_fallback, counts, weigh, weighs, signers_of, fifths_of, reached, kept_as, held, names, parent_held, skipped_between, ready, certifiable, parent_names, some_ready}
use Rattle.rulebook.specs.Rules.{Record, State, state_of, report, rule_a, rule_d, rule_e, window_open, fallback_weights, may_fallback, parent_backed, is_backed, is_grounded, falls_back, fallback_block, cast_fallback, skip_weights, may_skip_fallback, cast_skip_fallback}
use Rattle.rulebook.specs.Run.{made}
use Rattle.rule_laws.proofs.ToolLaws.{given_on, all_each, some_at}
use Rattle.rule_laws.proofs.LowestLaws.{Among, low_le, names_free, heavy_named}
use Rattle.settling.proofs.RunLaws.{rule_a_lem, rule_d_lem, rule_e_lem}
use Rattle.safety.specs.Slot.{notar, notar_fallback, skip, skip_fallback, final}
use Rattle.safety.specs.Ballots.{has}
use Rattle.safety.specs.Moves.{not_for}
use Rattle.safety.proofs.Tests.{T_true, true_t, and_t, T_and, or_t, T-left, T-right, by_test, not_not, yes}
use Rattle.safety.proofs.Weighing.{reaches_le, le_reaches, reaches_more, weight_mono, weight_cover, weight_join, weight_zero, weight_find}
use Rattle.safety.proofs.Cells.{initial_cases, some_block_lem, notar_is, is_notar, notar_some}
use Rattle.safety.proofs.Guards.{given_t, lowest_passes}
use Rattle.progress.specs.Progress.{AtRest}
use Rattle.progress.proofs.Grows.{grows_not, fallback_grows, skip_fallback_grows}
use Rattle.progress.proofs.Named.{among_any, vote_certifiable, largest_room}

T-given : (b : Bool) (f : Unit {0} → Bool) → T b → T (f tt) → T (whenever b f false)
unfolding whenever
T-given true f x y = y
T-given false f x y = absurd x

-- ---- what is held by votes is held

has_three : (b : ℕ) (c : Cell) → T (has c (notar b) || has c (notar_fallback b)) → T (eqb c.notar b || has_fallback b c)
has_three b c t =
    or_t (has c (notar b)) (has c (notar_fallback b)) t
    (λ u. T-left (eqb c.notar b) (has_fallback b c) (notar_is c b u).1)
    (λ u. T-right (eqb c.notar b) (has_fallback b c) (and_t (not (none b)) (has_fallback b c) u).1)

module _ (l : Ledger) where
  -- The pool's weight of the nodes that a test names reaches k fifths.
  abbrev pub Reach : ℕ → (ℕ → Bool) → Type 0
  Reach k p = T (reaches k l.total (weight l.stakes l.count p))

  abbrev pub three : ℕ → ℕ → ℕ → Bool
  three s b m = has (cell_at l s m) (notar b) || has (cell_at l s m) (notar_fallback b)

  abbrev pub four : ℕ → ℕ → Bool
  four s m = has (cell_at l s m) skip || has (cell_at l s m) skip_fallback

  pub three_held : (s b : ℕ) → Reach 3 (three s b) → T (held l certificate.NotarFallback s b)
  unfolding held reached weighs weigh fifths_of signers_of counts
  three_held s b t =
      T-left (reaches 3 l.total (weight l.stakes l.count (λ n. eqb (cell_at l s n).notar b || has_fallback b (cell_at l s n)))) (kept_as l certificate.NotarFallback s b)
      (reaches_more 3 l.total (weight l.stakes l.count (three s b)) (weight l.stakes l.count (λ n. eqb (cell_at l s n).notar b || has_fallback b (cell_at l s n)))
      (weight_mono l.stakes l.count (three s b) (λ n. eqb (cell_at l s n).notar b || has_fallback b (cell_at l s n)) (λ n. has_three b (cell_at l s n))) t)

  pub four_held : (s : ℕ) → Reach 3 (four s) → T (held l certificate.Skip s 0)
  unfolding held reached weighs weigh fifths_of signers_of counts
  four_held s t = T-left (reaches 3 l.total (weight l.stakes l.count (four s))) (kept_as l certificate.Skip s 0) t

  some_mono : (p q : Block → Bool) (ks : List Block) → ((k : Block) → T (p k) → T (q k)) → T (some_block p ks) → T (some_block q ks)
  unfolding some_block
  some_mono p q [] f t = t
  some_mono p q (k ∷ ks) f t =
      or_t (p k) (some_block p ks) t (λ u. T-left (q k) (some_block q ks) (f k u)) (λ u. T-right (q k) (some_block q ks) (some_mono p q ks f u))

  not_none : (x : ℕ) → 1 ≤ x → T (not (none x))
  not_none x h = not_T (none x) (λ t. let e = eqb→eq x 0 t in omega arith)

  pub positive : (x : ℕ) → T (not (none x)) → 1 ≤ x
  positive zero t = absurd (T_not (none 0) t (eqb_refl 0))
  positive (suc x) t = omega arith

  -- A test that weighs something names somebody in the table.
  pub look : (p : ℕ → Bool) → 1 ≤ weight l.stakes l.count p → (n : ℕ) × (n < l.count) × T (p n)
  look p h =
      let m = weight_find l.stakes l.count p (λ n. not (ltb n l.count))
      (omega (arith, weight_zero l.stakes l.count (λ n. not (ltb n l.count)) (λ n z. yes (ltb n l.count) (lt→ltb n l.count z)))) in
      (m.0, ltb→lt m.0 l.count (not_not (ltb m.0 l.count) m.2), m.1)

  module _ (some : 1 ≤ l.total) where
    -- So does one that reaches some fifths.
    reach_look : (k : ℕ) (p : ℕ → Bool) → 1 ≤ k * l.total → Reach k p → (n : ℕ) × (n < l.count) × T (p n)
    reach_look k p h t = look p (omega (arith, reaches_le k l.total (weight l.stakes l.count p) t))

    -- ---- rule A

    -- Genesis, or a block with kind 3.
    abbrev pub BackedBy : ℕ → ℕ → Type 0
    BackedBy zero x = x ≡ l.genesis
    BackedBy (suc p) x = Reach 3 (three (suc p) x)

    parent_holds : (p x : ℕ) → BackedBy p x → T (parent_held l p x)
    unfolding parent_held
    parent_holds zero x e = rw e (eqb_refl l.genesis)
    parent_holds (suc p) x t = T-right (held l certificate.Notar (suc p) x) (held l certificate.NotarFallback (suc p) x) (three_held (suc p) x t)

    ready_holds : (s p x : ℕ) → p < s → BackedBy p x → ((t : ℕ) → p < t → t < s → Reach 3 (four t)) → T (ready l s p x)
    unfolding ready skipped_between
    ready_holds s p x lt b between =
        T-given (ltb p s) (λ _. whenever (parent_held l p x) (λ _. all_to (s - suc p) (λ i. held l certificate.Skip (suc p + i) 0)) false) (lt→ltb p s lt)
        (T-given (parent_held l p x) (λ _. all_to (s - suc p) (λ i. held l certificate.Skip (suc p + i) 0)) (parent_holds p x b)
        (true_t (all_to (s - suc p) (λ i. held l certificate.Skip (suc p + i) 0)) (all_each (s - suc p) (λ i. held l certificate.Skip (suc p + i) 0)
        (λ i h. T_true (held l certificate.Skip (suc p + i) 0) (four_held (suc p + i) (between (suc p + i) (omega arith) (omega arith)))))))

    parent_named : (s p x : ℕ) → BackedBy p x → T (ready l s p x) → T (any_of (ready l s p) (parent_names l p))
    unfolding parent_names any_of
    parent_named s zero x e t = T-left (ready l s 0 l.genesis) false (subst (λ (y : ℕ). T (ready l s 0 y)) e t)
    parent_named s (suc p) x b t =
        let m = reach_look 3 (three (suc p) x) (omega arith) b in
        among_any (ready l s (suc p)) x (certifiable l (suc p)) (vote_certifiable l (suc p) m.0 x m.1 m.2) t

    some_ready_lem : (s p x : ℕ) → p < s → BackedBy p x → ((t : ℕ) → p < t → t < s → Reach 3 (four t)) → T (some_ready l s)
    unfolding some_ready
    some_ready_lem s p x lt b between =
        true_t (some_to s (λ q. any_of (ready l s q) (parent_names l q))) (some_at s p (λ q. any_of (ready l s q) (parent_names l q)) lt
        (T_true (any_of (ready l s p) (parent_names l p)) (parent_named s p x b (ready_holds s p x lt b between))))

    arm_grows : (rs : List Record) (s : ℕ) → T (is_first s) → T (not (is_armed l s)) → T (some_ready l s) → made (state_of l rs) < made (rule_a (state_of l rs) s)
    unfolding rule_a
    arm_grows rs s f na r =
        let o : State = state_of l rs in
        rw (
          given_on (is_first s && not (is_armed l s)) o (λ _. whenever (some_ready l s) (λ _. report o (put_armed l s) 7 s 0) o) (T_true (is_first s && not (is_armed l s)) (T_and (is_first s) (not (is_armed l s)) f na)),
          given_on (some_ready l s) o (λ _. report o (put_armed l s) 7 s 0) (T_true (some_ready l s) r),
        ) (omega arith)

    module _ (rest : AtRest l) where
      abbrev now : State
      now = state_of l rest.records

      pub arms : (s p x : ℕ) → 1 ≤ s → s ≤ last_slot → T (is_first s) → p < s → BackedBy p x → ((t : ℕ) → p < t → t < s → Reach 3 (four t)) → T (is_armed l s)
      arms s p x lo hi f lt b between =
          by_test (is_armed l s) (λ t. t)
          (λ na. absurd (grows_not now (rule_a now s) (arm_grows rest.records s f na (some_ready_lem s p x lt b between)) (sym (rule_a_lem now s) ∙ rest.settled.same 0 s lo hi)))

      module _ (votes : is_watcher l ≡ false) (me : ℕ) (mine : (s : ℕ) → own_cell l s ≡ cell_at l s me) where
        -- ---- rule D

        -- The block kept, its parent with kind 3.
        pub record Ground (s b : ℕ) : Type 0 where
          pub slot : ℕ
          pub parent : ℕ
          pub keeps : T (keeps_block l s b slot parent)
          pub above : 1 ≤ slot
          pub below : slot < s
          pub holds : Reach 3 (three slot parent)

        backed_holds : (s p x : ℕ) → 1 ≤ p → p < s → Reach 3 (three p x) → T (parent_backed l s p x)
        unfolding parent_backed
        backed_holds s p x lo lt t =
            T-given (not (none p) && ltb p s) (λ _. held l certificate.NotarFallback p x)
            (T_and (not (none p)) (ltb p s) (not_none p lo) (lt→ltb p s lt)) (three_held p x t)

        block_backed : (s b p x : ℕ) → T (parent_backed l s p x) → (k : Block) → T (is_block b p x k) → T (is_backed l s b k)
        unfolding is_block is_backed
        block_backed s b p x h k t =
            let a = and_t (not (is_free k)) (has_number b k && (eqb k.parentslot.0 p && eqb k.parent x)) t in
            let c = and_t (has_number b k) (eqb k.parentslot.0 p && eqb k.parent x) a.1 in
            let d = and_t (eqb k.parentslot.0 p) (eqb k.parent x) c.1 in
            T-given (not (is_free k) && has_number b k) (λ _. parent_backed l s k.parentslot.0 k.parent)
            (T_and (not (is_free k)) (has_number b k) a.0 c.0)
            (rw (eqb→eq k.parentslot.0 p d.0, eqb→eq k.parent x d.1) h)

        pub grounded : (s b : ℕ) → (T (not (is_first s)) → Ground s b) → T (is_grounded l s b)
        unfolding is_grounded keeps_block
        grounded s b g =
            by_test (is_first s) (λ f. T-left (is_first s) (some_block (is_backed l s b) (blocks_at l s)) f)
            (λ nf. let x = g nf in
            T-right (is_first s) (some_block (is_backed l s b) (blocks_at l s))
            (some_mono (is_block b x.slot x.parent) (is_backed l s b) (blocks_at l s)
            (block_backed s b x.slot x.parent (backed_holds s x.slot x.parent x.above x.below x.holds)) x.keeps))

        weights_hold : (s b : ℕ) → Reach 2 (λ m. has (cell_at l s m) (notar b)) → T (fallback_weights l s b)
        unfolding fallback_weights weigh counts
        weights_hold s b t =
            let x = weight l.stakes l.count (λ n. eqb (cell_at l s n).notar b) in
            let y = weight l.stakes l.count (λ n. not (none (cell_at l s n).skip)) in
            T-left (reaches 2 l.total x) (reaches 1 l.total x && reaches 3 l.total (y + x))
            (reaches_more 2 l.total (weight l.stakes l.count (λ m. has (cell_at l s m) (notar b))) x
            (weight_mono l.stakes l.count (λ m. has (cell_at l s m) (notar b)) (λ n. eqb (cell_at l s n).notar b) (λ n u. (notar_is (cell_at l s n) b u).1)) t)

        pub falls_holds : (s b : ℕ) → T (not (eqb (own_cell l s).notar b)) → T (may_fallback (own_cell l s) b) → T (fallback_weights l s b) → T (is_grounded l s b) → T (falls_back l s b)
        unfolding falls_back
        falls_holds s b nb may w g =
            let c = own_cell l s in
            T-given (not (eqb c.notar b) && (window_open l s || may_fallback c b)) (λ _. whenever (fallback_weights l s b) (λ _. is_grounded l s b) false)
            (T_and (not (eqb c.notar b)) (window_open l s || may_fallback c b) nb (T-right (window_open l s) (may_fallback c b) may))
            (T-given (fallback_weights l s b) (λ _. is_grounded l s b) w g)

        falls_casts : (s b : ℕ) → T (falls_back l s b) → T (window_open l s || may_fallback (own_cell l s) b)
        unfolding falls_back
        falls_casts s b t =
            let c = own_cell l s in
            (and_t (not (eqb c.notar b)) (window_open l s || may_fallback c b)
            (given_t (not (eqb c.notar b) && (window_open l s || may_fallback c b)) (λ _. whenever (fallback_weights l s b) (λ _. is_grounded l s b) false) t).0).1

        pub d_grows : (rs : List Record) (s b : ℕ) → T (not (no_initial (own_cell l s))) → Among b (names l s) → T (falls_back l s b) → made (state_of l rs) < made (rule_d (state_of l rs) s)
        unfolding rule_d fallback_block names
        d_grows rs s b init named t =
            let o : State = state_of l rs in
            let low = not_none (fallback_block l s) (low_le (falls_back l s) (names l s) b (names_free l s l.count) named (T_true (falls_back l s b) t)).0 in
            rw (
              given_on (not (no_initial (own_cell l s))) o _ (T_true (not (no_initial (own_cell l s))) init),
              given_on (not (none (fallback_block l s))) o (λ _. cast_fallback o s (fallback_block l s)) (T_true (not (none (fallback_block l s))) low),
            )
            (fallback_grows o s (fallback_block l s) (falls_casts s (fallback_block l s) (lowest_passes (falls_back l s) (names l s) low)))

        -- A block with notar votes that reach some fifths is named.
        reach_named : (s b : ℕ) → T (not (none b)) → Reach 2 (λ m. has (cell_at l s m) (notar b)) → Among b (names l s)
        unfolding weigh counts
        reach_named s b z w =
            heavy_named l s b (positive b z)
            (omega (
              arith,
              reaches_le 2 l.total (weight l.stakes l.count (λ m. has (cell_at l s m) (notar b))) w,
              weight_mono l.stakes l.count (λ m. has (cell_at l s m) (notar b)) (λ n. eqb (cell_at l s n).notar b) (λ n u. (notar_is (cell_at l s n) b u).1),
            ))

        pub falls : (s b : ℕ) → 1 ≤ s → s ≤ last_slot → T (not (no_initial (cell_at l s me))) → ¬ T (has (cell_at l s me) (notar b)) → ¬ T (has (cell_at l s me) final)
            → Reach 2 (λ m. has (cell_at l s m) (notar b)) → (T (not (is_first s)) → Ground s b) → T (has (cell_at l s me) (notar_fallback b))
        unfolding may_fallback
        falls s b lo hi init nb nf w g =
            let v = reach_look 2 (λ m. has (cell_at l s m) (notar b)) (omega arith) w in
            let z : T (not (none b)) = (notar_is (cell_at l s v.0) b v.2).0 in
            let c = cell_at l s me in
            by_test (has_fallback b c) (λ t. T_and (not (none b)) (has_fallback b c) z t)
            (λ t. let may : T (may_fallback c b) = T_and (none c.finalvote) (not (has_fallback b c)) (not_not (none c.finalvote) (not_T (not (none c.finalvote)) nf)) t in
            let f = falls_holds s b (rw (mine s) (not_T (eqb c.notar b) (λ u. nb (is_notar c b z u)))) (rw (mine s) may) (weights_hold s b w) (grounded s b g) in
            absurd (grows_not now (rule_d now s) (d_grows rest.records s b (rw (mine s) init) (reach_named s b z w) f) (sym (rule_d_lem now s votes) ∙ rest.settled.same 3 s lo hi)))

        -- ---- rule E

        abbrev against : ℕ → ℕ → ℕ → Bool
        against s b m = not_for b (cell_at l s m)

        one_room : (s b : ℕ) → T (not (none b)) → Reach 2 (against s b)
            → 5 * weigh l s (who.Notar b) + 2 * l.total ≤ 5 * (weigh l s who.Skip + weigh l s who.AnyNotar)
        unfolding weigh counts
        one_room s b z t =
            let ws = l.stakes in
            let k = l.count in
            omega (
              arith,
              reaches_le 2 l.total (weight ws k (against s b)) t,
              weight_join ws k (λ n. eqb (cell_at l s n).notar b) (against s b) (λ n. not (none (cell_at l s n).skip) || not (none (cell_at l s n).notar))
                  (λ n u. T-right (not (none (cell_at l s n).skip)) (not (none (cell_at l s n).notar)) (some_block_lem (cell_at l s n).notar b z u))
                  (λ n u. initial_cases (cell_at l s n) (and_t (not (no_initial (cell_at l s n))) (not (has (cell_at l s n) (notar b))) u).0
                  (λ x. T-right (not (none (cell_at l s n).skip)) (not (none (cell_at l s n).notar)) x)
                  (λ x. T-left (not (none (cell_at l s n).skip)) (not (none (cell_at l s n).notar)) x))
                  (λ n u x. T_not (has (cell_at l s n) (notar b)) (and_t (not (no_initial (cell_at l s n))) (not (has (cell_at l s n) (notar b))) x).1 (is_notar (cell_at l s n) b z u)),
              weight_cover ws k (λ n. not (none (cell_at l s n).skip) || not (none (cell_at l s n).notar)) (λ n. not (none (cell_at l s n).skip)) (λ n. not (none (cell_at l s n).notar)) (λ n u. u),
            )

        skip_holds : (s : ℕ) → ((b : ℕ) → T (not (none b)) → Reach 2 (against s b)) → T (skip_weights l s)
        unfolding skip_weights names
        skip_holds s w =
            let big = largest (λ b. weigh l s (who.Notar b)) (names l s) in
            let all = weigh l s who.Skip + weigh l s who.AnyNotar in
            let room : 5 * big + 2 * l.total ≤ 5 * all =
            largest_room (λ b. weigh l s (who.Notar b)) (names l s) (2 * l.total) (5 * all) (names_free l s l.count) (omega (arith, one_room s 1 tt (w 1 tt))) (λ b z. one_room s b (not_none b z) (w b (not_none b z))) in
            le_reaches 2 l.total (all - big) (omega arith)

        e_grows : (rs : List Record) (s : ℕ) → T (not (none (own_cell l s).notar)) → T (may_skip_fallback (own_cell l s)) → T (skip_weights l s) → made (state_of l rs) < made (rule_e (state_of l rs) s)
        unfolding rule_e
        e_grows rs s v may w =
            let o : State = state_of l rs in
            let c = own_cell l s in
            let t : T (window_open l s || may_skip_fallback c) = T-right (window_open l s) (may_skip_fallback c) may in
            rw (
              given_on (not (none c.notar) && (window_open l s || may_skip_fallback c)) o (λ _. whenever (skip_weights l s) (λ _. cast_skip_fallback o s) o)
                  (T_true (not (none c.notar) && (window_open l s || may_skip_fallback c)) (T_and (not (none c.notar)) (window_open l s || may_skip_fallback c) v t)),
              given_on (skip_weights l s) o (λ _. cast_skip_fallback o s) (T_true (skip_weights l s) w),
            ) (skip_fallback_grows o s t)

        pub skips_late_lem : (s c : ℕ) → 1 ≤ s → s ≤ last_slot → T (has (cell_at l s me) (notar c)) → ¬ T (has (cell_at l s me) final)
            → ((b : ℕ) → T (not (none b)) → Reach 2 (against s b)) → T (has (cell_at l s me) skip_fallback)
        unfolding may_skip_fallback
        skips_late_lem s c lo hi v nf w =
            let d = cell_at l s me in
            by_test (none d.skipfallback)
            (λ t. let may : T (may_skip_fallback d) = T_and (none d.finalvote) (none d.skipfallback) (not_not (none d.finalvote) (not_T (not (none d.finalvote)) nf)) t in
            absurd (grows_not now (rule_e now s) (e_grows rest.records s (rw (mine s) (notar_some d c v)) (rw (mine s) may) (skip_holds s w)) (sym (rule_e_lem now s votes) ∙ rest.settled.same 4 s lo hi)))
            (λ t. t)
