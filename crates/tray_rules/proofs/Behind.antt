-- The rules read the ledger alone: records that stand behind stay, and change nothing. Assumes nothing.
use mathlib.Core.Path.{◌≡◌, refl, ap, ◌∙◌}
use mathlib.Core.Bool.{Bool, true, false, not, ◌&&◌, ◌||◌}
use mathlib.Core.List.{List, ◌++◌}
use Prim.Native.Nat.{ℕ, zero, suc, ◌+◌}
use native.Mathlib.Omega.{arith}
use lib.ListN.{length-append}
use lib.Dec.{eqb, ltb}
use borrow.Author.Tests.{eq-eqb, eqb-true}
use Rattle.rulebook.specs.declared.Cell.{Cell}
use Rattle.rulebook.specs.declared.Block.{Block}
use Rattle.rulebook.specs.declared.VoteKind.TheVariants as vote
use Rattle.rulebook.specs.declared.CertificateKind.TheVariants as certificate
use Rattle.rulebook.specs.Tools.{whenever, lowest}
use Rattle.rulebook.specs.Weights.{is_first, first_of, last_slot}
use Rattle.rulebook.specs.Ledger.{none, no_initial, row_at, own_cell, blocks_at, first_block, is_watcher, is_armed}
use Rattle.rulebook.specs.Pool.{held, certifiable, some_ready}
use Rattle.rulebook.specs.Rules.{Record, State, state_of, cast, cast_skip, cast_skips, rule_a, rule_b, rule_c, rule_d, rule_e, is_newcomer, tell_clash, tell_final, rule_f, find_block, walk_to, walk_step, walk_for, rule_g, parent_fits, may_final, may_fallback, fallback_block, cast_fallback, window_open, may_skip_fallback, skip_weights, cast_skip_fallback}
use Rattle.rulebook.specs.Run.{voting, rule_at, made, quiet, first_rule, first_slot, scan, run_for, run}
use Rattle.rule_laws.proofs.ToolLaws.{same_test}

module _ (rs : List Record) where
  -- The state with the records behind its own.
  abbrev pub behind : State → State
  behind o = state_of o.ledger (o.records ++ rs)

  -- Both ways of a test.
  given_behind : (t : Bool) (o p : State) (f g : Unit {0} → State) → p ≡ behind o → g tt ≡ behind (f tt) → whenever t g p ≡ behind (whenever t f o)
  unfolding whenever
  given_behind true o p f g e h = h
  given_behind false o p f g e h = e

  module _ (s : ℕ) where
    skip_behind : (o : State) → cast_skip (behind o) s ≡ behind (cast_skip o s)
    unfolding cast_skip cast
    skip_behind o = given_behind (no_initial (own_cell o.ledger s)) o (behind o) _ _ refl refl

  module _ (s : ℕ) where
    skips_behind : (o : State) → cast_skips (behind o) s ≡ behind (cast_skips o s)
    unfolding cast_skips
    skips_behind o =
        let f : ℕ = first_of s in
        let a = skip_behind f o in
        let b = ap (λ (x : State). cast_skip x (f + 1)) a ∙ skip_behind (f + 1) (cast_skip o f) in
        let c = ap (λ (x : State). cast_skip x (f + 2)) b ∙ skip_behind (f + 2) (cast_skip (cast_skip o f) (f + 1)) in
        ap (λ (x : State). cast_skip x (f + 3)) c ∙ skip_behind (f + 3) (cast_skip (cast_skip (cast_skip o f) (f + 1)) (f + 2))

    A-behind : (o : State) → rule_a (behind o) s ≡ behind (rule_a o s)
    unfolding rule_a
    A-behind o =
        given_behind (is_first s && not (is_armed o.ledger s)) o (behind o) _ _ refl
        (given_behind (some_ready o.ledger s) o (behind o) _ _ refl refl)

    B-behind : (o : State) → rule_b (behind o) s ≡ behind (rule_b o s)
    unfolding rule_b cast
    B-behind o =
        let k : Block = first_block o.ledger s in
        given_behind (no_initial (own_cell o.ledger s) && not (none k.number)) o (behind o) _ _ refl
        (given_behind (parent_fits o.ledger s (is_first s) k) o (behind o) _ _ refl refl)

    C-behind : (o : State) → rule_c (behind o) s ≡ behind (rule_c o s)
    unfolding rule_c cast
    C-behind o =
        let c : Cell = own_cell o.ledger s in
        given_behind (may_final c) o (behind o) _ _ refl
        (given_behind (held o.ledger certificate.Notar s c.notar) o (behind o) _ _ refl refl)

    -- What follows the skips.
    fallback_after : (p q : State) (b : ℕ) → q ≡ behind p
        → whenever (may_fallback (own_cell q.ledger s) b) (λ _. cast q s vote.NotarFallback b) q
        ≡ behind (whenever (may_fallback (own_cell p.ledger s) b) (λ _. cast p s vote.NotarFallback b) p)
    unfolding cast
    fallback_after p q b e =
        ap (λ (x : State). whenever (may_fallback (own_cell x.ledger s) b) (λ _. cast x s vote.NotarFallback b) x) e
        ∙ given_behind (may_fallback (own_cell p.ledger s) b) p (behind p) _ _ refl refl

    D-behind : (o : State) → rule_d (behind o) s ≡ behind (rule_d o s)
    unfolding rule_d cast_fallback
    D-behind o =
        let b : ℕ = fallback_block o.ledger s in
        given_behind (not (no_initial (own_cell o.ledger s))) o (behind o) _ _ refl
        (given_behind (not (none b)) o (behind o) _ _ refl (fallback_after (cast_skips o s) (cast_skips (behind o) s) b (skips_behind o)))

    skip_fallback_after : (p q : State) → q ≡ behind p
        → whenever (may_skip_fallback (own_cell q.ledger s)) (λ _. cast q s vote.SkipFallback 0) q
        ≡ behind (whenever (may_skip_fallback (own_cell p.ledger s)) (λ _. cast p s vote.SkipFallback 0) p)
    unfolding cast
    skip_fallback_after p q e =
        ap (λ (x : State). whenever (may_skip_fallback (own_cell x.ledger s)) (λ _. cast x s vote.SkipFallback 0) x) e
        ∙ given_behind (may_skip_fallback (own_cell p.ledger s)) p (behind p) _ _ refl refl

    E-behind : (o : State) → rule_e (behind o) s ≡ behind (rule_e o s)
    unfolding rule_e cast_skip_fallback
    E-behind o =
        let c : Cell = own_cell o.ledger s in
        given_behind (not (none c.notar) && (window_open o.ledger s || may_skip_fallback c)) o (behind o) _ _ refl
        (given_behind (skip_weights o.ledger s) o (behind o) _ _ refl (skip_fallback_after (cast_skips o s) (cast_skips (behind o) s) (skips_behind o)))

    clash_behind : (o : State) (b : ℕ) → tell_clash (behind o) s b ≡ behind (tell_clash o s b)
    unfolding tell_clash
    clash_behind o b = given_behind (none (row_at o.ledger s).clash) o (behind o) _ _ refl refl

    tell_behind : (o : State) (b : ℕ) → tell_final (behind o) s b ≡ behind (tell_final o s b)
    unfolding tell_final
    tell_behind o b =
        let f : ℕ = (row_at o.ledger s).final in
        given_behind (none f) _ _ _ _ (given_behind (eqb f b) (tell_clash o s b) (tell_clash (behind o) s b) _ _ (clash_behind o b) refl) refl

    F-behind : (o : State) → rule_f (behind o) s ≡ behind (rule_f o s)
    unfolding rule_f
    F-behind o =
        let b : ℕ = lowest (is_newcomer o.ledger s) (certifiable o.ledger s) in
        given_behind (not (none b)) o (behind o) _ _ refl (tell_behind o b)

  -- The walk, from what was told of the parent.
  walk_behind : (n : ℕ) (s : ℕ) (o : State) → walk_for n (behind o) s ≡ behind (walk_for n o s)
  unfolding walk_for walk_step walk_to
  walk_behind zero s o = refl
  walk_behind (suc n) s o =
      let k : Block = find_block (row_at o.ledger s).final (blocks_at o.ledger s) in
      let p : ℕ = k.parentslot.0 in
      let q : State = tell_final o p k.parent in
      given_behind (not (none p) && ltb p s) o (behind o) _ _ refl
      (ap (λ (x : State). whenever (eqb (row_at x.ledger p).final k.parent) (λ _. walk_for n x p) x) (tell_behind p o k.parent)
      ∙ given_behind (eqb (row_at q.ledger p).final k.parent) q (behind q) _ _ refl (walk_behind n p q))

  module _ (s : ℕ) where
    G-behind : (o : State) → rule_g (behind o) s ≡ behind (rule_g o s)
    unfolding rule_g
    G-behind o = walk_behind s s o

    voting_behind : (rule : State → ℕ → State) (o : State) → rule (behind o) s ≡ behind (rule o s) → voting rule (behind o) s ≡ behind (voting rule o s)
    unfolding voting
    voting_behind rule o e = given_behind (not (is_watcher o.ledger)) o (behind o) _ _ refl e

    rule_behind : (r : ℕ) (o : State) → rule_at r (behind o) s ≡ behind (rule_at r o s)
    unfolding rule_at
    rule_behind zero o = A-behind s o
    rule_behind (suc zero) o = voting_behind rule_b o (B-behind s o)
    rule_behind (suc (suc zero)) o = voting_behind rule_c o (C-behind s o)
    rule_behind (suc (suc (suc zero))) o = voting_behind rule_d o (D-behind s o)
    rule_behind (suc (suc (suc (suc zero)))) o = voting_behind rule_e o (E-behind s o)
    rule_behind (suc (suc (suc (suc (suc zero))))) o = F-behind s o
    rule_behind (suc (suc (suc (suc (suc (suc zero)))))) o = G-behind o
    rule_behind (suc (suc (suc (suc (suc (suc (suc r))))))) o = refl

  -- As many records more as without those behind.
  quiet_behind : (o p : State) → quiet (behind o) (behind p) ≡ quiet o p
  unfolding quiet
  quiet_behind o p =
      let a = length-append o.records rs in
      let b = length-append p.records rs in
      same_test (eqb (made (behind p)) (made (behind o))) (eqb (made p) (made o))
      (λ e. eq-eqb (made p) (made o) (omega (arith, eqb-true (made (behind p)) (made (behind o)) e, a, b)))
      (λ e. eq-eqb (made (behind p)) (made (behind o)) (omega (arith, eqb-true (made p) (made o) e, a, b)))

  -- A search that goes on where nothing was made, by what comes of the next try.
  quiet_on : (o p p' : State) (f : State → State) → p' ≡ behind p → f (behind p) ≡ behind (f p)
      → whenever (quiet (behind o) p') (λ _. f p') p' ≡ behind (whenever (quiet o p) (λ _. f p) p)
  quiet_on o p p' f e h =
      ap (λ (x : State). whenever (quiet (behind o) x) (λ _. f x) x) e
      ∙ ap (λ (t : Bool). whenever t (λ _. f (behind p)) (behind p)) (quiet_behind o p)
      ∙ given_behind (quiet o p) p (behind p) (λ _. f p) (λ _. f (behind p)) refl h

  rules_behind : (n r : ℕ) (o : State) (s : ℕ) → first_rule n r (behind o) s ≡ behind (first_rule n r o s)
  unfolding first_rule
  rules_behind zero r o s = refl
  rules_behind (suc n) r o s =
      quiet_on o (rule_at r o s) (rule_at r (behind o) s) (λ x. first_rule n (r + 1) x s) (rule_behind s r o) (rules_behind n (r + 1) (rule_at r o s) s)

  slots_behind : (n s : ℕ) (o : State) → first_slot n s (behind o) ≡ behind (first_slot n s o)
  unfolding first_slot
  slots_behind zero s o = refl
  slots_behind (suc n) s o =
      quiet_on o (first_rule 7 0 o s) (first_rule 7 0 (behind o) s) (first_slot n (s + 1)) (rules_behind 7 0 o s) (slots_behind n (s + 1) (first_rule 7 0 o s))

  scan_behind : (o : State) → scan (behind o) ≡ behind (scan o)
  unfolding scan
  scan_behind o = slots_behind last_slot 1 o

  -- The run goes on where something was made.
  loud_on : (o p p' : State) (f : State → State) → p' ≡ behind p → f (behind p) ≡ behind (f p)
      → whenever (not (quiet (behind o) p')) (λ _. f p') p' ≡ behind (whenever (not (quiet o p)) (λ _. f p) p)
  loud_on o p p' f e h =
      ap (λ (x : State). whenever (not (quiet (behind o) x)) (λ _. f x) x) e
      ∙ ap (λ (t : Bool). whenever (not t) (λ _. f (behind p)) (behind p)) (quiet_behind o p)
      ∙ given_behind (not (quiet o p)) p (behind p) (λ _. f p) (λ _. f (behind p)) refl h

  run_for_behind : (n : ℕ) (o : State) → run_for n (behind o) ≡ behind (run_for n o)
  unfolding run_for
  run_for_behind zero o = refl
  run_for_behind (suc n) o = loud_on o (scan o) (scan (behind o)) (run_for n) (scan_behind o) (run_for_behind n (scan o))

  pub run_behind : (o : State) → run (behind o) ≡ behind (run o)
  unfolding run
  run_behind o = run_for_behind 133 o
