-- D and E by the ways through their tests: what code that has gone such a way cites. Assumes nothing.
use mathlib.Core.Path.{◌≡◌, refl, sym, ap, ◌∙◌}
use mathlib.Core.Bool.{Bool, true, false, not, ◌&&◌, ◌||◌}
use mathlib.Core.List.{List}
use Prim.Native.Nat.{ℕ, ◌≤◌}
use borrow.Author.Tests.{ne_eqb}
use Rattle.rulebook.specs.declared.Cell.{Cell}
use Rattle.rulebook.specs.declared.VoteKind.TheVariants as vote
use Rattle.rulebook.specs.Weights.{last_slot}
use Rattle.rulebook.specs.Ledger.{none, no_initial, is_watcher, own_cell}
use Rattle.rulebook.specs.Inputs.{misfits}
use Rattle.rulebook.specs.Rules.{State, cast, cast_skips, rule_d, rule_e, may_fallback, fallback_weights, fallback_block, cast_fallback, window_open, may_skip_fallback, skip_weights, cast_skip_fallback}
use Rattle.rule_laws.proofs.ToolLaws.{given_on, given_off, given_keeps, and_both}
use Rattle.record.specs.Layout.{ledger_of}
use Rattle.settling.specs.Facts.{Sound}
use Rattle.settling.specs.Steps.{AndVotes, Came, weighed}
use Rattle.settling.proofs.VoteLaws.{skipfallback_free}
use Rattle.settling.proofs.LawfulRules.{voter_casting, falls_weigh, skips_weigh, behind_keeps}
use Rattle.settling.proofs.Spending.{came_self, came_lawful}
use Rattle.voter.specs.Outbox.{state_in}
use Rattle.voter.specs.Voting.{CastingAt, Onward}
use Rattle.voter.proofs.LiveLaws.{votes_on_lem, onward_then}
use Rattle.fallbacks.specs.Fallbacks.{add_notar_fallback, add_skip_fallback}
use Rattle.fallbacks.specs.UnderWay.{WeighedAt}

module _ (o : State) (s : ℕ) where
  -- ---- D

  pub fallback_on : (b : ℕ) → may_fallback (own_cell o.ledger s) b ≡ true → cast o s vote.NotarFallback b ≡ add_notar_fallback o s b
  unfolding add_notar_fallback
  fallback_on b e = sym (given_on (may_fallback (own_cell o.ledger s) b) o (λ _. cast o s vote.NotarFallback b) e)

  pub fallback_off : (b : ℕ) → may_fallback (own_cell o.ledger s) b ≡ false → o ≡ add_notar_fallback o s b
  unfolding add_notar_fallback
  fallback_off b e = sym (given_off (may_fallback (own_cell o.ledger s) b) o (λ _. cast o s vote.NotarFallback b) e)

  pub D-on : no_initial (own_cell o.ledger s) ≡ false → none (fallback_block o.ledger s) ≡ false → rule_d o s ≡ cast_fallback o s (fallback_block o.ledger s)
  unfolding rule_d
  D-on e f =
      given_on (not (no_initial (own_cell o.ledger s))) o _ (ap not e)
      ∙ given_on (not (none (fallback_block o.ledger s))) o (λ _. cast_fallback o s (fallback_block o.ledger s)) (ap not f)

  pub D-none : no_initial (own_cell o.ledger s) ≡ false → none (fallback_block o.ledger s) ≡ true → rule_d o s ≡ o
  unfolding rule_d
  D-none e f =
      given_on (not (no_initial (own_cell o.ledger s))) o _ (ap not e)
      ∙ given_off (not (none (fallback_block o.ledger s))) o (λ _. cast_fallback o s (fallback_block o.ledger s)) (ap not f)

  pub D-off : no_initial (own_cell o.ledger s) ≡ true → rule_d o s ≡ o
  unfolding rule_d
  D-off e = given_off (not (no_initial (own_cell o.ledger s))) o _ (ap not e)

  -- ---- E

  pub skip_fallback_on : may_skip_fallback (own_cell o.ledger s) ≡ true → cast o s vote.SkipFallback 0 ≡ add_skip_fallback o s
  unfolding add_skip_fallback
  skip_fallback_on e = sym (given_on (may_skip_fallback (own_cell o.ledger s)) o (λ _. cast o s vote.SkipFallback 0) e)

  pub skip_fallback_off : may_skip_fallback (own_cell o.ledger s) ≡ false → o ≡ add_skip_fallback o s
  unfolding add_skip_fallback
  skip_fallback_off e = sym (given_off (may_skip_fallback (own_cell o.ledger s)) o (λ _. cast o s vote.SkipFallback 0) e)

  abbrev may_skip : Bool
  may_skip = not (none (own_cell o.ledger s).notar) && (window_open o.ledger s || may_skip_fallback (own_cell o.ledger s))

  pub E-on : may_skip ≡ true → skip_weights o.ledger s ≡ true → rule_e o s ≡ cast_skip_fallback o s
  unfolding rule_e
  E-on e f = given_on may_skip o _ e ∙ given_on (skip_weights o.ledger s) o (λ _. cast_skip_fallback o s) f

  pub E-none : may_skip ≡ true → skip_weights o.ledger s ≡ false → rule_e o s ≡ o
  unfolding rule_e
  E-none e f = given_on may_skip o _ e ∙ given_off (skip_weights o.ledger s) o (λ _. cast_skip_fallback o s) f

  pub E-off : may_skip ≡ false → rule_e o s ≡ o
  unfolding rule_e
  E-off e = given_off may_skip o _ e

-- ---- what D and E cast behind the skips is paid from the potential

module _ (o : State) (s : ℕ) (h : Sound o.ledger) (v : is_watcher o.ledger ≡ false) (low : 1 ≤ s) (high : s ≤ last_slot) where
  pub fallback_comes : (b : ℕ) → none b ≡ false → fallback_weights o.ledger s b ≡ true → Came o (add_notar_fallback o s b)
  unfolding add_notar_fallback
  fallback_comes b m w = (behind_keeps (AndVotes (Came o)) (voter_casting (Came o) (came_lawful o)) s low high o b m w (came_self o h, v)).0

  pub skip_fallback_comes : Came o (add_skip_fallback o s)
  unfolding add_skip_fallback may_skip_fallback misfits weighed
  skip_fallback_comes =
      let c : Cell = own_cell o.ledger s in
      given_keeps (Came o) (may_skip_fallback c) o (λ _. cast o s vote.SkipFallback 0) (came_self o h)
      (λ e. (came_lawful o).vote o s vote.SkipFallback 0 low high v (skipfallback_free c (and_both (none c.finalvote) (none c.skipfallback) e).1) refl refl (came_self o h))

-- ---- the skips, then the fallback

-- The block that D acts on has its weights.
pub weighed_block : {ws out : List ℕ} {at s b : ℕ} → CastingAt ws out at s → b ≡ fallback_block (ledger_of ws) s → (b ≡ 0 → ⊥) → WeighedAt ws out at s b
weighed_block {ws = ws} {s = s} {b = b} v e ne =
    let m : none (fallback_block (ledger_of ws) s) ≡ false = ne_eqb (fallback_block (ledger_of ws) s) 0 (λ z. ne (e ∙ z)) in
    record {
      casting = v;
      block = ne_eqb b 0 ne;
      weights = ap (λ (x : ℕ). fallback_weights (ledger_of ws) s x) e ∙ falls_weigh (ledger_of ws) s m;
    }

-- The skips leave rule D's weights as they were reached.
pub weighed_behind : {ws out ws' out' : List ℕ} {at now s b : ℕ} → WeighedAt ws out at s b → Onward ws out at ws' out' now (cast_skips (state_in ws out at) s)
    → WeighedAt ws' out' now s b
weighed_behind {ws = ws} {out = out} {at = at} {s = s} {b = b} v a =
    let o : State = state_in ws out at in
    let p = v.casting.live in
    let k = skips_weigh (AndVotes (Came o)) (voter_casting (Came o) (came_lawful o)) s p.low p.high o b v.block v.weights (came_self o p.live.sound, v.casting.votes) in
    record {
      casting = record { live = record { live = a.live; low = p.low; high = p.high }; votes = votes_on_lem a.same v.casting.votes };
      block = v.block;
      weights = ap (λ (x : State). fallback_weights x.ledger s b) a.moved.is ∙ k.1;
    }

module _ {ws out ws' out' ws'' out'' : List ℕ} {at now now' : ℕ} (s : ℕ) (skips : Onward ws out at ws' out' now (cast_skips (state_in ws out at) s)) where
  pub then_fallback : (b : ℕ) → Onward ws' out' now ws'' out'' now' (add_notar_fallback (state_in ws' out' now) s b)
      → Onward ws out at ws'' out'' now' (cast_fallback (state_in ws out at) s b)
  unfolding cast_fallback add_notar_fallback
  then_fallback b a = onward_then (λ (x : State). add_notar_fallback x s b) skips a

  pub then_skip_fallback : Onward ws' out' now ws'' out'' now' (add_skip_fallback (state_in ws' out' now) s)
      → Onward ws out at ws'' out'' now' (cast_skip_fallback (state_in ws out at) s)
  unfolding cast_skip_fallback add_skip_fallback
  then_skip_fallback a = onward_then (λ (x : State). add_skip_fallback x s) skips a
