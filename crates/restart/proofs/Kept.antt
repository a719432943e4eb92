-- The own votes in a record are those that its outboxes told.
use mathlib.Core.Path.{◌≡◌, refl, sym, ap, ◌∙◌, subst}
use mathlib.Core.Bool.{Bool, true, false, ◌&&◌}
use mathlib.Core.List.{List}
use Prim.Native.Nat.{ℕ, zero, suc, ◌<◌}
use native.Mathlib.Omega.{arith}
use lib.Dec.{T, eqb→eq, leb, ltb, leb→le, le→leb, ltb→lt, nleb→lt}
use lib.ListN.{length, get_or, get_or-eq_default}
use Rattle.rulebook.specs.declared.Cell.{Cell}
use Rattle.rulebook.specs.Weights.{places_for, last_slot, slot_ok}
use Rattle.rulebook.specs.Ledger.{Ledger, Row, none, no_cell, blank_row, no_row, no_card, places, row_at, all_blocks, fresh, cell_at}
use Rattle.rulebook.specs.Cards.{same_card}
use Rattle.rulebook.specs.Inputs.{not_in_table}
use Rattle.rulebook.specs.WellFormed.{block_blank, each_kept, kept_blank, cell_fits, cell_blank, cells_fit, row_blank, head_fits, well_formed}
use Rattle.rule_laws.proofs.ToolLaws.{given_both, given_off, and_both, both_and, all_at}
use Rattle.soundness.proofs.Laws.{sound_formed}
use Rattle.safety.specs.Slot.{Ballot}
use Rattle.safety.specs.Ballots.{has, record_for, among}
use Rattle.safety.specs.Ring.{after_all, made_in}
use Rattle.safety.proofs.Tests.{T_true, true_t, or_t, by_test}
use Rattle.safety.proofs.Cells.{blank_has}
use Rattle.safety.proofs.Steps.{Ready}
use Rattle.safety.proofs.Lives.{life_ready, life_table, life_stored, life_told, fresh_has, fresh_ready, start_in, start_sized}
use Rattle.seen.specs.Seen.{Seen, ledger_in, NodeSeen, node}
use Rattle.seen.proofs.Ring.{told_made}
use Rattle.seen.proofs.Readers.{readers_tell}
use Rattle.restart.specs.Kept.{cell_in, KeptIsTold, ToldInSlots}

-- Tests that pass together are one.
same_test : (a b : Bool) → (T a → T b) → (T b → T a) → a ≡ b
same_test true true f g = refl
same_test true false f g = absurd (f tt)
same_test false true f g = absurd (g tt)
same_test false false f g = refl

never : (a : Bool) → ¬ T a → a ≡ false
never true f = absurd (f tt)
never false f = refl

fifth : (a b c d e : Bool) → (a && (b && (c && (d && e)))) ≡ true → e ≡ true
fifth a b c d e h =
    let p = (and_both a (b && (c && (d && e))) h).1 in
    let q = (and_both b (c && (d && e)) p).1 in
    (and_both d e (and_both c (d && e) q).1).1

-- A cell with nothing in it.
blank_cell : (c : Cell) → cell_blank c ≡ true → c ≡ no_cell
unfolding cell_blank
blank_cell c h =
    let p = and_both (none c.notar && none c.skip) _ h in
    let q = and_both (none c.fallback1 && (none c.fallback2 && none c.fallback3)) _ p.1 in
    let i = and_both (none c.notar) (none c.skip) p.0 in
    let f = and_both (none c.fallback1) (none c.fallback2 && none c.fallback3) q.0 in
    let g = and_both (none c.fallback2) (none c.fallback3) f.1 in
    let k = and_both (none c.skipfallback) (none c.finalvote) q.1 in
    let is : (x : ℕ) → none x ≡ true → x ≡ 0 = λ x e. eqb→eq x 0 (true_t (none x) e) in
    λ j. record {
      notar = is c.notar i.0 j;
      skip = is c.skip i.1 j;
      fallback1 = is c.fallback1 f.0 j;
      fallback2 = is c.fallback2 g.0 j;
      fallback3 = is c.fallback3 g.1 j;
      skipfallback = is c.skipfallback k.0 j;
      finalvote = is c.finalvote k.1 j;
    }

module _ (stakes : List ℕ) (own genesis : ℕ) (v : Seen) (h : NodeSeen stakes own genesis v) where
  ready : Ready (places_for (length stakes)) own (fresh stakes own genesis)
  ready = fresh_ready stakes own genesis (start_sized stakes own genesis h.started)

  -- What stands in the own cell is what was told.
  pub own_is_told : (s : ℕ) (b : Ballot) → has (cell_at (ledger_in v) s own) b ≡ among v.told (record_for s b)
  own_is_told s b =
      let l = fresh stakes own genesis in
      let e : has (cell_at (ledger_in v) s own) b ≡ has (cell_at (after_all l v.came) s own) b = ap (λ (m : Ledger). has (cell_at m s own) b) h.lived.ledger in
      e
      ∙ same_test (has (cell_at (after_all l v.came) s own) b) (made_in l v.came (record_for s b))
      (λ t. or_t (made_in l v.came (record_for s b)) (has (cell_at l s own) b) (life_told own l v.came ready s b t) (λ u. u) (λ u. absurd (fresh_has stakes own genesis s own b u)))
      (life_stored own l v.came ready s b)
      ∙ sym (told_made l v h.lived (record_for s b))

  count_is : (ledger_in v).count ≡ length stakes
  unfolding fresh
  count_is = ap (λ (m : Ledger). m.count) h.lived.ledger ∙ (life_table own (fresh stakes own genesis) v.came ready).count

  in_table_lem : not_in_table (ledger_in v).count own ≡ false
  in_table_lem = never (leb (ledger_in v).count own) (λ t. omega (arith, leb→le (ledger_in v).count own t, count_is, start_in stakes own genesis h.started))

  end_ready : Ready (places_for (length stakes)) own (ledger_in v)
  end_ready = subst (Ready (places_for (length stakes)) own) (sym h.lived.ledger) (life_ready own (fresh stakes own genesis) v.came ready)

  -- No row is past the last slot's,
  past_blank : (s : ℕ) → last_slot < s → cell_at (ledger_in v) s own ≡ no_cell
  unfolding no_row blank_row
  past_blank s lt =
      ap (λ (r : Row). get_or r.cells own no_cell) (get_or-eq_default (ledger_in v).rows no_row {n = s} (omega (arith, lt, end_ready.shaped.rows)))

  -- and row 0 is unused.
  zero_blank : cell_at (ledger_in v) 0 own ≡ no_cell
  unfolding well_formed row_blank cells_fit
  zero_blank =
      let l = ledger_in v in
      let w = (given_both (head_fits l) _ (sound_formed v.words h.lived.sound)).1 in
      let r = row_at l 0 in
      let cells =
      fifth (all_blocks block_blank r.blocks) (none r.timed_out && (none r.final && none r.clash)) (same_card r.card no_card)
      (each_kept (λ i q. kept_blank q) 0 r.certificates) (cells_fit l 0 0) (given_both (row_blank l) _ w).0 in
      let lt : own < places l = omega (arith, start_in stakes own genesis h.started, count_is, end_ready.count, end_ready.shaped.stakes) in
      let off : ltb own 0 ≡ false = never (ltb own 0) (λ t. omega (arith, ltb→lt own 0 t)) in
      blank_cell (cell_at l 0 own) (sym (given_off (ltb own 0) (cell_blank (cell_at l 0 own)) (λ _. cell_fits (cell_at l 0 own)) off) ∙ all_at (places l) own _ cells lt)

  told_ok : (s : ℕ) (b : Ballot) → T (among v.told (record_for s b)) → slot_ok s ≡ true
  unfolding slot_ok
  told_ok zero b t = absurd (blank_has b (subst (λ (c : Cell). T (has c b)) zero_blank (subst T (sym (own_is_told 0 b)) t)))
  told_ok (suc s) b t =
      by_test (leb (suc s) last_slot) (λ u. both_and (leb 1 (suc s)) (leb (suc s) last_slot) (T_true (leb 1 (suc s)) (le→leb 1 (suc s) (omega arith))) (T_true (leb (suc s) last_slot) u))
      (λ u. absurd (blank_has b (subst (λ (c : Cell). T (has c b)) (past_blank (suc s) (nleb→lt (suc s) last_slot u)) (subst T (sym (own_is_told (suc s) b)) t))))

pub kept_is_told : KeptIsTold
kept_is_told stakes own genesis v h s number values r ok =
    let t = (readers_tell stakes genesis v (node own h)).votes s own number values r ok (in_table_lem stakes own genesis v h) in
    (t.0, λ b. ap (λ (ws : List ℕ). has (cell_in ws) b) t.1 ∙ own_is_told stakes own genesis v h s b)

pub told_in_slots : ToldInSlots
told_in_slots stakes own genesis v h s b t = told_ok stakes own genesis v h s b t
