-- What a block that would be taken is not, the ways through the question, and where its slot's weights are asked for. Assumes nothing.
use Rattle.std.specs.Prelude.{⊤, Result, Ok, Err}
use mathlib.Core.Path.{◌≡◌, refl, sym, ap, ◌∙◌}
use mathlib.Core.Bool.{Bool, true, false, not, ◌||◌}
use mathlib.Core.List.{List}
use Prim.Native.Nat.{ℕ, ◌≤◌}
use native.Mathlib.Omega.{arith}
use lib.Dec.{leb}
use borrow.Author.Tests.{leb-true, not-false}
use Rattle.rulebook.specs.declared.Block.{Block}
use Rattle.rulebook.specs.declared.Refusal.{Refusal}
use Rattle.rulebook.specs.declared.Refusal.TheVariants as refusal
use Rattle.rulebook.specs.Weights.{last_slot, slot_ok}
use Rattle.rulebook.specs.Ledger.{Ledger, none, blocks_at, some_block, all_blocks, is_free, has_number}
use Rattle.rulebook.specs.Rules.{fallback_weights}
use Rattle.rulebook.specs.Inputs.{refuse_if, bad_parent, same_block, stands_against, block_verdict}
use Rattle.rule_laws.proofs.ToolLaws.{given_on, given_off, and_both}
use Rattle.record.specs.Layout.{InSlot, ledger_of}
use Rattle.soundness.specs.Sound.{sound_words}
use Rattle.soundness.proofs.Laws.{sound_long, sound_tabled, sound_cards}
use Rattle.pool.specs.Weighing.{Carded}
use Rattle.mail.specs.Policy.{may_announce}
use Rattle.announcing.specs.Asked.{judged, announced_on}

-- A test that refuses nothing was not met.
passed : (b : Bool) (r : Refusal) (v : Result ⊤ Refusal) → refuse_if b r v ≡ Ok tt → (b ≡ false) × (v ≡ Ok tt)
unfolding refuse_if
passed true r v e = let z : ◌≡◌ {A = ℕ} 0 1 = cc in absurd (omega arith)
passed false r v e = (refl, e)

neither : (a b : Bool) → (a || b) ≡ false → (a ≡ false) × (b ≡ false)
neither false b e = (refl, e)
neither true b e = let z : ◌≡◌ {A = ℕ} 0 1 = cc in absurd (omega arith)

-- A block that would be taken is of one of the slots 1 to 16, and no block of its number is kept there.
module _ (l : Ledger) (s : ℕ) (b : Block) (fine : block_verdict l s b ≡ Ok tt) where
  tests : (not (slot_ok s) ≡ false) × (stands_against b (blocks_at l s) ≡ false)
  unfolding block_verdict
  tests =
      let slot = passed (not (slot_ok s)) refusal.BadSlot _ fine in
      let number = passed (none b.number || none b.parent) refusal.BadBlock _ slot.1 in
      let parent = passed (bad_parent l s b) refusal.BadParent _ number.1 in
      let same = passed (some_block (λ k. same_block k b) (blocks_at l s)) refusal.AlreadyKept _ parent.1 in
      let other = passed (stands_against b (blocks_at l s)) refusal.OtherStands (Ok tt) same.1 in
      (slot.0, other.0)

  pub fine_slot : (1 ≤ s) × (s ≤ last_slot)
  unfolding slot_ok
  fine_slot =
      let h = and_both (leb 1 s) (leb s last_slot) (not-false (slot_ok s) tests.0) in
      (leb-true 1 s h.0, leb-true s last_slot h.1)

  fine_new : some_block (has_number b.number) (blocks_at l s) ≡ false
  unfolding stands_against
  fine_new = (neither (some_block (has_number b.number) (blocks_at l s)) (not (some_block is_free (blocks_at l s))) tests.1).0

  -- So the policy asks of it that it is the first, or has the weights.
  pub fine_due : (all_blocks is_free (blocks_at l s) || fallback_weights l s b.number) ≡ may_announce l s b.number
  unfolding may_announce
  fine_due = ap (λ (x : Bool). all_blocks is_free (blocks_at l s) || (x || fallback_weights l s b.number)) (sym fine_new)

-- ---- the ways through the question

module _ (ws : List ℕ) (s : ℕ) (b : Block) where
  pub asked_unsound : sound_words ws ≡ false → Err refusal.BadRecord ≡ announced_on ws s b
  unfolding announced_on
  asked_unsound e = sym (given_off (sound_words ws) (Err refusal.BadRecord) _ e)

  pub asked_sound : sound_words ws ≡ true → judged (ledger_of ws) s b (block_verdict (ledger_of ws) s b) ≡ announced_on ws s b
  unfolding announced_on
  asked_sound e = sym (given_on (sound_words ws) (Err refusal.BadRecord) _ e)

  pub asked_refused : sound_words ws ≡ true → (r : Refusal) → Err r ≡ block_verdict (ledger_of ws) s b → Err r ≡ announced_on ws s b
  unfolding judged
  asked_refused e r v = ap (judged (ledger_of ws) s b) v ∙ asked_sound e

  pub asked_fine : sound_words ws ≡ true → Ok tt ≡ block_verdict (ledger_of ws) s b → (due : Bool)
      → due ≡ (all_blocks is_free (blocks_at (ledger_of ws) s) || fallback_weights (ledger_of ws) s b.number) → Ok due ≡ announced_on ws s b
  unfolding judged
  asked_fine e v due d = ap Ok (d ∙ fine_due (ledger_of ws) s b (sym v)) ∙ (ap (judged (ledger_of ws) s b) v ∙ asked_sound e)

-- A slot whose weights can be asked for has a row.
pub row_of : (ws : List ℕ) (s : ℕ) → Carded ws s → InSlot ws s
row_of ws s c = record { long = c.weighing.long; slot = c.weighing.slot }

-- The weights of a slot of sound words can be asked for.
pub carded : (ws : List ℕ) (s : ℕ) → sound_words ws ≡ true → (1 ≤ s) × (s ≤ last_slot) → Carded ws s
carded ws s e h =
    record { weighing = record { long = sound_long ws e; slot = omega (arith, h.1); table = sound_tabled ws e }; later = h.0; cards = sound_cards ws e }
