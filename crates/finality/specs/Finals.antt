-- Once the rules have settled, what is final was told of.
use Rattle.std.specs.Prelude.{◌≡◌, true, false, ◌⊎◌, ℕ, ◌≤◌, ◌<◌}
use Rattle.rulebook.specs.Weights.{last_slot}
use Rattle.rulebook.specs.Ledger.{Ledger, none, row_at, keeps_block}
use Rattle.rulebook.specs.Rules.{State, is_final}
use Rattle.record.specs.Tabled.{Tabled}
use Rattle.settling.specs.Facts.{Sound}
use Rattle.settling.specs.Steps.{Settled}

-- Block b is slot s's final block, or the slot has the mark of another.
abbrev pub IsTold : Ledger → ℕ → ℕ → Type 0
IsTold l s b = ((row_at l s).final ≡ b) ⊎ (none (row_at l s).clash ≡ false)

-- Where no rule applies, a block that is final by certificates is its slot's final block, or the slot has the mark.
abbrev pub CertifiedIsTold : Type 0
CertifiedIsTold =
    (o : State) → Settled o → Tabled o.ledger → (s b : ℕ) → 1 ≤ s → s ≤ last_slot → none b ≡ false → is_final o.ledger s b ≡ true → IsTold o.ledger s b

-- Likewise the parent of a slot's final block that is kept with it, genesis aside.
abbrev pub ParentIsTold : Type 0
ParentIsTold =
    (o : State) → Settled o → Sound o.ledger → (s p x : ℕ) → 1 ≤ s → s ≤ last_slot → 1 ≤ p
    → keeps_block o.ledger s (row_at o.ledger s).final p x ≡ true → IsTold o.ledger p x
