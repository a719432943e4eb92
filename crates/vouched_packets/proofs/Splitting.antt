-- The ways through the question where a proof's first certificate ends. Assumes nothing.
use Rattle.std.specs.Prelude.{Ok, Err}
use mathlib.Core.Path.{◌≡◌, sym, ap, ◌∙◌}
use mathlib.Core.Bool.{true, false}
use mathlib.Core.List.{List}
use Prim.Native.Nat.{ℕ}
use Rattle.rulebook.specs.declared.Accepted.{Accepted}
use Rattle.rulebook.specs.declared.Refusal.{Refusal}
use Rattle.rulebook.specs.declared.Refusal.TheVariants as refusal
use Rattle.rulebook.specs.Ledger.{table_of}
use Rattle.rulebook.specs.Checker.{check_proof}
use Rattle.rule_laws.proofs.ToolLaws.{given_on, given_off}
use Rattle.record.specs.Layout.{ledger_of}
use Rattle.soundness.specs.Sound.{sound_words}
use Rattle.vouched_packets.specs.Asked.{first_end}
use Rattle.vouched_packets.specs.Split.{split_by, split_on}

module _ (ws packet : List ℕ) where
  pub split_unsound : sound_words ws ≡ false → Err refusal.BadRecord ≡ split_on ws packet
  unfolding split_on
  split_unsound e = sym (given_off (sound_words ws) (Err refusal.BadRecord) _ e)

  pub split_sound : sound_words ws ≡ true → split_by packet (check_proof (table_of (ledger_of ws)) packet) ≡ split_on ws packet
  unfolding split_on
  split_sound e = sym (given_on (sound_words ws) (Err refusal.BadRecord) _ e)

  pub split_refused : sound_words ws ≡ true → (r : Refusal) → Err r ≡ check_proof (table_of (ledger_of ws)) packet → Err r ≡ split_on ws packet
  unfolding split_by
  split_refused e r c = ap (split_by packet) c ∙ split_sound e

  pub split_there : sound_words ws ≡ true → (a : Accepted) → Ok a ≡ check_proof (table_of (ledger_of ws)) packet → (n : ℕ) → n ≡ first_end packet
      → Ok n ≡ split_on ws packet
  unfolding split_by
  split_there e a c n d = ap Ok d ∙ (ap (split_by packet) c ∙ split_sound e)
