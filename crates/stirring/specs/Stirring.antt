-- Which votes can stir a later slot: those after which a slot may hold a certificate more that parents are asked for.
use Rattle.std.specs.Prelude.{◌≡◌, Bool, true, false, not, ◌&&◌, List, ℕ, ◌≤◌, ◌<◌, eqb}
use Rattle.rulebook.specs.declared.CertificateKind.TheVariants as certificate
use Rattle.rulebook.specs.declared.VoteKind.{VoteKind}
use Rattle.rulebook.specs.declared.VoteKind.TheVariants as vote
use Rattle.rulebook.specs.Weights.{last_slot, is_first, reaches}
use Rattle.rulebook.specs.Ledger.{Ledger, none, first_block, own_cell, no_initial, is_armed}
use Rattle.rulebook.specs.Cards.{leader, most}
use Rattle.rulebook.specs.Pool.{reached, held}
use Rattle.rulebook.specs.Rules.{fallback_block}
use Rattle.candidates.specs.Judging.{Judging}
use Rattle.looks.specs.Looks.{is_short, names_block}

-- Kind 3 for block b of slot s may be reached by one vote more: by the look enough name a block, and the leader's notar votes do not hold it.
unfoldable pub opens_block : Ledger → List ℕ → ℕ → ℕ → Bool
opens_block l looks s b = not (is_short l looks s) && not (eqb (leader l s) b && reaches 3 l.total (most l s))

-- A vote of this kind may bring slot s a certificate that parents are asked for: kind 3 by a vote that names a block, kind 4 by one for skip.
unfoldable pub opens : Ledger → List ℕ → ℕ → VoteKind → ℕ → Bool
opens l looks s vote.Notar b = opens_block l looks s b
opens l looks s vote.NotarFallback b = opens_block l looks s b
opens l looks s vote.Skip b = not (held l certificate.Skip s 0)
opens l looks s vote.SkipFallback b = not (held l certificate.Skip s 0)
opens l looks s vote.Final b = false
opens l looks s vote.Other b = false

-- Slot t waits for nothing that lower slots hold: a window's first is armed and has no block to vote for; in another D finds no block.
pub record Unwaiting (l : Ledger) (t : ℕ) : Type 0 where
  pub armed : is_first t ≡ true → is_armed l t ≡ true
  pub voted : is_first t ≡ true → (no_initial (own_cell l t) && not (none (first_block l t).number)) ≡ false
  pub alone : is_first t ≡ false → no_initial (own_cell l t) ≡ false → fallback_block l t ≡ 0

-- No slot behind s waits.
abbrev pub Unawaited : Ledger → ℕ → Type 0
Unawaited l s = (t : ℕ) → s < t → t ≤ last_slot → Unwaiting l t

-- No slot behind s waits; or no block of s reaches kind 3 by votes; or s does not hold kind 4.
pub data Unstirred (l : Ledger) (s : ℕ) (k : VoteKind) : Type 0 where
  unwaited : Unawaited l s → Unstirred l s k
  unnamed : names_block k ≡ true → ((x : ℕ) → none x ≡ false → reached l certificate.NotarFallback s x ≡ false) → Unstirred l s k
  unskipped : names_block k ≡ false → held l certificate.Skip s 0 ≡ false → Unstirred l s k

-- The rules of every slot can be judged.
pub record Standing (ws : List ℕ) : Type 0 where
  pub each : (t : ℕ) → 1 ≤ t → t ≤ last_slot → Judging ws t
