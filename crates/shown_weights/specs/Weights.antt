-- What the votes of a slot weigh, defined for any words and any slot.
use Rattle.std.specs.Prelude.{Bool, false, not, ◌&&◌, List, ℕ, ◌*◌, ◌/◌, leb}
use Rattle.rulebook.specs.declared.Who.{Who}
use Rattle.rulebook.specs.declared.CertificateKind.{CertificateKind}
use Rattle.rulebook.specs.Tools.{choose, whenever}
use Rattle.rulebook.specs.Weights.{most_stake, slot_ok}
use Rattle.rulebook.specs.Ledger.{none}
use Rattle.rulebook.specs.Pool.{weigh, held, missing_to}
use Rattle.rulebook.specs.Rules.{is_final}
use Rattle.record.specs.Layout.{ledger_of}
use Rattle.soundness.specs.Sound.{sound_words}
use Rattle.rulebook.specs.declared.CertificateKind.TheVariants as certificate

-- A slot's weight of those who count; 0 where the words are no sound record, or the slot is not one of 1 to 16.
unfoldable pub weight_shown : List ℕ → ℕ → Who → ℕ
weight_shown ws s who = whenever (slot_ok s && sound_words ws) (λ _. weigh (ledger_of ws) s who) 0

-- The certificate is held; none is where the words are no sound record, or the slot is not one of 1 to 16.
unfoldable pub held_shown : List ℕ → CertificateKind → ℕ → ℕ → Bool
held_shown ws k s b = whenever (slot_ok s && sound_words ws) (λ _. held (ledger_of ws) k s b) false

-- Block b of slot s is final by certificates: fast-final is held for it, or notar for it and final for the slot; none is where the words
-- are no sound record, or the slot is not one of 1 to 16.
unfoldable pub certified_shown : List ℕ → ℕ → ℕ → Bool
certified_shown ws s b = whenever (slot_ok s && sound_words ws) (λ _. is_final (ledger_of ws) s b) false

-- What is missing in slot s to a certificate by the stored votes; likewise, 0.
unfoldable pub missing_shown : List ℕ → CertificateKind → ℕ → ℕ → ℕ
missing_shown ws k s b = whenever (slot_ok s && sound_words ws) (λ _. missing_to (ledger_of ws) k s b) 0

-- What is missing to a certificate that is not held; nothing is to one that is kept, whatever the votes weigh.
unfoldable pub short_of : List ℕ → CertificateKind → ℕ → ℕ → ℕ
short_of ws k s b = choose (held_shown ws k s b) 0 (missing_shown ws k s b)

-- The next certificate that a block could reach: notar-fallback, once that is held notar, and then fast-final.
unfoldable pub next_for : List ℕ → ℕ → ℕ → CertificateKind
next_for ws s b =
    choose (held_shown ws certificate.Notar s b) certificate.FastFinal
    (choose (held_shown ws certificate.NotarFallback s b) certificate.Notar certificate.NotarFallback)

-- A weight's percent of a total, rounded down; 0 where there is no total, or the weight is more than all stake can be.
unfoldable pub percent : ℕ → ℕ → ℕ
percent w t = whenever (not (none t) && leb w most_stake) (λ _. 100 * w / t) 0
