-- No word, a word that is no packet, and the numbers after it.
use mathlib.Core.Path.{sym, ◌∙◌}
use Prim.Native.Nat.{ℕ}
use native.Mathlib.Omega.{arith}
use lib.ListN.{length-replicate}
use Rattle.commands.proofs.Laws.{no_packet, bad_packet, good_packet}
use Rattle.commands.proofs.packet_and_stakes.Goals as goal

pub returns-then-to-from : goal.returns-then-to-from
returns-then-to-from c = no_packet _ _ c.word_at-from.result c.word_at-from.ensures c.if-to-from.true

pub returns-then-is_some : goal.returns-then-is_some
returns-then-is_some c =
    good_packet _ _ c.word_at-from.result c.word_at-from.ensures (omega arith) c.read_hex.result _ (length-replicate {A = ℕ} 32768 0) c.read_hex.ensures.answer _ (sym c.is_some.ensures ∙ c.if-is_some.true) c.at_least.ensures

pub returns-else-is_some : goal.returns-else-is_some
returns-else-is_some c =
    c.if-is_some.false ∙ bad_packet _ _ c.word_at-from.result c.word_at-from.ensures (omega arith) c.read_hex.result _ (length-replicate {A = ℕ} 32768 0) c.read_hex.ensures.answer (sym c.is_some.ensures ∙ c.if-is_some.false)
