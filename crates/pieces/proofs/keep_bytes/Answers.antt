-- The bytes that fit are copied behind the kept ones, and the mark counts them.
use Rattle.pieces.specs.State.{kept}
use lib.Seq.{paste}
use lib.ListN.{set}
use Rattle.pieces.specs.State.{kept_words, kept_front}
use mathlib.Core.Path.{◌∙◌, ap}
use Prim.Native.Nat.{ℕ, ◌+◌}
use Rattle.pieces.proofs.keep_bytes.Goals as goal

pub returns : goal.returns
unfolding kept_words kept_front
returns c =
    let ws = c.args.words.now in record { words = ap (λ (n : ℕ). set ws 0 (kept ws + n + 1)) c.min-n.ensures; front = c.copy_first.ensures ∙ ap (paste c.args.front.now (kept ws) c.args.bytes.now) c.min-n.ensures }
