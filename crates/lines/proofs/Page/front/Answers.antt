-- Bytes past the buffer's end are none.
use mathlib.Core.Path.{◌≡◌, ap, sym, ◌∙◌}
use mathlib.Core.List.{List}
use Prim.Native.Nat.{ℕ, min}
use native.Mathlib.Omega.{arith}
use lib.Dec.{leb}
use lib.ListN.{length, take}
use lib.Seq.{take_all}
use borrow.Author.Tests.{leb-true, leb-false}
use Rattle.rule_laws.proofs.ToolLaws.{by_test}
use Rattle.lines.specs.Text.{hex_text}
use Rattle.lines.proofs.Paging.{as_text}
use Rattle.lines.proofs.Page.front.Goals as goal

take_least : (n : ℕ) (xs : List ℕ) → take (min n (length xs)) xs ≡ take n xs
take_least n xs =
    by_test (leb n (length xs))
    (λ t. let h = leb-true n (length xs) t in ap (λ (k : ℕ). take k xs) (omega arith))
    (λ t. let h = leb-false n (length xs) t in take_all _ xs (omega arith) ∙ sym (take_all n xs (omega arith)))

pub returns : goal.returns
returns c = as_text (ap hex_text (ap (λ (k : ℕ). take k c.args.buffer.now) c.min-end.ensures ∙ take_least _ c.args.buffer.now)) c.hex.ensures
