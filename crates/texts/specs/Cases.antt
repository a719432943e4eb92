-- Computed cases of the texts: 0 and every refusal have one of their own, and the number after the last has none; which is whose; 9.
use Rattle.std.specs.Prelude.{Bool, not, ◌&&◌, List, [], ◌∷◌, ℕ, T}
use Rattle.rulebook.specs.Tools.{choose, all_to}
use Rattle.rulebook.specs.PaperNumbers.{write_panel}
use Rattle.rulebook.specs.Scripts.{equal, equals}
use Rattle.rulebook.specs.Computes.{rules}
use Rattle.texts.specs.Texts.{bytes_of, last_text, later_text, refusal_text, text_on}

-- The texts of two numbers are the same.
abbrev same : ℕ → ℕ → Bool
same n m = equal (refusal_text n) (refusal_text m)

cases : T (all_to 19 (λ n. not (same n 19) && all_to n (λ m. not (same n m))) && same 19 100)
unfolding choose all_to last_text later_text refusal_text
cases = tt

-- The number and the bytes of a text in a buffer of so many: 511 are too few, 512 and more are enough, whatever the text takes.
abbrev told : ℕ → ℕ → List ℕ
told room n = let w = text_on room n in (write_panel w.answer).number ∷ w.bytes

rooms : T (equals (told 511 18 ∷ told 512 18 ∷ told 600 10 ∷ told 512 2 ∷ told 512 19 ∷ [])
    ((9 ∷ []) ∷ (0 ∷ bytes_of "The certificate or proof asked for is not held.") ∷ (0 ∷ bytes_of "The timeout is for a window that is not armed.") ∷ (0 ∷ bytes_of "The node number is not in the table.") ∷ (0 ∷ bytes_of "No refusal has this number.") ∷ []))
unfolding rules last_text later_text refusal_text text_on
rooms = tt
