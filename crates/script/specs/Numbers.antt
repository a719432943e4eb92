-- What the rest of a line says as numbers.
use Rattle.std.specs.Prelude.{◌≡◌, List, ℕ, zero, suc, ◌+◌, ◌-◌, min, ltb, length, set, take, drop, Option, Some, None, Result, Ok, Err}
use Rattle.rulebook.specs.Tools.{whenever}
use Rattle.std.specs.List.{prefix_len}
use Rattle.script.specs.declared.NoNumber.{NoNumber}
use Rattle.script.specs.Words.{is_space, is_ink}
use Rattle.script.specs.Digits.{decimal_of}

-- Where the next word at or after a place begins, and where it ends.
unfoldable pub word_from : List ℕ → ℕ → ℕ
word_from line at = let a = min at (length line) in a + prefix_len is_space (drop a line)

unfoldable pub word_to : List ℕ → ℕ → ℕ
word_to line at = let from = word_from line at in from + prefix_len is_ink (drop from line)

-- The answer, and the buffer with the numbers in it.
pub record Read : Type 0 where
  pub answer : Result ℕ NoNumber
  pub out : List ℕ

-- Every word was a number, or one was none.
abbrev pub read : ℕ → List ℕ → Read
read n out = record { answer = Ok n; out = out }

abbrev pub stopped : ℕ → List ℕ → Read
stopped n out = record { answer = Err (record { before = n }); out = out }

-- A word that is no number ends the reading; else it goes on.
unfoldable pub onward : Option ℕ → Read → (ℕ → Read) → Read
onward (Some v) stop next = next v
onward None stop next = stop

-- From a place on, after `count` numbers: word after word, each number put to its place where the buffer has one. A line of n bytes has
-- no more than n words, so the first argument only bounds the reading.
unfoldable pub numbers_from : ℕ → List ℕ → ℕ → ℕ → List ℕ → Read
numbers_from zero line at count out = read count out
numbers_from (suc n) line at count out =
    let from = word_from line at in
    let to = word_to line at in
    whenever (ltb at (length line)) (λ _. whenever (ltb from to)
    (λ _. onward (decimal_of (take (to - from) (drop from line))) (stopped count out) (λ v. numbers_from n line to (count + 1) (set out count v)))
    (read count out)) (read count out)

unfoldable pub numbers_of : List ℕ → ℕ → List ℕ → Read
numbers_of line at out = numbers_from (suc (length line)) line at 0 out

pub record NumbersIn (line : List ℕ) (at : ℕ) (out : List ℕ) (r : Result ℕ NoNumber) (left : List ℕ) : Type 0 where
  pub answer : r ≡ (numbers_of line at out).answer
  pub buffer : left ≡ (numbers_of line at out).out
  pub long : length left ≡ length out
