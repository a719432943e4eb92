-- The lines of a list: five words each, one after another. Assumes nothing.
use mathlib.Core.Path.{◌≡◌, refl, ap, ◌∙◌}
use mathlib.Core.List.{List, []}
use Prim.Native.Nat.{ℕ, zero, suc, ◌+◌, ◌*◌, ◌<◌, ◌≤◌, min}
use native.Mathlib.Omega.{arith}
use lib.ListN.{length, get_or, take, drop}
use Rattle.std.proofs.lemmas.List.{length-take, get_or-take, get_or-drop, drop-drop}
use Rattle.std.specs.Simd.{first_chunks}
use Rattle.comparing.specs.Compared.{line_text}

chunk_at : (k : ℕ) (xs : List ℕ) (i : ℕ) → i < k → get_or (first_chunks 5 k xs) i [] ≡ take 5 (drop (5 * i) xs)
chunk_at zero xs i h = absurd (omega arith)
chunk_at (suc k) xs zero h = refl
chunk_at (suc k) xs (suc i) h =
    let e : 5 + 5 * i ≡ 5 * suc i = omega arith in
    chunk_at k (drop 5 xs) i (omega arith) ∙ ap (take 5) (drop-drop (5 * i) 5 xs ∙ ap (λ (m : ℕ). drop m xs) e)

word_at : (xs : List ℕ) (i j : ℕ) → j < 5 → get_or (take 5 (drop (5 * i) xs)) j 0 ≡ get_or xs (5 * i + j) 0
word_at xs i j h = get_or-take 5 (drop (5 * i) xs) j 0 h ∙ get_or-drop (5 * i) xs j 0

-- A line by itself, one of the first m of those that the list has, reads as it does in its place.
pub line_alone : (m k : ℕ) (xs : List ℕ) (i : ℕ) {all : List (List ℕ)} → all ≡ first_chunks 5 k xs → length all ≡ k → i < length (take m all)
    → line_text (get_or (take m all) i []) 0 ≡ line_text xs i
unfolding line_text
line_alone m k xs i {all} f l h =
    let n = length-take m all in
    let e : 5 * i + 0 ≡ 5 * i = omega arith in
    let g : get_or (take m all) i [] ≡ take 5 (drop (5 * i) xs) = get_or-take m all i [] (omega arith) ∙ ap (λ (ys : List (List ℕ)). get_or ys i []) f ∙ chunk_at k xs i (omega arith) in
    rw (g, word_at xs i 0 (omega arith), word_at xs i 1 (omega arith), word_at xs i 2 (omega arith), word_at xs i 3 (omega arith), word_at xs i 4 (omega arith), e)

-- The loop over them has come to the last one that is asked for.
pub last_alone : (lines m k i : ℕ) (all : List (List ℕ)) → m ≡ min lines (length all) → length all ≡ k → length (take m all) ≤ i → i ≤ length (take m all) → i ≡ min lines k
last_alone lines m k i all e l h g = let n = length-take m all in omega arith
