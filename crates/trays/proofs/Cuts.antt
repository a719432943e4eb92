-- What is left of a run of votes behind the first k, four words each. Assumes nothing.
use mathlib.Core.Path.{◌≡◌, sym, ap, ◌∙◌}
use mathlib.Core.List.{List, ◌++◌}
use Prim.Native.Nat.{ℕ, ◌+◌, ◌*◌, ◌/◌, ◌≤◌, ◌<◌}
use native.Mathlib.Omega.{arith}
use lib.ListN.{length, get_or, drop, length-drop, length-append, get_or-append}
use lib.Seq.{drop-append_seam, drop-drop, get_or-drop}

pub record Cut (votes rest : List ℕ) (size k : ℕ) : Type 0 where
  pub four : size ≡ 4
  pub left : rest ≡ drop (4 * k) votes

module _ {votes rest : List ℕ} {size k : ℕ} (h : Cut votes rest size k) where
  pub cut_end : length rest < size → length votes / 4 ≤ k
  cut_end e = omega (arith, h.four, ap length h.left, length-drop (4 * k) votes)

  module _ (x rest' : List ℕ) (e : rest ≡ x ++ rest') (n : length x ≡ size) where
    pub cut_there : k < length votes / 4
    cut_there = omega (arith, h.four, ap length h.left, length-drop (4 * k) votes, ap length e, length-append x rest')

    pub cut_word : (j : ℕ) → j < 4 → get_or x j 0 ≡ get_or votes (4 * k + j) 0
    cut_word j b =
        sym (get_or-append x rest' 0 j (omega (arith, h.four)))
        ∙ ap (λ (z : List ℕ). get_or z j 0) (sym e ∙ h.left)
        ∙ get_or-drop (4 * k) votes j 0

    pub cut_first : get_or x 0 0 ≡ get_or votes (4 * k) 0
    cut_first = cut_word 0 (omega arith) ∙ ap (λ (m : ℕ). get_or votes m 0) (omega arith)

    pub cut_more : Cut votes rest' size (k + 1)
    cut_more =
        record {
          four = h.four;
          left =
              sym (drop-append_seam x rest')
              ∙ (λ i. drop ((n ∙ h.four) i) (sym e i))
              ∙ ap (drop 4) h.left
              ∙ drop-drop 4 (4 * k) votes
              ∙ ap (λ (m : ℕ). drop m votes) (omega arith);
        }
