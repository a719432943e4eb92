-- Words copied one by one to the front of others. Assumes nothing.
use mathlib.Core.Path.{◌≡◌, sym, ap, ◌∙◌}
use mathlib.Core.List.{List, [], ◌∷◌, ◌++◌}
use Prim.Native.Nat.{ℕ, ◌+◌, ◌≤◌, ◌<◌}
use native.Mathlib.Omega.{arith}
use native.Mathlib.Numerals.{add-one}
use lib.ListN.{length, get_or, set, take}
use lib.Seq.{sets, take-suc, take-length, length-take-le}
use Rattle.numbers.proofs.Stores.{stores_append}

module _ (l from : List ℕ) where
  -- The first i words are copied.
  abbrev pub copied : ℕ → List ℕ
  copied i = sets l 0 (take i from)

  pub copy_next : (i v : ℕ) → i < length from → v ≡ get_or from i 0 → set (copied i) i v ≡ copied (i + 1)
  copy_next i v h e =
      let n : i ≤ length from = omega arith in
      let t = length-take-le i from n in
      let m : i ≡ 0 + length (take i from) = omega arith in
      ap (λ (k : ℕ). set (copied i) k v) m ∙ sym (stores_append l 0 (take i from) (v ∷ []))
      ∙ ap (λ (x : ℕ). sets l 0 (take i from ++ (x ∷ []))) e
      ∙ ap (sets l 0) (sym (take-suc from i 0 h))
      ∙ rw add-one

  pub copy_all : (i : ℕ) → i ≡ length from → copied i ≡ sets l 0 from
  copy_all i e = ap copied e ∙ ap (sets l 0) (take-length from)
