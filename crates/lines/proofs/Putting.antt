-- Text after text in a buffer is one text. Assumes nothing.
use mathlib.Core.Path.{◌≡◌, refl, sym, ap, ◌∙◌}
use mathlib.Core.List.{List, [], ◌∷◌, ◌++◌}
use Prim.Native.Nat.{ℕ, suc, ◌+◌, ◌≤◌, ◌<◌}
use native.Mathlib.Omega.{arith}
use lib.Dec.{leb}
use borrow.Author.Tests.{leb-true, leb-false}
use Rattle.rule_laws.proofs.ToolLaws.{by_test}
use lib.ListN.{length, set, length-append}
use lib.Seq.{sets, length-sets, set_out}
use Rattle.numbers.proofs.Stores.{stores_append, stores_lay, laid_front}
use Rattle.rulebook.specs.Writers.{over}
use Rattle.lines.specs.Put.{reach, Put}

-- Past the buffer's end nothing changes.
sets_past : (vs l : List ℕ) (i : ℕ) → length l ≤ i → sets l i vs ≡ l
sets_past [] l i h = refl
sets_past (v ∷ vs) l i h =
    ap (λ (k : List ℕ). sets k (suc i) vs) (set_out l i v h) ∙ sets_past vs l (suc i) (omega arith)

pub put_nothing : (l : List ℕ) (at : ℕ) → Put l at [] l at
unfolding reach
put_nothing l at = record { bytes = refl; place = omega arith }

pub put_one : (l : List ℕ) (at b : ℕ) → at < length l → Put l at (b ∷ []) (set l at b) (at + 1)
unfolding reach
put_one l at b h = record { bytes = refl; place = omega arith }

pub put_past : (l : List ℕ) (at b : ℕ) → length l ≤ at → Put l at (b ∷ []) l at
unfolding reach
put_past l at b h = record { bytes = sym (set_out l at b h); place = omega arith }

pub put_length : {l l' xs : List ℕ} {at p : ℕ} → Put l at xs l' p → length l' ≡ length l
put_length {l} {l'} {xs} {at} w = ap length w.bytes ∙ length-sets l at xs

-- One text and then another are put as one.
pub and_then : {l l' l'' xs ys : List ℕ} {at p q : ℕ} → Put l at xs l' p → Put l' p ys l'' q → Put l at (xs ++ ys) l'' q
unfolding reach
and_then {l} {l'} {l''} {xs} {ys} {at} {p} {q} w v =
    let n = put_length w in
    let a = length-append xs ys in
    let x = w.place in
    let y = v.place in
    record {
      bytes = v.bytes ∙ ap (λ (k : List ℕ). sets k p ys) w.bytes ∙ onward ∙ sym (stores_append l at xs ys);
      place = omega arith;
    }
  where
    s : List ℕ
    s = sets l at xs

    onward : sets s p ys ≡ sets s (at + length xs) ys
    onward =
        let n = length-sets l at xs in
        let x = w.place in
        by_test (leb (at + length xs) (length l))
        (λ h.
        let k : at + length xs ≤ length l = leb-true (at + length xs) (length l) h in
        let e : p ≡ at + length xs = omega arith in
        ap (λ (i : ℕ). sets s i ys) e)
        (λ h.
        let k : length l < at + length xs = leb-false (at + length xs) (length l) h in
        sets_past ys s p (omega arith) ∙ sym (sets_past ys s (at + length xs) (omega arith)))

-- A text from the front that leaves room in the buffer stands there whole, and its length is the place after it.
pub stands_whole : {l l' text : List ℕ} {n : ℕ} → Put l 0 text l' n → n < length l → (n ≡ length text) × (l' ≡ over text l)
unfolding reach
stands_whole {l} {l'} {text} {n} w h =
    let x = w.place in
    let e : n ≡ length text = omega arith in
    (e, w.bytes ∙ stores_lay l 0 text (omega arith) ∙ laid_front l text)
