-- Lines of any kind put one after another, and the whole list or how many they are. Assumes nothing.
use mathlib.Core.Path.{◌≡◌, refl, sym, ap, ◌∙◌, subst}
use mathlib.Core.List.{List, [], ◌∷◌, ◌++◌, append_assoc}
use Prim.Native.Nat.{ℕ, ◌+◌, ◌*◌, ◌/◌, ◌≤◌, ◌<◌}
use native.Mathlib.Omega.{arith}
use Rattle.std.specs.Prelude.{Ok, Err}
use lib.ListN.{length, length-append}
use lib.Seq.{sets, length-sets}
use Rattle.rulebook.specs.Writers.{over}
use Rattle.numbers.proofs.Stores.{stores_append, stores_lay, laid_front}
use Rattle.differences.specs.Rows.{Row, Laid, Counted}

-- ---- one run of lines after another

-- The words of lines: those of one after those of the other, five each.
pub record Spelled {A : Type 0} (spell : List A → List ℕ) : Type 0 where
  pub none : spell [] ≡ []
  pub append : (xs ys : List A) → spell (xs ++ ys) ≡ spell xs ++ spell ys
  pub five : (xs : List A) → length (spell xs) ≡ 5 * length xs

-- Each line has five words of its own.
pub spelled_by : {A : Type 0} {spell : List A → List ℕ} (one : A → List ℕ) → ((x : A) → length (one x) ≡ 5) → spell [] ≡ [] → ((x : A) (xs : List A) → spell (x ∷ xs) ≡ one x ++ spell xs)
    → Spelled spell
spelled_by {A} {spell} one five none more = record { none = none; append = joined; five = many }
  where
    joined : (xs ys : List A) → spell (xs ++ ys) ≡ spell xs ++ spell ys
    joined [] ys = ap (λ (z : List ℕ). z ++ spell ys) (sym none)
    joined (x ∷ xs) ys =
        more x (xs ++ ys) ∙ ap (λ (z : List ℕ). one x ++ z) (joined xs ys) ∙ sym (append_assoc (one x) (spell xs) (spell ys))
        ∙ ap (λ (z : List ℕ). z ++ spell ys) (sym (more x xs))

    many : (xs : List A) → length (spell xs) ≡ 5 * length xs
    many [] = ap length none
    many (x ∷ xs) = ap length (more x xs) ∙ omega (arith, length-append (one x) (spell xs), five x, many xs)

module _ {A : Type 0} {spell : List A → List ℕ} where
  pub laid_length : {list left : List ℕ} {xs : List A} {at next : ℕ} → Laid spell list at xs left next → length left ≡ length list
  laid_length {list} {left} {xs} {at} w = ap length w.words ∙ length-sets list (5 * at) (spell xs)

  -- The same lines in other words.
  pub laid_as : {l m : List ℕ} {xs ys : List A} {at p : ℕ} → xs ≡ ys → Laid spell l at xs m p → Laid spell l at ys m p
  laid_as {l} {m} {at = at} {p = p} e w = subst (λ (z : List A). Laid spell l at z m p) e w

  -- A line by its words.
  pub row_laid : (x : A) {list row left : List ℕ} {at next : ℕ} → row ≡ spell (x ∷ []) → Row list at row left next → Laid spell list at (x ∷ []) left next
  row_laid x {list} {at = at} e w =
      record { words = w.words ∙ ap (sets list (5 * at)) e; many = w.many }

  module _ (k : Spelled spell) where
    pub laid_none : (list : List ℕ) (at : ℕ) → Laid spell list at [] list at
    laid_none list at = record { words = ap (sets list (5 * at)) (sym k.none); many = omega arith }

    pub laid_then : {l m r : List ℕ} {xs ys : List A} {at p q : ℕ} → Laid spell l at xs m p → Laid spell m p ys r q → Laid spell l at (xs ++ ys) r q
    laid_then {l} {m} {r} {xs} {ys} {at} {p} {q} w v =
        let a = length-append xs ys in
        let e : 5 * p ≡ 5 * at + length (spell xs) = omega (arith, w.many, k.five xs) in
        record {
          words = v.words ∙ ap (λ (z : List ℕ). sets z (5 * p) (spell ys)) w.words
              ∙ ap (λ (i : ℕ). sets (sets l (5 * at) (spell xs)) i (spell ys)) e
              ∙ sym (stores_append l (5 * at) (spell xs) (spell ys)) ∙ ap (sets l (5 * at)) (sym (k.append xs ys));
          many = omega (arith, w.many, v.many);
        }

    -- From the front of a list that has room for them.
    pub laid_over : {list left : List ℕ} {xs : List A} {n : ℕ} → 5 * length xs ≤ length list → Laid spell list 0 xs left n → left ≡ over (spell xs) list
    laid_over {list} {xs = xs} h w =
        w.words ∙ stores_lay list 0 (spell xs) (omega (arith, k.five xs, h)) ∙ laid_front list (spell xs)

-- ---- the whole list, or how many lines they are

over_none : (list xs : List ℕ) → length xs ≡ 0 → over xs list ≡ list
unfolding over
over_none list [] q = refl
over_none list (x ∷ xs) q = absurd (omega (arith, q))

-- The lines were counted with an empty part of the list, which came back as it was.
module _ (n : ℕ) (ws list : List ℕ) (five : length ws ≡ 5 * n) where
  pub all_cramped : (ys : List ℕ) {m : ℕ} → length ys ≡ 0 → m ≡ n → length (ys ++ list) / 5 < m → Counted n ws list (Err m) (ys ++ list)
  all_cramped [] z e h =
      record { roomy = λ k. absurd (omega (arith, e, h, k)); cramped = λ k. (ap Err e, refl) }
  all_cramped (y ∷ ys) z e h = absurd (omega (arith, z))

  pub all_nothing : (ys : List ℕ) {m : ℕ} → length ys ≡ 0 → m ≡ n → m ≡ 0 → Counted n ws list (Ok 0) (ys ++ list)
  all_nothing [] z e h =
      record { roomy = λ k. (ap Ok (sym h ∙ e), sym (over_none list ws (omega (arith, five, e, h)))); cramped = λ k. absurd (omega (arith, e, h, k)) }
  all_nothing (y ∷ ys) z e h = absurd (omega (arith, z))

  pub all_whole : (ys : List ℕ) {left : List ℕ} {m k : ℕ} → length ys ≡ 0 → m ≡ n → m ≤ length (ys ++ list) / 5 → k ≡ n → left ≡ sets (ys ++ list) 0 ws → Counted n ws list (Ok k) left
  all_whole [] z e h f w =
      record { roomy = λ q. (ap Ok f, w ∙ stores_lay list 0 ws (omega (arith, five, q)) ∙ laid_front list ws); cramped = λ q. absurd (omega (arith, e, h, q)) }
  all_whole (y ∷ ys) z e h f w = absurd (omega (arith, z))
