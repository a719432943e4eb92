-- Laws of the texts: which one a number gets that is not named, and that a buffer of the room asked for holds each. Assumes nothing.
use Rattle.std.specs.Prelude.{Ok, Err}
use mathlib.Core.Path.{◌≡◌, refl, ap, ◌∙◌}
use mathlib.Core.Bool.{Bool, true, false}
use mathlib.Core.List.{List}
use Prim.Native.Nat.{ℕ, ◌≤◌, ◌<◌}
use native.Mathlib.Omega.{arith}
use lib.Dec.{eqb, ltb}
use lib.ListN.{length}
use borrow.Author.Tests.{ne_eqb, lt-ltb, le-ltb, ltb-true}
use Rattle.rulebook.specs.declared.Refusal.TheVariants as refusal
use Rattle.rulebook.specs.Tools.{choose}
use Rattle.rulebook.specs.Inputs.{refuse_if}
use Rattle.rulebook.specs.Writers.{wrote_on, Writes}
use Rattle.numbers.proofs.Stores.{writes_refused}
use Rattle.lines.specs.Put.{reach, Put}
use Rattle.lines.proofs.Putting.{stands_whole}
use Rattle.texts.specs.Texts.{bytes_of, last_text, later_text, refusal_text, text_room, text_on}

-- ---- the numbers that are not named

pub no_text : (n : ℕ) → (n ≡ 13 → ⊥) → (n ≡ 14 → ⊥) → (n ≡ 15 → ⊥) → (n ≡ 16 → ⊥) → (n ≡ 17 → ⊥) → (n ≡ 18 → ⊥) → last_text n ≡ bytes_of "No refusal has this number."
unfolding last_text choose
no_text n h13 h14 h15 h16 h17 h18 =
    simp (ne_eqb n 13 h13, ne_eqb n 14 h14, ne_eqb n 15 h15, ne_eqb n 16 h16, ne_eqb n 17 h17, ne_eqb n 18 h18)

pub last_text_lem : (n : ℕ) → (n ≡ 7 → ⊥) → (n ≡ 8 → ⊥) → (n ≡ 9 → ⊥) → (n ≡ 10 → ⊥) → (n ≡ 11 → ⊥) → (n ≡ 12 → ⊥) → later_text n ≡ last_text n
unfolding later_text choose
last_text_lem n h7 h8 h9 h10 h11 h12 =
    simp (ne_eqb n 7 h7, ne_eqb n 8 h8, ne_eqb n 9 h9, ne_eqb n 10 h10, ne_eqb n 11 h11, ne_eqb n 12 h12)

pub later_text_lem : (n : ℕ) → (n ≡ 0 → ⊥) → (n ≡ 1 → ⊥) → (n ≡ 2 → ⊥) → (n ≡ 3 → ⊥) → (n ≡ 4 → ⊥) → (n ≡ 5 → ⊥) → (n ≡ 6 → ⊥) → refusal_text n ≡ later_text n
unfolding refusal_text choose
later_text_lem n h0 h1 h2 h3 h4 h5 h6 =
    simp (ne_eqb n 0 h0, ne_eqb n 1 h1, ne_eqb n 2 h2, ne_eqb n 3 h3, ne_eqb n 4 h4, ne_eqb n 5 h5, ne_eqb n 6 h6)

-- ---- the room

-- A text leaves room in a buffer.
abbrev fits : List ℕ → Bool
fits text = ltb (length text) text_room

one_of : (t : Bool) (x y : List ℕ) → fits x ≡ true → fits y ≡ true → fits (choose t x y) ≡ true
unfolding choose
one_of true x y a b = a
one_of false x y a b = b

last_fits : (n : ℕ) → fits (last_text n) ≡ true
unfolding last_text
last_fits n =
    one_of (eqb n 13) _ _ refl
    (one_of (eqb n 14) _ _ refl
    (one_of (eqb n 15) _ _ refl
    (one_of (eqb n 16) _ _ refl
    (one_of (eqb n 17) _ _ refl
    (one_of (eqb n 18) _ _ refl
    refl)))))

later_fits : (n : ℕ) → fits (later_text n) ≡ true
unfolding later_text
later_fits n =
    one_of (eqb n 7) _ _ refl
    (one_of (eqb n 8) _ _ refl
    (one_of (eqb n 9) _ _ refl
    (one_of (eqb n 10) _ _ refl
    (one_of (eqb n 11) _ _ refl
    (one_of (eqb n 12) _ _ refl
    (last_fits n))))))

text_fits : (n : ℕ) → fits (refusal_text n) ≡ true
unfolding refusal_text
text_fits n =
    one_of (eqb n 0) _ _ refl
    (one_of (eqb n 1) _ _ refl
    (one_of (eqb n 2) _ _ refl
    (one_of (eqb n 3) _ _ refl
    (one_of (eqb n 4) _ _ refl
    (one_of (eqb n 5) _ _ refl
    (one_of (eqb n 6) _ _ refl
    (later_fits n)))))))

-- A buffer that is too short gets 9 and stays.
pub no_room : (l : List ℕ) (n : ℕ) → length l < text_room → Writes (text_on (length l) n) l (Err refusal.NoRoom) l
unfolding text_on refuse_if
no_room l n h =
    writes_refused _ (refusal_text n) l refusal.NoRoom
    (ap (λ (t : Bool). wrote_on (refuse_if t refusal.NoRoom (Ok tt)) (refusal_text n)) (lt-ltb (length l) text_room h))

-- The place after the text lies within a buffer of that room.
placed : {l left text : List ℕ} {k : ℕ} → text_room ≤ length l → length text < text_room → Put l 0 text left k → k < length l
unfolding reach
placed h f w = let p = w.place in omega arith

-- Any other holds the text from its front, and every other byte stays.
pub has_room : (n : ℕ) {l left : List ℕ} {k : ℕ} → text_room ≤ length l → Put l 0 (refusal_text n) left k → Writes (text_on (length l) n) l (Ok k) left
unfolding text_on refuse_if wrote_on
has_room n {l} {left} {k} h w =
    let s = stands_whole w (placed h (ltb-true (length (refusal_text n)) text_room (text_fits n)) w) in
    let t : ltb (length l) text_room ≡ false = le-ltb (length l) text_room h in
    rw t (record { answered = ap Ok s.0; bytes = s.1 })
