-- Bytes written one store at a time, and one run of bytes after another.
use Rattle.std.specs.Prelude.{Result, Ok, Err}
use mathlib.Core.Path.{◌≡◌, refl, sym, ap, ap₂, ◌∙◌}
use mathlib.Core.List.{List, [], ◌∷◌, ◌++◌, append_assoc}
use Prim.Native.Nat.{ℕ, suc, ◌+◌, ◌≤◌}
use native.Mathlib.Nat.{add-zero, zero-add}
use native.Mathlib.Omega.{arith}
use lib.ListN.{length, take, drop, set, length-append}
use lib.Seq.{sets, sets-eq, length-sets}
use Rattle.rulebook.specs.declared.Refusal.{Refusal}
use Rattle.rulebook.specs.Writers.{Wrote, wrote_on, over, Writes}
use Rattle.numbers.specs.Written.{Written, laid}

-- Stores from a place on lay the bytes there.
pub stores_lay : (buffer : List ℕ) (at : ℕ) (bytes : List ℕ) → at + length bytes ≤ length buffer → sets buffer at bytes ≡ laid buffer at bytes
unfolding laid
stores_lay buffer at bytes h = sets-eq bytes buffer at h ∙ append_assoc (take at buffer) bytes (drop (at + length bytes) buffer)

-- At the front of the buffer.
pub laid_front : (buffer bytes : List ℕ) → laid buffer 0 bytes ≡ over bytes buffer
unfolding laid over
laid_front buffer bytes = rw (zero-add (length bytes))

-- A writer that refuses leaves the buffer as found.
pub writes_refused : (wrote : Wrote) (bytes buffer : List ℕ) (r : Refusal) → wrote ≡ wrote_on (Err r) bytes → Writes wrote buffer (Err r) buffer
unfolding wrote_on over
writes_refused wrote bytes buffer r e = rw e (record { answered = refl; bytes = refl })

-- Else its bytes stand at the front.
pub writes_laid : (wrote : Wrote) (bytes : List ℕ) {buffer left : List ℕ} {n : ℕ} → wrote ≡ wrote_on (Ok tt) bytes → Written buffer 0 bytes left n
    → Writes wrote buffer (Ok n) left
unfolding wrote_on
writes_laid wrote bytes {buffer} {left} {n} e w =
    let k : n ≡ length bytes = omega (arith, w.next_is) in
    rw e (record { answered = ap Ok k; bytes = w.after_is ∙ laid_front buffer bytes })

-- The contract leaves nothing open: two results that it allows are equal.
pub writes_one : (wrote : Wrote) (buffer : List ℕ) (a b : Result ℕ Refusal) (x y : List ℕ) → Writes wrote buffer a x → Writes wrote buffer b y → (a ≡ b) × (x ≡ y)
writes_one wrote buffer a b x y p q = (p.answered ∙ sym q.answered, p.bytes ∙ sym q.bytes)

pub stores_append : (l : List ℕ) (i : ℕ) (xs ys : List ℕ) → sets l i (xs ++ ys) ≡ sets (sets l i xs) (i + length xs) ys
stores_append l i [] ys = ap (λ (k : ℕ). sets l k ys) (sym (add-zero i))
stores_append l i (x ∷ xs) ys =
    stores_append (set l i x) (suc i) xs ys ∙ ap (λ (k : ℕ). sets (sets (set l i x) (suc i) xs) k ys) (omega arith)

-- One run of bytes and then another are written as one.
pub after : {l l' l'' xs ys : List ℕ} {at p q : ℕ} → at + length (xs ++ ys) ≤ length l → Written l at xs l' p → Written l' p ys l'' q
    → Written l at (xs ++ ys) l'' q
after {l} {l'} {l''} {xs} {ys} {at} {p} {q} h w v =
    let a = length-append xs ys in
    let x = w.next_is in
    let y = v.next_is in
    let e : l' ≡ sets l at xs = w.after_is ∙ sym (stores_lay l at xs (omega arith)) in
    let n : length l' ≡ length l = ap length e ∙ length-sets l at xs in
    let f : l'' ≡ sets l' p ys = v.after_is ∙ sym (stores_lay l' p ys (omega arith)) in
    record {
      next_is = omega arith;
      after_is = f ∙ ap₂ (λ (s : List ℕ) (k : ℕ). sets s k ys) e x ∙ sym (stores_append l at xs ys) ∙ stores_lay l at (xs ++ ys) h;
    }
