-- Lines put one after another, how many there can be, and the whole list or 9. Assumes nothing.
use Rattle.std.specs.Prelude.{Result, Ok, Err}
use mathlib.Core.Path.{◌≡◌, refl, sym, ap, ◌∙◌, subst}
use mathlib.Core.Bool.{Bool, true, false, not}
use mathlib.Core.List.{List, [], ◌∷◌, ◌++◌}
use Prim.Native.Nat.{ℕ, zero, suc, ◌+◌, ◌*◌, ◌≤◌}
use native.Mathlib.Omega.{arith}
use native.Mathlib.Numerals.{add-one}
use lib.ListN.{length, length-append}
use lib.Dec.{leb}
use borrow.Author.Tests.{le-leb, leb-true, leb-false, eq-eqb, ne_eqb}
use Rattle.rulebook.specs.Writers.{over}
use Rattle.rulebook.specs.Ledger.{none}
use Rattle.rule_laws.proofs.ToolLaws.{by_test, given_on, given_off}
use Rattle.differences.specs.Rows.{Counted}
use Rattle.differences.proofs.Rows.{Spelled, spelled_by}
pub use Rattle.differences.proofs.Rows.{laid_none, laid_then, laid_as, laid_length}
use Rattle.inquest.specs.declared.Line.{Line}
use Rattle.inquest.specs.Stands.{none_or}
use Rattle.inquest.specs.Lists.{unless, lines_to}
use Rattle.inquest_lines.specs.declared.ListRefusal.{ListRefusal}
use Rattle.inquest_lines.specs.declared.ListRefusal.TheVariants as why
use Rattle.inquest_lines.specs.Lent.{spell_line, spell_lines, Told, refused_by, put_in, listed_in, ToldIn, Laid}

-- ---- one run of lines after another

pub spelled : Spelled spell_lines
unfolding spell_lines
spelled = spelled_by spell_line (λ x. refl) refl (λ x xs. refl)

-- The line of a test.
pub passes_none : (x : Line) {list : List ℕ} {at : ℕ} (t : Bool) → t ≡ true → Laid list at (unless t x) list at
unfolding unless
passes_none x {list} {at} t e = subst (λ (z : Bool). Laid list at (unless z x) list at) (sym e) (laid_none spelled list at)

pub fails_line : (x : Line) {list left : List ℕ} {at next : ℕ} (t : Bool) → t ≡ false → Laid list at (x ∷ []) left next → Laid list at (unless t x) left next
unfolding unless
fails_line x {list} {left} {at} {next} t e w = subst (λ (z : Bool). Laid list at (unless z x) left next) (sym e) w

-- The line of a vote: none where there is no vote, else by its test and the firm's number as they were read.
pub vote_none : (x : ℕ) (f : Unit {0} → Bool) (y : Line) {list : List ℕ} {at : ℕ} → x ≡ 0 → Laid list at (unless (none_or x f) y) list at
unfolding none_or
vote_none x f y e = passes_none y (none_or x f) (given_off (not (none x)) true f (ap not (eq-eqb x 0 e)))

pub some_or : (x : ℕ) (f : Unit {0} → Bool) → (x ≡ 0 → ⊥) → none_or x f ≡ f tt
unfolding none_or
some_or x f h = given_on (not (none x)) true f (ap not (ne_eqb x 0 h))

-- ---- how many lines

pub unless_most : (t : Bool) (x : Line) → length (unless t x) ≤ 1
unfolding unless
unless_most true x = omega arith
unless_most false x = omega arith

pub more_most : (k : ℕ) (t : Bool) (x : Line) (ys : List Line) → length ys ≤ k → length (unless t x ++ ys) ≤ suc k
more_most k t x ys h = omega (arith, length-append (unless t x) ys, unless_most t x, h)

pub to_most : (n k : ℕ) (f : ℕ → List Line) → ((i : ℕ) → length (f i) ≤ k) → length (lines_to n f) ≤ k * n
unfolding lines_to
to_most zero k f h = omega arith
to_most (suc n) k f h = omega (arith, length-append (lines_to n f) (f n), h n, to_most n k f h)

-- ---- the loops

pub to_none : (f : ℕ → List Line) → lines_to 0 f ≡ []
unfolding lines_to
to_none f = refl

pub to_more : (n : ℕ) (f : ℕ → List Line) → lines_to (n + 1) f ≡ lines_to n f ++ f n
unfolding lines_to
to_more n f = rw add-one

module _ {list now : List ℕ} {at next : ℕ} (f : ℕ → List Line) (n : ℕ) (w : Laid list at (lines_to n f) now next) where
  pub next_put : {now' : List ℕ} {next' : ℕ} → Laid now next (f n) now' next' → Laid list at (lines_to (n + 1) f) now' next'
  next_put v = laid_as (sym (to_more n f)) (laid_then spelled w v)

  pub next_last : (m : ℕ) → n ≡ m → Laid list at (lines_to m f) now next
  next_last m e = laid_as (ap (λ (k : ℕ). lines_to k f) e) w

pub first_put : (list : List ℕ) (at : ℕ) (f : ℕ → List Line) → Laid list at (lines_to 0 f) list at
first_put list at f = laid_as (sym (to_none f)) (laid_none spelled list at)

-- ---- the whole list, or 9

over_nothing : (list : List ℕ) → over [] list ≡ list
unfolding over
over_nothing list = refl

-- A refusal leaves the list as found.
pub told_refused : (list : List ℕ) (a : Result ℕ ListRefusal) → ToldIn list (refused_by a) a list
told_refused list a = record { answered = refl; listed = sym (over_nothing list) }

-- The same in other words.
pub told_as : {list left : List ℕ} {r : Result ℕ ListRefusal} (t u : Told) → t ≡ u → ToldIn list u r left → ToldIn list t r left
told_as {list} {left} {r} t u e w = subst (λ (z : Told). ToldIn list z r left) (sym e) w

-- Of any n lines by their words, counted first.
pub told_counted : (n : ℕ) (ws : List ℕ) {list left : List ℕ} {r : Result ℕ ℕ} {q : Result ℕ ListRefusal} → Counted n ws list r left
    → ((m : ℕ) → r ≡ Ok m → q ≡ Ok m) → ((m : ℕ) → r ≡ Err m → q ≡ Err (why.NoRoom m)) → ToldIn list (put_in (length list) n ws) q left
told_counted n ws {list} {left} {r} {q} c f g =
    by_test (leb (5 * n) (length list))
    (λ e. let k = c.roomy (leb-true (5 * n) (length list) e) in
    told_as (put_in (length list) n ws) (record { answer = Ok n; words = ws })
    (given_on (leb (5 * n) (length list)) (refused_by (Err (why.NoRoom n))) (λ _. record { answer = Ok n; words = ws }) e) (record { answered = f n k.0; listed = k.1 }))
    (λ e. let k = c.cramped (leb-false (5 * n) (length list) e) in
    told_as (put_in (length list) n ws) (refused_by (Err (why.NoRoom n)))
    (given_off (leb (5 * n) (length list)) (refused_by (Err (why.NoRoom n))) (λ _. record { answer = Ok n; words = ws }) e)
    (record { answered = g n k.0; listed = k.1 ∙ sym (over_nothing list) }))

-- No line has room in every list.
pub told_nothing : (list : List ℕ) → ToldIn list (listed_in (length list) []) (Ok 0) list
unfolding listed_in spell_lines
told_nothing list =
    told_as (put_in (length list) 0 []) (record { answer = Ok 0; words = [] })
    (given_on (leb 0 (length list)) (refused_by (Err (why.NoRoom 0))) (λ _. record { answer = Ok 0; words = [] }) (le-leb 0 (length list) (omega arith)))
    (record { answered = refl; listed = sym (over_nothing list) })
