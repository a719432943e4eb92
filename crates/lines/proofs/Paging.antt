-- Text after text on a page is one text. Assumes nothing.
use mathlib.Core.Path.{◌≡◌, refl, ◌∙◌, subst}
use mathlib.Core.List.{List, [], ◌++◌}
use Prim.Native.Nat.{ℕ}
use Rattle.lines.specs.declared.Page.{Page}
use Rattle.lines.specs.Put.{Put}
use Rattle.lines.specs.Page.{Wrote}
use Rattle.lines.proofs.Putting as at

pub put_nothing : (p : Page) → Wrote p [] p
put_nothing p = record { lent = refl; put = at.put_nothing _ _ }

-- One text and then another are put as one.
pub and_then : {p q r : Page} {xs ys : List ℕ} → Wrote p xs q → Wrote q ys r → Wrote p (xs ++ ys) r
and_then w v = record { lent = v.lent ∙ w.lent; put = at.and_then w.put v.put }

-- The same text in other words.
pub as_text : {p q : Page} {xs ys : List ℕ} → xs ≡ ys → Wrote p xs q → Wrote p ys q
as_text {p} {q} e w = subst (λ (z : List ℕ). Wrote p z q) e w

-- What stands in a buffer where the page on it ends.
pub ended : {l left text : List ℕ} {k : ℕ} {p q : Page} → Wrote p text q → p.bytes.now ≡ l → p.at ≡ 0 → k ≡ q.at → left ≡ q.bytes.now → Put l 0 text left k
ended w a b d e = rw (← a, ← b, d, e) w.put
