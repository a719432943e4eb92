-- The part of the record is the words, and the rest stays.
use mathlib.Core.Path.{◌≡◌, ◌∙◌, ap, sym}
use mathlib.Core.List.{List, ◌++◌, append_assoc}
use Prim.Native.Nat.{ℕ, ◌+◌, ◌-◌}
use native.Mathlib.Omega.{arith}
use lib.ListN.{length, take, drop}
use lib.Seq.{drop-drop}
use Rattle.std.proofs.lemmas.List.Edits.{sets-eq}
use Rattle.kept_certificates.proofs.put_words.Goals as goal

pub returns : goal.returns
returns c =
    let a = c.args in
    let e : a.at + length a.words.now - a.at ≡ length a.words.now = omega arith in
    (λ i. take a.at a.rec.now ++ (c.copy_from_slice.ensures.after i ++ drop (e i) (drop a.at a.rec.now)))
    ∙ ap (λ (xs : List ℕ). take a.at a.rec.now ++ (a.words.now ++ xs)) (drop-drop (length a.words.now) a.at a.rec.now)
    ∙ sym (append_assoc (take a.at a.rec.now) a.words.now (drop (a.at + length a.words.now) a.rec.now))
    ∙ sym (sets-eq a.words.now a.rec.now a.at c.requires.inside)
