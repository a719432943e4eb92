-- The words of a packet's masks are those of the record's, where 4 is not answered. Assumes nothing.
use mathlib.Core.Path.{◌≡◌, sym, ap, ◌∙◌}
use mathlib.Core.Bool.{Bool, false, ◌&&◌}
use Prim.Native.Nat.{ℕ}
use native.Mathlib.Omega.{arith}
use lib.Dec.{leb}
use borrow.Author.Tests.{le-leb, lt-leb}
use Rattle.rulebook.specs.Weights.{is_large, family}
use Rattle.rulebook.specs.PaperNumbers.{kind_in}
use Rattle.rulebook.specs.Packets.{words_in}
use Rattle.rulebook.specs.Checker.{is_other_kind}
use Rattle.rule_laws.proofs.ToolLaws.{choose_on, choose_off, part_on, part_off, both_and, by_test}
use Rattle.rule_laws.proofs.KindLaws.{kind_range}
use Rattle.record.specs.Layout.{mask_words}

pub family_words : (count kind : ℕ) → is_other_kind (kind_in count kind) ≡ false → words_in kind ≡ mask_words count
unfolding words_in mask_words family
family_words count kind o =
    let r = kind_range count kind o in
    by_test (is_large count)
    (λ t. let f = part_on (is_large count) 10 t in
    choose_on (leb 11 kind && leb kind 15) 32 1 (both_and (leb 11 kind) (leb kind 15) (le-leb 11 kind (omega (arith, r.0, f))) (le-leb kind 15 (omega (arith, r.1, f))))
    ∙ sym (choose_on (is_large count) 32 1 t))
    (λ t. let f = part_off (is_large count) 10 t in
    choose_off (leb 11 kind && leb kind 15) 32 1 (ap (λ (b : Bool). b && leb kind 15) (lt-leb 11 kind (omega (arith, r.1, f))))
    ∙ sym (choose_off (is_large count) 32 1 t))
