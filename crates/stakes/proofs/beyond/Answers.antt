-- Word by word, against what is left of the table. Assumes nothing.
use Rattle.std.proofs.Common.{◌≡◌, ℕ, ◌-◌, ◌*◌, ◌^◌, Bool, ◌||◌, leb, length, get_or, sym, ap, ◌∙◌, arith}
use Rattle.rulebook.specs.Tools.{some_to}
use Rattle.rule_laws.proofs.ToolLaws.{some_none, some_more}
use Rattle.rule_laws.proofs.WordLaws.{beyond_words}
use Rattle.stakes.proofs.beyond.Goals as goal

pub loop-word-init : goal.loop-word-init
loop-word-init c = (omega arith, sym (some_none _))

pub loop-word-preserved : goal.loop-word-preserved
loop-word-preserved c =
    let l = c.loop-word in
    let s = c.args in
    let x = s.mask.now in
    let i = l.word-index in (
      omega (arith, l.invariant.0),
      ap (λ (t : Bool). l.past || t) (c.word_beyond-past.ensures ∙ ap (λ (n : ℕ). leb (2 ^ n) (get_or x i 0)) l.invariant.0)
          ∙ ap (λ (t : Bool). t || leb (2 ^ (s.count - 64 * i)) (get_or x i 0)) l.invariant.1
          ∙ sym (some_more i (λ j. leb (2 ^ (s.count - 64 * j)) (get_or x j 0))),
    )

pub returns : goal.returns
returns c =
    let l = c.loop-word in
    let s = c.args in
    let x = s.mask.now in
    let e : l.word-index ≡ length x = omega arith in
    l.invariant.1 ∙ ap (λ (n : ℕ). some_to n (λ j. leb (2 ^ (s.count - 64 * j)) (get_or x j 0))) e ∙ sym (beyond_words x s.count (λ n. (c.type_inv.mask n).fits))
