-- More where the number is 0, else the number.
use lib.Dec.{eqb}
use lib.Seq.{sets}
use Rattle.piecing.specs.Answer.{piece_line}
use Rattle.rule_laws.proofs.ToolLaws.{choose_on, choose_off}
use borrow.Author.Tests.{eq-eqb, ne_eqb}
use mathlib.Core.Path.{◌∙◌, ap, sym}
use Rattle.std.proofs.Common.{rules, refl}
use Rattle.lines.proofs.Paging.{ended}
use Rattle.piecing.proofs.taken.Goals as goal

pub returns-then-n-ne0 : goal.returns-then-n-ne0
unfolding piece_line
returns-then-n-ne0 c =
    c.number.ensures ∙ ap (sets c.args.page.now 0) (sym (choose_off (eqb c.args.n 0) _ _ (ne_eqb c.args.n 0 c.if-n-ne0.true)))

pub returns : goal.returns
unfolding piece_line
returns c =
    (ended c.text.ensures c.new-line.ensures.same c.new-line.ensures.front refl (search rules)).bytes ∙ ap (sets c.args.page.now 0) (sym (choose_on (eqb c.args.n 0) _ _ (eq-eqb c.args.n 0 c.if-n-ne0.false)))
