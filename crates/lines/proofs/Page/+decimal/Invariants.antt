-- Each call is for a number with a digit less.
use Rattle.lines.proofs.Page.+decimal.Given as goal

abbrev pub decreases-decimal : goal.decreases-decimal
decreases-decimal l = l.n
