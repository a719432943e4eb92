-- Each call is for less.
use Rattle.finality.proofs.+rule_g.Given as goal

abbrev pub decreases-rule_g : goal.decreases-rule_g
decreases-rule_g l = l.s.0
