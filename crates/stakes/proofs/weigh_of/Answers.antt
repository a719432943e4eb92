-- The rest taken off all leaves the signers.
use Rattle.std.proofs.Common.{◌||◌}
use Rattle.rulebook.specs.Packets.{bit, joined}
use Rattle.stakes.proofs.Stepping.{rest_few, rest_light, rest_off}
use Rattle.stakes.proofs.weigh_of.Goals as goal

pub overflow_sub-result : goal.overflow_sub-result
overflow_sub-result c =
    rest_few c.args.stakes.now (λ n. bit (joined c.args.a.now) n || bit (joined c.args.b.now) n) _ c.requires.sum _ c.weigh_marked-others.ensures

pub overflow_sub-result-2 : goal.overflow_sub-result-2
overflow_sub-result-2 c =
    rest_light c.args.stakes.now (λ n. bit (joined c.args.a.now) n || bit (joined c.args.b.now) n) _ c.requires.sum _ c.weigh_marked-others.ensures

pub returns : goal.returns
returns c =
    rest_off c.args.stakes.now (λ n. bit (joined c.args.a.now) n || bit (joined c.args.b.now) n) _ c.requires.sum _ c.weigh_marked-others.ensures
