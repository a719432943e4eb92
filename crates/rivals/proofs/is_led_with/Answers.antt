-- The words have nothing in them at first.
use Rattle.rivals.proofs.Groups.{groups_empty}
use Rattle.rivals.proofs.is_led_with.Goals as goal

pub is_led_over-requires : goal.is_led_over-requires
is_led_over-requires g c = (c.requires.claimed, groups_empty g.row.WORDS c.requires.some.0 c.requires.claimed.leading)
