-- E's casts: the skips first, then the skip-fallback.
-- The answers name no call: under the calls in another order it is the last one that fails.
use borrow.Author.Rules.{rules}
use Rattle.voter.proofs.LiveLaws.{votes_on_lem}
use Rattle.fallbacks.proofs.FallbackLaws.{then_skip_fallback}
use Rattle.fallbacks.proofs.cast_skip_fallback.Goals as goal

pub returns : goal.returns
returns c = search then_skip_fallback

pub add_skip_fallback-requires : goal.add_skip_fallback-requires
add_skip_fallback-requires c = search (rules, votes_on_lem)
