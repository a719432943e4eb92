-- D's casts: the skips first, then the fallback.
-- The answers name no call: under the calls in another order it is the last one that fails.
use Rattle.fallbacks.proofs.FallbackLaws.{weighed_behind, then_fallback}
use Rattle.fallbacks.proofs.cast_fallback.Goals as goal

pub returns : goal.returns
returns c = search then_fallback

pub add_notar_fallback-requires : goal.add_notar_fallback-requires
add_notar_fallback-requires c = search weighed_behind
