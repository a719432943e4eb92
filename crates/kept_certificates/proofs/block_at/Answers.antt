-- The first word of the place is the block.
use mathlib.Core.Path.{ap}
use Rattle.rulebook.specs.Certificates.{Kept}
use Rattle.record.proofs.Reading.{kept_read}
use Rattle.kept_certificates.proofs.block_at.Goals as goal

pub returns : goal.returns
returns c =
    ap (λ (q : Kept). q.block) (kept_read c.args.rec.now c.args.s.0 c.args.n c.kept_start-i.result c.requires c.kept_start-i.ensures.is)
