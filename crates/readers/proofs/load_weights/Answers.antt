-- What is weighed, put together.
use Rattle.readers.proofs.Ways.{weights_light, weights_four}
use Rattle.readers.proofs.load_weights.Goals as goal

pub missing_to_d-requires : goal.missing_to_d-requires
missing_to_d-requires c =
    let a = c.args in
    weights_light a.rec.now a.s.0 c.requires a.b _ _ _ c.weight_of-notar.ensures c.weight_of-skip.ensures c.total.ensures

pub returns : goal.returns
returns c =
    let a = c.args in
    weights_four a.rec.now a.s.0 a.b _ _ _ _ _ c.weight_of-notar.ensures c.weight_of-fallback.ensures c.weight_of-skip.ensures c.total.ensures
    c.missing_to_d.ensures
