-- The weights are asked in turn.
use mathlib.Core.Path.{◌∙◌, sym}
use native.Mathlib.Omega.{arith}
use Rattle.rule_laws.proofs.WeightLaws.{none_missing, some_missing, reaches_found}
use Rattle.candidates.proofs.TestLaws.{heavy_forty, heavy_light, heavy_both}
use Rattle.candidates.proofs.is_heavy.Goals as goal

pub returns-then-to_forty-eq0 : goal.returns-then-to_forty-eq0
returns-then-to_forty-eq0 c =
    let a = c.args in
    sym (heavy_forty a.total.0 a.notar.0 a.skip.0 (none_missing _ _ _ _ c.missing-to_forty.ensures c.if-to_forty-eq0.true))

pub returns-then-to_twenty-ne0 : goal.returns-then-to_twenty-ne0
returns-then-to_twenty-ne0 c =
    let a = c.args in
    sym (heavy_light a.total.0 a.notar.0 a.skip.0 (some_missing _ _ _ _ c.missing-to_forty.ensures c.if-to_forty-eq0.false) (some_missing _ _ _ _ c.missing-to_twenty.ensures c.if-to_twenty-ne0.true))

pub overflow_add-skip : goal.overflow_add-skip
overflow_add-skip c = let a = c.requires in omega (arith, a.notar, a.skip, a.light)

pub returns : goal.returns
returns c =
    let a = c.args in
    sym (reaches_found _ _ _ _ c.missing-to_sixty.ensures)
    ∙ sym (heavy_both a.total.0 a.notar.0 a.skip.0 (some_missing _ _ _ _ c.missing-to_forty.ensures c.if-to_forty-eq0.false) (none_missing _ _ _ _ c.missing-to_twenty.ensures c.if-to_twenty-ne0.false))
