-- Kind, block and masks, then the weight.
use mathlib.Core.Path.{◌∙◌}
use Rattle.rulebook.specs.Packets.{certificate_of}
use Rattle.certificates.specs.Told.{headed}
use Rattle.certificates.proofs.Judged.{kept_refused, kept_weighed}
use Rattle.certificates.proofs.accepts.Goals as goal

pub returns-then-other-misfits : goal.returns-then-other-misfits
returns-then-other-misfits c =
    let a = c.args in
    let h = headed a.s.0 a.block in
    kept_refused a.stakes.now a.t c.requires.weighty.fit a.k (certificate_of h a.a.now a.b.now) c.requires.slot _ _ _
    c.is_other-other.ensures c.block_misfits-misfits.ensures (c.bad_signers-masks.ensures h) c.if-other-misfits.true

pub returns : goal.returns
returns c =
    let a = c.args in
    let h = headed a.s.0 a.block in
    c.weighs_enough.ensures h
    ∙ kept_weighed a.stakes.now a.t c.requires.weighty.fit a.k (certificate_of h a.a.now a.b.now) c.requires.slot _ _ _
    c.is_other-other.ensures c.block_misfits-misfits.ensures (c.bad_signers-masks.ensures h) c.if-other-misfits.false
