-- The certificate by votes where nothing is missing to it, else by the kept masks that hold it.
use mathlib.Core.Path.{sym}
use Rattle.record.specs.Layout.{ledger_of}
use Rattle.writers.proofs.Laid.{carded, by_votes_lem, by_masks, held_kept, missing_none, missing_some, laying_same, laid_same}
use Rattle.writers.proofs.lay_certificate.Goals as goal

pub missing_to-missing-requires : goal.missing_to-missing-requires
missing_to-missing-requires c = carded c.args.rec.now c.args.s.0 c.requires.0.sound c.requires.0.slot

pub lay_voted-requires : goal.lay_voted-requires
lay_voted-requires c =
    let s = c.args in
    let l = ledger_of s.rec.now in
    let t = missing_none l s.kind s.s.0 s.b c.missing_to-missing.ensures c.if-missing-eq0.true in
    laying_same (by_votes_lem l s.kind s.s.0 s.b t) c.requires.0

pub returns-then-missing-eq0 : goal.returns-then-missing-eq0
returns-then-missing-eq0 c =
    let s = c.args in
    let l = ledger_of s.rec.now in
    let t = missing_none l s.kind s.s.0 s.b c.missing_to-missing.ensures c.if-missing-eq0.true in
    laid_same (sym (by_votes_lem l s.kind s.s.0 s.b t)) c.lay_voted.ensures

pub lay_kept-requires : goal.lay_kept-requires
lay_kept-requires c =
    let s = c.args in
    let l = ledger_of s.rec.now in
    let t = missing_some l s.kind s.s.0 s.b c.missing_to-missing.ensures c.if-missing-eq0.false in
    (laying_same (by_masks l s.kind s.s.0 s.b t) c.requires.0, held_kept l s.kind s.s.0 s.b c.requires.1 t)

pub returns : goal.returns
returns c =
    let s = c.args in
    let l = ledger_of s.rec.now in
    let t = missing_some l s.kind s.s.0 s.b c.missing_to-missing.ensures c.if-missing-eq0.false in
    laid_same (sym (by_masks l s.kind s.s.0 s.b t)) c.lay_kept.ensures
