-- One certificate or two, each at its place.
use mathlib.Core.Path.{sym, ◌∙◌, refl}
use Rattle.rulebook.specs.declared.CertificateKind.TheVariants as certificate
use Rattle.rulebook.specs.Checker.{is_other_kind}
use Rattle.record.specs.Layout.{ledger_of}
use Rattle.writers.proofs.Verdicts.{slot_row}
use Rattle.writers.proofs.Laid.{carded, proof_held, room_front, room_either, room_next, laid_fast, laid_slow}
use Rattle.writers.proofs.lay_proof.Goals as goal

pub held-requires : goal.held-requires
held-requires c = carded c.args.rec.now c.args.s.0 c.requires.sound c.requires.slot

pub lay_certificate-requires : goal.lay_certificate-requires
unfolding is_other_kind
lay_certificate-requires c =
    let s = c.args in
    let room = room_front (ledger_of s.rec.now) certificate.FastFinal s.s.0 s.b s.buffer.now (slot_row _ c.requires.slot) (room_either _ _ c.requires.room) in
    (record { sound = c.requires.sound; kind = refl; slot = c.requires.slot; room = room }, sym c.held.ensures ∙ c.if-held.true)

pub returns-then-held : goal.returns-then-held
returns-then-held c =
    let s = c.args in
    laid_fast (ledger_of s.rec.now) s.s.0 s.b (sym c.held.ensures ∙ c.if-held.true) c.lay_certificate.ensures

pub lay_certificate-next-requires : goal.lay_certificate-next-requires
unfolding is_other_kind
lay_certificate-next-requires c =
    let s = c.args in
    let room = room_front (ledger_of s.rec.now) certificate.Notar s.s.0 s.b s.buffer.now (slot_row _ c.requires.slot) (room_either _ _ c.requires.room) in
    let both = proof_held (ledger_of s.rec.now) s.s.0 s.b c.requires.final (sym c.held.ensures ∙ c.if-held.false) in
    (record { sound = c.requires.sound; kind = refl; slot = c.requires.slot; room = room }, both.0)

pub lay_certificate-requires-2 : goal.lay_certificate-requires-2
unfolding is_other_kind
lay_certificate-requires-2 c =
    let s = c.args in
    let first = c.lay_certificate-next in
    let room = room_next (ledger_of s.rec.now) s.s.0 s.b s.buffer.now _ _ (slot_row _ c.requires.slot) c.requires.room first.auto.buffer first.ensures in
    let pair = proof_held (ledger_of s.rec.now) s.s.0 s.b c.requires.final (sym c.held.ensures ∙ c.if-held.false) in
    (record { sound = c.requires.sound; kind = refl; slot = c.requires.slot; room = room }, pair.1)

pub returns : goal.returns
returns c =
    let s = c.args in
    laid_slow (ledger_of s.rec.now) s.s.0 s.b (sym c.held.ensures ∙ c.if-held.false) (slot_row _ c.requires.slot) c.requires.room
    c.lay_certificate-next.ensures c.lay_certificate-2.ensures
