-- Where nothing is kept the block is asked, else the certificate is judged.
use mathlib.Core.Path.{◌∙◌, sym, ap}
use Prim.Native.Nat.{ℕ}
use Rattle.rulebook.specs.Ledger.{none, table_of, kept_at}
use Rattle.record.specs.Layout.{ledger_of}
use Rattle.kept_audit.proofs.Laws.{kept_judgeable, judged_same, fits_none, fits_kept}
use Rattle.kept_audit.proofs.certificate_fits.Goals as goal

pub block_at-block-requires : goal.block_at-block-requires
block_at-block-requires c = let p = c.requires in record { long = p.judging.long; slot = p.judging.slot; place = p.place }

pub returns-then-not-kept : goal.returns-then-not-kept
returns-then-not-kept c =
    let a = c.args in
    let l = ledger_of a.rec.now in
    ap (λ (x : ℕ). none x) c.block_at-block.ensures
    ∙ fits_none (table_of l) a.s.0 a.n (kept_at l a.s.0 a.n) (sym c.requires.asked ∙ c.if-not-kept.true)

pub stakes_of-stakes-requires : goal.stakes_of-stakes-requires
stakes_of-stakes-requires c = let p = c.requires.judging in record { long = p.long; few = p.table.few }

pub accepts-requires : goal.accepts-requires
accepts-requires c =
    let a = c.args in
    kept_judgeable a.rec.now a.s.0 c.requires.judging a.t c.requires.fit _ _ _ c.stakes_of-stakes.ensures
    c.mask_a-a.ensures.many c.mask_b-b.ensures.many

pub returns : goal.returns
returns c =
    let a = c.args in
    let l = ledger_of a.rec.now in
    let q = kept_at l a.s.0 a.n in
    c.accepts.ensures
    ∙ judged_same _ (table_of l) _ a.s.0 a.n _ _ _ q c.stakes_of-stakes.ensures c.place_kind.ensures
    c.block_at-block.ensures c.mask_a-a.ensures.spells c.mask_b-b.ensures.spells
    ∙ fits_kept (table_of l) a.s.0 a.n q (sym c.requires.asked ∙ c.if-not-kept.false)
