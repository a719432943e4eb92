-- Where nothing is kept all fits. Else, at the loop's head, the places behind it fit and are in turn, and the last of them tells
-- whether those of kind 3 are filled.
use mathlib.Core.Bool.{true}
use mathlib.Core.Path.{◌≡◌, ◌∙◌, ap, sym}
use Prim.Native.Nat.{ℕ, ◌-◌}
use native.Mathlib.Omega.{arith}
use lib.ListN.{length}
use Rattle.rule_laws.proofs.ToolLaws.{and_both, both_and, all_none, all_more}
use Rattle.rulebook.specs.Ledger.{table_of, certificates_at, kept_at}
use Rattle.rulebook.specs.Tools.{all_to}
use Rattle.rulebook.specs.WellFormed.{certificate_fits}
use Rattle.record.specs.Layout.{ledger_of}
use Rattle.record.proofs.Reading.{ledger_shaped}
use Rattle.kept_certificates.proofs.ByPlace.{blank_fits}
use Rattle.kept_audit.proofs.Laws.{record_table, filled_more, place_fits, all_fit, unfit}
use Rattle.kept_audit.proofs.certificates_fit.Goals as goal

pub nothing_kept-requires : goal.nothing_kept-requires
nothing_kept-requires c = let p = c.requires in record { long = p.long; slot = p.slot }

pub returns-then-nothing_kept : goal.returns-then-nothing_kept
returns-then-nothing_kept c =
    let a = c.args in
    let l = ledger_of a.rec.now in
    sym (blank_fits (table_of l) a.s.0 (certificates_at l a.s.0) (sym c.nothing_kept.ensures ∙ c.if-nothing_kept.true))

pub count-requires : goal.count-requires
count-requires c = c.requires.long

pub total-requires : goal.total-requires
total-requires c = c.requires.long

pub loop-n-init : goal.loop-n-init
loop-n-init c =
    let p = c.requires in
    let l = ledger_of c.args.rec.now in
    (omega arith, (record_table l p.table p.few _ c.count.ensures c.total.ensures, ((λ h. absurd (omega arith)), all_none _)))

pub is_kept-kept-requires : goal.is_kept-kept-requires
is_kept-kept-requires c = let p = c.requires in record { long = p.long; slot = p.slot; place = omega arith }

pub is_behind-requires : goal.is_behind-requires
is_behind-requires c =
    let p = c.requires in
    record { place = record { long = p.long; slot = p.slot; place = omega arith }; asked = c.is_kept-kept.ensures; front = c.loop-n.invariant.1.1.0 }

pub returns-then-not-is_behind : goal.returns-then-not-is_behind
returns-then-not-is_behind c =
    let a = c.args in
    let l = ledger_of a.rec.now in
    let n = c.loop-n.n in
    unfit (table_of l) a.s.0 (certificates_at l a.s.0) n (omega (arith, (ledger_shaped a.rec.now).certificates a.s.0 c.requires.slot))
    _ (λ e. c.is_behind.ensures ∙ (and_both (certificate_fits (table_of l) a.s.0 n (kept_at l a.s.0 n)) _ e).1) (c.if-not-is_behind.true)

pub certificate_fits-requires : goal.certificate_fits-requires
certificate_fits-requires c =
    record {
      judging = c.requires;
      fit = c.loop-n.invariant.1.0;
      place = omega arith;
      asked = c.is_kept-kept.ensures;
    }

pub returns-then-not-certificate_fits : goal.returns-then-not-certificate_fits
returns-then-not-certificate_fits c =
    let a = c.args in
    let l = ledger_of a.rec.now in
    let n = c.loop-n.n in
    unfit (table_of l) a.s.0 (certificates_at l a.s.0) n (omega (arith, (ledger_shaped a.rec.now).certificates a.s.0 c.requires.slot))
    _ (λ e. c.certificate_fits.ensures ∙ (and_both _ _ e).0) (c.if-not-certificate_fits.true)

pub loop-n-preserved : goal.loop-n-preserved
loop-n-preserved c =
    let a = c.args in
    let l = ledger_of a.rec.now in
    let k = c.loop-n in
    let fits = sym c.certificate_fits.ensures ∙ c.if-not-certificate_fits.false in
    let behind = sym c.is_behind.ensures ∙ c.if-not-is_behind.false in (
      omega arith,
      (
        k.invariant.1.0,
        (
          filled_more (certificates_at l a.s.0) k.n _ c.is_kept-kept.ensures behind,
          all_more k.n _ ∙ both_and _ _ k.invariant.1.1.1 (both_and _ _ fits behind),
        ),
      ),
    )

pub returns : goal.returns
returns c =
    let ws = c.args.rec.now in
    let s = c.args.s.0 in
    let qs = certificates_at (ledger_of ws) s in
    let k = c.loop-n in
    let e : length qs ≡ k.n = omega (arith, (ledger_shaped ws).certificates s c.requires.slot) in
    sym (all_fit (table_of (ledger_of ws)) s qs ∙ ap (λ (n : ℕ). all_to n (place_fits (table_of (ledger_of ws)) s qs)) e ∙ k.invariant.1.1.1)
