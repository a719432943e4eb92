-- 17, 3, or the list.
use Rattle.std.specs.Prelude.{◌≡◌, Err}
use Rattle.std.proofs.Common.{rules}
use mathlib.Core.Path.{◌∙◌, sym}
use Rattle.cards.proofs.Ways.{asked_fine}
use Rattle.inquest_lines.specs.declared.ListRefusal.TheVariants as why
use Rattle.kept_lines.proofs.Signers.{judgeable}
use Rattle.kept_lines.proofs.Laws.{asked_told, slot_told}
use Rattle.kept_lines.proofs.list_certificates.Goals as goal

pub returns-in_err-asked : goal.returns-in_err-asked
returns-in_err-asked c =
    let a = c.args in
    let e : c.from_residual.result ≡ Err (why.Refused c.in_err-asked.field-0.0) = search rules in
    rw e (asked_told a.rec.now a.s.0 a.list.now _ (sym c.asked.ensures ∙ c.in_err-asked.was))

pub list_places-requires : goal.list_places-requires
list_places-requires c = let k = asked_fine _ _ (sym c.asked.ensures ∙ c.in_ok-asked.was) in judgeable _ _ k.1 k.0

pub returns : goal.returns
returns c =
    let a = c.args in
    let k = asked_fine _ _ (sym c.asked.ensures ∙ c.in_ok-asked.was) in
    slot_told a.rec.now a.s.0 a.list.now k.0 k.1 c.list_places.ensures
