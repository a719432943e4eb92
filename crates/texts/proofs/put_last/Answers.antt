-- Each number with its text; the others have one in common.
use mathlib.Core.Path.{sym, ap}
use Rattle.rulebook.specs.Tools.{choose}
use Rattle.lines.proofs.Paging.{as_text}
use Rattle.texts.specs.Texts.{last_text}
use Rattle.texts.proofs.Laws.{no_text}
use Rattle.texts.proofs.put_last.Goals as goal

pub returns-in-13 : goal.returns-in-13
unfolding last_text choose
returns-in-13 c = as_text (sym (ap last_text c.in-13.is)) c.text.ensures

pub returns-in-14 : goal.returns-in-14
unfolding last_text choose
returns-in-14 c = as_text (sym (ap last_text c.in-14.is)) c.text-in-14.ensures

pub returns-in-15 : goal.returns-in-15
unfolding last_text choose
returns-in-15 c = as_text (sym (ap last_text c.in-15.is)) c.text-in-15.ensures

pub returns-in-16 : goal.returns-in-16
unfolding last_text choose
returns-in-16 c = as_text (sym (ap last_text c.in-16.is)) c.text-in-16.ensures

pub returns-in-17 : goal.returns-in-17
unfolding last_text choose
returns-in-17 c = as_text (sym (ap last_text c.in-17.is)) c.text-in-17.ensures

pub returns-in-18 : goal.returns-in-18
unfolding last_text choose
returns-in-18 c = as_text (sym (ap last_text c.in-18.is)) c.text-in-18.ensures

pub returns-in_default : goal.returns-in_default
returns-in_default c =
    let r = c.in_default.in_default-own.rest in
    as_text (sym (no_text _ r.0.0.0.0.0.1 r.0.0.0.0.1 r.0.0.0.1 r.0.0.1 r.0.1 r.1)) c.text-in_default.ensures
