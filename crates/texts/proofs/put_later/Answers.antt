-- Each number with its text; the others by what follows.
use mathlib.Core.Path.{sym, ap}
use Rattle.rulebook.specs.Tools.{choose}
use Rattle.lines.proofs.Paging.{as_text}
use Rattle.texts.specs.Texts.{later_text}
use Rattle.texts.proofs.Laws.{last_text_lem}
use Rattle.texts.proofs.put_later.Goals as goal

pub returns-in-7 : goal.returns-in-7
unfolding later_text choose
returns-in-7 c = as_text (sym (ap later_text c.in-7.is)) c.text.ensures

pub returns-in-8 : goal.returns-in-8
unfolding later_text choose
returns-in-8 c = as_text (sym (ap later_text c.in-8.is)) c.text-in-8.ensures

pub returns-in-9 : goal.returns-in-9
unfolding later_text choose
returns-in-9 c = as_text (sym (ap later_text c.in-9.is)) c.text-in-9.ensures

pub returns-in-10 : goal.returns-in-10
unfolding later_text choose
returns-in-10 c = as_text (sym (ap later_text c.in-10.is)) c.text-in-10.ensures

pub returns-in-11 : goal.returns-in-11
unfolding later_text choose
returns-in-11 c = as_text (sym (ap later_text c.in-11.is)) c.text-in-11.ensures

pub returns-in-12 : goal.returns-in-12
unfolding later_text choose
returns-in-12 c = as_text (sym (ap later_text c.in-12.is)) c.text-in-12.ensures

pub returns-in_default : goal.returns-in_default
returns-in_default c =
    let r = c.in_default.in_default-own.rest in
    as_text (sym (last_text_lem _ r.0.0.0.0.0.1 r.0.0.0.0.1 r.0.0.0.1 r.0.0.1 r.0.1 r.1)) c.put_last.ensures
