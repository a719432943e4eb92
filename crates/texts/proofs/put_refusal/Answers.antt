-- Each number with its text; the others by what follows.
use mathlib.Core.Path.{sym, ap}
use Rattle.rulebook.specs.Tools.{choose}
use Rattle.lines.proofs.Paging.{as_text}
use Rattle.texts.specs.Texts.{refusal_text}
use Rattle.texts.proofs.Laws.{later_text_lem}
use Rattle.texts.proofs.put_refusal.Goals as goal

pub returns-in-0 : goal.returns-in-0
unfolding refusal_text choose
returns-in-0 c = as_text (sym (ap refusal_text c.in-0.is)) c.text.ensures

pub returns-in-1 : goal.returns-in-1
unfolding refusal_text choose
returns-in-1 c = as_text (sym (ap refusal_text c.in-1.is)) c.text-in-1.ensures

pub returns-in-2 : goal.returns-in-2
unfolding refusal_text choose
returns-in-2 c = as_text (sym (ap refusal_text c.in-2.is)) c.text-in-2.ensures

pub returns-in-3 : goal.returns-in-3
unfolding refusal_text choose
returns-in-3 c = as_text (sym (ap refusal_text c.in-3.is)) c.text-in-3.ensures

pub returns-in-4 : goal.returns-in-4
unfolding refusal_text choose
returns-in-4 c = as_text (sym (ap refusal_text c.in-4.is)) c.text-in-4.ensures

pub returns-in-5 : goal.returns-in-5
unfolding refusal_text choose
returns-in-5 c = as_text (sym (ap refusal_text c.in-5.is)) c.text-in-5.ensures

pub returns-in-6 : goal.returns-in-6
unfolding refusal_text choose
returns-in-6 c = as_text (sym (ap refusal_text c.in-6.is)) c.text-in-6.ensures

pub returns-in_default : goal.returns-in_default
returns-in_default c =
    let r = c.in_default.in_default-own.rest in
    as_text (sym (later_text_lem _ r.0.0.0.0.0.0.1 r.0.0.0.0.0.1 r.0.0.0.0.1 r.0.0.0.1 r.0.0.1 r.0.1 r.1)) c.put_later.ensures
