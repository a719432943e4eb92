-- By the tests in their order, and then the weight.
use mathlib.Core.Path.{sym, ◌∙◌, refl}
use lib.ListN.{length}
use Rattle.rulebook.specs.Packets.{certificate_of}
use Rattle.certificates.proofs.Judged.{kind_heard, other_kind, odd_slot, odd_block, odd_masks, weight_left, judge_wide}
use Rattle.certificates.proofs.judge.Goals as goal

pub returns-then-is_other : goal.returns-then-is_other
returns-then-is_other c =
    let s = c.args in
    let heard = kind_heard s.stakes.now s.t c.requires.0 _ _ c.kind_in-k.ensures in
    other_kind s.stakes.now _ (certificate_of s.c s.a.now s.b.now) s.next heard (sym c.is_other.ensures ∙ c.if-is_other.true)

pub returns-then-not-slot_ok : goal.returns-then-not-slot_ok
returns-then-not-slot_ok c =
    let s = c.args in
    let heard = kind_heard s.stakes.now s.t c.requires.0 _ _ c.kind_in-k.ensures in
    odd_slot s.stakes.now _ (certificate_of s.c s.a.now s.b.now) s.next heard (sym c.is_other.ensures ∙ c.if-is_other.false) (sym c.slot_ok.ensures ∙ c.if-not-slot_ok.true)

pub returns-then-block_misfits : goal.returns-then-block_misfits
returns-then-block_misfits c =
    let s = c.args in
    let heard = kind_heard s.stakes.now s.t c.requires.0 _ _ c.kind_in-k.ensures in
    odd_block s.stakes.now _ (certificate_of s.c s.a.now s.b.now) s.next heard (sym c.is_other.ensures ∙ c.if-is_other.false)
    (sym c.slot_ok.ensures ∙ c.if-not-slot_ok.false) (sym c.block_misfits.ensures ∙ c.if-block_misfits.true)

pub bad_signers-requires : goal.bad_signers-requires
bad_signers-requires c =
    let s = c.args in
    let heard = kind_heard s.stakes.now s.t c.requires.0 _ _ c.kind_in-k.ensures in
    judge_wide s.stakes.now s.t c.requires.0 s.c s.a.now s.b.now c.requires.1 _ heard (sym c.is_other.ensures ∙ c.if-is_other.false) s.t.count c.requires.0.count

pub returns-then-bad_signers : goal.returns-then-bad_signers
returns-then-bad_signers c =
    let s = c.args in
    let heard = kind_heard s.stakes.now s.t c.requires.0 _ _ c.kind_in-k.ensures in
    odd_masks s.stakes.now _ (certificate_of s.c s.a.now s.b.now) s.next heard (sym c.is_other.ensures ∙ c.if-is_other.false)
    (sym c.slot_ok.ensures ∙ c.if-not-slot_ok.false) (sym c.block_misfits.ensures ∙ c.if-block_misfits.false) s.t.count c.requires.0.count
    (sym (c.bad_signers.ensures s.c) ∙ c.if-bad_signers.true)

pub weigh_in-requires : goal.weigh_in-requires
weigh_in-requires c =
    let s = c.args in
    let heard = kind_heard s.stakes.now s.t c.requires.0 _ _ c.kind_in-k.ensures in
    let wide = judge_wide s.stakes.now s.t c.requires.0 s.c s.a.now s.b.now c.requires.1 _ heard (sym c.is_other.ensures ∙ c.if-is_other.false) (length s.stakes.now) refl in
    record { fit = c.requires.0; kind = heard; wide = wide }

pub returns : goal.returns
returns c =
    let s = c.args in
    let heard = kind_heard s.stakes.now s.t c.requires.0 _ _ c.kind_in-k.ensures in
    c.weigh_in.ensures
    ∙ weight_left s.stakes.now _ (certificate_of s.c s.a.now s.b.now) s.next heard (sym c.is_other.ensures ∙ c.if-is_other.false)
    (sym c.slot_ok.ensures ∙ c.if-not-slot_ok.false) (sym c.block_misfits.ensures ∙ c.if-block_misfits.false) s.t.count c.requires.0.count
    (sym (c.bad_signers.ensures s.c) ∙ c.if-bad_signers.false)
