-- The loop over the votes: what the first leave stands in front of what the others will leave, and what is kept in mind holds of it.
use mathlib.Core.Path.{◌≡◌, ◌∙◌}
use native.Mathlib.Omega.{arith}
use borrow.Author.Rules.{rules}
use Rattle.std.specs.Slice.Iter.{chunks_exact_rest}
use Rattle.std.specs.Iterator.Adapters.{enumerate_source, enumerate_count}
use Rattle.rulebook.specs.PaperNumbers.{answer_number}
use Rattle.rulebook.specs.Messages.{vote_of}
use Rattle.soundness.proofs.Laws.{sound_long, sound_tabled}
use Rattle.trays.proofs.Cuts.{cut_end, cut_there, cut_word, cut_first, cut_more}
use Rattle.trays.proofs.AllVotes.{going_start, going_more, going_end}
use Rattle.trays.proofs.serve_votes.Goals as goal

pub first_looks-looks-requires : goal.first_looks-looks-requires
first_looks-looks-requires c = (sound_long _ c.requires.sound, sound_tabled _ c.requires.sound)

pub loop-i-init : goal.loop-i-init
loop-i-init c =
    let none : enumerate_count c.into_iter-i-iterator.result ≡ 0 = search rules in
    (record { four = search rules; left = search rules }, search rules, c.first_looks-looks.ensures, rw none (going_start c.requires))

pub vote_in-requires : goal.vote_in-requires
vote_in-requires c = c.in-Some.ensures.steps.0.1.1 ∙ c.loop-i.invariant.0.four

pub serve_vote-served-requires : goal.serve_vote-served-requires
serve_vote-served-requires c = (c.loop-i.invariant.3.serving, c.loop-i.invariant.2)

pub bounds-answers-i : goal.bounds-answers-i
bounds-answers-i c =
    let k = c.loop-i.invariant in
    let q = c.in-Some.ensures.steps in
    omega (arith, q.1, cut_there k.0 c.in-Some.words.now _ q.0.1.0 q.0.1.1, k.3.kept, c.requires.enough)

pub loop-i-preserved : goal.loop-i-preserved
loop-i-preserved c =
    let k = c.loop-i.invariant in
    let q = c.in-Some.ensures.steps in
    let x = c.in-Some.words.now in
    let rest = chunks_exact_rest (enumerate_source c.next.new.self) in
    let word = cut_word k.0 x rest q.0.1.0 q.0.1.1 in
    let served = c.serve_vote-served in
    let number : c.map_or_else.result ≡ answer_number served.result = search rules in
    rw (q.2, q.1, number, c.unwrap_or-made.ensures) (
      record { four = q.0.0 ∙ k.0.four; left = (cut_more k.0 x rest q.0.1.0 q.0.1.1).left },
      served.auto.looks ∙ k.1,
      served.ensures.0,
      going_more k.3 c.vote_in.result (cut_there k.0 x rest q.0.1.0 q.0.1.1) c.requires.enough
          (c.vote_in.ensures ∙ (λ j. vote_of (cut_first k.0 x rest q.0.1.0 q.0.1.1 j) (word 1 (omega arith) j) (word 2 (omega arith) j) (word 3 (omega arith) j)))
          served.ensures.1 (λ n. (c.type_inv.rec n).fits) served.auto.outbox,
    )

pub returns : goal.returns
returns c =
    let k = c.loop-i.invariant in
    going_end k.3 (cut_end k.0 c.in-None.ensures.steps.0.1.0) c.requires.enough
