-- What taking a packet promises, from its definition alone: one result, sound words again, and all memory as found where it is refused.
use Rattle.std.specs.Prelude.{Result}
use mathlib.Core.Path.{◌≡◌, sym, ap, ◌∙◌}
use mathlib.Core.Bool.{true}
use mathlib.Core.List.{List}
use Prim.Native.Nat.{ℕ}
use lib.ListN.{length}
use Rattle.rulebook.specs.declared.Refusal.TheVariants as refusal
use Rattle.rulebook.specs.WellFormed.{take_certificate}
use Rattle.rule_laws.proofs.ToolLaws.{given_on}
use Rattle.record.specs.Layout.{ledger_of}
use Rattle.record.specs.Spelling.{is_spelled}
use Rattle.soundness.specs.Sound.{sound_words}
use Rattle.soundness.proofs.Laws.{words_spelled, sound_ledger}
use Rattle.soundness.proofs.InStep.{spelled_sound}
use Rattle.settling.proofs.Soundness.{take_sound}
use Rattle.node.specs.Stepping.{Leaves, as_found, as_fed}
use Rattle.taking.specs.Taking.{take_leaves, TakeOf}
use Rattle.rulebook.specs.declared.Refusal.{Refusal}

-- Any two results that taking allows are equal: answer, record and outbox.
pub take_one : (ws out packet : List ℕ) (r r' : Result ℕ Refusal) (left left' box box' : List ℕ)
    → TakeOf ws out packet r left box → TakeOf ws out packet r' left' box' → (r ≡ r') × (left ≡ left') × (box ≡ box')
take_one ws out packet r r' left left' box box' a b =
    (a.answered ∙ sym b.answered, a.words ∙ sym b.words, a.outbox ∙ sym b.outbox)

-- What it leaves of a sound record is sound again: it is never answered 17 later.
pub take_leaves_sound : (ws out packet : List ℕ) (r : Result ℕ Refusal) (left box : List ℕ)
    → sound_words ws ≡ true → TakeOf ws out packet r left box → sound_words left ≡ true
unfolding take_leaves
take_leaves_sound ws out packet r left box s h =
    let e = given_on (is_spelled ws) (as_found refusal.BadRecord ws out) (λ _. as_fed (take_certificate (ledger_of ws) (length out) packet) out) (words_spelled ws s) in
    ap sound_words (h.words ∙ ap (λ (x : Leaves). x.words) e)
    ∙ spelled_sound (take_certificate (ledger_of ws) (length out) packet).ledger (take_sound (ledger_of ws) (sound_ledger ws s) (length out) packet)
