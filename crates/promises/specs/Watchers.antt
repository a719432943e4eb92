-- Watchers at the face: what one is refused with, and that it never votes.
use Rattle.std.specs.Prelude.{◌≡◌, true, false, List, ℕ, ◌+◌, ◌*◌, ◌<◌, length, get_or, ltb, ⊤, Result, Err}
use Rattle.rulebook.specs.declared.Input.{Input}
use Rattle.rulebook.specs.declared.Input.TheVariants as input
use Rattle.rulebook.specs.declared.Refusal.{Refusal}
use Rattle.rulebook.specs.declared.Refusal.TheVariants as refusal
use Rattle.rulebook.specs.declared.Slot.{Slot}
use Rattle.rulebook.specs.declared.Vote.{Vote}
use Rattle.rulebook.specs.PaperNumbers.{verdict_number, step_panel}
use Rattle.rulebook.specs.Ledger.{is_watcher}
use Rattle.rulebook.specs.Rules.{Record, record_of}
use Rattle.rulebook.specs.Inputs.{refuse_if}
use Rattle.rulebook.specs.WellFormed.{outbox_words}
use Rattle.record.specs.Layout.{ledger_of}
use Rattle.soundness.specs.Sound.{sound_words}
use Rattle.node.specs.Stepping.{StepOf}
use Rattle.watchers.specs.Watching.{tells_vote}
use Rattle.answers.specs.Face.{vote_input, timeout_input, Watched, Stepped, Taken, Trayed}
use Rattle.promises.specs.Panels.{sound_first}

-- The words are a watcher's record.
pub record Watches (ws : List ℕ) : Type 0 where
  pub sound : sound_words ws ≡ true
  pub watcher : is_watcher (ledger_of ws) ≡ true

-- qr_watch makes one.
abbrev pub FaceWatches : Type 0
FaceWatches = (ws stakes : List ℕ) (genesis : ℕ) (left : List ℕ) → Watched ws stakes genesis 0 left → Watches left

-- ---- "Timeouts are refused with 4, right after 17 and 9."

-- 17, 9, and then 4 whatever else is asked for.
unfoldable pub four_at_once : List ℕ → List ℕ → Result ⊤ Refusal
four_at_once ws out = sound_first ws (refuse_if (ltb (length out) outbox_words) refusal.NoRoom (Err refusal.BadKind))

abbrev pub WatcherTimeoutFour : Type 0
WatcherTimeoutFour =
    (ws out : List ℕ) (s : Slot) (a : Result ℕ Refusal) (ws' left : List ℕ) → is_watcher (ledger_of ws) ≡ true → StepOf ws out (input.Timeout s) a ws' left
    → (step_panel a).number ≡ verdict_number (four_at_once ws out)

-- qr_timeout.
abbrev pub FaceTimeoutFour : Type 0
FaceTimeoutFour =
    (ws out : List ℕ) (slot number made : ℕ) (ws' left : List ℕ) → is_watcher (ledger_of ws) ≡ true → Stepped ws out (timeout_input slot) number made ws' left
    → number ≡ verdict_number (four_at_once ws out)

-- ---- "A watcher has no own number, so 6 is never given."

abbrev pub NeverSix : Type 0
NeverSix =
    (ws out : List ℕ) (v : Vote) (a : Result ℕ Refusal) (ws' left : List ℕ) → is_watcher (ledger_of ws) ≡ true → StepOf ws out (input.Vote v) a ws' left
    → ¬ ((step_panel a).number ≡ 6)

-- qr_vote.
abbrev pub FaceNeverSix : Type 0
FaceNeverSix =
    (ws out : List ℕ) (kind node slot block number made : ℕ) (ws' left : List ℕ) → is_watcher (ledger_of ws) ≡ true
    → Stepped ws out (vote_input kind node slot block) number made ws' left → ¬ (number ≡ 6)

-- ---- "a node that never votes"

-- Record j of an outbox: "three words each: kind, slot, block".
abbrev pub record_at : List ℕ → ℕ → Record
record_at left j = record_of (get_or left (3 * j) 0) (get_or left (3 * j + 1) 0) (get_or left (3 * j + 2) 0)

-- None of the first records tells of a vote: their kinds are none of 1 to 5.
abbrev pub NoVoteTold : ℕ → List ℕ → Type 0
NoVoteTold made left = (j : ℕ) → j < made → tells_vote (record_at left j) ≡ false

-- No call of qr_vote, qr_block, qr_timeout, qr_look, qr_take or qr_tray on a watcher's record does.
pub record FaceNeverVotes : Type 0 where
  pub stepped : (ws out : List ℕ) (i : Input) (number made : ℕ) (ws' left : List ℕ) → Watches ws → Stepped ws out i number made ws' left
      → NoVoteTold made left
  pub taken : (ws out packet : List ℕ) (number made : ℕ) (ws' left : List ℕ) → Watches ws → Taken ws out packet number made ws' left
      → NoVoteTold made left
  pub trayed : (ws out votes places : List ℕ) (number made : ℕ) (ws' left answers : List ℕ) → Watches ws
      → Trayed ws out votes places number made ws' left answers → NoVoteTold made left
