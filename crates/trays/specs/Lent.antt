-- What a tray does with the lent record, outbox and answer buffer, word for word, and what its parts ask and leave.
use Rattle.std.specs.Prelude.{◌≡◌, true, List, ◌++◌, reverse, ℕ, ◌*◌, ◌≤◌, length, drop, Result, Ok, Err}
use Rattle.std.specs.Result.{result_unwrap_or}
use Rattle.rulebook.specs.declared.Vote.{Vote}
use Rattle.rulebook.specs.declared.Input.TheVariants as input
use Rattle.rulebook.specs.declared.Refusal.{Refusal}
use Rattle.rulebook.specs.declared.Refusal.TheVariants as refusal
use Rattle.rulebook.specs.Tools.{whenever}
use Rattle.rulebook.specs.PaperNumbers.{answer_number, step_panel}
use Rattle.rulebook.specs.Rules.{Record, State, state_of}
use Rattle.rulebook.specs.Inputs.{Fed, vote_verdict, feed}
use Rattle.rulebook.specs.WellFormed.{outbox_words}
use Rattle.rulebook.specs.Writers.{over}
use Rattle.record.specs.Layout.{ledger_of}
use Rattle.record.specs.Spelling.{words_of, is_spelled}
use Rattle.soundness.specs.Sound.{sound_words}
use Rattle.voter.specs.Outbox.{records_in}
use Rattle.voter.specs.Voting.{Live, Onward}
use Rattle.node.specs.Stepping.{spelled}
use Rattle.tray_rules.specs.Trays.{Tray, votes_in, whole_votes, serve, tray}

-- What a tray leaves: its answer, the record's words, the outbox's words, the answer buffer's words.
pub record Leaves : Type 0 where
  pub answer : Result ℕ Refusal
  pub words : List ℕ
  pub outbox : List ℕ
  pub answers : List ℕ

-- A refused tray leaves all lent memory as found.
abbrev pub as_found : Refusal → List ℕ → List ℕ → List ℕ → Leaves
as_found r ws out places = record { answer = Err r; words = ws; outbox = out; answers = places }

-- The records from the outbox's front, one number per vote from the answer buffer's front; the words past them stay.
abbrev pub as_served : Tray → List ℕ → List ℕ → Leaves
as_served t out places =
    record {
      answer = t.answer;
      words = words_of t.served.ledger;
      outbox = spelled t.served.records ++ drop (3 * length t.served.records) out;
      answers = over t.served.numbers places;
    }

-- 17 for words that spell no ledger; else the tray of the ledger that they hold.
unfoldable pub tray_leaves : List ℕ → List ℕ → List ℕ → List ℕ → Leaves
tray_leaves ws out votes places =
    whenever (is_spelled ws)
    (λ _. as_served (tray (ledger_of ws) (length out) (length places) votes) out places)
    (as_found refusal.BadRecord ws out places)

-- What a tray answers, and all memory afterwards.
pub record TrayOf (ws out votes places : List ℕ) (r : Result ℕ Refusal) (ws' out' places' : List ℕ) : Type 0 where
  pub answered : r ≡ (tray_leaves ws out votes places).answer
  pub words : ws' ≡ (tray_leaves ws out votes places).words
  pub outbox : out' ≡ (tray_leaves ws out votes places).outbox
  pub answers : places' ≡ (tray_leaves ws out votes places).answers

-- ---- the parts

-- A tray is under way: the record is sound, and the outbox has room for all that can still be told.
pub record Serving (ws out : List ℕ) (made : ℕ) : Type 0 where
  pub sound : sound_words ws ≡ true
  pub live : Live ws out made

-- Likewise, and nothing refuses the vote.
pub record Taking (ws out : List ℕ) (made : ℕ) (v : Vote) : Type 0 where
  pub serving : Serving ws out made
  pub fine : vote_verdict (ledger_of ws) v ≡ Ok tt

-- A fed node, its records on top of those of the votes before, newest first.
abbrev pub on_top : Fed → List Record → State
on_top f rs = state_of f.ledger (reverse f.records ++ rs)

-- What one vote of a tray leaves: its number, and the state that feeding it gives. It answers how many records there are then, the same as
-- before where it is refused.
pub record VoteServed (ws out : List ℕ) (made : ℕ) (v : Vote) (ws' left : List ℕ) (r : Result ℕ Refusal) : Type 0 where
  pub number : answer_number r ≡ (step_panel (feed (ledger_of ws) (input.Vote v)).answer).number
  pub onward : Onward ws out made ws' left (result_unwrap_or r made) (on_top (feed (ledger_of ws) (input.Vote v)) (records_in out made))

-- A tray that no test refuses.
pub record Ready (ws out votes places : List ℕ) : Type 0 where
  pub sound : sound_words ws ≡ true
  pub room : outbox_words ≤ length out
  pub enough : whole_votes votes ≤ length places

-- What all whole votes of a tray leave.
pub record AllServed (ws out votes places ws' out' places' : List ℕ) (made : ℕ) : Type 0 where
  pub many : made ≡ length (serve (ledger_of ws) (votes_in votes)).records
  pub words : ws' ≡ words_of (serve (ledger_of ws) (votes_in votes)).ledger
  pub outbox : out' ≡ spelled (serve (ledger_of ws) (votes_in votes)).records ++ drop (3 * length (serve (ledger_of ws) (votes_in votes)).records) out
  pub answers : places' ≡ over (serve (ledger_of ws) (votes_in votes)).numbers places
