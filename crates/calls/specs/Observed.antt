-- WHAT A HOST SEES OF ITS CALLS, call by call, and that it is what the rule book says of what arrived.
use Rattle.std.specs.Prelude.{◌≡◌, Bool, true, false, ◌&&◌, ◌||◌, List, [], ◌++◌, ℕ, T, eqb}
use Rattle.rulebook.specs.Tools.{whenever}
use Rattle.rulebook.specs.Ledger.{fresh}
use Rattle.rulebook.specs.Taking.{Arrival, of_input, of_packet}
use Rattle.watchers.specs.Watching.{as_votes, passed_on, shown}
use Rattle.progress.specs.Progress.{accepted_in}
use Rattle.mail.specs.Mail.{times_out, timed_out_in}
use Rattle.mail.specs.Policy.{by_policy}
use Rattle.seen.specs.Seen.{Seen, ledger_in}
use Rattle.calls.specs.Operation.{Operation, one_input, a_tray, a_packet, fed_by, first_records}
use Rattle.calls.specs.Life.{Calls, none, then, not_started, not_watched, Life}

-- ---- steps that are answered 0

-- A call is a step: qr_vote, qr_block, qr_timeout, qr_look.
abbrev pub is_step : Operation → Bool
is_step (one_input i) = true
is_step (a_tray votes places answers) = false
is_step (a_packet packet) = false

-- One of the calls is a step that was answered 0: a look always is, where its outbox has room.
unfoldable pub woken_by : {v w : Seen} → Calls v w → Bool
woken_by none = false
woken_by (then k o lent number made words left m) = woken_by k || (is_step o && eqb number 0)
woken_by (not_started k stakes own genesis number words s n) = woken_by k
woken_by (not_watched k stakes genesis number words s n) = woken_by k

abbrev pub WokenSeen : Type 0
WokenSeen = (stakes : List ℕ) (own genesis : ℕ) (v : Seen) (h : Life stakes own genesis v) → T (woken_by h.calls) → T (accepted_in (fresh stakes own genesis) v.came)

-- ---- timeouts

-- A call is a step with the timeout of slot s.
abbrev pub is_timeout : Operation → ℕ → Bool
is_timeout (one_input i) s = times_out (of_input i) s
is_timeout (a_tray votes places answers) s = false
is_timeout (a_packet packet) s = false

-- One of the calls is, and was answered 0.
unfoldable pub timed_out_by : {v w : Seen} → Calls v w → ℕ → Bool
timed_out_by none s = false
timed_out_by (then k o lent number made words left m) s = timed_out_by k s || (is_timeout o s && eqb number 0)
timed_out_by (not_started k stakes own genesis number words t n) s = timed_out_by k s
timed_out_by (not_watched k stakes genesis number words t n) s = timed_out_by k s

abbrev pub TimedOutSeen : Type 0
TimedOutSeen =
    (stakes : List ℕ) (own genesis : ℕ) (v : Seen) (h : Life stakes own genesis v) (s : ℕ) → T (timed_out_by h.calls s)
    → T (timed_out_in (fresh stakes own genesis) v.came s)

-- ---- the policy for blocks

-- THE POLICY: what arrives with each call is allowed over the words that the call found. It asks something of blocks alone.
unfoldable pub calls_by_policy : {v w : Seen} → Calls v w → Bool
calls_by_policy none = true
calls_by_policy (then {w = w} k o lent number made words left m) = calls_by_policy k && by_policy (ledger_in w) (fed_by o lent)
calls_by_policy (not_started k stakes own genesis number words s n) = calls_by_policy k
calls_by_policy (not_watched k stakes genesis number words s n) = calls_by_policy k

abbrev pub PolicySeen : Type 0
PolicySeen =
    (stakes : List ℕ) (own genesis : ℕ) (v : Seen) (h : Life stakes own genesis v) → T (calls_by_policy h.calls) → T (by_policy (fresh stakes own genesis) v.came)

-- ---- what a watcher is shown

-- Of a call with which one thing arrived at node `own`: where it answers 0 that thing, and then the votes that the outbox tells, in the node's name.
unfoldable pub shown_one : ℕ → Arrival → (number made : ℕ) (left : List ℕ) → List Arrival
shown_one own i number made left = whenever (eqb number 0) (λ _. passed_on i ++ as_votes own (first_records made left)) []

-- Of any call, on what was seen before it. A tray's outbox does not tell which vote brought a record, so of a tray what single calls with its votes
-- would show.
unfoldable pub shown_with : ℕ → Seen → Operation → (lent : List ℕ) (number made : ℕ) (left : List ℕ) → List Arrival
shown_with own v (one_input i) lent number made left = shown_one own (of_input i) number made left
shown_with own v (a_tray votes places answers) lent number made left = shown (ledger_in v) (fed_by (a_tray votes places answers) lent)
shown_with own v (a_packet packet) lent number made left = shown_one own (of_packet packet) number made left

-- Of all calls.
unfoldable pub shown_by : ℕ → {v w : Seen} → Calls v w → List Arrival
shown_by own none = []
shown_by own (then {w = w} k o lent number made words left m) = shown_by own k ++ shown_with own w o lent number made left
shown_by own (not_started k stakes other genesis number words s n) = shown_by own k
shown_by own (not_watched k stakes genesis number words s n) = shown_by own k

abbrev pub ShownSeen : Type 0
ShownSeen = (stakes : List ℕ) (own genesis : ℕ) (v : Seen) (h : Life stakes own genesis v) → shown_by own h.calls ≡ shown (fresh stakes own genesis) v.came
