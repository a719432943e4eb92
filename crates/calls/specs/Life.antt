-- A LIFE: a start and the calls since, each known by its contract alone, as a statement about what is seen of it. No list of calls is kept: the words,
-- the told records and what arrived are all that a promise speaks of. Functions of the header and public operations may be mixed.
use Rattle.std.specs.Prelude.{◌≡◌, List, [], ◌++◌, ℕ, T, Result}
use Rattle.rulebook.specs.declared.Refusal.{Refusal}
use Rattle.rulebook.specs.PaperNumbers.{step_panel}
use Rattle.answers.specs.Face.{Beside, Started, Watched, Stepped, Trayed, Taken}
use Rattle.safety.specs.Slot.{Test}
use Rattle.safety.specs.Ring.{FewOthers}
use Rattle.seen.specs.Seen.{Seen, NodeSeen, WatcherSeen, Earlier}
use Rattle.seen.specs.Ring.{Lives, Nodes}
use Rattle.calls.specs.Operation.{Operation, one_input, a_tray, a_packet, fed_by, first_records}

-- ---- calls

-- A call is MET: the number answered, the records made and all memory afterwards are as its contract has them, whichever function was called: qr_vote,
-- qr_block, qr_timeout, qr_look or the public step; qr_tray or the public tray; qr_take or the public taking.
abbrev pub Met : Operation → (ws lent : List ℕ) (number made : ℕ) (words left : List ℕ) → Type 0
Met (one_input i) ws lent number made words left = Stepped ws lent i number made words left
Met (a_tray votes places answers) ws lent number made words left = Trayed ws lent votes places number made words left answers
Met (a_packet packet) ws lent number made words left = Taken ws lent packet number made words left

-- The same of an answer of the public operations, by its number and by as many records as it made.
abbrev pub MetWith : Operation → (ws lent : List ℕ) → Result ℕ Refusal → (words left : List ℕ) → Type 0
MetWith o ws lent answer words left = (made : ℕ) → Beside made (step_panel answer).values → Met o ws lent (step_panel answer).number made words left

-- What is seen after a start.
abbrev pub begun : List ℕ → Seen
begun ws = record { words = ws; told = []; came = [] }

-- And after one more call: the words that it left, as many records from its outbox's front as it says that it made, and what arrived with it.
abbrev pub next : Seen → Operation → (lent : List ℕ) (made : ℕ) (words left : List ℕ) → Seen
next v o lent made words left = record { words = words; told = v.told ++ first_records made left; came = v.came ++ fed_by o lent }

-- And after a start that was refused: the words that it left, and nothing else.
abbrev pub refused_to : Seen → List ℕ → Seen
refused_to v words = record { words = words; told = v.told; came = v.came }

-- Calls one after the other, each as its contract has it on the words that the one before left. A start on the living record, a node's or a watcher's,
-- is among them where it is not answered 0; one that is begins another life.
pub data Calls : Seen → Seen → Type 0 where
  none : {v : Seen} → Calls v v
  then : {v w : Seen} → Calls v w → (o : Operation) (lent : List ℕ) (number made : ℕ) (words left : List ℕ)
      → Met o w.words lent number made words left → Calls v (next w o lent made words left)
  not_started : {v w : Seen} → Calls v w → (stakes : List ℕ) (own genesis number : ℕ) (words : List ℕ)
      → Started w.words stakes own genesis number words → ¬ (number ≡ 0) → Calls v (refused_to w words)
  not_watched : {v w : Seen} → Calls v w → (stakes : List ℕ) (genesis number : ℕ) (words : List ℕ)
      → Watched w.words stakes genesis number words → ¬ (number ≡ 0) → Calls v (refused_to w words)

-- ---- lives

-- A node's life: a start that was answered 0, and calls since.
pub record Life (stakes : List ℕ) (own genesis : ℕ) (v : Seen) : Type 0 where
  pub found : List ℕ
  pub words : List ℕ
  pub start : Started found stakes own genesis 0 words
  pub calls : Calls (begun words) v

-- A watcher's life likewise.
pub record Watch (stakes : List ℕ) (genesis : ℕ) (v : Seen) : Type 0 where
  pub found : List ℕ
  pub words : List ℕ
  pub start : Watched found stakes genesis 0 words
  pub calls : Calls (begun words) v

-- THE ONE LEMMA: what is seen of them is the rule book's life.
abbrev pub LifeIsSeen : Type 0
LifeIsSeen = (stakes : List ℕ) (own genesis : ℕ) (v : Seen) → Life stakes own genesis v → NodeSeen stakes own genesis v

abbrev pub WatchIsSeen : Type 0
WatchIsSeen = (stakes : List ℕ) (genesis : ℕ) (v : Seen) → Watch stakes genesis v → WatcherSeen stakes genesis v

-- So honest nodes that live are the nodes of a ring.
abbrev pub LivesAreNodes : Type 0
LivesAreNodes =
    (stakes : List ℕ) (genesis : ℕ → ℕ) (honest : Test) (lives : Lives) → FewOthers stakes honest
    → ((n : ℕ) → T (honest n) → Life stakes n (genesis n) (lives n)) → Nodes stakes genesis honest lives

-- What is seen before further calls is an earlier moment.
abbrev pub CallsEarlier : Type 0
CallsEarlier = (v w : Seen) → Calls v w → Earlier v w

-- A start that is answered 0 begins a life, a node's or a watcher's.
abbrev pub LifeBegins : Type 0
LifeBegins =
    (found stakes : List ℕ) (own genesis number : ℕ) (words : List ℕ) → Started found stakes own genesis number words → number ≡ 0
    → Life stakes own genesis (begun words)

abbrev pub WatchBegins : Type 0
WatchBegins =
    (found stakes : List ℕ) (genesis number : ℕ) (words : List ℕ) → Watched found stakes genesis number words → number ≡ 0 → Watch stakes genesis (begun words)

-- What a call does to any life on the words that it found: the life goes on.
pub record GoesOn (o : Operation) (ws lent : List ℕ) (number made : ℕ) (words left : List ℕ) : Type 0 where
  pub node : (stakes : List ℕ) (own genesis : ℕ) (v : Seen) → v.words ≡ ws → Life stakes own genesis v → Life stakes own genesis (next v o lent made words left)
  pub watcher : (stakes : List ℕ) (genesis : ℕ) (v : Seen) → v.words ≡ ws → Watch stakes genesis v → Watch stakes genesis (next v o lent made words left)

-- A call that meets its contract does.
abbrev pub MetGoesOn : Type 0
MetGoesOn = (o : Operation) (ws lent : List ℕ) (number made : ℕ) (words left : List ℕ) → Met o ws lent number made words left → GoesOn o ws lent number made words left

-- What a start that is refused does to any life on the words that it found: the life stays.
pub record Stays (ws words : List ℕ) : Type 0 where
  pub node : (stakes : List ℕ) (own genesis : ℕ) (v : Seen) → v.words ≡ ws → Life stakes own genesis v → Life stakes own genesis (refused_to v words)
  pub watcher : (stakes : List ℕ) (genesis : ℕ) (v : Seen) → v.words ≡ ws → Watch stakes genesis v → Watch stakes genesis (refused_to v words)

abbrev pub RefusedStays : Type 0
RefusedStays =
    (ws stakes : List ℕ) (own genesis number : ℕ) (words : List ℕ) → Started ws stakes own genesis number words → ¬ (number ≡ 0) → Stays ws words
