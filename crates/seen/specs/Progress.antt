-- PROGRESS WITHOUT CLOCKS over seen lives: once the mail is in, every slot is decided and every window armed.
use Rattle.std.specs.Prelude.{◌≡◌, Bool, not, ◌&&◌, List, ℕ, suc, ◌≤◌, T, length}
use Rattle.rulebook.specs.declared.CertificateKind.{CertificateKind}
use Rattle.rulebook.specs.declared.CertificateKind.TheVariants as certificate
use Rattle.rulebook.specs.Weights.{last_slot, weight, total_to, reaches, is_first}
use Rattle.rulebook.specs.PaperNumbers.{number_in}
use Rattle.rulebook.specs.Ledger.{none, fresh, cell_at, no_initial, is_armed}
use Rattle.rulebook.specs.Pool.{held}
use Rattle.rulebook.specs.Writers.{certificate_room}
use Rattle.writers.specs.Writing.{certificate_on}
use Rattle.safety.specs.Slot.{Test, Ballot, notar}
use Rattle.safety.specs.Ballots.{has}
use Rattle.progress.specs.Rest.{is_final_vote}
use Rattle.progress.specs.Progress.{accepted_in}
use Rattle.answers.specs.Face.{Wrote}
use Rattle.seen.specs.Seen.{Seen, ledger_in, NodeSeen, WatcherSeen}
use Rattle.seen.specs.Ring.{Lives, told_ballot, counted_ballot, Ring}
use Rattle.seen.specs.Chain.{block_kept}

-- ---- one life

-- The window of slot s is armed in a life's words.
abbrev pub armed_in : Seen → ℕ → Bool
armed_in life s = is_armed (ledger_in life) s

-- A certificate of kind k for block b of slot s is held in them, and a certificate writer, asked for it on them and lent a buffer with room, answers 0.
pub record Gives (stakes : List ℕ) (life : Seen) (k : CertificateKind) (s b : ℕ) : Type 0 where
  pub is_held : T (held (ledger_in life) k s b)
  pub writes : (buffer after : List ℕ) (number count : ℕ) → certificate_room (length stakes) ≤ length buffer
      → Wrote (certificate_on life.words (length buffer) (number_in (length stakes) k) s b) buffer number count after → number ≡ 0

-- Window 1 is armed where something that arrived was accepted, and nowhere else.
abbrev pub WokenArmed : Type 0
WokenArmed =
    (stakes : List ℕ) (own genesis : ℕ) (life : Seen) → NodeSeen stakes own genesis life → accepted_in (fresh stakes own genesis) life.came ≡ armed_in life 1

-- ---- the ring

-- The stake table, which nodes are honest, and each node's life.
module _ (stakes : List ℕ) (honest : Test) (lives : Lives) where
  -- The stake of the honest nodes whose outboxes told notar b for slot s.
  abbrev pub told_stake : ℕ → ℕ → ℕ
  told_stake s b = weight stakes (length stakes) (λ n. honest n && told_ballot lives n s (notar b))

  -- THE PREMISE besides that of the ring: the mail of the slots up to u is in.
  pub record MailIn (u : ℕ) : Type 0 where
    -- Every honest node has armed window 1, as the first step that is answered 0 makes it do: a look always is, with room in the outbox;
    pub woken : (n : ℕ) → T (honest n) → T (armed_in (lives n) 1)
    -- every vote that an honest node's outbox told, finals aside, is counted in every honest node's words;
    pub votes : (n m s : ℕ) (v : Ballot) → T (honest n) → T (honest m) → 1 ≤ s → s ≤ u → T (not (is_final_vote v))
        → T (told_ballot lives m s v) → T (counted_ballot lives n m s v)
    -- every honest node has an initial vote in every slot of a window that it has armed;
    pub initial : (n s : ℕ) → T (honest n) → 1 ≤ s → s ≤ u → T (armed_in (lives n) s)
        → T (not (no_initial (cell_at (ledger_in (lives n)) s n)))
    -- outside first slots, a block for which honest notar votes reach 40 is kept by every honest node with the parent that its voters keep.
    pub blocks : (n m s b p x : ℕ) → T (honest n) → T (honest m) → s ≤ u → T (not (is_first s)) → T (told_ballot lives n s (notar b))
        → T (block_kept lives n s b p x) → T (reaches 2 (total_to stakes (length stakes)) (told_stake s b))
        → T (block_kept lives m s b p x)

  -- What a watcher must have had besides its start: window 1 armed, and every vote that an honest node's outbox told in slots up to u, finals
  -- aside, counted in its words.
  pub record WatcherMail (u g : ℕ) (life : Seen) : Type 0 where
    pub begun : WatcherSeen stakes g life
    pub woken : T (armed_in life 1)
    pub votes : (m s : ℕ) (v : Ballot) → T (honest m) → 1 ≤ s → s ≤ u → T (not (is_final_vote v))
        → T (told_ballot lives m s v) → T (has (cell_at (ledger_in life) s m) v)

  -- A slot is decided: every honest node, and every such watcher, gives kind 3 for one block, 0 being none; or every one of them gives kind 4.
  pub data Decided (u s : ℕ) : Type 0 where
    notarized : (b : ℕ) → T (not (none b)) → ((n : ℕ) → T (honest n) → Gives stakes (lives n) certificate.NotarFallback s b)
        → ((g : ℕ) (life : Seen) → WatcherMail u g life → Gives stakes life certificate.NotarFallback s b) → Decided u s
    skipped_over : ((n : ℕ) → T (honest n) → Gives stakes (lives n) certificate.Skip s 0)
        → ((g : ℕ) (life : Seen) → WatcherMail u g life → Gives stakes life certificate.Skip s 0) → Decided u s

  -- Its window is armed at every honest node, and it is decided.
  pub record Going (u s : ℕ) : Type 0 where
    pub armed : (n : ℕ) → T (honest n) → T (armed_in (lives n) s)
    pub decided : Decided u s

-- ---- the promises

-- THE RING NEVER HANGS: where the mail of the slots up to u is in, each of them is decided and its window armed.
abbrev pub NeverHangs : Type 0
NeverHangs =
    (stakes : List ℕ) (genesis : ℕ → ℕ) (honest : Test) (lives : Lives) → Ring stakes genesis honest lives
    → (u : ℕ) → u ≤ last_slot → MailIn stakes honest lives u → (s : ℕ) → 1 ≤ s → s ≤ u → Going stakes honest lives u s

-- And the window that begins behind them is armed at every honest node.
abbrev pub NextWindowArmed : Type 0
NextWindowArmed =
    (stakes : List ℕ) (genesis : ℕ → ℕ) (honest : Test) (lives : Lives) → Ring stakes genesis honest lives
    → (u : ℕ) → suc u ≤ last_slot → MailIn stakes honest lives u → T (is_first (suc u))
    → (n : ℕ) → T (honest n) → T (armed_in (lives n) (suc u))

-- A watcher has armed the windows of these slots and of the next one.
abbrev pub WatchersArm : Type 0
WatchersArm =
    (stakes : List ℕ) (genesis : ℕ → ℕ) (honest : Test) (lives : Lives) → Ring stakes genesis honest lives
    → (u : ℕ) → u ≤ last_slot → MailIn stakes honest lives u → (g : ℕ) (life : Seen) → WatcherMail stakes honest lives u g life
    → (s : ℕ) → 1 ≤ s → s ≤ suc u → s ≤ last_slot → T (armed_in life s)
