-- Watchers beside a ring that goes on: a watcher that has the votes holds the certificate that decides each slot, and has armed its window.
use Rattle.std.specs.Prelude.{◌≡◌, not, List, ℕ, suc, ◌≤◌, T, length, Ok}
use Rattle.rulebook.specs.declared.CertificateKind.TheVariants as certificate
use Rattle.rulebook.specs.Weights.{last_slot}
use Rattle.rulebook.specs.Ledger.{none, fresh, cell_at, is_armed}
use Rattle.rulebook.specs.Pool.{held}
use Rattle.rulebook.specs.Inputs.{watch_verdict}
use Rattle.rulebook.specs.Taking.{Arrival}
use Rattle.safety.specs.Slot.{Test, Ballot}
use Rattle.safety.specs.Ballots.{has}
use Rattle.safety.specs.Ring.{life, cast_by, Ring}
use Rattle.safety.specs.Watchers.{watched}
use Rattle.progress.specs.Rest.{is_final_vote}
use Rattle.progress.specs.Progress.{accepted_in, MailIn}

module _ (stakes : List ℕ) (genesis : ℕ → ℕ) (honest : Test) (fed : ℕ → List Arrival) where
  -- What a watcher must have had: a start and an arrival that were accepted, and every vote that an honest node cast in slots up to u, finals
  -- aside. Neither blocks nor timeouts are asked of it.
  pub record WatcherMail (u g : ℕ) (lived : List Arrival) : Type 0 where
    pub started : watch_verdict stakes g ≡ Ok tt
    pub woken : T (accepted_in (fresh stakes (length stakes) g) lived)
    pub votes : (m s : ℕ) (v : Ballot) → T (honest m) → 1 ≤ s → s ≤ u → T (not (is_final_vote v))
        → T (cast_by stakes genesis honest fed m s v) → T (has (cell_at (watched stakes g lived) s m) v)

  -- A slot is decided everywhere: one block holds kind 3 at every honest node and at every such watcher, or kind 4 is held at all of them.
  pub data DecidedEverywhere (u s : ℕ) : Type 0 where
    notarized : (b : ℕ) → T (not (none b)) → ((n : ℕ) → T (honest n) → T (held (life stakes genesis honest fed n) certificate.NotarFallback s b))
        → ((g : ℕ) (lived : List Arrival) → WatcherMail u g lived → T (held (watched stakes g lived) certificate.NotarFallback s b)) → DecidedEverywhere u s
    skipped_over : ((n : ℕ) → T (honest n) → T (held (life stakes genesis honest fed n) certificate.Skip s 0))
        → ((g : ℕ) (lived : List Arrival) → WatcherMail u g lived → T (held (watched stakes g lived) certificate.Skip s 0)) → DecidedEverywhere u s

-- A watcher too has had an accepted arrival where window 1 is armed at its end, and nowhere else.
abbrev pub WatcherWokenArmed : Type 0
WatcherWokenArmed =
    (stakes : List ℕ) (g : ℕ) → watch_verdict stakes g ≡ Ok tt → (lived : List Arrival)
    → accepted_in (fresh stakes (length stakes) g) lived ≡ is_armed (watched stakes g lived) 1

-- Where the mail of the slots up to u is in, each of them is decided so.
abbrev pub WatchersDecide : Type 0
WatchersDecide =
    (stakes : List ℕ) (genesis : ℕ → ℕ) (honest : Test) (fed : ℕ → List Arrival) → Ring stakes genesis honest fed
    → (u : ℕ) → u ≤ last_slot → MailIn stakes genesis honest fed u → (s : ℕ) → 1 ≤ s → s ≤ u → DecidedEverywhere stakes genesis honest fed u s

-- And the watcher has armed the windows of these slots and of the next one.
abbrev pub WatchersArm : Type 0
WatchersArm =
    (stakes : List ℕ) (genesis : ℕ → ℕ) (honest : Test) (fed : ℕ → List Arrival) → Ring stakes genesis honest fed
    → (u : ℕ) → u ≤ last_slot → MailIn stakes genesis honest fed u → (g : ℕ) (lived : List Arrival) → WatcherMail stakes genesis honest fed u g lived
    → (s : ℕ) → 1 ≤ s → s ≤ suc u → s ≤ last_slot → T (is_armed (watched stakes g lived) s)
