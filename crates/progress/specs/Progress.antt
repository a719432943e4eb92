-- PROGRESS WITHOUT CLOCKS, over the written rules and honest lives: once the mail is in, every slot is decided and every window armed. First
-- the premises and what the words mean, then the promises, each as a statement that proofs/ proves under the same name in small letters.
use Rattle.std.specs.Prelude.{◌≡◌, Bool, false, not, ◌&&◌, ◌||◌, List, [], ◌∷◌, ℕ, suc, ◌≤◌, T, length, Ok}
use Rattle.rulebook.specs.declared.CertificateKind.TheVariants as certificate
use Rattle.rulebook.specs.Weights.{last_slot, weight, total_to, reaches, is_first}
use Rattle.rulebook.specs.Ledger.{Ledger, none, cell_at, own_cell, no_initial, is_armed, keeps_block, fresh}
use Rattle.rulebook.specs.Pool.{held}
use Rattle.rulebook.specs.Rules.{Record, state_of}
use Rattle.rulebook.specs.Inputs.{start_verdict}
use Rattle.rulebook.specs.Taking.{Arrival, served}
use Rattle.settling.specs.Steps.{Settled}
use Rattle.watchers.specs.Watching.{is_done}
use Rattle.safety.specs.Slot.{Test, Ballot, notar}
use Rattle.safety.specs.Ballots.{has}
use Rattle.safety.specs.Ring.{after_all, life, cast_by, Ring}
use Rattle.chain.specs.OneChain.{kept_by}
use Rattle.progress.specs.Rest.{is_final_vote}

-- ---- one life

-- One of the arrivals, from ledger l on, was accepted: a look always is.
unfoldable pub accepted_in : Ledger → List Arrival → Bool
accepted_in l [] = false
accepted_in l (i ∷ is) = is_done (served l i).answer || accepted_in (served l i).ledger is

-- No rule applies to a ledger, whatever was recorded in the call that left it.
pub record AtRest (l : Ledger) : Type 0 where
  pub records : List Record
  pub settled : Settled (state_of l records)

-- "until none applies": a life of a node with an accepted arrival ends with no rule applying. Before the first one no rule has run.
abbrev pub LivesSettle : Type 0
LivesSettle =
    (stakes : List ℕ) (own genesis : ℕ) → start_verdict stakes own genesis ≡ Ok tt → (lived : List Arrival)
    → T (accepted_in (fresh stakes own genesis) lived) → AtRest (after_all (fresh stakes own genesis) lived)

-- Genesis is ready for slot 1 at once: a life has had an accepted arrival where window 1 is armed at its end, and nowhere else.
abbrev pub WokenArmed : Type 0
WokenArmed =
    (stakes : List ℕ) (own genesis : ℕ) → start_verdict stakes own genesis ≡ Ok tt → (lived : List Arrival)
    → accepted_in (fresh stakes own genesis) lived ≡ is_armed (after_all (fresh stakes own genesis) lived) 1

-- A ledger keeps a number of a slot with one parent.
abbrev pub OneParentEach : Ledger → Type 0
OneParentEach l = (s b p x q y : ℕ) → T (keeps_block l s b p x) → T (keeps_block l s b q y) → (p ≡ q) × (x ≡ y)

-- "8 is now given .. for a number with another parent": so does every node at the end of its life.
abbrev pub ParentsAlone : Type 0
ParentsAlone =
    (stakes : List ℕ) (own genesis : ℕ) → start_verdict stakes own genesis ≡ Ok tt → (lived : List Arrival)
    → OneParentEach (after_all (fresh stakes own genesis) lived)

-- ---- the ring

-- A ring as in demand 3: the stake table, the genesis that each node was started with, which nodes are honest, and what arrived at each
-- honest node.
module _ (stakes : List ℕ) (genesis : ℕ → ℕ) (honest : Test) (fed : ℕ → List Arrival) where
  -- The stake of the honest nodes that cast notar b in slot s.
  abbrev pub honest_stake : ℕ → ℕ → ℕ
  honest_stake s b = weight stakes (length stakes) (λ n. honest n && cast_by stakes genesis honest fed n s (notar b))

  -- THE PREMISE besides that of the ring: the mail of the slots up to u is in, at the ends of the honest lives.
  pub record MailIn (u : ℕ) : Type 0 where
    -- Every honest node has had an accepted arrival;
    pub woken : (n : ℕ) → T (honest n) → T (accepted_in (fresh stakes n (genesis n)) (fed n))
    -- every vote that an honest node cast, finals aside, stands in every honest node's pool;
    pub votes : (n m s : ℕ) (v : Ballot) → T (honest n) → T (honest m) → 1 ≤ s → s ≤ u → T (not (is_final_vote v))
        → T (cast_by stakes genesis honest fed m s v) → T (has (cell_at (life stakes genesis honest fed n) s m) v)
    -- every honest node has an initial vote in every slot of a window that it has armed;
    pub initial : (n s : ℕ) → T (honest n) → 1 ≤ s → s ≤ u → T (is_armed (life stakes genesis honest fed n) s)
        → T (not (no_initial (own_cell (life stakes genesis honest fed n) s)))
    -- outside first slots, a block for which honest notar votes reach 40 is kept by every honest node with the parent that its voters keep.
    pub blocks : (n m s b p x : ℕ) → T (honest n) → T (honest m) → s ≤ u → T (not (is_first s)) → T (cast_by stakes genesis honest fed n s (notar b))
        → T (kept_by stakes genesis honest fed n s b p x) → T (reaches 2 (total_to stakes (length stakes)) (honest_stake s b))
        → T (kept_by stakes genesis honest fed m s b p x)

  -- A slot is decided: one block, 0 being none, holds kind 3 at every honest node, or kind 4 is held at every honest node.
  pub data Decided (s : ℕ) : Type 0 where
    notarized : (b : ℕ) → T (not (none b)) → ((n : ℕ) → T (honest n) → T (held (life stakes genesis honest fed n) certificate.NotarFallback s b)) → Decided s
    skipped_over : ((n : ℕ) → T (honest n) → T (held (life stakes genesis honest fed n) certificate.Skip s 0)) → Decided s

  -- Its window is armed at every honest node, and it is decided.
  pub record Going (s : ℕ) : Type 0 where
    pub armed : (n : ℕ) → T (honest n) → T (is_armed (life stakes genesis honest fed n) s)
    pub decided : Decided s

-- ---- the promises

-- THE RING NEVER HANGS: where the mail of the slots up to u is in, each of them is decided and its window armed.
abbrev pub NeverHangs : Type 0
NeverHangs =
    (stakes : List ℕ) (genesis : ℕ → ℕ) (honest : Test) (fed : ℕ → List Arrival) → Ring stakes genesis honest fed
    → (u : ℕ) → u ≤ last_slot → MailIn stakes genesis honest fed u → (s : ℕ) → 1 ≤ s → s ≤ u → Going stakes genesis honest fed s

-- And the window that begins behind them is armed at every honest node.
abbrev pub NextWindowArmed : Type 0
NextWindowArmed =
    (stakes : List ℕ) (genesis : ℕ → ℕ) (honest : Test) (fed : ℕ → List Arrival) → Ring stakes genesis honest fed
    → (u : ℕ) → suc u ≤ last_slot → MailIn stakes genesis honest fed u → T (is_first (suc u))
    → (n : ℕ) → T (honest n) → T (is_armed (life stakes genesis honest fed n) (suc u))
