-- THE HOST'S FORM of progress's premise: what was fed, in place of what stands at the end. Each promise is a statement that proofs/ proves
-- under the same name in small letters.
use Rattle.std.specs.Prelude.{◌≡◌, not, ◌||◌, List, ℕ, ◌≤◌, T, length}
use Rattle.rulebook.specs.Weights.{last_slot, total_to, reaches, is_first}
use Rattle.rulebook.specs.Ledger.{fresh, cell_at, own_cell, no_initial, is_armed}
use Rattle.rulebook.specs.Rules.{fallback_weights}
use Rattle.rulebook.specs.Taking.{Arrival}
use Rattle.safety.specs.Slot.{Test, Ballot, notar}
use Rattle.safety.specs.Ballots.{has}
use Rattle.safety.specs.Ring.{brought_by, announced_by, life, cast_by, Ring, FedRing}
use Rattle.chain.specs.OneChain.{kept_by, OneParent, AnnouncedOnce}
use Rattle.progress.specs.Rest.{is_final_vote}
use Rattle.progress.specs.Progress.{accepted_in, honest_stake, MailIn, Going}
use Rattle.mail.specs.Mail.{timed_out_in}
use Rattle.mail.specs.Policy.{by_policy}

-- A ring as in demand 3: the stake table, the genesis that each node was started with, which nodes are honest, and what arrived at each
-- honest node.
module _ (stakes : List ℕ) (genesis : ℕ → ℕ) (honest : Test) (fed : ℕ → List Arrival) where
  -- Block b of slot s is asked for, with the parent (p, x): outside first slots, honest notar votes for it reach 40, and honest node n, which
  -- cast one, keeps it with that parent.
  pub record Asked (n s b p x : ℕ) : Type 0 where
    pub next : T (not (is_first s))
    pub voter : T (honest n)
    pub voted : T (cast_by stakes genesis honest fed n s (notar b))
    pub kept : T (kept_by stakes genesis honest fed n s b p x)
    pub heavy : T (reaches 2 (total_to stakes (length stakes)) (honest_stake stakes genesis honest fed s b))

  -- THE MAIL WAS FED, for the slots up to u, to the honest nodes:
  pub record MailFed (u : ℕ) : Type 0 where
    -- something that each accepted;
    pub woken : (n : ℕ) → T (honest n) → T (accepted_in (fresh stakes n (genesis n)) (fed n))
    -- every vote, finals aside, that another honest node cast;
    pub votes : (n m s : ℕ) (v : Ballot) → T (honest n) → T (honest m) → ¬ (m ≡ n) → 1 ≤ s → s ≤ u → T (not (is_final_vote v))
        → T (cast_by stakes genesis honest fed m s v) → T (brought_by (fed n) s m v)
    -- a timeout, which it accepted, of every slot of an armed window in which it has no initial vote;
    pub timeouts : (n s : ℕ) → T (honest n) → 1 ≤ s → s ≤ u → T (is_armed (life stakes genesis honest fed n) s)
        → T (not (no_initial (own_cell (life stakes genesis honest fed n) s)) || timed_out_in (fresh stakes n (genesis n)) (fed n) s)
    -- every block that is asked for, and all blocks by the policy.
    pub blocks : (n m s b p x : ℕ) → T (honest m) → s ≤ u → Asked n s b p x → T (announced_by (fed m) s b p x)
    pub policy : (n : ℕ) → T (honest n) → T (by_policy (fresh stakes n (genesis n)) (fed n))

-- What was fed is enough: where the mail was fed it is in, a number having one parent everywhere.
abbrev pub MailFedIsEnough : Type 0
MailFedIsEnough =
    (stakes : List ℕ) (genesis : ℕ → ℕ) (honest : Test) (fed : ℕ → List Arrival) → Ring stakes genesis honest fed → OneParent stakes genesis honest fed
    → (u : ℕ) → u ≤ last_slot → MailFed stakes genesis honest fed u → MailIn stakes genesis honest fed u

-- And the policy lets every such block be announced: a block that is asked for has rule D's weights in every honest pool in which the honest
-- notar votes for it stand.
abbrev pub AskedBlocksWeigh : Type 0
AskedBlocksWeigh =
    (stakes : List ℕ) (genesis : ℕ → ℕ) (honest : Test) (fed : ℕ → List Arrival) → Ring stakes genesis honest fed
    → (n m s b p x : ℕ) → T (honest m) → Asked stakes genesis honest fed n s b p x
    → ((k : ℕ) → T (honest k) → T (cast_by stakes genesis honest fed k s (notar b)) → T (has (cell_at (life stakes genesis honest fed m) s k) (notar b)))
    → T (fallback_weights (life stakes genesis honest fed m) s b)

-- THE RING NEVER HANGS, all of it over what arrives: where the mail of the slots up to u was fed each of them is decided, and its window armed.
abbrev pub FedNeverHangs : Type 0
FedNeverHangs =
    (stakes : List ℕ) (genesis : ℕ → ℕ) (honest : Test) (fed : ℕ → List Arrival) → FedRing stakes genesis honest fed → AnnouncedOnce stakes genesis honest fed
    → (u : ℕ) → u ≤ last_slot → MailFed stakes genesis honest fed u → (s : ℕ) → 1 ≤ s → s ≤ u → Going stakes genesis honest fed s
