-- THE HOST'S POLICY for blocks: announce a slot's first block as it comes, and a further one only once it has rule D's weights in the pool.
-- By #107's arithmetic at most three blocks of a slot ever have those weights, so that the four places are enough. First the policy, then the
-- promises, each as a statement that proofs/ proves under the same name in small letters.
use Rattle.std.specs.Prelude.{◌≡◌, Bool, true, not, ◌&&◌, ◌||◌, List, [], ◌∷◌, ℕ, ◌≤◌, ◌<◌, T, length, Ok}
use Rattle.rulebook.specs.declared.Input.TheVariants as input
use Rattle.rulebook.specs.Weights.{last_slot}
use Rattle.rulebook.specs.Ledger.{Ledger, none, fresh, blocks_at, some_block, all_blocks, is_free, has_number, keeps_block}
use Rattle.rulebook.specs.Rules.{fallback_weights}
use Rattle.rulebook.specs.Inputs.{start_verdict, watch_verdict}
use Rattle.rulebook.specs.Taking.{Arrival, of_input, of_packet, served}
use Rattle.safety.specs.Ring.{after_all, announced_by}

-- Block b of slot s may be announced now: no block of the slot is kept, or it is kept itself and comes again, or it has rule D's weights.
unfoldable pub may_announce : Ledger → ℕ → ℕ → Bool
may_announce l s b = all_blocks is_free (blocks_at l s) || (some_block (has_number b) (blocks_at l s) || fallback_weights l s b)

-- The policy asks this of blocks, and nothing of votes, timeouts, looks and certificates.
abbrev pub allowed : Ledger → Arrival → Bool
allowed l (of_input (input.Vote w)) = true
allowed l (of_input (input.Block t k)) = may_announce l t.0 k.number
allowed l (of_input (input.Timeout t)) = true
allowed l (of_input input.Look) = true
allowed l (of_packet bytes) = true

-- All that arrived, from ledger l on, arrived by the policy.
unfoldable pub by_policy : Ledger → List Arrival → Bool
by_policy l [] = true
by_policy l (i ∷ is) = allowed l i && by_policy (served l i).ledger is

-- An accepted start: a node's, or a watcher's, which has the number after the last.
pub data Started (stakes : List ℕ) : ℕ → ℕ → Type 0 where
  as_node : {own genesis : ℕ} → start_verdict stakes own genesis ≡ Ok tt → Started stakes own genesis
  as_watcher : {genesis : ℕ} → watch_verdict stakes genesis ≡ Ok tt → Started stakes (length stakes) genesis

-- The parent (p, x) of a block of slot s is one that 5 and 11 let pass at a node of this genesis.
pub record ParentFits (genesis s p x : ℕ) : Type 0 where
  pub lower : p < s
  pub number : T (not (none x))
  pub first : p ≡ 0 → x ≡ genesis

-- ---- the promises

-- THE POLICY HAS ROOM: at any moment of a life by the policy a block that may be announced, and is not kept yet, finds a free place.
abbrev pub PolicyHasRoom : Type 0
PolicyHasRoom =
    (stakes : List ℕ) (own genesis : ℕ) → Started stakes own genesis → (lived : List Arrival) → T (by_policy (fresh stakes own genesis) lived)
    → (s b : ℕ) → 1 ≤ s → s ≤ last_slot → T (not (none b)) → T (may_announce (after_all (fresh stakes own genesis) lived) s b)
    → T (not (some_block (has_number b) (blocks_at (after_all (fresh stakes own genesis) lived) s)))
    → T (some_block is_free (blocks_at (after_all (fresh stakes own genesis) lived) s))

-- So by the policy every block that was announced is kept for good: 8 is due only to a number that is kept with another parent.
abbrev pub AnnouncedIsKept : Type 0
AnnouncedIsKept =
    (stakes : List ℕ) (own genesis : ℕ) → Started stakes own genesis → (lived : List Arrival) → T (by_policy (fresh stakes own genesis) lived)
    → (s b p x : ℕ) → 1 ≤ s → s ≤ last_slot → ParentFits genesis s p x → T (announced_by lived s b p x)
    → ((q y : ℕ) → T (keeps_block (after_all (fresh stakes own genesis) lived) s b q y) → (p ≡ q) × (x ≡ y))
    → T (keeps_block (after_all (fresh stakes own genesis) lived) s b p x)
