-- NEVER ANSWERED 8, over what is seen of lives: an honest vote, a genuine certificate, a block that the policy lets be announced. So 8 convicts: it is answered to
-- what nobody honest told. Each promise is a statement that proofs/ proves under the same name in small letters.
use Rattle.std.specs.Prelude.{◌≡◌, List, ℕ, T, length}
use Rattle.rulebook.specs.declared.Block.{Block}
use Rattle.rulebook.specs.declared.Input.TheVariants as input
use Rattle.rulebook.specs.declared.Slot.{Slot}
use Rattle.rulebook.specs.declared.Vote.{Vote}
use Rattle.rulebook.specs.Ledger.{fresh, keeps_block}
use Rattle.rulebook.specs.Taking.{of_input}
use Rattle.answers.specs.Face.{Stepped, Taken}
use Rattle.safety.specs.Slot.{Test, Ballot}
use Rattle.safety.specs.Ballots.{brings}
use Rattle.safety.specs.Ring.{GenuinePacket}
use Rattle.safety.specs.Watchers.{HoldsGenuine}
use Rattle.mail.specs.Policy.{may_announce, by_policy}
use Rattle.seen.specs.Seen.{Seen, ledger_in, NodeSeen, WatcherSeen}
use Rattle.seen.specs.Ring.{Lives, told_ballot, Ring, Moment}

-- AN HONEST VOTE: one that an honest node's outbox told is never answered 8 at an honest node, at any moment, whatever outbox is lent,
abbrev pub VoteNeverEight : Type 0
VoteNeverEight =
    (stakes : List ℕ) (genesis : ℕ → ℕ) (honest : Test) (lives : Lives) → Ring stakes genesis honest lives
    → (n : ℕ) (v : Seen) → Moment stakes genesis honest lives n v → (m s : ℕ) (b : Ballot) → T (honest m) → T (told_ballot lives m s b)
    → (vote : Vote) → T (brings (of_input (input.Vote vote)) s m b)
    → (lent : List ℕ) (number made : ℕ) (words left : List ℕ) → Stepped v.words lent (input.Vote vote) number made words left → ¬ (number ≡ 8)

-- nor at a watcher whose words count and keep what is genuine.
abbrev pub WatchedVoteNeverEight : Type 0
WatchedVoteNeverEight =
    (stakes : List ℕ) (genesis : ℕ → ℕ) (honest : Test) (lives : Lives) → Ring stakes genesis honest lives
    → (g : ℕ) (v : Seen) → WatcherSeen stakes g v → HoldsGenuine honest (told_ballot lives) (ledger_in v) → (m s : ℕ) (b : Ballot) → T (honest m) → T (told_ballot lives m s b)
    → (vote : Vote) → T (brings (of_input (input.Vote vote)) s m b)
    → (lent : List ℕ) (number made : ℕ) (words left : List ℕ) → Stepped v.words lent (input.Vote vote) number made words left → ¬ (number ≡ 8)

-- A GENUINE CERTIFICATE is never answered 8 at such a watcher; at an honest node: `never_eight` of `seen`.
abbrev pub WatchedNeverEight : Type 0
WatchedNeverEight =
    (stakes : List ℕ) (genesis : ℕ → ℕ) (honest : Test) (lives : Lives) → Ring stakes genesis honest lives
    → (g : ℕ) (v : Seen) → WatcherSeen stakes g v → HoldsGenuine honest (told_ballot lives) (ledger_in v)
    → (lent packet : List ℕ) (number made : ℕ) (words left : List ℕ) → GenuinePacket (length stakes) honest (told_ballot lives) packet
    → Taken v.words lent packet number made words left → ¬ (number ≡ 8)

-- A BLOCK BY THE POLICY: where all blocks so far came by the policy, one that it lets be announced now, and whose number is not kept with another parent, is
-- never answered 8. Nothing is asked of other nodes.
abbrev pub BlockNeverEight : Type 0
BlockNeverEight =
    (stakes : List ℕ) (own genesis : ℕ) (v : Seen) → NodeSeen stakes own genesis v → T (by_policy (fresh stakes own genesis) v.came)
    → (t : Slot) (k : Block) → T (may_announce (ledger_in v) t.0 k.number)
    → ((q y : ℕ) → T (keeps_block (ledger_in v) t.0 k.number q y) → (k.parentslot.0 ≡ q) × (k.parent ≡ y))
    → (lent : List ℕ) (number made : ℕ) (words left : List ℕ) → Stepped v.words lent (input.Block t k) number made words left → ¬ (number ≡ 8)
