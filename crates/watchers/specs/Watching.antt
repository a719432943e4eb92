-- A watcher beside a voting node: what it is shown of the node's life, and what the two then have in common.
use Rattle.std.specs.Prelude.{◌≡◌, Bool, true, false, ◌&&◌, List, [], ◌∷◌, ◌++◌, ℕ, length, leb, Result, Ok, Err}
use Rattle.rulebook.specs.declared.CertificateKind.{CertificateKind}
use Rattle.rulebook.specs.declared.Input.TheVariants as input
use Rattle.rulebook.specs.declared.Vote.{Vote}
use Rattle.rulebook.specs.declared.Refusal.{Refusal}
use Rattle.rulebook.specs.Tools.{whenever}
use Rattle.rulebook.specs.PaperNumbers.{vote_kind}
use Rattle.rulebook.specs.Ledger.{Ledger, row_at, blocks_at, certificates_at, fresh}
use Rattle.rulebook.specs.Pool.{held}
use Rattle.rulebook.specs.Rules.{Record}
use Rattle.rulebook.specs.Inputs.{Fed, start_verdict, watch_verdict}
use Rattle.rulebook.specs.Taking.{Arrival, of_input, of_packet, served}
use Rattle.settling.specs.Steps.{after, life}

-- ---- what a watcher is shown

-- "A cast vote is the record (kind, slot, block)": kinds 1 to 5.
unfoldable pub tells_vote : Record → Bool
tells_vote r = leb 1 r.kind && leb r.kind 5

-- The vote that a record of node n tells of.
abbrev pub vote_in : ℕ → Record → Vote
vote_in n r = record { kind = vote_kind r.kind; node = record { 0 = n }; slot = record { 0 = r.slot }; block = r.block }

-- The votes that node n's records tell of, in their order: "own votes included as ordinary ones".
unfoldable pub as_votes : ℕ → List Record → List Arrival
as_votes n [] = []
as_votes n (r ∷ rs) = whenever (tells_vote r) (λ _. of_input (input.Vote (vote_in n r)) ∷ []) [] ++ as_votes n rs

-- What of an arrival is for the watcher too: "votes, blocks and certificates". A timeout and a look are the node's alone.
unfoldable pub passed_on : Arrival → List Arrival
passed_on (of_input (input.Vote v)) = of_input (input.Vote v) ∷ []
passed_on (of_input (input.Block s b)) = of_input (input.Block s b) ∷ []
passed_on (of_input (input.Timeout s)) = []
passed_on (of_input input.Look) = []
passed_on (of_packet bytes) = of_packet bytes ∷ []

-- Answered 0.
unfoldable pub is_done : Result ℕ Refusal → Bool
is_done (Ok n) = true
is_done (Err r) = false

-- Node n has served an arrival: where it is accepted the watcher is shown it, and then the votes that the node cast.
unfoldable pub shown_of : ℕ → Arrival → Fed → List Arrival
shown_of n c f = whenever (is_done f.answer) (λ _. passed_on c ++ as_votes n f.records) []

-- All that the watcher is shown of a node's life.
unfoldable pub shown : Ledger → List Arrival → List Arrival
shown l [] = []
shown l (c ∷ cs) = shown_of l.own c (served l c) ++ shown (served l c).ledger cs

-- ---- what the two have in common

-- Every arrival is accepted.
unfoldable pub all_taken : Ledger → List Arrival → Bool
all_taken l [] = true
all_taken l (c ∷ cs) = is_done (served l c).answer && all_taken (served l c).ledger cs

-- One table, and in every slot the same votes, blocks and certificates kept, and the same card.
pub record SamePool (l m : Ledger) : Type 0 where
  pub count : m.count ≡ l.count
  pub total : m.total ≡ l.total
  pub genesis : m.genesis ≡ l.genesis
  pub stakes : m.stakes ≡ l.stakes
  pub cells : (s : ℕ) → (row_at m s).cells ≡ (row_at l s).cells
  pub blocks : (s : ℕ) → blocks_at m s ≡ blocks_at l s
  pub certificates : (s : ℕ) → certificates_at m s ≡ certificates_at l s
  pub cards : (s : ℕ) → (row_at m s).card ≡ (row_at l s).card

-- A watcher that was m accepts all of cs, and then its "pool and held certificates equal those" of l.
pub record Followed (l m : Ledger) (cs : List Arrival) : Type 0 where
  pub taken : all_taken m cs ≡ true
  pub pool : SamePool l (after m cs)
  pub holds : (k : CertificateKind) (s b : ℕ) → held (after m cs) k s b ≡ held l k s b

-- ---- the promises

-- "For the same accepted votes, blocks and certificates, its pool and held certificates equal those of a voting node fed the same, own votes
-- included as ordinary ones."
abbrev pub WatcherFollows : Type 0
WatcherFollows =
    (stakes : List ℕ) (me genesis : ℕ) → start_verdict stakes me genesis ≡ Ok tt → (cs : List Arrival)
    → Followed (after (fresh stakes me genesis) cs) (fresh stakes (length stakes) genesis) (shown (fresh stakes me genesis) cs)

-- "A node that never votes": whatever arrives, no record of a watcher tells of a vote.
abbrev pub WatcherNeverVotes : Type 0
WatcherNeverVotes =
    (stakes : List ℕ) (genesis : ℕ) → watch_verdict stakes genesis ≡ Ok tt → (cs : List Arrival) (n : ℕ)
    → as_votes n (life (fresh stakes (length stakes) genesis) cs) ≡ []
