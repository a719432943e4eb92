-- What the parts of a call do to a state: each record is made lawfully, paid from the potential, and what is not theirs stays.
use Rattle.std.specs.Prelude.{◌≡◌, Bool, true, false, List, [], ◌∷◌, ◌++◌, ℕ, ◌+◌, ◌<◌, ◌≤◌, Ok}
use Rattle.rulebook.specs.declared.Block.{Block}
use Rattle.rulebook.specs.declared.Vote.{Vote}
use Rattle.rulebook.specs.declared.VoteKind.{VoteKind}
use Rattle.rulebook.specs.declared.VoteKind.TheVariants as vote
use Rattle.rulebook.specs.declared.Place.TheVariants.{Free}
use Rattle.rulebook.specs.declared.CertificateKind.{CertificateKind}
use Rattle.rulebook.specs.Certificates.{Certificate}
use Rattle.rulebook.specs.PaperNumbers.{kind_in}
use Rattle.rulebook.specs.Weights.{last_slot}
use Rattle.rulebook.specs.Ledger.{Ledger, none, table_of, row_at, cell_at, is_watcher, own_cell, is_armed, blocks_at, some_block, is_free, has_number, certificates_at, put_armed, put_final, put_clash}
use Rattle.rulebook.specs.Pool.{some_kept}
use Rattle.rulebook.specs.Votes.{place_of}
use Rattle.rulebook.specs.Rules.{Record, State, report, cast, fallback_weights}
use Rattle.rulebook.specs.Run.{made, rule_at, run_for, run}
use Rattle.rulebook.specs.Inputs.{is_other, misfits, bad_parent}
use Rattle.rulebook.specs.Checker.{judge_kind}
use Rattle.rulebook.specs.Taking.{has_room, is_repeat, Arrival, served}
use Rattle.settling.specs.Spare.{spare}
use Rattle.settling.specs.Facts.{Sound}

-- The two ledgers are of one node: nothing of its head but the armed windows has moved.
pub record SameNode (l m : Ledger) : Type 0 where
  pub own : m.own ≡ l.own
  pub count : m.count ≡ l.count
  pub total : m.total ≡ l.total
  pub genesis : m.genesis ≡ l.genesis
  pub stakes : m.stakes ≡ l.stakes

-- A fallback that is cast has rule D's weights; of other votes nothing is asked.
unfoldable pub weighed : Ledger → ℕ → VoteKind → ℕ → Bool
weighed l s vote.Notar b = true
weighed l s vote.NotarFallback b = fallback_weights l s b
weighed l s vote.Skip b = true
weighed l s vote.SkipFallback b = true
weighed l s vote.Final b = true
weighed l s vote.Other b = true

-- A property of states with sound ledgers that every way of making a record keeps: an own vote into a free place of a node that is no watcher,
-- an arming, a final block told, another told.
pub record Lawful (P : State → Type 0) : Type 1 where
  pub sound : (o : State) → P o → Sound o.ledger
  pub vote : (o : State) (s : ℕ) (k : VoteKind) (b : ℕ) → 1 ≤ s → s ≤ last_slot → is_watcher o.ledger ≡ false
      → place_of (own_cell o.ledger s) k b ≡ Free → misfits k b ≡ false → weighed o.ledger s k b ≡ true → P o → P (cast o s k b)
  pub arm : (o : State) (s : ℕ) → 1 ≤ s → s ≤ last_slot
      → is_armed o.ledger s ≡ false → P o → P (report o (put_armed o.ledger s) 7 s 0)
  pub tell : (o : State) (s b : ℕ) → 1 ≤ s → s ≤ last_slot
      → none (row_at o.ledger s).final ≡ true → none b ≡ false → P o → P (report o (put_final o.ledger s b) 6 s b)
  pub clash : (o : State) (s b : ℕ) → 1 ≤ s → s ≤ last_slot
      → none (row_at o.ledger s).clash ≡ true → P o → P (report o (put_clash o.ledger s) 8 s b)

-- A property of states with sound ledgers and an own number that every own vote into a free place keeps.
pub record Casting (P : State → Type 0) : Type 1 where
  pub sound : (o : State) → P o → Sound o.ledger
  pub mine : (o : State) → P o → o.ledger.own < o.ledger.count
  pub vote : (o : State) (s : ℕ) (k : VoteKind) (b : ℕ) → 1 ≤ s → s ≤ last_slot
      → place_of (own_cell o.ledger s) k b ≡ Free → misfits k b ≡ false → weighed o.ledger s k b ≡ true → P o → P (cast o s k b)

-- P holds, and the node is no watcher.
abbrev pub AndVotes : (State → Type 0) → State → Type 0
AndVotes P o = P o × (is_watcher o.ledger ≡ false)

-- A parent to walk to: its slot, which is lower, and its number.
pub record WalkParent (s p x : ℕ) : Type 0 where
  pub low : 1 ≤ p
  pub lower : p < s
  pub high : p ≤ last_slot
  pub number : none x ≡ false

-- State p came of state o by making records: new ones in front of the old, each of them paid by one of the potential; where there
-- is no new one nothing has changed.
pub record Came (o p : State) : Type 0 where
  pub fresh : List Record
  pub grown : p.records ≡ fresh ++ o.records
  pub spent : made p + spare p.ledger ≡ made o + spare o.ledger
  pub still : made p ≡ made o → p ≡ o
  pub sound : Sound p.ledger
  pub same : SameNode o.ledger p.ledger

-- What an accepted input, or a whole call, has made of a ledger: each record is paid from the potential.
pub record Paid (l m : Ledger) (records : ℕ) : Type 0 where
  pub spent : records + spare m ≡ spare l
  pub sound : Sound m
  pub same : SameNode l m

-- No rule applies: each, in each slot, makes no record and gives the state back.
pub record Settled (o : State) : Type 0 where
  pub quiet : (r s : ℕ) → 1 ≤ s → s ≤ last_slot → made (rule_at r o s) ≡ made o
  pub same : (r s : ℕ) → 1 ≤ s → s ≤ last_slot → rule_at r o s ≡ o

-- A run that began at state o has come to state p: as many scans are left as find no rule at last.
pub record Running (o p : State) : Type 0 where
  pub left : ℕ
  pub same : run_for left p ≡ run o
  pub came : Came o p
  pub fuel : spare p.ledger < left

-- What an accepted vote, block, certificate or timeout has passed.
pub record VoteFine (l : Ledger) (v : Vote) : Type 0 where
  pub kind : is_other v.kind ≡ false
  pub low : 1 ≤ v.slot.0
  pub high : v.slot.0 ≤ last_slot
  pub node : v.node.0 < l.count
  pub outside : v.node.0 ≡ l.own → ⊥
  pub fits : misfits v.kind v.block ≡ false
  pub free : place_of (cell_at l v.slot.0 v.node.0) v.kind v.block ≡ Free

pub record BlockFine (l : Ledger) (s : ℕ) (b : Block) : Type 0 where
  pub low : 1 ≤ s
  pub high : s ≤ last_slot
  pub number : none b.number ≡ false
  pub parent : none b.parent ≡ false
  pub ancestry : bad_parent l s b ≡ false
  pub apart : some_block (has_number b.number) (blocks_at l s) ≡ false
  pub free : some_block is_free (blocks_at l s) ≡ true

-- The kind that the table gives a certificate.
abbrev pub kind_for : Ledger → Certificate → CertificateKind
kind_for l c = kind_in l.count c.kind

pub record CertificateFine (l : Ledger) (c : Certificate) : Type 0 where
  pub low : 1 ≤ c.slot
  pub high : c.slot ≤ last_slot
  pub judged : judge_kind (table_of l) (kind_for l c) c ≡ Ok tt
  pub apart : some_kept (is_repeat (kind_for l c) c.block) 0 (certificates_at l c.slot) ≡ false
  pub free : has_room (kind_for l c) 0 (certificates_at l c.slot) ≡ true

pub record TimeoutFine (l : Ledger) (s : ℕ) : Type 0 where
  pub low : 1 ≤ s
  pub high : s ≤ last_slot
  pub votes : is_watcher l ≡ false
  pub armed : is_armed l s ≡ true
  pub free : none (row_at l s).timed_out ≡ true

-- The ledger after all that arrives, one after the other.
unfoldable pub after : Ledger → List Arrival → Ledger
after l [] = l
after l (c ∷ cs) = after (served l c).ledger cs

-- The records that are made by then, in their order.
unfoldable pub life : Ledger → List Arrival → List Record
life l [] = []
life l (c ∷ cs) = (served l c).records ++ life (served l c).ledger cs
