-- The rings. Each node is fed only votes that the others cast, or lies of a node that is not honest; no order between nodes is meant.
use Rattle.std.specs.Prelude.{◌≡◌, Bool, true, false, not, List, [], ◌∷◌, ◌++◌, ℕ, zero, suc, ◌+◌, ◌*◌, ◌≤◌, ◌<◌, T, length, Ok}
use Rattle.rulebook.specs.declared.CertificateKind.TheVariants as certificate
use Rattle.rulebook.specs.declared.Input.{Input}
use Rattle.rulebook.specs.Weights.{last_slot, window_of, weight, is_first}
use Rattle.rulebook.specs.Ledger.{row_at, fresh, cell_at, is_block, first_block}
use Rattle.rulebook.specs.Pool.{held, ready}
use Rattle.rulebook.specs.Rules.{is_final}
use Rattle.rulebook.specs.Inputs.{start_verdict}
use Rattle.rulebook.specs.Scripts.{vote, block, timeout, look}
use Rattle.rulebook.specs.Taking.{Arrival}
use Rattle.safety.specs.Slot.{notar}
use Rattle.safety.specs.Ballots.{has}
use Rattle.safety.specs.Ring.{cast_by, FewOthers, Ring}
use Rattle.safety.specs.Examples.{inputs}
use Rattle.progress_histories.specs.Tests.{History, honest_in, fed_in, end_in, total}
use Rattle.finals.specs.Calm.{hasty_in}
use Rattle.finals.specs.Finals.{Led, FinalsIn, Proved}
use Rattle.finals_histories.specs.Tests.{Window, prompt_in, block_in, the_strength, the_first, the_parent, the_next, the_patience, the_votes, the_finals}

-- ---- what is shown

abbrev pub RingOf : Window → Type 0
RingOf w = Ring w.history.stakes w.history.genesis (honest_in w.history) (fed_in w.history)

abbrev pub LedOf : Window → Type 0
LedOf w = Led w.history.stakes w.history.genesis (fed_in w.history) (prompt_in w) (block_in w) w.first w.last

abbrev pub ProvedOf : Window → ℕ → ℕ → Type 0
ProvedOf w n t = Proved w.history.stakes w.history.genesis (fed_in w.history) (prompt_in w) (block_in w) n t

-- Every premise of finality but the one that is left out.
pub record AllBut (left : ℕ) (w : Window) : Type 0 where
  pub begins : T (is_first w.first)
  pub last : w.last ≤ last_slot
  pub started : (n : ℕ) → T (prompt_in w n) → start_verdict w.history.stakes n (w.history.genesis n) ≡ Ok tt
  pub strong : ¬ (left ≡ the_strength) → 3 * total w.history < 5 * weight w.history.stakes (length w.history.stakes) (prompt_in w)
  pub first : ¬ (left ≡ the_first) → (n : ℕ) → T (prompt_in w n) → T (is_block (block_in w w.first) w.parent_slot w.parent (first_block (end_in w.history n) w.first))
  pub ready_parent : ¬ (left ≡ the_parent) → (n : ℕ) → T (prompt_in w n) → T (ready (end_in w.history n) w.first w.parent_slot w.parent)
  pub next : ¬ (left ≡ the_next) → (n t : ℕ) → T (prompt_in w n) → w.first ≤ t → suc t ≤ w.last
      → T (is_block (block_in w (suc t)) t (block_in w t) (first_block (end_in w.history n) (suc t)))
  pub patient : ¬ (left ≡ the_patience) → (n t : ℕ) → T (prompt_in w n) → w.first ≤ t → t ≤ w.last
      → T (not (hasty_in (fresh w.history.stakes n (w.history.genesis n)) (fed_in w.history n) (window_of t)))
  pub votes : ¬ (left ≡ the_votes) → (n m t : ℕ) → T (prompt_in w n) → T (prompt_in w m) → w.first ≤ t → t ≤ w.last
      → T (cast_by w.history.stakes w.history.genesis (prompt_in w) (fed_in w.history) m t (notar (block_in w t))) → T (has (cell_at (end_in w.history n) t m) (notar (block_in w t)))
  pub finals : ¬ (left ≡ the_finals) → FinalsIn w.history.stakes w.history.genesis (fed_in w.history) (prompt_in w) (block_in w) w.first w.last

-- A ring with all premises but one, in which not every prompt node has finality for the block of each slot.
pub record FailsWithout (left : ℕ) (w : Window) : Type 0 where
  pub ring : RingOf w
  pub others : AllBut left w
  pub fails : ¬ ((n t : ℕ) → T (prompt_in w n) → w.first ≤ t → t ≤ w.last → T (is_final (end_in w.history n) t (block_in w t)))

-- A ring; or, where too many lie, none: the stake of the others is a fifth or more.
abbrev pub RingUnless : Bool → Window → Type 0
RingUnless false w = RingOf w
RingUnless true w = ¬ FewOthers w.history.stakes (honest_in w.history)

-- All premises but that final votes arrive, and so kind 1 everywhere.
pub record GoesFast (many : Bool) (w : Window) : Type 0 where
  pub ring : RingUnless many w
  pub led : LedOf w
  pub fast : (n t : ℕ) → T (prompt_in w n) → w.first ≤ t → t ≤ w.last → T (held (end_in w.history n) certificate.FastFinal t (block_in w t)) × ProvedOf w n t

-- All premises, and so finality everywhere.
pub record GoesSlow (many : Bool) (w : Window) : Type 0 where
  pub ring : RingUnless many w
  pub led : LedOf w
  pub slow : (n t : ℕ) → T (prompt_in w n) → w.first ≤ t → t ≤ w.last → ProvedOf w n t

-- A ring with all premises but that a number has one parent everywhere, in which node 0 has marked another block in slot t.
pub record MarksWrong (w : Window) (t : ℕ) : Type 0 where
  pub ring : RingOf w
  pub led : LedOf w
  pub wrong : ¬ ((row_at (end_in w.history 0) t).final ≡ block_in w t)

-- All honest nodes were started with genesis 1.
abbrev from_one : List ℕ → List (List Arrival) → History
from_one stakes arrived = record { stakes = stakes; genesis = λ n. 1; arrived = arrived }

-- The slots from 1 to u, on genesis.
abbrev window : History → ℕ → List ℕ → ℕ → Window
window h prompt blocks u = record { history = h; prompt = prompt; blocks = blocks; first = 1; last = u; parent_slot = 0; parent = 1 }

-- ---- all premises met: stakes 3, 3, 3, and a liar's 2 of 11

-- Blocks 7, 8, 9, 10, each on the one before.
abbrev four : List Input
four = block 1 7 0 1 ∷ block 2 8 1 7 ∷ block 3 9 2 8 ∷ block 4 10 3 9 ∷ []

-- Node m's votes for them.
abbrev heard : ℕ → List Input
heard m = vote 1 m 1 7 ∷ vote 1 m 2 8 ∷ vote 1 m 3 9 ∷ vote 1 m 4 10 ∷ []

-- The liar tells node 0 of another block in slot 1 before anything else, skips to node 1, and nothing to node 2. Timeouts come once the node has voted; another block comes
-- second. No final vote arrives anywhere.
abbrev pub fast_ring : Window
fast_ring =
    window (from_one (3 ∷ 3 ∷ 3 ∷ 2 ∷ [])
    (inputs (vote 1 3 1 21 ∷ four ++ (timeout 1 ∷ block 1 21 0 1 ∷ heard 1 ++ heard 2))
    ∷ inputs (vote 3 3 1 0 ∷ vote 3 3 2 0 ∷ block 1 7 0 1 ∷ timeout 1 ∷ block 4 10 3 9 ∷ block 3 9 2 8 ∷ block 2 8 1 7 ∷ heard 0 ++ heard 2)
    ∷ inputs (heard 1 ++ (four ++ (heard 0 ++ (timeout 4 ∷ []))))
    ∷ []))
    3 (0 ∷ 7 ∷ 8 ∷ 9 ∷ 10 ∷ []) 4

-- ---- twenty and twenty: stakes 2, 2, an honest node's 1 that is slow, and a liar's 1 of 6

-- Node 2 times out before it is shown 7. The liar tells node 0 of a skip, node 1 of another block.
abbrev pub slow_ring : Window
slow_ring =
    window (from_one (2 ∷ 2 ∷ 1 ∷ 1 ∷ [])
    (inputs (block 1 7 0 1 ∷ vote 3 2 1 0 ∷ vote 3 3 1 0 ∷ vote 1 1 1 7 ∷ vote 5 1 1 0 ∷ [])
    ∷ inputs (vote 3 2 1 0 ∷ vote 1 3 1 8 ∷ block 1 7 0 1 ∷ vote 1 0 1 7 ∷ vote 5 0 1 0 ∷ [])
    ∷ inputs (look ∷ timeout 1 ∷ block 1 7 0 1 ∷ [])
    ∷ []))
    2 (0 ∷ 7 ∷ []) 1

-- ---- more than a fifth lies

-- Exactly one fifth: stakes 2, 2, and a liar's 1 of 5. It tells each node another story, and kind 1 is reached all the same.
abbrev pub exact_fifth : Window
exact_fifth =
    window (from_one (2 ∷ 2 ∷ 1 ∷ []) (inputs (vote 1 2 1 8 ∷ block 1 7 0 1 ∷ vote 1 1 1 7 ∷ []) ∷ inputs (vote 3 2 1 0 ∷ block 1 7 0 1 ∷ vote 1 0 1 7 ∷ []) ∷ [])) 2 (0 ∷ 7 ∷ []) 1

-- A third: stakes 2, 2, and a liar's 2 of 6. No kind 1, and finality by kinds 2 and 5.
abbrev pub third_lies : Window
third_lies =
    window (from_one (2 ∷ 2 ∷ 2 ∷ [])
    (inputs (vote 1 2 1 8 ∷ block 1 7 0 1 ∷ vote 1 1 1 7 ∷ vote 5 1 1 0 ∷ []) ∷ inputs (vote 3 2 1 0 ∷ block 1 7 0 1 ∷ vote 1 0 1 7 ∷ vote 5 0 1 0 ∷ []) ∷ [])) 2 (0 ∷ 7 ∷ []) 1

-- ---- all sixteen slots: stakes 4, 4, and a liar's 1 of 9

-- Block t + 20 in slot t, on the one before; 1 in slot 0.
abbrev numbered : ℕ → ℕ
numbered zero = 1
numbered (suc t) = suc t + 20

-- Something for each slot from 1 to k.
unfoldable pub through : ℕ → (ℕ → Input) → List Input
through zero f = []
through (suc k) f = through k f ++ (f (suc k) ∷ [])

unfoldable pub numbers : ℕ → List ℕ
numbers zero = 1 ∷ []
numbers (suc k) = numbers k ++ (numbered (suc k) ∷ [])

abbrev shown : ℕ → Input
shown zero = look
shown (suc t) = block (suc t) (numbered (suc t)) t (numbered t)

-- Node 0 is shown each block before any vote arrives, node 1 after all of node 0's votes; the liar skips to node 0 and votes with node 1.
abbrev pub sixteen_ring : Window
sixteen_ring =
    window (from_one (4 ∷ 4 ∷ 1 ∷ [])
    (inputs (through 16 (λ t. vote 3 2 t 0) ++ (through 16 shown ++ through 16 (λ t. vote 1 1 t (numbered t))))
    ∷ inputs (through 16 (λ t. vote 1 0 t (numbered t)) ++ (through 16 shown ++ through 16 (λ t. vote 1 2 t (numbered t))))
    ∷ []))
    2 (numbers 16) 16

-- ---- each premise left out, by one node or by two of stake 1 each

-- A timeout before the block: node 1 skips.
abbrev pub hasty_ring : Window
hasty_ring =
    window (from_one (1 ∷ 1 ∷ []) (inputs (block 1 7 0 1 ∷ vote 3 1 1 0 ∷ []) ∷ inputs (look ∷ timeout 1 ∷ block 1 7 0 1 ∷ vote 1 0 1 7 ∷ []) ∷ [])) 2 (0 ∷ 7 ∷ []) 1

-- A timeout of the window's last slot, after a vote in its first: node 1 skips slot 2, where it is never asked.
abbrev pub later_timeout : Window
later_timeout =
    window (from_one (1 ∷ 1 ∷ []) (inputs (block 1 7 0 1 ∷ block 2 8 1 7 ∷ vote 1 1 1 7 ∷ vote 5 1 1 0 ∷ vote 3 1 2 0 ∷ [])
    ∷ inputs (block 1 7 0 1 ∷ timeout 4 ∷ block 2 8 1 7 ∷ vote 1 0 1 7 ∷ vote 5 0 1 0 ∷ vote 1 0 2 8 ∷ []) ∷ [])) 2 (0 ∷ 7 ∷ 8 ∷ []) 2

-- The second block is announced first: node 1 votes it.
abbrev pub other_first : Window
other_first =
    window (from_one (1 ∷ 1 ∷ []) (inputs (block 1 7 0 1 ∷ vote 1 1 1 8 ∷ []) ∷ inputs (block 1 8 0 1 ∷ block 1 7 0 1 ∷ vote 1 0 1 7 ∷ []) ∷ [])) 2 (0 ∷ 7 ∷ []) 1

-- A parent that is not ready: slots 1 to 4 were skipped, and 9 is on a block of slot 4.
abbrev pub unready_parent : Window
unready_parent =
    record {
      history = from_one (1 ∷ []) (inputs (look ∷ timeout 1 ∷ block 5 9 4 3 ∷ []) ∷ []);
      prompt = 1;
      blocks = 0 ∷ 0 ∷ 0 ∷ 0 ∷ 0 ∷ 9 ∷ [];
      first = 5;
      last = 5;
      parent_slot = 4;
      parent = 3;
    }

-- The next block is not on the one before.
abbrev pub other_parent : Window
other_parent = window (from_one (1 ∷ []) (inputs (block 1 7 0 1 ∷ block 2 9 1 6 ∷ []) ∷ [])) 1 (0 ∷ 7 ∷ 9 ∷ []) 2

-- No vote arrives.
abbrev pub no_votes : Window
no_votes = window (from_one (1 ∷ 1 ∷ []) (inputs (block 1 7 0 1 ∷ []) ∷ inputs (block 1 7 0 1 ∷ []) ∷ [])) 2 (0 ∷ 7 ∷ []) 1

-- Votes arrive and final votes do not: 4 of 6 for the block at both, final 2 of 6.
abbrev pub no_finals : Window
no_finals =
    window (from_one (2 ∷ 2 ∷ 1 ∷ 1 ∷ [])
    (inputs (block 1 7 0 1 ∷ vote 1 1 1 7 ∷ []) ∷ inputs (block 1 7 0 1 ∷ vote 1 0 1 7 ∷ []) ∷ inputs (look ∷ timeout 1 ∷ []) ∷ [])) 2 (0 ∷ 7 ∷ []) 1

-- Exactly 60 percent: stakes 2, 1, and an honest 2 of 5 that is slow. Its skip reaches 40 at node 0, which falls back to skip and casts no final.
abbrev pub exactly_sixty : Window
exactly_sixty =
    window (from_one (2 ∷ 1 ∷ 2 ∷ [])
    (inputs (block 1 7 0 1 ∷ vote 3 2 1 0 ∷ vote 1 1 1 7 ∷ vote 5 1 1 0 ∷ []) ∷ inputs (block 1 7 0 1 ∷ vote 1 0 1 7 ∷ []) ∷ inputs (look ∷ timeout 1 ∷ []) ∷ [])) 2 (0 ∷ 7 ∷ []) 1

-- ---- a number with two parents: stakes 1 and 4

-- Both vote 7 in slot 1. Node 1 votes 9 in slot 2, on 7; node 0 keeps 9 on 8, and hears of the vote for 9 first: it tells of 9 and of its parent 8.
abbrev pub two_parents : Window
two_parents =
    window (from_one (1 ∷ 4 ∷ []) (inputs (block 1 7 0 1 ∷ block 2 9 1 8 ∷ vote 1 1 2 9 ∷ vote 1 1 1 7 ∷ []) ∷ inputs (block 1 7 0 1 ∷ block 2 9 1 7 ∷ vote 1 0 1 7 ∷ []) ∷ [])) 2 (0 ∷ 7 ∷ []) 1
