-- Why progress needs each of its premises: rings that meet all others and hang, as small as they come, beside rings that meet all and go on.
-- No order between nodes is meant: each is fed only votes that the others cast, or lies of a node that is not honest.
use Rattle.std.specs.Prelude.{◌≡◌, Bool, not, ◌&&◌, List, [], ◌∷◌, ◌++◌, ℕ, suc, ◌/◌, ◌≤◌, T, eqb, length, Ok}
use Rattle.rulebook.specs.declared.Input.{Input}
use Rattle.rulebook.specs.PaperNumbers.{verdict_number}
use Rattle.rulebook.specs.Weights.{last_slot, reaches, is_first}
use Rattle.rulebook.specs.Ledger.{Ledger, fresh, cell_at, own_cell, no_initial, is_armed}
use Rattle.rulebook.specs.Rules.{Record}
use Rattle.rulebook.specs.Inputs.{start_verdict, verdict}
use Rattle.rulebook.specs.Certificates.{Certificate}
use Rattle.rulebook.specs.Checker.{judge}
use Rattle.rulebook.specs.Scripts.{vote, block, timeout, look, flatten, equals}
use Rattle.rulebook.specs.Taking.{Arrival, of_input, of_packet}
use Rattle.safety.specs.Slot.{Ballot, notar}
use Rattle.safety.specs.Ballots.{has}
use Rattle.safety.specs.Ring.{cast_by, brought_by, HandedBy, Genuine, FewOthers, Ring}
use Rattle.safety.specs.Watchers.{watched, HoldsGenuine, FedGenuine}
use Rattle.safety.specs.Examples.{inputs}
use Rattle.chain.specs.OneChain.{kept_by}
use Rattle.progress.specs.Rest.{is_final_vote}
use Rattle.progress.specs.Progress.{accepted_in, honest_stake, MailIn, Going}
use Rattle.progress.specs.Watching.{WatcherMail}
use Rattle.progress_histories.specs.Tests.{History, honest_in, fed_in, end_in, end_of, told_of, everywhere, up_to, within, total, the_fifth, the_certificates, the_acceptance, the_votes, the_initials, the_blocks, numbers_in, meets_but, hangs_but}

-- ---- what is shown

-- Every premise of progress for the slots up to u, but for the one that is left out: the ring's as they are over what arrives, and the mail's.
pub record AllBut (left : ℕ) (h : History) (u : ℕ) : Type 0 where
  pub few : ¬ (left ≡ the_fifth) → FewOthers h.stakes (honest_in h)
  pub started : (n : ℕ) → T (honest_in h n) → start_verdict h.stakes n (h.genesis n) ≡ Ok tt
  pub mail : (n m s : ℕ) (v : Ballot) → T (honest_in h n) → T (honest_in h m) → ¬ (m ≡ n) → T (brought_by (fed_in h n) s m v)
      → T (cast_by h.stakes h.genesis (honest_in h) (fed_in h) m s v)
  pub packets : ¬ (left ≡ the_certificates) → (n : ℕ) (c : Certificate) → T (honest_in h n) → HandedBy (fed_in h n) c → judge h.stakes c ≡ Ok tt
      → Genuine (length h.stakes) (honest_in h) (cast_by h.stakes h.genesis (honest_in h) (fed_in h)) c
  pub woken : ¬ (left ≡ the_acceptance) → (n : ℕ) → T (honest_in h n) → T (accepted_in (fresh h.stakes n (h.genesis n)) (fed_in h n))
  pub votes : ¬ (left ≡ the_votes) → (n m s : ℕ) (v : Ballot) → T (honest_in h n) → T (honest_in h m) → 1 ≤ s → s ≤ u → T (not (is_final_vote v))
      → T (cast_by h.stakes h.genesis (honest_in h) (fed_in h) m s v) → T (has (cell_at (end_in h n) s m) v)
  pub initial : ¬ (left ≡ the_initials) → (n s : ℕ) → T (honest_in h n) → 1 ≤ s → s ≤ u → T (is_armed (end_in h n) s) → T (not (no_initial (own_cell (end_in h n) s)))
  pub blocks : ¬ (left ≡ the_blocks) → (n m s b p x : ℕ) → T (honest_in h n) → T (honest_in h m) → s ≤ u → T (not (is_first s))
      → T (cast_by h.stakes h.genesis (honest_in h) (fed_in h) n s (notar b)) → T (kept_by h.stakes h.genesis (honest_in h) (fed_in h) n s b p x)
      → T (reaches 2 (total h) (honest_stake h.stakes h.genesis (honest_in h) (fed_in h) s b)) → T (kept_by h.stakes h.genesis (honest_in h) (fed_in h) m s b p x)

abbrev pub GoingIn : History → ℕ → Type 0
GoingIn h s = Going h.stakes h.genesis (honest_in h) (fed_in h) s

-- All premises but one, and slot u is not decided.
pub record HangsWithout (left : ℕ) (h : History) (u : ℕ) : Type 0 where
  pub others : AllBut left h u
  pub hangs : ¬ GoingIn h u

-- All premises, and what follows.
pub record GoesOn (h : History) (u : ℕ) : Type 0 where
  pub ring : Ring h.stakes h.genesis (honest_in h) (fed_in h)
  pub mail : MailIn h.stakes h.genesis (honest_in h) (fed_in h) u
  pub going : (s : ℕ) → 1 ≤ s → s ≤ u → GoingIn h s
  pub next : suc u ≤ last_slot → T (is_first (suc u)) → (n : ℕ) → T (honest_in h n) → T (is_armed (end_in h n) (suc u))

-- A history of honest nodes that all were started with genesis 1.
abbrev from_one : List ℕ → List (List Arrival) → History
from_one stakes arrived = record { stakes = stakes; genesis = λ n. 1; arrived = arrived }

-- ---- one node, and two of stake 1 each

-- All is well: each times out and hears of the other's skip.
abbrev pub well : History
well = from_one (1 ∷ 1 ∷ []) (inputs (look ∷ timeout 1 ∷ vote 3 1 1 0 ∷ []) ∷ inputs (look ∷ timeout 1 ∷ vote 3 0 1 0 ∷ []) ∷ [])

-- Nothing arrives: no rule has run, and nothing is armed.
abbrev pub nothing_fed : History
nothing_fed = from_one (1 ∷ []) ([] ∷ [])

-- No mail: each holds its own skip, half of the stake.
abbrev pub no_mail : History
no_mail = from_one (1 ∷ 1 ∷ []) (inputs (look ∷ timeout 1 ∷ []) ∷ inputs (look ∷ timeout 1 ∷ []) ∷ [])

-- No timeout: the window is armed, and nobody votes.
abbrev pub no_timeouts : History
no_timeouts = from_one (1 ∷ []) (inputs (look ∷ []) ∷ [])

-- ---- a block that is not shown: stakes 3 and 2, and a silent 1 of 6

-- Node 0 votes 7 in slot 1 and 9 on it in slot 2, and hears node 1's votes 7 and skip, and what else it is told.
abbrev voter : List Input → List Arrival
voter more = inputs (block 1 7 0 1 ∷ block 2 9 1 7 ∷ vote 1 1 1 7 ∷ vote 3 1 2 0 ∷ more)

-- Node 1 votes 7 and times out in slot 2, is shown blocks there, and hears node 0's votes.
abbrev sleeper : List Input → List Arrival
sleeper shown = inputs (block 1 7 0 1 ∷ timeout 2 ∷ shown ++ (vote 1 0 1 7 ∷ vote 1 0 2 9 ∷ []))

abbrev late : List Arrival → List Arrival → History
late zeroth first = from_one (3 ∷ 2 ∷ 1 ∷ []) (zeroth ∷ first ∷ [])

-- Node 1 is never shown 9: notar has 3 of 6 and skip 2. D lacks the block, E the weight.
abbrev pub no_block : History
no_block = late (voter []) (sleeper [])

-- The same with 9 shown, late as it is: node 1 falls back to it.
abbrev pub with_block : History
with_block = late (voter (vote 2 1 2 9 ∷ [])) (sleeper (block 2 9 1 7 ∷ []))

-- The same with 9 shown fifth: the four places are taken.
abbrev pub fifth_block : History
fifth_block = late (voter []) (sleeper (block 2 21 1 7 ∷ block 2 22 1 7 ∷ block 2 23 1 7 ∷ block 2 24 1 7 ∷ block 2 9 1 7 ∷ []))

-- And 8 is answered.
unfoldable pub answers_eight : List Ledger → Bool
answers_eight ls = eqb (verdict_number (verdict (end_of ls 1) (block 2 9 1 7))) 8

unfoldable pub fifth_hangs : List Ledger → List (List Record) → Bool
fifth_hangs ls ts = answers_eight ls && hangs_but the_blocks fifth_block 2 ls ts

-- ---- one number on two parents: stakes 1, 2, 2, and a silent 1 of 6

-- Each votes a block of its own in slot 1, and all fall back to skip there. In slot 2 nodes 0 and 1 vote 9, each on its own block; node 2
-- times out and keeps 9 as node 0 does. 9 has 3 of 6 and skip 2; no block of slot 1 has more than 2, so that D never has the parent.
abbrev pub many_parents : History
many_parents =
    from_one (1 ∷ 2 ∷ 2 ∷ 1 ∷ [])
    (inputs (block 1 21 0 1 ∷ block 2 9 1 21 ∷ vote 1 1 1 22 ∷ vote 1 2 1 23 ∷ vote 4 1 1 0 ∷ vote 4 2 1 0 ∷ vote 1 1 2 9 ∷ vote 3 2 2 0 ∷ [])
    ∷ inputs (block 1 22 0 1 ∷ block 2 9 1 22 ∷ vote 1 0 1 21 ∷ vote 1 2 1 23 ∷ vote 4 0 1 0 ∷ vote 4 2 1 0 ∷ vote 1 0 2 9 ∷ vote 3 2 2 0 ∷ [])
    ∷ inputs (block 1 23 0 1 ∷ timeout 2 ∷ block 2 9 1 21 ∷ vote 1 0 1 21 ∷ vote 1 1 1 22 ∷ vote 4 0 1 0 ∷ vote 4 1 1 0 ∷ vote 1 0 2 9 ∷ vote 1 1 2 9 ∷ [])
    ∷ [])

-- The number is kept everywhere: it must be with the voters' parent.
unfoldable pub parents_hang : List Ledger → List (List Record) → Bool
parents_hang ls ts = numbers_in many_parents 2 ls && hangs_but the_blocks many_parents 2 ls ts

-- ---- exactly one fifth: stakes 3, 1, 4, and a liar's 2 of 10

-- Nodes 0 and 1 vote 7, node 2 votes 8. The liar tells 0 that it voted 7, and 2 that it voted 8, so that both cast final; it tells 1
-- nothing. Node 1 falls back to 8 and to skip: 7 has 4 of 10 there, 8 has 5, skip 1.
abbrev pub at_one_fifth : History
at_one_fifth =
    from_one (3 ∷ 1 ∷ 4 ∷ 2 ∷ [])
    (inputs (block 1 7 0 1 ∷ vote 1 3 1 7 ∷ vote 1 1 1 7 ∷ vote 1 2 1 8 ∷ vote 2 1 1 8 ∷ vote 4 1 1 0 ∷ [])
    ∷ inputs (block 1 7 0 1 ∷ vote 1 0 1 7 ∷ vote 1 2 1 8 ∷ [])
    ∷ inputs (block 1 8 0 1 ∷ vote 1 3 1 8 ∷ vote 1 0 1 7 ∷ vote 1 1 1 7 ∷ vote 2 1 1 8 ∷ vote 4 1 1 0 ∷ [])
    ∷ [])

-- ---- forged certificates: stakes 4, 4 and 1, all honest

-- A certificate of kind 2 for block b of slot 1 in the names of nodes 0 and 1.
abbrev forged : ℕ → Arrival
forged b = of_packet (0x02 ∷ 0x01 ∷ b ∷ 0x03 ∷ 0x00 ∷ [])

-- Nodes 0 and 1 vote 7 and 8, are each handed such a certificate for their block, which the other did not sign, and cast final. Node 2 skips and
-- falls back to both: each has 5 of 9 there, skip 1.
abbrev pub forged_certificates : History
forged_certificates =
    from_one (4 ∷ 4 ∷ 1 ∷ [])
    ((of_input (block 1 7 0 1) ∷ forged 7 ∷ inputs (vote 1 1 1 8 ∷ vote 3 2 1 0 ∷ vote 2 2 1 7 ∷ vote 2 2 1 8 ∷ []))
    ∷ (of_input (block 1 8 0 1) ∷ forged 8 ∷ inputs (vote 1 0 1 7 ∷ vote 3 2 1 0 ∷ vote 2 2 1 7 ∷ vote 2 2 1 8 ∷ []))
    ∷ inputs (look ∷ timeout 1 ∷ vote 1 0 1 7 ∷ vote 1 1 1 8 ∷ [])
    ∷ [])

-- ---- a ring that goes on to the next window: stakes 1, 2, 2, and a liar's 1 of 6

-- Nodes 0 and 1 vote 7 in slot 1 and 9 on it in slot 2. Node 2, which has another genesis, times out in slot 1 and is shown 9 late. The liar
-- tells 0 that it voted 7, 1 that it voted 8, and 2 nothing: 0 casts final, 1 falls back to skip, 2 to 7 and to 9. All skip slots 3 and 4.
abbrev pub going_ring : History
going_ring =
    record {
      stakes = 1 ∷ 2 ∷ 2 ∷ 1 ∷ [];
      genesis = λ n. suc (n / 2);
      arrived =
          inputs (block 1 7 0 1 ∷ block 2 9 1 7 ∷ vote 1 1 1 7 ∷ vote 1 3 1 7 ∷ vote 1 1 2 9 ∷ timeout 3 ∷ vote 3 2 1 0 ∷ vote 3 2 2 0 ∷ vote 3 2 3 0 ∷ vote 3 2 4 0
          ∷ vote 2 2 1 7 ∷ vote 2 2 2 9 ∷ vote 3 1 3 0 ∷ vote 3 1 4 0 ∷ vote 4 1 1 0 ∷ [])
          ∷ inputs (block 1 7 0 1 ∷ block 2 9 1 7 ∷ vote 1 0 1 7 ∷ vote 1 3 1 8 ∷ vote 3 2 1 0 ∷ vote 1 0 2 9 ∷ vote 3 2 2 0 ∷ vote 3 2 3 0 ∷ vote 3 2 4 0
          ∷ vote 3 0 3 0 ∷ vote 3 0 4 0 ∷ vote 2 2 1 7 ∷ vote 2 2 2 9 ∷ [])
          ∷ inputs (look ∷ timeout 1 ∷ vote 1 0 1 7 ∷ vote 1 1 1 7 ∷ vote 1 0 2 9 ∷ vote 1 1 2 9 ∷ block 2 9 1 7 ∷ vote 4 1 1 0 ∷ vote 3 0 3 0 ∷ vote 3 1 3 0
          ∷ vote 3 0 4 0 ∷ vote 3 1 4 0 ∷ [])
          ∷ [];
    }

-- A watcher that is fed what these cast in slots 1 to 4, finals aside, and the liar's vote for 8.
abbrev pub beside_going : List Arrival
beside_going =
    inputs (look ∷ vote 1 3 1 8 ∷ vote 1 0 1 7 ∷ vote 1 1 1 7 ∷ vote 3 2 1 0 ∷ vote 2 2 1 7 ∷ vote 4 1 1 0 ∷ vote 1 0 2 9 ∷ vote 1 1 2 9 ∷ vote 3 2 2 0 ∷ vote 2 2 2 9
    ∷ vote 3 0 3 0 ∷ vote 3 1 3 0 ∷ vote 3 2 3 0 ∷ vote 3 0 4 0 ∷ vote 3 1 4 0 ∷ vote 3 2 4 0 ∷ [])

-- Every vote that an honest node cast in slots up to u, finals aside, stands in the watcher's pool.
unfoldable pub watcher_has : History → ℕ → List Ledger → Ledger → Bool
watcher_has h u ls l = everywhere h (λ m. up_to u (λ s. within (cell_at (end_of ls m) s m) (cell_at l s m)))

-- THE PREMISES OF A WATCHER CAN BE MET beside a liar whose vote it counts: what it was fed and what it holds is genuine, and it has the mail.
pub record WatchesGoing : Type 0 where
  pub fed : FedGenuine (honest_in going_ring) (cast_by going_ring.stakes going_ring.genesis (honest_in going_ring) (fed_in going_ring)) going_ring.stakes beside_going
  pub genuine : HoldsGenuine (honest_in going_ring) (cast_by going_ring.stakes going_ring.genesis (honest_in going_ring) (fed_in going_ring)) (watched going_ring.stakes 1 beside_going)
  pub mail : WatcherMail going_ring.stakes going_ring.genesis (honest_in going_ring) (fed_in going_ring) 4 1 beside_going
  pub liar : T (has (cell_at (watched going_ring.stakes 1 beside_going) 1 3) (notar 8))

-- What each tells, three numbers a record.
abbrev pub told_going : List (List ℕ)
told_going =
    (7 ∷ 1 ∷ 0 ∷ 1 ∷ 1 ∷ 7 ∷ 1 ∷ 2 ∷ 9 ∷ 5 ∷ 1 ∷ 0 ∷ 3 ∷ 3 ∷ 0 ∷ 3 ∷ 4 ∷ 0 ∷ 7 ∷ 5 ∷ 0 ∷ [])
    ∷ (7 ∷ 1 ∷ 0 ∷ 1 ∷ 1 ∷ 7 ∷ 1 ∷ 2 ∷ 9 ∷ 3 ∷ 3 ∷ 0 ∷ 3 ∷ 4 ∷ 0 ∷ 4 ∷ 1 ∷ 0 ∷ 7 ∷ 5 ∷ 0 ∷ [])
    ∷ (7 ∷ 1 ∷ 0 ∷ 3 ∷ 1 ∷ 0 ∷ 3 ∷ 2 ∷ 0 ∷ 3 ∷ 3 ∷ 0 ∷ 3 ∷ 4 ∷ 0 ∷ 2 ∷ 1 ∷ 7 ∷ 2 ∷ 2 ∷ 9 ∷ 7 ∷ 5 ∷ 0 ∷ [])
    ∷ []

unfoldable pub tells_so : List (List Record) → Bool
tells_so ts = equals (flatten (told_of ts 0) ∷ flatten (told_of ts 1) ∷ flatten (told_of ts 2) ∷ []) told_going

unfoldable pub going_told : List Ledger → List (List Record) → Bool
going_told ls ts = tells_so ts && meets_but 0 going_ring 4 ls ts
