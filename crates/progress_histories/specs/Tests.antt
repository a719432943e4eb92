-- Histories of honest nodes, and the premises of progress as tests of them, for the slots up to u.
use Rattle.std.specs.Prelude.{Bool, not, ◌&&◌, ◌||◌, List, [], ◌∷◌, ℕ, suc, ◌*◌, eqb, leb, ltb, length, get_or}
use Rattle.rulebook.specs.declared.Block.{Block}
use Rattle.rulebook.specs.declared.Cell.{Cell}
use Rattle.rulebook.specs.declared.CertificateKind.TheVariants as certificate
use Rattle.rulebook.specs.Tools.{choose, all_to, some_to, any_of}
use Rattle.rulebook.specs.Weights.{weight, total_to, reaches, is_first, stakes_fit}
use Rattle.rulebook.specs.Ledger.{Ledger, none, fresh, cell_at, own_cell, no_initial, is_armed, blocks_at, is_free, has_number, some_block, all_blocks, keeps_block}
use Rattle.rulebook.specs.Pool.{has_fallback, held, certifiable}
use Rattle.rulebook.specs.Rules.{Record}
use Rattle.rulebook.specs.Taking.{Arrival}
use Rattle.rulebook.specs.Computes.{rules}
use Rattle.safety.specs.Slot.{Test}
use Rattle.safety.specs.Ring.{after_all, life}
use Rattle.safety.specs.Examples.{told_in, mail_test, genuine_test, found_test, packets_test}

-- A stake table, each node's genesis, and what arrived at the honest nodes over their lives, node 0 first. The nodes behind them lie or are
-- silent.
pub record History : Type 0 where
  pub stakes : List ℕ
  pub genesis : ℕ → ℕ
  pub arrived : List (List Arrival)

abbrev pub honest_in : History → Test
honest_in h n = ltb n (length h.arrived)

abbrev pub fed_in : History → ℕ → List Arrival
fed_in h n = get_or h.arrived n []

-- Where node n's life has led.
abbrev pub end_in : History → ℕ → Ledger
end_in h n = life h.stakes h.genesis (honest_in h) (fed_in h) n

-- ---- each life computed once

-- Of each honest node, from node n on, by its number and what arrived.
unfoldable pub along : {A : Type 0} → (ℕ → List Arrival → A) → ℕ → List (List Arrival) → List A
along f n [] = []
along f n (is ∷ iss) = f n is ∷ along f (suc n) iss

-- The ends of all lives, and all records of each.
unfoldable pub ends : History → List Ledger
ends h = along (λ n is. after_all (fresh h.stakes n (h.genesis n)) is) 0 h.arrived

unfoldable pub tolds : History → List (List Record)
tolds h = along (λ n is. told_in (fresh h.stakes n (h.genesis n)) is) 0 h.arrived

abbrev pub end_of : List Ledger → ℕ → Ledger
end_of ls n = get_or ls n (fresh [] 0 0)

abbrev pub told_of : List (List Record) → ℕ → List Record
told_of ts n = get_or ts n []

-- The test holds of every honest node; of every slot up to u.
abbrev pub everywhere : History → (ℕ → Bool) → Bool
everywhere h p = all_to (length h.arrived) p

abbrev pub up_to : ℕ → (ℕ → Bool) → Bool
up_to u p = all_to (suc u) p

-- ---- the ring

abbrev pub total : History → ℕ
total h = total_to h.stakes (length h.stakes)

-- All stake but the honest nodes' is strictly under one fifth.
unfoldable pub few_others : History → Bool
few_others h = ltb (5 * weight h.stakes (length h.stakes) (λ n. not (honest_in h n))) (total h)

-- Each start is accepted.
unfoldable pub all_started : History → Bool
all_started h =
    stakes_fit h.stakes (length h.stakes) && (leb (length h.arrived) (length h.stakes) && everywhere h (λ n. not (none (h.genesis n))))

-- Votes that are fed in honest nodes' names those cast, and the certificates that are handed over count only such.
unfoldable pub mail_genuine : History → List (List Record) → Bool
mail_genuine h ts = everywhere h (λ n. not (honest_in h n) || mail_test (told_of ts) (honest_in h) n (fed_in h n))

unfoldable pub packets_genuine : History → List (List Record) → Bool
packets_genuine h ts = everywhere h (λ n. not (honest_in h n) || packets_test (told_of ts) (honest_in h) (length h.stakes) (length h.arrived) (fed_in h n))

-- ---- the mail is in

-- Every honest node has had an accepted arrival: window 1 is armed.
unfoldable pub all_woken : History → List Ledger → Bool
all_woken h ls = everywhere h (λ n. is_armed (end_of ls n) 1)

-- The second cell has what the first has, finals aside.
unfoldable pub within : Cell → Cell → Bool
within c d =
    (none c.notar || eqb d.notar c.notar) && ((none c.skip || not (none d.skip))
    && ((none c.fallback1 || has_fallback c.fallback1 d) && ((none c.fallback2 || has_fallback c.fallback2 d)
    && ((none c.fallback3 || has_fallback c.fallback3 d) && (none c.skipfallback || not (none d.skipfallback))))))

-- Every vote that an honest node cast, finals aside, stands in every honest node's pool.
unfoldable pub votes_in : History → ℕ → List Ledger → Bool
votes_in h u ls = everywhere h (λ n. everywhere h (λ m. up_to u (λ s. within (cell_at (end_of ls m) s m) (cell_at (end_of ls n) s m))))

-- Every honest node has an initial vote in every slot of a window that it has armed.
unfoldable pub initial_in : History → ℕ → List Ledger → Bool
initial_in h u ls = everywhere h (λ n. up_to u (λ s. none s || (not (is_armed (end_of ls n) s) || not (no_initial (own_cell (end_of ls n) s)))))

-- Honest notar votes for block b of slot s reach 40.
unfoldable pub is_heavy : History → List Ledger → ℕ → ℕ → Bool
is_heavy h ls s b = reaches 2 (total h) (weight h.stakes (length h.stakes) (λ n. honest_in h n && eqb (cell_at (end_of ls n) s n).notar b))

-- What a node keeps of block b passes the test.
unfoldable pub kept_pass : (Block → Bool) → ℕ → List Block → Bool
kept_pass p b ks = all_blocks (λ k. is_free k || (not (has_number b k) || p k)) ks

-- Outside first slots, a block that an honest node voted for, and for which honest notar votes reach 40, passes the test at every honest node.
unfoldable pub voted_pass : (Ledger → ℕ → Block → Bool) → History → ℕ → List Ledger → Bool
voted_pass p h u ls =
    everywhere h (λ n. everywhere h (λ m. up_to u (λ s. let b = (cell_at (end_of ls n) s n).notar in
    is_first s || (none b || (not (is_heavy h ls s b) || kept_pass (p (end_of ls m) s) b (blocks_at (end_of ls n) s))))))

-- It is kept with the voter's parent.
abbrev pub as_kept : Ledger → ℕ → Block → Bool
as_kept l s k = keeps_block l s k.number k.parentslot.0 k.parent

unfoldable pub blocks_in : History → ℕ → List Ledger → Bool
blocks_in h u ls = voted_pass as_kept h u ls

-- Its number is kept, with any parent: this is not enough.
unfoldable pub numbers_in : History → ℕ → List Ledger → Bool
numbers_in h u ls = voted_pass (λ l s k. some_block (has_number k.number) (blocks_at l s)) h u ls

-- ---- the premises by number; 0 stands for none

abbrev pub the_fifth : ℕ
the_fifth = 1

abbrev pub the_certificates : ℕ
the_certificates = 2

abbrev pub the_acceptance : ℕ
the_acceptance = 3

abbrev pub the_votes : ℕ
the_votes = 4

abbrev pub the_initials : ℕ
the_initials = 5

abbrev pub the_blocks : ℕ
the_blocks = 6

-- Premise q is found to hold; where it is the one that is left out, it is found to fail.
unfoldable pub as_meant : ℕ → ℕ → Bool → Bool
as_meant left q found = choose (eqb left q) (not found) found

-- Every premise holds but the one that is left out.
unfoldable pub meets_but : ℕ → History → ℕ → List Ledger → List (List Record) → Bool
meets_but left h u ls ts =
    all_started h && (mail_genuine h ts && (as_meant left the_fifth (few_others h) && (as_meant left the_certificates (packets_genuine h ts)
    && (as_meant left the_acceptance (all_woken h ls) && (as_meant left the_votes (votes_in h u ls) && (as_meant left the_initials (initial_in h u ls)
    && as_meant left the_blocks (blocks_in h u ls)))))))

-- ---- a ring that hangs

-- The node holds neither kind 4 nor kind 3 for a block.
unfoldable pub is_stuck : Ledger → ℕ → Bool
is_stuck l s = leb 1 l.total && not (held l certificate.Skip s 0 || any_of (held l certificate.NotarFallback s) (certifiable l s))

-- All premises but one hold, and in slot u some honest node is stuck.
unfoldable pub hangs_but : ℕ → History → ℕ → List Ledger → List (List Record) → Bool
hangs_but left h u ls ts = meets_but left h u ls ts && some_to (length h.arrived) (λ n. is_stuck (end_of ls n) u)

-- Named on an `unfolding` line, `tests` opens all that these run through.
unfoldable pub tests : Unit {0}
unfolding rules after_all told_in mail_test genuine_test found_test packets_test along ends tolds few_others all_started mail_genuine packets_genuine all_woken within votes_in initial_in is_heavy kept_pass voted_pass blocks_in numbers_in as_meant meets_but is_stuck hangs_but
tests = tt
