-- Windows in histories, and the premises of finality as tests of them.
use Rattle.std.specs.Prelude.{Bool, not, ◌&&◌, ◌||◌, List, ℕ, suc, ◌*◌, eqb, leb, ltb, length, get_or}
use Rattle.rulebook.specs.declared.CertificateKind.TheVariants as certificate
use Rattle.rulebook.specs.Tools.{choose, all_to, some_to}
use Rattle.rulebook.specs.Weights.{last_slot, weight, is_first, window_of}
use Rattle.rulebook.specs.Ledger.{Ledger, none, fresh, cell_at, row_at, is_block, first_block}
use Rattle.rulebook.specs.Pool.{held, ready}
use Rattle.rulebook.specs.Rules.{Record, record_of, is_final}
use Rattle.safety.specs.Slot.{Test}
use Rattle.safety.specs.Ballots.{among}
use Rattle.progress_histories.specs.Tests.{History, fed_in, end_of, told_of, total, few_others, all_started, mail_genuine, packets_genuine, as_meant, ends, tolds, tests}
use Rattle.watchers.specs.Watching.{is_done}
use Rattle.finals.specs.Calm.{hasty_in}

-- A history in which so many nodes, from node 0 on, are prompt; a block for each slot; the slots from first to last, and the parent of the first.
pub record Window : Type 0 where
  pub history : History
  pub prompt : ℕ
  pub blocks : List ℕ
  pub first : ℕ
  pub last : ℕ
  pub parent_slot : ℕ
  pub parent : ℕ

abbrev pub prompt_in : Window → Test
prompt_in w n = ltb n w.prompt

abbrev pub block_in : Window → ℕ → ℕ
block_in w t = get_or w.blocks t 0

-- Of every prompt node; of every slot of the window.
abbrev pub each_prompt : Window → (ℕ → Bool) → Bool
each_prompt w p = all_to w.prompt p

abbrev pub each_slot : Window → (ℕ → Bool) → Bool
each_slot w p = all_to (suc last_slot) (λ t. not (leb w.first t && leb t w.last) || p t)

-- ---- the premises

unfoldable pub begins : Window → Bool
begins w = is_first w.first && (leb w.last last_slot && leb w.prompt (length w.history.arrived))

unfoldable pub strong_in : Window → Bool
strong_in w = ltb (3 * total w.history) (5 * weight w.history.stakes (length w.history.stakes) (prompt_in w))

unfoldable pub firsts_in : Window → List Ledger → Bool
firsts_in w ls = each_prompt w (λ n. is_block (block_in w w.first) w.parent_slot w.parent (first_block (end_of ls n) w.first))

unfoldable pub ready_in : Window → List Ledger → Bool
ready_in w ls = each_prompt w (λ n. ready (end_of ls n) w.first w.parent_slot w.parent)

unfoldable pub next_in : Window → List Ledger → Bool
next_in w ls = each_prompt w (λ n. each_slot w (λ t. not (leb (suc t) w.last) || is_block (block_in w (suc t)) t (block_in w t) (first_block (end_of ls n) (suc t))))

unfoldable pub patient_in : Window → Bool
patient_in w = each_prompt w (λ n. each_slot w (λ t. not (hasty_in (fresh w.history.stakes n (w.history.genesis n)) (fed_in w.history n) (window_of t))))

unfoldable pub notars_in : Window → List Ledger → Bool
notars_in w ls =
    each_prompt w (λ n. each_prompt w (λ m. each_slot w (λ t. not (eqb (cell_at (end_of ls m) t m).notar (block_in w t)) || eqb (cell_at (end_of ls n) t m).notar (block_in w t))))

unfoldable pub finals_in : Window → List Ledger → Bool
finals_in w ls = each_prompt w (λ n. each_prompt w (λ m. each_slot w (λ t. none (cell_at (end_of ls m) t m).finalvote || not (none (cell_at (end_of ls n) t m).finalvote))))

-- ---- the premises by number; 0 stands for none

abbrev pub the_strength : ℕ
the_strength = 1

abbrev pub the_first : ℕ
the_first = 2

abbrev pub the_parent : ℕ
the_parent = 3

abbrev pub the_next : ℕ
the_next = 4

abbrev pub the_patience : ℕ
the_patience = 5

abbrev pub the_votes : ℕ
the_votes = 6

abbrev pub the_finals : ℕ
the_finals = 7

-- A ring as in demand 3.
unfoldable pub ring_in : Window → List (List Record) → Bool
ring_in w ts = let h = w.history in mail_genuine h ts && (packets_genuine h ts && few_others h)

-- Every premise of finality holds but the one that is left out, which is found to fail.
unfoldable pub leads_but : ℕ → Window → List Ledger → Bool
leads_but left w ls =
    (all_started w.history && begins w)
    && (as_meant left the_strength (strong_in w) && (as_meant left the_first (firsts_in w ls) && (as_meant left the_parent (ready_in w ls) && (as_meant left the_next (next_in w ls)
    && (as_meant left the_patience (patient_in w) && (as_meant left the_votes (notars_in w ls) && as_meant left the_finals (finals_in w ls)))))))

-- ---- what comes of it

-- Some prompt node has no finality for the block of some slot.
unfoldable pub not_final : Window → List Ledger → Bool
not_final w ls = some_to w.prompt (λ n. some_to (suc last_slot) (λ t. (leb w.first t && leb t w.last) && not (is_final (end_of ls n) t (block_in w t))))

-- Every prompt node holds kind 1 for the block of each slot, and has told of it.
unfoldable pub all_fast : Window → List Ledger → List (List Record) → Bool
all_fast w ls ts =
    each_prompt w (λ n. each_slot w (λ t. held (end_of ls n) certificate.FastFinal t (block_in w t) && among (told_of ts n) (record_of 6 t (block_in w t))))

-- None holds kind 1, and each has told of the blocks all the same.
unfoldable pub all_slow : Window → List Ledger → List (List Record) → Bool
all_slow w ls ts =
    each_prompt w (λ n. each_slot w (λ t. not (held (end_of ls n) certificate.FastFinal t (block_in w t)) && among (told_of ts n) (record_of 6 t (block_in w t))))

-- Node 0 has marked another block than slot t's as final, and told of that.
unfoldable pub marks_other : Window → ℕ → List Ledger → List (List Record) → Bool
marks_other w t ls ts = is_final (end_of ls 0) t (block_in w t) && (not (eqb (row_at (end_of ls 0) t).final (block_in w t)) && not (among (told_of ts 0) (record_of 6 t (block_in w t))))

-- ---- over the computed lives

-- A ring, all premises but one, and some prompt node has no finality.
unfoldable pub fails_without : ℕ → Window → Bool
fails_without left w = let ls = ends w.history in let ts = tolds w.history in ring_in w ts && (leads_but left w ls && not_final w ls)

-- A ring; or, where too many lie, none.
unfoldable pub ring_unless : Bool → Window → List (List Record) → Bool
ring_unless many w ts = choose many (not (few_others w.history)) (ring_in w ts)

-- The prompt nodes have 80 percent.
unfoldable pub heavy_in : Window → Bool
heavy_in w = leb (4 * total w.history) (5 * weight w.history.stakes (length w.history.stakes) (prompt_in w))

-- All premises but that final votes arrive, 80 percent prompt, and every prompt node holds kind 1 and has told of the blocks.
unfoldable pub goes_fast : Bool → Window → Bool
goes_fast many w = let ls = ends w.history in let ts = tolds w.history in ring_unless many w ts && (heavy_in w && (leads_but the_finals w ls && all_fast w ls ts))

-- All premises, and the blocks are told of without kind 1.
unfoldable pub goes_slow : Bool → Window → Bool
goes_slow many w = let ls = ends w.history in let ts = tolds w.history in ring_unless many w ts && (leads_but 0 w ls && all_slow w ls ts)

-- A ring, all premises but that final votes arrive, and node 0 marks another block in slot t.
unfoldable pub marks_wrong : Window → ℕ → Bool
marks_wrong w t = let ls = ends w.history in let ts = tolds w.history in ring_in w ts && (leads_but the_finals w ls && marks_other w t ls ts)

-- Named on an `unfolding` line, `computed` opens all that these run through.
unfoldable pub computed : Unit {0}
unfolding tests is_done hasty_in begins strong_in firsts_in ready_in next_in patient_in notars_in finals_in ring_in leads_but not_final all_fast all_slow marks_other fails_without ring_unless heavy_in goes_fast goes_slow marks_wrong
computed = tt
