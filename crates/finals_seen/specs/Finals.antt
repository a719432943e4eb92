-- BLOCKS ARE FINAL, without clocks, over seen lives: the leader of a window gives every slot one block, nobody loses patience, the votes are in. First the
-- premise and what the words mean, then the promises, each as a statement that proofs/ proves under the same name in small letters.
use Rattle.std.specs.Prelude.{◌≡◌, Bool, not, List, ℕ, suc, ◌*◌, ◌≤◌, ◌<◌, ◌^◌, T, length, take}
use Rattle.rulebook.specs.declared.CertificateKind.TheVariants as certificate
use Rattle.rulebook.specs.Weights.{last_slot, window_of, weight, total_to, is_first}
use Rattle.rulebook.specs.Ledger.{cell_at, is_block, first_block, fresh}
use Rattle.rulebook.specs.Pool.{held, ready}
use Rattle.rulebook.specs.Rules.{record_of, is_final}
use Rattle.rulebook.specs.Checker.{check_proof}
use Rattle.rulebook.specs.Writers.{proof_room}
use Rattle.readers.specs.Asked.{final_on}
use Rattle.writers.specs.Writing.{proof_on}
use Rattle.answers.specs.Face.{Wrote, Checked, FinalRead}
use Rattle.safety.specs.Slot.{Test, notar, notar_fallback, skip, skip_fallback, final}
use Rattle.safety.specs.Ballots.{has, among, record_for}
use Rattle.safety.specs.Watchers.{HoldsGenuine}
use Rattle.finals.specs.Calm.{hasty_in}
use Rattle.seen.specs.Seen.{Seen, ledger_in, NodeSeen, WatcherSeen}
use Rattle.seen.specs.Ring.{Lives, told_ballot, counted_ballot, Ring}
use Rattle.seen.specs.Chain.{OneParent, SameParents}
use Rattle.seen.specs.Written.{NamedAs}
use Rattle.seen.specs.Progress.{armed_in, MailIn}

-- ---- one life

module _ (stakes : List ℕ) (v : Seen) (t b : ℕ) where
  -- PROVED: the words hold finality for block b of slot t; a proof writer, asked for it on them and lent a buffer with room, answers 0; and a check with
  -- this table answers 0 to what was written and names slot and block, at whoever checks it.
  pub record Proved : Type 0 where
    pub holds : T (is_final (ledger_in v) t b)
    pub writes : (buffer after : List ℕ) (number written : ℕ) → proof_room (length stakes) ≤ length buffer
        → Wrote (proof_on v.words (length buffer) t b) buffer number written after → number ≡ 0
    pub accepted : b < 2 ^ 64 → (buffer after values : List ℕ) (written number missing : ℕ) → Wrote (proof_on v.words (length buffer) t b) buffer 0 written after
        → Checked (length stakes) (check_proof stakes (take written after)) number values missing → (kind : ℕ) × NamedAs number values kind t b

  -- TOLD: an outbox told (6, t, b), and the reader of final blocks answers 0 and b.
  pub record Told : Type 0 where
    pub told : T (among v.told (record_of 6 t b))
    pub reads : (number block : ℕ) → FinalRead (final_on v.words t) number block → (number ≡ 0) × (block ≡ b)

-- A node whose outboxes told no skip of a window was patient there.
abbrev pub SkiplessIsPatient : Type 0
SkiplessIsPatient =
    (stakes : List ℕ) (own genesis : ℕ) (v : Seen) → NodeSeen stakes own genesis v → (w : ℕ)
    → ((t : ℕ) → window_of t ≡ w → ¬ T (among v.told (record_for t skip))) → T (not (hasty_in (fresh stakes own genesis) v.came w))

-- Genesis is ready for slot 1 at every node that was started with it.
abbrev pub GenesisReady : Type 0
GenesisReady = (stakes : List ℕ) (own genesis : ℕ) (v : Seen) → NodeSeen stakes own genesis v → T (ready (ledger_in v) 1 0 genesis)

-- ---- the premise

-- The stake table, each node's genesis, what is seen of each node's life; which nodes are prompt, and the block of each slot. Of other nodes nothing is
-- asked: they may be slow, stopped or lying.
module _ (stakes : List ℕ) (genesis : ℕ → ℕ) (lives : Lives) (prompt : Test) (block : ℕ → ℕ) where
  -- Block b is the first that node n's words keep in slot s, with the parent (p, x).
  abbrev pub kept_first : ℕ → ℕ → ℕ → ℕ → ℕ → Bool
  kept_first n s b p x = is_block b p x (first_block (ledger_in (lives n)) s)

  -- The slots from f, which is a window's first, to u are led on the parent (p, x).
  pub record LedOn (p x f u : ℕ) : Type 0 where
    pub begins : T (is_first f)
    pub last : u ≤ last_slot
    -- The stake of the prompt nodes is over 60 percent;
    pub strong : 3 * total_to stakes (length stakes) < 5 * weight stakes (length stakes) prompt
    -- each lives, started with this table under its own number;
    pub lived : (n : ℕ) → T (prompt n) → NodeSeen stakes n (genesis n) (lives n)
    -- each keeps the same first block in slot f, on the parent (p, x), and so in every slot after f, on the block before;
    pub first : (n : ℕ) → T (prompt n) → T (kept_first n f (block f) p x)
    pub next : (n t : ℕ) → T (prompt n) → f ≤ t → suc t ≤ u → T (kept_first n (suc t) (block (suc t)) t (block t))
    -- no timeout of such a window was answered 0 for a slot in which the node had not voted;
    pub patient : (n t : ℕ) → T (prompt n) → f ≤ t → t ≤ u → T (not (hasty_in (fresh stakes n (genesis n)) (lives n).came (window_of t)))
    -- and the notar votes for these blocks that prompt outboxes told are counted in prompt words.
    pub votes : (n m t : ℕ) → T (prompt n) → T (prompt m) → f ≤ t → t ≤ u → T (told_ballot lives m t (notar (block t))) → T (counted_ballot lives n m t (notar (block t)))

  -- The parent is ready in the words of every prompt node.
  abbrev pub ReadyFor : ℕ → ℕ → ℕ → Type 0
  ReadyFor p x f = (n : ℕ) → T (prompt n) → T (ready (ledger_in (lives n)) f p x)

  -- THE PREMISE: they are led well, on a parent that is ready.
  pub record Led (f u : ℕ) : Type 0 where
    pub parent_slot : ℕ
    pub parent : ℕ
    pub on : LedOn parent_slot parent f u
    pub ready_parent : ReadyFor parent_slot parent f

  -- Their final votes are too.
  abbrev pub FinalsIn : ℕ → ℕ → Type 0
  FinalsIn f u = (n m t : ℕ) → T (prompt n) → T (prompt m) → f ≤ t → t ≤ u → T (told_ballot lives m t final) → T (counted_ballot lives n m t final)

  -- What node n's outboxes told of slot t: notar for the slot's block, and neither a skip nor a fallback.
  pub record VotedFor (n t : ℕ) : Type 0 where
    pub voted : T (told_ballot lives n t (notar (block t)))
    pub no_skip : ¬ T (told_ballot lives n t skip)
    pub no_fallback : (b : ℕ) → ¬ T (told_ballot lives n t (notar_fallback b))
    pub no_skip_fallback : ¬ T (told_ballot lives n t skip_fallback)

  -- A life has heard of slot t's block: the prompt nodes' notar votes for it are counted in its words, where they have 80 percent, or these and their
  -- final votes.
  pub data Heard (v : Seen) (t : ℕ) : Type 0 where
    by_notars : 4 * total_to stakes (length stakes) ≤ 5 * weight stakes (length stakes) prompt
        → ((m : ℕ) → T (prompt m) → T (has (cell_at (ledger_in v) t m) (notar (block t)))) → Heard v t
    by_finals : ((m : ℕ) → T (prompt m) → T (has (cell_at (ledger_in v) t m) (notar (block t))))
        → ((m : ℕ) → T (prompt m) → T (has (cell_at (ledger_in v) t m) final)) → Heard v t

-- ---- the promises

-- EVERY PROMPT NODE VOTES for the block of each slot, and for nothing else.
abbrev pub BlocksVoted : Type 0
BlocksVoted =
    (stakes : List ℕ) (genesis : ℕ → ℕ) (lives : Lives) (prompt : Test) (block : ℕ → ℕ) (f u : ℕ) → Led stakes genesis lives prompt block f u
    → (n t : ℕ) → T (prompt n) → f ≤ t → t ≤ u → VotedFor stakes genesis lives prompt block n t

-- FAST: where the prompt nodes have 80 percent, each holds kind 1 for the block of each slot, and proves it.
abbrev pub FastFinal : Type 0
FastFinal =
    (stakes : List ℕ) (genesis : ℕ → ℕ) (lives : Lives) (prompt : Test) (block : ℕ → ℕ) (f u : ℕ) → Led stakes genesis lives prompt block f u
    → 4 * total_to stakes (length stakes) ≤ 5 * weight stakes (length stakes) prompt
    → (n t : ℕ) → T (prompt n) → f ≤ t → t ≤ u → T (held (ledger_in (lives n)) certificate.FastFinal t (block t)) × Proved stakes (lives n) t (block t)

-- SLOW: with over 60 percent each holds kind 2 and tells its final vote, and where these votes are in each holds kind 5, and proves the block.
abbrev pub SlowFinal : Type 0
SlowFinal =
    (stakes : List ℕ) (genesis : ℕ → ℕ) (lives : Lives) (prompt : Test) (block : ℕ → ℕ) (f u : ℕ) → Led stakes genesis lives prompt block f u
    → FinalsIn stakes genesis lives prompt block f u
    → (n t : ℕ) → T (prompt n) → f ≤ t → t ≤ u
    → T (held (ledger_in (lives n)) certificate.Notar t (block t)) × T (told_ballot lives n t final)
    × T (held (ledger_in (lives n)) certificate.Final t 0) × Proved stakes (lives n) t (block t)

-- A number having one parent everywhere, what an honest prompt node has finality for it has told of.
abbrev pub FinalTold : Type 0
FinalTold =
    (stakes : List ℕ) (genesis : ℕ → ℕ) (honest : Test) (lives : Lives) → Ring stakes genesis honest lives → OneParent honest lives
    → (prompt : Test) → ((n : ℕ) → T (prompt n) → T (honest n)) → (block : ℕ → ℕ) (f u : ℕ) → Led stakes genesis lives prompt block f u
    → (n t : ℕ) → T (prompt n) → f ≤ t → t ≤ u → Proved stakes (lives n) t (block t) → Told stakes (lives n) t (block t)

-- BLOCKS ARE FINAL: where all honest nodes are prompt each holds kind 1 for the block of each slot, proves it, and has told of it.
abbrev pub BlocksFinal : Type 0
BlocksFinal =
    (stakes : List ℕ) (genesis : ℕ → ℕ) (honest : Test) (lives : Lives) → Ring stakes genesis honest lives → OneParent honest lives
    → (block : ℕ → ℕ) (f u : ℕ) → Led stakes genesis lives honest block f u
    → (n t : ℕ) → T (honest n) → f ≤ t → t ≤ u
    → T (held (ledger_in (lives n)) certificate.FastFinal t (block t)) × Proved stakes (lives n) t (block t) × Told stakes (lives n) t (block t)

-- THE OTHERS TOO: an honest node that was slow, stopped for a while or timed out proves a block, and has told of it, once the prompt nodes' votes are
-- counted in its words. Window 1 is armed there, as the first step that is answered 0 makes it.
abbrev pub OthersToo : Type 0
OthersToo =
    (stakes : List ℕ) (genesis : ℕ → ℕ) (honest : Test) (lives : Lives) → Ring stakes genesis honest lives → OneParent honest lives
    → (prompt : Test) (block : ℕ → ℕ) (f u : ℕ) → Led stakes genesis lives prompt block f u
    → (n t : ℕ) → T (honest n) → T (armed_in (lives n) 1) → f ≤ t → t ≤ u → Heard stakes genesis lives prompt block (lives n) t
    → Proved stakes (lives n) t (block t) × Told stakes (lives n) t (block t)

-- WATCHERS TOO: so does a watcher that looks on in good faith.
abbrev pub WatchersToo : Type 0
WatchersToo =
    (stakes : List ℕ) (genesis : ℕ → ℕ) (honest : Test) (lives : Lives) → Ring stakes genesis honest lives → OneParent honest lives
    → (prompt : Test) (block : ℕ → ℕ) (f u : ℕ) → Led stakes genesis lives prompt block f u
    → (g : ℕ) (v : Seen) → WatcherSeen stakes g v → HoldsGenuine honest (told_ballot lives) (ledger_in v) → SameParents honest lives v → T (armed_in v 1)
    → (t : ℕ) → f ≤ t → t ≤ u → Heard stakes genesis lives prompt block v t
    → Proved stakes v t (block t) × Told stakes v t (block t)

-- THE NEXT LEADER: behind slot u the next window is armed at every prompt node, and the block of slot u is a ready parent for it.
abbrev pub NextLeader : Type 0
NextLeader =
    (stakes : List ℕ) (genesis : ℕ → ℕ) (lives : Lives) (prompt : Test) (block : ℕ → ℕ) (f u : ℕ) → f ≤ u → suc u ≤ last_slot → T (is_first (suc u))
    → Led stakes genesis lives prompt block f u → (n : ℕ) → T (prompt n)
    → T (ready (ledger_in (lives n)) (suc u) u (block u)) × T (armed_in (lives n) (suc u))

-- THE FIRST WINDOW needs no ready parent but genesis: led well on it, its blocks are final at every honest node.
abbrev pub FirstWindow : Type 0
FirstWindow =
    (stakes : List ℕ) (genesis : ℕ → ℕ) (honest : Test) (lives : Lives) → Ring stakes genesis honest lives → OneParent honest lives
    → (g : ℕ) → ((n : ℕ) → T (honest n) → genesis n ≡ g) → (block : ℕ → ℕ) (u : ℕ) → LedOn stakes genesis lives honest block 0 g 1 u
    → (n t : ℕ) → T (honest n) → 1 ≤ t → t ≤ u → Proved stakes (lives n) t (block t) × Told stakes (lives n) t (block t)

-- ANY WINDOW, whatever came before: where the mail of the slots up to v is in, and honest nodes have one genesis, there is a parent that is ready at
-- every honest node for the window behind v; and where that window's slots up to u are led well on it, its blocks are final at every honest node.
abbrev pub AnyWindow : Type 0
AnyWindow =
    (stakes : List ℕ) (genesis : ℕ → ℕ) (honest : Test) (lives : Lives) → Ring stakes genesis honest lives → OneParent honest lives
    → (v : ℕ) → suc v ≤ last_slot → MailIn stakes honest lives v → (g : ℕ) → ((n : ℕ) → T (honest n) → genesis n ≡ g)
    → (p : ℕ) × (x : ℕ) × ((n : ℕ) → T (honest n) → T (ready (ledger_in (lives n)) (suc v) p x))
    × ((block : ℕ → ℕ) (u : ℕ) → LedOn stakes genesis lives honest block p x (suc v) u
    → (n t : ℕ) → T (honest n) → suc v ≤ t → t ≤ u → Proved stakes (lives n) t (block t) × Told stakes (lives n) t (block t))
