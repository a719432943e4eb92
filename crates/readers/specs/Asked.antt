-- A host's questions to a record: what is answered, and its number and values on the panel.
use Rattle.std.specs.Prelude.{not, List, [], ◌∷◌, ◌++◌, ℕ, get_or, Bool, Result, Ok, Err}
use Rattle.rulebook.specs.declared.Block.{Block}
use Rattle.rulebook.specs.declared.Cell.{Cell}
use Rattle.rulebook.specs.declared.Refusal.{Refusal}
use Rattle.rulebook.specs.declared.Refusal.TheVariants as refusal
use Rattle.rulebook.specs.Tools.{whenever, part}
use Rattle.rulebook.specs.Weights.{slot_ok}
use Rattle.rulebook.specs.Ledger.{no_block, row_at, cell_at, blocks_at, is_armed}
use Rattle.rulebook.specs.Inputs.{not_in_table}
use Rattle.rulebook.specs.PaperNumbers.{Panel, refusal_number, panel_of}
use Rattle.record.specs.Layout.{ledger_of}
use Rattle.soundness.specs.Sound.{sound_words}
use Rattle.readers.specs.declared.KeptBlocks.{KeptBlocks}
use Rattle.readers.specs.declared.SlotMarks.{SlotMarks}
use Rattle.readers.specs.declared.RecordHead.{RecordHead}

-- 17, then 3, then what is asked of the slot.
unfoldable pub on_slot : {A : Type 0} → (Refusal → A) → List ℕ → ℕ → (Unit {0} → A) → A
on_slot refused ws s asked = whenever (sound_words ws) (λ _. whenever (slot_ok s) asked (refused refusal.BadSlot)) (refused refusal.BadRecord)

-- The block reported final in the slot, 0 where there is none.
unfoldable pub final_on : List ℕ → ℕ → Result ℕ Refusal
final_on ws s = on_slot Err ws s (λ _. Ok (row_at (ledger_of ws) s).final)

-- The window of the slot is armed.
unfoldable pub armed_on : List ℕ → ℕ → Result Bool Refusal
armed_on ws s = on_slot Err ws s (λ _. Ok (is_armed (ledger_of ws) s))

-- 2 behind 17 and 3, then what the pool keeps of the node in the slot.
unfoldable pub votes_on : List ℕ → ℕ → ℕ → Result Cell Refusal
votes_on ws s n =
    on_slot Err ws s (λ _. whenever (not (not_in_table (ledger_of ws).count n)) (λ _. Ok (cell_at (ledger_of ws) s n)) (Err refusal.BadNode))

-- The slot's four places for blocks: the first announced stands in the first, and an empty place has no block.
unfoldable pub blocks_kept : List ℕ → ℕ → KeptBlocks
blocks_kept ws s =
    let ks = blocks_at (ledger_of ws) s in
    record { first = get_or ks 0 no_block; second = get_or ks 1 no_block; third = get_or ks 2 no_block; fourth = get_or ks 3 no_block }

-- The blocks that the slot keeps, each with its parent.
unfoldable pub blocks_on : List ℕ → ℕ → Result KeptBlocks Refusal
blocks_on ws s = on_slot Err ws s (λ _. Ok (blocks_kept ws s))

-- Whether the slot's timeout was taken, and whether another final block was reported in it: 1 for yes, 0 for no.
unfoldable pub marks_kept : List ℕ → ℕ → SlotMarks
marks_kept ws s = record { timedout = (row_at (ledger_of ws) s).timed_out; clash = (row_at (ledger_of ws) s).clash }

-- The marks of the slot.
unfoldable pub marks_on : List ℕ → ℕ → Result SlotMarks Refusal
marks_on ws s = on_slot Err ws s (λ _. Ok (marks_kept ws s))

-- The node's own number (a watcher has the number after the last), how many nodes its table has, all their stake, and genesis's number.
unfoldable pub head_kept : List ℕ → RecordHead
head_kept ws =
    let l = ledger_of ws in
    record { own = record { 0 = l.own }; nodes = l.count; stake = record { 0 = l.total }; genesis = l.genesis }

-- 17, then whose record it is and of which ring.
unfoldable pub head_on : List ℕ → Result RecordHead Refusal
head_on ws = whenever (sound_words ws) (λ _. Ok (head_kept ws)) (Err refusal.BadRecord)

-- The number on the panel and the block beside it, 0 beside a refusal.
unfoldable pub final_panel : Result ℕ Refusal → Panel
final_panel a = panel_of (0 ∷ []) (λ b. b ∷ []) a

-- The number, and beside it 1 where the window is armed; else, and beside a refusal, 0.
unfoldable pub armed_panel : Result Bool Refusal → Panel
armed_panel a = panel_of (0 ∷ []) (λ armed. part armed 1 ∷ []) a

-- The seven words of a cell: the initial vote as its notar block or the mark of a skip, "up to three different kind 2 blocks, one kind 4
-- and one kind 5".
abbrev pub cell_values : Cell → List ℕ
cell_values c =
    c.notar ∷ c.skip ∷ c.fallback1 ∷ c.fallback2 ∷ c.fallback3 ∷ c.skipfallback ∷ c.finalvote ∷ []

-- The number and the cell's words beside it, zeros beside a refusal.
unfoldable pub votes_panel : Result Cell Refusal → Panel
votes_panel a = panel_of (0 ∷ 0 ∷ 0 ∷ 0 ∷ 0 ∷ 0 ∷ 0 ∷ []) cell_values a

-- The three words of a block: its number, its parent's slot, its parent's number.
abbrev pub block_values : Block → List ℕ
block_values k = k.number ∷ k.parentslot.0 ∷ k.parent ∷ []

-- The twelve words of the four places.
abbrev pub kept_values : KeptBlocks → List ℕ
kept_values k = block_values k.first ++ (block_values k.second ++ (block_values k.third ++ block_values k.fourth))

-- The number and the twelve words beside it, zeros beside a refusal.
unfoldable pub blocks_panel : Result KeptBlocks Refusal → Panel
blocks_panel a = panel_of (0 ∷ 0 ∷ 0 ∷ 0 ∷ 0 ∷ 0 ∷ 0 ∷ 0 ∷ 0 ∷ 0 ∷ 0 ∷ 0 ∷ []) kept_values a

-- The two words of a slot's marks.
abbrev pub mark_values : SlotMarks → List ℕ
mark_values m = m.timedout ∷ m.clash ∷ []

-- The number and the two marks beside it, zeros beside a refusal.
unfoldable pub marks_panel : Result SlotMarks Refusal → Panel
marks_panel a = panel_of (0 ∷ 0 ∷ []) mark_values a

-- The four words of a head: own number, nodes, stake, genesis.
abbrev pub head_values : RecordHead → List ℕ
head_values h = h.own.0 ∷ h.nodes ∷ h.stake.0 ∷ h.genesis ∷ []

-- The number and the four words beside it, zeros beside a refusal.
unfoldable pub head_panel : Result RecordHead Refusal → Panel
head_panel a = panel_of (0 ∷ 0 ∷ 0 ∷ 0 ∷ []) head_values a
