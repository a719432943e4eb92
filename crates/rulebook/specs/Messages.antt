-- Votes as bytes: "four numbers in our seven-bit groups, namely kind, node, slot, block", read and written.
use Rattle.std.specs.Prelude.{not, List, ◌++◌, ℕ, length, ltb, ⊤, Result, Ok, Err}
use Rattle.rulebook.specs.declared.Vote.{Vote}
use Rattle.rulebook.specs.declared.Refusal.TheVariants as refusal
use Rattle.rulebook.specs.Tools.{whenever}
use Rattle.rulebook.specs.Weights.{slot_ok, count_fits}
use Rattle.rulebook.specs.PaperNumbers.{vote_kind, vote_number, refusal_of}
use Rattle.rulebook.specs.Inputs.{refuse_if, is_other, not_in_table, misfits}
use Rattle.rulebook.specs.Packets.{number_at, number_bytes}
use Rattle.rulebook.specs.Writers.{Wrote, wrote_on}
use Rattle.rulebook.specs.declared.Refusal.{Refusal}
use Rattle.rulebook.specs.declared.Unread.{Unread}

-- The vote of four numbers.
unfoldable pub vote_of : ℕ → ℕ → ℕ → ℕ → Vote
vote_of kind node slot block =
    record { kind = vote_kind kind; node = record { 0 = node }; slot = record { 0 = slot }; block = block }

-- "then 4, 3, 2, 5", the pool's own tests of a vote, and after them what is found later.
unfoldable pub vote_tests : ℕ → Vote → Result ⊤ Refusal → Result ⊤ Refusal
vote_tests count v later =
    refuse_if (is_other v.kind) refusal.BadKind
    (refuse_if (not (slot_ok v.slot.0)) refusal.BadSlot
    (refuse_if (not_in_table count v.node.0) refusal.BadNode
    (refuse_if (misfits v.kind v.block) refusal.BadBlock later)))

-- "12 and 13 as met": what follows a number that was read, or its refusal.
unfoldable pub as_read : Result (ℕ × ℕ) Unread → (ℕ → ℕ → Result Vote Refusal) → Result Vote Refusal
as_read (Ok (v, next)) f = f v next
as_read (Err e) f = Err (refusal_of e)

-- The vote where nothing is refused.
unfoldable pub read_on : Result ⊤ Refusal → Vote → Result Vote Refusal
read_on (Ok tt) v = Ok v
read_on (Err r) v = Err r

-- The four numbers are read, and `end` bytes stand in the message: "12 for leftovers last".
unfoldable pub read_to : ℕ → Vote → ℕ → ℕ → Result Vote Refusal
read_to count v next end = read_on (vote_tests count v (refuse_if (ltb next end) refusal.BadLength (Ok tt))) v

-- "Both take the node count"; one outside 1 to 2,048 "is 1, tested first".
unfoldable pub read_vote : ℕ → List ℕ → Result Vote Refusal
read_vote count bytes =
    whenever (count_fits count) (λ _.
    as_read (number_at bytes 0) (λ kind p.
    as_read (number_at bytes p) (λ node q.
    as_read (number_at bytes q) (λ slot r.
    as_read (number_at bytes r) (λ block next. read_to count (vote_of kind node slot block) next (length bytes)))))) (Err refusal.BadSizes)

-- How a vote is written.
unfoldable pub message_bytes : Vote → List ℕ
message_bytes v =
    number_bytes (vote_number v.kind) ++ (number_bytes v.node.0 ++ (number_bytes v.slot.0 ++ number_bytes v.block))

-- "The writer needs 16 bytes, or it gives 9; after that 4, 3, 2, 5."
unfoldable pub message_verdict : ℕ → ℕ → Vote → Result ⊤ Refusal
message_verdict count room v =
    refuse_if (not (count_fits count)) refusal.BadSizes (refuse_if (ltb room 16) refusal.NoRoom (vote_tests count v (Ok tt)))

unfoldable pub write_vote : ℕ → ℕ → Vote → Wrote
write_vote count room v = wrote_on (message_verdict count room v) (message_bytes v)
