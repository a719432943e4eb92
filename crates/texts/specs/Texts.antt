-- What each number means, in a sentence for people.
use Rattle.std.specs.Prelude.{List, [], ◌∷◌, ℕ, eqb, ltb, Ok}
use Prim.Native.Char.{code}
use Prim.Native.String as string
use Rattle.rulebook.specs.declared.Refusal.TheVariants as refusal
use Rattle.rulebook.specs.Tools.{choose}
use Rattle.rulebook.specs.Inputs.{refuse_if}
use Rattle.rulebook.specs.Writers.{Wrote, wrote_on}

-- The bytes of a text.
abbrev pub bytes_of : string.String → List ℕ
bytes_of string.[] = []
bytes_of (string.◌∷◌ c s) = code c ∷ bytes_of s

-- 13 to 18; every other number is none.
unfoldable pub last_text : ℕ → List ℕ
last_text n =
    choose (eqb n 13) (bytes_of "A number is not shortest, or above 64 bits.")
    (choose (eqb n 14) (bytes_of "A signer is beyond the table or in both masks, or mask B is used where 0 is due.")
    (choose (eqb n 15) (bytes_of "The weight is below the threshold; a check tells beside it what is missing.")
    (choose (eqb n 16) (bytes_of "The packet is not one of the two proof forms.")
    (choose (eqb n 17) (bytes_of "No node is started; or the record has a wrong length, a field outside its range, an own number above the number of nodes, a total that is not the sum, a fallback block kept twice for one node, an own notar-fallback whose block does not reach rule D's weights, a block kept twice in a slot, a tally card that a recount of the slot's votes does not give, a kept certificate that the checker refuses or that repeats another, or an unused place that is not 0.")
    (choose (eqb n 18) (bytes_of "The certificate or proof asked for is not held.")
    (bytes_of "No refusal has this number."))))))

-- 7 to 12, and those after them.
unfoldable pub later_text : ℕ → List ℕ
later_text n =
    choose (eqb n 7) (bytes_of "That very vote, block with parent, or timeout is already kept; or a certificate of that kind, slot and block.")
    (choose (eqb n 8) (bytes_of "Another stands in its place: a second initial vote, a fourth notar-fallback, a fifth block of a slot, a kept block with another parent, another block in a kept certificate's place, a tenth certificate of kind 3.")
    (choose (eqb n 9) (bytes_of "The outbox is below 160 records; or the buffer below 32 bytes for a certificate, 64 for a proof (768 and 1,536 with more than 64 nodes), 16 for a vote message, 512 for a text like this; or a tray has fewer places for answers than votes; or a list fewer lines than there are to tell.")
    (choose (eqb n 10) (bytes_of "The timeout is for a window that is not armed.")
    (choose (eqb n 11) (bytes_of "The parent slot is not below the slot, or is slot 0 with another number than genesis.")
    (choose (eqb n 12) (bytes_of "The packet ends early, or bytes remain; or a part of a vote ends a tray; or no piece was taken before the end.")
    (last_text n))))))

-- The text of a number: 0 is done, then each refusal.
unfoldable pub refusal_text : ℕ → List ℕ
refusal_text n =
    choose (eqb n 0) (bytes_of "Done.")
    (choose (eqb n 1) (bytes_of "The stake table, the own number or genesis breaks the sizes.")
    (choose (eqb n 2) (bytes_of "The node number is not in the table.")
    (choose (eqb n 3) (bytes_of "The slot is not 1 to 16.")
    (choose (eqb n 4) (bytes_of "The kind is not 1 to 5; or, with more than 64 nodes, a certificate's is not 11 to 15; or the timeout is for a watcher.")
    (choose (eqb n 5) (bytes_of "The block is 0 where one is needed, or not 0 where none is; or a block's parent number is 0.")
    (choose (eqb n 6) (bytes_of "The vote is in the own node's name and came from outside.")
    (later_text n)))))))

-- What a buffer for a text has at least, whatever the number.
abbrev pub text_room : ℕ
text_room = 512

-- The text of a number for a buffer of so many bytes: 9 where it is too short, as for every writer.
unfoldable pub text_on : ℕ → ℕ → Wrote
text_on room n = wrote_on (refuse_if (ltb room text_room) refusal.NoRoom (Ok tt)) (refusal_text n)
