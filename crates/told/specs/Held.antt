-- WHAT YOU TAKE YOU HOLD, certificates and votes, over what is seen of a life, a node's or a watcher's.
use Rattle.std.specs.Prelude.{◌≡◌, Bool, true, false, List, [], ◌∷◌, ◌⊎◌, ℕ, T, eqb, length}
use Rattle.rulebook.specs.declared.Who.{Who}
use Rattle.rulebook.specs.declared.Who.TheVariants as who
use Rattle.rulebook.specs.PaperNumbers.{vote_number, kind_in}
use Rattle.rulebook.specs.Ledger.{cell_at}
use Rattle.rulebook.specs.Pool.{counts}
use Rattle.rulebook.specs.Checker.{check_certificate}
use Rattle.safety.specs.Slot.{Ballot, notar, notar_fallback, skip, skip_fallback, final}
use Rattle.safety.specs.Ballots.{kind_of, block_of}
use Rattle.answers.specs.Face.{vote_input, Stepped, Taken, Checked}
use Rattle.seen.specs.Seen.{Seen, ledger_in, Alive}
use Rattle.seen.specs.Progress.{Gives}
use Rattle.calls.specs.Operation.{one_input, a_packet}
use Rattle.calls.specs.Life.{next, Calls}

-- Where qr_take answers 0 or 7 to a packet of which qr_check_certificate names kind, slot and block, with the life's table: from then on, after whatever
-- further calls, the certificate of that kind, slot and block is held, which is all that rules and writers ask, and its writer, asked for it with room,
-- answers 0.
abbrev pub TakenIsHeld : Type 0
TakenIsHeld =
    (stakes : List ℕ) (genesis : ℕ) (v : Seen) → Alive stakes genesis v
    → (packet : List ℕ) (kind slot block signers weight missing : ℕ)
    → Checked (length stakes) (check_certificate stakes packet) 0 (kind ∷ slot ∷ block ∷ signers ∷ weight ∷ []) missing
    → (lent : List ℕ) (number made : ℕ) (words left : List ℕ) → Taken v.words lent packet number made words left → (number ≡ 0) ⊎ (number ≡ 7)
    → (w : Seen) → Calls (next v (a_packet packet) lent made words left) w → Gives stakes w (kind_in (length stakes) kind) slot block

-- ---- votes

-- The weights of a slot that a vote belongs to: a notar vote those for its block and that of all notar votes, a notar-fallback that of votes and fallbacks for
-- its block, a skip both weights of skips, a skip-fallback the one with fallbacks, a final vote that of final votes.
unfoldable pub belongs : Ballot → Who → Bool
belongs (notar b) (who.Notar x) = eqb b x
belongs (notar b) (who.NotarOrFallback x) = eqb b x
belongs (notar b) who.Skip = false
belongs (notar b) who.SkipOrFallback = false
belongs (notar b) who.Final = false
belongs (notar b) who.AnyNotar = true
belongs (notar_fallback b) (who.Notar x) = false
belongs (notar_fallback b) (who.NotarOrFallback x) = eqb b x
belongs (notar_fallback b) who.Skip = false
belongs (notar_fallback b) who.SkipOrFallback = false
belongs (notar_fallback b) who.Final = false
belongs (notar_fallback b) who.AnyNotar = false
belongs skip (who.Notar x) = false
belongs skip (who.NotarOrFallback x) = false
belongs skip who.Skip = true
belongs skip who.SkipOrFallback = true
belongs skip who.Final = false
belongs skip who.AnyNotar = false
belongs skip_fallback (who.Notar x) = false
belongs skip_fallback (who.NotarOrFallback x) = false
belongs skip_fallback who.Skip = false
belongs skip_fallback who.SkipOrFallback = true
belongs skip_fallback who.Final = false
belongs skip_fallback who.AnyNotar = false
belongs final (who.Notar x) = false
belongs final (who.NotarOrFallback x) = false
belongs final who.Skip = false
belongs final who.SkipOrFallback = false
belongs final who.Final = true
belongs final who.AnyNotar = false

-- From v to u a vote of a node for a slot was stored. In no other slot has the node another vote than before, so that none of their weights has its stake
-- through this vote; and after whatever further calls the node's stake is in every weight of the slot that the vote belongs to: the weights are sums over
-- the nodes whose cells count (`weigh`).
pub record CountedOn (v u : Seen) (b : Ballot) (node slot : ℕ) : Type 0 where
  pub elsewhere : (t : ℕ) → ¬ (t ≡ slot) → cell_at (ledger_in u) t node ≡ cell_at (ledger_in v) t node
  pub here : (w : Seen) → Calls u w → (x : Who) → T (belongs b x) → T (counts x (cell_at (ledger_in w) slot node))

-- Where qr_vote answers 0, it is.
abbrev pub VoteIsCounted : Type 0
VoteIsCounted =
    (stakes : List ℕ) (genesis : ℕ) (v : Seen) → Alive stakes genesis v
    → (b : Ballot) (node slot : ℕ) (lent : List ℕ) (made : ℕ) (words left : List ℕ)
    → let i = vote_input (vote_number (kind_of b)) node slot (block_of b) in Stepped v.words lent i 0 made words left
    → CountedOn v (next v (one_input i) lent made words left) b node slot
