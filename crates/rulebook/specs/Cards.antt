-- The tally card of a slot: which of two claims leads, what a recount gives, and what a stored vote adds.
use Rattle.std.specs.Prelude.{◌≡◌, Bool, not, ◌&&◌, ◌||◌, ℕ, ◌+◌, ◌≤◌, ◌^◌, eqb, ltb}
use Rattle.rulebook.specs.declared.Cell.{Cell}
use Rattle.rulebook.specs.declared.Tally.{Tally}
use Rattle.rulebook.specs.declared.VoteKind.{VoteKind}
use Rattle.rulebook.specs.declared.VoteKind.TheVariants as vote
use Rattle.rulebook.specs.declared.Who.TheVariants as who
use Rattle.rulebook.specs.Tools.{choose, part, lowest, largest}
use Rattle.rulebook.specs.Weights.{last_slot, stake_in}
use Rattle.rulebook.specs.Ledger.{Ledger, none, row_at, cell_at, card_of, no_card}
use Rattle.rulebook.specs.Pool.{weigh, names}

-- ---- "what a recount of the stored votes gives"

-- The notar weight of the leading block of slot s, 0 where there is no notar vote.
unfoldable pub most : Ledger → ℕ → ℕ
most l s = largest (λ b. weigh l s (who.Notar b)) (names l s)

-- Block b has notar votes, and no block has more.
unfoldable pub is_most : Ledger → ℕ → ℕ → Bool
is_most l s b = let w = weigh l s (who.Notar b) in not (none w) && eqb w (most l s)

-- "the leading notar block .., lowest number on a tie, .. 0 where there is none".
unfoldable pub leader : Ledger → ℕ → ℕ
leader l s = lowest (is_most l s) (names l s)

-- "skip weight, final weight, skip-certificate weight and the leading notar block with its weight".
unfoldable pub recount : Ledger → ℕ → Tally
recount l s = card_of (weigh l s who.Skip) (weigh l s who.Final) (weigh l s who.SkipOrFallback) (leader l s) (most l s)

-- Every slot's card is what a recount of the stored votes gives.
abbrev pub CardsAgree : Ledger → Type 0
CardsAgree l = (s : ℕ) → 1 ≤ s → s ≤ last_slot → (row_at l s).card ≡ recount l s

-- ---- "The card is changed in place when a vote is stored"

-- Block b at weight w leads block m at weight v: it weighs more, or as much and has the lower number.
unfoldable pub leads : ℕ → ℕ → ℕ → ℕ → Bool
leads b w m v = ltb v w || (eqb v w && ltb b m)

-- A card with what a vote adds to it: three sums, and the claim that leads.
unfoldable pub tallied : Tally → Tally → Tally
tallied t d =
    let new = leads d.leader d.weight.0 t.leader t.weight.0 in
    card_of (t.skip.0 + d.skip.0) (t.finals.0 + d.finals.0) (t.skipcert.0 + d.skipcert.0)
    (choose new d.leader t.leader) (choose new d.weight.0 t.weight.0)

-- What a vote adds, where c is kept of the node so far, w is its stake and v the weight of notar(b) so far. Skip and skip-fallback of
-- one node count once in the skip certificate.
unfoldable pub adds : Cell → VoteKind → ℕ → ℕ → ℕ → Tally
adds c vote.Notar b w v = card_of 0 0 0 b (v + w)
adds c vote.NotarFallback b w v = no_card
adds c vote.Skip b w v = card_of w 0 (part (none c.skipfallback) w) 0 0
adds c vote.SkipFallback b w v = card_of 0 0 (part (none c.skip) w) 0 0
adds c vote.Final b w v = card_of 0 w 0 0 0
adds c vote.Other b w v = no_card

-- What node n's vote in slot s adds.
unfoldable pub change_of : Ledger → ℕ → ℕ → VoteKind → ℕ → Tally
change_of l s n k b = adds (cell_at l s n) k b (stake_in l.stakes n) (weigh l s (who.Notar b))

-- A card whose weights are within the sizes: what the sums ask so that nothing wraps.
pub record Light (t : Tally) : Type 0 where
  pub skip : t.skip.0 ≤ 2 ^ 48
  pub finals : t.finals.0 ≤ 2 ^ 48
  pub skipcert : t.skipcert.0 ≤ 2 ^ 48

-- ---- "disagrees"

-- Two cards agree in all five words.
unfoldable pub same_card : Tally → Tally → Bool
same_card t d =
    (eqb t.skip.0 d.skip.0 && (eqb t.finals.0 d.finals.0 && eqb t.skipcert.0 d.skipcert.0))
    && (eqb t.leader d.leader && eqb t.weight.0 d.weight.0)
