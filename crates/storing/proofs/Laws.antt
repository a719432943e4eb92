-- What a sound ledger gives for storing a vote: it can be weighed, and all sums fit; and the two stores as one. Assumes nothing.
use mathlib.Core.Path.{◌≡◌, sym, ap, ◌∙◌, subst}
use mathlib.Core.List.{List}
use Prim.Native.Nat.{ℕ, ◌≤◌, ◌<◌, ◌^◌}
use native.Mathlib.Omega.{arith}
use lib.ListN.{length, set}
use lib.Seq.{get_or-set_same, set-set}
use Rattle.rulebook.specs.declared.Cell.{Cell}
use Rattle.rulebook.specs.declared.Tally.{Tally}
use Rattle.rulebook.specs.declared.VoteKind.{VoteKind}
use Rattle.rulebook.specs.declared.VoteKind.TheVariants as vote
use Rattle.rulebook.specs.declared.Who.{Who}
use Rattle.rulebook.specs.declared.Who.TheVariants as who
use Rattle.rulebook.specs.Weights.{stake_in, total_to}
use Rattle.rulebook.specs.Ledger.{Ledger, Row, no_row, row_at, cell_at, put_cell, put_card, put_vote}
use Rattle.rulebook.specs.Pool.{weigh}
use Rattle.rulebook.specs.Cards.{Light, tallied, adds, change_of}
use Rattle.rulebook.specs.Votes.{with_vote, store_vote}
use Rattle.rule_laws.proofs.ToolLaws.{sum_term}
use Rattle.record.specs.Layout.{InSlot, Placed, InTable, ledger_of}
use Rattle.record.specs.Tabled.{Tabled}
use Rattle.recounting.proofs.Using.{recount_light}
use Rattle.settling.specs.Facts.{HeadFacts}
use Rattle.settling.proofs.FactLaws.{formed, count_placed}
use Rattle.pool.specs.Weighing.{Weighing, Carded}
use Rattle.pool.proofs.HeldLaws.{weigh_light}
use Rattle.tally.proofs.Tallying.{adds_light, adds_other}
use Rattle.storing.specs.Storing.{Storing}

-- ---- a sound ledger

-- A ledger whose head is in range has a table of stakes.
pub head_tabled : (l : Ledger) → HeadFacts l → Tabled l
unfolding total_to
head_tabled l d =
    record {
      few = count_placed l d;
      sum = d.sum;
      some = omega (arith, d.staked 0 d.some, sum_term l.count 0 (stake_in l.stakes) d.some, d.sum);
      light = d.small;
    }

module _ {ws : List ℕ} {s n : ℕ} (h : Storing ws s n) where
  abbrev head : HeadFacts (ledger_of ws)
  head = (formed (ledger_of ws) h.sound.formed).head

  pub storing_weighs : Weighing ws s
  storing_weighs = record { long = h.long; slot = omega (arith, h.high); table = head_tabled (ledger_of ws) head }

  pub storing_carded : Carded ws s
  storing_carded = record { weighing = storing_weighs; later = h.low; cards = (formed (ledger_of ws) h.sound.formed).cards }

  pub storing_slot : InSlot ws s
  storing_slot = record { long = h.long; slot = omega (arith, h.high) }

  pub storing_placed : Placed ws s n
  storing_placed = record { long = h.long; slot = omega (arith, h.high); node = omega (arith, h.node, count_placed (ledger_of ws) head) }

  pub storing_stake : InTable ws n
  storing_stake = record { long = h.long; node = omega (arith, h.node, count_placed (ledger_of ws) head) }

  -- The card and what the vote adds are within the sizes.
  pub card_light : Light (row_at (ledger_of ws) s).card
  card_light =
      subst Light (sym ((formed (ledger_of ws) h.sound.formed).cards s h.low h.high))
      (recount_light (ledger_of ws) s (omega (arith, head.sum, head.small)))

  pub stake_small : stake_in (ledger_of ws).stakes n ≤ 2 ^ 48
  unfolding total_to
  stake_small = omega (arith, sum_term (ledger_of ws).count n (stake_in (ledger_of ws).stakes) h.node, head.sum, head.small)

  pub weight_small : (w : Who) → weigh (ledger_of ws) s w ≤ 2 ^ 48
  weight_small w = omega (arith, weigh_light (head_tabled (ledger_of ws) head) s w, head.small)

  pub change_light : (k : VoteKind) (b : ℕ) → Light (change_of (ledger_of ws) s n k b)
  unfolding change_of
  change_light k b =
      adds_light (cell_at (ledger_of ws) s n) k b (stake_in (ledger_of ws).stakes n) (weigh (ledger_of ws) s (who.Notar b)) stake_small

-- ---- what the vote adds, from what was read

module _ (l : Ledger) (s n : ℕ) (k : VoteKind) (b : ℕ) (c : Cell) (w v : ℕ) (e : c ≡ cell_at l s n) (f : w ≡ stake_in l.stakes n) where
  pub change_notar : v ≡ weigh l s (who.Notar b) → adds c k b w v ≡ change_of l s n k b
  unfolding change_of
  change_notar g = rw (e, f, g)

  pub change_other : (k ≡ vote.Notar → ⊥) → adds c k b w v ≡ change_of l s n k b
  unfolding change_of
  change_other g = adds_other c k b w v (weigh l s (who.Notar b)) g ∙ rw (e, f)

-- ---- the two stores

-- A cell stored and then the card is the vote stored.
cell_then_card : (l : Ledger) (s n : ℕ) (c : Cell) (t : Tally) → s < length l.rows → put_card (put_cell l s n c) s t ≡ put_vote l s n c t
cell_then_card l s n c t h =
    let r : Row = row_at l s in
    let one : Row = record { blocks = r.blocks; timed_out = r.timed_out; final = r.final; clash = r.clash; card = r.card; certificates = r.certificates; cells = set r.cells n c } in
    let e : row_at (put_cell l s n c) s ≡ one = get_or-set_same l.rows s one no_row h in
    let f : Row → Row = λ x. record { blocks = x.blocks; timed_out = x.timed_out; final = x.final; clash = x.clash; card = t; certificates = x.certificates; cells = x.cells } in
    let q : set (set l.rows s one) s (f (row_at (put_cell l s n c) s)) ≡ set l.rows s (f one) =
    ap (λ (x : Row). set (set l.rows s one) s (f x)) e ∙ set-set l.rows s one (f one) in
    λ i. record { count = l.count; total = l.total; own = l.own; genesis = l.genesis; armed = l.armed; stakes = l.stakes; rows = q i }

-- The two stores, with what the code had in hand, store the vote.
pub stored_is : (l m m' : Ledger) (s n : ℕ) (k : VoteKind) (b : ℕ) (c c' : Cell) (t u d : Tally) → s < length l.rows
    → m' ≡ put_card m s u → m ≡ put_cell l s n c' → c' ≡ with_vote c k b → c ≡ cell_at l s n → u ≡ tallied t d → t ≡ (row_at l s).card → d ≡ change_of l s n k b
    → m' ≡ store_vote l s n k b
unfolding store_vote
stored_is l m m' s n k b c c' t u d h e1 e2 e3 e4 e5 e6 e7 =
    e1 ∙ ap (λ (x : Ledger). put_card x s u) e2 ∙ cell_then_card l s n c' u h
    ∙ ap (λ (x : Cell). put_vote l s n x u) (e3 ∙ ap (λ (x : Cell). with_vote x k b) e4)
    ∙ ap (put_vote l s n (with_vote (cell_at l s n) k b)) (e5 ∙ ap (λ (x : Tally). tallied x d) e6 ∙ ap (tallied (row_at l s).card) e7)
