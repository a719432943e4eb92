-- What a node's record keeps to: 17, said of the ledger; and the whole step with 17 and 9 in front.
use Rattle.std.specs.Prelude.{Bool, true, false, not, ◌&&◌, ◌||◌, List, [], ◌∷◌, ◌≡◌, ℕ, zero, suc, ◌<◌, length, get_or, eqb, leb, ltb, ⊤, Result, Ok, Err}
use Rattle.rulebook.specs.declared.Cell.{Cell}
use Rattle.rulebook.specs.declared.Block.{Block}
use Rattle.rulebook.specs.declared.Input.{Input}
use Rattle.rulebook.specs.declared.Refusal.TheVariants as refusal
use Rattle.rulebook.specs.Certificates.{Certificate, Kept}
use Rattle.rulebook.specs.Tools.{whenever, all_to}
use Rattle.rulebook.specs.Weights.{places_for, last_slot, windows, stake_in, stakes_fit, total_to}
use Rattle.rulebook.specs.Ledger.{Ledger, none, places, table_of, row_at, cell_at, own_cell, most_blocks, most_certificates, blocks_at, all_blocks, is_free, no_card, certificates_at, is_kept}
use Rattle.rulebook.specs.Pool.{place_kind, same_kind}
use Rattle.rulebook.specs.Cards.{same_card, recount}
use Rattle.rulebook.specs.Rules.{fallback_weights}
use Rattle.rulebook.specs.Inputs.{Fed, refused_with, feed, bad_parent}
use Rattle.rulebook.specs.Checker.{judge_kind}
use Rattle.rulebook.specs.Taking.{take_packet}
use Rattle.rulebook.specs.declared.Refusal.{Refusal}

-- The ledger has a row for every slot with four places for blocks and 13 for certificates, a mark for every window, and p places for
-- nodes wherever there are any.
pub record Shaped (p : ℕ) (l : Ledger) : Type 0 where
  pub armed : length l.armed ≡ windows
  pub stakes : length l.stakes ≡ p
  pub rows : length l.rows ≡ suc last_slot
  pub blocks : (s : ℕ) → s < suc last_slot → length (row_at l s).blocks ≡ most_blocks
  pub certificates : (s : ℕ) → s < suc last_slot → length (row_at l s).certificates ≡ most_certificates
  pub cells : (s : ℕ) → s < suc last_slot → length (row_at l s).cells ≡ p

-- A flag is 0 or 1.
abbrev pub flag : ℕ → Bool
flag x = leb x 1

-- Two places for blocks: the later is filled only after the earlier, and not with the same number.
unfoldable pub in_order : ℕ → ℕ → Bool
in_order x y = none y || (not (none x) && not (eqb x y))

-- A cell in range: flags, one initial vote, fallback blocks from the front and none "kept twice for one node".
unfoldable pub cell_fits : Cell → Bool
cell_fits c =
    (flag c.skip && (flag c.skipfallback && flag c.finalvote))
    && ((none c.notar || none c.skip)
    && (in_order c.fallback1 c.fallback2
    && (in_order c.fallback2 c.fallback3 && (none c.fallback3 || not (eqb c.fallback1 c.fallback3)))))

-- A cell with nothing in it.
unfoldable pub cell_blank : Cell → Bool
cell_blank c =
    (none c.notar && none c.skip)
    && ((none c.fallback1 && (none c.fallback2 && none c.fallback3))
    && (none c.skipfallback && none c.finalvote))

-- "an unused place not zero": the cells past the last node are blank.
unfoldable pub cells_fit : Ledger → ℕ → ℕ → Bool
cells_fit l s used = all_to (places l) (λ n. whenever (ltb n used) (λ _. cell_fits (cell_at l s n)) (cell_blank (cell_at l s n)))

-- A kept block has a parent that 5 and 11 let pass; where none is kept its parent is 0 too.
unfoldable pub kept_fits : Ledger → ℕ → Block → Bool
kept_fits l s b =
    whenever (not (is_free b))
    (λ _. not (none b.parent) && not (bad_parent l s b))
    (none b.parentslot.0 && none b.parent)

-- Places filled from the front, and no number twice: "a record with one kept twice in a slot is 17".
unfoldable pub blocks_apart : List Block → Bool
blocks_apart [] = true
blocks_apart (b ∷ bs) = all_blocks (λ k. in_order b.number k.number) bs && blocks_apart bs

-- The kept blocks of a slot.
unfoldable pub blocks_fit : Ledger → ℕ → List Block → Bool
blocks_fit l s bs = all_blocks (kept_fits l s) bs && blocks_apart bs

-- No block, or one that reaches rule D's weights.
unfoldable pub backs : Ledger → ℕ → ℕ → Bool
backs l s b = none b || fallback_weights l s b

-- "a node record with an own notar-fallback whose block does not reach rule D's weights by the stored votes is now 17"; "four own
-- fallbacks in a slot stay 17": there is no place for a fourth.
unfoldable pub own_fits : Ledger → ℕ → Bool
own_fits l s = let c = own_cell l s in backs l s c.fallback1 && (backs l s c.fallback2 && backs l s c.fallback3)

-- The verdict is no refusal.
unfoldable pub is_fine : Result ⊤ Refusal → Bool
is_fine (Ok tt) = true
is_fine (Err r) = false

-- A kept certificate of slot s as a certificate; which kind it is its place tells.
abbrev pub kept_in : ℕ → Kept → Certificate
kept_in s q = record { kind = 0; slot = s; block = q.block; maska = q.maska; maskb = q.maskb }

-- The test holds of every place for certificates, from place i on.
unfoldable pub each_kept : (ℕ → Kept → Bool) → ℕ → List Kept → Bool
each_kept p i [] = true
each_kept p i (q ∷ qs) = p i q && each_kept p (suc i) qs

-- "A record whose kept certificate the checker refuses .. is 17": judged as the kind of its place; where none is kept all is 0.
unfoldable pub certificate_fits : List ℕ → ℕ → ℕ → Kept → Bool
certificate_fits stakes s i q = whenever (is_kept q) (λ _. is_fine (judge_kind stakes (place_kind i) (kept_in s q))) (none q.block)

-- Two places of one kind: the later is filled only after the earlier, and not with the same block.
unfoldable pub in_turn : Kept → Kept → Bool
in_turn q r = is_kept q && not (eqb q.block r.block)

-- Place j stands after place i and keeps a certificate of its kind.
abbrev pub is_later : ℕ → ℕ → Kept → Bool
is_later i j r = is_kept r && same_kind (place_kind i) (place_kind j)

-- ".. or repeats another": what place i keeps, q, and what each later place of its kind keeps stand in turn; and so from the next place on.
unfoldable pub certificates_apart : ℕ → List Kept → Bool
certificates_apart i [] = true
certificates_apart i (q ∷ qs) =
    each_kept (λ j r. whenever (is_later i j r) (λ _. in_turn q r) true) (suc i) qs && certificates_apart (suc i) qs

-- The kept certificates of a slot.
unfoldable pub certificates_fit : List ℕ → ℕ → List Kept → Bool
certificates_fit stakes s qs = each_kept (certificate_fits stakes s) 0 qs && certificates_apart 0 qs

-- One of the slots 1 to 16.
unfoldable pub row_fits : Ledger → ℕ → Bool
row_fits l s =
    blocks_fit l s (blocks_at l s)
    && ((flag (row_at l s).timed_out && flag (row_at l s).clash)
    && (certificates_fit (table_of l) s (certificates_at l s) && (cells_fit l s l.count && own_fits l s)))

-- "A node record whose card disagrees with the recount is 17."
unfoldable pub card_fits : Ledger → ℕ → Bool
card_fits l s = same_card (row_at l s).card (recount l s)

-- A place with nothing in it.
unfoldable pub block_blank : Block → Bool
block_blank b = is_free b && (none b.parentslot.0 && none b.parent)

unfoldable pub kept_blank : Kept → Bool
kept_blank q = not (is_kept q) && none q.block

-- Row 0 is unused.
unfoldable pub row_blank : Ledger → Bool
row_blank l =
    let r = row_at l 0 in
    all_blocks block_blank r.blocks
    && ((none r.timed_out && (none r.final && none r.clash)) && (same_card r.card no_card && (each_kept (λ i q. kept_blank q) 0 r.certificates && cells_fit l 0 0)))

-- "node record of wrong length": as many places as the count asks for. Then count, own number (a node's, or the one after the last for a
-- watcher), genesis, stakes and "a total that is not the sum".
unfoldable pub head_fits : Ledger → Bool
head_fits l =
    eqb (places l) (places_for l.count)
    && ((stakes_fit l.stakes l.count && eqb (total_to l.stakes l.count) l.total)
    && ((leb l.own l.count && not (none l.genesis))
    && (all_to windows (λ w. flag (get_or l.armed w 0))
    && all_to (places l) (λ n. ltb n l.count || none (stake_in l.stakes n)))))

-- Not 17.
unfoldable pub well_formed : Ledger → Bool
well_formed l =
    whenever (head_fits l) (λ _. whenever (row_blank l) (λ _. whenever (all_to last_slot (λ i. row_fits l (suc i)))
    (λ _. all_to last_slot (λ i. card_fits l (suc i)))
    false) false) false

-- "The outbox must now hold 160 records", "three a record".
abbrev pub outbox_words : ℕ
outbox_words = 480

-- "Votes: 17, 9, ..", "Blocks: 17, 9, ..", "Timeouts: 17, 9, ..", "Look: 17, 9": an input to a node whose outbox has so many words.
unfoldable pub step : Ledger → ℕ → Input → Fed
step l room i =
    whenever (well_formed l)
    (λ _. whenever (leb outbox_words room) (λ _. feed l i) (refused_with l refusal.NoRoom))
    (refused_with l refusal.BadRecord)

-- "Order: 17, 9, checker's, 7, 8": a certificate packet for such a node.
unfoldable pub take_certificate : Ledger → ℕ → List ℕ → Fed
take_certificate l room packet =
    whenever (well_formed l)
    (λ _. whenever (leb outbox_words room) (λ _. take_packet l packet) (refused_with l refusal.NoRoom))
    (refused_with l refusal.BadRecord)
