-- Setting a record up: words that are all 0, the head's words stored, the stakes as a part of the words.
use mathlib.Core.Path.{◌≡◌, refl, sym, ap, ◌∙◌}
use mathlib.Core.List.{List, [], ◌∷◌}
use mathlib.Core.Logic.{⊎_elim, inl, inr}
use Prim.Native.Nat.{ℕ, zero, suc, ◌+◌, ◌<◌, ◌≤◌}
use native.Mathlib.Omega.{arith}
use lib.ListN.{length, set, take, drop, replicate, length-set}
use lib.Seq.{get_or-set_same, get_or-set_other, get_or-take, length-take-le, sets, length-sets}
use Rattle.rulebook.specs.Weights.{last_slot, windows}
use Rattle.rulebook.specs.Ledger.{card_of, no_cell, no_block, no_kept, most_blocks, most_certificates, blank_row, places}
use Rattle.record.specs.Layout.{word_at, armed_start, stake_start, row_start, timeout_at, final_at, clash_at, card_start, block_start, kept_start, cell_start, mask_words, record_words, places_in, tabulate, block_of, kept_of, cell_of, row_of, ledger_at, ledger_of, Long, InTable}
use Rattle.record.specs.Setting.{no_ledger, put_head, put_stake}
use Rattle.record.proofs.Tables.{lt_or_gt, length_tabulate, get_d_tabulate, tabulate_same, tabulate_set, tabulate_back, part_table, sets_out, sets_in}
use Rattle.record.proofs.Places.{head_before, places_words, node_placed, same_shape}
use Rattle.record.proofs.Masks.{mask_none}
use Rattle.record.proofs.Replacing.{Apart, row_kept}

-- ---- all 0

pub zeros : (n i : ℕ) → word_at (replicate n 0) i ≡ 0
zeros zero i = refl
zeros (suc n) zero = refl
zeros (suc n) (suc i) = zeros n i

tabulate_const : {A : Type 0} (n : ℕ) (x : A) → tabulate n (λ _. x) ≡ replicate n x
unfolding tabulate
tabulate_const zero x = refl
tabulate_const (suc n) x = λ i. x ∷ tabulate_const n x i

-- A table of one and the same thing.
tabulate_all : {A : Type 0} (n : ℕ) (f : ℕ → A) (x : A) → ((i : ℕ) → f i ≡ x) → tabulate n f ≡ replicate n x
tabulate_all n f x e = tabulate_same n f (λ _. x) (λ i l. e i) ∙ tabulate_const n x

module _ (p m : ℕ) where
  cell_zeros : (s n : ℕ) → cell_of p (replicate m 0) s n ≡ no_cell
  cell_zeros s n =
      λ i. record {
        notar = zeros m (cell_start p s n) i;
        skip = zeros m (cell_start p s n + 1) i;
        fallback1 = zeros m (cell_start p s n + 2) i;
        fallback2 = zeros m (cell_start p s n + 3) i;
        fallback3 = zeros m (cell_start p s n + 4) i;
        skipfallback = zeros m (cell_start p s n + 5) i;
        finalvote = zeros m (cell_start p s n + 6) i;
      }

  block_zeros : (s n : ℕ) → block_of p (replicate m 0) s n ≡ no_block
  block_zeros s n =
      λ i. record { number = zeros m (block_start p s n) i; parentslot = record { 0 = zeros m (block_start p s n + 1) i }; parent = zeros m (block_start p s n + 2) i }

  kept_zeros : (s n : ℕ) → kept_of p (replicate m 0) s n ≡ no_kept
  kept_zeros s n =
      λ i. record {
        block = zeros m (kept_start p s n) i;
        maska = mask_none (mask_words p) (λ j. word_at (replicate m 0) (kept_start p s n + 1 + j)) (λ j. zeros m (kept_start p s n + 1 + j)) i;
        maskb = mask_none (mask_words p) (λ j. word_at (replicate m 0) (kept_start p s n + 1 + mask_words p + j)) (λ j. zeros m (kept_start p s n + 1 + mask_words p + j)) i;
      }

  row_zeros : (s : ℕ) → row_of p (replicate m 0) s ≡ blank_row p
  unfolding blank_row
  row_zeros s =
      λ i. record {
        blocks = tabulate_all most_blocks (block_of p (replicate m 0) s) no_block (block_zeros s) i;
        timed_out = zeros m (row_start p s + timeout_at) i;
        final = zeros m (row_start p s + final_at) i;
        clash = zeros m (row_start p s + clash_at) i;
        card = card_of (zeros m (card_start p s) i) (zeros m (card_start p s + 1) i) (zeros m (card_start p s + 2) i) (zeros m (card_start p s + 3) i) (zeros m (card_start p s + 4) i);
        certificates = tabulate_all most_certificates (kept_of p (replicate m 0) s) no_kept (kept_zeros s) i;
        cells = tabulate_all p (cell_of p (replicate m 0) s) no_cell (cell_zeros s) i;
      }

  -- Words that are all 0 hold a ledger with nothing in it.
  pub ledger_zeros : ledger_at p (replicate m 0) ≡ no_ledger p
  unfolding ledger_at no_ledger
  ledger_zeros =
      λ i. record {
        count = zeros m 0 i;
        total = zeros m 1 i;
        own = zeros m 2 i;
        genesis = zeros m 3 i;
        armed = tabulate_all windows (λ w. word_at (replicate m 0) (armed_start + w)) 0 (λ w. zeros m (armed_start + w)) i;
        stakes = tabulate_all p (λ n. word_at (replicate m 0) (stake_start + n)) 0 (λ n. zeros m (stake_start + n)) i;
        rows = tabulate_all (suc last_slot) (row_of p (replicate m 0)) (blank_row p) row_zeros i;
      }

-- ---- the head

head_in : (p : ℕ) (ws : List ℕ) (a b c d : ℕ) → length ws ≡ record_words p → ledger_at p (sets ws 0 (a ∷ b ∷ c ∷ d ∷ [])) ≡ put_head (ledger_at p ws) a b c d
unfolding ledger_at
head_in p ws a b c d e =
    let vs : List ℕ = a ∷ b ∷ c ∷ d ∷ [] in
    let ws' : List ℕ = sets ws 0 vs in
    let first = head_before p (suc last_slot) in
    let h : Apart ws' ws 0 4 = (λ k o. sets_out vs ws 0 k 0 o) in
    let g : (j : ℕ) → j < 4 → word_at ws' j ≡ word_at vs j = (λ j l. ap (word_at ws') {x = j} {y = 0 + j} (omega arith) ∙ sets_in vs ws 0 j 0 l (omega arith)) in
    λ i. record {
      count = g 0 (omega arith) i;
      total = g 1 (omega arith) i;
      own = g 2 (omega arith) i;
      genesis = g 3 (omega arith) i;
      armed = tabulate_same windows (λ w. word_at ws' (armed_start + w)) (λ w. word_at ws (armed_start + w)) (λ k b. h (armed_start + k) (inr (omega arith))) i;
      stakes = tabulate_same p (λ n. word_at ws' (stake_start + n)) (λ n. word_at ws (stake_start + n)) (λ k b. h (stake_start + k) (inr (omega arith))) i;
      rows = tabulate_same (suc last_slot) (row_of p ws') (row_of p ws) (λ k b. row_kept p ws' ws 0 4 h k (inr (omega (arith, head_before p k)))) i;
    }

pub head_stored : (ws : List ℕ) (a b c d : ℕ) → Long ws → ledger_of (sets ws 0 (a ∷ b ∷ c ∷ d ∷ [])) ≡ put_head (ledger_of ws) a b c d
head_stored ws a b c d e =
    let vs : List ℕ = a ∷ b ∷ c ∷ d ∷ [] in same_shape ws (sets ws 0 vs) (length-sets ws 0 vs) ∙ head_in (places_in ws) ws a b c d e

stake_in_lem : (p : ℕ) (ws : List ℕ) (n w : ℕ) → length ws ≡ record_words p → n < p → ledger_at p (set ws (stake_start + n) w) ≡ put_stake (ledger_at p ws) n w
unfolding ledger_at
stake_in_lem p ws n w e l =
    let ws' : List ℕ = set ws (stake_start + n) w in
    let first = head_before p (suc last_slot) in
    let h : Apart ws' ws (stake_start + n) (stake_start + n + 1) =
    (λ k o. get_or-set_other ws (stake_start + n) k w 0 (⊎_elim (λ q e. omega arith) (λ q e. omega arith) o)) in
    λ i. record {
      count = h 0 (inl (omega arith)) i;
      total = h 1 (inl (omega arith)) i;
      own = h 2 (inl (omega arith)) i;
      genesis = h 3 (inl (omega arith)) i;
      armed = tabulate_same windows (λ w. word_at ws' (armed_start + w)) (λ w. word_at ws (armed_start + w)) (λ k b. h (armed_start + k) (inl (omega arith))) i;
      stakes = tabulate_set p n (λ k. word_at ws (stake_start + k)) (λ k. word_at ws' (stake_start + k)) w
          (get_or-set_same ws (stake_start + n) w 0 (omega arith))
          (λ k b q. h (stake_start + k) (⊎_elim (λ o. inl (omega arith)) (λ o. inr (omega arith)) (lt_or_gt k n q))) i;
      rows = tabulate_same (suc last_slot) (row_of p ws') (row_of p ws)
          (λ k b. row_kept p ws' ws (stake_start + n) (stake_start + n + 1) h k (inr (omega (arith, head_before p k)))) i;
    }

pub stake_put : (ws : List ℕ) (n w : ℕ) → InTable ws n → ledger_of (set ws (stake_start + n) w) ≡ put_stake (ledger_of ws) n w
stake_put ws n w h =
    same_shape ws (set ws (stake_start + n) w) (length-set ws (stake_start + n) w) ∙ stake_in_lem (places_in ws) ws n w h.long (node_placed ws n h.node)

-- ---- the stakes as a part of the words

pub stakes_part : (ws : List ℕ) (m : ℕ) → Long ws → m ≤ places (ledger_of ws) → take m (drop stake_start ws) ≡ take m (ledger_of ws).stakes
unfolding ledger_at
stakes_part ws m e h =
    let p : ℕ = places_in ws in
    let few : m ≤ places_in ws = omega (arith, h, places_words (places_in ws) ws) in
    let b : m ≤ length (tabulate p (λ n. word_at ws (stake_start + n))) = omega (arith, length_tabulate p (λ n. word_at ws (stake_start + n))) in
    part_table ws 0 stake_start m (omega (arith, head_before p (suc last_slot)))
    ∙ tabulate_back (take m (tabulate p (λ n. word_at ws (stake_start + n)))) 0 (λ n. word_at ws (stake_start + n)) m (length-take-le m (tabulate p (λ n. word_at ws (stake_start + n))) b)
    (λ i l. sym (get_or-take m (tabulate p (λ n. word_at ws (stake_start + n))) i 0 l ∙ get_d_tabulate p i (λ n. word_at ws (stake_start + n)) 0 (omega arith)))
