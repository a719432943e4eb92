-- Words and ledgers in step: the meaning of the spelling is the ledger, and for words of 64 bits the spelling of the meaning is the words.
use mathlib.Core.Path.{◌≡◌, refl, sym, ap, ◌∙◌, subst}
use mathlib.Core.Bool.{true, false}
use mathlib.Core.List.{List, [], ◌∷◌, ◌++◌, map}
use Prim.Native.Nat.{ℕ, zero, suc, ◌+◌, ◌*◌, ◌<◌}
use native.Mathlib.Omega.{arith}
use native.Mathlib.Nat.{zero-add, suc-add, zero-mul, add-zero, mul_comm, mul-suc, mul-le-mul_left, not-suc-le-zero, le_of_suc-le-suc}
use lib.ListN.{length, get_or, length-append, length-map, get_or-append}
use lib.Seq.{get_or-append-add}
use lib.Dec.{eqb}
use borrow.Author.Tests.{eqb-true, eq-eqb}
use Rattle.rulebook.specs.declared.VoteKind.{VoteKind}
use Rattle.rulebook.specs.Weights.{last_slot, windows}
use Rattle.rulebook.specs.Certificates.{Kept}
use Rattle.rulebook.specs.Packets as packets
use Rattle.rulebook.specs.Ledger.{Ledger, Row, card_of, no_row, no_cell, no_block, no_kept, most_blocks, most_certificates, places, row_at, blocks_at, certificates_at, put_row}
use Rattle.rulebook.specs.Votes.{store_vote}
use Rattle.rulebook.specs.WellFormed.{Shaped}
use Rattle.rule_laws.proofs.ToolLaws.{and_both, both_and, true_not_false, same_test}
use Rattle.rule_laws.proofs.WordLaws.{Words}
use Rattle.record.specs.Layout.{word_at, armed_start, stake_start, head_words, block_words, mask_words, kept_words, cell_words, timeout_at, card_at, card_words, card_start, row_words, row_start, block_start, kept_start, cell_start, record_words, places_in, tabulate, block_from, block_of, kept_from, kept_of, cell_from, cell_of, row_of, ledger_at, ledger_of, Long}
use Rattle.record.specs.Spelling.{joined, spell_cell, spell_block, spell_mask, spell_kept, spell_marks, spell_row, words_of, same_words, is_spelled}
use Rattle.record.proofs.Tables.{length_tabulate, tabulate_same, tabulate_get_d, tabulate_back}
use Rattle.record.proofs.Places.{mask_some, places_back, same_places, places_words}
use Rattle.record.proofs.Masks.{mask_long, mask_meant, mask_spelled}
use Rattle.record.proofs.Reading.{ledger_shaped}
use Rattle.record.proofs.Replacing.{row_other}

-- ---- tables cut into parts

module _ {A : Type 0} where
  tabulate_add : (a b : ℕ) (f : ℕ → A) → tabulate (a + b) f ≡ tabulate a f ++ tabulate b (λ j. f (a + j))
  unfolding tabulate
  tabulate_add zero b f = rw zero-add (tabulate_same b f (λ j. f (0 + j)) (λ j l. ap f (omega arith)))
  tabulate_add (suc a) b f =
      rw suc-add
      (λ i. f zero
      ∷ (tabulate_add a b (λ k. f (suc k))
      ∙ ap (λ t. tabulate a (λ k. f (suc k)) ++ t) (tabulate_same b (λ j. f (suc (a + j))) (λ j. f (suc a + j)) (λ j l. ap f (omega arith)))) i)

  -- A table of n is one of a and then one of b.
  tabulate_split : (n a b : ℕ) (f : ℕ → A) → n ≡ a + b → tabulate n f ≡ tabulate a f ++ tabulate b (λ j. f (a + j))
  tabulate_split n a b f e = ap (λ k. tabulate k f) e ∙ tabulate_add a b f

tabulate_mul : (n k : ℕ) (f : ℕ → ℕ) → tabulate (n * k) f ≡ joined (tabulate n (λ s. tabulate k (λ j. f (k * s + j))))
unfolding tabulate joined
tabulate_mul zero k f = rw zero-mul refl
tabulate_mul (suc n) k f =
    tabulate_split (suc n * k) k (n * k) f (omega arith)
    ∙ (λ i. tabulate_same k f (λ j. f (k * 0 + j)) (λ j l. ap f (omega arith)) i
    ++ (tabulate_mul n k (λ j. f (k + j))
    ∙ ap joined
    (tabulate_same n (λ s. tabulate k (λ j. f (k + (k * s + j)))) (λ s. tabulate k (λ j. f (k * suc s + j)))
    (λ s l. tabulate_same k (λ j. f (k + (k * s + j))) (λ j. f (k * suc s + j)) (λ j m. ap f (omega arith))))) i)

-- A table of n times k is n tables of k.
tabulate_rows : (N n k : ℕ) (f : ℕ → ℕ) → N ≡ n * k → tabulate N f ≡ joined (tabulate n (λ s. tabulate k (λ j. f (k * s + j))))
tabulate_rows N n k f e = ap (λ m. tabulate m f) e ∙ tabulate_mul n k f

tabulate_map : {A B : Type 0} (g : A → B) (n : ℕ) (f : ℕ → A) → map g (tabulate n f) ≡ tabulate n (λ k. g (f k))
unfolding tabulate
tabulate_map g zero f = refl
tabulate_map g (suc n) f = λ i. g (f zero) ∷ tabulate_map g n (λ k. f (suc k)) i

-- ---- the spelling of the meaning

module _ (p : ℕ) (ws : List ℕ) where
  cell_spelled : (at : ℕ) → spell_cell (cell_from ws at) ≡ tabulate cell_words (λ j. word_at ws (at + j))
  unfolding tabulate
  cell_spelled at =
      let z : at ≡ at + 0 = omega arith in
      λ i. word_at ws (z i) ∷ word_at ws (at + 1) ∷ word_at ws (at + 2) ∷ word_at ws (at + 3) ∷ word_at ws (at + 4) ∷ word_at ws (at + 5) ∷ word_at ws (at + 6) ∷ []

  block_spelled : (at : ℕ) → spell_block (block_from ws at) ≡ tabulate block_words (λ j. word_at ws (at + j))
  unfolding tabulate
  block_spelled at = let z : at ≡ at + 0 = omega arith in λ i. word_at ws (z i) ∷ word_at ws (at + 1) ∷ word_at ws (at + 2) ∷ []

  blocks_spelled : (s : ℕ) → map spell_block (tabulate most_blocks (block_of p ws s)) ≡ tabulate most_blocks (λ n. tabulate block_words (λ j. word_at ws (row_start p s + (block_words * n + j))))
  blocks_spelled s =
      tabulate_map spell_block most_blocks (block_of p ws s)
      ∙ tabulate_same most_blocks (λ n. spell_block (block_of p ws s n)) (λ n. tabulate block_words (λ j. word_at ws (row_start p s + (block_words * n + j))))
      (λ n l. block_spelled (block_start p s n)
      ∙ tabulate_same block_words (λ j. word_at ws (block_start p s n + j)) (λ j. word_at ws (row_start p s + (block_words * n + j))) (λ j m. ap (word_at ws) (omega arith)))

  marks_spelled : (s : ℕ) → spell_marks (row_of p ws s) ≡ tabulate 8 (λ j. word_at ws (row_start p s + (timeout_at + j)))
  unfolding tabulate
  marks_spelled s =
      let w : (j : ℕ) → word_at ws (card_start p s + j) ≡ word_at ws (row_start p s + (card_at + j)) = (λ j. let e : card_start p s + j ≡ row_start p s + (card_at + j) = omega arith in ap (word_at ws) e) in
      let r = row_of p ws s in
      λ i. r.timed_out ∷ r.final ∷ r.clash ∷ r.card.skip.0 ∷ w 1 i ∷ w 2 i ∷ w 3 i ∷ w 4 i ∷ []

  cells_spelled : (s : ℕ) → map spell_cell (tabulate p (cell_of p ws s)) ≡ tabulate p (λ n. tabulate cell_words (λ j. word_at ws (row_start p s + (timeout_at + (8 + (most_certificates * kept_words p + (cell_words * n + j)))))))
  cells_spelled s =
      tabulate_map spell_cell p (cell_of p ws s)
      ∙ tabulate_same p (λ n. spell_cell (cell_of p ws s n)) (λ n. tabulate cell_words (λ j. word_at ws (row_start p s + (timeout_at + (8 + (most_certificates * kept_words p + (cell_words * n + j)))))))
      (λ n l. cell_spelled (cell_start p s n)
      ∙ tabulate_same cell_words (λ j. word_at ws (cell_start p s n + j)) (λ j. word_at ws (row_start p s + (timeout_at + (8 + (most_certificates * kept_words p + (cell_words * n + j)))))) (λ j m. ap (word_at ws) (omega arith)))

-- With masks, for words of 64 bits.
module _ (p : ℕ) (ws : List ℕ) (fits : Words ws) where
  kept_spelled : (w at : ℕ) → spell_kept w (kept_from w ws at) ≡ tabulate (1 + 2 * w) (λ j. word_at ws (at + j))
  unfolding tabulate
  kept_spelled w at =
      let mask : (k b : ℕ) → at + k ≡ b → spell_mask w (packets.joined (tabulate w (λ j. word_at ws (b + j)))) ≡ tabulate w (λ j. word_at ws (at + (k + j))) =
      (λ k b e. mask_spelled w (λ j. word_at ws (b + j)) (λ j. fits (b + j))
      ∙ tabulate_same w (λ j. word_at ws (b + j)) (λ j. word_at ws (at + (k + j))) (λ j l. ap (word_at ws) (omega arith))) in
      let z : at + 0 ≡ at = omega arith in
      sym
      (tabulate_split (1 + 2 * w) 1 (w + w) (λ j. word_at ws (at + j)) (omega arith)
      ∙ (λ i. word_at ws (z i)
      ∷ (tabulate_split (w + w) w w (λ j. word_at ws (at + (1 + j))) refl
      ∙ (λ k. sym (mask 1 (at + 1) refl) k
      ++ (tabulate_same w (λ j. word_at ws (at + (1 + (w + j)))) (λ j. word_at ws (at + (1 + w + j))) (λ j l. ap (word_at ws) (omega arith)) ∙ sym (mask (1 + w) (at + 1 + w) (omega arith))) k)) i))

  kepts_spelled : (s : ℕ) → map (spell_kept (mask_words p)) (tabulate most_certificates (kept_of p ws s)) ≡ tabulate most_certificates (λ n. tabulate (kept_words p) (λ j. word_at ws (row_start p s + (timeout_at + (8 + (kept_words p * n + j))))))
  unfolding kept_start
  kepts_spelled s =
      tabulate_map (spell_kept (mask_words p)) most_certificates (kept_of p ws s)
      ∙ tabulate_same most_certificates (λ n. spell_kept (mask_words p) (kept_of p ws s n)) (λ n. tabulate (kept_words p) (λ j. word_at ws (row_start p s + (timeout_at + (8 + (kept_words p * n + j))))))
      (λ n l. kept_spelled (mask_words p) (kept_start p s n)
      ∙ tabulate_same (kept_words p) (λ j. word_at ws (kept_start p s n + j)) (λ j. word_at ws (row_start p s + (timeout_at + (8 + (kept_words p * n + j))))) (λ j m. ap (word_at ws) (omega arith)))

  row_spelled : (s : ℕ) → spell_row (mask_words p) (row_of p ws s) ≡ tabulate (row_words p) (λ j. word_at ws (row_start p s + j))
  row_spelled s =
      let f : ℕ → ℕ = (λ j. word_at ws (row_start p s + j)) in
      let kept = most_certificates * kept_words p in
      let cells = cell_words * p in
      sym
      (tabulate_split (row_words p) timeout_at (8 + (kept + cells)) f (omega arith)
      ∙ (λ i. (tabulate_rows timeout_at most_blocks block_words f refl ∙ ap joined (sym (blocks_spelled p ws s))) i
      ++ (tabulate_split (8 + (kept + cells)) 8 (kept + cells) (λ j. f (timeout_at + j)) refl
      ∙ (λ k. sym (marks_spelled p ws s) k
      ++ (tabulate_split (kept + cells) kept cells (λ j. f (timeout_at + (8 + j))) refl
      ∙ (λ m. (tabulate_rows kept most_certificates (kept_words p) (λ j. f (timeout_at + (8 + j))) refl ∙ ap joined (sym (kepts_spelled s))) m
      ++ (tabulate_rows cells p cell_words (λ j. f (timeout_at + (8 + (kept + j)))) (mul_comm cell_words p) ∙ ap joined (sym (cells_spelled p ws s))) m)) k)) i))

  rows_spelled : map (spell_row (mask_words p)) (tabulate (suc last_slot) (row_of p ws)) ≡ tabulate (suc last_slot) (λ s. tabulate (row_words p) (λ j. word_at ws (head_words p + (row_words p * s + j))))
  unfolding row_start
  rows_spelled =
      tabulate_map (spell_row (mask_words p)) (suc last_slot) (row_of p ws)
      ∙ tabulate_same (suc last_slot) (λ s. spell_row (mask_words p) (row_of p ws s)) (λ s. tabulate (row_words p) (λ j. word_at ws (head_words p + (row_words p * s + j))))
      (λ s l. row_spelled s ∙ tabulate_same (row_words p) (λ j. word_at ws (row_start p s + j)) (λ j. word_at ws (head_words p + (row_words p * s + j))) (λ j m. ap (word_at ws) (omega arith)))

  four : tabulate armed_start (λ j. word_at ws j) ≡ word_at ws 0 ∷ word_at ws 1 ∷ word_at ws 2 ∷ word_at ws 3 ∷ []
  unfolding tabulate
  four = refl

  spelling : length ws ≡ record_words p → words_of (ledger_at p ws) ≡ ws
  unfolding ledger_at words_of row_start
  spelling e =
      sym
      (tabulate_get_d ws 0
      ∙ tabulate_split (length ws) armed_start (windows + (p + row_words p * suc last_slot)) (λ j. word_at ws j) (e ∙ omega arith)
      ∙ (λ i. four i
      ++ (tabulate_split (windows + (p + row_words p * suc last_slot)) windows (p + row_words p * suc last_slot) (λ j. word_at ws (armed_start + j)) refl
      ∙ (λ k. tabulate windows (λ j. word_at ws (armed_start + j))
      ++ (tabulate_split (p + row_words p * suc last_slot) p (row_words p * suc last_slot) (λ j. word_at ws (armed_start + (windows + j))) refl
      ∙ (λ m. stakes m
      ++ (tabulate_rows (row_words p * suc last_slot) (suc last_slot) (row_words p) (λ j. word_at ws (armed_start + (windows + (p + j)))) (mul_comm (row_words p) (suc last_slot)) ∙ ap joined (rows ∙ sized)) m)) k)) i))
    where
      stakes : tabulate p (λ j. word_at ws (armed_start + (windows + j))) ≡ tabulate p (λ j. word_at ws (stake_start + j))
      stakes = tabulate_same p (λ j. word_at ws (armed_start + (windows + j))) (λ j. word_at ws (stake_start + j)) (λ j l. ap (word_at ws) (omega arith))

      rows : tabulate (suc last_slot) (λ s. tabulate (row_words p) (λ j. word_at ws (armed_start + (windows + (p + (row_words p * s + j)))))) ≡ map (spell_row (mask_words p)) (tabulate (suc last_slot) (row_of p ws))
      rows =
          tabulate_same (suc last_slot) (λ s. tabulate (row_words p) (λ j. word_at ws (armed_start + (windows + (p + (row_words p * s + j)))))) (λ s. tabulate (row_words p) (λ j. word_at ws (head_words p + (row_words p * s + j))))
          (λ s l. tabulate_same (row_words p) (λ j. word_at ws (armed_start + (windows + (p + (row_words p * s + j))))) (λ j. word_at ws (head_words p + (row_words p * s + j))) (λ j m. ap (word_at ws) (omega arith)))
          ∙ sym rows_spelled

      sized : map (spell_row (mask_words p)) (tabulate (suc last_slot) (row_of p ws)) ≡ map (spell_row (mask_words (length (tabulate p (λ n. word_at ws (stake_start + n)))))) (tabulate (suc last_slot) (row_of p ws))
      sized = ap (λ (k : ℕ). map (spell_row (mask_words k)) (tabulate (suc last_slot) (row_of p ws))) (sym (length_tabulate p (λ n. word_at ws (stake_start + n))))

-- For words of 64 bits and of the right length the spelling of the meaning is those words.
words_ledger : (ws : List ℕ) → Words ws → Long ws → words_of (ledger_of ws) ≡ ws
words_ledger ws f e = spelling (places_in ws) ws f e

-- ---- the meaning of the spelling

-- In lists of one length k joined, word j of list s.
joined_at : (k : ℕ) (xss : List (List ℕ)) (s j : ℕ) → ((i : ℕ) → i < length xss → length (get_or xss i []) ≡ k) → s < length xss → j < k
    → word_at (joined xss) (k * s + j) ≡ word_at (get_or xss s []) j
unfolding joined
joined_at k [] s j e h l = absurd (not-suc-le-zero h)
joined_at k (x ∷ xs) zero j e h l =
    let q : length x ≡ k = e 0 (omega arith) in
    let z : k * 0 + j ≡ j = omega arith in
    ap (word_at (x ++ joined xs)) z ∙ get_or-append x (joined xs) 0 j (omega arith)
joined_at k (x ∷ xs) (suc s) j e h l =
    let q : length x ≡ k = e 0 (omega arith) in
    let z : k * suc s + j ≡ length x + (k * s + j) = omega arith in
    ap (word_at (x ++ joined xs)) z
    ∙ get_or-append-add x (joined xs) (k * s + j) 0
    ∙ joined_at k xs s j (λ i m. e (suc i) (omega arith)) (le_of_suc-le-suc h) l

joined_long : (k : ℕ) (xss : List (List ℕ)) → ((i : ℕ) → i < length xss → length (get_or xss i []) ≡ k) → length (joined xss) ≡ k * length xss
unfolding joined
joined_long k [] e = omega arith
joined_long k (x ∷ xs) e =
    length-append x (joined xs) ∙ omega (arith, e 0 (omega arith), joined_long k xs (λ i m. e (suc i) (omega arith)))

map_at : {A : Type 0} (g : A → List ℕ) (xs : List A) (i : ℕ) (d : A) → i < length xs → get_or (map g xs) i [] ≡ g (get_or xs i d)
map_at g [] i d h = absurd (not-suc-le-zero h)
map_at g (x ∷ xs) zero d h = refl
map_at g (x ∷ xs) (suc i) d h = map_at g xs i d (le_of_suc-le-suc h)

-- Spelled parts of one length.
map_long : {A : Type 0} (g : A → List ℕ) (k : ℕ) (xs : List A) (d : A) → ((i : ℕ) → i < length xs → length (g (get_or xs i d)) ≡ k)
    → (i : ℕ) → i < length (map g xs) → length (get_or (map g xs) i []) ≡ k
map_long g k xs d e i h =
    let l : i < length xs = omega (arith, length-map xs g) in
    ap length (map_at g xs i d l) ∙ e i l

-- Parts of one length spelled one after the other: how many words, and word j of part n.
parts_long : {A : Type 0} (g : A → List ℕ) (k : ℕ) (xs : List A) (d : A) → ((i : ℕ) → i < length xs → length (g (get_or xs i d)) ≡ k) → length (joined (map g xs)) ≡ k * length xs
parts_long g k xs d e = joined_long k (map g xs) (map_long g k xs d e) ∙ ap (λ (m : ℕ). k * m) (length-map xs g)

parts_at : {A : Type 0} (g : A → List ℕ) (k : ℕ) (xs : List A) (d : A) (n j : ℕ) → ((i : ℕ) → i < length xs → length (g (get_or xs i d)) ≡ k) → n < length xs → j < k
    → word_at (joined (map g xs)) (k * n + j) ≡ word_at (g (get_or xs n d)) j
parts_at g k xs d n j e h l =
    joined_at k (map g xs) n j (map_long g k xs d e) (omega (arith, length-map xs g)) l
    ∙ ap (λ (x : List ℕ). word_at x j) (map_at g xs n d h)

-- A kept certificate's words: as many, its block, its masks.
module _ (w : ℕ) (q : Kept) where
  kept_long : length (spell_kept w q) ≡ 1 + 2 * w
  kept_long = ap suc (length-append (spell_mask w q.maska) (spell_mask w q.maskb)) ∙ omega (arith, mask_long w q.maska, mask_long w q.maskb)

  mask_a_at : (j : ℕ) → j < w → word_at (spell_kept w q) (suc j) ≡ word_at (spell_mask w q.maska) j
  mask_a_at j h = get_or-append (spell_mask w q.maska) (spell_mask w q.maskb) 0 j (omega (arith, mask_long w q.maska))

  mask_b_at : (j : ℕ) → word_at (spell_kept w q) (suc (w + j)) ≡ word_at (spell_mask w q.maskb) j
  mask_b_at j =
      ap (λ (k : ℕ). word_at (spell_kept w q) (suc (k + j))) (sym (mask_long w q.maska))
      ∙ get_or-append-add (spell_mask w q.maska) (spell_mask w q.maskb) j 0

module _ (w : ℕ) (r : Row) (four : length r.blocks ≡ most_blocks) (thirteen : length r.certificates ≡ most_certificates) where
  abbrev blocks : List ℕ
  blocks = joined (map spell_block r.blocks)

  abbrev kepts : List ℕ
  kepts = joined (map (spell_kept w) r.certificates)

  abbrev cells : List ℕ
  cells = joined (map spell_cell r.cells)

  blocks_long : length blocks ≡ timeout_at
  blocks_long = parts_long spell_block block_words r.blocks no_block (λ i h. refl) ∙ ap (λ (k : ℕ). block_words * k) four

  kepts_long : length kepts ≡ most_certificates * (1 + 2 * w)
  kepts_long =
      parts_long (spell_kept w) (1 + 2 * w) r.certificates no_kept (λ i h. kept_long w (get_or r.certificates i no_kept))
      ∙ ap (λ (k : ℕ). (1 + 2 * w) * k) thirteen
      ∙ mul_comm (1 + 2 * w) most_certificates

  row_long : (p : ℕ) → w ≡ mask_words p → length r.cells ≡ p → length (spell_row w r) ≡ row_words p
  row_long p e k =
      omega (
        arith,
        e,
        length-append blocks (spell_marks r ++ (kepts ++ cells)),
        length-append (spell_marks r) (kepts ++ cells),
        length-append kepts cells,
        blocks_long,
        kepts_long,
        parts_long spell_cell cell_words r.cells no_cell (λ i h. refl),
      )

  -- A word of a row's spelling: of a block, of the marks, of a kept certificate, of a cell.
  row_block : (n j : ℕ) → n < most_blocks → j < block_words → word_at (spell_row w r) (block_words * n + j) ≡ word_at (spell_block (get_or r.blocks n no_block)) j
  row_block n j h l =
      get_or-append blocks (spell_marks r ++ (kepts ++ cells)) 0 (block_words * n + j) (omega (arith, blocks_long))
      ∙ parts_at spell_block block_words r.blocks no_block n j (λ i h. refl) (omega (arith, four)) l

  behind_blocks : (j : ℕ) → word_at (spell_row w r) (timeout_at + j) ≡ word_at (spell_marks r ++ (kepts ++ cells)) j
  behind_blocks j =
      ap (λ (k : ℕ). word_at (spell_row w r) (k + j)) (sym blocks_long) ∙ get_or-append-add blocks (spell_marks r ++ (kepts ++ cells)) j 0

  row_mark : (j : ℕ) → j < 8 → word_at (spell_row w r) (timeout_at + j) ≡ word_at (spell_marks r) j
  row_mark j h = behind_blocks j ∙ get_or-append (spell_marks r) (kepts ++ cells) 0 j h

  behind_marks : (j : ℕ) → word_at (spell_row w r) (timeout_at + (8 + j)) ≡ word_at (kepts ++ cells) j
  behind_marks j = behind_blocks (8 + j) ∙ get_or-append-add (spell_marks r) (kepts ++ cells) j 0

  row_kept : (n j : ℕ) → n < most_certificates → j < 1 + 2 * w → word_at (spell_row w r) (timeout_at + (8 + ((1 + 2 * w) * n + j))) ≡ word_at (spell_kept w (get_or r.certificates n no_kept)) j
  row_kept n j h l =
      behind_marks ((1 + 2 * w) * n + j)
      ∙ get_or-append kepts cells 0 ((1 + 2 * w) * n + j) (omega (arith, kepts_long, mul-le-mul_left (1 + 2 * w) h, mul-suc (1 + 2 * w) n))
      ∙ parts_at (spell_kept w) (1 + 2 * w) r.certificates no_kept n j (λ i h. kept_long w (get_or r.certificates i no_kept)) (omega (arith, thirteen)) l

  row_cell : (n j : ℕ) → n < length r.cells → j < cell_words → word_at (spell_row w r) (timeout_at + (8 + (most_certificates * (1 + 2 * w) + (cell_words * n + j)))) ≡ word_at (spell_cell (get_or r.cells n no_cell)) j
  row_cell n j h l =
      behind_marks (most_certificates * (1 + 2 * w) + (cell_words * n + j))
      ∙ ap (λ (k : ℕ). word_at (kepts ++ cells) (k + (cell_words * n + j))) (sym kepts_long)
      ∙ get_or-append-add kepts cells (cell_words * n + j) 0
      ∙ parts_at spell_cell cell_words r.cells no_cell n j (λ i h. refl) h l

module _ (l : Ledger) (w : Shaped (places l) l) where
  abbrev p : ℕ
  p = places l

  abbrev spell_it : Row → List ℕ
  spell_it = spell_row (mask_words p)

  abbrev front : List ℕ
  front = l.count ∷ l.total ∷ l.own ∷ l.genesis ∷ []

  abbrev rows : List ℕ
  rows = joined (map spell_it l.rows)

  rows_long : (i : ℕ) → i < length (map spell_it l.rows) → length (get_or (map spell_it l.rows) i []) ≡ row_words p
  rows_long =
      map_long spell_it (row_words p) l.rows no_row
      (λ i h. row_long (mask_words p) (get_or l.rows i no_row) (w.blocks i (omega (arith, w.rows))) (w.certificates i (omega (arith, w.rows))) p refl
      (w.cells i (omega (arith, w.rows))))

  rows_all : length rows ≡ row_words p * suc last_slot
  rows_all = joined_long (row_words p) (map spell_it l.rows) rows_long ∙ ap (λ (k : ℕ). row_words p * k) (length-map l.rows spell_it ∙ w.rows)

  all_words : length (words_of l) ≡ record_words p
  unfolding words_of row_start
  all_words = omega (arith, length-append l.armed (l.stakes ++ rows), length-append l.stakes rows, rows_all, w.armed)

  armed_spelled : (k : ℕ) → k < windows → word_at (words_of l) (armed_start + k) ≡ get_or l.armed k 0
  unfolding words_of
  armed_spelled k h =
      get_or-append-add front (l.armed ++ (l.stakes ++ rows)) k 0 ∙ get_or-append l.armed (l.stakes ++ rows) 0 k (omega (arith, w.armed))

  after_armed : (k : ℕ) → word_at (words_of l) (stake_start + k) ≡ word_at (l.stakes ++ rows) k
  unfolding words_of
  after_armed k =
      let z : stake_start + k ≡ armed_start + (length l.armed + k) = omega (arith, w.armed) in
      ap (word_at (words_of l)) z
      ∙ get_or-append-add front (l.armed ++ (l.stakes ++ rows)) (length l.armed + k) 0
      ∙ get_or-append-add l.armed (l.stakes ++ rows) k 0

  stake_spelled : (k : ℕ) → k < p → word_at (words_of l) (stake_start + k) ≡ get_or l.stakes k 0
  stake_spelled k h = after_armed k ∙ get_or-append l.stakes rows 0 k h

  row_word : (s j : ℕ) → s < suc last_slot → j < row_words p → word_at (words_of l) (row_start p s + j) ≡ word_at (spell_it (row_at l s)) j
  unfolding row_start
  row_word s j h m =
      let z : row_start p s + j ≡ stake_start + (length l.stakes + (row_words p * s + j)) = omega arith in
      ap (word_at (words_of l)) z
      ∙ after_armed (length l.stakes + (row_words p * s + j))
      ∙ get_or-append-add l.stakes rows (row_words p * s + j) 0
      ∙ joined_at (row_words p) (map spell_it l.rows) s j rows_long (omega (arith, length-map l.rows spell_it, w.rows)) m
      ∙ ap (λ x. word_at x j) (map_at spell_it l.rows s no_row (omega (arith, w.rows)))

  cell_word : (s n j : ℕ) → s < suc last_slot → n < p → j < cell_words → word_at (words_of l) (cell_start p s n + j) ≡ word_at (spell_cell (get_or (row_at l s).cells n no_cell)) j
  cell_word s n j h k m =
      let i = timeout_at + (8 + (most_certificates * kept_words p + (cell_words * n + j))) in
      let z : cell_start p s n + j ≡ row_start p s + i = omega arith in
      ap (word_at (words_of l)) z
      ∙ row_word s i h (omega arith)
      ∙ row_cell (mask_words p) (row_at l s) (w.blocks s h) (w.certificates s h) n j (omega (arith, w.cells s h)) m

  cell_back : (s n : ℕ) → s < suc last_slot → n < p → cell_of p (words_of l) s n ≡ get_or (row_at l s).cells n no_cell
  cell_back s n h k =
      let z : word_at (words_of l) (cell_start p s n) ≡ (get_or (row_at l s).cells n no_cell).notar = rw add-zero at (cell_word s n 0 h k (omega arith)) in
      λ i. record {
        notar = z i;
        skip = cell_word s n 1 h k (omega arith) i;
        fallback1 = cell_word s n 2 h k (omega arith) i;
        fallback2 = cell_word s n 3 h k (omega arith) i;
        fallback3 = cell_word s n 4 h k (omega arith) i;
        skipfallback = cell_word s n 5 h k (omega arith) i;
        finalvote = cell_word s n 6 h k (omega arith) i;
      }

  block_word : (s n j : ℕ) → s < suc last_slot → n < most_blocks → j < block_words → word_at (words_of l) (block_start p s n + j) ≡ word_at (spell_block (get_or (blocks_at l s) n no_block)) j
  block_word s n j h k m =
      let z : block_start p s n + j ≡ row_start p s + (block_words * n + j) = omega arith in
      ap (word_at (words_of l)) z
      ∙ row_word s (block_words * n + j) h (omega arith)
      ∙ row_block (mask_words p) (row_at l s) (w.blocks s h) (w.certificates s h) n j k m

  block_back : (s n : ℕ) → s < suc last_slot → n < most_blocks → block_of p (words_of l) s n ≡ get_or (blocks_at l s) n no_block
  block_back s n h k =
      let z : word_at (words_of l) (block_start p s n) ≡ (get_or (blocks_at l s) n no_block).number = rw add-zero at (block_word s n 0 h k (omega arith)) in
      λ i. record { number = z i; parentslot = record { 0 = block_word s n 1 h k (omega arith) i }; parent = block_word s n 2 h k (omega arith) i }

  kept_word : (s n j : ℕ) → s < suc last_slot → n < most_certificates → j < kept_words p → word_at (words_of l) (kept_start p s n + j) ≡ word_at (spell_kept (mask_words p) (get_or (certificates_at l s) n no_kept)) j
  unfolding kept_start
  kept_word s n j h k m =
      let i = timeout_at + (8 + (kept_words p * n + j)) in
      let z : kept_start p s n + j ≡ row_start p s + i = omega arith in
      ap (word_at (words_of l)) z
      ∙ row_word s i h (omega (arith, mul-le-mul_left (kept_words p) k, mul-suc (kept_words p) n))
      ∙ row_kept (mask_words p) (row_at l s) (w.blocks s h) (w.certificates s h) n j k m

  kept_back : (s n : ℕ) → s < suc last_slot → n < most_certificates → kept_of p (words_of l) s n ≡ get_or (certificates_at l s) n no_kept
  kept_back s n h k =
      let at = kept_start p s n in
      let m = mask_words p in
      let q : Kept = get_or (certificates_at l s) n no_kept in
      let z : word_at (words_of l) at ≡ q.block = rw add-zero at (kept_word s n 0 h k (omega arith)) in
      let a : (j : ℕ) → j < m → word_at (words_of l) (at + 1 + j) ≡ word_at (spell_mask m q.maska) j =
      (λ j b. let e : at + 1 + j ≡ at + suc j = omega arith in ap (word_at (words_of l)) e ∙ kept_word s n (suc j) h k (omega arith) ∙ mask_a_at m q j b) in
      let c : (j : ℕ) → j < m → word_at (words_of l) (at + 1 + m + j) ≡ word_at (spell_mask m q.maskb) j =
      (λ j b. let e : at + 1 + m + j ≡ at + suc (m + j) = omega arith in ap (word_at (words_of l)) e ∙ kept_word s n (suc (m + j)) h k (omega arith) ∙ mask_b_at m q j) in
      λ i. record {
        block = z i;
        maska = (ap packets.joined (tabulate_back (spell_mask m q.maska) 0 (λ j. word_at (words_of l) (at + 1 + j)) m (mask_long m q.maska) a) ∙ mask_meant m q.maska (mask_some p)) i;
        maskb = (ap packets.joined (tabulate_back (spell_mask m q.maskb) 0 (λ j. word_at (words_of l) (at + 1 + m + j)) m (mask_long m q.maskb) c) ∙ mask_meant m q.maskb (mask_some p)) i;
      }

  row_back : (s : ℕ) → s < suc last_slot → row_of p (words_of l) s ≡ row_at l s
  row_back s h =
      let mark : (j : ℕ) → j < 8 → word_at (words_of l) (row_start p s + (timeout_at + j)) ≡ word_at (spell_marks (row_at l s)) j =
      (λ j m. row_word s (timeout_at + j) h (omega arith) ∙ row_mark (mask_words p) (row_at l s) (w.blocks s h) (w.certificates s h) j m) in
      let card : (j : ℕ) → j < card_words → word_at (words_of l) (card_start p s + j) ≡ word_at (spell_marks (row_at l s)) (3 + j) =
      (λ j m. let e : card_start p s + j ≡ row_start p s + (timeout_at + (3 + j)) = omega arith in ap (word_at (words_of l)) e ∙ mark (3 + j) (omega arith)) in
      λ i. record {
        blocks = tabulate_back (blocks_at l s) no_block (block_of p (words_of l) s) most_blocks (w.blocks s h) (λ n k. block_back s n h k) i;
        timed_out = mark 0 (omega arith) i;
        final = mark 1 (omega arith) i;
        clash = mark 2 (omega arith) i;
        card = card_of (mark 3 (omega arith) i) (card 1 (omega arith) i) (card 2 (omega arith) i) (card 3 (omega arith) i) (card 4 (omega arith) i);
        certificates = tabulate_back (certificates_at l s) no_kept (kept_of p (words_of l) s) most_certificates (w.certificates s h) (λ n k. kept_back s n h k) i;
        cells = tabulate_back (row_at l s).cells no_cell (cell_of p (words_of l) s) p (w.cells s h) (λ n k. cell_back s n h k) i;
      }

  front_word : (j : ℕ) → j < 4 → word_at (words_of l) j ≡ word_at front j
  unfolding words_of
  front_word j h = get_or-append front (l.armed ++ (l.stakes ++ rows)) 0 j h

  meaning : ledger_at p (words_of l) ≡ l
  unfolding ledger_at
  meaning =
      λ i. record {
        count = front_word 0 (omega arith) i;
        total = front_word 1 (omega arith) i;
        own = front_word 2 (omega arith) i;
        genesis = front_word 3 (omega arith) i;
        armed = tabulate_back l.armed 0 (λ k. word_at (words_of l) (armed_start + k)) windows w.armed armed_spelled i;
        stakes = tabulate_back l.stakes 0 (λ k. word_at (words_of l) (stake_start + k)) p refl stake_spelled i;
        rows = tabulate_back l.rows no_row (row_of p (words_of l)) (suc last_slot) w.rows row_back i;
      }

-- The meaning of a ledger's spelling is that ledger.
pub ledger_words : (l : Ledger) → Shaped (places l) l → ledger_of (words_of l) ≡ l
ledger_words l w =
    ap (λ (p : ℕ). ledger_at p (words_of l)) (places_back (words_of l) (places l) (all_words l w)) ∙ meaning l w

-- ---- words that spell a ledger

same_one : (xs ys : List ℕ) → same_words xs ys ≡ true → xs ≡ ys
unfolding same_words
same_one [] [] e = refl
same_one [] (y ∷ ys) e = true_not_false false e refl
same_one (x ∷ xs) [] e = true_not_false false e refl
same_one (x ∷ xs) (y ∷ ys) e =
    let k = and_both (eqb x y) (same_words xs ys) e in λ i. eqb-true x y k.0 i ∷ same_one xs ys k.1 i

one_same : (xs : List ℕ) → same_words xs xs ≡ true
unfolding same_words
one_same [] = refl
one_same (x ∷ xs) = both_and (eqb x x) (same_words xs xs) (eq-eqb x x refl) (one_same xs)

module _ (ws : List ℕ) where
  -- They are the spelling of their meaning, and as many as their places ask for.
  pub spelled_words : is_spelled ws ≡ true → words_of (ledger_of ws) ≡ ws
  unfolding is_spelled
  spelled_words e = same_one (words_of (ledger_of ws)) ws e

  pub spelled_long : is_spelled ws ≡ true → Long ws
  spelled_long e =
      sym (ap length (spelled_words e)) ∙ all_words (ledger_of ws) (ledger_shaped ws) ∙ ap record_words (places_words (places_in ws) ws)

  spelling_spelled : words_of (ledger_of ws) ≡ ws → is_spelled ws ≡ true
  unfolding is_spelled
  spelling_spelled e = ap (λ (xs : List ℕ). same_words xs ws) e ∙ one_same ws

  -- Of words of 64 bits the length alone tells it.
  pub long_spelled : Words ws → Long ws → is_spelled ws ≡ true
  long_spelled f e = spelling_spelled (words_ledger ws f e)

  pub length_spelled : Words ws → eqb (length ws) (record_words (places_in ws)) ≡ is_spelled ws
  length_spelled f =
      same_test (eqb (length ws) (record_words (places_in ws))) (is_spelled ws) (λ t. long_spelled f (eqb-true (length ws) (record_words (places_in ws)) t))
      (λ t. eq-eqb (length ws) (record_words (places_in ws)) (spelled_long t))

-- A ledger's spelling spells it.
pub ledger_spelled : (l : Ledger) → Shaped (places l) l → is_spelled (words_of l) ≡ true
ledger_spelled l w = spelling_spelled (words_of l) (ap words_of (ledger_words l w))

-- Words that spell a ledger are told by it.
pub words_told : (ws ws' : List ℕ) → is_spelled ws ≡ true → is_spelled ws' ≡ true → ledger_of ws ≡ ledger_of ws' → ws ≡ ws'
words_told ws ws' e e' q = sym (spelled_words ws e) ∙ ap words_of q ∙ spelled_words ws' e'

-- ---- a vote stays in its row

-- A row's words are told by the row.
row_told : (ws : List ℕ) (p s j : ℕ) → is_spelled ws ≡ true → places_in ws ≡ p → s < suc last_slot → j < row_words p
    → word_at ws (row_start p s + j) ≡ word_at (spell_row (mask_words p) (row_at (ledger_of ws) s)) j
row_told ws p s j e q h l =
    ap (λ (xs : List ℕ). word_at xs (row_start p s + j)) (sym (spelled_words ws e))
    ∙ subst (λ (k : ℕ). j < row_words k → word_at (words_of (ledger_of ws)) (row_start k s + j) ≡ word_at (spell_row (mask_words k) (row_at (ledger_of ws) s)) j)
    (places_words (places_in ws) ws ∙ q) (row_word (ledger_of ws) (ledger_shaped ws) s j h) l

-- Whatever is put into slot s's row, every word of slot t's row stays.
pub row_words_stay : (ws ws' : List ℕ) (s t j : ℕ) (r : Row) → is_spelled ws ≡ true → is_spelled ws' ≡ true → length ws' ≡ length ws → ledger_of ws' ≡ put_row (ledger_of ws) s r
    → t < suc last_slot → (t ≡ s → ⊥) → j < row_words (places_in ws) → word_at ws' (row_start (places_in ws) t + j) ≡ word_at ws (row_start (places_in ws) t + j)
row_words_stay ws ws' s t j r f f' long e h q l =
    let p = places_in ws in
    let same : row_at (ledger_of ws') t ≡ row_at (ledger_of ws) t = ap (λ (m : Ledger). row_at m t) e ∙ row_other (ledger_of ws) s t r q in
    row_told ws' p t j f' (same_places ws ws' long) h l
    ∙ ap (λ (x : Row). word_at (spell_row (mask_words p) x) j) same
    ∙ sym (row_told ws p t j f refl h l)

-- So a vote stored in slot s changes no word of another slot's row.
pub vote_stays : (ws ws' : List ℕ) (s n t j : ℕ) (k : VoteKind) (b : ℕ) → is_spelled ws ≡ true → is_spelled ws' ≡ true → length ws' ≡ length ws
    → ledger_of ws' ≡ store_vote (ledger_of ws) s n k b → t < suc last_slot → (t ≡ s → ⊥)
    → j < row_words (places_in ws) → word_at ws' (row_start (places_in ws) t + j) ≡ word_at ws (row_start (places_in ws) t + j)
unfolding store_vote
vote_stays ws ws' s n t j k b f f' long e h q l = row_words_stay ws ws' s t j _ f f' long e h q l
