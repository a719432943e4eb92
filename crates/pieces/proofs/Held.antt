-- The state that stands for what has been taken, and what each call makes of it. Assumes nothing.
use mathlib.Core.Path.{◌≡◌, refl, sym, ap, ap₂, ◌∙◌}
use mathlib.Core.Bool.{Bool, true, false}
use mathlib.Core.List.{List, [], ◌∷◌, ◌++◌, append-nil}
use Prim.Native.Nat.{ℕ, zero, suc, ◌+◌, ◌-◌, ◌≤◌, min}
use native.Mathlib.Omega.{arith}
use lib.ListN.{length, take, drop, replicate, length-append, length-take, length-replicate, get_or-replicate, replicate-append-replicate}
use lib.Seq.{paste, take_all, take-nil, drop-nil, drop_at, take-append-le, take-append-add, drop-append-add, take-append_seam, drop-append_seam, length-take-le}
use lib.Dec.{leb}
use borrow.Author.Tests.{le-leb, leb-true, leb-false}
use Rattle.rulebook.specs.Weights.{stakes_fit}
use Rattle.rule_laws.proofs.ToolLaws.{both_and}
use Rattle.pieces.specs.Pieces.{nothing, since}
use Rattle.pieces.specs.State.{state_words, front_bytes, mark, kept, nodes, table, front, blank, is_ready, is_whole, with_table, fitting, kept_words, kept_front, words_of, bytes_of}
use Rattle.pieces.proofs.Runs.{zeros_blank}
use Rattle.pieces.proofs.Tests.{sized_so, ready_begun, ready_fresh, table_few, whole_fresh, whole_decided, after_is, first_stakes_lem}
use Rattle.pieces.proofs.Laid.{fits_few, table_words}

abbrev pub zeros : ℕ → List ℕ
zeros n = replicate n 0

drop_past : (xs : List ℕ) (m : ℕ) → length xs ≤ m → drop m xs ≡ []
drop_past [] m l = drop-nil m
drop_past (x ∷ xs) zero l = absurd (omega arith)
drop_past (x ∷ xs) (suc m) l = drop_past xs m (omega arith)

-- Zeros from a place on.
pub zeros_after : (n k : ℕ) → drop k (zeros n) ≡ zeros (n - k)
zeros_after n k = go (leb k n) refl
  where
    go : (t : Bool) → leb k n ≡ t → drop k (zeros n) ≡ zeros (n - k)
    go true e =
        let h = leb-true k n e in
        let q : n ≡ k + (n - k) = omega arith in
        let s : zeros (k + (n - k)) ≡ zeros k ++ zeros (n - k) = sym (replicate-append-replicate k (n - k) 0) in
        ap (λ (m : ℕ). drop k (zeros m)) q ∙ ap (λ (x : List ℕ). drop k x) s ∙ drop_at (zeros k) (zeros (n - k)) k (length-replicate k 0)
    go false e =
        let h = leb-false k n e in
        let q : 0 ≡ n - k = omega arith in
        drop_past (zeros n) k (omega (arith, length-replicate {A = ℕ} n 0)) ∙ ap zeros q

-- ---- its parts

module _ (stakes bytes : List ℕ) where
  -- How many bytes are kept.
  abbrev pub held : ℕ
  held = length (take front_bytes bytes)

  pub held_most : held ≤ front_bytes
  held_most = omega (arith, length-take front_bytes bytes)

  pub since_mark : mark (words_of (since stakes bytes)) ≡ held + 1
  unfolding words_of
  since_mark = refl

  pub since_kept : kept (words_of (since stakes bytes)) ≡ held
  unfolding words_of
  since_kept = omega arith

  pub since_nodes : nodes (words_of (since stakes bytes)) ≡ length stakes
  unfolding words_of
  since_nodes = refl

  pub since_table : table (words_of (since stakes bytes)) ≡ stakes
  unfolding words_of
  since_table = take-append_seam stakes (zeros (2048 - length stakes))

  pub since_front : front (words_of (since stakes bytes)) (bytes_of (since stakes bytes)) ≡ take front_bytes bytes
  unfolding bytes_of
  since_front =
      ap (λ (k : ℕ). take k (take front_bytes bytes ++ zeros (front_bytes - held))) since_kept
      ∙ take-append_seam (take front_bytes bytes) (zeros (front_bytes - held))

  pub since_past : drop (kept (words_of (since stakes bytes))) (bytes_of (since stakes bytes)) ≡ zeros (front_bytes - held)
  unfolding bytes_of
  since_past =
      ap (λ (k : ℕ). drop k (take front_bytes bytes ++ zeros (front_bytes - held))) since_kept
      ∙ drop-append_seam (take front_bytes bytes) (zeros (front_bytes - held))

  pub since_unused : drop (2 + nodes (words_of (since stakes bytes))) (words_of (since stakes bytes)) ≡ zeros (2048 - length stakes)
  unfolding words_of
  since_unused =
      let e : 2 + length stakes ≡ suc (suc (length stakes)) = omega arith in
      ap (λ (k : ℕ). drop k ((held + 1) ∷ length stakes ∷ (stakes ++ zeros (2048 - length stakes)))) e
      ∙ drop-append_seam stakes (zeros (2048 - length stakes))

  since_words : length stakes ≤ 2048 → length (words_of (since stakes bytes)) ≡ state_words
  unfolding words_of
  since_words h = omega (arith, length-append stakes (zeros (2048 - length stakes)), length-replicate {A = ℕ} (2048 - length stakes) 0)

  since_bytes : length (bytes_of (since stakes bytes)) ≡ front_bytes
  unfolding bytes_of
  since_bytes =
      omega (arith, held_most, length-append (take front_bytes bytes) (zeros (front_bytes - held)), length-replicate {A = ℕ} (front_bytes - held) 0)

  pub since_begun : mark (words_of (since stakes bytes)) ≡ 0 → ⊥
  since_begun e = omega (arith, since_mark)

  module _ (fits : stakes_fit stakes (length stakes) ≡ true) where
    pub since_ready : is_ready (words_of (since stakes bytes)) (bytes_of (since stakes bytes)) ≡ true
    since_ready =
        let ws = words_of (since stakes bytes) in
        let bs = bytes_of (since stakes bytes) in
        sym (ready_begun ws bs (sized_so ws bs (since_words (fits_few stakes fits)) since_bytes) since_begun)
        ∙ le-leb (mark ws) (front_bytes + 1) (omega (arith, since_mark, held_most))

    pub since_whole : is_whole (words_of (since stakes bytes)) (bytes_of (since stakes bytes)) ≡ true
    since_whole =
        let ws = words_of (since stakes bytes) in
        let bs = bytes_of (since stakes bytes) in
        let t : stakes_fit (table ws) (length (table ws)) ≡ true = ap (λ (x : List ℕ). stakes_fit x (length x)) since_table ∙ fits in
        let u : blank (drop (2 + nodes ws) ws) ≡ true = ap blank since_unused ∙ zeros_blank (2048 - length stakes) in
        let p : blank (drop (kept ws) bs) ≡ true = ap blank since_past ∙ zeros_blank (front_bytes - held) in
        let few : nodes ws ≤ 2048 = omega (arith, since_nodes, fits_few stakes fits) in
        sym (whole_decided ws bs true true since_ready since_begun
        (table_few ws true true few
        (sym (ap (λ (x : List ℕ). stakes_fit x (length x)) (first_stakes_lem ws) ∙ t)) (sym (ap blank (after_is (2 + nodes ws) ws) ∙ u)))
        (sym (ap blank (after_is (kept ws) bs) ∙ p)))

-- ---- bytes that come to those taken

module _ (stakes bytes more : List ℕ) where
  -- As many as fit.
  fit : ℕ
  fit = min (length more) (front_bytes - length (take front_bytes bytes))

  front_more : take front_bytes bytes ++ take fit more ≡ take front_bytes (bytes ++ more)
  unfolding fit
  front_more = go (leb (length bytes) front_bytes) refl
    where
      room : ℕ
      room = front_bytes - length bytes

      take_min : (n : ℕ) (xs : List ℕ) → take (min (length xs) n) xs ≡ take n xs
      take_min n xs = which (leb (length xs) n) refl
        where
          which : (t : Bool) → leb (length xs) n ≡ t → take (min (length xs) n) xs ≡ take n xs
          which true e =
              let h = leb-true (length xs) n e in
              let q : min (length xs) n ≡ length xs = omega arith in
              ap (λ (k : ℕ). take k xs) q ∙ take_all (length xs) xs (omega arith) ∙ sym (take_all n xs h)
          which false e = let h = leb-false (length xs) n e in let q : min (length xs) n ≡ n = omega arith in ap (λ (k : ℕ). take k xs) q

      go : (t : Bool) → leb (length bytes) front_bytes ≡ t
          → take front_bytes bytes ++ take (min (length more) (front_bytes - length (take front_bytes bytes))) more ≡ take front_bytes (bytes ++ more)
      go true e =
          let h = leb-true (length bytes) front_bytes e in
          let a : take front_bytes bytes ≡ bytes = take_all front_bytes bytes h in
          let q : length bytes + (front_bytes - length bytes) ≡ front_bytes = omega arith in
          ap (λ (x : List ℕ). x ++ take (min (length more) (front_bytes - length x)) more) a
          ∙ ap (λ (x : List ℕ). bytes ++ x) (take_min (front_bytes - length bytes) more)
          ∙ sym (take-append-add bytes more (front_bytes - length bytes))
          ∙ ap (λ (k : ℕ). take k (bytes ++ more)) q
      go false e =
          let h = leb-false (length bytes) front_bytes e in
          let l = length-take-le front_bytes bytes (omega arith) in
          let z : min (length more) (front_bytes - length (take front_bytes bytes)) ≡ 0 = omega arith in
          ap (λ (k : ℕ). take front_bytes bytes ++ take k more) z
          ∙ append-nil (take front_bytes bytes)
          ∙ sym (take-append-le front_bytes bytes more (omega arith))

  fit_is : fitting (words_of (since stakes bytes)) more ≡ fit
  unfolding fit
  fit_is = ap (λ (k : ℕ). min (length more) (front_bytes - k)) (since_kept stakes bytes)

  held_more : length (take front_bytes bytes) + fit ≡ length (take front_bytes (bytes ++ more))
  unfolding fit
  held_more =
      omega (arith, length-take front_bytes bytes, length-take front_bytes (bytes ++ more), length-append bytes more)

  pub words_more : kept_words (words_of (since stakes bytes)) more ≡ words_of (since stakes (bytes ++ more))
  unfolding kept_words words_of
  words_more =
      let ws = words_of (since stakes bytes) in
      let e : kept ws + fitting ws more + 1 ≡ length (take front_bytes (bytes ++ more)) + 1 = omega (arith, since_kept stakes bytes, fit_is, held_more) in
      ap (λ (k : ℕ). k ∷ length stakes ∷ (stakes ++ zeros (2048 - length stakes))) e

  pub bytes_more : kept_front (words_of (since stakes bytes)) (bytes_of (since stakes bytes)) more ≡ bytes_of (since stakes (bytes ++ more))
  unfolding kept_front bytes_of
  bytes_more =
      let f = take front_bytes bytes in
      let n = length f in
      let bs = f ++ zeros (front_bytes - n) in
      let left : front_bytes - n - fit ≡ front_bytes - length (take front_bytes (bytes ++ more)) = omega (arith, held_more, held_most stakes bytes) in
      ap₂ (λ (k m : ℕ). paste bs k more m) (since_kept stakes bytes) fit_is
      ∙ ap (λ (x : List ℕ). x ++ take fit more ++ drop (n + fit) bs) (take-append_seam f (zeros (front_bytes - n)))
      ∙ ap (λ (x : List ℕ). f ++ take fit more ++ x) (drop-append-add f (zeros (front_bytes - n)) fit ∙ zeros_after (front_bytes - n) fit)
      ∙ ap₂ (λ (x : List ℕ) (k : ℕ). x ++ zeros k) front_more left

-- ---- the first piece

pub words_first : (stakes : List ℕ) → with_table (words_of nothing) stakes ≡ words_of (since stakes [])
unfolding words_of
words_first stakes =
    let q : state_words - (2 + length stakes) ≡ 2048 - length stakes = omega arith in
    table_words (zeros state_words) stakes (omega (arith, length-replicate {A = ℕ} state_words 0))
    ∙ ap (λ (x : List ℕ). 1 ∷ length stakes ∷ (stakes ++ x)) (zeros_after state_words (2 + length stakes) ∙ ap zeros q)
    ∙ ap (λ (x : List ℕ). (length x + 1) ∷ length stakes ∷ (stakes ++ zeros (2048 - length stakes))) (sym (take-nil {A = ℕ} front_bytes))

pub bytes_first : (stakes : List ℕ) → bytes_of nothing ≡ bytes_of (since stakes [])
unfolding bytes_of
bytes_first stakes = ap (λ (x : List ℕ). x ++ zeros (front_bytes - length x)) (sym (take-nil {A = ℕ} front_bytes))

-- ---- nothing taken

pub nothing_mark : mark (words_of nothing) ≡ 0
unfolding words_of
nothing_mark = get_or-replicate state_words 0 0 0 (omega arith)

pub nothing_ready : is_ready (words_of nothing) (bytes_of nothing) ≡ true
unfolding words_of bytes_of
nothing_ready =
    sym (ready_fresh (zeros state_words) (zeros front_bytes) (sized_so (zeros state_words) (zeros front_bytes) (length-replicate {A = ℕ} state_words 0) (length-replicate {A = ℕ} front_bytes 0)) (get_or-replicate state_words 0 0 0 (omega arith)))
    ∙ both_and (blank (zeros state_words)) (blank (zeros front_bytes)) (zeros_blank state_words) (zeros_blank front_bytes)

pub nothing_whole : is_whole (words_of nothing) (bytes_of nothing) ≡ true
nothing_whole = sym (whole_fresh (words_of nothing) (bytes_of nothing) nothing_ready nothing_mark)
