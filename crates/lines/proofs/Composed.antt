-- The texts put together: digits, pairs, records, lines. Assumes nothing.
use mathlib.Core.Path.{◌≡◌, sym, ap, ◌∙◌}
use mathlib.Core.List.{List, [], ◌∷◌, ◌++◌, append_assoc}
use Prim.Native.Nat.{ℕ, ◌+◌, ◌/◌, ◌%◌, ◌≤◌, ◌<◌, min}
use native.Mathlib.Numerals.{add-one}
use lib.ListN.{length, get_or, take}
use lib.Seq.{take-suc, take-length}
use lib.Dec.{eqb}
use borrow.Author.Tests.{eq-eqb, ne_eqb}
use Rattle.rulebook.specs.PaperNumbers.{Panel}
use Rattle.rule_laws.proofs.ToolLaws.{choose_on, choose_off, given_on, given_off}
use Rattle.lines.specs.Text.{glyph, decimal, hex_pair, hex_pairs, hex_text, record_text, records_to, records_text}
use Rattle.lines.specs.Page.{Wrote}
use Rattle.lines.specs.Answers.{number_line, answer_line, spaced, votes_to, votes_text, missing_line, five_values, check_line}
use Rattle.lines.specs.Figures.{more_for, missing_text}
use Rattle.lines.specs.declared.Page.{Page}
use Rattle.lines.proofs.Paging.{as_text, and_then, put_nothing}
use Rattle.lines.proofs.Digits.{decimal_small, decimal_more}

abbrev one : ℕ → List ℕ
one b = b ∷ []

module _ {a p : Page} where
  -- ---- decimal

  pub last_digit : (n x : ℕ) → n < 10 → x ≡ glyph n → Wrote a (x ∷ []) p → Wrote a (decimal n) p
  last_digit n x h e w = as_text (ap one e ∙ decimal_small n h) w

  pub next_digit : {q : Page} (n x : ℕ) → 10 ≤ n → x ≡ glyph (n % 10) → Wrote a (decimal (n / 10)) p → Wrote p (x ∷ []) q → Wrote a (decimal n) q
  next_digit n x h e w v = as_text (decimal_more n h) (and_then w (as_text (ap one e) v))

  -- ---- hex

  pub both_digits : {q : Page} (b x y : ℕ) → x ≡ glyph (b / 16) → y ≡ glyph (b % 16) → Wrote a (x ∷ []) p → Wrote p (y ∷ []) q → Wrote a (hex_pair b) q
  unfolding hex_pair
  both_digits b x y e f w v = and_then (as_text (ap one e) w) (as_text (ap one f) v)

  pub dash : (bytes : List ℕ) → length bytes ≡ 0 → Wrote a (45 ∷ []) p → Wrote a (hex_text bytes) p
  unfolding hex_text
  dash bytes h w = as_text (sym (choose_on (eqb (length bytes) 0) _ _ (eq-eqb (length bytes) 0 h))) w

  pub next_pair : {q : Page} (bytes : List ℕ) (i b : ℕ) → b ≡ get_or bytes i 0 → Wrote a (hex_pairs bytes i) p → Wrote p (hex_pair b) q
      → Wrote a (hex_pairs bytes (i + 1)) q
  unfolding hex_pairs
  next_pair bytes i b e w v = as_text (rw (add-one, e)) (and_then w v)

  pub last_pair : (bytes : List ℕ) (i : ℕ) → (length bytes ≡ 0 → ⊥) → i ≡ length bytes → Wrote a (hex_pairs bytes i) p → Wrote a (hex_text bytes) p
  unfolding hex_text
  last_pair bytes i n e w =
      as_text (ap (hex_pairs bytes) e ∙ sym (choose_off (eqb (length bytes) 0) _ _ (ne_eqb (length bytes) 0 n))) w

  -- ---- text

  pub next_byte : {q : Page} (text : List ℕ) (i b : ℕ) → i < length text → b ≡ get_or text i 0 → Wrote a (take i text) p → Wrote p (b ∷ []) q
      → Wrote a (take (i + 1) text) q
  next_byte text i b h e w v = as_text (rw (add-one, e, take-suc text i 0 h)) (and_then w v)

  pub last_byte : (text : List ℕ) (i : ℕ) → i ≡ length text → Wrote a (take i text) p → Wrote a text p
  last_byte text i e w = as_text (ap (λ (k : ℕ). take k text) e ∙ take-length text) w

  -- ---- records

  pub next_record : {q : Page} (outbox : List ℕ) (i : ℕ) → Wrote a (records_to outbox i) p → Wrote p (record_text outbox i) q
      → Wrote a (records_to outbox (i + 1)) q
  unfolding records_to
  next_record outbox i w v = as_text (rw add-one) (and_then w v)

  pub last_record : (outbox : List ℕ) (n i : ℕ) → i ≡ min n (length outbox / 3) → Wrote a (records_to outbox i) p → Wrote a (records_text outbox n) p
  unfolding records_text
  last_record outbox n i e w = as_text (ap (records_to outbox) e) w

-- Nothing is put before the first byte, pair and record.
pub no_byte : (a : Page) (text : List ℕ) → Wrote a (take 0 text) a
no_byte a text = put_nothing a

pub no_pair : (a : Page) (bytes : List ℕ) → Wrote a (hex_pairs bytes 0) a
unfolding hex_pairs
no_pair a bytes = put_nothing a

pub no_record : (a : Page) (outbox : List ℕ) → Wrote a (records_to outbox 0) a
unfolding records_to
no_record a outbox = put_nothing a

-- ---- the numbers of a tray's votes

module _ {a : Page} (answers : List ℕ) where
  pub no_votes_lem : length answers ≡ 0 → Wrote a (votes_text answers) a
  unfolding votes_text
  no_votes_lem h = as_text (sym (choose_on (eqb (length answers) 0) _ _ (eq-eqb (length answers) 0 h))) (put_nothing a)

  pub first_vote : Wrote a (votes_to answers 0) a
  unfolding votes_to
  first_vote = put_nothing a

  pub next_vote : {p q : Page} (i b : ℕ) → b ≡ get_or answers i 0 → Wrote a (votes_to answers i) p → Wrote p (spaced b) q
      → Wrote a (votes_to answers (i + 1)) q
  unfolding votes_to
  next_vote i b e w v = as_text (rw (add-one, e)) (and_then w v)

  pub all_votes : {p : Page} (i : ℕ) → i ≡ length answers → Wrote a (votes_to answers i) p → Wrote a (votes_to answers (length answers)) p
  all_votes i e w = as_text (ap (votes_to answers) e) w

  pub some_votes : {p q : Page} → (length answers ≡ 0 → ⊥) → Wrote a (32 ∷ 58 ∷ []) p → Wrote p (votes_to answers (length answers)) q
      → Wrote a (votes_text answers) q
  unfolding votes_text
  some_votes n w v = as_text (sym (choose_off (eqb (length answers) 0) _ _ (ne_eqb (length answers) 0 n))) (and_then w v)

-- The four numbers of a message, and the five of a check.
pub four_numbers : (v : List ℕ) → length v ≡ 4
    → votes_to v (length v) ≡ (spaced (get_or v 0 0) ++ (spaced (get_or v 1 0) ++ (spaced (get_or v 2 0) ++ spaced (get_or v 3 0))))
unfolding votes_to
four_numbers v e = rw e (simp append_assoc)

pub five_numbers : (n : ℕ) (v : List ℕ) → length v ≡ 5 → votes_to v (length v) ≡ five_values (record { number = n; values = v })
unfolding votes_to five_values
five_numbers n v e = rw e (simp append_assoc)

-- ---- lines

module _ (n : ℕ) (values more : List ℕ) where
  abbrev panel : Panel
  panel = record { number = n; values = values }

  pub refused : {a p : Page} → (n ≡ 0 → ⊥) → Wrote a (number_line n) p → Wrote a (answer_line panel more) p
  unfolding answer_line
  refused h w = as_text (sym (given_off (eqb n 0) (number_line n) _ (ne_eqb n 0 h))) w

  pub answered : {a p q r : Page} → n ≡ 0 → Wrote a (48 ∷ []) p → Wrote p more q → Wrote q (10 ∷ []) r
      → Wrote a (answer_line panel more) r
  unfolding answer_line
  answered h w v u = as_text (sym (given_on (eqb n 0) (number_line n) _ (eq-eqb n 0 h))) (and_then w (and_then v u))

module _ (n : ℕ) (values : List ℕ) where
  abbrev answer : Panel
  answer = record { number = n; values = values }

  pub lacking : {a p : Page} (missing : ℕ) → n ≡ 15 → Wrote a (missing_line missing) p → Wrote a (check_line answer missing) p
  unfolding check_line
  lacking missing h w = as_text (sym (choose_on (eqb n 15) _ _ (eq-eqb n 15 h))) w

  pub not_lacking : {a p : Page} (missing : ℕ) → (n ≡ 15 → ⊥) → Wrote a (answer_line answer (five_values answer)) p → Wrote a (check_line answer missing) p
  unfolding check_line
  not_lacking missing h w = as_text (sym (choose_off (eqb n 15) _ _ (ne_eqb n 15 h))) w

-- ---- what is missing to a certificate

module _ {a : Page} (missing : ℕ) (name : List ℕ) where
  pub nothing_missing_lem : missing ≡ 0 → Wrote a (missing_text missing name) a
  unfolding missing_text
  nothing_missing_lem h = as_text (sym (choose_on (eqb missing 0) _ _ (eq-eqb missing 0 h))) (put_nothing a)

  pub some_missing : {p : Page} → (missing ≡ 0 → ⊥) → Wrote a (((44 ∷ 32 ∷ []) ++ decimal missing) ++ (more_for ++ name)) p
      → Wrote a (missing_text missing name) p
  unfolding missing_text
  some_missing h w = as_text (sym (choose_off (eqb missing 0) _ _ (ne_eqb missing 0 h))) w
