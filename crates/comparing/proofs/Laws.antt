-- Laws of a node set aside, of a comparison's line and of a record's bytes. Assumes nothing.
use mathlib.Core.Path.{◌≡◌, refl, sym, ap, ◌∙◌}
use mathlib.Core.Bool.{true, false}
use mathlib.Core.List.{List}
use Prim.Native.Nat.{ℕ, ◌+◌, ◌/◌, min}
use native.Mathlib.Omega.{arith}
use native.Mathlib.Numerals.{add-one}
use lib.ListN.{length, get_or}
use lib.Seq.{sets}
use Rattle.rule_laws.proofs.ToolLaws.{choose_on, choose_off}
use Rattle.soundness.specs.Sound.{sound_words}
use Rattle.lines.specs.declared.Page.{Page}
use Rattle.lines.specs.Page.{Wrote}
use Rattle.lines.proofs.Paging.{as_text, and_then, put_nothing}
use mir.Syntax.{w64}
use Rattle.std.specs.Int.{to_le_bytes}
use Rattle.comparing.specs.Compared.{SetAside, parts_to, line_text, lines_text, bytes_of, word_bytes, words_bytes}

-- ---- a node set aside

module _ (rec kept : List ℕ) where
  pub none_aside : sound_words rec ≡ false → SetAside rec kept 17 kept
  none_aside h =
      record { number = sym (choose_off (sound_words rec) 0 17 h); words = sym (choose_off (sound_words rec) (sets kept 0 rec) kept h) }

  pub put_aside : (left : List ℕ) → sound_words rec ≡ true → left ≡ sets kept 0 rec → SetAside rec kept 0 left
  put_aside left h e =
      record { number = sym (choose_on (sound_words rec) 0 17 h); words = e ∙ sym (choose_on (sound_words rec) (sets kept 0 rec) kept h) }

-- ---- part after part

pub no_part : (a : Page) (part : ℕ → List ℕ) → Wrote a (parts_to part 0) a
unfolding parts_to
no_part a part = put_nothing a

module _ {a p : Page} where
  pub next_part : {q : Page} (part : ℕ → List ℕ) (i : ℕ) → Wrote a (parts_to part i) p → Wrote p (part i) q
      → Wrote a (parts_to part (i + 1)) q
  unfolding parts_to
  next_part part i w v = as_text (rw add-one) (and_then w v)

  pub last_line : (list : List ℕ) (n i : ℕ) → i ≡ min n (length list / 5) → Wrote a (parts_to (line_text list) i) p
      → Wrote a (lines_text list n) p
  unfolding lines_text
  last_line list n i e w = as_text (ap (parts_to (line_text list)) e) w

-- ---- bytes

-- The bytes of word number i.
abbrev pub bytes_at : List ℕ → ℕ → List ℕ
bytes_at words i = word_bytes (get_or words i 0)

module _ {a p : Page} where
  pub last_word : (words : List ℕ) (i : ℕ) → i ≡ length words → Wrote a (parts_to (bytes_at words) i) p → Wrote a (words_bytes words) p
  unfolding words_bytes
  last_word words i e w = as_text (ap (parts_to (bytes_at words)) e) w

-- A word's bytes, as the library gives them.
pub word_is : (w : ℕ) → to_le_bytes w64 w ≡ word_bytes w
unfolding word_bytes bytes_of
word_is w =
    let e2 : w / 256 / 256 ≡ w / 65536 = omega arith in
    let e3 : w / 65536 / 256 ≡ w / 16777216 = omega arith in
    let e4 : w / 16777216 / 256 ≡ w / 4294967296 = omega arith in
    let e5 : w / 4294967296 / 256 ≡ w / 1099511627776 = omega arith in
    let e6 : w / 1099511627776 / 256 ≡ w / 281474976710656 = omega arith in
    let e7 : w / 281474976710656 / 256 ≡ w / 72057594037927936 = omega arith in
    rw (e2, e3, e4, e5, e6, e7) refl
