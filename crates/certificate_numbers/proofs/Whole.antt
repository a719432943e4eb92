-- A certificate is its heading and then its two masks. Assumes nothing.
use Rattle.std.specs.Prelude.{Result, Ok, Err}
use mathlib.Core.Path.{◌≡◌, refl, sym, ap, ap₂, ◌∙◌}
use mathlib.Core.List.{List, ◌++◌}
use Prim.Native.Nat.{ℕ, ◌≤◌}
use native.Mathlib.Omega.{arith}
use lib.ListN.{length, take, drop, length-append, length-drop}
use lib.Seq.{take_at, length-take-le}
use Rattle.rulebook.specs.declared.Heading.{Heading}
use Rattle.rulebook.specs.Certificates as found
use Rattle.rulebook.specs.Packets.{number_at, mask_at, and_then, joined, words_in, certificate_at}
use Rattle.rule_laws.proofs.KindLaws.{words_most}
use Rattle.mask_words.specs.Told.{laid_as}
use Rattle.certificate_numbers.specs.Told.{most_words, found_as, head_then, heading_at}
use Rattle.rulebook.specs.declared.Unread.{Unread}
use Rattle.rulebook.specs.declared.Unread.TheVariants.{Early, Malformed}

-- The two masks after a heading.
abbrev whole_of : Heading → ℕ → ℕ → ℕ → found.Found
whole_of h maska maskb next = found.Whole (record { kind = h.kind; slot = h.slot.0; block = h.block; maska = maska; maskb = maskb }) next

abbrev second_after : List ℕ → Heading → ℕ → ℕ → found.Found
second_after bytes h maska q = and_then (mask_at (words_in h.kind) bytes q) (whole_of h maska)

abbrev masks_after : List ℕ → Heading → ℕ → found.Found
masks_after bytes h p = and_then (mask_at (words_in h.kind) bytes p) (second_after bytes h)

with_masks : List ℕ → Result (Heading × ℕ) Unread → found.Found
with_masks bytes (Ok (h, p)) = masks_after bytes h p
with_masks bytes (Err Early) = found.Early
with_masks bytes (Err Malformed) = found.Malformed

-- One number more of the heading.
head_then_lem : (bytes : List ℕ) (r : Result (ℕ × ℕ) Unread) (f : ℕ → ℕ → found.Found) (g : ℕ → ℕ → Result (Heading × ℕ) Unread) → ((v p : ℕ) → f v p ≡ with_masks bytes (g v p))
    → and_then r f ≡ with_masks bytes (head_then r g)
unfolding and_then head_then with_masks
head_then_lem bytes (Ok (v, p)) f g h = h v p
head_then_lem bytes (Err Early) f g h = refl
head_then_lem bytes (Err Malformed) f g h = refl

heading_then : (bytes : List ℕ) (at : ℕ) → certificate_at bytes at ≡ with_masks bytes (heading_at bytes at)
unfolding certificate_at heading_at with_masks
heading_then bytes at =
    head_then_lem bytes (number_at bytes at) _ _ (λ kind p.
    head_then_lem bytes (number_at bytes p) _ _ (λ slot q.
    head_then_lem bytes (number_at bytes q) _ _ (λ block r. refl)))

fell_as : (e : Unread) (a b bytes : List ℕ) → found_as (Err e) a b ≡ with_masks bytes (Err e)
unfolding found_as with_masks
fell_as Early a b bytes = refl
fell_as Malformed a b bytes = refl

-- A mask that could not be read decides the certificate.
fell_mask : (e : Unread) (m : Result (ℕ × ℕ) Unread) (f : ℕ → ℕ → found.Found) (x : ℕ) (a b : List ℕ) → laid_as (Err e) x ≡ m → found_as (Err e) a b ≡ and_then m f
unfolding and_then laid_as found_as
fell_mask Early m f x a b q = ap (λ (r : Result (ℕ × ℕ) Unread). and_then r f) q
fell_mask Malformed m f x a b q = ap (λ (r : Result (ℕ × ℕ) Unread). and_then r f) q

module _ (bytes : List ℕ) (at : ℕ) where
  -- The heading could not be read.
  pub heading_fell : (e : Unread) (a b : List ℕ) → heading_at bytes at ≡ Err e → found_as (Err e) a b ≡ certificate_at bytes at
  heading_fell e a b q = fell_as e a b bytes ∙ ap (with_masks bytes) (sym q) ∙ sym (heading_then bytes at)

  module _ (h : Heading) (p w : ℕ) (e : heading_at bytes at ≡ Ok (h, p)) (ew : w ≡ words_in h.kind) where
    after_heading : masks_after bytes h p ≡ certificate_at bytes at
    unfolding with_masks
    after_heading = sym (heading_then bytes at ∙ ap (with_masks bytes) e)

    -- Mask A could not be read.
    pub first_fell : (o : Unread) (x : ℕ) (a b : List ℕ) → laid_as (Err o) x ≡ mask_at w bytes p → found_as (Err o) a b ≡ certificate_at bytes at
    first_fell o x a b m = fell_mask o (mask_at (words_in h.kind) bytes p) _ x a b (m ∙ ap (λ (n : ℕ). mask_at n bytes p) ew) ∙ after_heading

    module _ (q x : ℕ) (m : laid_as (Ok q) x ≡ mask_at w bytes p) where
      after_first : second_after bytes h x q ≡ certificate_at bytes at
      unfolding laid_as and_then
      after_first = ap (λ (r : Result (ℕ × ℕ) Unread). and_then r (second_after bytes h)) (m ∙ ap (λ (n : ℕ). mask_at n bytes p) ew) ∙ after_heading

      -- Mask B could not be read.
      pub second_fell : (o : Unread) (y : ℕ) (a b : List ℕ) → laid_as (Err o) y ≡ mask_at w bytes q → found_as (Err o) a b ≡ certificate_at bytes at
      second_fell o y a b n = fell_mask o (mask_at (words_in h.kind) bytes q) _ y a b (n ∙ ap (λ (i : ℕ). mask_at i bytes q) ew) ∙ after_first

      -- All is read: the masks stand at the front of the lent words.
      pub all_read : (next y : ℕ) (xs ys a b : List ℕ) → laid_as (Ok next) y ≡ mask_at w bytes q → x ≡ joined xs → y ≡ joined ys → length xs ≡ w → length ys ≡ w
          → found_as (Ok (h, next)) (xs ++ a) (ys ++ b) ≡ certificate_at bytes at
      unfolding found_as laid_as and_then
      all_read next y xs ys a b n ex ey lx ly =
          ap₂ (λ (u v : ℕ). found.Whole (record { kind = h.kind; slot = h.slot.0; block = h.block; maska = u; maskb = v }) next)
          (ap joined (take_at xs a (words_in h.kind) (lx ∙ ew)) ∙ sym ex) (ap joined (take_at ys b (words_in h.kind) (ly ∙ ew)) ∙ sym ey)
          ∙ ap (λ (r : Result (ℕ × ℕ) Unread). and_then r (whole_of h x)) (n ∙ ap (λ (i : ℕ). mask_at i bytes q) ew)
          ∙ after_first

-- Every kind has its words among those that are lent.
pub words_few : (w k : ℕ) → w ≡ words_in k → w ≤ most_words
words_few w k e = omega (arith, e, words_most k)

pub lent_enough : (lent : List ℕ) (w k : ℕ) → length lent ≡ most_words → w ≡ words_in k → w ≤ length lent
lent_enough lent w k l e = omega (arith, words_few w k e)

-- What was read into a part of w words.
pub part_read : (bytes : List ℕ) (p w : ℕ) (a : List ℕ) (r : Result (ℕ × ℕ) Unread) → w ≤ length a → r ≡ mask_at (length (take w a)) bytes p → r ≡ mask_at w bytes p
part_read bytes p w a r h e = e ∙ ap (λ (n : ℕ). mask_at n bytes p) (length-take-le w a h)

-- A part of w words that was changed and given back.
pub back_long : (w : ℕ) (a ys : List ℕ) → w ≤ length a → length ys ≡ length (take w a) → length (ys ++ drop w a) ≡ length a
back_long w a ys h e = length-append ys (drop w a) ∙ omega (arith, e, length-take-le w a h, length-drop w a)

pub part_long : (w : ℕ) (a ys : List ℕ) → w ≤ length a → length ys ≡ length (take w a) → length ys ≡ w
part_long w a ys h e = e ∙ length-take-le w a h
