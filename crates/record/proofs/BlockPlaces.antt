-- Kept blocks by their place: what a loop over a slot's places finds, and where the next block goes. Assumes nothing.
use mathlib.Core.Path.{◌≡◌, refl, sym, ap, ◌∙◌}
use mathlib.Core.Bool.{Bool, true, false, not, ◌&&◌, ◌||◌}
use mathlib.Core.List.{List, [], ◌∷◌}
use Prim.Native.Nat.{ℕ, zero, suc, ◌+◌, ◌<◌}
use native.Mathlib.Omega.{arith}
use lib.ListN.{length, get_or, set}
use lib.Seq.{set-get_or, set_out}
use Rattle.std.proofs.Common.{Option, Some, None, ltb-true, ltb-false, cond, map}
use Rattle.std.specs.Option.{unwrap_or, option_map}
use Rattle.std.specs.List.{position, position_or_len, find, range_with_len}
use Rattle.std.proofs.lemmas.Option.{none-some, cond_some}
use Rattle.std.proofs.lemmas.List.FromFn.{fill_by_all}
use Rattle.rulebook.specs.declared.Block.{Block}
use Rattle.rulebook.specs.Tools.{choose, all_to, some_to}
use Rattle.rulebook.specs.Ledger.{Ledger, Row, no_block, no_row, blocks_at, some_block, all_blocks, is_free, has_number, fill_block, put_blocks}
use Rattle.rulebook.specs.Rules.{find_block}
use Rattle.rulebook.specs.Inputs.{keep_block}
use Rattle.rulebook.specs.WellFormed.{in_order, blocks_apart}
use Rattle.rule_laws.proofs.ToolLaws.{all_same}
use Rattle.record.specs.BlockPlaces.{behind}

-- ---- a test of every place, of some place

or_end : (a : Bool) → (false || a) ≡ (a || false)
or_end true = refl
or_end false = refl

or_more : (a b c : Bool) → ((a || b) || c) ≡ (a || (b || c))
or_more true b c = refl
or_more false b c = refl

and_end : (a : Bool) → (true && a) ≡ (a && true)
and_end true = refl
and_end false = refl

and_more : (a b c : Bool) → ((a && b) && c) ≡ (a && (b && c))
and_more true b c = refl
and_more false b c = refl

and_swap : (a b c d : Bool) → ((a && b) && (c && d)) ≡ ((a && c) && (b && d))
and_swap true true c d = refl
and_swap true false true d = refl
and_swap true false false d = refl
and_swap false b c d = refl

-- The first number's test in front.
pub some_first : (n : ℕ) (f : ℕ → Bool) → some_to (suc n) f ≡ (f 0 || some_to n (λ i. f (suc i)))
unfolding some_to
some_first zero f = or_end (f 0)
some_first (suc n) f = ap (λ (b : Bool). b || f (suc n)) (some_first n f) ∙ or_more (f 0) (some_to n (λ i. f (suc i))) (f (suc n))

pub all_first : (n : ℕ) (f : ℕ → Bool) → all_to (suc n) f ≡ (f 0 && all_to n (λ i. f (suc i)))
unfolding all_to
all_first zero f = and_end (f 0)
all_first (suc n) f = ap (λ (b : Bool). b && f (suc n)) (all_first n f) ∙ and_more (f 0) (all_to n (λ i. f (suc i))) (f (suc n))

pub all_and : (n : ℕ) (f g : ℕ → Bool) → (all_to n f && all_to n g) ≡ all_to n (λ i. f i && g i)
unfolding all_to
all_and zero f g = refl
all_and (suc n) f g = and_swap (all_to n f) (f n) (all_to n g) (g n) ∙ ap (λ (b : Bool). b && (f n && g n)) (all_and n f g)

pub some_places : (p : Block → Bool) (ks : List Block) → some_block p ks ≡ some_to (length ks) (λ i. p (get_or ks i no_block))
unfolding some_block some_to
some_places p [] = refl
some_places p (k ∷ ks) =
    ap (λ (b : Bool). p k || b) (some_places p ks) ∙ sym (some_first (length ks) (λ i. p (get_or (k ∷ ks) i no_block)))

pub all_places : (p : Block → Bool) (ks : List Block) → all_blocks p ks ≡ all_to (length ks) (λ i. p (get_or ks i no_block))
unfolding all_blocks all_to
all_places p [] = refl
all_places p (k ∷ ks) =
    ap (λ (b : Bool). p k && b) (all_places p ks) ∙ sym (all_first (length ks) (λ i. p (get_or (k ∷ ks) i no_block)))

-- Place i is in order behind every place before it.
abbrev is_behind : List Block → ℕ → Bool
is_behind ks i = behind ks i (get_or ks i no_block).number

pub apart_places : (ks : List Block) → blocks_apart ks ≡ all_to (length ks) (is_behind ks)
unfolding blocks_apart all_to
apart_places [] = refl
apart_places (k ∷ ks) =
    (λ i. all_places (λ j. in_order k.number j.number) ks i && apart_places ks i)
    ∙ all_and (length ks) (λ i. in_order k.number (get_or ks i no_block).number) (is_behind ks)
    ∙ all_same (length ks) (λ i. in_order k.number (get_or ks i no_block).number && is_behind ks i) (λ i. is_behind (k ∷ ks) (suc i))
    (λ i h. sym (all_first i (λ j. in_order (get_or (k ∷ ks) j no_block).number (get_or ks i no_block).number)))
    ∙ sym (all_first (length ks) (is_behind (k ∷ ks)))

-- A test of every place and the order of the places, as one test of every place.
pub both_places : (p : Block → Bool) (ks : List Block) → (all_blocks p ks && blocks_apart ks) ≡ all_to (length ks) (λ i. p (get_or ks i no_block) && behind ks i (get_or ks i no_block).number)
both_places p ks = (λ i. all_places p ks i && apart_places ks i) ∙ all_and (length ks) (λ i. p (get_or ks i no_block)) (is_behind ks)

-- ---- the places looked through from the front

-- A slot's places in turn are its list of blocks.
pub places_listed : (ks : List Block) (n : ℕ) → length ks ≡ n → map (λ i. get_or ks i no_block) (range_with_len 0 n) ≡ ks
places_listed ks n e = sym (fill_by_all (λ i. get_or ks i no_block) ks n no_block e (λ k h. refl))

-- The place keeps the block that is looked for.
abbrev pub is_number : ℕ → Block → Bool
is_number b k = not (is_free k) && has_number b k

by_number : (b : ℕ) (ks : List Block) → unwrap_or (find (is_number b) ks) no_block ≡ find_block b ks
unfolding find_block choose
by_number b [] = refl
by_number b (k ∷ ks) = go (is_number b k) (by_number b ks)
  where
    go : (z : Bool) → unwrap_or (find (is_number b) ks) no_block ≡ find_block b ks
        → unwrap_or (cond z (Some k) (find (is_number b) ks)) no_block ≡ choose z k (find_block b ks)
    go true e = refl
    go false e = e

-- What a search for it finds; blank where no place keeps it.
pub found_block : (b : ℕ) (ks : List Block) (r : Option Block) → option_map (λ x. x) r ≡ find (is_number b) ks → unwrap_or r no_block ≡ find_block b ks
found_block b ks None e = ap (λ (o : Option Block). unwrap_or o no_block) e ∙ by_number b ks
found_block b ks (Some k) e = ap (λ (o : Option Block). unwrap_or o no_block) e ∙ by_number b ks

-- ---- a block kept

-- A block in the first free place is one store; none where every place keeps a block.
fill_place : (b : Block) (ks : List Block) → fill_block b ks ≡ set ks (position_or_len is_free ks) b
unfolding fill_block choose
fill_place b [] = refl
fill_place b (k ∷ ks) = go (is_free k) (fill_place b ks)
  where
    go : (z : Bool) → fill_block b ks ≡ set ks (position_or_len is_free ks) b → choose z (b ∷ ks) (k ∷ fill_block b ks) ≡ set (k ∷ ks) (cond (not z) (1 + position_or_len is_free ks) 0) b
    go true e = refl
    go false e = ap (λ (js : List Block). k ∷ js) e ∙ (let z : suc (position_or_len is_free ks) ≡ 1 + position_or_len is_free ks = omega arith in ap (λ (i : ℕ). set (k ∷ ks) i b) z)

cond_none : {A : Type 0} (z : Bool) (x : A) → cond z (Some x) None ≡ None → z ≡ false
cond_none true x e = absurd (none-some x (sym e))
cond_none false x e = refl

module _ (l : Ledger) (s : ℕ) (b : Block) where
  at_place : (n : ℕ) → position_or_len is_free (blocks_at l s) ≡ n → put_blocks l s (set (blocks_at l s) n b) ≡ keep_block l s b
  unfolding keep_block
  at_place n e = ap (λ (ks : List Block). put_blocks l s ks) (ap (λ (i : ℕ). set (blocks_at l s) i b) (sym e) ∙ sym (fill_place b (blocks_at l s)))

  pub kept_at : (n : ℕ) → Some n ≡ position is_free (blocks_at l s) → put_blocks l s (set (blocks_at l s) n b) ≡ keep_block l s b
  kept_at n e = at_place n (cond_some _ _ _ (sym e)).1

  -- The first free place is one of the places.
  pub kept_within : (n : ℕ) → Some n ≡ position is_free (blocks_at l s) → n < length (blocks_at l s)
  kept_within n e = let h = cond_some _ _ _ (sym e) in omega (arith, ltb-true _ _ h.0, h.1)

  pub kept_nowhere : None ≡ position is_free (blocks_at l s) → l ≡ keep_block l s b
  kept_nowhere e =
      ap (λ (rs : List Row). record {
        count = l.count;
        total = l.total;
        own = l.own;
        genesis = l.genesis;
        armed = l.armed;
        stakes = l.stakes;
        rows = rs;
      }) (sym (set-get_or l.rows s no_row))
      ∙ ap (λ (ks : List Block). put_blocks l s ks) (sym (set_out (blocks_at l s) _ b (ltb-false _ _ (cond_none _ _ (sym e)))))
      ∙ at_place _ refl
