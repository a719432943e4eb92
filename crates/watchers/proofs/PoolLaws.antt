-- Two ledgers with the same pool: what is written in both, or in one beside the pool, leaves it so, and the same is held. Assumes nothing.
use mathlib.Core.Path.{◌≡◌, refl, sym, ap, ◌∙◌}
use mathlib.Core.Bool.{◌||◌}
use mathlib.Core.List.{List}
use Prim.Native.Nat.{ℕ, ◌≤◌, ◌<◌}
use native.Mathlib.Omega.{arith}
use lib.ListN.{length, get_or, set, take, get_or-map}
use lib.Seq.{map-set_same}
use Rattle.rulebook.specs.declared.Block.{Block}
use Rattle.rulebook.specs.declared.CertificateKind.{CertificateKind}
use Rattle.rulebook.specs.declared.VoteKind.{VoteKind}
use Rattle.rulebook.specs.declared.Who.TheVariants as who
use Rattle.rulebook.specs.Weights.{last_slot, stake_in, weight, reaches}
use Rattle.rulebook.specs.Certificates.{Certificate}
use Rattle.rulebook.specs.PaperNumbers.{kind_in}
use Rattle.rulebook.specs.Ledger.{Ledger, Row, no_cell, no_row, row_at, table_of, fill_block, put_row, put_armed, put_timed_out, put_final, put_clash}
use Rattle.rulebook.specs.Pool.{counts, weigh, weighs, signers_of, fifths_of, reached, some_kept, is_for, kept_as, held}
use Rattle.rulebook.specs.Cards.{tallied, adds, change_of}
use Rattle.rulebook.specs.Votes.{with_vote, store_vote}
use Rattle.rulebook.specs.Inputs.{keep_block}
use Rattle.rulebook.specs.Taking.{fill_kept, kept_of, keep_certificate}
use Rattle.settling.specs.Facts.{Sound}
use Rattle.settling.proofs.Places.{row_there, row_else, row_cases}
use Rattle.watchers.specs.Watching.{SamePool}

-- ---- one field of every row

-- A row was written that has the same there.
field_kept : {A : Type 0} (f : Row → A) (l : Ledger) (s : ℕ) (r : Row) → f r ≡ f (row_at l s) → (t : ℕ) → f (row_at (put_row l s r) t) ≡ f (row_at l t)
field_kept {A = A} f l s r e t =
    sym (get_or-map f (set l.rows s r) t no_row) ∙ ap (λ (xs : List A). get_or xs t (f no_row)) (map-set_same f l.rows s r no_row e) ∙ get_or-map f l.rows t no_row

-- Rows were written in both that have the same there.
field_both : {A : Type 0} (f : Row → A) (l m : Ledger) (s : ℕ) (q r : Row) → s < length l.rows → s < length m.rows → f r ≡ f q
    → ((t : ℕ) → f (row_at m t) ≡ f (row_at l t)) → (t : ℕ) → f (row_at (put_row m s r) t) ≡ f (row_at (put_row l s q) t)
field_both f l m s q r a b e g t =
    row_cases m s r (λ i x. f x ≡ f (row_at (put_row l s q) i)) t b (e ∙ sym (ap f (row_there l s q a))) (λ ne. g t ∙ sym (ap f (row_else l s q t ne)))

-- ---- one after the other

pub same_pool : (l : Ledger) → SamePool l l
same_pool l =
    record { count = refl; total = refl; genesis = refl; stakes = refl; cells = λ s. refl; blocks = λ s. refl; certificates = λ s. refl; cards = λ s. refl }

pub pool_back : {l m : Ledger} → SamePool l m → SamePool m l
pool_back e =
    record {
      count = sym e.count;
      total = sym e.total;
      genesis = sym e.genesis;
      stakes = sym e.stakes;
      cells = λ s. sym (e.cells s);
      blocks = λ s. sym (e.blocks s);
      certificates = λ s. sym (e.certificates s);
      cards = λ s. sym (e.cards s);
    }

pub pool_then : {l m n : Ledger} → SamePool l m → SamePool m n → SamePool l n
pool_then a b =
    record {
      count = b.count ∙ a.count;
      total = b.total ∙ a.total;
      genesis = b.genesis ∙ a.genesis;
      stakes = b.stakes ∙ a.stakes;
      cells = λ s. b.cells s ∙ a.cells s;
      blocks = λ s. b.blocks s ∙ a.blocks s;
      certificates = λ s. b.certificates s ∙ a.certificates s;
      cards = λ s. b.cards s ∙ a.cards s;
    }

-- ---- written beside the pool

module _ (l : Ledger) (s : ℕ) where
  -- A row whose marks alone are others.
  pool_marked : (r : Row) → r.cells ≡ (row_at l s).cells → r.blocks ≡ (row_at l s).blocks → r.certificates ≡ (row_at l s).certificates → r.card ≡ (row_at l s).card
      → SamePool l (put_row l s r)
  pool_marked r a b c d =
      record {
        count = refl;
        total = refl;
        genesis = refl;
        stakes = refl;
        cells = field_kept (λ x. x.cells) l s r a;
        blocks = field_kept (λ x. x.blocks) l s r b;
        certificates = field_kept (λ x. x.certificates) l s r c;
        cards = field_kept (λ x. x.card) l s r d;
      }

  pub pool_timed_out : SamePool l (put_timed_out l s)
  pool_timed_out = pool_marked _ refl refl refl refl

  pub pool_final : (b : ℕ) → SamePool l (put_final l s b)
  pool_final b = pool_marked _ refl refl refl refl

  pub pool_clash : SamePool l (put_clash l s)
  pool_clash = pool_marked _ refl refl refl refl

  pub pool_armed : SamePool l (put_armed l s)
  pool_armed =
      record { count = refl; total = refl; genesis = refl; stakes = refl; cells = λ t. refl; blocks = λ t. refl; certificates = λ t. refl; cards = λ t. refl }

-- ---- the same written in both

module _ {l m : Ledger} (e : SamePool l m) (g : Sound l) (h : Sound m) where
  module _ (s : ℕ) (high : s ≤ last_slot) where
    row_in : s < length l.rows
    row_in = omega (arith, g.shaped.rows)

    row_in_too : s < length m.rows
    row_in_too = omega (arith, h.shaped.rows)

    pub pool_stored : (n : ℕ) (k : VoteKind) (b : ℕ) → SamePool (store_vote l s n k b) (store_vote m s n k b)
    unfolding store_vote change_of weigh
    pool_stored n k b =
        record {
          count = e.count;
          total = e.total;
          genesis = e.genesis;
          stakes = e.stakes;
          cells = field_both (λ x. x.cells) l m s _ _ row_in row_in_too (λ i. set (e.cells s i) n (with_vote (get_or (e.cells s i) n no_cell) k b)) e.cells;
          blocks = field_both (λ x. x.blocks) l m s _ _ row_in row_in_too (e.blocks s) e.blocks;
          certificates = field_both (λ x. x.certificates) l m s _ _ row_in row_in_too (e.certificates s) e.certificates;
          cards =
              field_both (λ x. x.card) l m s _ _ row_in row_in_too
              (λ i. tallied (e.cards s i) (adds (get_or (e.cells s i) n no_cell) k b (stake_in (e.stakes i) n) (weight (e.stakes i) (e.count i) (λ j. counts (who.Notar b) (get_or (e.cells s i) j no_cell)))))
              e.cards;
        }

    pub pool_blocked : (b : Block) → SamePool (keep_block l s b) (keep_block m s b)
    unfolding keep_block
    pool_blocked b =
        record {
          count = e.count;
          total = e.total;
          genesis = e.genesis;
          stakes = e.stakes;
          cells = field_both (λ x. x.cells) l m s _ _ row_in row_in_too (e.cells s) e.cells;
          blocks = field_both (λ x. x.blocks) l m s _ _ row_in row_in_too (λ i. fill_block b (e.blocks s i)) e.blocks;
          certificates = field_both (λ x. x.certificates) l m s _ _ row_in row_in_too (e.certificates s) e.certificates;
          cards = field_both (λ x. x.card) l m s _ _ row_in row_in_too (e.cards s) e.cards;
        }

  pub pool_certified : (c : Certificate) → c.slot ≤ last_slot → SamePool (keep_certificate l c) (keep_certificate m c)
  unfolding keep_certificate
  pool_certified c high =
      let s : ℕ = c.slot in
      let a = row_in s high in
      let b = row_in_too s high in
      record {
        count = e.count;
        total = e.total;
        genesis = e.genesis;
        stakes = e.stakes;
        cells = field_both (λ x. x.cells) l m s _ _ a b (e.cells s) e.cells;
        blocks = field_both (λ x. x.blocks) l m s _ _ a b (e.blocks s) e.blocks;
        certificates = field_both (λ x. x.certificates) l m s _ _ a b (λ i. fill_kept (kind_in (e.count i) c.kind) 0 (kept_of c) (e.certificates s i)) e.certificates;
        cards = field_both (λ x. x.card) l m s _ _ a b (e.cards s) e.cards;
      }

-- ---- what is read of it

module _ {l m : Ledger} (e : SamePool l m) where
  pub pool_held : (k : CertificateKind) (s b : ℕ) → held m k s b ≡ held l k s b
  unfolding held reached weighs weigh kept_as
  pool_held k s b =
      λ i. reaches (fifths_of k) (e.total i) (weight (e.stakes i) (e.count i) (λ n. counts (signers_of k b) (get_or (e.cells s i) n no_cell)))
      || some_kept (is_for k b) 0 (e.certificates s i)

  pub pool_table : table_of m ≡ table_of l
  pool_table = λ i. take (e.count i) (e.stakes i)
