-- The rules cast own votes alone: what others name stays, and so do the bounds. Assumes nothing.
use mathlib.Core.Path.{◌≡◌, refl, sym, ap, ◌∙◌}
use mathlib.Core.Bool.{true}
use mathlib.Core.List.{List}
use Prim.Native.Nat.{ℕ, ◌≤◌}
use native.Mathlib.Omega.{arith}
use lib.Dec.{eqb}
use borrow.Author.Tests.{eqb-false}
use Rattle.rulebook.specs.Weights.{weight}
use Rattle.rulebook.specs.Ledger.{Ledger, cell_at}
use Rattle.rulebook.specs.Votes.{store_vote}
use Rattle.rulebook.specs.Rules.{State, cast}
use Rattle.rulebook.specs.Run.{scan, run}
use Rattle.rule_laws.proofs.ToolLaws.{by_test, or_cases, or_left, or_right, true_not_false}
use Rattle.rule_laws.proofs.WeightLaws.{weight_mono}
use Rattle.settling.specs.Facts.{Sound}
use Rattle.settling.specs.Steps.{Lawful}
use Rattle.settling.proofs.Weighing.{row_cells, stored_cases}
use Rattle.settling.proofs.Sounding.{own_in, own_placed, sound_vote, sound_final, sound_clash, sound_armed}
use Rattle.settling.proofs.LawfulRules.{scan_keeps, run_keeps}
use Rattle.parents.specs.Naming.{names_some}
use Rattle.looks.specs.Looks.{is_beside, named_beside, Bounds}

-- The two ledgers have one table, and of every node but the own one the same votes.
pub record OthersStay (l m : Ledger) : Type 0 where
  pub own : m.own ≡ l.own
  pub count : m.count ≡ l.count
  pub stakes : m.stakes ≡ l.stakes
  pub cells : (s n : ℕ) → (n ≡ l.own → ⊥) → cell_at m s n ≡ cell_at l s n

pub others_same : (l : Ledger) → OthersStay l l
others_same l = record { own = refl; count = refl; stakes = refl; cells = λ s n h. refl }

module _ {l m : Ledger} (e : OthersStay l m) where
  still_beside : (s i : ℕ) → is_beside m s i ≡ true → is_beside l s i ≡ true
  unfolding is_beside
  still_beside s i t =
      by_test (eqb i l.own) (λ u. or_left (eqb i l.own) (names_some (cell_at l s i)) u)
      (λ u.
      or_right (eqb i l.own) (names_some (cell_at l s i))
      (or_cases (eqb i m.own) (names_some (cell_at m s i)) t
      (λ w. true_not_false (eqb i l.own) (ap (eqb i) (sym e.own) ∙ w) u)
      (λ w. ap names_some (sym (e.cells s i (eqb-false i l.own u))) ∙ w)))

  beside_stays : (s : ℕ) → named_beside m s ≤ named_beside l s
  unfolding named_beside
  beside_stays s =
      let same : weight m.stakes m.count (is_beside m s) ≡ weight l.stakes l.count (is_beside m s) = (λ i. weight (e.stakes i) (e.count i) (is_beside m s)) in
      omega (arith, same, weight_mono l.stakes l.count (is_beside m s) (is_beside l s) (λ i h. still_beside s i))

  pub bounds_stay : (looks : List ℕ) → Bounds l looks → Bounds m looks
  bounds_stay looks b = record { each = λ s h. omega (arith, beside_stays s, b.each s h) }

-- A sound state in which others' votes are those of l.
abbrev Others : Ledger → State → Type 0
Others l o = Sound o.ledger × OthersStay l o.ledger

others_lawful : (l : Ledger) → Lawful (Others l)
unfolding cast store_vote
others_lawful l =
    record {
      sound = λ o h. h.0;
      vote = λ o s k b low high v e m w h.
          let mine = own_in o.ledger h.0 v in (
            sound_vote o.ledger h.0 s low high o.ledger.own k b mine e m (λ _. w),
            record {
              own = h.1.own;
              count = h.1.count;
              stakes = h.1.stakes;
              cells = λ t n ne.
                  stored_cases o.ledger h.0.shaped s o.ledger.own k b high (own_placed o.ledger h.0 mine) e (λ t n c. (n ≡ l.own → ⊥) → c ≡ cell_at l t n)
                  (λ x. absurd (x h.1.own)) h.1.cells t n ne;
            },
          );
      arm = λ o s low high e h.
          (sound_armed o.ledger h.0 s low high, record { own = h.1.own; count = h.1.count; stakes = h.1.stakes; cells = h.1.cells });
      tell = λ o s b low high e m h. (
        sound_final o.ledger h.0 s low high b,
        record {
          own = h.1.own;
          count = h.1.count;
          stakes = h.1.stakes;
          cells = λ t n ne. row_cells o.ledger s _ (omega (arith, h.0.shaped.rows, high)) refl t n ∙ h.1.cells t n ne;
        },
      );
      clash = λ o s b low high e h. (
        sound_clash o.ledger h.0 s low high,
        record {
          own = h.1.own;
          count = h.1.count;
          stakes = h.1.stakes;
          cells = λ t n ne. row_cells o.ledger s _ (omega (arith, h.0.shaped.rows, high)) refl t n ∙ h.1.cells t n ne;
        },
      );
    }

module _ (o : State) (h : Sound o.ledger) (looks : List ℕ) (b : Bounds o.ledger looks) where
  pub bounds_scan : Bounds (scan o).ledger looks
  bounds_scan = bounds_stay (scan_keeps (Others o.ledger) (others_lawful o.ledger) o (h, others_same o.ledger)).1 looks b

  pub bounds_run : Bounds (run o).ledger looks
  bounds_run = bounds_stay (run_keeps (Others o.ledger) (others_lawful o.ledger) o (h, others_same o.ledger)).1 looks b
