-- What is counted in the rule book's life is counted in what is seen.
use mathlib.Core.Path.{◌≡◌, refl, sym, ap, ◌∙◌, subst}
use mathlib.Core.Bool.{Bool, true, false, not, ◌&&◌, ◌||◌}
use mathlib.Core.List.{List, [], ◌∷◌}
use Prim.Native.Nat.{ℕ, ◌+◌, ◌≤◌}
use native.Mathlib.Omega.{arith}
use lib.Dec.{eqb}
use lib.ListN.{length, get_or}
use borrow.Author.Tests.{eqb-false, ne_eqb}
use Rattle.rulebook.specs.Tools.{part}
use Rattle.rulebook.specs.Ledger.{Ledger, none, no_initial, row_at, own_cell, fresh}
use Rattle.rulebook.specs.Rules.{Record, record_of}
use Rattle.rulebook.specs.Run.{most_records}
use Rattle.rule_laws.proofs.ToolLaws.{by_test, part_le, part_on, part_off}
use Rattle.settling.specs.Facts.{Sound}
use Rattle.settling.proofs.Start.{fresh_sound, watching_sound}
use Rattle.settling.proofs.Life.{life_within}
use Rattle.safety.specs.Slot.{Ballot}
use Rattle.safety.specs.Ballots.{has, record_for, same_record, among}
use Rattle.safety.proofs.Tests.{true_t}
use Rattle.safety.proofs.Lives.{Sized, start_sized, watch_sized, fresh_cell, fresh_has}
use Rattle.seen.specs.Seen.{Seen, ledger_in, LifeSeen, Alive, node, watcher}
use Rattle.told.specs.Told.{count_of, tells, arms, opens, Once, ToldOnce, MarksAreTold, ToldFew}
use Rattle.told.proofs.Counting.{Counts, life_counts}
use Rattle.told.proofs.Once.{final_on, final_counts, final_is, block_counts, another_on, another_counts, armed_on, armed_counts, open_in, initial_counts, vote_counts, fresh_final, fresh_clash, fresh_armed}

-- ---- a life from a fresh ledger

-- What a node's life and a watcher's began with.
pub record Began (stakes : List ℕ) (genesis : ℕ) (v : Seen) : Type 0 where
  pub own : ℕ
  pub size : Sized stakes own
  pub sound : Sound (fresh stakes own genesis)
  pub lived : LifeSeen (fresh stakes own genesis) v

pub alive_began : {stakes : List ℕ} {genesis : ℕ} {v : Seen} → Alive stakes genesis v → Began stakes genesis v
alive_began {stakes} {genesis} (node own h) = record { own = own; size = start_sized stakes own genesis h.started; sound = fresh_sound stakes own genesis h.started; lived = h.lived }
alive_began {stakes} {genesis} (watcher h) = record { own = length stakes; size = watch_sized stakes genesis h.started; sound = watching_sound stakes genesis h.started; lived = h.lived }

-- ---- counted

-- What is counted by a mark that a fresh ledger has not: the mark is the count.
seen_counts : (p : Record → Bool) (f : Ledger → ℕ) → Counts p f → (stakes : List ℕ) (genesis : ℕ) (v : Seen) (a : Began stakes genesis v) → f (fresh stakes a.own genesis) ≡ 0
    → f (ledger_in v) ≡ count_of p v.told
seen_counts p f law stakes genesis v a e =
    let l : Ledger = fresh stakes a.own genesis in
    omega (
      arith,
      ap f a.lived.ledger,
      life_counts p f law l v.came a.sound,
      ap (count_of p) a.lived.records,
      e,
    )

module _ (stakes : List ℕ) (genesis : ℕ) (v : Seen) (a : Began stakes genesis v) where
  abbrev born : Ledger
  born = fresh stakes a.own genesis

  final_told : (s : ℕ) → final_on s (ledger_in v) ≡ count_of (tells 6 s) v.told
  final_told s = seen_counts (tells 6 s) (final_on s) (final_counts s) stakes genesis v a (part_off (not (none (row_at born s).final)) 1 (ap (λ (x : ℕ). not (none x)) (fresh_final stakes a.own genesis s)))

  another_told : (s : ℕ) → another_on s (ledger_in v) ≡ count_of (tells 8 s) v.told
  another_told s = seen_counts (tells 8 s) (another_on s) (another_counts s) stakes genesis v a (part_off (not (none (row_at born s).clash)) 1 (ap (λ (x : ℕ). not (none x)) (fresh_clash stakes a.own genesis s)))

  armed_told : (w : ℕ) → armed_on w (ledger_in v) ≡ count_of (arms w) v.told
  armed_told w = seen_counts (arms w) (armed_on w) (armed_counts w) stakes genesis v a (part_off (not (none (get_or born.armed w 0))) 1 (ap (λ (x : ℕ). not (none x)) (fresh_armed stakes a.own genesis w)))

  initial_told : (s : ℕ) → open_in (own_cell (ledger_in v) s) ≡ count_of (opens s) v.told
  initial_told s = seen_counts (opens s) (λ l. open_in (own_cell l s)) (initial_counts s) stakes genesis v a (ap open_in (fresh_cell stakes a.own genesis s born.own) ∙ part_off false 1 refl)

  vote_told : (s : ℕ) (b : Ballot) → part (has (own_cell (ledger_in v) s) b) 1 ≡ count_of (λ r. same_record r (record_for s b)) v.told
  vote_told s b =
      seen_counts (λ r. same_record r (record_for s b)) (λ l. part (has (own_cell l s) b) 1) (vote_counts s b) stakes genesis v a
      (by_test (has (own_cell born s) b) (λ t. absurd (fresh_has stakes a.own genesis s born.own b (true_t _ t))) (λ t. part_off (has (own_cell born s) b) 1 t))

  once : Once v.told
  once =
      record {
        final = λ s. omega (arith, final_told s, part_le (not (none (row_at (ledger_in v) s).final)) 1);
        another = λ s. omega (arith, another_told s, part_le (not (none (row_at (ledger_in v) s).clash)) 1);
        armed = λ w. omega (arith, armed_told w, part_le (not (none (get_or (ledger_in v).armed w 0))) 1);
        initial = λ s. omega (arith, initial_told s, part_le (not (no_initial (own_cell (ledger_in v) s))) 1);
        vote = λ s b. omega (arith, vote_told s b, part_le (has (own_cell (ledger_in v) s) b) 1);
      }

pub told_once : ToldOnce
told_once stakes genesis v a = once stakes genesis v (alive_began a)

-- ---- marks

-- One of the records passes exactly where the count is not 0.
among_counts : (rs : List Record) (r : Record) → among rs r ≡ not (none (count_of (λ x. same_record x r) rs))
unfolding count_of part
among_counts [] r = refl
among_counts (x ∷ rs) r =
    by_test (same_record x r)
    (λ e. let z : 1 ≤ count_of (λ y. same_record y r) (x ∷ rs) = omega (arith, part_on (same_record x r) 1 e) in
    ap (λ (t : Bool). t || among rs r) e ∙ sym (ap not (ne_eqb (count_of (λ y. same_record y r) (x ∷ rs)) 0 (λ q. omega arith))))
    (λ e. ap (λ (t : Bool). t || among rs r) e ∙ among_counts rs r ∙ ap (λ (n : ℕ). not (none n)) (sym (count_less (same_record x r) (count_of (λ y. same_record y r) rs) e)))
  where
    count_less : (t : Bool) (n : ℕ) → t ≡ false → part t 1 + n ≡ n
    count_less t n e = omega (arith, part_off t 1 e)

-- A test that is counted is on where the count is not 0.
one_on : (t : Bool) (n : ℕ) → part t 1 ≡ n → t ≡ not (none n)
one_on true n e = sym (ap not (ne_eqb n 0 (λ q. omega (arith, e, part_on true 1 refl))))
one_on false n e = let z : n ≡ 0 = omega (arith, e, part_off false 1 refl) in sym (ap (λ (x : ℕ). not (none x)) z)

pub marks_are_told : MarksAreTold
marks_are_told stakes genesis v alive =
    let a = alive_began alive in
    record {
      final = λ s b.
          one_on (not (none b) && eqb (row_at (ledger_in v) s).final b) (count_of (λ r. same_record r (record_of 6 s b)) v.told)
          (seen_counts (λ r. same_record r (record_of 6 s b)) (final_is s b) (block_counts s b) stakes genesis v a (fresh_is s b a.own))
          ∙ sym (among_counts v.told (record_of 6 s b));
      another = λ s. one_on (not (none (row_at (ledger_in v) s).clash)) (count_of (tells 8 s) v.told) (another_told stakes genesis v a s);
      armed = λ w. one_on (not (none (get_or (ledger_in v).armed w 0))) (count_of (arms w) v.told) (armed_told stakes genesis v a w);
      vote = λ s b.
          one_on (has (own_cell (ledger_in v) s) b) (count_of (λ r. same_record r (record_for s b)) v.told) (vote_told stakes genesis v a s b)
          ∙ sym (among_counts v.told (record_for s b));
    }
  where
    no_final_lem : (b x : ℕ) → x ≡ 0 → (not (none b) && eqb x b) ≡ false
    no_final_lem b x e =
        by_test (none b) (λ q. ap (λ (t : Bool). not t && eqb x b) q)
        (λ q. ap (λ (t : Bool). not t && eqb x b) q ∙ ne_eqb x b (λ z. absurd (omega (arith, z, e, eqb-false b 0 q))))

    fresh_is : (s b own : ℕ) → final_is s b (fresh stakes own genesis) ≡ 0
    fresh_is s b own = part_off _ 1 (no_final_lem b (row_at (fresh stakes own genesis) s).final (fresh_final stakes own genesis s))

pub told_few : ToldFew
told_few stakes genesis v alive =
    let a = alive_began alive in
    subst (λ (rs : List Record). length rs ≤ most_records) (sym a.lived.records) (life_within (fresh stakes a.own genesis) v.came a.sound)
