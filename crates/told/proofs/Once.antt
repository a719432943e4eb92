-- The marks of a ledger that count its records: final blocks, others, armed windows, own votes.
use mathlib.Core.Path.{◌≡◌, refl, sym, ap, ◌∙◌, subst}
use mathlib.Core.Bool.{Bool, true, false, not, ◌&&◌, ◌||◌}
use mathlib.Core.List.{List}
use Prim.Native.Nat.{ℕ, zero, suc, ◌+◌, ◌<◌, ◌≤◌}
use native.Mathlib.Omega.{arith}
use lib.ListN.{length, get_or, set, replicate}
use lib.Seq.{get_or-set_same, get_or-set_other}
use lib.Dec.{T, eqb}
use borrow.Author.Tests.{eqb-true, eqb-false, eq-eqb, ne_eqb, not-false}
use Rattle.rulebook.specs.declared.Cell.{Cell}
use Rattle.rulebook.specs.declared.VoteKind.{VoteKind}
use Rattle.rulebook.specs.declared.VoteKind.TheVariants as vote
use Rattle.rulebook.specs.declared.Place.TheVariants.{Free, Taken}
use Rattle.rulebook.specs.Tools.{part}
use Rattle.rulebook.specs.Weights.{places_for, last_slot, windows, window_of}
use Rattle.rulebook.specs.PaperNumbers.{vote_number}
use Rattle.rulebook.specs.Ledger.{Ledger, Row, none, no_cell, no_initial, no_row, blank_row, places, is_watcher, is_armed, row_at, own_cell, put_row, put_armed, put_final, put_clash, fresh}
use Rattle.rulebook.specs.Pool.{has_fallback}
use Rattle.rulebook.specs.Votes.{place_of, with_vote, fill_fallback, store_vote}
use Rattle.rulebook.specs.Rules.{Record, record_of}
use Rattle.rulebook.specs.Inputs.{misfits}
use Rattle.rule_laws.proofs.ToolLaws.{by_test, same_test, true_not_false, part_on, part_off, and_both}
use Rattle.recounting.proofs.Storing.{place_free}
use Rattle.settling.specs.Facts.{Sound}
use Rattle.settling.proofs.Places.{row_there, row_else, row_cases, window_low}
use Rattle.rulebook.specs.Cards.{tallied, change_of}
use Rattle.settling.proofs.Sounding.{own_in, own_placed}
use Rattle.safety.specs.Slot.{Ballot, notar, notar_fallback, skip, skip_fallback, final}
use Rattle.safety.specs.Ballots.{kind_of, block_of, has, with_ballot, record_for, same_record}
use Rattle.safety.specs.Moves.{room_for}
use Rattle.safety.proofs.Tests.{T_true, true_t, T_and}
use Rattle.safety.proofs.Cells.{stored_has, stored_only, kept_stored, kept_has}
use Rattle.safety.proofs.Along.{same_ballot}
use Rattle.told.specs.Told.{tells, arms, opens}
use Rattle.told.proofs.Counting.{Counts}

-- ---- tests

-- One of two tests fails.
left_off : (a b : Bool) → a ≡ false → (a && b) ≡ false
left_off a b e = rw e refl

right_off : (a b : Bool) → b ≡ false → (a && b) ≡ false
right_off false b e = refl
right_off true b e = e

left_on : (a b : Bool) → a ≡ true → (a && b) ≡ b
left_on a b e = rw e refl

and_true : (a : Bool) → (a && true) ≡ a
and_true true = refl
and_true false = refl

-- A record that does not pass adds nothing.
adds_none : (t : Bool) (x y : ℕ) → t ≡ false → x ≡ y → x ≡ part t 1 + y
adds_none t x y e q = omega (arith, part_off t 1 e, q)

-- One that passes adds one where nothing was.
adds_one : (a t b : Bool) → a ≡ true → t ≡ true → b ≡ false → part a 1 ≡ part t 1 + part b 1
adds_one a t b ea et eb = omega (arith, part_on a 1 ea, part_on t 1 et, part_off b 1 eb)

-- A vote has none of the kinds 6, 7 and 8.
pub vote_low : (k : VoteKind) → vote_number k ≤ 5
unfolding vote_number
vote_low vote.Notar = omega arith
vote_low vote.NotarFallback = omega arith
vote_low vote.Skip = omega arith
vote_low vote.SkipFallback = omega arith
vote_low vote.Final = omega arith
vote_low vote.Other = omega arith

no_vote_lem : (k : VoteKind) (n : ℕ) → 6 ≤ n → eqb (vote_number k) n ≡ false
no_vote_lem k n h = ne_eqb (vote_number k) n (λ e. omega (arith, vote_low k))

-- ---- rows

module _ (l : Ledger) (h : Sound l) (t : ℕ) (high : t ≤ last_slot) where
  there : t < length l.rows
  there = omega (arith, h.shaped.rows)

  -- A vote leaves the marks of every row.
  vote_final : (n : ℕ) (k : VoteKind) (b s : ℕ) → (row_at (store_vote l t n k b) s).final ≡ (row_at l s).final
  unfolding store_vote
  vote_final n k b s = row_cases l t _ (λ i x. x.final ≡ (row_at l i).final) s there refl (λ _. refl)

  vote_clash : (n : ℕ) (k : VoteKind) (b s : ℕ) → (row_at (store_vote l t n k b) s).clash ≡ (row_at l s).clash
  unfolding store_vote
  vote_clash n k b s = row_cases l t _ (λ i x. x.clash ≡ (row_at l i).clash) s there refl (λ _. refl)

  -- A mark leaves the cells of every row, and the other mark.
  marked_own : (r : Row) → r.cells ≡ (row_at l t).cells → (s : ℕ) → own_cell (put_row l t r) s ≡ own_cell l s
  marked_own r e s = row_cases l t r (λ i x. get_or x.cells l.own no_cell ≡ own_cell l i) s there (ap (λ (cs : List Cell). get_or cs l.own no_cell) e) (λ _. refl)

  marked_final : (r : Row) → r.final ≡ (row_at l t).final → (s : ℕ) → (row_at (put_row l t r) s).final ≡ (row_at l s).final
  marked_final r e s = row_cases l t r (λ i x. x.final ≡ (row_at l i).final) s there e (λ _. refl)

  marked_clash : (r : Row) → r.clash ≡ (row_at l t).clash → (s : ℕ) → (row_at (put_row l t r) s).clash ≡ (row_at l s).clash
  marked_clash r e s = row_cases l t r (λ i x. x.clash ≡ (row_at l i).clash) s there e (λ _. refl)

  -- The own cell of a vote's slot has the vote, those of other slots stay.
  module _ (mine : l.own < places l) (k : VoteKind) (b : ℕ) where
    abbrev voted : Row
    voted =
        let r = row_at l t in
        record { blocks = r.blocks; timed_out = r.timed_out; final = r.final; clash = r.clash; card = tallied r.card (change_of l t l.own k b); certificates = r.certificates; cells = set r.cells l.own (with_vote (own_cell l t) k b) }

    own_here : own_cell (store_vote l t l.own k b) t ≡ with_vote (own_cell l t) k b
    unfolding store_vote
    own_here =
        ap (λ (r : Row). get_or r.cells l.own no_cell) (row_there l t voted there)
        ∙ get_or-set_same (row_at l t).cells l.own (with_vote (own_cell l t) k b) no_cell (omega (arith, h.shaped.cells t (omega arith), mine))

    own_else : (s : ℕ) → (s ≡ t → ⊥) → own_cell (store_vote l t l.own k b) s ≡ own_cell l s
    unfolding store_vote
    own_else s ne = ap (λ (r : Row). get_or r.cells l.own no_cell) (row_else l t voted s ne)

-- ---- final blocks

-- The final mark of slot s is on.
abbrev pub final_on : ℕ → Ledger → ℕ
final_on s l = part (not (none (row_at l s).final)) 1

pub final_counts : (s : ℕ) → Counts (tells 6 s) (final_on s)
final_counts s =
    record {
      vote = λ l h w t k b low high e m.
          adds_none (eqb (vote_number k) 6 && eqb t s) (final_on s (store_vote l t l.own k b)) (final_on s l) (left_off (eqb (vote_number k) 6) (eqb t s) (no_vote_lem k 6 (omega arith)))
          (ap (λ (x : ℕ). part (not (none x)) 1) (vote_final l h t high l.own k b s));
      arm = λ l h t low high e. adds_none false (final_on s l) (final_on s l) refl refl;
      tell = λ l h t b low high e m.
          row_cases l t _ (λ i x. part (not (none x.final)) 1 ≡ part (eqb t i) 1 + final_on i l) s (there l h t high)
          (adds_one (not (none b)) (eqb t t) (not (none (row_at l t).final)) (ap not m) (eq-eqb t t refl) (ap not e))
          (λ ne. adds_none (eqb t s) (final_on s l) (final_on s l) (ne_eqb t s (λ q. ne (sym q))) refl);
      clash = λ l h t b low high e. adds_none false (final_on s (put_clash l t)) (final_on s l) refl (ap (λ (x : ℕ). part (not (none x)) 1) (marked_final l h t high _ refl s));
      rest = λ l m same. ap (λ (x : ℕ). part (not (none x)) 1) (same.final s);
    }

-- The final mark of slot s is b.
abbrev pub final_is : ℕ → ℕ → Ledger → ℕ
final_is s b l = part (not (none b) && eqb (row_at l s).final b) 1

-- A slot without a final block comes to have block c.
new_final_lem : (b c x : ℕ) (t : Bool) → t ≡ true → none x ≡ true → none c ≡ false → part (not (none b) && eqb c b) 1 ≡ part (t && eqb c b) 1 + part (not (none b) && eqb x b) 1
new_final_lem b c x t et ex ec =
    by_test (none b)
    (λ q.
    let z : eqb c b ≡ false = ap (eqb c) (eqb-true b 0 q) ∙ ec in
    omega (arith, part_off _ 1 (left_off (not (none b)) (eqb c b) (ap not q)), part_off _ 1 (right_off t (eqb c b) z), part_off _ 1 (left_off (not (none b)) (eqb x b) (ap not q))))
    (λ q.
    let z : eqb x b ≡ false = ne_eqb x b (λ w. eqb-false b 0 q (sym w ∙ eqb-true x 0 ex)) in
    omega (
      arith,
      ap (λ (a : Bool). part a 1) (left_on (not (none b)) (eqb c b) (ap not q)),
      ap (λ (a : Bool). part a 1) (left_on t (eqb c b) et),
      part_off _ 1 (right_off (not (none b)) (eqb x b) z),
    ))

pub block_counts : (s b : ℕ) → Counts (λ r. same_record r (record_of 6 s b)) (final_is s b)
block_counts s b =
    record {
      vote = λ l h w t k c low high e m.
          adds_none (eqb (vote_number k) 6 && (eqb t s && eqb c b)) (final_is s b (store_vote l t l.own k c)) (final_is s b l) (left_off (eqb (vote_number k) 6) (eqb t s && eqb c b) (no_vote_lem k 6 (omega arith)))
          (ap (λ (x : ℕ). part (not (none b) && eqb x b) 1) (vote_final l h t high l.own k c s));
      arm = λ l h t low high e. adds_none false (final_is s b l) (final_is s b l) refl refl;
      tell = λ l h t c low high e m.
          row_cases l t _ (λ i x. part (not (none b) && eqb x.final b) 1 ≡ part (eqb t i && eqb c b) 1 + final_is i b l) s (there l h t high)
          (new_final_lem b c (row_at l t).final (eqb t t) (eq-eqb t t refl) e m)
          (λ ne. adds_none (eqb t s && eqb c b) (final_is s b l) (final_is s b l) (left_off (eqb t s) (eqb c b) (ne_eqb t s (λ q. ne (sym q)))) refl);
      clash = λ l h t c low high e. adds_none false (final_is s b (put_clash l t)) (final_is s b l) refl (ap (λ (x : ℕ). part (not (none b) && eqb x b) 1) (marked_final l h t high _ refl s));
      rest = λ l m same. ap (λ (x : ℕ). part (not (none b) && eqb x b) 1) (same.final s);
    }

-- ---- another

-- The mark of another of slot s is on.
abbrev pub another_on : ℕ → Ledger → ℕ
another_on s l = part (not (none (row_at l s).clash)) 1

pub another_counts : (s : ℕ) → Counts (tells 8 s) (another_on s)
another_counts s =
    record {
      vote = λ l h w t k b low high e m.
          adds_none (eqb (vote_number k) 8 && eqb t s) (another_on s (store_vote l t l.own k b)) (another_on s l) (left_off (eqb (vote_number k) 8) (eqb t s) (no_vote_lem k 8 (omega arith)))
          (ap (λ (x : ℕ). part (not (none x)) 1) (vote_clash l h t high l.own k b s));
      arm = λ l h t low high e. adds_none false (another_on s l) (another_on s l) refl refl;
      tell = λ l h t b low high e m. adds_none false (another_on s (put_final l t b)) (another_on s l) refl (ap (λ (x : ℕ). part (not (none x)) 1) (marked_clash l h t high _ refl s));
      clash = λ l h t b low high e.
          row_cases l t _ (λ i x. part (not (none x.clash)) 1 ≡ part (eqb t i) 1 + another_on i l) s (there l h t high)
          (adds_one true (eqb t t) (not (none (row_at l t).clash)) refl (eq-eqb t t refl) (ap not e))
          (λ ne. adds_none (eqb t s) (another_on s l) (another_on s l) (ne_eqb t s (λ q. ne (sym q))) refl);
      rest = λ l m same. ap (λ (x : ℕ). part (not (none x)) 1) (same.clash s);
    }

-- ---- armed windows

-- Window w is armed.
abbrev pub armed_on : ℕ → Ledger → ℕ
armed_on w l = part (not (none (get_or l.armed w 0))) 1

window_armed : (l : Ledger) → Sound l → (t : ℕ) → 1 ≤ t → t ≤ last_slot → is_armed l t ≡ false → (w : ℕ) → armed_on w (put_armed l t) ≡ part (eqb (window_of t) w) 1 + armed_on w l
window_armed l h t low high e w =
    by_test (eqb (window_of t) w)
    (λ q.
    let z = eqb-true (window_of t) w q in
    subst (λ (i : ℕ). armed_on i (put_armed l t) ≡ part (eqb (window_of t) i) 1 + armed_on i l) z
    (adds_one (not (none (get_or (set l.armed (window_of t) 1) (window_of t) 0))) (eqb (window_of t) (window_of t)) (is_armed l t)
    (ap (λ (x : ℕ). not (none x)) (get_or-set_same l.armed (window_of t) 1 0 (omega (arith, h.shaped.armed, window_low t low high))))
    (eq-eqb (window_of t) (window_of t) refl) e))
    (λ q. adds_none (eqb (window_of t) w) (armed_on w (put_armed l t)) (armed_on w l) q
    (ap (λ (x : ℕ). part (not (none x)) 1) (get_or-set_other l.armed (window_of t) w 1 0 (λ z. eqb-false (window_of t) w q (sym z)))))

vote_armed : (l : Ledger) (t n : ℕ) (k : VoteKind) (b : ℕ) → (store_vote l t n k b).armed ≡ l.armed
unfolding store_vote
vote_armed l t n k b = refl

pub armed_counts : (w : ℕ) → Counts (arms w) (armed_on w)
armed_counts w =
    record {
      vote = λ l h v t k b low high e m.
          adds_none (eqb (vote_number k) 7 && eqb (window_of t) w) (armed_on w (store_vote l t l.own k b)) (armed_on w l) (left_off (eqb (vote_number k) 7) (eqb (window_of t) w) (no_vote_lem k 7 (omega arith)))
          (ap (λ (x : List ℕ). part (not (none (get_or x w 0))) 1) (vote_armed l t l.own k b));
      arm = λ l h t low high e. window_armed l h t low high e w;
      tell = λ l h t b low high e m. adds_none false (armed_on w l) (armed_on w l) refl refl;
      clash = λ l h t b low high e. adds_none false (armed_on w l) (armed_on w l) refl refl;
      rest = λ l m same. ap (λ (x : List ℕ). part (not (none (get_or x w 0))) 1) same.armed;
    }

-- ---- own votes

-- A number g of the own cell of slot s counts the records that pass p, where each vote into a free place adds to it one if it passes q.
module _ (s : ℕ) (p : Record → Bool) (q : VoteKind → ℕ → Bool) (g : Cell → ℕ)
    (votes : (k : VoteKind) (t b : ℕ) → p (record_of (vote_number k) t b) ≡ (q k b && eqb t s))
    (others : (n t b : ℕ) → 6 ≤ n → p (record_of n t b) ≡ false)
    (more : (c : Cell) (k : VoteKind) (b : ℕ) → place_of c k b ≡ Free → misfits k b ≡ false → g (with_vote c k b) ≡ part (q k b) 1 + g c) where
  cell_vote : (l : Ledger) → Sound l → is_watcher l ≡ false → (t : ℕ) (k : VoteKind) (b : ℕ) → 1 ≤ t → t ≤ last_slot → place_of (own_cell l t) k b ≡ Free → misfits k b ≡ false
      → g (own_cell (store_vote l t l.own k b) s) ≡ part (p (record_of (vote_number k) t b)) 1 + g (own_cell l s)
  cell_vote l h w t k b low high e m =
      let mine = own_placed l h (own_in l h w) in
      by_test (eqb t s)
      (λ y.
      let z : t ≡ s = eqb-true t s y in
      let here : own_cell (store_vote l t l.own k b) s ≡ with_vote (own_cell l t) k b = ap (λ (i : ℕ). own_cell (store_vote l t l.own k b) i) (sym z) ∙ own_here l h t high mine k b in
      omega (
        arith,
        ap g here,
        more (own_cell l t) k b e m,
        ap (λ (a : Bool). part a 1) (votes k t b ∙ ap (λ (a : Bool). q k b && a) y ∙ and_true (q k b)),
        ap (λ (i : ℕ). g (own_cell l i)) z,
      ))
      (λ y. adds_none (p (record_of (vote_number k) t b)) _ _ (votes k t b ∙ right_off (q k b) (eqb t s) y)
      (ap g (own_else l h t high mine k b s (λ x. eqb-false t s y (sym x)))))

  cell_counts : Counts p (λ l. g (own_cell l s))
  cell_counts =
      record {
        vote = cell_vote;
        arm = λ l h t low high e. adds_none (p (record_of 7 t 0)) _ _ (others 7 t 0 (omega arith)) refl;
        tell = λ l h t b low high e m. adds_none (p (record_of 6 t b)) _ _ (others 6 t b (omega arith)) (ap g (marked_own l h t high _ refl s));
        clash = λ l h t b low high e. adds_none (p (record_of 8 t b)) _ _ (others 8 t b (omega arith)) (ap g (marked_own l h t high _ refl s));
        rest = λ l m same. ap g (same.own s);
      }

-- ---- initial votes

-- A fallback leaves the initial vote.
fill_open : (x y z : Bool) (c : Cell) (b : ℕ) → no_initial (fill_fallback x y z c b) ≡ no_initial c
unfolding fill_fallback
fill_open true y z c b = refl
fill_open false true z c b = refl
fill_open false false true c b = refl
fill_open false false false c b = refl

-- The own cell has an initial vote.
abbrev pub open_in : Cell → ℕ
open_in c = part (not (no_initial c)) 1

abbrev is_initial : VoteKind → ℕ → Bool
is_initial k b = eqb (vote_number k) 1 || eqb (vote_number k) 3

no_place : {X : Type 0} → Taken ≡ Free → X
no_place e = absurd cc

initial_more : (c : Cell) (k : VoteKind) (b : ℕ) → place_of c k b ≡ Free → misfits k b ≡ false → open_in (with_vote c k b) ≡ part (is_initial k b) 1 + open_in c
unfolding place_of with_vote misfits vote_number
initial_more c vote.Notar b e m =
    let p = place_free (eqb c.notar b) (no_initial c) e in
    adds_one (not (none b && none c.skip)) true (not (no_initial c)) (ap not (left_off (none b) (none c.skip) m)) refl (ap not p.1)
initial_more c vote.NotarFallback b e m =
    adds_none false (open_in (with_vote c vote.NotarFallback b)) (open_in c) refl (ap (λ (t : Bool). part (not t) 1) (fill_open (none c.fallback1) (none c.fallback2) (none c.fallback3) c b))
initial_more c vote.Skip b e m =
    let p = place_free (not (none c.skip)) (no_initial c) e in
    adds_one (not (none c.notar && false)) true (not (no_initial c)) (ap not (right_off (none c.notar) false refl)) refl (ap not p.1)
initial_more c vote.SkipFallback b e m = adds_none false (open_in c) (open_in c) refl refl
initial_more c vote.Final b e m = adds_none false (open_in c) (open_in c) refl refl
initial_more c vote.Other b e m = no_place e

not_initial : (n t s : ℕ) → 6 ≤ n → ((eqb n 1 || eqb n 3) && eqb t s) ≡ false
not_initial n t s h = rw (ne_eqb n 1 (λ e. omega arith), ne_eqb n 3 (λ e. omega arith)) refl

pub initial_counts : (s : ℕ) → Counts (opens s) (λ l. open_in (own_cell l s))
initial_counts s = cell_counts s (opens s) is_initial open_in (λ k t b. refl) (λ n t b h. not_initial n t s h) initial_more

-- ---- each vote

-- A vote that finds a free place, as a ballot.
pub as_ballot : {X : Type 0} (c : Cell) (k : VoteKind) (b : ℕ) → place_of c k b ≡ Free → misfits k b ≡ false
    → ((u : Ballot) → k ≡ kind_of u → b ≡ block_of u → T (room_for c u) → has c u ≡ false → X) → X
unfolding place_of misfits
as_ballot c vote.Notar b e m f =
    let p = place_free (eqb c.notar b) (no_initial c) e in
    f (notar b) refl refl (T_and (not (none b)) (no_initial c) (true_t (not (none b)) (ap not m)) (true_t (no_initial c) p.1)) (right_off (not (none b)) (eqb c.notar b) p.0)
as_ballot c vote.NotarFallback b e m f =
    let p = place_free (has_fallback b c) (none c.fallback3) e in
    f (notar_fallback b) refl refl
    (T_and (not (none b)) (none c.fallback3 && not (has_fallback b c)) (true_t (not (none b)) (ap not m))
    (T_and (none c.fallback3) (not (has_fallback b c)) (true_t (none c.fallback3) p.1) (true_t (not (has_fallback b c)) (ap not p.0))))
    (right_off (not (none b)) (has_fallback b c) p.0)
as_ballot c vote.Skip b e m f =
    let p = place_free (not (none c.skip)) (no_initial c) e in
    f skip refl (eqb-true b 0 (not-false (none b) m)) (true_t (no_initial c) p.1) p.0
as_ballot c vote.SkipFallback b e m f =
    let p = place_free (not (none c.skipfallback)) true e in f skip_fallback refl (eqb-true b 0 (not-false (none b) m)) tt p.0
as_ballot c vote.Final b e m f =
    let p = place_free (not (none c.finalvote)) true e in f final refl (eqb-true b 0 (not-false (none b) m)) tt p.0
as_ballot c vote.Other b e m f = no_place e

-- The kind and block of a ballot.
abbrev pub is_ballot : Ballot → VoteKind → ℕ → Bool
is_ballot v k b = eqb (vote_number k) (vote_number (kind_of v)) && eqb b (block_of v)

ballot_more : (c : Cell) (u v : Ballot) → T (room_for c u) → has c u ≡ false → part (has (with_ballot c u) v) 1 ≡ part (is_ballot v (kind_of u) (block_of u)) 1 + part (has c v) 1
ballot_more c u v room gone =
    by_test (is_ballot v (kind_of u) (block_of u))
    (λ q.
    let p = and_both (eqb (vote_number (kind_of u)) (vote_number (kind_of v))) (eqb (block_of u) (block_of v)) q in
    let z : u ≡ v = same_ballot u v (true_t _ p.0) (true_t _ p.1) in
    adds_one (has (with_ballot c u) v) (is_ballot v (kind_of u) (block_of u)) (has c v) (subst (λ (x : Ballot). has (with_ballot c u) x ≡ true) z (T_true (has (with_ballot c u) u) (stored_has c u room))) q
    (subst (λ (x : Ballot). has c x ≡ false) z gone))
    (λ q. adds_none (is_ballot v (kind_of u) (block_of u)) (part (has (with_ballot c u) v) 1) (part (has c v) 1) q
    (ap (λ (t : Bool). part t 1) (same_test (has (with_ballot c u) v) (has c v)
    (λ t. stored_only c u v (true_t (has (with_ballot c u) v) t) (λ z. true_not_false (is_ballot v (kind_of u) (block_of u)) (same_is u v z) q) (λ x. T_true (has c v) x))
    (λ t. T_true (has (with_ballot c u) v) (kept_has c (with_ballot c u) v (kept_stored c u room) (true_t (has c v) t))))))
  where
    same_is : (x y : Ballot) → x ≡ y → is_ballot y (kind_of x) (block_of x) ≡ true
    same_is x y z =
        subst (λ (w : Ballot). is_ballot w (kind_of x) (block_of x) ≡ true) z (rw (eq-eqb (vote_number (kind_of x)) (vote_number (kind_of x)) refl, eq-eqb (block_of x) (block_of x) refl) refl)

pub vote_more : (v : Ballot) (c : Cell) (k : VoteKind) (b : ℕ) → place_of c k b ≡ Free → misfits k b ≡ false → part (has (with_vote c k b) v) 1 ≡ part (is_ballot v k b) 1 + part (has c v) 1
vote_more v c k b e m =
    as_ballot c k b e m (λ u p q room gone. subst (λ (j : VoteKind). part (has (with_vote c j b) v) 1 ≡ part (is_ballot v j b) 1 + part (has c v) 1) (sym p)
    (subst (λ (x : ℕ). part (has (with_vote c (kind_of u) x) v) 1 ≡ part (is_ballot v (kind_of u) x) 1 + part (has c v) 1) (sym q) (ballot_more c u v room gone)))

-- The last two of three tests exchanged.
three_tests : (x y z : Bool) → (x && (y && z)) ≡ ((x && z) && y)
three_tests false y z = refl
three_tests true true true = refl
three_tests true true false = refl
three_tests true false true = refl
three_tests true false false = refl

pub vote_counts : (s : ℕ) (v : Ballot) → Counts (λ r. same_record r (record_for s v)) (λ l. part (has (own_cell l s) v) 1)
vote_counts s v =
    cell_counts s (λ r. same_record r (record_for s v)) (is_ballot v) (λ c. part (has c v) 1)
    (λ k t b. three_tests (eqb (vote_number k) (vote_number (kind_of v))) (eqb t s) (eqb b (block_of v)))
    (λ n t b h. left_off (eqb n (vote_number (kind_of v))) (eqb t s && eqb b (block_of v)) (ne_eqb n (vote_number (kind_of v)) (λ e. omega (arith, vote_low (kind_of v)))))
    (vote_more v)

-- ---- a fresh start

get_d_all : {A : Type 0} (P : A → Type 0) (k : ℕ) (x : A) (i : ℕ) (d : A) → P x → P d → P (get_or (replicate k x) i d)
get_d_all P zero x i d p q = q
get_d_all P (suc k) x zero d p q = p
get_d_all P (suc k) x (suc i) d p q = get_d_all P k x i d p q

module _ (ws : List ℕ) (me g : ℕ) where
  fresh_row : {A : Type 0} (f : Row → A) (x : A) (s : ℕ) → ((n : ℕ) → f (blank_row n) ≡ x) → f (row_at (fresh ws me g) s) ≡ x
  unfolding fresh no_row
  fresh_row f x s e = get_d_all (λ (r : Row). f r ≡ x) (suc last_slot) (blank_row (places_for (length ws))) s (blank_row 0) (e (places_for (length ws))) (e 0)

  pub fresh_final : (s : ℕ) → (row_at (fresh ws me g) s).final ≡ 0
  unfolding blank_row
  fresh_final s = fresh_row (λ (r : Row). r.final) 0 s (λ n. refl)

  pub fresh_clash : (s : ℕ) → (row_at (fresh ws me g) s).clash ≡ 0
  unfolding blank_row
  fresh_clash s = fresh_row (λ (r : Row). r.clash) 0 s (λ n. refl)

  pub fresh_armed : (w : ℕ) → get_or (fresh ws me g).armed w 0 ≡ 0
  unfolding fresh
  fresh_armed w = get_d_all (λ (x : ℕ). x ≡ 0) windows 0 w 0 refl refl
