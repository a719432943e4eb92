-- Both starts: the fresh ledger as it is put together, the ways through the code, and what a start leaves. Assumes nothing.
use Rattle.std.specs.Prelude.{⊤, Result, Ok, Err, Some, None}
use mathlib.Core.Path.{◌≡◌, refl, sym, ap, ◌∙◌}
use mathlib.Core.Bool.{Bool, true, false, not, ◌||◌}
use mathlib.Core.List.{List, ◌++◌}
use Prim.Native.Nat.{ℕ, suc, ◌+◌, ◌-◌, ◌<◌, ◌≤◌}
use native.Mathlib.Omega.{arith}
use native.Mathlib.Numerals.{add-one}
use lib.ListN.{length, get_or, set, take, replicate}
use lib.Seq.{take-suc, take-length, length-take-le, set_at, append_snoc}
use lib.Dec.{eqb, leb}
use borrow.Author.Tests.{eq-eqb, ne_eqb}
use Rattle.rulebook.specs.declared.Refusal.{Refusal}
use Rattle.rulebook.specs.declared.Refusal.TheVariants as refusal
use Rattle.rulebook.specs.Weights.{most_nodes, places_for, stakes_fit, total_to}
use Rattle.rulebook.specs.Ledger.{Ledger, none, fresh}
use Rattle.rulebook.specs.Inputs.{refuse_if, start_verdict, watch_verdict}
use Rattle.stakes.specs.declared.LentTable.{LentTable}
use Rattle.stakes.specs.Table.{made_of}
use Rattle.stakes.proofs.Laws.{made_none, made_some, fit_few}
use Rattle.rule_laws.proofs.RuleLaws.{refuse_fine}
use Rattle.rule_laws.proofs.PlaceLaws.{nodes_placed}
use Rattle.rule_laws.proofs.WordLaws.{Words}
use Rattle.settling.specs.Facts.{Sound}
use Rattle.settling.proofs.Start.{fresh_sound, watching_sound}
use Rattle.record.specs.Layout.{record_words, ledger_at, ledger_of}
use Rattle.record.specs.Setting.{no_ledger, put_head, put_stake}
use Rattle.record.proofs.Places.{places_back, sized_long}
use Rattle.record.proofs.Spelled.{long_spelled}
use Rattle.record.proofs.Setup.{ledger_zeros}
use Rattle.soundness.specs.Sound.{sound_words}
use Rattle.starts.specs.Starting.{start_judged, start_answer, start_left, StartOf, watch_judged, WatchOf, begun_judged, BegunOf, SetUp, fresh_to}
use Rattle.soundness.proofs.Laws.{table_sum}
use Rattle.soundness.proofs.InStep.{spelled_sound, spelled_as}

-- ---- the fresh ledger, a stake at a time

pub fresh_start : (stakes : List ℕ) (total own genesis : ℕ) → put_head (no_ledger (places_for (length stakes))) (length stakes) total own genesis ≡ fresh_to stakes 0 total own genesis
unfolding no_ledger fresh_to
fresh_start stakes total own genesis =
    let p : ℕ = places_for (length stakes) in
    let all : p ≡ p - 0 = omega arith in
    λ i. record {
      count = length stakes;
      total = total;
      own = own;
      genesis = genesis;
      armed = replicate 4 0;
      stakes = replicate (all i) 0;
      rows = (no_ledger p).rows;
    }

stake_more : (p : ℕ) (xs : List ℕ) (n : ℕ) → n < length xs → length xs ≤ p
    → set (take n xs ++ replicate (p - n) 0) n (get_or xs n 0) ≡ take (n + 1) xs ++ replicate (p - (n + 1)) 0
stake_more p xs n h few =
    let e : p - n ≡ suc (p - (n + 1)) = omega arith in
    let rest : List ℕ = replicate (p - (n + 1)) 0 in
    ap (λ (k : ℕ). set (take n xs ++ replicate k 0) n (get_or xs n 0)) e
    ∙ set_at (take n xs) 0 rest (get_or xs n 0) n (length-take-le n xs (omega arith))
    ∙ sym (append_snoc (take n xs) (get_or xs n 0) rest)
    ∙ ap (λ (t : List ℕ). t ++ rest) (sym (take-suc xs n 0 h) ∙ ap (λ (k : ℕ). take k xs) (sym (add-one n)))

pub fresh_more : (stakes : List ℕ) (n total own genesis : ℕ) → n < length stakes → length stakes ≤ most_nodes
    → put_stake (fresh_to stakes n total own genesis) n (get_or stakes n 0) ≡ fresh_to stakes (n + 1) total own genesis
unfolding fresh_to
fresh_more stakes n total own genesis h few =
    λ i. record {
      count = length stakes;
      total = total;
      own = own;
      genesis = genesis;
      armed = replicate 4 0;
      stakes = stake_more (places_for (length stakes)) stakes n h (nodes_placed (length stakes) few) i;
      rows = (fresh_to stakes n total own genesis).rows;
    }

pub fresh_done : (stakes : List ℕ) (n total own genesis : ℕ) → n ≡ length stakes → total ≡ total_to stakes (length stakes)
    → fresh_to stakes n total own genesis ≡ fresh stakes own genesis
unfolding fresh_to fresh
fresh_done stakes n total own genesis e t =
    λ i. record {
      count = length stakes;
      total = t i;
      own = own;
      genesis = genesis;
      armed = replicate 4 0;
      stakes = (ap (λ (k : ℕ). take k stakes) e ∙ take-length stakes) i ++ replicate (places_for (length stakes) - e i) 0;
      rows = (fresh stakes own genesis).rows;
    }

-- ---- the loop that puts in the stakes, from words r0 that were cleared and given their head

zeros_hold : (r stakes : List ℕ) (k : ℕ) → r ≡ replicate k 0 → length r ≡ record_words (places_for (length stakes)) → ledger_of r ≡ no_ledger (places_for (length stakes))
zeros_hold r stakes k z long =
    let p : ℕ = places_for (length stakes) in
    ap (λ (q : ℕ). ledger_at q r) (places_back r p long) ∙ ap (ledger_at p) z ∙ ledger_zeros p k

pub stakes_begin : (r0 r1 : List ℕ) (stakes : List ℕ) (k total own genesis : ℕ) → r1 ≡ replicate k 0 → length r1 ≡ record_words (places_for (length stakes))
    → ledger_of r0 ≡ put_head (ledger_of r1) (length stakes) total own genesis
    → ledger_of r0 ≡ fresh_to stakes 0 (ledger_of r0).total (ledger_of r0).own genesis
stakes_begin r0 r1 stakes k total own genesis z long e =
    let b : ledger_of r0 ≡ fresh_to stakes 0 total own genesis =
    e ∙ ap (λ (l : Ledger). put_head l (length stakes) total own genesis) (zeros_hold r1 stakes k z long) ∙ fresh_start stakes total own genesis in
    b ∙ (λ i. fresh_to stakes 0 (sym e i).total (sym e i).own genesis)

pub stakes_more : (r r' stakes : List ℕ) (n total own genesis : ℕ) → ledger_of r ≡ fresh_to stakes n total own genesis
    → ledger_of r' ≡ put_stake (ledger_of r) n (get_or stakes n 0) → n < length stakes → length stakes ≤ most_nodes
    → ledger_of r' ≡ fresh_to stakes (n + 1) total own genesis
stakes_more r r' stakes n total own genesis a b h few = b ∙ ap (λ (l : Ledger). put_stake l n (get_or stakes n 0)) a ∙ fresh_more stakes n total own genesis h few

pub stakes_end : (r r0 r1 stakes : List ℕ) (n total own genesis : ℕ) → ledger_of r ≡ fresh_to stakes n (ledger_of r0).total (ledger_of r0).own genesis
    → ledger_of r0 ≡ put_head (ledger_of r1) (length stakes) total own genesis → n ≡ length stakes → total ≡ total_to stakes (length stakes)
    → ledger_of r ≡ fresh stakes own genesis
stakes_end r r0 r1 stakes n total own genesis a e h t =
    a ∙ (λ i. fresh_to stakes n (e i).total (e i).own genesis) ∙ fresh_done stakes n total own genesis h t

-- ---- the ways through both starts

module _ (ws stakes : List ℕ) (own : ℕ) (odd : Bool) (genesis : ℕ) where
  refused_as : (r : Refusal) → begun_judged ws stakes odd genesis ≡ Err r → BegunOf ws stakes own odd genesis (Err r) ws
  unfolding start_answer start_left
  refused_as r e =
      record {
        answered = ap start_answer (sym e);
        words = ap (λ (v : Result ⊤ Refusal). start_left v ws stakes own genesis) (sym e);
      }

  -- 17 for the length.
  pub begun_short : (n : ℕ) → n ≡ record_words (places_for (length stakes)) → (length ws ≡ n → ⊥) → BegunOf ws stakes own odd genesis (Err refusal.BadRecord) ws
  unfolding begun_judged refuse_if
  begun_short n e q = refused_as refusal.BadRecord (rw (ne_eqb (length ws) (record_words (places_for (length stakes))) (λ h. q (h ∙ sym e))))

  module _ (n : ℕ) (e : n ≡ record_words (places_for (length stakes))) (long : length ws ≡ n) where
    judged : (fits b : Bool) → stakes_fit stakes (length stakes) ≡ fits → (not fits || (odd || none genesis)) ≡ b
        → begun_judged ws stakes odd genesis ≡ refuse_if b refusal.BadSizes (Ok tt)
    unfolding begun_judged refuse_if
    judged fits b made t =
        rw (eq-eqb (length ws) (record_words (places_for (length stakes))) (long ∙ e))
        (ap (λ (x : Bool). refuse_if (not x || (odd || none genesis)) refusal.BadSizes (Ok tt)) made
        ∙ ap (λ (x : Bool). refuse_if x refusal.BadSizes (Ok tt)) t)

    -- Then 1: for the stakes, or for what else is odd.
    pub begun_unfit : None ≡ made_of stakes → BegunOf ws stakes own odd genesis (Err refusal.BadSizes) ws
    unfolding refuse_if
    begun_unfit q = refused_as refusal.BadSizes (judged false true (made_none stakes q) refl)

    module _ (table : LentTable) (q : Some table ≡ made_of stakes) where
      pub begun_odd : (odd || none genesis) ≡ true → BegunOf ws stakes own odd genesis (Err refusal.BadSizes) ws
      unfolding refuse_if
      begun_odd t = refused_as refusal.BadSizes (judged true true (made_some stakes table q).0 t)

      -- Else the fresh ledger's words.
      pub begun_done : (left : List ℕ) → (odd || none genesis) ≡ false → Words left → length left ≡ record_words (places_for (length stakes))
          → ledger_of left ≡ fresh stakes own genesis → BegunOf ws stakes own odd genesis (Ok tt) left
      unfolding refuse_if start_answer start_left
      begun_done left t f h p =
          let e = judged true false (made_some stakes table q).0 t in
          record {
            answered = ap start_answer (sym e);
            words = spelled_as left (fresh stakes own genesis) (long_spelled left f (sized_long left (places_for (length stakes)) h)) p ∙ ap (λ (v : Result ⊤ Refusal). start_left v ws stakes own genesis) (sym e);
          }

-- A start with an own number is one whose number is odd past the table; a watcher's number never is.
pub begun_start : (ws stakes : List ℕ) (own genesis : ℕ) (a : Result ⊤ Refusal) (l : List ℕ) → BegunOf ws stakes own (leb (length stakes) own) genesis a l
    → StartOf ws stakes own genesis a l
unfolding begun_judged start_judged start_verdict
begun_start ws stakes own genesis a l p = record { answered = p.answered; words = p.words }

pub begun_watch : (ws stakes : List ℕ) (genesis : ℕ) (a : Result ⊤ Refusal) (l : List ℕ) → BegunOf ws stakes (length stakes) false genesis a l
    → WatchOf ws stakes genesis a l
unfolding begun_judged watch_judged watch_verdict
begun_watch ws stakes genesis a l p = record { answered = p.answered; words = p.words }

-- What passed the tests may be set up.
pub begun_ready : (ws stakes : List ℕ) (table : LentTable) → Some table ≡ made_of stakes → length ws ≡ record_words (places_for (length stakes))
    → SetUp ws stakes table.total.0
begun_ready ws stakes table e long =
    let made = made_some stakes table e in
    record { long = long; few = fit_few stakes made.0; sum = ap (λ (x : LentTable). x.total.0) made.1 ∙ table_sum stakes }

-- Two results that start allows are equal.
pub start_one : (ws stakes : List ℕ) (own genesis : ℕ) (a a' : Result ⊤ Refusal) (l l' : List ℕ)
    → StartOf ws stakes own genesis a l → StartOf ws stakes own genesis a' l' → (a ≡ a') × (l ≡ l')
start_one ws stakes own genesis a a' l l' p q = (p.answered ∙ sym q.answered, p.words ∙ sym q.words)

pub watch_one : (ws stakes : List ℕ) (genesis : ℕ) (a a' : Result ⊤ Refusal) (l l' : List ℕ)
    → WatchOf ws stakes genesis a l → WatchOf ws stakes genesis a' l' → (a ≡ a') × (l ≡ l')
watch_one ws stakes genesis a a' l l' p q = (p.answered ∙ sym q.answered, p.words ∙ sym q.words)

-- What a start leaves, where it starts, is sound: it is not answered 17 later.
begun_leaves_sound : (v : Result ⊤ Refusal) (ws stakes : List ℕ) (own genesis : ℕ) (left : List ℕ) → Ok tt ≡ start_answer v → left ≡ start_left v ws stakes own genesis
    → (v ≡ Ok tt → Sound (fresh stakes own genesis)) → sound_words left ≡ true
unfolding start_answer start_left
begun_leaves_sound (Ok tt) ws stakes own genesis left e w h = ap sound_words w ∙ spelled_sound (fresh stakes own genesis) (h refl)
begun_leaves_sound (Err r) ws stakes own genesis left e w h = let z : ◌≡◌ {A = ℕ} 0 1 = cc in absurd (omega arith)

pub start_leaves_sound : (ws stakes : List ℕ) (own genesis : ℕ) (left : List ℕ) → StartOf ws stakes own genesis (Ok tt) left → sound_words left ≡ true
unfolding start_judged
start_leaves_sound ws stakes own genesis left p =
    begun_leaves_sound (start_judged ws stakes own genesis) ws stakes own genesis left p.answered p.words
    (λ e. fresh_sound stakes own genesis (refuse_fine (not (eqb (length ws) (record_words (places_for (length stakes))))) refusal.BadRecord (start_verdict stakes own genesis) e).1)

pub watch_leaves_sound : (ws stakes : List ℕ) (genesis : ℕ) (left : List ℕ) → WatchOf ws stakes genesis (Ok tt) left → sound_words left ≡ true
unfolding watch_judged
watch_leaves_sound ws stakes genesis left p =
    begun_leaves_sound (watch_judged ws stakes genesis) ws stakes (length stakes) genesis left p.answered p.words
    (λ e. watching_sound stakes genesis (refuse_fine (not (eqb (length ws) (record_words (places_for (length stakes))))) refusal.BadRecord (watch_verdict stakes genesis) e).1)
