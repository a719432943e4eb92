-- The contracts are functions of what is lent, so that calls can always be made.
use Rattle.std.specs.Prelude.{⊤, Result, Ok, Err}
use mathlib.Core.Path.{◌≡◌, refl, sym, ap, ◌∙◌, subst}
use mathlib.Core.Bool.{Bool, true, not}
use mathlib.Core.List.{List, [], ◌∷◌, ◌++◌, append_assoc, append-nil}
use Prim.Native.Nat.{ℕ}
use native.Mathlib.Omega.{arith}
use lib.Dec.{T, eqb, leb}
use lib.ListN.{length, replicate, length-replicate}
use borrow.Author.Tests.{eq-eqb, le-leb}
use Rattle.rulebook.specs.declared.Refusal.{Refusal}
use Rattle.rulebook.specs.declared.Refusal.TheVariants as refusal
use Rattle.rulebook.specs.PaperNumbers.{start_panel, step_panel}
use Rattle.rulebook.specs.Weights.{places_for}
use Rattle.rulebook.specs.Ledger.{fresh}
use Rattle.rulebook.specs.Inputs.{refuse_if, start_verdict}
use Rattle.rulebook.specs.Taking.{Arrival, of_input, of_packet}
use Rattle.rulebook.specs.WellFormed.{outbox_words}
use Rattle.rule_laws.proofs.ToolLaws.{given_on}
use Rattle.record.specs.Layout.{record_words}
use Rattle.record.specs.Spelling.{words_of}
use Rattle.starts.specs.Starting.{start_judged, start_answer, start_left}
use Rattle.node.specs.Stepping.{Leaves, step_leaves}
use Rattle.taking.specs.Taking.{take_leaves}
use Rattle.safety.specs.Slot.{Test}
use Rattle.safety.specs.Ring as book
use Rattle.answers.specs.Face.{Beside}
use Rattle.seen.specs.Seen.{Seen}
use Rattle.seen.specs.Ring.{Lives, Nodes}
use Rattle.seen.proofs.Ring.{seen_ring}
use Rattle.seen.proofs.Fed.{no_ring_stuck}
use Rattle.calls.specs.Operation.{Operation, one_input, a_packet, one_with, fed_by}
use Rattle.calls.specs.Life.{Met, begun, next, Calls, none, then, Life}
use Rattle.calls.specs.Reached.{CallsBring, CanGoOn, CanWatchOn, RingMet, LivesGoOn}
use Rattle.calls.proofs.Life.{life_is_seen}

-- ---- calls with which a list of things arrives

-- Words of zeros.
zeros : ℕ → List ℕ
zeros n = replicate n 0

zeros_long : (n : ℕ) → length (zeros n) ≡ n
unfolding zeros
zeros_long n = length-replicate n 0

operation_with : Arrival → Operation
operation_with (of_input i) = one_input i
operation_with (of_packet packet) = a_packet packet

leaves_with : List ℕ → Arrival → Leaves
leaves_with ws (of_input i) = step_leaves ws (zeros outbox_words) i
leaves_with ws (of_packet packet) = take_leaves ws (zeros outbox_words) packet

count_of : Result ℕ Refusal → ℕ
count_of (Ok n) = n
count_of (Err r) = 0

count_beside : (a : Result ℕ Refusal) → Beside (count_of a) (step_panel a).values
unfolding count_of step_panel
count_beside (Ok n) = refl
count_beside (Err r) = refl

-- One call with which it arrives, with an outbox of zeros that has room.
abbrev one_more : Seen → Arrival → Seen
one_more v i = let f = leaves_with v.words i in next v (operation_with i) (zeros outbox_words) (count_of f.answer) f.words f.outbox

run_for : Seen → List Arrival → Seen
run_for v [] = v
run_for v (i ∷ is) = run_for (one_more v i) is

one_met : (ws : List ℕ) (i : Arrival) → let f = leaves_with ws i in Met (operation_with i) ws (zeros outbox_words) (step_panel f.answer).number (count_of f.answer) f.words f.outbox
unfolding operation_with leaves_with
one_met ws (of_input i) = record { numbered = refl; counted = count_beside (step_leaves ws (zeros outbox_words) i).answer; words = refl; outbox = refl }
one_met ws (of_packet packet) = record { numbered = refl; counted = count_beside (take_leaves ws (zeros outbox_words) packet).answer; words = refl; outbox = refl }

run_calls : (v u : Seen) (is : List Arrival) → Calls v u → Calls v (run_for u is)
unfolding run_for
run_calls v u [] k = k
run_calls v u (i ∷ is) k = run_calls v (one_more u i) is (then k _ _ _ _ _ _ (one_met u.words i))

room : leb outbox_words (length (zeros outbox_words)) ≡ true
room = let e = zeros_long outbox_words in le-leb outbox_words (length (zeros outbox_words)) (omega (arith, e))

one_arrives : (i : Arrival) → one_with i (zeros outbox_words) ≡ i ∷ []
unfolding one_with
one_arrives i = given_on (leb outbox_words (length (zeros outbox_words))) _ _ room

brings : (i : Arrival) → fed_by (operation_with i) (zeros outbox_words) ≡ i ∷ []
unfolding fed_by operation_with
brings (of_input i) = one_arrives (of_input i)
brings (of_packet packet) = one_arrives (of_packet packet)

run_came : (v : Seen) (is : List Arrival) → (run_for v is).came ≡ v.came ++ is
unfolding run_for
run_came v [] = sym (append-nil v.came)
run_came v (i ∷ is) =
    run_came (one_more v i) is ∙ ap (λ (js : List Arrival). (v.came ++ js) ++ is) (brings i) ∙ append_assoc v.came (i ∷ []) is

pub calls_bring : CallsBring
calls_bring v is = (run_for v is, run_calls v v is none, run_came v is)

pub can_go_on : CanGoOn
can_go_on stakes own genesis v h is =
    (run_for v is, record { found = h.found; words = h.words; start = h.start; calls = run_calls _ v is h.calls }, run_came v is)

pub can_watch_on : CanWatchOn
can_watch_on stakes genesis v h is =
    (run_for v is, record { found = h.found; words = h.words; start = h.start; calls = run_calls _ v is h.calls }, run_came v is)

-- ---- a ring of them

passes : (b : Bool) (r : Refusal) (v : Result ⊤ Refusal) → b ≡ true → refuse_if (not b) r v ≡ v
unfolding refuse_if
passes b r v e = rw e refl

module _ (stakes : List ℕ) (own genesis : ℕ) (is : List Arrival) where
  -- Words of zeros, as many as so many stakes ask for.
  abbrev blank : List ℕ
  blank = zeros (record_words (places_for (length stakes)))

  judged : start_verdict stakes own genesis ≡ Ok tt → start_judged blank stakes own genesis ≡ Ok tt
  unfolding start_judged
  judged e =
      passes (eqb (length blank) (record_words (places_for (length stakes)))) refusal.BadRecord (start_verdict stakes own genesis)
      (eq-eqb (length blank) (record_words (places_for (length stakes))) (zeros_long (record_words (places_for (length stakes)))))
      ∙ e

  abbrev life_for : Seen
  life_for = run_for (begun (words_of (fresh stakes own genesis))) is

  life_for_lem : start_verdict stakes own genesis ≡ Ok tt → Life stakes own genesis life_for
  unfolding start_answer start_left start_panel
  life_for_lem e =
      let j = judged e in
      record {
        found = blank;
        words = words_of (fresh stakes own genesis);
        start = record {
          numbered = sym (ap (λ (v : Result ⊤ Refusal). (start_panel (start_answer v)).number) j);
          words = sym (ap (λ (v : Result ⊤ Refusal). start_left v blank stakes own genesis) j);
        };
        calls = run_calls _ _ is none;
      }

pub ring_met : RingMet
ring_met stakes genesis honest fed ring =
    let lives : Lives = λ n. life_for stakes n (genesis n) (fed n) in
    let all : (n : ℕ) → T (honest n) → Life stakes n (genesis n) (lives n) = λ n h. life_for_lem stakes n (genesis n) (fed n) (ring.started n h) in
    let came : (n : ℕ) → (lives n).came ≡ fed n = λ n. run_came _ (fed n) in
    let same : ◌≡◌ {A = ℕ → List Arrival} fed (λ n. (lives n).came) = (λ i n. sym (came n) i) in (
      lives,
      seen_ring stakes genesis honest lives (record { few = ring.few; lived = λ n h. life_is_seen stakes n (genesis n) (lives n) (all n h) }) (subst (book.Ring stakes genesis honest) same ring),
      all,
      came,
    )

-- ---- no ring is stuck

-- Lives that went on with calls with which these things arrived.
pub record Onward (stakes : List ℕ) (genesis : ℕ → ℕ) (honest : Test) (lives : Lives) (further : ℕ → List Arrival) : Type 0 where
  pub after : Lives
  pub lived : (n : ℕ) → T (honest n) → Life stakes n (genesis n) (after n)
  pub go_on : (n : ℕ) → Calls (lives n) (after n)
  pub came : (n : ℕ) → (after n).came ≡ (lives n).came ++ further n
  pub nodes : Nodes stakes genesis honest after

pub all_go_on : (stakes : List ℕ) (genesis : ℕ → ℕ) (honest : Test) (lives : Lives) → ((n : ℕ) → T (honest n) → Life stakes n (genesis n) (lives n)) → Nodes stakes genesis honest lives
    → (further : ℕ → List Arrival) → Onward stakes genesis honest lives further
all_go_on stakes genesis honest lives all nodes further =
    let after : Lives = λ n. run_for (lives n) (further n) in
    let lived : (n : ℕ) → T (honest n) → Life stakes n (genesis n) (after n) =
    (λ n h. let l = all n h in record { found = l.found; words = l.words; start = l.start; calls = run_calls _ (lives n) (further n) l.calls }) in
    record {
      after = after;
      lived = lived;
      go_on = λ n. run_calls (lives n) (lives n) (further n) none;
      came = λ n. run_came (lives n) (further n);
      nodes = record { few = nodes.few; lived = λ n h. life_is_seen stakes n (genesis n) (after n) (lived n h) };
    }

pub lives_go_on : LivesGoOn
lives_go_on stakes genesis honest lives all fed once policy =
    let g = no_ring_stuck stakes genesis honest lives fed once policy in
    let o = all_go_on stakes genesis honest lives all fed.nodes g.further in
    record {
      after = o.after;
      lived = o.lived;
      go_on = o.go_on;
      ring = g.ring o.after o.nodes o.came;
      going = g.going o.after o.nodes o.came;
    }
