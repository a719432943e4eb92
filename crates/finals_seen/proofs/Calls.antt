-- What a host sees of its calls is what the rule book says of what arrived: patience and first blocks.
use mathlib.Core.Path.{◌≡◌, refl, sym, ap, ◌∙◌, subst}
use mathlib.Core.Bool.{Bool, true, false, not, ◌&&◌, ◌||◌}
use mathlib.Core.List.{List, [], ◌∷◌, ◌++◌, map}
use Prim.Native.Nat.{ℕ, ◌*◌, ◌<◌}
use native.Mathlib.Omega.{arith}
use lib.Dec.{T, eqb, leb, T_not, not_T}
use lib.ListN.{length}
use borrow.Author.Tests.{leb-true}
use Rattle.rulebook.specs.declared.Input.{Input}
use Rattle.rulebook.specs.declared.Input.TheVariants as input
use Rattle.rulebook.specs.declared.Vote.{Vote}
use Rattle.rulebook.specs.Tools.{part, choose}
use Rattle.rulebook.specs.Weights.{window_of, weight, total_to, is_first}
use Rattle.rulebook.specs.Ledger.{Ledger, fresh, own_cell, cell_at, no_initial}
use Rattle.rulebook.specs.Taking.{Arrival, of_input, of_packet, served}
use Rattle.rulebook.specs.WellFormed.{outbox_words}
use Rattle.rule_laws.proofs.ToolLaws.{given_keeps}
use Rattle.tray_rules.specs.Trays.{votes_in}
use Rattle.watchers.specs.Watching.{is_done}
use Rattle.safety.specs.Slot.{Test}
use Rattle.safety.specs.Ballots.{announces}
use Rattle.safety.specs.Ring.{after_all, FewOthers}
use Rattle.safety.proofs.Tests.{T_true, true_t, and_t, T_and, or_t, T-left, T-right}
use Rattle.safety.proofs.Weighing.{weight_cover}
use Rattle.safety.proofs.Lives.{start_sized, fresh_ready, life_ready}
use Rattle.finals.specs.Calm.{hasty, hasty_in}
use Rattle.finals.specs.Fed.{is_block_of, first_taken}
use Rattle.seen.specs.Seen.{Seen, ledger_in, LifeSeen}
use Rattle.seen.proofs.Chain.{arrivals_are_enough}
use Rattle.calls.specs.Operation.{Operation, one_input, a_tray, a_packet, one_with, fed_by}
use Rattle.calls.specs.Life.{Met, Calls, none, then, not_started, not_watched}
use Rattle.calls.proofs.OneCall.{step_served}
use Rattle.calls.proofs.Life.{many, born_seen, life_is_seen}
use Rattle.calls.proofs.Observed.{done_zero, accepted}
use Rattle.finals_seen.specs.Calls.{is_hasty, hasty_by, PatientSeen, of_block, with_block, taken_by, first_by, FirstSeen, CallsMakeFinal}
use Rattle.finals_seen.specs.Fed.{LedFed}
use Rattle.finals_seen.proofs.Finals.{first_window}
use Rattle.finals_seen.proofs.Fed.{fed_is_led}

-- ---- a test of single arrivals

-- Some arrival passes the test, on the ledger that it finds.
some_of : (Ledger → Arrival → Bool) → Ledger → List Arrival → Bool
some_of test l [] = false
some_of test l (i ∷ is) = test l i || some_of test (served l i).ledger is

some_both : (test : Ledger → Arrival → Bool) (l : Ledger) (is js : List Arrival) → T (some_of test l (is ++ js)) → {A : Type 0} → (T (some_of test l is) → A) → (T (some_of test (after_all l is) js) → A) → A
unfolding some_of after_all
some_both test l [] js t f g = g t
some_both test l (i ∷ is) js t f g =
    or_t (test l i) (some_of test (served l i).ledger (is ++ js)) t
    (λ u. f (T-left (test l i) (some_of test (served l i).ledger is) u))
    (λ u. some_both test (served l i).ledger is js u (λ x. f (T-right (test l i) (some_of test (served l i).ledger is) x)) g)

-- A test that votes do not pass passes nothing that arrives with a tray,
no_votes_lem : (test : Ledger → Arrival → Bool) → ((l : Ledger) (v : Vote) → ¬ T (test l (of_input (input.Vote v)))) → (l : Ledger) (vs : List Vote)
    → ¬ T (some_of test l (map (λ v. of_input (input.Vote v)) vs))
unfolding some_of
no_votes_lem test f l [] t = t
no_votes_lem test f l (v ∷ vs) t =
    or_t (test l (of_input (input.Vote v))) _ t (f l v) (λ u. no_votes_lem test f (served l (of_input (input.Vote v))).ledger vs u)

-- and of what arrives one by one it passes the one.
one_passes : (test : Ledger → Arrival → Bool) (l : Ledger) (i : Arrival) (lent : List ℕ) → T (some_of test l (one_with i lent)) → T (leb outbox_words (length lent)) × T (test l i)
unfolding some_of one_with
one_passes test l i lent t =
    given_keeps (λ (is : List Arrival). T (some_of test l is) → T (leb outbox_words (length lent)) × T (test l i)) (leb outbox_words (length lent)) [] (λ _. i ∷ []) (λ x. absurd x)
    (λ e x. (true_t (leb outbox_words (length lent)) e, or_t (test l i) false x (λ y. y) (λ y. absurd y))) t

-- A test that only accepted steps pass: what it passes of a call was a step, answered 0.
step_passes : (test : Ledger → Arrival → Bool) → ((l : Ledger) (v : Vote) → ¬ T (test l (of_input (input.Vote v)))) → ((l : Ledger) (bytes : List ℕ) → ¬ T (test l (of_packet bytes)))
    → ((l : Ledger) (i : Input) → T (test l (of_input i)) → T (is_done (served l (of_input i)).answer))
    → (x : Seen) → {l : Ledger} → LifeSeen l x → (o : Operation) (lent : List ℕ) (number made : ℕ) (words left : List ℕ) → Met o x.words lent number made words left
    → T (some_of test (ledger_in x) (fed_by o lent)) → {A : Type 0} → ((i : Input) → o ≡ one_input i → T (test (ledger_in x) (of_input i)) → T (eqb number 0) → A) → A
unfolding fed_by some_of
step_passes test nv np done x h (one_input i) lent number made words left m t f =
    let p = one_passes test (ledger_in x) (of_input i) lent t in
    f i refl p.1 (subst T (sym (done_zero (served (ledger_in x) (of_input i)).answer number
    (step_served x.words lent i number made words left h.sound m (leb-true outbox_words (length lent) (T_true _ p.0))).answered)) (done (ledger_in x) i p.1))
step_passes test nv np done x h (a_tray votes places answers) lent number made words left m t f =
    absurd (given_keeps (λ (is : List Arrival). ¬ T (some_of test (ledger_in x) is)) _ [] _ (λ y. y)
    (λ _. given_keeps (λ (is : List Arrival). ¬ T (some_of test (ledger_in x) is)) _ [] _ (λ y. y) (λ _. no_votes_lem test nv (ledger_in x) (votes_in votes))) t)
step_passes test nv np done x h (a_packet packet) lent number made words left m t f = absurd (np (ledger_in x) packet (one_passes test (ledger_in x) (of_packet packet) lent t).1)

-- ---- patience

-- The test that `hasty_in` makes.
hasty_is : (l : Ledger) (is : List Arrival) (w : ℕ) → hasty_in l is w ≡ some_of (λ m i. hasty m i w) l is
unfolding hasty_in some_of
hasty_is l [] w = refl
hasty_is l (i ∷ is) w = ap (λ (b : Bool). hasty l i w || b) (hasty_is (served l i).ledger is w)

hasty_done : (w : ℕ) (l : Ledger) (i : Input) → T (hasty l (of_input i) w) → T (is_done (served l (of_input i)).answer)
hasty_done w l (input.Vote v) t = absurd t
hasty_done w l (input.Block s b) t = absurd t
hasty_done w l (input.Timeout s) t = (and_t (no_initial (own_cell l s.0)) _ (and_t (eqb (window_of s.0) w) _ t).1).1
hasty_done w l input.Look t = absurd t

hasty_call : (own w : ℕ) (x : Seen) → (ledger_in x).own ≡ own → (i : Input) → T (hasty (ledger_in x) (of_input i) w) → T (is_hasty own x (one_input i) w)
hasty_call own w x e (input.Vote v) t = t
hasty_call own w x e (input.Block s b) t = t
hasty_call own w x e (input.Timeout s) t =
    let a = and_t (eqb (window_of s.0) w) _ t in
    T_and (eqb (window_of s.0) w) (no_initial (cell_at (ledger_in x) s.0 own)) a.0
    (subst (λ (n : ℕ). T (no_initial (cell_at (ledger_in x) s.0 n))) e (and_t (no_initial (own_cell (ledger_in x) s.0)) _ a.1).0)
hasty_call own w x e input.Look t = t

hasty_many : (l : Ledger) (own w : ℕ) → ((is : List Arrival) → (after_all l is).own ≡ own) → (v x : Seen) → LifeSeen l v → ¬ T (hasty_in l v.came w)
    → (k : Calls v x) → T (hasty_in l x.came w) → T (hasty_by own k w)
unfolding hasty_by
hasty_many l own w mine v x h calm none t = absurd (calm t)
hasty_many l own w mine v x h calm (then {w = y} k o lent number made words left m) t =
    let d = many l v y h k in
    let test : Ledger → Arrival → Bool = λ m i. hasty m i w in
    some_both test l y.came (fed_by o lent) (subst T (hasty_is l (y.came ++ fed_by o lent) w) t)
    (λ u. T-left (hasty_by own k w) (is_hasty own y o w && eqb number 0) (hasty_many l own w mine v y h calm k (subst T (sym (hasty_is l y.came w)) u)))
    (λ u. T-right (hasty_by own k w) (is_hasty own y o w && eqb number 0)
    (step_passes test (λ m b z. z) (λ m b z. z) (hasty_done w) y d o lent number made words left m (subst (λ (q : Ledger). T (some_of test q (fed_by o lent))) (sym d.ledger) u)
    (λ i e z zero. T_and (is_hasty own y o w) (eqb number 0)
    (subst (λ (p : Operation). T (is_hasty own y p w)) (sym e) (hasty_call own w y (ap (λ (q : Ledger). q.own) d.ledger ∙ mine y.came) i z)) zero)))
hasty_many l own w mine v x h calm (not_started {w = y} k stakes other genesis number words s n) t = hasty_many l own w mine v y h calm k t
hasty_many l own w mine v x h calm (not_watched {w = y} k stakes genesis number words s n) t = hasty_many l own w mine v y h calm k t

pub patient_seen : PatientSeen
unfolding hasty_in
patient_seen stakes own genesis v h w t =
    let e = (life_is_seen stakes own genesis v h).started in
    not_T (hasty_in (fresh stakes own genesis) v.came w)
    (λ u. T_not (hasty_by own h.calls w) t
    (hasty_many (fresh stakes own genesis) own w (λ is. (life_ready own (fresh stakes own genesis) is (fresh_ready stakes own genesis (start_sized stakes own genesis e))).own) _ v
    (born_seen stakes own genesis h.found h.words h.start) (λ z. z) h.calls u))

-- ---- first blocks

-- A block of slot s that is accepted.
taken : ℕ → Ledger → Arrival → Bool
taken s l i = is_block_of i s && is_done (served l i).answer

taken_done : (s : ℕ) (l : Ledger) (i : Input) → T (taken s l (of_input i)) → T (is_done (served l (of_input i)).answer)
unfolding taken
taken_done s l i t = (and_t (is_block_of (of_input i) s) _ t).1

taken_many : (l : Ledger) (s : ℕ) (v x : Seen) → LifeSeen l v → ¬ T (some_of (taken s) l v.came) → (k : Calls v x) → T (some_of (taken s) l x.came) → T (taken_by k s)
unfolding taken_by taken
taken_many l s v x h calm none t = absurd (calm t)
taken_many l s v x h calm (then {w = y} k o lent number made words left m) t =
    let d = many l v y h k in
    some_both (taken s) l y.came (fed_by o lent) t
    (λ u. T-left (taken_by k s) (of_block o s && eqb number 0) (taken_many l s v y h calm k u))
    (λ u. T-right (taken_by k s) (of_block o s && eqb number 0)
    (step_passes (taken s) (λ m b z. z) (λ m b z. z) (taken_done s) y d o lent number made words left m (subst (λ (q : Ledger). T (some_of (taken s) q (fed_by o lent))) (sym d.ledger) u)
    (λ i e z zero. T_and (of_block o s) (eqb number 0) (subst (λ (p : Operation). T (of_block p s)) (sym e) (and_t (is_block_of (of_input i) s) _ z).0) zero)))
taken_many l s v x h calm (not_started {w = y} k stakes own genesis number words q n) t = taken_many l s v y h calm k t
taken_many l s v x h calm (not_watched {w = y} k stakes genesis number words q n) t = taken_many l s v y h calm k t

-- The first of a list is the first of a longer one; and of a list behind one without any.
first_left : (l : Ledger) (is js : List Arrival) (s b p x : ℕ) → T (first_taken l is s b p x) → T (first_taken l (is ++ js) s b p x)
unfolding first_taken choose
first_left l [] js s b p x t = absurd t
first_left l (i ∷ is) js s b p x t = go (is_block_of i s && is_done (served l i).answer) (first_left (served l i).ledger is js s b p x) t
  where
    go : (c : Bool) → (T (first_taken (served l i).ledger is s b p x) → T (first_taken (served l i).ledger (is ++ js) s b p x))
        → T (choose c (announces i s b p x) (first_taken (served l i).ledger is s b p x)) → T (choose c (announces i s b p x) (first_taken (served l i).ledger (is ++ js) s b p x))
    go true f u = u
    go false f u = f u

first_right : (l : Ledger) (is js : List Arrival) (s b p x : ℕ) → ¬ T (some_of (taken s) l is) → T (first_taken (after_all l is) js s b p x) → T (first_taken l (is ++ js) s b p x)
unfolding first_taken choose some_of taken after_all
first_right l [] js s b p x clear t = t
first_right l (i ∷ is) js s b p x clear t =
    go (is_block_of i s && is_done (served l i).answer) (λ u. clear (T-left (taken s l i) (some_of (taken s) (served l i).ledger is) u))
    (first_right (served l i).ledger is js s b p x (λ u. clear (T-right (taken s l i) (some_of (taken s) (served l i).ledger is) u)) t)
  where
    go : (c : Bool) → ¬ T c → T (first_taken (served l i).ledger (is ++ js) s b p x) → T (choose c (announces i s b p x) (first_taken (served l i).ledger (is ++ js) s b p x))
    go true never u = absurd (never tt)
    go false never u = u

announced_of : (i : Input) (s b p x : ℕ) → T (announces (of_input i) s b p x) → T (is_block_of (of_input i) s)
announced_of (input.Vote v) s b p x t = t
announced_of (input.Block q k) s b p x t = (and_t (eqb q.0 s) _ t).0
announced_of (input.Timeout q) s b p x t = t
announced_of input.Look s b p x t = t

-- One call with the block, answered 0.
first_call : (v : Seen) {l : Ledger} → LifeSeen l v → (o : Operation) (lent : List ℕ) (number made : ℕ) (words left : List ℕ) → Met o v.words lent number made words left
    → (s b p x : ℕ) → T (with_block o s b p x) → T (eqb number 0) → T (first_taken (ledger_in v) (fed_by o lent) s b p x)
unfolding fed_by first_taken choose
first_call v h (one_input i) lent number made words left m s b p x t z =
    let a = accepted v.words lent i number made words left h.sound m z in
    let c : Bool = is_block_of (of_input i) s && is_done (served (ledger_in v) (of_input i)).answer in
    subst (λ (is : List Arrival). T (first_taken (ledger_in v) is s b p x)) (sym a.arrived)
    (subst (λ (d : Bool). T (choose d (announces (of_input i) s b p x) false)) (sym (T_true c (T_and (is_block_of (of_input i) s) _ (announced_of i s b p x t) a.done))) t)
first_call v h (a_tray votes places answers) lent number made words left m s b p x t z = absurd t
first_call v h (a_packet packet) lent number made words left m s b p x t z = absurd t

first_many : (l : Ledger) (v y : Seen) → LifeSeen l v → (s b p x : ℕ) → ¬ T (some_of (taken s) l v.came) → (k : Calls v y) → T (first_by k s b p x) → T (first_taken l y.came s b p x)
unfolding first_by
first_many l v y h s b p x calm none t = absurd t
first_many l v y h s b p x calm (then {w = w} k o lent number made words left m) t =
    let d = many l v w h k in
    or_t (first_by k s b p x) (not (taken_by k s) && (with_block o s b p x && eqb number 0)) t
    (λ u. first_left l w.came (fed_by o lent) s b p x (first_many l v w h s b p x calm k u))
    (λ u. let a = and_t (not (taken_by k s)) (with_block o s b p x && eqb number 0) u in
    let c = and_t (with_block o s b p x) (eqb number 0) a.1 in
    first_right l w.came (fed_by o lent) s b p x (λ z. T_not (taken_by k s) a.0 (taken_many l s v w h calm k z))
    (subst (λ (q : Ledger). T (first_taken q (fed_by o lent) s b p x)) d.ledger (first_call w d o lent number made words left m s b p x c.0 c.1)))
first_many l v y h s b p x calm (not_started {w = w} k stakes own genesis number words q n) t = first_many l v w h s b p x calm k t
first_many l v y h s b p x calm (not_watched {w = w} k stakes genesis number words q n) t = first_many l v w h s b p x calm k t

pub first_seen : FirstSeen
unfolding some_of
first_seen stakes own genesis v h s b p x t =
    first_many (fresh stakes own genesis) _ v (born_seen stakes own genesis h.found h.words h.start) s b p x (λ z. z) h.calls t

-- ---- all of it as hosts see it

-- The whole table weighs the total, so that honest stake is over four fifths.
honest_strong : (stakes : List ℕ) (honest : Test) → FewOthers stakes honest → 3 * total_to stakes (length stakes) < 5 * weight stakes (length stakes) honest
unfolding weight total_to part
honest_strong stakes honest few =
    omega (arith, few, weight_cover stakes (length stakes) (λ n. true) honest (λ n. not (honest n)) (λ n t. either (honest n)))
  where
    either : (h : Bool) → T (h || not h)
    either true = tt
    either false = tt

pub calls_make_final : CallsMakeFinal
unfolding is_first
calls_make_final stakes honest lives g fed once block u is =
    let r = arrivals_are_enough stakes (λ n. g) honest lives fed once in
    let led : LedFed stakes (λ n. g) lives honest block 0 g 1 u = record {
      begins = tt;
      last = is.last;
      strong = honest_strong stakes honest fed.nodes.few;
      first = λ n h. first_seen stakes n g (lives n) (is.life n h) 1 (block 1) 0 g (is.first n h);
      next = λ n t h lo hi. first_seen stakes n g (lives n) (is.life n h) _ (block _) t (block t) (is.next n t h lo hi);
      patient = λ n t h lo hi. patient_seen stakes n g (lives n) (is.life n h) (window_of t) (is.patient n t h lo hi);
      votes = is.votes;
    } in
    first_window stakes (λ n. g) honest lives r.0 r.1 g (λ n h. refl) block u (fed_is_led stakes (λ n. g) honest lives r.0 honest (λ n h. h) block 0 g 1 u led)
