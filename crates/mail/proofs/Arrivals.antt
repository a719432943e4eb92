-- Lists of arrivals: what some of them is, in lists put together.
use mathlib.Core.Path.{◌≡◌, refl, sym, ap, subst}
use mathlib.Core.Bool.{Bool, true, false, not, ◌&&◌, ◌||◌}
use mathlib.Core.List.{List, [], ◌∷◌, ◌++◌}
use mathlib.Core.Logic.{◌⊎◌, inl, inr, ⊎_elim}
use Prim.Native.Nat.{ℕ, zero, suc, ◌<◌}
use native.Mathlib.Omega.{arith}
use native.Mathlib.Decide.{ℕ_discrete}
use lib.Dec.{T, eqb, leb, eqb→eq, eqb_refl, leb→le, not_T}
use Rattle.rulebook.specs.declared.Input.TheVariants as input
use Rattle.rulebook.specs.Certificates.{Certificate}
use Rattle.rulebook.specs.Tools.{whenever, choose}
use Rattle.rulebook.specs.PaperNumbers.{vote_number, vote_kind}
use Rattle.rulebook.specs.Ledger.{Ledger}
use Rattle.rulebook.specs.Rules.{Record}
use Rattle.rulebook.specs.Taking.{Arrival, of_input, of_packet, served}
use Rattle.watchers.specs.Watching.{tells_vote, vote_in, as_votes, is_done}
use Rattle.safety.specs.Slot.{Ballot, notar, notar_fallback, skip, skip_fallback, final}
use Rattle.safety.specs.Ballots.{kind_of, block_of, record_for, same_record, among, brings, announces}
use Rattle.safety.specs.Ring.{after_all, made_in, brought_by, announced_by, HandedBy}
use Rattle.safety.proofs.Tests.{and_t, T_and, or_t, T-left, T-right}
use Rattle.progress.specs.Progress.{accepted_in}
use Rattle.mail.specs.Mail.{times_out, timed_out_in}
use Rattle.mail.specs.Policy.{allowed, by_policy}

-- ---- some arrival of a list

unfoldable pub any_is : (Arrival → Bool) → List Arrival → Bool
any_is q [] = false
any_is q (i ∷ is) = q i || any_is q is

pub any_left : (q : Arrival → Bool) (is js : List Arrival) → T (any_is q is) → T (any_is q (is ++ js))
unfolding any_is
any_left q [] js t = absurd t
any_left q (i ∷ is) js t = or_t (q i) (any_is q is) t (λ u. T-left (q i) (any_is q (is ++ js)) u) (λ u. T-right (q i) (any_is q (is ++ js)) (any_left q is js u))

pub any_right : (q : Arrival → Bool) (is js : List Arrival) → T (any_is q js) → T (any_is q (is ++ js))
unfolding any_is
any_right q [] js t = t
any_right q (i ∷ is) js t = T-right (q i) (any_is q (is ++ js)) (any_right q is js t)

pub any_cases {ℓ} : {X : Type ℓ} (q : Arrival → Bool) (is js : List Arrival) → T (any_is q (is ++ js)) → (T (any_is q is) → X) → (T (any_is q js) → X) → X
unfolding any_is
any_cases q [] js t f g = g t
any_cases q (i ∷ is) js t f g =
    or_t (q i) (any_is q (is ++ js)) t (λ u. f (T-left (q i) (any_is q is) u)) (λ u. any_cases q is js u (λ w. f (T-right (q i) (any_is q is) w)) g)

pub alone_in : (q : Arrival → Bool) (i : Arrival) → T (q i) → T (any_is q (i ∷ []))
unfolding any_is
alone_in q i t = T-left (q i) false t

pub alone_out : (q : Arrival → Bool) (i : Arrival) → T (any_is q (i ∷ [])) → T (q i)
unfolding any_is
alone_out q i t = or_t (q i) false t (λ u. u) (λ u. absurd u)

pub alone_none : (q : Arrival → Bool) → ¬ T (any_is q [])
unfolding any_is
alone_none q t = t

-- The words of the ring and of the mail, so.
pub brought_any : (is : List Arrival) (s n : ℕ) (v : Ballot) → brought_by is s n v ≡ any_is (λ i. brings i s n v) is
unfolding brought_by any_is
brought_any [] s n v = refl
brought_any (i ∷ is) s n v = ap (λ (b : Bool). brings i s n v || b) (brought_any is s n v)

pub announced_any : (is : List Arrival) (s b p x : ℕ) → announced_by is s b p x ≡ any_is (λ i. announces i s b p x) is
unfolding announced_by any_is
announced_any [] s b p x = refl
announced_any (i ∷ is) s b p x = ap (λ (z : Bool). announces i s b p x || z) (announced_any is s b p x)

-- ---- lists put together

-- Those for each number below n.
unfoldable pub gather : ℕ → (ℕ → List Arrival) → List Arrival
gather zero f = []
gather (suc n) f = gather n f ++ f n

pub gather_in : (q : Arrival → Bool) (n i : ℕ) (f : ℕ → List Arrival) → i < n → T (any_is q (f i)) → T (any_is q (gather n f))
unfolding gather
gather_in q zero i f h t = absurd (omega arith)
gather_in q (suc n) i f h t =
    elim (ℕ_discrete i n) [
      | yes e ↦ any_right q (gather n f) (f n) (subst (λ (j : ℕ). T (any_is q (f j))) e t)
      | no ne ↦ any_left q (gather n f) (f n) (gather_in q n i f (omega (arith, ne)) t)
    ]

pub gather_out : (q : Arrival → Bool) (n : ℕ) (f : ℕ → List Arrival) → T (any_is q (gather n f)) → (i : ℕ) × (i < n) × T (any_is q (f i))
unfolding gather any_is
gather_out q zero f t = absurd t
gather_out q (suc n) f t =
    any_cases q (gather n f) (f n) t (λ u. let r = gather_out q n f u in (r.0, omega (arith, r.1), r.2)) (λ u. (n, omega arith, u))

pub given_out : (q : Arrival → Bool) (b : Bool) (is : List Arrival) → T (any_is q (whenever b (λ _. is) [])) → T b × T (any_is q is)
unfolding whenever any_is
given_out q true is t = (tt, t)
given_out q false is t = absurd t

pub given_in : (q : Arrival → Bool) (b : Bool) (is : List Arrival) → T b → T (any_is q is) → T (any_is q (whenever b (λ _. is) []))
unfolding whenever
given_in q true is t u = u
given_in q false is t u = absurd t

pub given_on : (b : Bool) (is : List Arrival) → T b → whenever b (λ _. is) [] ≡ is
unfolding whenever
given_on true is t = refl
given_on false is t = absurd t

pub given_off : (b : Bool) (is : List Arrival) → T (not b) → whenever b (λ _. is) [] ≡ []
unfolding whenever
given_off true is t = absurd t
given_off false is t = refl

-- ---- packets and blocks among them

unfoldable pub is_packet : Arrival → Bool
is_packet (of_input i) = false
is_packet (of_packet bytes) = true

unfoldable pub is_block_input : Arrival → Bool
is_block_input (of_input (input.Vote w)) = false
is_block_input (of_input (input.Block t k)) = true
is_block_input (of_input (input.Timeout t)) = false
is_block_input (of_input input.Look) = false
is_block_input (of_packet bytes) = false

pub handed_packet : (is : List Arrival) (c : Certificate) → HandedBy is c → T (any_is is_packet is)
unfolding HandedBy any_is is_packet
handed_packet [] c h = absurd h
handed_packet (of_input i ∷ is) c h = ⊎_elim (λ u. absurd u) (λ u. handed_packet is c u) h
handed_packet (of_packet bytes ∷ is) c h = tt

pub handed_cases : (is js : List Arrival) (c : Certificate) → HandedBy (is ++ js) c → HandedBy is c ⊎ HandedBy js c
unfolding HandedBy
handed_cases [] js c h = inr h
handed_cases (i ∷ is) js c h = ⊎_elim (λ u. inl (inl u)) (λ u. ⊎_elim (λ w. inl (inr w)) (λ w. inr w) (handed_cases is js c u)) h

-- ---- over a life in two parts

pub policy_both : (l : Ledger) (is js : List Arrival) → T (by_policy l is) → T (by_policy (after_all l is) js) → T (by_policy l (is ++ js))
unfolding by_policy after_all
policy_both l [] js t u = u
policy_both l (i ∷ is) js t u =
    let a = and_t (allowed l i) (by_policy (served l i).ledger is) t in
    T_and (allowed l i) (by_policy (served l i).ledger (is ++ js)) a.0 (policy_both (served l i).ledger is js a.1 u)

allowed_other : (l : Ledger) (i : Arrival) → T (not (is_block_input i)) → T (allowed l i)
unfolding is_block_input
allowed_other l (of_input (input.Vote w)) t = tt
allowed_other l (of_input (input.Block x k)) t = absurd t
allowed_other l (of_input (input.Timeout x)) t = tt
allowed_other l (of_input input.Look) t = tt
allowed_other l (of_packet bytes) t = tt

-- The policy asks nothing of other arrivals than blocks.
pub policy_other : (l : Ledger) (is : List Arrival) → ¬ T (any_is is_block_input is) → T (by_policy l is)
unfolding by_policy any_is
policy_other l [] n = tt
policy_other l (i ∷ is) n =
    T_and (allowed l i) (by_policy (served l i).ledger is) (allowed_other l i (not_T (is_block_input i) (λ t. n (T-left (is_block_input i) (any_is is_block_input is) t))))
    (policy_other (served l i).ledger is (λ t. n (T-right (is_block_input i) (any_is is_block_input is) t)))

pub accepted_both : (l : Ledger) (is js : List Arrival) → T (accepted_in (after_all l is) js) → T (accepted_in l (is ++ js))
unfolding accepted_in after_all
accepted_both l [] js t = t
accepted_both l (i ∷ is) js t = T-right (is_done (served l i).answer) (accepted_in (served l i).ledger (is ++ js)) (accepted_both (served l i).ledger is js t)

pub timed_left : (l : Ledger) (is js : List Arrival) (s : ℕ) → T (timed_out_in l is s) → T (timed_out_in l (is ++ js) s)
unfolding timed_out_in
timed_left l [] js s t = absurd t
timed_left l (i ∷ is) js s t =
    let here = times_out i s && is_done (served l i).answer in
    or_t here (timed_out_in (served l i).ledger is s) t (λ u. T-left here (timed_out_in (served l i).ledger (is ++ js) s) u)
    (λ u. T-right here (timed_out_in (served l i).ledger (is ++ js) s) (timed_left (served l i).ledger is js s u))

pub timed_right : (l : Ledger) (is js : List Arrival) (s : ℕ) → T (timed_out_in (after_all l is) js s) → T (timed_out_in l (is ++ js) s)
unfolding timed_out_in after_all
timed_right l [] js s t = t
timed_right l (i ∷ is) js s t =
    T-right (times_out i s && is_done (served l i).answer) (timed_out_in (served l i).ledger (is ++ js) s) (timed_right (served l i).ledger is js s t)

pub made_left : (l : Ledger) (is js : List Arrival) (r : Record) → T (made_in l is r) → T (made_in l (is ++ js) r)
unfolding made_in
made_left l [] js r t = absurd t
made_left l (i ∷ is) js r t =
    let here = among (served l i).records r in
    or_t here (made_in (served l i).ledger is r) t (λ u. T-left here (made_in (served l i).ledger (is ++ js) r) u)
    (λ u. T-right here (made_in (served l i).ledger (is ++ js) r) (made_left (served l i).ledger is js r u))

-- ---- votes as records tell them

-- A record of a vote tells of one, and of that one.
number_back : (k : ℕ) → T (leb 1 k && leb k 5) → vote_number (vote_kind k) ≡ k
unfolding vote_number vote_kind choose
number_back zero t = absurd t
number_back (suc zero) t = refl
number_back (suc (suc zero)) t = refl
number_back (suc (suc (suc zero))) t = refl
number_back (suc (suc (suc (suc zero)))) t = refl
number_back (suc (suc (suc (suc (suc zero))))) t = refl
number_back (suc (suc (suc (suc (suc (suc k)))))) t =
    let n = suc (suc (suc (suc (suc (suc k))))) in absurd (omega (arith, leb→le n 5 (and_t (leb 1 n) (leb n 5) t).1))

votes_number : (v : Ballot) → T (leb 1 (vote_number (kind_of v)) && leb (vote_number (kind_of v)) 5)
unfolding vote_number
votes_number (notar b) = tt
votes_number (notar_fallback b) = tt
votes_number skip = tt
votes_number skip_fallback = tt
votes_number final = tt

record_tells : (r : Record) (s : ℕ) (v : Ballot) → T (same_record r (record_for s v)) → T (tells_vote r)
unfolding tells_vote
record_tells r s v t =
    let a = and_t (eqb r.kind (vote_number (kind_of v))) (eqb r.slot s && eqb r.block (block_of v)) t in
    subst (λ (k : ℕ). T (leb 1 k && leb k 5)) (sym (eqb→eq r.kind (vote_number (kind_of v)) a.0)) (votes_number v)

vote_brings : (n : ℕ) (r : Record) (s m : ℕ) (v : Ballot) → T (tells_vote r) → brings (of_input (input.Vote (vote_in n r))) s m v ≡ (eqb n m && same_record r (record_for s v))
unfolding tells_vote
vote_brings n r s m v t = rw (number_back r.kind t) refl

pub votes_in_lem : (n : ℕ) (rs : List Record) (s : ℕ) (v : Ballot) → T (among rs (record_for s v)) → T (any_is (λ i. brings i s n v) (as_votes n rs))
unfolding as_votes
votes_in_lem n [] s v t = absurd t
votes_in_lem n (r ∷ rs) s v t =
    let q : Arrival → Bool = λ i. brings i s n v in
    let here : List Arrival = whenever (tells_vote r) (λ _. of_input (input.Vote (vote_in n r)) ∷ []) [] in
    or_t (same_record r (record_for s v)) (among rs (record_for s v)) t
    (λ u. any_left q here (as_votes n rs) (given_in q (tells_vote r) (of_input (input.Vote (vote_in n r)) ∷ []) (record_tells r s v u) (one u)))
    (λ u. any_right q here (as_votes n rs) (votes_in_lem n rs s v u))
  where
    one : T (same_record r (record_for s v)) → T (any_is (λ i. brings i s n v) (of_input (input.Vote (vote_in n r)) ∷ []))
    one u = alone_in (λ i. brings i s n v) (of_input (input.Vote (vote_in n r))) (subst (λ (b : Bool). T b) (sym (vote_brings n r s n v (record_tells r s v u))) (T_and (eqb n n) (same_record r (record_for s v)) (eqb_refl n) u))

pub votes_out : (n : ℕ) (rs : List Record) (s m : ℕ) (v : Ballot) → T (any_is (λ i. brings i s m v) (as_votes n rs)) → (n ≡ m) × T (among rs (record_for s v))
unfolding as_votes
votes_out n [] s m v t = absurd (alone_none (λ i. brings i s m v) t)
votes_out n (r ∷ rs) s m v t =
    let q : Arrival → Bool = λ i. brings i s m v in
    let vote : Arrival = of_input (input.Vote (vote_in n r)) in
    any_cases q (whenever (tells_vote r) (λ _. vote ∷ []) []) (as_votes n rs) t
    (λ u. let a = given_out q (tells_vote r) (vote ∷ []) u in
    let b = and_t (eqb n m) (same_record r (record_for s v)) (subst (λ (z : Bool). T z) (vote_brings n r s m v a.0) (alone_out q vote a.1)) in
    (eqb→eq n m b.0, T-left (same_record r (record_for s v)) (among rs (record_for s v)) b.1))
    (λ u. let a = votes_out n rs s m v u in (a.0, T-right (same_record r (record_for s v)) (among rs (record_for s v)) a.1))

-- They are votes, and nothing else.
pub votes_only : (q : Arrival → Bool) (n : ℕ) (rs : List Record) → ((w : Record) → ¬ T (q (of_input (input.Vote (vote_in n w))))) → ¬ T (any_is q (as_votes n rs))
unfolding as_votes
votes_only q n [] f t = alone_none q t
votes_only q n (r ∷ rs) f t =
    any_cases q (whenever (tells_vote r) (λ _. of_input (input.Vote (vote_in n r)) ∷ []) []) (as_votes n rs) t
    (λ u. f r (alone_out q (of_input (input.Vote (vote_in n r))) (given_out q (tells_vote r) (of_input (input.Vote (vote_in n r)) ∷ []) u).1))
    (λ u. votes_only q n rs f u)
