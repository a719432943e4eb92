-- The histories, computed.
use Rattle.std.specs.Prelude.{Ok}
use mathlib.Core.Path.{◌≡◌, refl, subst}
use mathlib.Core.Bool.{Bool, not, ◌&&◌, ◌||◌}
use Prim.Native.Nat.{ℕ, suc, ◌-◌}
use native.Mathlib.Omega.{arith}
use lib.Dec.{T, eqb, eqb_refl, lit<, T_not}
use lib.ListN.{length}
use Rattle.rulebook.specs.Certificates.{Certificate}
use Rattle.rulebook.specs.Tools.{choose, all_to}
use Rattle.rulebook.specs.Weights.{stakes_fit}
use Rattle.rulebook.specs.Ledger.{fresh}
use Rattle.rulebook.specs.Rules.{record_of}
use Rattle.rulebook.specs.Inputs.{start_verdict}
use Rattle.rulebook.specs.Computes.{rules}
use Rattle.safety.specs.Slot.{Test}
use Rattle.safety.specs.Ring.{after_all, made_in, announced_by, cast_by, FewOthers, Ring, Genuine}
use Rattle.safety.specs.Examples.{told_in, mail_test, genuine_test, found_test, packets_test}
use Rattle.safety.proofs.Tests.{and_t, T_and}
use Rattle.safety.proofs.Packets.{two_genuine}
use Rattle.safety.proofs.Promises.{kept_blocks_announced}
use Rattle.safety.proofs.Examples.{start_good, mail_ok, genuine_ok, handed_ok}
use Rattle.chain.specs.Chain.{Descends, itself, child, below, above}
use Rattle.chain.specs.OneChain.{kept_by, GenuineHere, OneParent, OnOneChain, reported}
use Rattle.chain_histories.specs.Tests.{blocks_test, as_in_book}
use Rattle.chain_histories.specs.Rings.{honest_two, genesis_two}
use Rattle.chain_histories.specs.Histories.{two, fed_parents, told_parents, proof_of_seven_in_two, proof_of_eleven_in_five, TwoParents, fed_own_name, told_own_name, OwnName, votes_nine, mended, unmended, falls, fed_one_number, told_one_number, OneNumber}
use Rattle.chain.proofs.Chains.{settled_chained, announced_is_enough}
use Rattle.chain_histories.proofs.Tests.{blocks_tested, everywhere_tested, same_book, in_one_book, tested_ring, two_within, of_both}

-- ---- two honest nodes

two_few : FewOthers two honest_two
unfolding rules
two_few = lit< tt

two_fits : T (stakes_fit two (length two))
unfolding rules
two_fits = tt

two_started : (n : ℕ) → T (honest_two n) → start_verdict two n (genesis_two n) ≡ Ok tt
two_started n h = start_good two n (genesis_two n) two_fits (two_within n h) tt

-- ---- two parents

parents0 : told_in (fresh two 0 (genesis_two 0)) (fed_parents 0) ≡ told_parents 0
unfolding rules told_in
parents0 = refl

parents1 : told_in (fresh two 1 (genesis_two 1)) (fed_parents 1) ≡ told_parents 1
unfolding rules told_in
parents1 = refl

parents_lives : (n : ℕ) → T (honest_two n) → told_in (fresh two n (genesis_two n)) (fed_parents n) ≡ told_parents n
parents_lives = of_both (λ n. told_in (fresh two n (genesis_two n)) (fed_parents n) ≡ told_parents n) parents0 parents1

parents_mail : T (all_to 2 (λ n. not (honest_two n) || mail_test told_parents honest_two n (fed_parents n)))
unfolding rules mail_test
parents_mail = tt

parents_packets : T (all_to 2 (λ n. not (honest_two n) || packets_test told_parents honest_two (length two) 2 (fed_parents n)))
unfolding rules packets_test
parents_packets = tt

parents_ring : Ring two genesis_two honest_two fed_parents
parents_ring = tested_ring two genesis_two 2 honest_two fed_parents told_parents two_few two_fits two_within (omega arith) (λ n. tt) parents_lives parents_mail parents_packets

-- What an honest node keeps was announced to it.
parents_said : (n s b p x : ℕ) → T (honest_two n) → T (kept_by two genesis_two honest_two fed_parents n s b p x) → T (announced_by (fed_parents n) s b p x)
parents_said n s b p x h t = (kept_blocks_announced two n (genesis_two n) (two_started n h) (fed_parents n) s b p x t).0

-- Each node's own book: block 9 on slot 1's 6, or on slot 2's 8.
abbrev own_slot : ℕ → ℕ → ℕ → ℕ
own_slot n s b = choose (eqb b 6) 0 (choose (eqb b 11) 3 (choose (eqb b 9) (suc n) 1))

abbrev own_parent : ℕ → ℕ → ℕ → ℕ
own_parent n s b = choose (eqb b 6) 1 (choose (eqb b 11) 9 (choose (eqb b 9) (choose (eqb n 0) 6 8) 6))

own_book : (n : ℕ) → T (honest_two n) → T (blocks_test (as_in_book (own_slot n) (own_parent n)) (fed_parents n))
unfolding rules blocks_test as_in_book
own_book = of_both (λ n. T (blocks_test (as_in_book (own_slot n) (own_parent n)) (fed_parents n))) tt tt

parents_each : (n s b p x q y : ℕ) → T (honest_two n) → T (kept_by two genesis_two honest_two fed_parents n s b p x) → T (kept_by two genesis_two honest_two fed_parents n s b q y) → (p ≡ q) × (x ≡ y)
parents_each n s b p x q y h t u =
    same_book (own_slot n) (own_parent n) s b p x q y
    (blocks_tested (as_in_book (own_slot n) (own_parent n)) (fed_parents n) s b p x (parents_said n s b p x h t) (own_book n h))
    (blocks_tested (as_in_book (own_slot n) (own_parent n)) (fed_parents n) s b q y (parents_said n s b q y h u) (own_book n h))

-- No block is built on block y of slot q.
abbrev not_on : ℕ → ℕ → ℕ → ℕ → ℕ → ℕ → Bool
not_on q y s b p x = not (eqb p q && eqb x y)

-- A block that nobody builds on has no descendant but itself.
childless : (honest : Test) (kept : ℕ → ℕ → ℕ → ℕ → ℕ → Bool) (q y : ℕ) → ((n s b : ℕ) → T (honest n) → T (kept n s b q y) → ⊥)
    → (s b : ℕ) → Descends honest kept q y s b → (s ≡ q) × (b ≡ y)
childless honest kept q y never s b itself = (refl, refl)
childless honest kept q y never s b (child {q = p} {y = x} l d) =
    let e = childless honest kept q y never p x d in
    absurd (never l.node s b l.is_honest (subst (λ (z : ℕ). T (kept l.node s b q z)) e.1 (subst (λ (z : ℕ). T (kept l.node s b z x)) e.0 l.keeps)))

none_on : (q y : ℕ) → T (all_to 2 (λ n. not (honest_two n) || blocks_test (not_on q y) (fed_parents n))) → (s b : ℕ)
    → Descends honest_two (kept_by two genesis_two honest_two fed_parents) q y s b → (s ≡ q) × (b ≡ y)
none_on q y t =
    childless honest_two (kept_by two genesis_two honest_two fed_parents) q y
    (λ n s b h k. T_not (eqb q q && eqb y y) (everywhere_tested (not_on q y) 2 honest_two fed_parents two_within t n s b q y h (parents_said n s b q y h k))
    (T_and (eqb q q) (eqb y y) (eqb_refl q) (eqb_refl y)))

none_on_seven : T (all_to 2 (λ n. not (honest_two n) || blocks_test (not_on 2 7) (fed_parents n)))
unfolding rules blocks_test
none_on_seven = tt

none_on_eleven : T (all_to 2 (λ n. not (honest_two n) || blocks_test (not_on 5 11) (fed_parents n)))
unfolding rules blocks_test
none_on_eleven = tt

parents_apart_lem : ¬ OnOneChain two genesis_two honest_two fed_parents 2 7 5 11
parents_apart_lem (below d) = omega (arith, (none_on 2 7 none_on_seven 5 11 d).0)
parents_apart_lem (above d) = omega (arith, (none_on 5 11 none_on_eleven 2 7 d).0)

abbrev crt : ℕ → ℕ → ℕ → Certificate
crt k s b = record { kind = k; slot = s; block = b; maska = 1; maskb = 0 }

by_zero : (c : Certificate) → T (genuine_test told_parents honest_two (length two) 2 c) → Genuine (length two) honest_two (cast_by two genesis_two honest_two fed_parents) c
by_zero c t = genuine_ok two genesis_two 2 honest_two fed_parents told_parents two_within parents_lives c t

parents_seven : GenuineHere two genesis_two honest_two fed_parents proof_of_seven_in_two
unfolding rules genuine_test
parents_seven =
    two_genuine (length two) honest_two (cast_by two genesis_two honest_two fed_parents) proof_of_seven_in_two (crt 2 2 7) (crt 5 2 0) 5 10 refl refl (by_zero (crt 2 2 7) tt) (by_zero (crt 5 2 0) tt)

parents_eleven : GenuineHere two genesis_two honest_two fed_parents proof_of_eleven_in_five
unfolding rules genuine_test
parents_eleven =
    two_genuine (length two) honest_two (cast_by two genesis_two honest_two fed_parents) proof_of_eleven_in_five (crt 2 5 11) (crt 5 5 0) 5 10 refl refl (by_zero (crt 2 5 11) tt) (by_zero (crt 5 5 0) tt)

pub two_parents_lem : TwoParents
unfolding rules made_in
two_parents_lem =
    record {
      ring = parents_ring;
      one_each = parents_each;
      genuine_seven = parents_seven;
      genuine_eleven = parents_eleven;
      accepted_seven = refl;
      accepted_eleven = refl;
      apart = parents_apart_lem;
      clash = tt;
    }

-- ---- the own name in a kept certificate

name0 : told_in (fresh two 0 (genesis_two 0)) (fed_own_name 0) ≡ told_own_name 0
unfolding rules told_in
name0 = refl

name_lives : (n : ℕ) → T (honest_two n) → told_in (fresh two n (genesis_two n)) (fed_own_name n) ≡ told_own_name n
unfolding told_in
name_lives = of_both (λ n. told_in (fresh two n (genesis_two n)) (fed_own_name n) ≡ told_own_name n) name0 refl

name_mail : T (all_to 2 (λ n. not (honest_two n) || mail_test told_own_name honest_two n (fed_own_name n)))
unfolding rules mail_test
name_mail = tt

-- The honest nodes but one.
abbrev others : ℕ → Test
others n m = honest_two m && not (eqb m n)

others_honest : (n m : ℕ) → T (others n m) → T (honest_two m)
others_honest n m t = (and_t (honest_two m) (not (eqb m n)) t).0

name_packets : (n : ℕ) → T (honest_two n) → T (packets_test told_own_name (others n) (length two) 2 (fed_own_name n))
unfolding rules packets_test found_test genuine_test
name_packets = of_both (λ n. T (packets_test told_own_name (others n) (length two) 2 (fed_own_name n))) tt tt

name_book : T (all_to 2 (λ n. not (honest_two n) || blocks_test (as_in_book (λ s b. 0) (λ s b. 1)) (fed_own_name n)))
unfolding rules blocks_test as_in_book
name_book = tt

pub own_name : OwnName
unfolding rules made_in
own_name =
    record {
      few = two_few;
      started = two_started;
      mail = mail_ok two genesis_two 2 honest_two fed_own_name told_own_name two_within name_lives name_mail;
      packets = λ n c h d. handed_ok two genesis_two 2 (others n) fed_own_name told_own_name (λ m t. two_within m (others_honest n m t)) (λ m t. name_lives m (others_honest n m t)) (fed_own_name n) c
          (name_packets n h) d;
      announced = in_one_book (λ s b. 0) (λ s b. 1) two genesis_two 2 honest_two fed_own_name two_within name_book;
      clash = tt;
    }

-- ---- #104

pub mended_holds : T (votes_nine && (mended && unmended))
unfolding rules
mended_holds = tt

pub falls_holds : T falls
unfolding rules
falls_holds = tt

-- ---- one number in many slots

number0 : told_in (fresh two 0 (genesis_two 0)) (fed_one_number 0) ≡ told_one_number 0
unfolding rules told_in
number0 = refl

number_lives : (n : ℕ) → T (honest_two n) → told_in (fresh two n (genesis_two n)) (fed_one_number n) ≡ told_one_number n
unfolding told_in
number_lives = of_both (λ n. told_in (fresh two n (genesis_two n)) (fed_one_number n) ≡ told_one_number n) number0 refl

number_mail : T (all_to 2 (λ n. not (honest_two n) || mail_test told_one_number honest_two n (fed_one_number n)))
unfolding rules mail_test
number_mail = tt

number_packets : T (all_to 2 (λ n. not (honest_two n) || packets_test told_one_number honest_two (length two) 2 (fed_one_number n)))
unfolding rules packets_test
number_packets = tt

number_ring : Ring two genesis_two honest_two fed_one_number
number_ring = tested_ring two genesis_two 2 honest_two fed_one_number told_one_number two_few two_fits two_within (omega arith) (λ n. tt) number_lives number_mail number_packets

-- Each block is on number 1 of the slot before.
number_book : T (all_to 2 (λ n. not (honest_two n) || blocks_test (as_in_book (λ s b. s - 1) (λ s b. 1)) (fed_one_number n)))
unfolding rules blocks_test as_in_book
number_book = tt

number_parents : OneParent two genesis_two honest_two fed_one_number
number_parents = announced_is_enough two genesis_two honest_two fed_one_number number_ring (in_one_book (λ s b. s - 1) (λ s b. 1) two genesis_two 2 honest_two fed_one_number two_within number_book)

number_one : T (made_in (fresh two 0 (genesis_two 0)) (fed_one_number 0) (record_of 6 1 1))
unfolding rules made_in
number_one = tt

number_two : T (made_in (fresh two 0 (genesis_two 0)) (fed_one_number 0) (record_of 6 2 1))
unfolding rules made_in
number_two = tt

pub one_number : OneNumber
unfolding rules after_all
one_number =
    record {
      ring = number_ring;
      one_parent = number_parents;
      in_one = tt;
      in_two = tt;
      final_in_one = number_one;
      final_in_two = number_two;
      chained = settled_chained two genesis_two honest_two fed_one_number number_ring number_parents 1 1 2 1 (reported 0 tt number_one) (reported 0 tt number_two);
    }
