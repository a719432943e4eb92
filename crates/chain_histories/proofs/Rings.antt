-- The rings that meet every premise, computed.
use Rattle.std.specs.Prelude.{Ok}
use mathlib.Core.Path.{◌≡◌, refl}
use mathlib.Core.Bool.{not, ◌||◌}
use Prim.Native.Nat.{ℕ, zero, suc}
use native.Mathlib.Omega.{arith}
use lib.Dec.{T, ltb→lt, lit<}
use lib.ListN.{length}
use Rattle.rulebook.specs.declared.CertificateKind.TheVariants as certificate
use Rattle.rulebook.specs.Certificates.{Certificate}
use Rattle.rulebook.specs.Tools.{all_to}
use Rattle.rulebook.specs.Weights.{stakes_fit}
use Rattle.rulebook.specs.Ledger.{fresh, kept_at, is_kept}
use Rattle.rulebook.specs.Checker.{check_proof}
use Rattle.rulebook.specs.Writers.{write_proof}
use Rattle.rulebook.specs.Computes.{rules}
use Rattle.safety.specs.Ring.{after_all, life, cast_by, FewOthers, Ring, FedRing, Genuine}
use Rattle.safety.specs.Examples.{told_in, mail_test, genuine_test, found_test, packets_test, six, honest_six, genesis_six, acceptance}
use Rattle.safety.proofs.Promises.{mail_is_enough}
use Rattle.safety.proofs.Packets.{two_genuine}
use Rattle.safety.proofs.Examples.{genuine_ok, six_within, six_few, six_fits, six_genesis}
use Rattle.chain.specs.OneChain.{AnnouncedOnce, OneParent, GenuineHere}
use Rattle.chain_histories.specs.Tests.{blocks_test, as_in_book}
use Rattle.chain_histories.specs.Rings.{fed_chain, told_chain, book_slot, book_parent, proof_of_seven, proof_of_eleven, ChainRing, wide, honest_two, genesis_two, fed_wide, told_wide, wide_of_seven, wide_of_eleven, WideRing}
use Rattle.chain.proofs.Chains.{proofs_chained, announced_is_enough}
use Rattle.chain_histories.proofs.Tests.{in_one_book, tested_fed, tested_ring, two_within, of_both}

-- ---- six nodes and a liar

chain0 : told_in (fresh six 0 (genesis_six 0)) (fed_chain 0) ≡ told_chain 0
unfolding rules told_in
chain0 = refl

chain1 : told_in (fresh six 1 (genesis_six 1)) (fed_chain 1) ≡ told_chain 1
unfolding rules told_in
chain1 = refl

chain2 : told_in (fresh six 2 (genesis_six 2)) (fed_chain 2) ≡ told_chain 2
unfolding rules told_in
chain2 = refl

chain3 : told_in (fresh six 3 (genesis_six 3)) (fed_chain 3) ≡ told_chain 3
unfolding rules told_in
chain3 = refl

chain4 : told_in (fresh six 4 (genesis_six 4)) (fed_chain 4) ≡ told_chain 4
unfolding rules told_in
chain4 = refl

chain_lives : (n : ℕ) → T (honest_six n) → told_in (fresh six n (genesis_six n)) (fed_chain n) ≡ told_chain n
chain_lives zero h = chain0
chain_lives (suc zero) h = chain1
chain_lives (suc (suc zero)) h = chain2
chain_lives (suc (suc (suc zero))) h = chain3
chain_lives (suc (suc (suc (suc zero)))) h = chain4
chain_lives (suc (suc (suc (suc (suc n))))) h = absurd (omega (arith, ltb→lt (suc (suc (suc (suc (suc n))))) 5 h))

chain_mail : T (all_to 5 (λ n. not (honest_six n) || mail_test told_chain honest_six n (fed_chain n)))
unfolding rules mail_test
chain_mail = tt

chain_packets : T (all_to 5 (λ n. not (honest_six n) || packets_test told_chain honest_six (length six) 5 (fed_chain n)))
unfolding rules packets_test found_test genuine_test
chain_packets = tt

chain_fed : FedRing six genesis_six honest_six fed_chain
chain_fed = tested_fed six genesis_six 5 honest_six fed_chain told_chain six_few six_fits six_within (omega arith) six_genesis chain_lives chain_mail chain_packets

chain_ring : Ring six genesis_six honest_six fed_chain
chain_ring = mail_is_enough six genesis_six honest_six fed_chain chain_fed

chain_book : T (all_to 5 (λ n. not (honest_six n) || blocks_test (as_in_book book_slot book_parent) (fed_chain n)))
unfolding rules blocks_test as_in_book
chain_book = tt

chain_announced : AnnouncedOnce six genesis_six honest_six fed_chain
chain_announced = in_one_book book_slot book_parent six genesis_six 5 honest_six fed_chain six_within chain_book

chain_parents : OneParent six genesis_six honest_six fed_chain
chain_parents = announced_is_enough six genesis_six honest_six fed_chain chain_ring chain_announced

abbrev crt : ℕ → ℕ → ℕ → Certificate
crt k s b = record { kind = k; slot = s; block = b; maska = 15; maskb = 0 }

good : (c : Certificate) → T (genuine_test told_chain honest_six (length six) 5 c) → Genuine (length six) honest_six (cast_by six genesis_six honest_six fed_chain) c
good c t = genuine_ok six genesis_six 5 honest_six fed_chain told_chain six_within chain_lives c t

chain_seven : GenuineHere six genesis_six honest_six fed_chain proof_of_seven
unfolding rules genuine_test
chain_seven =
    two_genuine (length six) honest_six (cast_by six genesis_six honest_six fed_chain) proof_of_seven (crt 2 1 7) (crt 5 1 0) 5 10 refl refl (good (crt 2 1 7) tt) (good (crt 5 1 0) tt)

chain_eleven : GenuineHere six genesis_six honest_six fed_chain proof_of_eleven
unfolding rules genuine_test
chain_eleven =
    two_genuine (length six) honest_six (cast_by six genesis_six honest_six fed_chain) proof_of_eleven (crt 2 5 11) (crt 5 5 0) 5 10 refl refl (good (crt 2 5 11) tt) (good (crt 5 5 0) tt)

chain_accepted_seven : check_proof six proof_of_seven ≡ Ok (acceptance certificate.Notar 1 7 4 4)
unfolding rules
chain_accepted_seven = refl

chain_accepted_eleven : check_proof six proof_of_eleven ≡ Ok (acceptance certificate.Notar 5 11 4 4)
unfolding rules
chain_accepted_eleven = refl

chain_keeps_nine : T (is_kept (kept_at (life six genesis_six honest_six fed_chain 4) 2 1))
unfolding rules after_all
chain_keeps_nine = tt

chain_keeps_final : T (is_kept (kept_at (life six genesis_six honest_six fed_chain 4) 2 3))
unfolding rules after_all
chain_keeps_final = tt

chain_written_seven : (write_proof (life six genesis_six honest_six fed_chain 2) 64 1 7).bytes ≡ proof_of_seven
unfolding rules after_all
chain_written_seven = refl

chain_written_eleven : (write_proof (life six genesis_six honest_six fed_chain 0) 64 5 11).bytes ≡ proof_of_eleven
unfolding rules after_all
chain_written_eleven = refl

pub chain_example : ChainRing
chain_example =
    record {
      ring = chain_ring;
      fed = chain_fed;
      announced = chain_announced;
      one_parent = chain_parents;
      keeps_nine = chain_keeps_nine;
      keeps_final = chain_keeps_final;
      written_seven = chain_written_seven;
      written_eleven = chain_written_eleven;
      genuine_seven = chain_seven;
      genuine_eleven = chain_eleven;
      accepted_seven = chain_accepted_seven;
      accepted_eleven = chain_accepted_eleven;
      chained = proofs_chained six genesis_six honest_six fed_chain chain_ring chain_parents proof_of_seven proof_of_eleven _ _ chain_seven chain_eleven chain_accepted_seven chain_accepted_eleven;
    }

-- ---- 65 nodes

wide0 : told_in (fresh wide 0 (genesis_two 0)) (fed_wide 0) ≡ told_wide 0
unfolding rules told_in
wide0 = refl

wide1 : told_in (fresh wide 1 (genesis_two 1)) (fed_wide 1) ≡ told_wide 1
unfolding rules told_in
wide1 = refl

wide_lives : (n : ℕ) → T (honest_two n) → told_in (fresh wide n (genesis_two n)) (fed_wide n) ≡ told_wide n
wide_lives = of_both (λ n. told_in (fresh wide n (genesis_two n)) (fed_wide n) ≡ told_wide n) wide0 wide1

wide_few : FewOthers wide honest_two
unfolding rules
wide_few = lit< tt

wide_fits : T (stakes_fit wide (length wide))
unfolding rules
wide_fits = tt

wide_mail : T (all_to 2 (λ n. not (honest_two n) || mail_test told_wide honest_two n (fed_wide n)))
unfolding rules mail_test
wide_mail = tt

wide_packets : T (all_to 2 (λ n. not (honest_two n) || packets_test told_wide honest_two (length wide) 2 (fed_wide n)))
unfolding rules packets_test found_test genuine_test
wide_packets = tt

wide_ring : Ring wide genesis_two honest_two fed_wide
wide_ring = tested_ring wide genesis_two 2 honest_two fed_wide told_wide wide_few wide_fits two_within (omega arith) (λ n. tt) wide_lives wide_mail wide_packets

wide_book : T (all_to 2 (λ n. not (honest_two n) || blocks_test (as_in_book book_slot book_parent) (fed_wide n)))
unfolding rules blocks_test as_in_book
wide_book = tt

wide_parents : OneParent wide genesis_two honest_two fed_wide
wide_parents = announced_is_enough wide genesis_two honest_two fed_wide wide_ring (in_one_book book_slot book_parent wide genesis_two 2 honest_two fed_wide two_within wide_book)

abbrev by_zero : ℕ → ℕ → ℕ → Certificate
by_zero k s b = record { kind = k; slot = s; block = b; maska = 1; maskb = 0 }

wide_good : (c : Certificate) → T (genuine_test told_wide honest_two (length wide) 2 c) → Genuine (length wide) honest_two (cast_by wide genesis_two honest_two fed_wide) c
wide_good c t = genuine_ok wide genesis_two 2 honest_two fed_wide told_wide two_within wide_lives c t

wide_seven : GenuineHere wide genesis_two honest_two fed_wide wide_of_seven
unfolding rules genuine_test
wide_seven =
    two_genuine (length wide) honest_two (cast_by wide genesis_two honest_two fed_wide) wide_of_seven (by_zero 12 1 7) (by_zero 15 1 0) 67 134 refl refl
    (wide_good (by_zero 12 1 7) tt) (wide_good (by_zero 15 1 0) tt)

wide_eleven : GenuineHere wide genesis_two honest_two fed_wide wide_of_eleven
unfolding rules genuine_test
wide_eleven =
    two_genuine (length wide) honest_two (cast_by wide genesis_two honest_two fed_wide) wide_of_eleven (by_zero 12 5 11) (by_zero 15 5 0) 67 134 refl refl
    (wide_good (by_zero 12 5 11) tt) (wide_good (by_zero 15 5 0) tt)

wide_accepted_seven : check_proof wide wide_of_seven ≡ Ok (acceptance certificate.Notar 1 7 1 300)
unfolding rules
wide_accepted_seven = refl

wide_accepted_eleven : check_proof wide wide_of_eleven ≡ Ok (acceptance certificate.Notar 5 11 1 300)
unfolding rules
wide_accepted_eleven = refl

wide_keeps : T (is_kept (kept_at (life wide genesis_two honest_two fed_wide 1) 2 1))
unfolding rules after_all
wide_keeps = tt

pub wide_example : WideRing
wide_example =
    record {
      ring = wide_ring;
      one_parent = wide_parents;
      keeps_nine = wide_keeps;
      genuine_seven = wide_seven;
      genuine_eleven = wide_eleven;
      accepted_seven = wide_accepted_seven;
      accepted_eleven = wide_accepted_eleven;
      chained = proofs_chained wide genesis_two honest_two fed_wide wide_ring wide_parents wide_of_seven wide_of_eleven _ _ wide_seven wide_eleven wide_accepted_seven wide_accepted_eleven;
    }
