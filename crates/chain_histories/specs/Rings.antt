-- Two rings to be computed, one for each family of kinds, that meet every premise of one chain, with a liar, kept certificates and the
-- ancestor walk.
use Rattle.std.specs.Prelude.{◌≡◌, List, [], ◌∷◌, ◌++◌, ℕ, zero, suc, T, eqb, ltb, replicate, Ok}
use Rattle.rulebook.specs.declared.Input.{Input}
use Rattle.rulebook.specs.declared.CertificateKind.TheVariants as certificate
use Rattle.rulebook.specs.Tools.{choose}
use Rattle.rulebook.specs.Ledger.{kept_at, is_kept}
use Rattle.rulebook.specs.Rules.{Record, record_of}
use Rattle.rulebook.specs.Checker.{check_proof}
use Rattle.rulebook.specs.Scripts.{vote, block, timeout, look, votes}
use Rattle.rulebook.specs.Taking.{Arrival, of_input, of_packet}
use Rattle.rulebook.specs.Writers.{write_proof}
use Rattle.safety.specs.Slot.{Test}
use Rattle.safety.specs.Examples.{inputs, six, honest_six, genesis_six, acceptance}
use Rattle.safety.specs.Ring.{life, Ring, FedRing}
use Rattle.chain.specs.OneChain.{GenuineHere, AnnouncedOnce, OneParent, OnOneChain}

-- ---- six nodes of stake 1, node 5 a liar

-- One of nodes 0 to 3, by the three others: block 9 of slot 2 is final, and 7 of slot 1 before it; slots 3 and 4 are skipped; block 11 of slot
-- 5 is built on 9.
abbrev pub builder : List ℕ → ℕ → List Input
builder others lie =
    block 1 7 0 1 ∷ block 2 9 1 7 ∷ vote 1 5 2 lie ∷ votes 1 others 1 7 ++ votes 1 others 2 9 ++ votes 5 others 1 0 ++ votes 5 others 2 0
    ++ (timeout 3 ∷ votes 3 others 3 0 ++ votes 3 others 4 0 ++ (block 5 11 2 9 ∷ votes 1 others 5 11 ++ votes 5 others 5 0))

-- The notar votes of nodes 0 to 3 for block 9 in slot 2 as a certificate, and their final votes.
abbrev pub notar_of_nine : List ℕ
notar_of_nine = 0x02 ∷ 0x02 ∷ 0x09 ∷ 0x0F ∷ 0x00 ∷ []

abbrev pub final_of_two : List ℕ
final_of_two = 0x05 ∷ 0x02 ∷ 0x00 ∷ 0x0F ∷ 0x00 ∷ []

-- Node 4 times out, is handed both certificates, and is shown block 9 late: by the walk 7 is final there too. The liar tells 0 and 1 that it
-- voted for 9 in slot 2, and the others for 8.
abbrev pub fed_chain : ℕ → List Arrival
fed_chain zero = inputs (builder (1 ∷ 2 ∷ 3 ∷ []) 9)
fed_chain (suc zero) = inputs (builder (0 ∷ 2 ∷ 3 ∷ []) 9)
fed_chain (suc (suc zero)) = inputs (builder (0 ∷ 1 ∷ 3 ∷ []) 8)
fed_chain (suc (suc (suc zero))) = inputs (builder (0 ∷ 1 ∷ 2 ∷ []) 8)
fed_chain (suc (suc (suc (suc n)))) = of_input look ∷ of_input (timeout 1) ∷ of_packet notar_of_nine ∷ of_packet final_of_two ∷ of_input (block 2 9 1 7) ∷ []

-- What each tells: 0 and 1 have kind 1 for block 9, and 7 by the walk; 2 and 3 have kinds 2 and 5 for both.
abbrev pub told_with : List Record → List Record
told_with finals =
    record_of 7 1 0 ∷ record_of 1 1 7 ∷ record_of 1 2 9 ∷ record_of 5 1 0 ∷ record_of 5 2 0 ∷ finals
    ++ (record_of 3 3 0 ∷ record_of 3 4 0 ∷ record_of 7 5 0 ∷ record_of 1 5 11 ∷ record_of 5 5 0 ∷ record_of 6 5 11 ∷ [])

abbrev pub told_chain : ℕ → List Record
told_chain zero = told_with (record_of 6 2 9 ∷ record_of 6 1 7 ∷ [])
told_chain (suc zero) = told_with (record_of 6 2 9 ∷ record_of 6 1 7 ∷ [])
told_chain (suc (suc zero)) = told_with (record_of 6 1 7 ∷ record_of 6 2 9 ∷ [])
told_chain (suc (suc (suc zero))) = told_with (record_of 6 1 7 ∷ record_of 6 2 9 ∷ [])
told_chain (suc (suc (suc (suc n)))) =
    record_of 7 1 0 ∷ record_of 3 1 0 ∷ record_of 3 2 0 ∷ record_of 3 3 0 ∷ record_of 3 4 0 ∷ record_of 6 2 9 ∷ record_of 6 1 7 ∷ []

-- The book of blocks: 7 on genesis, 9 on 7, 11 on 9.
abbrev pub book_slot : ℕ → ℕ → ℕ
book_slot s b = choose (eqb b 7) 0 (choose (eqb b 9) 1 2)

abbrev pub book_parent : ℕ → ℕ → ℕ
book_parent s b = choose (eqb b 7) 1 (choose (eqb b 9) 7 9)

-- Proofs of kinds 2 and 5 by nodes 0 to 3, for block 7 of slot 1 and for block 11 of slot 5.
abbrev pub proof_of_seven : List ℕ
proof_of_seven = 0x02 ∷ 0x01 ∷ 0x07 ∷ 0x0F ∷ 0x00 ∷ 0x05 ∷ 0x01 ∷ 0x00 ∷ 0x0F ∷ 0x00 ∷ []

abbrev pub proof_of_eleven : List ℕ
proof_of_eleven = 0x02 ∷ 0x05 ∷ 0x0B ∷ 0x0F ∷ 0x00 ∷ 0x05 ∷ 0x05 ∷ 0x00 ∷ 0x0F ∷ 0x00 ∷ []

-- THE PREMISES CAN BE MET, with a liar whose two votes stand in honest pools, with certificates kept and with the walk; both proofs are what
-- nodes' writers give, are genuine and are accepted, in slots 1 and 5; and they are on one chain.
pub record ChainRing : Type 0 where
  pub ring : Ring six genesis_six honest_six fed_chain
  pub fed : FedRing six genesis_six honest_six fed_chain
  pub announced : AnnouncedOnce six genesis_six honest_six fed_chain
  pub one_parent : OneParent six genesis_six honest_six fed_chain
  pub keeps_nine : T (is_kept (kept_at (life six genesis_six honest_six fed_chain 4) 2 1))
  pub keeps_final : T (is_kept (kept_at (life six genesis_six honest_six fed_chain 4) 2 3))
  pub written_seven : (write_proof (life six genesis_six honest_six fed_chain 2) 64 1 7).bytes ≡ proof_of_seven
  pub written_eleven : (write_proof (life six genesis_six honest_six fed_chain 0) 64 5 11).bytes ≡ proof_of_eleven
  pub genuine_seven : GenuineHere six genesis_six honest_six fed_chain proof_of_seven
  pub genuine_eleven : GenuineHere six genesis_six honest_six fed_chain proof_of_eleven
  pub accepted_seven : check_proof six proof_of_seven ≡ Ok (acceptance certificate.Notar 1 7 4 4)
  pub accepted_eleven : check_proof six proof_of_eleven ≡ Ok (acceptance certificate.Notar 5 11 4 4)
  pub chained : OnOneChain six genesis_six honest_six fed_chain 1 7 5 11

-- ---- 65 nodes, kinds 11 to 15; nodes 0 and 1 are honest and have 400 of the stake of 463

abbrev pub wide : List ℕ
wide = 300 ∷ 100 ∷ replicate 63 1

abbrev pub honest_two : Test
honest_two n = ltb n 2

abbrev pub genesis_two : ℕ → ℕ
genesis_two n = 1

-- A certificate of kinds 11 to 15 that node 0 alone has signed.
abbrev pub signed_by_zero : ℕ → ℕ → ℕ → List ℕ
signed_by_zero k s b = k ∷ s ∷ b ∷ 1 ∷ replicate 63 0

-- Node 0 builds 7, 9 and 11 as above; node 1 times out, is handed both certificates for slot 2, and is shown block 9 late. Node 64 tells node 0
-- that it voted for 8 in slot 2, and node 1 for 9.
abbrev pub fed_wide : ℕ → List Arrival
fed_wide zero = inputs (block 1 7 0 1 ∷ block 2 9 1 7 ∷ vote 1 64 2 8 ∷ timeout 3 ∷ block 5 11 2 9 ∷ [])
fed_wide (suc n) =
    of_input look ∷ of_input (timeout 1) ∷ of_input (vote 1 64 2 9) ∷ of_packet (signed_by_zero 12 2 9) ∷ of_packet (signed_by_zero 15 2 0) ∷ of_input (block 2 9 1 7) ∷ []

abbrev pub told_wide : ℕ → List Record
told_wide zero =
    record_of 7 1 0 ∷ record_of 1 1 7 ∷ record_of 5 1 0 ∷ record_of 6 1 7 ∷ record_of 1 2 9 ∷ record_of 5 2 0 ∷ record_of 6 2 9 ∷ record_of 3 3 0 ∷ record_of 3 4 0
    ∷ record_of 7 5 0 ∷ record_of 1 5 11 ∷ record_of 5 5 0 ∷ record_of 6 5 11 ∷ []
told_wide (suc n) = record_of 7 1 0 ∷ record_of 3 1 0 ∷ record_of 3 2 0 ∷ record_of 3 3 0 ∷ record_of 3 4 0 ∷ record_of 6 2 9 ∷ record_of 6 1 7 ∷ []

-- Proofs of kinds 12 and 15 by node 0, for block 7 of slot 1 and for block 11 of slot 5.
abbrev pub wide_of_seven : List ℕ
wide_of_seven = signed_by_zero 12 1 7 ++ signed_by_zero 15 1 0

abbrev pub wide_of_eleven : List ℕ
wide_of_eleven = signed_by_zero 12 5 11 ++ signed_by_zero 15 5 0

-- THE PREMISES CAN BE MET in a large table too.
pub record WideRing : Type 0 where
  pub ring : Ring wide genesis_two honest_two fed_wide
  pub one_parent : OneParent wide genesis_two honest_two fed_wide
  pub keeps_nine : T (is_kept (kept_at (life wide genesis_two honest_two fed_wide 1) 2 1))
  pub genuine_seven : GenuineHere wide genesis_two honest_two fed_wide wide_of_seven
  pub genuine_eleven : GenuineHere wide genesis_two honest_two fed_wide wide_of_eleven
  pub accepted_seven : check_proof wide wide_of_seven ≡ Ok (acceptance certificate.Notar 1 7 1 300)
  pub accepted_eleven : check_proof wide wide_of_eleven ≡ Ok (acceptance certificate.Notar 5 11 1 300)
  pub chained : OnOneChain wide genesis_two honest_two fed_wide 1 7 5 11
