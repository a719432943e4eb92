-- Histories to be computed, each of which shows why one chain needs a premise, or that it does not need one. Two nodes of stakes 3 and 1, both
-- honest, genesis 1; no other stake at all. That the faulty stake must stay strictly under a fifth safety shows (`AtOneFifth`): at exactly a
-- fifth two blocks of one slot have accepted proofs.
use Rattle.std.specs.Prelude.{◌≡◌, Bool, not, ◌&&◌, List, [], ◌∷◌, ℕ, zero, suc, T, eqb, length, Ok}
use Rattle.rulebook.specs.declared.CertificateKind.TheVariants as certificate
use Rattle.rulebook.specs.declared.VoteKind.TheVariants as kind
use Rattle.rulebook.specs.Certificates.{Certificate}
use Rattle.rulebook.specs.PaperNumbers.{kind_in}
use Rattle.rulebook.specs.Ledger.{fresh, own_cell, no_initial}
use Rattle.rulebook.specs.Votes.{store_vote}
use Rattle.rulebook.specs.Rules.{Record, record_of, fallback_weights, may_fallback, is_grounded}
use Rattle.rulebook.specs.Inputs.{start_verdict}
use Rattle.rulebook.specs.Checker.{check_proof}
use Rattle.rulebook.specs.Scripts.{vote, block, timeout, answers, after, equals}
use Rattle.rulebook.specs.Taking.{Arrival, of_input, of_packet}
use Rattle.safety.specs.Slot.{Ballot}
use Rattle.safety.specs.Examples.{inputs, acceptance}
use Rattle.safety.specs.Ring.{made_in, brought_by, HandedBy, Signers, cast_by, FewOthers, Ring}
use Rattle.chain.specs.OneChain.{kept_by, GenuineHere, AnnouncedOnce, OneParent, OnOneChain}
use Rattle.chain_histories.specs.Rings.{honest_two, genesis_two}

abbrev pub two : List ℕ
two = 3 ∷ 1 ∷ []

-- ---- two parents

-- Block 9 of slot 3 is shown to node 0 on block 6 of slot 1, and to node 1 on block 8 of slot 2. Node 0 makes 7 of slot 2 final, times out, falls
-- back to 9 on node 1's vote, and makes 11 of slot 5 on 9 final. Node 1 votes for 8 and 9, hears of 7 and 11, and is shown 11.
abbrev pub fed_parents : ℕ → List Arrival
fed_parents zero = inputs (block 1 6 0 1 ∷ block 2 7 1 6 ∷ timeout 3 ∷ vote 1 1 3 9 ∷ block 3 9 1 6 ∷ block 5 11 3 9 ∷ [])
fed_parents (suc n) =
    inputs (block 1 6 0 1 ∷ block 2 8 1 6 ∷ block 3 9 2 8 ∷ vote 1 0 2 7 ∷ vote 5 0 2 0 ∷ vote 1 0 5 11 ∷ vote 5 0 5 0 ∷ block 5 11 3 9 ∷ [])

abbrev pub told_parents : ℕ → List Record
told_parents zero =
    record_of 7 1 0 ∷ record_of 1 1 6 ∷ record_of 5 1 0 ∷ record_of 6 1 6 ∷ record_of 1 2 7 ∷ record_of 5 2 0 ∷ record_of 6 2 7 ∷ record_of 3 3 0 ∷ record_of 3 4 0 ∷ record_of 7 5 0
    ∷ record_of 2 3 9 ∷ record_of 1 5 11 ∷ record_of 5 5 0 ∷ record_of 6 5 11 ∷ record_of 6 3 9 ∷ []
told_parents (suc n) =
    record_of 7 1 0 ∷ record_of 1 1 6 ∷ record_of 1 2 8 ∷ record_of 1 3 9 ∷ record_of 6 2 7 ∷ record_of 6 5 11 ∷ record_of 6 3 9 ∷ record_of 8 2 8 ∷ []

-- Proofs by node 0's votes for block 7 of slot 2, and for block 11 of slot 5.
abbrev pub proof_of_seven_in_two : List ℕ
proof_of_seven_in_two = 0x02 ∷ 0x02 ∷ 0x07 ∷ 0x01 ∷ 0x00 ∷ 0x05 ∷ 0x02 ∷ 0x00 ∷ 0x01 ∷ 0x00 ∷ []

abbrev pub proof_of_eleven_in_five : List ℕ
proof_of_eleven_in_five = 0x02 ∷ 0x05 ∷ 0x0B ∷ 0x01 ∷ 0x00 ∷ 0x05 ∷ 0x05 ∷ 0x00 ∷ 0x01 ∷ 0x00 ∷ []

-- ONE PARENT EVERYWHERE IS NEEDED, also where a node does not cast notar for the block, as node 0 does not for 9: it is a ring, and each node
-- by itself keeps every block with one parent; yet both promises fail. Neither of two blocks with accepted genuine proofs is the other's ancestor, and
-- node 1 makes record (8, 2, 8).
pub record TwoParents : Type 0 where
  pub ring : Ring two genesis_two honest_two fed_parents
  pub one_each : (n s b p x q y : ℕ) → T (honest_two n) → T (kept_by two genesis_two honest_two fed_parents n s b p x) → T (kept_by two genesis_two honest_two fed_parents n s b q y) → (p ≡ q) × (x ≡ y)
  pub genuine_seven : GenuineHere two genesis_two honest_two fed_parents proof_of_seven_in_two
  pub genuine_eleven : GenuineHere two genesis_two honest_two fed_parents proof_of_eleven_in_five
  pub accepted_seven : check_proof two proof_of_seven_in_two ≡ Ok (acceptance certificate.Notar 2 7 1 3)
  pub accepted_eleven : check_proof two proof_of_eleven_in_five ≡ Ok (acceptance certificate.Notar 5 11 1 3)
  pub apart : ¬ OnOneChain two genesis_two honest_two fed_parents 2 7 5 11
  pub clash : T (made_in (fresh two 1 (genesis_two 1)) (fed_parents 1) (record_of 8 2 8))

-- ---- the own name in a kept certificate

-- Node 0 makes 7 of slot 1 final and is handed a certificate of kind 2 for block 8 that names node 0 alone: 6 is not asked of a certificate.
abbrev pub notar_in_own_name : List ℕ
notar_in_own_name = 0x02 ∷ 0x01 ∷ 0x08 ∷ 0x01 ∷ 0x00 ∷ []

abbrev pub fed_own_name : ℕ → List Arrival
fed_own_name zero = of_input (block 1 7 0 1) ∷ of_packet notar_in_own_name ∷ []
fed_own_name (suc n) = []

abbrev pub told_own_name : ℕ → List Record
told_own_name zero = record_of 7 1 0 ∷ record_of 1 1 7 ∷ record_of 5 1 0 ∷ record_of 6 1 7 ∷ record_of 8 1 8 ∷ []
told_own_name (suc n) = []

-- THE OWN NUMBER IS COVERED TOO: all of the premise holds but that a certificate handed to a node tells the truth about the node itself; and
-- node 0 makes record (8, 1, 8).
pub record OwnName : Type 0 where
  pub few : FewOthers two honest_two
  pub started : (n : ℕ) → T (honest_two n) → start_verdict two n (genesis_two n) ≡ Ok tt
  pub mail : (n m s : ℕ) (v : Ballot) → T (honest_two n) → T (honest_two m) → ¬ (m ≡ n) → T (brought_by (fed_own_name n) s m v) → T (cast_by two genesis_two honest_two fed_own_name m s v)
  pub packets : (n : ℕ) (c : Certificate) → T (honest_two n) → HandedBy (fed_own_name n) c
      → Signers (λ m. honest_two m && not (eqb m n)) (cast_by two genesis_two honest_two fed_own_name) (kind_in (length two) c.kind) c
  pub announced : AnnouncedOnce two genesis_two honest_two fed_own_name
  pub clash : T (made_in (fresh two 0 (genesis_two 0)) (fed_own_name 0) (record_of 8 1 8))

-- ---- #104

-- Node 1 is shown 8 and 9, and votes for both.
abbrev pub votes_nine : Bool
votes_nine =
    equals (answers (fresh two 1 1) (block 1 8 0 1 ∷ block 2 9 1 8 ∷ [])) ((0 ∷ 7 ∷ 1 ∷ 0 ∷ 1 ∷ 1 ∷ 8 ∷ []) ∷ (0 ∷ 1 ∷ 2 ∷ 9 ∷ []) ∷ [])

-- Node 0 makes 7 of slot 1 final, times out in slot 2, and hears node 1's vote for 9. It does not fall back to 9, whether 9 is announced or not,
-- since 8 holds no kind 3; and 11 of slot 5 on 9 gets no vote, since 9 is never ready.
abbrev pub mended : Bool
mended =
    equals (answers (fresh two 0 1) (block 1 7 0 1 ∷ timeout 2 ∷ vote 1 1 2 9 ∷ block 2 9 1 8 ∷ block 5 11 2 9 ∷ []))
    ((0 ∷ 7 ∷ 1 ∷ 0 ∷ 1 ∷ 1 ∷ 7 ∷ 5 ∷ 1 ∷ 0 ∷ 6 ∷ 1 ∷ 7 ∷ [])
    ∷ (0 ∷ 3 ∷ 2 ∷ 0 ∷ 3 ∷ 3 ∷ 0 ∷ 3 ∷ 4 ∷ 0 ∷ 7 ∷ 5 ∷ 0 ∷ [])
    ∷ (0 ∷ []) ∷ (0 ∷ []) ∷ (0 ∷ []) ∷ [])

-- #104 IS NEEDED: all else that rule D asks for 9 holds there, and what #104 adds does not. With the fallback that D would cast without #104
-- laid in, the same rules make 11 on 9 final: 7 and 11, of which neither is the other's ancestor, with no liar and one parent for every block.
abbrev pub unmended : Bool
unmended =
    let l = after (fresh two 0 1) (block 1 7 0 1 ∷ timeout 2 ∷ vote 1 1 2 9 ∷ []) in
    let c = own_cell l 2 in
    ((not (no_initial c) && may_fallback c 9) && (fallback_weights l 2 9 && not (is_grounded l 2 9)))
    && equals (answers (store_vote l 2 0 kind.NotarFallback 9) (block 5 11 2 9 ∷ [])) ((0 ∷ 1 ∷ 5 ∷ 11 ∷ 5 ∷ 5 ∷ 0 ∷ 6 ∷ 5 ∷ 11 ∷ 6 ∷ 2 ∷ 9 ∷ []) ∷ [])

-- Outside a first slot D does fall back once the block is announced and its parent holds kind 3: node 1 to 8 and 9, which node 0 votes for.
abbrev pub falls : Bool
falls =
    equals (answers (fresh two 1 1) (block 1 7 0 1 ∷ timeout 2 ∷ vote 1 0 1 8 ∷ vote 1 0 2 9 ∷ block 2 9 1 8 ∷ []))
    ((0 ∷ 7 ∷ 1 ∷ 0 ∷ 1 ∷ 1 ∷ 7 ∷ [])
    ∷ (0 ∷ 3 ∷ 2 ∷ 0 ∷ 3 ∷ 3 ∷ 0 ∷ 3 ∷ 4 ∷ 0 ∷ [])
    ∷ (0 ∷ 2 ∷ 1 ∷ 8 ∷ []) ∷ (0 ∷ []) ∷ (0 ∷ 2 ∷ 2 ∷ 9 ∷ []) ∷ [])

-- ---- one number in many slots

-- Genesis is 1, and so is the block of slot 1 on it, and the block of slot 2 on that.
abbrev pub fed_one_number : ℕ → List Arrival
fed_one_number zero = inputs (block 1 1 0 1 ∷ block 2 1 1 1 ∷ [])
fed_one_number (suc n) = []

abbrev pub told_one_number : ℕ → List Record
told_one_number zero = record_of 7 1 0 ∷ record_of 1 1 1 ∷ record_of 5 1 0 ∷ record_of 6 1 1 ∷ record_of 1 2 1 ∷ record_of 5 2 0 ∷ record_of 6 2 1 ∷ []
told_one_number (suc n) = []

-- ONE SLOT FOR A NUMBER IS NOT NEEDED, nor anything of genesis's: a block is a slot and a number, and all premises hold.
pub record OneNumber : Type 0 where
  pub ring : Ring two genesis_two honest_two fed_one_number
  pub one_parent : OneParent two genesis_two honest_two fed_one_number
  pub in_one : T (kept_by two genesis_two honest_two fed_one_number 0 1 1 0 1)
  pub in_two : T (kept_by two genesis_two honest_two fed_one_number 0 2 1 1 1)
  pub final_in_one : T (made_in (fresh two 0 (genesis_two 0)) (fed_one_number 0) (record_of 6 1 1))
  pub final_in_two : T (made_in (fresh two 0 (genesis_two 0)) (fed_one_number 0) (record_of 6 2 1))
  pub chained : OnOneChain two genesis_two honest_two fed_one_number 1 1 2 1
