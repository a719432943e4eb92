-- Computed cases of what is missing: at a threshold and around it, beside each number of a check, and to a certificate held.
use Rattle.std.specs.Prelude.{Bool, true, false, ◌&&◌, List, [], ◌∷◌, ◌++◌, ℕ, ◌^◌, replicate, T, Result}
use Rattle.rulebook.specs.declared.CertificateKind.TheVariants as certificate
use Rattle.rulebook.specs.Weights.{missing}
use Rattle.rulebook.specs.declared.Refusal.TheVariants as refusal
use Rattle.rulebook.specs.PaperNumbers.{refusal_missing, check_missing, check_number}
use Rattle.rulebook.specs.Pool.{missing_to}
use Rattle.rulebook.specs.Checker.{check_certificate, check_proof}
use Rattle.rulebook.specs.Scripts.{votes, stored, ring, equal, equals, all}
use Rattle.rulebook.specs.Bench.{ten}
use Rattle.rulebook.specs.Computes.{rules}
use Rattle.rulebook.specs.declared.Accepted.{Accepted}
use Rattle.rulebook.specs.declared.Refusal.{Refusal}

-- 60 and 80 percent of 10: more than enough, exactly enough, then one short, three short, all short.
abbrev distances : Bool
distances =
    equal (missing 3 10 7 ∷ missing 3 10 6 ∷ missing 3 10 5 ∷ missing 3 10 3 ∷ missing 3 10 0 ∷ missing 4 10 9 ∷ missing 4 10 8 ∷ missing 4 10 7 ∷ missing 4 10 5 ∷ missing 4 10 0 ∷ [])
    (0 ∷ 0 ∷ 1 ∷ 3 ∷ 6 ∷ 0 ∷ 0 ∷ 1 ∷ 3 ∷ 8 ∷ [])

-- Totals that are no multiple of five: a part of a unit is a whole unit missing. 2^48 is the largest total.
abbrev uneven : Bool
uneven =
    all (equal (missing 3 11 4 ∷ missing 3 12 4 ∷ missing 3 13 4 ∷ missing 3 14 4 ∷ []) (3 ∷ 4 ∷ 4 ∷ 5 ∷ [])
    ∷ equal (missing 4 11 4 ∷ missing 4 12 4 ∷ missing 4 13 4 ∷ missing 4 14 4 ∷ []) (5 ∷ 6 ∷ 7 ∷ 8 ∷ [])
    ∷ equal (missing 1 7 1 ∷ missing 2 7 3 ∷ missing 2 7 2 ∷ missing 3 1 0 ∷ missing 4 1 1 ∷ []) (1 ∷ 0 ∷ 1 ∷ 1 ∷ 0 ∷ [])
    ∷ equal (missing 3 (2 ^ 48) 0 ∷ missing 3 (2 ^ 48) 168884986026393 ∷ missing 3 (2 ^ 48) 168884986026394 ∷ []) (168884986026394 ∷ 1 ∷ 0 ∷ []) ∷ [])

-- A check's number, and the figure beside it.
abbrev figure : Result Accepted Refusal → List ℕ
figure a = check_number a ∷ check_missing a ∷ []

abbrev checks : List ℕ → List (List ℕ) → List (List ℕ)
checks stakes [] = []
checks stakes (p ∷ ps) = figure (check_certificate stakes p) ∷ checks stakes ps

abbrev proofs : List ℕ → List (List ℕ) → List (List ℕ)
proofs stakes [] = []
proofs stakes (p ∷ ps) = figure (check_proof stakes p) ∷ proofs stakes ps

-- Stakes 4, 2, 1: 60 percent are 5 and 80 percent are 6. Kind 2, then kinds 1, 4, 5 of the same signers; leftover bytes come after 15.
abbrev light : Bool
light =
    equals (checks (4 ∷ 2 ∷ 1 ∷ []) ((2 ∷ 1 ∷ 7 ∷ 5 ∷ 0 ∷ []) ∷ (2 ∷ 1 ∷ 7 ∷ 1 ∷ 0 ∷ []) ∷ (2 ∷ 1 ∷ 7 ∷ 6 ∷ 0 ∷ []) ∷ (2 ∷ 1 ∷ 7 ∷ 0 ∷ 0 ∷ []) ∷ (1 ∷ 1 ∷ 7 ∷ 3 ∷ 0 ∷ []) ∷ (1 ∷ 1 ∷ 7 ∷ 5 ∷ 0 ∷ [])
    ∷ (1 ∷ 1 ∷ 7 ∷ 6 ∷ 0 ∷ []) ∷ (4 ∷ 1 ∷ 0 ∷ 2 ∷ 4 ∷ []) ∷ (5 ∷ 1 ∷ 0 ∷ 6 ∷ 0 ∷ []) ∷ (2 ∷ 1 ∷ 7 ∷ 6 ∷ 0 ∷ 9 ∷ []) ∷ []))
    ((0 ∷ 0 ∷ []) ∷ (15 ∷ 1 ∷ []) ∷ (15 ∷ 2 ∷ []) ∷ (15 ∷ 5 ∷ []) ∷ (0 ∷ 0 ∷ []) ∷ (15 ∷ 1 ∷ []) ∷ (15 ∷ 3 ∷ []) ∷ (15 ∷ 2 ∷ []) ∷ (15 ∷ 2 ∷ []) ∷ (15 ∷ 2 ∷ []) ∷ [])

-- "with every other refusal it is 0", though the signers are light too: 1, 12, 13, 4, 3, 5, 14.
abbrev others : Bool
others =
    equals (checks [] ([] ∷ [])) ((1 ∷ 0 ∷ []) ∷ [])
    && equals (checks (4 ∷ 2 ∷ 1 ∷ []) ((2 ∷ 1 ∷ 7 ∷ 0 ∷ []) ∷ (2 ∷ 1 ∷ 7 ∷ 128 ∷ 0 ∷ 0 ∷ []) ∷ (9 ∷ 1 ∷ 7 ∷ 0 ∷ 0 ∷ []) ∷ (2 ∷ 17 ∷ 7 ∷ 0 ∷ 0 ∷ []) ∷ (2 ∷ 1 ∷ 0 ∷ 0 ∷ 0 ∷ [])
    ∷ (2 ∷ 1 ∷ 7 ∷ 8 ∷ 0 ∷ []) ∷ (2 ∷ 1 ∷ 7 ∷ 0 ∷ 1 ∷ []) ∷ (3 ∷ 1 ∷ 7 ∷ 2 ∷ 2 ∷ []) ∷ []))
    ((12 ∷ 0 ∷ []) ∷ (13 ∷ 0 ∷ []) ∷ (4 ∷ 0 ∷ []) ∷ (3 ∷ 0 ∷ []) ∷ (5 ∷ 0 ∷ []) ∷ (14 ∷ 0 ∷ []) ∷ (14 ∷ 0 ∷ []) ∷ (14 ∷ 0 ∷ []) ∷ [])

-- Of a proof, the figure is that of the certificate that is too light: the first, or the second where the first is not.
abbrev of_proofs : Bool
of_proofs =
    equals (proofs (4 ∷ 2 ∷ 1 ∷ []) ((1 ∷ 1 ∷ 7 ∷ 5 ∷ 0 ∷ []) ∷ (2 ∷ 1 ∷ 7 ∷ 6 ∷ 0 ∷ 5 ∷ 1 ∷ 0 ∷ 0 ∷ 0 ∷ []) ∷ (2 ∷ 1 ∷ 7 ∷ 7 ∷ 0 ∷ 5 ∷ 1 ∷ 0 ∷ 6 ∷ 0 ∷ [])
    ∷ (2 ∷ 1 ∷ 7 ∷ 5 ∷ 0 ∷ 5 ∷ 1 ∷ 0 ∷ 1 ∷ 0 ∷ []) ∷ (2 ∷ 1 ∷ 7 ∷ 5 ∷ 0 ∷ 5 ∷ 2 ∷ 0 ∷ 0 ∷ 0 ∷ []) ∷ (2 ∷ 1 ∷ 7 ∷ 5 ∷ 0 ∷ 5 ∷ 1 ∷ 0 ∷ 8 ∷ 0 ∷ [])
    ∷ (2 ∷ 1 ∷ 7 ∷ 5 ∷ 0 ∷ 5 ∷ 2 ∷ 0 ∷ 5 ∷ 0 ∷ []) ∷ (2 ∷ 1 ∷ 7 ∷ 5 ∷ 0 ∷ 5 ∷ 1 ∷ 0 ∷ 5 ∷ 0 ∷ 9 ∷ []) ∷ (2 ∷ 1 ∷ 7 ∷ 5 ∷ 0 ∷ 5 ∷ 1 ∷ 0 ∷ 5 ∷ 0 ∷ []) ∷ []))
    ((15 ∷ 1 ∷ []) ∷ (15 ∷ 2 ∷ []) ∷ (15 ∷ 2 ∷ []) ∷ (15 ∷ 1 ∷ []) ∷ (15 ∷ 5 ∷ []) ∷ (14 ∷ 0 ∷ []) ∷ (16 ∷ 0 ∷ []) ∷ (12 ∷ 0 ∷ []) ∷ (0 ∷ 0 ∷ []) ∷ [])

-- Ten nodes: four notar votes for 7 and a fallback vote, two skips and two skip-fallbacks, seven final votes.
abbrev of_votes : Bool
of_votes =
    let l = stored ten (votes 1 (1 ∷ 2 ∷ 3 ∷ 4 ∷ []) 1 7 ++ votes 2 (5 ∷ []) 1 7 ++ votes 3 (5 ∷ 6 ∷ []) 1 0 ++ votes 4 (1 ∷ 2 ∷ []) 1 0 ++ votes 5 (1 ∷ 2 ∷ 3 ∷ 4 ∷ 5 ∷ 6 ∷ 7 ∷ []) 1 0) in
    equal (missing_to l certificate.FastFinal 1 7 ∷ missing_to l certificate.Notar 1 7 ∷ missing_to l certificate.NotarFallback 1 7 ∷ missing_to l certificate.Skip 1 0 ∷ missing_to l certificate.Final 1 0
    ∷ missing_to l certificate.Notar 1 8 ∷ [])
    (4 ∷ 2 ∷ 1 ∷ 2 ∷ 0 ∷ 6 ∷ [])

-- Stakes 4, 2, 1: what is missing is stake, not nodes. Node 1's notar vote, and node 2's.
abbrev of_stake : Bool
of_stake =
    let l = stored (ring (4 ∷ 2 ∷ 1 ∷ []) []) (votes 1 (1 ∷ 2 ∷ []) 2 7) in
    equal (missing_to l certificate.FastFinal 2 7 ∷ missing_to l certificate.Notar 2 7 ∷ missing_to l certificate.Final 2 0 ∷ []) (3 ∷ 2 ∷ 5 ∷ [])

-- Each refusal by itself: 15 alone has a figure.
abbrev figures : Bool
figures =
    equal (refusal_missing refusal.BadSizes ∷ refusal_missing refusal.BadNode ∷ refusal_missing refusal.BadSlot ∷ refusal_missing refusal.BadKind ∷ refusal_missing refusal.BadBlock ∷ refusal_missing refusal.OwnName
    ∷ refusal_missing refusal.AlreadyKept ∷ refusal_missing refusal.OtherStands ∷ refusal_missing refusal.NoRoom ∷ refusal_missing refusal.NotArmed ∷ refusal_missing refusal.BadParent ∷ refusal_missing refusal.BadLength
    ∷ refusal_missing refusal.BadNumber ∷ refusal_missing refusal.BadSigners ∷ refusal_missing (refusal.TooLight (record { 0 = 9 })) ∷ refusal_missing refusal.NotAProof ∷ refusal_missing refusal.BadRecord ∷ refusal_missing refusal.NotHeld ∷ [])
    (replicate 14 0 ++ (9 ∷ 0 ∷ 0 ∷ 0 ∷ []))

corners_of_missing : T (all (distances ∷ uneven ∷ light ∷ others ∷ of_proofs ∷ of_votes ∷ of_stake ∷ figures ∷ []))
unfolding rules
corners_of_missing = tt
