-- Computed cases of packets: the checker's numbers in their order, what it counts, and numbers of up to 64 bits.
use Rattle.std.specs.Prelude.{Bool, true, false, ◌&&◌, List, [], ◌∷◌, ◌++◌, ℕ, ◌+◌, ◌-◌, ◌*◌, ◌^◌, length, replicate, T}
use Rattle.rulebook.specs.PaperNumbers.{certificate_number, reading_panel, found_panel, check_panel, check_number}
use Rattle.rulebook.specs.declared.CertificateKind.TheVariants as certificate
use Rattle.rulebook.specs.declared.Heading.{Heading}
use Rattle.rulebook.specs.Packets.{number_bytes, number_from, certificate_at, mask_at, mask_bytes, joined, certificate_of}
use Rattle.rulebook.specs.Checker.{check_certificate, check_proof}
use Rattle.rulebook.specs.Scripts.{equal, all}
use Rattle.rulebook.specs.Bench.{shown}
use Rattle.rulebook.specs.Computes.{rules}

-- The checker's numbers for packets under one table.
abbrev checks : List ℕ → List (List ℕ) → List ℕ
checks stakes [] = []
checks stakes (p ∷ ps) = check_number (check_certificate stakes p) ∷ checks stakes ps

abbrev proofs : List ℕ → List (List ℕ) → List ℕ
proofs stakes [] = []
proofs stakes (p ∷ ps) = check_number (check_proof stakes p) ∷ proofs stakes ps

-- Three nodes of stakes 3, 1, 1: node 0 alone has 60 percent.
abbrev three : List ℕ
three = 3 ∷ 1 ∷ 1 ∷ []

-- 1 for no stakes and for more than 2,048; 12 and 13 as met, then 4, 3, 5, 14, 15, leftover bytes last.
abbrev check_order : Bool
check_order =
    equal (checks [] ([] ∷ []) ++ checks (replicate 2049 1) ([] ∷ [])) (1 ∷ 1 ∷ [])
    && equal (checks three ([] ∷ (9 ∷ 0 ∷ 0 ∷ 8 ∷ []) ∷ (9 ∷ 128 ∷ 0 ∷ 0 ∷ []) ∷ (9 ∷ 0 ∷ 0 ∷ 8 ∷ 8 ∷ 0 ∷ []) ∷ (2 ∷ 17 ∷ 0 ∷ 8 ∷ 8 ∷ []) ∷ (2 ∷ 0 ∷ 0 ∷ 8 ∷ 8 ∷ [])
    ∷ (2 ∷ 1 ∷ 0 ∷ 8 ∷ 8 ∷ []) ∷ (2 ∷ 1 ∷ 7 ∷ 8 ∷ 0 ∷ []) ∷ (2 ∷ 1 ∷ 7 ∷ 6 ∷ 0 ∷ 0 ∷ []) ∷ (2 ∷ 1 ∷ 7 ∷ 1 ∷ 0 ∷ 0 ∷ []) ∷ (2 ∷ 16 ∷ 7 ∷ 1 ∷ 0 ∷ []) ∷ []))
    (12 ∷ 12 ∷ 13 ∷ 4 ∷ 3 ∷ 3 ∷ 5 ∷ 14 ∷ 15 ∷ 12 ∷ 0 ∷ [])

-- 5 for each kind: block 0 for kinds 1 to 3, a block for kinds 4 and 5.
abbrev block_of_kind : Bool
block_of_kind =
    equal (checks three ((1 ∷ 1 ∷ 0 ∷ 7 ∷ 0 ∷ []) ∷ (2 ∷ 1 ∷ 0 ∷ 7 ∷ 0 ∷ []) ∷ (3 ∷ 1 ∷ 0 ∷ 7 ∷ 0 ∷ []) ∷ (4 ∷ 1 ∷ 7 ∷ 7 ∷ 0 ∷ []) ∷ (5 ∷ 1 ∷ 7 ∷ 7 ∷ 0 ∷ []) ∷ []))
    (5 ∷ 5 ∷ 5 ∷ 5 ∷ 5 ∷ [])

-- 14: beyond the table in either mask, in both masks at the first node and at the last, mask B for kinds 1, 2 and 5; kinds 3 and 4 have it.
abbrev masks : Bool
masks =
    equal (checks three ((3 ∷ 1 ∷ 7 ∷ 8 ∷ 0 ∷ []) ∷ (3 ∷ 1 ∷ 7 ∷ 1 ∷ 8 ∷ []) ∷ (3 ∷ 1 ∷ 7 ∷ 1 ∷ 1 ∷ []) ∷ (3 ∷ 1 ∷ 7 ∷ 5 ∷ 4 ∷ []) ∷ (1 ∷ 1 ∷ 7 ∷ 3 ∷ 4 ∷ [])
    ∷ (2 ∷ 1 ∷ 7 ∷ 3 ∷ 4 ∷ []) ∷ (5 ∷ 1 ∷ 0 ∷ 3 ∷ 4 ∷ []) ∷ (3 ∷ 1 ∷ 7 ∷ 3 ∷ 4 ∷ []) ∷ (4 ∷ 1 ∷ 0 ∷ 3 ∷ 4 ∷ []) ∷ []))
    (14 ∷ 14 ∷ 14 ∷ 14 ∷ 14 ∷ 14 ∷ 14 ∷ 0 ∷ 0 ∷ [])

-- 15: each kind at its threshold and below, over both masks.
abbrev weights : Bool
weights =
    equal (checks three ((1 ∷ 1 ∷ 7 ∷ 3 ∷ 0 ∷ []) ∷ (1 ∷ 1 ∷ 7 ∷ 1 ∷ 0 ∷ []) ∷ (2 ∷ 1 ∷ 7 ∷ 1 ∷ 0 ∷ []) ∷ (2 ∷ 1 ∷ 7 ∷ 6 ∷ 0 ∷ []) ∷ (3 ∷ 1 ∷ 7 ∷ 0 ∷ 1 ∷ []) ∷ (3 ∷ 1 ∷ 7 ∷ 2 ∷ 4 ∷ [])
    ∷ (4 ∷ 1 ∷ 0 ∷ 1 ∷ 0 ∷ []) ∷ (4 ∷ 1 ∷ 0 ∷ 2 ∷ 4 ∷ []) ∷ (5 ∷ 1 ∷ 0 ∷ 1 ∷ 0 ∷ []) ∷ (5 ∷ 1 ∷ 0 ∷ 6 ∷ 0 ∷ []) ∷ []))
    (0 ∷ 15 ∷ 0 ∷ 15 ∷ 0 ∷ 15 ∷ 0 ∷ 15 ∷ 0 ∷ 15 ∷ [])

-- A certificate's numbers and the place after it, from a place of the packet on; 12 and 13 with zeros. A number that is no kind is 0.
abbrev read_whole : Bool
read_whole =
    let reads : List ℕ → List ℕ = (λ bytes. shown (found_panel (certificate_at bytes 1))) in
    all (equal (reads (99 ∷ 3 ∷ 2 ∷ 7 ∷ 6 ∷ 1 ∷ 9 ∷ [])) (0 ∷ 3 ∷ 2 ∷ 7 ∷ 6 ∷ 1 ∷ 6 ∷ []) ∷ equal (reads (99 ∷ 3 ∷ 2 ∷ 7 ∷ 6 ∷ [])) (12 ∷ 0 ∷ 0 ∷ 0 ∷ 0 ∷ 0 ∷ 0 ∷ []) ∷ equal (reads (99 ∷ 3 ∷ 2 ∷ 128 ∷ 0 ∷ [])) (13 ∷ 0 ∷ 0 ∷ 0 ∷ 0 ∷ 0 ∷ 0 ∷ [])
    ∷ equal (certificate_number certificate.Other ∷ []) (0 ∷ []) ∷ [])

-- 1 for a bad table, whatever the packet; 16 for each other kind first, and for a second of a lower or a higher slot, or of another kind;
-- 12 however many bytes follow.
abbrev proof_order : Bool
proof_order =
    let fast : List ℕ = 1 ∷ 1 ∷ 7 ∷ 1 ∷ 0 ∷ [] in
    equal (proofs [] (fast ∷ [] ∷ []) ++ (proofs (5 ∷ []) (fast ∷ []) ++ proofs (5 ∷ 0 ∷ []) (fast ∷ []))) (1 ∷ 1 ∷ 0 ∷ 1 ∷ [])
    && equal (proofs three ((3 ∷ 1 ∷ 7 ∷ 1 ∷ 0 ∷ []) ∷ (4 ∷ 1 ∷ 0 ∷ 1 ∷ 0 ∷ []) ∷ (5 ∷ 1 ∷ 0 ∷ 1 ∷ 0 ∷ []) ∷ (2 ∷ 3 ∷ 7 ∷ 1 ∷ 0 ∷ 5 ∷ 2 ∷ 0 ∷ 1 ∷ 0 ∷ []) ∷ (2 ∷ 3 ∷ 7 ∷ 1 ∷ 0 ∷ 5 ∷ 4 ∷ 0 ∷ 1 ∷ 0 ∷ [])
    ∷ (2 ∷ 3 ∷ 7 ∷ 1 ∷ 0 ∷ 3 ∷ 3 ∷ 7 ∷ 1 ∷ 0 ∷ []) ∷ (2 ∷ 3 ∷ 7 ∷ 1 ∷ 0 ∷ 5 ∷ 3 ∷ 0 ∷ 1 ∷ 0 ∷ []) ∷ ((1 ∷ 1 ∷ 7 ∷ 3 ∷ 0 ∷ []) ++ replicate 60 0) ∷ ((2 ∷ 3 ∷ 7 ∷ 1 ∷ 0 ∷ 5 ∷ 3 ∷ 0 ∷ 1 ∷ 0 ∷ []) ++ replicate 60 0) ∷ []))
    (16 ∷ 16 ∷ 16 ∷ 16 ∷ 16 ∷ 16 ∷ 0 ∷ 12 ∷ 12 ∷ []) &&
    equal (proofs three ((1 ∷ 1 ∷ 7 ∷ 3 ∷ 0 ∷ []) ∷ (1 ∷ 1 ∷ 7 ∷ 3 ∷ 0 ∷ 0 ∷ []) ∷ (3 ∷ 1 ∷ 7 ∷ 1 ∷ 0 ∷ 128 ∷ []) ∷ (2 ∷ 1 ∷ 7 ∷ 1 ∷ 0 ∷ [])
    ∷ (2 ∷ 1 ∷ 7 ∷ 1 ∷ 0 ∷ 4 ∷ 0 ∷ 0 ∷ 1 ∷ 0 ∷ []) ∷ (2 ∷ 1 ∷ 7 ∷ 1 ∷ 0 ∷ 5 ∷ 2 ∷ 0 ∷ 1 ∷ 0 ∷ 9 ∷ []) ∷ (2 ∷ 1 ∷ 7 ∷ 1 ∷ 0 ∷ 4 ∷ 1 ∷ 0 ∷ 1 ∷ 0 ∷ [])
    ∷ (2 ∷ 1 ∷ 7 ∷ 1 ∷ 0 ∷ 5 ∷ 1 ∷ 0 ∷ 1 ∷ 0 ∷ 9 ∷ []) ∷ (2 ∷ 1 ∷ 7 ∷ 1 ∷ 0 ∷ 5 ∷ 1 ∷ 0 ∷ 6 ∷ 0 ∷ []) ∷ (2 ∷ 1 ∷ 7 ∷ 1 ∷ 0 ∷ 5 ∷ 1 ∷ 0 ∷ 1 ∷ 0 ∷ []) ∷ []))
    (0 ∷ 12 ∷ 16 ∷ 12 ∷ 3 ∷ 16 ∷ 16 ∷ 12 ∷ 15 ∷ 0 ∷ [])

-- Signers and weight are counted over both masks, each node once; of a proof they are its first certificate's.
abbrev counted : Bool
counted =
    all (equal (shown (check_panel 3 (check_certificate three (3 ∷ 2 ∷ 7 ∷ 1 ∷ 6 ∷ [])))) (0 ∷ 3 ∷ 2 ∷ 7 ∷ 3 ∷ 5 ∷ [])
    ∷ equal (shown (check_panel 3 (check_certificate three (2 ∷ 1 ∷ 7 ∷ 6 ∷ 0 ∷ [])))) (15 ∷ 0 ∷ 0 ∷ 0 ∷ 0 ∷ 0 ∷ [])
    ∷ equal (shown (check_panel 3 (check_proof three (2 ∷ 1 ∷ 7 ∷ 3 ∷ 0 ∷ 5 ∷ 1 ∷ 0 ∷ 1 ∷ 0 ∷ [])))) (0 ∷ 2 ∷ 1 ∷ 7 ∷ 2 ∷ 4 ∷ []) ∷ [])

-- Ten bytes: 64 bits are the most; a tenth byte above 01 is 13 there and then, 00 there is not the shortest form.
abbrev ten_bytes : Bool
ten_bytes =
    let nine : List ℕ = replicate 9 255 in
    let reads : List ℕ → List ℕ = (λ bytes. shown (reading_panel (number_from 0 bytes))) in
    all (equal (number_bytes (2 ^ 64 - 1)) (nine ++ (1 ∷ [])) ∷ equal (reads (nine ++ (1 ∷ 5 ∷ []))) (0 ∷ (2 ^ 64 - 1) ∷ 10 ∷ [])
    ∷ equal (reads (nine ++ (2 ∷ []))) (13 ∷ 0 ∷ 0 ∷ []) ∷ equal (reads (nine ++ (129 ∷ []))) (13 ∷ 0 ∷ 0 ∷ [])
    ∷ equal (reads (nine ++ (0 ∷ []))) (13 ∷ 0 ∷ 0 ∷ []) ∷ equal (reads nine) (12 ∷ 0 ∷ 0 ∷ [])
    ∷ equal (reads (replicate 9 128 ++ (1 ∷ []))) (0 ∷ (2 ^ 63) ∷ 10 ∷ []) ∷ equal (reads (replicate 8 255 ++ (127 ∷ []))) (0 ∷ (2 ^ 63 - 1) ∷ 9 ∷ []) ∷ [])

-- A mask of two words: "lowest nodes first", node 63 the last of the first word, node 64 the first of the second; 12 and 13 as met.
abbrev two_words : Bool
two_words =
    let reads : List ℕ → List ℕ = (λ bytes. shown (reading_panel (mask_at 2 bytes 0))) in
    all (equal (mask_bytes 2 (2 ^ 63)) (replicate 9 128 ++ (1 ∷ 0 ∷ [])) ∷ equal (mask_bytes 2 (2 ^ 64)) (0 ∷ 1 ∷ []) ∷ equal (mask_bytes 2 (2 ^ 65 + 5)) (5 ∷ 2 ∷ [])
    ∷ equal (reads (5 ∷ 2 ∷ 9 ∷ [])) (0 ∷ (2 ^ 65 + 5) ∷ 2 ∷ []) ∷ equal (reads (replicate 9 128 ++ (1 ∷ 1 ∷ []))) (0 ∷ (2 ^ 63 + 2 ^ 64) ∷ 11 ∷ [])
    ∷ equal (reads (5 ∷ [])) (12 ∷ 0 ∷ 0 ∷ []) ∷ equal (reads (5 ∷ 128 ∷ 0 ∷ [])) (13 ∷ 0 ∷ 0 ∷ [])
    ∷ equal (joined (5 ∷ 2 ∷ []) ∷ []) ((2 ^ 65 + 5) ∷ []) ∷ [])

-- A certificate by its heading and the words of its masks: which number is which.
abbrev of_parts : Bool
of_parts =
    let h : Heading = record { kind = 13; slot = record { 0 = 2 }; block = 7 } in
    let c = certificate_of h (6 ∷ 5 ∷ []) (1 ∷ 4 ∷ []) in
    equal (c.kind ∷ c.slot ∷ c.block ∷ c.maska ∷ c.maskb ∷ []) (13 ∷ 2 ∷ 7 ∷ (5 * 2 ^ 64 + 6) ∷ (4 * 2 ^ 64 + 1) ∷ [])

corners_of_packets : T (all (check_order ∷ block_of_kind ∷ masks ∷ weights ∷ read_whole ∷ proof_order ∷ counted ∷ ten_bytes ∷ two_words ∷ of_parts ∷ []))
unfolding rules
corners_of_packets = tt
