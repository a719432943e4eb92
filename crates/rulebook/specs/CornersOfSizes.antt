-- Computed cases of the two families of kinds: by the size of the table, by the numbers in a packet, at the edges of words and sizes.
use Rattle.std.specs.Prelude.{Bool, ◌&&◌, List, [], ◌∷◌, ◌++◌, ℕ, ◌-◌, ◌^◌, length, replicate, T}
use Rattle.rulebook.specs.PaperNumbers.{reading_panel, check_panel, write_panel, kind_in, check_number}
use Rattle.rulebook.specs.Weights.{family, places_for}
use Rattle.rulebook.specs.Ledger.{Ledger, no_cell}
use Rattle.rulebook.specs.Packets.{number_bytes, mask_at, mask_bytes}
use Rattle.rulebook.specs.Checker.{check_certificate, check_proof}
use Rattle.rulebook.specs.Writers.{Wrote, write_certificate, write_proof}
use Rattle.rulebook.specs.Scripts.{cell, ring, equal, equals, all}
use Rattle.rulebook.specs.Bench.{shown}
use Rattle.rulebook.specs.Computes.{rules}

-- A word that names 64 nodes.
abbrev full : List ℕ
full = number_bytes (2 ^ 64 - 1)

-- A mask of 32 words: these two, given as bytes, and 30 that name nobody.
abbrev wide : List ℕ → List ℕ → List ℕ
wide low high = low ++ (high ++ replicate 30 0)

abbrev nobody : List ℕ
nobody = replicate 32 0

-- What the checker answers, and its number alone.
abbrev checked : List ℕ → List ℕ → List ℕ
checked stakes packet = shown (check_panel (length stakes) (check_certificate stakes packet))

abbrev number : List ℕ → List ℕ → ℕ
number stakes packet = check_number (check_certificate stakes packet)

abbrev proven : List ℕ → List ℕ → ℕ
proven stakes packet = check_number (check_proof stakes packet)

-- Three nodes; 64 of stake 1; and one more, which has 60 percent alone.
abbrev three : List ℕ
three = 3 ∷ 1 ∷ 1 ∷ []

abbrev small : List ℕ
small = replicate 64 1

abbrev large : List ℕ
large = small ++ (96 ∷ [])

-- Up to 64 nodes a kind's number is the old one, from 65 on the new; a record has a place for each of 2,048 nodes.
abbrev families : Bool
families =
    equal (family 1 ∷ family 63 ∷ family 64 ∷ family 65 ∷ family 2048 ∷ []) (0 ∷ 0 ∷ 0 ∷ 10 ∷ 10 ∷ [])
    && equal (places_for 64 ∷ places_for 65 ∷ places_for 2048 ∷ places_for 2049 ∷ []) (64 ∷ 65 ∷ 2048 ∷ 2048 ∷ [])

-- All of 64 nodes sign an old packet, all of 65 a new one; under the other table either is 4.
abbrev each_its_own : Bool
each_its_own =
    let old : List ℕ = 2 ∷ 1 ∷ 7 ∷ (full ++ (0 ∷ [])) in
    let new : List ℕ = 12 ∷ 1 ∷ 7 ∷ (wide full (1 ∷ []) ++ nobody) in
    equals (checked small old ∷ checked large new ∷ []) ((0 ∷ 2 ∷ 1 ∷ 7 ∷ 64 ∷ 64 ∷ []) ∷ (0 ∷ 12 ∷ 1 ∷ 7 ∷ 65 ∷ 160 ∷ []) ∷ [])
    && equal (number small new ∷ number large old ∷ number three new ∷ []) (4 ∷ 4 ∷ 4 ∷ [])

-- Kinds 11 to 15 have 67 numbers under every table, all others five: 12 and 13 among them come before 4.
abbrev numbers_first : Bool
numbers_first =
    let five : ℕ → List ℕ = (λ kind. kind ∷ 0 ∷ 0 ∷ 0 ∷ 0 ∷ []) in
    let most : ℕ → List ℕ = (λ kind. kind ∷ replicate 65 0) in
    equal (number three (five 11) ∷ number three (five 15) ∷ number three (five 10) ∷ number three (five 16) ∷ number large (five 1) ∷ number large (five 5)
    ∷ number large (five 10) ∷ number large (five 16) ∷ number large (1 ∷ 0 ∷ 0 ∷ 0 ∷ []) ∷ number large (1 ∷ 0 ∷ 0 ∷ 0 ∷ 128 ∷ 0 ∷ []) ∷ [])
    (12 ∷ 12 ∷ 4 ∷ 4 ∷ 4 ∷ 4 ∷ 4 ∷ 4 ∷ 12 ∷ 13 ∷ [])
    && equal (number three (most 11) ∷ number three (most 15) ∷ number three (most 11 ++ (0 ∷ [])) ∷ number three (most 15 ++ (0 ∷ [])) ∷ number three (most 13 ++ (128 ∷ 0 ∷ []))
    ∷ number large (most 11) ∷ number large (most 11 ++ (0 ∷ [])) ∷ number large (most 15 ++ (0 ∷ 0 ∷ [])) ∷ [])
    (12 ∷ 12 ∷ 4 ∷ 4 ∷ 13 ∷ 12 ∷ 3 ∷ 3 ∷ [])

-- Node 64 is the first of the second word. 14 for node 65, for the last word, for node 64 in both masks, for mask B of kinds 11, 12, 15.
abbrev word_edges : Bool
word_edges =
    let last : List ℕ = wide (0 ∷ []) (1 ∷ []) in
    let kind : ℕ → ℕ → List ℕ → List ℕ → ℕ = (λ k b x y. number large (k ∷ 1 ∷ b ∷ (x ++ y))) in
    equals (checked large (12 ∷ 1 ∷ 7 ∷ (last ++ nobody)) ∷ checked large (13 ∷ 1 ∷ 7 ∷ (wide full (0 ∷ []) ++ last)) ∷ [])
    ((0 ∷ 12 ∷ 1 ∷ 7 ∷ 1 ∷ 96 ∷ []) ∷ (0 ∷ 13 ∷ 1 ∷ 7 ∷ 65 ∷ 160 ∷ []) ∷ [])
    && equal (kind 12 7 (wide full (0 ∷ [])) nobody ∷ kind 12 7 (wide (1 ∷ []) (0 ∷ [])) nobody ∷ kind 12 7 (wide (0 ∷ []) (2 ∷ [])) nobody ∷ kind 12 7 (replicate 31 0 ++ (1 ∷ [])) nobody
    ∷ kind 13 7 last last ∷ kind 13 7 last (replicate 31 0 ++ (1 ∷ [])) ∷ kind 11 7 last (wide (1 ∷ []) (0 ∷ [])) ∷ kind 12 7 last (wide (1 ∷ []) (0 ∷ [])) ∷ kind 15 0 last (wide (1 ∷ []) (0 ∷ []))
    ∷ kind 14 0 last (wide (1 ∷ []) (0 ∷ [])) ∷ kind 14 7 last nobody ∷ kind 11 0 last nobody ∷ kind 11 7 last nobody ∷ kind 11 7 (wide full (1 ∷ [])) nobody ∷ [])
    (15 ∷ 15 ∷ 14 ∷ 14 ∷ 14 ∷ 14 ∷ 14 ∷ 14 ∷ 14 ∷ 0 ∷ 5 ∷ 5 ∷ 15 ∷ 0 ∷ [])

-- A proof is a kind 11, or a kind 12 followed by a kind 15; with a kind 5 after it that is 4, with a kind 14 it is 16.
abbrev proofs : Bool
proofs =
    let last : List ℕ = wide (0 ∷ []) (1 ∷ []) in
    let kind : ℕ → ℕ → List ℕ = (λ k b. k ∷ 1 ∷ b ∷ (last ++ nobody)) in
    equal (proven large (11 ∷ 1 ∷ 7 ∷ (wide full (1 ∷ []) ++ nobody)) ∷ proven large (kind 12 7) ∷ proven large (kind 12 7 ++ kind 15 0) ∷ proven large (kind 12 7 ++ (5 ∷ 1 ∷ 0 ∷ 1 ∷ 0 ∷ []))
    ∷ proven large (kind 12 7 ++ kind 14 0) ∷ proven large (kind 15 0) ∷ [])
    (0 ∷ 12 ∷ 0 ∷ 4 ∷ 16 ∷ 16 ∷ [])

-- A writer's number and its bytes.
abbrev written : Wrote → List ℕ
written w = (write_panel w.answer).number ∷ w.bytes

-- A ring of nodes of stake 1 and, last of all, one that has 60 percent alone: in slot 1 its votes hold kinds 2, 3 and 5.
abbrev heavy : ℕ → ℕ → Ledger
heavy light stake = ring (replicate light 1 ++ (stake ∷ [])) (replicate light no_cell ++ (cell 7 0 0 0 0 0 1 ∷ []))

-- 64 nodes: 32 and 64 bytes, kinds 1 to 5. 65 nodes: 768 and 1,536 bytes, kinds 11 to 15. 9 comes before 4.
abbrev writers : Bool
writers =
    let sixtyFour = heavy 63 95 in
    let sixtyFive = heavy 64 96 in
    let old : ℕ → ℕ → List ℕ = (λ room k. written (write_certificate sixtyFour room (kind_in 64 k) 1 7)) in
    let new : ℕ → ℕ → List ℕ = (λ room k. written (write_certificate sixtyFive room (kind_in 65 k) 1 7)) in
    let last : List ℕ = wide (0 ∷ []) (1 ∷ []) in
    equals (old 31 12 ∷ old 32 12 ∷ old 33 2 ∷ new 767 2 ∷ new 768 2 ∷ new 769 12 ∷ [])
    ((9 ∷ []) ∷ (4 ∷ []) ∷ (0 ∷ 2 ∷ 1 ∷ 7 ∷ (replicate 9 128 ++ (1 ∷ 0 ∷ []))) ∷ (9 ∷ []) ∷ (4 ∷ []) ∷ (0 ∷ 12 ∷ 1 ∷ 7 ∷ (last ++ nobody)) ∷ [])
    && equals (written (write_proof sixtyFour 63 1 7) ∷ written (write_proof sixtyFive 1535 1 7) ∷ written (write_proof sixtyFive 1536 1 7) ∷ [])
    ((9 ∷ []) ∷ (9 ∷ []) ∷ (0 ∷ ((12 ∷ 1 ∷ 7 ∷ (last ++ nobody)) ++ (15 ∷ 1 ∷ 0 ∷ (last ++ nobody)))) ∷ [])

-- The last node of the largest table is the last bit of the last word.
abbrev last_node : Bool
last_node =
    let mask : List ℕ = replicate 31 0 ++ (replicate 9 128 ++ (1 ∷ [])) in
    equal (mask_bytes 32 (2 ^ 2047)) mask && equal (shown (reading_panel (mask_at 32 mask 0))) (0 ∷ (2 ^ 2047) ∷ 41 ∷ [])

corners_of_sizes : T (all (families ∷ each_its_own ∷ numbers_first ∷ word_edges ∷ proofs ∷ writers ∷ last_node ∷ []))
unfolding rules
corners_of_sizes = tt
