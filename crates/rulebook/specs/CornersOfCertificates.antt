-- Computed cases of certificates from other firms: what a kept one lets the rules do, 7 and 8, the writers' masks, and 17.
use Rattle.std.specs.Prelude.{Bool, not, ◌&&◌, List, [], ◌∷◌, ◌++◌, ℕ, ◌^◌, set, replicate, T}
use Rattle.rulebook.specs.Certificates.{Kept}
use Rattle.rulebook.specs.PaperNumbers.{certificate_kind, kind_in, step_panel, write_panel}
use Rattle.rulebook.specs.Tools.{choose}
use Rattle.rulebook.specs.Ledger.{Ledger, none, no_kept, table_of, put_armed, put_timed_out, put_certificates}
use Rattle.rulebook.specs.Pool.{serves_as}
use Rattle.rulebook.specs.Rules.{rule_a, rule_c, rule_d, rule_e, rule_f}
use Rattle.rulebook.specs.Inputs.{intake}
use Rattle.rulebook.specs.Packets.{certificate_bytes}
use Rattle.rulebook.specs.Checker.{One, good, bad, one_at}
use Rattle.rulebook.specs.Taking.{keep_certificate, Arrival, of_input, of_packet, served}
use Rattle.rulebook.specs.Writers.{Wrote, write_certificate, write_proof}
use Rattle.rulebook.specs.WellFormed.{certificates_fit, row_fits, head_fits, well_formed, take_certificate}
use Rattle.rulebook.specs.Scripts.{vote, block, votes, flatten, stored, told_by, all_armed, ring, equal, equals, all}
use Rattle.rulebook.specs.Computes.{rules}

-- A packet by its five numbers: kind, slot, block and masks. Small numbers are spelled by themselves.
abbrev packet : ℕ → ℕ → ℕ → ℕ → ℕ → Arrival
packet k s b x y = of_packet (k ∷ s ∷ b ∷ x ∷ y ∷ [])

-- What each arrival is answered with: the panel's number and the records.
abbrev answered : Ledger → List Arrival → List (List ℕ)
answered l [] = []
answered l (c ∷ cs) = let f = served l c in ((step_panel f.answer).number ∷ flatten f.records) ∷ answered f.ledger cs

-- The ledger with the arrivals put in as they stand: none is refused, and no rule is run.
abbrev put_in : Ledger → One → Ledger
put_in l (good c next) = keep_certificate l c
put_in l (bad r) = l

abbrev having : Ledger → List Arrival → Ledger
having l [] = l
having l (of_input i ∷ cs) = having (intake l i).ledger cs
having l (of_packet p ∷ cs) = having (put_in l (one_at (table_of l) p 0)) cs

-- Three nodes: the own node has 20 percent, node 1 has 60, node 2 has 20. So mask 2 reaches 60, and 6 reaches 80. The windows are armed.
abbrev stakes : List ℕ
stakes = 1 ∷ 3 ∷ 1 ∷ []

abbrev three : Ledger
three = all_armed (ring stakes [])

-- Done, with no record.
abbrev nothing : List ℕ
nothing = 0 ∷ []

-- A kept 3, 2 or 1 makes a parent ready, and kept 4 the slots between; one of another slot does not. The window of slot 5 is not armed.
abbrev arms : Bool
arms =
    let l = put_armed (put_armed (put_armed (ring stakes []) 1) 9) 13 in
    let arming : List Arrival → List ℕ = (λ cs. told_by rule_a 5 (having l cs)) in
    let armed : List ℕ = 7 ∷ 5 ∷ 0 ∷ [] in
    equals (arming (packet 3 4 9 0 2 ∷ []) ∷ arming (packet 2 4 9 2 0 ∷ []) ∷ arming (packet 3 3 9 2 0 ∷ []) ∷ arming (packet 3 3 9 2 0 ∷ packet 4 3 0 2 0 ∷ [])
    ∷ arming (packet 3 3 9 2 0 ∷ packet 4 3 0 2 0 ∷ packet 4 4 0 0 2 ∷ []) ∷ arming (packet 4 1 0 2 0 ∷ packet 4 2 0 2 0 ∷ packet 4 4 0 2 0 ∷ [])
    ∷ arming (packet 4 1 0 2 0 ∷ packet 4 2 0 2 0 ∷ packet 4 4 0 2 0 ∷ packet 4 3 0 2 0 ∷ []) ∷ [])
    (armed ∷ armed ∷ [] ∷ [] ∷ armed ∷ [] ∷ armed ∷ [])
    && equals (answered l (packet 1 4 9 6 0 ∷ [])) ((0 ∷ 6 ∷ 4 ∷ 9 ∷ 7 ∷ 5 ∷ 0 ∷ []) ∷ [])

-- Which kinds each of the kinds 1 to 5 serves as: "a held kind 1 counts as 2, a 2 as 3".
abbrev serving : Bool
serving =
    let counts : ℕ → ℕ → ℕ = (λ j k. choose (serves_as (certificate_kind j) (certificate_kind k)) 1 0) in
    let row : ℕ → List ℕ = (λ j. counts j 1 ∷ counts j 2 ∷ counts j 3 ∷ counts j 4 ∷ counts j 5 ∷ []) in
    equals (row 1 ∷ row 2 ∷ row 3 ∷ row 4 ∷ row 5 ∷ []) ((1 ∷ 1 ∷ 1 ∷ 0 ∷ 0 ∷ []) ∷ (0 ∷ 1 ∷ 1 ∷ 0 ∷ 0 ∷ []) ∷ (0 ∷ 0 ∷ 1 ∷ 0 ∷ 0 ∷ []) ∷ (0 ∷ 0 ∷ 0 ∷ 1 ∷ 0 ∷ []) ∷ (0 ∷ 0 ∷ 0 ∷ 0 ∷ 1 ∷ []) ∷ [])

-- A kept 1 makes a block final, and so do 2 and 5, kept in any order or one of them by votes; 3 and 5 do not.
abbrev finals : Bool
finals =
    let made : List Arrival → List ℕ = (λ cs. told_by rule_f 2 (having three cs)) in
    let final : List ℕ = 6 ∷ 2 ∷ 7 ∷ [] in
    let votes2 = of_input (vote 1 1 2 7) in
    let votes5 = of_input (vote 5 1 2 0) in
    equals (made (packet 1 2 7 6 0 ∷ []) ∷ made (packet 5 2 0 2 0 ∷ []) ∷ made (packet 5 2 0 2 0 ∷ packet 3 2 7 2 0 ∷ packet 2 3 7 2 0 ∷ [])
    ∷ made (packet 5 2 0 2 0 ∷ packet 3 2 7 2 0 ∷ packet 2 3 7 2 0 ∷ packet 2 2 7 2 0 ∷ [])
    ∷ made (votes2 ∷ []) ∷ made (votes2 ∷ packet 5 2 0 2 0 ∷ []) ∷ made (votes5 ∷ []) ∷ made (votes5 ∷ packet 2 2 7 2 0 ∷ []) ∷ [])
    (final ∷ [] ∷ [] ∷ final ∷ [] ∷ final ∷ [] ∷ final ∷ [])
    && equals (answered three (packet 2 2 7 2 0 ∷ packet 5 2 0 2 0 ∷ [])) (nothing ∷ (0 ∷ final) ∷ [])

-- "Where several blocks would do in F, the lowest": one is kept, the other has the votes; the other is then the newcomer.
abbrev lowest_final : Bool
lowest_final =
    let both : ℕ → ℕ → Ledger = (λ kept voted. having three (packet 2 2 kept 2 0 ∷ of_input (vote 1 1 2 voted) ∷ [])) in
    let told : Ledger → List (List ℕ) = (λ l. told_by rule_f 2 l ∷ answered l (packet 5 2 0 2 0 ∷ [])) in
    let two : List ℕ = 0 ∷ 6 ∷ 2 ∷ 7 ∷ 8 ∷ 2 ∷ 9 ∷ [] in
    equals (told (both 7 9) ++ told (both 9 7)) ([] ∷ two ∷ [] ∷ two ∷ [])

-- A kept 2, or a kept 1, lets the own final vote be cast for its block, not one for another block. The own node among the signers
-- stores no own vote.
abbrev final_vote : Bool
final_vote =
    let voted = stored three (block 1 7 0 1 ∷ vote 1 0 1 7 ∷ []) in
    let cast : List Arrival → List ℕ = (λ cs. told_by rule_c 1 (having voted cs)) in
    let others : List Arrival = packet 2 1 8 2 0 ∷ packet 3 1 7 2 0 ∷ [] in
    equals (cast others ∷ cast (packet 2 1 7 2 0 ∷ []) ∷ []) ([] ∷ (5 ∷ 1 ∷ 0 ∷ []) ∷ [])
    && equals (answered (having voted others) (packet 1 1 7 6 0 ∷ []) ++ answered three (packet 2 1 7 3 0 ∷ of_input (block 1 7 0 1) ∷ []))
    ((0 ∷ 5 ∷ 1 ∷ 0 ∷ 6 ∷ 1 ∷ 7 ∷ []) ∷ nothing ∷ (0 ∷ 1 ∷ 1 ∷ 7 ∷ 5 ∷ 1 ∷ 0 ∷ []) ∷ [])

-- "Vote weights do not change": kept 2 and 4 give rules D and E no weight. A kept 2 serves as 3 where D waits for the parent.
abbrev weights_stay : Bool
weights_stay =
    let skipped = stored three (votes 3 (0 ∷ []) 1 0 ++ votes 3 (0 ∷ []) 2 0 ++ votes 3 (0 ∷ []) 3 0 ++ votes 3 (0 ∷ []) 4 0) in
    let voted = stored skipped (vote 1 1 2 9 ∷ block 2 9 1 7 ∷ []) in
    let both : List Arrival = packet 4 1 0 2 0 ∷ packet 2 1 8 2 0 ∷ [] in
    let notar = having (stored three (block 1 7 0 1 ∷ vote 1 0 1 7 ∷ [])) both in
    equals (told_by rule_d 1 (having skipped both) ∷ told_by rule_d 1 (having (stored skipped (vote 1 2 1 7 ∷ [])) (packet 2 1 7 2 0 ∷ [])) ∷ told_by rule_d 1 notar ∷ told_by rule_e 1 notar
    ∷ told_by rule_d 2 (having voted (packet 2 1 8 2 0 ∷ [])) ∷ [])
    ([] ∷ [] ∷ [] ∷ [] ∷ [] ∷ [])
    && equals (answered voted (packet 2 1 7 2 0 ∷ [])) ((0 ∷ 2 ∷ 2 ∷ 9 ∷ []) ∷ [])

-- One certificate of each kind in slot 2.
abbrev one : List Arrival
one = packet 1 2 7 6 0 ∷ packet 2 2 7 2 0 ∷ packet 3 2 7 2 0 ∷ packet 4 2 0 2 0 ∷ packet 5 2 0 2 0 ∷ []

-- The number that each of the arrivals is answered with, on the same ledger.
abbrev numbers : Ledger → List Arrival → List ℕ
numbers l [] = []
numbers l (c ∷ cs) = (step_panel (served l c).answer).number ∷ numbers l cs

-- The same in turn, each on the ledger with those before it put in.
abbrev in_turn : Ledger → List Arrival → List ℕ
in_turn l [] = []
in_turn l (c ∷ cs) = (step_panel (served l c).answer).number ∷ in_turn (having l (c ∷ [])) cs

-- 7 for each kind, with other masks too; 8 for another block of kinds 1 and 2. The same in another slot, and other blocks of kind 3, are new.
abbrev repeats : Bool
repeats =
    let l = having three one in
    equal (numbers l (one ++ (packet 1 2 7 7 0 ∷ packet 2 2 7 6 0 ∷ packet 3 2 7 2 4 ∷ packet 4 2 0 4 2 ∷ packet 5 2 0 7 0 ∷ packet 1 2 8 6 0 ∷ packet 2 2 8 2 0 ∷ [])))
    (replicate 10 7 ++ (8 ∷ 8 ∷ []))
    && equal (numbers l (packet 3 2 8 2 0 ∷ packet 1 3 7 6 0 ∷ packet 2 3 8 2 0 ∷ packet 4 3 0 2 0 ∷ [])) (0 ∷ 0 ∷ 0 ∷ 0 ∷ [])

-- Nine certificates of kind 3 in slot 2: no tenth, a repeat of the first and of the last stays 7, other kinds and slots have their places.
abbrev nine : List Arrival
nine =
    packet 3 2 21 2 0 ∷ packet 3 2 22 2 0 ∷ packet 3 2 23 2 0 ∷ packet 3 2 24 2 0 ∷ packet 3 2 25 2 0 ∷ packet 3 2 26 2 0 ∷ packet 3 2 27 2 0 ∷ packet 3 2 28 2 0 ∷ packet 3 2 29 0 2 ∷ []

abbrev tenth : Bool
tenth =
    let l = having three nine in
    equal (in_turn three nine ++ numbers l (packet 3 2 30 2 0 ∷ packet 3 2 21 6 0 ∷ packet 3 2 29 2 0 ∷ packet 2 2 30 2 0 ∷ packet 3 3 30 2 0 ∷ []))
    (replicate 9 0 ++ (8 ∷ 7 ∷ 7 ∷ 0 ∷ 0 ∷ []))
    && well_formed l

-- The checker's refusals in their order, leftover bytes last, all before 7; 17 and 9 before them.
abbrev order : Bool
order =
    let l = having three one in
    let spelled : List ℕ → Arrival = (λ bytes. of_packet bytes) in
    let number : Ledger → ℕ → List ℕ → ℕ = (λ m room bytes. (step_panel (take_certificate m room bytes).answer).number) in
    equal (numbers l (spelled [] ∷ spelled (2 ∷ 2 ∷ 7 ∷ 2 ∷ []) ∷ spelled (2 ∷ 2 ∷ 7 ∷ 128 ∷ 0 ∷ 0 ∷ []) ∷ packet 9 0 0 9 9 ∷ packet 12 2 7 2 0 ∷ packet 2 17 0 9 9 ∷ packet 2 2 0 9 9
    ∷ packet 2 2 7 9 0 ∷ packet 2 2 7 4 0 ∷ spelled (2 ∷ 2 ∷ 7 ∷ 2 ∷ 0 ∷ 0 ∷ []) ∷ []))
    (12 ∷ 12 ∷ 13 ∷ 4 ∷ 12 ∷ 3 ∷ 5 ∷ 14 ∷ 15 ∷ 12 ∷ [])
    && equal (number (put_timed_out l 0) 0 [] ∷ number (put_certificates l 16 (replicate 13 (record { block = 7; maska = 0; maskb = 0 }))) 0 [] ∷ number l 479 [] ∷ number l 480 [] ∷ number l 480 (2 ∷ 2 ∷ 7 ∷ 2 ∷ 0 ∷ []) ∷ number l 480 (2 ∷ 3 ∷ 7 ∷ 2 ∷ 0 ∷ []) ∷ number l 481 (2 ∷ 2 ∷ 7 ∷ 2 ∷ 0 ∷ []) ∷ [])
    (17 ∷ 17 ∷ 9 ∷ 12 ∷ 7 ∷ 0 ∷ 7 ∷ [])

-- What the certificate writer gives for a kind and a block of slot 2, and the proof writer: the number, then the bytes.
abbrev written : Wrote → List ℕ
written w = (write_panel w.answer).number ∷ w.bytes

abbrev writes : List Arrival → ℕ → ℕ → List ℕ
writes cs k b = written (write_certificate (having three cs) 32 (kind_in 3 k) 2 b)

-- "The writer uses stored votes first, else the kept masks of the kind asked for, else those of a kept 2, else of a kept 1."
abbrev writers : Bool
writers =
    let fast = packet 1 2 7 6 0 in
    let notar = packet 2 2 7 3 0 in
    let fallback = packet 3 2 7 0 2 in
    let node1 = of_input (vote 1 1 2 7) in
    equals (writes (fast ∷ notar ∷ fallback ∷ []) 3 7 ∷ writes (fast ∷ notar ∷ []) 3 7 ∷ writes (fast ∷ []) 3 7 ∷ writes (fast ∷ notar ∷ []) 2 7 ∷ writes (fast ∷ []) 2 7
    ∷ writes (fast ∷ notar ∷ fallback ∷ []) 1 7 ∷ writes (fast ∷ notar ∷ fallback ∷ node1 ∷ []) 3 7 ∷ writes (notar ∷ node1 ∷ []) 2 7 ∷ writes (packet 4 2 0 0 2 ∷ []) 4 0 ∷ writes (packet 5 2 0 2 0 ∷ []) 5 0 ∷ [])
    ((0 ∷ 3 ∷ 2 ∷ 7 ∷ 0 ∷ 2 ∷ []) ∷ (0 ∷ 3 ∷ 2 ∷ 7 ∷ 3 ∷ 0 ∷ []) ∷ (0 ∷ 3 ∷ 2 ∷ 7 ∷ 6 ∷ 0 ∷ []) ∷ (0 ∷ 2 ∷ 2 ∷ 7 ∷ 3 ∷ 0 ∷ []) ∷ (0 ∷ 2 ∷ 2 ∷ 7 ∷ 6 ∷ 0 ∷ [])
    ∷ (0 ∷ 1 ∷ 2 ∷ 7 ∷ 6 ∷ 0 ∷ []) ∷ (0 ∷ 3 ∷ 2 ∷ 7 ∷ 2 ∷ 0 ∷ []) ∷ (0 ∷ 2 ∷ 2 ∷ 7 ∷ 2 ∷ 0 ∷ []) ∷ (0 ∷ 4 ∷ 2 ∷ 0 ∷ 0 ∷ 2 ∷ []) ∷ (0 ∷ 5 ∷ 2 ∷ 0 ∷ 2 ∷ 0 ∷ []) ∷ [])

-- Two blocks with a certificate of kind 3: each is written with its own masks, whichever came first.
abbrev two_kept : Bool
two_kept =
    let both : List Arrival = packet 3 2 8 0 2 ∷ packet 3 2 7 6 1 ∷ [] in
    equals (writes both 3 7 ∷ writes both 3 8 ∷ writes both 3 9 ∷ writes (packet 3 2 7 6 1 ∷ packet 3 2 8 0 2 ∷ []) 3 8 ∷ [])
    ((0 ∷ 3 ∷ 2 ∷ 7 ∷ 6 ∷ 1 ∷ []) ∷ (0 ∷ 3 ∷ 2 ∷ 8 ∷ 0 ∷ 2 ∷ []) ∷ (18 ∷ []) ∷ (0 ∷ 3 ∷ 2 ∷ 8 ∷ 0 ∷ 2 ∷ []) ∷ [])

-- 18 where none serves: a higher kind, another block, another slot. A proof by votes for kind 2 and a kept 5, by a kept 2 and stored finals,
-- and by a kept 1 before both.
abbrev proofs : Bool
proofs =
    let proof : List Arrival → List ℕ = (λ cs. written (write_proof (having three cs) 64 2 7)) in
    let node1 = of_input (vote 1 1 2 7) in
    equals (writes (packet 2 2 7 2 0 ∷ []) 1 7 ∷ writes (packet 3 2 7 2 0 ∷ []) 2 7 ∷ writes (packet 1 2 8 6 0 ∷ []) 3 7 ∷ writes (packet 2 3 7 2 0 ∷ []) 2 7 ∷ writes (packet 5 2 0 2 0 ∷ []) 4 0 ∷ [])
    (replicate 5 (18 ∷ []))
    && equals (proof (node1 ∷ packet 5 2 0 6 0 ∷ []) ∷ proof (packet 2 2 7 6 0 ∷ of_input (vote 5 1 2 0) ∷ []) ∷ proof (packet 2 2 7 3 0 ∷ packet 5 2 0 6 0 ∷ []) ∷ proof (node1 ∷ packet 5 2 0 6 0 ∷ packet 1 2 7 7 0 ∷ []) ∷ proof (packet 3 2 7 2 0 ∷ packet 5 2 0 2 0 ∷ []) ∷ [])
    ((0 ∷ 2 ∷ 2 ∷ 7 ∷ 2 ∷ 0 ∷ 5 ∷ 2 ∷ 0 ∷ 6 ∷ 0 ∷ []) ∷ (0 ∷ 2 ∷ 2 ∷ 7 ∷ 6 ∷ 0 ∷ 5 ∷ 2 ∷ 0 ∷ 2 ∷ 0 ∷ []) ∷ (0 ∷ 2 ∷ 2 ∷ 7 ∷ 3 ∷ 0 ∷ 5 ∷ 2 ∷ 0 ∷ 6 ∷ 0 ∷ []) ∷ (0 ∷ 1 ∷ 2 ∷ 7 ∷ 7 ∷ 0 ∷ []) ∷ (18 ∷ []) ∷ [])

-- 65 nodes, the last of which has 60 percent: kinds 11 to 15 are kept by their meaning, and kind 13 is written back as it came.
abbrev large : Bool
large =
    let l = ring (replicate 64 1 ++ (96 ∷ [])) [] in
    let bytes : ℕ → List ℕ = (λ k. certificate_bytes (record { kind = k; slot = 2; block = 7; maska = 2 ^ 64; maskb = 0 })) in
    let kept = having l (of_packet (bytes 13) ∷ []) in
    equal (numbers l (of_packet (bytes 13) ∷ []) ++ numbers kept (of_packet (bytes 13) ∷ of_packet (bytes 12) ∷ packet 3 2 7 2 0 ∷ [])) (0 ∷ 7 ∷ 0 ∷ 4 ∷ [])
    && (equal (write_certificate kept 768 (kind_in 65 13) 2 7).bytes (bytes 13) && (head_fits kept && row_fits kept 2))

-- What a kind is called goes by the number of nodes, not by their stake: three nodes with a total above 64 take, keep, know again and write
-- kinds 1 to 5, by votes and by kept masks, in buffers of 32 and 64 bytes.
abbrev heavy : Bool
heavy =
    let l = all_armed (ring (100 ∷ 300 ∷ 100 ∷ []) []) in
    let fast = packet 1 2 7 6 0 in
    let back : List Arrival → ℕ → ℕ → List ℕ = (λ cs k b. written (write_certificate (having l cs) 32 (kind_in 3 k) 2 b)) in
    let proof : List Arrival → List ℕ = (λ cs. written (write_proof (having l cs) 64 2 7)) in
    equals (answered l (fast ∷ fast ∷ packet 4 2 0 2 0 ∷ packet 4 2 0 4 2 ∷ [])) ((0 ∷ 6 ∷ 2 ∷ 7 ∷ []) ∷ (7 ∷ []) ∷ nothing ∷ (7 ∷ []) ∷ [])
    && equals (back (fast ∷ []) 1 7 ∷ back (packet 3 2 7 0 2 ∷ []) 3 7 ∷ back (of_input (vote 1 1 2 7) ∷ []) 2 7 ∷ proof (fast ∷ []) ∷ proof (of_input (vote 1 1 2 7) ∷ of_input (vote 5 1 2 0) ∷ []) ∷ [])
    ((0 ∷ 1 ∷ 2 ∷ 7 ∷ 6 ∷ 0 ∷ []) ∷ (0 ∷ 3 ∷ 2 ∷ 7 ∷ 0 ∷ 2 ∷ []) ∷ (0 ∷ 2 ∷ 2 ∷ 7 ∷ 2 ∷ 0 ∷ []) ∷ (0 ∷ 1 ∷ 2 ∷ 7 ∷ 6 ∷ 0 ∷ []) ∷ (0 ∷ 2 ∷ 2 ∷ 7 ∷ 2 ∷ 0 ∷ 5 ∷ 2 ∷ 0 ∷ 2 ∷ 0 ∷ []) ∷ [])

-- "A record whose kept certificate the checker refuses, or repeats another, is 17": one certificate in place i.
abbrev placed : ℕ → ℕ → ℕ → ℕ → List Kept
placed i b x y = set (replicate 13 no_kept) i (record { block = b; maska = x; maskb = y })

-- Places of kind 3 by their blocks, 0 where one keeps nothing.
abbrev thirds : List ℕ → List Kept
thirds [] = []
thirds (b ∷ bs) = choose (none b) no_kept (record { block = b; maska = 2; maskb = 0 }) ∷ thirds bs

-- The places of slot 2, then the last slot; row 0 keeps neither a mask nor a block.
abbrev records : Bool
records =
    let fits : ℕ → ℕ → ℕ → ℕ → Bool = (λ i b x y. certificates_fit stakes 2 (placed i b x y)) in
    let third : List ℕ → Bool = (λ bs. certificates_fit stakes 2 (replicate 4 no_kept ++ thirds bs)) in
    let l = ring stakes [] in
    let stands : ℕ → ℕ → ℕ → ℕ → ℕ → Bool = (λ s i b x y. well_formed (put_certificates l s (placed i b x y))) in
    all (fits 0 7 6 0 ∷ not (fits 0 7 2 0) ∷ fits 1 7 2 0 ∷ not (fits 1 7 4 0) ∷ not (fits 1 0 2 0) ∷ not (fits 1 7 8 0) ∷ not (fits 1 7 2 4) ∷ fits 2 0 0 2 ∷ not (fits 2 7 2 0) ∷ fits 3 0 2 0
    ∷ not (fits 3 0 2 4) ∷ fits 4 7 2 4 ∷ not (fits 4 7 2 2) ∷ not (fits 4 7 4 1) ∷ not (fits 4 7 0 0) ∷ not (fits 4 1 0 0) ∷ not (fits 12 7 2 0) ∷ third (7 ∷ 8 ∷ 9 ∷ []) ∷ not (third (7 ∷ 7 ∷ [])) ∷ not (third (7 ∷ 8 ∷ 7 ∷ []))
    ∷ not (third (7 ∷ 0 ∷ 8 ∷ [])) ∷ not (third (0 ∷ 7 ∷ [])) ∷ stands 16 1 7 2 0 ∷ not (stands 16 1 7 4 0)
    ∷ not (stands 0 2 0 2 0) ∷ not (stands 0 2 0 0 2) ∷ not (stands 0 12 7 0 0) ∷ not (stands 0 12 1 0 0) ∷ [])

corners_of_certificates : T (all (serving ∷ arms ∷ finals ∷ lowest_final ∷ final_vote ∷ weights_stay ∷ repeats ∷ tenth ∷ order ∷ writers ∷ two_kept ∷ proofs ∷ heavy ∷ large ∷ records ∷ []))
unfolding rules
corners_of_certificates = tt
