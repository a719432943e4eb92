-- Computed cases of what is counted as told, of two final blocks in a slot, of what is held once it was taken, of the weights
-- that a vote belongs to, and of the slots that a call does not name.
use Rattle.std.specs.Prelude.{Bool, not, List, [], ◌∷◌, ◌++◌, map, ℕ, T, eqb}
use Rattle.rulebook.specs.declared.CertificateKind.TheVariants as certificate
use Rattle.rulebook.specs.declared.Who.{Who}
use Rattle.rulebook.specs.declared.Who.TheVariants as who
use Rattle.rulebook.specs.Tools.{choose}
use Rattle.rulebook.specs.Ledger.{Ledger, no_cell, row_at, cell_at, fresh}
use Rattle.rulebook.specs.Pool.{counts, weigh, held}
use Rattle.rulebook.specs.Rules.{Record, record_of, is_final}
use Rattle.rulebook.specs.Taking.{Arrival, of_input, of_packet}
use Rattle.rulebook.specs.Writers.{write_certificate}
use Rattle.rulebook.specs.Scripts.{vote, block, look, timeout, flatten, equal, all}
use Rattle.rulebook.specs.Computes.{rules}
use Rattle.settling.specs.Steps.{after, life}
use Rattle.safety.specs.Slot.{Ballot, notar, notar_fallback, skip, skip_fallback, final}
use Rattle.safety.specs.Ballots.{with_ballot, same_record}
use Rattle.told.specs.Told.{count_of, tells, arms, opens, is_told}
use Rattle.told.specs.Held.{belongs}
use Rattle.told.specs.Apart.{is_for, names, some_names, casts}

-- So many of the records pass the test.
abbrev found : (Record → Bool) → List Record → ℕ → Bool
found p rs n = eqb (count_of p rs) n

-- Node 0 of three: armed, notar, final vote, final block; looked at again, fed a vote that it has, and with a vote more it tells nothing twice.
abbrev once_in_a_life : Bool
once_in_a_life =
    let told = life (fresh (1 ∷ 1 ∷ 1 ∷ []) 0 1) (map of_input (look ∷ block 1 7 0 1 ∷ vote 1 1 1 7 ∷ vote 1 2 1 7 ∷ look ∷ vote 1 2 1 7 ∷ vote 5 1 1 0 ∷ look ∷ [])) in
    all (equal (flatten told) (7 ∷ 1 ∷ 0 ∷ 1 ∷ 1 ∷ 7 ∷ 5 ∷ 1 ∷ 0 ∷ 6 ∷ 1 ∷ 7 ∷ [])
    ∷ found (tells 6 1) told 1
    ∷ found (tells 8 1) told 0
    ∷ found (arms 0) told 1
    ∷ found (opens 1) told 1
    ∷ found (λ r. same_record r (record_of 5 1 0)) told 1 ∷ [])

-- Counted apart: kind and slot of a final block, whatever the block; a window by any of its slots; notar and skip together, fallbacks and finals not.
abbrev counted_apart : Bool
counted_apart =
    let told = record_of 6 1 7 ∷ record_of 6 1 9 ∷ record_of 6 2 7 ∷ record_of 8 1 9 ∷ record_of 7 1 0 ∷ record_of 7 4 0 ∷ record_of 7 5 0 ∷ record_of 1 3 7 ∷ record_of 3 3 0 ∷ record_of 2 3 7 ∷ record_of 5 3 0 ∷ record_of 3 4 0 ∷ record_of 0 3 7 ∷ [] in
    all (found (tells 6 1) told 2
    ∷ found (tells 6 2) told 1
    ∷ found (tells 8 1) told 1
    ∷ found (tells 8 2) told 0
    ∷ found (arms 0) told 2
    ∷ found (arms 1) told 1
    ∷ found (opens 3) told 2
    ∷ found (opens 4) told 1 ∷ [])

-- Told are a slot's final block, and of a slot with another any block; nothing of a slot whose window was armed, nor of one with no record.
abbrev told_or_another : Bool
told_or_another =
    let told = record_of 6 1 7 ∷ record_of 8 2 9 ∷ record_of 7 5 0 ∷ record_of 5 3 7 ∷ [] in
    all (is_told told 1 7
    ∷ is_told told 2 9
    ∷ is_told told 2 5
    ∷ not (is_told told 1 9)
    ∷ not (is_told told 1 1)
    ∷ not (is_told told 5 0)
    ∷ not (is_told told 3 7)
    ∷ not (is_told told 7 1)
    ∷ not (is_told told 4 2) ∷ [])

-- A packet by its five numbers: kind, slot, block and masks.
abbrev packet : ℕ → ℕ → ℕ → ℕ → ℕ → Arrival
packet k s b x y = of_packet (k ∷ s ∷ b ∷ x ∷ y ∷ [])

-- A watcher of five is handed kind 1 for block 7, then kinds 2 and 5 for block 9: 7 is told and marked, then that another is final, once, however often it
-- looks.
abbrev another : Bool
another =
    let l : Ledger = fresh (1 ∷ 1 ∷ 1 ∷ 1 ∷ 1 ∷ []) 5 1 in
    let cs : List Arrival = packet 1 1 7 15 0 ∷ packet 2 1 9 28 0 ∷ packet 5 1 0 28 0 ∷ of_input look ∷ packet 3 1 9 28 0 ∷ [] in
    let told = life l cs in
    all (equal (flatten told) (7 ∷ 1 ∷ 0 ∷ 6 ∷ 1 ∷ 7 ∷ 8 ∷ 1 ∷ 9 ∷ [])
    ∷ found (tells 6 1) told 1
    ∷ found (tells 8 1) told 1
    ∷ is_final (after l cs) 1 7
    ∷ is_final (after l cs) 1 9
    ∷ eqb (row_at (after l cs) 1).final 7
    ∷ eqb (row_at (after l cs) 1).clash 1
    ∷ eqb (row_at (after l cs) 2).clash 0 ∷ [])

-- It keeps block 7 and its child 8, and is handed kind 1 for the child: the child is told, and in the same call the parent.
abbrev parent_too : Bool
parent_too =
    let l : Ledger = fresh (1 ∷ 1 ∷ 1 ∷ 1 ∷ 1 ∷ []) 5 1 in
    let told = life l (of_input (block 1 7 0 1) ∷ of_input (block 2 8 1 7) ∷ packet 1 2 8 15 0 ∷ []) in
    all (equal (flatten told) (7 ∷ 1 ∷ 0 ∷ 6 ∷ 2 ∷ 8 ∷ 6 ∷ 1 ∷ 7 ∷ []) ∷ found (tells 6 1) told 1 ∷ found (tells 6 2) told 1 ∷ [])

-- Node 0 of five takes kind 2 for block 7, has it already, refuses one for block 9 in its place: held are kinds 2 and 3 for 7 in slot 1, nothing for 9,
-- nothing in slot 2, before it nothing; and it stays so.
abbrev taken : Bool
taken =
    let l : Ledger = fresh (1 ∷ 1 ∷ 1 ∷ 1 ∷ 1 ∷ []) 0 1 in
    let once : List Arrival = packet 2 1 7 14 0 ∷ [] in
    let on : List Arrival = once ++ (packet 2 1 7 28 0 ∷ packet 2 1 9 28 0 ∷ of_input look ∷ of_input (vote 3 1 1 0) ∷ []) in
    all (not (held l certificate.Notar 1 7)
    ∷ held (after l once) certificate.Notar 1 7
    ∷ held (after l once) certificate.NotarFallback 1 7
    ∷ not (held (after l once) certificate.FastFinal 1 7)
    ∷ not (held (after l once) certificate.Notar 2 7)
    ∷ held (after l on) certificate.Notar 1 7
    ∷ not (held (after l on) certificate.Notar 1 9) ∷ [])

-- A vote belongs to the weights that count a cell with that vote alone.
abbrev alike : Ballot → Bool
alike v =
    let c = with_ballot no_cell v in
    let same : Who → Bool = λ x. choose (belongs v x) (counts x c) (not (counts x c)) in
    all (same (who.Notar 7) ∷ same (who.Notar 9) ∷ same (who.NotarOrFallback 7) ∷ same (who.NotarOrFallback 9) ∷ same who.Skip ∷ same who.SkipOrFallback ∷ same who.Final ∷ same who.AnyNotar ∷ [])

-- Node 0 has four of five votes for block 7 and writes kind 1; node 1, which has none of them, takes it and tells of the block in that call.
abbrev spreads : Bool
spreads =
    let l : Ledger = after (fresh (1 ∷ 1 ∷ 1 ∷ 1 ∷ 1 ∷ []) 0 1) (map of_input (vote 1 1 1 7 ∷ vote 1 2 1 7 ∷ vote 1 3 1 7 ∷ vote 1 4 1 7 ∷ [])) in
    let handed : Arrival = of_packet (write_certificate l 1000 certificate.FastFinal 1 7).bytes in
    equal (flatten (life (fresh (1 ∷ 1 ∷ 1 ∷ 1 ∷ 1 ∷ []) 1 1) (handed ∷ []))) (7 ∷ 1 ∷ 0 ∷ 6 ∷ 1 ∷ 7 ∷ [])

-- Another's notar vote for block 7 of slot 1 has its stake, 3 of 6, in the three weights of slot 1 that it belongs to, and in none of slot 2.
abbrev weighed : Bool
weighed =
    let l : Ledger = after (fresh (1 ∷ 3 ∷ 2 ∷ []) 0 1) (of_input (vote 1 1 1 7) ∷ []) in
    all (eqb (weigh l 1 (who.Notar 7)) 3
    ∷ eqb (weigh l 1 (who.NotarOrFallback 7)) 3
    ∷ eqb (weigh l 1 who.AnyNotar) 3
    ∷ eqb (weigh l 1 (who.Notar 9)) 0
    ∷ eqb (weigh l 2 (who.Notar 7)) 0
    ∷ eqb (weigh l 2 who.AnyNotar) 0 ∷ [])

-- Slot 1 has its final block, slot 2 a vote of node 1, and slot 3 times out: marked as timed out is slot 3 alone, slot 1 keeps its mark, and slot 2 has that vote still;
-- its own skip, which the timeout of the window casts there, is told.
abbrev one_times_out : Bool
one_times_out =
    let l : Ledger = after (fresh (1 ∷ 1 ∷ 1 ∷ []) 0 1) (map of_input (look ∷ block 1 7 0 1 ∷ vote 1 1 1 7 ∷ vote 1 2 1 7 ∷ vote 1 1 2 9 ∷ [])) in
    let came : List Arrival = of_input (timeout 3) ∷ [] in
    let m : Ledger = after l came in
    let told = life l came in
    all (some_names came 3
    ∷ not (some_names came 1)
    ∷ not (some_names came 2)
    ∷ not (some_names (of_input look ∷ []) 1)
    ∷ some_names (of_input look ∷ of_input (vote 1 1 2 9) ∷ []) 2
    ∷ not (some_names (of_input (vote 1 1 2 9) ∷ []) 1)
    ∷ some_names (of_input (block 2 9 1 7) ∷ []) 2
    ∷ not (some_names (of_input (block 2 9 1 7) ∷ []) 1)
    ∷ some_names (packet 2 1 7 14 0 ∷ []) 1
    ∷ not (some_names (packet 2 1 7 14 0 ∷ []) 2)
    ∷ eqb (row_at l 1).final 7
    ∷ eqb (row_at m 1).final 7
    ∷ eqb (row_at m 1).timed_out 0
    ∷ eqb (row_at m 2).timed_out 0
    ∷ eqb (row_at m 3).timed_out 1
    ∷ eqb (cell_at m 2 1).notar 9
    ∷ eqb (cell_at l 2 0).skip 0
    ∷ eqb (cell_at m 2 0).skip 1
    ∷ found (casts 1) told 0
    ∷ found (casts 2) told 1 ∷ [])

corners_of_told : T (all (once_in_a_life ∷ counted_apart ∷ told_or_another ∷ another ∷ parent_too ∷ taken ∷ alike (notar 7) ∷ alike (notar_fallback 7) ∷ alike skip ∷ alike skip_fallback ∷ alike final ∷ spreads ∷ weighed ∷ one_times_out ∷ []))
unfolding rules after life count_of belongs is_for names some_names
corners_of_told = tt
