-- Computed cases of what a life has accepted, of two orders of the same votes, blocks and certificates, and of parents that are read.
use Rattle.std.specs.Prelude.{Bool, not, List, [], ◌∷◌, ◌++◌, map, ℕ, T, eqb}
use Rattle.rulebook.specs.declared.CertificateKind.{CertificateKind}
use Rattle.rulebook.specs.declared.CertificateKind.TheVariants as certificate
use Rattle.rulebook.specs.declared.Who.{Who}
use Rattle.rulebook.specs.declared.Who.TheVariants as who
use Rattle.rulebook.specs.Certificates.{Certificate, Whole, Early, Malformed, Kept}
use Rattle.rulebook.specs.Tools.{choose}
use Rattle.rulebook.specs.Ledger.{Ledger, row_at, cell_at, kept_at, first_block, keeps_block, fresh}
use Rattle.rulebook.specs.Pool.{weigh, held}
use Rattle.rulebook.specs.Cards.{same_card}
use Rattle.rulebook.specs.Taking.{Arrival, of_input, of_packet}
use Rattle.rulebook.specs.Scripts.{vote, block, look, timeout, all}
use Rattle.rulebook.specs.Computes.{rules}
use Rattle.settling.specs.Steps.{after, life}
use Rattle.tray_rules.specs.Trays.{votes_in}
use Rattle.watchers.specs.Watching.{is_done, all_taken}
use Rattle.safety.specs.Slot.{Ballot, notar, notar_fallback, skip, skip_fallback, final}
use Rattle.safety.specs.Ballots.{has, record_for, among, brings, announces}
use Rattle.calls.specs.Operation.{Operation, one_input, a_tray, a_packet}
use Rattle.onlookers.specs.Accepted.{some_accepted, same_kept, is_kept_as, keeps_certificate, spells, hands}
use Rattle.onlookers.specs.Observed.{some_answered, accepted_with}
use Rattle.onlookers.specs.Grounded.{listed}

-- A packet by its five numbers: kind, slot, block and masks.
abbrev packet : ℕ → ℕ → ℕ → ℕ → ℕ → Arrival
packet k s b x y = of_packet (k ∷ s ∷ b ∷ x ∷ y ∷ [])

abbrev kept : ℕ → ℕ → ℕ → Kept
kept b x y = record { block = b; maska = x; maskb = y }

abbrev five : List ℕ
five = 1 ∷ 1 ∷ 1 ∷ 1 ∷ 1 ∷ []

-- A watcher of five gets node 1's skip, its fallbacks to 7, 8 and 9 and its skip-fallback, a notar vote of node 2, two blocks of slot 1, and certificates of kind 3 for 7 and 8.
abbrev one_way : List Arrival
one_way =
    map of_input (vote 3 1 1 0 ∷ vote 2 1 1 7 ∷ vote 2 1 1 8 ∷ vote 2 1 1 9 ∷ vote 4 1 1 0 ∷ vote 1 2 1 7 ∷ block 1 7 0 1 ∷ block 1 8 0 1 ∷ [])
    ++ (packet 3 1 7 15 0 ∷ packet 3 1 8 3 4 ∷ [])

-- Another gets them in another order, fallbacks, blocks and certificates the other way round; between them a look, a vote that it has and one that it refuses.
abbrev other_way : List Arrival
other_way =
    packet 3 1 8 3 4 ∷ packet 3 1 7 15 0 ∷
    map of_input (block 1 8 0 1 ∷ vote 1 2 1 7 ∷ vote 2 1 1 9 ∷ look ∷ vote 2 1 1 9 ∷ vote 4 1 1 0 ∷ vote 2 1 1 8 ∷ vote 3 1 1 0 ∷ vote 1 1 1 7 ∷ block 1 7 0 1 ∷ vote 2 1 1 7 ∷ [])

-- Both tests say the same.
abbrev alike : Bool → Bool → Bool
alike x y = choose x y (not y)

-- Places differ, sets do not: node 1's votes, weights, card, what is kept and what is held.
abbrev two_orders : Bool
two_orders =
    let start : Ledger = fresh five 5 1 in
    let l : Ledger = after start one_way in
    let m : Ledger = after start other_way in
    let same_vote : ℕ → Ballot → Bool = λ n b. alike (has (cell_at l 1 n) b) (has (cell_at m 1 n) b) in
    let same_weight : Who → Bool = λ x. eqb (weigh l 1 x) (weigh m 1 x) in
    let same_held : CertificateKind → ℕ → Bool = λ k b. alike (held l k 1 b) (held m k 1 b) in
    all (all_taken start one_way
    ∷ not (all_taken start other_way)
    ∷ not (eqb (cell_at l 1 1).fallback1 (cell_at m 1 1).fallback1)
    ∷ not (eqb (first_block l 1).number (first_block m 1).number)
    ∷ not (eqb (kept_at l 1 4).block (kept_at m 1 4).block)
    ∷ same_vote 1 skip ∷ same_vote 1 skip_fallback ∷ same_vote 1 (notar_fallback 7) ∷ same_vote 1 (notar_fallback 8) ∷ same_vote 1 (notar_fallback 9) ∷ same_vote 1 (notar 7) ∷ same_vote 2 (notar 7) ∷ same_vote 2 final
    ∷ same_weight (who.Notar 7) ∷ same_weight (who.NotarOrFallback 7) ∷ same_weight (who.NotarOrFallback 9) ∷ same_weight (who.NotarOrFallback 0) ∷ same_weight who.Skip ∷ same_weight who.SkipOrFallback ∷ same_weight who.AnyNotar
    ∷ same_card (row_at l 1).card (row_at m 1).card
    ∷ keeps_block m 1 7 0 1 ∷ keeps_block m 1 8 0 1
    ∷ keeps_certificate l certificate.NotarFallback 1 (kept 8 3 4) ∷ keeps_certificate m certificate.NotarFallback 1 (kept 8 3 4) ∷ keeps_certificate m certificate.NotarFallback 1 (kept 7 15 0)
    ∷ not (keeps_certificate m certificate.NotarFallback 1 (kept 7 14 0)) ∷ not (keeps_certificate m certificate.Notar 1 (kept 7 15 0)) ∷ not (keeps_certificate m certificate.NotarFallback 2 (kept 7 15 0))
    ∷ same_held certificate.NotarFallback 7 ∷ same_held certificate.NotarFallback 8 ∷ same_held certificate.NotarFallback 9 ∷ same_held certificate.Notar 7 ∷ same_held certificate.Skip 0 ∷ [])

-- Accepted is what was answered 0: node 1's skip and not its notar vote behind it, a block and not its number with another parent, a certificate with its signers and not
-- one like it with others.
abbrev what_was_accepted : Bool
what_was_accepted =
    let start : Ledger = fresh five 5 1 in
    let cs : List Arrival = other_way ++ (packet 3 1 7 14 0 ∷ of_input (block 1 7 0 2) ∷ []) in
    let vote_in_lem : ℕ → ℕ → Ballot → Bool = λ s n b. some_accepted (λ c. brings c s n b) start cs in
    let block_in : ℕ → ℕ → Bool = λ b x. some_accepted (λ c. announces c 1 b 0 x) start cs in
    let packet_in : ℕ → ℕ → ℕ → Bool = λ b x y. some_accepted (λ c. hands 5 c certificate.NotarFallback 1 (kept b x y)) start cs in
    all (vote_in_lem 1 1 skip ∷ vote_in_lem 1 1 (notar_fallback 9) ∷ not (vote_in_lem 1 1 (notar 7)) ∷ not (vote_in_lem 2 1 skip) ∷ not (vote_in_lem 1 2 skip)
    ∷ block_in 7 1 ∷ block_in 8 1 ∷ not (block_in 7 2)
    ∷ packet_in 7 15 0 ∷ packet_in 8 3 4 ∷ not (packet_in 7 14 0) ∷ [])

-- Node 0 casts a notar vote for 7 and a skip for slot 2, which times out: own votes are told, and are never accepted from outside.
abbrev own_votes : Bool
own_votes =
    let start : Ledger = fresh five 0 1 in
    let cs : List Arrival = map of_input (look ∷ block 1 7 0 1 ∷ vote 1 0 1 7 ∷ timeout 2 ∷ []) in
    all (among (life start cs) (record_for 1 (notar 7)) ∷ among (life start cs) (record_for 2 skip)
    ∷ not (some_accepted (λ c. brings c 1 0 (notar 7)) start cs)
    ∷ has (cell_at (after start cs) 1 0) (notar 7) ∷ [])

-- A tray of three votes was answered 0, 7, 0 for them: the first and the last were accepted, not the second, and what stands behind the answers says nothing. Of a tray
-- that was refused nothing was, nor of a block that was answered 8.
abbrev by_answers : Bool
by_answers =
    let tray : Operation = a_tray (3 ∷ 1 ∷ 1 ∷ 0 ∷ 2 ∷ 1 ∷ 1 ∷ 7 ∷ 1 ∷ 2 ∷ 1 ∷ 7 ∷ []) (9 ∷ 9 ∷ 9 ∷ 9 ∷ []) (0 ∷ 7 ∷ 0 ∷ 9 ∷ []) in
    let voted : ℕ → Ballot → Operation → ℕ → Bool = λ n b o number. accepted_with (λ c. brings c 1 n b) o number in
    all (voted 1 skip tray 0 ∷ voted 2 (notar 7) tray 0 ∷ not (voted 1 (notar_fallback 7) tray 0) ∷ not (voted 1 skip tray 9)
    ∷ not (voted 1 skip (a_tray (3 ∷ 1 ∷ 1 ∷ 0 ∷ []) [] []) 0)
    ∷ not (accepted_with (λ c. announces c 1 8 0 1) (one_input (block 1 7 0 1)) 0)
    ∷ not (accepted_with (λ c. hands 5 c certificate.NotarFallback 1 (kept 7 14 0)) (a_packet (3 ∷ 1 ∷ 7 ∷ 15 ∷ 0 ∷ [])) 0)
    ∷ accepted_with (λ c. announces c 1 7 0 1) (one_input (block 1 7 0 1)) 0 ∷ not (accepted_with (λ c. announces c 1 7 0 1) (one_input (block 1 7 0 1)) 8)
    ∷ accepted_with (λ c. hands 5 c certificate.NotarFallback 1 (kept 7 15 0)) (a_packet (3 ∷ 1 ∷ 7 ∷ 15 ∷ 0 ∷ [])) 0
    ∷ not (accepted_with (λ c. hands 5 c certificate.NotarFallback 1 (kept 7 15 0)) (a_packet (3 ∷ 1 ∷ 7 ∷ 15 ∷ 0 ∷ [])) 7) ∷ [])

-- Of four places two are taken: each of their blocks is listed with its own parent, slot and number, and with no other; words that are no whole place list nothing.
abbrev parents_listed : Bool
parents_listed =
    let words : List ℕ = 9 ∷ 2 ∷ 5 ∷ 8 ∷ 1 ∷ 7 ∷ 0 ∷ 0 ∷ 0 ∷ 0 ∷ 0 ∷ 0 ∷ [] in
    all (listed words 9 2 5 ∷ listed words 8 1 7 ∷ not (listed words 9 1 7) ∷ not (listed words 8 2 5) ∷ not (listed words 2 5 8)
    ∷ not (listed words 9 3 5) ∷ not (listed words 9 2 6) ∷ not (listed words 9 2 4) ∷ not (listed (9 ∷ []) 9 0 0) ∷ not (listed (9 ∷ 2 ∷ []) 9 2 0) ∷ [])

-- Two certificates are one by block and both masks; what was read also by kind and slot, the kind as the table numbers it: 3 is none of 70 nodes' kinds.
abbrev compared_apart : Bool
compared_apart =
    let c : ℕ → ℕ → Certificate = λ k s. record { kind = k; slot = s; block = 7; maska = 3; maskb = 4 } in
    let q : Kept = kept 7 3 4 in
    all (same_kept q q ∷ not (same_kept q (kept 8 3 4)) ∷ not (same_kept q (kept 6 3 4)) ∷ not (same_kept q (kept 7 5 4)) ∷ not (same_kept q (kept 7 2 4)) ∷ not (same_kept q (kept 7 3 5)) ∷ not (same_kept q (kept 7 3 3))
    ∷ spells 5 (Whole (c 3 1) 70) certificate.NotarFallback 1 q ∷ spells 5 (Whole (c 3 70) 9) certificate.NotarFallback 70 q
    ∷ not (spells 5 (Whole (c 3 1) 9) certificate.Notar 1 q) ∷ not (spells 5 (Whole (c 3 1) 9) certificate.NotarFallback 2 q) ∷ not (spells 5 (Whole (c 3 2) 9) certificate.NotarFallback 1 q)
    ∷ not (spells 5 (Whole (c 3 1) 9) certificate.NotarFallback 1 (kept 7 3 5))
    ∷ not (spells 70 (Whole (c 3 1) 9) certificate.NotarFallback 1 q) ∷ spells 70 (Whole (c 13 1) 9) certificate.NotarFallback 1 q
    ∷ not (spells 5 Early certificate.NotarFallback 1 q) ∷ not (spells 5 Malformed certificate.NotarFallback 1 q)
    ∷ not (hands 70 (packet 3 1 7 15 0) certificate.NotarFallback 1 (kept 7 15 0)) ∷ [])

-- A kept kind 1 is kept as kind 1, and as no other.
abbrev kept_as_its_kind : Bool
kept_as_its_kind =
    let l : Ledger = after (fresh five 5 1) (packet 1 1 7 15 0 ∷ []) in
    all (keeps_certificate l certificate.FastFinal 1 (kept 7 15 0) ∷ not (keeps_certificate l certificate.Notar 1 (kept 7 15 0)) ∷ [])

corners_of_following : T (all (two_orders ∷ what_was_accepted ∷ own_votes ∷ by_answers ∷ parents_listed ∷ compared_apart ∷ kept_as_its_kind ∷ []))
unfolding rules after life is_done all_taken some_accepted same_kept is_kept_as keeps_certificate spells hands votes_in some_answered accepted_with listed
corners_of_following = tt
