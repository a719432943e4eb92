-- What two nodes and a watcher tell where certificates are handed over, and what is answered 8: computed.
use Rattle.std.specs.Prelude.{Bool, not, List, [], ◌∷◌, map, ℕ, T, eqb}
use Rattle.rulebook.specs.declared.CertificateKind.{CertificateKind}
use Rattle.rulebook.specs.declared.CertificateKind.TheVariants as certificate
use Rattle.rulebook.specs.declared.Input.{Input}
use Rattle.rulebook.specs.PaperNumbers.{step_panel}
use Rattle.rulebook.specs.Ledger.{Ledger, fresh}
use Rattle.rulebook.specs.Rules.{record_of}
use Rattle.rulebook.specs.Writers.{write_certificate}
use Rattle.rulebook.specs.Taking.{Arrival, of_input, of_packet, served}
use Rattle.rulebook.specs.Scripts.{vote, block, look, all}
use Rattle.rulebook.specs.Computes.{rules}
use Rattle.safety.specs.Ballots.{among}
use Rattle.safety.specs.Ring.{after_all}
use Rattle.mail.specs.Policy.{may_announce}

-- Stakes 4, 3, 3; node 0 voted for 7 and then final, and has both votes of node 1: 70 percent, so kinds 2 and 5 make 7 final there.
abbrev stakes : List ℕ
stakes = 4 ∷ 3 ∷ 3 ∷ []

abbrev writer : Ledger
writer = after_all (fresh stakes 0 1) (map of_input (look ∷ block 1 7 0 1 ∷ vote 1 1 1 7 ∷ vote 5 1 1 0 ∷ []))

-- With node 2's vote too it is final by kind 1.
abbrev quick : Ledger
quick = after_all (fresh stakes 0 1) (map of_input (look ∷ block 1 7 0 1 ∷ vote 1 1 1 7 ∷ vote 1 2 1 7 ∷ []))

abbrev packet : Ledger → CertificateKind → ℕ → Arrival
packet l k b = of_packet (write_certificate l 600 k 1 b).bytes

-- The call tells that 7 is final in slot 1.
abbrev tells : Ledger → Arrival → Bool
tells l i = among (served l i).records (record_of 6 1 7)

-- Node 2, which has looked, and a watcher to which nothing has arrived.
abbrev looked : Ledger
looked = after_all (fresh stakes 2 1) (map of_input (look ∷ []))

abbrev watching : Ledger
watching = fresh stakes 3 1

-- Of the two packets the second tells, whichever it is; kind 1 tells alone; handed over again it tells nothing more.
spreads_in_that_call : T (
    let two : Arrival = packet writer certificate.Notar 7 in
    let five : Arrival = packet writer certificate.Final 0 in
    let one : Arrival = packet quick certificate.FastFinal 7 in
    all (not (tells looked two) ∷ tells (served looked two).ledger five ∷ not (tells looked five) ∷ tells (served looked five).ledger two
    ∷ tells looked one ∷ tells watching one ∷ not (tells (served watching one).ledger one) ∷ not (tells watching two) ∷ tells (served watching two).ledger five ∷ [])
    )
unfolding rules after_all
spreads_in_that_call = tt

-- ---- answers

-- The number that is answered.
abbrev answers : Ledger → Arrival → ℕ → Bool
answers l i n = eqb (step_panel (served l i).answer).number n

-- Node 0 of 4, 3, 3 after what arrived.
abbrev after : List Input → Ledger
after is = after_all (fresh stakes 0 1) (map of_input is)

-- Node 1's vote is answered 0 and then 7; a second story in its name 8, and so a fourth fallback. A slot's first block is answered 0, one with the number of
-- a kept one and another parent 8, and one that came fifth against the policy 8.
only_lies_are_eight : T (
    let voted : Ledger = after (look ∷ vote 1 1 1 7 ∷ vote 2 2 1 7 ∷ vote 2 2 1 8 ∷ vote 2 2 1 9 ∷ []) in
    let shown : Ledger = after (look ∷ block 1 7 0 1 ∷ []) in
    let full : Ledger = after (look ∷ block 1 7 0 1 ∷ block 1 8 0 1 ∷ block 1 9 0 1 ∷ block 1 10 0 1 ∷ []) in
    all (answers (after (look ∷ [])) (of_input (vote 1 1 1 7)) 0 ∷ answers voted (of_input (vote 1 1 1 7)) 7 ∷ answers voted (of_input (vote 1 1 1 8)) 8
    ∷ answers voted (of_input (vote 3 1 1 0)) 8 ∷ answers voted (of_input (vote 2 2 1 10)) 8 ∷ answers (after (look ∷ [])) (of_input (block 1 7 0 1)) 0
    ∷ answers shown (of_input (block 1 7 0 1)) 7 ∷ answers (after (look ∷ block 2 9 1 7 ∷ [])) (of_input (block 2 9 1 8)) 8 ∷ answers full (of_input (block 1 11 0 1)) 8
    ∷ not (may_announce full 1 11) ∷ may_announce shown 1 7 ∷ [])
    )
unfolding rules after_all may_announce
only_lies_are_eight = tt
