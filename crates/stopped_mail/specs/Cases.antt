-- A ring with a stopped node that waits, and what can still arrive: computed.
use Rattle.std.specs.Prelude.{Bool, not, ◌&&◌, List, [], ◌∷◌, ◌++◌, map, ℕ, T}
use Rattle.rulebook.specs.declared.CertificateKind.TheVariants as certificate
use Rattle.rulebook.specs.Ledger.{Ledger, fresh}
use Rattle.rulebook.specs.Pool.{held}
use Rattle.rulebook.specs.Taking.{Arrival, of_input}
use Rattle.rulebook.specs.Scripts.{vote, block, timeout, look, all}
use Rattle.rulebook.specs.Computes.{rules}
use Rattle.safety.specs.Ring.{after_all}
use Rattle.mail.specs.Policy.{may_announce, by_policy}

-- Nodes 0 and 1, of 4 and 3, are live; node 2, of 2, voted 7 and stopped; node 3, of 2, lies and is silent.
abbrev begun : ℕ → Ledger
begun n = fresh (4 ∷ 3 ∷ 2 ∷ 2 ∷ []) n 1

-- Node 0 was shown 7 and has the stopped node's vote; node 1 has timed out.
abbrev zero : List Arrival
zero = map of_input (look ∷ block 1 7 0 1 ∷ vote 1 2 1 7 ∷ [])

abbrev one : List Arrival
one = map of_input (look ∷ timeout 1 ∷ [])

-- A round: a look, and the other's votes; for node 1 block 7, which the policy then allows, and so its fallback, in the next round for node 0.
abbrev zero_more : List Arrival
zero_more = map of_input (look ∷ vote 3 1 1 0 ∷ look ∷ vote 2 1 1 7 ∷ [])

abbrev one_more : List Arrival
one_more = map of_input (look ∷ vote 1 0 1 7 ∷ block 1 7 0 1 ∷ [])

-- No certificate decides slot 1 at this node.
abbrev waits : Ledger → Bool
waits l = not (held l certificate.Skip 1 0) && not (held l certificate.NotarFallback 1 7)

-- Slot 1 is decided at neither so far, and at both with what then arrives, though nothing more comes from the two others.
goes_on : T (
    let a : Ledger = after_all (begun 0) zero in
    let b : Ledger = after_all (begun 1) one in
    let c : Ledger = after_all (begun 0) (zero ++ zero_more) in
    let d : Ledger = after_all (begun 1) (one ++ one_more) in
    all (waits a ∷ waits b ∷ by_policy (begun 0) (zero ++ zero_more) ∷ by_policy (begun 1) (one ++ one_more)
    ∷ held c certificate.NotarFallback 1 7 ∷ held d certificate.NotarFallback 1 7 ∷ [])
    )
unfolding rules after_all may_announce by_policy
goes_on = tt
