-- Arrivals with which a ring goes on until all its mail is in.
use mathlib.Core.Path.{◌≡◌, ap, ◌∙◌, subst}
use mathlib.Core.List.{List, ◌++◌}
use Prim.Native.Nat.{ℕ}
use native.Mathlib.Omega.{arith}
use lib.Dec.{T}
use Rattle.rulebook.specs.Weights.{last_slot}
use Rattle.rulebook.specs.Ledger.{fresh}
use Rattle.rulebook.specs.Taking.{Arrival}
use Rattle.safety.specs.Slot.{Test}
use Rattle.safety.specs.Ring.{Ring, FedRing}
use Rattle.chain.specs.OneChain.{AnnouncedOnce}
use Rattle.progress.specs.Progress.{MailIn}
use Rattle.mail.specs.Policy.{by_policy}
use Rattle.mail.proofs.Rounds.{feeding_ends}
use Rattle.mail.proofs.Feeding.{feeding_goes_on, later}

-- Arrivals after those of the ring's lives, with which it is still a ring and all mail is in.
pub record FurtherMail (stakes : List ℕ) (genesis : ℕ → ℕ) (honest : Test) (fed : ℕ → List Arrival) : Type 0 where
  pub further : ℕ → List Arrival
  pub ring : Ring stakes genesis honest (λ n. fed n ++ further n)
  pub mail : MailIn stakes genesis honest (λ n. fed n ++ further n) last_slot

pub further_mail : (stakes : List ℕ) (genesis : ℕ → ℕ) (honest : Test) (fed : ℕ → List Arrival) → FedRing stakes genesis honest fed → AnnouncedOnce stakes genesis honest fed
    → ((n : ℕ) → T (honest n) → T (by_policy (fresh stakes n (genesis n)) (fed n))) → FurtherMail stakes genesis honest fed
further_mail stakes genesis honest fed r once policy =
    let f = feeding_goes_on stakes genesis honest fed r once policy in
    let e = feeding_ends stakes genesis honest f.rounds last_slot (omega arith) f.feeds in
    let k = e.round in
    let more : ℕ → List Arrival = λ n. (later stakes genesis honest f.rounds last_slot f.feeds k n).0 in
    let each : (n : ℕ) → f.rounds k n ≡ fed n ++ more n =
    (λ n. (later stakes genesis honest f.rounds last_slot f.feeds k n).1 ∙ ap (λ (is : List Arrival). is ++ more n) (f.begins n)) in
    let same : f.rounds k ≡ (λ n. fed n ++ more n) = (λ i n. each n i) in
    record {
      further = more;
      ring = subst (Ring stakes genesis honest) same (f.feeds.ring k);
      mail = subst (λ (g : ℕ → List Arrival). MailIn stakes genesis honest g last_slot) same e.mail;
    }
