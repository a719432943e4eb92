-- THE OTHER ORDER BREAKS IT, computed: a firm that sends before it stores, and one that puts back an older record, vote twice, and two blocks of one slot
-- have proofs, with nobody else lying. Three firms of stake 1, genesis 1.
use Rattle.std.specs.Prelude.{◌≡◌, true, false, ◌&&◌, List, [], ◌∷◌, ◌++◌, ℕ, zero, suc, T, Ok}
use Rattle.rulebook.specs.declared.CertificateKind.TheVariants as certificate
use Rattle.rulebook.specs.Certificates.{Certificate}
use Rattle.rulebook.specs.Ledger.{fresh}
use Rattle.rulebook.specs.Rules.{Record, record_of}
use Rattle.rulebook.specs.Scripts.{vote, block}
use Rattle.rulebook.specs.Taking.{Arrival}
use Rattle.rulebook.specs.Checker.{check_proof}
use Rattle.rulebook.specs.Writers.{write_proof}
use Rattle.settling.specs.Steps.{life}
use Rattle.safety.specs.Slot.{Test}
use Rattle.safety.specs.Ring.{after_all}
use Rattle.safety.specs.Examples.{inputs, acceptance, mail_test, genuine_test}
use Rattle.seen.specs.Seen.{Seen}
use Rattle.answers.specs.Face.{Started}
use Rattle.calls.specs.Life.{begun}
use Rattle.restart.specs.Deeds.{Deed, calls, stores, sends, dies, puts_back, after_deeds, all_in_order, AllCalled, opened}

abbrev pub three : List ℕ
three = 1 ∷ 1 ∷ 1 ∷ []

-- All of them do what the rules say.
abbrev pub everyone : Test
everyone n = true

-- Firm 0 is shown block 7 of slot 1 and has firm 2's votes for it; firm 1 is shown block 8 and has firm 2's votes for that.
abbrev pub fed_zero : List Arrival
fed_zero = inputs (block 1 7 0 1 ∷ vote 1 2 1 7 ∷ vote 5 2 1 0 ∷ [])

abbrev pub fed_one : List Arrival
fed_one = inputs (block 1 8 0 1 ∷ vote 1 2 1 8 ∷ vote 5 2 1 0 ∷ [])

-- Firm 2 before its death, and after it from the fresh record, all that it had stored.
abbrev pub fed_before : List Arrival
fed_before = inputs (block 1 7 0 1 ∷ vote 1 0 1 7 ∷ [])

abbrev pub fed_after : List Arrival
fed_after = inputs (block 1 8 0 1 ∷ vote 1 1 1 8 ∷ [])

abbrev pub told_zero : List Record
told_zero = record_of 7 1 0 ∷ record_of 1 1 7 ∷ record_of 5 1 0 ∷ record_of 6 1 7 ∷ []

abbrev pub told_one : List Record
told_one = record_of 7 1 0 ∷ record_of 1 1 8 ∷ record_of 5 1 0 ∷ record_of 6 1 8 ∷ []

abbrev pub told_before : List Record
told_before = record_of 7 1 0 ∷ record_of 1 1 7 ∷ record_of 5 1 0 ∷ []

abbrev pub told_after : List Record
told_after = record_of 7 1 0 ∷ record_of 1 1 8 ∷ record_of 5 1 0 ∷ []

-- What each firm sent in all.
abbrev pub sent_by : ℕ → List Record
sent_by zero = told_zero
sent_by (suc zero) = told_one
sent_by (suc (suc n)) = told_before ++ told_after

-- Firm 2 calls, sends, dies before it has stored, goes on from the fresh record, calls and sends.
abbrev pub sent_first : Seen → Seen → List Deed
sent_first before after = calls before ∷ sends told_before ∷ dies ∷ calls after ∷ sends told_after ∷ []

-- Calls, a store, and then what was told is sent.
abbrev pub stored_first : Seen → List Record → List Deed
stored_first v told = calls v ∷ stores ∷ sends told ∷ []

-- Or it stores before it sends, each time, and puts back an older record out of a backup between.
abbrev pub from_backup : Seen → Seen → Seen → List Deed
from_backup older before after = stored_first before told_before ++ (puts_back older ∷ stored_first after told_after)

-- Proofs for block 7 by firms 0 and 2, and for block 8 by firms 1 and 2.
abbrev pub proof_of_seven : List ℕ
proof_of_seven = 0x02 ∷ 0x01 ∷ 0x07 ∷ 0x05 ∷ 0x00 ∷ 0x05 ∷ 0x01 ∷ 0x00 ∷ 0x05 ∷ 0x00 ∷ []

abbrev pub proof_of_eight : List ℕ
proof_of_eight = 0x02 ∷ 0x01 ∷ 0x08 ∷ 0x06 ∷ 0x00 ∷ 0x05 ∷ 0x01 ∷ 0x00 ∷ 0x06 ∷ 0x00 ∷ []

-- A certificate of slot 1 that these nodes signed.
abbrev pub signed_by : ℕ → ℕ → ℕ → Certificate
signed_by kind block mask = record { kind = kind; slot = 1; block = block; maska = mask; maskb = 0 }

-- Each firm's records are those of the written rules, firm 2's twice from a fresh start; every vote that a firm was fed in another's name the other
-- sent, and so did every signer of both proofs; firms 0 and 1 write these proofs, and the check accepts both. Only the order is wrong: of firm 2's deeds
-- the first way is not in order, nor is the second, in which all but the backup is. In order the same arrivals tell no second vote.
pub record VotesTwice : Type 0 where
  pub zero : life (fresh three 0 1) fed_zero ≡ told_zero
  pub one : life (fresh three 1 1) fed_one ≡ told_one
  pub before : life (fresh three 2 1) fed_before ≡ told_before
  pub after : life (fresh three 2 1) fed_after ≡ told_after
  pub mail : T (mail_test sent_by everyone 0 fed_zero && (mail_test sent_by everyone 1 fed_one && (mail_test sent_by everyone 2 fed_before && mail_test sent_by everyone 2 fed_after)))
  pub signed : T ((genuine_test sent_by everyone 3 3 (signed_by 2 7 5) && genuine_test sent_by everyone 3 3 (signed_by 5 0 5))
      && (genuine_test sent_by everyone 3 3 (signed_by 2 8 6) && genuine_test sent_by everyone 3 3 (signed_by 5 0 6)))
  pub written_seven : (write_proof (after_all (fresh three 0 1) fed_zero) 64 1 7).bytes ≡ proof_of_seven
  pub written_eight : (write_proof (after_all (fresh three 1 1) fed_one) 64 1 8).bytes ≡ proof_of_eight
  pub accepted_seven : check_proof three proof_of_seven ≡ Ok (acceptance certificate.Notar 1 7 2 2)
  pub accepted_eight : check_proof three proof_of_eight ≡ Ok (acceptance certificate.Notar 1 8 2 2)
  pub sent_both : (words : List ℕ) (v w : Seen) → (after_deeds (opened words) (sent_first v w)).sent ≡ told_before ++ told_after
  pub not_in_order : (words : List ℕ) (v w : Seen) → all_in_order (opened words) (sent_first v w) ≡ false
  pub backup_sent_both : (words : List ℕ) (v w : Seen) → (after_deeds (opened words) (from_backup (begun words) v w)).sent ≡ told_before ++ told_after
  pub no_backup : (words : List ℕ) (v w : Seen) → all_in_order (opened words) (from_backup (begun words) v w) ≡ false
  pub but_for_it : (words : List ℕ) (v w : Seen) → v.told ≡ told_before → w.told ≡ told_after
      → (all_in_order (opened words) (stored_first v told_before) ≡ true)
      × (all_in_order (after_deeds (opened words) (stored_first v told_before ++ (puts_back (begun words) ∷ []))) (stored_first w told_after) ≡ true)
  pub in_order_once : life (fresh three 2 1) (fed_before ++ fed_after) ≡ told_before

-- The deeds of the first way can be had, after any start of firm 2 that is answered 0: calls that each meet their contract.
abbrev pub CanBeHad : Type 0
CanBeHad =
    (found words : List ℕ) → Started found three 2 1 0 words
    → (v : Seen) × (w : Seen) × AllCalled (opened words) (sent_first v w) × (v.told ≡ told_before) × (w.told ≡ told_after)
