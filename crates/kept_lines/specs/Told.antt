-- What is told of the certificates from other firms that a slot keeps.
use Rattle.std.specs.Prelude.{List, [], ◌∷◌, ◌++◌, ℕ, zero, suc, ◌<◌, length}
use Rattle.rulebook.specs.declared.Accepted.{Accepted}
use Rattle.rulebook.specs.Tools.{whenever}
use Rattle.rulebook.specs.Packets.{count_of}
use Rattle.rulebook.specs.Ledger.{Ledger, table_of, most_certificates, kept_at, is_kept}
use Rattle.rulebook.specs.Pool.{place_kind}
use Rattle.rulebook.specs.Checker.{signed, signed_weight}
use Rattle.rulebook.specs.WellFormed.{kept_in}
use Rattle.kept_audit.specs.Judging.{Judging}

-- What the checker tells of the certificate that place i of slot s keeps: the place's kind, slot, block, signer count and weight.
unfoldable pub told_of : Ledger → ℕ → ℕ → Accepted
told_of l s i =
    let c = kept_in s (kept_at l s i) in
    record {
      kind = place_kind i;
      slot = record { 0 = s };
      block = c.block;
      signers = count_of (signed c) (length (table_of l));
      weight = record { 0 = signed_weight (table_of l) c };
    }

-- The certificate in place n of slot s, where it keeps one.
unfoldable pub place_told : Ledger → ℕ → ℕ → List Accepted
place_told l s n = whenever (is_kept (kept_at l s n)) (λ _. told_of l s n ∷ []) []

-- Those of the first n places, in their order.
unfoldable pub told_to : Ledger → ℕ → ℕ → List Accepted
told_to l s zero = []
told_to l s (suc n) = told_to l s n ++ place_told l s n

-- All that slot s keeps: kinds 1, 2, 4 and 5, then those of kind 3 as they came.
unfoldable pub certificates_told : Ledger → ℕ → List Accepted
certificates_told l s = told_to l s most_certificates

-- The record's certificates can be judged, and i is one of the slot's places for them.
pub record Telling (ws : List ℕ) (s i : ℕ) : Type 0 where
  pub judging : Judging ws s
  pub place : i < most_certificates
