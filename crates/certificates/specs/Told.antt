-- What is told of one certificate on lent stakes.
use Rattle.std.specs.Prelude.{◌≡◌, true, List, ℕ, ◌*◌, ◌≤◌, length, Result, Ok, Err}
use Rattle.rulebook.specs.declared.Heading.{Heading}
use Rattle.rulebook.specs.Certificates.{Certificate}
use Rattle.rulebook.specs.declared.CertificateKind.{CertificateKind}
use Rattle.rulebook.specs.Weights.{slot_ok}
use Rattle.rulebook.specs.PaperNumbers.{kind_in}
use Rattle.rulebook.specs.Checker.{One, good, bad, judge_weight, judge, accepted_of, judged}
use Rattle.stakes.specs.declared.LentTable.{LentTable}
use Rattle.stakes.specs.Table.{Fit}
use Rattle.rulebook.specs.declared.Accepted.{Accepted}
use Rattle.rulebook.specs.declared.Refusal.{Refusal}

-- Masks of as many words, with a bit for each of so many nodes.
pub record Wide (count : ℕ) (a b : List ℕ) : Type 0 where
  pub long : count ≤ 64 * length a
  pub same : length b ≡ length a

-- The table beside lent stakes is theirs, a certificate's kind is known, and its masks have words for every node.
pub record Heard (stakes : List ℕ) (t : LentTable) (k : CertificateKind) (c : Heading) (a b : List ℕ) : Type 0 where
  pub fit : Fit stakes t
  pub kind : k ≡ kind_in (length stakes) c.kind
  pub wide : Wide (length stakes) a b

-- The table beside lent stakes is theirs, and masks have words for every node.
pub record Weighty (stakes : List ℕ) (t : LentTable) (a b : List ℕ) : Type 0 where
  pub fit : Fit stakes t
  pub wide : Wide (length stakes) a b

-- Likewise, and the slot is one of 1 to 16: a certificate with these masks that a record keeps there can be judged.
pub record Keepable (stakes : List ℕ) (t : LentTable) (s : ℕ) (a b : List ℕ) : Type 0 where
  pub weighty : Weighty stakes t a b
  pub slot : slot_ok s ≡ true

-- The heading of a certificate that a record keeps: its place tells its kind.
abbrev pub headed : ℕ → ℕ → Heading
headed s block = record { kind = 0; slot = record { 0 = s }; block = block }

-- What is told of one certificate.
unfoldable pub told : List ℕ → One → Result (Accepted × ℕ) Refusal
told stakes (good c next) = Ok (accepted_of stakes c, next)
told stakes (bad r) = Err r

unfoldable pub told_of : List ℕ → Certificate → ℕ → Result (Accepted × ℕ) Refusal
told_of stakes c next = told stakes (judged (judge stakes c) c next)

-- 15, the last test of a certificate.
unfoldable pub weighed_in : List ℕ → CertificateKind → Certificate → ℕ → Result (Accepted × ℕ) Refusal
weighed_in stakes k c next = told stakes (judged (judge_weight stakes k c) c next)
