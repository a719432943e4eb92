-- The loop goes over the places; none passed so far has a block that holds kind 3.
use Prim.Native.Nat.{◌-◌, ◌≤◌}
use Rattle.rulebook.specs.Ledger.{certificates_at}
use Rattle.rulebook.specs.Pool.{held}
use Rattle.rulebook.specs.declared.CertificateKind.TheVariants as certificate
use Rattle.record.specs.Layout.{ledger_of}
use Rattle.parents.proofs.AnyLaws.{NoneKept}
use Rattle.parents.proofs.some_kept_holds.Given as goal

abbrev pub invariant-loop-n : goal.invariant-loop-n
invariant-loop-n l =
    (l.n ≤ 13) × NoneKept (held (ledger_of l.rec) certificate.NotarFallback l.p.0) (certificates_at (ledger_of l.rec) l.p.0) l.n

abbrev pub decreases-loop-n : goal.decreases-loop-n
decreases-loop-n l =
    13 - l.n
