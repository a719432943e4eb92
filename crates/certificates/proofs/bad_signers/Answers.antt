-- Looked for among all nodes of the masks' words, an overlap is the same as among those of the table.
use mathlib.Core.Path.{◌≡◌, refl, ap, ◌∙◌}
use mathlib.Core.Bool.{Bool, true, false, not, ◌&&◌, ◌||◌}
use mathlib.Core.List.{List}
use Prim.Native.Nat.{ℕ, ◌*◌, ◌^◌, ◌≤◌}
use lib.Dec.{leb}
use lib.ListN.{length}
use Rattle.rulebook.specs.declared.CertificateKind.{CertificateKind}
use Rattle.rulebook.specs.declared.Heading.{Heading}
use Rattle.rulebook.specs.Ledger.{none}
use Rattle.rulebook.specs.Tools.{some_to}
use Rattle.rulebook.specs.Packets.{bit, joined, certificate_of}
use Rattle.rulebook.specs.Checker.{without_b, bad_signers}
use Rattle.rule_laws.proofs.MaskLaws.{overlap_past}
use Rattle.stakes.specs.Masks.{misplaced_in}
use Rattle.certificates.proofs.Judged.{some_named_lem}
use Rattle.certificates.proofs.bad_signers.Goals as goal

or_assoc : (x y z : Bool) → ((x || y) || z) ≡ (x || (y || z))
or_assoc true y z = refl
or_assoc false y z = refl

-- What is found in one pass is what the tests find.
found_bad : (count : ℕ) (k : CertificateKind) (h : Heading) (a b : List ℕ) → count ≤ 64 * length a
    → (misplaced_in a b count || (without_b k && leb (2 ^ 0) (joined b))) ≡ bad_signers count k (certificate_of h a b)
unfolding bad_signers misplaced_in
found_bad count k h a b l =
    let past : Bool = leb (2 ^ count) (joined a) || leb (2 ^ count) (joined b) in
    let both : Bool = some_to (64 * length a) (λ n. bit (joined a) n && bit (joined b) n) in
    ap (λ (t : Bool). (past || both) || (without_b k && t)) (some_named_lem (joined b))
    ∙ or_assoc past both (without_b k && not (none (joined b)))
    ∙ overlap_past (joined a) (joined b) count (64 * length a) (without_b k && not (none (joined b))) l

pub returns : goal.returns
returns c =
    λ h.
    rw (c.misplaced-bad.ensures, c.without_b-no_b.ensures, c.beyond-some_b.ensures)
    (found_bad c.args.count c.args.k h c.args.a.now c.args.b.now c.requires.long)
