-- The lines of one vote, and of one certificate's masks, as the code puts them.
use Rattle.std.specs.Prelude.{Bool, true, not, ◌&&◌, List, ◌++◌, ℕ}
use Rattle.rulebook.specs.declared.Cell.{Cell}
use Rattle.rulebook.specs.declared.VoteKind.{VoteKind}
use Rattle.rulebook.specs.declared.VoteKind.TheVariants as vote
use Rattle.rulebook.specs.PaperNumbers.{certificate_number}
use Rattle.rulebook.specs.Tools.{whenever}
use Rattle.rulebook.specs.Checker.{without_b}
use Rattle.safety.specs.Slot.{Ballot, notar, notar_fallback, skip, skip_fallback, final}
use Rattle.safety.specs.Ballots.{has, block_of}
use Rattle.safety.specs.Ring.{ballot_a, ballot_b}
use Rattle.inquest.specs.declared.Line.{Line}
use Rattle.inquest.specs.Stands.{none_or}
use Rattle.inquest.specs.Lists.{line_of, unless}
use Rattle.signer_lines.specs.declared.Signer.{Signer}

-- The vote of a kind for b; a kind that is none asks for a final vote.
abbrev pub ballot_of : VoteKind → ℕ → Ballot
ballot_of vote.Notar b = notar b
ballot_of vote.NotarFallback b = notar_fallback b
ballot_of vote.Skip b = skip
ballot_of vote.SkipFallback b = skip_fallback
ballot_of vote.Final b = final
ballot_of vote.Other b = final

-- Firm m's stored vote of a kind in slot s, by its word, where there is one and the firm's cell lacks it.
abbrev pub stored_lacks : ℕ → ℕ → VoteKind → ℕ → Cell → List Line
stored_lacks s m k word d =
    unless (none_or word (λ _. has d (ballot_of k word)))
    (record { slot = record { 0 = s }; node = record { 0 = m }; kind = k; block = block_of (ballot_of k word); source = 0 })

-- The vote of a kind that a certificate counts a firm for, where a mask names the firm and the firm's cell lacks the vote.
abbrev pub counted_lacks : Signer → Cell → Bool → VoteKind → List Line
counted_lacks x d named k =
    unless (whenever named (λ _. has d (ballot_of k x.block)) true)
    (record { slot = x.slot; node = x.node; kind = k; block = block_of (ballot_of k x.block); source = certificate_number x.kind })

-- What a certificate counts a firm for by mask A, and by mask B, and the firm's cell lacks.
unfoldable pub lacks_a : Signer → Cell → List Line
lacks_a x d =
    unless (whenever x.a (λ _. has d (ballot_a x.kind x.block)) true) (line_of x.slot.0 x.node.0 (ballot_a x.kind x.block) (certificate_number x.kind))

unfoldable pub lacks_b : Signer → Cell → List Line
lacks_b x d =
    unless (whenever (not (without_b x.kind) && x.b) (λ _. has d (ballot_b x.kind x.block)) true) (line_of x.slot.0 x.node.0 (ballot_b x.kind x.block) (certificate_number x.kind))

abbrev pub lacks : Signer → Cell → List Line
lacks x d = lacks_a x d ++ lacks_b x d
