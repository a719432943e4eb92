-- Computed cases of the words of progress.
use Rattle.std.specs.Prelude.{not, ◌&&◌, [], ◌∷◌, T}
use Rattle.rulebook.specs.declared.CertificateKind.TheVariants as certificate
use Rattle.rulebook.specs.Ledger.{Ledger, fresh, is_armed}
use Rattle.rulebook.specs.Pool.{held}
use Rattle.rulebook.specs.Taking.{of_input, served}
use Rattle.rulebook.specs.Scripts.{timeout, look}
use Rattle.rulebook.specs.Computes.{rules}
use Rattle.watchers.specs.Watching.{is_done}
use Rattle.progress.specs.Progress.{accepted_in}

-- "Block 0" passes where nobody voted, since an empty place is 0: a decision asks for a block.
zero_is_held : T (held (fresh (1 ∷ 1 ∷ 1 ∷ []) 0 1) certificate.NotarFallback 1 0)
unfolding rules
zero_is_held = tt

-- A look wakes a node, and window 1 is armed; a timeout before that is refused and wakes nobody.
look_wakes : T (
    let l : Ledger = fresh (1 ∷ 1 ∷ 1 ∷ []) 0 1 in
    accepted_in l (of_input (timeout 1) ∷ of_input look ∷ []) && is_armed (served l (of_input look)).ledger 1
    && (not (accepted_in l (of_input (timeout 1) ∷ [])) && not (is_armed (served l (of_input (timeout 1))).ledger 1))
    )
unfolding rules accepted_in is_done
look_wakes = tt
