-- Slots in which no rule applies, as far as a look tells that weighs nothing. What a tray keeps in mind of who names blocks helps it;
-- without, it has no word for any slot.
use Rattle.std.specs.Prelude.{Bool, true, false, not, ◌&&◌, ◌||◌, List, ℕ, ◌+◌, ◌-◌, ◌*◌, length, eqb}
use Rattle.rulebook.specs.declared.CertificateKind.TheVariants as certificate
use Rattle.rulebook.specs.Tools.{some_to}
use Rattle.rulebook.specs.Weights.{is_first, reaches}
use Rattle.rulebook.specs.Ledger.{Ledger, none, row_at, first_block, own_cell, no_initial, is_armed, certificates_at, kept_at}
use Rattle.rulebook.specs.Cards.{leader, most}
use Rattle.rulebook.specs.Pool.{held}
use Rattle.record.specs.Layout.{word_at}
use Rattle.looks.specs.Looks.{is_short}

-- Some place for certificates of slot s names a block.
unfoldable pub names_kept : Ledger → ℕ → Bool
names_kept l s = some_to (length (certificates_at l s)) (λ n. not (none (kept_at l s n).block))

-- Slot s cannot make a parent ready: by the look too few name a block there, no kept certificate names one, and kind 4 is not held.
unfoldable pub is_idle : Ledger → List ℕ → ℕ → Bool
is_idle l looks s = is_short l looks s && (not (names_kept l s) && not (held l certificate.Skip s 0))

-- A has a window to arm; and it is slot 1, whose parent is genesis, or the slot before may make one ready.
unfoldable pub seeks_parent : Ledger → List ℕ → ℕ → Bool
seeks_parent l looks s = (is_first s && not (is_armed l s)) && (eqb s 1 || not (is_idle l looks (s - 1)))

-- Slot s is a window's first behind a slot that cannot make a parent ready: neither A nor B applies in it.
unfoldable pub is_stranded : Ledger → List ℕ → ℕ → Bool
is_stranded l looks s = (is_first s && not (eqb s 1)) && is_idle l looks (s - 1)

-- The rule from which on a slot is asked, counted from A: C where it is so, else A.
unfoldable pub first_asked : Bool → ℕ
first_asked true = 2
first_asked false = 0

-- Nothing for B to E and for G: no own initial vote, which C, D and E ask for, and nothing in the first place for a kept block, which is
-- filled before the others: B asks for a kept block, and G walks by one.
unfoldable pub is_bare : Ledger → ℕ → Bool
is_bare l s = no_initial (own_cell l s) && none (first_block l s).number

-- One of the first n words is not 0, from a word on and so many apart.
unfoldable pub names_from : List ℕ → ℕ → ℕ → ℕ → Bool
names_from ws from apart n = some_to n (λ i. not (none (word_at ws (from + apart * i))))

-- Votes may make another block final than the slot's final one: the leader is another, and its notar votes reach 60.
unfoldable pub leads_anew : Ledger → ℕ → Bool
leads_anew l s = not (eqb (leader l s) (row_at l s).final) && reaches 3 l.total (most l s)

-- Nothing for A, nothing for B to E and G, and for F neither votes nor kept certificates.
unfoldable pub is_dormant : Ledger → List ℕ → ℕ → Bool
is_dormant l looks s = not (seeks_parent l looks s) && ((not (names_kept l s) && is_bare l s) && not (leads_anew l s))
