-- Looking through a slot's places for certificates: what a place must be, and the first that is so.
use Rattle.std.specs.Prelude.{Bool, not, ◌&&◌, List, [], ◌∷◌, ◌≡◌, ℕ, suc, length}
use Rattle.rulebook.specs.declared.CertificateKind.{CertificateKind}
use Rattle.rulebook.specs.declared.CertificateKind.TheVariants as certificate
use Rattle.rulebook.specs.Tools.{choose}
use Rattle.rulebook.specs.Certificates.{Kept}
use Rattle.rulebook.specs.Ledger.{places, is_kept}
use Rattle.rulebook.specs.Pool.{place_kind, same_kind, is_for}
use Rattle.rulebook.specs.Taking.{is_room, is_repeat}
use Rattle.record.specs.Layout.{mask_words, ledger_of, InSlot}
use Rattle.kept_places.specs.declared.Sought.{Sought}
use Rattle.kept_places.specs.declared.Sought.TheVariants as sought

-- Place i, which keeps q, may be what is looked for by its kind and its block.
unfoldable pub suits : Sought → ℕ → Kept → Bool
suits (sought.Room k) i q = same_kind (place_kind i) k
suits (sought.Same k b) i q = is_repeat k b i q
suits (sought.Serving k b) i q = is_for k b i q

-- A place that keeps a certificate, or one that keeps none, is looked for.
unfoldable pub wants : Sought → Bool → Bool
wants (sought.Room k) kept = not kept
wants (sought.Same k b) kept = kept
wants (sought.Serving k b) kept = kept

-- Place i, which keeps q, is what is looked for.
unfoldable pub seeks : Sought → ℕ → Kept → Bool
seeks (sought.Room k) i q = is_room k i q
seeks (sought.Same k b) i q = is_kept q && is_repeat k b i q
seeks (sought.Serving k b) i q = is_kept q && is_for k b i q

-- The kind for which a place is looked for.
unfoldable pub kind_of : Sought → CertificateKind
kind_of (sought.Room k) = k
kind_of (sought.Same k b) = k
kind_of (sought.Serving k b) = k

-- The places that can be of use for a kind: the first of them, and the one behind the last.
unfoldable pub from_place : CertificateKind → ℕ
from_place certificate.FastFinal = 0
from_place certificate.Notar = 0
from_place certificate.NotarFallback = 0
from_place certificate.Skip = 2
from_place certificate.Final = 3
from_place certificate.Other = 0

unfoldable pub to_place : CertificateKind → ℕ
to_place certificate.FastFinal = 1
to_place certificate.Notar = 2
to_place certificate.NotarFallback = 13
to_place certificate.Skip = 3
to_place certificate.Final = 4
to_place certificate.Other = 13

-- The first place, from place i on, of which a test holds; where there is none, the number of places.
unfoldable pub first_place : (ℕ → Kept → Bool) → ℕ → List Kept → ℕ
first_place p i [] = 0
first_place p i (q ∷ qs) = choose (p i q) 0 (suc (first_place p (suc i) qs))

-- A slot, and two masks with as many words as the record's have.
pub record Keeping (ws : List ℕ) (s : ℕ) (a b : List ℕ) : Type 0 where
  pub slot : InSlot ws s
  pub many_a : length a ≡ mask_words (places (ledger_of ws))
  pub many_b : length b ≡ mask_words (places (ledger_of ws))
