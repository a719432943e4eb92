-- WHAT STANDS BEHIND THE RECORDS OF FINAL BLOCKS, by what the functions of the header answer on the same words, a node's or a watcher's: behind each (6, s, b) a block that
-- qr_write_proof proves, and from it a line of parents that qr_kept_blocks answers. Each promise is a statement that proofs/ proves under the same name in small letters.
use Rattle.std.specs.Prelude.{◌≡◌, Bool, false, ◌&&◌, ◌||◌, List, [], ◌∷◌, ℕ, T, eqb}
use Rattle.rulebook.specs.Rules.{record_of}
use Rattle.readers.specs.Asked.{blocks_on}
use Rattle.answers.specs.Face.{BlocksRead}
use Rattle.safety.specs.Ballots.{among}
use Rattle.seen.specs.Seen.{Seen, Alive}
use Rattle.finals_seen.specs.Finals.{Proved}

-- One of the places, three words each, has block b with the parent (p, x).
unfoldable pub listed : List ℕ → ℕ → ℕ → ℕ → Bool
listed [] b p x = false
listed (k ∷ []) b p x = false
listed (k ∷ q ∷ []) b p x = false
listed (k ∷ q ∷ y ∷ ws) b p x = (eqb k b && (eqb q p && eqb y x)) || listed ws b p x

-- qr_kept_blocks answers 0 for slot s, and has b with that parent among its twelve words.
abbrev pub ParentRead : Seen → ℕ → ℕ → ℕ → ℕ → Type 0
ParentRead v s b p x = (number : ℕ) (values : List ℕ) → BlocksRead (blocks_on v.words s) number values → (number ≡ 0) × T (listed values b p x)

-- Block b of slot s is shown final: qr_write_proof proves it, or it is the parent that is read of a block that is shown final.
pub data ShownFinal (stakes : List ℕ) (v : Seen) : ℕ → ℕ → Type 0 where
  by_proof : {s b : ℕ} → Proved stakes v s b → ShownFinal stakes v s b
  as_parent : {s b p x : ℕ} → ShownFinal stakes v s b → ParentRead v s b p x → ShownFinal stakes v p x

-- Each (6, s, b) that was told is for a block that is shown final.
abbrev pub FinalsShown : Type 0
FinalsShown = (stakes : List ℕ) (genesis : ℕ) (v : Seen) → Alive stakes genesis v → (s b : ℕ) → T (among v.told (record_of 6 s b)) → ShownFinal stakes v s b

-- Each (8, s, b) is for one of two such blocks of the slot.
pub record TwoShown (stakes : List ℕ) (v : Seen) (s b : ℕ) : Type 0 where
  pub other : ℕ
  pub differs : ¬ (other ≡ b)
  pub old : ShownFinal stakes v s other
  pub newcomer : ShownFinal stakes v s b

abbrev pub ClashesShown : Type 0
ClashesShown = (stakes : List ℕ) (genesis : ℕ) (v : Seen) → Alive stakes genesis v → (s b : ℕ) → T (among v.told (record_of 8 s b)) → TwoShown stakes v s b
