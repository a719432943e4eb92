-- STORE BEFORE YOU SEND: a host's deeds, and which of them are in order.
use Rattle.std.specs.Prelude.{◌≡◌, Bool, true, false, ◌&&◌, List, [], ◌∷◌, ◌++◌, ℕ, T}
use Rattle.rulebook.specs.Rules.{Record}
use Rattle.answers.specs.Face.{Started}
use Rattle.safety.specs.Ballots.{among}
use Rattle.seen.specs.Seen.{Seen}
use Rattle.calls.specs.Life.{begun, Calls, Life}

-- What a host has: the life of the record in its memory, the life of the record that it stored last, and what it has sent of outboxes: votes to other
-- firms, final blocks to its own house. Memory goes with a death; what is stored and what was sent do not.
pub record Desk : Type 0 where
  pub living : Seen
  pub stored : Seen
  pub sent : List Record

-- What a host does: it calls, after which this is seen of the life in memory; it stores the record; it sends records of outboxes; it dies, and goes on from
-- the record that it stored last; or it puts back some other record, as out of a backup.
pub data Deed : Type 0 where
  calls : Seen → Deed
  stores : Deed
  sends : List Record → Deed
  dies : Deed
  puts_back : Seen → Deed

-- What a deed makes of what the host has.
unfoldable pub after_deed : Desk → Deed → Desk
after_deed d (calls w) = record { living = w; stored = d.stored; sent = d.sent }
after_deed d stores = record { living = d.living; stored = d.living; sent = d.sent }
after_deed d (sends rs) = record { living = d.living; stored = d.stored; sent = d.sent ++ rs }
after_deed d dies = record { living = d.stored; stored = d.stored; sent = d.sent }
after_deed d (puts_back v) = record { living = v; stored = v; sent = d.sent }

unfoldable pub after_deeds : Desk → List Deed → Desk
after_deeds d [] = d
after_deeds d (x ∷ xs) = after_deeds (after_deed d x) xs

-- One of the deeds is a death.
unfoldable pub dies_in : List Deed → Bool
dies_in [] = false
dies_in (calls w ∷ xs) = dies_in xs
dies_in (stores ∷ xs) = dies_in xs
dies_in (sends rs ∷ xs) = dies_in xs
dies_in (dies ∷ xs) = true
dies_in (puts_back v ∷ xs) = dies_in xs

-- Every one of these records was told.
unfoldable pub all_told : List Record → List Record → Bool
all_told told [] = true
all_told told (r ∷ rs) = among told r && all_told told rs

-- THE DISCIPLINE: what is sent, the life of the stored record has told; and no other record is ever put back. When to call, to store and to die is free.
unfoldable pub in_order : Desk → Deed → Bool
in_order d (calls w) = true
in_order d stores = true
in_order d (sends rs) = all_told d.stored.told rs
in_order d dies = true
in_order d (puts_back v) = false

unfoldable pub all_in_order : Desk → List Deed → Bool
all_in_order d [] = true
all_in_order d (x ∷ xs) = in_order d x && all_in_order (after_deed d x) xs

-- The calls are calls on the record in memory, each as its contract has it.
unfoldable pub Called : Desk → Deed → Type 0
Called d (calls w) = Calls d.living w
Called d stores = Unit {0}
Called d (sends rs) = Unit {0}
Called d dies = Unit {0}
Called d (puts_back v) = Unit {0}

unfoldable pub AllCalled : Desk → List Deed → Type 0
AllCalled d [] = Unit {0}
AllCalled d (x ∷ xs) = Called d x × AllCalled (after_deed d x) xs

-- After a start. What it left counts as stored: who dies before the first store starts anew, and has the same words again (`StartsAlike`).
abbrev pub opened : List ℕ → Desk
opened words = record { living = begun words; stored = begun words; sent = [] }

-- A HOST IN GOOD ORDER has this after a start that was answered 0 and deeds since, all in order.
pub record Host (stakes : List ℕ) (own genesis : ℕ) (d : Desk) : Type 0 where
  pub found : List ℕ
  pub words : List ℕ
  pub start : Started found stakes own genesis 0 words
  pub deeds : List Deed
  pub called : AllCalled (opened words) deeds
  pub ordered : T (all_in_order (opened words) deeds)
  pub now : d ≡ after_deeds (opened words) deeds

-- However often it died: the record in memory has a life from that one start, which goes on from the stored one; and all that was ever sent, that
-- life has told, the stored one's already.
pub record OneLife (stakes : List ℕ) (own genesis : ℕ) (d : Desk) : Type 0 where
  pub stored : Life stakes own genesis d.stored
  pub since : Calls d.stored d.living
  pub living : Life stakes own genesis d.living
  pub sent_stored : (r : Record) → T (among d.sent r) → T (among d.stored.told r)
  pub sent_told : (r : Record) → T (among d.sent r) → T (among d.living.told r)

abbrev pub DeathsLeaveOneLife : Type 0
DeathsLeaveOneLife = (stakes : List ℕ) (own genesis : ℕ) (d : Desk) → Host stakes own genesis d → OneLife stakes own genesis d

-- Who died before the first store starts anew, on whatever words, and has the same record again.
abbrev pub StartsAlike : Type 0
StartsAlike =
    (stakes : List ℕ) (own genesis : ℕ) (found words found' words' : List ℕ)
    → Started found stakes own genesis 0 words → Started found' stakes own genesis 0 words' → words ≡ words'
