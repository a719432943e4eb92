-- Many slots: what it is to descend from a block, what a certified block is, and what honest nodes' votes stand on. A block is a slot and a
-- number. Nothing here knows of pools, packets or clocks.
use Rattle.std.specs.Prelude.{◌≡◌, Bool, not, ◌||◌, List, ℕ, zero, suc, ◌<◌, T}
use Rattle.rulebook.specs.Weights.{is_first}
use Rattle.safety.specs.Slot.{Test, Ballot, notar, notar_fallback, skip, skip_fallback, Heavy, Quorum, Lawful}

-- Which nodes are honest, and which blocks each node keeps: node, slot, number, parent's slot, parent's number.
module _ (honest : Test) (kept : ℕ → ℕ → ℕ → ℕ → ℕ → Bool) where
  -- Some honest node keeps block b of slot s with the parent (p, x).
  pub record Link (s b p x : ℕ) : Type 0 where
    pub node : ℕ
    pub is_honest : T (honest node)
    pub keeps : T (kept node s b p x)

  -- Block b of slot s is block x of slot p, or has it for an ancestor: its parent, its parent's parent and so on, each kept by an honest
  -- node.
  pub data Descends (p x : ℕ) : ℕ → ℕ → Type 0 where
    itself : Descends p x p x
    child : {s b q y : ℕ} → Link s b q y → Descends p x q y → Descends p x s b

  -- One is the other or its ancestor.
  pub data Chained (s b t c : ℕ) : Type 0 where
    below : Descends s b t c → Chained s b t c
    above : Descends t c s b → Chained s b t c

-- The stake table, which nodes are honest, which ballots each node cast over its life (slot, node, ballot), and which blocks it keeps.
module _ (stakes : List ℕ) (count : ℕ) (honest : Test) (cast : ℕ → ℕ → Ballot → Bool) (kept : ℕ → ℕ → ℕ → ℕ → ℕ → Bool) where
  -- A set that reaches 60, each of whose honest nodes cast notar b or notar-fallback b in slot s: kinds 1, 2 and 3 all are one.
  pub record Certified (s b : ℕ) : Type 0 where
    pub set : Test
    pub all : (n : ℕ) → T (honest n) → T (set n) → T (cast s n (notar b) || cast s n (notar_fallback b))
    pub heavy : Heavy 3 stakes count set

  -- The same with skip and skip-fallback: kind 4.
  pub record Skipped (s : ℕ) : Type 0 where
    pub set : Test
    pub all : (n : ℕ) → T (honest n) → T (set n) → T (cast s n skip || cast s n skip_fallback)
    pub heavy : Heavy 3 stakes count set

  -- What a block may be built on: anything in genesis's slot, a certified block elsewhere.
  abbrev pub Backed : ℕ → ℕ → Type 0
  Backed zero x = Unit {0}
  Backed (suc p) x = Certified (suc p) x

  -- Node n keeps block b of slot s with a parent that is backed, and every slot between is skipped.
  pub record Anchored (n s b : ℕ) : Type 0 where
    pub slot : ℕ
    pub parent : ℕ
    pub keeps : T (kept n s b slot parent)
    pub backed : Backed slot parent
    pub between : (t : ℕ) → slot < t → t < s → Skipped t

  -- Node n keeps block b of slot s with a parent in the slot before, for which it cast notar.
  pub record Followed (n s b : ℕ) : Type 0 where
    pub slot : ℕ
    pub parent : ℕ
    pub keeps : T (kept n s b slot parent)
    pub before : suc slot ≡ s
    pub voted : T (cast slot n (notar parent))

  -- Node n keeps block b of slot s with a certified parent.
  pub record Supported (n s b : ℕ) : Type 0 where
    pub slot : ℕ
    pub parent : ℕ
    pub keeps : T (kept n s b slot parent)
    pub certified : Certified slot parent

  -- What an honest node does over its whole life: in each slot what safety asks; for a notar vote rule B's parent; for a notar-fallback a
  -- fifth of notar votes and, outside first slots, rule D's parent. A kept block's parent stands in a lower slot.
  pub record Rooted (n : ℕ) : Type 0 where
    pub slots : (s : ℕ) → Lawful stakes count honest (cast s) n
    pub lower : (s b p x : ℕ) → T (kept n s b p x) → p < s
    pub first_notar : (s b : ℕ) → T (is_first s) → T (cast s n (notar b)) → Anchored n s b
    pub next_notar : (s b : ℕ) → T (not (is_first s)) → T (cast s n (notar b)) → Followed n s b
    pub fallback_seen : (s b : ℕ) → T (cast s n (notar_fallback b)) → Quorum stakes count honest (cast s) 1 (notar b)
    pub fallback_next : (s b : ℕ) → T (not (is_first s)) → T (cast s n (notar_fallback b)) → Supported n s b
