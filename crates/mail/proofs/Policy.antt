-- By the policy every kept block of a slot but the first has rule D's weights, and so every block that it lets the host announce is kept.
use Rattle.std.specs.Prelude.{Ok}
use mathlib.Core.Path.{◌≡◌, refl, sym, subst}
use mathlib.Core.Bool.{false, not, ◌&&◌, ◌||◌}
use mathlib.Core.List.{List, [], ◌∷◌}
use Prim.Native.Nat.{ℕ, ◌≤◌}
use native.Mathlib.Omega.{arith}
use native.Mathlib.Decide.{ℕ_discrete}
use lib.Dec.{T, eqb, leb, eqb→eq, eqb_refl, leb→le, T_not, not_T}
use lib.ListN.{length}
use Rattle.rulebook.specs.declared.Block.{Block}
use Rattle.rulebook.specs.declared.Slot.{Slot}
use Rattle.rulebook.specs.declared.Input.TheVariants as input
use Rattle.rulebook.specs.Weights.{last_slot, slot_ok, places_for}
use Rattle.rulebook.specs.Ledger.{Ledger, Row, none, fresh, blocks_at, some_block, all_blocks, is_free, has_number, is_block, keeps_block}
use Rattle.rulebook.specs.Rules.{fallback_weights}
use Rattle.rulebook.specs.Inputs.{bad_parent, same_block, stands_against, block_verdict, keep_block, verdict, intake}
use Rattle.rulebook.specs.Taking.{Arrival, of_input, of_packet, served}
use Rattle.rulebook.specs.WellFormed.{kept_fits, blocks_apart, blocks_fit}
use Rattle.rule_laws.proofs.FourthLaws.{Counted}
use Rattle.settling.specs.Facts.{Sound}
use Rattle.settling.proofs.FactLaws.{formed}
use Rattle.settling.proofs.Life.{served_paid}
use Rattle.settling.proofs.Start.{fresh_sound, watching_sound}
use Rattle.safety.specs.Ballots.{announces}
use Rattle.safety.specs.Moves.{SameTable}
use Rattle.safety.specs.Ring.{after_all, announced_by}
use Rattle.safety.proofs.Tests.{T_true, true_t, and_t, or_t, T-left, T-right, by_test, neither}
use Rattle.safety.proofs.Tests as tests
use Rattle.safety.proofs.Growing.{Grow, weights_grow}
use Rattle.safety.proofs.Fallbacks.{weights_back}
use Rattle.safety.proofs.Behind.{some_block_at, is_block_lem, kept_number, fallback_weights_lem}
use Rattle.safety.proofs.Stores.{row_here}
use Rattle.safety.proofs.Steps.{Ready, pass}
use Rattle.safety.proofs.Lives.{step_ready, life_grow, life_table, life_announced, fresh_keeps, fresh_ready, start_sized, watch_sized}
use Rattle.mail.specs.Policy.{may_announce, allowed, by_policy, Started, as_node, as_watcher, ParentFits, PolicyHasRoom, AnnouncedIsKept}
use Rattle.mail.proofs.Votes.{slot_fine, intake_grows}
use Rattle.mail.proofs.Places.{fill_stands, all_free, none_stands, FirstOrHeavy, heavy_room}

-- Rule D's weights stay.
pub weights_stay_lem : (l m : Ledger) → SameTable l m → Grow l m → (s b : ℕ) → T (not (none b)) → T (fallback_weights l s b) → T (fallback_weights m s b)
weights_stay_lem l m table grow s b nb t = weights_back m s b (weights_grow l m table grow s b (fallback_weights_lem l s b nb t))

-- A block with a number that is kept is kept with a parent.
pub number_kept : (l : Ledger) (s b : ℕ) → T (not (none b)) → T (some_block (has_number b) (blocks_at l s)) → (q : ℕ) × (y : ℕ) × T (keeps_block l s b q y)
unfolding keeps_block
number_kept l s b nb t =
    let h = some_block_at (has_number b) (blocks_at l s) t in
    let k = h.0 in
    let free = subst (λ (z : ℕ). T (not (none z))) (sym (eqb→eq k.number b h.1)) nb in
    (k.parentslot.0, k.parent, h.2 (is_block b k.parentslot.0 k.parent) (is_block_lem k b free h.1))

-- What a block that arrives says.
pub record Says (t : Slot) (k : Block) (s b p x : ℕ) : Type 0 where
  pub slot : t.0 ≡ s
  pub number : k.number ≡ b
  pub some : T (not (none b))
  pub parent_slot : k.parentslot.0 ≡ p
  pub parent : k.parent ≡ x

pub says : (t : Slot) (k : Block) (s b p x : ℕ) → T (announces (of_input (input.Block t k)) s b p x) → Says t k s b p x
unfolding is_block
says t k s b p x u =
    let a = and_t (eqb t.0 s) (is_block b p x k) u in
    let c = and_t (not (is_free k)) (has_number b k && (eqb k.parentslot.0 p && eqb k.parent x)) a.1 in
    let d = and_t (has_number b k) (eqb k.parentslot.0 p && eqb k.parent x) c.1 in
    let e = and_t (eqb k.parentslot.0 p) (eqb k.parent x) d.1 in
    let same = eqb→eq k.number b d.0 in
    record {
      slot = eqb→eq t.0 s a.0;
      number = same;
      some = subst (λ (z : ℕ). T (not (none z))) same c.0;
      parent_slot = eqb→eq k.parentslot.0 p e.0;
      parent = eqb→eq k.parent x e.1;
    }

block_taken : (b p x : ℕ) (c : Block) → T (is_block b p x c) → T (not (is_free c))
unfolding is_block
block_taken b p x c t = (and_t (not (is_free c)) _ t).0

-- ---- a node, or a watcher, at a moment of a life by the policy

-- It is in order, and every kept block of slot s but the first has the weights.
record Orderly (most me : ℕ) (l : Ledger) (s : ℕ) : Type 0 where
  pub ready : Ready most me l
  pub sound : Sound l
  pub only : FirstOrHeavy l s

module _ {most : ℕ} (me : ℕ) (l : Ledger) (s : ℕ) (o : Orderly most me l s) where
  counted : Counted l s
  counted =
      let inv = o.ready.inv in
      record { sum = sym inv.sum; some = inv.some; initial = λ n h. T_true _ (inv.neat s n).single }

  blocks_apart_lem : 1 ≤ s → s ≤ last_slot → T (blocks_apart (blocks_at l s))
  unfolding blocks_fit
  blocks_apart_lem lo hi =
      (and_t (all_blocks (kept_fits l s) (blocks_at l s)) (blocks_apart (blocks_at l s)) (true_t _ ((formed l o.sound.formed).rows s lo hi).blocks)).1

  -- A block that may be announced, and is not kept, finds a free place.
  room : 1 ≤ s → s ≤ last_slot → (b : ℕ) → T (not (none b)) → T (may_announce l s b) → T (not (some_block (has_number b) (blocks_at l s))) → T (some_block is_free (blocks_at l s))
  unfolding may_announce
  room lo hi b nb t new =
      let long = o.ready.shaped.blocks s (omega arith) in
      or_t (all_blocks is_free (blocks_at l s)) (some_block (has_number b) (blocks_at l s) || fallback_weights l s b) t
      (λ u. all_free (blocks_at l s) (omega (arith, long)) u)
      (λ u. or_t (some_block (has_number b) (blocks_at l s)) (fallback_weights l s b) u
      (λ w. absurd (T_not (some_block (has_number b) (blocks_at l s)) new w))
      (λ w. heavy_room l s counted o.only long (blocks_apart_lem lo hi) b nb w new))

  -- What arrives by the policy.
  module _ (i : Arrival) where
    kept_before : (b p x : ℕ) → T (keeps_block (served l i).ledger s b p x) → T (announces i s b p x || keeps_block l s b p x)
    unfolding after_all announced_by
    kept_before b p x t =
        or_t (announces i s b p x || false) (keeps_block l s b p x) (life_announced me l (i ∷ []) o.ready s b p x t)
        (λ u. or_t (announces i s b p x) false u (λ w. T-left (announces i s b p x) (keeps_block l s b p x) w) (λ w. absurd w))
        (λ u. T-right (announces i s b p x) (keeps_block l s b p x) u)

    step_table : SameTable l (served l i).ledger
    unfolding after_all
    step_table = life_table me l (i ∷ []) o.ready

    step_grow : Grow l (served l i).ledger
    unfolding after_all
    step_grow = life_grow me l (i ∷ []) o.ready

    heavy_still : (b p x : ℕ) → T (keeps_block l s b p x) → ¬ (b ≡ o.only.first) → T (fallback_weights (served l i).ledger s b)
    heavy_still b p x t ne = weights_stay_lem l (served l i).ledger step_table step_grow s b (kept_number l s b p x t) (o.only.others b p x t ne)

    -- Nothing is announced in slot s, or a block that is kept or has the weights: the first stays.
    same_first : ((b p x : ℕ) → T (announces i s b p x) → ¬ (b ≡ o.only.first) → T (fallback_weights (served l i).ledger s b)) → FirstOrHeavy (served l i).ledger s
    same_first f =
        record {
          first = o.only.first;
          others = λ b p x t ne. or_t (announces i s b p x) (keeps_block l s b p x) (kept_before b p x t) (λ u. f b p x u ne) (λ u. heavy_still b p x u ne);
        }

  module _ (t : Slot) (k : Block) where
    abbrev shown : Arrival
    shown = of_input (input.Block t k)

    -- It is the slot's first block.
    block_first : T (all_blocks is_free (blocks_at l s)) → FirstOrHeavy (served l shown).ledger s
    unfolding keeps_block
    block_first v =
        record {
          first = k.number;
          others = λ b p x w ne. or_t (announces shown s b p x) (keeps_block l s b p x) (kept_before shown b p x w)
              (λ y. absurd (ne (sym (says t k s b p x y).number)))
              (λ y. absurd (none_stands (is_block b p x) (blocks_at l s) (block_taken b p x) v y));
        }

    -- It is kept, or it has the weights.
    block_further : T (some_block (has_number k.number) (blocks_at l s) || fallback_weights l s k.number) → FirstOrHeavy (served l shown).ledger s
    block_further v =
        same_first shown λ b p x w f.
        let y = says t k s b p x w in
        or_t (some_block (has_number k.number) (blocks_at l s)) (fallback_weights l s k.number) v
        (λ z. let q = number_kept l s b y.some (subst (λ (n : ℕ). T (some_block (has_number n) (blocks_at l s))) y.number z) in heavy_still shown b q.0 q.1 q.2 f)
        (λ z. weights_stay_lem l (served l shown).ledger (step_table shown) (step_grow shown) s b y.some (subst (λ (n : ℕ). T (fallback_weights l s n)) y.number z))

    block_next : T (may_announce l t.0 k.number) → FirstOrHeavy (served l shown).ledger s
    unfolding may_announce
    block_next u =
        elim (ℕ_discrete t.0 s) [
          | yes e ↦ or_t (all_blocks is_free (blocks_at l s)) (some_block (has_number k.number) (blocks_at l s) || fallback_weights l s k.number)
              (subst (λ (z : ℕ). T (may_announce l z k.number)) e u) block_first block_further
          | no ne ↦ same_first shown (λ b p x w f. absurd (ne (says t k s b p x w).slot))
        ]

  first_next : (i : Arrival) → T (allowed l i) → FirstOrHeavy (served l i).ledger s
  first_next (of_input (input.Vote w)) t = same_first (of_input (input.Vote w)) (λ b p x u ne. absurd u)
  first_next (of_input (input.Block x k)) t = block_next x k t
  first_next (of_input (input.Timeout x)) t = same_first (of_input (input.Timeout x)) (λ b p x u ne. absurd u)
  first_next (of_input input.Look) t = same_first (of_input input.Look) (λ b p x u ne. absurd u)
  first_next (of_packet bytes) t = same_first (of_packet bytes) (λ b p x u ne. absurd u)

  orderly_next : (i : Arrival) → T (allowed l i) → Orderly most me (served l i).ledger s
  orderly_next i t = record { ready = step_ready me l i o.ready; sound = (served_paid l o.sound i).sound; only = first_next i t }

  -- A block that is announced with a parent that passes is kept, or its number is.
  module _ (t : Slot) (k : Block) (b p x : ℕ) (lo : 1 ≤ s) (hi : s ≤ last_slot) (fit : ParentFits l.genesis s p x) (y : Says t k s b p x) where
    parent_fine : T (not (bad_parent l s k))
    unfolding bad_parent
    parent_fine =
        rw (y.parent_slot, y.parent)
        (neither (leb s p) (none p && not (eqb x l.genesis)) (not_T (leb s p) (λ u. omega (arith, leb→le s p u, fit.lower)))
        (not_T (none p && not (eqb x l.genesis)) (λ u.
        let a = and_t (none p) (not (eqb x l.genesis)) u in
        T_not (eqb x l.genesis) a.1 (subst (λ (z : ℕ). T (eqb x z)) (fit.first (eqb→eq p 0 a.0)) (eqb_refl x)))))

    number_fine : T (not (none k.number || none k.parent))
    number_fine = rw (y.number, y.parent) (neither (none b) (none x) y.some fit.number)

    -- The block itself is not there, where its number is not.
    not_same : T (not (some_block (has_number b) (blocks_at l s))) → T (not (some_block (λ c. same_block c k) (blocks_at l s)))
    unfolding same_block
    not_same new =
        not_T (some_block (λ c. same_block c k) (blocks_at l s)) (λ u.
        let h = some_block_at (λ c. same_block c k) (blocks_at l s) u in
        let e = (and_t (eqb h.0.number k.number) (eqb h.0.parentslot.0 k.parentslot.0 && eqb h.0.parent k.parent) h.1).0 in
        T_not (some_block (has_number b) (blocks_at l s)) new (h.2 (has_number b) (subst (λ (z : ℕ). T (eqb h.0.number z)) y.number e)))

    block_fine : T (not (some_block (has_number b) (blocks_at l s))) → T (some_block is_free (blocks_at l s)) → block_verdict l s k ≡ Ok tt
    unfolding block_verdict stands_against
    block_fine new free =
        pass (not (slot_ok s)) _ _ (tests.yes (slot_ok s) (slot_fine s lo hi))
        (pass (none k.number || none k.parent) _ _ number_fine
        (pass (bad_parent l s k) _ _ parent_fine
        (pass (some_block (λ c. same_block c k) (blocks_at l s)) _ _ (not_same new)
        (pass (some_block (has_number k.number) (blocks_at l s) || not (some_block is_free (blocks_at l s))) _ _
        (neither (some_block (has_number k.number) (blocks_at l s)) (not (some_block is_free (blocks_at l s))) (rw y.number new) (tests.yes (some_block is_free (blocks_at l s)) free)) refl))))

    keeps_it : T (is_block b p x k) → T (some_block is_free (blocks_at l s)) → T (keeps_block (keep_block l s k) s b p x)
    unfolding keep_block keeps_block
    keeps_it u free =
        subst (λ (r : Row). T (some_block (is_block b p x) r.blocks)) (sym (row_here l s _ (omega arith) o.ready.shaped))
        (fill_stands (is_block b p x) k (blocks_at l s) u free)

    shown_kept : T (announces (shown t k) s b p x) → T (may_announce l s b) → T (not (some_block (has_number b) (blocks_at l s)))
        → T (keeps_block (served l (shown t k)).ledger s b p x)
    unfolding verdict intake
    shown_kept u may new =
        let free = room lo hi b y.some may new in
        let fine : block_verdict l t.0 k ≡ Ok tt = rw y.slot (block_fine new free) in
        (intake_grows me l o.ready (input.Block t k) fine).blocks s b p x
        (rw y.slot (keeps_it (and_t (eqb t.0 s) (is_block b p x k) u).1 free))

  -- What arrives announces the block.
  arrival_kept : (i : Arrival) (b p x : ℕ) → 1 ≤ s → s ≤ last_slot → ParentFits l.genesis s p x → T (announces i s b p x) → T (allowed l i)
      → T (not (some_block (has_number b) (blocks_at l s))) → T (keeps_block (served l i).ledger s b p x)
  arrival_kept (of_input (input.Vote w)) b p x lo hi fit t a new = absurd t
  arrival_kept (of_input (input.Block z k)) b p x lo hi fit t a new =
      let y = says z k s b p x t in
      shown_kept z k b p x lo hi fit y t (subst (λ (n : ℕ). T (may_announce l s n)) y.number (subst (λ (n : ℕ). T (may_announce l n k.number)) y.slot a)) new
  arrival_kept (of_input (input.Timeout z)) b p x lo hi fit t a new = absurd t
  arrival_kept (of_input input.Look) b p x lo hi fit t a new = absurd t
  arrival_kept (of_packet bytes) b p x lo hi fit t a new = absurd t

-- ---- a life

pub announces_some : (i : Arrival) (s b p x : ℕ) → T (announces i s b p x) → T (not (none b))
announces_some (of_input (input.Vote w)) s b p x t = absurd t
announces_some (of_input (input.Block z k)) s b p x t = (says z k s b p x t).some
announces_some (of_input (input.Timeout z)) s b p x t = absurd t
announces_some (of_input input.Look) s b p x t = absurd t
announces_some (of_packet bytes) s b p x t = absurd t

with_parent : (l : Ledger) (s b p x q y : ℕ) → p ≡ q → x ≡ y → T (keeps_block l s b q y) → T (keeps_block l s b p x)
with_parent l s b p x q y e f t = rw (e, f) t

module _ {most : ℕ} (me s : ℕ) where
  life_orderly : (l : Ledger) (is : List Arrival) → Orderly most me l s → T (by_policy l is) → Orderly most me (after_all l is) s
  unfolding after_all by_policy
  life_orderly l [] o t = o
  life_orderly l (i ∷ is) o t =
      let a = and_t (allowed l i) (by_policy (served l i).ledger is) t in life_orderly (served l i).ledger is (orderly_next me l s o i a.0) a.1

  module _ (b p x : ℕ) (lo : 1 ≤ s) (hi : s ≤ last_slot) where
    life_kept : (l : Ledger) (is : List Arrival) → Orderly most me l s → T (by_policy l is) → ParentFits l.genesis s p x → T (announced_by is s b p x)
        → ((q y : ℕ) → T (keeps_block (after_all l is) s b q y) → (p ≡ q) × (x ≡ y)) → T (keeps_block (after_all l is) s b p x)
    unfolding after_all by_policy announced_by
    life_kept l [] o t fit u alone = absurd u
    life_kept l (i ∷ is) o t fit u alone =
        let next = (served l i).ledger in
        let a = and_t (allowed l i) (by_policy next is) t in
        let o' = orderly_next me l s o i a.0 in
        let whole = life_grow me l (i ∷ is) o.ready in
        or_t (announces i s b p x) (announced_by is s b p x) u
        (λ v. by_test (some_block (has_number b) (blocks_at l s))
        (λ w. let k = number_kept l s b (announces_some i s b p x v) w in
        let e = alone k.0 k.1 (whole.blocks s b k.0 k.1 k.2) in
        with_parent (after_all next is) s b p x k.0 k.1 e.0 e.1 (whole.blocks s b k.0 k.1 k.2))
        (λ w. (life_grow me next is o'.ready).blocks s b p x (arrival_kept me l s o i b p x lo hi fit v a.0 w)))
        (λ v. life_kept next is o' a.1 (subst (λ (g : ℕ). ParentFits g s p x) (sym (step_table me l s o i).genesis) fit) v alone)

start_sound : (stakes : List ℕ) (own genesis : ℕ) → Started stakes own genesis → Sound (fresh stakes own genesis)
start_sound stakes own genesis (as_node e) = fresh_sound stakes own genesis e
start_sound stakes own genesis (as_watcher e) = watching_sound stakes genesis e

start_ready : (stakes : List ℕ) (own genesis : ℕ) → Started stakes own genesis → Ready (places_for (length stakes)) own (fresh stakes own genesis)
start_ready stakes own genesis (as_node e) = fresh_ready stakes own genesis (start_sized stakes own genesis e)
start_ready stakes own genesis (as_watcher e) = fresh_ready stakes (length stakes) genesis (watch_sized stakes genesis e)

start_orderly : (stakes : List ℕ) (own genesis s : ℕ) → Started stakes own genesis → Orderly (places_for (length stakes)) own (fresh stakes own genesis) s
start_orderly stakes own genesis s e =
    record {
      ready = start_ready stakes own genesis e;
      sound = start_sound stakes own genesis e;
      only = record { first = 0; others = λ b p x t ne. absurd (fresh_keeps stakes own genesis s b p x t) };
    }

pub policy_has_room : PolicyHasRoom
policy_has_room stakes own genesis e lived t s b lo hi nb may new =
    room own _ s (life_orderly own s (fresh stakes own genesis) lived (start_orderly stakes own genesis s e) t) lo hi b nb may new

pub announced_is_kept : AnnouncedIsKept
unfolding fresh
announced_is_kept stakes own genesis e lived t s b p x lo hi fit u alone =
    life_kept own s b p x lo hi (fresh stakes own genesis) lived (start_orderly stakes own genesis s e) t fit u alone
