-- F and G by the ways through their tests: what code that has gone such a way cites. Assumes nothing.
use mathlib.Core.Path.{◌≡◌, refl, sym, ap, ◌∙◌, subst}
use mathlib.Core.Bool.{Bool, true, false, not, ◌&&◌, ◌||◌}
use mathlib.Core.List.{List, [], ◌∷◌}
use Prim.Native.Nat.{ℕ, ◌≤◌, ◌<◌}
use native.Mathlib.Omega.{arith}
use lib.Dec.{eqb, leb, ltb}
use borrow.Author.Tests.{eqb-true, leb-true, leb-false, lt-ltb, le-ltb, not-false}
use Rattle.rulebook.specs.declared.Block.{Block}
use Rattle.rulebook.specs.Tools.{whenever, choose, lowest}
use Rattle.rulebook.specs.Ledger.{Ledger, none, no_block, row_at, blocks_at, is_free, has_number, put_final, put_clash}
use Rattle.rulebook.specs.Weights.{last_slot}
use Rattle.rulebook.specs.Pool.{certifiable}
use Rattle.rulebook.specs.Rules.{State, report, is_newcomer, tell_clash, tell_final, rule_f, find_block, walk_to, walk_step, rule_g}
use Rattle.rule_laws.proofs.ToolLaws.{given_on, given_off, by_test, true_not_false}
use Rattle.settling.specs.Facts.{Sound}
use Rattle.settling.specs.Steps.{WalkParent}
use Rattle.settling.proofs.Sounding.{walk_parent}
use Rattle.settling.proofs.WalkLaws.{walk_on}
use Rattle.finality.specs.Telling.{walk_begins}

-- ---- telling

module _ (o : State) (s b : ℕ) where
  pub clash_on : none (row_at o.ledger s).clash ≡ true → tell_clash o s b ≡ report o (put_clash o.ledger s) 8 s b
  unfolding tell_clash
  clash_on e = given_on (none (row_at o.ledger s).clash) o (λ _. report o (put_clash o.ledger s) 8 s b) e

  pub clash_off : none (row_at o.ledger s).clash ≡ false → tell_clash o s b ≡ o
  unfolding tell_clash
  clash_off e = given_off (none (row_at o.ledger s).clash) o (λ _. report o (put_clash o.ledger s) 8 s b) e

  abbrev final : ℕ
  final = (row_at o.ledger s).final

  pub final_first : none final ≡ true → tell_final o s b ≡ report o (put_final o.ledger s b) 6 s b
  unfolding tell_final
  final_first e = given_on (none final) _ (λ _. report o (put_final o.ledger s b) 6 s b) e

  pub final_same : none final ≡ false → eqb final b ≡ true → tell_final o s b ≡ o
  unfolding tell_final
  final_same e f =
      given_off (none final) _ (λ _. report o (put_final o.ledger s b) 6 s b) e ∙ given_on (eqb final b) (tell_clash o s b) (λ _. o) f

  pub final_other : none final ≡ false → eqb final b ≡ false → tell_final o s b ≡ tell_clash o s b
  unfolding tell_final
  final_other e f =
      given_off (none final) _ (λ _. report o (put_final o.ledger s b) 6 s b) e ∙ given_off (eqb final b) (tell_clash o s b) (λ _. o) f

-- ---- F

module _ (o : State) (s : ℕ) where
  abbrev newcomer : ℕ
  newcomer = lowest (is_newcomer o.ledger s) (certifiable o.ledger s)

  pub F-on : none newcomer ≡ false → rule_f o s ≡ tell_final o s newcomer
  unfolding rule_f
  F-on e = given_on (not (none newcomer)) o (λ _. tell_final o s newcomer) (ap not e)

  pub F-off : none newcomer ≡ true → rule_f o s ≡ o
  unfolding rule_f
  F-off e = given_off (not (none newcomer)) o (λ _. tell_final o s newcomer) (ap not e)

-- ---- G

-- No block has number 0.
zero_none : (ks : List Block) → find_block 0 ks ≡ no_block
unfolding find_block choose
zero_none [] = refl
zero_none (k ∷ ks) = go (is_free k) (zero_none ks)
  where
    go : (z : Bool) → find_block 0 ks ≡ no_block → choose (not z && z) k (find_block 0 ks) ≡ no_block
    go true e = e
    go false e = e

-- The test of code, the other way round.
pub lower_slot : (p s : ℕ) (t : Bool) → (eqb p 0 || leb s p) ≡ t → (not (none p) && ltb p s) ≡ not t
lower_slot p s t e = rest (eqb p 0) ∙ ap not e
  where
    less : ltb p s ≡ not (leb s p)
    less = by_test (leb s p) (λ q. le-ltb p s (leb-true s p q) ∙ ap not (sym q)) (λ q. lt-ltb p s (leb-false s p q) ∙ ap not (sym q))

    rest : (z : Bool) → (not z && ltb p s) ≡ not (z || leb s p)
    rest true = refl
    rest false = less

module _ (o : State) (s : ℕ) (a : 1 ≤ s) (k : Block) (is : k ≡ find_block (row_at o.ledger s).final (blocks_at o.ledger s)) where
  abbrev parent : ℕ
  parent = k.parentslot.0

  abbrev told : State
  told = tell_final o parent k.parent

  abbrev goes_on : Bool
  goes_on = eqb (row_at told.ledger parent).final k.parent

  -- Where the walk goes on it goes to a slot of the ledger that is lower, and its parent has a number.
  pub walk_to_lem : Sound o.ledger → s ≤ last_slot → (eqb parent 0 || leb s parent) ≡ false → WalkParent s parent k.parent
  walk_to_lem h b e =
      subst (λ (j : Block). WalkParent s j.parentslot.0 j.parent) (sym is)
      (walk_parent o.ledger h s a b (row_at o.ledger s).final
      (subst (λ (j : Block). (not (none j.parentslot.0) && ltb j.parentslot.0 s) ≡ true) is (lower_slot parent s false e)))

  -- The walk by the block that was found.
  walk_is : rule_g o s ≡ whenever (not (none parent) && ltb parent s) (λ _. walk_to rule_g o parent k.parent) o
  unfolding walk_step
  walk_is =
      walk_on o s a
      ∙ ap (λ (j : Block). whenever (not (none j.parentslot.0) && ltb j.parentslot.0 s) (λ _. walk_to rule_g o j.parentslot.0 j.parent) o) (sym is)

  pub G-halts : (eqb parent 0 || leb s parent) ≡ true → rule_g o s ≡ o
  G-halts e = walk_is ∙ given_off (not (none parent) && ltb parent s) o _ (lower_slot parent s true e)

  pub G-stops : (eqb parent 0 || leb s parent) ≡ false → goes_on ≡ false → rule_g o s ≡ told
  unfolding walk_to
  G-stops e f = walk_is ∙ given_on (not (none parent) && ltb parent s) o _ (lower_slot parent s false e) ∙ given_off goes_on told (λ _. rule_g told parent) f

  pub G-on : (eqb parent 0 || leb s parent) ≡ false → goes_on ≡ true → rule_g o s ≡ rule_g told parent
  unfolding walk_to
  G-on e f = walk_is ∙ given_on (not (none parent) && ltb parent s) o _ (lower_slot parent s false e) ∙ given_on goes_on told (λ _. rule_g told parent) f

-- Where the slot has no final block there is nothing to walk from.
pub G-none : (o : State) (s : ℕ) → 1 ≤ s → (row_at o.ledger s).final ≡ 0 → rule_g o s ≡ o
G-none o s a e =
    G-halts o s a no_block (sym (ap (λ (f : ℕ). find_block f (blocks_at o.ledger s)) e ∙ zero_none (blocks_at o.ledger s))) refl

-- ---- where the walk begins

module _ (l : Ledger) (s : ℕ) (k : Block) (is : k ≡ find_block (row_at l s).final (blocks_at l s)) where
  walks_by : ((not (none k.parentslot.0) && ltb k.parentslot.0 s) && not (eqb (row_at l k.parentslot.0).final k.parent)) ≡ walk_begins l s
  unfolding walk_begins
  walks_by = λ i. (not (none (is i).parentslot.0) && ltb (is i).parentslot.0 s) && not (eqb (row_at l (is i).parentslot.0).final (is i).parent)

  pub begins_nowhere : (eqb k.parentslot.0 0 || leb s k.parentslot.0) ≡ true → false ≡ walk_begins l s
  begins_nowhere e = ap (λ (x : Bool). x && not (eqb (row_at l k.parentslot.0).final k.parent)) (sym (lower_slot k.parentslot.0 s true e)) ∙ walks_by

  pub begins_below : (f : ℕ) → f ≡ (row_at l k.parentslot.0).final → (eqb k.parentslot.0 0 || leb s k.parentslot.0) ≡ false → not (eqb f k.parent) ≡ walk_begins l s
  begins_below f q e =
      ap (λ (x : ℕ). not (eqb x k.parent)) q
      ∙ ap (λ (x : Bool). x && not (eqb (row_at l k.parentslot.0).final k.parent)) (sym (lower_slot k.parentslot.0 s false e))
      ∙ walks_by

-- A walk that has nothing to tell at its first step goes on from a slot below; where the walk from there has nothing to tell, it has none.
pub walk_off : (o : State) (s : ℕ) → Sound o.ledger → 1 ≤ s → s ≤ last_slot → ((q : ℕ) → 1 ≤ q → q < s → rule_g o q ≡ o) → walk_begins o.ledger s ≡ false → rule_g o s ≡ o
walk_off o s h low high below e =
    let l = o.ledger in
    let k = find_block (row_at l s).final (blocks_at l s) in
    let p = k.parentslot.0 in
    let x = k.parent in
    let f = (row_at l p).final in
    by_test (eqb p 0 || leb s p) (G-halts o s low k refl)
    (λ t.
    let w = walk_to_lem o s low k refl h high t in
    let same : eqb f x ≡ true = not-false (eqb f x) (begins_below l s k refl f refl t ∙ e) in
    let told : tell_final o p x ≡ o = final_same o p x (ap none (eqb-true f x same) ∙ w.number) same in
    G-on o s low k refl t (ap (λ (q : State). eqb (row_at q.ledger p).final x) told ∙ same)
    ∙ ap (λ (q : State). rule_g q p) told
    ∙ below p w.low w.lower)
