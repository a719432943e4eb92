-- 8 is answered where another vote, or another block, stands in a place; what is honest has its place free, or stands there itself.
use Rattle.std.specs.Prelude.{⊤, Result, Ok, Err}
use mathlib.Core.Path.{◌≡◌, refl, sym, ap, ◌∙◌, subst}
use mathlib.Core.Bool.{Bool, true, false, not, ◌&&◌, ◌||◌}
use mathlib.Core.List.{List, [], ◌∷◌}
use Prim.Native.Nat.{ℕ}
use native.Mathlib.Omega.{arith}
use lib.Dec.{T, eqb, leb, eqb→eq, leb→le, not_T, T_not}
use lib.ListN.{length}
use Rattle.rulebook.specs.declared.Block.{Block}
use Rattle.rulebook.specs.declared.Cell.{Cell}
use Rattle.rulebook.specs.declared.Input.{Input}
use Rattle.rulebook.specs.declared.Input.TheVariants as input
use Rattle.rulebook.specs.declared.Refusal.{Refusal}
use Rattle.rulebook.specs.declared.Refusal.TheVariants as refusal
use Rattle.rulebook.specs.declared.Vote.{Vote}
use Rattle.rulebook.specs.Tools.{whenever}
use Rattle.rulebook.specs.PaperNumbers.{refusal_number, vote_number}
use Rattle.rulebook.specs.Weights.{last_slot, slot_ok}
use Rattle.rulebook.specs.Ledger.{Ledger, none, fresh, no_initial, cell_at, blocks_at, some_block, is_free, has_number, is_block, keeps_block}
use Rattle.rulebook.specs.Pool.{has_fallback}
use Rattle.rulebook.specs.Votes.{place_if, place_of}
use Rattle.rulebook.specs.Inputs.{refuse_if, misfits, place_verdict, vote_verdict, bad_parent, same_block, stands_against, block_verdict, verdict, fed_with, refused_with, fed_on, feed}
use Rattle.rulebook.specs.Taking.{Arrival, of_input}
use Rattle.rulebook.specs.WellFormed.{well_formed, outbox_words, take_certificate}
use Rattle.rulebook.specs.WellFormed as node
use Rattle.rule_laws.proofs.ToolLaws.{given_on}
use Rattle.soundness.specs.Sound.{sound_words}
use Rattle.soundness.proofs.Laws.{words_spelled}
use Rattle.node.specs.Stepping.{Leaves, step_leaves}
use Rattle.taking.specs.Taking.{take_leaves}
use Rattle.answers.specs.Face.{Stepped}
use Rattle.safety.specs.Slot.{Test, Ballot, notar, notar_fallback, skip, skip_fallback, final}
use Rattle.safety.specs.Ballots.{kind_of, block_of, has, brings}
use Rattle.safety.specs.Ring.{after_all, cast_by, life}
use Rattle.safety.specs.Watchers.{HoldsGenuine}
use Rattle.safety.proofs.Tests.{true_t, and_t, or_t, T-left, T-right, or_neither, by_test, not_not}
use Rattle.safety.proofs.Lives.{Sized, life_ready, fresh_ready, start_sized, watch_sized}
use Rattle.safety.proofs.Safety.{end_ready, own_stored}
use Rattle.safety.proofs.Honest.{node_holds}
use Rattle.safety.proofs.Room.{holder_never_eight}
use Rattle.mail.specs.Policy.{may_announce, by_policy}
use Rattle.mail.proofs.Votes.{kind_is_lem, room_of, free_room, fits}
use Rattle.mail.proofs.Policy.{number_kept}
use Rattle.seen.specs.Seen.{Seen, ledger_in, LifeSeen, NodeSeen}
use Rattle.seen.specs.Ring.{Lives, told_ballot, Ring}
use Rattle.seen.proofs.More.{holds_more}
use Rattle.seen.proofs.Numbers.{eight_refused}
use Rattle.seen.proofs.Ring.{told_cast, genuine, book_ring}
use Rattle.seen.proofs.Fed.{policy_has_room}
use Rattle.spreading.specs.Answers.{VoteNeverEight, WatchedVoteNeverEight, WatchedNeverEight, BlockNeverEight}

-- ---- what 8 says

-- A test that is refused with another number was passed.
peel : (b : Bool) (r : Refusal) (v : Result ⊤ Refusal) → ¬ (refusal_number r ≡ 8) → refuse_if b r v ≡ Err refusal.OtherStands → (b ≡ false) × (v ≡ Err refusal.OtherStands)
unfolding refuse_if refusal_number
peel true r v n e = let p : r ≡ refusal.OtherStands = cc in absurd (n (ap refusal_number p))
peel false r v n e = (refl, e)

past_both : (a b : Bool) (l : Ledger) (i : Input) → (whenever a (λ _. whenever b (λ _. feed l i) (refused_with l refusal.NoRoom)) (refused_with l refusal.BadRecord)).answer ≡ Err refusal.OtherStands
    → (feed l i).answer ≡ Err refusal.OtherStands
unfolding whenever refused_with
past_both false b l i e = absurd cc
past_both true false l i e = absurd cc
past_both true true l i e = e

fed_eight : (v : Result ⊤ Refusal) (l : Ledger) (i : Input) → (fed_on v l i).answer ≡ Err refusal.OtherStands → v ≡ Err refusal.OtherStands
unfolding fed_on fed_with refused_with
fed_eight (Ok tt) l i e = absurd cc
fed_eight (Err r) l i e = let p : r ≡ refusal.OtherStands = cc in ap Err p

-- 8 at the face is the rule book's verdict on the ledger that the words mean.
eight_says : (v : Seen) → sound_words v.words ≡ true → (i : Input) (lent : List ℕ) (number made : ℕ) (words left : List ℕ) → Stepped v.words lent i number made words left → number ≡ 8
    → verdict (ledger_in v) i ≡ Err refusal.OtherStands
unfolding step_leaves node.step feed
eight_says v sound i lent number made words left t x =
    let l = ledger_in v in
    fed_eight (verdict l i) l i (past_both (well_formed l) (leb outbox_words (length lent)) l i
    (sym (ap (λ (z : Leaves). z.answer) (given_on _ _ _ (words_spelled v.words sound))) ∙ eight_refused (step_leaves v.words lent i).answer (sym t.numbered ∙ x)))

-- ---- votes

same : (a b : Bool) → T a → ¬ (place_verdict (place_if a b) ≡ Err refusal.OtherStands)
unfolding place_if place_verdict
same true b t e = cc
same false b t e = t

fine_not_eight : (v : Result ⊤ Refusal) → v ≡ Ok tt → ¬ (v ≡ Err refusal.OtherStands)
fine_not_eight v p e = let q : Ok tt ≡ Err refusal.OtherStands = sym p ∙ e in cc

-- A vote that stands in its place is answered 7 there.
stands_seven : (c : Cell) (v : Ballot) → T (has c v) → ¬ (place_verdict (place_of c (kind_of v) (block_of v)) ≡ Err refusal.OtherStands)
unfolding place_of
stands_seven c (notar b) t = same (eqb c.notar b) (no_initial c) (and_t (not (none b)) (eqb c.notar b) t).1
stands_seven c (notar_fallback b) t = same (has_fallback b c) (none c.fallback3) (and_t (not (none b)) (has_fallback b c) t).1
stands_seven c skip t = same (not (none c.skip)) (no_initial c) t
stands_seven c skip_fallback t = same (not (none c.skipfallback)) true t
stands_seven c final t = same (not (none c.finalvote)) true t

-- The last of a vote's tests is that of its place.
vote_eight : (l : Ledger) (w : Vote) → vote_verdict l w ≡ Err refusal.OtherStands
    → T (not (misfits w.kind w.block)) × (place_verdict (place_of (cell_at l w.slot.0 w.node.0) w.kind w.block) ≡ Err refusal.OtherStands)
unfolding vote_verdict refusal_number
vote_eight l w e =
    let a = peel _ refusal.BadKind _ (λ z. omega (arith, z)) e in
    let b = peel _ refusal.BadSlot _ (λ z. omega (arith, z)) a.1 in
    let c = peel _ refusal.BadNode _ (λ z. omega (arith, z)) b.1 in
    let d = peel _ refusal.OwnName _ (λ z. omega (arith, z)) c.1 in
    let f = peel (misfits w.kind w.block) refusal.BadBlock _ (λ z. omega (arith, z)) d.1 in
    (true_t _ (ap not f.0), f.1)

module _ (stakes : List ℕ) (genesis : ℕ → ℕ) (honest : Test) (lives : Lives) (ring : Ring stakes genesis honest lives) where
  abbrev fed : ℕ → List Arrival
  fed n = (lives n).came

  abbrev cast : ℕ → ℕ → Ballot → Bool
  cast = cast_by stakes genesis honest fed

  -- A node's life, or a watcher's, that holds what is genuine.
  not_eight : (me g : ℕ) → Sized stakes me → (v : Seen) → LifeSeen (fresh stakes me g) v → HoldsGenuine honest cast (after_all (fresh stakes me g) v.came)
      → (m s : ℕ) (b : Ballot) → T (honest m) → T (told_ballot lives m s b) → (w : Vote) → T (brings (of_input (input.Vote w)) s m b)
      → ¬ (verdict (ledger_in v) (input.Vote w) ≡ Err refusal.OtherStands)
  unfolding verdict
  not_eight me g size v lived holds m s b h t w i e =
      let r = book_ring stakes genesis honest lives ring in
      let l = after_all (fresh stakes me g) v.came in
      let k = and_t (eqb w.node.0 m) (eqb (vote_number w.kind) (vote_number (kind_of b)) && (eqb w.slot.0 s && eqb w.block (block_of b))) i in
      let x = and_t (eqb (vote_number w.kind) (vote_number (kind_of b))) (eqb w.slot.0 s && eqb w.block (block_of b)) k.1 in
      let y = and_t (eqb w.slot.0 s) (eqb w.block (block_of b)) x.1 in
      let en = eqb→eq w.node.0 m k.0 in
      let ek = kind_is_lem w.kind b x.0 in
      let es = eqb→eq w.slot.0 s y.0 in
      let eb = eqb→eq w.block (block_of b) y.1 in
      let c = cell_at l s m in
      let o = cell_at (life stakes genesis honest fed m) s m in
      let own = own_stored stakes genesis honest fed r m s b h (told_cast stakes genesis honest lives ring.nodes.lived m s b h t) in
      let place : place_verdict (place_of c (kind_of b) (block_of b)) ≡ Err refusal.OtherStands =
      rw (en, ek, es, eb) at (vote_eight l w (subst (λ (z : Ledger). vote_verdict z w ≡ Err refusal.OtherStands) lived.ledger e)).1 in
      by_test (has c b) (λ z. stands_seven c b z place)
      (λ z. fine_not_eight _ (free_room c b (fits o b own)
      (room_of c o ((life_ready me (fresh stakes me g) v.came (fresh_ready stakes me g size)).inv.neat s m) ((end_ready stakes genesis honest fed r m h).inv.neat s m)
      (λ a u. own_stored stakes genesis honest fed r m s a h (holds.pool m s a h u)) b own (T_not (has c b) z)) (T_not (has c b) z)) place)

pub vote_never_eight : VoteNeverEight
vote_never_eight stakes genesis honest lives ring n v x m s b h t w i lent number made words left p q =
    let r = book_ring stakes genesis honest lives ring in
    not_eight stakes genesis honest lives ring n (genesis n) (start_sized stakes n (genesis n) x.lived.started) v x.lived.lived
    (node_holds stakes genesis honest (λ n. (lives n).came) r n x.is_honest v.came x.earlier.since x.earlier.goes_on) m s b h t w i
    (eight_says v x.lived.lived.sound (input.Vote w) lent number made words left p q)

pub watched_vote_never_eight : WatchedVoteNeverEight
watched_vote_never_eight stakes genesis honest lives ring g v x holds m s b h t w i lent number made words left p q =
    let fed : ℕ → List Arrival = λ n. (lives n).came in
    not_eight stakes genesis honest lives ring (length stakes) g (watch_sized stakes g x.started) v x.lived
    (holds_more honest (told_ballot lives) (cast_by stakes genesis honest fed) (told_cast stakes genesis honest lives ring.nodes.lived) _
    (subst (HoldsGenuine honest (told_ballot lives)) x.lived.ledger holds)) m s b h t w i
    (eight_says v x.lived.sound (input.Vote w) lent number made words left p q)

-- ---- certificates

pub watched_never_eight : WatchedNeverEight
unfolding take_leaves
watched_never_eight stakes genesis honest lives ring g v x holds lent packet number made words left gen t q =
    let fed : ℕ → List Arrival = λ n. (lives n).came in
    let all = ring.nodes.lived in
    holder_never_eight stakes genesis honest fed (book_ring stakes genesis honest lives ring) (length stakes) g (watch_sized stakes g x.started) v.came
    (holds_more honest (told_ballot lives) (cast_by stakes genesis honest fed) (told_cast stakes genesis honest lives all) _ (subst (HoldsGenuine honest (told_ballot lives)) x.lived.ledger holds))
    (length lent) packet (genuine stakes genesis honest lives all packet gen)
    (ap (λ (l : Ledger). (take_certificate l (length lent) packet).answer) (sym x.lived.ledger)
    ∙ sym (ap (λ (z : Leaves). z.answer) (given_on _ _ _ (words_spelled v.words x.lived.sound)))
    ∙ eight_refused (take_leaves v.words lent packet).answer (sym t.numbered ∙ q))

-- ---- blocks

some_more : (p q : Block → Bool) (ks : List Block) → ((k : Block) → T (p k) → T (q k)) → T (some_block p ks) → T (some_block q ks)
unfolding some_block
some_more p q [] f t = t
some_more p q (k ∷ ks) f t = or_t (p k) (some_block p ks) t (λ u. T-left (q k) (some_block q ks) (f k u)) (λ u. T-right (q k) (some_block q ks) (some_more p q ks f u))

-- A block that is kept with its parent is a repeat.
pub repeated : (l : Ledger) (s : ℕ) (b : Block) → T (keeps_block l s b.number b.parentslot.0 b.parent) → T (some_block (λ k. same_block k b) (blocks_at l s))
unfolding keeps_block is_block same_block
repeated l s b t =
    some_more (is_block b.number b.parentslot.0 b.parent) (λ k. same_block k b) (blocks_at l s)
    (λ k u. (and_t (not (is_free k)) (eqb k.number b.number && (eqb k.parentslot.0 b.parentslot.0 && eqb k.parent b.parent)) u).1) t

last : (b : Bool) → refuse_if b refusal.OtherStands (Ok tt) ≡ Err refusal.OtherStands → T b
unfolding refuse_if
last true e = tt
last false e = absurd cc

-- Where all blocks came by the policy, one that it lets be announced, and whose number is not kept with another parent, is not refused with 8.
pub block_not_eight : (stakes : List ℕ) (own genesis : ℕ) (v : Seen) → NodeSeen stakes own genesis v → T (by_policy (fresh stakes own genesis) v.came)
    → (s : ℕ) (k : Block) → T (may_announce (ledger_in v) s k.number)
    → ((q y : ℕ) → T (keeps_block (ledger_in v) s k.number q y) → (k.parentslot.0 ≡ q) × (k.parent ≡ y))
    → ¬ (block_verdict (ledger_in v) s k ≡ Err refusal.OtherStands)
unfolding block_verdict stands_against refusal_number slot_ok
block_not_eight stakes own genesis v x policy s k may alone e =
    let l = ledger_in v in
    let b = k.number in
    let a = peel (not (slot_ok s)) refusal.BadSlot _ (λ z. omega (arith, z)) e in
    let c = peel (none b || none k.parent) refusal.BadBlock _ (λ z. omega (arith, z)) a.1 in
    let d = peel (bad_parent l s k) refusal.BadParent _ (λ z. omega (arith, z)) c.1 in
    let f = peel (some_block (λ j. same_block j k) (blocks_at l s)) refusal.AlreadyKept _ (λ z. omega (arith, z)) d.1 in
    let range = and_t (leb 1 s) (leb s last_slot) (not_not (slot_ok s) (true_t _ (ap not a.0))) in
    let some : T (not (none b)) = (or_neither (none b) (none k.parent) (true_t _ (ap not c.0))).0 in
    let apart : ¬ T (some_block (has_number b) (blocks_at l s)) = (λ u.
    let y = number_kept l s b some u in
    let z = alone y.0 y.1 y.2 in
    T_not (some_block (λ j. same_block j k) (blocks_at l s)) (true_t _ (ap not f.0))
    (repeated l s k (subst (λ (i : ℕ). T (keeps_block l s b i k.parent)) (sym z.0) (subst (λ (i : ℕ). T (keeps_block l s b y.0 i)) (sym z.1) y.2)))) in
    or_t (some_block (has_number b) (blocks_at l s)) (not (some_block is_free (blocks_at l s))) (last (stands_against k (blocks_at l s)) f.1) apart
    (λ u. T_not (some_block is_free (blocks_at l s)) u
    (policy_has_room stakes own genesis v x policy s b (leb→le 1 s range.0) (leb→le s last_slot range.1) some may (not_T (some_block (has_number b) (blocks_at l s)) apart)))

pub block_never_eight : BlockNeverEight
unfolding verdict
block_never_eight stakes own genesis v x policy t k may alone lent number made words left p q =
    block_not_eight stakes own genesis v x policy t.0 k may alone (eight_says v x.lived.sound (input.Block t k) lent number made words left p q)
