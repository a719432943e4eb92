-- What qr_may_announce answers is the verdict on the block, and the policy; what is asked for passes the one and meets the other.
use Rattle.std.specs.Prelude.{⊤, Result, Ok, Err}
use mathlib.Core.Path.{◌≡◌, refl, sym, ap, ◌∙◌, subst}
use mathlib.Core.Bool.{Bool, true, false, not, ◌&&◌, ◌||◌}
use mathlib.Core.List.{List, [], ◌∷◌}
use mathlib.Core.Logic.{inl, inr}
use Prim.Native.Nat.{ℕ, ◌≤◌}
use native.Mathlib.Omega.{arith}
use lib.Dec.{T, eqb, leb, eqb→eq, eqb_refl, leb→le, le→leb, not_T, T_not}
use lib.ListN.{length}
use Rattle.rulebook.specs.declared.Block.{Block}
use Rattle.rulebook.specs.declared.Input.{Input}
use Rattle.rulebook.specs.declared.Refusal.{Refusal}
use Rattle.rulebook.specs.declared.Refusal.TheVariants as refusal
use Rattle.rulebook.specs.Tools.{part}
use Rattle.rulebook.specs.PaperNumbers.{refusal_number, step_panel}
use Rattle.rulebook.specs.Weights.{last_slot, slot_ok}
use Rattle.rulebook.specs.Ledger.{Ledger, none, cell_at, blocks_at, some_block, all_blocks, is_free, has_number, keeps_block}
use Rattle.rulebook.specs.Rules.{fallback_weights}
use Rattle.rulebook.specs.Inputs.{refuse_if, bad_parent, same_block, stands_against, block_verdict, verdict, Fed, fed_with, fed_on, feed}
use Rattle.rulebook.specs.WellFormed.{well_formed, outbox_words}
use Rattle.rulebook.specs.WellFormed as node
use Rattle.rule_laws.proofs.ToolLaws.{given_on}
use Rattle.rule_laws.proofs.ToolLaws as tools
use Rattle.record.specs.Layout.{ledger_of}
use Rattle.soundness.specs.Sound.{sound_words}
use Rattle.soundness.proofs.Laws.{words_spelled, sound_formed}
use Rattle.node.specs.Stepping.{Leaves, step_leaves}
use Rattle.inputs.specs.Inputs.{block_input}
use Rattle.announcing.specs.Asked.{block_of, judged, announced_on, announce_panel}
use Rattle.announcing.proofs.Laws.{asked_unsound, asked_sound}
use Rattle.answers.specs.Face.{AnnounceRead}
use Rattle.safety.specs.Slot.{notar}
use Rattle.safety.specs.Ring as safety
use Rattle.safety.proofs.Tests.{T_true, and_t, T_and, T-right, by_test, yes, neither}
use Rattle.safety.proofs.Cells.{notar_is}
use Rattle.safety.proofs.Safety.{own_stored}
use Rattle.mail.specs.Policy.{may_announce, ParentFits}
use Rattle.mail.specs.Host as host
use Rattle.mail.proofs.Host.{asked_fits}
use Rattle.mail.proofs.Policy.{number_kept}
use Rattle.seen.specs.Seen.{ledger_in, NodeSeen}
use Rattle.seen.proofs.Numbers.{eight_stands_lem}
use Rattle.seen.proofs.Ring.{book_ring}
use Rattle.seen.proofs.Chain.{parents}
use Rattle.seen.proofs.Fed.{asked_ledgers, asked_blocks_weigh, policy_has_room}
use Rattle.spreading.specs.Announcing.{AskedIsAllowed, AskedIsTaken, AskedNeverEight, NeededIsAnnounced}
use Rattle.spreading.proofs.Answers.{repeated, block_not_eight}

-- ---- what is answered

-- The answer is the verdict's, on words that are sound.
answers : (ws : List ℕ) (s : ℕ) (k : Block) (number may : ℕ) → AnnounceRead (announced_on ws s k) number may → sound_words ws ≡ true → (v : Result ⊤ Refusal) → block_verdict (ledger_of ws) s k ≡ v
    → (number ≡ (announce_panel (judged (ledger_of ws) s k v)).number) × (may ∷ [] ≡ (announce_panel (judged (ledger_of ws) s k v)).values)
answers ws s k number may h t v e =
    let p : announced_on ws s k ≡ judged (ledger_of ws) s k v = sym (asked_sound ws s k t) ∙ ap (judged (ledger_of ws) s k) e in
    (h.numbered ∙ ap (λ (a : Result Bool Refusal). (announce_panel a).number) p, h.valued ∙ ap (λ (a : Result Bool Refusal). (announce_panel a).values) p)

-- What 1 says.
pub record Says (ws : List ℕ) (s : ℕ) (k : Block) : Type 0 where
  pub sound : sound_words ws ≡ true
  pub fine : block_verdict (ledger_of ws) s k ≡ Ok tt
  pub due : T (may_announce (ledger_of ws) s k.number)

zero_one : {X : Type 0} {may : ℕ} → may ≡ 1 → may ∷ [] ≡ 0 ∷ [] → X
zero_one e f = absurd cc

is_due : (a : Bool) {may : ℕ} → may ≡ 1 → may ∷ [] ≡ part a 1 ∷ [] → T a
unfolding part
is_due true e f = tt
is_due false e f = zero_one e f

one_says : (ws : List ℕ) (s : ℕ) (k : Block) (number may : ℕ) → AnnounceRead (announced_on ws s k) number may → may ≡ 1 → Says ws s k
unfolding announce_panel judged
one_says ws s k number may h e =
    tools.by_test (sound_words ws) (λ t. go t (block_verdict (ledger_of ws) s k) refl)
    (λ t. zero_one e (h.valued ∙ ap (λ (a : Result Bool Refusal). (announce_panel a).values) (sym (asked_unsound ws s k t))))
  where
    go : sound_words ws ≡ true → (v : Result ⊤ Refusal) → block_verdict (ledger_of ws) s k ≡ v → Says ws s k
    go t (Ok tt) f = record { sound = t; fine = f; due = is_due (may_announce (ledger_of ws) s k.number) e (answers ws s k number may h t (Ok tt) f).1 }
    go t (Err r) f = zero_one e (answers ws s k number may h t (Err r) f).1

pub asked_is_allowed : AskedIsAllowed
asked_is_allowed v s b p x number may h e = (one_says v.words s (block_of b p x) number may h e).due

-- A step that nothing refuses is answered 0.
fed_zero_lem : (v : Result ⊤ Refusal) (l : Ledger) (i : Input) → v ≡ Ok tt → (step_panel (fed_on v l i).answer).number ≡ 0
unfolding fed_on fed_with step_panel
fed_zero_lem (Ok tt) l i e = refl
fed_zero_lem (Err r) l i e = absurd cc

pub asked_is_taken : AskedIsTaken
unfolding step_leaves node.step feed verdict
asked_is_taken v s b p x number may h e lent answer made words left room t =
    let says = one_says v.words s (block_of b p x) number may h e in
    let l = ledger_in v in
    t.numbered
    ∙ ap (λ (z : Leaves). (step_panel z.answer).number) (given_on _ _ _ (words_spelled v.words says.sound))
    ∙ ap (λ (z : Fed). (step_panel z.answer).number) (given_on (well_formed l) _ _ (sound_formed v.words says.sound) ∙ given_on (leb outbox_words (length lent)) _ _ (T_true _ (le→leb outbox_words (length lent) room)))
    ∙ fed_zero_lem (verdict l (block_input s b p x)) l (block_input s b p x) says.fine

-- ---- by the policy

pub asked_never_eight : AskedNeverEight
unfolding announce_panel judged
asked_never_eight stakes own genesis v x policy s b p y may alone number value h e = go (block_verdict (ledger_in v) s k) refl
  where
    k : Block
    k = block_of b p y

    go : (w : Result ⊤ Refusal) → block_verdict (ledger_in v) s k ≡ w → ⊥
    go (Ok tt) f = omega (arith, e, (answers v.words s k number value h x.lived.sound (Ok tt) f).0)
    go (Err r) f =
        let g = eight_stands_lem r (sym (answers v.words s k number value h x.lived.sound (Err r) f).0 ∙ e) in
        block_not_eight stakes own genesis v x policy s k may alone (f ∙ ap Err g)

-- ---- what progress asks for

-- A test that does not refuse is passed; one that does, refuses.
pass : (b : Bool) (r : Refusal) (v w : Result ⊤ Refusal) → T (not b) → v ≡ w → refuse_if b r v ≡ w
unfolding refuse_if
pass false r v w t e = e
pass true r v w t e = absurd t

stop : (b : Bool) (r : Refusal) (v : Result ⊤ Refusal) → T b → refuse_if b r v ≡ Err r
unfolding refuse_if
stop true r v t = refl
stop false r v t = absurd t

module _ (l : Ledger) (s : ℕ) (k : Block) (lo : 1 ≤ s) (hi : s ≤ last_slot) (some : T (not (none k.number))) (fit : ParentFits l.genesis s k.parentslot.0 k.parent) where
  -- The tests of a block whose parent fits, up to the places.
  fits_so_far : (v w : Result ⊤ Refusal) → v ≡ w
      → refuse_if (not (slot_ok s)) refusal.BadSlot (refuse_if (none k.number || none k.parent) refusal.BadBlock (refuse_if (bad_parent l s k) refusal.BadParent v)) ≡ w
  unfolding slot_ok bad_parent
  fits_so_far v w e =
      pass (not (leb 1 s && leb s last_slot)) _ _ _ (yes (leb 1 s && leb s last_slot) (T_and (leb 1 s) (leb s last_slot) (le→leb 1 s lo) (le→leb s last_slot hi)))
      (pass (none k.number || none k.parent) _ _ _ (neither (none k.number) (none k.parent) some fit.number)
      (pass (leb s k.parentslot.0 || (none k.parentslot.0 && not (eqb k.parent l.genesis))) _ _ _
      (neither (leb s k.parentslot.0) (none k.parentslot.0 && not (eqb k.parent l.genesis))
      (not_T (leb s k.parentslot.0) (λ u. omega (arith, leb→le s k.parentslot.0 u, fit.lower)))
      (not_T (none k.parentslot.0 && not (eqb k.parent l.genesis)) (λ u.
      let a = and_t (none k.parentslot.0) (not (eqb k.parent l.genesis)) u in
      T_not (eqb k.parent l.genesis) a.1 (subst (λ (z : ℕ). T (eqb k.parent z)) (fit.first (eqb→eq k.parentslot.0 0 a.0)) (eqb_refl k.parent))))) e))

  again : T (some_block (λ j. same_block j k) (blocks_at l s)) → block_verdict l s k ≡ Err refusal.AlreadyKept
  unfolding block_verdict
  again t = fits_so_far _ _ (stop (some_block (λ j. same_block j k) (blocks_at l s)) refusal.AlreadyKept _ t)

  taken : T (not (some_block (λ j. same_block j k) (blocks_at l s))) → T (not (some_block (has_number k.number) (blocks_at l s))) → T (some_block is_free (blocks_at l s))
      → block_verdict l s k ≡ Ok tt
  unfolding block_verdict stands_against
  taken other new free =
      fits_so_far _ _
      (pass (some_block (λ j. same_block j k) (blocks_at l s)) _ _ _ other
      (pass (some_block (has_number k.number) (blocks_at l s) || not (some_block is_free (blocks_at l s))) _ _ _
      (neither (some_block (has_number k.number) (blocks_at l s)) (not (some_block is_free (blocks_at l s))) new (yes (some_block is_free (blocks_at l s)) free)) refl))

one_of : {may : ℕ} (a : Bool) → T a → may ∷ [] ≡ part a 1 ∷ [] → may ≡ 1
unfolding part
one_of true t e = cc
one_of false t e = absurd t

pub needed_is_announced : NeededIsAnnounced
unfolding announce_panel judged refusal_number may_announce
needed_is_announced stakes genesis honest lives ring once n m s b p x h hi a policy counted number may asks =
    by_test (some_block (λ j. same_block j k) (blocks_at l s))
    (λ t. inr (answers (lives m).words s k number may asks sound _ (again l s k fit.0 hi some fit.1 t)).0)
    (λ t. let new = apart t in
    inl (one_of (may_announce l s b) may_now
    (answers (lives m).words s k number may asks sound (Ok tt)
    (taken l s k fit.0 hi some fit.1 t new (policy_has_room stakes m (genesis m) (lives m) life policy s b fit.0 hi some may_now new))).1))
  where
    l : Ledger
    l = ledger_in (lives m)

    k : Block
    k = block_of b p x

    life : NodeSeen stakes m (genesis m) (lives m)
    life = ring.nodes.lived m h

    sound : sound_words (lives m).words ≡ true
    sound = life.lived.sound

    book : host.Asked stakes genesis honest (λ i. (lives i).came) n s b p x
    book = asked_ledgers stakes genesis honest lives ring n s b p x a

    whole : safety.Ring stakes genesis honest (λ i. (lives i).came)
    whole = book_ring stakes genesis honest lives ring

    fit : (1 ≤ s) × ParentFits l.genesis s p x
    fit = asked_fits stakes genesis honest (λ i. (lives i).came) whole n s b p x l.genesis (parents stakes genesis honest lives ring.nodes.lived once) book

    some : T (not (none b))
    some = (notar_is (cell_at (safety.life stakes genesis honest (λ i. (lives i).came) n) s n) b (own_stored stakes genesis honest (λ i. (lives i).came) whole n s (notar b) a.voter book.voted)).0

    may_now : T (may_announce l s b)
    may_now =
        T-right (all_blocks is_free (blocks_at l s)) (some_block (has_number b) (blocks_at l s) || fallback_weights l s b)
        (T-right (some_block (has_number b) (blocks_at l s)) (fallback_weights l s b) (asked_blocks_weigh stakes genesis honest lives ring n m s b p x h a counted))

    apart : T (not (some_block (λ j. same_block j k) (blocks_at l s))) → T (not (some_block (has_number b) (blocks_at l s)))
    apart t =
        not_T (some_block (has_number b) (blocks_at l s)) (λ u.
        let y = number_kept l s b some u in
        let z = once n m s b p x y.0 y.1 a.voter h a.kept y.2 in
        T_not (some_block (λ j. same_block j k) (blocks_at l s)) t
        (repeated l s k (subst (λ (i : ℕ). T (keeps_block l s b i x)) (sym z.0) (subst (λ (i : ℕ). T (keeps_block l s b y.0 i)) (sym z.1) y.2))))
