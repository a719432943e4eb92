-- The words mean ledgers, of which the inquest speaks; what is seen of a life is the rule book's life.
use Rattle.std.specs.Prelude.{Ok, Err}
use mathlib.Core.Path.{◌≡◌, refl, sym, ap, ◌∙◌, subst}
use mathlib.Core.Bool.{true}
use mathlib.Core.List.{List, [], ◌∷◌}
use Prim.Native.Nat.{ℕ}
use native.Mathlib.Omega.{arith}
use lib.Dec.{T, leb}
use lib.ListN.{length, get_or}
use borrow.Author.Tests.{le-leb}
use Rattle.rulebook.specs.declared.Slot.{Slot}
use Rattle.rulebook.specs.declared.Refusal.TheVariants as refusal
use Rattle.rulebook.specs.Ledger.{Ledger}
use Rattle.rulebook.specs.Taking.{Arrival}
use Rattle.rulebook.specs.Writers.{over}
use Rattle.rule_laws.proofs.ToolLaws.{given_on}
use Rattle.record.specs.Layout.{ledger_of}
use Rattle.record.proofs.Reading.{ledger_shaped}
use Rattle.soundness.specs.Sound.{sound_words}
use Rattle.safety.specs.Slot.{Test}
use Rattle.safety.specs.Ring.{cast_by}
use Rattle.safety.specs.Watchers.{HoldsGenuine}
use Rattle.safety.proofs.Tests.{true_t}
use Rattle.inquest.specs.declared.Line.{Line}
use Rattle.inquest.specs.Stands.{stands}
use Rattle.inquest.specs.Lists.{is_empty, fallen}
use Rattle.inquest.specs.Inquest as book
use Rattle.inquest.proofs.Inquest.{named_hold_a_fifth as hold-a-fifth, named_of_proofs_hold_a_fifth as of-proofs, inquest_chain_names_a_fifth}
use Rattle.inquest.proofs.Honest.{own_votes_stand as votes_stand, watchers_stand, honest_are_blameless}
use Rattle.inquest.proofs.Lists.{nothing_fallen}
use Rattle.inquest_lines.specs.Lent.{spell_lines, Told, refused_by, listed_in, list_panel}
use Rattle.inquest_lines.specs.declared.ListRefusal.TheVariants as why
use Rattle.standing.specs.Asked.{stands_on}
use Rattle.seen.specs.Seen.{Seen, ledger_in, Alive, node, watcher}
use Rattle.seen.specs.Ring.{Lives, told_ballot}
use Rattle.seen.proofs.Numbers.{zero_accepted}
use Rattle.seen.proofs.More.{holds_more}
use Rattle.seen.proofs.Alive.{alive_sound}
use Rattle.seen.proofs.Ring.{told_cast, genuine}
use Rattle.inquest_seen.specs.Named.{Records, ledgers, handed_in, NamedHoldAFifth, NamedOfProofsHoldAFifth, OffTheChainAFifth, OwnVotesStand, Evidence, HonestNeverNamed}

same_slot : (x y : Slot) (s : ℕ) → x.0 ≡ s → y.0 ≡ s → x ≡ y
same_slot x y s p q = ap (λ (k : ℕ). record { 0 = k }) (p ∙ sym q)

-- ---- who is named

pub named_hold_a_fifth : NamedHoldAFifth
named_hold_a_fifth stakes records proof packet kind slot block signers stake missing kind' block' signers' stake' missing' x y apart =
    let p = zero_accepted x in
    let q = zero_accepted y in
    hold-a-fifth stakes (ledgers records) (handed_in records) (λ n h. ledger_shaped (records n)) proof packet p.what q.what p.accepted q.accepted
    (same_slot q.what.slot p.what.slot slot q.slot_is p.slot_is) (λ g. apart (rw (q.kind_is, q.block_is, p.block_is) at g))

pub named_of_proofs_hold_a_fifth : NamedOfProofsHoldAFifth
named_of_proofs_hold_a_fifth stakes records proof rival kind slot block signers stake missing kind' block' signers' stake' missing' x y apart =
    let p = zero_accepted x in
    let q = zero_accepted y in
    of-proofs stakes (ledgers records) (handed_in records) (λ n h. ledger_shaped (records n)) proof rival p.what q.what p.accepted q.accepted
    (same_slot q.what.slot p.what.slot slot q.slot_is p.slot_is) (λ e. apart (sym q.block_is ∙ e ∙ p.block_is))

pub off_the_chain_a_fifth : OffTheChainAFifth
off_the_chain_a_fifth stakes records cleared clear selves parents proof rival kind slot block signers stake missing kind' slot' block' signers' stake' missing' v w x y apart =
    let p = zero_accepted x in
    let q = zero_accepted y in
    inquest_chain_names_a_fifth stakes (ledgers records) cleared clear selves parents proof rival p.what q.what v w p.accepted q.accepted
    (λ g. apart (rw (p.slot_is, p.block_is, q.slot_is, q.block_is) at g))

-- ---- own votes

stand_in : (stakes : List ℕ) (genesis : ℕ) (v : Seen) → Alive stakes genesis v → T (stands (ledger_in v))
stand_in stakes genesis v (node own h) = subst (λ (l : Ledger). T (stands l)) (sym h.lived.ledger) (votes_stand stakes own genesis h.started v.came)
stand_in stakes genesis v (watcher h) = subst (λ (l : Ledger). T (stands l)) (sym h.lived.ledger) (watchers_stand stakes genesis h.started v.came)

none_of : (xs : List Line) → T (is_empty xs) → xs ≡ []
unfolding is_empty
none_of [] t = refl
none_of (x ∷ xs) t = absurd t

-- Where no vote falls, any list has room for none.
none_listed : (ws : List ℕ) (room : ℕ) → sound_words ws ≡ true → T (stands (ledger_of ws)) → stands_on ws room ≡ record { answer = Ok 0; words = [] }
unfolding stands_on listed_in spell_lines
none_listed ws room e t =
    let none = none_of (fallen (ledger_of ws)) (subst T (sym (nothing_fallen (ledger_of ws))) t) in
    given_on (sound_words ws) (refused_by (Err (why.Refused refusal.BadRecord))) _ e ∙ ap (listed_in room) none
    ∙ given_on (leb 0 room) (refused_by (Err (why.NoRoom 0))) _ (le-leb 0 room (omega arith))

pub own_votes_stand : OwnVotesStand
unfolding list_panel over
own_votes_stand stakes genesis v alive list number beside left r =
    let e = none_listed v.words (length list) (alive_sound alive) (stand_in stakes genesis v alive) in (
      r.numbered ∙ ap (λ (t : Told). (list_panel t.answer).number) e,
      ap (λ (xs : List ℕ). get_or xs 0 0) (r.counted ∙ ap (λ (t : Told). (list_panel t.answer).values) e),
      r.lines ∙ ap (λ (t : Told). over t.words list) e,
    )

-- ---- honest firms

module _ (stakes : List ℕ) (genesis : ℕ → ℕ) (honest : Test) (lives : Lives) (records : Records) (shown : Evidence stakes genesis honest lives records) where
  abbrev fed : ℕ → List Arrival
  fed n = (lives n).came

  down : (l : Ledger) → HoldsGenuine honest (told_ballot lives) l → HoldsGenuine honest (cast_by stakes genesis honest fed) l
  down = holds_more honest (told_ballot lives) (cast_by stakes genesis honest fed) (told_cast stakes genesis honest lives shown.lived)

  evidence : book.Evidence stakes genesis honest fed (ledgers records) (handed_in records)
  evidence =
      record {
        started = λ n h. (shown.lived n h).started;
        given = λ n h. subst (λ (ws : List ℕ). T (sound_words ws)) (sym (shown.own n h)) (true_t (sound_words (lives n).words) (shown.lived n h).lived.sound);
        own = λ n h. ap ledger_of (shown.own n h) ∙ (shown.lived n h).lived.ledger;
        genuine = λ n h. down (ledgers records n) (shown.genuine n h);
      }

pub honest_never_named : HonestNeverNamed
honest_never_named stakes genesis honest lives records shown proof packet g k n h =
    honest_are_blameless stakes genesis honest (λ n. (lives n).came) (ledgers records) (handed_in records) (evidence stakes genesis honest lives records shown) proof packet
    (genuine stakes genesis honest lives shown.lived proof g) (genuine stakes genesis honest lives shown.lived packet k) n h
