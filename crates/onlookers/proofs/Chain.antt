-- Who looks on observes in the sense of the rule book's theorem, so that what is settled there is settled.
use Rattle.std.specs.Prelude.{Result, Ok, Err}
use mathlib.Core.Path.{◌≡◌, refl, sym, ap, ◌∙◌, subst}
use mathlib.Core.Bool.{Bool, true, false, not, ◌&&◌}
use mathlib.Core.List.{List, [], ◌∷◌}
use Prim.Native.Nat.{ℕ, ◌<◌, ◌^◌}
use native.Mathlib.Omega.{arith}
use lib.Dec.{T, eqb}
use lib.ListN.{length}
use borrow.Author.Tests.{eq-eqb, ne_eqb, eqb-true}
use Rattle.rulebook.specs.declared.Refusal.{Refusal}
use Rattle.rulebook.specs.Weights.{slot_ok}
use Rattle.rulebook.specs.Ledger.{Ledger, none, fresh, row_at}
use Rattle.rulebook.specs.Rules.{Record, record_of}
use Rattle.rulebook.specs.Taking.{Arrival}
use Rattle.rulebook.specs.Writers as writer
use Rattle.rulebook.specs.Writers.{write_proof}
use Rattle.rule_laws.proofs.ToolLaws.{by_test, both_and, true_not_false, part_off}
use Rattle.safety.specs.Slot.{Test}
use Rattle.safety.specs.Ballots.{same_record, among}
use Rattle.safety.specs.Ring.{after_all, cast_by}
use Rattle.safety.specs.Grounds.{FinalIn}
use Rattle.safety.proofs.Tests.{true_t, T-left, T-right}
use Rattle.safety.proofs.Safety.{in_table_lem}
use Rattle.safety.proofs.Written.{proof_written}
use Rattle.safety.proofs.Honest.{proof_holds}
use Rattle.chain.specs.OneChain as book
use Rattle.chain.proofs.Chains as chains
use Rattle.readers.specs.Asked.{marks_on, marks_kept, marks_panel}
use Rattle.readers.proofs.Ways.{slot_none}
use Rattle.writers.specs.Writing.{proof_on}
use Rattle.answers.specs.Face.{Wrote, MarksRead}
use Rattle.seen.specs.Seen.{Seen, ledger_in, Alive}
use Rattle.seen.specs.Ring.{Lives, Ring}
use Rattle.seen.specs.Chain.{block_kept, OneParent, OnOneChain}
use Rattle.seen.proofs.More.{chained_more}
use Rattle.seen.proofs.Numbers.{zero_accepted, zero_written}
use Rattle.seen.proofs.Ring.{genuine, book_ring}
use Rattle.seen.proofs.Chain.{kept_same, parents}
use Rattle.seen.proofs.Written.{proof_on_lem}
use Rattle.seen.proofs.Alive.{alive_sound}
use Rattle.seen.proofs.Readers.{final_told, readers_tell}
use Rattle.seen.proofs.Grounded.{finals_grounded}
use Rattle.spreading.specs.Spreading.{LooksOn}
use Rattle.spreading.proofs.Spreading.{Onlooks, onlooks, observes, no_other}
use Rattle.told.specs.Told.{count_of, tells}
use Rattle.told.proofs.Told.{marks_are_told}
use Rattle.onlookers.specs.Chain.{SettledFor, proved, told, read, wrote, OnlookersChained, OnlookersAgree, OnlookersNoAlarm}
use Rattle.readers.specs.declared.SlotMarks.{SlotMarks}

-- Where no record of the kind and slot is among them, none is counted.
none_counted : (k s : ℕ) (rs : List Record) → ((b : ℕ) → ¬ T (among rs (record_of k s b))) → count_of (tells k s) rs ≡ 0
unfolding count_of
none_counted k s [] f = refl
none_counted k s (r ∷ rs) f =
    by_test (tells k s r)
    (λ t. absurd (f r.block (T-left (same_record r (record_of k s r.block)) (among rs (record_of k s r.block))
    (true_t _ (is_record (eqb r.kind k) (eqb r.slot s) (eqb r.block r.block) t (eq-eqb r.block r.block refl))))))
    (λ t. omega (arith, part_off (tells k s r) 1 t, none_counted k s rs (λ b x. f b (T-right (same_record r (record_of k s b)) (among rs (record_of k s b)) x))))
  where
    is_record : (a b c : Bool) → (a && b) ≡ true → c ≡ true → (a && (b && c)) ≡ true
    is_record true true c e z = z
    is_record true false c e z = e
    is_record false b c e z = e

module _ (stakes : List ℕ) (genesis : ℕ → ℕ) (honest : Test) (lives : Lives) (ring : Ring stakes genesis honest lives) (once : OneParent honest lives) where
  abbrev fed : ℕ → List Arrival
  fed n = (lives n).came

  in_words : (s b t c : ℕ) → book.OnOneChain stakes genesis honest fed s b t c → OnOneChain honest lives s b t c
  in_words = chained_more honest (book.kept_by stakes genesis honest fed) (block_kept lives) (λ n s b p x h. subst T (sym (kept_same stakes genesis honest lives ring.nodes.lived n s b p x h)))

  module _ (w : Seen) (looks : LooksOn stakes genesis honest lives w) where
    abbrev o : Onlooks stakes genesis honest lives ring w
    o = onlooks stakes genesis honest lives ring w looks

    abbrev end : Ledger
    end = after_all (fresh stakes o.own o.first) w.came

    told_settled : (s b : ℕ) → T (among w.told (record_of 6 s b)) → book.Settled stakes genesis honest fed s b
    told_settled s b t =
        book.seen end (observes stakes genesis honest lives ring once w looks)
        (subst (λ (l : Ledger). FinalIn l s b) o.lived.ledger (finals_grounded stakes o.first w o.alive s b t))

    -- What is read was told.
    marked_told : (s b : ℕ) → ¬ (b ≡ 0) → b ≡ (row_at (ledger_in w) s).final → T (among w.told (record_of 6 s b))
    marked_told s b nb e =
        true_t _ (sym ((marks_are_told stakes o.first w o.alive).final s b)
        ∙ both_and (not (none b)) (eqb (row_at (ledger_in w) s).final b) (ap not (ne_eqb b 0 nb)) (eq-eqb (row_at (ledger_in w) s).final b (sym e)))

    written_settled : (buffer after : List ℕ) (s b n : ℕ) → b < 2 ^ 64 → Wrote (proof_on w.words (length buffer) s b) buffer 0 n after → book.Settled stakes genesis honest fed s b
    written_settled buffer after s b n small x =
        let answer : (write_proof end (length buffer) s b).answer ≡ Ok n =
        ap (λ (y : writer.Wrote). y.answer) (sym (proof_on_lem stakes o.own o.first o.size w o.lived (length buffer) s b)) ∙ (zero_written _ buffer after n x).1 in
        let p = (proof_written stakes o.own o.first o.size w.came (length buffer) s b n small answer).1 in
        book.certified (book.proved (write_proof end (length buffer) s b).bytes p.what
        (proof_holds stakes honest (cast_by stakes genesis honest fed) (in_table_lem stakes genesis honest fed (book_ring stakes genesis honest lives ring)) o.own o.first o.size w.came o.holds (length buffer) s b n small answer)
        p.accepted p.slot_is p.block_is)

  settled : (s b : ℕ) → SettledFor stakes genesis honest lives s b → book.Settled stakes genesis honest fed s b
  settled s b (proved proof kind signers weight missing g c) =
      let a = zero_accepted c in
      book.certified (book.proved proof a.what (genuine stakes genesis honest lives ring.nodes.lived proof g) a.accepted a.slot_is a.block_is)
  settled s b (told w looks t) = told_settled w looks s b t
  settled s b (read w looks number r nb) = told_settled w looks s b (marked_told w looks s b nb (final_told w.words s number b r nb))
  settled s b (wrote w looks buffer after n small x) = written_settled w looks buffer after s b n small x

pub onlookers_chained : OnlookersChained
onlookers_chained stakes genesis honest lives ring once s b t c x y =
    in_words stakes genesis honest lives ring once s b t c
    (chains.settled_chained stakes genesis honest (λ n. (lives n).came) (book_ring stakes genesis honest lives ring) (parents stakes genesis honest lives ring.nodes.lived once) s b t c
    (settled stakes genesis honest lives ring once s b x) (settled stakes genesis honest lives ring once t c y))

pub onlookers_agree : OnlookersAgree
onlookers_agree stakes genesis honest lives ring once s b c x y =
    chains.settled_once stakes genesis honest (λ n. (lives n).came) (book_ring stakes genesis honest lives ring) (parents stakes genesis honest lives ring.nodes.lived once) s b c
    (settled stakes genesis honest lives ring once s b x) (settled stakes genesis honest lives ring once s c y)

-- The second of two values.
second : {a b c d : ℕ} → ◌≡◌ {A = List ℕ} (a ∷ b ∷ []) (c ∷ d ∷ []) → b ≡ d
second e = cc

-- The mark that is answered is the ledger's, or 0 where the slot is none.
mark_read : (stakes : List ℕ) (genesis : ℕ) (w : Seen) → Alive stakes genesis w → (s number a b : ℕ) → MarksRead (marks_on w.words s) number (a ∷ b ∷ []) → (row_at (ledger_in w) s).clash ≡ 0 → b ≡ 0
unfolding marks_on marks_panel marks_kept
mark_read stakes genesis w alive s number a b r z =
    by_test (slot_ok s)
    (λ q. second ((readers_tell stakes genesis w alive).marks s number (a ∷ b ∷ []) r q).1 ∙ z)
    (λ q. second (r.valued ∙ ap (λ (x : Result SlotMarks Refusal). (marks_panel x).values) (slot_none Err w.words s _ (alive_sound alive) q)))

-- A number that is not told to be there is 0.
unmarked : (x : ℕ) → not (none x) ≡ false → x ≡ 0
unmarked x e = by_test (none x) (λ t. eqb-true x 0 t) (λ t. true_not_false (not (none x)) (ap not t) e)

pub onlookers_no_alarm : OnlookersNoAlarm
onlookers_no_alarm stakes genesis honest lives ring once w looks =
    let o = onlooks stakes genesis honest lives ring w looks in
    let quiet : (s c : ℕ) → ¬ T (among w.told (record_of 8 s c)) = no_other stakes genesis honest lives ring once w looks in
    let clear : (s : ℕ) → (row_at (ledger_in w) s).clash ≡ 0 =
    λ s. unmarked (row_at (ledger_in w) s).clash ((marks_are_told stakes o.first w o.alive).another s ∙ ap (λ (n : ℕ). not (none n)) (none_counted 8 s w.told (quiet s))) in
    record { told = quiet; marks = λ s number a b r. mark_read stakes o.first w o.alive s number a b r (clear s) }
