-- Which votes a firm's record lacks, and which blocks have two parents: what is answered and left, way by way. Assumes nothing.
use Rattle.std.specs.Prelude.{Result, Ok, Err}
use mathlib.Core.Path.{◌≡◌, refl, sym, ap, ◌∙◌}
use mathlib.Core.Bool.{true, false, not}
use mathlib.Core.List.{List, [], ◌∷◌}
use Prim.Native.Nat.{ℕ, ◌*◌}
use native.Mathlib.Omega.{arith}
use lib.ListN.{length, get_or}
use lib.Dec.{leb}
use borrow.Author.Tests.{leb-true, leb-false, le-leb, lt-leb}
use Rattle.rulebook.specs.declared.Refusal.TheVariants as refusal
use Rattle.rulebook.specs.PaperNumbers.{Panel, refusal_number}
use Rattle.rulebook.specs.Tools.{whenever}
use Rattle.rulebook.specs.Writers.{over}
use Rattle.rulebook.specs.Ledger.{is_watcher, table_of}
use Rattle.rule_laws.proofs.ToolLaws.{given_on, given_off, by_test, true_not_false}
use Rattle.record.specs.Layout.{ledger_of}
use Rattle.soundness.specs.Sound.{sound_words}
use Rattle.difference_lines.specs.declared.Side.TheVariants as side
use Rattle.difference_lines.specs.Lines.{side_number, same_tables}
use Rattle.inquest.specs.declared.Line.{Line}
use Rattle.inquest.specs.Lists.{is_empty, lacking}
use Rattle.inquest.proofs.Lists.{nothing_lacking}
use Rattle.inquest_lines.specs.declared.ListRefusal.{ListRefusal}
use Rattle.inquest_lines.specs.declared.ListRefusal.TheVariants as why
use Rattle.inquest_lines.specs.Lent as lent
use Rattle.inquest_lines.specs.Lent.{spell_lines, refused_by, put_in, listed_in, list_panel}
use Rattle.vouching.specs.Asked.{lacking_of, of_two, vouched_on, VouchedOf}
use Rattle.vouched_packets.specs.Asked.{check_packet, packet_lacks, checked_on, packet_on, PacketOf}
use Rattle.same_parents.specs.declared.ParentLine.{ParentLine}
use Rattle.same_parents.specs.Parents.{twice, twice_in, parents_on, ParentsOf}
use Rattle.same_parents.specs.Parents as parents
use Rattle.same_parents.proofs.Theorems.{nothing_twice}
use Rattle.promises.specs.Differs.{shown_as}
use Rattle.promises.specs.Vouched.{Listed, TwoTold, VouchedShown, FaceVouched, FaceAllVouched, ParentsShown, FaceSameParents, FaceOneParent, PacketTold, PacketShown, FaceVouchedPacket}

over_nothing : (list : List ℕ) → over [] list ≡ list
unfolding over
over_nothing list = refl

-- What is told, by what the definition comes to.
module _ (t : lent.Told) (list left : List ℕ) (p : Panel) (e : p ≡ list_panel t.answer) (f : left ≡ over t.words list) where
  way : (d : lent.Told) → t ≡ d → (p ≡ list_panel d.answer) × (left ≡ over d.words list)
  way d q = (e ∙ ap (λ (x : lent.Told). list_panel x.answer) q, f ∙ ap (λ (x : lent.Told). over x.words list) q)

  refusal_way : (a : Result ℕ ListRefusal) → t ≡ refused_by a → (p ≡ list_panel a) × (left ≡ list)
  refusal_way a q = let w = way (refused_by a) q in (w.0, w.1 ∙ over_nothing list)

  listed_way : (n : ℕ) (ws : List ℕ) → t ≡ put_in (length list) n ws → Listed n ws list p left
  unfolding list_panel refusal_number
  listed_way n ws q =
      record {
        cramped = λ h. refusal_way (Err (why.NoRoom n)) (q ∙ given_off (leb (5 * n) (length list)) (refused_by (Err (why.NoRoom n))) _ (lt-leb (5 * n) (length list) h));
        whole = λ h. way (record { answer = Ok n; words = ws }) (q ∙ given_on (leb (5 * n) (length list)) (refused_by (Err (why.NoRoom n))) _ (le-leb (5 * n) (length list) h));
      }

-- ---- two records

module _ (one two : List ℕ) (n : ℕ) (ws list left : List ℕ) (p : Panel) where
  abbrev t : lent.Told
  t = of_two one two (λ _. put_in (length list) n ws)

  abbrev asked : Unit {0} → lent.Told
  asked _ = whenever (same_tables (ledger_of one) (ledger_of two)) (λ _. put_in (length list) n ws) (refused_by (Err (why.Refused refusal.BadSizes)))

  abbrev next : Unit {0} → lent.Told
  next _ = whenever (sound_words two) asked (refused_by (Err (why.BadRecord side.Second)))

  onward : sound_words one ≡ true → t ≡ next tt
  onward a = given_on (sound_words one) (refused_by (Err (why.BadRecord side.First))) next a

  further : sound_words one ≡ true → sound_words two ≡ true → t ≡ asked tt
  further a b = onward a ∙ given_on (sound_words two) (refused_by (Err (why.BadRecord side.Second))) asked b

  told : p ≡ list_panel t.answer → left ≡ over t.words list → TwoTold one two n ws list p left
  unfolding list_panel refusal_number side_number
  told e f =
      record {
        first = λ a. refusal_way t list left p e f (Err (why.BadRecord side.First)) (given_off (sound_words one) (refused_by (Err (why.BadRecord side.First))) _ a);
        second = λ a b. refusal_way t list left p e f (Err (why.BadRecord side.Second)) (onward a ∙ given_off (sound_words two) (refused_by (Err (why.BadRecord side.Second))) _ b);
        tables = λ a b c. refusal_way t list left p e f (Err (why.Refused refusal.BadSizes)) (further a b ∙ given_off (same_tables (ledger_of one) (ledger_of two)) (refused_by (Err (why.Refused refusal.BadSizes))) _ c);
        lines = λ a b c. listed_way t list left p e f n ws (further a b ∙ given_on (same_tables (ledger_of one) (ledger_of two)) (refused_by (Err (why.Refused refusal.BadSizes))) _ c);
      }

pub vouched_shown : VouchedShown
unfolding vouched_on listed_in
vouched_shown one two list r left d =
    let xs = lacking_of (ledger_of one) (ledger_of two) in
    told one two (length xs) (spell_lines xs) list left (list_panel r) (ap list_panel d.answered) d.listed

pub face_vouched : FaceVouched
unfolding vouched_on listed_in
face_vouched one two list number beside left d =
    let xs = lacking_of (ledger_of one) (ledger_of two) in
    told one two (length xs) (spell_lines xs) list left (shown_as number beside) (λ i. record { number = d.numbered i; values = d.counted i }) d.lines

number_of : {a b c d : ℕ} → shown_as a b ≡ shown_as c d → a ≡ c
number_of e = ap (λ (x : Panel). x.number) e

value_of : {a b c d : ℕ} → shown_as a b ≡ shown_as c d → b ≡ d
value_of e = ap (λ (x : Panel). get_or x.values 0 0) e

none_empty : (xs : List Line) → 0 ≡ length xs → is_empty xs ≡ true
unfolding is_empty
none_empty [] e = refl
none_empty (x ∷ xs) e = absurd (omega arith)

firm_lacks : (one two : List ℕ) → is_watcher (ledger_of two) ≡ false → lacking_of (ledger_of one) (ledger_of two) ≡ lacking (ledger_of one) (ledger_of two)
unfolding lacking_of
firm_lacks one two e = given_on (not (is_watcher (ledger_of two))) [] (λ _. lacking (ledger_of one) (ledger_of two)) (ap not e)

pub face_all_vouched : FaceAllVouched
face_all_vouched one two list left w d =
    let t = face_vouched one two list 0 0 left d in
    let xs = lacking_of (ledger_of one) (ledger_of two) in
    by_test (sound_words one)
    (λ a. by_test (sound_words two)
    (λ b. by_test (same_tables (ledger_of one) (ledger_of two))
    (λ c. by_test (leb (5 * length xs) (length list))
    (λ h. sym (nothing_lacking (ledger_of one) (ledger_of two)) ∙ ap is_empty (sym (firm_lacks one two w)) ∙ none_empty xs (value_of ((t.lines a b c).whole (leb-true (5 * length xs) (length list) h)).0))
    (λ h. absurd (omega (arith, number_of ((t.lines a b c).cramped (leb-false (5 * length xs) (length list) h)).0))))
    (λ c. absurd (omega (arith, number_of (t.tables a b c).0))))
    (λ b. absurd (omega (arith, number_of (t.second a b).0))))
    (λ a. absurd (omega (arith, number_of (t.first a).0)))

-- Any two results that the contract lets pass are equal.
pub vouched_one : (one two list : List ℕ) {left left' : List ℕ} {r r' : Result ℕ ListRefusal} → VouchedOf one two list r left → VouchedOf one two list r' left' → (r ≡ r') × (left ≡ left')
vouched_one one two list a b = (a.answered ∙ sym b.answered, a.listed ∙ sym b.listed)

-- ---- parents

pub parents_shown : ParentsShown
unfolding parents_on twice_in
parents_shown one two list r left d =
    let xs = twice (ledger_of one) (ledger_of two) in
    told one two (length xs) (parents.spell_lines xs) list left (list_panel r) (ap list_panel d.answered) d.listed

pub face_same_parents : FaceSameParents
unfolding parents_on twice_in
face_same_parents one two list number beside left d =
    let xs = twice (ledger_of one) (ledger_of two) in
    told one two (length xs) (parents.spell_lines xs) list left (shown_as number beside) (λ i. record { number = d.numbered i; values = d.counted i }) d.lines

none_told : (xs : List ParentLine) → 0 ≡ length xs → parents.is_empty xs ≡ true
unfolding parents.is_empty
none_told [] e = refl
none_told (x ∷ xs) e = absurd (omega arith)

nothing_told : (xs : List ParentLine) → parents.is_empty xs ≡ true → xs ≡ []
unfolding parents.is_empty
nothing_told [] e = refl
nothing_told (x ∷ xs) e = true_not_false (parents.is_empty (x ∷ xs)) e refl

no_words : (list : List ℕ) → over (parents.spell_lines []) list ≡ list
unfolding over parents.spell_lines
no_words list = refl

pub face_one_parent : FaceOneParent
face_one_parent =
    record {
      means = λ one two list left d.
          let t = face_same_parents one two list 0 0 left d in
          let xs = twice (ledger_of one) (ledger_of two) in
          by_test (sound_words one)
          (λ a. by_test (sound_words two)
          (λ b. by_test (same_tables (ledger_of one) (ledger_of two))
          (λ c. by_test (leb (5 * length xs) (length list))
          (λ h. sym (nothing_twice (ledger_of one) (ledger_of two)) ∙ none_told xs (value_of ((t.lines a b c).whole (leb-true (5 * length xs) (length list) h)).0))
          (λ h. absurd (omega (arith, number_of ((t.lines a b c).cramped (leb-false (5 * length xs) (length list) h)).0))))
          (λ c. absurd (omega (arith, number_of (t.tables a b c).0))))
          (λ b. absurd (omega (arith, number_of (t.second a b).0))))
          (λ a. absurd (omega (arith, number_of (t.first a).0)));
      only = λ one two list number beside left a b c s d.
          let t = face_same_parents one two list number beside left d in
          let e : twice (ledger_of one) (ledger_of two) ≡ [] = nothing_told (twice (ledger_of one) (ledger_of two)) (nothing_twice (ledger_of one) (ledger_of two) ∙ s) in
          let z : length (twice (ledger_of one) (ledger_of two)) ≡ 0 = ap length e in
          let w = (t.lines a b c).whole (omega arith) in
          (number_of w.0, value_of w.0 ∙ z, w.1 ∙ ap (λ (x : List ParentLine). over (parents.spell_lines x) list) e ∙ no_words list);
    }

-- Any two results that the contract lets pass are equal.
pub parents_one : (one two list : List ℕ) {left left' : List ℕ} {r r' : Result ℕ ListRefusal} → ParentsOf one two list r left → ParentsOf one two list r' left' → (r ≡ r') × (left ≡ left')
parents_one one two list a b = (a.answered ∙ sym b.answered, a.listed ∙ sym b.listed)

-- ---- a packet

module _ (ws packet list left : List ℕ) (p : Panel) (e : p ≡ list_panel (packet_on ws packet (length list)).answer) (f : left ≡ over (packet_on ws packet (length list)).words list) where
  packet_told : PacketTold ws packet list p left
  unfolding packet_on checked_on listed_in list_panel refusal_number
  packet_told =
      record {
        bad = λ a. refusal_way t list left p e f (Err (why.Refused refusal.BadRecord)) (given_off (sound_words ws) (refused_by (Err (why.Refused refusal.BadRecord))) _ a);
        refused = λ a r k. refusal_way t list left p e f (Err (why.Refused r)) (onward a ∙ ap (checked_on (ledger_of ws) packet (length list)) k);
        lines = λ a x k. listed_way t list left p e f (length (packet_lacks (ledger_of ws) packet)) (spell_lines (packet_lacks (ledger_of ws) packet)) (onward a ∙ ap (checked_on (ledger_of ws) packet (length list)) k);
      }
    where
      t : lent.Told
      t = packet_on ws packet (length list)

      onward : sound_words ws ≡ true → t ≡ checked_on (ledger_of ws) packet (length list) (check_packet (table_of (ledger_of ws)) packet)
      onward a = given_on (sound_words ws) (refused_by (Err (why.Refused refusal.BadRecord))) _ a

pub packet_shown : PacketShown
packet_shown ws packet list r left d = packet_told ws packet list left (list_panel r) (ap list_panel d.answered) d.listed

pub face_vouched_packet : FaceVouchedPacket
face_vouched_packet ws packet list number beside left d =
    packet_told ws packet list left (shown_as number beside) (λ i. record { number = d.numbered i; values = d.counted i }) d.lines

pub packet_one : (ws packet list : List ℕ) {left left' : List ℕ} {r r' : Result ℕ ListRefusal} → PacketOf ws packet list r left → PacketOf ws packet list r' left' → (r ≡ r') × (left ≡ left')
packet_one ws packet list a b = (a.answered ∙ sym b.answered, a.listed ∙ sym b.listed)
