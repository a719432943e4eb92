-- The promises of vote messages. Assumes nothing.
use Rattle.std.specs.Prelude.{⊤, Result, Ok, Err}
use mathlib.Core.Path.{◌≡◌, refl, sym, ap, ap₂, ◌∙◌, subst}
use mathlib.Core.Bool.{Bool, true, false, not}
use mathlib.Core.List.{List, [], ◌++◌, append_assoc, append-nil}
use mathlib.Core.Logic.{◌⊎◌, inl, inr}
use Prim.Native.Nat.{ℕ, ◌+◌, ◌^◌, ◌<◌, ◌≤◌}
use native.Mathlib.Omega.{arith}
use lib.ListN.{length, take, drop, length-append}
use lib.Seq.{drop-length}
use lib.Dec.{eqb, ltb}
use borrow.Author.Tests.{leb-false, lt-leb, le-ltb, ltb-false, eqb-true, not-false}
use Rattle.rulebook.specs.declared.Vote.{Vote}
use Rattle.rulebook.specs.declared.VoteKind.{VoteKind}
use Rattle.rulebook.specs.declared.VoteKind.TheVariants as vote
use Rattle.rulebook.specs.declared.Place.{Place}
use Rattle.rulebook.specs.declared.Place.TheVariants.{Free, Same, Taken}
use Rattle.rulebook.specs.declared.Refusal.{Refusal}
use Rattle.rulebook.specs.declared.Refusal.TheVariants as refusal
use Rattle.rulebook.specs.Tools.{whenever, choose}
use Rattle.rulebook.specs.Weights.{slot_ok, count_fits}
use Rattle.rulebook.specs.PaperNumbers.{vote_kind, vote_number}
use Rattle.rulebook.specs.Ledger.{Ledger, cell_at}
use Rattle.rulebook.specs.Votes.{place_of}
use Rattle.rulebook.specs.Inputs.{refuse_if, is_other, not_in_table, misfits, place_verdict, vote_verdict}
use Rattle.rulebook.specs.Packets.{number_at, number_bytes}
use Rattle.rulebook.specs.Messages.{vote_of, as_read, read_on, read_to, read_vote, message_bytes, message_verdict, write_vote}
use Rattle.rulebook.specs.Writers.{wrote_on, over}
use Rattle.rule_laws.proofs.RuleLaws.{refuse_fine, wrote_fine, wrote_bytes, wrote_count, over_front}
use Rattle.rule_laws.proofs.NumberLaws.{Read, number_in, number_read}
use Rattle.messages.specs.Promises.{Bytes, WrittenBack, OneSpelling, SixteenHold, PoolAgrees, TakenWritten}
use Rattle.messages.proofs.Tested.{Tested, tests_fine, fine_tests, message_fine, fine_message, kind_few, slot_few, count_few, message_few}
use Rattle.rulebook.specs.declared.Unread.{Unread}
use Rattle.rulebook.specs.declared.Unread.TheVariants.{Early, Malformed}

-- ---- kinds and their numbers

pub number_kind : (k : VoteKind) → is_other k ≡ false → vote_kind (vote_number k) ≡ k
unfolding is_other vote_number vote_kind choose
number_kind vote.Notar e = refl
number_kind vote.NotarFallback e = refl
number_kind vote.Skip e = refl
number_kind vote.SkipFallback e = refl
number_kind vote.Final e = refl
number_kind vote.Other e = let z : ◌≡◌ {A = ℕ} 0 1 = cc in absurd (omega arith)

pub kind_number : (n : ℕ) → is_other (vote_kind n) ≡ false → vote_number (vote_kind n) ≡ n
unfolding is_other vote_number vote_kind choose
kind_number n e = go (eqb n 1) (eqb n 2) (eqb n 3) (eqb n 4) (eqb n 5) refl refl refl refl refl e
  where
    pick : (a b c d f : Bool) → VoteKind
    pick a b c d f =
        choose a vote.Notar (choose b vote.NotarFallback (choose c vote.Skip (choose d vote.SkipFallback (choose f vote.Final vote.Other))))

    go : (a b c d f : Bool) → eqb n 1 ≡ a → eqb n 2 ≡ b → eqb n 3 ≡ c → eqb n 4 ≡ d → eqb n 5 ≡ f → is_other (pick a b c d f) ≡ false
        → vote_number (pick a b c d f) ≡ n
    go true b c d f p q r s t e = sym (eqb-true n 1 p)
    go false true c d f p q r s t e = sym (eqb-true n 2 q)
    go false false true d f p q r s t e = sym (eqb-true n 3 r)
    go false false false true f p q r s t e = sym (eqb-true n 4 s)
    go false false false false true p q r s t e = sym (eqb-true n 5 t)
    go false false false false false p q r s t e = let z : ◌≡◌ {A = ℕ} 0 1 = cc in absurd (omega arith)

-- ---- an accepted message

-- What follows a number, where the message is read.
as_says : (r : Result (ℕ × ℕ) Unread) (f : ℕ → ℕ → Result Vote Refusal) (v : Vote) → as_read r f ≡ Ok v
    → (x : ℕ) × (p : ℕ) × (r ≡ Ok (x, p)) × (f x p ≡ Ok v)
unfolding as_read
as_says (Ok (x, p)) f v e = (x, p, refl, e)
as_says (Err Early) f v e = let z : ◌≡◌ {A = ℕ} 0 1 = cc in absurd (omega arith)
as_says (Err Malformed) f v e = let z : ◌≡◌ {A = ℕ} 0 1 = cc in absurd (omega arith)

on_says : (found : Result ⊤ Refusal) (w v : Vote) → read_on found w ≡ Ok v → (found ≡ Ok tt) × (w ≡ v)
unfolding read_on
on_says (Ok tt) w v e = (refl, cc)
on_says (Err r) w v e = let z : ◌≡◌ {A = ℕ} 0 1 = cc in absurd (omega arith)

counted_says : (t : Bool) (f : Unit {0} → Result Vote Refusal) (v : Vote) → whenever t f (Err refusal.BadSizes) ≡ Ok v → (t ≡ true) × (f tt ≡ Ok v)
unfolding whenever
counted_says true f v e = (refl, e)
counted_says false f v e = let z : ◌≡◌ {A = ℕ} 0 1 = cc in absurd (omega arith)

-- Four numbers that were read one after the other were spelled as they are written.
four_spelled : (bytes : List ℕ) (at p q r next kind node slot block : ℕ) → Read bytes at kind p → Read bytes p node q → Read bytes q slot r → Read bytes r block next
    → Bytes bytes → drop at bytes ≡ number_bytes kind ++ (number_bytes node ++ (number_bytes slot ++ number_bytes block)) ++ drop next bytes
four_spelled bytes at p q r next kind node slot block r1 r2 r3 r4 h =
    rw (r1.spelled h, r2.spelled h, r3.spelled h, r4.spelled h) (simp append_assoc)

-- The count fits, the vote passes its tests, and the bytes are those that the vote is written with.
pub record Accepted (count : ℕ) (bytes : List ℕ) (v : Vote) : Type 0 where
  pub counted : count_fits count ≡ true
  pub tested : Tested count v (Ok tt)
  pub spelled : Bytes bytes → bytes ≡ message_bytes v

pub accepted : (count : ℕ) (bytes : List ℕ) (v : Vote) → read_vote count bytes ≡ Ok v → Accepted count bytes v
unfolding read_vote read_to vote_of message_bytes
accepted count bytes v e =
    let (fits, f0) = counted_says (count_fits count) _ v e in
    let (kind, p, e1, f1) = as_says (number_at bytes 0) _ v f0 in
    let (node, q, e2, f2) = as_says (number_at bytes p) _ v f1 in
    let (slot, r, e3, f3) = as_says (number_at bytes q) _ v f2 in
    let (block, next, e4, f4) = as_says (number_at bytes r) _ v f3 in
    let r1 = number_read bytes 0 kind p e1 in
    let r2 = number_read bytes p node q e2 in
    let r3 = number_read bytes q slot r e3 in
    let r4 = number_read bytes r block next e4 in
    let (fine, same) = on_says _ (vote_of kind node slot block) v f4 in
    let t = tests_fine count (vote_of kind node slot block) _ fine in
    let whole = refuse_fine (ltb next (length bytes)) refusal.BadLength (Ok tt) t.rest in
    let ended : next ≡ length bytes = omega (arith, r4.inside, ltb-false next (length bytes) whole.0) in
    subst (Accepted count bytes) same
    (record {
      counted = fits;
      tested = record { kind = t.kind; slot = t.slot; node = t.node; fits = t.fits; rest = refl };
      spelled = λ h.
          four_spelled bytes 0 p q r next kind node slot block r1 r2 r3 r4 h
          ∙ ap (λ (x : List ℕ). number_bytes kind ++ (number_bytes node ++ (number_bytes slot ++ number_bytes block)) ++ x)
          (ap (λ (x : ℕ). drop x bytes) ended ∙ drop-length bytes)
          ∙ append-nil (number_bytes kind ++ (number_bytes node ++ (number_bytes slot ++ number_bytes block)))
          ∙ ap (λ (x : ℕ). number_bytes x ++ (number_bytes node ++ (number_bytes slot ++ number_bytes block))) (sym (kind_number kind t.kind));
    })

pub one_spelling : OneSpelling
one_spelling count other v p q hp hq ep eq = (accepted count p v ep).spelled hp ∙ sym ((accepted other q v eq).spelled hq)

-- ---- a written message

pub sixteen_hold : SixteenHold
unfolding write_vote
sixteen_hold count room n v e =
    let f = message_fine count room v (wrote_fine (message_verdict count room v) (message_bytes v) n e) in
    omega (arith, message_few count v (Ok tt) f.0 f.2, wrote_count (message_verdict count room v) (message_bytes v) n e)

-- A vote is that of its four numbers.
vote_same : (v : Vote) → is_other v.kind ≡ false → vote_of (vote_number v.kind) v.node.0 v.slot.0 v.block ≡ v
unfolding vote_of
vote_same v e = ap (λ (k : VoteKind). record { kind = k; node = v.node; slot = v.slot; block = v.block }) (number_kind v.kind e)

-- Nothing is refused of its numbers where no byte remains.
read_whole : (count next end : ℕ) (v : Vote) → end ≤ next → Tested count v (Ok tt)
    → read_to count (vote_of (vote_number v.kind) v.node.0 v.slot.0 v.block) next end ≡ Ok v
unfolding read_to read_on refuse_if
read_whole count next end v l t = rw (vote_same v t.kind, le-ltb next end l, fine_tests count v (Ok tt) t)

-- The bytes of a vote that passes its tests read back.
read_back : (count : ℕ) (v : Vote) → v.block < 2 ^ 64 → count_fits count ≡ true → Tested count v (Ok tt) → read_vote count (message_bytes v) ≡ Ok v
unfolding read_vote as_read whenever message_bytes
read_back count v h c t =
    let k = number_bytes (vote_number v.kind) in
    let m = number_bytes v.node.0 in
    let s = number_bytes v.slot.0 in
    let b = number_bytes v.block in
    let bytes : List ℕ = k ++ (m ++ (s ++ b)) in
    let l1 = length-append k m in
    let l2 = length-append (k ++ m) s in
    let l3 = length-append (k ++ m ++ s) b in
    let e : bytes ≡ k ++ m ++ s ++ b = simp append_assoc in
    let p = 0 + length k in
    let q = p + length m in
    let r = q + length s in
    let few = count_few count c in
    let low = slot_few v.slot.0 t.slot in
    rw c (simp (
      number_in bytes [] (vote_number v.kind) (m ++ (s ++ b)) 0 refl refl (omega (arith, kind_few v.kind)),
      number_in bytes k v.node.0 (s ++ b) p refl (omega arith) (omega (arith, t.node)),
      number_in bytes (k ++ m) v.slot.0 b q (simp append_assoc) (omega arith) (omega arith),
      number_in bytes (k ++ m ++ s) v.block [] r (e ∙ simp append-nil) (omega arith) h,
    )
    (read_whole count (r + length b) (length bytes) v (omega (arith, ap length e)) t))

pub written_back : WrittenBack
unfolding write_vote
written_back count n v buffer after h w =
    let found = message_verdict count (length buffer) v in
    let e = wrote_fine found (message_bytes v) n (sym w.answered) in
    let m = message_fine count (length buffer) v e in
    let front : take n after ≡ message_bytes v =
    ap₂ (λ (i : ℕ) (z : List ℕ). take i z) (sym (wrote_count found (message_bytes v) n (sym w.answered)))
    (w.bytes ∙ ap (λ (z : List ℕ). over z buffer) (wrote_bytes found (message_bytes v) e)) ∙ over_front (message_bytes v) buffer in
    ap (read_vote count) front ∙ read_back count v h m.0 m.2

-- ---- the pool

place_left : (p : Place) (r : Refusal) → place_verdict p ≡ Err r → (r ≡ refusal.AlreadyKept) ⊎ (r ≡ refusal.OtherStands)
unfolding place_verdict
place_left Free r e = let z : ◌≡◌ {A = ℕ} 0 1 = cc in absurd (omega arith)
place_left Same r e = inl cc
place_left Taken r e = inr cc

-- What is left of a vote's tests.
own_left : (t : Bool) (p : Place) (r : Refusal) → refuse_if t refusal.OwnName (place_verdict p) ≡ Err r
    → (r ≡ refusal.OwnName) ⊎ ((r ≡ refusal.AlreadyKept) ⊎ (r ≡ refusal.OtherStands))
unfolding refuse_if
own_left true p r e = inl cc
own_left false p r e = inr (place_left p r e)

pool_left : (l : Ledger) (v : Vote) → Tested l.count v (Ok tt)
    → vote_verdict l v ≡ refuse_if (eqb v.node.0 l.own) refusal.OwnName (place_verdict (place_of (cell_at l v.slot.0 v.node.0) v.kind v.block))
unfolding vote_verdict refuse_if
pool_left l v t = rw (t.kind, t.slot, lt-leb l.count v.node.0 t.node, t.fits)

pub pool_agrees : PoolAgrees
pool_agrees l bytes v r e d =
    own_left (eqb v.node.0 l.own) (place_of (cell_at l v.slot.0 v.node.0) v.kind v.block) r
    (sym (pool_left l v (accepted l.count bytes v e).tested) ∙ d)

taken_tested : (l : Ledger) (v : Vote) → vote_verdict l v ≡ Ok tt → Tested l.count v (Ok tt)
unfolding vote_verdict
taken_tested l v e =
    let kind = refuse_fine (is_other v.kind) refusal.BadKind _ e in
    let slot = refuse_fine (not (slot_ok v.slot.0)) refusal.BadSlot _ kind.1 in
    let node = refuse_fine (not_in_table l.count v.node.0) refusal.BadNode _ slot.1 in
    let own = refuse_fine (eqb v.node.0 l.own) refusal.OwnName _ node.1 in
    let block = refuse_fine (misfits v.kind v.block) refusal.BadBlock _ own.1 in
    record {
      kind = kind.0;
      slot = not-false (slot_ok v.slot.0) slot.0;
      node = leb-false l.count v.node.0 node.0;
      fits = block.0;
      rest = refl;
    }

pub taken_written : TakenWritten
unfolding write_vote wrote_on
taken_written l v room c h e = (length (message_bytes v), rw (fine_message l.count room v c h (taken_tested l v e)))
