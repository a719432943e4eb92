-- What a vote that passes the tests 4, 3, 2, 5 has, and how many bytes it takes. Assumes nothing.
use Rattle.std.specs.Prelude.{⊤, Result, Ok, Err}
use mathlib.Core.Path.{◌≡◌, refl}
use mathlib.Core.Bool.{Bool, true, false, not}
use Prim.Native.Nat.{ℕ, zero, suc, ◌+◌, ◌*◌, ◌/◌, ◌^◌, ◌<◌, ◌≤◌}
use native.Mathlib.Omega.{arith}
use native.Mathlib.Nat.{pow-suc}
use lib.ListN.{length, length-append}
use lib.Dec.{leb, ltb}
use borrow.Author.Tests.{leb-true, leb-false, lt-leb, ltb-false, le-ltb, not-false}
use Rattle.rulebook.specs.declared.Vote.{Vote}
use Rattle.rulebook.specs.declared.VoteKind.{VoteKind}
use Rattle.rulebook.specs.declared.VoteKind.TheVariants as vote
use Rattle.rulebook.specs.declared.Refusal.TheVariants as refusal
use Rattle.rulebook.specs.Weights.{most_nodes, last_slot, slot_ok, count_fits}
use Rattle.rulebook.specs.PaperNumbers.{vote_number}
use Rattle.rulebook.specs.Inputs.{refuse_if, is_other, not_in_table, misfits}
use Rattle.rulebook.specs.Packets.{groups_of, number_bytes}
use Rattle.rulebook.specs.Messages.{vote_tests, read_on, read_to, message_bytes, message_verdict}
use Rattle.rule_laws.proofs.ToolLaws.{and_both}
use Rattle.rule_laws.proofs.RuleLaws.{refuse_fine}
use Rattle.rule_laws.proofs.NumberLaws.{groups_last, groups_more, number_few}
use Rattle.rulebook.specs.declared.Refusal.{Refusal}

-- A vote that passes all four, and what is found later.
pub record Tested (count : ℕ) (v : Vote) (later : Result ⊤ Refusal) : Type 0 where
  pub kind : is_other v.kind ≡ false
  pub slot : slot_ok v.slot.0 ≡ true
  pub node : v.node.0 < count
  pub fits : misfits v.kind v.block ≡ false
  pub rest : later ≡ Ok tt

pub tests_fine : (count : ℕ) (v : Vote) (later : Result ⊤ Refusal) → vote_tests count v later ≡ Ok tt → Tested count v later
unfolding vote_tests
tests_fine count v later e =
    let kind = refuse_fine (is_other v.kind) refusal.BadKind _ e in
    let slot = refuse_fine (not (slot_ok v.slot.0)) refusal.BadSlot _ kind.1 in
    let node = refuse_fine (not_in_table count v.node.0) refusal.BadNode _ slot.1 in
    let block = refuse_fine (misfits v.kind v.block) refusal.BadBlock _ node.1 in
    record {
      kind = kind.0;
      slot = not-false (slot_ok v.slot.0) slot.0;
      node = leb-false count v.node.0 node.0;
      fits = block.0;
      rest = block.1;
    }

pub fine_tests : (count : ℕ) (v : Vote) (later : Result ⊤ Refusal) → Tested count v later → vote_tests count v later ≡ Ok tt
unfolding vote_tests refuse_if
fine_tests count v later t = rw (t.kind, t.slot, lt-leb count v.node.0 t.node, t.fits) t.rest

-- The tests alone decide, or else what is found later.
tests_then : (count : ℕ) (v : Vote) (later : Result ⊤ Refusal) → vote_tests count v (Ok tt) ≡ Ok tt → vote_tests count v later ≡ later
unfolding vote_tests refuse_if
tests_then count v later e = go (is_other v.kind) (not (slot_ok v.slot.0)) (not_in_table count v.node.0) (misfits v.kind v.block) e
  where
    go : (a b c d : Bool)
        → refuse_if a refusal.BadKind (refuse_if b refusal.BadSlot (refuse_if c refusal.BadNode (refuse_if d refusal.BadBlock (Ok tt)))) ≡ Ok tt
        → refuse_if a refusal.BadKind (refuse_if b refusal.BadSlot (refuse_if c refusal.BadNode (refuse_if d refusal.BadBlock later))) ≡ later
    go true b c d e = cc
    go false true c d e = cc
    go false false true d e = cc
    go false false false true e = cc
    go false false false false e = refl

tests_refused : (count : ℕ) (v : Vote) (r : Refusal) (later : Result ⊤ Refusal) → vote_tests count v (Ok tt) ≡ Err r → vote_tests count v later ≡ Err r
unfolding vote_tests refuse_if
tests_refused count v r later e = go (is_other v.kind) (not (slot_ok v.slot.0)) (not_in_table count v.node.0) (misfits v.kind v.block) e
  where
    go : (a b c d : Bool)
        → refuse_if a refusal.BadKind (refuse_if b refusal.BadSlot (refuse_if c refusal.BadNode (refuse_if d refusal.BadBlock (Ok tt)))) ≡ Err r
        → refuse_if a refusal.BadKind (refuse_if b refusal.BadSlot (refuse_if c refusal.BadNode (refuse_if d refusal.BadBlock later))) ≡ Err r
    go true b c d e = e
    go false true c d e = e
    go false false true d e = e
    go false false false true e = e
    go false false false false e = cc

-- What is read of a vote, by its tests: their refusal, or what the leftovers leave.
pub read_refused : (count : ℕ) (v : Vote) (next end : ℕ) (r : Refusal) → vote_tests count v (Ok tt) ≡ Err r → read_to count v next end ≡ Err r
unfolding read_to read_on
read_refused count v next end r e = rw (tests_refused count v r (refuse_if (ltb next end) refusal.BadLength (Ok tt)) e)

pub read_tested : (count : ℕ) (v : Vote) (next end : ℕ) → vote_tests count v (Ok tt) ≡ Ok tt
    → read_to count v next end ≡ read_on (refuse_if (ltb next end) refusal.BadLength (Ok tt)) v
unfolding read_to
read_tested count v next end e = rw (tests_then count v (refuse_if (ltb next end) refusal.BadLength (Ok tt)) e)

-- What the writer asked before it wrote.
pub message_fine : (count room : ℕ) (v : Vote) → message_verdict count room v ≡ Ok tt → (count_fits count ≡ true) × (16 ≤ room) × Tested count v (Ok tt)
unfolding message_verdict
message_fine count room v e =
    let one = refuse_fine (not (count_fits count)) refusal.BadSizes _ e in
    let nine = refuse_fine (ltb room 16) refusal.NoRoom _ one.1 in
    (not-false (count_fits count) one.0, ltb-false room 16 nine.0, tests_fine count v (Ok tt) nine.1)

pub fine_message : (count room : ℕ) (v : Vote) → count_fits count ≡ true → 16 ≤ room → Tested count v (Ok tt) → message_verdict count room v ≡ Ok tt
unfolding message_verdict refuse_if
fine_message count room v f l t = rw (f, le-ltb room 16 l) (fine_tests count v (Ok tt) t)

-- ---- lengths

-- A number below 128 ^ (k + 1) has at most k + 1 groups.
groups_short : (k f m : ℕ) → m < 128 ^ suc k → length (groups_of f m) ≤ suc k
unfolding groups_of
groups_short k zero m h = omega arith
groups_short k (suc f) m h = go (leb 128 m) refl (λ j l. groups_short j f (m / 128) l)
  where
    more : (k : ℕ) → m < 128 ^ suc k → 128 ≤ m → ((j : ℕ) → m / 128 < 128 ^ suc j → length (groups_of f (m / 128)) ≤ suc j) → length (groups_of f (m / 128)) ≤ k
    more zero h q ih = absurd (omega arith)
    more (suc j) h q ih = ih j (let e : m < 128 ^ suc j * 128 = rw (pow-suc 128 (suc j)) at h in omega arith)

    go : (t : Bool) → leb 128 m ≡ t → ((j : ℕ) → m / 128 < 128 ^ suc j → length (groups_of f (m / 128)) ≤ suc j) → length (groups_of (suc f) m) ≤ suc k
    go false e ih = rw (groups_last (suc f) m (leb-false 128 m e)) (omega arith)
    go true e ih = rw (groups_more f m (leb-true 128 m e)) (let r = more k h (leb-true 128 m e) ih in omega arith)

number_short : (k v : ℕ) → v < 128 ^ suc k → length (number_bytes v) ≤ suc k
unfolding number_bytes
number_short k v h = groups_short k 9 v h

pub kind_few : (k : VoteKind) → vote_number k < 128
unfolding vote_number
kind_few vote.Notar = omega arith
kind_few vote.NotarFallback = omega arith
kind_few vote.Skip = omega arith
kind_few vote.SkipFallback = omega arith
kind_few vote.Final = omega arith
kind_few vote.Other = omega arith

pub slot_few : (s : ℕ) → slot_ok s ≡ true → s ≤ last_slot
unfolding slot_ok
slot_few s e = leb-true s last_slot (and_both (leb 1 s) (leb s last_slot) e).1

pub count_few : (count : ℕ) → count_fits count ≡ true → count ≤ most_nodes
count_few count e = leb-true count most_nodes (and_both (leb 1 count) (leb count most_nodes) e).1

pub message_length : (v : Vote)
    → length (message_bytes v) ≡ length (number_bytes (vote_number v.kind)) + length (number_bytes v.node.0) + length (number_bytes v.slot.0) + length (number_bytes v.block)
unfolding message_bytes
message_length v = simp length-append (omega arith)

-- One byte for the kind, at most two for the node, one for the slot, at most ten for the block.
pub message_few : (count : ℕ) (v : Vote) (later : Result ⊤ Refusal) → count_fits count ≡ true → Tested count v later → length (message_bytes v) ≤ 16
message_few count v later f t =
    let c = count_few count f in
    let a = number_short 0 (vote_number v.kind) (kind_few v.kind) in
    let b = number_short 1 v.node.0 (omega (arith, t.node)) in
    let d = number_short 0 v.slot.0 (omega (arith, slot_few v.slot.0 t.slot)) in
    omega (arith, message_length v, number_few v.block)
