-- The history is computed.
use mathlib.Core.Path.{◌≡◌, refl, ap, ◌∙◌, subst}
use mathlib.Core.Bool.{Bool, true, false, ◌&&◌}
use mathlib.Core.List.{List, ◌++◌}
use Prim.Native.Nat.{ℕ}
use Rattle.rulebook.specs.Ledger.{fresh}
use Rattle.rulebook.specs.Rules.{Record}
use Rattle.rulebook.specs.Computes.{rules}
use Rattle.rulebook.specs.Writers.{write_proof}
use Rattle.settling.specs.Steps.{life}
use Rattle.safety.specs.Ring.{after_all}
use Rattle.safety.specs.Examples.{mail_test, genuine_test}
use Rattle.rulebook.specs.Taking.{Arrival}
use Rattle.answers.specs.Face.{Started}
use Rattle.seen.specs.Seen.{Seen}
use Rattle.calls.specs.Life.{begun, Calls, none}
use Rattle.calls.proofs.Life.{life_is_seen}
use Rattle.calls.proofs.Reached.{can_go_on}
use Rattle.restart.specs.Deeds.{Called, AllCalled, after_deed, after_deeds, all_told, in_order, all_in_order}
use Rattle.restart.specs.Histories.{three, fed_zero, fed_one, fed_before, fed_after, told_zero, told_one, told_before, told_after, proof_of_seven, proof_of_eight, VotesTwice, CanBeHad}
use Rattle.restart.proofs.Deeds.{starts_alike}

zero_told : life (fresh three 0 1) fed_zero ≡ told_zero
unfolding rules life
zero_told = refl

one_told : life (fresh three 1 1) fed_one ≡ told_one
unfolding rules life
one_told = refl

before_told : life (fresh three 2 1) fed_before ≡ told_before
unfolding rules life
before_told = refl

after_told : life (fresh three 2 1) fed_after ≡ told_after
unfolding rules life
after_told = refl

once_told : life (fresh three 2 1) (fed_before ++ fed_after) ≡ told_before
unfolding rules life
once_told = refl

seven_written : (write_proof (after_all (fresh three 0 1) fed_zero) 64 1 7).bytes ≡ proof_of_seven
unfolding rules after_all
seven_written = refl

eight_written : (write_proof (after_all (fresh three 1 1) fed_one) 64 1 8).bytes ≡ proof_of_eight
unfolding rules after_all
eight_written = refl

-- A test that is followed by one that fails.
fails : (a : Bool) → (a && false) ≡ false
fails true = refl
fails false = refl

pub votes_twice : VotesTwice
unfolding rules mail_test genuine_test after_deed after_deeds in_order all_in_order all_told
votes_twice =
    record {
      zero = zero_told;
      one = one_told;
      before = before_told;
      after = after_told;
      mail = tt;
      signed = tt;
      written_seven = seven_written;
      written_eight = eight_written;
      accepted_seven = refl;
      accepted_eight = refl;
      sent_both = λ words v w. refl;
      not_in_order = λ words v w. refl;
      backup_sent_both = λ words v w. refl;
      no_backup = λ words v w. fails (all_told v.told told_before);
      but_for_it = λ words v w e f. (ap (λ (rs : List Record). all_told rs told_before && true) e, ap (λ (rs : List Record). all_told rs told_after && true) f);
      in_order_once = once_told;
    }

-- ---- such calls can be had

-- A life from that start with which these things arrived.
had : (found words : List ℕ) → Started found three 2 1 0 words → (is : List Arrival) → (v : Seen) × Calls (begun words) v × (v.told ≡ life (fresh three 2 1) is)
had found words s is =
    let g = can_go_on three 2 1 (begun words) (record { found = found; words = words; start = s; calls = none }) is in
    let v = g.0 in
    let h = g.1 in
    let e = starts_alike three 2 1 h.found h.words found words h.start s in
    (v, subst (λ (ws : List ℕ). Calls (begun ws) v) e h.calls, (life_is_seen three 2 1 v h).lived.records ∙ ap (life (fresh three 2 1)) g.2)

pub can_be_had : CanBeHad
unfolding AllCalled Called after_deed
can_be_had found words s =
    let a = had found words s fed_before in
    let b = had found words s fed_after in
    (a.0, b.0, (a.1, (tt, (tt, (b.1, (tt, tt))))), a.2 ∙ before_told, b.2 ∙ after_told)
