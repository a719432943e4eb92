-- Records over a life; and what an arrival leaves that makes no record: no rule has applied, so that no window was armed.
use Rattle.std.specs.Prelude.{⊤, Result, Ok, Err}
use mathlib.Core.Path.{◌≡◌, refl, sym, ap, ◌∙◌}
use mathlib.Core.Bool.{Bool, true, false, ◌||◌}
use mathlib.Core.List.{List, [], ◌∷◌, ◌++◌, append_assoc, reverse}
use Prim.Native.Nat.{ℕ}
use native.Mathlib.Omega.{arith}
use lib.ListN.{length, length-append, length-reverse}
use Rattle.rulebook.specs.declared.Input.{Input}
use Rattle.rulebook.specs.declared.Input.TheVariants as input
use Rattle.rulebook.specs.declared.VoteKind.TheVariants as vote
use Rattle.rulebook.specs.declared.Refusal.{Refusal}
use Rattle.rulebook.specs.Certificates.{Certificate}
use Rattle.rulebook.specs.Ledger.{Ledger, table_of, no_initial, own_cell, certificates_at, put_timed_out}
use Rattle.rulebook.specs.Votes.{store_vote}
use Rattle.rulebook.specs.Rules.{Record, State, state_of, cast, cast_skip, cast_skips}
use Rattle.rulebook.specs.Run.{made, run}
use Rattle.rulebook.specs.Inputs.{Fed, keep_block, verdict, time_out, intake, fed_with, refused_with, fed_on, feed}
use Rattle.rulebook.specs.Checker.{judge}
use Rattle.rulebook.specs.Taking.{kept_verdict, keep_certificate, taken_on, taken, Arrival, of_input, of_packet, served}
use Rattle.rule_laws.proofs.ToolLaws.{given_keeps}
use Rattle.rule_laws.proofs.AcceptedLaws.{packet_cases}
use Rattle.settling.specs.Facts.{Sound}
use Rattle.settling.specs.Steps.{kind_for, life}
use Rattle.settling.proofs.Sounding.{sound_certificate}
use Rattle.settling.proofs.Spending.{came_more, run_comes}
use Rattle.settling.proofs.Life.{intake_paid, taken_fine, served_paid}
use Rattle.safety.specs.Ballots.{same_record, among}
use Rattle.safety.specs.Ring.{after_all, made_in}

-- ---- records

-- A record is made where it is among the records of the life.
among_both : (xs ys : List Record) (r : Record) → among (xs ++ ys) r ≡ (among xs r || among ys r)
among_both [] ys r = refl
among_both (x ∷ xs) ys r = ap (λ (b : Bool). same_record x r || b) (among_both xs ys r) ∙ or_assoc (same_record x r) (among xs r) (among ys r)
  where
    or_assoc : (a b c : Bool) → (a || (b || c)) ≡ ((a || b) || c)
    or_assoc true b c = refl
    or_assoc false b c = refl

pub made_among : (l : Ledger) (is : List Arrival) (r : Record) → made_in l is r ≡ among (life l is) r
unfolding made_in life
made_among l [] r = refl
made_among l (i ∷ is) r =
    ap (λ (b : Bool). among (served l i).records r || b) (made_among (served l i).ledger is r) ∙ sym (among_both (served l i).records (life (served l i).ledger is) r)

-- The records of a life, and then those of the rest.
pub life_both : (l : Ledger) (is js : List Arrival) → life l (is ++ js) ≡ life l is ++ life (after_all l is) js
unfolding life after_all
life_both l [] js = refl
life_both l (i ∷ is) js =
    ap (λ (rs : List Record). (served l i).records ++ rs) (life_both (served l i).ledger is js)
    ∙ sym (append_assoc (served l i).records (life (served l i).ledger is) (life (after_all (served l i).ledger is) js))

-- ---- armed windows

skip_armed : (o : State) (s : ℕ) → (cast_skip o s).ledger.armed ≡ o.ledger.armed
unfolding cast_skip cast store_vote
skip_armed o s = given_keeps (λ (p : State). p.ledger.armed ≡ o.ledger.armed) (no_initial (own_cell o.ledger s)) o (λ _. cast o s vote.Skip 0) refl (λ _. refl)

skips_armed : (o : State) (s : ℕ) → (cast_skips o s).ledger.armed ≡ o.ledger.armed
unfolding cast_skips
skips_armed o s = skip_armed _ _ ∙ (skip_armed _ _ ∙ (skip_armed _ _ ∙ skip_armed o _))

pub intake_armed : (l : Ledger) (i : Input) → (intake l i).ledger.armed ≡ l.armed
unfolding intake store_vote keep_block time_out
intake_armed l (input.Vote v) = refl
intake_armed l (input.Block s b) = refl
intake_armed l (input.Timeout s) =
    let o = state_of (put_timed_out l s.0) [] in
    given_keeps (λ (p : State). p.ledger.armed ≡ l.armed) (no_initial (own_cell l s.0)) o (λ _. cast_skips o s.0) refl (λ _. skips_armed o s.0)
intake_armed l input.Look = refl

-- A run that leaves no record has left everything.
run_armed : (o : State) → Sound o.ledger → length (reverse (run o).records) ≡ 0 → (run o).ledger.armed ≡ o.ledger.armed
run_armed o h e =
    let c = run_comes o h in
    let none : made (run o) ≡ made o = omega (arith, e, length-reverse (run o).records, came_more o (run o) c) in
    ap (λ (p : State). p.ledger.armed) (c.still none)

module _ (l : Ledger) (h : Sound l) where
  -- Without a record the windows stay.
  abbrev Stays : Fed → Type 0
  Stays f = length f.records ≡ 0 → f.ledger.armed ≡ l.armed

  fed_armed : (v : Result ⊤ Refusal) (i : Input) → verdict l i ≡ v → Stays (fed_on v l i)
  unfolding fed_on fed_with refused_with
  fed_armed (Ok tt) i e q = run_armed (intake l i) (intake_paid l h i e).sound q ∙ intake_armed l i
  fed_armed (Err r) i e q = refl

  taken_armed : (v : Result ⊤ Refusal) (c : Certificate) → judge (table_of l) c ≡ Ok tt → kept_verdict (certificates_at l c.slot) (kind_for l c) c.block ≡ v → Stays (taken_on v l c)
  unfolding taken_on fed_with refused_with keep_certificate
  taken_armed (Ok tt) c j e q = run_armed (state_of (keep_certificate l c) []) (sound_certificate l h c (taken_fine l h c j e)) q
  taken_armed (Err r) c j e q = refl

  served_armed : (i : Arrival) → Stays (served l i)
  unfolding served feed taken refused_with
  served_armed (of_input i) = fed_armed (verdict l i) i refl
  served_armed (of_packet bytes) =
      packet_cases Stays l bytes (λ r q. refl) (λ c next e j. taken_armed (kept_verdict (certificates_at l c.slot) (kind_for l c) c.block) c j refl)

-- So they stay over a life without records.
pub life_armed : (l : Ledger) (is : List Arrival) → Sound l → length (life l is) ≡ 0 → (after_all l is).armed ≡ l.armed
unfolding life after_all
life_armed l [] h e = refl
life_armed l (i ∷ is) h e =
    let next = (served l i).ledger in
    let both = length-append (served l i).records (life next is) in
    life_armed next is (served_paid l h i).sound (omega (arith, e, both)) ∙ served_armed l h i (omega (arith, e, both))
