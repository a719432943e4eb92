-- The search for the first rule that applies and the run, as the loops go through them over the lent memory. Assumes nothing.
use mathlib.Core.Path.{◌≡◌, refl, sym, ap, ◌∙◌, subst}
use mathlib.Core.Bool.{Bool, true, false, ◌&&◌}
use mathlib.Core.List.{List}
use Prim.Native.Nat.{ℕ, zero, suc, ◌+◌, ◌-◌, ◌≤◌, ◌<◌}
use native.Mathlib.Omega.{arith}
use lib.ListN.{length}
use lib.Dec.{eqb, leb}
use borrow.Author.Tests.{eqb-true, eqb-false, leb-true, le-leb}
use Rattle.rulebook.specs.Weights.{last_slot, total_to}
use Rattle.rulebook.specs.Ledger.{Ledger, is_watcher}
use Rattle.rulebook.specs.Rules.{State, rule_g}
use Rattle.rulebook.specs.Run.{made, rule_at, first_rule, first_slot, scan, run}
use Rattle.rule_laws.proofs.ToolLaws.{by_test, and_both, both_and, true_not_false}
use Rattle.record.specs.Layout.{record_words, places_in, ledger_of}
use Rattle.record.specs.Tabled.{Tabled}
use Rattle.record.proofs.Places.{places_words}
use Rattle.settling.specs.Facts.{Sound}
use Rattle.settling.specs.Spare.{spare}
use Rattle.settling.specs.Steps.{Running}
use Rattle.settling.proofs.FactLaws.{formed}
use Rattle.settling.proofs.RunLaws.{passed_over, rule_end, slot_step, slot_stop, slot_end, scan_is, run_quiet}
use Rattle.settling.proofs.Spending.{rules_come, scan_comes}
use Rattle.settling.proofs.Settling.{running_start, running_more, running_less, running_done}
use Rattle.voter.specs.Outbox.{state_in, records_in, Moved}
use Rattle.voter.specs.Voting.{Live, LiveAt, Onward}
use Rattle.voter.proofs.OutboxLaws.{made_in}
use Rattle.voter.proofs.LiveLaws.{onward_none, onward_is, onward_then}
use Rattle.fallbacks.specs.UnderWay.{UnderWay, UnderWayAt, VotingAt}
use Rattle.finality.specs.Telling.{walk_begins}
use Rattle.finality.proofs.FinalLaws.{walk_off}
use Rattle.looks.specs.Looks.{Bounds}
use Rattle.looks.proofs.Staying.{bounds_scan, bounds_run}
use Rattle.dormancy.specs.Dormant.{is_dormant, is_stranded, first_asked}
use Rattle.dormancy.proofs.SlotLaws.{rules_on, rules_off, pass, one_rule, only_g}
use Rattle.dormancy.proofs.DormantLaws.{dormant_quiet}
use Rattle.dormancy.proofs.Stranded.{unasked_quiet}
use Rattle.stirring.specs.Touched.{Touched}
use Rattle.stirring.proofs.Narrow.{touched_narrow, touched_walked, run_on}
use Rattle.run.specs.Tried.{TriedBelow}

-- The stakes stay a table.
pub under_way : {ws out ws' left : List ℕ} {at now : ℕ} {q : State} → Tabled (ledger_of ws) → Onward ws out at ws' left now q → UnderWay ws' left now
under_way h a =
    let e = a.same in
    record {
      live = a.live;
      table =
          record {
            few = omega (arith, h.few, e.count, ap length e.stakes);
            sum = (λ i. total_to (e.stakes i) (e.count i)) ∙ h.sum ∙ sym e.total;
            some = omega (arith, h.some, e.total);
            light = omega (arith, h.light, e.total);
          };
    }

pub under_way_at : {ws out : List ℕ} {at s : ℕ} → UnderWay ws out at → 1 ≤ s → s ≤ last_slot → UnderWayAt ws out at s
under_way_at v a b = record { live = record { live = v.live; low = a; high = b }; table = v.table }

-- A rule that votes is tried: the node is no watcher.
pub voting_at : {ws out : List ℕ} {at s : ℕ} → UnderWayAt ws out at s → (w : Bool) (r : ℕ) → w ≡ is_watcher (ledger_of ws) → (w && (leb 1 r && leb r 4)) ≡ false → 1 ≤ r → r ≤ 4 → VotingAt ws out at s
voting_at v w r e f low high = record { under = v; votes = sym e ∙ votes w f }
  where
    votes : (x : Bool) → (x && (leb 1 r && leb r 4)) ≡ false → x ≡ false
    votes true t = true_not_false (leb 1 r && leb r 4) (both_and (leb 1 r) (leb r 4) (le-leb 1 r low) (le-leb r 4 high)) t
    votes false t = refl

-- A watcher passes over a rule that votes.
pub watcher_passes : {ws out : List ℕ} {at : ℕ} (s : ℕ) → Live ws out at → (w : Bool) (r : ℕ) → w ≡ is_watcher (ledger_of ws) → (w && (leb 1 r && leb r 4)) ≡ true
    → Onward ws out at ws out at (rule_at r (state_in ws out at) s)
watcher_passes {ws = ws} {out = out} {at = at} s v w r e f =
    let h = and_both w (leb 1 r && leb r 4) f in
    let g = and_both (leb 1 r) (leb r 4) h.1 in
    onward_none v (sym (passed_over (state_in ws out at) s (sym e ∙ h.0) r (leb-true 1 r g.0) (leb-true r 4 g.1)))

-- There is no eighth rule.
pub rule_beyond : (r : ℕ) (o : State) (s : ℕ) → (r ≡ 0 → ⊥) → (r ≡ 1 → ⊥) → (r ≡ 2 → ⊥) → (r ≡ 3 → ⊥) → (r ≡ 4 → ⊥) → (r ≡ 5 → ⊥) → (r ≡ 6 → ⊥) → o ≡ rule_at r o s
unfolding rule_at
rule_beyond zero o s a b c d e f g = absurd (a refl)
rule_beyond (suc zero) o s a b c d e f g = absurd (b refl)
rule_beyond (suc (suc zero)) o s a b c d e f g = absurd (c refl)
rule_beyond (suc (suc (suc zero))) o s a b c d e f g = absurd (d refl)
rule_beyond (suc (suc (suc (suc zero)))) o s a b c d e f g = absurd (e refl)
rule_beyond (suc (suc (suc (suc (suc zero))))) o s a b c d e f g = absurd (f refl)
rule_beyond (suc (suc (suc (suc (suc (suc zero)))))) o s a b c d e f g = absurd (g refl)
rule_beyond (suc (suc (suc (suc (suc (suc (suc r))))))) o s a b c d e f g = refl

-- The words of one node are as many as before: its stakes tell the places.
pub held_long : {ws out ws' left : List ℕ} {at now : ℕ} {q : State} → Live ws out at → Onward ws out at ws' left now q → length ws' ≡ length ws
held_long {ws = ws} {ws' = ws'} v a =
    let p : places_in ws' ≡ places_in ws = sym (places_words (places_in ws') ws') ∙ ap length a.same.stakes ∙ places_words (places_in ws) ws in
    a.live.long ∙ ap record_words p ∙ sym v.long

-- As many records as the outbox holds.
pub moved_made : {ws out ws' left : List ℕ} {at now : ℕ} {q : State} → Moved ws out at ws' left now q → made q ≡ now
moved_made {left = left} {now = now} m = sym (ap (λ (x : State). length x.records) m.is) ∙ made_in left now

-- ---- n rules of slot s, from rule r on, are left of the search that ends in state q; the memory still holds the state of its start

pub record Going (ws out : List ℕ) (at : ℕ) (ws' left : List ℕ) (now s n r : ℕ) (q : State) : Type 0 where
  pub still : now ≡ at
  pub held : Onward ws out at ws' left now (state_in ws out at)
  pub ends : first_rule n r (state_in ws out at) s ≡ q

-- ---- the first k of them are tried

module _ {ws out ws' out' ws'' out'' : List ℕ} {at now now' : ℕ} {q : State} (s k n r : ℕ) (h : Going ws out at ws' out' now s (k + n) r q)
    (took : Onward ws' out' now ws'' out'' now' (first_rule k r (state_in ws' out' now) s)) where
  tried : Onward ws out at ws'' out'' now' (first_rule k r (state_in ws out at) s)
  tried = onward_then (λ (x : State). first_rule k r x s) h.held took

  -- They made no record: the others are left.
  pub going_more : LiveAt ws out at s → now' ≡ at → Going ws out at ws'' out'' now' s n (r + k) q
  going_more v e =
      let o : State = state_in ws out at in
      let same : made (first_rule k r o s) ≡ made o = moved_made tried.moved ∙ e ∙ sym (made_in out at) in
      let back : first_rule k r o s ≡ o = (rules_come o v.live.sound s v.low v.high k r).still same in
      record {
        still = e;
        held = onward_is tried back;
        ends = ap (λ (x : State). first_rule n (r + k) x s) (sym back) ∙ sym (rules_on k n r o s same) ∙ h.ends;
      }

  -- They made one: that is the end.
  pub going_found : (now' ≡ at → ⊥) → Onward ws out at ws'' out'' now' q
  going_found ne =
      let o : State = state_in ws out at in
      onward_is tried (sym (rules_off k n r o s (λ e. ne (sym (moved_made tried.moved) ∙ e ∙ made_in out at))) ∙ h.ends)

-- ---- the invariant of the rules of one slot: those from r on are left

pub record Trying (ws out : List ℕ) (at : ℕ) (ws' left : List ℕ) (now s r : ℕ) : Type 0 where
  pub few : r ≤ 7
  pub kept : length left ≡ length out
  pub going : Going ws out at ws' left now s (7 - r) r (first_rule 7 0 (state_in ws out at) s)

-- ---- rule r is tried

module _ {ws out ws' out' ws'' out'' : List ℕ} {at now now' s r : ℕ} (h : Trying ws out at ws' out' now s r) (b : r < 7)
    (took : Onward ws' out' now ws'' out'' now' (rule_at r (state_in ws' out' now) s)) where
  one_left : 7 - r ≡ 1 + (7 - (r + 1))
  one_left = omega arith

  left_going : Going ws out at ws' out' now s (1 + (7 - (r + 1))) r (first_rule 7 0 (state_in ws out at) s)
  left_going = subst (λ (n : ℕ). Going ws out at ws' out' now s n r (first_rule 7 0 (state_in ws out at) s)) one_left h.going

  alone : Onward ws' out' now ws'' out'' now' (first_rule 1 r (state_in ws' out' now) s)
  alone = onward_is took (sym (one_rule r (state_in ws' out' now) s))

  pub trying_more : LiveAt ws out at s → length out'' ≡ length out' → now' ≡ at → Trying ws out at ws'' out'' now' s (r + 1)
  trying_more v k e = record { few = omega arith; kept = k ∙ h.kept; going = going_more s 1 (7 - (r + 1)) r left_going alone v e }

  pub trying_found : (now' ≡ at → ⊥) → Onward ws out at ws'' out'' now' (first_rule 7 0 (state_in ws out at) s)
  trying_found ne = going_found s 1 (7 - (r + 1)) r left_going alone ne

-- All were tried.
pub trying_end : {ws out ws' out' : List ℕ} {at now s r : ℕ} → Trying ws out at ws' out' now s r → 7 ≤ r → Onward ws out at ws' out' now (first_rule 7 0 (state_in ws out at) s)
trying_end {ws = ws} {out = out} {at = at} {s = s} {r = r} h b =
    onward_is h.going.held (sym (rule_end (state_in ws out at) s r (7 - r) (omega arith)) ∙ h.going.ends)

-- A dormant slot is passed over: none of its rules applies.
pub dormant_passes : {ws out : List ℕ} {at s : ℕ} → UnderWayAt ws out at s → (looks : List ℕ) → Bounds (ledger_of ws) looks → (d : Bool) → d ≡ is_dormant (ledger_of ws) looks s → d ≡ true → Onward ws out at ws out at (first_rule 7 0 (state_in ws out at) s)
dormant_passes {ws = ws} {out = out} {at = at} {s = s} v looks b d e t =
    onward_none v.live.live
    (sym (dormant_quiet (state_in ws out at) looks b s v.live.low v.table ((formed (ledger_of ws) v.live.live.sound.formed).rows s v.live.low v.live.high).blocks (sym e ∙ t)))

-- Of the others the rules from the first asked on are left: those before it do not apply.
pub trying_asked : {ws out : List ℕ} {at s : ℕ} → UnderWayAt ws out at s → (looks : List ℕ) → Bounds (ledger_of ws) looks → (r : ℕ) → r ≡ first_asked (is_stranded (ledger_of ws) looks s) → Trying ws out at ws out at s r
trying_asked {ws = ws} {out = out} {at = at} {s = s} v looks b r e =
    let h = unasked_quiet (state_in ws out at) looks b s v.live.low ((formed (ledger_of ws) v.live.live.sound.formed).rows s v.live.low v.live.high).blocks r e in
    record { few = h.0; kept = refl; going = record { still = refl; held = onward_none v.live.live refl; ends = h.1 } }

-- ---- what is kept in mind

-- The memory holds the ledger of that state.
held_ledger : {ws out ws' left : List ℕ} {at now : ℕ} {q : State} → Onward ws out at ws' left now q → ledger_of ws' ≡ q.ledger
held_ledger a = ap (λ (x : State). x.ledger) a.moved.is

-- The memory still holds the state of the start.
pub bounds_still : {ws out ws' left : List ℕ} {at now : ℕ} → Onward ws out at ws' left now (state_in ws out at) → (looks : List ℕ) → Bounds (ledger_of ws) looks → Bounds (ledger_of ws') looks
bounds_still a looks b = subst (λ (l : Ledger). Bounds l looks) (sym (held_ledger a)) b

-- A scan has run, or the rules until none applies.
pub bounds_scanned : {ws out ws' left : List ℕ} {at now : ℕ} → Live ws out at → Onward ws out at ws' left now (scan (state_in ws out at)) → (looks : List ℕ) → Bounds (ledger_of ws) looks → Bounds (ledger_of ws') looks
bounds_scanned {ws = ws} {out = out} {at = at} v a looks b =
    subst (λ (l : Ledger). Bounds l looks) (sym (held_ledger a)) (bounds_scan (state_in ws out at) v.sound looks b)

pub bounds_settled : {ws out ws' left : List ℕ} {at now : ℕ} → Live ws out at → Onward ws out at ws' left now (run (state_in ws out at)) → (looks : List ℕ) → Bounds (ledger_of ws) looks → Bounds (ledger_of ws') looks
bounds_settled {ws = ws} {out = out} {at = at} v a looks b =
    subst (λ (l : Ledger). Bounds l looks) (sym (held_ledger a)) (bounds_run (state_in ws out at) v.sound looks b)

-- ---- the walk of a slot in which no rule applies has nothing to tell

slot_walked : (o : State) (s : ℕ) → Sound o.ledger → 1 ≤ s → s ≤ last_slot → first_rule 7 0 o s ≡ o → rule_g o s ≡ o
slot_walked o s h low high e =
    let six : made (first_rule 6 0 o s) ≡ made o =
    by_test (eqb (made (first_rule 6 0 o s)) (made o)) (λ t. eqb-true (made (first_rule 6 0 o s)) (made o) t)
    (λ t. ap made (sym (rules_off 6 1 0 o s (eqb-false (made (first_rule 6 0 o s)) (made o) t)) ∙ e)) in
    only_g o s ∙ sym (pass o s 6 1 0 ((rules_come o h s low high 6 0).still six)) ∙ e

-- The memory still holds the state whose walks below were tried.
pub still_walked : (o p : State) (s : ℕ) → p ≡ o → ((q : ℕ) → 1 ≤ q → q < s → rule_g o q ≡ o) → (q : ℕ) → 1 ≤ q → q < s → rule_g p q ≡ p
still_walked o p s e h q a b = ap (λ (x : State). rule_g x q) e ∙ h q a b ∙ sym e

-- A walk that does not begin has nothing to tell.
pub walk_passes : {ws out : List ℕ} {at s : ℕ} → TriedBelow ws out at s → (b : Bool) → b ≡ walk_begins (ledger_of ws) s → b ≡ false → Onward ws out at ws out at (rule_g (state_in ws out at) s)
walk_passes {ws = ws} {out = out} {at = at} {s = s} v b e f =
    let u = v.under.live in
    onward_none u.live (sym (walk_off (state_in ws out at) s u.live.sound u.low u.high v.walked (sym e ∙ f)))

-- ---- the invariant of the search: the memory still holds the state of its start, and the slots from s on are left

pub record Searching (ws out : List ℕ) (at : ℕ) (ws' left : List ℕ) (now s : ℕ) : Type 0 where
  pub low : 1 ≤ s
  pub high : s ≤ 17
  pub still : now ≡ at
  pub kept : length left ≡ length out
  pub held : Onward ws out at ws' left now (state_in ws out at)
  pub walked : (q : ℕ) → 1 ≤ q → q < s → rule_g (state_in ws out at) q ≡ state_in ws out at
  pub ends : first_slot (17 - s) s (state_in ws out at) ≡ scan (state_in ws out at)

-- The search begins at slot 1.
pub searching_start : {ws out : List ℕ} {at : ℕ} → Live ws out at → Searching ws out at ws out at 1
searching_start {ws = ws} {out = out} {at = at} v =
    record {
      low = omega arith;
      high = omega arith;
      still = refl;
      kept = refl;
      held = onward_none v refl;
      walked = λ q a b. absurd (omega arith);
      ends = sym (scan_is (state_in ws out at));
    }

-- ---- slot s is tried

module _ {ws out ws' out' ws'' out'' : List ℕ} {at now now' s : ℕ} (h : Searching ws out at ws' out' now s) (b : s < 17)
    (took : Onward ws' out' now ws'' out'' now' (first_rule 7 0 (state_in ws' out' now) s)) where
  slot_tried : Onward ws out at ws'' out'' now' (first_rule 7 0 (state_in ws out at) s)
  slot_tried = onward_then (λ (x : State). first_rule 7 0 x s) h.held took

  one_less : 17 - s ≡ (17 - (s + 1)) + 1
  one_less = omega arith

  below : (q : ℕ) → (q ≡ s → ⊥) → q < s + 1 → q < s
  below q ne h = omega (arith, ne)

  -- No rule of it applies: on to the next slot.
  pub searching_more : Live ws out at → length out'' ≡ length out' → now' ≡ at → Searching ws out at ws'' out'' now' (s + 1)
  searching_more v k e =
      let o : State = state_in ws out at in
      let p : State = first_rule 7 0 o s in
      let same : made p ≡ made o = moved_made slot_tried.moved ∙ e ∙ sym (made_in out at) in
      let back : p ≡ o = (rules_come o v.sound s h.low (omega arith) 7 0).still same in
      record {
        low = omega (arith, h.low);
        high = omega arith;
        still = e;
        kept = k ∙ h.kept;
        held = onward_is slot_tried back;
        walked = λ q one less. by_test (eqb q s) (λ t. ap (λ (x : ℕ). rule_g o x) (eqb-true q s t) ∙ slot_walked o s v.sound h.low (omega arith) back) (λ t. h.walked q one (below q (eqb-false q s t) less));
        ends = ap (first_slot (17 - (s + 1)) (s + 1)) (sym back) ∙ sym (slot_step o p s (17 - s) (17 - (s + 1)) one_less refl same) ∙ h.ends;
      }

  -- One does: it is what the scan does.
  pub searching_found : (now' ≡ at → ⊥) → Onward ws out at ws'' out'' now' (scan (state_in ws out at))
  searching_found ne =
      let o : State = state_in ws out at in
      let p : State = first_rule 7 0 o s in
      onward_is slot_tried
      (sym (slot_stop o p s (17 - s) (17 - (s + 1)) one_less refl (λ e. ne (sym (moved_made slot_tried.moved) ∙ e ∙ made_in out at))) ∙ h.ends)

-- All slots were searched.
pub searching_end : {ws out ws' out' : List ℕ} {at now s : ℕ} → Searching ws out at ws' out' now s → 17 ≤ s → Onward ws out at ws' out' now (scan (state_in ws out at))
searching_end {ws = ws} {out = out} {at = at} {s = s} h b =
    onward_is h.held (sym (slot_end (state_in ws out at) s (17 - s) (omega arith)) ∙ h.ends)

-- ---- the invariant of settling: the memory holds a state that the run goes through

pub record Settling (ws out : List ℕ) (at : ℕ) (ws' left : List ℕ) (now : ℕ) : Type 0 where
  pub kept : length left ≡ length out
  pub held : Onward ws out at ws' left now (state_in ws' left now)
  pub going : Running (state_in ws out at) (state_in ws' left now)

pub settling_start : {ws out : List ℕ} {at : ℕ} → Live ws out at → Settling ws out at ws out at
settling_start {ws = ws} {out = out} {at = at} v =
    record { kept = refl; held = onward_none v refl; going = running_start (state_in ws out at) v.sound }

-- ---- one scan more

module _ {ws out ws' out' ws'' out'' : List ℕ} {at now now' : ℕ} (h : Settling ws out at ws' out' now)
    (took : Onward ws' out' now ws'' out'' now' (scan (state_in ws' out' now))) where
  fresh_made : (now' ≡ now → ⊥) → made (state_in ws'' out'' now') ≡ made (state_in ws' out' now) → ⊥
  fresh_made ne e = ne (sym (made_in out'' now') ∙ e ∙ made_in out' now)

  -- It made a record: the run goes on, and the potential is less.
  pub settling_more : length out'' ≡ length out' → (now' ≡ now → ⊥) → Settling ws out at ws'' out'' now'
  settling_more e ne =
      record {
        kept = e ∙ h.kept;
        held = onward_then (λ (x : State). state_in ws'' out'' now') h.held (onward_is took (sym took.moved.is));
        going = running_more (state_in ws out at) (state_in ws' out' now) (state_in ws'' out'' now') h.going took.moved.is (fresh_made ne);
      }

  pub settling_less : (now' ≡ now → ⊥) → spare (ledger_of ws'') < spare (ledger_of ws')
  settling_less ne = running_less (state_in ws out at) (state_in ws' out' now) (state_in ws'' out'' now') h.going took.moved.is (fresh_made ne)

  -- It made none: the memory holds what the run gives.
  pub settling_done : now' ≡ now → Onward ws out at ws'' out'' now (run (state_in ws out at))
  settling_done e =
      let same : made (scan (state_in ws' out' now)) ≡ made (state_in ws' out' now) = moved_made took.moved ∙ e ∙ sym (made_in out' now) in
      let quiet : made (state_in ws'' out'' now') ≡ made (state_in ws' out' now) = made_in out'' now' ∙ e ∙ sym (made_in out' now) in
      let ran : run (state_in ws out at) ≡ state_in ws' out' now =
      running_done (state_in ws out at) (state_in ws' out' now) (state_in ws'' out'' now') h.going took.moved.is quiet in
      let stays : scan (state_in ws' out' now) ≡ state_in ws' out' now = (scan_comes (state_in ws' out' now) h.going.came.sound).still same in
      subst (λ (n : ℕ). Onward ws out at ws'' out'' n (run (state_in ws out at))) e
      (onward_is (onward_then (λ (x : State). scan x) h.held took) (stays ∙ sym ran))

-- ---- behind a stored vote: rules C to F of its slot, those from r on are left

pub record Asking (ws out : List ℕ) (at : ℕ) (ws' left : List ℕ) (now s r : ℕ) : Type 0 where
  pub few : r ≤ 6
  pub kept : length left ≡ length out
  pub going : Going ws out at ws' left now s (6 - r) r (first_rule 4 2 (state_in ws out at) s)

pub asking_start : {ws out : List ℕ} {at : ℕ} (s : ℕ) → Live ws out at → Asking ws out at ws out at s 2
asking_start s v = record { few = omega arith; kept = refl; going = record { still = refl; held = onward_none v refl; ends = refl } }

module _ {ws out ws' out' ws'' out'' : List ℕ} {at now now' s r : ℕ} (h : Asking ws out at ws' out' now s r) (b : r < 6)
    (took : Onward ws' out' now ws'' out'' now' (rule_at r (state_in ws' out' now) s)) where
  left_asking : Going ws out at ws' out' now s (1 + (6 - (r + 1))) r (first_rule 4 2 (state_in ws out at) s)
  left_asking =
      let one : 6 - r ≡ 1 + (6 - (r + 1)) = omega arith in
      subst (λ (n : ℕ). Going ws out at ws' out' now s n r (first_rule 4 2 (state_in ws out at) s)) one h.going

  asked_alone : Onward ws' out' now ws'' out'' now' (first_rule 1 r (state_in ws' out' now) s)
  asked_alone = onward_is took (sym (one_rule r (state_in ws' out' now) s))

  pub asking_more : LiveAt ws out at s → length out'' ≡ length out' → now' ≡ at → Asking ws out at ws'' out'' now' s (r + 1)
  asking_more v k e = record { few = omega arith; kept = k ∙ h.kept; going = going_more s 1 (6 - (r + 1)) r left_asking asked_alone v e }

  pub asking_found : (now' ≡ at → ⊥) → Onward ws out at ws'' out'' now' (first_rule 4 2 (state_in ws out at) s)
  asking_found ne = going_found s 1 (6 - (r + 1)) r left_asking asked_alone ne

pub asking_end : {ws out ws' out' : List ℕ} {at now s r : ℕ} → Asking ws out at ws' out' now s r → 6 ≤ r → Onward ws out at ws' out' now (first_rule 4 2 (state_in ws out at) s)
asking_end {ws = ws} {out = out} {at = at} {s = s} {r = r} h b =
    onward_is h.going.held (sym (rule_end (state_in ws out at) s r (6 - r) (omega arith)) ∙ h.going.ends)

module _ {ws out : List ℕ} {at s : ℕ} (v : UnderWayAt ws out at s) {stirs : Bool} (h : Touched (ledger_of ws) (records_in out at) s stirs) where
  pub behind_tried : TriedBelow ws out at s
  behind_tried = record { under = v; walked = touched_walked (ledger_of ws) (records_in out at) s stirs h v.live.low v.live.high v.live.live.sound v.table }

  module _ {ws' out' : List ℕ} {now : ℕ} (e : stirs ≡ false) (took : Onward ws out at ws' out' now (first_rule 4 2 (state_in ws out at) s)) where
    -- What they leave is what the scan leaves.
    pub behind_scanned : Onward ws out at ws' out' now (scan (state_in ws out at))
    behind_scanned =
        onward_is took (sym (touched_narrow (ledger_of ws) (records_in out at) s stirs h v.live.low v.live.high v.live.live.sound v.table e))

    pub behind_none : now ≡ at → Onward ws out at ws' out' at (run (state_in ws out at))
    behind_none z =
        let o : State = state_in ws out at in
        let same : made (scan o) ≡ made o = moved_made behind_scanned.moved ∙ z ∙ sym (made_in out at) in
        subst (λ (n : ℕ). Onward ws out at ws' out' n (run o)) z (onward_is behind_scanned (sym (run_quiet o same)))

    pub behind_some : {ws'' out'' : List ℕ} {now' : ℕ} → (now ≡ at → ⊥) → Onward ws' out' now ws'' out'' now' (run (state_in ws' out' now)) → Onward ws out at ws'' out'' now' (run (state_in ws out at))
    behind_some ne a =
        let o : State = state_in ws out at in
        onward_is (onward_then (λ (x : State). run x) behind_scanned a)
        (run_on o v.live.live.sound (λ q. ne (sym (moved_made behind_scanned.moved) ∙ q ∙ made_in out at)))
