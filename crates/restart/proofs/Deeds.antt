-- However often a host in good order dies, its deeds are those of one life.
use mathlib.Core.Path.{sym, ◌∙◌, subst}
use mathlib.Core.List.{List, [], ◌∷◌, ◌++◌}
use Prim.Native.Nat.{ℕ}
use lib.Dec.{T, eqb, eqb→eq}
use Rattle.rulebook.specs.Rules.{Record}
use Rattle.answers.specs.Face.{Started}
use Rattle.safety.specs.Ballots.{same_record, among}
use Rattle.safety.proofs.Tests.{and_t, T_and, or_t, T-left, T-right}
use Rattle.safety.proofs.Along.{same_refl}
use Rattle.safety.specs.Ring.{after_all}
use Rattle.soundness.proofs.InStep.{sound_told}
use Rattle.seen.specs.Seen.{Seen}
use Rattle.seen.proofs.Ring.{among_both}
use Rattle.calls.specs.Operation.{first_records}
use Rattle.calls.specs.Life.{Calls, none, then, not_started, not_watched, Life}
use Rattle.calls.proofs.Life.{born_seen}
use Rattle.restart.specs.Deeds.{Desk, Deed, calls, stores, sends, dies, puts_back, after_deed, after_deeds, all_told, in_order, all_in_order, Called, AllCalled, opened, DeathsLeaveOneLife, StartsAlike}

-- ---- calls after calls

on : {u v w : Seen} → Calls u v → Calls v w → Calls u w
on k none = k
on k (then m o lent number made words left x) = then (on k m) o lent number made words left x
on k (not_started m stakes own genesis number words s n) = not_started (on k m) stakes own genesis number words s n
on k (not_watched m stakes genesis number words s n) = not_watched (on k m) stakes genesis number words s n

-- What was told stays told.
pub told_stays : {v w : Seen} → Calls v w → (r : Record) → T (among v.told r) → T (among w.told r)
told_stays none r t = t
told_stays (then {w = u} k o lent number made words left x) r t =
    subst T (sym (among_both u.told (first_records made left) r)) (T-left (among u.told r) (among (first_records made left) r) (told_stays k r t))
told_stays (not_started k stakes own genesis number words s n) r t = told_stays k r t
told_stays (not_watched k stakes genesis number words s n) r t = told_stays k r t

life_on : {stakes : List ℕ} {own genesis : ℕ} {v w : Seen} → Life stakes own genesis v → Calls v w → Life stakes own genesis w
life_on h k = record { found = h.found; words = h.words; start = h.start; calls = on h.calls k }

-- ---- records that were told

same_told : (told : List Record) (x r : Record) → T (same_record x r) → T (among told x) → T (among told r)
same_told told x r t u =
    let a = and_t (eqb x.kind r.kind) _ t in
    let b = and_t (eqb x.slot r.slot) _ a.1 in
    let e = eqb→eq x.kind r.kind a.0 in
    let f = eqb→eq x.slot r.slot b.0 in
    let g = eqb→eq x.block r.block b.1 in
    subst (λ (y : Record). T (among told y)) (λ i. record { kind = e i; slot = f i; block = g i }) u

all_told_lem : (told rs : List Record) (r : Record) → T (all_told told rs) → T (among rs r) → T (among told r)
unfolding all_told
all_told_lem told [] r a t = absurd t
all_told_lem told (x ∷ xs) r a t =
    let b = and_t (among told x) (all_told told xs) a in
    or_t (same_record x r) (among xs r) t (λ u. same_told told x r u b.0) (all_told_lem told xs r b.1)

told_more : (x : Record) (told rs : List Record) → T (all_told told rs) → T (all_told (x ∷ told) rs)
unfolding all_told
told_more x told [] t = tt
told_more x told (r ∷ rs) t =
    let a = and_t (among told r) (all_told told rs) t in
    T_and (among (x ∷ told) r) (all_told (x ∷ told) rs) (T-right (same_record x r) (among told r) a.0) (told_more x told rs a.1)

-- All that was told was told.
pub told_itself : (rs : List Record) → T (all_told rs rs)
unfolding all_told
told_itself [] = tt
told_itself (r ∷ rs) =
    T_and (among (r ∷ rs) r) (all_told (r ∷ rs) rs) (T-left (same_record r r) (among rs r) (same_refl r)) (told_more r rs rs (told_itself rs))

-- ---- one deed more

-- What has to be known before the next deed.
pub record Whole (stakes : List ℕ) (own genesis : ℕ) (d : Desk) : Type 0 where
  pub stored : Life stakes own genesis d.stored
  pub since : Calls d.stored d.living
  pub sent : (r : Record) → T (among d.sent r) → T (among d.stored.told r)

module _ (stakes : List ℕ) (own genesis : ℕ) where
  stores_well : (d : Desk) → Whole stakes own genesis d → Whole stakes own genesis (after_deed d stores)
  unfolding after_deed
  stores_well d h = record { stored = life_on h.stored h.since; since = none; sent = λ r t. told_stays h.since r (h.sent r t) }

  sends_well : (d : Desk) (rs : List Record) → T (in_order d (sends rs)) → Whole stakes own genesis d → Whole stakes own genesis (after_deed d (sends rs))
  unfolding after_deed in_order
  sends_well d rs o h =
      record {
        stored = h.stored;
        since = h.since;
        sent = λ r t.
            or_t (among d.sent r) (among rs r) (subst T (among_both d.sent rs r) t) (h.sent r) (all_told_lem d.stored.told rs r o);
      }

  never_put_back : (d : Desk) (v : Seen) → ¬ T (in_order d (puts_back v))
  unfolding in_order
  never_put_back d v o = o

  one_deed : (d : Desk) (x : Deed) → Called d x → T (in_order d x) → Whole stakes own genesis d → Whole stakes own genesis (after_deed d x)
  unfolding Called after_deed
  one_deed d (calls w) k o h = record { stored = h.stored; since = on h.since k; sent = h.sent }
  one_deed d stores k o h = stores_well d h
  one_deed d (sends rs) k o h = sends_well d rs o h
  one_deed d dies k o h = record { stored = h.stored; since = none; sent = h.sent }
  one_deed d (puts_back v) k o h = absurd (never_put_back d v o)

  all_deeds : (d : Desk) (xs : List Deed) → AllCalled d xs → T (all_in_order d xs) → Whole stakes own genesis d → Whole stakes own genesis (after_deeds d xs)
  unfolding AllCalled all_in_order after_deeds
  all_deeds d [] k o h = h
  all_deeds d (x ∷ xs) k o h =
      let a = and_t (in_order d x) (all_in_order (after_deed d x) xs) o in
      all_deeds (after_deed d x) xs k.1 a.1 (one_deed d x k.0 a.0 h)

  -- A stored record is gone on from.
  stored_on : (d : Desk) (x : Deed) → T (in_order d x) → Whole stakes own genesis d → Calls d.stored (after_deed d x).stored
  unfolding after_deed
  stored_on d (calls w) o h = none
  stored_on d stores o h = h.since
  stored_on d (sends rs) o h = none
  stored_on d dies o h = none
  stored_on d (puts_back v) o h = absurd (never_put_back d v o)

  all_stored_on : (d : Desk) (xs : List Deed) → AllCalled d xs → T (all_in_order d xs) → Whole stakes own genesis d → Calls d.stored (after_deeds d xs).living
  unfolding AllCalled all_in_order after_deeds
  all_stored_on d [] k o h = h.since
  all_stored_on d (x ∷ xs) k o h =
      let a = and_t (in_order d x) (all_in_order (after_deed d x) xs) o in
      on (stored_on d x a.0 h) (all_stored_on (after_deed d x) xs k.1 a.1 (one_deed d x k.0 a.0 h))

  -- Some deeds, then others: the record that was stored after the first has a life, which the one in memory after all goes on from.
  pub then_on : (d : Desk) (xs ys : List Deed) → AllCalled d (xs ++ ys) → T (all_in_order d (xs ++ ys)) → Whole stakes own genesis d
      → Life stakes own genesis (after_deeds d xs).stored × Calls (after_deeds d xs).stored (after_deeds d (xs ++ ys)).living
  unfolding AllCalled all_in_order after_deeds
  then_on d [] ys k o h = (h.stored, all_stored_on d ys k o h)
  then_on d (x ∷ xs) ys k o h =
      let a = and_t (in_order d x) (all_in_order (after_deed d x) (xs ++ ys)) o in
      then_on (after_deed d x) xs ys k.1 a.1 (one_deed d x k.0 a.0 h)

pub whole_at_first : (stakes : List ℕ) (own genesis : ℕ) (found words : List ℕ) → Started found stakes own genesis 0 words → Whole stakes own genesis (opened words)
whole_at_first stakes own genesis found words s =
    record { stored = record { found = found; words = words; start = s; calls = none }; since = none; sent = λ r t. absurd t }

pub deaths_leave_one_life : DeathsLeaveOneLife
deaths_leave_one_life stakes own genesis d h =
    let begins = whole_at_first stakes own genesis h.found h.words h.start in
    let w = subst (Whole stakes own genesis) (sym h.now) (all_deeds stakes own genesis (opened h.words) h.deeds h.called h.ordered begins) in
    record {
      stored = w.stored;
      since = w.since;
      living = life_on w.stored w.since;
      sent_stored = w.sent;
      sent_told = λ r t. told_stays w.since r (w.sent r t);
    }

pub starts_alike : StartsAlike
unfolding after_all
starts_alike stakes own genesis found words found' words' s t =
    let a = born_seen stakes own genesis found words s in
    let b = born_seen stakes own genesis found' words' t in
    sound_told words words' a.sound b.sound (a.ledger ∙ sym b.ledger)
