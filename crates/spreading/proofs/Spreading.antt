-- Who looks on keeps what an honest node wrote, once it is handed over; so the block is final there, marked and told.
use Rattle.std.specs.Prelude.{⊤, Result, Ok, Err}
use mathlib.Core.Path.{◌≡◌, refl, sym, ap, ◌∙◌, subst}
use mathlib.Core.Bool.{Bool, not, ◌&&◌}
use mathlib.Core.List.{List, ◌∷◌, ◌++◌}
use mathlib.Core.Logic.{inl, inr}
use Prim.Native.Nat.{ℕ, ◌≤◌, ◌<◌, ◌^◌}
use native.Mathlib.Omega.{arith}
use lib.Dec.{T, leb, leb→le, ltb, ltb→lt, not_T}
use lib.ListN.{length, take}
use Rattle.rulebook.specs.declared.Accepted.{Accepted}
use Rattle.rulebook.specs.declared.CertificateKind.{CertificateKind}
use Rattle.rulebook.specs.declared.CertificateKind.TheVariants as certificate
use Rattle.rulebook.specs.declared.Refusal.{Refusal}
use Rattle.rulebook.specs.declared.Refusal.TheVariants as refusal
use Rattle.rulebook.specs.Certificates.{Certificate, Kept}
use Rattle.rulebook.specs.Certificates as found
use Rattle.rulebook.specs.PaperNumbers.{kind_in, number_in}
use Rattle.rulebook.specs.Weights.{places_for, last_slot, slot_ok, total_to}
use Rattle.rulebook.specs.Ledger.{Ledger, none, no_kept, fresh, table_of, row_at, cell_at, kept_at, is_kept, keeps_block, certificates_at}
use Rattle.rulebook.specs.Pool.{place_kind, kept_as, reached, held}
use Rattle.rulebook.specs.Rules.{record_of, is_final}
use Rattle.rulebook.specs.Inputs.{Fed, refused_with}
use Rattle.rulebook.specs.Packets.{certificate_at}
use Rattle.rulebook.specs.Checker.{judge, judge_kind, is_other_kind, block_misfits, accepted_of, one_at, one_of, judged, check_certificate}
use Rattle.rulebook.specs.Taking.{kept_verdict, taken_on, taken, taken_from, take_packet, Arrival, of_packet, served}
use Rattle.rulebook.specs.WellFormed.{kept_in, outbox_words}
use Rattle.rule_laws.proofs.ToolLaws.{given_on}
use Rattle.rule_laws.proofs.KindLaws.{kind_back}
use Rattle.rule_laws.proofs.AcceptedLaws.{Single, accepted_single}
use Rattle.settling.specs.Facts.{Sound}
use Rattle.settling.specs.Steps.{kind_for}
use Rattle.settling.proofs.Start.{fresh_sound, watching_sound}
use Rattle.settling.proofs.FeedLaws.{take_on}
use Rattle.safety.specs.Slot.{Test, Ballot}
use Rattle.safety.specs.Ballots.{among}
use Rattle.safety.specs.Ring.{after_all, made_in, cast_by, Signers, GenuinePacket}
use Rattle.safety.specs.Ring as safe
use Rattle.safety.specs.Grounds.{ClashIn}
use Rattle.safety.specs.Promises.{AcceptedAs}
use Rattle.safety.specs.Watchers.{HoldsGenuine}
use Rattle.safety.proofs.Tests.{T_true, not_false, not_not, and_t, T_and, or_t, T-left, T-right, by_test}
use Rattle.safety.proofs.Cells.{kept_has}
use Rattle.safety.proofs.Growing.{Grow}
use Rattle.safety.proofs.Behind.{certified_final}
use Rattle.safety.proofs.Lives.{Sized, step_ready, life_ready, life_grow, life_on, fresh_ready, fresh_kept, start_sized, watch_sized}
use Rattle.safety.proofs.Steps.{passed, Ready}
use Rattle.safety.proofs.Written.{count_is, stakes_are}
use Rattle.safety.proofs.Honest.{node_holds}
use Rattle.safety.proofs.Room.{holder_never_eight}
use Rattle.chain.specs.OneChain as book
use Rattle.chain.proofs.Watching.{holder_observes}
use Rattle.chain.proofs.Chains.{settled_once, no_clash_seen}
use Rattle.progress.specs.Progress.{accepted_in}
use Rattle.progress.proofs.Ends.{life_rests, life_stays, life_sound}
use Rattle.finals.proofs.Rests.{marks_final}
use Rattle.finals.proofs.Marked.{begun_told}
use Rattle.seen.specs.Seen.{Seen, LifeSeen, Alive, node, watcher}
use Rattle.seen.specs.Ring.{Lives, told_ballot, Ring}
use Rattle.seen.specs.Chain.{OneParent}
use Rattle.seen.proofs.More.{holds_more}
use Rattle.seen.proofs.Ring.{told_made, told_cast, genuine, book_ring}
use Rattle.seen.proofs.Chain.{kept_same, parents}
use Rattle.seen.proofs.Grounded.{clashes_grounded}
use Rattle.seen.proofs.Written.{certificate_accepted, written_genuine}
use Rattle.seen.proofs.Progress.{gives}
use Rattle.spreading.specs.Spreading.{LooksOn, a_node, a_watcher, Given, FinalGiven, fast, slow, FinalIsGiven, GivenIsHeld, FinalitySpreads}
use Rattle.spreading.proofs.Kept.{IsKept, kept_stays, kept_as_lem, kept_certifiable, taken_kept}

-- A packet that is one certificate, which the table's check accepts, is taken as that certificate.
single_taken : (l : Ledger) (packet : List ℕ) (c : Certificate) → certificate_at packet 0 ≡ found.Whole c (length packet) → judge (table_of l) c ≡ Ok tt → take_packet l packet ≡ taken l c
unfolding take_packet taken_from one_at one_of judged
single_taken l packet c r j =
    let n = length packet in
    rw (r, j) (given_on (not (ltb n n)) (refused_with l refusal.BadLength) (λ _. taken l c) (T_true (not (ltb n n)) (not_T (ltb n n) (λ t. omega (arith, ltb→lt n n t)))))

module _ (stakes : List ℕ) (genesis : ℕ → ℕ) (honest : Test) (lives : Lives) (ring : Ring stakes genesis honest lives) where
  abbrev fed : ℕ → List Arrival
  fed n = (lives n).came

  abbrev cast : ℕ → ℕ → Ballot → Bool
  cast = cast_by stakes genesis honest fed

  abbrev whole : safe.Ring stakes genesis honest fed
  whole = book_ring stakes genesis honest lives ring

  -- What a node's life and a watcher's have in common here.
  pub record Onlooks (w : Seen) : Type 0 where
    pub own : ℕ
    pub first : ℕ
    pub size : Sized stakes own
    pub begun : Sound (fresh stakes own first)
    pub lived : LifeSeen (fresh stakes own first) w
    pub alive : Alive stakes first w
    pub holds : HoldsGenuine honest cast (after_all (fresh stakes own first) w.came)

  pub onlooks : (w : Seen) → LooksOn stakes genesis honest lives w → Onlooks w
  onlooks w (a_node m x) =
      record {
        own = m;
        first = genesis m;
        size = start_sized stakes m (genesis m) x.lived.started;
        begun = fresh_sound stakes m (genesis m) x.lived.started;
        lived = x.lived.lived;
        alive = node m x.lived;
        holds = node_holds stakes genesis honest fed whole m x.is_honest w.came x.earlier.since x.earlier.goes_on;
      }
  onlooks w (a_watcher g x holds same) =
      let all = ring.nodes.lived in
      record {
        own = length stakes;
        first = g;
        size = watch_sized stakes g x.started;
        begun = watching_sound stakes g x.started;
        lived = x.lived;
        alive = watcher x;
        holds = holds_more honest (told_ballot lives) cast (told_cast stakes genesis honest lives all) _ (subst (HoldsGenuine honest (told_ballot lives)) x.lived.ledger holds);
      }

  -- It keeps blocks with no other parent than honest nodes do.
  same_parents_lem : OneParent honest lives → (w : Seen) (x : LooksOn stakes genesis honest lives w)
      → book.SameParents stakes genesis honest fed (after_all (fresh stakes (onlooks w x).own (onlooks w x).first) w.came)
  unfolding onlooks
  same_parents_lem once w (a_node m x) n s b p y q z k t u =
      let start = fresh stakes m (genesis m) in
      let then = after_all start w.came in
      let since = x.earlier.since in
      let to_end : safe.life stakes genesis honest fed m ≡ after_all then since = ap (after_all start) x.earlier.goes_on ∙ life_on start w.came since in
      let on = life_grow m then since (life_ready m start w.came (fresh_ready stakes m (genesis m) (start_sized stakes m (genesis m) x.lived.started))) in
      parents stakes genesis honest lives ring.nodes.lived once m x.is_honest n s b p y q z k t
      (subst (λ (l : Ledger). T (keeps_block l s b q z)) (sym to_end) (on.blocks s b q z u))
  same_parents_lem once w (a_watcher g x holds same) n s b p y q z k t u =
      same n s b p y q z k (subst T (sym (kept_same stakes genesis honest lives ring.nodes.lived n s b p y k)) t)
      (subst (λ (l : Ledger). T (keeps_block l s b q z)) (sym x.lived.ledger) u)

  module _ (w : Seen) (o : Onlooks w) where
    abbrev start : Ledger
    start = fresh stakes o.own o.first

    abbrev now : Ledger
    now = after_all start w.came

    abbrev at : List Arrival → Ledger
    at before = after_all start before

    ready : (before : List Arrival) → Ready (places_for (length stakes)) o.own (at before)
    ready before = life_ready o.own start before (fresh_ready stakes o.own o.first o.size)

    grown : (before later : List Arrival) → w.came ≡ before ++ later → Grow (at before) now
    grown before later e =
        subst (λ (l : Ledger). Grow (at before) l) (sym (ap (after_all start) e ∙ life_on start before later)) (life_grow o.own (at before) later (ready before))

    -- What it held before is genuine too.
    held_before : (before later : List Arrival) → w.came ≡ before ++ later → HoldsGenuine honest cast (at before)
    held_before before later e =
        let g = grown before later e in
        record {
          pool = λ m s v k t. o.holds.pool m s v k (kept_has (cell_at (at before) s m) (cell_at now s m) v (g.cells s m) t);
          kept = λ s j t. let q = g.certificates s j t in
              subst (λ (x : Kept). Signers honest cast (place_kind j) (kept_in s x)) q (o.holds.kept s j (subst (λ (x : Kept). T (is_kept x)) (sym q) t));
        }

    -- What it got: a certificate that it keeps, of a slot and a block that its kind allows.
    record Got (k : CertificateKind) (s b : ℕ) : Type 0 where
      pub kept : IsKept now k s b
      pub low : 1 ≤ s
      pub high : s ≤ last_slot
      pub fits : T (not (block_misfits k b))

    -- A packet that arrived, and that the check accepts and all honest signers signed.
    module _ (packet : List ℕ) (before later : List Arrival) (came : w.came ≡ before ++ (of_packet packet ∷ later)) (k : CertificateKind) (s b : ℕ)
        (accepted : AcceptedAs (check_certificate stakes packet) k s b) (genuinely : GenuinePacket (length stakes) honest cast packet) where
      abbrev then : Ledger
      then = at before

      table : table_of then ≡ stakes
      table = stakes_are stakes o.own o.first o.size before

      abbrev one_certificate : Single (table_of then) packet accepted.what
      one_certificate = accepted_single (table_of then) packet accepted.what (ap (λ (ws : List ℕ). check_certificate ws packet) table ∙ accepted.accepted)

      abbrev c : Certificate
      c = one_certificate.first

      fine : judge stakes c ≡ Ok tt
      fine = subst (λ (ws : List ℕ). judge ws c ≡ Ok tt) table one_certificate.fine

      sound : Sound then
      sound = life_sound start before o.begun

      took : served then (of_packet packet) ≡ taken then c
      unfolding served
      took = single_taken then packet c one_certificate.read one_certificate.fine

      not_eight : ¬ (kept_verdict (certificates_at then c.slot) (kind_for then c) c.block ≡ Err refusal.OtherStands)
      unfolding taken taken_on refused_with
      not_eight e =
          holder_never_eight stakes genesis honest fed whole o.own o.first o.size before (held_before before (of_packet packet ∷ later) came) outbox_words packet genuinely
          (ap (λ (f : Fed). f.answer) (take_on then packet outbox_words sound.formed (omega arith) ∙ single_taken then packet c one_certificate.read one_certificate.fine)
          ∙ ap (λ (v : Result ⊤ Refusal). (taken_on v then c).answer) e)

      kind_is_lem : kind_for then c ≡ k
      unfolding accepted_of
      kind_is_lem =
          ap (λ (n : ℕ). kind_in n c.kind) (count_is stakes o.own o.first o.size before ∙ sym (ap length table))
          ∙ ap (λ (a : Accepted). a.kind) one_certificate.answer ∙ accepted.kind_is

      slot_is : c.slot ≡ s
      unfolding accepted_of
      slot_is = ap (λ (a : Accepted). a.slot.0) one_certificate.answer ∙ accepted.slot_is

      block_is_lem : c.block ≡ b
      unfolding accepted_of
      block_is_lem = ap (λ (a : Accepted). a.block) one_certificate.answer ∙ accepted.block_is

      some : 1 ≤ total_to (table_of then) (length (table_of then))
      some = subst (λ (ws : List ℕ). 1 ≤ total_to ws (length ws)) (sym table) o.size.some

      on : Grow (taken then c).ledger now
      unfolding after_all
      on =
          subst (λ (f : Fed). Grow f.ledger now) took
          (subst (λ (l : Ledger). Grow (served then (of_packet packet)).ledger l) (sym (ap (after_all start) came ∙ life_on start before (of_packet packet ∷ later)))
          (life_grow o.own (served then (of_packet packet)).ledger later (step_ready o.own then (of_packet packet) (ready before))))

      got_so : Got (kind_for then c) c.slot c.block
      unfolding judge judge_kind slot_ok
      got_so =
          let p = passed _ _ _ one_certificate.fine in
          let q = passed _ _ _ p.1 in
          let r = passed _ _ _ q.1 in
          let a = and_t (leb 1 c.slot) (leb c.slot last_slot) (not_not (slot_ok c.slot) q.0) in
          record {
            kept = kept_stays (taken then c).ledger now on (kind_for then c) c.slot c.block (taken_kept then sound some c one_certificate.fine not_eight);
            low = leb→le 1 c.slot a.0;
            high = leb→le c.slot last_slot a.1;
            fits = subst (λ (n : ℕ). T (not (block_misfits (kind_in n c.kind) c.block))) (ap length table ∙ sym (count_is stakes o.own o.first o.size before)) r.0;
          }

      got_packet : Got k s b
      got_packet =
          subst (λ (j : CertificateKind). Got j s b) kind_is_lem (subst (λ (t : ℕ). Got (kind_for then c) t b) slot_is (subst (λ (x : ℕ). Got (kind_for then c) c.slot x) block_is_lem got_so))

    got : (k : CertificateKind) (s b : ℕ) → b < 2 ^ 64 → Given stakes genesis honest lives w k s b → Got k s b
    got k s b small x =
        let n = x.writer in
        let m = x.moment in
        let kind = number_in (length stakes) k in
        got_packet (take x.written x.after) x.before x.later x.handed k s b
        (subst (λ (j : CertificateKind). AcceptedAs (check_certificate stakes (take x.written x.after)) j s b) (kind_back (length stakes) k)
        (certificate_accepted stakes n (genesis n) (start_sized stakes n (genesis n) m.lived.started) x.then m.lived.lived x.buffer x.after kind s b x.written small x.wrote))
        (genuine stakes genesis honest lives ring.nodes.lived (take x.written x.after)
        ((written_genuine stakes genesis honest lives ring n x.then m).0 x.buffer x.after kind s b x.written small x.wrote))

    holding : (k : CertificateKind) (s b : ℕ) → IsKept now k s b → T (held now k s b)
    unfolding held
    holding k s b x = T-right (reached now k s b) (kept_as now k s b) (kept_as_lem now k s b x)

    -- Something was accepted, since something is kept.
    awake : (k : CertificateKind) (s b : ℕ) → IsKept now k s b → T (accepted_in start w.came)
    awake k s b x =
        by_test (accepted_in start w.came) (λ t. t)
        (λ t. let e : kept_at now s x.place ≡ no_kept =
        ap (λ (l : Ledger). kept_at l s x.place) (life_stays start w.came o.begun (not_false (accepted_in start w.came) t)) ∙ fresh_kept stakes o.own o.first s x.place in
        absurd (subst (λ (q : Kept). T (is_kept q)) e x.there))

  -- ---- under the premises of one chain

  module _ (once : OneParent honest lives) (w : Seen) (looks : LooksOn stakes genesis honest lives w) where
    abbrev o : Onlooks w
    o = onlooks w looks

    abbrev end : Ledger
    end = after_all (fresh stakes o.own o.first) w.came

    abbrev one : book.OneParent stakes genesis honest fed
    one = parents stakes genesis honest lives ring.nodes.lived once

    pub observes : book.Observer stakes genesis honest fed end
    observes = holder_observes stakes genesis honest fed o.own o.first o.size w.came o.holds (same_parents_lem once w looks)

    -- A block that a kept certificate names, and that is final, is marked and told.
    told : (k : CertificateKind) (s b : ℕ) → Got w o k s b → T (not (none b)) → T (is_final end s b) → T (among w.told (record_of 6 s b))
    told k s b x some f =
        let rest = life_rests (fresh stakes o.own o.first) w.came o.begun (inl (awake w o k s b x.kept)) in
        let marks = marks_final end rest s b x.low x.high some (kept_certifiable end k s b some x.kept) f in
        let e = settled_once stakes genesis honest fed whole one s (row_at end s).final b
        (book.seen end observes ((ready w o w.came).inv.finals s marks)) (book.seen end observes (certified_final end s b some f)) in
        subst T (sym (told_made (fresh stakes o.own o.first) w o.lived (record_of 6 s b)))
        (subst (λ (y : ℕ). T (made_in (fresh stakes o.own o.first) w.came (record_of 6 s y))) e (begun_told stakes o.own o.first o.begun w.came s marks))

    pub no_other : (s c : ℕ) → ¬ T (among w.told (record_of 8 s c))
    no_other s c t =
        no_clash_seen stakes genesis honest fed whole one end observes s c
        (subst (λ (l : Ledger). ClashIn l s c) o.lived.ledger (clashes_grounded stakes o.first w o.alive s c t))

    final_told : (s b : ℕ) → b < 2 ^ 64 → FinalGiven stakes genesis honest lives w s b → T (among w.told (record_of 6 s b))
    unfolding is_final block_misfits
    final_told s b small (fast x) =
        let g = got w o certificate.FastFinal s b small x in
        told certificate.FastFinal s b g g.fits (T-left (held end certificate.FastFinal s b) _ (holding w o certificate.FastFinal s b g.kept))
    final_told s b small (slow x y) =
        let g = got w o certificate.Notar s b small x in
        let z = got w o certificate.Final s 0 (omega arith) y in
        told certificate.Notar s b g g.fits
        (T-right (held end certificate.FastFinal s b) (held end certificate.Notar s b && held end certificate.Final s 0)
        (T_and (held end certificate.Notar s b) (held end certificate.Final s 0) (holding w o certificate.Notar s b g.kept) (holding w o certificate.Final s 0 z.kept)))

pub final_is_given : FinalIsGiven
unfolding is_final is_other_kind block_misfits
final_is_given stakes genesis honest lives n v m s b lo hi some t =
    let size = start_sized stakes n (genesis n) m.lived.started in
    let now = after_all (fresh stakes n (genesis n)) v.came in
    let give = gives stakes n (genesis n) size v m.lived.lived in
    or_t (held now certificate.FastFinal s b) (held now certificate.Notar s b && held now certificate.Final s 0) (subst (λ (l : Ledger). T (is_final l s b)) m.lived.lived.ledger t)
    (λ u. inl (give certificate.FastFinal s b refl lo hi (not_false (none b) some) u))
    (λ u. let a = and_t (held now certificate.Notar s b) (held now certificate.Final s 0) u in
    inr (give certificate.Notar s b refl lo hi (not_false (none b) some) a.0, give certificate.Final s 0 refl lo hi refl a.1))

pub given_is_held : GivenIsHeld
given_is_held stakes genesis honest lives ring w looks k s b small x =
    let o = onlooks stakes genesis honest lives ring w looks in
    subst (λ (l : Ledger). T (held l k s b)) (sym o.lived.ledger)
    (holding stakes genesis honest lives ring w o k s b (got stakes genesis honest lives ring w o k s b small x).kept)

pub finality_spreads : FinalitySpreads
finality_spreads stakes genesis honest lives ring once w looks s b small x =
    (final_told stakes genesis honest lives ring once w looks s b small x, no_other stakes genesis honest lives ring once w looks s)
