-- Blocks are final over seen lives: the words mean the ledgers of the rule book's theorem, and what outboxes told is what its lives make.
use Rattle.std.specs.Prelude.{Result}
use mathlib.Core.Path.{◌≡◌, sym, ap, ◌∙◌, subst}
use mathlib.Core.Bool.{true, not}
use mathlib.Core.List.{List}
use Prim.Native.Nat.{ℕ, suc, ◌≤◌}
use native.Mathlib.Omega.{arith}
use lib.Dec.{T, ltb, leb, leb→le, le→leb, not_T}
use lib.ListN.{length}
use Rattle.rulebook.specs.declared.CertificateKind.TheVariants as certificate
use Rattle.rulebook.specs.declared.Refusal.{Refusal}
use Rattle.rulebook.specs.Weights.{last_slot, slot_ok}
use Rattle.rulebook.specs.PaperNumbers.{write_panel}
use Rattle.rulebook.specs.Ledger.{Ledger, none, fresh, row_at, cell_at, is_armed, is_block, first_block, keeps_block}
use Rattle.rulebook.specs.Pool.{held, ready}
use Rattle.rulebook.specs.Rules.{record_of, is_final}
use Rattle.rulebook.specs.Taking.{Arrival}
use Rattle.rulebook.specs.Writers as writer
use Rattle.rulebook.specs.Writers.{proof_room}
use Rattle.safety.specs.Slot.{Test, notar, notar_fallback, skip, skip_fallback, final}
use Rattle.safety.specs.Ballots.{has, record_for, among}
use Rattle.safety.specs.Ring.{after_all, made_in, life, cast_by}
use Rattle.safety.specs.Watchers.{HoldsGenuine, watched}
use Rattle.safety.proofs.Tests.{T_true, T_and}
use Rattle.safety.proofs.Written.{count_is}
use Rattle.progress.proofs.Ends.{woken_armed}
use Rattle.progress.proofs.Watching.{watcher_woken_armed}
use Rattle.finals.specs.Finals as book
use Rattle.finals.proofs.Hasty as hasty
use Rattle.finals.proofs.Finals as final
use Rattle.finals.proofs.Leading.{first_low}
use Rattle.finals.proofs.Others as others
use Rattle.finals.proofs.Parents as parent
use Rattle.seen.specs.Seen.{Seen, ledger_in, LifeSeen, NodeSeen, Alive, node, watcher}
use Rattle.seen.specs.Ring.{Lives, told_ballot}
use Rattle.seen.proofs.Alive.{alive_common}
use Rattle.seen.proofs.Ring.{told_made, told_cast, cast_told, book_ring}
use Rattle.seen.proofs.Written.{proof_on_lem, written_accepted}
use Rattle.seen.proofs.Readers.{readers_tell}
use Rattle.seen.proofs.More.{holds_more}
use Rattle.seen.proofs.Chain.{parents}
use Rattle.seen.proofs.Progress.{mail_in}
use Rattle.finals_seen.specs.Finals.{Proved, Told, SkiplessIsPatient, GenesisReady, Led, FinalsIn, Heard, by_notars, by_finals, BlocksVoted, FastFinal, SlowFinal, FinalTold, BlocksFinal, OthersToo, WatchersToo, NextLeader, FirstWindow, AnyWindow}

-- ---- one life, a node's or a watcher's

no_less : (room k : ℕ) → k ≤ room → T (not (ltb room k))
no_less room k h = not_T (ltb room k) (λ t. omega (arith, leb→le (suc room) k t))

module _ (stakes : List ℕ) (genesis : ℕ) (v : Seen) (alive : Alive stakes genesis v) (t b : ℕ) (lo : 1 ≤ t) (hi : t ≤ last_slot) where
  -- What is final in the words is proved.
  pub proved : T (not (none b)) → T (is_final (ledger_in v) t b) → Proved stakes v t b
  unfolding write_panel
  proved some h =
      let c = alive_common alive in
      let now : Ledger = after_all (fresh stakes c.own genesis) v.came in
      record {
        holds = h;
        writes = λ buffer after number written fits w.
            w.numbered
            ∙ ap (λ (x : writer.Wrote). (write_panel x.answer).number) (proof_on_lem stakes c.own genesis c.size v c.lived (length buffer) t b)
            ∙ ap (λ (x : Result ℕ Refusal). (write_panel x).number) (final.final_written now (length buffer) t b lo hi some (subst (λ (l : Ledger). T (is_final l t b)) c.lived.ledger h)
            (no_less (length buffer) (proof_room now.count) (subst (λ (n : ℕ). proof_room n ≤ length buffer) (sym (count_is stakes c.own genesis c.size v.came)) fits)));
        accepted = λ small buffer after values written number missing w x.
            (written_accepted stakes genesis v alive).1 buffer after values t b written number missing small w x;
      }

  in_range : slot_ok t ≡ true
  unfolding slot_ok
  in_range = T_true (slot_ok t) (T_and (leb 1 t) (leb t last_slot) (le→leb 1 t lo) (le→leb t last_slot hi))

  -- What is marked in the words is read.
  pub told_of : (row_at (ledger_in v) t).final ≡ b → T (among v.told (record_of 6 t b)) → Told stakes v t b
  told_of e x = record { told = x; reads = λ number block r. let y = (readers_tell stakes genesis v alive).final t number block r in_range in (y.0, y.1 ∙ e) }

pub skipless_is_patient : SkiplessIsPatient
skipless_is_patient stakes own genesis v h w f =
    hasty.skipless_is_patient stakes own genesis h.started v.came w (λ t e x. f t e (subst T (sym (told_made _ v h.lived (record_for t skip))) x))

pub genesis_ready : GenesisReady
genesis_ready stakes own genesis v h =
    subst (λ (l : Ledger). T (ready l 1 0 genesis)) (sym h.lived.ledger) (parent.genesis_ready stakes own genesis h.started v.came)

-- ---- slots that are led well

module _ (stakes : List ℕ) (genesis : ℕ → ℕ) (lives : Lives) (prompt : Test) (block : ℕ → ℕ) (f u : ℕ) (is : Led stakes genesis lives prompt block f u) where
  -- What arrived at each node.
  abbrev fed : ℕ → List Arrival
  fed n = (lives n).came

  abbrev end : ℕ → Ledger
  end n = life stakes genesis prompt fed n

  abbrev all : (n : ℕ) → T (prompt n) → NodeSeen stakes n (genesis n) (lives n)
  all = is.on.lived

  -- What holds of the words holds of the ledger, and back.
  to : (P : Ledger → Type 0) (n : ℕ) → T (prompt n) → P (ledger_in (lives n)) → P (end n)
  to P n p x = subst P (all n p).lived.ledger x

  back : (P : Ledger → Type 0) (n : ℕ) → T (prompt n) → P (end n) → P (ledger_in (lives n))
  back P n p x = subst P (sym (all n p).lived.ledger) x

  led : book.Led stakes genesis fed prompt block f u
  led =
      let on = is.on in
      record {
        begins = on.begins;
        last = on.last;
        strong = on.strong;
        started = λ n p. (all n p).started;
        parent_slot = is.parent_slot;
        parent = is.parent;
        first = λ n p. to (λ l. T (is_block (block f) is.parent_slot is.parent (first_block l f))) n p (on.first n p);
        ready_parent = λ n p. to (λ l. T (ready l f is.parent_slot is.parent)) n p (is.ready_parent n p);
        next = λ n t p lo hi. to (λ l. T (is_block (block (suc t)) t (block t) (first_block l (suc t)))) n p (on.next n t p lo hi);
        patient = on.patient;
        votes = λ n m t p q lo hi c. to (λ l. T (has (cell_at l t m) (notar (block t)))) n p
            (on.votes n m t p q lo hi (cast_told stakes genesis prompt lives all m t (notar (block t)) q c));
      }

  finals : FinalsIn stakes genesis lives prompt block f u → book.FinalsIn stakes genesis fed prompt block f u
  finals mail n m t p q lo hi c = to (λ l. T (has (cell_at l t m) final)) n p (mail n m t p q lo hi (cast_told stakes genesis prompt lives all m t final q c))

  module _ (t : ℕ) (lo : f ≤ t) (hi : t ≤ u) where
    low : 1 ≤ t
    low = omega (arith, first_low f is.on.begins)

    high : t ≤ last_slot
    high = omega (arith, is.on.last)

    -- A prompt node voted for the block, so that it is one.
    is_block_lem : T (not (none (block t)))
    is_block_lem = let m = others.somebody stakes genesis fed prompt block f u led t in final.block_some stakes genesis fed prompt block f u led t lo hi m.0 m.1

    proves : (n : ℕ) → T (prompt n) → T (is_final (end n) t (block t)) → Proved stakes (lives n) t (block t)
    proves n p h = proved stakes (genesis n) (lives n) (node n (all n p)) t (block t) low high is_block_lem (back (λ l. T (is_final l t (block t))) n p h)

    -- A node's life, or a watcher's, with finality for the block, that marked it and made the record.
    both : (own g : ℕ) (v : Seen) (a : Alive stakes g v) (x : LifeSeen (fresh stakes own g) v) → T (is_final (after_all (fresh stakes own g) v.came) t (block t))
        → (row_at (after_all (fresh stakes own g) v.came) t).final ≡ block t → T (made_in (fresh stakes own g) v.came (record_of 6 t (block t)))
        → Proved stakes v t (block t) × Told stakes v t (block t)
    both own g v a x h e m = (
      proved stakes g v a t (block t) low high is_block_lem (subst (λ (l : Ledger). T (is_final l t (block t))) (sym x.ledger) h),
      told_of stakes g v a t (block t) low high (ap (λ (l : Ledger). (row_at l t).final) x.ledger ∙ e) (subst T (sym (told_made _ v x (record_of 6 t (block t)))) m),
    )

    heard : (v : Seen) (l : Ledger) → ledger_in v ≡ l → Heard stakes genesis lives prompt block v t → book.Heard stakes genesis fed prompt block l t
    heard v l e (by_notars heavy x) = book.by_notars heavy (λ m p. subst (λ (k : Ledger). T (has (cell_at k t m) (notar (block t)))) e (x m p))
    heard v l e (by_finals x y) =
        book.by_finals (λ m p. subst (λ (k : Ledger). T (has (cell_at k t m) (notar (block t)))) e (x m p)) (λ m p. subst (λ (k : Ledger). T (has (cell_at k t m) final)) e (y m p))

pub blocks_voted : BlocksVoted
blocks_voted stakes genesis lives prompt block f u is n t p lo hi =
    let v = final.blocks_voted stakes genesis (λ n. (lives n).came) prompt block f u (led stakes genesis lives prompt block f u is) n t p lo hi in
    let all = is.on.lived in
    record {
      voted = cast_told stakes genesis prompt lives all n t (notar (block t)) p v.voted;
      no_skip = λ x. v.no_skip (told_cast stakes genesis prompt lives all n t skip p x);
      no_fallback = λ b x. v.no_fallback b (told_cast stakes genesis prompt lives all n t (notar_fallback b) p x);
      no_skip_fallback = λ x. v.no_skip_fallback (told_cast stakes genesis prompt lives all n t skip_fallback p x);
    }

pub fast_final : FastFinal
fast_final stakes genesis lives prompt block f u is heavy n t p lo hi =
    let x = final.fast_final stakes genesis (λ n. (lives n).came) prompt block f u (led stakes genesis lives prompt block f u is) heavy n t p lo hi in (
      back stakes genesis lives prompt block f u is (λ l. T (held l certificate.FastFinal t (block t))) n p x.0,
      proves stakes genesis lives prompt block f u is t lo hi n p x.1.holds,
    )

pub slow_final : SlowFinal
slow_final stakes genesis lives prompt block f u is mail n t p lo hi =
    let x = final.slow_final stakes genesis (λ n. (lives n).came) prompt block f u (led stakes genesis lives prompt block f u is) (finals stakes genesis lives prompt block f u is mail) n t p lo hi in (
      back stakes genesis lives prompt block f u is (λ l. T (held l certificate.Notar t (block t))) n p x.0,
      cast_told stakes genesis prompt lives is.on.lived n t final p x.1,
      back stakes genesis lives prompt block f u is (λ l. T (held l certificate.Final t 0)) n p x.2,
      proves stakes genesis lives prompt block f u is t lo hi n p x.3.holds,
    )

-- An honest node has told of what it has finality for.
told_by_lem : (stakes : List ℕ) (genesis : ℕ → ℕ) (lives : Lives) (prompt : Test) (block : ℕ → ℕ) (f u : ℕ) (is : Led stakes genesis lives prompt block f u)
    → (n t : ℕ) → T (prompt n) → f ≤ t → t ≤ u → book.Told stakes genesis (λ n. (lives n).came) prompt block n t → Told stakes (lives n) t (block t)
told_by_lem stakes genesis lives prompt block f u is n t p lo hi x =
    let a = is.on.lived n p in
    told_of stakes (genesis n) (lives n) (node n a) t (block t) (low stakes genesis lives prompt block f u is t lo hi) (high stakes genesis lives prompt block f u is t lo hi)
    (ap (λ (l : Ledger). (row_at l t).final) a.lived.ledger ∙ x.marked)
    (subst T (sym (told_made _ (lives n) a.lived (record_of 6 t (block t)))) x.told)

pub final_told : FinalTold
final_told stakes genesis honest lives ring once prompt sub block f u is n t p lo hi x =
    let l = led stakes genesis lives prompt block f u is in
    told_by_lem stakes genesis lives prompt block f u is n t p lo hi
    (final.told stakes genesis (λ n. (lives n).came) prompt block f u l t lo hi n p honest (book_ring stakes genesis honest lives ring) (parents stakes genesis honest lives ring.nodes.lived once) (sub n p)
    (to stakes genesis lives prompt block f u is (λ l. T (is_final l t (block t))) n p x.holds))

pub blocks_final : BlocksFinal
blocks_final stakes genesis honest lives ring once block f u is n t h lo hi =
    let x = final.blocks_final stakes genesis honest (λ n. (lives n).came) (book_ring stakes genesis honest lives ring) (parents stakes genesis honest lives ring.nodes.lived once)
    block f u (led stakes genesis lives honest block f u is) n t h lo hi in (
      back stakes genesis lives honest block f u is (λ l. T (held l certificate.FastFinal t (block t))) n h x.0,
      proves stakes genesis lives honest block f u is t lo hi n h x.1.holds,
      told_by_lem stakes genesis lives honest block f u is n t h lo hi x.2,
    )

pub others_too : OthersToo
others_too stakes genesis honest lives ring once prompt block f u is n t h woken lo hi hear =
    let a = ring.nodes.lived n h in
    let all = ring.nodes.lived in
    let x = others.others_too stakes genesis honest (λ n. (lives n).came) (book_ring stakes genesis honest lives ring) (parents stakes genesis honest lives all once)
    prompt block f u (led stakes genesis lives prompt block f u is) n t h
    (subst T (sym (woken_armed stakes n (genesis n) a.started (lives n).came)) (subst (λ (l : Ledger). T (is_armed l 1)) a.lived.ledger woken))
    lo hi (heard stakes genesis lives prompt block f u is t lo hi (lives n) _ a.lived.ledger hear) in
    both stakes genesis lives prompt block f u is t lo hi n (genesis n) (lives n) (node n a) a.lived x.0 x.1.marked x.1.told

pub watchers_too : WatchersToo
watchers_too stakes genesis honest lives ring once prompt block f u is g v w holds same woken t lo hi hear =
    let all = ring.nodes.lived in
    let x = others.watchers_too stakes genesis honest (λ n. (lives n).came) (book_ring stakes genesis honest lives ring) (parents stakes genesis honest lives all once)
    prompt block f u (led stakes genesis lives prompt block f u is) g w.started v.came
    (holds_more honest (told_ballot lives) (cast_by stakes genesis honest (λ n. (lives n).came)) (told_cast stakes genesis honest lives all) (watched stakes g v.came)
    (subst (HoldsGenuine honest (told_ballot lives)) w.lived.ledger holds))
    (λ n s b p x q y k r z. same n s b p x q y k (subst (λ (l : Ledger). T (keeps_block l s b p x)) (sym (all n k).lived.ledger) r)
    (subst (λ (l : Ledger). T (keeps_block l s b q y)) (sym w.lived.ledger) z))
    (subst T (sym (watcher_woken_armed stakes g w.started v.came)) (subst (λ (l : Ledger). T (is_armed l 1)) w.lived.ledger woken))
    t lo hi (heard stakes genesis lives prompt block f u is t lo hi v _ w.lived.ledger hear) in
    both stakes genesis lives prompt block f u is t lo hi (length stakes) g v (watcher w) w.lived x.0 x.1 x.2

pub next_leader : NextLeader
next_leader stakes genesis lives prompt block f u le last first is n p =
    let x = final.next_leader stakes genesis (λ n. (lives n).came) prompt block f u le last first (led stakes genesis lives prompt block f u is) n p in (
      back stakes genesis lives prompt block f u is (λ l. T (ready l (suc u) u (block u))) n p x.0,
      back stakes genesis lives prompt block f u is (λ l. T (is_armed l (suc u))) n p x.1,
    )

pub first_window : FirstWindow
first_window stakes genesis honest lives ring once g one block u on n t h lo hi =
    let x = blocks_final stakes genesis honest lives ring once block 1 u
    (record {
      parent_slot = 0;
      parent = g;
      on = on;
      ready_parent = λ m k. subst (λ (b : ℕ). T (ready (ledger_in (lives m)) 1 0 b)) (one m k) (genesis_ready stakes m (genesis m) (lives m) (on.lived m k));
    }) n t h lo hi in
    (x.1, x.2)

pub any_window : AnyWindow
any_window stakes genesis honest lives ring once v last mail g one =
    let c = parent.common_parent stakes genesis honest (λ n. (lives n).came) (book_ring stakes genesis honest lives ring) v last (mail_in stakes genesis honest lives ring v mail) g one in
    let r : (n : ℕ) → T (honest n) → T (ready (ledger_in (lives n)) (suc v) c.0 c.1) =
    λ n h. subst (λ (l : Ledger). T (ready l (suc v) c.0 c.1)) (sym (ring.nodes.lived n h).lived.ledger) (c.2 n h) in (
      c.0,
      c.1,
      r,
      λ block u on n t h lo hi.
          let x = blocks_final stakes genesis honest lives ring once block (suc v) u (record { parent_slot = c.0; parent = c.1; on = on; ready_parent = r }) n t h lo hi in
          (x.1, x.2),
    )
