-- Beside a voting node a watcher that is shown what the node accepts, and the votes that it casts, keeps the node's pool. Assumes nothing.
use Rattle.std.specs.Prelude.{⊤, Result, Ok, Err}
use mathlib.Core.Path.{◌≡◌, refl, sym, ap, ◌∙◌, subst}
use mathlib.Core.Bool.{true, false, not, ◌&&◌, ◌||◌}
use mathlib.Core.List.{List, [], ◌∷◌, ◌++◌, reverse}
use Prim.Native.Nat.{ℕ, ◌≤◌, ◌<◌}
use native.Mathlib.Omega.{arith}
use lib.ListN.{length, get_or}
use lib.Dec.{eqb, leb, ltb}
use borrow.Author.Tests.{le-leb, lt-leb, eq-eqb, ne_eqb, eqb-true, ltb-true, ltb-false}
use Rattle.rulebook.specs.declared.Block.{Block}
use Rattle.rulebook.specs.declared.Cell.{Cell}
use Rattle.rulebook.specs.declared.Input.{Input}
use Rattle.rulebook.specs.declared.Input.TheVariants as input
use Rattle.rulebook.specs.declared.Place.TheVariants.{Free}
use Rattle.rulebook.specs.declared.Refusal.{Refusal}
use Rattle.rulebook.specs.declared.Refusal.TheVariants as refusal
use Rattle.rulebook.specs.declared.Vote.{Vote}
use Rattle.rulebook.specs.declared.VoteKind.{VoteKind}
use Rattle.rulebook.specs.Tools.{whenever}
use Rattle.rulebook.specs.Weights.{last_slot, slot_ok}
use Rattle.rulebook.specs.Certificates.{Certificate}
use Rattle.rulebook.specs.PaperNumbers.{vote_number, kind_in}
use Rattle.rulebook.specs.Ledger.{Ledger, none, no_cell, no_initial, cell_at, own_cell, is_watcher, table_of, certificates_at, some_block, put_timed_out, fresh}
use Rattle.rulebook.specs.Votes.{place_of, store_vote}
use Rattle.rulebook.specs.Rules.{Record, State, state_of, record_of, cast, cast_skips}
use Rattle.rulebook.specs.Run.{run}
use Rattle.rulebook.specs.Checker.{One, good, bad, one_at}
use Rattle.rulebook.specs.Inputs.{Fed, refuse_if, is_other, misfits, place_verdict, bad_parent, same_block, stands_against, vote_verdict, block_verdict, verdict, keep_block, time_out, intake, fed_with, refused_with, feed, start_verdict, watch_verdict}
use Rattle.rulebook.specs.Taking.{kept_verdict, keep_certificate, taken, take_packet, Arrival, of_input, of_packet, served}
use Rattle.rule_laws.proofs.ToolLaws.{given_keeps, by_test, both_and, true_not_false}
use Rattle.rule_laws.proofs.AcceptedLaws.{one_good}
use Rattle.settling.specs.Facts.{Sound}
use Rattle.settling.specs.Steps.{Lawful, AndVotes, kind_for, after}
use Rattle.settling.proofs.LawfulRules.{voter_casting, skips_keep, run_keeps}
use Rattle.settling.proofs.Sounding.{own_in, sound_vote, sound_kept, sound_certificate, sound_timed_out, sound_final, sound_clash, sound_armed}
use Rattle.settling.proofs.Soundness.{sound_lawful, intake_sound, served_sound}
use Rattle.settling.proofs.Verdicts.{vote_fine, block_fine, timeout_fine}
use Rattle.settling.proofs.Life.{taken_fine}
use Rattle.settling.proofs.FeedLaws.{feed_fine, feed_refused, packet_bad, packet_long, packet_whole, taken_refused, taken_kept}
use Rattle.settling.proofs.Start.{start_fine, fresh_sound, watching_sound}
use Rattle.watchers.specs.Watching.{tells_vote, as_votes, passed_on, is_done, shown_of, shown, all_taken, SamePool, WatcherFollows}
use Rattle.watchers.proofs.PoolLaws.{pool_back, pool_then, pool_timed_out, pool_final, pool_clash, pool_armed, pool_stored, pool_blocked, pool_certified, pool_held, pool_table}
use Rattle.watchers.proofs.ShownLaws.{Beside, ShownTo, shown_none, shown_then, shown_one_lem, told_vote, told_none, free_kind, kind_told, vote_of, vote_told}

-- ---- the watcher's rules change nothing of the pool

beside_lawful : (l : Ledger) → Lawful (λ o. Beside l o.ledger)
unfolding is_watcher
beside_lawful l =
    record {
      sound = λ o h. h.sound;
      vote = λ o s k b low high v e m w h. true_not_false (is_watcher o.ledger) h.watcher v;
      arm = λ o s low high e h.
          record { sound = sound_armed o.ledger h.sound s low high; watcher = h.watcher; pool = pool_then h.pool (pool_armed o.ledger s) };
      tell = λ o s b low high e m h.
          record { sound = sound_final o.ledger h.sound s low high b; watcher = h.watcher; pool = pool_then h.pool (pool_final o.ledger s b) };
      clash = λ o s b low high e h.
          record { sound = sound_clash o.ledger h.sound s low high; watcher = h.watcher; pool = pool_then h.pool (pool_clash o.ledger s) };
    }

-- What it accepts is answered 0, and the rules run.
watcher_serves : {l : Ledger} (f : Fed) (o : State) → f ≡ fed_with (run o) → Beside l o.ledger → (is_done f.answer ≡ true) × Beside l f.ledger
unfolding fed_with is_done
watcher_serves {l = l} f o e b =
    subst (λ (x : Fed). (is_done x.answer ≡ true) × Beside l x.ledger) (sym e) (refl, run_keeps (λ x. Beside l x.ledger) (beside_lawful l) o b)

-- ---- what the watcher is shown

module _ {l m : Ledger} (g : Sound l) (b : Beside l m) where
  abbrev e : SamePool l m
  e = b.pool

  other_number : (n : ℕ) → n < l.count → n ≡ m.own → ⊥
  unfolding is_watcher
  other_number n h q = omega (arith, q, e.count, eqb-true m.own m.count b.watcher)

  -- A vote of any node of the table, the voting node's own among them.
  vote_shown : (k : VoteKind) (n s x : ℕ) → is_other k ≡ false → 1 ≤ s → s ≤ last_slot → n < l.count → misfits k x ≡ false → place_of (cell_at l s n) k x ≡ Free
      → ShownTo m (of_input (input.Vote (vote_of k n s x)) ∷ []) (store_vote l s n k x)
  unfolding served verdict intake vote_verdict refuse_if place_verdict slot_ok is_watcher store_vote
  vote_shown k n s x kind low high node fits free =
      let v : Vote = vote_of k n s x in
      let there : n < m.count = omega (arith, e.count) in
      let place : place_of (cell_at m s n) k x ≡ Free = ap (λ (cs : List Cell). place_of (get_or cs n no_cell) k x) (e.cells s) ∙ free in
      let slot : slot_ok s ≡ true = both_and (leb 1 s) (leb s last_slot) (le-leb 1 s low) (le-leb s last_slot high) in
      let fine : vote_verdict m v ≡ Ok tt = rw (kind, slot, lt-leb m.count n there, ne_eqb n m.own (other_number n node), fits, place) in
      let p = watcher_serves (served m (of_input (input.Vote v))) (intake m (input.Vote v)) (feed_fine m (input.Vote v) fine)
      (record {
        sound = sound_vote m b.sound s low high n k x there place fits (λ q. absurd (other_number n node q));
        watcher = b.watcher;
        pool = pool_stored e g b.sound s high n k x;
      }) in
      shown_one_lem m (of_input (input.Vote v)) (store_vote l s n k x) p.0 p.1

  block_shown : (s : ℕ) (x : Block) → block_verdict l s x ≡ Ok tt → ShownTo m (of_input (input.Block (record { 0 = s }) x) ∷ []) (keep_block l s x)
  unfolding served verdict intake is_watcher keep_block block_verdict bad_parent
  block_shown s x f =
      let c : Input = input.Block (record { 0 = s }) x in
      let same : block_verdict m s x ≡ block_verdict l s x =
      (λ i. refuse_if (not (slot_ok s)) refusal.BadSlot
      (refuse_if (none x.number || none x.parent) refusal.BadBlock
      (refuse_if (leb s x.parentslot.0 || (none x.parentslot.0 && not (eqb x.parent (e.genesis i)))) refusal.BadParent
      (refuse_if (some_block (λ k. same_block k x) (e.blocks s i)) refusal.AlreadyKept
      (refuse_if (stands_against x (e.blocks s i)) refusal.OtherStands (Ok tt)))))) in
      let d = block_fine l s x f in
      let p = watcher_serves (served m (of_input c)) (intake m c) (feed_fine m c (same ∙ f))
      (record {
        sound = sound_kept m b.sound s d.low d.high x (block_fine m s x (same ∙ f));
        watcher = b.watcher;
        pool = pool_blocked e g b.sound s d.high x;
      }) in
      shown_one_lem m (of_input c) (keep_block l s x) p.0 p.1

  packet_shown : (packet : List ℕ) (c : Certificate) (next : ℕ) → one_at (table_of l) packet 0 ≡ good c next → length packet ≤ next
      → kept_verdict (certificates_at l c.slot) (kind_for l c) c.block ≡ Ok tt → ShownTo m (of_packet packet ∷ []) (keep_certificate l c)
  unfolding served is_watcher keep_certificate
  packet_shown packet c next o long f =
      let read : one_at (table_of m) packet 0 ≡ good c next = ap (λ (ws : List ℕ). one_at ws packet 0) (pool_table e) ∙ o in
      let kept : kept_verdict (certificates_at m c.slot) (kind_for m c) c.block ≡ Ok tt =
      (λ i. kept_verdict (e.certificates c.slot i) (kind_in (e.count i) c.kind) c.block) ∙ f in
      let d = taken_fine m b.sound c (one_good (table_of m) packet 0 c next read).1 kept in
      let p = watcher_serves (served m (of_packet packet)) (state_of (keep_certificate m c) []) (packet_whole m packet c next read long ∙ taken_kept m c kept)
      (record { sound = sound_certificate m b.sound c d; watcher = b.watcher; pool = pool_certified e g b.sound c d.high }) in
      shown_one_lem m (of_packet packet) (keep_certificate l c) p.0 p.1

-- ---- the votes that the node casts while it serves one arrival

-- The watcher, which was m when the call's first vote was cast, has been shown those of its records so far.
record Following (me : ℕ) (m : Ledger) (o : State) : Type 0 where
  pub sound : Sound o.ledger
  pub own : o.ledger.own ≡ me
  pub shown : ShownTo m (as_votes me (reverse o.records)) o.ledger

module _ (me : ℕ) (m : Ledger) where
  -- A record that tells of no vote leaves the pool.
  silent_follows : (o : State) (l : Ledger) (r : Record) → Following me m o → tells_vote r ≡ false → Sound l → l.own ≡ o.ledger.own → SamePool o.ledger l
      → Following me m (state_of l (r ∷ o.records))
  silent_follows o l r h t f n p =
      let b = h.shown.beside in
      record {
        sound = f;
        own = n ∙ h.own;
        shown =
            subst (λ (cs : List Arrival). ShownTo m cs l) (sym (told_none me r o.records t))
            (record { taken = h.shown.taken; beside = record { sound = b.sound; watcher = b.watcher; pool = pool_then (pool_back p) b.pool } });
      }

  -- An own vote is shown as an ordinary one.
  vote_follows : (o : State) (s : ℕ) (k : VoteKind) (x : ℕ) → 1 ≤ s → s ≤ last_slot → is_watcher o.ledger ≡ false → place_of (own_cell o.ledger s) k x ≡ Free
      → misfits k x ≡ false → Following me m o → ShownTo m (as_votes me (reverse (cast o s k x).records)) (cast o s k x).ledger
  unfolding cast
  vote_follows o s k x low high v free fits h =
      let l : Ledger = o.ledger in
      let n : ℕ = l.own in
      let r : Record = record_of (vote_number k) s x in
      let kind = free_kind (own_cell l s) k x free in
      let told : List Arrival = as_votes me (reverse o.records) in
      let list : as_votes me (reverse (r ∷ o.records)) ≡ told ++ (of_input (input.Vote (vote_of k n s x)) ∷ []) =
      told_vote me r o.records (kind_told k s x kind)
      ∙ ap (λ (w : Vote). told ++ (of_input (input.Vote w) ∷ [])) (vote_told k me s x kind ∙ ap (λ (i : ℕ). vote_of k i s x) (sym h.own)) in
      subst (λ (cs : List Arrival). ShownTo m cs (store_vote l s n k x)) (sym list)
      (shown_then m told _ _ h.shown.taken (vote_shown h.sound h.shown.beside k n s x kind low high (own_in l h.sound v) fits free))

  following_lawful : Lawful (Following me m)
  unfolding cast store_vote tells_vote
  following_lawful =
      record {
        sound = λ o h. h.sound;
        vote = λ o s k x low high v e f w h.
            record { sound = sound_lawful.vote o s k x low high v e f w h.sound; own = h.own; shown = vote_follows o s k x low high v e f h };
        arm = λ o s low high e h. silent_follows o _ (record_of 7 s 0) h refl (sound_armed o.ledger h.sound s low high) refl (pool_armed o.ledger s);
        tell = λ o s x low high e f h. silent_follows o _ (record_of 6 s x) h refl (sound_final o.ledger h.sound s low high x) refl (pool_final o.ledger s x);
        clash = λ o s x low high e h. silent_follows o _ (record_of 8 s x) h refl (sound_clash o.ledger h.sound s low high) refl (pool_clash o.ledger s);
      }

-- Nothing is told yet: the watcher has what was passed on.
begins : (me : ℕ) (m : Ledger) (cs : List Arrival) (k : Ledger) → Sound k → k.own ≡ me → ShownTo m cs k → Following me (after m cs) (state_of k [])
unfolding as_votes
begins me m cs k f n s = record { sound = f; own = n; shown = shown_none s.beside }

-- ---- one arrival

module _ (l m : Ledger) (g : Sound l) (b : Beside l m) where
  abbrev me : ℕ
  me = l.own

  abbrev Served : Arrival → Fed → Type 0
  Served c f = ShownTo m (shown_of me c f) f.ledger

  refused_shown : (c : Arrival) (r : Refusal) → Served c (refused_with l r)
  unfolding shown_of is_done refused_with whenever
  refused_shown c r = shown_none b

  done_shown : (c : Arrival) (o : State) → all_taken m (passed_on c) ≡ true → Following me (after m (passed_on c)) o → Served c (fed_with (run o))
  unfolding shown_of is_done fed_with whenever
  done_shown c o t h = shown_then m (passed_on c) _ _ t (run_keeps (Following me (after m (passed_on c))) (following_lawful me (after m (passed_on c))) o h).shown

  input_shown : (i : Input) → verdict l i ≡ Ok tt → Served (of_input i) (fed_with (run (intake l i)))
  unfolding intake verdict passed_on after all_taken store_vote keep_block time_out is_watcher
  input_shown (input.Vote w) f =
      let d = vote_fine l w f in
      let s = vote_shown g b w.kind w.node.0 w.slot.0 w.block d.kind d.low d.high d.node d.fits d.free in
      done_shown (of_input (input.Vote w)) _ s.taken (begins me m _ _ (intake_sound l g (input.Vote w) f) refl s)
  input_shown (input.Block t x) f =
      let s = block_shown g b t.0 x f in
      done_shown (of_input (input.Block t x)) _ s.taken (begins me m _ _ (intake_sound l g (input.Block t x) f) refl s)
  input_shown (input.Timeout t) f =
      let d = timeout_fine l t.0 f in
      let o : State = state_of (put_timed_out l t.0) [] in
      let p : Beside (put_timed_out l t.0) m = record { sound = b.sound; watcher = b.watcher; pool = pool_then (pool_back (pool_timed_out l t.0)) b.pool } in
      let h = begins me m [] (put_timed_out l t.0) (sound_timed_out l g t.0 d.low d.high) refl (shown_none p) in
      done_shown (of_input (input.Timeout t)) _ refl
      (given_keeps (Following me m) (no_initial (own_cell l t.0)) o (λ _. cast_skips o t.0) h
      (λ _. (skips_keep (AndVotes (Following me m)) (voter_casting (Following me m) (following_lawful me m)) t.0 d.low d.high o (h, d.votes)).0))
  input_shown input.Look f = done_shown (of_input input.Look) _ refl (begins me m [] l g refl (shown_none b))

  input_served : (i : Input) → Served (of_input i) (feed l i)
  input_served i = go (verdict l i) refl
    where
      go : (v : Result ⊤ Refusal) → verdict l i ≡ v → Served (of_input i) (feed l i)
      go (Ok tt) f = subst (Served (of_input i)) (sym (feed_fine l i f)) (input_shown i f)
      go (Err r) f = subst (Served (of_input i)) (sym (feed_refused l i r f)) (refused_shown (of_input i) r)

  module _ (packet : List ℕ) where
    kept_served : (c : Certificate) (next : ℕ) → one_at (table_of l) packet 0 ≡ good c next → length packet ≤ next → Served (of_packet packet) (taken l c)
    unfolding passed_on keep_certificate
    kept_served c next o long = go (kept_verdict (certificates_at l c.slot) (kind_for l c) c.block) refl
      where
        go : (v : Result ⊤ Refusal) → kept_verdict (certificates_at l c.slot) (kind_for l c) c.block ≡ v → Served (of_packet packet) (taken l c)
        go (Ok tt) f =
            let s = packet_shown g b packet c next o long f in
            let d = taken_fine l g c (one_good (table_of l) packet 0 c next o).1 f in
            subst (Served (of_packet packet)) (sym (taken_kept l c f)) (done_shown (of_packet packet) _ s.taken (begins me m _ _ (sound_certificate l g c d) refl s))
        go (Err r) f = subst (Served (of_packet packet)) (sym (taken_refused l c r f)) (refused_shown (of_packet packet) r)

    packet_served : Served (of_packet packet) (take_packet l packet)
    packet_served = go (one_at (table_of l) packet 0) refl
      where
        go : (x : One) → one_at (table_of l) packet 0 ≡ x → Served (of_packet packet) (take_packet l packet)
        go (bad r) o = subst (Served (of_packet packet)) (sym (packet_bad l packet r o)) (refused_shown (of_packet packet) r)
        go (good c next) o =
            by_test (ltb next (length packet))
            (λ t. subst (Served (of_packet packet)) (sym (packet_long l packet c next o (ltb-true next (length packet) t))) (refused_shown (of_packet packet) refusal.BadLength))
            (λ t.
            let long = ltb-false next (length packet) t in
            subst (Served (of_packet packet)) (sym (packet_whole l packet c next o long)) (kept_served c next o long))

  arrival_served : (c : Arrival) → Served c (served l c)
  unfolding served
  arrival_served (of_input i) = input_served i
  arrival_served (of_packet packet) = packet_served packet

-- ---- a life

pub life_follows : (cs : List Arrival) (l m : Ledger) → Sound l → Beside l m → ShownTo m (shown l cs) (after l cs)
unfolding shown after
life_follows [] l m g b = shown_none b
life_follows (c ∷ cs) l m g b =
    let s = arrival_served l m g b c in
    shown_then m (shown_of l.own c (served l c)) (shown (served l c).ledger cs) (after (served l c).ledger cs) s.taken
    (life_follows cs (served l c).ledger (after m (shown_of l.own c (served l c))) (served_sound l g c) s.beside)

-- A fresh watcher stands beside a fresh node of its table.
fresh_beside : (stakes : List ℕ) (me genesis : ℕ) → start_verdict stakes me genesis ≡ Ok tt → Beside (fresh stakes me genesis) (fresh stakes (length stakes) genesis)
unfolding fresh is_watcher watch_verdict refuse_if
fresh_beside stakes me genesis e =
    let f = start_fine stakes me genesis e in
    let w : watch_verdict stakes genesis ≡ Ok tt = rw (f.0, f.2) in
    record {
      sound = watching_sound stakes genesis w;
      watcher = eq-eqb (length stakes) (length stakes) refl;
      pool = record { count = refl; total = refl; genesis = refl; stakes = refl; cells = λ s. refl; blocks = λ s. refl; certificates = λ s. refl; cards = λ s. refl };
    }

pub watcher_follows : WatcherFollows
watcher_follows stakes me genesis e cs =
    let l : Ledger = fresh stakes me genesis in
    let s = life_follows cs l (fresh stakes (length stakes) genesis) (fresh_sound stakes me genesis e) (fresh_beside stakes me genesis e) in
    record { taken = s.taken; pool = s.beside.pool; holds = pool_held s.beside.pool }
