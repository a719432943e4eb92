-- What the tests say of a history: the premises themselves.
use Rattle.std.specs.Prelude.{Ok}
use mathlib.Core.Path.{◌≡◌, sym, ap, ◌∙◌, subst}
use mathlib.Core.Bool.{Bool, true, false, not, ◌&&◌, ◌||◌}
use mathlib.Core.List.{List, [], ◌∷◌}
use Prim.Native.Nat.{ℕ, zero, suc, ◌+◌, ◌≤◌, ◌<◌}
use native.Mathlib.Omega.{arith}
use lib.Dec.{T, eqb, leb, eqb→eq, leb→le, ltb→lt, lt→ltb, T_not}
use lib.ListN.{length, get_or}
use Rattle.rulebook.specs.Tools.{choose, some_to}
use Rattle.rulebook.specs.Weights.{last_slot, weight, reaches, is_first, stakes_fit}
use Rattle.rulebook.specs.Ledger.{Ledger, none, fresh, cell_at, own_cell, no_initial, is_armed, keeps_block, blocks_at}
use Rattle.rulebook.specs.Inputs.{start_verdict}
use Rattle.rulebook.specs.Taking.{Arrival}
use Rattle.rule_laws.proofs.ToolLaws.{all_at, some_find}
use Rattle.safety.specs.Slot.{Ballot, notar}
use Rattle.safety.specs.Ballots.{has}
use Rattle.safety.specs.Ring.{after_all, cast_by, FewOthers, Ring}
use Rattle.safety.specs.Examples.{told_in}
use Rattle.safety.proofs.Tests.{T_true, true_t, and_t, T_and, or_t}
use Rattle.safety.proofs.Weighing.{reaches_more, weight_mono}
use Rattle.safety.proofs.Cells.{notar_is}
use Rattle.safety.proofs.Lives.{start_sized, fresh_ready, life_stored}
use Rattle.safety.proofs.Promises.{mail_is_enough}
use Rattle.safety.proofs.Examples.{start_good, mail_ok, packets_ok}
use Rattle.chain.specs.OneChain.{kept_by}
use Rattle.progress.specs.Rest.{is_final_vote}
use Rattle.progress.specs.Progress.{accepted_in, honest_stake, MailIn, Decided, notarized, skipped_over}
use Rattle.progress.proofs.Ends.{woken_armed}
use Rattle.progress.proofs.NeverHangs.{never_hangs, next_window_armed}
use Rattle.progress_histories.specs.Tests.{History, honest_in, fed_in, end_in, along, ends, tolds, end_of, told_of, everywhere, up_to, total, few_others, all_started, mail_genuine, packets_genuine, all_woken, within, votes_in, initial_in, is_heavy, kept_pass, voted_pass, as_kept, blocks_in, the_fifth, the_certificates, the_acceptance, the_votes, the_initials, the_blocks, as_meant, meets_but, is_stuck, hangs_but}
use Rattle.progress_histories.specs.Histories.{AllBut, HangsWithout, GoesOn}
use Rattle.progress_histories.proofs.Cells.{within_has, kept_passes}
use Rattle.progress_histories.proofs.Stuck.{stuck_holds, stuck_backs}

-- ---- each life computed once

along_at : {A : Type 0} (f : ℕ → List Arrival → A) (d : A) (iss : List (List Arrival)) (n i m : ℕ) → i + n ≡ m → i < length iss → get_or (along f n iss) i d ≡ f m (get_or iss i [])
unfolding along
along_at f d [] n i m e h = absurd (omega arith)
along_at f d (is ∷ iss) n zero m e h = let p : n ≡ m = omega arith in ap (λ (j : ℕ). f j is) p
along_at f d (is ∷ iss) n (suc i) m e h = along_at f d iss (suc n) i m (omega arith) (omega arith)

module _ (h : History) where
  pub within_table : (n : ℕ) → T (honest_in h n) → n < length h.arrived
  within_table n z = ltb→lt n (length h.arrived) z

  pub end_is : (n : ℕ) → T (honest_in h n) → end_of (ends h) n ≡ end_in h n
  unfolding ends
  end_is n z = along_at (λ n is. after_all (fresh h.stakes n (h.genesis n)) is) (fresh [] 0 0) h.arrived 0 n n (omega arith) (within_table n z)

  pub told_is : (n : ℕ) → T (honest_in h n) → told_in (fresh h.stakes n (h.genesis n)) (fed_in h n) ≡ told_of (tolds h) n
  unfolding tolds
  told_is n z = sym (along_at (λ n is. told_in (fresh h.stakes n (h.genesis n)) is) [] h.arrived 0 n n (omega arith) (within_table n z))

  -- What holds of the computed end holds of the end.
  pub at_end : (P : Ledger → Bool) (n : ℕ) → T (honest_in h n) → T (P (end_of (ends h) n)) → T (P (end_in h n))
  at_end P n z t = subst (λ (l : Ledger). T (P l)) (end_is n z) t

  pub each : (p : ℕ → Bool) → T (everywhere h p) → (n : ℕ) → T (honest_in h n) → T (p n)
  each p t n z = true_t (p n) (all_at (length h.arrived) n p (T_true (everywhere h p) t) (within_table n z))

  pub slot_of : (u : ℕ) (p : ℕ → Bool) → T (up_to u p) → (s : ℕ) → s ≤ u → T (p s)
  slot_of u p t s hi = true_t (p s) (all_at (suc u) s p (T_true (up_to u p) t) (omega arith))

  -- ---- the ring

  pub few_ok : T (few_others h) → FewOthers h.stakes (honest_in h)
  unfolding few_others
  few_ok t = ltb→lt _ (total h) t

  pub started_ok : T (all_started h) → (n : ℕ) → T (honest_in h n) → start_verdict h.stakes n (h.genesis n) ≡ Ok tt
  unfolding all_started
  started_ok t n z =
      let a = and_t (stakes_fit h.stakes (length h.stakes)) _ t in
      let b = and_t (leb (length h.arrived) (length h.stakes)) (everywhere h (λ n. not (none (h.genesis n)))) a.1 in
      start_good h.stakes n (h.genesis n) a.0 (omega (arith, within_table n z, leb→le (length h.arrived) (length h.stakes) b.0))
      (each (λ n. not (none (h.genesis n))) b.1 n z)

  -- ---- the mail is in

  module _ (st : (n : ℕ) → T (honest_in h n) → start_verdict h.stakes n (h.genesis n) ≡ Ok tt) (u : ℕ) where
    abbrev cast : ℕ → ℕ → Ballot → Bool
    cast n s v = cast_by h.stakes h.genesis (honest_in h) (fed_in h) n s v

    pub own : (n s : ℕ) (v : Ballot) → T (honest_in h n) → T (cast n s v) → T (has (cell_at (end_in h n) s n) v)
    own n s v z t =
        life_stored n (fresh h.stakes n (h.genesis n)) (fed_in h n) (fresh_ready h.stakes n (h.genesis n) (start_sized h.stakes n (h.genesis n) (st n z))) s v t

    woken_ok : T (all_woken h (ends h)) → (n : ℕ) → T (honest_in h n) → T (accepted_in (fresh h.stakes n (h.genesis n)) (fed_in h n))
    unfolding all_woken
    woken_ok t n z =
        true_t (accepted_in (fresh h.stakes n (h.genesis n)) (fed_in h n))
        (woken_armed h.stakes n (h.genesis n) (st n z) (fed_in h n)
        ∙ T_true (is_armed (end_in h n) 1) (at_end (λ l. is_armed l 1) n z (each (λ n. is_armed (end_of (ends h) n) 1) t n z)))

    votes_ok : T (votes_in h u (ends h)) → (n m s : ℕ) (v : Ballot) → T (honest_in h n) → T (honest_in h m) → s ≤ u → T (not (is_final_vote v)) → T (cast m s v)
        → T (has (cell_at (end_in h n) s m) v)
    unfolding votes_in
    votes_ok t n m s v z k hi nf c =
        let ls = ends h in
        let f : ℕ → ℕ → ℕ → Bool = λ n m s. within (cell_at (end_of ls m) s m) (cell_at (end_of ls n) s m) in
        let a = slot_of u (f n m) (each (λ m. up_to u (f n m)) (each (λ n. everywhere h (λ m. up_to u (f n m))) t n z) m k) s hi in
        within_has (cell_at (end_in h m) s m) (cell_at (end_in h n) s m) v nf
        (at_end (λ l. within (cell_at l s m) (cell_at (end_in h n) s m)) m k (at_end (λ l. within (cell_at (end_of ls m) s m) (cell_at l s m)) n z a)) (own m s v k c)

    initial_ok : T (initial_in h u (ends h)) → (n s : ℕ) → T (honest_in h n) → 1 ≤ s → s ≤ u → T (is_armed (end_in h n) s) → T (not (no_initial (own_cell (end_in h n) s)))
    unfolding initial_in
    initial_ok t n s z lo hi armed =
        let f : Ledger → ℕ → Bool = λ l s. none s || (not (is_armed l s) || not (no_initial (own_cell l s))) in
        let a = at_end (λ l. f l s) n z (slot_of u (f (end_of (ends h) n)) (each (λ n. up_to u (f (end_of (ends h) n))) t n z) s hi) in
        or_t (none s) (not (is_armed (end_in h n) s) || not (no_initial (own_cell (end_in h n) s))) a (λ e. absurd (omega (arith, eqb→eq s 0 e)))
        (λ b. or_t (not (is_armed (end_in h n) s)) (not (no_initial (own_cell (end_in h n) s))) b (λ c. absurd (T_not (is_armed (end_in h n) s) c armed)) (λ c. c))

    heavy_ok : (s b : ℕ) → T (reaches 2 (total h) (honest_stake h.stakes h.genesis (honest_in h) (fed_in h) s b)) → T (is_heavy h (ends h) s b)
    unfolding is_heavy
    heavy_ok s b t =
        let p : ℕ → Bool = λ n. honest_in h n && cast n s (notar b) in
        let q : ℕ → Bool = λ n. honest_in h n && eqb (cell_at (end_of (ends h) n) s n).notar b in
        reaches_more 2 (total h) (weight h.stakes (length h.stakes) p) (weight h.stakes (length h.stakes) q)
        (weight_mono h.stakes (length h.stakes) p q
        (λ n x. let a = and_t (honest_in h n) (cast n s (notar b)) x in
        T_and (honest_in h n) (eqb (cell_at (end_of (ends h) n) s n).notar b) a.0
        (subst (λ (l : Ledger). T (eqb (cell_at l s n).notar b)) (sym (end_is n a.0)) (notar_is (cell_at (end_in h n) s n) b (own n s (notar b) a.0 a.1)).1)))
        t

    blocks_ok : T (blocks_in h u (ends h)) → (n m s b p x : ℕ) → T (honest_in h n) → T (honest_in h m) → s ≤ u → T (not (is_first s)) → T (cast n s (notar b))
        → T (kept_by h.stakes h.genesis (honest_in h) (fed_in h) n s b p x)
        → T (reaches 2 (total h) (honest_stake h.stakes h.genesis (honest_in h) (fed_in h) s b)) → T (kept_by h.stakes h.genesis (honest_in h) (fed_in h) m s b p x)
    unfolding blocks_in voted_pass keeps_block
    blocks_ok t n m s b p x z k hi nf c kept heavy =
        let ls = ends h in
        let f : Ledger → Ledger → ℕ → ℕ → Bool = λ l r n s. is_first s || (none (cell_at l s n).notar || (not (is_heavy h ls s (cell_at l s n).notar) || kept_pass (as_kept r s) (cell_at l s n).notar (blocks_at l s))) in
        let g : ℕ → ℕ → ℕ → Bool = λ n m s. f (end_of ls n) (end_of ls m) n s in
        let a = slot_of u (g n m) (each (λ m. up_to u (g n m)) (each (λ n. everywhere h (λ m. up_to u (g n m))) t n z) m k) s hi in
        let d = at_end (λ r. f (end_in h n) r n s) m k (at_end (λ l. f l (end_of ls m) n s) n z a) in
        let v = notar_is (cell_at (end_in h n) s n) b (own n s (notar b) z c) in
        let e = eqb→eq (cell_at (end_in h n) s n).notar b v.1 in
        or_t (is_first s) _ (subst (λ (j : ℕ). T (is_first s || (none j || (not (is_heavy h ls s j) || kept_pass (as_kept (end_in h m) s) j (blocks_at (end_in h n) s))))) e d)
        (λ y. absurd (T_not (is_first s) nf y))
        (λ y. or_t (none b) _ y (λ w. absurd (T_not (none b) v.0 w))
        (λ w. or_t (not (is_heavy h ls s b)) _ w (λ q. absurd (T_not (is_heavy h ls s b) q (heavy_ok s b heavy)))
        (λ q. kept_passes (end_in h m) s b p x (blocks_at (end_in h n) s) q kept)))

  -- ---- all of them

  -- A premise that is not left out is found to hold.
  pub meant : (left q : ℕ) (found : Bool) → T (as_meant left q found) → ¬ (left ≡ q) → T found
  unfolding as_meant choose
  meant left q found t ne = go (eqb left q) (λ e. ne (eqb→eq left q e)) t
    where
      go : (b : Bool) → (T b → ⊥) → T (choose b (not found) found) → T found
      go true never t = absurd (never tt)
      go false never t = t

  pub meets_but_lem : (left u : ℕ) → T (meets_but left h u (ends h) (tolds h)) → AllBut left h u
  unfolding meets_but mail_genuine packets_genuine
  meets_but_lem left u t =
      let ls = ends h in
      let ts = tolds h in
      let a = and_t (all_started h) _ t in
      let b = and_t (mail_genuine h ts) _ a.1 in
      let c = and_t (as_meant left the_fifth (few_others h)) _ b.1 in
      let d = and_t (as_meant left the_certificates (packets_genuine h ts)) _ c.1 in
      let e = and_t (as_meant left the_acceptance (all_woken h ls)) _ d.1 in
      let f = and_t (as_meant left the_votes (votes_in h u ls)) _ e.1 in
      let g = and_t (as_meant left the_initials (initial_in h u ls)) (as_meant left the_blocks (blocks_in h u ls)) f.1 in
      let st = started_ok a.0 in
      record {
        few = λ ne. few_ok (meant left the_fifth (few_others h) c.0 ne);
        started = st;
        mail = mail_ok h.stakes h.genesis (length h.arrived) (honest_in h) (fed_in h) (told_of ts) within_table told_is b.0;
        packets = λ ne n k z x j. packets_ok h.stakes h.genesis (length h.arrived) (honest_in h) (fed_in h) (told_of ts) within_table told_is
            (meant left the_certificates (packets_genuine h ts) d.0 ne) n k z x;
        woken = λ ne. woken_ok st u (meant left the_acceptance (all_woken h ls) e.0 ne);
        votes = λ ne n m s v z k lo hi nf x. votes_ok st u (meant left the_votes (votes_in h u ls) f.0 ne) n m s v z k hi nf x;
        initial = λ ne. initial_ok st u (meant left the_initials (initial_in h u ls) g.0 ne);
        blocks = λ ne. blocks_ok st u (meant left the_blocks (blocks_in h u ls) g.1 ne);
      }

  -- ---- a ring that hangs

  not_decided : (n s : ℕ) → T (honest_in h n) → T (is_stuck (end_in h n) s) → ¬ Decided h.stakes h.genesis (honest_in h) (fed_in h) s
  not_decided n s z t (notarized b some f) = stuck_backs (end_in h n) s t b some (f n z)
  not_decided n s z t (skipped_over f) = stuck_holds (end_in h n) s t (f n z)

  pub hangs : (left u : ℕ) → T (hangs_but left h u (ends h) (tolds h)) → HangsWithout left h u
  unfolding hangs_but
  hangs left u t =
      let p : ℕ → Bool = λ n. is_stuck (end_of (ends h) n) u in
      let a = and_t (meets_but left h u (ends h) (tolds h)) (some_to (length h.arrived) p) t in
      let f = some_find (length h.arrived) p (T_true (some_to (length h.arrived) p) a.1) in
      let z = lt→ltb f.0 (length h.arrived) f.1 in
      record {
        others = meets_but_lem left u a.0;
        hangs = λ g. not_decided f.0 u z (at_end (λ l. is_stuck l u) f.0 z (true_t (p f.0) f.2)) g.decided;
      }

  -- ---- a ring that goes on

  pub goes_on_lem : (u : ℕ) → u ≤ last_slot → T (meets_but 0 h u (ends h) (tolds h)) → GoesOn h u
  goes_on_lem u last t =
      let a = meets_but_lem 0 u t in
      let ring : Ring h.stakes h.genesis (honest_in h) (fed_in h) = mail_is_enough h.stakes h.genesis (honest_in h) (fed_in h)
      (record { few = a.few (λ e. omega arith); started = a.started; mail = a.mail; packets = a.packets (λ e. omega arith) }) in
      let mail : MailIn h.stakes h.genesis (honest_in h) (fed_in h) u =
      record { woken = a.woken (λ e. omega arith); votes = a.votes (λ e. omega arith); initial = a.initial (λ e. omega arith); blocks = a.blocks (λ e. omega arith) } in
      record {
        ring = ring;
        mail = mail;
        going = λ s lo hi. never_hangs h.stakes h.genesis (honest_in h) (fed_in h) ring u last mail s lo hi;
        next = λ room f n z. next_window_armed h.stakes h.genesis (honest_in h) (fed_in h) ring u room mail f n z;
      }
