-- Progress over seen lives: where the mail is in by the words it is in by the ledgers.
use Rattle.std.specs.Prelude.{⊤, Result, Ok}
use mathlib.Core.Path.{◌≡◌, refl, sym, ap, ◌∙◌, subst}
use mathlib.Core.Bool.{true, false, not, ◌&&◌}
use mathlib.Core.List.{List}
use Prim.Native.Nat.{ℕ, suc, ◌≤◌}
use native.Mathlib.Omega.{arith}
use lib.Dec.{T, leb}
use lib.ListN.{length}
use borrow.Author.Tests.{le-leb, le-ltb}
use Rattle.rulebook.specs.declared.CertificateKind.{CertificateKind}
use Rattle.rulebook.specs.declared.CertificateKind.TheVariants as certificate
use Rattle.rulebook.specs.declared.Refusal.{Refusal}
use Rattle.rulebook.specs.declared.Refusal.TheVariants as refusal
use Rattle.rulebook.specs.Weights.{last_slot, slot_ok, total_to}
use Rattle.rulebook.specs.PaperNumbers.{number_in, write_panel}
use Rattle.rulebook.specs.Ledger.{Ledger, none, fresh, cell_at, no_initial, is_armed, keeps_block}
use Rattle.rulebook.specs.Pool.{held}
use Rattle.rulebook.specs.Packets.{certificate_bytes}
use Rattle.rulebook.specs.Checker.{is_other_kind, block_misfits}
use Rattle.rulebook.specs.Taking.{Arrival}
use Rattle.rulebook.specs.Writers.{certificate_for, Wrote, wrote_on, certificate_room, certificate_verdict, write_certificate}
use Rattle.rule_laws.proofs.ToolLaws.{both_and}
use Rattle.rule_laws.proofs.RuleLaws.{refuse_none}
use Rattle.rule_laws.proofs.KindLaws.{kind_back}
use Rattle.record.specs.Layout.{ledger_of}
use Rattle.safety.specs.Slot.{Test, notar}
use Rattle.safety.specs.Ballots.{has}
use Rattle.safety.specs.Ring.{after_all, life, cast_by}
use Rattle.safety.specs.Watchers.{watched}
use Rattle.safety.proofs.Tests.{T_true, not_false, and_t, T_and}
use Rattle.safety.proofs.Weighing.{reaches_more, weight_mono}
use Rattle.safety.proofs.Safety.{end_ready}
use Rattle.safety.proofs.Written.{count_is}
use Rattle.progress.specs.Progress as book
use Rattle.progress.specs.Watching as watch
use Rattle.progress.proofs.Ends as ends
use Rattle.progress.proofs.NeverHangs as hangs
use Rattle.progress.proofs.Watching as watching
use Rattle.progress.proofs.Watching.{watcher_woken_armed, watchers_decide}
use Rattle.safety.proofs.Lives.{Sized, start_sized, watch_sized}
use Rattle.seen.specs.Seen.{Seen, ledger_in, LifeSeen, NodeSeen}
use Rattle.seen.specs.Ring.{Lives, told_ballot, Ring}
use Rattle.seen.specs.Progress.{Gives, told_stake, MailIn, WatcherMail, Decided, notarized, skipped_over, WokenArmed, NeverHangs, NextWindowArmed, WatchersArm}
use Rattle.seen.proofs.Ring.{cast_told, book_ring}
use Rattle.seen.proofs.Written.{certificate_on_lem}

-- ---- what is held is written

held_written : (l : Ledger) (room : ℕ) (k : CertificateKind) (s b : ℕ) → certificate_room l.count ≤ room → is_other_kind k ≡ false → 1 ≤ s → s ≤ last_slot
    → block_misfits k b ≡ false → held l k s b ≡ true
    → (write_certificate l room k s b).answer ≡ Ok (length (certificate_bytes (certificate_for l k s b)))
unfolding write_certificate certificate_verdict wrote_on slot_ok
held_written l room k s b fits kind lo hi block h =
    ap (λ (v : Result ⊤ Refusal). (wrote_on v (certificate_bytes (certificate_for l k s b))).answer)
    (refuse_none _ refusal.NoRoom _ (le-ltb room (certificate_room l.count) fits)
    (refuse_none _ refusal.BadKind _ kind
    (refuse_none _ refusal.BadSlot _ (ap not (both_and (leb 1 s) (leb s last_slot) (le-leb 1 s lo) (le-leb s last_slot hi)))
    (refuse_none _ refusal.BadBlock _ block (refuse_none _ refusal.NotHeld (Ok tt) (ap not h) refl)))))

-- A node's life, or a watcher's.
module _ (stakes : List ℕ) (own genesis : ℕ) (size : Sized stakes own) (life : Seen) (h : LifeSeen (fresh stakes own genesis) life) where
  abbrev now : Ledger
  now = after_all (fresh stakes own genesis) life.came

  words_are : ledger_in life ≡ now
  words_are = h.ledger

  pub gives : (k : CertificateKind) (s b : ℕ) → is_other_kind k ≡ false → 1 ≤ s → s ≤ last_slot → block_misfits k b ≡ false → T (held now k s b) → Gives stakes life k s b
  unfolding write_panel
  gives k s b kind lo hi block t =
      record {
        is_held = subst (λ (l : Ledger). T (held l k s b)) (sym words_are) t;
        writes = λ buffer after number count fits w.
            w.numbered
            ∙ ap (λ (x : Wrote). (write_panel x.answer).number) (certificate_on_lem stakes own genesis size life h (length buffer) (number_in (length stakes) k) s b)
            ∙ ap (λ (j : CertificateKind). (write_panel (write_certificate now (length buffer) j s b).answer).number) (kind_back (length stakes) k)
            ∙ ap (λ (x : Result ℕ Refusal). (write_panel x).number) (held_written now (length buffer) k s b
            (subst (λ (n : ℕ). certificate_room n ≤ length buffer) (sym (count_is stakes own genesis size life.came)) fits)
            kind lo hi block (T_true (held now k s b) t));
      }

  pub gives_three : (s b : ℕ) → 1 ≤ s → s ≤ last_slot → T (not (none b)) → T (held now certificate.NotarFallback s b) → Gives stakes life certificate.NotarFallback s b
  unfolding is_other_kind block_misfits
  gives_three s b lo hi some t = gives certificate.NotarFallback s b refl lo hi (not_false (none b) some) t

  pub gives_four : (s : ℕ) → 1 ≤ s → s ≤ last_slot → T (held now certificate.Skip s 0) → Gives stakes life certificate.Skip s 0
  unfolding is_other_kind block_misfits
  gives_four s lo hi t = gives certificate.Skip s 0 refl lo hi refl t

-- ---- the mail

module _ (stakes : List ℕ) (genesis : ℕ → ℕ) (honest : Test) (lives : Lives) (ring : Ring stakes genesis honest lives) where
  -- What arrived at each node with its calls.
  abbrev fed : ℕ → List Arrival
  fed n = (lives n).came

  abbrev all : (n : ℕ) → T (honest n) → NodeSeen stakes n (genesis n) (lives n)
  all = ring.nodes.lived

  abbrev end : ℕ → Ledger
  end n = life stakes genesis honest fed n

  pub ledger_is : (n : ℕ) → T (honest n) → ledger_in (lives n) ≡ end n
  ledger_is n h = (all n h).lived.ledger

  -- What an honest node cast it told, and so no less stake told a vote than cast it.
  pub stake_told : (s b : ℕ) → book.honest_stake stakes genesis honest fed s b ≤ told_stake stakes honest lives s b
  stake_told s b =
      weight_mono stakes (length stakes) (λ n. honest n && cast_by stakes genesis honest fed n s (notar b)) (λ n. honest n && told_ballot lives n s (notar b))
      (λ n t. let a = and_t (honest n) (cast_by stakes genesis honest fed n s (notar b)) t in
      T_and (honest n) (told_ballot lives n s (notar b)) a.0 (cast_told stakes genesis honest lives all n s (notar b) a.0 a.1))

  module _ (u : ℕ) (mail : MailIn stakes honest lives u) where
    -- The mail is in by the ledgers.
    pub mail_in : book.MailIn stakes genesis honest fed u
    mail_in =
        record {
          woken = λ n h. subst T (sym (ends.woken_armed stakes n (genesis n) (all n h).started (fed n)))
              (subst (λ (l : Ledger). T (is_armed l 1)) (ledger_is n h) (mail.woken n h));
          votes = λ n m s v h k lo hi f t. subst (λ (l : Ledger). T (has (cell_at l s m) v)) (ledger_is n h)
              (mail.votes n m s v h k lo hi f (cast_told stakes genesis honest lives all m s v k t));
          initial = λ n s h lo hi t. subst (λ (j : ℕ). T (not (no_initial (cell_at (end n) s j)))) (sym (end_ready stakes genesis honest fed (book_ring stakes genesis honest lives ring) n h).own)
              (subst (λ (l : Ledger). T (not (no_initial (cell_at l s n)))) (ledger_is n h)
              (mail.initial n s h lo hi (subst (λ (l : Ledger). T (is_armed l s)) (sym (ledger_is n h)) t)));
          blocks = λ n m s b p x h k hi f v t w. subst (λ (l : Ledger). T (keeps_block l s b p x)) (ledger_is m k)
              (mail.blocks n m s b p x h k hi f (cast_told stakes genesis honest lives all n s (notar b) h v)
              (subst (λ (l : Ledger). T (keeps_block l s b p x)) (sym (ledger_is n h)) t)
              (reaches_more 2 (total_to stakes (length stakes)) (book.honest_stake stakes genesis honest fed s b) (told_stake stakes honest lives s b) (stake_told s b) w));
        }

    -- So it is at a watcher.
    module _ (g : ℕ) (life : Seen) (w : WatcherMail stakes honest lives u g life) where
      seen_is : ledger_in life ≡ watched stakes g life.came
      seen_is = w.begun.lived.ledger

      watch_size : Sized stakes (length stakes)
      watch_size = watch_sized stakes g w.begun.started

      watcher_mail : watch.WatcherMail stakes genesis honest fed u g life.came
      watcher_mail =
          let fine = w.begun.started in
          record {
            started = fine;
            woken = subst T (sym (watcher_woken_armed stakes g fine life.came)) (subst (λ (l : Ledger). T (is_armed l 1)) seen_is w.woken);
            votes = λ m s v h lo hi f t. subst (λ (l : Ledger). T (has (cell_at l s m) v)) seen_is
                (w.votes m s v h lo hi f (cast_told stakes genesis honest lives all m s v h t));
          }

    module _ (last : u ≤ last_slot) (s : ℕ) (lo : 1 ≤ s) (hi : s ≤ u) where
      decided : s ≤ last_slot → watch.DecidedEverywhere stakes genesis honest fed u s → Decided stakes honest lives u s
      decided top (watch.notarized b some at seen) =
          notarized b some
          (λ n h. gives_three stakes n (genesis n) (start_sized stakes n (genesis n) (all n h).started) (lives n) (all n h).lived s b lo top some (at n h))
          (λ g life w. gives_three stakes (length stakes) g (watch_size g life w) life w.begun.lived s b lo top some (seen g life.came (watcher_mail g life w)))
      decided top (watch.skipped_over at seen) =
          skipped_over
          (λ n h. gives_four stakes n (genesis n) (start_sized stakes n (genesis n) (all n h).started) (lives n) (all n h).lived s lo top (at n h))
          (λ g life w. gives_four stakes (length stakes) g (watch_size g life w) life w.begun.lived s lo top (seen g life.came (watcher_mail g life w)))

-- ---- the promises

pub woken_armed : WokenArmed
woken_armed stakes own genesis life h = ends.woken_armed stakes own genesis h.started life.came ∙ ap (λ (l : Ledger). is_armed l 1) (sym h.lived.ledger)

pub never_hangs : NeverHangs
never_hangs stakes genesis honest lives ring u last mail s lo hi =
    let r = book_ring stakes genesis honest lives ring in
    let m = mail_in stakes genesis honest lives ring u mail in
    record {
      armed = λ n h. subst (λ (l : Ledger). T (is_armed l s)) (sym (ledger_is stakes genesis honest lives ring n h))
          ((hangs.never_hangs stakes genesis honest (fed stakes genesis honest lives ring) r u last m s lo hi).armed n h);
      decided = decided stakes genesis honest lives ring u mail last s lo hi (omega arith)
          (watchers_decide stakes genesis honest (fed stakes genesis honest lives ring) r u last m s lo hi);
    }

pub next_window_armed : NextWindowArmed
next_window_armed stakes genesis honest lives ring u last mail f n h =
    subst (λ (l : Ledger). T (is_armed l (suc u))) (sym (ledger_is stakes genesis honest lives ring n h))
    (hangs.next_window_armed stakes genesis honest (fed stakes genesis honest lives ring) (book_ring stakes genesis honest lives ring) u last
    (mail_in stakes genesis honest lives ring u mail) f n h)

pub watchers_arm : WatchersArm
watchers_arm stakes genesis honest lives ring u last mail g life w s lo hi top =
    subst (λ (l : Ledger). T (is_armed l s)) (sym (seen_is stakes genesis honest lives ring u mail g life w))
    (watching.watchers_arm stakes genesis honest (fed stakes genesis honest lives ring) (book_ring stakes genesis honest lives ring) u last
    (mail_in stakes genesis honest lives ring u mail) g life.came (watcher_mail stakes genesis honest lives ring u mail g life w) s lo hi top)
