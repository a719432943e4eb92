-- Laws of what is shown of a kept certificate: where none is, what weighing its signers asks, and that they are told. Assumes nothing.
use Rattle.std.specs.Prelude.{Option, Some, None}
use mathlib.Core.Path.{◌≡◌, refl, sym, ap, ◌∙◌}
use mathlib.Core.Bool.{true, false, ◌&&◌, ◌||◌}
use mathlib.Core.List.{List}
use Prim.Native.Nat.{ℕ, ◌≤◌}
use native.Mathlib.Omega.{arith}
use lib.ListN.{length, get_or-eq_default}
use Rattle.rulebook.specs.declared.Accepted.{Accepted}
use Rattle.rulebook.specs.declared.CertificateKind.{CertificateKind}
use Rattle.rulebook.specs.Certificates.{Kept}
use Rattle.rulebook.specs.Tools.{whenever}
use Rattle.rulebook.specs.Weights.{slot_ok, weight}
use Rattle.rulebook.specs.Packets.{joined, bit, count_of}
use Rattle.rulebook.specs.Ledger.{Ledger, no_kept, most_certificates, places, table_of, certificates_at, kept_at, is_kept}
use Rattle.rulebook.specs.Pool.{place_kind}
use Rattle.rulebook.specs.Checker.{signed, signed_weight}
use Rattle.rule_laws.proofs.ToolLaws.{by_test, given_on, given_off, both_and}
use Rattle.rule_laws.proofs.PlaceLaws.{placed_each}
use Rattle.record.specs.Layout.{mask_words, ledger_of}
use Rattle.record.proofs.Reading.{ledger_shaped}
use Rattle.stakes.specs.declared.LentTable.{LentTable}
use Rattle.stakes.specs.declared.Weighed.{Weighed}
use Rattle.stakes.specs.Masks.{Signed}
use Rattle.stakes.specs.Table.{weighed}
use Rattle.kept_audit.specs.Judging.{Judging}
use Rattle.kept_audit.proofs.Laws.{record_table, kept_judgeable}
use Rattle.soundness.specs.Sound.{sound_words}
use Rattle.soundness.proofs.Laws.{sound_long, sound_head, sound_tabled}
use Rattle.shown.proofs.Laws.{slot_small, slot_later}
use Rattle.shown_kept.specs.Kept.{told_of, kept_shown}

-- ---- where none is kept, and where one is

module _ (ws : List ℕ) (s i : ℕ) where
  abbrev here : Kept
  here = kept_at (ledger_of ws) s i

  abbrev inside : Option Accepted
  inside = whenever (is_kept here) (λ _. Some (told_of (ledger_of ws) s i)) None

  pub past_places : slot_ok s ≡ true → most_certificates ≤ i → None ≡ kept_shown ws s i
  unfolding kept_shown
  past_places h k =
      let free : here ≡ no_kept =
      get_or-eq_default (certificates_at (ledger_of ws) s) no_kept (omega (arith, (ledger_shaped ws).certificates s (slot_small s h))) in
      by_test (slot_ok s && sound_words ws)
      (λ t. sym (given_on (slot_ok s && sound_words ws) None (λ _. inside) t ∙ given_off (is_kept here) None (λ _. Some (told_of (ledger_of ws) s i)) (ap is_kept free)))
      (λ t. sym (given_off (slot_ok s && sound_words ws) None (λ _. inside) t))

  module _ (h : slot_ok s ≡ true) (e : sound_words ws ≡ true) where
    whole : inside ≡ kept_shown ws s i
    unfolding kept_shown
    whole = sym (given_on (slot_ok s && sound_words ws) None (λ _. inside) (both_and (slot_ok s) (sound_words ws) h e))

    pub free_place_lem : is_kept here ≡ false → None ≡ kept_shown ws s i
    free_place_lem f = sym (given_off (is_kept here) None (λ _. Some (told_of (ledger_of ws) s i)) f) ∙ whole

    pub kept_place : is_kept here ≡ true → Some (told_of (ledger_of ws) s i) ≡ kept_shown ws s i
    kept_place f = sym (given_on (is_kept here) None (λ _. Some (told_of (ledger_of ws) s i)) f) ∙ whole

    -- Sound words can be judged anew.
    pub judgeable : Judging ws s
    judgeable =
        let f = sound_head ws e in
        record {
          long = sound_long ws e;
          later = slot_later s h;
          slot = slot_small s h;
          table = sound_tabled ws e;
          few = f.few;
          full = f.room ∙ placed_each (ledger_of ws).count f.few;
        }

-- ---- the signers

-- Masks of the record's width can be weighed with its stakes.
pub weighable : (ws : List ℕ) (s : ℕ) → Judging ws s → (stakes a b : List ℕ) → stakes ≡ table_of (ledger_of ws)
    → length a ≡ mask_words (places (ledger_of ws)) → length b ≡ mask_words (places (ledger_of ws)) → Signed stakes a b
weighable ws s j stakes a b e x y =
    let l = ledger_of ws in
    let t : LentTable = record { count = l.count; total = record { 0 = l.total } } in
    let k = kept_judgeable ws s j t (record_table l j.table j.few t refl refl) stakes a b e x y in
    record { lent = k.weighty.fit.lent; long = k.weighty.wide.long; same = k.weighty.wide.same }

-- What is weighed is what is told.
pub told_same : (l : Ledger) (s i : ℕ) (kind : CertificateKind) (block : ℕ) (stakes a b : List ℕ) (w : Weighed) → kind ≡ place_kind i
    → block ≡ (kept_at l s i).block → stakes ≡ table_of l → joined a ≡ (kept_at l s i).maska → joined b ≡ (kept_at l s i).maskb
    → w ≡ weighed stakes (length stakes) (λ n. bit (joined a) n || bit (joined b) n)
    → record { kind = kind; slot = record { 0 = s }; block = block; signers = w.signers; weight = w.weight } ≡ told_of l s i
unfolding told_of weighed signed signed_weight
told_same l s i kind block stakes a b w ek eb es x y ew =
    ap (λ (v : Weighed). record { kind = kind; slot = record { 0 = s }; block = block; signers = v.signers; weight = v.weight }) ew
    ∙ (λ j. record {
      kind = ek j;
      slot = record { 0 = s };
      block = eb j;
      signers = count_of (λ n. bit (x j) n || bit (y j) n) (length (es j));
      weight = record { 0 = weight (es j) (length (es j)) (λ n. bit (x j) n || bit (y j) n) };
    })
