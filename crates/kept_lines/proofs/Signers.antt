-- The signers of a kept certificate: what weighing them asks, and that they are told. Assumes nothing.
use mathlib.Core.Path.{◌≡◌, refl, ap, ◌∙◌}
use mathlib.Core.Bool.{true, ◌||◌}
use mathlib.Core.List.{List}
use Prim.Native.Nat.{ℕ}
use native.Mathlib.Omega.{arith}
use lib.ListN.{length}
use lib.Dec.{leb}
use borrow.Author.Tests.{leb-true}
use Rattle.rulebook.specs.declared.CertificateKind.{CertificateKind}
use Rattle.rulebook.specs.Weights.{last_slot, slot_ok, weight}
use Rattle.rulebook.specs.Packets.{joined, bit, count_of}
use Rattle.rulebook.specs.Ledger.{Ledger, places, table_of, kept_at}
use Rattle.rulebook.specs.Pool.{place_kind}
use Rattle.rulebook.specs.Checker.{signed, signed_weight}
use Rattle.rule_laws.proofs.ToolLaws.{and_both}
use Rattle.rule_laws.proofs.PlaceLaws.{placed_each}
use Rattle.record.specs.Layout.{mask_words, ledger_of}
use Rattle.stakes.specs.declared.LentTable.{LentTable}
use Rattle.stakes.specs.declared.Weighed.{Weighed}
use Rattle.stakes.specs.Masks.{Signed}
use Rattle.stakes.specs.Table.{weighed}
use Rattle.kept_audit.specs.Judging.{Judging}
use Rattle.kept_audit.proofs.Laws.{record_table, kept_judgeable}
use Rattle.soundness.specs.Sound.{sound_words}
use Rattle.soundness.proofs.Laws.{sound_long, sound_head, sound_tabled}
use Rattle.kept_lines.specs.Told.{told_of}

-- Sound words can be judged anew.
pub judgeable : (ws : List ℕ) (s : ℕ) → slot_ok s ≡ true → sound_words ws ≡ true → Judging ws s
unfolding slot_ok
judgeable ws s h e =
    let f = sound_head ws e in
    let r = and_both (leb 1 s) (leb s last_slot) h in
    record {
      long = sound_long ws e;
      later = leb-true 1 s r.0;
      slot = omega (arith, leb-true s last_slot r.1);
      table = sound_tabled ws e;
      few = f.few;
      full = f.room ∙ placed_each (ledger_of ws).count f.few;
    }

-- Masks of the record's width can be weighed with its stakes.
pub weighable : (ws : List ℕ) (s : ℕ) → Judging ws s → (stakes a b : List ℕ) → stakes ≡ table_of (ledger_of ws)
    → length a ≡ mask_words (places (ledger_of ws)) → length b ≡ mask_words (places (ledger_of ws)) → Signed stakes a b
weighable ws s j stakes a b e x y =
    let l = ledger_of ws in
    let t : LentTable = record { count = l.count; total = record { 0 = l.total } } in
    let k = kept_judgeable ws s j t (record_table l j.table j.few t refl refl) stakes a b e x y in
    record { lent = k.weighty.fit.lent; long = k.weighty.wide.long; same = k.weighty.wide.same }

-- What is weighed is what is told.
pub told_same : (l : Ledger) (s i : ℕ) (kind : CertificateKind) (block : ℕ) (stakes a b : List ℕ) (w : Weighed) → kind ≡ place_kind i
    → block ≡ (kept_at l s i).block → stakes ≡ table_of l → joined a ≡ (kept_at l s i).maska → joined b ≡ (kept_at l s i).maskb
    → w ≡ weighed stakes (length stakes) (λ n. bit (joined a) n || bit (joined b) n)
    → record { kind = kind; slot = record { 0 = s }; block = block; signers = w.signers; weight = w.weight } ≡ told_of l s i
unfolding told_of weighed signed signed_weight
told_same l s i kind block stakes a b w ek eb es x y ew =
    ap (λ (v : Weighed). record { kind = kind; slot = record { 0 = s }; block = block; signers = v.signers; weight = v.weight }) ew
    ∙ (λ j. record {
      kind = ek j;
      slot = record { 0 = s };
      block = eb j;
      signers = count_of (λ n. bit (x j) n || bit (y j) n) (length (es j));
      weight = record { 0 = weight (es j) (length (es j)) (λ n. bit (x j) n || bit (y j) n) };
    })
