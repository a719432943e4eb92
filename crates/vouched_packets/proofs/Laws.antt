-- The lines of a packet by what the code has read. Assumes nothing.
use Rattle.std.specs.Prelude.{Result, Ok, Err}
use mathlib.Core.Path.{◌≡◌, refl, sym, ap, ◌∙◌}
use mathlib.Core.Bool.{true, false, not}
use mathlib.Core.List.{List, []}
use Prim.Native.Nat.{ℕ, ◌≤◌, ◌<◌}
use native.Mathlib.Omega.{arith}
use lib.ListN.{length, get_or, length-append, take, get_or-eq_default}
use lib.Dec.{ltb}
use borrow.Author.Tests.{lt-ltb, le-ltb}
use Rattle.rulebook.specs.declared.Cell.{Cell}
use Rattle.rulebook.specs.declared.Accepted.{Accepted}
use Rattle.rulebook.specs.declared.Refusal.{Refusal}
use Rattle.rulebook.specs.declared.Refusal.TheVariants as refusal
use Rattle.rulebook.specs.declared.Heading.{Heading}
use Rattle.rulebook.specs.Certificates as found
use Rattle.rulebook.specs.Weights.{last_slot}
use Rattle.rulebook.specs.PaperNumbers.{kind_in}
use Rattle.rulebook.specs.Ledger.{Ledger, Row, no_cell, no_row, blank_row, own_cell, is_watcher, table_of}
use Rattle.rulebook.specs.Packets.{certificate_at, certificate_of, words_in, bit, joined}
use Rattle.rulebook.specs.Checker.{check_certificate, check_proof}
use Rattle.rule_laws.proofs.ToolLaws.{given_on, given_off}
use Rattle.rule_laws.proofs.AcceptedLaws.{past_end}
use Rattle.certificate_numbers.specs.Told.{found_as}
use Rattle.record.specs.Layout.{ledger_of}
use Rattle.record.proofs.Reading.{ledger_shaped}
use Rattle.soundness.specs.Sound.{sound_words}
use Rattle.inquest.specs.declared.Line.{Line}
use Rattle.inquest.specs.Lists.{signer_lacks, found_lacks, next_lacks, lacking_in}
use Rattle.inquest_lines.specs.declared.ListRefusal.{ListRefusal}
use Rattle.inquest_lines.specs.declared.ListRefusal.TheVariants as why
use Rattle.inquest_lines.specs.Lent.{Laid, Told, refused_by, listed_in, ToldIn}
use Rattle.inquest_lines.proofs.Laws.{spelled, laid_none, laid_then, laid_as, told_as, told_refused, told_nothing}
use Rattle.signer_lines.specs.declared.Signer.{Signer}
use Rattle.signer_lines.specs.Signers.{lacks}
use Rattle.signer_lines.proofs.Laws.{signer_lacks_lem, signer_most}
use Rattle.vouched_packets.specs.Asked.{end_in, first_end, check_packet, read_lacks, packet_lacks, checked_on, packet_on, PacketOf}
use Rattle.rulebook.specs.declared.Unread.{Unread}
use Rattle.rulebook.specs.declared.Unread.TheVariants.{Early, Malformed}

-- ---- where the first certificate ends

module _ (packet : List ℕ) (f : found.Found) (h : Result (Heading × ℕ) Unread) (a b : List ℕ) (e : found_as h a b ≡ f) where
  pub end_whole : (x : Heading) (next : ℕ) → h ≡ Ok (x, next) → next ≡ end_in packet f
  unfolding found_as end_in
  end_whole x next k = sym (ap (λ (g : Result (Heading × ℕ) Unread). end_in packet (found_as g a b)) k) ∙ ap (end_in packet) e

  pub end_failed : (u : Unread) → h ≡ Err u → length packet ≡ end_in packet f
  unfolding found_as end_in
  end_failed Early k = sym (ap (λ (g : Result (Heading × ℕ) Unread). end_in packet (found_as g a b)) k) ∙ ap (end_in packet) e
  end_failed Malformed k = sym (ap (λ (g : Result (Heading × ℕ) Unread). end_in packet (found_as g a b)) k) ∙ ap (end_in packet) e

-- ---- the check

pub ends_before : (e n f : ℕ) → e ≡ f → e < n → ltb f n ≡ true
ends_before e n f k h = lt-ltb f n (omega (arith, k, h))

pub ends_there : (e n f : ℕ) → e ≡ f → n ≤ e → ltb f n ≡ false
ends_there e n f k h = le-ltb f n (omega (arith, k, h))

module _ (stakes packet : List ℕ) where
  pub check_longer : ltb (first_end packet) (length packet) ≡ true → check_proof stakes packet ≡ check_packet stakes packet
  unfolding check_packet
  check_longer e = sym (given_on (ltb (first_end packet) (length packet)) (check_certificate stakes packet) (λ _. check_proof stakes packet) e)

  pub check_single : ltb (first_end packet) (length packet) ≡ false → check_certificate stakes packet ≡ check_packet stakes packet
  unfolding check_packet
  check_single e = sym (given_off (ltb (first_end packet) (length packet)) (check_certificate stakes packet) (λ _. check_proof stakes packet) e)

-- ---- a slot past the last

rows_short : (ws : List ℕ) (s : ℕ) → last_slot < s → length (ledger_of ws).rows ≤ s
rows_short ws s h = omega (arith, (ledger_shaped ws).rows, h)

pub no_votes_lem : (ws : List ℕ) (s : ℕ) → last_slot < s → no_cell ≡ own_cell (ledger_of ws) s
unfolding no_row blank_row
no_votes_lem ws s h =
    sym (ap (λ (r : Row). get_or r.cells (ledger_of ws).own no_cell) (get_or-eq_default (ledger_of ws).rows no_row (rows_short ws s h)))

-- ---- a certificate

module _ (r : Ledger) (f : found.Found) (h : Result (Heading × ℕ) Unread) (a b : List ℕ) (e : found_as h a b ≡ f) {list : List ℕ} {at : ℕ} where
  pub found_failed : (u : Unread) → h ≡ Err u → Laid list at (found_lacks r f) list at
  unfolding found_as found_lacks
  found_failed Early k = laid_as (sym (ap (λ (g : Result (Heading × ℕ) Unread). found_lacks r (found_as g a b)) k) ∙ ap (found_lacks r) e) (laid_none spelled list at)
  found_failed Malformed k = laid_as (sym (ap (λ (g : Result (Heading × ℕ) Unread). found_lacks r (found_as g a b)) k) ∙ ap (found_lacks r) e) (laid_none spelled list at)

  pub found_put : (x : Heading) (p w : ℕ) {left : List ℕ} {next : ℕ} → h ≡ Ok (x, p) → w ≡ words_in x.kind
      → Laid list at (read_lacks r (certificate_of x (take w a) (take w b))) left next → Laid list at (found_lacks r f) left next
  unfolding found_as found_lacks
  found_put x p w k n y =
      laid_as (ap (λ (m : ℕ). read_lacks r (certificate_of x (take m a) (take m b))) n ∙ sym (ap (λ (g : Result (Heading × ℕ) Unread). found_lacks r (found_as g a b)) k) ∙ ap (found_lacks r) e) y

pub found_most : (r : Ledger) (f : found.Found) → length (found_lacks r f) ≤ 2
unfolding found_lacks
found_most r (found.Whole c next) = signer_most (kind_in r.count c.kind) c r.own (own_cell r c.slot)
found_most r found.Early = omega arith
found_most r found.Malformed = omega arith

pub read_put : (r : Ledger) (h : Heading) (a b : List ℕ) (x : Signer) (d : Cell) {list left : List ℕ} {at next n : ℕ} → n ≡ r.count → x.kind ≡ kind_in n h.kind → x.slot.0 ≡ h.slot.0 → x.node.0 ≡ r.own → x.block ≡ h.block
    → x.a ≡ bit (joined a) x.node.0 → x.b ≡ bit (joined b) x.node.0 → d ≡ own_cell r h.slot.0 → Laid list at (lacks x d) left next → Laid list at (read_lacks r (certificate_of h a b)) left next
read_put r h a b x d {n = n} en ek es em eb ea ebb ed w =
    laid_as (signer_lacks_lem x d (kind_in n h.kind) (certificate_of h a b) x.node.0 ek es refl eb ea ebb
    ∙ (λ i. signer_lacks (kind_in (en i) h.kind) (certificate_of h a b) (em i) (ed i))) w

-- ---- a packet

next_is : (r : Ledger) (packet : List ℕ) (f : found.Found) → found_lacks r (certificate_at packet (end_in packet f)) ≡ next_lacks r packet f
unfolding end_in next_lacks found_lacks
next_is r packet (found.Whole c next) = refl
next_is r packet found.Early = ap (found_lacks r) (past_end packet (length packet) (omega arith))
next_is r packet found.Malformed = ap (found_lacks r) (past_end packet (length packet) (omega arith))

pub packet_put : (r : Ledger) (packet : List ℕ) {l m n : List ℕ} {p q e : ℕ} → e ≡ first_end packet → Laid l 0 (found_lacks r (certificate_at packet 0)) m p → Laid m p (found_lacks r (certificate_at packet e)) n q
    → Laid l 0 (lacking_in r packet) n q
unfolding lacking_in
packet_put r packet k w v =
    laid_then spelled w (laid_as (ap (λ (i : ℕ). found_lacks r (certificate_at packet i)) k ∙ next_is r packet (certificate_at packet 0)) v)

pub packet_most : (r : Ledger) (packet : List ℕ) → length (lacking_in r packet) ≤ 4
unfolding lacking_in
packet_most r packet =
    let f = certificate_at packet 0 in
    let n = ap length (next_is r packet f) in
    omega (arith, length-append (found_lacks r f) (next_lacks r packet f), found_most r f, n, found_most r (certificate_at packet (end_in packet f)))

-- ---- the call

module _ (ws packet list : List ℕ) where
  abbrev judged : Unit {0} → Told
  judged _ = checked_on (ledger_of ws) packet (length list) (check_packet (table_of (ledger_of ws)) packet)

  pub bad_told : sound_words ws ≡ false → PacketOf ws packet list (Err (why.Refused refusal.BadRecord)) list
  unfolding packet_on
  bad_told e =
      told_as (packet_on ws packet (length list)) (refused_by (Err (why.Refused refusal.BadRecord))) (given_off (sound_words ws) (refused_by (Err (why.Refused refusal.BadRecord))) judged e)
      (told_refused list (Err (why.Refused refusal.BadRecord)))

  module _ (e : sound_words ws ≡ true) {c : Result Accepted Refusal} (k : c ≡ check_packet (table_of (ledger_of ws)) packet) where
    onward : packet_on ws packet (length list) ≡ checked_on (ledger_of ws) packet (length list) c
    unfolding packet_on
    onward = given_on (sound_words ws) (refused_by (Err (why.Refused refusal.BadRecord))) judged e ∙ ap (checked_on (ledger_of ws) packet (length list)) (sym k)

    pub refused_told : (r : Refusal) → c ≡ Err r → PacketOf ws packet list (Err (why.Refused r)) list
    unfolding checked_on
    refused_told r d =
        told_as (packet_on ws packet (length list)) (refused_by (Err (why.Refused r))) (onward ∙ ap (checked_on (ledger_of ws) packet (length list)) d) (told_refused list (Err (why.Refused r)))

    module _ (a : Accepted) (d : c ≡ Ok a) where
      listed : (xs : List Line) → packet_lacks (ledger_of ws) packet ≡ xs → packet_on ws packet (length list) ≡ listed_in (length list) xs
      unfolding checked_on
      listed xs x = onward ∙ ap (checked_on (ledger_of ws) packet (length list)) d ∙ ap (listed_in (length list)) x

      pub watcher_told : is_watcher (ledger_of ws) ≡ true → PacketOf ws packet list (Ok 0) list
      unfolding packet_lacks
      watcher_told w =
          told_as (packet_on ws packet (length list)) (listed_in (length list) [])
          (listed [] (given_off (not (is_watcher (ledger_of ws))) [] (λ _. lacking_in (ledger_of ws) packet) (ap not w))) (told_nothing list)

      pub firm_told : {r : Result ℕ ListRefusal} {left : List ℕ} → is_watcher (ledger_of ws) ≡ false → ToldIn list (listed_in (length list) (lacking_in (ledger_of ws) packet)) r left → PacketOf ws packet list r left
      unfolding packet_lacks
      firm_told w t =
          told_as (packet_on ws packet (length list)) (listed_in (length list) (lacking_in (ledger_of ws) packet))
          (listed (lacking_in (ledger_of ws) packet) (given_on (not (is_watcher (ledger_of ws))) [] (λ _. lacking_in (ledger_of ws) packet) (ap not w))) t
