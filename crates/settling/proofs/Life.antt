-- A node whose ledger is sound makes at most 132 records in its life, whatever it is fed and handed.
use Rattle.std.specs.Prelude.{⊤, Result, Ok, Err}
use mathlib.Core.Path.{◌≡◌, refl, ◌∙◌}
use mathlib.Core.Bool.{false}
use mathlib.Core.List.{List, [], ◌∷◌}
use Prim.Native.Nat.{ℕ, ◌≤◌}
use native.Mathlib.Omega.{arith}
use lib.ListN.{length, length-append, length-reverse}
use lib.Dec.{leb}
use Rattle.rulebook.specs.declared.Block.{Block}
use Rattle.rulebook.specs.declared.Vote.{Vote}
use Rattle.rulebook.specs.declared.Input.{Input}
use Rattle.rulebook.specs.declared.Input.TheVariants as input
use Rattle.rulebook.specs.declared.Refusal.{Refusal}
use Rattle.rulebook.specs.declared.Refusal.TheVariants as refusal
use Rattle.rulebook.specs.Weights.{last_slot}
use Rattle.rulebook.specs.Ledger.{is_watcher, Ledger, table_of, no_initial, own_cell, blocks_at, fill_block, certificates_at, put_timed_out}
use Rattle.rulebook.specs.Certificates.{Certificate}
use Rattle.rulebook.specs.Votes.{store_vote}
use Rattle.rulebook.specs.Rules.{State, state_of, cast_skips}
use Rattle.rulebook.specs.Run.{most_records, made, run}
use Rattle.rulebook.specs.Inputs.{Fed, keep_block, verdict, time_out, intake, fed_with, refused_with, fed_on, feed}
use Rattle.rulebook.specs.Checker.{judge}
use Rattle.rulebook.specs.Taking.{fill_kept, kept_verdict, kept_of, keep_certificate, taken_on, taken, take_packet, Arrival, of_input, of_packet, served}
use Rattle.rulebook.specs.WellFormed.{well_formed, outbox_words, step, take_certificate}
use Rattle.rule_laws.proofs.ToolLaws.{given_keeps}
use Rattle.rule_laws.proofs.AcceptedLaws.{packet_cases}
use Rattle.settling.specs.Steps.{SameNode, Came, Paid, VoteFine, BlockFine, kind_for, CertificateFine, Settled, after, life}
use Rattle.settling.specs.Facts.{Sound}
use Rattle.settling.proofs.FactLaws.{formed}
use Rattle.settling.proofs.KeptLaws.{table_long}
use Rattle.settling.proofs.Sounding.{sound_vote, sound_kept, sound_certificate, sound_timed_out}
use Rattle.settling.proofs.SpareLaws.{spare_most, spare_other, spare_blocks, spare_certificates, spare_timed_out}
use Rattle.settling.proofs.Spending.{same_node, stored_same, skips_come, run_comes}
use Rattle.settling.proofs.Settling.{run_settles}
use Rattle.settling.proofs.Verdicts.{vote_fine, block_fine, certificate_fine, timeout_fine}

-- ---- paying

pub paid_nothing : (l : Ledger) → Sound l → Paid l l 0
paid_nothing l h = record { spent = omega arith; sound = h; same = same_node l }

-- What came of a state that was paid is paid.
pub paid_came : (l : Ledger) (o p : State) → Paid l o.ledger (made o) → Came o p → Paid l p.ledger (made p)
paid_came l o p a c =
    record {
      spent = omega (arith, c.spent, a.spent);
      sound = c.sound;
      same =
          record {
            own = c.same.own ∙ a.same.own;
            count = c.same.count ∙ a.same.count;
            total = c.same.total ∙ a.same.total;
            genesis = c.same.genesis ∙ a.same.genesis;
            stakes = c.same.stakes ∙ a.same.stakes;
          };
    }

-- So many records fit: at most 132 are made.
pub paid_within : (l m : Ledger) (n : ℕ) → Paid l m n → n ≤ most_records
paid_within l m n h = omega (arith, h.spent, spare_most l)

-- ---- what an accepted input stores is free

module _ (l : Ledger) (h : Sound l) where
  pub vote_paid : (v : Vote) → VoteFine l v → Paid l (store_vote l v.slot.0 v.node.0 v.kind v.block) 0
  vote_paid v f =
      let m : Ledger = store_vote l v.slot.0 v.node.0 v.kind v.block in
      let same : SameNode l m = stored_same l v.slot.0 v.node.0 v.kind v.block in
      record {
        spent = omega (arith, spare_other l v.slot.0 h.shaped f.low f.high v.node.0 v.kind v.block f.outside);
        sound = sound_vote l h v.slot.0 f.low f.high v.node.0 v.kind v.block f.node f.free f.fits (λ q. absurd (f.outside q));
        same = same;
      }

  pub block_paid : (s : ℕ) (b : Block) → BlockFine l s b → Paid l (keep_block l s b) 0
  unfolding keep_block
  block_paid s b f =
      record {
        spent = omega (arith, spare_blocks l s h.shaped f.low f.high (fill_block b (blocks_at l s)));
        sound = sound_kept l h s f.low f.high b f;
        same = record { own = refl; count = refl; total = refl; genesis = refl; stakes = refl };
      }

  pub certificate_paid : (c : Certificate) → CertificateFine l c → Paid l (keep_certificate l c) 0
  unfolding keep_certificate
  certificate_paid c f =
      record {
        spent = omega (arith, spare_certificates l c.slot h.shaped f.low f.high (fill_kept (kind_for l c) 0 (kept_of c) (certificates_at l c.slot)));
        sound = sound_certificate l h c f;
        same = record { own = refl; count = refl; total = refl; genesis = refl; stakes = refl };
      }

  pub timed_out_paid : (s : ℕ) → 1 ≤ s → s ≤ last_slot → Paid l (put_timed_out l s) 0
  timed_out_paid s low high =
      record {
        spent = omega (arith, spare_timed_out l s h.shaped low high);
        sound = sound_timed_out l h s low high;
        same = record { own = refl; count = refl; total = refl; genesis = refl; stakes = refl };
      }

  -- The skips of a timeout are paid.
  pub time_out_paid : (s : ℕ) → 1 ≤ s → s ≤ last_slot → is_watcher l ≡ false → Paid l (time_out l s).ledger (made (time_out l s))
  unfolding time_out is_watcher
  time_out_paid s low high v =
      let o : State = state_of (put_timed_out l s) [] in
      let p = timed_out_paid s low high in
      given_keeps (λ (q : State). Paid l q.ledger (made q)) (no_initial (own_cell l s)) o (λ _. cast_skips o s) p
      (λ _. paid_came l o (cast_skips o s) p (skips_come o p.sound s low high v))

  -- ---- an accepted input, before the rules and after them

  pub intake_paid : (i : Input) → verdict l i ≡ Ok tt → Paid l (intake l i).ledger (made (intake l i))
  unfolding intake verdict
  intake_paid (input.Vote v) e = vote_paid v (vote_fine l v e)
  intake_paid (input.Block s b) e = let f = block_fine l s.0 b e in block_paid s.0 b f
  intake_paid (input.Timeout s) e = let f = timeout_fine l s.0 e in time_out_paid s.0 f.low f.high f.votes
  intake_paid input.Look e = paid_nothing l h

  pub called_paid : (i : Input) → verdict l i ≡ Ok tt → Paid l (run (intake l i)).ledger (made (run (intake l i)))
  called_paid i e =
      let p = intake_paid i e in paid_came l (intake l i) (run (intake l i)) p (run_comes (intake l i) p.sound)

  -- An outbox of 160 records has room for a call.
  pub called_within : (i : Input) → verdict l i ≡ Ok tt → made (run (intake l i)) ≤ most_records
  called_within i e = paid_within l (run (intake l i)).ledger (made (run (intake l i))) (called_paid i e)

  -- After an accepted input no rule applies.
  pub called_settled : (i : Input) → verdict l i ≡ Ok tt → Settled (run (intake l i))
  called_settled i e = run_settles (intake l i) (intake_paid i e).sound

  -- ---- any input

  fed_on_paid : (v : Result ⊤ Refusal) (i : Input) → verdict l i ≡ v → Paid l (fed_on v l i).ledger (length (fed_on v l i).records)
  unfolding fed_on fed_with refused_with
  fed_on_paid (Ok tt) i e =
      let p = called_paid i e in
      record { spent = omega (arith, p.spent, length-reverse (run (intake l i)).records); sound = p.sound; same = p.same }
  fed_on_paid (Err r) i e = paid_nothing l h

  pub feed_paid : (i : Input) → Paid l (feed l i).ledger (length (feed l i).records)
  unfolding feed
  feed_paid i = fed_on_paid (verdict l i) i refl

  pub step_paid : (room : ℕ) (i : Input) → Paid l (step l room i).ledger (length (step l room i).records)
  unfolding step refused_with
  step_paid room i =
      let P : Fed → Type 0 = λ f. Paid l f.ledger (length f.records) in
      given_keeps P (well_formed l) (refused_with l refusal.BadRecord) _ (paid_nothing l h)
      (λ _. given_keeps P (leb outbox_words room) (refused_with l refusal.NoRoom) (λ _. feed l i) (paid_nothing l h) (λ _. feed_paid i))

  -- ---- a certificate packet

  -- What an accepted certificate has passed.
  pub taken_fine : (c : Certificate) → judge (table_of l) c ≡ Ok tt → kept_verdict (certificates_at l c.slot) (kind_for l c) c.block ≡ Ok tt → CertificateFine l c
  taken_fine c j e = certificate_fine l c (table_long l (formed l h.formed).head) j e

  pub kept_called : (c : Certificate) → CertificateFine l c → Paid l (run (state_of (keep_certificate l c) [])).ledger (made (run (state_of (keep_certificate l c) [])))
  kept_called c f =
      let o : State = state_of (keep_certificate l c) [] in paid_came l o (run o) (certificate_paid c f) (run_comes o (sound_certificate l h c f))

  -- An outbox of 160 records has room for it, and no rule applies afterwards.
  pub kept_within : (c : Certificate) → CertificateFine l c → made (run (state_of (keep_certificate l c) [])) ≤ most_records
  kept_within c f = let o : State = run (state_of (keep_certificate l c) []) in paid_within l o.ledger (made o) (kept_called c f)

  pub kept_settled : (c : Certificate) → CertificateFine l c → Settled (run (state_of (keep_certificate l c) []))
  kept_settled c f = run_settles (state_of (keep_certificate l c) []) (sound_certificate l h c f)

  taken_on_paid : (v : Result ⊤ Refusal) (c : Certificate) → judge (table_of l) c ≡ Ok tt → kept_verdict (certificates_at l c.slot) (kind_for l c) c.block ≡ v
      → Paid l (taken_on v l c).ledger (length (taken_on v l c).records)
  unfolding taken_on fed_with refused_with
  taken_on_paid (Ok tt) c j e =
      let p = kept_called c (taken_fine c j e) in
      record { spent = omega (arith, p.spent, length-reverse (run (state_of (keep_certificate l c) [])).records); sound = p.sound; same = p.same }
  taken_on_paid (Err r) c j e = paid_nothing l h

  pub taken_paid : (c : Certificate) → judge (table_of l) c ≡ Ok tt → Paid l (taken l c).ledger (length (taken l c).records)
  unfolding taken
  taken_paid c j = taken_on_paid (kept_verdict (certificates_at l c.slot) (kind_for l c) c.block) c j refl

  pub packet_paid : (packet : List ℕ) → Paid l (take_packet l packet).ledger (length (take_packet l packet).records)
  unfolding refused_with
  packet_paid packet =
      packet_cases (λ (f : Fed). Paid l f.ledger (length f.records)) l packet (λ r. paid_nothing l h) (λ c next e j. taken_paid c j)

  pub take_paid : (room : ℕ) (packet : List ℕ) → Paid l (take_certificate l room packet).ledger (length (take_certificate l room packet).records)
  unfolding take_certificate refused_with
  take_paid room packet =
      let P : Fed → Type 0 = λ f. Paid l f.ledger (length f.records) in
      given_keeps P (well_formed l) (refused_with l refusal.BadRecord) _ (paid_nothing l h)
      (λ _. given_keeps P (leb outbox_words room) (refused_with l refusal.NoRoom) (λ _. take_packet l packet) (paid_nothing l h) (λ _. packet_paid packet))

  -- ---- what arrives, of either sort

  pub served_paid : (c : Arrival) → Paid l (served l c).ledger (length (served l c).records)
  unfolding served
  served_paid (of_input i) = feed_paid i
  served_paid (of_packet bytes) = packet_paid bytes

-- ---- a life

pub life_paid : (l : Ledger) (cs : List Arrival) → Sound l → Paid l (after l cs) (length (life l cs))
unfolding after life
life_paid l [] h = paid_nothing l h
life_paid l (c ∷ cs) h =
    let p = served_paid l h c in
    let q = life_paid (served l c).ledger cs p.sound in
    record {
      spent = omega (arith, p.spent, q.spent, length-append (served l c).records (life (served l c).ledger cs));
      sound = q.sound;
      same =
          record {
            own = q.same.own ∙ p.same.own;
            count = q.same.count ∙ p.same.count;
            total = q.same.total ∙ p.same.total;
            genesis = q.same.genesis ∙ p.same.genesis;
            stakes = q.same.stakes ∙ p.same.stakes;
          };
    }

-- "the life total is at most 132".
pub life_within : (l : Ledger) (cs : List Arrival) → Sound l → length (life l cs) ≤ most_records
life_within l cs h = paid_within l (after l cs) (length (life l cs)) (life_paid l cs h)
