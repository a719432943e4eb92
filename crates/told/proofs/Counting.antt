-- Records that are counted by a mark of the ledger: where every way of making a record adds to the count what it adds to the mark, the count of a
-- life is what the mark has grown by.
use Rattle.std.specs.Prelude.{⊤, Result, Ok, Err}
use mathlib.Core.Path.{◌≡◌, refl}
use mathlib.Core.Bool.{Bool, true, false}
use mathlib.Core.List.{List, [], ◌∷◌, ◌++◌, reverse, reverse_aux}
use Prim.Native.Nat.{ℕ, ◌+◌, ◌<◌, ◌≤◌}
use native.Mathlib.Omega.{arith}
use lib.ListN.{length}
use Rattle.rulebook.specs.declared.Vote.{Vote}
use Rattle.rulebook.specs.declared.VoteKind.{VoteKind}
use Rattle.rulebook.specs.declared.Place.TheVariants.{Free}
use Rattle.rulebook.specs.declared.Input.{Input}
use Rattle.rulebook.specs.declared.Input.TheVariants as input
use Rattle.rulebook.specs.declared.Refusal.{Refusal}
use Rattle.rulebook.specs.Tools.{part}
use Rattle.rulebook.specs.Weights.{last_slot}
use Rattle.rulebook.specs.PaperNumbers.{vote_number}
use Rattle.rulebook.specs.Certificates.{Certificate}
use Rattle.rulebook.specs.Ledger.{Ledger, Row, none, table_of, no_initial, is_watcher, is_armed, row_at, cell_at, own_cell, certificates_at, put_row, put_armed, put_timed_out, put_final, put_clash}
use Rattle.rulebook.specs.Votes.{place_of, store_vote}
use Rattle.rulebook.specs.Rules.{Record, State, state_of, record_of, cast, cast_skips}
use Rattle.rulebook.specs.Run.{run}
use Rattle.rulebook.specs.Inputs.{Fed, misfits, keep_block, verdict, time_out, intake, fed_with, refused_with, fed_on, feed}
use Rattle.rulebook.specs.Checker.{judge}
use Rattle.rulebook.specs.Taking.{kept_verdict, keep_certificate, taken_on, taken, Arrival, of_input, of_packet, served}
use Rattle.rule_laws.proofs.AcceptedLaws.{packet_cases}
use Rattle.rule_laws.proofs.ToolLaws.{given_keeps}
use Rattle.settling.specs.Facts.{Sound}
use Rattle.settling.specs.Steps.{Lawful, AndVotes, VoteFine, kind_for, CertificateFine, life}
use Rattle.settling.proofs.Places.{row_cases}
use Rattle.settling.proofs.FactLaws.{formed, count_placed}
use Rattle.settling.proofs.Weighing.{row_cells, stored_cases}
use Rattle.settling.proofs.Sounding.{sound_certificate, sound_timed_out}
use Rattle.settling.proofs.LawfulRules.{voter_casting, skips_keep, run_keeps}
use Rattle.settling.proofs.Soundness.{sound_lawful, intake_sound, served_sound}
use Rattle.settling.proofs.Verdicts.{vote_fine, block_fine, timeout_fine}
use Rattle.settling.proofs.Life.{taken_fine}
use Rattle.safety.specs.Ring.{after_all}
use Rattle.told.specs.Told.{count_of}

-- ---- counted in any order

count_aux : (p : Record → Bool) (xs ys : List Record) → count_of p (reverse_aux xs ys) ≡ count_of p xs + count_of p ys
unfolding count_of
count_aux p [] ys = omega arith
count_aux p (x ∷ xs) ys = omega (arith, count_aux p xs (x ∷ ys))

pub count_reverse : (p : Record → Bool) (xs : List Record) → count_of p (reverse xs) ≡ count_of p xs
unfolding count_of
count_reverse p xs = omega (arith, count_aux p xs [])

pub count_append : (p : Record → Bool) (xs ys : List Record) → count_of p (xs ++ ys) ≡ count_of p xs + count_of p ys
unfolding count_of
count_append p [] ys = omega arith
count_append p (x ∷ xs) ys = omega (arith, count_append p xs ys)

-- ---- what counts records

-- Two ledgers with the same own votes, marks and armed windows.
pub record Same (l m : Ledger) : Type 0 where
  pub own : (s : ℕ) → own_cell m s ≡ own_cell l s
  pub final : (s : ℕ) → (row_at m s).final ≡ (row_at l s).final
  pub clash : (s : ℕ) → (row_at m s).clash ≡ (row_at l s).clash
  pub armed : m.armed ≡ l.armed

-- The mark f counts the records that pass p: an own vote, an arming, a final block told and another told each add to it one where the record passes, and
-- what leaves own votes, marks and windows as they were leaves it.
pub record Counts (p : Record → Bool) (f : Ledger → ℕ) : Type 0 where
  pub vote : (l : Ledger) → Sound l → is_watcher l ≡ false → (s : ℕ) (k : VoteKind) (b : ℕ) → 1 ≤ s → s ≤ last_slot → place_of (own_cell l s) k b ≡ Free → misfits k b ≡ false
      → f (store_vote l s l.own k b) ≡ part (p (record_of (vote_number k) s b)) 1 + f l
  pub arm : (l : Ledger) → Sound l → (s : ℕ) → 1 ≤ s → s ≤ last_slot → is_armed l s ≡ false → f (put_armed l s) ≡ part (p (record_of 7 s 0)) 1 + f l
  pub tell : (l : Ledger) → Sound l → (s b : ℕ) → 1 ≤ s → s ≤ last_slot → none (row_at l s).final ≡ true → none b ≡ false → f (put_final l s b) ≡ part (p (record_of 6 s b)) 1 + f l
  pub clash : (l : Ledger) → Sound l → (s b : ℕ) → 1 ≤ s → s ≤ last_slot → none (row_at l s).clash ≡ true → f (put_clash l s) ≡ part (p (record_of 8 s b)) 1 + f l
  pub rest : (l m : Ledger) → Same l m → f m ≡ f l

-- A state that was reached where the mark was n.
record Balanced (p : Record → Bool) (f : Ledger → ℕ) (n : ℕ) (o : State) : Type 0 where
  pub sound : Sound o.ledger
  pub balance : f o.ledger ≡ count_of p o.records + n

module _ (p : Record → Bool) (f : Ledger → ℕ) (law : Counts p f) where
  lawful : (n : ℕ) → Lawful (Balanced p f n)
  unfolding count_of cast
  lawful n =
      record {
        sound = λ o h. h.sound;
        vote = λ o s k b low high v e m w h.
            record { sound = sound_lawful.vote o s k b low high v e m w h.sound; balance = omega (arith, law.vote o.ledger h.sound v s k b low high e m, h.balance) };
        arm = λ o s low high e h.
            record { sound = sound_lawful.arm o s low high e h.sound; balance = omega (arith, law.arm o.ledger h.sound s low high e, h.balance) };
        tell = λ o s b low high e m h.
            record { sound = sound_lawful.tell o s b low high e m h.sound; balance = omega (arith, law.tell o.ledger h.sound s b low high e m, h.balance) };
        clash = λ o s b low high e h.
            record { sound = sound_lawful.clash o s b low high e h.sound; balance = omega (arith, law.clash o.ledger h.sound s b low high e, h.balance) };
      }

  -- ---- every arrival

  module _ (l : Ledger) (h : Sound l) where
    -- A row with the same cells and marks.
    row_same : (t : ℕ) (r : Row) → t ≤ last_slot → r.cells ≡ (row_at l t).cells → r.final ≡ (row_at l t).final → r.clash ≡ (row_at l t).clash → Same l (put_row l t r)
    row_same t r high cells final clash =
        let there : t < length l.rows = omega (arith, h.shaped.rows) in
        record {
          own = λ s. row_cells l t r there cells s l.own;
          final = λ s. row_cases l t r (λ i x. x.final ≡ (row_at l i).final) s there final (λ _. refl);
          clash = λ s. row_cases l t r (λ i x. x.clash ≡ (row_at l i).clash) s there clash (λ _. refl);
          armed = refl;
        }

    -- Another node's vote.
    vote_same : (v : Vote) → VoteFine l v → Same l (store_vote l v.slot.0 v.node.0 v.kind v.block)
    unfolding store_vote
    vote_same v g =
        let there : v.slot.0 < length l.rows = omega (arith, h.shaped.rows, g.high) in
        record {
          own = λ s. stored_cases l h.shaped v.slot.0 v.node.0 v.kind v.block g.high (omega (arith, g.node, count_placed l (formed l h.formed).head)) g.free
              (λ j i c. i ≡ l.own → c ≡ cell_at l j i) (λ q. absurd (g.outside q)) (λ j i q. refl) s l.own refl;
          final = λ s. row_cases l v.slot.0 _ (λ i x. x.final ≡ (row_at l i).final) s there refl (λ _. refl);
          clash = λ s. row_cases l v.slot.0 _ (λ i x. x.clash ≡ (row_at l i).clash) s there refl (λ _. refl);
          armed = refl;
        }

    begins : (m : Ledger) → Sound m → Same l m → Balanced p f (f l) (state_of m [])
    unfolding count_of
    begins m k same = record { sound = k; balance = omega (arith, law.rest l m same) }

    intake_counts : (i : Input) → verdict l i ≡ Ok tt → Balanced p f (f l) (intake l i)
    unfolding intake verdict keep_block time_out is_watcher
    intake_counts (input.Vote v) e = begins _ (intake_sound l h (input.Vote v) e) (vote_same v (vote_fine l v e))
    intake_counts (input.Block t b) e =
        begins _ (intake_sound l h (input.Block t b) e) (row_same t.0 _ (block_fine l t.0 b e).high refl refl refl)
    intake_counts (input.Timeout t) e =
        let g = timeout_fine l t.0 e in
        let o : State = state_of (put_timed_out l t.0) [] in
        let k = begins (put_timed_out l t.0) (sound_timed_out l h t.0 g.low g.high) (row_same t.0 _ g.high refl refl refl) in
        given_keeps (Balanced p f (f l)) (no_initial (own_cell l t.0)) o (λ _. cast_skips o t.0) k
        (λ _. (skips_keep (AndVotes (Balanced p f (f l))) (voter_casting (Balanced p f (f l)) (lawful (f l))) t.0 g.low g.high o (k, g.votes)).0)
    intake_counts input.Look e = begins l h (record { own = λ s. refl; final = λ s. refl; clash = λ s. refl; armed = refl })

    abbrev Grows : Fed → Type 0
    Grows g = f g.ledger ≡ count_of p g.records + f l

    refused_counts : f l ≡ count_of p [] + f l
    unfolding count_of
    refused_counts = omega arith

    run_counts : (o : State) → Balanced p f (f l) o → Grows (fed_with (run o))
    unfolding fed_with
    run_counts o k = omega (arith, count_reverse p (run o).records, (run_keeps (Balanced p f (f l)) (lawful (f l)) o k).balance)

    fed_counts : (v : Result ⊤ Refusal) (i : Input) → verdict l i ≡ v → Grows (fed_on v l i)
    unfolding fed_on refused_with
    fed_counts (Ok tt) i e = run_counts (intake l i) (intake_counts i e)
    fed_counts (Err r) i e = refused_counts

    kept_counts : (c : Certificate) → CertificateFine l c → Balanced p f (f l) (state_of (keep_certificate l c) [])
    unfolding keep_certificate
    kept_counts c g = begins (keep_certificate l c) (sound_certificate l h c g) (row_same c.slot _ g.high refl refl refl)

    taken_counts : (v : Result ⊤ Refusal) (c : Certificate) → judge (table_of l) c ≡ Ok tt → kept_verdict (certificates_at l c.slot) (kind_for l c) c.block ≡ v → Grows (taken_on v l c)
    unfolding taken_on refused_with
    taken_counts (Ok tt) c j e = run_counts (state_of (keep_certificate l c) []) (kept_counts c (taken_fine l h c j e))
    taken_counts (Err r) c j e = refused_counts

    served_counts : (i : Arrival) → Grows (served l i)
    unfolding served feed taken refused_with
    served_counts (of_input i) = fed_counts (verdict l i) i refl
    served_counts (of_packet bytes) =
        packet_cases Grows l bytes (λ r. refused_counts) (λ c next e j. taken_counts (kept_verdict (certificates_at l c.slot) (kind_for l c) c.block) c j refl)

  -- ---- a life

  pub life_counts : (l : Ledger) (is : List Arrival) → Sound l → f (after_all l is) ≡ count_of p (life l is) + f l
  unfolding after_all life count_of
  life_counts l [] h = omega arith
  life_counts l (i ∷ is) h =
      omega (
        arith,
        count_append p (served l i).records (life (served l i).ledger is),
        served_counts l h i,
        life_counts (served l i).ledger is (served_sound l h i),
      )
