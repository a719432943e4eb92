-- A node casts at most three notar-fallback votes in a slot in its life, whatever it is fed: each that it casts takes one of the three
-- places. Nothing is asked of the other nodes.
use Rattle.std.specs.Prelude.{⊤, Result, Ok, Err}
use mathlib.Core.Path.{◌≡◌, refl, sym, ap, ◌∙◌}
use mathlib.Core.Bool.{false}
use mathlib.Core.List.{List, [], ◌∷◌, ◌++◌, reverse, reverse_aux}
use Prim.Native.Nat.{ℕ, ◌+◌, ◌<◌, ◌≤◌}
use native.Mathlib.Omega.{arith}
use lib.ListN.{length, get_or, set}
use lib.Seq.{get_or-set_same}
use lib.Dec.{eqb}
use borrow.Author.Tests.{eqb-true, eqb-false}
use Rattle.rulebook.specs.declared.Cell.{Cell}
use Rattle.rulebook.specs.declared.Block.{Block}
use Rattle.rulebook.specs.declared.Vote.{Vote}
use Rattle.rulebook.specs.declared.VoteKind.{VoteKind}
use Rattle.rulebook.specs.declared.Place.TheVariants.{Free}
use Rattle.rulebook.specs.declared.Input.{Input}
use Rattle.rulebook.specs.declared.Input.TheVariants as input
use Rattle.rulebook.specs.declared.Refusal.{Refusal}
use Rattle.rulebook.specs.Tools.{part}
use Rattle.rulebook.specs.Weights.{last_slot}
use Rattle.rulebook.specs.PaperNumbers.{vote_number}
use Rattle.rulebook.specs.Ledger.{places, is_watcher, Ledger, Row, none, no_cell, table_of, no_initial, row_at, cell_at, own_cell, fill_block, certificates_at, put_row, put_timed_out}
use Rattle.rulebook.specs.Certificates.{Certificate, Kept}
use Rattle.rulebook.specs.Cards.{tallied, change_of}
use Rattle.rulebook.specs.Votes.{place_of, with_vote, store_vote}
use Rattle.rulebook.specs.Rules.{Record, State, state_of, cast, cast_skips}
use Rattle.rulebook.specs.Run.{run}
use Rattle.rulebook.specs.Inputs.{Fed, misfits, keep_block, verdict, time_out, intake, fed_with, refused_with, fed_on, feed}
use Rattle.rulebook.specs.Checker.{judge}
use Rattle.rulebook.specs.Taking.{fill_kept, kept_verdict, kept_of, keep_certificate, taken_on, taken, take_packet, Arrival, of_input, of_packet, served}
use Rattle.rule_laws.proofs.AcceptedLaws.{packet_cases}
use Rattle.rule_laws.proofs.ToolLaws.{given_keeps, by_test, part_le, part_on, part_off}
use Rattle.rulebook.specs.WellFormed.{Shaped}
use Rattle.settling.specs.Spare.{one, fallbacks_left}
use Rattle.settling.specs.Facts.{Sound}
use Rattle.settling.specs.Steps.{Lawful, AndVotes, VoteFine, kind_for, CertificateFine, after, life}
use Rattle.settling.specs.Fallbacks.{fallbacks_told, Taken}
use Rattle.settling.proofs.Places.{row_there, row_else}
use Rattle.settling.proofs.VoteLaws.{vote_left}
use Rattle.settling.proofs.FactLaws.{formed, count_placed}
use Rattle.settling.proofs.Weighing.{row_cells, stored_cases}
use Rattle.settling.proofs.Sounding.{own_in, own_placed, sound_certificate, sound_timed_out}
use Rattle.settling.proofs.LawfulRules.{voter_casting, skips_keep, run_keeps}
use Rattle.settling.proofs.Soundness.{sound_lawful, intake_sound, served_sound}
use Rattle.settling.proofs.Verdicts.{vote_fine, block_fine, timeout_fine}
use Rattle.settling.proofs.Life.{taken_fine}

-- ---- told in any order

told_aux : (s : ℕ) (xs ys : List Record) → fallbacks_told s (reverse_aux xs ys) ≡ fallbacks_told s xs + fallbacks_told s ys
unfolding fallbacks_told
told_aux s [] ys = omega arith
told_aux s (x ∷ xs) ys = omega (arith, told_aux s xs (x ∷ ys))

told_reverse : (s : ℕ) (xs : List Record) → fallbacks_told s (reverse xs) ≡ fallbacks_told s xs
unfolding fallbacks_told
told_reverse s xs = omega (arith, told_aux s xs [])

told_append : (s : ℕ) (xs ys : List Record) → fallbacks_told s (xs ++ ys) ≡ fallbacks_told s xs + fallbacks_told s ys
unfolding fallbacks_told
told_append s [] ys = omega arith
told_append s (x ∷ xs) ys = omega (arith, told_append s xs ys)

-- ---- an own vote

module _ (l : Ledger) (h : Shaped (places l) l) (mine : l.own < places l) (t : ℕ) (high : t ≤ last_slot) (k : VoteKind) (b : ℕ) where
  abbrev voted : Row
  voted =
      let r = row_at l t in
      record { blocks = r.blocks; timed_out = r.timed_out; final = r.final; clash = r.clash; card = tallied r.card (change_of l t l.own k b); certificates = r.certificates; cells = set r.cells l.own (with_vote (own_cell l t) k b) }

  -- The own cell of its slot has the vote, those of other slots stay.
  own_here : own_cell (store_vote l t l.own k b) t ≡ with_vote (own_cell l t) k b
  unfolding store_vote
  own_here =
      ap (λ (r : Row). get_or r.cells l.own no_cell) (row_there l t voted (omega (arith, h.rows)))
      ∙ get_or-set_same (row_at l t).cells l.own (with_vote (own_cell l t) k b) no_cell (omega (arith, h.cells t (omega arith), mine))

  own_else : (s : ℕ) → (s ≡ t → ⊥) → own_cell (store_vote l t l.own k b) s ≡ own_cell l s
  unfolding store_vote
  own_else s ne = ap (λ (r : Row). get_or r.cells l.own no_cell) (row_else l t voted s ne)

vote_taken : (s : ℕ) (o : State) → Shaped (places o.ledger) o.ledger → o.ledger.own < places o.ledger → (t : ℕ) → t ≤ last_slot → (k : VoteKind) (b : ℕ) → place_of (own_cell o.ledger t) k b ≡ Free → misfits k b ≡ false
    → fallbacks_told s (cast o t k b).records + fallbacks_left (own_cell (cast o t k b).ledger s) ≡ fallbacks_told s o.records + fallbacks_left (own_cell o.ledger s)
unfolding cast fallbacks_told
vote_taken s o h mine t high k b e m =
    let l : Ledger = o.ledger in
    let kind : ℕ = one (eqb (vote_number k) 2) in
    by_test (eqb t s)
    (λ q.
    let z : t ≡ s = eqb-true t s q in
    let here : own_cell (store_vote l t l.own k b) s ≡ with_vote (own_cell l t) k b =
    ap (λ (i : ℕ). own_cell (store_vote l t l.own k b) i) (sym z) ∙ own_here l h mine t high k b in
    omega (
      arith,
      part_on (eqb t s) kind q,
      ap (λ (c : Cell). fallbacks_left c) here,
      ap (λ (i : ℕ). fallbacks_left (own_cell l i)) z,
      vote_left (own_cell l t) k b e m,
    ))
    (λ q. omega (
      arith,
      part_off (eqb t s) kind q,
      ap (λ (c : Cell). fallbacks_left c) (own_else l h mine t high k b s (λ x. eqb-false t s q (sym x))),
    ))

-- ---- every rule

-- A row with the same cells leaves what is left.
left_row : (l : Ledger) (s t : ℕ) (bs : List Block) (x f c : ℕ) (qs : List Kept) → t < length l.rows
    → fallbacks_left (own_cell (put_row l t (record { blocks = bs; timed_out = x; final = f; clash = c; card = (row_at l t).card; certificates = qs; cells = (row_at l t).cells })) s) ≡ fallbacks_left (own_cell l s)
left_row l s t bs x f c qs h =
    ap (λ (d : Cell). fallbacks_left d) (row_cells l t (record { blocks = bs; timed_out = x; final = f; clash = c; card = (row_at l t).card; certificates = qs; cells = (row_at l t).cells }) h refl s l.own)

pub taken_lawful : (s left : ℕ) → Lawful (Taken s left)
unfolding fallbacks_told part
taken_lawful s left =
    record {
      sound = λ o h. h.sound;
      vote = λ o t k b low high v e m w h.
          record {
            sound = sound_lawful.vote o t k b low high v e m w h.sound;
            balance = vote_taken s o h.sound.shaped (own_placed o.ledger h.sound (own_in o.ledger h.sound v)) t high k b e m ∙ h.balance;
          };
      arm = λ o t low high e h.
          record { sound = sound_lawful.arm o t low high e h.sound; balance = omega (arith, part_le (eqb t s) 0, h.balance) };
      tell = λ o t b low high e m h.
          record {
            sound = sound_lawful.tell o t b low high e m h.sound;
            balance =
                let r : Row = row_at o.ledger t in
                omega (arith, part_le (eqb t s) 0, left_row o.ledger s t r.blocks r.timed_out b r.clash r.certificates (omega (arith, h.sound.shaped.rows)), h.balance);
          };
      clash = λ o t b low high e h.
          record {
            sound = sound_lawful.clash o t b low high e h.sound;
            balance =
                let r : Row = row_at o.ledger t in
                omega (arith, part_le (eqb t s) 0, left_row o.ledger s t r.blocks r.timed_out r.final 1 r.certificates (omega (arith, h.sound.shaped.rows)), h.balance);
          };
    }

-- ---- every input

module _ (l : Ledger) (h : Sound l) (s : ℕ) where
  abbrev left : ℕ
  left = fallbacks_left (own_cell l s)

  rows_there : (t : ℕ) → t ≤ last_slot → t < length l.rows
  rows_there t high = omega (arith, h.shaped.rows)

  timed_out_taken : (t : ℕ) → 1 ≤ t → t ≤ last_slot → Taken s left (state_of (put_timed_out l t) [])
  unfolding fallbacks_told
  timed_out_taken t low high =
      let r : Row = row_at l t in
      record { sound = sound_timed_out l h t low high; balance = omega (arith, left_row l s t r.blocks 1 r.final r.clash r.certificates (rows_there t high)) }

  -- Another node's vote.
  outside_left : (v : Vote) → VoteFine l v → fallbacks_left (own_cell (store_vote l v.slot.0 v.node.0 v.kind v.block) s) ≡ left
  unfolding store_vote
  outside_left v f =
      ap (λ (c : Cell). fallbacks_left c)
      (stored_cases l h.shaped v.slot.0 v.node.0 v.kind v.block f.high (omega (arith, f.node, count_placed l (formed l h.formed).head)) f.free
      (λ j i c. i ≡ l.own → c ≡ cell_at l j i) (λ q. absurd (f.outside q)) (λ j i q. refl) s l.own refl)

  intake_taken : (i : Input) → verdict l i ≡ Ok tt → Taken s left (intake l i)
  unfolding intake verdict fallbacks_told keep_block time_out is_watcher
  intake_taken (input.Vote v) e =
      record { sound = intake_sound l h (input.Vote v) e; balance = omega (arith, outside_left v (vote_fine l v e)) }
  intake_taken (input.Block t b) e =
      let f = block_fine l t.0 b e in
      let r : Row = row_at l t.0 in
      record {
        sound = intake_sound l h (input.Block t b) e;
        balance = omega (arith, left_row l s t.0 (fill_block b r.blocks) r.timed_out r.final r.clash r.certificates (rows_there t.0 f.high));
      }
  intake_taken (input.Timeout t) e =
      let f = timeout_fine l t.0 e in
      let o : State = state_of (put_timed_out l t.0) [] in
      let k = timed_out_taken t.0 f.low f.high in
      given_keeps (Taken s left) (no_initial (own_cell l t.0)) o (λ _. cast_skips o t.0) k
      (λ _. (skips_keep (AndVotes (Taken s left)) (voter_casting (Taken s left) (taken_lawful s left)) t.0 f.low f.high o (k, f.votes)).0)
  intake_taken input.Look e = record { sound = h; balance = omega arith }

  fed_on_taken : (v : Result ⊤ Refusal) (i : Input) → verdict l i ≡ v → fallbacks_told s (fed_on v l i).records + fallbacks_left (own_cell (fed_on v l i).ledger s) ≡ left
  unfolding fed_on fed_with refused_with fallbacks_told
  fed_on_taken (Ok tt) i e =
      let k = run_keeps (Taken s left) (taken_lawful s left) (intake l i) (intake_taken i e) in
      omega (arith, told_reverse s (run (intake l i)).records, k.balance)
  fed_on_taken (Err r) i e = omega arith

  pub feed_taken : (i : Input) → fallbacks_told s (feed l i).records + fallbacks_left (own_cell (feed l i).ledger s) ≡ left
  unfolding feed
  feed_taken i = fed_on_taken (verdict l i) i refl

  -- ---- every certificate

  kept_taken : (c : Certificate) → CertificateFine l c → Taken s left (state_of (keep_certificate l c) [])
  unfolding keep_certificate fallbacks_told
  kept_taken c f =
      let r : Row = row_at l c.slot in
      record {
        sound = sound_certificate l h c f;
        balance = omega (arith, left_row l s c.slot r.blocks r.timed_out r.final r.clash (fill_kept (kind_for l c) 0 (kept_of c) r.certificates) (rows_there c.slot f.high));
      }

  taken_on_taken : (v : Result ⊤ Refusal) (c : Certificate) → judge (table_of l) c ≡ Ok tt → kept_verdict (certificates_at l c.slot) (kind_for l c) c.block ≡ v
      → fallbacks_told s (taken_on v l c).records + fallbacks_left (own_cell (taken_on v l c).ledger s) ≡ left
  unfolding taken_on fed_with refused_with fallbacks_told
  taken_on_taken (Ok tt) c j e =
      let o : State = state_of (keep_certificate l c) [] in
      let k = run_keeps (Taken s left) (taken_lawful s left) o (kept_taken c (taken_fine l h c j e)) in
      omega (arith, told_reverse s (run o).records, k.balance)
  taken_on_taken (Err r) c j e = omega arith

  pub packet_taken : (packet : List ℕ) → fallbacks_told s (take_packet l packet).records + fallbacks_left (own_cell (take_packet l packet).ledger s) ≡ left
  unfolding taken refused_with fallbacks_told
  packet_taken packet =
      packet_cases (λ (f : Fed). fallbacks_told s f.records + fallbacks_left (own_cell f.ledger s) ≡ left) l packet (λ r. omega arith)
      (λ c next e j. taken_on_taken (kept_verdict (certificates_at l c.slot) (kind_for l c) c.block) c j refl)

  pub served_taken : (c : Arrival) → fallbacks_told s (served l c).records + fallbacks_left (own_cell (served l c).ledger s) ≡ left
  unfolding served
  served_taken (of_input i) = feed_taken i
  served_taken (of_packet bytes) = packet_taken bytes

-- ---- a life

pub life_taken : (l : Ledger) → Sound l → (s : ℕ) (cs : List Arrival)
    → fallbacks_told s (life l cs) + fallbacks_left (own_cell (after l cs) s) ≡ fallbacks_left (own_cell l s)
unfolding after life fallbacks_told
life_taken l h s [] = omega arith
life_taken l h s (c ∷ cs) =
    omega (
      arith,
      told_append s (served l c).records (life (served l c).ledger cs),
      served_taken l h s c,
      life_taken (served l c).ledger (served_sound l h c) s cs,
    )

-- A sound node casts at most three in a slot for life.
pub life_three : (l : Ledger) → Sound l → (s : ℕ) (cs : List Arrival) → fallbacks_told s (life l cs) ≤ 3
life_three l h s cs =
    let c : Cell = own_cell l s in
    omega (arith, life_taken l h s cs, part_le (none c.fallback1) 1, part_le (none c.fallback2) 1, part_le (none c.fallback3) 1)
