-- What one arrival adds to the votes, blocks and certificates of a ledger: itself where it is answered 0, and else nothing but own votes. Assumes nothing.
use Rattle.std.specs.Prelude.{⊤, Result, Ok, Err}
use mathlib.Core.Path.{◌≡◌, refl, sym, ap, ◌∙◌, subst}
use mathlib.Core.Bool.{Bool, true, false, not, ◌&&◌, ◌||◌}
use mathlib.Core.List.{List, [], ◌∷◌}
use Prim.Native.Nat.{ℕ, suc, ◌+◌, ◌≤◌, ◌<◌}
use native.Mathlib.Omega.{arith}
use lib.Dec.{eqb}
use lib.ListN.{length, get_or}
use lib.Seq.{get_or-take}
use borrow.Author.Tests.{eq-eqb, ne_eqb}
use Rattle.rulebook.specs.declared.Block.{Block}
use Rattle.rulebook.specs.declared.Cell.{Cell}
use Rattle.rulebook.specs.declared.CertificateKind.{CertificateKind}
use Rattle.rulebook.specs.declared.Input.{Input}
use Rattle.rulebook.specs.declared.Input.TheVariants as input
use Rattle.rulebook.specs.declared.Refusal.{Refusal}
use Rattle.rulebook.specs.declared.Vote.{Vote}
use Rattle.rulebook.specs.Certificates.{Certificate, Found, Whole, Kept}
use Rattle.rulebook.specs.Tools.{part, whenever}
use Rattle.rulebook.specs.Weights.{last_slot, stake_in, total_to}
use Rattle.rulebook.specs.PaperNumbers.{vote_number}
use Rattle.rulebook.specs.Packets.{certificate_at}
use Rattle.rulebook.specs.Ledger.{Ledger, Row, no_cell, no_initial, is_watcher, table_of, row_at, cell_at, own_cell, blocks_at, is_free, some_block, is_block, fill_block, keeps_block, certificates_at, is_kept, put_row, put_timed_out}
use Rattle.rulebook.specs.Pool.{place_kind, same_kind, some_kept}
use Rattle.rulebook.specs.Votes.{with_vote, store_vote}
use Rattle.rulebook.specs.Rules.{State, state_of, cast, cast_skips}
use Rattle.rulebook.specs.Run.{run}
use Rattle.rulebook.specs.Inputs.{Fed, keep_block, time_out, verdict, intake, fed_with, refused_with, fed_on, feed}
use Rattle.rulebook.specs.Checker.{judge}
use Rattle.rulebook.specs.Taking.{is_room, has_room, fill_kept, kept_verdict, kept_of, keep_certificate, taken_on, taken, Arrival, of_input, of_packet, served}
use Rattle.rule_laws.proofs.AcceptedLaws.{packet_cases}
use Rattle.rule_laws.proofs.CertificateLaws.{same_kind_lem}
use Rattle.rule_laws.proofs.ToolLaws.{by_test, and_both, true_not_false, given_keeps, given_on, given_off, choose_on, choose_off, sum_term}
use Rattle.settling.specs.Facts.{Sound}
use Rattle.settling.specs.Steps.{Lawful, AndVotes, VoteFine, BlockFine, CertificateFine, kind_for}
use Rattle.settling.proofs.Places.{row_cases, cell_cases}
use Rattle.settling.proofs.FactLaws.{formed, count_placed}
use Rattle.settling.proofs.KeptLaws.{table_long, judged_kept}
use Rattle.settling.proofs.LawfulRules.{voter_casting, skips_keep, run_keeps}
use Rattle.settling.proofs.Life.{taken_fine}
use Rattle.settling.proofs.Sounding.{own_in, own_placed, sound_certificate, sound_timed_out}
use Rattle.settling.proofs.Soundness.{sound_lawful, intake_sound}
use Rattle.settling.proofs.Verdicts.{vote_fine, block_fine, timeout_fine}
use Rattle.settling.proofs.Weighing.{stored_cases}
use Rattle.watchers.specs.Watching.{is_done}
use Rattle.safety.specs.Slot.{Ballot}
use Rattle.safety.specs.Ballots.{has, kind_of, brings, announces}
use Rattle.told.proofs.Once.{is_ballot, vote_more}
use Rattle.onlookers.specs.Accepted.{same_kept, is_kept_as, keeps_certificate, spells, hands}

-- ---- tests

pub or_false : (a : Bool) → (a || false) ≡ a
or_false true = refl
or_false false = refl

or_comm : (a b : Bool) → (a || b) ≡ (b || a)
or_comm true true = refl
or_comm true false = refl
or_comm false true = refl
or_comm false false = refl

pub or_assoc : (a b c : Bool) → (a || (b || c)) ≡ ((a || b) || c)
or_assoc true b c = refl
or_assoc false b c = refl

and_off : (a b : Bool) → b ≡ false → (a && b) ≡ false
and_off true b e = e
and_off false b e = refl

-- Nothing is added.
adds_none : (a b t : Bool) → a ≡ b → t ≡ false → a ≡ (b || t)
adds_none a b t e z = e ∙ sym (or_false b) ∙ ap (λ (x : Bool). b || x) (sym z)

-- Counted one by one it is there.
one_more : (a t b : Bool) → part a 1 ≡ part t 1 + part b 1 → a ≡ (b || t)
unfolding part
one_more true true true e = absurd (omega (arith, e))
one_more true true false e = refl
one_more true false true e = refl
one_more true false false e = absurd (omega (arith, e))
one_more false true b e = absurd (omega (arith, e))
one_more false false true e = absurd (omega (arith, e))
one_more false false false e = refl

-- ---- places

free_not : (b p x : ℕ) (j : Block) → is_free j ≡ true → is_block b p x j ≡ false
unfolding is_block
free_not b p x j t = rw t refl

-- A block in a free place is there, and those that were.
fill_block_lem : (b p x : ℕ) (k : Block) (ks : List Block) → some_block is_free ks ≡ true → some_block (is_block b p x) (fill_block k ks) ≡ (some_block (is_block b p x) ks || is_block b p x k)
unfolding some_block fill_block
fill_block_lem b p x k [] e = true_not_false false e refl
fill_block_lem b p x k (j ∷ ks) e =
    by_test (is_free j)
    (λ t.
    let blank : is_block b p x j ≡ false = free_not b p x j t in
    ap (some_block (is_block b p x)) (choose_on (is_free j) (k ∷ ks) (j ∷ fill_block k ks) t)
    ∙ or_comm (is_block b p x k) (some_block (is_block b p x) ks) ∙ ap (λ (y : Bool). (y || some_block (is_block b p x) ks) || is_block b p x k) (sym blank))
    (λ t.
    let rest : some_block is_free ks ≡ true = ap (λ (y : Bool). y || some_block is_free ks) (sym t) ∙ e in
    ap (some_block (is_block b p x)) (choose_off (is_free j) (k ∷ ks) (j ∷ fill_block k ks) t)
    ∙ ap (λ (y : Bool). is_block b p x j || y) (fill_block_lem b p x k ks rest) ∙ or_assoc (is_block b p x j) (some_block (is_block b p x) ks) (is_block b p x k))

-- Likewise a certificate.
fill_certificate : (k j : CertificateKind) (q : Kept) (i : ℕ) (p : Kept) (qs : List Kept) → is_kept p ≡ true → has_room k i qs ≡ true
    → some_kept (is_kept_as j q) i (fill_kept k i p qs) ≡ (some_kept (is_kept_as j q) i qs || (same_kind k j && same_kept p q))
unfolding some_kept fill_kept has_room is_kept_as
fill_certificate k j q i p [] some e = true_not_false false e refl
fill_certificate k j q i p (o ∷ qs) some e =
    let rest : Bool = some_kept (is_kept_as j q) (suc i) qs in
    let new : Bool = same_kind k j && same_kept p q in
    let here : Bool = whenever (is_kept o) (λ _. is_kept_as j q i o) false in
    by_test (is_room k i o)
    (λ t.
    let z = and_both (same_kind (place_kind i) k) (not (is_kept o)) t in
    let free : is_kept o ≡ false = not_true_is (is_kept o) z.1 in
    let is : is_kept_as j q i p ≡ new = ap (λ (y : CertificateKind). same_kind y j && same_kept p q) (same_kind_lem (place_kind i) k z.0) in
    ap (some_kept (is_kept_as j q) i) (choose_on (is_room k i o) (p ∷ qs) (o ∷ fill_kept k (suc i) p qs) t)
    ∙ ap (λ (y : Bool). y || rest) (given_on (is_kept p) false (λ _. is_kept_as j q i p) some ∙ is)
    ∙ or_comm new rest ∙ ap (λ (y : Bool). (y || rest) || new) (sym (given_off (is_kept o) false (λ _. is_kept_as j q i o) free)))
    (λ t.
    let room : has_room k (suc i) qs ≡ true = ap (λ (y : Bool). y || has_room k (suc i) qs) (sym t) ∙ e in
    ap (some_kept (is_kept_as j q) i) (choose_off (is_room k i o) (p ∷ qs) (o ∷ fill_kept k (suc i) p qs) t)
    ∙ ap (λ (y : Bool). here || y) (fill_certificate k j q (suc i) p qs some room) ∙ or_assoc here rest new)
  where
    not_true_is : (a : Bool) → not a ≡ true → a ≡ false
    not_true_is false e = refl
    not_true_is true e = true_not_false false e refl

-- ---- the rules leave all but own votes, marks and windows

-- A state with the pool of l but for own votes.
pub record Leaving (l : Ledger) (o : State) : Type 0 where
  pub sound : Sound o.ledger
  pub own : o.ledger.own ≡ l.own
  pub count : o.ledger.count ≡ l.count
  pub cells : (n : ℕ) → ¬ (n ≡ l.own) → (s : ℕ) → cell_at o.ledger s n ≡ cell_at l s n
  pub blocks : (s : ℕ) → blocks_at o.ledger s ≡ blocks_at l s
  pub certificates : (s : ℕ) → certificates_at o.ledger s ≡ certificates_at l s

-- One thing of every row, where a row was written that has it as before.
row_field : {A : Type 0} (f : Row → A) (m : Ledger) → Sound m → (t : ℕ) (r : Row) → t ≤ last_slot → f r ≡ f (row_at m t) → (s : ℕ) → f (row_at (put_row m t r) s) ≡ f (row_at m s)
row_field f m h t r high e s = row_cases m t r (λ i x. f x ≡ f (row_at m i)) s (omega (arith, h.shaped.rows)) e (λ _. refl)

-- Marks were written.
marked : (l : Ledger) (o p : State) → Leaving l o → Sound p.ledger → (t : ℕ) (r : Row) → t ≤ last_slot → p.ledger ≡ put_row o.ledger t r
    → r.cells ≡ (row_at o.ledger t).cells → r.blocks ≡ (row_at o.ledger t).blocks → r.certificates ≡ (row_at o.ledger t).certificates → Leaving l p
marked l o p h k t r high e a b d =
    record {
      sound = k;
      own = ap (λ (z : Ledger). z.own) e ∙ h.own;
      count = ap (λ (z : Ledger). z.count) e ∙ h.count;
      cells = λ n ne s. ap (λ (z : Ledger). cell_at z s n) e ∙ row_field (λ x. get_or x.cells n no_cell) o.ledger h.sound t r high (ap (λ (cs : List Cell). get_or cs n no_cell) a) s ∙ h.cells n ne s;
      blocks = λ s. ap (λ (z : Ledger). blocks_at z s) e ∙ row_field (λ x. x.blocks) o.ledger h.sound t r high b s ∙ h.blocks s;
      certificates = λ s. ap (λ (z : Ledger). certificates_at z s) e ∙ row_field (λ x. x.certificates) o.ledger h.sound t r high d s ∙ h.certificates s;
    }

pub leaving_lawful : (l : Ledger) → Lawful (Leaving l)
unfolding cast store_vote
leaving_lawful l =
    record {
      sound = λ o h. h.sound;
      vote = λ o t k b low high v e m w h.
          record {
            sound = sound_lawful.vote o t k b low high v e m w h.sound;
            own = h.own;
            count = h.count;
            cells = λ n ne s.
                stored_cases o.ledger h.sound.shaped t o.ledger.own k b high (own_placed o.ledger h.sound (own_in o.ledger h.sound v)) e
                (λ j i c. i ≡ n → c ≡ cell_at o.ledger j i) (λ q. absurd (ne (sym q ∙ h.own))) (λ j i q. refl) s n refl
                ∙ h.cells n ne s;
            blocks = λ s. row_field (λ x. x.blocks) o.ledger h.sound t _ high refl s ∙ h.blocks s;
            certificates = λ s. row_field (λ x. x.certificates) o.ledger h.sound t _ high refl s ∙ h.certificates s;
          };
      arm = λ o t low high e h.
          record { sound = sound_lawful.arm o t low high e h.sound; own = h.own; count = h.count; cells = h.cells; blocks = h.blocks; certificates = h.certificates };
      tell = λ o t b low high e m h. marked l o _ h (sound_lawful.tell o t b low high e m h.sound) t _ high refl refl refl refl;
      clash = λ o t b low high e h. marked l o _ h (sound_lawful.clash o t b low high e h.sound) t _ high refl refl refl refl;
    }

begins : (m : Ledger) → Sound m → Leaving m (state_of m [])
begins m h = record { sound = h; own = refl; count = refl; cells = λ n ne s. refl; blocks = λ s. refl; certificates = λ s. refl }

-- ---- what an arrival brings

-- Ledger m has the pool of l and what arrived.
record Took (l : Ledger) (c : Arrival) (m : Ledger) : Type 0 where
  pub own : m.own ≡ l.own
  pub count : m.count ≡ l.count
  pub votes : (s n : ℕ) (b : Ballot) → ¬ (n ≡ l.own) → has (cell_at m s n) b ≡ (has (cell_at l s n) b || brings c s n b)
  pub mine : (s : ℕ) (b : Ballot) → brings c s l.own b ≡ false
  pub blocks : (s b p x : ℕ) → keeps_block m s b p x ≡ (keeps_block l s b p x || announces c s b p x)
  pub certificates : (k : CertificateKind) (s : ℕ) (q : Kept) → keeps_certificate m k s q ≡ (keeps_certificate l k s q || hands l.count c k s q)

-- Answered 0, with its rules run.
record Leads (l : Ledger) (c : Arrival) (o : State) : Type 0 where
  pub now : Ledger
  pub took : Took l c now
  pub leaves : Leaving now o

-- The same places keep the same.
same_blocks : (l m : Ledger) (s : ℕ) → blocks_at m s ≡ blocks_at l s → (b p x : ℕ) → keeps_block m s b p x ≡ keeps_block l s b p x
unfolding keeps_block
same_blocks l m s e b p x = ap (some_block (is_block b p x)) e

same_certificates : (l m : Ledger) (s : ℕ) → certificates_at m s ≡ certificates_at l s → (k : CertificateKind) (q : Kept) → keeps_certificate m k s q ≡ keeps_certificate l k s q
unfolding keeps_certificate
same_certificates l m s e k q = ap (some_kept (is_kept_as k q) 0) e

module _ (l : Ledger) (h : Sound l) where
  -- ---- a vote

  module _ (w : Vote) (f : VoteFine l w) where
    abbrev slot : ℕ
    slot = w.slot.0

    abbrev from : ℕ
    from = w.node.0

    abbrev vote : Arrival
    vote = of_input (input.Vote w)

    vote_here : (b : Ballot) → has (with_vote (cell_at l slot from) w.kind w.block) b ≡ (has (cell_at l slot from) b || brings vote slot from b)
    vote_here b =
        one_more (has (with_vote (cell_at l slot from) w.kind w.block) b) (is_ballot b w.kind w.block) (has (cell_at l slot from) b) (vote_more b (cell_at l slot from) w.kind w.block f.free f.fits)
        ∙ ap (λ (t : Bool). has (cell_at l slot from) b || t) (sym (rw (eq-eqb from from refl, eq-eqb slot slot refl) refl))

    vote_else : (s n : ℕ) (b : Ballot) → (eqb from n ≡ false → brings vote s n b ≡ false) × (eqb slot s ≡ false → brings vote s n b ≡ false)
    vote_else s n b = (
      (λ e. rw e refl),
      (λ e. and_off (eqb from n) _ (and_off (eqb (vote_number w.kind) (vote_number (kind_of b))) _ (rw e refl))),
    )

    vote_took : Took l vote (store_vote l slot from w.kind w.block)
    unfolding store_vote hands
    vote_took =
        record {
          own = refl;
          count = refl;
          votes = λ s n b ne.
              row_cases l slot _ (λ t y. has (get_or y.cells n no_cell) b ≡ (has (cell_at l t n) b || brings vote t n b)) s (omega (arith, h.shaped.rows, f.high))
              (cell_cases (λ i y. has y b ≡ (has (cell_at l slot i) b || brings vote slot i b)) (row_at l slot) from _ n
              (omega (arith, h.shaped.cells slot (omega (arith, f.high)), f.node, count_placed l (formed l h.formed).head))
              (vote_here b) (λ d. adds_none _ _ _ refl ((vote_else slot n b).0 (ne_eqb from n (λ q. d (sym q))))))
              (λ d. adds_none _ _ _ refl ((vote_else s n b).1 (ne_eqb slot s (λ q. d (sym q)))));
          mine = λ s b. (vote_else s l.own b).0 (ne_eqb from l.own f.outside);
          blocks = λ s b p x. adds_none _ _ _ (same_blocks l _ s (row_field (λ y. y.blocks) l h slot _ f.high refl s) b p x) refl;
          certificates = λ k s q. adds_none _ _ _ (same_certificates l _ s (row_field (λ y. y.certificates) l h slot _ f.high refl s) k q) refl;
        }

  -- ---- a block

  block_took : (t : ℕ) (k : Block) → BlockFine l t k → Took l (of_input (input.Block (record { 0 = t }) k)) (keep_block l t k)
  unfolding keep_block hands keeps_block
  block_took t k f =
      record {
        own = refl;
        count = refl;
        votes = λ s n b ne. adds_none _ _ _ (ap (λ (c : Cell). has c b) (row_field (λ y. get_or y.cells n no_cell) l h t _ f.high refl s)) refl;
        mine = λ s b. refl;
        blocks = λ s b p x.
            row_cases l t _ (λ i y. some_block (is_block b p x) y.blocks ≡ (some_block (is_block b p x) (blocks_at l i) || (eqb t i && is_block b p x k))) s
            (omega (arith, h.shaped.rows, f.high))
            (fill_block_lem b p x k (blocks_at l t) f.free ∙ ap (λ (z : Bool). some_block (is_block b p x) (blocks_at l t) || (z && is_block b p x k)) (sym (eq-eqb t t refl)))
            (λ d. adds_none _ _ _ refl (ap (λ (z : Bool). z && is_block b p x k) (ne_eqb t s (λ q. d (sym q)))));
        certificates = λ j s q. adds_none _ _ _ (same_certificates l _ s (row_field (λ y. y.certificates) l h t _ f.high refl s) j q) refl;
      }

  -- ---- what brings nothing to the pool

  nothing_took : (c : Arrival) → ((s n : ℕ) (b : Ballot) → brings c s n b ≡ false) → ((s b p x : ℕ) → announces c s b p x ≡ false)
      → ((k : CertificateKind) (s : ℕ) (q : Kept) → hands l.count c k s q ≡ false) → Took l c l
  nothing_took c a b d =
      record {
        own = refl;
        count = refl;
        votes = λ s n v ne. adds_none _ _ _ refl (a s n v);
        mine = λ s v. a s l.own v;
        blocks = λ s v p x. adds_none _ _ _ refl (b s v p x);
        certificates = λ k s q. adds_none _ _ _ refl (d k s q);
      }

  input_leads : (i : Input) → verdict l i ≡ Ok tt → Leads l (of_input i) (intake l i)
  unfolding intake verdict time_out hands is_watcher
  input_leads (input.Vote w) e =
      let f = vote_fine l w e in
      record { now = store_vote l w.slot.0 w.node.0 w.kind w.block; took = vote_took w f; leaves = begins _ (intake_sound l h (input.Vote w) e) }
  input_leads (input.Block t k) e =
      record { now = keep_block l t.0 k; took = block_took t.0 k (block_fine l t.0 k e); leaves = begins _ (intake_sound l h (input.Block t k) e) }
  input_leads (input.Timeout t) e =
      let g = timeout_fine l t.0 e in
      let o : State = state_of (put_timed_out l t.0) [] in
      let k = marked l (state_of l []) o (begins l h) (sound_timed_out l h t.0 g.low g.high) t.0 _ g.high refl refl refl refl in
      record {
        now = l;
        took = nothing_took (of_input (input.Timeout t)) (λ s n b. refl) (λ s b p x. refl) (λ j s q. refl);
        leaves =
            given_keeps (Leaving l) (no_initial (own_cell l t.0)) o (λ _. cast_skips o t.0) k
            (λ _. (skips_keep (AndVotes (Leaving l)) (voter_casting (Leaving l) (leaving_lawful l)) t.0 g.low g.high o (k, g.votes)).0);
      }
  input_leads input.Look e =
      record { now = l; took = nothing_took (of_input input.Look) (λ s n b. refl) (λ s b p x. refl) (λ j s q. refl); leaves = begins l h }

  -- ---- a certificate

  -- There is stake, so that what is accepted has a signer.
  some_stake : 1 ≤ total_to (table_of l) (length (table_of l))
  unfolding total_to
  some_stake =
      let d = (formed l h.formed).head in
      let ws : List ℕ = table_of l in
      let first : 0 < length ws = subst (λ (n : ℕ). 0 < n) (sym (table_long l d)) d.some in
      let is : stake_in ws 0 ≡ stake_in l.stakes 0 = get_or-take l.count l.stakes 0 0 d.some in
      omega (arith, is, d.staked 0 d.some, sum_term (length ws) 0 (stake_in ws) first)

  some_signer : (c : Certificate) → CertificateFine l c → is_kept (kept_of c) ≡ true
  some_signer c f = judged_kept (table_of l) (kind_for l c) c some_stake f.judged

  packet_took : (bytes : List ℕ) (c : Certificate) (next : ℕ) → certificate_at bytes 0 ≡ Whole c next → CertificateFine l c → Took l (of_packet bytes) (keep_certificate l c)
  unfolding keep_certificate hands spells keeps_certificate
  packet_took bytes c next e f =
      record {
        own = refl;
        count = refl;
        votes = λ s n b ne. adds_none _ _ _ (ap (λ (x : Cell). has x b) (row_field (λ y. get_or y.cells n no_cell) l h c.slot _ f.high refl s)) refl;
        mine = λ s b. refl;
        blocks = λ s b p x. adds_none _ _ _ (same_blocks l _ s (row_field (λ y. y.blocks) l h c.slot _ f.high refl s) b p x) refl;
        certificates = λ k s q.
            row_cases l c.slot _
            (λ i y. some_kept (is_kept_as k q) 0 y.certificates ≡ (some_kept (is_kept_as k q) 0 (certificates_at l i) || (same_kind (kind_for l c) k && (eqb c.slot i && same_kept (kept_of c) q)))) s
            (omega (arith, h.shaped.rows, f.high))
            (fill_certificate (kind_for l c) k q 0 (kept_of c) (certificates_at l c.slot) (some_signer c f) f.free
            ∙ ap (λ (z : Bool). some_kept (is_kept_as k q) 0 (certificates_at l c.slot) || (same_kind (kind_for l c) k && (z && same_kept (kept_of c) q))) (sym (eq-eqb c.slot c.slot refl)))
            (λ d. adds_none _ _ _ refl (and_off (same_kind (kind_for l c) k) _ (ap (λ (z : Bool). z && same_kept (kept_of c) q) (ne_eqb c.slot s (λ z. d (sym z))))))
            ∙ ap (λ (z : Found). some_kept (is_kept_as k q) 0 (certificates_at l s) || spells l.count z k s q) (sym e);
      }

  -- ---- any arrival

  -- What is left of l and what arrived: itself where it was answered 0.
  pub record Serves (c : Arrival) (f : Fed) : Type 0 where
    pub own : f.ledger.own ≡ l.own
    pub count : f.ledger.count ≡ l.count
    pub votes : (s n : ℕ) (b : Ballot) → ¬ (n ≡ l.own) → has (cell_at f.ledger s n) b ≡ (has (cell_at l s n) b || (is_done f.answer && brings c s n b))
    pub mine : (s : ℕ) (b : Ballot) → (is_done f.answer && brings c s l.own b) ≡ false
    pub blocks : (s b p x : ℕ) → keeps_block f.ledger s b p x ≡ (keeps_block l s b p x || (is_done f.answer && announces c s b p x))
    pub certificates : (k : CertificateKind) (s : ℕ) (q : Kept) → keeps_certificate f.ledger k s q ≡ (keeps_certificate l k s q || (is_done f.answer && hands l.count c k s q))

  refused : (c : Arrival) (r : Refusal) → Serves c (refused_with l r)
  unfolding refused_with is_done
  refused c r =
      record {
        own = refl;
        count = refl;
        votes = λ s n b ne. sym (or_false _);
        mine = λ s b. refl;
        blocks = λ s b p x. sym (or_false _);
        certificates = λ k s q. sym (or_false _);
      }

  done : (c : Arrival) (o : State) → Leads l c o → Serves c (fed_with (run o))
  unfolding fed_with is_done
  done c o g =
      let t = g.took in
      let k = run_keeps (Leaving g.now) (leaving_lawful g.now) o g.leaves in
      record {
        own = k.own ∙ t.own;
        count = k.count ∙ t.count;
        votes = λ s n b ne. ap (λ (x : Cell). has x b) (k.cells n (λ q. ne (q ∙ t.own)) s) ∙ t.votes s n b ne;
        mine = t.mine;
        blocks = λ s b p x. same_blocks g.now (run o).ledger s (k.blocks s) b p x ∙ t.blocks s b p x;
        certificates = λ j s q. same_certificates g.now (run o).ledger s (k.certificates s) j q ∙ t.certificates j s q;
      }

  fed_serves : (v : Result ⊤ Refusal) (i : Input) → verdict l i ≡ v → Serves (of_input i) (fed_on v l i)
  unfolding fed_on
  fed_serves (Ok tt) i e = done (of_input i) (intake l i) (input_leads i e)
  fed_serves (Err r) i e = refused (of_input i) r

  taken_serves : (v : Result ⊤ Refusal) (bytes : List ℕ) (c : Certificate) (next : ℕ) → certificate_at bytes 0 ≡ Whole c next → judge (table_of l) c ≡ Ok tt
      → kept_verdict (certificates_at l c.slot) (kind_for l c) c.block ≡ v → Serves (of_packet bytes) (taken_on v l c)
  unfolding taken_on
  taken_serves (Ok tt) bytes c next r j e =
      let f = taken_fine l h c j e in
      done (of_packet bytes) (state_of (keep_certificate l c) []) (record { now = keep_certificate l c; took = packet_took bytes c next r f; leaves = begins _ (sound_certificate l h c f) })
  taken_serves (Err x) bytes c next r j e = refused (of_packet bytes) x

  pub served_serves : (c : Arrival) → Serves c (served l c)
  unfolding served feed taken
  served_serves (of_input i) = fed_serves (verdict l i) i refl
  served_serves (of_packet bytes) =
      packet_cases (Serves (of_packet bytes)) l bytes (λ r. refused (of_packet bytes) r)
      (λ c next e j. taken_serves (kept_verdict (certificates_at l c.slot) (kind_for l c) c.block) bytes c next e j refl)
