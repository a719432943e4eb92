-- A vote that was stored stands in its cell, in that slot alone, and stays.
use Rattle.std.specs.Prelude.{⊤, Result, Ok, Err}
use mathlib.Core.Path.{◌≡◌, refl, sym, ap, ◌∙◌, subst}
use mathlib.Core.Bool.{true, false, not}
use mathlib.Core.List.{List, [], ◌∷◌}
use Prim.Native.Nat.{ℕ}
use native.Mathlib.Omega.{arith}
use lib.Dec.{T, eqb, leb, eqb→eq}
use lib.ListN.{length, get_or}
use lib.Seq.{get_or-set_same}
use borrow.Author.Tests.{eq-eqb, leb-true, leb-false}
use Rattle.rulebook.specs.declared.Cell.{Cell}
use Rattle.rulebook.specs.declared.Input.{Input}
use Rattle.rulebook.specs.declared.Input.TheVariants as input
use Rattle.rulebook.specs.declared.Refusal.{Refusal}
use Rattle.rulebook.specs.declared.Refusal.TheVariants as refusal
use Rattle.rulebook.specs.declared.Vote.{Vote}
use Rattle.rulebook.specs.declared.VoteKind.{VoteKind}
use Rattle.rulebook.specs.declared.Who.{Who}
use Rattle.rulebook.specs.declared.Who.TheVariants as who
use Rattle.rulebook.specs.declared.Place.TheVariants.{Free}
use Rattle.rulebook.specs.Tools.{choose}
use Rattle.rulebook.specs.PaperNumbers.{vote_number, vote_kind, step_panel, refusal_number}
use Rattle.rulebook.specs.Messages.{vote_of}
use Rattle.rulebook.specs.Ledger.{Ledger, Row, no_cell, row_at, cell_at, fresh}
use Rattle.rulebook.specs.Pool.{has_fallback, counts}
use Rattle.rulebook.specs.Votes.{place_of, with_vote, store_vote}
use Rattle.rulebook.specs.Rules.{State, state_of, cast}
use Rattle.rulebook.specs.Inputs.{Fed, misfits, verdict, intake, fed_with, refused_with, fed_on, feed}
use Rattle.rulebook.specs.Taking.{of_input, served}
use Rattle.rulebook.specs.WellFormed.{outbox_words, step}
use Rattle.rule_laws.proofs.ToolLaws.{by_test, given_on}
use Rattle.settling.specs.Facts.{Sound}
use Rattle.settling.specs.Steps.{Lawful, VoteFine}
use Rattle.settling.proofs.Places.{row_there, row_else}
use Rattle.settling.proofs.FactLaws.{formed, count_placed}
use Rattle.settling.proofs.FeedLaws.{step_short}
use Rattle.settling.proofs.LawfulRules.{run_keeps}
use Rattle.settling.proofs.Sounding.{own_in, own_placed}
use Rattle.settling.proofs.Soundness.{sound_lawful, intake_sound}
use Rattle.settling.proofs.Verdicts.{vote_fine}
use Rattle.settling.proofs.Weighing.{row_cells, stored_cases}
use Rattle.safety.specs.Slot.{Ballot, notar, notar_fallback, skip, skip_fallback, final}
use Rattle.safety.specs.Ballots.{kind_of, block_of, has, with_ballot}
use Rattle.safety.specs.Ring.{after_all}
use Rattle.safety.proofs.Tests.{true_t, and_t, T-left, T-right}
use Rattle.safety.proofs.Cells.{notar_some, stored_has, kept_has}
use Rattle.safety.proofs.Along.{same_ballot}
use Rattle.safety.proofs.Lives.{Sized, life_grow, life_ready, life_on, fresh_ready}
use Rattle.record.specs.Layout.{ledger_of}
use Rattle.soundness.specs.Sound.{sound_words}
use Rattle.soundness.proofs.Laws.{words_spelled, sound_formed, sound_ledger}
use Rattle.node.specs.Stepping.{Leaves, step_leaves}
use Rattle.answers.specs.Face.{Stepped}
use Rattle.seen.specs.Seen.{Seen, ledger_in, LifeSeen, Earlier}
use Rattle.seen.proofs.Alive.{alive_common}
use Rattle.seen.proofs.Numbers.{refusal_above}
use Rattle.calls.specs.Operation.{one_input, one_with, fed_by}
use Rattle.calls.specs.Life.{next, none, then}
use Rattle.calls.proofs.OneCall.{call_did, step_served}
use Rattle.calls.proofs.Life.{many, calls_earlier}
use Rattle.told.specs.Held.{belongs, VoteIsCounted}
use Rattle.told.proofs.Once.{as_ballot}

-- ---- a vote in a cell is in the weights that it belongs to

same_block : (c : Cell) (b x : ℕ) → T (eqb c.notar b) → T (eqb b x) → T (eqb c.notar x)
same_block c b x h t = subst (λ (y : ℕ). T (eqb c.notar y)) (eqb→eq b x t) h

has_counts : (v : Ballot) (x : Who) (c : Cell) → T (has c v) → T (belongs v x) → T (counts x c)
unfolding belongs counts
has_counts (notar b) (who.Notar x) c h t = same_block c b x (and_t (not (eqb b 0)) (eqb c.notar b) h).1 t
has_counts (notar b) (who.NotarOrFallback x) c h t = T-left (eqb c.notar x) (has_fallback x c) (same_block c b x (and_t (not (eqb b 0)) (eqb c.notar b) h).1 t)
has_counts (notar b) who.Skip c h t = absurd t
has_counts (notar b) who.SkipOrFallback c h t = absurd t
has_counts (notar b) who.Final c h t = absurd t
has_counts (notar b) who.AnyNotar c h t = notar_some c b h
has_counts (notar_fallback b) (who.Notar x) c h t = absurd t
has_counts (notar_fallback b) (who.NotarOrFallback x) c h t = T-right (eqb c.notar x) (has_fallback x c) (subst (λ (y : ℕ). T (has_fallback y c)) (eqb→eq b x t) (and_t (not (eqb b 0)) (has_fallback b c) h).1)
has_counts (notar_fallback b) who.Skip c h t = absurd t
has_counts (notar_fallback b) who.SkipOrFallback c h t = absurd t
has_counts (notar_fallback b) who.Final c h t = absurd t
has_counts (notar_fallback b) who.AnyNotar c h t = absurd t
has_counts skip (who.Notar x) c h t = absurd t
has_counts skip (who.NotarOrFallback x) c h t = absurd t
has_counts skip who.Skip c h t = h
has_counts skip who.SkipOrFallback c h t = T-left (not (eqb c.skip 0)) (not (eqb c.skipfallback 0)) h
has_counts skip who.Final c h t = absurd t
has_counts skip who.AnyNotar c h t = absurd t
has_counts skip_fallback (who.Notar x) c h t = absurd t
has_counts skip_fallback (who.NotarOrFallback x) c h t = absurd t
has_counts skip_fallback who.Skip c h t = absurd t
has_counts skip_fallback who.SkipOrFallback c h t = T-right (not (eqb c.skip 0)) (not (eqb c.skipfallback 0)) h
has_counts skip_fallback who.Final c h t = absurd t
has_counts skip_fallback who.AnyNotar c h t = absurd t
has_counts final (who.Notar x) c h t = absurd t
has_counts final (who.NotarOrFallback x) c h t = absurd t
has_counts final who.Skip c h t = absurd t
has_counts final who.SkipOrFallback c h t = absurd t
has_counts final who.Final c h t = h
has_counts final who.AnyNotar c h t = absurd t

-- ---- the rules leave the other nodes' votes

record Leaving (l : Ledger) (n : ℕ) (o : State) : Type 0 where
  pub sound : Sound o.ledger
  pub outside : n ≡ o.ledger.own → ⊥
  pub same : (t : ℕ) → cell_at o.ledger t n ≡ cell_at l t n

leaving_lawful : (l : Ledger) (n : ℕ) → Lawful (Leaving l n)
unfolding cast store_vote
leaving_lawful l n =
    record {
      sound = λ o h. h.sound;
      vote = λ o t k b low high v e m w h.
          record {
            sound = sound_lawful.vote o t k b low high v e m w h.sound;
            outside = h.outside;
            same = λ s.
                stored_cases o.ledger h.sound.shaped t o.ledger.own k b high (own_placed o.ledger h.sound (own_in o.ledger h.sound v)) e
                (λ j i c. i ≡ n → c ≡ cell_at o.ledger j i) (λ q. absurd (h.outside (sym q))) (λ j i q. refl) s n refl
                ∙ h.same s;
          };
      arm = λ o t low high e h. record { sound = sound_lawful.arm o t low high e h.sound; outside = h.outside; same = h.same };
      tell = λ o t b low high e m h.
          record {
            sound = sound_lawful.tell o t b low high e m h.sound;
            outside = h.outside;
            same = λ s. row_cells o.ledger t _ (omega (arith, h.sound.shaped.rows)) refl s n ∙ h.same s;
          };
      clash = λ o t b low high e h.
          record {
            sound = sound_lawful.clash o t b low high e h.sound;
            outside = h.outside;
            same = λ s. row_cells o.ledger t _ (omega (arith, h.sound.shaped.rows)) refl s n ∙ h.same s;
          };
    }

-- ---- a vote that is fed

module _ (l : Ledger) (h : Sound l) (x : Vote) where
  abbrev slot : ℕ
  slot = x.slot.0

  abbrev node : ℕ
  node = x.node.0

  -- Its node's cell has it, and in other slots that node's cells stay.
  pub record Stands (m : Ledger) : Type 0 where
    pub here : cell_at m slot node ≡ with_vote (cell_at l slot node) x.kind x.block
    pub elsewhere : (t : ℕ) → ¬ (t ≡ slot) → cell_at m t node ≡ cell_at l t node
    pub fine : VoteFine l x

  stored : VoteFine l x → Stands (store_vote l slot node x.kind x.block)
  unfolding store_vote
  stored f =
      record {
        here =
            ap (λ (r : Row). get_or r.cells node no_cell) (row_there l slot _ (omega (arith, h.shaped.rows, f.high)))
            ∙ get_or-set_same (row_at l slot).cells node _ no_cell (omega (arith, h.shaped.cells slot (omega (arith, f.high)), f.node, count_placed l (formed l h.formed).head));
        elsewhere = λ t ne. ap (λ (r : Row). get_or r.cells node no_cell) (row_else l slot _ t ne);
        fine = f;
      }

  stays_out : VoteFine l x → node ≡ (store_vote l slot node x.kind x.block).own → ⊥
  unfolding store_vote
  stays_out f q = f.outside q

  fed_stands : (v : Result ⊤ Refusal) → verdict l (input.Vote x) ≡ v → 0 ≡ (step_panel (fed_on v l (input.Vote x)).answer).number → Stands (fed_on v l (input.Vote x)).ledger
  unfolding fed_on fed_with refused_with step_panel intake verdict
  fed_stands (Ok tt) e z =
      let f = vote_fine l x e in
      let m : Ledger = store_vote l slot node x.kind x.block in
      let a = stored f in
      let k = run_keeps (Leaving m node) (leaving_lawful m node) (state_of m []) (record { sound = intake_sound l h (input.Vote x) e; outside = stays_out f; same = λ t. refl }) in
      record { here = k.same slot ∙ a.here; elsewhere = λ t ne. k.same t ∙ a.elsewhere t ne; fine = f }
  fed_stands (Err r) e z = refusal_above r (sym z)

-- ---- over what is seen

kind_back : (b : Ballot) → vote_kind (vote_number (kind_of b)) ≡ kind_of b
unfolding vote_kind vote_number choose
kind_back (notar b) = refl
kind_back (notar_fallback b) = refl
kind_back skip = refl
kind_back skip_fallback = refl
kind_back final = refl

-- A ballot that found its place free stands in the cell.
has_stored : (c : Cell) (b : Ballot) → place_of c (vote_kind (vote_number (kind_of b))) (block_of b) ≡ Free → misfits (vote_kind (vote_number (kind_of b))) (block_of b) ≡ false
    → T (has (with_vote c (vote_kind (vote_number (kind_of b))) (block_of b)) b)
has_stored c b e m =
    as_ballot c (vote_kind (vote_number (kind_of b))) (block_of b) e m
    (λ u p q room gone.
    let k : kind_of u ≡ kind_of b = sym p ∙ kind_back b in
    let z : u ≡ b = same_ballot u b (true_t _ (eq-eqb (vote_number (kind_of u)) (vote_number (kind_of b)) (ap vote_number k))) (true_t _ (eq-eqb (block_of u) (block_of b) (sym q))) in
    subst (λ (j : VoteKind). T (has (with_vote c j (block_of b)) b)) (sym (kind_back b))
    (subst (λ (y : Ballot). T (has (with_ballot c y) y)) z (stored_has c u room)))

-- A step is answered 0 with room in the outbox alone.
with_room : (ws lent : List ℕ) (i : Input) (made : ℕ) (words left : List ℕ) → sound_words ws ≡ true → Stepped ws lent i 0 made words left → leb outbox_words (length lent) ≡ true
unfolding step_leaves refused_with step_panel refusal_number
with_room ws lent i made words left sound s =
    by_test (leb outbox_words (length lent)) (λ e. e)
    (λ e.
    let f : step (ledger_of ws) (length lent) i ≡ refused_with (ledger_of ws) refusal.NoRoom = step_short (ledger_of ws) i (length lent) (sound_formed ws sound) (leb-false outbox_words (length lent) e) in
    let n : ◌≡◌ {A = ℕ} 0 9 = s.numbered ∙ ap (λ (z : Leaves). (step_panel z.answer).number) (given_on _ _ _ (words_spelled ws sound)) ∙ ap (λ (z : Fed). (step_panel z.answer).number) f in
    absurd (omega (arith, n)))

ledger_fed : (ws lent : List ℕ) (i : Input) (made : ℕ) (words left : List ℕ) → sound_words ws ≡ true → Stepped ws lent i 0 made words left → leb outbox_words (length lent) ≡ true
    → ledger_of words ≡ (served (ledger_of ws) (of_input i)).ledger
unfolding fed_by one_with after_all
ledger_fed ws lent i made words left sound s room =
    (call_did (one_input i) ws lent 0 made words left sound s).ledger ∙ ap (after_all (ledger_of ws)) (given_on (leb outbox_words (length lent)) [] (λ _. of_input i ∷ []) room)

-- What stands in a cell at a moment stands there at every later one.
has_later : (stakes : List ℕ) (me genesis : ℕ) → Sized stakes me → (u w : Seen) → LifeSeen (fresh stakes me genesis) u → LifeSeen (fresh stakes me genesis) w → Earlier u w
    → (s n : ℕ) (b : Ballot) → T (has (cell_at (ledger_in u) s n) b) → T (has (cell_at (ledger_in w) s n) b)
has_later stakes me genesis size u w lived later e s n b h =
    let first = fresh stakes me genesis in
    let grown = life_grow me (after_all first u.came) e.since (life_ready me first u.came (fresh_ready stakes me genesis size)) in
    subst (λ (z : Ledger). T (has (cell_at z s n) b)) (sym (later.ledger ∙ ap (after_all first) e.goes_on ∙ life_on first u.came e.since))
    (kept_has (cell_at (after_all first u.came) s n) (cell_at (after_all (after_all first u.came) e.since) s n) b (grown.cells s n)
    (subst (λ (z : Ledger). T (has (cell_at z s n) b)) lived.ledger h))

pub vote_is_counted : VoteIsCounted
unfolding vote_of served feed
vote_is_counted stakes genesis v alive b node slot lent made words left s =
    let a = alive_common alive in
    let me = a.own in
    let first = fresh stakes me genesis in
    let l : Ledger = ledger_in v in
    let sound = a.lived.sound in
    let x : Vote = vote_of (vote_number (kind_of b)) node slot (block_of b) in
    let i : Input = input.Vote x in
    let room = with_room v.words lent i made words left sound s in
    let d = step_served v.words lent i 0 made words left sound s (leb-true outbox_words (length lent) room) in
    let st = fed_stands l (sound_ledger v.words sound) x (verdict l i) refl d.answered in
    let e = ledger_fed v.words lent i made words left sound s room in
    let u : Seen = next v (one_input i) lent made words left in
    let lived = many first v u a.lived (then none (one_input i) lent 0 made words left s) in
    let stands : T (has (cell_at (ledger_in u) slot node) b) =
    subst (λ (c : Cell). T (has c b)) (sym (ap (λ (z : Ledger). cell_at z slot node) e ∙ st.here)) (has_stored (cell_at l slot node) b st.fine.free st.fine.fits) in
    record {
      elsewhere = λ t ne. ap (λ (z : Ledger). cell_at z t node) e ∙ st.elsewhere t ne;
      here = λ w calls y t.
          has_counts b y (cell_at (ledger_in w) slot node) (has_later stakes me genesis a.size u w lived (many first u w lived calls) (calls_earlier u w calls) slot node b stands) t;
    }
