-- A life holds what it took, arrival by arrival; so two that took the same hold the same. Assumes nothing.
use mathlib.Core.Path.{◌≡◌, refl, sym, ap, ◌∙◌, subst}
use mathlib.Core.Bool.{Bool, true, false, ◌&&◌, ◌||◌}
use mathlib.Core.List.{List, [], ◌∷◌}
use Prim.Native.Nat.{ℕ}
use lib.Dec.{T, eqb}
use lib.ListN.{length}
use borrow.Author.Tests.{eqb-true, eqb-false}
use Rattle.rulebook.specs.declared.CertificateKind.{CertificateKind}
use Rattle.rulebook.specs.declared.Who.{Who}
use Rattle.rulebook.specs.Certificates.{Kept}
use Rattle.rulebook.specs.Ledger.{Ledger, fresh, cell_at, keeps_block, certificates_at, is_kept}
use Rattle.rulebook.specs.Pool.{counts, weigh}
use Rattle.rulebook.specs.Taking.{Arrival, served}
use Rattle.rule_laws.proofs.ToolLaws.{by_test, true_not_false}
use Rattle.rule_laws.proofs.CertificateLaws.{some_place}
use Rattle.settling.specs.Facts.{Sound}
use Rattle.settling.proofs.Soundness.{served_sound}
use Rattle.watchers.specs.Watching.{is_done}
use Rattle.safety.specs.Slot.{Ballot}
use Rattle.safety.specs.Ballots.{has, record_for, among, brings, announces}
use Rattle.safety.specs.Ring.{after_all}
use Rattle.safety.specs.Moves.{SameTable}
use Rattle.safety.proofs.Tests.{true_t}
use Rattle.safety.proofs.Cells.{Neat}
use Rattle.safety.proofs.Lives.{Sized, life_ready, life_table, fresh_ready, fresh_has, fresh_keeps, fresh_kept}
use Rattle.seen.specs.Seen.{Seen, ledger_in, LifeSeen, Alive}
use Rattle.seen.proofs.Cards.{cards_agree}
use Rattle.told.proofs.Told.{Began, alive_began, marks_are_told}
use Rattle.onlookers.specs.Accepted.{some_accepted, keeps_certificate, hands}
use Rattle.onlookers.specs.Following.{begun_as, HoldsTaken, HoldsWhatItTook, FollowsInAnyOrder}
use Rattle.onlookers.proofs.Sets.{counts_same, weigh_same, recount_same, held_same}
use Rattle.onlookers.proofs.Takes.{served_serves, or_assoc}

-- ---- along a life

-- A ledger on the way: sound, of node me, with n nodes in its table.
record Along (me n : ℕ) (l : Ledger) : Type 0 where
  pub sound : Sound l
  pub own : l.own ≡ me
  pub count : l.count ≡ n

module _ (me n : ℕ) where
  along_next : (l : Ledger) (c : Arrival) → Along me n l → Along me n (served l c).ledger
  along_next l c a =
      let s = served_serves l a.sound c in
      record { sound = served_sound l a.sound c; own = s.own ∙ a.own; count = s.count ∙ a.count }

  -- A test that each arrival makes true where it is accepted and passes p, and else leaves: at the end it holds where it held, or where one such was accepted.
  walk : (P : Ledger → Bool) (p : Arrival → Bool) → ((l : Ledger) (c : Arrival) → Along me n l → P (served l c).ledger ≡ (P l || (is_done (served l c).answer && p c)))
      → (cs : List Arrival) (l : Ledger) → Along me n l → P (after_all l cs) ≡ (P l || some_accepted p l cs)
  unfolding after_all some_accepted
  walk P p step [] l a = sym (or_none (P l))
    where
      or_none : (b : Bool) → (b || false) ≡ b
      or_none true = refl
      or_none false = refl
  walk P p step (c ∷ cs) l a =
      walk P p step cs (served l c).ledger (along_next l c a)
      ∙ ap (λ (b : Bool). b || some_accepted p (served l c).ledger cs) (step l c a)
      ∙ sym (or_assoc (P l) (is_done (served l c).answer && p c) (some_accepted p (served l c).ledger cs))

  -- The own number's votes are never accepted from outside.
  none_mine : (s : ℕ) (b : Ballot) (cs : List Arrival) (l : Ledger) → Along me n l → some_accepted (λ c. brings c s me b) l cs ≡ false
  none_mine s b cs l a =
      sym (walk (λ _. false) (λ c. brings c s me b) (λ l c k. sym (subst (λ (i : ℕ). (is_done (served l c).answer && brings c s i b) ≡ false) k.own ((served_serves l k.sound c).mine s b))) cs l a)

  others : (s i : ℕ) (b : Ballot) → ¬ (i ≡ me) → (cs : List Arrival) (l : Ledger) → Along me n l
      → has (cell_at (after_all l cs) s i) b ≡ (has (cell_at l s i) b || some_accepted (λ c. brings c s i b) l cs)
  others s i b ne = walk (λ l. has (cell_at l s i) b) (λ c. brings c s i b) (λ l c k. (served_serves l k.sound c).votes s i b (λ e. ne (e ∙ k.own)))

  kept : (s b p x : ℕ) (cs : List Arrival) (l : Ledger) → Along me n l
      → keeps_block (after_all l cs) s b p x ≡ (keeps_block l s b p x || some_accepted (λ c. announces c s b p x) l cs)
  kept s b p x = walk (λ l. keeps_block l s b p x) (λ c. announces c s b p x) (λ l c k. (served_serves l k.sound c).blocks s b p x)

  certified : (k : CertificateKind) (s : ℕ) (q : Kept) (cs : List Arrival) (l : Ledger) → Along me n l
      → keeps_certificate (after_all l cs) k s q ≡ (keeps_certificate l k s q || some_accepted (λ c. hands n c k s q) l cs)
  certified k s q =
      walk (λ l. keeps_certificate l k s q) (λ c. hands n c k s q)
      (λ l c a. subst (λ (i : ℕ). keeps_certificate (served l c).ledger k s q ≡ (keeps_certificate l k s q || (is_done (served l c).answer && hands i c k s q))) a.count
      ((served_serves l a.sound c).certificates k s q))

-- ---- from a start

not_t_false : (a : Bool) → ¬ T a → a ≡ false
not_t_false a f = by_test a (λ t. absurd (f (true_t a t))) (λ t. t)

from_none : (a b c : Bool) → b ≡ false → a ≡ (b || c) → a ≡ c
from_none a b c z e = e ∙ ap (λ (x : Bool). x || c) z

fresh_certificate : (stakes : List ℕ) (me g : ℕ) (k : CertificateKind) (s : ℕ) (q : Kept) → keeps_certificate (fresh stakes me g) k s q ≡ false
unfolding keeps_certificate
fresh_certificate stakes me g k s q =
    by_test (keeps_certificate (fresh stakes me g) k s q)
    (λ t. let r = some_place _ 0 (certificates_at (fresh stakes me g) s) t in
    true_not_false false (sym (ap is_kept (fresh_kept stakes me g s r.0)) ∙ r.1) refl)
    (λ t. t)

-- The head of a life's ledger is that of its start.
pub same_head : (stakes : List ℕ) (me genesis : ℕ) → Sized stakes me → (v : Seen) → LifeSeen (fresh stakes me genesis) v → SameTable (fresh stakes me genesis) (ledger_in v)
same_head stakes me genesis size v lived =
    subst (SameTable (fresh stakes me genesis)) (sym lived.ledger) (life_table me (fresh stakes me genesis) v.came (fresh_ready stakes me genesis size))

pub own_number : (stakes : List ℕ) (me genesis : ℕ) (l : Ledger) → SameTable (fresh stakes me genesis) l → l.own ≡ me
unfolding fresh
own_number stakes me genesis l t = t.own

module _ (stakes : List ℕ) (genesis : ℕ) (v : Seen) (alive : Alive stakes genesis v) where
  abbrev a : Began stakes genesis v
  a = alive_began alive

  abbrev me : ℕ
  me = a.own

  abbrev first : Ledger
  first = fresh stakes me genesis

  pub table : SameTable first (ledger_in v)
  table = same_head stakes me genesis a.size v a.lived

  mine : (ledger_in v).own ≡ me
  mine = own_number stakes me genesis (ledger_in v) table

  begun : Along me (length stakes) first
  unfolding fresh
  begun = record { sound = a.sound; own = refl; count = refl }

  pub neat : (s n : ℕ) → Neat (cell_at (ledger_in v) s n)
  neat s n = subst (λ (l : Ledger). Neat (cell_at l s n)) (sym a.lived.ledger) ((life_ready me first v.came (fresh_ready stakes me genesis a.size)).inv.neat s n)

  vote_held : (s n : ℕ) (b : Ballot) → has (cell_at (ledger_in v) s n) b ≡ (some_accepted (λ c. brings c s n b) first v.came || (eqb n me && among v.told (record_for s b)))
  vote_held s n b =
      by_test (eqb n me)
      (λ t.
      let e : n ≡ me = eqb-true n me t in
      let own : has (cell_at (ledger_in v) s n) b ≡ among v.told (record_for s b) = ap (λ (i : ℕ). has (cell_at (ledger_in v) s i) b) (e ∙ sym mine) ∙ (marks_are_told stakes genesis v alive).vote s b in
      let out : some_accepted (λ c. brings c s n b) first v.came ≡ false = ap (λ (i : ℕ). some_accepted (λ c. brings c s i b) first v.came) e ∙ none_mine me (length stakes) s b v.came first begun in
      own ∙ sym (λ i. out i || (t i && among v.told (record_for s b))))
      (λ t.
      let at_end : has (cell_at (ledger_in v) s n) b ≡ has (cell_at (after_all first v.came) s n) b = ap (λ (l : Ledger). has (cell_at l s n) b) a.lived.ledger in
      at_end ∙ from_none _ _ _ (not_t_false (has (cell_at first s n) b) (fresh_has stakes me genesis s n b)) (others me (length stakes) s n b (eqb-false n me t) v.came first begun)
      ∙ sym (or_off _ _ (ap (λ (x : Bool). x && among v.told (record_for s b)) t)))
    where
      or_off : (x y : Bool) → y ≡ false → (x || y) ≡ x
      or_off true y e = refl
      or_off false y e = e

  holds : HoldsTaken stakes genesis v
  holds =
      let same : first ≡ begun_as stakes genesis v = ap (λ (i : ℕ). fresh stakes i genesis) (sym mine) in
      record {
        votes = λ s n b. vote_held s n b ∙ (λ i. some_accepted (λ c. brings c s n b) (same i) v.came || (eqb n (numbered i) && among v.told (record_for s b)));
        blocks = λ s b p x.
            ap (λ (l : Ledger). keeps_block l s b p x) a.lived.ledger
            ∙ from_none _ _ _ (not_t_false (keeps_block first s b p x) (fresh_keeps stakes me genesis s b p x)) (kept me (length stakes) s b p x v.came first begun)
            ∙ ap (λ (l : Ledger). some_accepted (λ c. announces c s b p x) l v.came) same;
        certificates = λ k s q.
            ap (λ (l : Ledger). keeps_certificate l k s q) a.lived.ledger
            ∙ from_none _ _ _ (fresh_certificate stakes me genesis k s q) (certified me (length stakes) k s q v.came first begun)
            ∙ ap (λ (l : Ledger). some_accepted (λ c. hands (length stakes) c k s q) l v.came) same;
      }
    where
      numbered : me ≡ (ledger_in v).own
      numbered = sym mine

pub holds_what_it_took : HoldsWhatItTook
holds_what_it_took stakes genesis v alive = holds stakes genesis v alive

-- ---- two lives

-- Fresh ledgers of one table differ in own number and genesis alone.
one_table : (stakes : List ℕ) (me g you h : ℕ) (l m : Ledger) → SameTable (fresh stakes me g) l → SameTable (fresh stakes you h) m
    → (m.count ≡ l.count) × (m.stakes ≡ l.stakes) × (m.total ≡ l.total)
unfolding fresh
one_table stakes me g you h l m a b = (b.count ∙ sym a.count, b.stakes ∙ sym a.stakes, b.total ∙ sym a.total)

pub follows_in_any_order : FollowsInAnyOrder
follows_in_any_order stakes genesis genesis' v w alive alive' same =
    let l : Ledger = ledger_in v in
    let m : Ledger = ledger_in w in
    let a = holds_what_it_took stakes genesis v alive in
    let b = holds_what_it_took stakes genesis' w alive' in
    let t = one_table stakes (alive_began alive).own genesis (alive_began alive').own genesis' l m (table stakes genesis v alive) (table stakes genesis' w alive') in
    let votes : (s n : ℕ) (x : Ballot) → has (cell_at m s n) x ≡ has (cell_at l s n) x = λ s n x. b.votes s n x ∙ same.votes s n x ∙ sym (a.votes s n x) in
    let count : (s n : ℕ) (x : Who) → counts x (cell_at m s n) ≡ counts x (cell_at l s n) = λ s n x. counts_same (cell_at l s n) (cell_at m s n) (neat stakes genesis v alive s n) (neat stakes genesis' w alive' s n) (votes s n) x in
    let certificates : (k : CertificateKind) (s : ℕ) (q : Kept) → keeps_certificate m k s q ≡ keeps_certificate l k s q = λ k s q. b.certificates k s q ∙ same.certificates k s q ∙ sym (a.certificates k s q) in
    let weights : (s : ℕ) (x : Who) → weigh m s x ≡ weigh l s x = λ s x. weigh_same l m t.0 t.1 s (count s) x in
    record {
      votes = votes;
      blocks = λ s n p x. b.blocks s n p x ∙ same.blocks s n p x ∙ sym (a.blocks s n p x);
      certificates = certificates;
      weights = weights;
      cards = λ s low high. cards_agree stakes genesis' w alive' s low high ∙ recount_same l m t.0 t.1 s (count s) ∙ sym (cards_agree stakes genesis v alive s low high);
      holds = λ k s x. held_same l m s t.2 (weights s) (λ j q. certificates j s q) k x;
    }
