-- A call goes on: what is paid from the potential keeps the outbox's room, and parts of a call follow each other. Assumes nothing.
use mathlib.Core.Path.{◌≡◌, sym, ap, ◌∙◌, subst}
use mathlib.Core.Bool.{false}
use mathlib.Core.List.{List}
use Prim.Native.Nat.{ℕ, ◌≤◌, ◌<◌}
use native.Mathlib.Omega.{arith}
use lib.ListN.{length}
use lib.Dec.{eqb}
use Rattle.rulebook.specs.Weights.{last_slot}
use Rattle.rulebook.specs.Ledger.{Ledger, is_watcher}
use Rattle.rulebook.specs.Rules.{State}
use Rattle.record.specs.Layout.{InSlot, ledger_of}
use Rattle.record.proofs.Places.{long_same}
use Rattle.settling.specs.Facts.{Sound}
use Rattle.settling.specs.Spare.{spare}
use Rattle.settling.specs.Steps.{SameNode, Came}
use Rattle.settling.proofs.Sounding.{own_in}
use Rattle.settling.proofs.Spending.{same_node}
use Rattle.storing.specs.Storing.{Storing}
use Rattle.voter.specs.Outbox.{state_in, Moved}
use Rattle.voter.specs.Voting.{Castable, Live, LiveAt, CastingAt, Onward}
use Rattle.voter.proofs.OutboxLaws.{made_in, moved_none, moved_is, moved_then}

-- One node's ledgers, one after the other.
pub node_then : {l m n : Ledger} → SameNode l m → SameNode m n → SameNode l n
node_then a b =
    record {
      own = b.own ∙ a.own;
      count = b.count ∙ a.count;
      total = b.total ∙ a.total;
      genesis = b.genesis ∙ a.genesis;
      stakes = b.stakes ∙ a.stakes;
    }

-- A node that votes stays one.
pub votes_on_lem : {l m : Ledger} → SameNode l m → is_watcher l ≡ false → is_watcher m ≡ false
unfolding is_watcher
votes_on_lem e v = (λ i. eqb (e.own i) (e.count i)) ∙ v

pub live_slot : {ws out : List ℕ} {at s : ℕ} → LiveAt ws out at s → InSlot ws s
live_slot v = record { long = v.live.long; slot = omega (arith, v.high) }

-- A vote of any node of the table can be stored.
pub live_storing : {ws out : List ℕ} {at s n : ℕ} → LiveAt ws out at s → n < (ledger_of ws).count → Storing ws s n
live_storing v h = record { long = v.live.long; sound = v.live.sound; low = v.low; high = v.high; node = h }

pub casting_at : {ws out : List ℕ} {at s : ℕ} → Live ws out at → is_watcher (ledger_of ws) ≡ false → 1 ≤ s → s ≤ last_slot → CastingAt ws out at s
casting_at h v low high = record { live = record { live = h; low = low; high = high }; votes = v }

pub casting_castable : {ws out : List ℕ} {at s : ℕ} → CastingAt ws out at s → Castable ws out at s
casting_castable {ws = ws} v =
    record {
      storing = live_storing v.live (own_in (ledger_of ws) v.live.live.sound v.votes);
      room = omega (arith, v.live.live.budget, v.live.live.room);
    }

module _ {ws out : List ℕ} {at : ℕ} (v : Live ws out at) where
  -- A move to a state that came of the one before.
  pub onward : {ws' left : List ℕ} {now : ℕ} {q : State} → length ws' ≡ length ws → length left ≡ length out
      → Moved ws out at ws' left now q → Came (state_in ws out at) q → Onward ws out at ws' left now q
  onward {ws' = ws'} {left = left} {now = now} e f m c =
      let mine : (ledger_of ws').own ≡ (ledger_of ws).own = ap (λ (x : State). x.ledger.own) m.is ∙ c.same.own in
      let stakes : (ledger_of ws').stakes ≡ (ledger_of ws).stakes = ap (λ (x : State). x.ledger.stakes) m.is ∙ c.same.stakes in
      record {
        moved = m;
        live =
            record {
              long = long_same ws ws' e v.long;
              room = omega (arith, f, v.room);
              sound = subst (λ (x : State). Sound x.ledger) (sym m.is) c.sound;
              budget =
                  omega (
                    arith,
                    v.budget,
                    c.spent,
                    made_in left now,
                    made_in out at,
                    ap (λ (x : State). length x.records) m.is,
                    ap (λ (x : State). spare x.ledger) m.is,
                  );
            };
        same =
            record {
              own = mine;
              count = ap (λ (x : State). x.ledger.count) m.is ∙ c.same.count;
              total = ap (λ (x : State). x.ledger.total) m.is ∙ c.same.total;
              genesis = ap (λ (x : State). x.ledger.genesis) m.is ∙ c.same.genesis;
              stakes = stakes;
            };
      }

  -- Nothing was done, and the definition does nothing.
  pub onward_none : {q : State} → state_in ws out at ≡ q → Onward ws out at ws out at q
  onward_none {q = q} e = record { moved = moved_none ws out at q e; live = v; same = same_node (ledger_of ws) }

-- The same state under another name.
pub onward_is : {ws out ws' left : List ℕ} {at now : ℕ} {p q : State} → Onward ws out at ws' left now p → p ≡ q → Onward ws out at ws' left now q
onward_is a e = record { moved = moved_is a.moved e; live = a.live; same = a.same }

-- One part after another.
pub onward_then : {ws out ws' out' ws'' out'' : List ℕ} {at at' at'' : ℕ} {p : State} (f : State → State) → Onward ws out at ws' out' at' p
    → Onward ws' out' at' ws'' out'' at'' (f (state_in ws' out' at')) → Onward ws out at ws'' out'' at'' (f p)
onward_then f a b = record { moved = moved_then f a.moved b.moved; live = b.live; same = node_then a.same b.same }
