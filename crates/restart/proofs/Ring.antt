-- What was sent was told by the one life; so a ring whose firms die is a ring of lives.
use mathlib.Core.Path.{◌≡◌, refl, sym, ap, ◌∙◌, subst}
use mathlib.Core.Bool.{true}
use mathlib.Core.List.{List, [], ◌∷◌, ◌++◌}
use Prim.Native.Nat.{ℕ}
use lib.Dec.{T}
use lib.ListN.{length}
use Rattle.rulebook.specs.PaperNumbers.{kind_in}
use Rattle.rulebook.specs.Pool.{place_kind}
use Rattle.rulebook.specs.Rules.{record_of}
use Rattle.safety.specs.Slot.{Test, Ballot}
use Rattle.safety.specs.Ballots.{record_for}
use Rattle.safety.specs.Ring.{GenuinePacket}
use Rattle.safety.proofs.Tests.{T_and}
use Rattle.safety.proofs.Packets.{packet_more}
use Rattle.seen.specs.Seen.{Seen, NodeSeen}
use Rattle.seen.specs.Ring.{told_ballot}
use Rattle.seen.specs.Chain as seen
use Rattle.seen.proofs.More.{signers_more}
use Rattle.seen.proofs.Safety.{safe}
use Rattle.seen.proofs.Chain.{settled_chained, settled_once}
use Rattle.calls.specs.Life.{Calls, Life}
use Rattle.calls.proofs.Life.{life_is_seen, calls_earlier}
use Rattle.restart.specs.Deeds.{Desk, Deed, calls, stores, sends, dies, opened, after_deed, after_deeds, dies_in, all_told, in_order, all_in_order, Called, AllCalled, Host, OneLife}
use Rattle.restart.specs.Ring.{Desks, lives_of, sent_ballot, DyingIsRing, FedDyingIsFed, StoredIsMoment, DyingMet, SafeThroughDeaths, SettledOut, proved, reported, ChainedThroughDeaths, SettledOnceThroughDeaths}
use Rattle.restart.proofs.Deeds.{told_itself, then_on, whole_at_first, deaths_leave_one_life}

module _ (stakes : List ℕ) (genesis : ℕ → ℕ) (honest : Test) (desks : Desks) (hosts : (n : ℕ) → T (honest n) → Host stakes n (genesis n) (desks n)) where
  one_life : (n : ℕ) → T (honest n) → OneLife stakes n (genesis n) (desks n)
  one_life n h = deaths_leave_one_life stakes n (genesis n) (desks n) (hosts n h)

  still_node : (n : ℕ) → T (honest n) → NodeSeen stakes n (genesis n) (lives_of desks n)
  still_node n h = life_is_seen stakes n (genesis n) (desks n).living (one_life n h).living

  sent_told_lem : (n s : ℕ) (v : Ballot) → T (honest n) → T (sent_ballot desks n s v) → T (told_ballot (lives_of desks) n s v)
  sent_told_lem n s v h t = (one_life n h).sent_told (record_for s v) t

  genuine_told : (packet : List ℕ) → GenuinePacket (length stakes) honest (sent_ballot desks) packet → GenuinePacket (length stakes) honest (told_ballot (lives_of desks)) packet
  genuine_told = packet_more (length stakes) honest (sent_ballot desks) (told_ballot (lives_of desks)) sent_told_lem

  settled_in : (s b : ℕ) → SettledOut stakes honest desks s b → seen.Settled honest (lives_of desks) stakes s b
  settled_in s b (proved proof kind signers weight missing g c) = seen.proved proof kind signers weight missing (genuine_told proof g) c
  settled_in s b (reported n h t) = seen.reported n h ((one_life n h).sent_told (record_of 6 s b) t)

pub dying_is_ring : DyingIsRing
dying_is_ring stakes genesis honest desks ring =
    let up = sent_told_lem stakes genesis honest desks ring.hosts in
    record {
      nodes = record { few = ring.few; lived = still_node stakes genesis honest desks ring.hosts };
      counted = λ n m s v h k ne t. up m s v k (ring.counted n m s v h k ne t);
      kept = λ n s j h t. signers_more honest (sent_ballot desks) (told_ballot (lives_of desks)) up (place_kind j) _ (ring.kept n s j h t);
    }

pub fed_dying_is_fed : FedDyingIsFed
fed_dying_is_fed stakes genesis honest desks ring =
    let up = sent_told_lem stakes genesis honest desks ring.hosts in
    record {
      nodes = record { few = ring.few; lived = still_node stakes genesis honest desks ring.hosts };
      mail = λ n m s v h k ne t. up m s v k (ring.mail n m s v h k ne t);
      packets = λ n c h t f. signers_more honest (sent_ballot desks) (told_ballot (lives_of desks)) up (kind_in (length stakes) c.kind) c (ring.packets n c h t f);
    }

pub stored_is_moment : StoredIsMoment
stored_is_moment stakes genesis honest desks ring n h xs ys e =
    let host = ring.hosts n h in
    let d = opened host.words in
    let t =
    then_on stakes n (genesis n) d xs ys (subst (AllCalled d) e host.called) (subst (λ (zs : List Deed). T (all_in_order d zs)) e host.ordered)
    (whole_at_first stakes n (genesis n) host.found host.words host.start) in
    let same : after_deeds d (xs ++ ys) ≡ desks n = ap (after_deeds d) (sym e) ∙ sym host.now in
    record {
      is_honest = h;
      lived = life_is_seen stakes n (genesis n) (after_deeds d xs).stored t.0;
      earlier = calls_earlier (after_deeds d xs).stored (desks n).living (subst (λ (k : Desk). Calls (after_deeds d xs).stored k.living) same t.1);
    }

-- A host that called, stored, sent all and died.
died : (stakes : List ℕ) (own genesis : ℕ) (v : Seen) → Life stakes own genesis v → Host stakes own genesis (record { living = v; stored = v; sent = v.told })
unfolding Called AllCalled after_deed after_deeds in_order all_in_order
died stakes own genesis v h =
    record {
      found = h.found;
      words = h.words;
      start = h.start;
      deeds = calls v ∷ stores ∷ sends v.told ∷ dies ∷ [];
      called = (h.calls, (tt, (tt, (tt, tt))));
      ordered = T_and (all_told v.told v.told) true (told_itself v.told) tt;
      now = refl;
    }

pub dying_met : DyingMet
unfolding dies_in died
dying_met stakes genesis honest lives all ring = (
  λ n. record { living = lives n; stored = lives n; sent = (lives n).told },
  record { few = ring.nodes.few; hosts = λ n h. died stakes n (genesis n) (lives n) (all n h); counted = ring.counted; kept = ring.kept },
  λ n h. (refl, refl, tt),
)

pub safe_through_deaths : SafeThroughDeaths
safe_through_deaths stakes genesis honest desks ring proof packet kind slot block signers weight missing kind' block' signers' weight' missing' g k =
    let up = genuine_told stakes genesis honest desks ring.hosts in
    safe stakes genesis honest (lives_of desks) (dying_is_ring stakes genesis honest desks ring) proof packet kind slot block signers weight missing kind' block' signers' weight' missing' (up proof g) (up packet k)

pub chained_through_deaths : ChainedThroughDeaths
chained_through_deaths stakes genesis honest desks ring one s b t c x y =
    let up = settled_in stakes genesis honest desks ring.hosts in
    settled_chained stakes genesis honest (lives_of desks) (dying_is_ring stakes genesis honest desks ring) one s b t c (up s b x) (up t c y)

pub settled_once_through_deaths : SettledOnceThroughDeaths
settled_once_through_deaths stakes genesis honest desks ring one s b c x y =
    let up = settled_in stakes genesis honest desks ring.hosts in
    settled_once stakes genesis honest (lives_of desks) (dying_is_ring stakes genesis honest desks ring) one s b c (up s b x) (up s c y)
