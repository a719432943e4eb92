-- A ring of seen lives is a ring of the rule book's theorem: the ONE way down.
use mathlib.Core.Path.{◌≡◌, refl, sym, ap, ◌∙◌, subst}
use mathlib.Core.Bool.{Bool, true, false, ◌||◌}
use mathlib.Core.List.{List, [], ◌∷◌, ◌++◌}
use Prim.Native.Nat.{ℕ}
use lib.Dec.{T}
use lib.ListN.{length}
use Rattle.rulebook.specs.Certificates.{Kept}
use Rattle.rulebook.specs.Ledger.{Ledger, fresh, cell_at, kept_at, is_kept}
use Rattle.rulebook.specs.Pool.{place_kind}
use Rattle.rulebook.specs.PaperNumbers.{kind_in}
use Rattle.rulebook.specs.Rules.{Record}
use Rattle.rulebook.specs.Taking.{Arrival, served}
use Rattle.rulebook.specs.WellFormed.{kept_in}
use Rattle.settling.specs.Steps.{life}
use Rattle.safety.specs.Slot.{Test, Ballot}
use Rattle.safety.specs.Ballots.{has, record_for, same_record, among}
use Rattle.safety.specs.Ring as book
use Rattle.safety.specs.Ring.{after_all, made_in, cast_by, Signers, GenuinePacket}
use Rattle.safety.proofs.Packets.{packet_more}
use Rattle.seen.specs.Seen.{Seen, ledger_in, LifeSeen, NodeSeen}
use Rattle.seen.specs.Ring.{Lives, told_ballot, Nodes, Ring, FedRing}
use Rattle.seen.proofs.More.{signers_more}

-- ---- records among others

or_assoc : (a b c : Bool) → ((a || b) || c) ≡ (a || (b || c))
or_assoc true b c = refl
or_assoc false b c = refl

pub among_both : (xs ys : List Record) (r : Record) → among (xs ++ ys) r ≡ (among xs r || among ys r)
among_both [] ys r = refl
among_both (x ∷ xs) ys r =
    ap (λ (t : Bool). same_record x r || t) (among_both xs ys r) ∙ sym (or_assoc (same_record x r) (among xs r) (among ys r))

made_life : (l : Ledger) (is : List Arrival) (r : Record) → among (life l is) r ≡ made_in l is r
unfolding life made_in
made_life l [] r = refl
made_life l (i ∷ is) r =
    among_both (served l i).records (life (served l i).ledger is) r
    ∙ ap (λ (t : Bool). among (served l i).records r || t) (made_life (served l i).ledger is r)

-- A record was told where the rule book's life makes it.
pub told_made : (l : Ledger) (v : Seen) → LifeSeen l v → (r : Record) → among v.told r ≡ made_in l v.came r
told_made l v h r = ap (λ (rs : List Record). among rs r) h.records ∙ made_life l v.came r

-- ---- the ring

module _ (stakes : List ℕ) (genesis : ℕ → ℕ) (honest : Test) (lives : Lives) (all : (n : ℕ) → T (honest n) → NodeSeen stakes n (genesis n) (lives n)) where
  abbrev pub fed : ℕ → List Arrival
  fed n = (lives n).came

  pub ledger_is : (n : ℕ) → T (honest n) → ledger_in (lives n) ≡ after_all (fresh stakes n (genesis n)) (fed n)
  ledger_is n h = (all n h).lived.ledger

  pub told_cast : (n s : ℕ) (v : Ballot) → T (honest n) → T (told_ballot lives n s v) → T (cast_by stakes genesis honest fed n s v)
  told_cast n s v h = subst T (told_made _ (lives n) (all n h).lived (record_for s v))

  pub cast_told : (n s : ℕ) (v : Ballot) → T (honest n) → T (cast_by stakes genesis honest fed n s v) → T (told_ballot lives n s v)
  cast_told n s v h = subst T (sym (told_made _ (lives n) (all n h).lived (record_for s v)))

  pub genuine : (packet : List ℕ) → GenuinePacket (length stakes) honest (told_ballot lives) packet → GenuinePacket (length stakes) honest (cast_by stakes genesis honest fed) packet
  genuine = packet_more (length stakes) honest (told_ballot lives) (cast_by stakes genesis honest fed) told_cast

module _ (stakes : List ℕ) (genesis : ℕ → ℕ) (honest : Test) (lives : Lives) where
  pub book_ring : Ring stakes genesis honest lives → book.Ring stakes genesis honest (λ n. (lives n).came)
  book_ring ring =
      let all = ring.nodes.lived in
      let cast = cast_by stakes genesis honest (λ n. (lives n).came) in
      let down = told_cast stakes genesis honest lives all in
      record {
        few = ring.nodes.few;
        started = λ n h. (all n h).started;
        pools = λ n m s v h k ne t.
            down m s v k (ring.counted n m s v h k ne (subst (λ (l : Ledger). T (has (cell_at l s m) v)) (sym (ledger_is stakes genesis honest lives all n h)) t));
        kept = λ n s j h t.
            let e = ap (λ (l : Ledger). kept_at l s j) (ledger_is stakes genesis honest lives all n h) in
            subst (λ (q : Kept). Signers honest cast (place_kind j) (kept_in s q)) e
            (signers_more honest (told_ballot lives) cast down (place_kind j) _ (ring.kept n s j h (subst (λ (q : Kept). T (is_kept q)) (sym e) t)));
      }

  pub seen_ring : Nodes stakes genesis honest lives → book.Ring stakes genesis honest (λ n. (lives n).came) → Ring stakes genesis honest lives
  seen_ring nodes r =
      let all = nodes.lived in
      let up = cast_told stakes genesis honest lives all in
      record {
        nodes = nodes;
        counted = λ n m s v h k ne t. up m s v k (r.pools n m s v h k ne (subst (λ (l : Ledger). T (has (cell_at l s m) v)) (ledger_is stakes genesis honest lives all n h) t));
        kept = λ n s j h t.
            let e = ap (λ (l : Ledger). kept_at l s j) (ledger_is stakes genesis honest lives all n h) in
            subst (λ (q : Kept). Signers honest (told_ballot lives) (place_kind j) (kept_in s q)) (sym e)
            (signers_more honest (cast_by stakes genesis honest (λ n. (lives n).came)) (told_ballot lives) up (place_kind j) _ (r.kept n s j h (subst (λ (q : Kept). T (is_kept q)) e t)));
      }

  pub book_fed_ring : FedRing stakes genesis honest lives → book.FedRing stakes genesis honest (λ n. (lives n).came)
  book_fed_ring ring =
      let down = told_cast stakes genesis honest lives ring.nodes.lived in
      record {
        few = ring.nodes.few;
        started = λ n h. (ring.nodes.lived n h).started;
        mail = λ n m s v h k ne t. down m s v k (ring.mail n m s v h k ne t);
        packets = λ n c h t f.
            signers_more honest (told_ballot lives) (cast_by stakes genesis honest (λ n. (lives n).came)) down (kind_in (length stakes) c.kind) c (ring.packets n c h t f);
      }
