-- What was fed is enough for the premise: a block that was accepted first is kept first, and a vote that was brought is counted.
use mathlib.Core.Path.{◌≡◌, sym, subst}
use mathlib.Core.List.{List}
use Prim.Native.Nat.{ℕ, suc, ◌≤◌}
use native.Mathlib.Omega.{arith}
use native.Mathlib.Decide.{ℕ_discrete}
use lib.Dec.{T}
use Rattle.rulebook.specs.Weights.{last_slot}
use Rattle.rulebook.specs.Ledger.{Ledger, fresh, cell_at, is_block, first_block}
use Rattle.safety.specs.Slot.{Test, Ballot, notar, final}
use Rattle.safety.specs.Ballots.{has}
use Rattle.safety.specs.Ring.{brought_by}
use Rattle.safety.proofs.Safety.{own_stored}
use Rattle.finals.specs.Fed.{first_taken}
use Rattle.finals.proofs.Leading.{first_low}
use Rattle.finals.proofs.Taken as book
use Rattle.seen.specs.Seen.{Seen, ledger_in}
use Rattle.seen.specs.Ring.{Lives, told_ballot, counted_ballot, Ring}
use Rattle.seen.proofs.Ring.{told_cast, book_ring}
use Rattle.seen.proofs.Fed as seen
use Rattle.finals_seen.specs.Finals.{kept_first, Led, Heard}
use Rattle.finals_seen.specs.Finals as heard
use Rattle.finals_seen.specs.Fed.{HeardFed, by_notars, by_finals, FedIsLed, FedFinalsIn, FedIsHeard, WatcherFedIsHeard}
use Rattle.finals_seen.proofs.Finals.{blocks_voted}

module _ (stakes : List ℕ) (genesis : ℕ → ℕ) (honest : Test) (lives : Lives) (ring : Ring stakes genesis honest lives) where
  -- What another honest outbox told, and was brought, is counted; so is what the node's own outbox told.
  counts : (n m s : ℕ) (v : Ballot) → T (honest n) → T (honest m) → 1 ≤ s → s ≤ last_slot → T (told_ballot lives m s v) → (¬ (m ≡ n) → T (brought_by (lives n).came s m v))
      → T (counted_ballot lives n m s v)
  counts n m s v h k lo hi t brought =
      elim (ℕ_discrete m n) [
        | yes e ↦ subst (λ (j : ℕ). T (counted_ballot lives j m s v)) e
            (subst (λ (l : Ledger). T (has (cell_at l s m) v)) (sym (ring.nodes.lived m k).lived.ledger)
            (own_stored stakes genesis honest (λ n. (lives n).came) (book_ring stakes genesis honest lives ring) m s v k (told_cast stakes genesis honest lives ring.nodes.lived m s v k t)))
        | no ne ↦ seen.fed_is_enough stakes genesis honest lives ring n m s v h k ne lo hi t (brought ne)
      ]

  first_kept : (prompt : Test) (block : ℕ → ℕ) (n s b p x : ℕ) → T (honest n) → T (first_taken (fresh stakes n (genesis n)) (lives n).came s b p x)
      → T (kept_first stakes genesis lives prompt block n s b p x)
  first_kept prompt block n s b p x h t =
      let a = ring.nodes.lived n h in
      subst (λ (l : Ledger). T (is_block b p x (first_block l s))) (sym a.lived.ledger) (book.taken_is_first stakes n (genesis n) a.started (lives n).came s b p x t)

pub fed_is_led : FedIsLed
fed_is_led stakes genesis honest lives ring prompt sub block p x f u is =
    let low = first_low f is.begins in
    record {
      begins = is.begins;
      last = is.last;
      strong = is.strong;
      lived = λ n k. ring.nodes.lived n (sub n k);
      first = λ n k. first_kept stakes genesis honest lives ring prompt block n f (block f) p x (sub n k) (is.first n k);
      next = λ n t k lo hi. first_kept stakes genesis honest lives ring prompt block n (suc t) (block (suc t)) t (block t) (sub n k) (is.next n t k lo hi);
      patient = is.patient;
      votes = λ n m t k q lo hi c. counts stakes genesis honest lives ring n m t (notar (block t)) (sub n k) (sub m q) (omega (arith, low)) (omega (arith, is.last)) c
          (λ ne. is.votes n m t k q ne lo hi c);
    }

pub fed_finals_in : FedFinalsIn
fed_finals_in stakes genesis honest lives ring prompt sub block f u is mail n m t k q lo hi c =
    counts stakes genesis honest lives ring n m t final (sub n k) (sub m q) (omega (arith, first_low f is.on.begins)) (omega (arith, is.on.last)) c (λ ne. mail n m t k q ne lo hi c)

-- ---- nodes that are not prompt, and watchers

module _ (stakes : List ℕ) (genesis : ℕ → ℕ) (lives : Lives) (prompt : Test) (block : ℕ → ℕ) (f u : ℕ) (is : Led stakes genesis lives prompt block f u) (t : ℕ) (lo : f ≤ t) (hi : t ≤ u) where
  low : 1 ≤ t
  low = omega (arith, first_low f is.on.begins)

  high : t ≤ last_slot
  high = omega (arith, is.on.last)

  voted : (m : ℕ) → T (prompt m) → T (told_ballot lives m t (notar (block t)))
  voted m k = (blocks_voted stakes genesis lives prompt block f u is m t k lo hi).voted

  -- Where told votes that are brought are counted, what was heard by feeding is heard.
  heard_by : (v : Seen) → ((m : ℕ) (b : Ballot) → T (prompt m) → 1 ≤ t → t ≤ last_slot → T (told_ballot lives m t b) → T (brought_by v.came t m b) → T (has (cell_at (ledger_in v) t m) b))
      → HeardFed stakes genesis lives prompt block v.came t → Heard stakes genesis lives prompt block v t
  heard_by v enough (by_notars heavy x) = heard.by_notars heavy (λ m k. enough m (notar (block t)) k low high (voted m k) (x m k))
  heard_by v enough (by_finals x y) =
      heard.by_finals (λ m k. enough m (notar (block t)) k low high (voted m k) (x m k)) (λ m k. let z = y m k in enough m final k low high z.0 z.1)

pub fed_is_heard : FedIsHeard
fed_is_heard stakes genesis honest lives ring prompt sub block f u is n t h apart lo hi x =
    heard_by stakes genesis lives prompt block f u is t lo hi (lives n)
    (λ m b k low high c d. seen.fed_is_enough stakes genesis honest lives ring n m t b h (sub m k) (λ e. apart (subst (λ (j : ℕ). T (prompt j)) e k)) low high c d) x

pub watcher_fed_is_heard : WatcherFedIsHeard
watcher_fed_is_heard stakes genesis honest lives ring prompt sub block f u is g v w holds t lo hi x =
    heard_by stakes genesis lives prompt block f u is t lo hi v
    (λ m b k low high c d. seen.watcher_fed_is_enough stakes genesis honest lives ring g v w holds m t b (sub m k) low high c d) x
