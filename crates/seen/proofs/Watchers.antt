-- What is seen of a watcher is the rule book's watcher.
use mathlib.Core.Path.{◌≡◌, refl, sym, ap, ◌∙◌, subst}
use mathlib.Core.Bool.{true, false}
use mathlib.Core.List.{List, [], ◌∷◌, ◌++◌}
use Prim.Native.Nat.{ℕ}
use native.Mathlib.Omega.{arith}
use lib.Dec.{T, eqb, eqb→eq}
use lib.ListN.{length}
use Rattle.rulebook.specs.declared.Input.TheVariants as input
use Rattle.rulebook.specs.Ledger.{Ledger, fresh}
use Rattle.rulebook.specs.Pool.{held}
use Rattle.rulebook.specs.Rules.{Record}
use Rattle.rulebook.specs.Taking.{Arrival, of_input, served}
use Rattle.rule_laws.proofs.ToolLaws.{given_on, given_off, by_test}
use Rattle.settling.specs.Steps.{after}
use Rattle.watchers.specs.Watching.{tells_vote, vote_in, as_votes, shown, SamePool}
use Rattle.watchers.proofs.Following as following
use Rattle.watchers.proofs.Silent as silent
use Rattle.safety.specs.Ballots.{same_record, among}
use Rattle.safety.specs.Ring.{after_all, cast_by}
use Rattle.safety.proofs.Tests.{and_t, or_t}
use Rattle.seen.specs.Seen.{ledger_in}
use Rattle.safety.specs.Watchers.{HoldsGenuine}
use Rattle.safety.proofs.Lives.{watch_sized}
use Rattle.safety.proofs.Safety.{in_table_lem}
use Rattle.safety.proofs.Watchers as book
use Rattle.seen.specs.Ring.{told_ballot}
use Rattle.seen.specs.Watchers.{WatcherNeverVotes, WatcherFollows, WatchedGenuine, WatchedMailIsEnough}
use Rattle.seen.proofs.More.{holds_more, fed_more}
use Rattle.seen.proofs.Ring.{told_cast, cast_told, book_ring}
use Rattle.seen.proofs.Written.{holds}

-- The two words for the ledger after a run of arrivals say the same.
pub after_all_lem : (l : Ledger) (cs : List Arrival) → after l cs ≡ after_all l cs
unfolding after after_all
after_all_lem l [] = refl
after_all_lem l (c ∷ cs) = after_all_lem (served l c).ledger cs

-- A record among those of which none is shown as a vote tells of none.
silent_among : (n : ℕ) (rs : List Record) → as_votes n rs ≡ [] → (r : Record) → T (among rs r) → tells_vote r ≡ false
unfolding as_votes tells_vote
silent_among n [] e r t = absurd t
silent_among n (x ∷ rs) e r t =
    by_test (tells_vote x)
    (λ y. let z : of_input (input.Vote (vote_in n x)) ∷ as_votes n rs ≡ [] = ap (λ (q : List Arrival). q ++ as_votes n rs) (sym (given_on (tells_vote x) [] (λ _. of_input (input.Vote (vote_in n x)) ∷ []) y)) ∙ e in
    absurd cc)
    (λ y. or_t (same_record x r) (among rs r) t
    (λ u. let k = eqb→eq x.kind r.kind (and_t (eqb x.kind r.kind) _ u).0 in rw (← k) y)
    (silent_among n rs (ap (λ (q : List Arrival). q ++ as_votes n rs) (sym (given_off (tells_vote x) [] (λ _. of_input (input.Vote (vote_in n x)) ∷ []) y)) ∙ e) r))

pub watcher_never_votes : WatcherNeverVotes
watcher_never_votes stakes genesis v h r t =
    silent_among 0 v.told (ap (as_votes 0) h.lived.records ∙ silent.watcher_never_votes stakes genesis h.started v.came 0) r t

pub watcher_follows : WatcherFollows
watcher_follows stakes own genesis v w h k e =
    let f = following.watcher_follows stakes own genesis h.started v.came in
    let left : after (fresh stakes own genesis) v.came ≡ ledger_in v = after_all_lem _ v.came ∙ sym h.lived.ledger in
    let right : after (fresh stakes (length stakes) genesis) (shown (fresh stakes own genesis) v.came) ≡ ledger_in w =
    ap (after (fresh stakes (length stakes) genesis)) (sym e) ∙ after_all_lem _ w.came ∙ sym k.lived.ledger in (
      subst (λ (x : Ledger). SamePool x (ledger_in w)) left (subst (λ (x : Ledger). SamePool (after (fresh stakes own genesis) v.came) x) right f.pool),
      (λ c s b. ap (λ (x : Ledger). held x c s b) (sym right) ∙ f.holds c s b ∙ ap (λ (x : Ledger). held x c s b) left),
    )

pub watched_genuine : WatchedGenuine
watched_genuine stakes genesis honest lives ring g v h g' =
    holds stakes (length stakes) g (watch_sized stakes g h.started) v h.lived honest (told_ballot lives)
    (in_table_lem stakes genesis honest (λ n. (lives n).came) (book_ring stakes genesis honest lives ring)) (subst (HoldsGenuine honest (told_ballot lives)) h.lived.ledger g')

pub watched_mail_is_enough : WatchedMailIsEnough
watched_mail_is_enough stakes genesis honest lives ring g v h f =
    let fed : ℕ → List Arrival = λ n. (lives n).came in
    let all = ring.nodes.lived in
    let cast = cast_by stakes genesis honest fed in
    subst (HoldsGenuine honest (told_ballot lives)) (sym h.lived.ledger)
    (holds_more honest cast (told_ballot lives) (cast_told stakes genesis honest lives all) _
    (book.watched_mail_is_enough stakes genesis honest fed (book_ring stakes genesis honest lives ring) g h.started v.came
    (fed_more honest (told_ballot lives) cast (told_cast stakes genesis honest lives all) stakes v.came f)))
