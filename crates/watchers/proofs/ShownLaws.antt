-- Lists of what a watcher is shown: one part after another, and the votes that one record more tells of. Assumes nothing.
use mathlib.Core.Path.{◌≡◌, refl, sym, ap, ◌∙◌}
use mathlib.Core.Bool.{true, false}
use mathlib.Core.List.{List, [], ◌∷◌, ◌++◌, reverse, reverse-cons, append_assoc, append-nil}
use Prim.Native.Nat.{ℕ}
use Rattle.rulebook.specs.declared.Cell.{Cell}
use Rattle.rulebook.specs.declared.Input.TheVariants as input
use Rattle.rulebook.specs.declared.Place.TheVariants.{Free}
use Rattle.rulebook.specs.declared.Vote.{Vote}
use Rattle.rulebook.specs.declared.VoteKind.{VoteKind}
use Rattle.rulebook.specs.declared.VoteKind.TheVariants as vote
use Rattle.rulebook.specs.Tools.{choose, whenever}
use Rattle.rulebook.specs.PaperNumbers.{vote_number, vote_kind}
use Rattle.rulebook.specs.Ledger.{Ledger, is_watcher}
use Rattle.rulebook.specs.Votes.{place_of}
use Rattle.rulebook.specs.Rules.{Record, record_of}
use Rattle.rulebook.specs.Inputs.{is_other}
use Rattle.rulebook.specs.Taking.{Arrival, of_input, served}
use Rattle.rule_laws.proofs.ToolLaws.{given_on, given_off, and_both, both_and}
use Rattle.settling.specs.Facts.{Sound}
use Rattle.settling.specs.Steps.{after}
use Rattle.watchers.specs.Watching.{tells_vote, vote_in, as_votes, is_done, all_taken, SamePool}

-- ---- a watcher beside a node, and what it was shown

-- m is a watcher, and keeps what l keeps.
pub record Beside (l m : Ledger) : Type 0 where
  pub sound : Sound m
  pub watcher : is_watcher m ≡ true
  pub pool : SamePool l m

-- A watcher that was m accepts all of cs, and then stands beside l.
pub record ShownTo (m : Ledger) (cs : List Arrival) (l : Ledger) : Type 0 where
  pub taken : all_taken m cs ≡ true
  pub beside : Beside l (after m cs)

pub shown_none : {l m : Ledger} → Beside l m → ShownTo m [] l
unfolding all_taken after
shown_none b = record { taken = refl; beside = b }

-- One part after another.
pub shown_then : (m : Ledger) (cs ds : List Arrival) (l : Ledger) → all_taken m cs ≡ true → ShownTo (after m cs) ds l → ShownTo m (cs ++ ds) l
unfolding all_taken after
shown_then m [] ds l t h = h
shown_then m (c ∷ cs) ds l t h =
    let p = and_both (is_done (served m c).answer) (all_taken (served m c).ledger cs) t in
    let r = shown_then (served m c).ledger cs ds l p.1 h in
    record { taken = both_and (is_done (served m c).answer) (all_taken (served m c).ledger (cs ++ ds)) p.0 r.taken; beside = r.beside }

pub shown_one_lem : (m : Ledger) (c : Arrival) (l : Ledger) → is_done (served m c).answer ≡ true → Beside l (served m c).ledger → ShownTo m (c ∷ []) l
unfolding all_taken after
shown_one_lem m c l d b = record { taken = both_and (is_done (served m c).answer) true d refl; beside = b }

-- ---- the votes of records

pub votes_append : (n : ℕ) (rs ss : List Record) → as_votes n (rs ++ ss) ≡ as_votes n rs ++ as_votes n ss
unfolding as_votes
votes_append n [] ss = refl
votes_append n (r ∷ rs) ss =
    let here : List Arrival = whenever (tells_vote r) (λ _. of_input (input.Vote (vote_in n r)) ∷ []) [] in
    ap (λ (x : List Arrival). here ++ x) (votes_append n rs ss) ∙ sym (append_assoc here (as_votes n rs) (as_votes n ss))

module _ (n : ℕ) (r : Record) (rs : List Record) where
  last_told : as_votes n (reverse (r ∷ rs)) ≡ as_votes n (reverse rs) ++ as_votes n (r ∷ [])
  last_told = ap (as_votes n) (reverse-cons r rs) ∙ votes_append n (reverse rs) (r ∷ [])

  -- The last record tells of a vote, or of none.
  pub told_vote : tells_vote r ≡ true → as_votes n (reverse (r ∷ rs)) ≡ as_votes n (reverse rs) ++ (of_input (input.Vote (vote_in n r)) ∷ [])
  unfolding as_votes
  told_vote e = last_told ∙ ap (λ (x : List Arrival). as_votes n (reverse rs) ++ (x ++ [])) (given_on (tells_vote r) [] (λ _. of_input (input.Vote (vote_in n r)) ∷ []) e)

  pub told_none : tells_vote r ≡ false → as_votes n (reverse (r ∷ rs)) ≡ as_votes n (reverse rs)
  unfolding as_votes
  told_none e =
      last_told ∙ ap (λ (x : List Arrival). as_votes n (reverse rs) ++ (x ++ [])) (given_off (tells_vote r) [] (λ _. of_input (input.Vote (vote_in n r)) ∷ []) e)
      ∙ append-nil (as_votes n (reverse rs))

-- ---- the record of a cast vote

-- A vote whose place is free is of kinds 1 to 5.
pub free_kind : (c : Cell) (k : VoteKind) (b : ℕ) → place_of c k b ≡ Free → is_other k ≡ false
unfolding place_of is_other
free_kind c vote.Notar b e = refl
free_kind c vote.NotarFallback b e = refl
free_kind c vote.Skip b e = refl
free_kind c vote.SkipFallback b e = refl
free_kind c vote.Final b e = refl
free_kind c vote.Other b e = absurd cc

pub kind_told : (k : VoteKind) (s b : ℕ) → is_other k ≡ false → tells_vote (record_of (vote_number k) s b) ≡ true
unfolding is_other vote_number tells_vote
kind_told vote.Notar s b e = refl
kind_told vote.NotarFallback s b e = refl
kind_told vote.Skip s b e = refl
kind_told vote.SkipFallback s b e = refl
kind_told vote.Final s b e = refl
kind_told vote.Other s b e = absurd cc

abbrev pub vote_of : VoteKind → ℕ → ℕ → ℕ → Vote
vote_of k n s b = record { kind = k; node = record { 0 = n }; slot = record { 0 = s }; block = b }

kind_back : (k : VoteKind) → is_other k ≡ false → vote_kind (vote_number k) ≡ k
unfolding is_other vote_number vote_kind choose
kind_back vote.Notar e = refl
kind_back vote.NotarFallback e = refl
kind_back vote.Skip e = refl
kind_back vote.SkipFallback e = refl
kind_back vote.Final e = refl
kind_back vote.Other e = absurd cc

pub vote_told : (k : VoteKind) (n s b : ℕ) → is_other k ≡ false → vote_in n (record_of (vote_number k) s b) ≡ vote_of k n s b
vote_told k n s b e = ap (λ (x : VoteKind). vote_of x n s b) (kind_back k e)
