-- The calls are those with which what can arrive at the live nodes arrives.
use mathlib.Core.Path.{ap, ◌∙◌}
use mathlib.Core.List.{List, ◌++◌, append-nil}
use Rattle.rulebook.specs.Taking.{Arrival}
use Rattle.calls.proofs.Reached.{all_go_on}
use Rattle.stopped_seen.specs.Reached.{LiveLivesGoOn}
use Rattle.stopped_seen.proofs.Fed.{fifth_not_stuck}

pub live_lives_go_on : LiveLivesGoOn
live_lives_go_on stakes genesis honest live lives all fed once sub few policy one =
    let g = fifth_not_stuck stakes genesis honest live lives fed once sub few policy one in
    let o = all_go_on stakes genesis honest lives all fed.nodes g.further in
    record {
      after = o.after;
      lived = o.lived;
      go_on = o.go_on;
      others = λ n h. o.came n ∙ (ap (λ (is : List Arrival). (lives n).came ++ is) (g.others n h) ∙ append-nil (lives n).came);
      ring = g.ring o.after o.nodes o.came;
      going = g.going o.after o.nodes o.came;
    }
