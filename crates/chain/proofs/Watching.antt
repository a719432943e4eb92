-- A watcher looks on in good faith, and so never tells of two final blocks. Assumes nothing.
use Rattle.std.specs.Prelude.{Ok}
use mathlib.Core.Path.{◌≡◌, refl, ◌∙◌, subst}
use mathlib.Core.List.{List}
use Prim.Native.Nat.{ℕ}
use lib.ListN.{length}
use Rattle.rulebook.specs.Ledger.{Ledger, table_of, fresh, kept_at, keeps_block}
use Rattle.rulebook.specs.Pool.{place_kind}
use Rattle.rulebook.specs.Checker.{judge_kind}
use Rattle.rulebook.specs.WellFormed.{kept_in}
use Rattle.rulebook.specs.Taking.{Arrival}
use Rattle.safety.specs.Slot.{Test}
use Rattle.safety.specs.Moves.{SameTable}
use Rattle.safety.specs.Ring.{after_all, announced_by, cast_by}
use Rattle.safety.specs.Watchers.{HoldsGenuine, watched}
use Rattle.safety.proofs.Along.{same_table}
use Rattle.safety.proofs.Lives.{Sized, life_ready, life_table, life_announced, fresh_table, fresh_ready, fresh_keeps, watch_sized}
use Rattle.safety.proofs.Promises.{kept_blocks_announced}
use Rattle.safety.proofs.Tests.{or_t}
use Rattle.safety.proofs.Watchers.{watched_clashes_grounded}
use Rattle.chain.specs.OneChain.{SameParents, Observer}
use Rattle.chain.specs.Watching.{WatcherObserves, WatchedNoClash, WatchedAnnouncedIsEnough}
use Rattle.chain.proofs.Chains.{no_clash_seen}

same_start : (stakes : List ℕ) (n g : ℕ) (l : Ledger) → SameTable (fresh stakes n g) l → SameTable (fresh stakes l.own l.genesis) l
unfolding fresh
same_start stakes n g l t = record { stakes = t.stakes; count = t.count; total = t.total; own = refl; genesis = refl }

-- A node or a watcher that holds what is genuine, and keeps blocks with no other parent than honest nodes do, looks on in good faith.
pub holder_observes : (stakes : List ℕ) (genesis : ℕ → ℕ) (honest : Test) (fed : ℕ → List Arrival) (me g : ℕ) → Sized stakes me → (lived : List Arrival)
    → HoldsGenuine honest (cast_by stakes genesis honest fed) (after_all (fresh stakes me g) lived) → SameParents stakes genesis honest fed (after_all (fresh stakes me g) lived)
    → Observer stakes genesis honest fed (after_all (fresh stakes me g) lived)
holder_observes stakes genesis honest fed me g size lived holds parents =
    let l = after_all (fresh stakes me g) lived in
    let begun = fresh_ready stakes me g size in
    let ready = life_ready me (fresh stakes me g) lived begun in
    let table = life_table me (fresh stakes me g) lived begun in
    let is : table_of l ≡ stakes = same_table (fresh stakes me g) l table ∙ fresh_table stakes me g in
    record {
      table = same_start stakes me g l table;
      pool = λ m s v k t. holds.pool m s v k t;
      accepted = λ s j t. subst (λ (ws : List ℕ). judge_kind ws (place_kind j) (kept_in s (kept_at l s j)) ≡ Ok tt) is (ready.inv.certificates s j t);
      kept = λ s j t. holds.kept s j t;
      lower = λ s b p x t. (ready.inv.blocks s b p x t).0;
      parents = parents;
    }

pub watcher_observes : WatcherObserves
watcher_observes stakes genesis honest fed g start lived holds parents =
    holder_observes stakes genesis honest fed (length stakes) g (watch_sized stakes g start) lived holds parents

pub watched_no_clash : WatchedNoClash
watched_no_clash stakes genesis honest fed ring one g start lived holds parents s b t =
    no_clash_seen stakes genesis honest fed ring one (watched stakes g lived)
    (watcher_observes stakes genesis honest fed g start lived holds parents) s b (watched_clashes_grounded stakes g start lived s b t)

pub watched_announced_is_enough : WatchedAnnouncedIsEnough
watched_announced_is_enough stakes genesis honest fed ring g start lived once n s b p x q y h t u =
    let me = length stakes in
    let l = fresh stakes me g in
    once n s b p x q y h (kept_blocks_announced stakes n (genesis n) (ring.started n h) (fed n) s b p x t).0
    (or_t (announced_by lived s b q y) (keeps_block l s b q y)
    (life_announced me l lived (fresh_ready stakes me g (watch_sized stakes g start)) s b q y u) (λ v. v) (λ v. absurd (fresh_keeps stakes me g s b q y v)))
