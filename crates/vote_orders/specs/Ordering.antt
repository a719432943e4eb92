-- A slot's notar votes in a certified order: what it asks of a caller, and what it shows.
use Rattle.std.specs.Prelude.{◌≡◌, Bool, true, false, not, ◌&&◌, ◌||◌, List, ℕ, ◌≤◌, ◌+◌, eqb, leb, ltb}
use Rattle.rulebook.specs.declared.Who.TheVariants as who
use Rattle.rulebook.specs.Tools.{choose, some_to}
use Rattle.rulebook.specs.Ledger.{Ledger, none, cell_at}
use Rattle.rulebook.specs.Pool.{weigh}
use Rattle.rulebook.specs.Cards.{leads}
use Rattle.record.specs.Layout.{ledger_of}
use Rattle.pool.specs.Weighing.{Weighing}
use Rattle.vote_orders.specs.declared.Shown.{Shown}
use Rattle.vote_orders.specs.declared.Shown.TheVariants as shown

-- The slot can be weighed, v is some weight, and all notar votes weigh so much.
pub record Ordering (ws : List ℕ) (s v any : ℕ) : Type 0 where
  pub weighing : Weighing ws s
  pub some : 1 ≤ v
  pub all : any ≡ weigh (ledger_of ws) s who.AnyNotar

-- No block leads b at weight v.
abbrev pub Unled : Ledger → ℕ → ℕ → ℕ → Type 0
Unled l s b v = (m : ℕ) → 1 ≤ m → leads m (weigh l s (who.Notar m)) b v ≡ false

-- Some node votes for a block that leads b at weight v.
unfoldable pub is_led : Ledger → ℕ → ℕ → ℕ → Bool
is_led l s b v = some_to l.count (λ n. not (none (cell_at l s n).notar) && leads (cell_at l s n).notar (weigh l s (who.Notar (cell_at l s n).notar)) b v)

-- What each answer says.
unfoldable pub Shows : Ledger → ℕ → ℕ → ℕ → Shown → Type 0
Shows l s b v shown.Unled = Unled l s b v
Shows l s b v shown.Led = is_led l s b v ≡ true
Shows l s b v shown.Neither = Unit {0}

-- Node n with the block m comes behind the block b and the nodes below f.
unfoldable pub comes_next : ℕ → ℕ → ℕ → ℕ → Bool
comes_next b f m n = not (none m) && (ltb b m || (eqb m b && leb f n))

-- The sum of a run of equal blocks with w more: another block begins a run.
unfoldable pub next_run : ℕ → ℕ → ℕ → ℕ → ℕ
next_run b run m w = choose (eqb m b) (run + w) w
