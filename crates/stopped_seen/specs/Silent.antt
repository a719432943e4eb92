-- WHY THE VOTES MUST LEAN, over seen lives: where all others are silent, a slot in which the live votes are level is decided nowhere, and there is no
-- certificate to hand on. Level and leaning leave only equality at 40 between them.
use Rattle.std.specs.Prelude.{not, List, ℕ, ◌*◌, ◌≤◌, ◌<◌, T, length}
use Rattle.rulebook.specs.declared.CertificateKind.TheVariants as certificate
use Rattle.rulebook.specs.Weights.{total_to}
use Rattle.rulebook.specs.Ledger.{none}
use Rattle.rulebook.specs.Pool.{kept_as, held}
use Rattle.safety.specs.Slot.{Test, Ballot}
use Rattle.seen.specs.Seen.{ledger_in}
use Rattle.seen.specs.Ring.{Lives, counted_ballot, Ring}
use Rattle.stopped_seen.specs.Stopped.{live_notar, live_others, live_notar_or_skip}

module _ (stakes : List ℕ) (live : Test) (lives : Lives) where
  -- All others are silent in slot s: live words count votes of live nodes alone, and keep no certificate.
  pub record Silent (s : ℕ) : Type 0 where
    pub alone : (n m : ℕ) (v : Ballot) → T (live n) → T (counted_ballot lives n m s v) → T (live m)
    pub bare : (n b : ℕ) → T (live n) → ¬ T (kept_as (ledger_in (lives n)) certificate.NotarFallback s b)
    pub bare_skip : (n : ℕ) → T (live n) → ¬ T (kept_as (ledger_in (lives n)) certificate.Skip s 0)

  -- The live votes are level at block b: under 40 against it, under 40 for it, and where it has 20, under 60 with the skips.
  pub record Level (s b : ℕ) : Type 0 where
    pub against : 5 * live_others stakes live lives s b < 2 * total_to stakes (length stakes)
    pub behind : 5 * live_notar stakes live lives s b < 2 * total_to stakes (length stakes)
    pub short : total_to stakes (length stakes) ≤ 5 * live_notar stakes live lives s b → 5 * live_notar_or_skip stakes live lives s b < 3 * total_to stakes (length stakes)

  -- Node n holds neither kind 4 nor kind 3 for a block, and so neither 1 nor 2.
  pub record HoldsNothing (n s : ℕ) : Type 0 where
    pub no_block : (c : ℕ) → T (not (none c)) → ¬ T (held (ledger_in (lives n)) certificate.NotarFallback s c)
    pub no_skip : ¬ T (held (ledger_in (lives n)) certificate.Skip s 0)

-- THE LIVE NODES HANG, every one of them, whatever they have been sent of each other's.
abbrev pub LevelHangs : Type 0
LevelHangs =
    (stakes : List ℕ) (genesis : ℕ → ℕ) (honest live : Test) (lives : Lives) → Ring stakes genesis honest lives → ((n : ℕ) → T (live n) → T (honest n))
    → (s b : ℕ) → Silent stakes live lives s → Level stakes live lives s b → (n : ℕ) → T (live n) → HoldsNothing stakes live lives n s
