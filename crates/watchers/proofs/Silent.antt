-- A watcher tells of no vote, whatever arrives. Assumes nothing.
use Rattle.std.specs.Prelude.{⊤, Result, Ok, Err}
use mathlib.Core.Path.{◌≡◌, refl, ap, ◌∙◌}
use mathlib.Core.Bool.{true}
use mathlib.Core.List.{List, [], ◌∷◌, ◌++◌, reverse}
use Prim.Native.Nat.{ℕ}
use lib.ListN.{length}
use lib.Dec.{eqb}
use borrow.Author.Tests.{eq-eqb}
use Rattle.rulebook.specs.declared.Input.{Input}
use Rattle.rulebook.specs.declared.Input.TheVariants as input
use Rattle.rulebook.specs.declared.Refusal.{Refusal}
use Rattle.rulebook.specs.Certificates.{Certificate}
use Rattle.rulebook.specs.Ledger.{Ledger, is_watcher, table_of, certificates_at, fresh}
use Rattle.rulebook.specs.Votes.{store_vote}
use Rattle.rulebook.specs.Rules.{State, state_of, record_of}
use Rattle.rulebook.specs.Checker.{judge}
use Rattle.rulebook.specs.Inputs.{Fed, verdict, keep_block, intake, fed_with, refused_with, fed_on, feed}
use Rattle.rulebook.specs.Taking.{kept_verdict, keep_certificate, taken_on, taken, take_packet, Arrival, of_input, of_packet, served}
use Rattle.rule_laws.proofs.ToolLaws.{true_not_false}
use Rattle.rule_laws.proofs.AcceptedLaws.{packet_cases}
use Rattle.settling.specs.Facts.{Sound}
use Rattle.settling.specs.Steps.{Lawful, kind_for, life}
use Rattle.settling.proofs.LawfulRules.{run_keeps}
use Rattle.settling.proofs.Sounding.{sound_certificate, sound_final, sound_clash, sound_armed}
use Rattle.settling.proofs.Soundness.{intake_sound, served_sound}
use Rattle.settling.proofs.Verdicts.{timeout_fine}
use Rattle.settling.proofs.Life.{taken_fine, served_paid}
use Rattle.settling.proofs.Start.{watching_sound}
use Rattle.watchers.specs.Watching.{tells_vote, as_votes, WatcherNeverVotes}
use Rattle.watchers.proofs.ShownLaws.{votes_append, told_none}

-- ---- the rules

-- A watcher's state, of whose records none tells of a vote.
record Silent (n : ℕ) (o : State) : Type 0 where
  pub sound : Sound o.ledger
  pub watcher : is_watcher o.ledger ≡ true
  pub told : as_votes n (reverse o.records) ≡ []

silent_lawful : (n : ℕ) → Lawful (Silent n)
unfolding is_watcher tells_vote
silent_lawful n =
    record {
      sound = λ o h. h.sound;
      vote = λ o s k b low high v e m w h. true_not_false (is_watcher o.ledger) h.watcher v;
      arm = λ o s low high e h.
          record { sound = sound_armed o.ledger h.sound s low high; watcher = h.watcher; told = told_none n (record_of 7 s 0) o.records refl ∙ h.told };
      tell = λ o s b low high e m h.
          record { sound = sound_final o.ledger h.sound s low high b; watcher = h.watcher; told = told_none n (record_of 6 s b) o.records refl ∙ h.told };
      clash = λ o s b low high e h.
          record { sound = sound_clash o.ledger h.sound s low high; watcher = h.watcher; told = told_none n (record_of 8 s b) o.records refl ∙ h.told };
    }

-- ---- one arrival

module _ (n : ℕ) (m : Ledger) (h : Sound m) (w : is_watcher m ≡ true) where
  -- An accepted input tells of nothing before the rules; a timeout is none.
  intake_silent : (i : Input) → verdict m i ≡ Ok tt → Silent n (intake m i)
  unfolding intake verdict as_votes store_vote keep_block is_watcher
  intake_silent (input.Vote v) e = record { sound = intake_sound m h (input.Vote v) e; watcher = w; told = refl }
  intake_silent (input.Block s b) e = record { sound = intake_sound m h (input.Block s b) e; watcher = w; told = refl }
  intake_silent (input.Timeout s) e = true_not_false (is_watcher m) w (timeout_fine m s.0 e).votes
  intake_silent input.Look e = record { sound = h; watcher = w; told = refl }

  fed_on_silent : (v : Result ⊤ Refusal) (i : Input) → verdict m i ≡ v → as_votes n (fed_on v m i).records ≡ []
  unfolding fed_on fed_with refused_with as_votes
  fed_on_silent (Ok tt) i e = (run_keeps (Silent n) (silent_lawful n) (intake m i) (intake_silent i e)).told
  fed_on_silent (Err r) i e = refl

  taken_on_silent : (v : Result ⊤ Refusal) (c : Certificate) → judge (table_of m) c ≡ Ok tt → kept_verdict (certificates_at m c.slot) (kind_for m c) c.block ≡ v
      → as_votes n (taken_on v m c).records ≡ []
  unfolding taken_on fed_with refused_with as_votes keep_certificate is_watcher
  taken_on_silent (Ok tt) c j e =
      (run_keeps (Silent n) (silent_lawful n) (state_of (keep_certificate m c) []) (record { sound = sound_certificate m h c (taken_fine m h c j e); watcher = w; told = refl })).told
  taken_on_silent (Err r) c j e = refl

  packet_silent : (packet : List ℕ) → as_votes n (take_packet m packet).records ≡ []
  unfolding taken refused_with as_votes
  packet_silent packet =
      packet_cases (λ (f : Fed). as_votes n f.records ≡ []) m packet (λ r. refl)
      (λ c next e j. taken_on_silent (kept_verdict (certificates_at m c.slot) (kind_for m c) c.block) c j refl)

  served_silent : (c : Arrival) → as_votes n (served m c).records ≡ []
  unfolding served feed
  served_silent (of_input i) = fed_on_silent (verdict m i) i refl
  served_silent (of_packet packet) = packet_silent packet

  still_watches : (c : Arrival) → is_watcher (served m c).ledger ≡ true
  unfolding is_watcher
  still_watches c = let s = (served_paid m h c).same in (λ i. eqb (s.own i) (s.count i)) ∙ w

-- ---- a life

pub life_silent : (n : ℕ) (cs : List Arrival) (m : Ledger) → Sound m → is_watcher m ≡ true → as_votes n (life m cs) ≡ []
unfolding life as_votes
life_silent n [] m h w = refl
life_silent n (c ∷ cs) m h w =
    votes_append n (served m c).records (life (served m c).ledger cs)
    ∙ ap (λ (x : List Arrival). x ++ as_votes n (life (served m c).ledger cs)) (served_silent n m h w c)
    ∙ life_silent n cs (served m c).ledger (served_sound m h c) (still_watches n m h w c)

pub watcher_never_votes : WatcherNeverVotes
unfolding fresh is_watcher
watcher_never_votes stakes genesis e cs n =
    life_silent n cs (fresh stakes (length stakes) genesis) (watching_sound stakes genesis e) (eq-eqb (length stakes) (length stakes) refl)
