-- From any sound ledger: every record is paid by one of the potential, by whatever part of a call makes it;
-- records only grow, and where none is made nothing changes.
use mathlib.Core.Path.{◌≡◌, refl, sym, ap, ◌∙◌}
use mathlib.Core.Bool.{false}
use mathlib.Core.List.{List, [], ◌∷◌, ◌++◌, append_assoc}
use Prim.Native.Nat.{ℕ, suc, ◌+◌, ◌≤◌}
use native.Mathlib.Omega.{arith}
use lib.ListN.{length, length-append}
use Rattle.rulebook.specs.declared.VoteKind.{VoteKind}
use Rattle.rulebook.specs.Weights.{last_slot}
use Rattle.rulebook.specs.PaperNumbers.{vote_number}
use Rattle.rulebook.specs.Ledger.{is_watcher, Ledger, none, put_armed, put_final, put_clash}
use Rattle.rulebook.specs.Votes.{store_vote}
use Rattle.rulebook.specs.Rules.{Record, State, record_of, report, cast, cast_skips, rule_a, rule_b, rule_c, rule_d, rule_e, tell_clash, tell_final, rule_f, rule_g}
use Rattle.rulebook.specs.Run.{made, rule_at, first_rule, first_slot, scan, run_for, run}
use Rattle.settling.specs.Spare.{spare}
use Rattle.settling.specs.Steps.{SameNode, Lawful, Casting, AndVotes, Came}
use Rattle.settling.specs.Facts.{Sound}
use Rattle.settling.proofs.Sounding.{own_in, own_placed, sound_vote, sound_armed, sound_final, sound_clash}
use Rattle.settling.proofs.SpareLaws.{spare_own, spare_armed, spare_final, spare_clash}
use Rattle.settling.proofs.LawfulRules.{voter_casting, skips_keep, A-keeps, B-keeps, C-keeps, D-keeps, E-keeps, clash_keeps, tell_keeps, F-keeps, G-keeps, rule_keeps, rules_keep, slots_keep, scan_keeps, run_for_keeps, run_keeps}

-- ---- the node stays

pub same_node : (l : Ledger) → SameNode l l
same_node l = record { own = refl; count = refl; total = refl; genesis = refl; stakes = refl }

pub stored_same : (l : Ledger) (s n : ℕ) (k : VoteKind) (b : ℕ) → SameNode l (store_vote l s n k b)
unfolding store_vote
stored_same l s n k b = record { own = refl; count = refl; total = refl; genesis = refl; stakes = refl }

-- ---- one state comes of another

pub came_self : (o : State) → Sound o.ledger → Came o o
came_self o h = record { fresh = []; grown = refl; spent = refl; still = λ _. refl; sound = h; same = same_node o.ledger }

-- No record is lost.
pub came_more : (o p : State) → Came o p → made o ≤ made p
came_more o p c = omega (arith, ap (λ (rs : List Record). length rs) c.grown, length-append c.fresh o.records)

-- A record more: the ledger that it leaves has one less to spend.
came_one : (o p : State) (l : Ledger) (k s b : ℕ) → Came o p → Sound l → SameNode p.ledger l → spare l + 1 ≡ spare p.ledger → Came o (report p l k s b)
came_one o p l k s b c h n e =
    record {
      fresh = record_of k s b ∷ c.fresh;
      grown = ap (λ (rs : List Record). record_of k s b ∷ rs) c.grown;
      spent = omega (arith, c.spent);
      still = λ q. absurd (omega (arith, came_more o p c));
      sound = h;
      same =
          record {
            own = n.own ∙ c.same.own;
            count = n.count ∙ c.same.count;
            total = n.total ∙ c.same.total;
            genesis = n.genesis ∙ c.same.genesis;
            stakes = n.stakes ∙ c.same.stakes;
          };
    }

pub came_lawful : (o : State) → Lawful (Came o)
unfolding cast
came_lawful o =
    record {
      sound = λ p c. c.sound;
      vote = λ p s k b low high v e m w c.
          let mine = own_in p.ledger c.sound v in
          came_one o p (store_vote p.ledger s p.ledger.own k b) (vote_number k) s b c
          (sound_vote p.ledger c.sound s low high p.ledger.own k b mine e m (λ _. w))
          (stored_same p.ledger s p.ledger.own k b)
          (spare_own p.ledger s c.sound.shaped low high (own_placed p.ledger c.sound mine) k b e m);
      arm = λ p s low high e c.
          came_one o p (put_armed p.ledger s) 7 s 0 c (sound_armed p.ledger c.sound s low high)
          (record { own = refl; count = refl; total = refl; genesis = refl; stakes = refl })
          (spare_armed p.ledger s c.sound.shaped low high e);
      tell = λ p s b low high e m c.
          came_one o p (put_final p.ledger s b) 6 s b c
          (sound_final p.ledger c.sound s low high b)
          (record { own = refl; count = refl; total = refl; genesis = refl; stakes = refl })
          (spare_final p.ledger s c.sound.shaped low high b e m);
      clash = λ p s b low high e c.
          came_one o p (put_clash p.ledger s) 8 s b c
          (sound_clash p.ledger c.sound s low high)
          (record { own = refl; count = refl; total = refl; genesis = refl; stakes = refl })
          (spare_clash p.ledger s c.sound.shaped low high e);
    }

pub came_trans : (o p q : State) → Came o p → Came p q → Came o q
came_trans o p q c d =
    record {
      fresh = d.fresh ++ c.fresh;
      grown = d.grown ∙ ap (λ (rs : List Record). d.fresh ++ rs) c.grown ∙ sym (append_assoc d.fresh c.fresh o.records);
      spent = d.spent ∙ c.spent;
      still = λ e.
          let a = came_more o p c in
          let b = came_more p q d in
          d.still (omega arith) ∙ c.still (omega arith);
      sound = d.sound;
      same =
          record {
            own = d.same.own ∙ c.same.own;
            count = d.same.count ∙ c.same.count;
            total = d.same.total ∙ c.same.total;
            genesis = d.same.genesis ∙ c.same.genesis;
            stakes = d.same.stakes ∙ c.same.stakes;
          };
    }

-- ---- every part of a call

module _ (o : State) (h : Sound o.ledger) where
  module _ (s : ℕ) (a : 1 ≤ s) (b : s ≤ last_slot) where
    -- What a node that is no watcher casts.
    module _ (v : is_watcher o.ledger ≡ false) where
      abbrev voting_came : Casting (AndVotes (Came o))
      voting_came = voter_casting (Came o) (came_lawful o)

      pub skips_come : Came o (cast_skips o s)
      skips_come = (skips_keep (AndVotes (Came o)) voting_came s a b o (came_self o h, v)).0

      pub B-comes : Came o (rule_b o s)
      B-comes = (B-keeps (AndVotes (Came o)) voting_came s a b o (came_self o h, v)).0

      pub C-comes : Came o (rule_c o s)
      C-comes = (C-keeps (AndVotes (Came o)) voting_came s a b o (came_self o h, v)).0

      pub D-comes : Came o (rule_d o s)
      D-comes = (D-keeps (AndVotes (Came o)) voting_came s a b o (came_self o h, v)).0

      pub E-comes : Came o (rule_e o s)
      E-comes = (E-keeps (AndVotes (Came o)) voting_came s a b o (came_self o h, v)).0

    pub A-comes : Came o (rule_a o s)
    A-comes = A-keeps (Came o) (came_lawful o) s a b o (came_self o h)

    pub clash_comes : (x : ℕ) → Came o (tell_clash o s x)
    clash_comes x = clash_keeps (Came o) (came_lawful o) o s x a b (came_self o h)

    pub tell_comes : (x : ℕ) → none x ≡ false → Came o (tell_final o s x)
    tell_comes x m = tell_keeps (Came o) (came_lawful o) o s x a b m (came_self o h)

    pub F-comes : Came o (rule_f o s)
    F-comes = F-keeps (Came o) (came_lawful o) s a b o (came_self o h)

    pub G-comes : Came o (rule_g o s)
    G-comes = G-keeps (Came o) (came_lawful o) s a b o (came_self o h)

    pub rule_comes : (r : ℕ) → Came o (rule_at r o s)
    rule_comes r = rule_keeps (Came o) (came_lawful o) s a b r o (came_self o h)

    pub rules_come : (n r : ℕ) → Came o (first_rule n r o s)
    rules_come n r = rules_keep (Came o) (came_lawful o) s a b n r o (came_self o h)

  pub slots_come : (n s : ℕ) → 1 ≤ s → s + n ≤ suc last_slot → Came o (first_slot n s o)
  slots_come n s a b = slots_keep (Came o) (came_lawful o) n s o a b (came_self o h)

  pub scan_comes : Came o (scan o)
  scan_comes = scan_keeps (Came o) (came_lawful o) o (came_self o h)

  pub run_for_comes : (n : ℕ) → Came o (run_for n o)
  run_for_comes n = run_for_keeps (Came o) (came_lawful o) n o (came_self o h)

  pub run_comes : Came o (run o)
  run_comes = run_keeps (Came o) (came_lawful o) o (came_self o h)
