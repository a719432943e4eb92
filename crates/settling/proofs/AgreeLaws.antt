-- "At every moment it equals what a recount of the stored votes gives, in fresh and in refused cases too. A node record whose card
-- disagrees with the recount is 17."
use Rattle.std.specs.Prelude.{Ok}
use mathlib.Core.Path.{◌≡◌, ap}
use mathlib.Core.List.{List}
use Prim.Native.Nat.{ℕ, suc, ◌≤◌}
use native.Mathlib.Omega.{arith}
use lib.ListN.{length, get_or-replicate}
use Rattle.rulebook.specs.declared.Input.{Input}
use Rattle.rulebook.specs.declared.Refusal.TheVariants as refusal
use Rattle.rulebook.specs.Weights.{places_for, last_slot}
use Rattle.rulebook.specs.Ledger.{Ledger, Row, no_card, blank_row, no_row, row_at, fresh}
use Rattle.rulebook.specs.Cards.{CardsAgree, recount}
use Rattle.rulebook.specs.Rules.{State}
use Rattle.rulebook.specs.Run.{rule_at, run}
use Rattle.rulebook.specs.Inputs.{start_verdict, refused_with, feed}
use Rattle.rulebook.specs.Taking.{take_packet, Arrival}
use Rattle.rulebook.specs.WellFormed.{well_formed, step}
use Rattle.rule_laws.proofs.ToolLaws.{by_test, given_off}
use Rattle.recounting.proofs.Leading.{Lead, lead_recount}
use Rattle.settling.specs.Facts.{Sound}
use Rattle.settling.specs.Steps.{after}
use Rattle.settling.proofs.FactLaws.{formed}
use Rattle.settling.proofs.Soundness.{rule_sound, run_sound, feed_sound, step_sound, packet_sound}
use Rattle.settling.proofs.Start.{fresh_sound, start_sound}

-- ---- at every moment

-- A record that 17 lets pass.
pub cards_agree : (l : Ledger) → Sound l → CardsAgree l
cards_agree l h = (formed l h.formed).cards

-- After a start: no votes, and a card of zeros.
module _ (stakes : List ℕ) (own genesis : ℕ) where
  pub fresh_card : (s : ℕ) → s ≤ last_slot → (row_at (fresh stakes own genesis) s).card ≡ no_card
  unfolding fresh blank_row
  fresh_card s b = ap (λ (r : Row). r.card) (get_or-replicate (suc last_slot) s (blank_row (places_for (length stakes))) no_row (omega arith))

  pub cards_started : start_verdict stakes own genesis ≡ Ok tt → CardsAgree (fresh stakes own genesis)
  cards_started e = cards_agree (fresh stakes own genesis) (fresh_sound stakes own genesis e)

  -- After a start and whatever arrives, accepted and refused in any order.
  pub cards_for_life : start_verdict stakes own genesis ≡ Ok tt → (cs : List Arrival) → CardsAgree (after (fresh stakes own genesis) cs)
  cards_for_life e cs = cards_agree (after (fresh stakes own genesis) cs) (start_sound stakes own genesis e cs)

-- After an input, accepted or refused; 17 and 9 among the refusals.
module _ (l : Ledger) (h : Sound l) (i : Input) where
  pub cards_fed : CardsAgree (feed l i).ledger
  cards_fed = cards_agree (feed l i).ledger (feed_sound l h i)

  pub cards_stepped : (room : ℕ) → CardsAgree (step l room i).ledger
  cards_stepped room = cards_agree (step l room i).ledger (step_sound l h room i)

-- After a certificate packet: what it keeps leaves every card, and the votes that the rules then cast are on theirs.
module _ (l : Ledger) (h : Sound l) (packet : List ℕ) where
  pub cards_taken : CardsAgree (take_packet l packet).ledger
  cards_taken = cards_agree (take_packet l packet).ledger (packet_sound l h packet)

-- Within a call, after each rule that ran.
module _ (o : State) (h : Sound o.ledger) where
  pub cards_ruled : (s : ℕ) → 1 ≤ s → s ≤ last_slot → (r : ℕ) → CardsAgree (rule_at r o s).ledger
  cards_ruled s a b r = cards_agree (rule_at r o s).ledger (rule_sound o h s a b r)

  pub cards_run : CardsAgree (run o).ledger
  cards_run = cards_agree (run o).ledger (run_sound o h)

-- ---- the leading block, without lists

-- Both are 0 where there is no notar vote; else the block has the weight, no block has more, and none of a lower number has as much.
pub card_leads : (l : Ledger) → CardsAgree l → (s : ℕ) → 1 ≤ s → s ≤ last_slot → Lead l s (row_at l s).card.leader (row_at l s).card.weight.0
unfolding recount
card_leads l h s a b = rw (h s a b) (lead_recount l s)

-- ---- a card that disagrees

-- It is 17, whatever the input and the outbox.
pub disagreeing_refused : (l : Ledger) (room : ℕ) (i : Input) (s : ℕ) → 1 ≤ s → s ≤ last_slot → ((row_at l s).card ≡ recount l s → ⊥)
    → step l room i ≡ refused_with l refusal.BadRecord
unfolding step
disagreeing_refused l room i s a b ne =
    by_test (well_formed l) (λ t. absurd (ne ((formed l t).cards s a b)))
    (λ t. given_off (well_formed l) (refused_with l refusal.BadRecord) _ t)
