-- The votes that a run of words holds, and what stands in front of what they leave. Assumes nothing.
use mathlib.Core.Path.{◌≡◌, refl, sym, ap, ◌∙◌}
use mathlib.Core.List.{List, [], ◌∷◌, ◌++◌, append_assoc}
use Prim.Native.Nat.{ℕ, suc, ◌+◌, ◌*◌, ◌≤◌, ◌<◌}
use native.Mathlib.Omega.{arith}
use lib.ListN.{length, get_or, drop, length-drop}
use lib.Seq.{drop-cons}
use Rattle.rulebook.specs.declared.Vote.{Vote}
use Rattle.rulebook.specs.declared.Input.TheVariants as input
use Rattle.rulebook.specs.PaperNumbers.{step_panel}
use Rattle.rulebook.specs.Ledger.{Ledger}
use Rattle.rulebook.specs.Rules.{Record}
use Rattle.rulebook.specs.Inputs.{feed}
use Rattle.rulebook.specs.Messages.{vote_of}
use Rattle.tray_rules.specs.Trays.{votes_in, whole_votes, Served, ahead, serve}

-- Fewer than four words hold no vote.
votes_short : (ws : List ℕ) → length ws < 4 → votes_in ws ≡ []
unfolding votes_in
votes_short [] h = refl
votes_short (k ∷ []) h = refl
votes_short (k ∷ n ∷ []) h = refl
votes_short (k ∷ n ∷ s ∷ []) h = refl
votes_short (k ∷ n ∷ s ∷ b ∷ ws) h = absurd (omega arith)

module _ (ws : List ℕ) (i : ℕ) where
  -- After the last whole vote there is none.
  pub votes_end : whole_votes ws ≤ i → votes_in (drop (4 * i) ws) ≡ []
  votes_end h = votes_short (drop (4 * i) ws) (omega (arith, length-drop (4 * i) ws))

  one_word : (k m : ℕ) → m ≡ suc k → k < length ws → drop k ws ≡ get_or ws k 0 ∷ drop m ws
  one_word k m e h = drop-cons ws k 0 h ∙ ap (λ (n : ℕ). get_or ws k 0 ∷ drop n ws) (sym e)

  -- The vote at a place, then those from the next place on.
  pub votes_more : 4 * i + 3 < length ws
      → votes_in (drop (4 * i) ws) ≡ vote_of (get_or ws (4 * i) 0) (get_or ws (4 * i + 1) 0) (get_or ws (4 * i + 2) 0) (get_or ws (4 * i + 3) 0) ∷ votes_in (drop (4 * (i + 1)) ws)
  unfolding votes_in
  votes_more h =
      let a = one_word (4 * i) (4 * i + 1) (omega arith) (omega arith) in
      let b = one_word (4 * i + 1) (4 * i + 2) (omega arith) (omega arith) in
      let c = one_word (4 * i + 2) (4 * i + 3) (omega arith) (omega arith) in
      let d = one_word (4 * i + 3) (4 * (i + 1)) (omega arith) (omega arith) in
      ap votes_in
      (a ∙ ap (λ (x : List ℕ). get_or ws (4 * i) 0 ∷ x)
      (b ∙ ap (λ (x : List ℕ). get_or ws (4 * i + 1) 0 ∷ x) (c ∙ ap (λ (x : List ℕ). get_or ws (4 * i + 2) 0 ∷ x) d)))

-- What stands in front of what stands in front.
pub ahead_ahead : (ns ms : List ℕ) (rs qs : List Record) (t : Served) → ahead ns rs (ahead ms qs t) ≡ ahead (ns ++ ms) (rs ++ qs) t
ahead_ahead ns ms rs qs t =
    λ i. record {
      numbers = sym (append_assoc ns ms t.numbers) i;
      ledger = t.ledger;
      records = sym (append_assoc rs qs t.records) i;
    }

pub serve_more : (l : Ledger) (v : Vote) (vs : List Vote)
    → serve l (v ∷ vs) ≡ ahead ((step_panel (feed l (input.Vote v)).answer).number ∷ []) (feed l (input.Vote v)).records (serve (feed l (input.Vote v)).ledger vs)
unfolding serve
serve_more l v vs = refl
