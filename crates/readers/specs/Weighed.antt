-- What a slot's stored votes weigh for a block, and what is missing to rule D's weights.
use Rattle.std.specs.Prelude.{not, List, [], ◌∷◌, ℕ, ◌+◌, ◌≤◌, min, max, eqb, Result, Ok, Err}
use Rattle.rulebook.specs.declared.Refusal.TheVariants as refusal
use Rattle.rulebook.specs.declared.Who.TheVariants as who
use Rattle.rulebook.specs.Tools.{whenever}
use Rattle.rulebook.specs.Weights.{most_stake, missing}
use Rattle.rulebook.specs.Ledger.{none}
use Rattle.rulebook.specs.Pool.{weigh}
use Rattle.rulebook.specs.PaperNumbers.{Panel, refusal_number, panel_of}
use Rattle.record.specs.Layout.{ledger_of}
use Rattle.readers.specs.declared.BlockWeights.{BlockWeights}
use Rattle.readers.specs.Asked.{on_slot}
use Rattle.rulebook.specs.declared.Refusal.{Refusal}

-- The least further stake with which a block of notar weight n beside skip weight k would have rule D's weights: what n lacks to 40, or
-- what n lacks to 20 and k + n to 60, both of which the larger of the two brings.
unfoldable pub missing_d : ℕ → ℕ → ℕ → ℕ
missing_d t n k = min (missing 2 t n) (max (missing 1 t n) (missing 3 t (k + n)))

-- "notar(b)"; those who count in b's notar-fallback certificate, "notar b or notar-fallback b", each node once; "skip"; and what is
-- missing to rule D's weights. All of stored votes: kept certificates add nothing.
unfoldable pub weights_kept : List ℕ → ℕ → ℕ → BlockWeights
weights_kept ws s b =
    let l = ledger_of ws in
    record {
      notar = record { 0 = weigh l s (who.Notar b) };
      fallback = record { 0 = weigh l s (who.NotarOrFallback b) };
      skip = record { 0 = weigh l s who.Skip };
      missing = record { 0 = missing_d l.total (weigh l s (who.Notar b)) (weigh l s who.Skip) };
    }

-- 5 for block 0 behind 17 and 3, then the weights.
unfoldable pub weights_on : List ℕ → ℕ → ℕ → Result BlockWeights Refusal
weights_on ws s b =
    on_slot Err ws s (λ _. whenever (not (none b)) (λ _. Ok (weights_kept ws s b)) (Err refusal.BadBlock))

-- The four words of the weights.
abbrev pub weight_values : BlockWeights → List ℕ
weight_values w = w.notar.0 ∷ w.fallback.0 ∷ w.skip.0 ∷ w.missing.0 ∷ []

-- The number and the four weights beside it, zeros beside a refusal.
unfoldable pub weights_panel : Result BlockWeights Refusal → Panel
weights_panel a = panel_of (0 ∷ 0 ∷ 0 ∷ 0 ∷ []) weight_values a

-- A notar weight n and a skip weight k within the total t: their sum does not wrap.
pub record Light (t n k : ℕ) : Type 0 where
  pub total : t ≤ most_stake
  pub notar : n ≤ t
  pub skip : k ≤ t
