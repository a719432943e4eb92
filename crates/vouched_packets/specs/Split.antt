-- Where the first certificate of a finality proof ends: what is answered of a lent record and a packet, and its number and value on the panel.
use Rattle.std.specs.Prelude.{List, [], ◌∷◌, ℕ, Result, Ok, Err}
use Rattle.rulebook.specs.declared.Refusal.TheVariants as refusal
use Rattle.rulebook.specs.Tools.{whenever}
use Rattle.rulebook.specs.PaperNumbers.{Panel, panel_of}
use Rattle.rulebook.specs.Ledger.{table_of}
use Rattle.rulebook.specs.Checker.{check_proof}
use Rattle.record.specs.Layout.{ledger_of}
use Rattle.soundness.specs.Sound.{sound_words}
use Rattle.vouched_packets.specs.Asked.{first_end}
use Rattle.rulebook.specs.declared.Accepted.{Accepted}
use Rattle.rulebook.specs.declared.Refusal.{Refusal}

-- The checker's refusal; else as many bytes as the first certificate has. Of a proof of one certificate these are all.
unfoldable pub split_by : List ℕ → Result Accepted Refusal → Result ℕ Refusal
split_by packet (Ok a) = Ok (first_end packet)
split_by packet (Err r) = Err r

-- 17 for words that are no record; then what the proof checker says of the packet under the record's stakes.
unfoldable pub split_on : List ℕ → List ℕ → Result ℕ Refusal
split_on ws packet = whenever (sound_words ws) (λ _. split_by packet (check_proof (table_of (ledger_of ws)) packet)) (Err refusal.BadRecord)

-- The number, and beside it the bytes of the first certificate; 0 beside a refusal.
unfoldable pub split_panel : Result ℕ Refusal → Panel
split_panel a = panel_of (0 ∷ []) (λ n. n ∷ []) a
