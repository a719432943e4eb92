-- Computed cases of the lines, beside the text as a reader sees it.
use Rattle.std.specs.Prelude.{Bool, List, [], ◌∷◌, ℕ, ◌-◌, ◌^◌, T, Result, Ok, Err}
use Prim.Native.Char.{code}
use Prim.Native.String as string
use Rattle.rulebook.specs.declared.VoteKind.TheVariants as vote
use Rattle.rulebook.specs.declared.CertificateKind.TheVariants as certificate
use Rattle.rulebook.specs.declared.Refusal.TheVariants as refusal
use Rattle.rulebook.specs.Tools.{choose, whenever, part}
use Rattle.rulebook.specs.Weights.{is_large, family}
use Rattle.rulebook.specs.PaperNumbers.{start_panel, step_panel, write_panel, read_panel, check_number, check_values, check_panel, check_missing, refusal_number, refusal_missing, vote_number, certificate_number, number_in}
use Rattle.rulebook.specs.Scripts.{equal, all}
use Rattle.lines.specs.Text.{glyph, digits_of, decimal, hex_pair, hex_pairs, hex_text, record_text, records_to, records_text}
use Rattle.lines.specs.Answers.{number_line, answer_line, spaced, start_line, step_line, votes_to, votes_text, tray_line, packet_line, message_line, missing_line, five_values, check_line}
use Rattle.lines.specs.Figures.{vote_text, share_text, missing_text}
use Rattle.rulebook.specs.declared.Accepted.{Accepted}
use Rattle.rulebook.specs.declared.Refusal.{Refusal}

-- The bytes of a text.
abbrev bytes_of : string.String → List ℕ
bytes_of string.[] = []
bytes_of (string.◌∷◌ c s) = code c ∷ bytes_of s

-- A line reads as that text.
abbrev pub reads : List ℕ → string.String → Bool
reads line text = equal line (bytes_of text)

-- Decimal without leading zeros, up to the largest word.
abbrev numbers : Bool
numbers =
    all (reads (decimal 0) "0" ∷ reads (decimal 9) "9" ∷ reads (decimal 10) "10" ∷ reads (decimal 100) "100" ∷ reads (decimal 1090) "1090"
    ∷ reads (decimal (2 ^ 64 - 1)) "18446744073709551615" ∷ [])

-- Each byte two digits in upper case; a dash for no byte.
abbrev hex : Bool
hex = all (reads (hex_text []) "-" ∷ reads (hex_text (0 ∷ [])) "00" ∷ reads (hex_text (1 ∷ 159 ∷ 171 ∷ 255 ∷ [])) "019FABFF" ∷ [])

-- A check's answer under a table of 64 nodes, with what is missing.
abbrev checked : Result Accepted Refusal → List ℕ
checked a = check_line (check_panel 64 a) (check_missing a)

-- The answers, done and refused; a tray without a vote, and one with a refused vote in its middle.
abbrev lines : Bool
lines =
    all (reads (start_line (start_panel (Ok tt))) "0\n" ∷ reads (start_line (start_panel (Err refusal.BadRecord))) "17\n"
    ∷ reads (step_line (step_panel (Ok 0)) []) "0 0\n"
    ∷ reads (step_line (step_panel (Ok 2)) (3 ∷ 1 ∷ 0 ∷ 6 ∷ 16 ∷ 7001 ∷ 5 ∷ 5 ∷ 5 ∷ [])) "0 2 3,1,0 6,16,7001\n"
    ∷ reads (step_line (step_panel (Err refusal.NoRoom)) (3 ∷ 1 ∷ 0 ∷ [])) "9\n"
    ∷ reads (tray_line (step_panel (Ok 0)) [] []) "0 0\n"
    ∷ reads (tray_line (step_panel (Ok 1)) (7 ∷ 1 ∷ 0 ∷ 5 ∷ []) (0 ∷ 16 ∷ 7 ∷ [])) "0 1 7,1,0 : 0 16 7\n"
    ∷ reads (tray_line (step_panel (Err refusal.BadLength)) (7 ∷ 1 ∷ 0 ∷ []) (0 ∷ [])) "12\n"
    ∷ reads (packet_line (write_panel (Ok 2)) (4 ∷ 240 ∷ 9 ∷ [])) "0 2 04F0\n"
    ∷ reads (packet_line (write_panel (Err refusal.NotHeld)) (4 ∷ [])) "18\n"
    ∷ reads (message_line (read_panel (Ok (record { kind = vote.NotarFallback; node = record { 0 = 63 }; slot = record { 0 = 16 }; block = 7 })))) "0 2 63 16 7\n"
    ∷ reads (message_line (read_panel (Err refusal.BadLength))) "12\n"
    ∷ reads (checked (Ok (record { kind = certificate.Skip; slot = record { 0 = 12 }; block = 0; signers = 3; weight = record { 0 = 60 } }))) "0 4 12 0 3 60\n"
    ∷ reads (checked (Err (refusal.TooLight (record { 0 = 70 })))) "15 70\n" ∷ reads (checked (Err refusal.BadNumber)) "13\n" ∷ [])

-- A stored vote; a block's weight and what is missing to its next certificate; nothing where nothing is missing.
abbrev shown : Bool
shown =
    all (reads (vote_text 16 63 2 7001) "16 63 2 7001" ∷ reads (share_text 3 27) " 3 (27%)"
    ∷ reads (missing_text 2 (bytes_of "notar-fallback")) ", 2 more for notar-fallback" ∷ reads (missing_text 0 (bytes_of "notar")) "" ∷ [])

cases : T (all (numbers ∷ hex ∷ lines ∷ shown ∷ []))
unfolding choose whenever start_panel step_panel write_panel read_panel check_number check_values check_missing refusal_number refusal_missing vote_number certificate_number number_in family is_large part glyph digits_of decimal hex_pair hex_pairs hex_text record_text records_to records_text number_line answer_line spaced start_line step_line votes_to votes_text tray_line packet_line message_line missing_line five_values check_line vote_text share_text missing_text
cases = tt
