-- Computed cases of the help: no line is too wide, every command has its lines, a word that is none has none.
use Rattle.std.specs.Prelude.{Bool, true, ◌&&◌, List, [], ◌∷◌, ℕ, T, leb, length, take}
use Prim.Native.String.{String}
use Rattle.rulebook.specs.Tools.{choose, whenever}
use Rattle.rulebook.specs.Scripts.{equal, all}
use Rattle.texts.specs.Texts.{bytes_of, last_text, later_text, refusal_text}
use Rattle.commands.specs.Commands.{start_text, watch_text, vote_text, tray_text, block_text, timeout_text, look_text, take_text, cert_text, proof_text, check_text, check_proof_text, piece_text, end_text, pack_text, unpack_text, board_text, votes_text, card_text, blocks_text, marks_text, head_text, certificates_text, weights_text, aside_text, differ_text, stands_text, vouched_text, parents_text, save_text, why_text, help_text, quit_text}
use Rattle.lines.specs.Text.{glyph, digits_of, decimal}
use Rattle.lines.specs.Cases.{reads}
use Rattle.help.specs.Manual.{told, packets, shown, asked, compared}
use Rattle.help.specs.Topics.{named, opens, topic_from, topic_in, topic_of, topic_line, numbered, why_line}

-- No line has more than 80 columns.
unfoldable narrow : List String → Bool
narrow [] = true
narrow (l ∷ ls) = leb (length (bytes_of l)) 80 && narrow ls

-- What is told of one command is not too wide for a screen.
screens : T (all (narrow told ∷ narrow packets ∷ narrow shown ∷ narrow asked ∷ narrow compared ∷ []))
unfolding narrow told packets shown asked compared
screens = tt

-- The manual tells of each of these words, and what it tells begins with it.
unfoldable tells_all : List (List ℕ) → Bool
tells_all [] = true
tells_all (w ∷ ws) = equal (take (length w) (topic_line w)) w && tells_all ws

-- The words of all commands.
abbrev words : List (List ℕ)
words =
    start_text ∷ watch_text ∷ vote_text ∷ tray_text ∷ block_text ∷ timeout_text ∷ look_text ∷ take_text
    ∷ cert_text ∷ proof_text ∷ check_text ∷ check_proof_text ∷ piece_text ∷ end_text ∷ pack_text ∷ unpack_text
    ∷ board_text ∷ votes_text ∷ card_text ∷ blocks_text ∷ marks_text ∷ head_text ∷ certificates_text ∷ weights_text
    ∷ aside_text ∷ differ_text ∷ stands_text ∷ vouched_text ∷ parents_text ∷ save_text ∷ why_text ∷ help_text ∷ quit_text ∷ []

commands : T (tells_all words)
unfolding tells_all choose whenever told packets shown asked compared named opens topic_from topic_in topic_of topic_line
commands = tt

-- A command's lines and no others; several with one word; "?" for the front of a word, for one that stands later in a line, and for one in capitals.
topics : T (all (reads (topic_line (bytes_of "card")) "card SLOT\n  What the slot's votes weigh, and the leading notar block with its weight.\n  0 SKIP FINAL SKIPCERT BLOCK WEIGHT; 17, 3.\n"
    ∷ reads (topic_line (bytes_of "end")) "end\n  Checks the pieces together.\n  As checkproof; 12 with no piece before it.\n"
    ∷ reads (topic_line (bytes_of "votes")) "votes\nvotes SLOT FROM\n  Every stored vote; those of a slot from a node on, of 64 nodes.\n  SLOT NODE KIND BLOCK a line; 17, 3, 2.\n  With more than 64 nodes votes alone is a line a slot.\n"
    ∷ reads (topic_line (bytes_of "car")) "?\n" ∷ reads (topic_line (bytes_of "SLOT")) "?\n" ∷ reads (topic_line (bytes_of "Card")) "?\n" ∷ []))
unfolding choose whenever told packets shown asked compared named opens topic_from topic_in topic_of topic_line
topics = tt

-- A refusal has its number before it, a number that is none has not.
whys : T (all (reads (why_line 0) "0: Done.\n" ∷ reads (why_line 19) "No refusal has this number.\n"
    ∷ reads (why_line 18) "18: The certificate or proof asked for is not held.\n" ∷ []))
unfolding choose whenever glyph digits_of decimal last_text later_text refusal_text numbered why_line
whys = tt
