-- The commands of a script, and the lines that are none.
use Rattle.std.specs.Prelude.{◌≡◌, Bool, true, false, ◌&&◌, ◌||◌, List, [], ◌∷◌, ℕ, ◌-◌, eqb, leb, ltb, take, drop, Result, Ok, Err}
use Rattle.std.specs.Str.{bytes_eq}
use Rattle.std.specs.Option.{is_some}
use Rattle.script.specs.declared.NoNumber.{NoNumber}
use Rattle.rulebook.specs.Tools.{choose}
use Rattle.hex_bytes.specs.Bytes.{hex_of}
use Rattle.script.specs.Numbers.{word_from, word_to, numbers_of}
use Rattle.commands.specs.declared.Command.{Command}
use Rattle.commands.specs.declared.Command.TheVariants as command
use Rattle.commands.specs.declared.Reading.{Reading}
use Rattle.commands.specs.declared.Reading.TheVariants as reading

-- Two texts are the same: as long as each other, and the same byte at each place.
abbrev pub same_text : List ℕ → List ℕ → Bool
same_text = bytes_eq

-- The commands' words, letter by letter.
abbrev pub start_text : List ℕ
start_text = 115 ∷ 116 ∷ 97 ∷ 114 ∷ 116 ∷ []

abbrev pub watch_text : List ℕ
watch_text = 119 ∷ 97 ∷ 116 ∷ 99 ∷ 104 ∷ []

abbrev pub vote_text : List ℕ
vote_text = 118 ∷ 111 ∷ 116 ∷ 101 ∷ []

abbrev pub block_text : List ℕ
block_text = 98 ∷ 108 ∷ 111 ∷ 99 ∷ 107 ∷ []

abbrev pub timeout_text : List ℕ
timeout_text = 116 ∷ 105 ∷ 109 ∷ 101 ∷ 111 ∷ 117 ∷ 116 ∷ []

abbrev pub look_text : List ℕ
look_text = 108 ∷ 111 ∷ 111 ∷ 107 ∷ []

abbrev pub tray_text : List ℕ
tray_text = 116 ∷ 114 ∷ 97 ∷ 121 ∷ []

abbrev pub take_text : List ℕ
take_text = 116 ∷ 97 ∷ 107 ∷ 101 ∷ []

abbrev pub cert_text : List ℕ
cert_text = 99 ∷ 101 ∷ 114 ∷ 116 ∷ []

abbrev pub proof_text : List ℕ
proof_text = 112 ∷ 114 ∷ 111 ∷ 111 ∷ 102 ∷ []

abbrev pub check_text : List ℕ
check_text = 99 ∷ 104 ∷ 101 ∷ 99 ∷ 107 ∷ []

abbrev pub check_proof_text : List ℕ
check_proof_text = 99 ∷ 104 ∷ 101 ∷ 99 ∷ 107 ∷ 112 ∷ 114 ∷ 111 ∷ 111 ∷ 102 ∷ []

abbrev pub card_text : List ℕ
card_text = 99 ∷ 97 ∷ 114 ∷ 100 ∷ []

abbrev pub pack_text : List ℕ
pack_text = 112 ∷ 97 ∷ 99 ∷ 107 ∷ []

abbrev pub unpack_text : List ℕ
unpack_text = 117 ∷ 110 ∷ 112 ∷ 97 ∷ 99 ∷ 107 ∷ []

abbrev pub piece_text : List ℕ
piece_text = 112 ∷ 105 ∷ 101 ∷ 99 ∷ 101 ∷ []

abbrev pub end_text : List ℕ
end_text = 101 ∷ 110 ∷ 100 ∷ []

abbrev pub aside_text : List ℕ
aside_text = 97 ∷ 115 ∷ 105 ∷ 100 ∷ 101 ∷ []

abbrev pub differ_text : List ℕ
differ_text = 100 ∷ 105 ∷ 102 ∷ 102 ∷ 101 ∷ 114 ∷ []

abbrev pub save_text : List ℕ
save_text = 115 ∷ 97 ∷ 118 ∷ 101 ∷ []

abbrev pub stands_text : List ℕ
stands_text = 115 ∷ 116 ∷ 97 ∷ 110 ∷ 100 ∷ 115 ∷ []

abbrev pub vouched_text : List ℕ
vouched_text = 118 ∷ 111 ∷ 117 ∷ 99 ∷ 104 ∷ 101 ∷ 100 ∷ []

abbrev pub parents_text : List ℕ
parents_text = 112 ∷ 97 ∷ 114 ∷ 101 ∷ 110 ∷ 116 ∷ 115 ∷ []

abbrev pub blocks_text : List ℕ
blocks_text = 98 ∷ 108 ∷ 111 ∷ 99 ∷ 107 ∷ 115 ∷ []

abbrev pub marks_text : List ℕ
marks_text = 109 ∷ 97 ∷ 114 ∷ 107 ∷ 115 ∷ []

abbrev pub head_text : List ℕ
head_text = 104 ∷ 101 ∷ 97 ∷ 100 ∷ []

abbrev pub certificates_text : List ℕ
certificates_text = 99 ∷ 101 ∷ 114 ∷ 116 ∷ 105 ∷ 102 ∷ 105 ∷ 99 ∷ 97 ∷ 116 ∷ 101 ∷ 115 ∷ []

abbrev pub weights_text : List ℕ
weights_text = 119 ∷ 101 ∷ 105 ∷ 103 ∷ 104 ∷ 116 ∷ 115 ∷ []

abbrev pub board_text : List ℕ
board_text = 98 ∷ 111 ∷ 97 ∷ 114 ∷ 100 ∷ []

abbrev pub votes_text : List ℕ
votes_text = 118 ∷ 111 ∷ 116 ∷ 101 ∷ 115 ∷ []

abbrev pub why_text : List ℕ
why_text = 119 ∷ 104 ∷ 121 ∷ []

abbrev pub help_text : List ℕ
help_text = 104 ∷ 101 ∷ 108 ∷ 112 ∷ []

abbrev pub quit_text : List ℕ
quit_text = 113 ∷ 117 ∷ 105 ∷ 116 ∷ []

-- The command that a word is, asked for in seven lists: "board", "votes", "why", "help" and "quit" are for people,
unfoldable pub view_of : List ℕ → Command
view_of w =
    choose (same_text w board_text) command.Board (choose (same_text w votes_text) command.Votes (choose (same_text w why_text) command.Why (choose (same_text w help_text) command.Help (choose (same_text w quit_text) command.Quit (command.Other)))))

-- "stands" and "vouched" are for the inquest,
unfoldable pub inquest_of : List ℕ → Command
inquest_of w = choose (same_text w stands_text) command.Stands (choose (same_text w vouched_text) command.Vouched (view_of w))

-- "aside", "differ" and "save" are for comparing nodes,
unfoldable pub compared_of : List ℕ → Command
compared_of w =
    choose (same_text w aside_text) command.Aside (choose (same_text w differ_text) command.Differ (choose (same_text w save_text) command.Save (inquest_of w)))

-- "piece" and "end" are for proofs in pieces,
unfoldable pub pieces_of : List ℕ → Command
pieces_of w = choose (same_text w piece_text) command.Piece (choose (same_text w end_text) command.End (compared_of w))

-- "pack" and "unpack" are for vote messages,
unfoldable pub message_of : List ℕ → Command
message_of w = choose (same_text w pack_text) command.Pack (choose (same_text w unpack_text) command.Unpack (pieces_of w))

-- "cert", "proof", "check", "checkproof" and "card" ask something,
unfoldable pub question_of : List ℕ → Command
question_of w =
    choose (same_text w cert_text) command.Cert (choose (same_text w proof_text) command.Proof (choose (same_text w check_text) command.Check (choose (same_text w check_proof_text) command.CheckProof (choose (same_text w card_text) command.Card (message_of w)))))

-- and "start", "watch", "vote", "block", "timeout", "look", "tray" and "take" tell the node something.
unfoldable pub input_of : List ℕ → Command
input_of w =
    choose (same_text w start_text) command.Start (choose (same_text w watch_text) command.Watch (choose (same_text w vote_text) command.Vote (choose (same_text w block_text) command.Block (choose (same_text w timeout_text) command.Timeout (choose (same_text w look_text) command.Look (choose (same_text w tray_text) command.Tray (choose (same_text w take_text) command.Take (question_of w))))))))

-- Words that are all numbers, so many that a test passes.
abbrev pub told : Result ℕ NoNumber → (ℕ → Bool) → Bool
told (Ok n) p = p n
told (Err e) p = false

-- From a place on, a line holds numbers and nothing else: so many, or so many at least.
unfoldable pub exactly : List ℕ → ℕ → ℕ → Bool
exactly line at many = told (numbers_of line at []).answer (λ n. eqb n many)

unfoldable pub at_least : List ℕ → ℕ → ℕ → Bool
at_least line at many = told (numbers_of line at []).answer (λ n. leb many n)

-- The next word of a line.
abbrev pub word_of : List ℕ → ℕ → List ℕ
word_of line at = take (word_to line at - word_from line at) (drop (word_from line at) line)

-- One word, and nothing more.
unfoldable pub one_word : List ℕ → ℕ → Bool
one_word line at = ltb (word_from line at) (word_to line at) && exactly line (word_to line at) 0

-- A packet in hex, of at most 32,768 bytes, which no line exceeds, and then numbers.
unfoldable pub packet_and_stakes : List ℕ → ℕ → Bool
packet_and_stakes line at =
    ltb (word_from line at) (word_to line at) && (is_some (hex_of (word_of line at) 32768) && at_least line (word_to line at) 0)

-- A packet in hex, and nothing more.
unfoldable pub packet_alone : List ℕ → ℕ → Bool
packet_alone line at = packet_and_stakes line at && exactly line (word_to line at) 0

-- A count, then a message in hex as a packet is, and nothing more.
unfoldable pub count_and_message : List ℕ → ℕ → Bool
count_and_message line at = exactly (take (word_to line at) line) at 1 && packet_alone line (word_to line at)

-- What follows the command's word, from a place on, is what the command asks for.
unfoldable pub arguments_fit : Command → List ℕ → ℕ → Bool
arguments_fit command.Start line at = at_least line at 2
arguments_fit command.Watch line at = at_least line at 1
arguments_fit command.Vote line at = exactly line at 4
arguments_fit command.Block line at = exactly line at 4
arguments_fit command.Timeout line at = exactly line at 1
arguments_fit command.Look line at = exactly line at 0
arguments_fit command.Tray line at = at_least line at 0
arguments_fit command.Take line at = packet_alone line at
arguments_fit command.Cert line at = exactly line at 3
arguments_fit command.Proof line at = exactly line at 2
arguments_fit command.Check line at = packet_and_stakes line at
arguments_fit command.CheckProof line at = packet_and_stakes line at
arguments_fit command.Card line at = exactly line at 1
arguments_fit command.Pack line at = exactly line at 5
arguments_fit command.Unpack line at = count_and_message line at
arguments_fit command.Piece line at = packet_and_stakes line at
arguments_fit command.End line at = exactly line at 0
arguments_fit command.Aside line at = exactly line at 0
arguments_fit command.Differ line at = exactly line at 0
arguments_fit command.Save line at = one_word line at
arguments_fit command.Board line at = exactly line at 0 || (exactly line at 1 || exactly line at 2)
arguments_fit command.Votes line at = exactly line at 0 || exactly line at 2
arguments_fit command.Why line at = exactly line at 1
arguments_fit command.Help line at = exactly line at 0
arguments_fit command.Quit line at = exactly line at 0
arguments_fit command.Stands line at = exactly line at 0
arguments_fit command.Vouched line at = exactly line at 0 || packet_alone line at
arguments_fit command.Other line at = false

-- The command that a line is, `Other` where it is none.
unfoldable pub command_of : List ℕ → Command
command_of line = let c = input_of (word_of line 0) in choose (arguments_fit c line (word_to line 0)) c command.Other

-- The commands that can change a node.
unfoldable pub tells : Command → Bool
tells command.Start = true
tells command.Watch = true
tells command.Vote = true
tells command.Block = true
tells command.Timeout = true
tells command.Look = true
tells command.Tray = true
tells command.Take = true
tells command.Cert = false
tells command.Proof = false
tells command.Check = false
tells command.CheckProof = false
tells command.Card = false
tells command.Pack = false
tells command.Unpack = false
tells command.Piece = false
tells command.End = false
tells command.Aside = false
tells command.Differ = false
tells command.Save = false
tells command.Board = false
tells command.Votes = false
tells command.Why = false
tells command.Help = false
tells command.Quit = false
tells command.Stands = false
tells command.Vouched = false
tells command.Other = false

-- What a line reads that is none of the commands: "blocks", "marks", "head", "certificates" and "weights" what a host reads, "parents" two nodes'
-- records, "help" with a word behind it what that command takes and answers.
unfoldable pub reading_of : List ℕ → Reading
reading_of w =
    choose (same_text w blocks_text) reading.Blocks (choose (same_text w marks_text) reading.Marks (choose (same_text w head_text) reading.Head (choose (same_text w certificates_text) reading.Certificates (choose (same_text w weights_text) reading.Weights (choose (same_text w parents_text) reading.Parents (choose (same_text w help_text) reading.Topic (reading.Nothing)))))))

-- What follows the word is what is asked for.
unfoldable pub reading_fits : Reading → List ℕ → ℕ → Bool
reading_fits reading.Blocks line at = exactly line at 1
reading_fits reading.Marks line at = exactly line at 1
reading_fits reading.Head line at = exactly line at 0
reading_fits reading.Certificates line at = exactly line at 1
reading_fits reading.Weights line at = exactly line at 2
reading_fits reading.Parents line at = exactly line at 0
reading_fits reading.Topic line at = one_word line at
reading_fits reading.Nothing line at = false

-- What a line reads, `Nothing` where it reads nothing.
unfoldable pub reading_on : List ℕ → Reading
reading_on line = let r = reading_of (word_of line 0) in choose (reading_fits r line (word_to line 0)) r reading.Nothing

-- A line that tells the node nothing, a line that is no command among them, leaves record and outbox as they were.
pub record Heard (line rec outbox recLeft outboxLeft : List ℕ) : Type 0 where
  pub words : tells (command_of line) ≡ false → recLeft ≡ rec
  pub records : tells (command_of line) ≡ false → outboxLeft ≡ outbox
