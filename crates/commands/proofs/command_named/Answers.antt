-- The longer words, letter by letter.
use mathlib.Core.Path.{refl}
use native.Mathlib.Omega.{arith}
use Rattle.std.proofs.lemmas.Slice.Eq.{text_from_reads}
use Rattle.rulebook.specs.Tools.{choose}
use Rattle.commands.specs.Commands.{input_of, question_of, message_of, pieces_of, compared_of, inquest_of, view_of, aside_text, block_text, board_text, check_text, check_proof_text, differ_text, piece_text, proof_text, stands_text, start_text, timeout_text, unpack_text, votes_text, vouched_text, watch_text}
use Rattle.commands.proofs.command_named.Goals as goal

pub returns-in-start : goal.returns-in-start
unfolding input_of question_of message_of pieces_of compared_of inquest_of view_of choose
returns-in-start c = rw (text_from_reads c.args.word.now start_text (omega arith) (omega arith, (omega arith, (omega arith, (omega arith, (omega arith, tt)))))) refl

pub returns-in-watch : goal.returns-in-watch
unfolding input_of question_of message_of pieces_of compared_of inquest_of view_of choose
returns-in-watch c = rw (text_from_reads c.args.word.now watch_text (omega arith) (omega arith, (omega arith, (omega arith, (omega arith, (omega arith, tt)))))) refl

pub returns-in-block : goal.returns-in-block
unfolding input_of question_of message_of pieces_of compared_of inquest_of view_of choose
returns-in-block c = rw (text_from_reads c.args.word.now block_text (omega arith) (omega arith, (omega arith, (omega arith, (omega arith, (omega arith, tt)))))) refl

pub returns-in-timeout : goal.returns-in-timeout
unfolding input_of question_of message_of pieces_of compared_of inquest_of view_of choose
returns-in-timeout c = rw (text_from_reads c.args.word.now timeout_text (omega arith) (omega arith, (omega arith, (omega arith, (omega arith, (omega arith, (omega arith, (omega arith, tt)))))))) refl

pub returns-in-proof : goal.returns-in-proof
unfolding input_of question_of message_of pieces_of compared_of inquest_of view_of choose
returns-in-proof c = rw (text_from_reads c.args.word.now proof_text (omega arith) (omega arith, (omega arith, (omega arith, (omega arith, (omega arith, tt)))))) refl

pub returns-in-check : goal.returns-in-check
unfolding input_of question_of message_of pieces_of compared_of inquest_of view_of choose
returns-in-check c = rw (text_from_reads c.args.word.now check_text (omega arith) (omega arith, (omega arith, (omega arith, (omega arith, (omega arith, tt)))))) refl

pub returns-in-checkproof : goal.returns-in-checkproof
unfolding input_of question_of message_of pieces_of compared_of inquest_of view_of choose
returns-in-checkproof c = rw (text_from_reads c.args.word.now check_proof_text (omega arith) (omega arith, (omega arith, (omega arith, (omega arith, (omega arith, (omega arith, (omega arith, (omega arith, (omega arith, (omega arith, tt))))))))))) refl

pub returns-in-unpack : goal.returns-in-unpack
unfolding input_of question_of message_of pieces_of compared_of inquest_of view_of choose
returns-in-unpack c = rw (text_from_reads c.args.word.now unpack_text (omega arith) (omega arith, (omega arith, (omega arith, (omega arith, (omega arith, (omega arith, tt))))))) refl

pub returns-in-piece : goal.returns-in-piece
unfolding input_of question_of message_of pieces_of compared_of inquest_of view_of choose
returns-in-piece c = rw (text_from_reads c.args.word.now piece_text (omega arith) (omega arith, (omega arith, (omega arith, (omega arith, (omega arith, tt)))))) refl

pub returns-in-aside : goal.returns-in-aside
unfolding input_of question_of message_of pieces_of compared_of inquest_of view_of choose
returns-in-aside c = rw (text_from_reads c.args.word.now aside_text (omega arith) (omega arith, (omega arith, (omega arith, (omega arith, (omega arith, tt)))))) refl

pub returns-in-differ : goal.returns-in-differ
unfolding input_of question_of message_of pieces_of compared_of inquest_of view_of choose
returns-in-differ c = rw (text_from_reads c.args.word.now differ_text (omega arith) (omega arith, (omega arith, (omega arith, (omega arith, (omega arith, (omega arith, tt))))))) refl

pub returns-in-stands : goal.returns-in-stands
unfolding input_of question_of message_of pieces_of compared_of inquest_of view_of choose
returns-in-stands c = rw (text_from_reads c.args.word.now stands_text (omega arith) (omega arith, (omega arith, (omega arith, (omega arith, (omega arith, (omega arith, tt))))))) refl

pub returns-in-vouched : goal.returns-in-vouched
unfolding input_of question_of message_of pieces_of compared_of inquest_of view_of choose
returns-in-vouched c = rw (text_from_reads c.args.word.now vouched_text (omega arith) (omega arith, (omega arith, (omega arith, (omega arith, (omega arith, (omega arith, (omega arith, tt)))))))) refl

pub returns-in-board : goal.returns-in-board
unfolding input_of question_of message_of pieces_of compared_of inquest_of view_of choose
returns-in-board c = rw (text_from_reads c.args.word.now board_text (omega arith) (omega arith, (omega arith, (omega arith, (omega arith, (omega arith, tt)))))) refl

pub returns-in-votes : goal.returns-in-votes
unfolding input_of question_of message_of pieces_of compared_of inquest_of view_of choose
returns-in-votes c = rw (text_from_reads c.args.word.now votes_text (omega arith) (omega arith, (omega arith, (omega arith, (omega arith, (omega arith, tt)))))) refl
