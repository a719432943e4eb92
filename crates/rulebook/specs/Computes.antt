-- Named on an `unfolding` line, `rules` opens every definition that a computed check runs through.
use Rattle.rulebook.specs.Tools.{choose, whenever, part, sum_to, all_to, some_to, any_of, lower, lowest, largest}
use Rattle.rulebook.specs.Weights.{slot_ok, is_first, window_of, first_of, weight, total_to, reaches, missing, stakes_fit, places_for, is_large, family}
use Rattle.rulebook.specs.PaperNumbers.{vote_number, vote_kind, certificate_number, certificate_kind, kind_in, number_in, refusal_number, refusal_of, refusal_missing, verdict_number, place_number, reading_panel, found_panel, start_panel, step_panel, write_panel, read_panel, check_number, check_values, check_missing}
use Rattle.rulebook.specs.Ledger.{is_watcher, blank_row, no_row, some_block, all_blocks, fill_block, is_block, keeps_block, fresh}
use Rattle.rulebook.specs.Pool.{has_fallback, counts, weigh, weighs, signers_of, fifths_of, reached, place_kind, same_kind, serves_as, some_kept, is_for, kept_as, held, missing_to, named, names_to, names, kept_names, certifiable, parent_held, skipped_between, ready, parent_names, some_ready}
use Rattle.rulebook.specs.Cards.{most, is_most, leader, recount, leads, tallied, adds, change_of, same_card}
use Rattle.rulebook.specs.Votes.{place_if, place_of, fill_fallback, with_vote, store_vote}
use Rattle.rulebook.specs.Rules.{cast, cast_skip, cast_skips, window_open, rule_a, parent_fits, rule_b, may_final, rule_c, fallback_weights, may_fallback, parent_backed, is_backed, is_grounded, falls_back, fallback_block, cast_fallback, rule_d, skip_weights, may_skip_fallback, cast_skip_fallback, rule_e, is_final, is_newcomer, tell_clash, tell_final, rule_f, find_block, walk_to, walk_step, walk_for, rule_g}
use Rattle.rulebook.specs.Run.{voting, rule_at, quiet, first_rule, first_slot, scan, run_for, run}
use Rattle.rulebook.specs.Inputs.{watch_verdict, refuse_if, start_verdict, is_other, misfits, place_verdict, vote_verdict, bad_parent, same_block, stands_against, block_verdict, keep_block, timeout_verdict, verdict, time_out, intake, fed_with, refused_with, fed_on, feed}
use Rattle.rulebook.specs.Packets.{last_fits, above, last_group, number_from, placed, number_at, groups_of, number_bytes, above_word, word_then, mask_at, mask_bytes, joined, words_in, and_then, certificate_at, certificate_bytes, bit, mask_of, count_of}
use Rattle.rulebook.specs.Checker.{is_other_kind, block_misfits, without_b, bad_signers, signed, signed_weight, lacking, judge_weight, judge_kind, judge, accepted_of, judged, one_of, one_at, ended, single_of, check_certificate, second_of, first_in, proof_of, check_proof}
use Rattle.rulebook.specs.Taking.{has_room, fill_kept, is_repeat, kept_verdict, keep_certificate, taken_on, taken, taken_from, take_packet, served}
use Rattle.rulebook.specs.Writers.{in_a, in_b, voted_for, find_kept, kept_for, masked_by, certificate_for, certificate_room, proof_room, wrote_on, certificate_verdict, write_certificate, proof_verdict, proof_bytes, write_proof, over}
use Rattle.rulebook.specs.Messages.{vote_of, vote_tests, as_read, read_on, read_to, read_vote, message_bytes, message_verdict, write_vote}
use Rattle.rulebook.specs.WellFormed.{in_order, cell_fits, cell_blank, cells_fit, kept_fits, blocks_apart, blocks_fit, backs, own_fits, is_fine, each_kept, certificate_fits, in_turn, certificates_apart, certificates_fit, row_fits, card_fits, block_blank, kept_blank, row_blank, head_fits, well_formed, step, take_certificate}

unfoldable pub rules : Unit {0}
unfolding is_watcher voting watch_verdict choose whenever part sum_to all_to some_to any_of lower lowest largest slot_ok is_first window_of first_of weight total_to reaches missing stakes_fit places_for is_large family vote_number vote_kind certificate_number certificate_kind kind_in number_in refusal_number refusal_of refusal_missing verdict_number place_number reading_panel found_panel start_panel step_panel write_panel read_panel check_number check_values check_missing blank_row no_row some_block all_blocks fill_block is_block keeps_block fresh has_fallback counts weigh weighs signers_of fifths_of reached place_kind same_kind serves_as some_kept is_for kept_as held missing_to named names_to names kept_names certifiable parent_held skipped_between ready parent_names some_ready most is_most leader recount leads tallied adds change_of same_card place_if place_of fill_fallback with_vote store_vote cast cast_skip cast_skips window_open rule_a parent_fits rule_b may_final rule_c fallback_weights may_fallback parent_backed is_backed is_grounded falls_back fallback_block cast_fallback rule_d skip_weights may_skip_fallback cast_skip_fallback rule_e is_final is_newcomer tell_clash tell_final rule_f find_block walk_to walk_step walk_for rule_g rule_at quiet first_rule first_slot scan run_for run refuse_if start_verdict is_other misfits place_verdict vote_verdict bad_parent same_block stands_against block_verdict keep_block timeout_verdict verdict time_out intake fed_with refused_with fed_on feed last_fits above last_group number_from placed number_at groups_of number_bytes above_word word_then mask_at mask_bytes joined words_in and_then certificate_at certificate_bytes bit mask_of count_of is_other_kind block_misfits without_b bad_signers signed signed_weight lacking judge_weight judge_kind judge accepted_of judged one_of one_at ended single_of check_certificate second_of first_in proof_of check_proof has_room fill_kept is_repeat kept_verdict keep_certificate taken_on taken taken_from take_packet served in_a in_b voted_for find_kept kept_for masked_by certificate_for certificate_room proof_room wrote_on certificate_verdict write_certificate proof_verdict proof_bytes write_proof over vote_of vote_tests as_read read_on read_to read_vote message_bytes message_verdict write_vote in_order cell_fits cell_blank cells_fit kept_fits blocks_apart blocks_fit backs own_fits is_fine each_kept certificate_fits in_turn certificates_apart certificates_fit row_fits card_fits block_blank kept_blank row_blank head_fits well_formed step take_certificate
rules = tt
