-- The plain ledger with every definition open, for what is shown by computing: the text program, reads, groups, the sound bench. Assumes nothing.
use Rattle.std.specs.Prelude.{ℕ, zero, suc, List, [], ◌∷◌, Option}
use Prim.Native.String.{String}
use Rattle.kinds.specs.declared.Obstacle.{Obstacle}
use Rattle.ledger_spec.specs.Bench.{Bench}
use Rattle.ledger_spec.specs.Look.{gap, free_slot, node_named, if_serial, climb, tree}
use Rattle.ledger_spec.specs.Change.{put, push, place, mark, mark_all, faster}
use Rattle.ledger_spec.specs.Tests.{first, any, below, twice, both}
use Rattle.ledger_spec.specs.Refuse.{unit_tests, defect_tests, blossom_tests, expand_tests, state_tests, grow_tests, fuse_tests, mark_tests}
use Rattle.ledger_spec.specs.Deeds.{add_defect, add_blossom, remove_blossom, grow_by, join, wipe, choose, circle, sizes, grow_slot, across}
use Rattle.ledger_spec.specs.Calls.{settle, set_up_call, defect_call, blossom_call, expand_call, state_call, grow_call, fuse_call, clear_call, mark_call, perform}
use Rattle.ledger_spec.specs.Notices.{tells}
use Rattle.ledger_spec.specs.Reads.{said, slots_from, gather, sum_of, speed_of, count_of, fills_of, floored_of, index_tests, handle_at_index, node_tests, value_of, belongs}
use Rattle.ledger_spec.specs.Walk.{outer_from, links_from, below_from, each, vertices_from, outer_of, below_tests, below_of, first_vertex, size_tests, vertices_into}
use Rattle.ledger_spec.specs.Check.{index_in, member_verdict, circle_verdict, finding, total_of, verdict, arrives, is_under, strict_member, strict_circle, strict_finding, strict_verdict, check_of, strict_of}
use Rattle.ledger_spec.specs.SoundTree.{all, tally, links_up, links_down, sound_interface, reach}
use Rattle.ledger_spec.specs.Sound.{sound, sound_class, sound_parent, sound_slot, rates, sound_top, serials, different, sound_floor, sound_plain}
use Rattle.ledger_spec.specs.Answers.{told, whole, broken, answer, ask}
use Rattle.ledger_spec.specs.Groups.{Group, all_listable, rising_from, sound_group, room_for, front_of, back_of, meet, placed, add_stop, add_to_growth, add_to_conflicts, added, smaller_pair, add_stops, extended, last_of, all_but_last}
use Rattle.ledger_spec.specs.GroupCalls.{group_tests, take_tests, is_empty, is_active, growth_of, peek, pop, handles_of, list_handles, stop_handles, add, extend}
use Rattle.ledger_spec.specs.Decimals.{digits, decimal, signed, after_digits, natural, between, integer}
use Rattle.ledger_spec.specs.Fields.{upto, parts_after}
use Rattle.ledger_spec.specs.Grammar.{step, all_serials, rest, line_of}
use Rattle.ledger_spec.specs.Lines.{seek, named, shown, calls, checks, says}
use Rattle.ledger_spec.specs.Opening.{chosen, opening}
use Rattle.ledger_spec.specs.Program.{ended, lines_of, answers, after_lines, text_of, texts, open_answers, open_after, program, program_leaves}
use Rattle.ledger_spec.specs.Book.{wrote, writes, turn, turns}
use Rattle.ledger_spec.specs.Bytes.{bytes}

-- the bytes that lines answer, from a bench
unfoldable pub run : Bench → String → List ℕ
unfolding gap free_slot node_named if_serial climb tree put push place mark mark_all faster first any below twice both unit_tests defect_tests blossom_tests expand_tests state_tests grow_tests fuse_tests mark_tests add_defect add_blossom remove_blossom grow_by join wipe choose circle sizes grow_slot across settle set_up_call defect_call blossom_call expand_call state_call grow_call fuse_call clear_call mark_call perform tells said slots_from gather sum_of speed_of count_of fills_of floored_of index_tests handle_at_index node_tests value_of belongs outer_from links_from below_from each vertices_from outer_of below_tests below_of first_vertex size_tests vertices_into index_in member_verdict circle_verdict finding total_of verdict arrives is_under strict_member strict_circle strict_finding strict_verdict check_of strict_of all tally links_up links_down sound_interface reach sound sound_class sound_parent sound_slot rates sound_top serials different sound_floor sound_plain told whole broken answer ask all_listable rising_from sound_group room_for front_of back_of meet placed add_stop add_to_growth add_to_conflicts added smaller_pair add_stops extended last_of all_but_last group_tests take_tests is_empty is_active growth_of peek pop handles_of list_handles stop_handles add extend digits decimal signed after_digits natural between integer upto parts_after step all_serials rest line_of seek named shown calls checks says chosen opening ended lines_of answers after_lines text_of texts open_answers open_after program program_leaves wrote writes turn turns bytes
run b s = texts (answers b (lines_of (bytes s)))

-- the bench after lines
unfoldable pub ran : Bench → String → Bench
unfolding run
ran b s = after_lines b (lines_of (bytes s))

-- what so many pops of a group answer
unfoldable pub pops : ℕ → Group → List (ℕ × Option Obstacle)
unfolding run
pops zero g = []
pops (suc n) g = ((pop g).0, (pop g).1.0) ∷ pops n (pop g).1.1
