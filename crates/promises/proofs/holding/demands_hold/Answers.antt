-- Each by the proof of its name.
use Rattle.promises.proofs.Demands.{answers_always, stops_within_budget, refuses_exactly, refusals_change_nothing, stays_within_memory, asked_parts_lie_inside, runs_as_defined, made_exactly, fourteen_exactly, checks_exactly, passed_recipes_end_well, few_at_once}
use Rattle.promises.proofs.Boxes.{boxes_answer_always, box_stops_within_budget, box_refuses_exactly, box_refusals_change_nothing, box_passed_runs_end_well, box_asks_well, box_asks_after_runs}
use Rattle.promises.proofs.Impostors.{passing_everything_falls}
use Rattle.promises.proofs.Waiting.Runs.{few_unfinished, most_is_reached}
use Rattle.promises.proofs.Waiting.Needs.{live_is_exact}
use Rattle.promises.proofs.Passing.{checked_runs_end_well}
use Rattle.promises.proofs.Looping.{next_has_room}
use Rattle.promises.proofs.Sentences.{letters_are_folded, printed_items_are_let_go, assignment_hands_over}
use Rattle.promises.proofs.OutOfSteps.{out_of_steps, out_of_steps_exactly}
use Rattle.promises.proofs.Refusals.Loading.{loads_by_table}
use Rattle.promises.proofs.Refusals.Calls.{calls_refuse_by_table}
use Rattle.promises.proofs.Refusals.Places.{lines_lie_in_text}
use Rattle.promises.proofs.Counting.Runs.{few_requested, most_is_requested, highest_is_counted}
use Rattle.promises.proofs.Questions.Asking.{asked_over_variables, answers_after_runs, asks_after_runs}
use Rattle.promises.proofs.Seven.{seven_exactly, lacked_records_end, records_within_lent}
use Rattle.promises.proofs.Pairs.{partners_are_numbered, no_two_have_one}
use Rattle.promises.proofs.holding.demands_hold.Goals as goal

pub returns : goal.returns
returns c =
    record {
      answers_always = answers_always;
      stops_within_budget = stops_within_budget;
      refuses_exactly = refuses_exactly;
      refusals_change_nothing = refusals_change_nothing;
      stays_within_memory = stays_within_memory;
      asked_parts_lie_inside = asked_parts_lie_inside;
      runs_as_defined = runs_as_defined;
      made_exactly = made_exactly;
      fourteen_exactly = fourteen_exactly;
      checks_exactly = checks_exactly;
      passed_recipes_end_well = passed_recipes_end_well;
      few_at_once = few_at_once;
      boxes_answer_always = boxes_answer_always;
      box_stops_within_budget = box_stops_within_budget;
      box_refuses_exactly = box_refuses_exactly;
      box_refusals_change_nothing = box_refusals_change_nothing;
      box_passed_runs_end_well = box_passed_runs_end_well;
      box_asks_well = box_asks_well;
      box_asks_after_runs = box_asks_after_runs;
      passing_everything_falls = passing_everything_falls;
      few_unfinished = few_unfinished;
      most_is_reached = most_is_reached;
      live_is_exact = live_is_exact;
      checked_runs_end_well = checked_runs_end_well;
      next_has_room = next_has_room;
      letters_are_folded = letters_are_folded;
      printed_items_are_let_go = printed_items_are_let_go;
      assignment_hands_over = assignment_hands_over;
      out_of_steps = out_of_steps;
      out_of_steps_exactly = out_of_steps_exactly;
      loads_by_table = loads_by_table;
      calls_refuse_by_table = calls_refuse_by_table;
      lines_lie_in_text = lines_lie_in_text;
      few_requested = few_requested;
      most_is_requested = most_is_requested;
      highest_is_counted = highest_is_counted;
      asked_over_variables = asked_over_variables;
      answers_after_runs = answers_after_runs;
      asks_after_runs = asks_after_runs;
      seven_exactly = seven_exactly;
      lacked_records_end = lacked_records_end;
      records_within_lent = records_within_lent;
      partners_are_numbered = partners_are_numbered;
      no_two_have_one = no_two_have_one;
    }
