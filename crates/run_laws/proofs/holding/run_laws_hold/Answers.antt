-- Each by the proof of its name.
use Rattle.run_laws.proofs.Runs.{parts_join_again_in_runs, brackets_do_not_matter_in_runs, not_of_and_in_runs, division_comes_back_in_runs}
use Rattle.run_laws.proofs.holding.run_laws_hold.Goals as goal

pub returns : goal.returns
returns c =
    record {
      parts_join_again_in_runs = parts_join_again_in_runs;
      brackets_do_not_matter_in_runs = brackets_do_not_matter_in_runs;
      not_of_and_in_runs = not_of_and_in_runs;
      division_comes_back_in_runs = division_comes_back_in_runs;
    }
