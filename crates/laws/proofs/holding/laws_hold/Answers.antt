-- Each by the proof of its name.
use Rattle.laws.proofs.Texts.{parts_join_again, brackets_do_not_matter}
use Rattle.laws.proofs.Wholes.{not_of_and, division_comes_back}
use Rattle.laws.proofs.holding.laws_hold.Goals as goal

pub returns : goal.returns
returns c =
    record {
      parts_join_again = parts_join_again;
      brackets_do_not_matter = brackets_do_not_matter;
      not_of_and = not_of_and;
      division_comes_back = division_comes_back;
    }
