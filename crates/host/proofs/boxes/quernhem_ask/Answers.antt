-- The answer over the tables that the block means, by its numbers.
use mathlib.Core.Path.{ap, ◌∙◌}
use lib.ListN.{length}
use Rattle.asking.specs.Asking.{ask_of}
use Rattle.host.specs.Answers.{found_in}
use Rattle.host.proofs.boxes.quernhem_ask.Goals as goal

pub returns : goal.returns
returns c = c.found_of.ensures
    ∙ ap found_in (c.ask.ensures ∙ ap (λ t. ask_of t (length c.args.space.now) c.args.name.now) c.tables_in.ensures)
