-- The bytes held lie in the buffer, and what loading them answers decides from where on it is cleared.
use mathlib.Core.Path.{sym, ap, ◌∙◌}
use Rattle.space.specs.Moves.{cleared}
use Rattle.serial.specs.Receiving.{ended}
use Rattle.serial.proofs.Steps.{loaded_long, loaded_cleared}
use Rattle.serial.proofs.receiving.load_held.Goals as goal

pub returns-then-count-gt-LONGEST_TEXT : goal.returns-then-count-gt-LONGEST_TEXT
returns-then-count-gt-LONGEST_TEXT c = c.refuse_long.ensures ∙ sym (loaded_long _ _ c.if-count-gt-LONGEST_TEXT.true)

-- in it, k is where the buffer is cleared, l where it is loaded, i behind the test of its length, and s the start
pub returns : goal.returns
returns c = ap (ended c.load-answer.result) (c.clear_from.ensures ∙ ap (cleared c.args.buffer.now) c.zeros_from.ensures)
    ∙ sym (loaded_cleared _ _ c.if-count-gt-LONGEST_TEXT.false c.requires _ (sym c.load-answer.ensures))
