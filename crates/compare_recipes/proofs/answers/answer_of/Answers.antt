-- Each answer tells its records or its line (`tells_records`, `tells_refused`).
use Rattle.std.proofs.Common.{sym, ap, ◌∙◌}
use Rattle.std.specs.Prelude.{Err}
use Rattle.whole.specs.Bytes.{bytes}
use Rattle.compare_recipes.specs.Answers.{told_of}
use Rattle.compare_recipes.proofs.Telling.{tells_records, tells_refused}
use Rattle.compare_recipes.proofs.answers.answer_of.Goals as goal

pub returns-in-Ok : goal.returns-in-Ok
returns-in-Ok c =
    tells_records _ _ _ c.compare.ensures.value c.in-Ok.is c.empty.ensures c.compare.ensures.out_after

pub returns-in-Err-Old : goal.returns-in-Err-Old
unfolding bytes
returns-in-Err-Old c =
    tells_refused c.args.old.now c.args.new.now c.args.out.now c.compare.ensures.value _ c.only.ensures.0 c.only.ensures.1 c.refused.ensures
    (sym (ap (told_of c.args.old.now c.args.new.now) (c.in-Err-Old.is ∙ ap Err c.in-Err-Old.field-0-is)))

pub returns-in-Err-New : goal.returns-in-Err-New
unfolding bytes
returns-in-Err-New c =
    tells_refused c.args.old.now c.args.new.now c.args.out.now c.compare.ensures.value _ c.only-in-Err-New.ensures.0 c.only-in-Err-New.ensures.1 c.refused-in-Err-New.ensures
    (sym (ap (told_of c.args.old.now c.args.new.now) (c.in-Err-New.is ∙ ap Err c.in-Err-New.field-0-is)))

pub returns-in-Err-Room : goal.returns-in-Err-Room
unfolding bytes
returns-in-Err-Room c =
    tells_refused c.args.old.now c.args.new.now c.args.out.now c.compare.ensures.value _ c.only-in-Err-Room.ensures.0 c.only-in-Err-Room.ensures.1 c.refused-in-Err-Room.ensures
    (sym (ap (told_of c.args.old.now c.args.new.now) (c.in-Err-Room.is ∙ ap Err c.in-Err-Room.field-0-is)))
