-- Each arm is of words that lead the same statement, and the last is the others.
use Rattle.std.specs.Prelude.{Some}
use mathlib.Core.Path.{◌∙◌, ap}
use Rattle.statements.specs.bridge.Answers.{begun_answer}
use Rattle.statements.proofs.Others.{word_jumps, word_alone, no_word}
use Rattle.statements.proofs.reading.by_word.Goals as goal

pub returns-in-Let : goal.returns-in-Let
returns-in-Let c = rw c.in-Let.is c.assignment_to.ensures

pub returns-in-Print : goal.returns-in-Print
returns-in-Print c = rw c.in-Print.is c.print.ensures

pub returns-in-If : goal.returns-in-If
returns-in-If c = rw c.in-If.is c.condition.ensures

pub returns-in-Goto : goal.returns-in-Goto
returns-in-Goto c = c.jump.ensures ∙ word_jumps c.args.line.now c.args.word c.args.from c.in-Goto.in-Goto-own.keys4

pub returns-in-For : goal.returns-in-For
returns-in-For c = rw c.in-For.is c.loop_head.ensures

pub returns-in-Next : goal.returns-in-Next
returns-in-Next c = rw c.in-Next.is c.loop_end.ensures

pub returns-in-While : goal.returns-in-While
returns-in-While c = rw c.in-While.is c.repeat_head.ensures

pub returns-in-Line : goal.returns-in-Line
returns-in-Line c = rw c.in-Line.is c.line_input.ensures

pub returns-in-Data : goal.returns-in-Data
returns-in-Data c = rw c.in-Data.is c.data.ensures

pub returns-in-Read : goal.returns-in-Read
returns-in-Read c = rw c.in-Read.is c.read.ensures

pub returns-in-Restore : goal.returns-in-Restore
returns-in-Restore c = rw c.in-Restore.is c.restore.ensures

pub returns-in-Else : goal.returns-in-Else
returns-in-Else c = ap Some c.plain.ensures ∙ word_alone c.args.line.now c.args.word c.args.from c.in-Else.in-Else-own.keys12

pub returns-in_default : goal.returns-in_default
returns-in_default c = ap begun_answer (no_word c.args.line.now c.args.word c.args.from c.in_default.in_default-own.keys13)
