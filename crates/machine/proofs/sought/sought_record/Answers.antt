use borrow.Enum.Refused.{opened as unsealed}
use mathlib.Core.Path.{refl}
use Rattle.machine.proofs.Seeking.{for_seeks, next_seeks, while_seeks, wend_seeks, word_seeks}
use Rattle.machine.proofs.sought.sought_record.Goals as goal

pub returns-in-None : goal.returns-in-None
returns-in-None c = rw c.in-None.is tt

pub returns-in-Return : goal.returns-in-Return
returns-in-Return c = rw (c.in-Some.is, c.in-Return.is) refl

pub returns-in-For : goal.returns-in-For
returns-in-For c = rw (c.in-Some.is, c.in-For.is, c.sought_loop.ensures) (for_seeks c.args.numbers.now.names c.args.numbers.now.count c.args.here c.args.at c.args.line.now c.in-Some.lead.ahead)

pub returns-in-Next : goal.returns-in-Next
returns-in-Next c = rw (c.in-Some.is, c.in-Next.is, c.sought_loop-in-Next.ensures) (next_seeks c.args.numbers.now.names c.args.numbers.now.count c.args.here c.args.at c.args.line.now c.in-Some.lead.ahead)

pub returns-in-While : goal.returns-in-While
returns-in-While c = rw (c.in-Some.is, c.in-While.is) (while_seeks c.args.numbers.now.names c.args.numbers.now.count c.args.here c.args.at c.args.line.now c.in-Some.lead.ahead)

pub returns-in-Wend : goal.returns-in-Wend
returns-in-Wend c = rw (c.in-Some.is, c.in-Wend.is) (wend_seeks c.args.numbers.now.names c.args.numbers.now.count c.args.here c.args.at c.args.line.now c.in-Some.lead.ahead)

pub returns-in_default : goal.returns-in_default
returns-in_default c = rw c.in-Some.is (word_seeks c.args.numbers.now.names c.args.numbers.now.count c.args.here c.args.at c.args.line.now c.in-Some.lead.ahead c.in-Some.lead.word (unsealed c.in_default.in_default-own.keys6))
