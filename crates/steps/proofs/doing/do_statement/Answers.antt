-- Each arm does what the definition does of the statements that its word leads.
use Rattle.statements.specs.Statements.{led_by}
use mathlib.Core.Path.{refl, ap}
use Rattle.machine.specs.bridge.Holding.{state_of, position_of}
use Rattle.turns.specs.bridge.Turns.{turn_of, after_of}
use Rattle.machine.proofs.Standing.{begins_at}
use Rattle.turns.proofs.Doing.{ends_turn, stops_turn}
use Rattle.steps.proofs.Beginning.{print_itemed, if_formed, while_formed, read_listed, input_asks}
use Rattle.steps.proofs.Dispatching.{lead_begins, lead_from, lead_reads, lead_does, print_does, if_does, read_does, while_does, input_does, other_does}
use Rattle.steps.proofs.doing.do_statement.Goals as goal

pub set-requires : goal.set-requires
set-requires c = (rw c.in-Let.is at (lead_begins c.args.line.now c.args.at.0 c.requires.1.1.1.1.0 c.in-Some.is c.requires.1.0), (c.requires.0.short, c.requires.1.1.0.settled))

pub print-requires : goal.print-requires
print-requires c = let f = lead_from c.args.line.now c.args.at.0 c.requires.1.1.1.1.0 c.in-Some.is in
    (print_itemed c.args.line.now c.requires.0.short f.place f.is (rw c.in-Print.is at (lead_begins c.args.line.now c.args.at.0 c.requires.1.1.1.1.0 c.in-Some.is c.requires.1.0)), (c.requires.1.1.0.settled, c.requires.1.1.0.fitting))

pub choose-requires : goal.choose-requires
choose-requires c = let f = lead_from c.args.line.now c.args.at.0 c.requires.1.1.1.1.0 c.in-Some.is in
    (if_formed c.args.line.now c.requires.0.short f.place f.is (rw c.in-If.is at (lead_begins c.args.line.now c.args.at.0 c.requires.1.1.1.1.0 c.in-Some.is c.requires.1.0)), c.requires.1.1.0.settled)

pub count-requires : goal.count-requires
count-requires c = (rw c.in-For.is at (lead_begins c.args.line.now c.args.at.0 c.requires.1.1.1.1.0 c.in-Some.is c.requires.1.0), (c.requires.0.short, (c.requires.1.1.0.settled, (c.requires.1.1.1.0, record { loads = c.requires.0.loads; begins = c.requires.0.begins }))))

pub repeat-requires : goal.repeat-requires
repeat-requires c = let f = lead_from c.args.line.now c.args.at.0 c.requires.1.1.1.1.0 c.in-Some.is in
    (while_formed c.args.line.now c.requires.0.short f.place f.is (rw c.in-While.is at (lead_begins c.args.line.now c.args.at.0 c.requires.1.1.1.1.0 c.in-Some.is c.requires.1.0)), (c.requires.1.1.0.settled, (c.requires.1.1.1.0, record { loads = c.requires.0.loads; begins = c.requires.0.begins })))

pub line_input-requires : goal.line_input-requires
line_input-requires c = (
  rw c.token_at.ensures (input_asks c.args.line.now c.requires.0.short c.in-Some.led.ahead (rw c.in-Line.is at (lead_begins c.args.line.now c.args.at.0 c.requires.1.1.1.1.0 c.in-Some.is c.requires.1.0))),
  (record { all = c.requires.1.1.0.settled.all; within = c.requires.1.1.0.settled.within }, c.requires.1.1.0.fitting),
)

pub read-requires : goal.read-requires
read-requires c = (read_listed c.args.line.now c.in-Some.led.ahead (rw c.in-Read.is at (lead_begins c.args.line.now c.args.at.0 c.requires.1.1.1.1.0 c.in-Some.is c.requires.1.0)), (record { loads = c.requires.0.loads; fed = c.requires.1.1.1.1.1.1 }, c.requires.1.1.0.settled))

pub returns-in-Let : goal.returns-in-Let
returns-in-Let c = lead_does c.args.text.now c.args.line.now c.args.here c.args.at.0 (state_of c.args.machine c.args.tables.now) c.args.found c.args.entry c.args.input.now c.args.space.now c.args.room.now _ _ _ c.requires.0 c.requires.1.1.1.1.0 c.in-Some.is c.requires.1.0
    (rw c.in-Let.is (c.set.ensures c.args.text.now c.args.input.now c.args.room.now c.args.at.0 c.args.found c.args.entry c.requires.1.1.0))

pub returns-in-Print : goal.returns-in-Print
returns-in-Print c = lead_does c.args.text.now c.args.line.now c.args.here c.args.at.0 (state_of c.args.machine c.args.tables.now) c.args.found c.args.entry c.args.input.now c.args.space.now c.args.room.now _ _ _ c.requires.0 c.requires.1.1.1.1.0 c.in-Some.is c.requires.1.0
    (rw c.in-Print.is (print_does c.args.text.now c.args.line.now c.args.here c.args.at.0 (state_of c.args.machine c.args.tables.now) c.args.found c.args.entry c.args.input.now c.args.space.now c.args.room.now _ _ _ c.in-Some.led.ahead (λ is u p e. c.print.ensures c.args.text.now c.args.input.now c.args.at.0 is u c.requires.1.1.0 p e)))

pub returns-in-If : goal.returns-in-If
returns-in-If c = lead_does c.args.text.now c.args.line.now c.args.here c.args.at.0 (state_of c.args.machine c.args.tables.now) c.args.found c.args.entry c.args.input.now c.args.space.now c.args.room.now _ _ _ c.requires.0 c.requires.1.1.1.1.0 c.in-Some.is c.requires.1.0
    (rw c.in-If.is (if_does c.args.text.now c.args.line.now c.args.here c.args.at.0 (state_of c.args.machine c.args.tables.now) c.args.found c.args.entry c.args.input.now c.args.space.now c.args.room.now _ _ _ c.in-Some.led.ahead (λ f way p u after l e g low. c.choose.ensures c.args.text.now c.args.input.now c.args.room.now c.args.at.0 f way p u after c.requires.1.1.0 c.requires.0 l e g low)))

pub returns-in-Goto : goal.returns-in-Goto
returns-in-Goto c = lead_does c.args.text.now c.args.line.now c.args.here c.args.at.0 (state_of c.args.machine c.args.tables.now) c.args.found c.args.entry c.args.input.now c.args.space.now c.args.room.now (turn_of c.jump.result c.args.tables.now) c.args.space.now c.args.room.now c.requires.0 c.requires.1.1.1.1.0 c.in-Some.is c.requires.1.0
    (rw c.in-Goto.is (c.jump.ensures c.args.text.now c.args.line.now c.args.input.now c.args.space.now c.args.room.now c.args.tables.now c.args.here c.args.at.0 c.args.found c.args.entry c.requires.1.1.1.1.1.0 c.requires.1.1.0))

pub returns-in-Gosub : goal.returns-in-Gosub
returns-in-Gosub c = lead_does c.args.text.now c.args.line.now c.args.here c.args.at.0 (state_of c.args.machine c.args.tables.now) c.args.found c.args.entry c.args.input.now c.args.space.now c.args.room.now (turn_of c.call.result c.args.tables.now) c.args.space.now c.args.room.now c.requires.0 c.requires.1.1.1.1.0 c.in-Some.is c.requires.1.0
    (rw c.in-Gosub.is (c.call.ensures c.args.text.now c.args.input.now c.args.space.now c.args.room.now c.args.tables.now c.args.at.0 c.args.found c.args.entry c.requires.1.1.1.1.1.0 c.requires.1.1.0))

pub returns-in-Return : goal.returns-in-Return
returns-in-Return c = lead_does c.args.text.now c.args.line.now c.args.here c.args.at.0 (state_of c.args.machine c.args.tables.now) c.args.found c.args.entry c.args.input.now c.args.space.now c.args.room.now (turn_of c.come_back.result c.args.tables.now) c.args.space.now c.args.room.now c.requires.0 c.requires.1.1.1.1.0 c.in-Some.is c.requires.1.0
    (rw c.in-Return.is (λ p. c.come_back.ensures c.args.text.now c.args.input.now c.args.space.now c.args.room.now c.args.tables.now c.args.at.0 (position_of c.args.text.now (after_of c.args.here c.in-Some.led.ahead)) c.requires.1.1.0))

pub returns-in-For : goal.returns-in-For
returns-in-For c = lead_does c.args.text.now c.args.line.now c.args.here c.args.at.0 (state_of c.args.machine c.args.tables.now) c.args.found c.args.entry c.args.input.now c.args.space.now c.args.room.now _ _ _ c.requires.0 c.requires.1.1.1.1.0 c.in-Some.is c.requires.1.0
    (rw c.in-For.is (c.count.ensures.does c.args.input.now c.args.room.now c.args.entry c.requires.1.1.0))

pub returns-in-Next : goal.returns-in-Next
returns-in-Next c = lead_does c.args.text.now c.args.line.now c.args.here c.args.at.0 (state_of c.args.machine c.args.tables.now) c.args.found c.args.entry c.args.input.now c.args.space.now c.args.room.now _ _ _ c.requires.0 c.requires.1.1.1.1.0 c.in-Some.is c.requires.1.0
    (rw c.in-Next.is (c.next_loop.ensures.does c.args.text.now c.args.input.now c.args.space.now c.args.room.now c.args.at.0 c.requires.1.1.0))

pub returns-in-While : goal.returns-in-While
returns-in-While c = lead_does c.args.text.now c.args.line.now c.args.here c.args.at.0 (state_of c.args.machine c.args.tables.now) c.args.found c.args.entry c.args.input.now c.args.space.now c.args.room.now _ _ _ c.requires.0 c.requires.1.1.1.1.0 c.in-Some.is c.requires.1.0
    (rw c.in-While.is (while_does c.args.text.now c.args.line.now c.args.here c.args.at.0 (state_of c.args.machine c.args.tables.now) c.args.found c.args.entry c.args.input.now c.args.space.now c.args.room.now _ _ _ c.requires.0 c.requires.1.1.1.1.0 (rw c.in-While.is at c.in-Some.is) c.requires.1.0 (λ f u w. c.repeat.ensures c.args.input.now c.args.room.now c.args.entry f u c.requires.1.1.0 w)))

pub returns-in-Wend : goal.returns-in-Wend
returns-in-Wend c = lead_does c.args.text.now c.args.line.now c.args.here c.args.at.0 (state_of c.args.machine c.args.tables.now) c.args.found c.args.entry c.args.input.now c.args.space.now c.args.room.now (turn_of c.turn_back.result c.args.tables.now) c.args.space.now c.args.room.now c.requires.0 c.requires.1.1.1.1.0 c.in-Some.is c.requires.1.0
    (rw c.in-Wend.is (λ p. c.turn_back.ensures c.args.text.now c.args.input.now c.args.space.now c.args.room.now c.args.tables.now c.args.here.0 c.args.at.0 (position_of c.args.text.now (after_of c.args.here c.in-Some.led.ahead)) (begins_at c.requires.0.begins) c.requires.1.1.0))

pub returns-in-Line : goal.returns-in-Line
returns-in-Line c = lead_does c.args.text.now c.args.line.now c.args.here c.args.at.0 (state_of c.args.machine c.args.tables.now) c.args.found c.args.entry c.args.input.now c.args.space.now c.args.room.now _ _ _ c.requires.0 c.requires.1.1.1.1.0 c.in-Some.is c.requires.1.0
    (rw c.in-Line.is (input_does c.args.text.now c.args.line.now c.args.here c.args.at.0 (state_of c.args.machine c.args.tables.now) c.args.found c.args.entry c.args.input.now c.args.space.now c.args.room.now _ _ _ c.in-Some.led.ahead (λ prompt v u p e. c.line_input.ensures.does c.args.text.now prompt c.args.at.0 v u c.requires.1.1.0 p (rw (← c.token_at.ensures) at e))))

pub returns-in-Data : goal.returns-in-Data
returns-in-Data c = let w = ap (λ x. led_by x c.in-Some.led.ahead) c.in-Data.is in
    lead_does c.args.text.now c.args.line.now c.args.here c.args.at.0 (state_of c.args.machine c.args.tables.now) c.args.found c.args.entry c.args.input.now c.args.space.now c.args.room.now (turn_of c.pass.result c.args.tables.now) c.args.space.now c.args.room.now c.requires.0 c.requires.1.1.1.1.0 c.in-Some.is c.requires.1.0
    (rw c.in-Data.is (c.pass.ensures c.args.text.now c.args.input.now c.args.space.now c.args.room.now c.args.tables.now c.args.at.0 c.args.found c.args.entry c.in-Some.led.ahead w c.requires.1.1.0))

pub returns-in-Read : goal.returns-in-Read
returns-in-Read c = lead_does c.args.text.now c.args.line.now c.args.here c.args.at.0 (state_of c.args.machine c.args.tables.now) c.args.found c.args.entry c.args.input.now c.args.space.now c.args.room.now _ _ _ c.requires.0 c.requires.1.1.1.1.0 c.in-Some.is c.requires.1.0
    (rw c.in-Read.is (read_does c.args.text.now c.args.line.now c.args.here c.args.at.0 (state_of c.args.machine c.args.tables.now) c.args.found c.args.entry c.args.input.now c.args.space.now c.args.room.now _ _ _ c.in-Some.led.ahead (λ vs u p e. c.read.ensures c.args.input.now c.args.room.now c.args.at.0 vs u c.requires.1.1.0 p e)))

pub returns-in-Restore : goal.returns-in-Restore
returns-in-Restore c = lead_does c.args.text.now c.args.line.now c.args.here c.args.at.0 (state_of c.args.machine c.args.tables.now) c.args.found c.args.entry c.args.input.now c.args.space.now c.args.room.now (turn_of c.restore.result c.args.tables.now) c.args.space.now c.args.room.now c.requires.0 c.requires.1.1.1.1.0 c.in-Some.is c.requires.1.0
    (rw c.in-Restore.is (c.restore.ensures c.args.text.now c.args.input.now c.args.space.now c.args.room.now c.args.tables.now c.args.at.0 c.args.found c.args.entry c.requires.1.1.1.1.1.0 c.requires.1.1.0))

pub returns-in-End : goal.returns-in-End
returns-in-End c = lead_does c.args.text.now c.args.line.now c.args.here c.args.at.0 (state_of c.args.machine c.args.tables.now) c.args.found c.args.entry c.args.input.now c.args.space.now c.args.room.now (turn_of c.turned_to.result c.args.tables.now) c.args.space.now c.args.room.now c.requires.0 c.requires.1.1.1.1.0 c.in-Some.is c.requires.1.0
    (rw (c.in-End.is, c.turned_to.ensures) (λ p. ends_turn c.requires.1.1.0 _))

pub returns-in-Stop : goal.returns-in-Stop
returns-in-Stop c = lead_does c.args.text.now c.args.line.now c.args.here c.args.at.0 (state_of c.args.machine c.args.tables.now) c.args.found c.args.entry c.args.input.now c.args.space.now c.args.room.now (turn_of c.turned_to-in-Stop.result c.args.tables.now) c.args.space.now c.args.room.now c.requires.0 c.requires.1.1.1.1.0 c.in-Some.is c.requires.1.0
    (rw (c.in-Stop.is, c.turned_to-in-Stop.ensures) (λ p. stops_turn c.requires.1.1.0 _))

pub returns-in_default : goal.returns-in_default
returns-in_default c = lead_does c.args.text.now c.args.line.now c.args.here c.args.at.0 (state_of c.args.machine c.args.tables.now) c.args.found c.args.entry c.args.input.now c.args.space.now c.args.room.now (turn_of c.goes_on.result c.args.tables.now) c.args.space.now c.args.room.now c.requires.0 c.requires.1.1.1.1.0 c.in-Some.is c.requires.1.0
    (other_does c.args.text.now c.args.line.now c.args.here c.args.at.0 (state_of c.args.machine c.args.tables.now) c.args.found c.args.entry c.args.input.now c.args.space.now c.args.room.now (turn_of c.goes_on.result c.args.tables.now) c.requires.1.1.0 c.in-Some.led.ahead (rw c.goes_on.ensures refl) c.in-Some.led.word c.in_default.in_default-own.keys17)

pub returns-in-None : goal.returns-in-None
returns-in-None c = lead_reads c.args.line.now c.args.at.0 c.requires.1.1.1.1.0 c.in-None.is c.requires.1.0
