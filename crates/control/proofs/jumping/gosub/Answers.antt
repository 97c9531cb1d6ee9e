use mathlib.Core.Path.{sym, ◌∙◌}
use Rattle.machine.specs.Machine.{call}
use Rattle.machine.specs.bridge.Holding.{position_of}
use Rattle.turns.specs.Steps.{enters, pushed}
use Rattle.turns.specs.bridge.Turns.{after_of}
use Rattle.control.proofs.Jumps.{line_missing, gosub_found, gosub_full, calls_none, calls_full, calls_to}
use Rattle.control.proofs.jumping.gosub.Goals as goal

pub returns-in-NoLine : goal.returns-in-NoLine
returns-in-NoLine c = λ text input space room tables at t s p.
    let none = calls_none _ _ (sym c.called.ensures ∙ c.in-NoLine.is) in
    rw c.fails.ensures
    (line_missing _ s (λ n ls. pushed n (call (position_of text (after_of c.args.here c.args.ahead))) (λ o. enters o ls)) (sym (c.line_numbered-found.ensures text t) ∙ none))

pub returns-in-NoRecord : goal.returns-in-NoRecord
returns-in-NoRecord c = λ text input space room tables at t s p.
    let full = calls_full _ _ (sym c.called.ensures ∙ c.in-NoRecord.is) in
    rw c.fails-in-NoRecord.ensures (gosub_full _ s at _ p (sym (c.line_numbered-found.ensures text t) ∙ full.is) full.so)

pub returns-in-Goes : goal.returns-in-Goes
returns-in-Goes c = λ text input space room tables at t s p.
    let to = calls_to _ _ (sym c.called.ensures ∙ c.in-Goes.is) in
    rw (c.push.ensures tables, c.place_of.ensures to.span to.is, c.calls-held.ensures, c.after.ensures)
    (gosub_found _ s at _ p (sym (c.line_numbered-found.ensures text t) ∙ to.is))
