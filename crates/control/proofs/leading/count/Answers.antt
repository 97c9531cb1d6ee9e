use borrow.Enum.Refused.{opened as unsealed}
use Rattle.machine.proofs.Tokens.{no_name}
use Rattle.control.proofs.Led.{for_counts, loop_does}
use Rattle.control.proofs.leading.count.Goals as goal

pub for_loop-requires : goal.for_loop-requires
for_loop-requires c = (rw c.token_at-equals.ensures (for_counts c.args.line.now c.requires.1.0 c.args.target c.in-Named.name (rw c.in-Named.is at c.requires.0)), c.requires.1.1)

pub returns-in-Named-clause-does : goal.returns-in-Named-clause-does
returns-in-Named-clause-does c = λ input room entry sound.
    loop_does _ _ c.args.here _ _ c.args.found entry input _ room _ _ room c.args.target c.in-Named.name c.in-Named.is
    (λ from to by u p e. c.for_loop.ensures.does input room from to by u sound p (rw (← c.token_at-equals.ensures) at e) entry)

pub returns-in_default-clause-does : goal.returns-in_default-clause-does
returns-in_default-clause-does c = λ input room entry sound. rw (no_name c.args.target.token _ _ (unsealed c.in_default.in_default-own.keys2)) tt
