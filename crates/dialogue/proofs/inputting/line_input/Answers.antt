use Rattle.dialogue.proofs.inputting.line_input.Goals as goal

pub returns-clause-does : goal.returns-clause-does
returns-clause-does c = λ text prompt at v u sound p e.
    let k = c.asked_at-asked.ensures.1.1 prompt v u e in
    rw k.0 (c.prompt.ensures.does text at v u sound p (rw k.0 at k.1))
