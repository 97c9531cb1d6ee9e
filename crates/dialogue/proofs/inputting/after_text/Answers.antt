use Rattle.dialogue.proofs.inputting.after_text.Goals as goal

pub returns : goal.returns
returns c = rw (← c.token_at-semicolon.ensures) c.token_at.ensures
