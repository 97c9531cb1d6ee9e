-- The two bytes that stand there are looked up as a pair, and then the first alone.
use lib.Seq.{get_or-drop}
use Rattle.words.proofs.Runs.{front}
use Rattle.scanner.specs.Tokens.{sign_token}
use Rattle.scanner.proofs.tokens.Start.sign.Goals as goal

pub returns-in-Some : goal.returns-in-Some
unfolding sign_token
returns-in-Some c = rw (front, get_or-drop, ← c.byte_at.ensures, ← c.pair_of.ensures, c.in-Some.is) c.up_to.ensures

pub returns-in-Some-sign_of : goal.returns-in-Some-sign_of
unfolding sign_token
returns-in-Some-sign_of c = rw (front, get_or-drop, ← c.byte_at.ensures, ← c.pair_of.ensures, c.in_default.is, ← c.sign_of.ensures, c.in-Some-sign_of.is) c.up_to-in-Some-sign_of.ensures

pub returns-in-None : goal.returns-in-None
unfolding sign_token
returns-in-None c = rw (front, get_or-drop, ← c.byte_at.ensures, ← c.pair_of.ensures, c.in_default.is, ← c.sign_of.ensures, c.in-None.is) c.unreadable.ensures
