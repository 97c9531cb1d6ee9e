-- Rests on: how a numeral grows (`Numerals`).
use Rattle.whole.proofs.Numerals.{put_one, put_more}
use Rattle.whole.proofs.texts.+put_numeral.Goals as goal

pub returns-then-value-base : goal.returns-then-value-base
returns-then-value-base t c k h = rw (c.put.ensures, c.digit_byte-last.ensures) (put_one _ c.requires.0 _ k _ c.if-value-base.true)

pub returns : goal.returns
returns t c k h =
    rw (c.put-2.ensures, c.digit_byte-last.ensures)
    (put_more _ c.requires.0 _ k _ _ c.if-value-base.false h (λ j. c.put_numeral.ensures j))
