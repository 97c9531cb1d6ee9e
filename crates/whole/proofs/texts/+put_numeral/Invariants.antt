-- The measure is the value, which a division by two or more makes less.
use Rattle.whole.proofs.texts.+put_numeral.Given as goal

abbrev pub decreases-put_numeral : goal.decreases-put_numeral
decreases-put_numeral l = l.value
