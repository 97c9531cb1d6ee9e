-- Each arm is a clause of the definition, and the last one is what no other arm takes.
use borrow.Enum.Refused.{opened as unsealed}
use mathlib.Core.Path.{◌≡◌}
use Rattle.whole.specs.Texts.{signed_numeral, hexadecimal}
use Rattle.words.specs.declared.symbols.Function.TheVariants.{Hex}
use Rattle.strings.proofs.Calls.{space_made, str_made, hex_made, last_text}
use Rattle.strings.proofs.making.text_called.Goals as goal

-- SPACE$
pub returns-in-Space : goal.returns-in-Space
returns-in-Space c ahead = rw c.in-Space.is
    (space_made c.args.space.now c.args.used.0 c.args.given c.requires.0 ahead c.first_word-word.ensures (c.filled.ensures ahead))

-- STR$
pub returns-in-Str : goal.returns-in-Str
returns-in-Str c ahead = rw c.in-Str.is
    (str_made c.args.space.now c.args.used.0 c.args.given c.requires.0 ahead c.first_word-word.ensures
    (c.built.ensures (signed_numeral c.first_word-word.result) c.str_text.ensures ahead))

-- HEX$
pub returns-in_default : goal.returns-in_default
returns-in_default c ahead = let e : c.args.function ≡ Hex = last_text c.args.function c.requires.1 (unsealed c.in_default.in_default-own.keys8) in
    rw e
    (hex_made c.args.space.now c.args.used.0 c.args.given c.requires.0 ahead c.first_word-word.ensures
    (c.built-in_default.ensures (hexadecimal c.first_word-word.result) c.hex_text.ensures ahead))
