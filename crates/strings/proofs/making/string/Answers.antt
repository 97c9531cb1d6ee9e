-- So many of the code, or of the byte that stands after the first argument.
use mathlib.Core.Path.{◌≡◌, sym, ◌∙◌}
use native.Mathlib.Omega.{arith}
use Rattle.strings.specs.bridge.Memory.{second_of}
use Rattle.strings.specs.declared.arguments.Argument.TheVariants as argument
use Rattle.strings.proofs.Calls.{told_no, told_yes, code_refused, code_made, text_refused, text_made}
use Rattle.strings.proofs.making.string.Goals as goal

pub returns-then-not-in_range : goal.returns-then-not-in_range
returns-then-not-in_range c ahead =
    let code : second_of c.args.given ≡ argument.Whole c.in-Whole.code = sym c.second_of-second.ensures ∙ c.in-Whole.is in
    code_refused c.args.space.now c.args.used.0 c.args.given c.requires ahead c.first_word-count.ensures _ (code)
    (told_no c.in_range.ensures c.if-not-in_range.true-raw)

pub returns-then-len-eq0 : goal.returns-then-len-eq0
returns-then-len-eq0 c ahead =
    let long : second_of c.args.given ≡ argument.Text c.in-Text.len = sym c.second_of-second.ensures ∙ c.in-Text.is in
    text_refused c.args.space.now c.args.used.0 c.args.given c.requires ahead c.first_word-count.ensures _ (long) c.if-len-eq0.true

pub returns-else-not-in_range : goal.returns-else-not-in_range
returns-else-not-in_range c ahead =
    let code : second_of c.args.given ≡ argument.Whole c.in-Whole.code = sym c.second_of-second.ensures ∙ c.in-Whole.is in
    code_made c.args.space.now c.args.used.0 c.args.given c.requires ahead c.first_word-count.ensures _ (code)
    (told_yes c.in_range.ensures c.if-not-in_range.false-raw) (c.filled.ensures ahead)

pub returns-else-len-eq0 : goal.returns-else-len-eq0
returns-else-len-eq0 c ahead =
    let long : second_of c.args.given ≡ argument.Text c.in-Text.len = sym c.second_of-second.ensures ∙ c.in-Text.is in
    text_made c.args.space.now c.args.used.0 c.args.given c.requires ahead c.first_word-count.ensures _ (long)
    (omega (arith, c.if-len-eq0.false)) (rw c.first_length.ensures at (c.filled-in-Text.ensures ahead))
