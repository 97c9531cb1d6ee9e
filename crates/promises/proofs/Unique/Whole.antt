-- The public functions of `whole`.
use mathlib.Core.Path.{refl}
use Rattle.whole.proofs as whole
use Rattle.promises.specs.Calls.{Unique}
use Rattle.promises.proofs.Unique.{same}

pub truth : Unique whole.truth.Kinds.ps whole.truth.Kinds.r whole.truth.Reads.Pre whole.truth.Reads.Post
truth κs a p z z' ws ws' e e' = (same e e', refl)

pub apply : Unique whole.apply.Kinds.ps whole.apply.Kinds.r whole.apply.Reads.Pre whole.apply.Reads.Post
apply κs a p z z' ws ws' e e' = (same e e', refl)

pub negative : Unique whole.negative.Kinds.ps whole.negative.Kinds.r whole.negative.Reads.Pre whole.negative.Reads.Post
negative κs a p z z' ws ws' e e' = (same e e', refl)

pub complement : Unique whole.complement.Kinds.ps whole.complement.Kinds.r whole.complement.Reads.Pre whole.complement.Reads.Post
complement κs a p z z' ws ws' e e' = (same e e', refl)

pub absolute : Unique whole.absolute.Kinds.ps whole.absolute.Kinds.r whole.absolute.Reads.Pre whole.absolute.Reads.Post
absolute κs a p z z' ws ws' e e' = (same e e', refl)

pub sign : Unique whole.sign.Kinds.ps whole.sign.Kinds.r whole.sign.Reads.Pre whole.sign.Reads.Post
sign κs a p z z' ws ws' e e' = (same e e', refl)

pub is_digit : Unique whole.is_digit.Kinds.ps whole.is_digit.Kinds.r whole.is_digit.Reads.Pre whole.is_digit.Reads.Post
is_digit κs a p z z' ws ws' e e' = (same e e', refl)

pub leading_digits : Unique whole.leading_digits.Kinds.ps whole.leading_digits.Kinds.r whole.leading_digits.Reads.Pre whole.leading_digits.Reads.Post
leading_digits κs a p z z' ws ws' e e' = (same e e', refl)

pub leading_blanks : Unique whole.leading_blanks.Kinds.ps whole.leading_blanks.Kinds.r whole.leading_blanks.Reads.Pre whole.leading_blanks.Reads.Post
leading_blanks κs a p z z' ws ws' e e' = (same e e', refl)

pub val : Unique whole.val.Kinds.ps whole.val.Kinds.r whole.val.Reads.Pre whole.val.Reads.Post
val κs a p z z' ws ws' e e' = (same e e', refl)

pub number_of : Unique whole.number_of.Kinds.ps whole.number_of.Kinds.r whole.number_of.Reads.Pre whole.number_of.Reads.Post
number_of κs a p z z' ws ws' e e' = (same e e', refl)

pub text_empty : Unique whole.texts.Text.empty.Kinds.ps whole.texts.Text.empty.Kinds.r whole.texts.Text.empty.Reads.Pre whole.texts.Text.empty.Reads.Post
text_empty κs a p z z' ws ws' e e' = (same e e', refl)

pub text_put : Unique whole.texts.Text.put.Kinds.ps whole.texts.Text.put.Kinds.r whole.texts.Text.put.Reads.Pre whole.texts.Text.put.Reads.Post
text_put κs a p z z' ws ws' e e' = (same e e', refl)

pub str_text : Unique whole.str_text.Kinds.ps whole.str_text.Kinds.r whole.str_text.Reads.Pre whole.str_text.Reads.Post
str_text κs a p z z' ws ws' e e' = (same e e', refl)

pub print_text : Unique whole.print_text.Kinds.ps whole.print_text.Kinds.r whole.print_text.Reads.Pre whole.print_text.Reads.Post
print_text κs a p z z' ws ws' e e' = (same e e', refl)

pub hex_digit : Unique whole.hex_digit.Kinds.ps whole.hex_digit.Kinds.r whole.hex_digit.Reads.Pre whole.hex_digit.Reads.Post
hex_digit κs a p z z' ws ws' e e' = (same e e', refl)

pub hex_text : Unique whole.hex_text.Kinds.ps whole.hex_text.Kinds.r whole.hex_text.Reads.Pre whole.hex_text.Reads.Post
hex_text κs a p z z' ws ws' e e' = (same e e', refl)

pub decimal_text : Unique whole.decimal_text.Kinds.ps whole.decimal_text.Kinds.r whole.decimal_text.Reads.Pre whole.decimal_text.Reads.Post
decimal_text κs a p z z' ws ws' e e' = (same e e', refl)

pub number_item : Unique whole.number_item.Kinds.ps whole.number_item.Kinds.r whole.number_item.Reads.Pre whole.number_item.Reads.Post
number_item κs a p z z' ws ws' e e' = (same e e', refl)
