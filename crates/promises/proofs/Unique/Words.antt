-- The public functions of `words`.
use mathlib.Core.Path.{refl}
use Rattle.words.proofs as words
use Rattle.promises.specs.Calls.{Unique}
use Rattle.promises.proofs.Unique.{same}

pub byte_at : Unique words.byte_at.Kinds.ps words.byte_at.Kinds.r words.byte_at.Reads.Pre words.byte_at.Reads.Post
byte_at κs a p z z' ws ws' e e' = (same e e', refl)

pub capital : Unique words.capital.Kinds.ps words.capital.Kinds.r words.capital.Reads.Pre words.capital.Reads.Post
capital κs a p z z' ws ws' e e' = (same e e', refl)

pub sign_of : Unique words.sign_of.Kinds.ps words.sign_of.Kinds.r words.sign_of.Reads.Pre words.sign_of.Reads.Post
sign_of κs a p z z' ws ws' e e' = (same e e', refl)

pub class_of : Unique words.class_of.Kinds.ps words.class_of.Kinds.r words.class_of.Reads.Pre words.class_of.Reads.Post
class_of κs a p z z' ws ws' e e' = (same e e', refl)

pub is_letter : Unique words.is_letter.Kinds.ps words.is_letter.Kinds.r words.is_letter.Reads.Pre words.is_letter.Reads.Post
is_letter κs a p z z' ws ws' e e' = (same e e', refl)

pub telling_of : Unique words.telling_of.Kinds.ps words.telling_of.Kinds.r words.telling_of.Reads.Pre words.telling_of.Reads.Post
telling_of κs a p z z' ws ws' e e' = (same e e', refl)

pub character : Unique words.character.Kinds.ps words.character.Kinds.r words.character.Reads.Pre words.character.Reads.Post
character κs a p z z' ws ws' e e' = (same e e', refl)

pub is_told : Unique words.is_told.Kinds.ps words.is_told.Kinds.r words.is_told.Reads.Pre words.is_told.Reads.Post
is_told κs a p z z' ws ws' e e' = (same e e', refl)

pub word_of : Unique words.word_of.Kinds.ps words.word_of.Kinds.r words.word_of.Reads.Pre words.word_of.Reads.Post
word_of κs a p z z' ws ws' e e' = (same e e', refl)
