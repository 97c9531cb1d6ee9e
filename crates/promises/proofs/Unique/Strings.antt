-- The public functions of `strings`.
use mathlib.Core.Path.{refl}
use Rattle.strings.proofs as strings
use Rattle.promises.specs.Calls.{Unique}
use Rattle.promises.proofs.Unique.{same}

pub are_three : Unique strings.are_three.Kinds.ps strings.are_three.Kinds.r strings.are_three.Reads.Pre strings.are_three.Reads.Post
are_three κs a p z z' ws ws' e e' = (same e e', refl)

pub first_length : Unique strings.first_length.Kinds.ps strings.first_length.Kinds.r strings.first_length.Reads.Pre strings.first_length.Reads.Post
first_length κs a p z z' ws ws' e e' = (same e e', refl)

pub second_length : Unique strings.second_length.Kinds.ps strings.second_length.Kinds.r strings.second_length.Reads.Pre strings.second_length.Reads.Post
second_length κs a p z z' ws ws' e e' = (same e e', refl)

pub third_length : Unique strings.third_length.Kinds.ps strings.third_length.Kinds.r strings.third_length.Reads.Pre strings.third_length.Reads.Post
third_length κs a p z z' ws ws' e e' = (same e e', refl)

pub given_length : Unique strings.given_length.Kinds.ps strings.given_length.Kinds.r strings.given_length.Reads.Pre strings.given_length.Reads.Post
given_length κs a p z z' ws ws' e e' = (same e e', refl)

pub first_word : Unique strings.first_word.Kinds.ps strings.first_word.Kinds.r strings.first_word.Reads.Pre strings.first_word.Reads.Post
first_word κs a p z z' ws ws' e e' = (same e e', refl)

pub in_range : Unique strings.in_range.Kinds.ps strings.in_range.Kinds.r strings.in_range.Reads.Pre strings.in_range.Reads.Post
in_range κs a p z z' ws ws' e e' = (same e e', refl)
