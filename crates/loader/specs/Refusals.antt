-- The numbers of the refusals, in the order of the paper's table.
use Rattle.std.specs.Prelude.{Err, Result}
use Rattle.words.specs.declared.places.Place.{Place}
use Rattle.loader.specs.declared.refusals.RefusedAt.{RefusedAt}
use Rattle.std.specs.Prelude.{ℕ}
use Rattle.loader.specs.declared.refusals.Refusal.{Refusal}
use Rattle.loader.specs.declared.refusals.Refusal.TheVariants.{
  NoVariable,
  SpaceTooLong,
  StackTooLong,
  TextTooLong,
  LineTooLong,
  ForeignByte,
  BadNumber,
  NotRising,
  TooManyLines,
  ShortGroup,
  TooManyPairs,
  NoRoom,
}

abbrev pub refusal_number : Refusal → ℕ
refusal_number NoVariable = 111
refusal_number SpaceTooLong = 106
refusal_number StackTooLong = 107
refusal_number TextTooLong = 100
refusal_number LineTooLong = 103
refusal_number ForeignByte = 104
refusal_number BadNumber = 101
refusal_number NotRising = 102
refusal_number TooManyLines = 105
refusal_number ShortGroup = 108
refusal_number TooManyPairs = 109
refusal_number NoRoom = 110

-- refused, at a place
abbrev pub refused_at : {T : Type 0} → Refusal → Place → Result T RefusedAt
refused_at refusal at = Err (record { refusal = refusal; place = at })
