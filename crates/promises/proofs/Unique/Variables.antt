-- The public functions of `variables`.
use Rattle.std.specs.Prelude.{◌≡◌, ℕ, cond, Option, Some, None}
use mathlib.Core.Path.{refl, sym, ap, ◌∙◌}
use Rattle.variables.proofs as variables
use Rattle.variables.specs.bridge.Memory.{NumberStored, StringStored, numbers_left, strings_left}
use Rattle.variables.specs.declared.tables.Numbers.{Numbers}
use Rattle.variables.specs.declared.tables.Strings.{Strings}
use Rattle.space.specs.declared.offsets.Offset.{Offset}
use Rattle.promises.specs.Calls.{Unique}
use Rattle.promises.proofs.Unique.{same, pair}

pub slot_of : Unique variables.slot_of.Kinds.ps variables.slot_of.Kinds.r variables.slot_of.Reads.Pre variables.slot_of.Reads.Post
slot_of κs a p z z' ws ws' e e' = (same e e', refl)

pub offset_of : Unique variables.offset_of.Kinds.ps variables.offset_of.Kinds.r variables.offset_of.Reads.Pre variables.offset_of.Reads.Post
offset_of κs a p z z' ws ws' e e' = (λ i. record { 0 = same e e' i }, refl)

pub answered : Unique variables.answered.Kinds.ps variables.answered.Kinds.r variables.answered.Reads.Pre variables.answered.Reads.Post
answered κs a p z z' ws ws' e e' = (same e e', refl)

pub mismatch : Unique variables.mismatch.Kinds.ps variables.mismatch.Kinds.r variables.mismatch.Reads.Pre variables.mismatch.Reads.Post
mismatch κs a p z z' ws ws' e e' = (same e e', refl)

pub text_length : Unique variables.text_length.Kinds.ps variables.text_length.Kinds.r variables.text_length.Reads.Pre variables.text_length.Reads.Post
text_length κs a p z z' ws ws' e e' = (same e e', refl)

pub has_room : Unique variables.has_room.Kinds.ps variables.has_room.Kinds.r variables.has_room.Reads.Pre variables.has_room.Reads.Post
has_room κs a p z z' ws ws' e e' = (same e e', refl)

-- what storing a number leaves tells its answer
number_told : NumberStored → Option ℕ
number_told s = cond s.ok (Some s.slot) None

number_answer : (z : Option ℕ) (n : Numbers) → z ≡ number_told (numbers_left z n)
unfolding number_told
number_answer (Some i) n = refl
number_answer None n = refl

numbers_kept : (z : Option ℕ) (n : Numbers) → (numbers_left z n).numbers ≡ n
numbers_kept (Some i) n = refl
numbers_kept None n = refl

pub store_number : Unique variables.tables.Numbers.store.Kinds.ps variables.tables.Numbers.store.Kinds.r variables.tables.Numbers.store.Reads.Pre variables.tables.Numbers.store.Reads.Post
store_number κs a p z z' ws ws' e e' =
    let q : numbers_left z ws.0 ≡ numbers_left z' ws'.0 = same e e' in (
      number_answer z ws.0 ∙ ap number_told q ∙ sym (number_answer z' ws'.0),
      pair (sym (numbers_kept z ws.0) ∙ ap (λ (s : NumberStored). s.numbers) q ∙ numbers_kept z' ws'.0) refl,
    )

-- and so does what storing a string leaves
string_told : StringStored → Option Offset
string_told s = cond s.ok (Some (record { 0 = s.used })) None

string_answer : (z : Option Offset) (used : ℕ) (t : Strings) → z ≡ string_told (strings_left z used t)
unfolding string_told
string_answer (Some end) used t = refl
string_answer None used t = refl

strings_kept : (z : Option Offset) (used : ℕ) (t : Strings) → (strings_left z used t).strings ≡ t
strings_kept (Some end) used t = refl
strings_kept None used t = refl

pub store_string : Unique variables.tables.Strings.store.Kinds.ps variables.tables.Strings.store.Kinds.r variables.tables.Strings.store.Reads.Pre variables.tables.Strings.store.Reads.Post
store_string κs a p z z' ws ws' e e' =
    let u = a.1.0.0 in
    let q : strings_left z u ws.0 ≡ strings_left z' u ws'.0 = same e.0 e'.0 in (
      string_answer z u ws.0 ∙ ap string_told q ∙ sym (string_answer z' u ws'.0),
      pair (sym (strings_kept z u ws.0) ∙ ap (λ (s : StringStored). s.strings) q ∙ strings_kept z' u ws'.0) (pair refl (pair refl (pair refl (pair (same e.1 e'.1) refl)))),
    )

pub clean_up : Unique variables.clean_up.Kinds.ps variables.clean_up.Kinds.r variables.clean_up.Reads.Pre variables.clean_up.Reads.Post
clean_up κs a p z z' ws ws' e e' = (refl, pair (same e e') refl)

pub tables_empty : Unique variables.tables.Tables.empty.Kinds.ps variables.tables.Tables.empty.Kinds.r variables.tables.Tables.empty.Reads.Pre variables.tables.Tables.empty.Reads.Post
tables_empty κs a p z z' ws ws' e e' = (same e e', refl)
