-- What each function that gives a number makes of its arguments, as the code goes about it: a law for each of its answers.
use Rattle.std.specs.Prelude.{Ok, Result, ℕ}
use Rattle.whole.specs.declared.errors.Error.{Error}
use mathlib.Core.Path.{◌≡◌, refl, sym}
use mathlib.Core.Bool.{true, false}
use mathlib.Core.List.{List, [], ◌∷◌}
use Prim.Native.Nat.{ℕ, ◌+◌, ◌-◌, ◌≤◌}
use native.Mathlib.Omega.{arith}
use borrow.Author.Tests.{le-leb}
use lib.IntN.{pos}
use lib.ListN.{length, take, drop, get_or}
use lib.Seq.{get_or-take, get_or-drop}
use types.Run.{OneOf, miss}
use Rattle.whole.specs.Whole.{magnitude, signum}
use Rattle.whole.specs.Digits.{val_of}
use Rattle.whole.proofs.Numbers.{fit_in}
use Rattle.words.specs.declared.names.Kind.TheVariants as kind
use Rattle.words.specs.declared.symbols.Function.{Function}
use Rattle.words.specs.declared.symbols.Function.TheVariants.{Len, Asc, Chr, Left, Right, Mid, Space, String, Instr, Str, Hex, Val, Abs, Sgn, Fre}
use Rattle.words.specs.declared.symbols.Scanned.{Scanned}
use Rattle.grammar.specs.Functions.{gives}
use Rattle.variables.specs.bridge.Memory.{answered_as}
use Rattle.variables.specs.Strings.{let_all_go}
use Rattle.variables.specs.declared.values.Worked.{Worked}
use Rattle.variables.specs.declared.values.Worked.TheVariants as worked
use Rattle.strings.specs.Functions.{within, place_of}
use Rattle.strings.specs.bridge.Memory.{Placed, argument_length, argument_word, first_of, second_of, third_of, are_three, values_in}
use Rattle.strings.specs.declared.arguments.Given.{Given}
use Rattle.strings.proofs.Givens.{word_first, bytes_first, bytes_second, bytes_third, count_three, texts_at}
use Rattle.strings.proofs.Produced.{refused, made_as, answer_made, let_go}
use Rattle.strings.proofs.Calls.{Calls, illegal, inside, first_long, first_word, function_tag, kinds_apart}

module _ (before : List ℕ) (used : ℕ) (g : Given) (p : Placed before used g) (ahead : Scanned) where
  abbrev Gives : Function → Result Worked Error → Type 0
  Gives f r = Calls before used g p ahead f r before

  abbrev Illegal : Result Worked Error
  Illegal = illegal before used g p ahead

  pub len_made : {n : ℕ} → n ≡ argument_length (first_of g) → Gives Len (Ok (worked.Whole n ahead))
  len_made {n} e = made_as (λ room. rw (first_long before used g p ahead, ← e)) (answer_made before used g p ahead (Ok n))

  pub asc_refused : argument_length (first_of g) ≡ 0 → Gives Asc Illegal
  asc_refused e = refused (inside before used g p ahead) (λ room. rw (first_long before used g p ahead, e))

  pub asc_made : 1 ≤ argument_length (first_of g) → Gives Asc (Ok (worked.Whole (get_or before used 0) ahead))
  asc_made h =
      let n = argument_length (first_of g) in
      let z : used + 0 ≡ used = omega arith in
      made_as
      (λ room. rw (first_long before used g p ahead, le-leb 1 n h, bytes_first before used g, get_or-take n (drop used before) 0 0 h, get_or-drop used before 0 0, z))
      (answer_made before used g p ahead (Ok (get_or before used 0)))

  pub val_made : (x : Result ℕ Error) → x ≡ val_of (take (argument_length (first_of g)) (drop used before)) → Gives Val (answered_as x ahead)
  val_made x e = made_as (λ room. rw (bytes_first before used g, ← e)) (answer_made before used g p ahead x)

  pub abs_made : (x : Result ℕ Error) → x ≡ magnitude (argument_word (first_of g)) → Gives Abs (answered_as x ahead)
  abs_made x e = made_as (λ room. rw (word_first before used g, ← e)) (answer_made before used g p ahead x)

  pub sgn_made : {n : ℕ} → n ≡ signum (argument_word (first_of g)) → Gives Sgn (Ok (worked.Whole n ahead))
  sgn_made {n} e = made_as (λ room. rw (word_first before used g, ← e)) (answer_made before used g p ahead (Ok n))

  -- FRE: the space that is not live when its argument is let go
  pub free_made : Gives Fre (Ok (worked.Whole (length before - used) ahead))
  free_made =
      record {
        framed = record { long = refl; kept = refl; fits = omega (arith, p.within); short = omega arith };
        agrees = λ room h. let z : used + 0 ≡ used = omega arith in
            let k = rw z at (let_go before used g p ahead before 0 room refl h.limit (omega (arith, h.lives))) in
            let n : room.limit - (let_all_go (values_in g (drop used before)) room).live ≡ length before - used = omega (arith, k.lives, h.limit) in
            rw (n, fit_in (pos (length before - used)) (omega (arith, p.small))) (refl, k);
        goes = refl;
      }

  -- ---- INSTR, of two arguments and of three

  module _ {first second : ℕ} (f : first ≡ argument_length (first_of g)) (s : second ≡ argument_length (second_of g)) where
    pub two_made : {place : ℕ} → are_three g ≡ false
        → place ≡ place_of 1 (take first (drop used before)) (take second (drop (used + first) before))
        → Gives Instr (Ok (worked.Whole place ahead))
    two_made {place} t e =
        let a = bytes_first before used g in let b = bytes_second before used g in
        made_as (λ room. rw (texts_at (drop used before) g, count_three (drop used before) g, t, a, b, ← f, ← s, ← e))
        (answer_made before used g p ahead (Ok place))

    module _ {start : ℕ} (t : are_three g ≡ true) (w : start ≡ argument_word (first_of g)) where
      pub three_refused : within 1 start ≡ false → Gives Instr Illegal
      three_refused n = refused (inside before used g p ahead) (λ room. rw (count_three (drop used before) g, t, first_word before used g p ahead w, n))

      pub three_made : {place third : ℕ} → within 1 start ≡ true → third ≡ argument_length (third_of g)
          → place ≡ place_of start (take second (drop (used + first) before)) (take third (drop (used + first + second) before))
          → Gives Instr (Ok (worked.Whole place ahead))
      three_made {place} y l e =
          let n : used + (first + second) ≡ used + first + second = omega arith in
          let b = bytes_second before used g in let c = bytes_third before used g in
          made_as
          (λ room. rw (texts_at (drop used before) g, count_three (drop used before) g, t, first_word before used g p ahead w, y, b, c, ← f, ← s, ← l, n, ← e))
          (answer_made before used g p ahead (Ok place))

-- ---- the function that is left when all other numbers are told apart

abbrev other_numbers : List ℕ
other_numbers = 2 ∷ 3 ∷ 4 ∷ 5 ∷ 6 ∷ 7 ∷ 9 ∷ 10 ∷ 14 ∷ []

pub last_number : (f : Function) → gives f ≡ kind.Whole → OneOf other_numbers (function_tag f) → f ≡ Fre
last_number Len e h = absurd (miss other_numbers 0 tt h)
last_number Asc e h = absurd (miss other_numbers 1 tt h)
last_number Chr e h = absurd (kinds_apart (sym e))
last_number Left e h = absurd (kinds_apart (sym e))
last_number Right e h = absurd (kinds_apart (sym e))
last_number Mid e h = absurd (kinds_apart (sym e))
last_number Space e h = absurd (kinds_apart (sym e))
last_number String e h = absurd (kinds_apart (sym e))
last_number Instr e h = absurd (miss other_numbers 8 tt h)
last_number Str e h = absurd (kinds_apart (sym e))
last_number Hex e h = absurd (kinds_apart (sym e))
last_number Val e h = absurd (miss other_numbers 11 tt h)
last_number Abs e h = absurd (miss other_numbers 12 tt h)
last_number Sgn e h = absurd (miss other_numbers 13 tt h)
last_number Fre e h = refl
