-- A formula of a type comes to a value of that type, or to an error that is none of 2, 8, 13 and 16.
use mathlib.Core.Path.{◌≡◌, refl}
use mathlib.Core.Bool.{Bool, true, false, false≢true}
use mathlib.Core.List.{List, [], ◌∷◌, ◌++◌, append_assoc, append-nil}
use native.Mathlib.Omega.{arith}
use lib.ListN.{length, length-append}
use Rattle.whole.specs.Whole.{negated}
use Rattle.words.specs.declared.names.Kind.{Kind}
use Rattle.words.specs.declared.names.Kind.TheVariants as kind
use Rattle.words.specs.Names.{Telling}
use Rattle.words.specs.declared.symbols.Function.{Function}
use Rattle.words.proofs.Choices.{both}
use Rattle.grammar.specs.Trees.{Formula, number, variable, text, inside, minus, complement, two_sided, call, Arguments, none, also}
use Rattle.grammar.specs.Functions.{wants, gives}
use Rattle.grammar.specs.Formulas.{count_of}
use Rattle.expressions.specs.Types.{of_kind, meets, all_meet, call_gives, sort_of, sorts_of}
use Rattle.grammar.specs.declared.wanting.Want.{Want}
use Rattle.grammar.specs.declared.wanting.Want.TheVariants as want
use Rattle.expressions.specs.declared.sorts.Sort.{Sort}
use Rattle.expressions.specs.declared.sorts.Sort.TheVariants.{Whole, Text, Wrong}
use Rattle.variables.specs.Strings as strings
use Rattle.variables.specs.Strings.{Value, Room, Outcome, value, fault}
use Rattle.variables.specs.Variables.{Variables, bytes_of}
use Rattle.strings.specs.Functions.{called}
use Rattle.operators.specs.Values as values
use Rattle.operators.specs.Values.{variable_value, want_at, Taken, taken, stopped, tested, further, result, value_of, values_of}
use Rattle.promises.proofs.Checked.Operators.{Allowed, Fits, fault_fits, fit_answers, answered_fits, make_fits, sign_fits, sides_fit, called_fits}

-- ---- arguments

-- each argument is what is wanted at its place
unfoldable Meets : List Want → Arguments → Type 0
Meets ws none = Unit {0}
Meets ws (also a f) = Meets ws a × (meets (want_at ws (count_of a)) (sort_of f) ≡ true)

meets_at : (ws : List Want) (before : List Sort) (s : Sort) (rest : List Sort) → all_meet ws (before ++ (s ∷ rest)) ≡ true
    → meets (want_at ws (length before)) s ≡ true
unfolding all_meet want_at
meets_at [] [] s rest e = absurd (false≢true e)
meets_at [] (x ∷ before) s rest e = absurd (false≢true e)
meets_at (w ∷ ws) [] s rest e = (both (meets w s) (all_meet ws rest) e).0
meets_at (w ∷ ws) (x ∷ before) s rest e = meets_at ws before s rest (both (meets w x) (all_meet ws (before ++ (s ∷ rest))) e).1

-- there are as many types as arguments
count_sorts : (a : Arguments) → length (sorts_of a) ≡ count_of a
unfolding count_of sort_of
count_sorts none = refl
count_sorts (also a f) = rw (length-append, count_sorts a) (omega arith)

meets_front : (a : Arguments) (ws : List Want) (rest : List Sort) → all_meet ws (sorts_of a ++ rest) ≡ true → Meets ws a
unfolding Meets sort_of
meets_front none ws rest e = tt
meets_front (also a f) ws rest e =
    let h : all_meet ws (sorts_of a ++ (sort_of f ∷ rest)) ≡ true = rw append_assoc at e in
    (meets_front a ws (sort_of f ∷ rest) h, rw (← (count_sorts a)) (meets_at ws (sorts_of a) (sort_of f) rest h))

all_meet_lem : (a : Arguments) (ws : List Want) → all_meet ws (sorts_of a) ≡ true → Meets ws a
all_meet_lem a ws e = meets_front a ws [] (rw append-nil e)

-- they are worked out, or stop at an error
abbrev Gains : Taken → Type 0
Gains (taken vs room) = Unit {0}
Gains (stopped e room) = Allowed e

further_gains : (t : Taken) (go : List Value → Room → Taken) → Gains t → ((vs : List Value) (room : Room) → Gains (go vs room))
    → Gains (further t go)
further_gains (taken vs room) go h k = k vs room
further_gains (stopped e room) go h k = h

value-meets : (w : Want) (s : Sort) (v : Value) (room : Room) → meets w s ≡ true → Fits s (value v room) → values.meets w v ≡ true
value-meets want.Whole Whole (strings.whole x) room e h = refl
value-meets want.Whole Whole (strings.text b) room e h = absurd h
value-meets want.Whole Text v room e h = absurd (false≢true e)
value-meets want.Whole Wrong v room e h = absurd (false≢true e)
value-meets want.Text Whole v room e h = absurd (false≢true e)
value-meets want.Text Text (strings.whole x) room e h = absurd h
value-meets want.Text Text (strings.text b) room e h = refl
value-meets want.Text Wrong v room e h = absurd (false≢true e)
value-meets want.Either s v room e h = refl

never_wrong : (w : Want) → meets w Wrong ≡ true → ⊥
never_wrong want.Whole e = false≢true e
never_wrong want.Text e = false≢true e
never_wrong want.Either e = false≢true e

tested_gains : (w : Want) (s : Sort) (before : List Value) (o : Outcome) → meets w s ≡ true → Fits s o → Gains (tested w before o)
tested_gains w s before (value v room) e h = rw (value-meets w s v room e h) tt
tested_gains w Whole before (fault x room) e h = h
tested_gains w Text before (fault x room) e h = h
tested_gains w Wrong before (fault x room) e h = absurd (never_wrong w e)

call_fits : (f : Function) (fits : Bool) (t : Taken) → (fits ≡ true → Gains t) → Fits (call_gives f fits) (result t (λ vs after. called f vs after))
call_fits f true (taken vs room) h = called_fits f vs room
call_fits f true (stopped e room) h = fault_fits (of_kind (gives f)) e room (h refl)
call_fits f false t h = tt

-- ---- formulas

variable_fits : (k : Kind) (name : Telling) (vars : Variables) (room : Room) → Fits (of_kind k) (variable_value k name vars room)
variable_fits kind.Whole name vars room = tt
variable_fits kind.Text name vars room = make_fits (bytes_of vars.strings name) room

mutual
  unfolding value_of sort_of Meets

  pub formula_fits : (f : Formula) (vars : Variables) (room : Room) → Fits (sort_of f) (value_of f vars room)
  formula_fits (number w) vars room = tt
  formula_fits (variable k name) vars room = variable_fits k name vars room
  formula_fits (text b) vars room = make_fits b room
  formula_fits (inside f) vars room = formula_fits f vars room
  formula_fits (minus f) vars room =
      sign_fits (sort_of f) (value_of f vars room) _ (formula_fits f vars room)
      (λ w after. answered_fits (negated w) [] after (fit_answers _))
  formula_fits (complement f) vars room = sign_fits (sort_of f) (value_of f vars room) _ (formula_fits f vars room) (λ w after. tt)
  formula_fits (two_sided op f g) vars room =
      sides_fit op (sort_of f) (sort_of g) (value_of f vars room) _ (formula_fits f vars room) (λ after. formula_fits g vars after)
  formula_fits (call f a) vars room =
      let ws = wants f (count_of a) in
      call_fits f (all_meet ws (sorts_of a)) (values_of a ws vars room) (λ e. arguments_gain a ws vars room (all_meet_lem a ws e))

  arguments_gain : (a : Arguments) (ws : List Want) (vars : Variables) (room : Room) → Meets ws a → Gains (values_of a ws vars room)
  arguments_gain none ws vars room h = tt
  arguments_gain (also a f) ws vars room h =
      further_gains (values_of a ws vars room) _ (arguments_gain a ws vars room h.0)
      (λ vs after. tested_gains (want_at ws (count_of a)) (sort_of f) vs (value_of f vars after) h.1 (formula_fits f vars after))
