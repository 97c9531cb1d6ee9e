-- An argument that was worked out: whether it is of the type that is wanted, and what it leads to.
use Rattle.std.specs.Prelude.{Result, Ok, Err}
use mathlib.Core.Path.{◌≡◌, refl}
use mathlib.Core.Bool.{Bool, true, false}
use mathlib.Core.List.{List, [], ◌∷◌, ◌++◌}
use Prim.Native.Nat.{ℕ, ◌+◌, ◌<◌}
use native.Mathlib.Omega.{arith}
use lib.Dec.{eqb}
use lib.ListN.{drop}
use Rattle.whole.specs.declared.errors.Error.{Error}
use Rattle.whole.specs.declared.errors.Error.TheVariants.{TypeMismatch}
use Rattle.words.specs.declared.places.Place.{Place}
use Rattle.words.specs.declared.symbols.Function.{Function}
use Rattle.words.specs.declared.symbols.Function.TheVariants.{Len, Asc, Chr, Left, Right, Mid, Space, String, Instr, Str, Hex, Val, Abs, Sgn, Fre}
use Rattle.words.specs.declared.symbols.Scanned.{Scanned}
use Rattle.words.specs.declared.symbols.Sign.TheVariants.{Comma}
use Rattle.words.proofs.Choices.{by_test}
use Rattle.grammar.specs.Tests.{is_symbol}
use Rattle.grammar.specs.Functions.{takes, wants}
use Rattle.grammar.specs.declared.wanting.Want.{Want}
use Rattle.variables.specs.Strings.{Value, whole, text, Room, Outcome, value, fault}
use Rattle.operators.specs.Values as values
use Rattle.operators.specs.Values.{stopped, want_at, tested}
use Rattle.variables.specs.bridge.Memory.{text_length, Held, Agrees, GoesOn}
use Rattle.functions.specs.bridge.Memory.{count_of, with_argument, want_by, meets_want, taken_before, taken_as}
use Rattle.strings.specs.bridge.Memory.{argument_length, argument_in}
use Rattle.strings.specs.declared.arguments.Argument.{Argument}
use Rattle.strings.specs.declared.arguments.Argument.TheVariants as argument
use Rattle.strings.specs.declared.arguments.Given.{Given}
use Rattle.functions.specs.declared.arguments.Taken.{Taken}
use Rattle.functions.specs.declared.arguments.Taken.TheVariants as taken
use Rattle.variables.specs.declared.values.Worked.{Worked}
use Rattle.variables.specs.declared.values.Worked.TheVariants as worked
use Rattle.formulas.proofs.Growing.{meets_same}
use Rattle.formulas.proofs.Wants.{want_by_lem}

-- ---- what is wanted at a place

-- only of INSTR it goes by whether there are three
pub want_told : (f : Function) (three : Bool) (n place : ℕ) → takes f n ≡ true → place < n → (f ≡ Instr → three ≡ eqb n 3)
    → want_at (wants f n) place ≡ want_by f three place
want_told Len three n place t h k = want_by_lem Len n place t h
want_told Asc three n place t h k = want_by_lem Asc n place t h
want_told Chr three n place t h k = want_by_lem Chr n place t h
want_told Left three n place t h k = want_by_lem Left n place t h
want_told Right three n place t h k = want_by_lem Right n place t h
want_told Mid three n place t h k = want_by_lem Mid n place t h
want_told Space three n place t h k = want_by_lem Space n place t h
want_told String three n place t h k = want_by_lem String n place t h
want_told Instr three n place t h k = rw (k refl) (want_by_lem Instr n place t h)
want_told Str three n place t h k = want_by_lem Str n place t h
want_told Hex three n place t h k = want_by_lem Hex n place t h
want_told Val three n place t h k = want_by_lem Val n place t h
want_told Abs three n place t h k = want_by_lem Abs n place t h
want_told Sgn three n place t h k = want_by_lem Sgn n place t h
want_told Fre three n place t h k = want_by_lem Fre n place t h

-- ---- one argument that was worked out

abbrev pub argument_of : Result Worked Error → Argument
argument_of (Ok (worked.Whole w t)) = argument.Whole w
argument_of (Ok (worked.Text n t)) = argument.Text n
argument_of (Err e) = argument.Whole 0

-- its value, and the room that is left
pub record Worth (a : Argument) (space : List ℕ) (live : ℕ) (o : Outcome) : Type 0 where
  pub room : Room
  pub is : o ≡ value (argument_in a (drop live space)) room
  pub held : Held room space (live + argument_length a)

abbrev pub Fine : Result Worked Error → Type 0
Fine (Ok (worked.Whole w t)) = Unit {0}
Fine (Ok (worked.Text n t)) = Unit {0}
Fine (Err e) = ⊥

pub worth : (r : Result Worked Error) (space : List ℕ) (live : ℕ) (o : Outcome) → Fine r → Agrees r space live o → Worth (argument_of r) space live o
worth (Ok (worked.Whole w t)) space live (value (whole v) room) f (e, h) =
    record { room = room; is = rw e refl; held = record { limit = h.limit; lives = omega (arith, h.lives) } }
worth (Ok (worked.Text n t)) space live (value (text b) room) f (e, (l, h)) = record { room = room; is = rw e refl; held = h }
worth (Ok (worked.Whole w t)) space live (value (text b) room) f x7 = elim x7 [ ]
worth (Ok (worked.Whole w t)) space live (fault _ _) f x7 = elim x7 [ ]
worth (Ok (worked.Text n t)) space live (value (whole v) room) f x6 = elim x6 [ ]
worth (Ok (worked.Text n t)) space live (fault _ _) f x7 = elim x7 [ ]
worth (Err _) space live o f _ = elim f [ ]

-- ---- what it leads to

module _ (function : Function) (three : Bool) (had : Given) where
  abbrev pub Wanted : Want
  Wanted = want_by function three (count_of had)

  -- its own error, or its type is not the one that is wanted
  abbrev pub Refusal : Result Worked Error → Error → Type 0
  Refusal (Ok (worked.Whole w t)) e = (meets_want Wanted (argument.Whole w) ≡ false) × (e ≡ TypeMismatch)
  Refusal (Ok (worked.Text n t)) e = (meets_want Wanted (argument.Text n) ≡ false) × (e ≡ TypeMismatch)
  Refusal (Err x) e = x ≡ e

  -- it is one more, and a comma follows or not
  pub record Taking (r : Result Worked Error) (at : Scanned) (comma : Bool) (has : Given) (next : Place) : Type 0 where
    pub fine : Fine r
    pub long : text_length r ≡ argument_length (argument_of r)
    pub meets : meets_want Wanted (argument_of r) ≡ true
    pub follows : is_symbol Comma at.token ≡ comma
    pub grown : has ≡ with_argument had (argument_of r)
    pub begins : next ≡ at.next

  abbrev Met : Result Worked Error → Scanned → Result Taken Error → Type 0
  Met r at (Err e) = Refusal r e
  Met r at (Ok (taken.All has next)) = Taking r at false has next
  Met r at (Ok (taken.More has next)) = Taking r at true has next

  met_by : (r : Result Worked Error) (at : Scanned) → Fine r → text_length r ≡ argument_length (argument_of r)
      → (meets_want Wanted (argument_of r) ≡ false → Refusal r TypeMismatch)
      → Met r at (taken_before Wanted had (argument_of r) at)
  met_by r at f l refuse =
      by_test (meets_want Wanted (argument_of r))
      (λ m. rw m
      (by_test (is_symbol Comma at.token)
      (λ c. rw c (record { fine = f; long = l; meets = m; follows = c; grown = refl; begins = refl }))
      (λ c. rw c (record { fine = f; long = l; meets = m; follows = c; grown = refl; begins = refl }))))
      (λ m. rw m (refuse m))

  met : (r : Result Worked Error) (at : Scanned) → GoesOn r at → Met r at (taken_as function three had r)
  met (Ok (worked.Whole w t)) at g = rw g (met_by (Ok (worked.Whole w at)) at tt refl (λ m. (m, refl)))
  met (Ok (worked.Text n t)) at g = rw g (met_by (Ok (worked.Text n at)) at tt refl (λ m. (m, refl)))
  met (Err e) at g = refl

  module _ (r : Result Worked Error) (at : Scanned) (g : GoesOn r at) {x : Result Taken Error} (h : x ≡ taken_as function three had r) where
    met_so : Met r at x
    met_so = rw h (met r at g)

    pub taken_fault : {e : Error} → x ≡ Err e → Refusal r e
    taken_fault e = rw e at met_so

    pub taken_all : {has : Given} {next : Place} → x ≡ Ok (taken.All has next) → Taking r at false has next
    taken_all e = rw e at met_so

    pub taken_more : {has : Given} {next : Place} → x ≡ Ok (taken.More has next) → Taking r at true has next
    taken_more e = rw e at met_so

-- ---- the definition's test of it

pub record Stopped (e : Error) (x : values.Taken) : Type 0 where
  pub left : Room
  pub is : x ≡ stopped e left

module _ (w : Want) (vs : List Value) (space : List ℕ) (live : ℕ) where
  -- what does not meet the want stops the list
  unmet : (a : Argument) (o : Outcome) → Worth a space live o → meets_want w a ≡ false → Stopped TypeMismatch (tested w vs o)
  unmet a o k m = record { left = k.room; is = rw (k.is, meets_same w a (drop live space), m) refl }

  pub refused : (function : Function) (three : Bool) (had : Given) (r : Result Worked Error) (o : Outcome) (e : Error) → w ≡ want_by function three (count_of had)
      → Agrees r space live o → Refusal function three had r e → Stopped e (tested w vs o)
  refused function three had (Ok (worked.Whole x t)) o e i a (m, f) =
      rw f (unmet (argument.Whole x) o (worth (Ok (worked.Whole x t)) space live o tt a) (rw i m))
  refused function three had (Ok (worked.Text n t)) o e i a (m, f) =
      rw f (unmet (argument.Text n) o (worth (Ok (worked.Text n t)) space live o tt a) (rw i m))
  refused function three had (Err x) (fault y room) e i a f = record { left = room; is = rw (← a, f) refl }
  refused function three had (Err x) (value _ _) e i a f = elim a [ ]

  -- what does is the next one
  pub met_next : (a : Argument) (o : Outcome) (k : Worth a space live o) → meets_want w a ≡ true
      → tested w vs o ≡ values.taken (vs ++ (argument_in a (drop live space) ∷ [])) k.room
  met_next a o k m = rw (k.is, meets_same w a (drop live space), m) refl
