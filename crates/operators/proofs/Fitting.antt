-- What an operator makes of both sides is a text that is short enough and lies in the space, and it goes on where the right side does.
use Rattle.std.specs.Prelude.{Err, Ok, Result, ℕ}
use Rattle.whole.specs.declared.errors.Error.{Error}
use mathlib.Core.Path.{◌≡◌, refl, sym, ap, ◌∙◌}
use mathlib.Core.Bool.{not}
use mathlib.Core.List.{List, [], ◌∷◌, ◌++◌}
use Prim.Native.Nat.{ℕ, ◌+◌, ◌≤◌}
use native.Mathlib.Omega.{arith}
use borrow.Author.Tests.{ltb-false}
use lib.Dec.{ltb}
use lib.ListN.{length, take, drop, length-drop, length-take}
use Rattle.whole.specs.Whole.{applied, say}
use Rattle.whole.specs.declared.arithmetic.Operator.{Operator}
use Rattle.whole.specs.declared.arithmetic.Operator.TheVariants as operator
use Rattle.whole.specs.Texts.{longest_string}
use Rattle.words.specs.Spellings.{same_bytes}
use Rattle.words.specs.declared.symbols.Scanned.{Scanned}
use Rattle.words.proofs.Choices.{by_test}
use Rattle.variables.specs.Strings.{Value, whole, text, Room, Outcome, value, fault, make, produced}
use Rattle.strings.specs.Functions.{answered}
use Rattle.operators.specs.Values.{is_before, on_texts, joined}
use Rattle.variables.specs.bridge.Memory.{text_length, Held, Agrees, GoesOn}
use Rattle.operators.specs.bridge.Memory.{RightMet, SidesMet}
use Rattle.variables.specs.declared.values.Worked.{Worked}
use Rattle.variables.specs.declared.values.Worked.TheVariants as worked

-- ---- an answer that agrees has its text within the space

-- a text that is no longer than a string can be
abbrev Short : Outcome → Type 0
Short (value (whole w) room) = Unit {0}
Short (value (text b) room) = length b ≤ longest_string
Short (fault e room) = Unit {0}

taken_whole : (l : List ℕ) (n : ℕ) → n ≡ length (take n l) → n ≤ length l
taken_whole l n e = let h = length-take n l in omega arith

agrees_fits : (r : Result Worked Error) (space : List ℕ) (used : ℕ) (o : Outcome) → used ≤ length space → Agrees r space used o
    → used + text_length r ≤ length space
agrees_fits (Ok (worked.Whole w t)) space used o h a = omega arith
agrees_fits (Ok (worked.Text n t)) space used (value (text b) room) h (e, (l, k)) =
    let i = taken_whole (drop used space) n (l ∙ ap length (sym e)) in let d = length-drop used space in omega arith
agrees_fits (Err e) space used o h a = omega arith
agrees_fits (Ok (worked.Text n t)) space used (value (whole _) room) h a = elim a [ ]
agrees_fits (Ok (worked.Text n t)) space used (fault _ _) h a = elim a [ ]

agrees_short : (r : Result Worked Error) (space : List ℕ) (used : ℕ) (o : Outcome) → Short o → Agrees r space used o → text_length r ≤ longest_string
agrees_short (Ok (worked.Whole w t)) space used o h a = omega arith
agrees_short (Ok (worked.Text n t)) space used (value (text b) room) h (e, (l, k)) = omega arith
agrees_short (Err e) space used o h a = omega arith
agrees_short (Ok (worked.Text n t)) space used (value (whole _) room) h a = elim a [ ]
agrees_short (Ok (worked.Text n t)) space used (fault _ _) h a = elim a [ ]

-- what operators and functions make is short
produced_short : (bytes : List ℕ) (operands : List Value) (room : Room) → Short (produced bytes operands room)
unfolding produced make
produced_short bytes operands room =
    by_test (ltb longest_string (length bytes))
    (λ e. rw e tt)
    λ e. rw e
    (by_test (ltb room.limit (room.live + length bytes)) (λ f. rw f tt) (λ f. rw f (ltb-false longest_string (length bytes) e)))

answered_short : (a : Result ℕ Error) (operands : List Value) (room : Room) → Short (answered a operands room)
answered_short (Ok w) operands room = tt
answered_short (Err e) operands room = tt

on_texts_short : (op : Operator) (a b : List ℕ) (room : Room) → Short (on_texts op a b room)
on_texts_short operator.Multiply a b room = tt
on_texts_short operator.Divide a b room = tt
on_texts_short operator.Modulo a b room = tt
on_texts_short operator.Add a b room = produced_short (a ++ b) (text a ∷ text b ∷ []) room
on_texts_short operator.Subtract a b room = tt
on_texts_short operator.Equal a b room = answered_short (say (same_bytes a b)) (text a ∷ text b ∷ []) room
on_texts_short operator.Unequal a b room = answered_short (say (not (same_bytes a b))) (text a ∷ text b ∷ []) room
on_texts_short operator.Less a b room = answered_short (say (is_before a b)) (text a ∷ text b ∷ []) room
on_texts_short operator.Greater a b room = answered_short (say (is_before b a)) (text a ∷ text b ∷ []) room
on_texts_short operator.AtMost a b room = answered_short (say (not (is_before b a))) (text a ∷ text b ∷ []) room
on_texts_short operator.AtLeast a b room = answered_short (say (not (is_before a b))) (text a ∷ text b ∷ []) room
on_texts_short operator.And a b room = tt
on_texts_short operator.Or a b room = tt
on_texts_short operator.Xor a b room = tt
on_texts_short operator.Eqv a b room = tt
on_texts_short operator.Imp a b room = tt

joined_short : (op : Operator) (a b : Value) (room : Room) → Short (joined op a b room)
joined_short op (whole a) (whole b) room = answered_short (applied op a b) [] room
joined_short op (whole a) (text b) room = tt
joined_short op (text a) (whole b) room = tt
joined_short op (text a) (text b) room = on_texts_short op a b room

-- ---- what is made of both sides is short, fits, and goes on where the right side does

-- a room that holds
abbrev room_of : List ℕ → ℕ → Room
room_of space live = record { limit = length space; live = live; unfinished = 0; highest = 0 }

pub record Stands (space : List ℕ) (used : ℕ) (r : Result Worked Error) (u : Scanned) : Type 0 where
  pub fits : used + text_length r ≤ length space
  pub short : text_length r ≤ longest_string
  pub goes : GoesOn r u

module _ (op : Operator) (space : List ℕ) (used : ℕ) (h : used ≤ length space) (r : Result Worked Error) (u : Scanned) where
  made_stands : (a b : Value) (live : ℕ) → ((room : Room) → Held room space live → Agrees r space used (joined op a b room)) → GoesOn r u
      → Stands space used r u
  made_stands a b live m g =
      let room = room_of space live in
      let k = m room (record { limit = refl; lives = refl }) in
      record {
        fits = agrees_fits r space used (joined op a b room) h k;
        short = agrees_short r space used (joined op a b room) (joined_short op a b room) k;
        goes = g;
      }

  right_stands : (a : Value) (next : ℕ) (right : Result Worked Error) → GoesOn right u → RightMet op a next right space used r → Stands space used r u
  right_stands a next (Ok (worked.Whole b t)) g m = made_stands a (whole b) next m.0 (rw g at m.1)
  right_stands a next (Ok (worked.Text n t)) g m = made_stands a (text (take n (drop next space))) (next + n) m.0 (rw g at m.1)
  right_stands a next (Err e) g m = rw m (record { fits = omega arith; short = omega arith; goes = tt })

  pub sides_stand : (left right : Result Worked Error) → GoesOn right u → SidesMet op left right space used r → Stands space used r u
  sides_stand (Ok (worked.Whole a t)) right g m = right_stands (whole a) used right g m
  sides_stand (Ok (worked.Text n t)) right g m = right_stands (text (take n (drop used space))) (used + n) right g m
  sides_stand (Err e) right g m = rw m (record { fits = omega arith; short = omega arith; goes = tt })
