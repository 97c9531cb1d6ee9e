-- The arguments by their places, as the definition reads them, and what is left when they are let go.
use mathlib.Core.Path.{◌≡◌, refl, ap, ◌∙◌}
use mathlib.Core.Bool.{cond}
use mathlib.Core.List.{List}
use Prim.Native.Nat.{ℕ, ◌+◌, ◌-◌, ◌≤◌}
use native.Mathlib.Omega.{arith}
use lib.Dec.{eqb}
use lib.ListN.{length, take, drop, length-drop}
use lib.Seq.{length-take-le, drop-drop}
use Rattle.variables.specs.Strings.{Room, let_go, let_all_go}
use Rattle.strings.specs.Functions as definition
use Rattle.strings.specs.Functions.{word_in, bytes_in, word, bytes}
use Rattle.strings.specs.bridge.Memory.{argument_length, argument_word, argument_in, first_of, second_of, third_of, are_three, given_length, values_in}
use Rattle.strings.specs.declared.arguments.Argument.{Argument}
use Rattle.strings.specs.declared.arguments.Argument.TheVariants as argument
use Rattle.strings.specs.declared.arguments.Given.{Given}
use Rattle.strings.specs.declared.arguments.Given.TheVariants as goal

-- ---- one argument

module _ (s : List ℕ) where
  word_in_lem : (a : Argument) → word_in (argument_in a s) ≡ argument_word a
  word_in_lem (argument.Whole w) = refl
  word_in_lem (argument.Text n) = refl

  bytes_in_lem : (a : Argument) → bytes_in (argument_in a s) ≡ take (argument_length a) s
  bytes_in_lem (argument.Whole w) = refl
  bytes_in_lem (argument.Text n) = refl

-- ---- the three places

module _ (s : List ℕ) where
  value_first : (g : Given) → definition.argument (values_in g s) 0 ≡ argument_in (first_of g) s
  unfolding definition.argument
  value_first goal.None = refl
  value_first (goal.One a) = refl
  value_first (goal.Two a b) = refl
  value_first (goal.Three a b c) = refl

  pub value_second : (g : Given) → definition.argument (values_in g s) 1 ≡ argument_in (second_of g) (drop (argument_length (first_of g)) s)
  unfolding definition.argument
  value_second goal.None = refl
  value_second (goal.One a) = refl
  value_second (goal.Two a b) = refl
  value_second (goal.Three a b c) = refl

  value_third : (g : Given) → definition.argument (values_in g s) 2
      ≡ argument_in (third_of g) (drop (argument_length (first_of g) + argument_length (second_of g)) s)
  unfolding definition.argument
  value_third goal.None = refl
  value_third (goal.One a) = refl
  value_third (goal.Two a b) = refl
  value_third (goal.Three a b c) = refl

-- the same of arguments whose texts stand in the space
module _ (space : List ℕ) (used : ℕ) (g : Given) where
  abbrev s : List ℕ
  s = drop used space

  pub word_first : word (values_in g (drop used space)) 0 ≡ argument_word (first_of g)
  word_first = ap word_in (value_first s g) ∙ word_in_lem s (first_of g)

  pub word_second : word (values_in g (drop used space)) 1 ≡ argument_word (second_of g)
  word_second = ap word_in (value_second s g) ∙ word_in_lem _ (second_of g)

  pub word_third : word (values_in g (drop used space)) 2 ≡ argument_word (third_of g)
  word_third = ap word_in (value_third s g) ∙ word_in_lem _ (third_of g)

  pub bytes_first : bytes (values_in g (drop used space)) 0 ≡ take (argument_length (first_of g)) (drop used space)
  bytes_first = ap bytes_in (value_first s g) ∙ bytes_in_lem s (first_of g)

  pub bytes_second : bytes (values_in g (drop used space)) 1
      ≡ take (argument_length (second_of g)) (drop (used + argument_length (first_of g)) space)
  bytes_second = ap bytes_in (value_second s g) ∙ bytes_in_lem _ (second_of g) ∙ rw drop-drop

  pub bytes_third : bytes (values_in g (drop used space)) 2
      ≡ take (argument_length (third_of g)) (drop (used + (argument_length (first_of g) + argument_length (second_of g))) space)
  bytes_third = ap bytes_in (value_third s g) ∙ bytes_in_lem _ (third_of g) ∙ rw drop-drop

-- ---- their number

module _ (s : List ℕ) where
  pub count_three : (g : Given) → eqb (length (values_in g s)) 3 ≡ are_three g
  count_three goal.None = refl
  count_three (goal.One a) = refl
  count_three (goal.Two a b) = refl
  count_three (goal.Three a b c) = refl

  -- INSTR's two texts are the last of three arguments, or the first
  pub texts_at : (g : Given) → length (values_in g s) - 2 ≡ cond (are_three g) 1 0
  texts_at goal.None = refl
  texts_at (goal.One a) = refl
  texts_at (goal.Two a b) = refl
  texts_at (goal.Three a b c) = refl

-- ---- letting go

module _ (room : Room) where
  gone_limit : (a : Argument) (s : List ℕ) → (let_go (argument_in a s) room).limit ≡ room.limit
  unfolding let_go
  gone_limit (argument.Whole w) s = refl
  gone_limit (argument.Text n) s = refl

  gone_live : (a : Argument) (s : List ℕ) → argument_length a ≤ length s → (let_go (argument_in a s) room).live ≡ room.live - argument_length a
  unfolding let_go
  gone_live (argument.Whole w) s h = omega arith
  gone_live (argument.Text n) s h = rw (length-take-le n s h)

-- a room with so many bytes live beside the arguments' is left with those
pub record Left (before : Room) (live : ℕ) (after : Room) : Type 0 where
  pub limit : after.limit ≡ before.limit
  pub lives : after.live ≡ live

module _ (s : List ℕ) (room : Room) (live : ℕ) where
  pub all_gone : (g : Given) → given_length g ≤ length s → room.live ≡ live + given_length g → Left room live (let_all_go (values_in g s) room)
  unfolding let_all_go
  all_gone goal.None h e = record { limit = refl; lives = omega arith }
  all_gone (goal.One a) h e =
      let l = gone_live room a s (omega arith) in
      record { limit = gone_limit room a s; lives = omega arith }
  all_gone (goal.Two a b) h e =
      let d = length-drop (argument_length a) s in
      let r = let_go (argument_in a s) room in
      let l = gone_live room a s (omega arith) in
      let m = gone_live r b (drop (argument_length a) s) (omega arith) in
      record { limit = gone_limit r b (drop (argument_length a) s) ∙ gone_limit room a s; lives = omega arith }
  all_gone (goal.Three a b c) h e =
      let t = drop (argument_length a) s in
      let u = drop (argument_length a + argument_length b) s in
      let d = length-drop (argument_length a) s in
      let f = length-drop (argument_length a + argument_length b) s in
      let r = let_go (argument_in a s) room in
      let q = let_go (argument_in b t) r in
      let l = gone_live room a s (omega arith) in
      let m = gone_live r b t (omega arith) in
      let n = gone_live q c u (omega arith) in
      record { limit = gone_limit q c u ∙ gone_limit r b t ∙ gone_limit room a s; lives = omega arith }
