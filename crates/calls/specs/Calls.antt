-- A call of a function of the code and what came of it, as the function's contract allows. `Post` is made by the toolchain from the
-- `ensures` in the source, and is what it proves of the code: a call of a function without `requires` ends and meets it, whatever is
-- passed. So what holds of all such calls holds of the code.
use Rattle.std.specs.Prelude.{◌≡◌, List, ℕ}
use contract.Lifetimes.{Lfts}
use denote.Triple.Clauses.{Lasts, at_exit}
use borrow.Fn.Kind.{ParamKind, ResultKind}
use borrow.Fn.Kinds.{In, Out, Dens, res_t, ended_of}

-- what is passed, what is answered, and what each `&mut` that was lent holds then
pub record Call {n : ℕ} (parameters : List (ParamKind n)) (result : ResultKind n) (Post : Out n parameters result) : Type 0 where
  pub lifetimes : Lfts n
  pub passed : Dens lifetimes parameters
  pub answer : (res_t result lifetimes).Denot
  pub left : Lasts (ended_of n parameters result) lifetimes passed
  pub allowed : Post lifetimes passed answer (at_exit (ended_of n parameters result) lifetimes passed left)

-- whatever is passed, there is an answer that the contract allows
abbrev pub Always : {n : ℕ} (parameters : List (ParamKind n)) (result : ResultKind n) → Out n parameters result → Type 0
Always {n} parameters result Post =
    (lifetimes : Lfts n) (passed : Dens lifetimes parameters)
    → (answer : (res_t result lifetimes).Denot) × (left : Lasts (ended_of n parameters result) lifetimes passed)
    × Post lifetimes passed answer (at_exit (ended_of n parameters result) lifetimes passed left)

-- two answers that a contract allows to one call are equal, and so is what the lent memory holds after them
abbrev pub Unique : {n : ℕ} (parameters : List (ParamKind n)) (result : ResultKind n) → In n parameters → Out n parameters result → Type 0
Unique {n} parameters result Pre Post =
    (lifetimes : Lfts n) (passed : Dens lifetimes parameters) → Pre lifetimes passed
    → (answer answer' : (res_t result lifetimes).Denot) (left left' : Lasts (ended_of n parameters result) lifetimes passed)
    → Post lifetimes passed answer (at_exit (ended_of n parameters result) lifetimes passed left)
    → Post lifetimes passed answer' (at_exit (ended_of n parameters result) lifetimes passed left')
    → (answer ≡ answer') × (left ≡ left')
