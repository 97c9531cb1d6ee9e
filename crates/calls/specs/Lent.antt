-- Calls of a function that is lent a slice of records, by its contract: what the contract allows is written out, so that another contract may
-- name it, and `Says` is that it is what the `ensures` says.
use Rattle.std.specs.Prelude.{◌≡◌}
use seplogic.Ra.Ura.{Ura}
use contract.Lifetimes.{Lfts}
use contract.Monad.{fact}
use denote.Triple.Entry.{Args, Res}
use denote.Triple.Clauses.{Ended, Clauses, Lasts, AtExit, at_exit}

-- what a contract allows: of what is passed, the answer, and what is seen of the parameters at exit
abbrev pub Allows : Ended → Type 1
Allows T = (lifetimes : Lfts T.signature.lifetimes) → Args T.signature lifetimes → Res T.signature lifetimes → AtExit T lifetimes → Type 0

-- and that is just what the `ensures` says
abbrev pub Says : {M : Type 1} (𝓤 : Ura M) (T : Ended) → Clauses 𝓤 T → Allows T → Type 2
Says 𝓤 T clauses Post =
    (lifetimes : Lfts T.signature.lifetimes) (passed : Args T.signature lifetimes) (ghosts : (clauses lifetimes passed).ghost)
    (answer : Res T.signature lifetimes) (exit : AtExit T lifetimes) → (clauses lifetimes passed).ensures ghosts answer exit ≡ fact 𝓤 (Post lifetimes passed answer exit)

-- what is passed, what is answered, and what each `&mut` that was lent holds then
pub record Call (T : Ended) (Post : Allows T) : Type 0 where
  pub lifetimes : Lfts T.signature.lifetimes
  pub passed : Args T.signature lifetimes
  pub answer : Res T.signature lifetimes
  pub left : Lasts T lifetimes passed
  pub allowed : Post lifetimes passed answer (at_exit T lifetimes passed left)

-- whatever is passed, there is an answer that the contract allows
abbrev pub Always : (T : Ended) → Allows T → Type 0
Always T Post =
    (lifetimes : Lfts T.signature.lifetimes) (passed : Args T.signature lifetimes)
    → (answer : Res T.signature lifetimes) × (left : Lasts T lifetimes passed) × Post lifetimes passed answer (at_exit T lifetimes passed left)

-- two answers that a contract allows to one call are equal, and so is what the lent memory holds after them
abbrev pub Unique : (T : Ended) → Allows T → Type 0
Unique T Post =
    (lifetimes : Lfts T.signature.lifetimes) (passed : Args T.signature lifetimes) (answer answer' : Res T.signature lifetimes)
    (left left' : Lasts T lifetimes passed) → Post lifetimes passed answer (at_exit T lifetimes passed left)
    → Post lifetimes passed answer' (at_exit T lifetimes passed left') → (answer ≡ answer') × (left ≡ left')
