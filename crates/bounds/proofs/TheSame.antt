-- What `specs/Calls.antt` writes out is what the toolchain made of the contracts: a contract that says less breaks its line.
use mathlib.Core.Path.{◌≡◌, refl}
use contract.Lifetimes.{Lfts}
use denote.Triple.Entry.{Args, Res}
use denote.Triple.Clauses.{AtExit}
use Rattle.bounding.specs.contracts as bounding
use Rattle.bounding.proofs as made_bounding
use Rattle.bounds.specs.Calls.{BoundAllows}

pub bound_of : (κs : Lfts bounding.bound_of.signature.lifetimes) (a : Args bounding.bound_of.signature κs) (r : Res bounding.bound_of.signature κs) (e : AtExit bounding.bound_of.ended κs)
    → made_bounding.bound_of.Reads.Post κs a r e ≡ BoundAllows κs a r e
bound_of κs a r e = refl
