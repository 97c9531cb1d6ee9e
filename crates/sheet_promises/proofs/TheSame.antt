-- What `specs/Calls.antt` writes out is what the toolchain made of the contracts: a contract that says less breaks its line.
use mathlib.Core.Path.{◌≡◌, refl}
use contract.Lifetimes.{Lfts}
use denote.Triple.Entry.{Args, Res}
use denote.Triple.Clauses.{AtExit}
use Rattle.sheet.specs.contracts as sheet
use Rattle.sheet.proofs as made_sheet
use Rattle.sheet_promises.specs.Calls.{BeginAllows, TakeAllows, FinishAllows}

pub begin : (κs : Lfts sheet.begin.signature.lifetimes) (a : Args sheet.begin.signature κs) (r : Res sheet.begin.signature κs) (e : AtExit sheet.begin.ended κs)
    → made_sheet.begin.Reads.Post κs a r e ≡ BeginAllows κs a r e
begin κs a r e = refl

pub take : (κs : Lfts sheet.take.signature.lifetimes) (a : Args sheet.take.signature κs) (r : Res sheet.take.signature κs) (e : AtExit sheet.take.ended κs)
    → made_sheet.take.Reads.Post κs a r e ≡ TakeAllows κs a r e
take κs a r e = refl

pub finish : (κs : Lfts sheet.finish.signature.lifetimes) (a : Args sheet.finish.signature κs) (r : Res sheet.finish.signature κs) (e : AtExit sheet.finish.ended κs)
    → made_sheet.finish.Reads.Post κs a r e ≡ FinishAllows κs a r e
finish κs a r e = refl
