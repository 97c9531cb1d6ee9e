-- What `specs/Calls.antt` writes out is what the toolchain made of the contracts: a contract that says less breaks its line.
use mathlib.Core.Path.{◌≡◌, refl}
use contract.Lifetimes.{Lfts}
use denote.Triple.Entry.{Args, Res}
use denote.Triple.Clauses.{AtExit}
use Rattle.serial.specs.contracts as serial
use Rattle.host.specs.contracts as host
use Rattle.serial.proofs as made_serial
use Rattle.host.proofs as made_host
use Rattle.serial_promises.specs.Calls.{BeginAllows, TakeAllows, FinishAllows, BeginBoxAllows, TakeBoxAllows, FinishBoxAllows}

pub begin : (κs : Lfts serial.begin.signature.lifetimes) (a : Args serial.begin.signature κs) (r : Res serial.begin.signature κs) (e : AtExit serial.begin.ended κs)
    → made_serial.begin.Reads.Post κs a r e ≡ BeginAllows κs a r e
begin κs a r e = refl

pub take : (κs : Lfts serial.take.signature.lifetimes) (a : Args serial.take.signature κs) (r : Res serial.take.signature κs) (e : AtExit serial.take.ended κs)
    → made_serial.take.Reads.Post κs a r e ≡ TakeAllows κs a r e
take κs a r e = refl

pub finish : (κs : Lfts serial.finish.signature.lifetimes) (a : Args serial.finish.signature κs) (r : Res serial.finish.signature κs) (e : AtExit serial.finish.ended κs)
    → made_serial.finish.Reads.Post κs a r e ≡ FinishAllows κs a r e
finish κs a r e = refl

pub quernhem_begin : (κs : Lfts host.quernhem_begin.signature.lifetimes) (a : Args host.quernhem_begin.signature κs) (r : Res host.quernhem_begin.signature κs) (e : AtExit host.quernhem_begin.ended κs)
    → made_host.quernhem_begin.Reads.Post κs a r e ≡ BeginBoxAllows κs a r e
quernhem_begin κs a r e = refl

pub quernhem_take : (κs : Lfts host.quernhem_take.signature.lifetimes) (a : Args host.quernhem_take.signature κs) (r : Res host.quernhem_take.signature κs) (e : AtExit host.quernhem_take.ended κs)
    → made_host.quernhem_take.Reads.Post κs a r e ≡ TakeBoxAllows κs a r e
quernhem_take κs a r e = refl

pub quernhem_finish : (κs : Lfts host.quernhem_finish.signature.lifetimes) (a : Args host.quernhem_finish.signature κs) (r : Res host.quernhem_finish.signature κs) (e : AtExit host.quernhem_finish.ended κs)
    → made_host.quernhem_finish.Reads.Post κs a r e ≡ FinishBoxAllows κs a r e
quernhem_finish κs a r e = refl
