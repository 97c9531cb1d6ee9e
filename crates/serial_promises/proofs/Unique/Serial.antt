-- The public functions of `serial`.
use mathlib.Core.Path.{refl, ap}
use Rattle.serial.specs.Receiving.{Held, Ended}
use Rattle.serial.proofs as serial
use Rattle.serial_promises.specs.Calls.{Unique}
use Rattle.serial_promises.proofs.Unique.{same, pair}

pub begin : Unique serial.begin.Kinds.ps serial.begin.Kinds.r serial.begin.Reads.Pre serial.begin.Reads.Post
begin κs a p z z' ws ws' e e' = (same e e', refl)

pub take : Unique serial.take.Kinds.ps serial.take.Kinds.r serial.take.Reads.Pre serial.take.Reads.Post
take κs a p z z' ws ws' e e' =
    (ap (λ (h : Held). h.receipt) (same e e'), pair refl (pair (ap (λ (h : Held). h.buffer) (same e e')) refl))

pub finish : Unique serial.finish.Kinds.ps serial.finish.Kinds.r serial.finish.Reads.Pre serial.finish.Reads.Post
finish κs a p z z' ws ws' e e' =
    (ap (λ (h : Ended). h.answer) (same e e'), pair refl (pair (ap (λ (h : Ended). h.left) (same e e')) refl))
