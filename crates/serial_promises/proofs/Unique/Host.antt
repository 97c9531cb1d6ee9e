-- The public functions of `host` for the serial line.
use mathlib.Core.Path.{refl}
use Rattle.host.proofs as host
use Rattle.serial_promises.specs.Calls.{Unique}
use Rattle.serial_promises.proofs.Unique.{same, pair}

pub quernhem_begin : Unique host.quernhem_begin.Kinds.ps host.quernhem_begin.Kinds.r host.quernhem_begin.Reads.Pre host.quernhem_begin.Reads.Post
quernhem_begin κs a p z z' ws ws' e e' =
    (refl, pair refl (pair (same e.receipted e'.receipted) (pair (same e.judged e'.judged) refl)))

pub quernhem_take : Unique host.quernhem_take.Kinds.ps host.quernhem_take.Kinds.r host.quernhem_take.Reads.Pre host.quernhem_take.Reads.Post
quernhem_take κs a p z z' ws ws' e e' =
    (refl, pair (same e.buffered e'.buffered) (pair (same e.receipted e'.receipted) (pair refl refl)))

pub quernhem_finish : Unique host.quernhem_finish.Kinds.ps host.quernhem_finish.Kinds.r host.quernhem_finish.Reads.Pre host.quernhem_finish.Reads.Post
quernhem_finish κs a p z z' ws ws' e e' =
    (refl, pair (same e.buffered e'.buffered) (pair refl (pair (same e.judged e'.judged) refl)))
