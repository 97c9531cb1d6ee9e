-- The public functions of `host`.
use mathlib.Core.Path.{refl}
use Rattle.host.proofs as host
use Rattle.promises.specs.Calls.{Unique}
use Rattle.promises.proofs.Unique.{same, pair}

pub quernhem_run : Unique host.quernhem_run.Kinds.ps host.quernhem_run.Kinds.r host.quernhem_run.Reads.Pre host.quernhem_run.Reads.Post
quernhem_run κs a p z z' ws ws' e e' = (
  refl,
  pair refl (pair refl (pair (same e.spaced e'.spaced) (pair (same e.roomy e'.roomy) (pair refl (pair (same e.stacked e'.stacked) (pair refl
      (pair (same e.told.kept e'.told.kept) (pair (same e.told.answered e'.told.answered) refl)))))))),
)

pub quernhem_check : Unique host.quernhem_check.Kinds.ps host.quernhem_check.Kinds.r host.quernhem_check.Reads.Pre host.quernhem_check.Reads.Post
quernhem_check κs a p z z' ws ws' e e' = (refl, pair refl (pair (same e e') refl))

pub quernhem_ask : Unique host.quernhem_ask.Kinds.ps host.quernhem_ask.Kinds.r host.quernhem_ask.Reads.Pre host.quernhem_ask.Reads.Post
quernhem_ask κs a p z z' ws ws' e e' = (refl, pair refl (pair refl (pair refl (pair (same e e') refl))))

pub quernhem_index : Unique host.quernhem_index.Kinds.ps host.quernhem_index.Kinds.r host.quernhem_index.Reads.Pre host.quernhem_index.Reads.Post
quernhem_index κs a p z z' ws ws' e e' = (refl, pair refl (pair (same e.0 e'.0) (pair (same e.1 e'.1) refl)))

pub quernhem_line : Unique host.quernhem_line.Kinds.ps host.quernhem_line.Kinds.r host.quernhem_line.Reads.Pre host.quernhem_line.Reads.Post
quernhem_line κs a p z z' ws ws' e e' = (refl, pair refl (pair refl (pair (same e e') refl)))

pub quernhem_callers : Unique host.quernhem_callers.Kinds.ps host.quernhem_callers.Kinds.r host.quernhem_callers.Reads.Pre host.quernhem_callers.Reads.Post
quernhem_callers κs a p z z' ws ws' e e' = (refl, pair refl (pair refl (pair (same e.0 e'.0) (pair (same e.1 e'.1) refl))))
