-- The public functions of `machine`.
use mathlib.Core.Path.{refl}
use Rattle.machine.proofs as machine
use Rattle.promises.specs.Calls.{Unique}
use Rattle.promises.proofs.Unique.{same, pair}

pub passed : Unique machine.passed.Kinds.ps machine.passed.Kinds.r machine.passed.Reads.Pre machine.passed.Reads.Post
passed κs a p z z' ws ws' e e' = (same e e', refl)

pub feed_from_line : Unique machine.state.Feed.from_line.Kinds.ps machine.state.Feed.from_line.Kinds.r machine.state.Feed.from_line.Reads.Pre machine.state.Feed.from_line.Reads.Post
feed_from_line κs a p z z' ws ws' e e' = (same e e', refl)

pub machine_fresh : Unique machine.state.Machine.fresh.Kinds.ps machine.state.Machine.fresh.Kinds.r machine.state.Machine.fresh.Reads.Pre machine.state.Machine.fresh.Reads.Post
machine_fresh κs a p z z' ws ws' e e' = (same e e', refl)

pub write : Unique machine.write.Kinds.ps machine.write.Kinds.r machine.write.Reads.Pre machine.write.Reads.Post
write κs a p z z' ws ws' e e' = (same e.0 e'.0, pair refl (pair (same e.1 e'.1) refl))

pub write_comma : Unique machine.write_comma.Kinds.ps machine.write_comma.Kinds.r machine.write_comma.Reads.Pre machine.write_comma.Reads.Post
write_comma κs a p z z' ws ws' e e' = (same e.0 e'.0, pair refl (pair (same e.1 e'.1) refl))

pub record_blank : Unique machine.records.Record.blank.Kinds.ps machine.records.Record.blank.Kinds.r machine.records.Record.blank.Reads.Pre machine.records.Record.blank.Reads.Post
record_blank κs a p z z' ws ws' e e' = (same e e', refl)

pub record_calls : Unique machine.records.Record.calls.Kinds.ps machine.records.Record.calls.Kinds.r machine.records.Record.calls.Reads.Pre machine.records.Record.calls.Reads.Post
record_calls κs a p z z' ws ws' e e' = (same e e', refl)

pub record_counts : Unique machine.records.Record.counts.Kinds.ps machine.records.Record.counts.Kinds.r machine.records.Record.counts.Reads.Pre machine.records.Record.counts.Reads.Post
record_counts κs a p z z' ws ws' e e' = (same e e', refl)

pub record_repeats : Unique machine.records.Record.repeats.Kinds.ps machine.records.Record.repeats.Kinds.r machine.records.Record.repeats.Reads.Pre machine.records.Record.repeats.Reads.Post
record_repeats κs a p z z' ws ws' e e' = (same e e', refl)

pub record_back : Unique machine.records.Record.back.Kinds.ps machine.records.Record.back.Kinds.r machine.records.Record.back.Reads.Pre machine.records.Record.back.Reads.Post
record_back κs a p z z' ws ws' e e' = (same e e', refl)

pub is_sought : Unique machine.is_sought.Kinds.ps machine.is_sought.Kinds.r machine.is_sought.Reads.Pre machine.is_sought.Reads.Post
is_sought κs a p z z' ws ws' e e' = (same e e', refl)

pub passes : Unique machine.passes.Kinds.ps machine.passes.Kinds.r machine.passes.Reads.Pre machine.passes.Reads.Post
passes κs a p z z' ws ws' e e' = (same e e', refl)

pub take_line : Unique machine.take_line.Kinds.ps machine.take_line.Kinds.r machine.take_line.Reads.Pre machine.take_line.Reads.Post
take_line κs a p z z' ws ws' e e' = (same e e', refl)
