use native.Mathlib.Omega.{arith}
use Rattle.variables.proofs.Replacing.{place_within}
use Rattle.variables.proofs.tables.Strings.replace.Goals as goal

pub replace_bytes-requires : goal.replace_bytes-requires
replace_bytes-requires c = let w = place_within c.args.self.now.lengths c.args.slot c.offset_of-start.result.0 c.from-old.result c.args.used.0 c.requires.1 c.offset_of-start.ensures c.from-old.ensures c.requires.0.all in
    (w, (omega (arith, c.requires.0.fits, c.from-long.ensures), omega (arith, c.from-long.ensures)))

pub overflow_sub-result : goal.overflow_sub-result
overflow_sub-result c = let w = place_within c.args.self.now.lengths c.args.slot c.offset_of-start.result.0 c.from-old.result c.args.used.0 c.requires.1 c.offset_of-start.ensures c.from-old.ensures c.requires.0.all in omega arith
