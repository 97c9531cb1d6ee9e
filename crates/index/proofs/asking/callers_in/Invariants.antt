use Rattle.index.proofs.Calling.{Called}
use Rattle.index.proofs.asking.callers_in.Given as goal

abbrev pub invariant-loop-i : goal.invariant-loop-i
invariant-loop-i l = Called l.index l.number.0 l.i-end l.initial.callers l.callers l.count l.i
