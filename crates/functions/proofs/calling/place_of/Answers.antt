-- The loop keeps that what is left to look through decides.
use Prim.Native.Nat.{◌+◌}
use native.Mathlib.Omega.{arith}
use Rattle.functions.proofs.Finding.{none_after, empty_at, begins_at, found_at, goes_on, none_left}
use Rattle.functions.proofs.calling.place_of.Goals as goal

pub returns-then-first-begin : goal.returns-then-first-begin
returns-then-first-begin c = none_after c.args.space.now c.args.from.0 c.args.first c.args.second c.requires.0 c.args.start c.if-first-begin.true

pub returns-then-second-eq0 : goal.returns-then-second-eq0
returns-then-second-eq0 c = empty_at c.args.space.now c.args.from.0 c.args.first c.args.second c.requires.0 c.args.start c.requires.1.1 c.if-first-begin.false c.if-second-eq0.true

pub loop-place-init : goal.loop-place-init
loop-place-init c = (
  c.requires.1.1,
  omega arith,
  begins_at c.args.space.now c.args.from.0 c.args.first c.args.second c.requires.0 c.args.start c.requires.1.1 c.if-first-begin.false (omega arith),
)

pub returns-then-stands_at : goal.returns-then-stands_at
returns-then-stands_at c = found_at c.args.space.now c.args.from.0 c.args.first c.args.second c.requires.0 c.args.start c.loop-place.place c.loop-place.invariant.0 (omega arith) (omega (arith, c.saturating_sub-place-end.ensures)) c.loop-place.invariant.2
    c.stands_at.ensures c.if-stands_at.true

pub loop-place-preserved : goal.loop-place-preserved
loop-place-preserved c = (
  omega arith,
  omega arith,
  goes_on c.args.space.now c.args.from.0 c.args.first c.args.second c.requires.0 c.args.start c.loop-place.place c.loop-place.invariant.0 (omega arith) (omega (arith, c.saturating_sub-place-end.ensures)) c.loop-place.invariant.2
      c.stands_at.ensures c.if-stands_at.false,
)

pub returns-else-second-eq0 : goal.returns-else-second-eq0
returns-else-second-eq0 c = none_left c.args.space.now c.args.from.0 c.args.first c.args.second c.requires.0 c.args.start c.loop-place.place c.loop-place.invariant.0 c.loop-place.invariant.1
    (omega (arith, c.saturating_sub-place-end.ensures)) c.loop-place.invariant.2

pub returns-else-stands_at : goal.returns-else-stands_at
returns-else-stands_at c = none_left c.args.space.now c.args.from.0 c.args.first c.args.second c.requires.0 c.args.start (c.loop-place.place + 1) (omega arith) (omega arith)
    (omega (arith, c.saturating_sub-place-end.ensures))
    (goes_on c.args.space.now c.args.from.0 c.args.first c.args.second c.requires.0 c.args.start c.loop-place.place c.loop-place.invariant.0 (omega arith) (omega (arith, c.saturating_sub-place-end.ensures)) c.loop-place.invariant.2
    c.stands_at.ensures c.if-stands_at.false)
