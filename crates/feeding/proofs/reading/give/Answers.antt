use mathlib.Core.Path.{◌≡◌}
use native.Mathlib.Omega.{arith}
use Prim.Native.Nat.{◌+◌, ◌-◌}
use lib.ListN.{drop, length-drop}
use lib.Seq.{length-take-le}
use Rattle.words.specs.Names.{name_bytes, telling_of}
use Rattle.words.specs.declared.names.Kind.TheVariants as kind
use Rattle.feeding.proofs.Giving.{sets_none, gives_none, gives_taken, sets_feed, settled_feed}
use Rattle.feeding.proofs.reading.give.Goals as goal

pub overflow_add-end : goal.overflow_add-end
overflow_add-end c = let t = (rw c.in-Some.is at c.take_item.ensures) c.requires.0.fed.items c.requires.0.fed.feeds in omega (arith, t.within)

pub slice_bounds-bytes-end : goal.slice_bounds-bytes-end
slice_bounds-bytes-end c = let t = (rw c.in-Some.is at c.take_item.ensures) c.requires.0.fed.items c.requires.0.fed.feeds in omega (arith, t.within)

pub give_string-requires : goal.give_string-requires
give_string-requires c = let t = (rw c.in-Some.is at c.take_item.ensures) c.requires.0.fed.items c.requires.0.fed.feeds in
    let z : c.in-Some.from.0 + c.in-Some.len - c.in-Some.from.0 ≡ c.in-Some.len = omega arith in
    let n = length-take-le c.in-Some.len (drop c.in-Some.from.0 c.args.text.now) (rw (length-drop c.in-Some.from.0 c.args.text.now) (omega (arith, t.within))) in
    (record { all = c.requires.1.all; fits = omega (arith, c.requires.1.within) }, rw (z, n) t.short)

pub returns-in-None : goal.returns-in-None
returns-in-None c = let h = rw c.in-None.is at c.take_item.ensures in
    (sets_none c.requires.1, (c.requires.0.fed, gives_none c.args.name.kind (telling_of (name_bytes c.args.line.now c.args.name)) c.args.machine h))

pub returns-in-Whole : goal.returns-in-Whole
returns-in-Whole c = let h = rw c.in-Some.is at c.take_item.ensures in
    let t = h c.requires.0.fed.items c.requires.0.fed.feeds in
    let z : c.in-Some.from.0 + c.in-Some.len - c.in-Some.from.0 ≡ c.in-Some.len = omega arith in
    let g = rw z at (c.give_number.ensures.0 c.args.text.now c.args.space.now (settled_feed c.in-Some.feed c.requires.1)) in (
      sets_feed c.in-Some.feed g.0,
      (
        record { items = t.others; feeds = rw c.give_number.ensures.1 t.feeds },
        rw c.in-Whole.is (gives_taken kind.Whole (telling_of (name_bytes c.args.line.now c.args.name)) h c.give_number.result g.1),
      ),
    )

pub returns-in-Text : goal.returns-in-Text
returns-in-Text c = let h = rw c.in-Some.is at c.take_item.ensures in
    let t = h c.requires.0.fed.items c.requires.0.fed.feeds in
    let z : c.in-Some.from.0 + c.in-Some.len - c.in-Some.from.0 ≡ c.in-Some.len = omega arith in
    let g = rw z at (c.give_string.ensures.0 c.args.text.now (settled_feed c.in-Some.feed c.requires.1)) in (
      sets_feed c.in-Some.feed g.0,
      (
        record { items = t.others; feeds = rw c.give_string.ensures.1 t.feeds },
        rw c.in-Text.is (gives_taken kind.Text (telling_of (name_bytes c.args.line.now c.args.name)) h c.give_string.result g.1),
      ),
    )
