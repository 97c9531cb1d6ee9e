-- The loop keeps that the words from the one reached on are the same just if all are.
use mathlib.Core.Path.{◌≡◌, refl, sym, ◌∙◌}
use Prim.Native.Nat.{◌≤◌, ◌<◌}
use native.Mathlib.Omega.{arith}
use borrow.Author.Tests.{le-leb}
use lib.ListN.{length, get_or}
use Rattle.std.proofs.Common.{◌≢◌}
use Rattle.words.proofs.Comparing.{same_next, same_differ, same_ended}
use Rattle.index.specs.bridge.Laying.{laid_out}
use Rattle.index.proofs.Laying.{laid_long}
use Rattle.index.proofs.layout.is_laid_out.Goals as goal

pub loop-i-init : goal.loop-i-init
loop-i-init c = refl

pub word_at-requires : goal.word_at-requires
word_at-requires c = (c.requires.1, omega (arith, c.loop-i-test.true, c.requires.0))

pub returns-then-word_at-word : goal.returns-then-word_at-word
returns-then-word_at-word c =
    let inside : c.loop-i.i < length c.args.index.now = c.loop-i-test.true in
    let long : length (laid_out c.args.table.now c.args.count c.args.pairs.now) ≡ length c.args.index.now = laid_long c.args.table.now c.args.pairs.now c.args.count c.requires.1 c.requires.2 ∙ sym c.requires.0 in
    let differ : c.word_at.result ≢ get_or c.args.index.now c.loop-i.i 0 = omega (arith, c.if-word_at-word.true) in
    sym (same_differ _ _ _ (omega (arith, inside, long)) (inside) (λ q. differ (c.word_at.ensures ∙ q))) ∙ c.loop-i.invariant

pub loop-i-preserved : goal.loop-i-preserved
loop-i-preserved c =
    let inside : c.loop-i.i < length c.args.index.now = c.loop-i-test.true in
    let long : length (laid_out c.args.table.now c.args.count c.args.pairs.now) ≡ length c.args.index.now = laid_long c.args.table.now c.args.pairs.now c.args.count c.requires.1 c.requires.2 ∙ sym c.requires.0 in
    let same : c.word_at.result ≡ get_or c.args.index.now c.loop-i.i 0 = omega (arith, c.if-word_at-word.false) in
    sym (same_next _ _ _ (omega (arith, inside, long)) (inside) (sym c.word_at.ensures ∙ same)) ∙ c.loop-i.invariant

pub returns : goal.returns
returns c =
    let long : length (laid_out c.args.table.now c.args.count c.args.pairs.now) ≡ length c.args.index.now = laid_long c.args.table.now c.args.pairs.now c.args.count c.requires.1 c.requires.2 ∙ sym c.requires.0 in
    let all : length (laid_out c.args.table.now c.args.count c.args.pairs.now) ≤ c.loop-i.i = omega (arith, c.loop-i-test.false, long) in
    sym (same_ended _ c.args.index.now _ all ∙ le-leb _ _ c.loop-i-test.false) ∙ c.loop-i.invariant
