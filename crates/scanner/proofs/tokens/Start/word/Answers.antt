-- The run is looked up, where it is no single letter, with the mark after it; each arm is a clause of `marked`.
use mathlib.Core.Path.{◌≡◌, ap, ◌∙◌}
use Prim.Native.Nat.{ℕ, ◌+◌, ◌-◌}
use native.Mathlib.Omega.{arith}
use Rattle.words.proofs.Runs.{run_within}
use Rattle.words.specs.declared.symbols.Token.TheVariants.{Keyword}
use Rattle.words.specs.declared.symbols.Word.TheVariants.{Data}
use Rattle.scanner.specs.Runs.{passes}
use Rattle.scanner.specs.Tokens.{◌upto◌}
use Rattle.scanner.specs.declared.runs.Run.TheVariants.{Word}
use Rattle.scanner.proofs.Beginnings.{word_here, name_here}
use Rattle.scanner.proofs.tokens.Start.word.Goals as goal

-- a run ends as many bytes after its place as it has
behind : (at n : ℕ) {end : ℕ} → end ≡ at + n → end ≡ at + (end - at)
behind at n e = omega arith

pub returns-then-after-self : goal.returns-then-after-self
returns-then-after-self c =
    rw (name_here c.args.self.line.now c.args.self.at.0 _ _ c.run_end-after.ensures c.if-after-self.true c.mark_at-mark.ensures)
    (c.named.ensures _ 0 (behind _ _ c.run_end-after.ensures))

pub slice_bounds-word_of-end : goal.slice_bounds-word_of-end
slice_bounds-word_of-end c = omega (arith, run_within (passes Word) c.args.self.line.now c.args.self.at.0 c.run_end-after.ensures (omega arith))

pub returns-in-Plain : goal.returns-in-Plain
returns-in-Plain c = rw (word_here c.args.self.line.now c.args.self.at.0 _ _ _ c.run_end-after.ensures c.word_of.ensures c.mark_at-mark.ensures, c.in-Plain.is) (c.plain.ensures _ _ (behind _ _ c.run_end-after.ensures))

pub returns-in-Dollared : goal.returns-in-Dollared
returns-in-Dollared c = rw (word_here c.args.self.line.now c.args.self.at.0 _ _ _ c.run_end-after.ensures c.word_of.ensures c.mark_at-mark.ensures, c.in-Dollared.is) (c.dollared.ensures _ _ (behind _ _ c.run_end-after.ensures))

pub returns-in-Remark : goal.returns-in-Remark
returns-in-Remark c = rw (word_here c.args.self.line.now c.args.self.at.0 _ _ _ c.run_end-after.ensures c.word_of.ensures c.mark_at-mark.ensures, c.in-Remark.is) c.up_to.ensures

pub returns-in-Items : goal.returns-in-Items
returns-in-Items c = rw (word_here c.args.self.line.now c.args.self.at.0 _ _ _ c.run_end-after.ensures c.word_of.ensures c.mark_at-mark.ensures, c.in-Items.is) (c.up_to-in-Items.ensures ∙ ap (λ n. Keyword Data upto n) (behind _ _ c.run_end-after.ensures))

pub returns-in-Free : goal.returns-in-Free
returns-in-Free c = rw (word_here c.args.self.line.now c.args.self.at.0 _ _ _ c.run_end-after.ensures c.word_of.ensures c.mark_at-mark.ensures, c.in-Free.is) (c.named-in-Free.ensures _ 0 (behind _ _ c.run_end-after.ensures))
