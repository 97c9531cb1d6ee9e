-- The loop keeps that the characters from the one reached on decide.
use mathlib.Core.Path.{sym, ◌∙◌}
use Rattle.words.specs.Names.{name_bytes}
use Rattle.words.proofs.Tellings.{capital_at, entry_at, from_telling, from_apart, from_over, from_next, from_last}
use Rattle.words.proofs.names.is_told.Goals as goal

pub loop-index-init : goal.loop-index-init
loop-index-init c = from_telling _ _

pub returns-then-byte_at-letter : goal.returns-then-byte_at-letter
returns-then-byte_at-letter c =
    let letter = c.character-letter.ensures ∙ sym (capital_at (name_bytes c.args.line.now c.args.name) c.loop-index.index) in
    let byte = entry_at c.args.tellings.now c.args.from c.loop-index.index c.from.ensures c.byte_at.ensures in
    sym (sym c.loop-index.invariant ∙ from_apart _ _ _ c.loop-index-test.true (λ e. c.if-byte_at-letter.true (byte ∙ e ∙ sym letter)))

pub returns-then-letter-eq0 : goal.returns-then-letter-eq0
returns-then-letter-eq0 c =
    let letter = c.character-letter.ensures ∙ sym (capital_at (name_bytes c.args.line.now c.args.name) c.loop-index.index) in
    let byte = entry_at c.args.tellings.now c.args.from c.loop-index.index c.from.ensures c.byte_at.ensures in
    sym (sym c.loop-index.invariant
    ∙ from_over _ _ _ c.loop-index-test.true (sym byte ∙ c.if-byte_at-letter.false ∙ letter) (sym letter ∙ c.if-letter-eq0.true))

pub loop-index-preserved : goal.loop-index-preserved
loop-index-preserved c =
    let letter = c.character-letter.ensures ∙ sym (capital_at (name_bytes c.args.line.now c.args.name) c.loop-index.index) in
    let byte = entry_at c.args.tellings.now c.args.from c.loop-index.index c.from.ensures c.byte_at.ensures in
    sym (from_next _ _ _ c.loop-index-test.true (sym byte ∙ c.if-byte_at-letter.false ∙ letter) (λ e. c.if-letter-eq0.false (letter ∙ e)))
    ∙ c.loop-index.invariant

pub returns : goal.returns
returns c = sym (sym c.loop-index.invariant ∙ from_last _ _ c.loop-index.index c.loop-index-test.false)
