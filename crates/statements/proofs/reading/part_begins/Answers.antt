-- THEN, or GOTO and a line number: what follows any condition.
use Rattle.std.specs.Prelude.{Option, is_some}
use mathlib.Core.Path.{◌≡◌, sym, ◌∙◌}
use Rattle.words.specs.declared.places.LineNumber.{LineNumber}
use Rattle.words.specs.declared.symbols.Token.{Token}
use Rattle.grammar.specs.bridge.Answers.{line_of}
use Rattle.grammar.specs.Tests.{choose, on_line}
use Rattle.statements.specs.Statements.{Begun, bad, choice}
use Rattle.statements.proofs.Findings.{passed, failed, by_line}
use Rattle.statements.proofs.reading.part_begins.Goals as goal

on_line_some : (t : Token) (x : Begun) {n : Option LineNumber} → n ≡ line_of t → on_line t (λ l. x) bad ≡ choose (is_some n) (λ _. x) (λ _. bad)
on_line_some t x {n} is =
    by_line (λ b. b ≡ choose (is_some n) (λ _. x) (λ _. bad)) t (λ l. x) bad (λ l f a. rw (is ∙ f)) (λ f. rw (is ∙ f))

pub returns-then-word_stands : goal.returns-then-word_stands
returns-then-word_stands c = λ f. rw (sym c.word_stands.ensures ∙ c.if-word_stands.true)

pub returns-then-not-word_stands : goal.returns-then-not-word_stands
returns-then-not-word_stands c = λ f. rw (sym c.word_stands.ensures ∙ c.if-word_stands.false, failed c.word_stands-2.ensures c.if-not-word_stands.true-raw)

pub returns : goal.returns
returns c = λ f.
    rw (sym c.word_stands.ensures ∙ c.if-word_stands.false, passed c.word_stands-2.ensures c.if-not-word_stands.false-raw, ← c.token_after-target.ensures, on_line_some c.token_after-target.result.token (choice f c.args.ahead) c.line_of.ensures, ← c.is_some.ensures)
