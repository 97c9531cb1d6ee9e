-- By the two tests.
use mathlib.Core.Path.{◌≡◌, sym, ◌∙◌}
use mathlib.Core.Bool.{false}
use Rattle.words.specs.declared.symbols.Token.TheVariants.{Keyword}
use Rattle.grammar.specs.Tests.{is_keyword}
use Rattle.grammar.proofs.Endings.{same_word}
use Rattle.order.proofs.partners.marked.Goals as goal

pub returns : goal.returns
returns c =
    let word = c.in-Some.lead.word in
    let opens : is_keyword c.args.opens (Keyword word) ≡ false = sym (same_word word c.args.opens) ∙ sym c.eq.ensures ∙ c.if-eq.false in
    let closes : is_keyword c.args.closes (Keyword word) ≡ false = sym (same_word word c.args.closes) ∙ sym c.eq-2.ensures ∙ c.if-eq-2.false in
    rw (c.in-Some.is, opens, closes)
