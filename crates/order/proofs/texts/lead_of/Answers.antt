-- The bytes of the line are those that the definition says.
use mathlib.Core.Path.{◌∙◌, ap}
use native.Mathlib.Omega.{arith}
use mathlib.Core.Bool.{true}
use Rattle.scanner.specs.Tokens.{token_at}
use Rattle.statements.specs.Statements.{lead_of}
use Rattle.order.proofs.Texting.{here_ahead, told}
use Rattle.order.proofs.texts.lead_of.Goals as goal

pub slice_bounds-lead_at-count : goal.slice_bounds-lead_at-count
slice_bounds-lead_at-count c = (told (here_ahead c.requires.ahead)).low

pub slice_bounds-lead_at-start : goal.slice_bounds-lead_at-start
slice_bounds-lead_at-start c = (told (here_ahead c.requires.ahead)).low

pub slice_bounds-lead_at-end : goal.slice_bounds-lead_at-end
slice_bounds-lead_at-end c = let t = told (here_ahead c.requires.ahead) in omega (arith, t.low, t.high)

pub returns : goal.returns
returns c = let t = told (here_ahead c.requires.ahead) in
    c.lead_at.ensures ∙ ap (λ s. lead_of s true (token_at s c.args.spot.at)) t.body
