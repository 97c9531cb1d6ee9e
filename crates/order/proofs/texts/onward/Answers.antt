-- The next statement of the line, or the first from the next line on.
use Rattle.std.specs.Prelude.{Option}
use Rattle.words.specs.declared.places.Place.{Place}
use mathlib.Core.Path.{◌≡◌, sym, ◌∙◌, ap}
use mathlib.Core.Bool.{true}
use mathlib.Core.List.{List, ◌∷◌}
use Prim.Native.Nat.{ℕ}
use native.Mathlib.Omega.{arith}
use Rattle.scanner.specs.Tokens.{token_at}
use Rattle.grammar.specs.Trees.{Part}
use Rattle.statements.specs.Statements.{lead_of}
use Rattle.statements.specs.bridge.Answers.{begun_answer}
use Rattle.reader.specs.bridge.Walking.{Onto, StartsAs, Further}
use Rattle.order.specs.declared.texts.Spot.{Spot}
use Rattle.order.proofs.Lining.{steps, led_there}
use Rattle.order.proofs.Texting.{body_at, here_ahead, told, reached_next, left_step, left_next, parting, onward_at, onward_over}
use Rattle.order.proofs.texts.onward.Goals as goal

pub slice_bounds-statement_led-count : goal.slice_bounds-statement_led-count
slice_bounds-statement_led-count c = (told (here_ahead c.requires.0.ahead)).low

pub slice_bounds-statement_led-start : goal.slice_bounds-statement_led-start
slice_bounds-statement_led-start c = (told (here_ahead c.requires.0.ahead)).low

pub slice_bounds-statement_led-end : goal.slice_bounds-statement_led-end
slice_bounds-statement_led-end c = let t = told (here_ahead c.requires.0.ahead) in omega (arith, t.low, t.high)

pub enter-requires : goal.enter-requires
enter-requires c = reached_next (here_ahead c.requires.0.ahead)

pub returns-in-Some : goal.returns-in-Some
returns-in-Some c =
    let spot : Spot = c.args.spot in
    let text : List ℕ = c.args.text.now in
    let line : List ℕ = body_at text spot.line in
    let stepped : (f : Option Place) → c.next_statement.result ≡ f → Further line spot.at.0 f × ((x : Part) (xs : List Part) → Onto line spot.at.0 (x ∷ xs) → StartsAs line f xs) = λ f e. let t = told (here_ahead c.requires.0.ahead) in
    let l = c.requires.1 ∙ ap (λ s. lead_of s true (token_at s spot.at)) (sym t.body) in
    steps line spot.at.0 (c.statement_led.ensures ∙ ap begun_answer (led_there line spot.at.0 l)) (sym e ∙ c.next_statement.ensures) in
    let s = stepped _ c.in-Some.is in (
      λ x xs h. let p = parting h in onward_at p (here_ahead h) c.in-Some.at (s.1 p.first p.others p.onto),
      left_step (here_ahead c.requires.0.ahead) (spot).at c.in-Some.at s.0,
    )

pub returns-in-None : goal.returns-in-None
returns-in-None c =
    let spot : Spot = c.args.spot in
    let text : List ℕ = c.args.text.now in
    let line : List ℕ = body_at text spot.line in
    let stepped : (f : Option Place) → c.next_statement.result ≡ f → Further line spot.at.0 f × ((x : Part) (xs : List Part) → Onto line spot.at.0 (x ∷ xs) → StartsAs line f xs) = λ f e. let t = told (here_ahead c.requires.0.ahead) in
    let l = c.requires.1 ∙ ap (λ s. lead_of s true (token_at s spot.at)) (sym t.body) in
    steps line spot.at.0 (c.statement_led.ensures ∙ ap begun_answer (led_there line spot.at.0 l)) (sym e ∙ c.next_statement.ensures) in
    let s = stepped _ c.in-None.is in (
      λ x xs h. let p = parting h in rw (onward_over p (here_ahead h) (s.1 p.first p.others p.onto)) at c.enter.ensures.0,
      let l = left_next (here_ahead c.requires.0.ahead) (spot).at in omega (arith, l, c.enter.ensures.1),
    )
