-- Bridge: what each token does, as the code says it.
-- The contracts of functions inside this crate cite it; no demand and no promise of run, check_recipe or ask rests on it.
use Rattle.whole.specs.declared.arithmetic.Operator.{Operator}
use Rattle.std.specs.Prelude.{cond, List, ℕ, ◌/◌, ◌%◌, eqb, None, Option, Some}
use Rattle.words.specs.declared.places.Place.{Place}
use Rattle.words.specs.declared.symbols.Function.{Function}
use Rattle.words.specs.declared.symbols.Scanned.{Scanned}
use Rattle.words.specs.declared.symbols.Sign.{Sign}
use Rattle.words.specs.declared.symbols.Sign.TheVariants as sign
use Rattle.words.specs.declared.symbols.Token.{Token}
use Rattle.words.specs.declared.symbols.Token.TheVariants as token
use Rattle.scanner.specs.Tokens.{token_at}
use Rattle.grammar.specs.Tests.{is_symbol}
use Rattle.grammar.specs.Formulas.{not_level, tightest, right_level, minus_stands, not_stands, tight_operator, after}
use Rattle.skimming.specs.bridge.Marks.{function_mark}
use Rattle.skimming.specs.declared.stepping.Phase.{Phase}
use Rattle.skimming.specs.declared.stepping.Phase.TheVariants as phase
use Rattle.skimming.specs.declared.stepping.Step.{Step}
use Rattle.skimming.specs.declared.stepping.Step.TheVariants.{Refused, Ends, Wants, Has, Opens, Renews, Closes}

abbrev pub call_step : List ℕ → Function → Scanned → Step
call_step s f t = cond (is_symbol sign.Open t.token) (Opens (after s t) (function_mark f)) Refused

abbrev pub sign_step : List ℕ → ℕ → Sign → Scanned → Step
sign_step s level sign.Open u = Opens u 1
sign_step s level sign.Minus u = cond (minus_stands level) (Wants u tightest) Refused
sign_step s level sign.Close u = Refused
sign_step s level sign.Comma u = Refused
sign_step s level sign.Semicolon u = Refused
sign_step s level sign.Colon u = Refused
sign_step s level sign.Question u = Refused
sign_step s level sign.Equal u = Refused

abbrev pub want_step : List ℕ → ℕ → Token → Place → Step
want_step s level (token.Number w) next = Has (token_at s next)
want_step s level (token.Hexadecimal w) next = Has (token_at s next)
want_step s level (token.Named v) next = Has (token_at s next)
want_step s level (token.Quoted q) next = Has (token_at s next)
want_step s level (token.Symbol x) next = sign_step s level x (token_at s next)
want_step s level token.Not next = cond (not_stands level) (Wants (token_at s next) not_level) Refused
want_step s level (token.Call f) next = call_step s f (token_at s next)
want_step s level token.EndOfLine next = Refused
want_step s level (token.Keyword w) next = Refused
want_step s level (token.Infix op) next = Refused
want_step s level (token.LineOnly l) next = Refused
want_step s level token.Unreadable next = Refused

abbrev pub end_step : List ℕ → ℕ → Token → Place → Step
end_step s m t next =
    cond (eqb m 0) Ends
    (cond (is_symbol sign.Comma t) (cond (eqb (m / 2) 0) Refused (Renews (token_at s next) (m / 2)))
    (cond (is_symbol sign.Close t) (cond (eqb (m % 2) 1) (Closes (token_at s next)) Refused) Refused))

abbrev pub operator_step : Option Operator → Scanned → Step → Step
operator_step (Some op) u other = Wants u (right_level op)
operator_step None u other = other

abbrev pub has_step : List ℕ → ℕ → Token → Place → Step
has_step s m t next = operator_step (tight_operator 0 t) (token_at s next) (end_step s m t next)

abbrev pub step_of : List ℕ → Phase → ℕ → Scanned → Step
step_of s (phase.Wants level) m t = want_step s level t.token t.next
step_of s phase.Has m t = has_step s m t.token t.next
