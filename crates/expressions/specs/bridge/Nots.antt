-- Bridge: a chain of NOT, as the code passes over it.
-- The contracts of functions that crates use among themselves cite it; no demand and no promise of run, check_recipe or ask rests on it.
use Rattle.std.specs.Prelude.{Bool, true, false, not, List, ℕ, zero, suc}
use Rattle.words.specs.declared.symbols.Scanned.{Scanned}
use Rattle.words.specs.declared.symbols.Token.{Token}
use Rattle.words.specs.declared.symbols.Token.TheVariants.{
  EndOfLine,
  Keyword,
  Not,
  Infix,
  Call,
  Named,
  Number,
  Hexadecimal,
  LineOnly,
  Quoted,
  Symbol,
  Unreadable,
}
use Rattle.grammar.specs.Tests.{choose}
use Rattle.grammar.specs.Formulas.{after, enough}
use Rattle.expressions.specs.declared.nots.Nots.{Nots}

abbrev pub is_not : Token → Bool
is_not EndOfLine = false
is_not (Keyword w) = false
is_not Not = true
is_not (Infix op) = false
is_not (Call f) = false
is_not (Named v) = false
is_not (Number n) = false
is_not (Hexadecimal n) = false
is_not (LineOnly l) = false
is_not (Quoted q) = false
is_not (Symbol s) = false
is_not Unreadable = false

-- whether an odd number of them stands there, after an odd number or an even one
unfoldable pub turned : ℕ → Bool → Bool
turned zero odd = odd
turned (suc n) odd = turned n (not odd)

-- passed over one by one, after an odd number of them or an even one; the first argument bounds how many
unfoldable pub nots_at : ℕ → List ℕ → Bool → Scanned → Nots
nots_at zero s odd t = record { ahead = t; odd = odd }
nots_at (suc n) s odd t =
    choose (is_not t.token) (λ _. nots_at n s (not odd) (after s t)) (λ _. record { ahead = t; odd = odd })

-- from a token on
unfoldable pub nots_of : List ℕ → Scanned → Nots
nots_of s t = nots_at (enough s) s false t
