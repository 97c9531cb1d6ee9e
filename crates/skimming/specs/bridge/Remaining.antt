-- Bridge: how much is left to read, and the grammar without its bound.
-- The contracts of functions that crates use among themselves cite it; no demand and no promise of run, check_recipe or ask rests on it.
use Rattle.std.specs.Prelude.{cond, List, ℕ, ◌+◌, ◌-◌, ◌*◌, length}
use Rattle.words.specs.declared.symbols.Function.{Function}
use Rattle.words.specs.declared.symbols.Scanned.{Scanned}
use Rattle.scanner.specs.Tokens.{reads}
use Rattle.grammar.specs.Trees.{Arguments}
use Rattle.grammar.specs.Formulas.{Reading, enough, formula_at, climb_at, operand_at, arguments_at}

-- ---- how much is left to read from a token on; each token that reads weighs four more than what follows it

unfoldable pub weight : List ℕ → Scanned → ℕ
weight s t = cond (reads t.token) (4 * (length s + 1 - t.next.0) + 4) 0

-- ---- what reads from a token on, with a bound that is enough

-- the formula of a level
unfoldable pub formula_in : List ℕ → ℕ → Scanned → Reading
formula_in s level t = formula_at (enough s) s level t

unfoldable pub climb_of : List ℕ → ℕ → Reading → Reading
climb_of s level x = climb_at (enough s) s level x

unfoldable pub operand_of : List ℕ → ℕ → Scanned → Reading
operand_of s level t = operand_at (enough s) s level t.token t.next

unfoldable pub arguments_of : List ℕ → Function → Arguments → Reading → Reading
arguments_of s f a x = arguments_at (enough s) s f a x
