-- Bridge: how the code's answers stand to the statements that are read.
-- The contracts of functions that crates use among themselves cite it; no demand and no promise of run, check_recipe or ask rests on it.
use Rattle.words.specs.declared.names.Name.{Name}
use Rattle.std.specs.Prelude.{Bool, true, false, ◌&&◌, List, ℕ, max, ltb, None, Option, Some}
use Rattle.words.specs.declared.symbols.Scanned.{Scanned}
use Rattle.words.specs.declared.symbols.Token.{Token}
use Rattle.grammar.specs.Tests.{on_name, on_text}
use Rattle.grammar.specs.Trees.{Formula}
use Rattle.expressions.specs.declared.sorts.Sort.{Sort}
use Rattle.grammar.specs.Formulas as formulas
use Rattle.grammar.specs.Formulas.{Reading, enough}
use Rattle.expressions.specs.bridge.Answers.{capped_depth, sort_in}
use Rattle.expressions.specs.Types.{sort_of, depth_of}
use Rattle.statements.specs.Statements as statements
use Rattle.statements.specs.Statements.{Begun, done, choice, Items, items_at}
use Rattle.statements.specs.Parts.{formulas_of, deepest, rightly_typed, named_line}
use Rattle.expressions.specs.Types.{is_whole}
use Rattle.statements.specs.declared.reading.Bound.{Bound}
use Rattle.statements.specs.declared.reading.Own.{Own}
use Rattle.statements.specs.declared.reading.StatementRead.{StatementRead}
use Rattle.statements.specs.declared.reading.StatementRead.TheVariants as statement

-- the items of a PRINT
unfoldable pub items_of : List ℕ → Scanned → Items
items_of s t = items_at (enough s) s t

-- ---- statements

-- the name that a token is, and whether it is a quoted text
abbrev pub name_of : Token → Option Name
name_of t = on_name t Some None

abbrev pub is_quoted : Token → Bool
is_quoted t = on_text t (λ q. true) false

-- a statement that names no line
abbrev pub formed_read : Scanned → ℕ → Bool → StatementRead
formed_read t depth typed = statement.Done (record { ahead = t; deepest = depth; typed = typed; names = None })

-- what is known of a statement by itself, an IF's up to its part
abbrev pub own_of : StatementRead → Own
own_of (statement.Done own) = own
own_of (statement.Choice own) = own

-- where a formula nests too deep, its type is not known and counts as wrong
abbrev pub fits : ℕ → Bool
fits depth = ltb depth 9

abbrev pub known_sort : Formula → Sort
known_sort f = sort_in 9 f

-- what is known of one of them, by its parts
abbrev pub bound_by : Scanned → ℕ → Bool → Bound
bound_by t d k = record { ahead = t; deepest = d; typed = k }

-- a formula of a FOR, after others of a depth and of right types or not
abbrev pub bound_of : Reading → ℕ → Bool → Option Bound
bound_of formulas.bad depth typed = None
bound_of (formulas.good f t) depth typed =
    Some (bound_by t (max depth (capped_depth (depth_of f))) (typed && is_whole (known_sort f)))

abbrev pub begun_answer : Begun → Option StatementRead
begun_answer statements.bad = None
begun_answer (done x t) =
    Some (statement.Done
    (record { ahead = t; deepest = capped_depth (deepest (formulas_of x)); typed = fits (deepest (formulas_of x)) && rightly_typed x; names = named_line x }))
begun_answer (choice c t) =
    Some (statement.Choice
    (record { ahead = t; deepest = capped_depth (depth_of c); typed = fits (depth_of c) && is_whole (sort_of c); names = None }))
