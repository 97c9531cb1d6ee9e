-- A statement that reads has what the code that does it asks for.
use mathlib.Core.Path.{◌≡◌, refl}
use mathlib.Core.List.{List}
use Prim.Native.Nat.{ℕ, ◌≤◌}
use native.Mathlib.Omega.{arith}
use lib.ListN.{length}
use Rattle.words.specs.declared.places.Place.{Place}
use Rattle.words.specs.declared.symbols.Scanned.{Scanned}
use Rattle.words.specs.declared.symbols.Word.TheVariants.{Line, Input, While}
use Rattle.words.specs.Places.{longest_line}
use Rattle.scanner.specs.Tokens.{token_at}
use Rattle.grammar.specs.Tests.{is_keyword}
use Rattle.grammar.specs.Formulas.{after, formula_of}
use Rattle.statements.specs.Statements.{print_at, if_at, read_at, by_word}
use Rattle.turns.specs.bridge.Turns.{Formed}
use Rattle.turns.specs.bridge.Doing.{Begins}
use Rattle.statements.specs.Parts.{deepest}
use Rattle.statements.proofs.Ways.{if_so, by_items, by_condition, by_repeat, by_read, by_input}
use Rattle.dialogue.specs.bridge.Showing.{Itemed}
use Rattle.feeding.specs.bridge.Giving.{Listed}
use Rattle.dialogue.specs.bridge.Asking.{Asks}

module _ (s : List ℕ) (short : length s ≤ longest_line) (q : Place) {t : Scanned} (scanned : t ≡ token_at s q) where
  pub print_itemed : Begins (print_at s t) → Itemed s t
  print_itemed =
      by_items (λ b. Begins b → Itemed s t) (λ x. absurd x) s t
      (λ is u e h. record { short = short; scans = record { from = q; is = scanned }; all = is; end = u; reads = e; ends = h.0; shallow = h.1 })

  pub if_formed : Begins (if_at s (formula_of s t)) → Formed s t
  if_formed =
      by_condition (λ b. Begins b → Formed s t) (λ x. absurd x) s t
      (λ c u e h. record { short = short; scans = record { from = q; is = scanned }; reads = record { of = c; next = u; is = e; shallow = h } })

  pub while_formed : Begins (by_word s While t) → Formed s t
  unfolding deepest
  while_formed =
      by_repeat (λ b. Begins b → Formed s t) (λ x. absurd x) s t
      (λ c u e h. let k = h.1 in record { short = short; scans = record { from = q; is = scanned }; reads = record { of = c; next = u; is = e; shallow = omega arith } })

pub read_listed : (s : List ℕ) (t : Scanned) → Begins (read_at s t) → Listed s t
read_listed s t = by_read (λ b. Begins b → Listed s t) (λ x. absurd x) s t (λ vs u e h. record { all = vs; end = u; is = e })

module _ (s : List ℕ) (short : length s ≤ longest_line) (w : Scanned) where
  abbrev after_input : Scanned
  after_input = after s w

  pub input_asks : Begins (by_word s Line w) → Asks s after_input
  input_asks =
      if_so (λ b. Begins b → Asks s after_input) (λ x. absurd x) (is_keyword Input w.token) _
      (by_input (λ b. Begins b → Asks s after_input) (λ x. absurd x) s after_input
      λ text v u e _. record { short = short; scans = record { from = w.next; is = refl }; prompt = text; target = v; end = u; is = e })
