-- What a run leaves of a block of tables.
use mathlib.Core.Path.{◌≡◌, refl, sym, ap, ◌∙◌}
use mathlib.Core.Bool.{true, false}
use mathlib.Core.List.{List, [], ◌∷◌, ◌++◌, map}
use Prim.Native.Nat.{ℕ, ◌-◌, ◌*◌, ◌<◌}
use native.Mathlib.Omega.{arith}
use lib.ListN.{length, replicate, length-append, length-map}
use Rattle.words.specs.Names.{Telling, name_width, entry_of}
use Rattle.words.proofs.Tellings.{entry_length}
use Rattle.variables.specs.Tables.{names_long, name_bytes, numbers_table, strings_table}
use Rattle.variables.specs.Variables.{NumberVariable, StringVariable}
use Rattle.variables.specs.declared.tables.Tables.{Tables}
use Rattle.runner.specs.Run.{Ran, is_refused, tables_of, answer_of}
use Rattle.runner.specs.declared.running.Ran as code
use Rattle.host.specs.Answers.{answer_in}
use Rattle.blocks.specs.Blocks.{tables_in, block_of, Long, Held}
use Rattle.host.specs.Calls.{Told}
use Rattle.blocks.proofs.RoundTrip.{round_trip}

-- ---- there are at most 64 names in a table

name_bytes-length : (names : List Telling) → length (name_bytes names) ≡ name_width * length names
unfolding name_bytes
name_bytes-length [] = refl
name_bytes-length (n ∷ ns) =
    let e = name_bytes-length ns in omega (arith, length-append (entry_of n) (name_bytes ns), entry_length n)

few_names : (names : List Telling) → length (name_bytes names ++ replicate (names_long - name_width * length names) 0) ≡ names_long → length names < 256
few_names names e =
    let zeros : List ℕ = replicate (names_long - name_width * length names) 0 in
    omega (arith, sym (length-append (name_bytes names) zeros) ∙ e, name_bytes-length names)

few_numbers : (vs : List NumberVariable) → length (numbers_table vs).names ≡ names_long → length vs < 256
few_numbers vs e =
    let k : length (map (λ v. v.name) vs) ≡ length vs = length-map vs (λ v. v.name) in
    omega (arith, k, few_names (map (λ v. v.name) vs) (rw k e))

few_strings : (vs : List StringVariable) → length (strings_table vs).names ≡ names_long → length vs < 256
few_strings vs e =
    let k : length (map (λ v. v.name) vs) ≡ length vs = length-map vs (λ v. v.name) in
    omega (arith, k, few_names (map (λ v. v.name) vs) (rw k e))

-- ---- a run

module _ (ran : Ran) (answer : code.Ran) (given : Tables) (is : answer ≡ answer_of ran given) (block words : List ℕ) (answered : words ≡ answer_in answer) where
  -- that was refused leaves the block
  pub refused_run : is_refused answer.outcome ≡ true → Told ran block block words
  refused_run e =
      let b : is_refused ran.ending ≡ true = rw is at e in
      record { answered = answered ∙ ap answer_in is; kept = rw b; meant = rw b }

  -- and any other leaves its tables in it
  pub finished_run : (block' : List ℕ) → is_refused answer.outcome ≡ false → block' ≡ block_of answer.tables → Long answer.tables
      → Told ran block block' words
  finished_run block' e k long =
      let b : is_refused ran.ending ≡ false = rw is at e in
      let t : answer.tables ≡ tables_of ran.machine.variables = ap (λ a. a.tables) is ∙ rw b in
      let held : Held answer.tables = record {
        long = long;
        few_numbers = rw t (few_numbers ran.machine.variables.numbers (rw t at long.number_names));
        few_strings = rw t (few_strings ran.machine.variables.strings (rw t at long.string_names));
      } in
      record {
        answered = answered ∙ ap answer_in is;
        kept = rw b (k ∙ ap block_of t);
        meant = rw b (ap tables_in k ∙ round_trip answer.tables held ∙ t);
      }
