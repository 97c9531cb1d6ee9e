-- Asking after a run is asking for the value of a variable.
use Rattle.std.specs.Prelude.{Result, Err}
use mathlib.Core.Path.{◌≡◌, refl, sym, ap, ◌∙◌}
use mathlib.Core.Bool.{Bool, true, false, cond, not, ◌&&◌}
use mathlib.Core.List.{List, [], ◌∷◌}
use Prim.Native.Nat.{ℕ, suc, ◌-◌, ◌≤◌}
use native.Mathlib.Omega.{arith}
use borrow.Author.Tests.{leb-false}
use lib.Dec.{leb}
use lib.ListN.{length, replicate}
use Rattle.words.specs.Names.{Telling, alike, name_bytes, telling_of}
use Rattle.words.specs.Places.{place}
use Rattle.words.specs.declared.names.Name.{Name}
use Rattle.words.specs.declared.symbols.Token.{Token}
use Rattle.words.specs.declared.symbols.Token.TheVariants as token
use Rattle.words.proofs.Choices.{by_test}
use Rattle.scanner.specs.Tokens.{token_at}
use Rattle.grammar.specs.Tests.{on_name}
use Rattle.variables.specs.Variables.{NumberVariable, StringVariable, string_bytes, set_number, set_string, has_number, has_string, most_variables}
use Rattle.machine.specs.Machine.{Machine, Lent, lent_by}
use Rattle.asking.specs.Asking.{is_whole_name, ask_of}
use Rattle.asking.specs.declared.questions.Asked.{Asked}
use Rattle.loader.specs.declared.refusals.Refusal.{Refusal}
use Rattle.loader.specs.declared.refusals.Refusal.TheVariants.{NoVariable}
use Rattle.runner.specs.Run as run
use Rattle.runner.specs.Run.{is_refused, tables_of, answer_of, run_of}
use Rattle.runner.specs.declared.running.Ran.{Ran}
use Rattle.promises.specs.Calls.{text_of, input_of, lent_of, budget_of, space_before, room_before, stack_before, tables_before, space_handed, name_asked}
use Rattle.promises.specs.Questions.{Reply, no_name, answer_for, Says, refused, Holds, AskedOverVariables, AnswersAfterRuns, AsksAfterRuns}
use Rattle.promises.proofs.Limits.Keeping.{Keeps}
use Rattle.promises.proofs.Limits.Bounds.{run_keeps}
use Rattle.promises.proofs.Questions.Layout.{value_said}

-- ---- what is given

either_said : (t : Bool) (space : List ℕ) (a : Result Asked Refusal) (r : Reply) → Says space a r → Says space (cond t a (Err NoVariable)) (cond t r no_name)
either_said true space a r h = h
either_said false space a r h = refused

name_said : (t : Token) (space : List ℕ) (ask : Name → Result Asked Refusal) (reply : Name → Reply) → ((v : Name) → Says space (ask v) (reply v))
    → Says space (on_name t ask (Err NoVariable)) (on_name t reply no_name)
name_said token.EndOfLine space ask reply h = refused
name_said (token.Keyword w) space ask reply h = refused
name_said token.Not space ask reply h = refused
name_said (token.Infix op) space ask reply h = refused
name_said (token.Call f) space ask reply h = refused
name_said (token.Named v) space ask reply h = h v
name_said (token.Number n) space ask reply h = refused
name_said (token.Hexadecimal n) space ask reply h = refused
name_said (token.LineOnly l) space ask reply h = refused
name_said (token.Quoted q) space ask reply h = refused
name_said (token.Symbol s) space ask reply h = refused
name_said token.Unreadable space ask reply h = refused

pub asked_over_variables : AskedOverVariables
unfolding ask_of answer_for
asked_over_variables vars space given h =
    name_said (token_at given (place 0)).token space _ _ (λ v.
    either_said (is_whole_name given (token_at given (place 0)) v) space _ _ (value_said vars space h (telling_of (name_bytes given v)) v.kind))

-- of what is equal to it
said_as : {space left : List ℕ} {x y : Result Asked Refusal} {r : Reply} → space ≡ left → x ≡ y → Says left y r → Says space x r
said_as e f h = rw (e, f) h

-- ---- a run has at most 64 variables of each kind

one_more : (has : Bool) (n : ℕ) → suc (cond has n (suc n)) ≡ cond has (suc n) (suc (suc n))
one_more true n = refl
one_more false n = refl

number_length : (vs : List NumberVariable) (name : Telling) (w : ℕ) → length (set_number vs name w) ≡ cond (has_number vs name) (length vs) (suc (length vs))
unfolding set_number has_number
number_length [] name w = refl
number_length (v ∷ vs) name w = by_test (alike v.name name) (λ t. rw t) (λ t. rw t (ap suc (number_length vs name w) ∙ one_more (has_number vs name) (length vs)))

string_length : (vs : List StringVariable) (name : Telling) (b : List ℕ) → length (set_string vs name b) ≡ cond (has_string vs name) (length vs) (suc (length vs))
unfolding set_string has_string
string_length [] name b = refl
string_length (v ∷ vs) name b = by_test (alike v.name name) (λ t. rw t) (λ t. rw t (ap suc (string_length vs name b) ∙ one_more (has_string vs name) (length vs)))

-- a new one is made only where there is room
room_left : (has : Bool) (n : ℕ) → not has && leb most_variables n ≡ false → n ≤ most_variables → cond has n (suc n) ≤ most_variables
room_left true n e h = h
room_left false n e h = let k = leb-false most_variables n e in omega (arith, k)

record Countable (m : Machine) : Type 0 where
  numbers : length m.variables.numbers ≤ most_variables
  strings : length m.variables.strings ≤ most_variables

countable_kept : Keeps Countable
countable_kept = record {
  changes = record {
    numbers = λ m name w full p.
        record {
          numbers = rw (number_length m.variables.numbers name w) (room_left (has_number m.variables.numbers name) (length m.variables.numbers) full p.numbers);
          strings = p.strings;
        };
    records = λ m rs few p. record { numbers = p.numbers; strings = p.strings };
    prints = λ m bytes h p. record { numbers = p.numbers; strings = p.strings };
    takes = λ m left h p. record { numbers = p.numbers; strings = p.strings };
    feeds = λ m l p. record { numbers = p.numbers; strings = p.strings };
  };
  notes = λ m room h p. record { numbers = p.numbers; strings = p.strings };
  strings = λ m name f b room e full p.
      record {
        numbers = p.numbers;
        strings = rw (string_length m.variables.strings name b) (room_left (has_string m.variables.strings name) (length m.variables.strings) full p.strings);
      };
}

run_countable : (text input : List ℕ) (lent : Lent) (budget : ℕ) → Countable (run_of text input lent budget).machine
run_countable text input lent budget =
    run_keeps Countable countable_kept (λ m p. record { numbers = p.numbers; strings = p.strings }) text input lent budget
    (record { numbers = omega arith; strings = omega arith })

-- ---- after a run

-- the tables and the space that it leaves hold its variables
pub run_holds : (text input space room : List ℕ) (records budget : ℕ) → is_refused (run_of text input (lent_by space room records) budget).ending ≡ false
    → Holds (run_of text input (lent_by space room records) budget).machine.variables (run.space_after (run_of text input (lent_by space room records) budget) space)
run_holds text input space room records budget taken =
    let k = run_countable text input (lent_by space room records) budget in
    let vs = (run_of text input (lent_by space room records) budget).machine.variables.strings in
    record {
      numbers = k.numbers;
      strings = k.strings;
      unused = replicate (length space - string_bytes vs) 0;
      joined = rw taken refl;
    }

pub answers_after_runs : AnswersAfterRuns
answers_after_runs text input space room records budget tables given taken =
    let ran = run_of text input (lent_by space room records) budget in
    let holds = run_holds text input space room records budget taken in
    let told = asked_over_variables ran.machine.variables (run.space_after ran space) given holds in
    let left : (answer_of ran tables).tables ≡ tables_of ran.machine.variables =
    ap (λ t. cond t tables (tables_of ran.machine.variables)) taken in
    said_as refl (ap (λ t. ask_of t (length (run.space_after ran space)) given) left) told

pub asks_after_runs : AsksAfterRuns
asks_after_runs c a h =
    let ran = run_of (text_of c) (input_of c) (lent_of c) (budget_of c) in
    let taken = sym (ap (λ (y : Ran). is_refused y.outcome) c.allowed.0) ∙ h.taken in
    let tables = h.tables ∙ ap (λ (y : Ran). y.tables) c.allowed.0 in
    let space = h.space ∙ c.allowed.1.0 in
    said_as space
    (a.allowed
    ∙ ap (λ t. ask_of t (length (space_handed a)) (name_asked a)) tables
    ∙ ap (λ s. ask_of (answer_of ran (tables_before c)).tables (length s) (name_asked a)) space)
    (answers_after_runs (text_of c) (input_of c) (space_before c) (room_before c) (length (stack_before c)) (budget_of c) (tables_before c) (name_asked a) taken)
