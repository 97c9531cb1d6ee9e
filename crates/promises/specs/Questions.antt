-- Asking for a variable after a run, said of the run's variables: the layout of tables and space is a law (`AskedOverVariables`), not the
-- meaning. A statement has the proof of its name, in snake case, in `proofs/Questions/Asking.antt`.
use Rattle.std.specs.Prelude.{◌≡◌, false, cond, List, ◌++◌, ℕ, ◌≤◌, length, Result, Ok, Err}
use Rattle.words.specs.Names.{Telling, name_bytes, telling_of}
use Rattle.words.specs.Places.{place}
use Rattle.words.specs.declared.names.Kind.{Kind}
use Rattle.words.specs.declared.names.Kind.TheVariants as kind
use Rattle.scanner.specs.Tokens.{token_at}
use Rattle.grammar.specs.Tests.{on_name}
use Rattle.variables.specs.Variables.{Variables, word_of, bytes_of, joined_strings, most_variables}
use Rattle.asking.specs.Asking.{is_whole_name, ask_of}
use Rattle.asking.specs.declared.questions.Asked.{Asked}
use Rattle.asking.specs.declared.questions.Asked.TheVariants.{Whole, Text}
use Rattle.loader.specs.declared.refusals.Refusal.{Refusal}
use Rattle.loader.specs.declared.refusals.Refusal.TheVariants.{NoVariable}
use Rattle.variables.specs.declared.tables.Tables.{Tables}
use Rattle.machine.specs.Machine.{lent_by}
use Rattle.runner.specs.Run as run
use Rattle.runner.specs.Run.{Ran, is_refused, tables_of, answer_of, run_of}
use Rattle.promises.specs.Calls.{RunCall, text_of, input_of, lent_of, budget_of, space_after, AskCall, tables_handed, space_handed, name_asked}

-- ---- what is meant

-- a whole number, by its word, or a string's bytes, or that no name was given
pub data Reply : Type 0 where
  number : ℕ → Reply
  string : List ℕ → Reply
  no_name : Reply

-- the value of a variable; an unset one is 0 or empty
abbrev pub value_for : Variables → Kind → Telling → Reply
value_for vars kind.Whole name = number (word_of vars.numbers name)
value_for vars kind.Text name = string (bytes_of vars.strings name)

-- where the whole of what is given is one name, the value of its variable
unfoldable pub answer_for : Variables → List ℕ → Reply
answer_for vars given =
    let t = token_at given (place 0) in
    on_name t.token (λ v. cond (is_whole_name given t v) (value_for vars v.kind (telling_of (name_bytes given v))) no_name) no_name

-- an answer says so: a string by the part of the space that holds exactly its bytes, what is no name by 111
pub data Says (space : List ℕ) : Result Asked Refusal → Reply → Type 0 where
  its_word : (w : ℕ) → Says space (Ok (Whole w)) (number w)
  its_part : (front bytes back : List ℕ) → space ≡ front ++ (bytes ++ back)
      → Says space (Ok (Text (record { 0 = length front }) (length bytes))) (string bytes)
  refused : Says space (Err NoVariable) no_name

-- ---- of tables and a space that hold some variables

pub record Holds (vars : Variables) (space : List ℕ) : Type 0 where
  pub numbers : length vars.numbers ≤ most_variables
  pub strings : length vars.strings ≤ most_variables
  pub unused : List ℕ
  pub joined : space ≡ joined_strings vars.strings ++ unused

-- Asked of the tables that hold some variables, and of a space that begins with their strings' bytes, `ask_of` is `answer_for`. It says nothing
-- of other tables: of those `AskedPartsLieInside` does. Ruled out: an `ask_of` that compares a name's first character alone; one that counts
-- the bytes of the strings after a string to its place.
abbrev pub AskedOverVariables : Type 0
AskedOverVariables =
    (vars : Variables) (space given : List ℕ) → Holds vars space → Says space (ask_of (tables_of vars) (length space) given) (answer_for vars given)

-- ---- after a run

-- where a run was not refused, asking its tables and the space that it leaves is asking for the variables that it had when it was over
abbrev pub AnswersAfter : Ran → List ℕ → Tables → List ℕ → Type 0
AnswersAfter ran space tables given =
    is_refused ran.ending ≡ false
    → Says (run.space_after ran space) (ask_of (answer_of ran tables).tables (length (run.space_after ran space)) given)
    (answer_for ran.machine.variables given)

-- So of every run of the definition, whatever is given as a name. It says nothing of a refused run, which leaves what it was lent. Ruled out: a
-- definition whose tables keep the length that a string had when first assigned; one that leaves the space as the last statement had it.
abbrev pub AnswersAfterRuns : Type 0
AnswersAfterRuns =
    (text input space room : List ℕ) (records budget : ℕ) (tables : Tables) (given : List ℕ)
    → AnswersAfter (run_of text input (lent_by space room records) budget) space tables given

-- a question that is put to the tables and the space that a run left which was not refused
pub record AskedAfter (c : RunCall) (a : AskCall) : Type 0 where
  pub taken : is_refused c.answer.outcome ≡ false
  pub tables : tables_handed a ≡ c.answer.tables
  pub space : space_handed a ≡ space_after c

-- After every run that was not refused, whatever it came to, and for whatever is given as a name: a name is answered by the value of its
-- variable when the run was over, 0 or empty where it is unset; a string as the part of the space that holds exactly its bytes; and 111 comes
-- for what is no name and for nothing else. It says nothing of tables or a space that were changed in between. Ruled out: an `ask` that says
-- 111 for an unset name; a run that leaves the strings in the order of their last assignment, and the table in that of the first.
abbrev pub AsksAfterRuns : Type 0
AsksAfterRuns =
    (c : RunCall) (a : AskCall) → AskedAfter c a
    → Says (space_handed a) a.answer
    (answer_for (run_of (text_of c) (input_of c) (lent_of c) (budget_of c)).machine.variables (name_asked a))
