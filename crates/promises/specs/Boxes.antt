-- Demands 1 and 3 of what a box calls: the library's functions for runs, checks and questions, over all bytes that a host can lend. `Calls`
-- says what a call is. A statement has the proof of its name, in snake case, in `proofs/Boxes.antt`.
use Rattle.std.specs.Prelude.{◌≡◌, true, false, List, [], ◌∷◌, ◌++◌, ◌↔◌, ℕ, ◌+◌, ◌≤◌, length, get_or}
use Rattle.whole.specs.Whole.{num}
use Rattle.host.specs.Answers.{extended_of}
use Rattle.runner.specs.Run.{run_of}
use Rattle.promises.specs.Calls.{
  RunBox,
  text_in,
  input_in,
  space_in,
  space_out,
  room_in,
  room_out,
  records_in,
  records_out,
  lent_in,
  budget_in,
  block_in,
  block_out,
  answer_word,
  outcome_word,
  number_word,
  place_word,
  refused_word,
  CheckBox,
  BoxChecksAlways,
  recipe_in,
  passed_word,
  AskBox,
  BoxAsksAlways,
  block_asked,
  space_asked,
  name_in,
  found_words,
  found_word,
}
use Rattle.promises.specs.Demands.{RefusedFor}
use Rattle.promises.specs.Passing.{spared_numbers, one_of}
use Rattle.promises.specs.Questions.{Reply, number, string, no_name, answer_for}

-- Every check and every question of a box has an answer that its contract allows, whatever bytes are lent. It does not say how long a call
-- takes, and not the same of a run: that is `AnswersAlways` of `run`, and the toolchain's own theorem that `quernhem_run` ends and meets its
-- contract. Ruled out: a contract of `quernhem_check` that has no words for 16; one of `quernhem_ask` that has no answer for an empty space.
pub record BoxesAnswerAlwaysFacts : Type 0 where
  pub check : BoxChecksAlways
  pub ask : BoxAsksAlways

abbrev pub BoxesAnswerAlways : Type 0
BoxesAnswerAlways = BoxesAnswerAlwaysFacts

-- The steps that a box is told never exceed the budget that it gave. It does not say that the recipe ends. Ruled out: an answer that has the
-- steps where the place belongs; a run that makes one step more than its budget.
abbrev pub BoxStopsWithinBudget : Type 0
BoxStopsWithinBudget = (c : RunBox) → answer_word c 4 ≤ budget_in c

pub record RefusedBox (c : RunBox) (number at : ℕ) : Type 0 where
  pub refused : outcome_word c ≡ refused_word
  pub numbered : number_word c ≡ number
  pub placed : place_word c ≡ at

-- A box is told 'refused' with a number and a place if and only if its string space, its records or its text are refused so. It does not say what a text is
-- refused for: that is `load_of`. Ruled out: an answer that has the place where the line belongs; a refusal that is told as an error.
abbrev pub BoxRefusesExactly : Type 0
BoxRefusesExactly = (c : RunBox) (number at : ℕ) → RefusedBox c number at ↔ RefusedFor (text_in c) (lent_in c) number at

-- the counts are 0, and the block of tables, the string space, the room and the records are as they were lent, to the last byte
pub record BoxUnchanged (c : RunBox) : Type 0 where
  pub steps : answer_word c 4 ≡ 0
  pub written : answer_word c 5 ≡ 0
  pub taken : answer_word c 6 ≡ 0
  pub block : block_out c ≡ block_in c
  pub space : space_out c ≡ space_in c
  pub room : room_out c ≡ room_in c
  pub records : records_out c ≡ records_in c

-- A refusal changes nothing that a box has lent but the answer. Ruled out: a block that is written anew from the tables that it meant; a
-- string space that is cleared before the text is loaded.
abbrev pub BoxRefusalsChangeNothing : Type 0
BoxRefusalsChangeNothing = (c : RunBox) → outcome_word c ≡ refused_word → BoxUnchanged c

-- A recipe that a box's check has passed is never told to it with 2, 8, 13 or 16 by a run. It says nothing of other numbers, and nothing of a
-- recipe that was not passed. Ruled out: a check whose words say 'passed' for a verdict of 8; a run that tells 13 where the condition of a
-- passed IF is 0.
abbrev pub BoxPassedRunsEndWell : Type 0
BoxPassedRunsEndWell =
    (k : CheckBox) (c : RunBox) → recipe_in k ≡ text_in c → passed_word k ≡ 0 → one_of spared_numbers (number_word c) ≡ false

pub record AskedWell (c : AskBox) : Type 0 where
  pub numbered : one_of (0 ∷ 111 ∷ []) (found_word c 0) ≡ true
  pub inside : found_word c 3 + found_word c 4 ≤ length (space_asked c)

-- A question is answered with 0 or 111, and what is answered as a part of the space lies in the space that was lent, whatever the block holds.
-- It does not say that block and space are those of one run. Ruled out: a part that ends a byte behind the space; a refusal by another number.
abbrev pub BoxAsksWell : Type 0
BoxAsksWell = (c : AskBox) → AskedWell c

-- the words say a variable's value: a number in 64 bits of two's complement, a string by the part of the space that holds exactly its bytes;
-- what is no name is 111
pub data Told (space words : List ℕ) : Reply → Type 0 where
  its_number : (w : ℕ) → get_or words 0 0 ≡ 0 → get_or words 1 0 ≡ 0 → get_or words 2 0 ≡ extended_of (num w) → Told space words (number w)
  its_part : (front bytes back : List ℕ) → space ≡ front ++ (bytes ++ back) → get_or words 0 0 ≡ 0 → get_or words 1 0 ≡ 1
      → get_or words 3 0 ≡ length front → get_or words 4 0 ≡ length bytes → Told space words (string bytes)
  no_variable : get_or words 0 0 ≡ 111 → Told space words no_name

-- a question that is put to the block and the space that a run left which was not refused
pub record AskedAfterBox (c : RunBox) (a : AskBox) : Type 0 where
  pub taken : outcome_word c ≡ refused_word → ⊥
  pub block : block_asked a ≡ block_out c
  pub space : space_asked a ≡ space_out c

-- After every run of a box that was not refused, and for whatever is given as a name, the words that a box is told are those of the variable's
-- value when the run was over. It says nothing of a block or a space that were changed in between. Ruled out: a block whose words have the high
-- byte first; a negative number told in 16 bits.
abbrev pub BoxAsksAfterRuns : Type 0
BoxAsksAfterRuns =
    (c : RunBox) (a : AskBox) → AskedAfterBox c a
    → Told (space_asked a) (found_words a)
    (answer_for (run_of (text_in c) (input_in c) (lent_in c) (budget_in c)).machine.variables (name_in a))
