-- What each function that gives a text makes of its arguments, as the code goes about it: a law for each of its answers.
use Rattle.std.specs.Prelude.{Result, Err}
use mathlib.Core.Path.{◌≡◌, refl, sym, ap, ◌∙◌}
use mathlib.Core.Bool.{Bool, true, false, cond, not}
use mathlib.Core.List.{List, [], ◌∷◌}
use Prim.Native.Nat.{ℕ, suc, ◌+◌, ◌-◌, ◌≤◌, min}
use native.Mathlib.Omega.{arith}
use borrow.Author.Tests.{leb-true, not-true, not-false}
use denote.Enum.Declared.{tag_of}
use lib.Dec.{leb}
use lib.ListN.{length, take, drop, get_or, replicate, length-drop}
use lib.Seq.{length-take-le, drop-cons, drop-drop}
use types.Run.{OneOf, miss}
use Rattle.whole.specs.Texts.{signed_numeral, hexadecimal, longest_string}
use Rattle.whole.specs.declared.errors.Error.TheVariants.{IllegalFunctionCall}
use Rattle.whole.specs.Bytes.{blank}
use Rattle.whole.proofs.Never.{never}
use Rattle.words.proofs.Choices.{by_test, both}
use Rattle.words.specs.declared.names.Kind.TheVariants as kind
use Rattle.words.specs.declared.symbols.Function.{Function}
use Rattle.words.specs.declared.symbols.Function.TheVariants.{Len, Asc, Chr, Left, Right, Mid, Space, String, Instr, Str, Hex, Val, Abs, Sgn, Fre}
use Rattle.words.specs.declared.symbols.Scanned.{Scanned}
use Rattle.grammar.specs.Functions.{gives}
use Rattle.variables.specs.Strings.{Value, whole, text, produced}
use Rattle.variables.specs.declared.values.Worked.{Worked}
use Rattle.strings.specs.Functions as definition
use Rattle.strings.specs.Functions.{ranged, within, word, bytes, fill_right, fill_byte, mid_length, called, largest_argument}
use Rattle.strings.specs.bridge.Memory.{MadeOf, Placed, argument_length, argument_word, first_of, second_of, third_of, are_three, values_in}
use Rattle.strings.specs.declared.arguments.Argument.TheVariants as argument
use Rattle.strings.specs.declared.arguments.Given.{Given}
use Rattle.strings.proofs.Givens.{word_first, word_second, word_third, bytes_first, value_second, count_three}
use Rattle.strings.proofs.Produced.{refused, made_as}
use Rattle.strings.proofs.Parts.{last_bytes}
use Rattle.whole.specs.declared.errors.Error.{Error}

-- ---- what a test's answer tells of the definition's

module _ {r t : Bool} (e : r ≡ t) where
  pub told_no : not r ≡ true → t ≡ false
  told_no f = sym e ∙ not-true r f

  pub told_yes : not r ≡ false → t ≡ true
  told_yes f = sym e ∙ not-false r f

-- a word that passed is in the range
pub passed : {r : Bool} (low n : ℕ) → r ≡ within low n → not r ≡ false → (low ≤ n) × (n ≤ largest_argument)
passed low n e f =
    let b = both (leb low n) (leb n largest_argument) (told_yes e f) in (leb-true low n b.0, leb-true n largest_argument b.1)

module _ (before : List ℕ) (used : ℕ) (g : Given) where
  abbrev pub values : List Value
  values = values_in g (drop used before)

module _ (before : List ℕ) (used : ℕ) (g : Given) (p : Placed before used g) (ahead : Scanned) where
  -- a function's answer, and what it leaves of the space
  abbrev pub Calls : Function → Result Worked Error → List ℕ → Type 0
  Calls f r after = MadeOf (called f) before used g ahead r after

  abbrev pub illegal : Result Worked Error
  illegal = Err IllegalFunctionCall

  pub inside : used ≤ length before
  inside = omega arith

  pub first_long : length (bytes (values before used g) 0) ≡ argument_length (first_of g)
  first_long =
      let d = length-drop used before in
      rw (bytes_first before used g) (length-take-le (argument_length (first_of g)) (drop used before) (omega (arith, p.within)))

  -- ---- parts of a text

  module _ {n : ℕ} (e : n ≡ argument_word (second_of g)) where
    second_word : word (values before used g) 1 ≡ n
    second_word = word_second before used g ∙ sym e

    pub left_refused : within 0 n ≡ false → Calls Left illegal before
    left_refused f = refused inside (λ room. rw (second_word, f))

    pub left_made : {r : Result Worked Error} {after : List ℕ} → within 0 n ≡ true
        → MadeOf (λ vs. produced (take n (drop 0 (bytes vs 0))) vs) before used g ahead r after → Calls Left r after
    left_made f m = made_as (λ room. rw (second_word, f)) m

    pub right_refused : within 0 n ≡ false → Calls Right illegal before
    right_refused f = refused inside (λ room. rw (second_word, f))

    pub right_made : {r : Result Worked Error} {after : List ℕ} (from : ℕ) → within 0 n ≡ true
        → from ≡ argument_length (first_of g) - min n (argument_length (first_of g))
        → MadeOf (λ vs. produced (take n (drop from (bytes vs 0))) vs) before used g ahead r after → Calls Right r after
    right_made from f l m =
        made_as (λ room. rw (second_word, f, ← last_bytes (bytes (values before used g) 0) (argument_length (first_of g)) n from first_long l)) m

    pub mid_refused : within 1 n ≡ false → Calls Mid illegal before
    mid_refused f = refused inside (λ room. rw (second_word, f))

    module _ {most : ℕ} (l : most ≡ cond (are_three g) (argument_word (third_of g)) longest_string) where
      mid_most : mid_length (values before used g) ≡ most
      mid_most = rw (count_three (drop used before) g, word_third before used g) (sym l)

      pub mid_refused_length : within 1 n ≡ true → within 0 most ≡ false → Calls Mid illegal before
      mid_refused_length f h = refused inside (λ room. rw (second_word, mid_most, f, h))

      pub mid_made : {r : Result Worked Error} {after : List ℕ} → within 1 n ≡ true → within 0 most ≡ true
          → MadeOf (λ vs. produced (take most (drop (n - 1) (bytes vs 0))) vs) before used g ahead r after → Calls Mid r after
      mid_made f h m = made_as (λ room. rw (second_word, mid_most, f, h)) m

  -- ---- so many of one byte, and the texts of a number

  abbrev Fills : ℕ → ℕ → Result Worked Error → List ℕ → Type 0
  Fills count byte r after =
      MadeOf (λ vs room. ranged (within 0 count) room (produced (replicate count byte) vs room)) before used g ahead r after

  module _ {n : ℕ} (e : n ≡ argument_word (first_of g)) where
    pub first_word : word (values before used g) 0 ≡ n
    first_word = word_first before used g ∙ sym e

    pub chr_refused : within 0 n ≡ false → Calls Chr illegal before
    chr_refused f = refused inside (λ room. rw (first_word, f))

    pub chr_made : {r : Result Worked Error} {after : List ℕ} → within 0 n ≡ true → Fills 1 n r after → Calls Chr r after
    chr_made f m = made_as (λ room. rw (first_word, f)) m

    pub space_made : {r : Result Worked Error} {after : List ℕ} → Fills n blank r after → Calls Space r after
    space_made m = made_as (λ room. rw first_word) m

    pub str_made : {r : Result Worked Error} {after : List ℕ} → MadeOf (produced (signed_numeral n)) before used g ahead r after → Calls Str r after
    str_made m = made_as (λ room. rw first_word) m

    pub hex_made : {r : Result Worked Error} {after : List ℕ} → MadeOf (produced (hexadecimal n)) before used g ahead r after → Calls Hex r after
    hex_made m = made_as (λ room. rw first_word) m

    -- STRING$, by the value of its second argument
    module _ (v : Value) (s : definition.argument (values before used g) 1 ≡ v) where
      string_refused : fill_right v ≡ false → Calls String illegal before
      string_refused f = refused inside (λ room. rw (first_word, s, f) (by_test (within 0 n) (λ t. rw t) (λ t. rw t)))

      string_made : {r : Result Worked Error} {after : List ℕ} → fill_right v ≡ true → Fills n (fill_byte v) r after → Calls String r after
      string_made f m = made_as (λ room. rw (first_word, s, f) (by_test (within 0 n) (λ t. rw t) (λ t. rw t))) m

    module _ (code : ℕ) (s : second_of g ≡ argument.Whole code) where
      second_code : definition.argument (values before used g) 1 ≡ whole code
      second_code = value_second (drop used before) g ∙ rw s

      pub code_refused : within 0 code ≡ false → Calls String illegal before
      code_refused f = string_refused (whole code) second_code f

      pub code_made : {r : Result Worked Error} {after : List ℕ} → within 0 code ≡ true → Fills n code r after → Calls String r after
      code_made f m = string_made (whole code) second_code f m

    module _ (len : ℕ) (s : second_of g ≡ argument.Text len) where
      second_text : definition.argument (values before used g) 1 ≡ text (take len (drop (used + argument_length (first_of g)) before))
      second_text = value_second (drop used before) g ∙ rw (s, drop-drop)

      pub text_refused : len ≡ 0 → Calls String illegal before
      text_refused f = string_refused (text []) (second_text ∙ rw f) refl

      -- where it is not empty, the byte stands after the first argument
      second_starts : 1 ≤ len → take len (drop (used + argument_length (first_of g)) before)
          ≡ get_or before (used + argument_length (first_of g)) 0 ∷ take (len - 1) (drop (suc (used + argument_length (first_of g))) before)
      second_starts h =
          let i = used + argument_length (first_of g) in
          let l : argument_length (second_of g) ≡ len = ap argument_length s in
          let e : len ≡ suc (len - 1) = omega arith in
          ap (take len) (drop-cons before i 0 (omega (arith, p.within))) ∙ ap (λ k. take k (get_or before i 0 ∷ drop (suc i) before)) e

      pub text_made : {r : Result Worked Error} {after : List ℕ} → 1 ≤ len → Fills n (get_or before (used + argument_length (first_of g)) 0) r after
          → Calls String r after
      text_made h m = string_made _ (second_text ∙ ap text (second_starts h)) refl m

-- ---- the function that is left when all other texts are told apart

abbrev pub function_tag : Function → ℕ
function_tag f = tag_of Rattle.words.specs.contracts.symbols.Function.the_type f

abbrev other_texts : List ℕ
other_texts = 0 ∷ 1 ∷ 8 ∷ 10 ∷ 11 ∷ 12 ∷ 13 ∷ 14 ∷ []

-- no kind is both
pub kinds_apart : kind.Whole ≡ kind.Text → ⊥
kinds_apart e = never (cc)

pub last_text : (f : Function) → gives f ≡ kind.Text → OneOf other_texts (function_tag f) → f ≡ Hex
last_text Len e h = absurd (kinds_apart e)
last_text Asc e h = absurd (kinds_apart e)
last_text Chr e h = absurd (miss other_texts 2 tt h)
last_text Left e h = absurd (miss other_texts 3 tt h)
last_text Right e h = absurd (miss other_texts 4 tt h)
last_text Mid e h = absurd (miss other_texts 5 tt h)
last_text Space e h = absurd (miss other_texts 6 tt h)
last_text String e h = absurd (miss other_texts 7 tt h)
last_text Instr e h = absurd (kinds_apart e)
last_text Str e h = absurd (miss other_texts 9 tt h)
last_text Hex e h = refl
last_text Val e h = absurd (kinds_apart e)
last_text Abs e h = absurd (kinds_apart e)
last_text Sgn e h = absurd (kinds_apart e)
last_text Fre e h = absurd (kinds_apart e)
