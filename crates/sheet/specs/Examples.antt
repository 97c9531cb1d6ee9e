-- Worked examples, computed by the checker: the request's own, and sheets that are refused.
use Rattle.std.specs.Prelude.{◌≡◌, refl, List, [], ◌∷◌, map, ℕ}
use Prim.Native.String.{String}
use Rattle.whole.specs.Bytes.{bytes, leading}
use Rattle.whole.specs.Digits.{is_digit, value_from}
use Rattle.whole.specs.Texts.{places, trimmed, digit_byte, numeral}
use Rattle.words.specs.Spellings.{same_bytes, meaning}
use Rattle.loader.specs.Lines.{lines_from}
use Rattle.console.specs.Arguments.{number_given}
use Rattle.means.specs.Means.{common_up_to, mean_of}
use Rattle.records.specs.Records.{figure_of, outcome_words, recorded}
use Rattle.tallies.specs.Totals.{how_many, all_steps, codes_from, totals_of}
use Rattle.sheet.specs.Printed.{code_lines, outcome_lines, step_lines, printed_of}
use Rattle.records.specs.declared.reading.Outcome.TheVariants.{Ended}
use Rattle.sheet.specs.Sheet.{runs, refused, read_from, sheet_of}

pub record Example : Type 0 where
  pub sheet : String
  pub lines : String

infix 3 ◌prints◌
abbrev ◌prints◌ : String → String → Example
s prints l = record { sheet = s; lines = l }

pub sheets : List Example
sheets =
    -- the request's: one record
    ("ended\t0\t0\t6\n" prints "runs\t1\nended\t1\nstopped\t0\nout\t0\nerror\t0\nsteps\t6\nmean\t6\t1\n")
    -- no records
    ∷ ("" prints "runs\t0\nended\t0\nstopped\t0\nout\t0\nerror\t0\nsteps\t0\nmean\t0\t1\n")
    -- error numbers in rising order; a byte 13 before a byte 10; a last line without its end
    ∷ ("error\t14\t30\t5\nerror\t2\t10\t0\r\nerror\t14\t5\t4\nstopped\t0\t10\t1\nout\t0\t10\t4294967295"
    prints "runs\t5\nended\t0\nstopped\t1\nout\t1\nerror\t3\ncode\t2\t1\ncode\t14\t2\nsteps\t4294967305\nmean\t858993461\t1\n")
    ∷ ("ended\t0\t65529\t4\nstopped\t0\t10\t2\nout\t0\t0\t0\nended\t0\t0\t0\n"
    prints "runs\t4\nended\t2\nstopped\t1\nout\t1\nerror\t0\nsteps\t6\nmean\t3\t2\n")
    -- anything else
    ∷ ("ended\t0\t0\t6\n\n" prints "refused\t2\n")
    ∷ ("ended\t0\t0\t6\r" prints "refused\t1\n")
    ∷ ("ended\t00\t0\t6" prints "refused\t1\n")
    ∷ ("ended\t5\t0\t6" prints "refused\t1\n")
    ∷ ("error\t0\t0\t6" prints "refused\t1\n")
    ∷ ("error\t256\t0\t6" prints "refused\t1\n")
    ∷ ("ended\t0\t65530\t6" prints "refused\t1\n")
    ∷ ("out\t0\t0\t4294967296" prints "refused\t1\n")
    ∷ ("ended\t0\t0" prints "refused\t1\n")
    ∷ ("ended\t0\t0\t6\t" prints "refused\t1\n")
    ∷ ("Ended\t0\t0\t6" prints "refused\t1\n")
    ∷ []

pub sheets_hold : map (λ (e : Example). sheet_of (bytes e.sheet)) sheets ≡ map (λ (e : Example). bytes e.lines) sheets
unfolding sheets bytes leading is_digit value_from places trimmed digit_byte numeral same_bytes meaning lines_from number_given common_up_to mean_of figure_of outcome_words recorded how_many all_steps codes_from totals_of code_lines outcome_lines step_lines printed_of read_from sheet_of
sheets_hold = refl

-- ---- the most records

pub good_record : List ℕ
good_record = bytes "ended\t0\t0\t6"

-- the 65,535th is taken, and the 65,536th refused, be it good or bad
pub last_taken : read_from 65534 (good_record ∷ []) ≡ runs (record { outcome = Ended; steps = 6 } ∷ [])
unfolding good_record bytes leading is_digit value_from same_bytes meaning number_given figure_of outcome_words recorded read_from
last_taken = refl

pub too_many : read_from 65534 (good_record ∷ good_record ∷ []) ≡ refused 65536
unfolding good_record bytes leading is_digit value_from same_bytes meaning number_given figure_of outcome_words recorded read_from
too_many = refl

pub bad_before : read_from 65534 ([] ∷ good_record ∷ []) ≡ refused 65535
unfolding bytes leading is_digit value_from same_bytes meaning number_given figure_of outcome_words recorded read_from
bad_before = refl
