-- Receiving a recipe over the serial line, in the words that a host keeps and is answered with.
use Rattle.checker.specs.declared.checking.Fault.{Fault}
use Rattle.loader.specs.declared.refusals.RefusedAt.{RefusedAt}
use Rattle.std.specs.Prelude.{◌≡◌, cond, List, [], ◌∷◌, ℕ, eqb, get_or, Err, Ok, Result, None, Option, Some}
use Rattle.checker.specs.declared.checking.Fault.TheVariants.{Refused}
use Rattle.serial.specs.Receiving.{Held, Ended}
use Rattle.host.specs.Answers.{verdict_in}

-- ---- a receipt in two words

-- 0 and how many bytes the buffer holds; or 1: more came than a text may have
abbrev pub receipt_words : Option ℕ → List ℕ
receipt_words (Some n) = 0 ∷ n ∷ []
receipt_words None = 1 ∷ 0 ∷ []

-- any words are a receipt
unfoldable pub receipt_of : ℕ → ℕ → Option ℕ
receipt_of first second = cond (eqb first 0) (Some second) None

abbrev pub receipt_in : List ℕ → Option ℕ
receipt_in words = receipt_of (get_or words 0 0) (get_or words 1 0)

-- the receipt to begin with; where the buffer is refused no receipt matters, and this is the one of no bytes
abbrev pub first_receipt : Result (Option ℕ) RefusedAt → Option ℕ
first_receipt (Ok receipt) = receipt
first_receipt (Err e) = Some 0

-- ---- answers, as the check's verdict

abbrev pub begun_as : Result (Option ℕ) RefusedAt → Result (Unit {0}) Fault
begun_as (Ok receipt) = Ok tt
begun_as (Err e) = Err (Refused e.refusal e.place)

abbrev pub loaded_as : Result (Unit {0}) RefusedAt → Result (Unit {0}) Fault
loaded_as (Ok _) = Ok tt
loaded_as (Err e) = Err (Refused e.refusal e.place)

-- ---- what a host has after a call

pub record HasBegun (answer : Result (Option ℕ) RefusedAt) (receipt verdict : List ℕ) : Type 0 where
  pub receipted : receipt ≡ receipt_words (first_receipt answer)
  pub judged : verdict ≡ verdict_in (begun_as answer)

pub record HasTaken (after : Held) (buffer receipt : List ℕ) : Type 0 where
  pub buffered : buffer ≡ after.buffer
  pub receipted : receipt ≡ receipt_words after.receipt

pub record HasFinished (end : Ended) (buffer verdict : List ℕ) : Type 0 where
  pub buffered : buffer ≡ end.left
  pub judged : verdict ≡ verdict_in (loaded_as end.answer)
