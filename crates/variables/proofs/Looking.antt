-- Variables that the tables and the space hold.
use Rattle.std.specs.Prelude.{None, Option, Some, ℕ}
use mathlib.Core.Path.{◌≡◌, refl, sym, ap, ◌∙◌}
use mathlib.Core.List.{List}
use Prim.Native.Nat.{ℕ, ◌≤◌}
use lib.ListN.{take}
use lib.Seq.{take-take}
use Rattle.words.specs.Names.{Telling}
use Rattle.variables.specs.Variables.{Variables, word_of, bytes_of, most_variables}
use Rattle.variables.specs.bridge.Memory.{strings_in, SlotBelow, word_at, bytes_at, Looked}
use Rattle.variables.specs.declared.tables.Tables.{Tables}
use Rattle.variables.specs.Tables.{names_in, numbers_in, slot_in, sum_of}
use Rattle.variables.proofs.Lookups.{slot_below, slot_word, no_slot_word, slot_bytes, no_slot_bytes, strings_kept}

-- ---- a name's entry

module _ (names : List ℕ) (name : Telling) where
  below_by : (x : Option ℕ) → slot_in names name ≡ x → SlotBelow most_variables x
  below_by (Some i) e = slot_below names name i e
  below_by None e = tt

  -- it is one of 64, or none
  pub found_below : SlotBelow most_variables (slot_in names name)
  found_below = below_by (slot_in names name) refl

  word_by : (words : List ℕ) (x : Option ℕ) → slot_in names name ≡ x → word_at x words ≡ word_of (numbers_in (names_in names) words) name
  word_by words (Some i) e = sym (slot_word names words name i e)
  word_by words None e = sym (no_slot_word names words name e)

  bytes_by : (lengths space : List ℕ) (x : Option ℕ) → slot_in names name ≡ x
      → bytes_at x lengths space ≡ bytes_of (strings_in (names_in names) lengths space) name
  bytes_by lengths space (Some i) e = sym (slot_bytes names lengths space name i e)
  bytes_by lengths space None e = sym (no_slot_bytes names lengths space name e)

-- ---- variables

module _ {tables : Tables} where
  -- what is written above all strings changes no variable
  pub looked_kept : {vars : Variables} {s s' : List ℕ} → Looked vars tables s → (used : ℕ) → sum_of tables.strings.lengths ≤ used
      → take used s' ≡ take used s → Looked vars tables s'
  looked_kept {s = s} {s' = s'} l used h e =
      let f : take (sum_of tables.strings.lengths) s ≡ take (sum_of tables.strings.lengths) s' =
      sym (take-take (sum_of tables.strings.lengths) used s h) ∙ ap (take (sum_of tables.strings.lengths)) (sym e) ∙ take-take (sum_of tables.strings.lengths) used s' h in
      record {
        word = l.word;
        bytes = λ name. l.bytes name ∙ ap (λ vs. bytes_of vs name) (strings_kept (names_in tables.strings.names) tables.strings.lengths s s' f);
      }

  -- those that they spell out
  pub looked_self : {s : List ℕ} → Looked (record { numbers = numbers_in (names_in tables.numbers.names) tables.numbers.words; strings = strings_in (names_in tables.strings.names) tables.strings.lengths s }) tables s
  looked_self = record { word = λ name. refl; bytes = λ name. refl }

  module _ {vars : Variables} {s : List ℕ} (l : Looked vars tables s) (name : Telling) where
    -- what stands in a name's entry is the variable's
    pub looked_word : word_at (slot_in tables.numbers.names name) tables.numbers.words ≡ word_of vars.numbers name
    looked_word = word_by tables.numbers.names name tables.numbers.words (slot_in tables.numbers.names name) refl ∙ sym (l.word name)

    pub looked_bytes : bytes_at (slot_in tables.strings.names name) tables.strings.lengths s ≡ bytes_of vars.strings name
    looked_bytes = bytes_by tables.strings.names name tables.strings.lengths s (slot_in tables.strings.names name) refl ∙ sym (l.bytes name)
