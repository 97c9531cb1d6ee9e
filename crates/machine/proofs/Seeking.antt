-- The record that a statement asks for, by how the statement is led.
use Rattle.std.specs.Prelude.{Option}
use mathlib.Core.Path.{◌≡◌, refl}
use mathlib.Core.Bool.{true}
use mathlib.Core.List.{List, [], ◌∷◌}
use Prim.Native.Nat.{ℕ}
use types.Run.{OneOf, miss}
use Rattle.words.specs.Places.{place}
use Rattle.words.specs.declared.names.Name.{Name}
use Rattle.words.specs.declared.places.Place.{Place}
use Rattle.words.specs.declared.symbols.Scanned.{Scanned}
use Rattle.words.specs.declared.symbols.Word.{Word}
use Rattle.words.specs.declared.symbols.Word.TheVariants.{Let, Print, If, Then, Else, Goto, Gosub, Return, For, To, Step, Next, Line, Input, End, Stop, Rem, While, Wend, Data, Read, Restore}
use Rattle.scanner.specs.Tokens.{token_at}
use Rattle.grammar.specs.Tests.{is_keyword, on_name}
use Rattle.grammar.specs.Trees.{Statement, next, next_of, Part, last, more}
use Rattle.grammar.specs.Formulas.{after}
use Rattle.statements.specs.Parts.{head_of}
use Rattle.statements.specs.Statements.{Begun, bad, done, variable_of, for_at, by_word, lead_of, begun_by, begun_at, good_part, part_of}
use Rattle.statements.specs.declared.leading.Lead.{Lead}
use Rattle.statements.proofs.Findings.{by_name, by_line}
use Rattle.statements.proofs.Views.{Final, plain, thens, elses, more_view, final_view}
use Rattle.statements.proofs.Ways.{if_so, by_assign, by_items, by_condition, by_for, by_repeat, by_data, by_read, by_input}
use Rattle.machine.specs.declared.records.Sought.{Sought}
use Rattle.machine.specs.declared.records.Sought.TheVariants as sought
use Rattle.machine.specs.bridge.Seeking.{wish_of, sought_for, loop_sought, Seeks, sought_loop}
use Rattle.machine.proofs.Tokens.{word_tag, by_named}

-- ---- the statement that begins a part

-- at a place of the line that begins at another
module _ (names : List ℕ) (numbers : ℕ) (here spot : Place) where
  last_seeks : (line : List ℕ) (at q : ℕ) (x : Statement) (end : Scanned) {k : Sought} → Final line true at q x end
      → Seeks names numbers here spot k (begun_at line true at) → k ≡ sought_for names numbers (wish_of here.0 spot.0 x)
  last_seeks line at q x end (plain f) h = rw f.begun at h
  last_seeks line at q x end (thens f) h = rw f.begun at h
  last_seeks line at q x end (elses f) h = rw f.begun at h

  part_by : (line : List ℕ) (at : ℕ) (p : Part) (end : Scanned) {k : Sought} → part_of line true at ≡ good_part p end
      → Seeks names numbers here spot k (begun_at line true at) → k ≡ sought_for names numbers (wish_of here.0 spot.0 (head_of p))
  part_by line at (last q x) end e h = last_seeks line at q x end (final_view line true at e) h
  part_by line at (more q x rest) end e h = rw (more_view line true at e).begun at h

  -- led as the statement at a place is
  pub part_seeks : (line : List ℕ) (at : ℕ) {l : Option Lead} {k : Sought} → l ≡ lead_of line true (token_at line (place at))
      → Seeks names numbers here spot k (begun_by line l) → (p : Part) (end : Scanned) → part_of line true at ≡ good_part p end
      → k ≡ sought_for names numbers (wish_of here.0 spot.0 (head_of p))
  unfolding begun_at
  part_seeks line at e h p end i = part_by line at p end i (rw e at h)

-- ---- FOR and NEXT ask for the loop of the name that follows

module _ (names : List ℕ) (numbers : ℕ) (here at : Place) (s : List ℕ) (t : Scanned) where
  abbrev of_loop : Name → Sought
  of_loop v = loop_sought names numbers (variable_of s v).telling

  abbrev counted : Name → Begun
  counted v = for_at s (variable_of s v) (after s t)

  pub for_seeks : Seeks names numbers here at (sought_loop names numbers s t) (by_word s For t)
  for_seeks =
      by_named (λ x. Seeks names numbers here at (on_name x of_loop sought.Loop) (on_name x counted bad))
      (λ v. by_for (Seeks names numbers here at (of_loop v)) tt s (after s t) (variable_of s v) (λ a b c u e. refl))
      (λ x no. rw (no Begun counted bad) tt)
      t.token

  abbrev turned : Name → Begun
  turned v = done (next_of (variable_of s v)) (after s t)

  pub next_seeks : Seeks names numbers here at (sought_loop names numbers s t) (by_word s Next t)
  next_seeks =
      by_named (λ x. Seeks names numbers here at (on_name x of_loop sought.Loop) (on_name x turned (done next t)))
      (λ v. refl)
      (λ x no. rw (no Begun turned (done next t)) (no Sought of_loop sought.Loop))
      t.token

  -- ---- WHILE asks for its own record, and WEND for that of its WHILE

  pub while_seeks : Seeks names numbers here at (sought.WhileAt here at) (by_word s While t)
  while_seeks = by_repeat (Seeks names numbers here at (sought.WhileAt here at)) tt s t (λ c u e. refl)

  pub wend_seeks : Seeks names numbers here at (sought.WhileOf here at) (by_word s Wend t)
  wend_seeks = refl

  -- ---- the others ask for none

  abbrev N : Begun → Type 0
  N b = Seeks names numbers here at sought.Nothing b

  abbrev other_words : List ℕ
  other_words = 0 ∷ 1 ∷ 2 ∷ 3 ∷ 4 ∷ 5 ∷ 6 ∷ 9 ∷ 10 ∷ 12 ∷ 13 ∷ 14 ∷ 15 ∷ 16 ∷ 19 ∷ 20 ∷ 21 ∷ []

  pub word_seeks : (w : Word) → OneOf other_words (word_tag w) → N (by_word s w t)
  word_seeks Let h = by_name N t.token _ _ (λ v f n. by_assign N tt s (after s t) (variable_of s v) (λ f u e. refl)) (λ n. tt)
  word_seeks Print h = by_items N tt s t (λ is u e. refl)
  word_seeks If h = by_condition N tt s t (λ c u e. refl)
  word_seeks Then h = tt
  word_seeks Else h = refl
  word_seeks Goto h = by_line N t.token _ _ (λ l n r. refl) (λ n. tt)
  word_seeks Gosub h = by_line N t.token _ _ (λ l n r. refl) (λ n. tt)
  word_seeks Return h = absurd (miss other_words 7 tt h)
  word_seeks For h = absurd (miss other_words 8 tt h)
  word_seeks To h = tt
  word_seeks Step h = tt
  word_seeks Next h = absurd (miss other_words 11 tt h)
  word_seeks Line h = if_so N tt (is_keyword Input t.token) _ (by_input N tt s (after s t) (λ text v u e. refl))
  word_seeks Input h = tt
  word_seeks End h = refl
  word_seeks Stop h = refl
  word_seeks Rem h = refl
  word_seeks While h = absurd (miss other_words 17 tt h)
  word_seeks Wend h = absurd (miss other_words 18 tt h)
  word_seeks Data h = by_data N tt s t (λ l p e. refl)
  word_seeks Read h = by_read N tt s t (λ vs u e. refl)
  word_seeks Restore h = by_line N t.token _ _ (λ l n r. refl) (λ n. refl)
