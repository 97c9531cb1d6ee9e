-- What a token is found to be, where the specification asks for it: a name, a line number, a quoted text.
use Rattle.std.specs.Prelude.{None, Option, Some}
use mathlib.Core.Path.{◌≡◌, refl, sym, ◌∙◌}
use mathlib.Core.Bool.{Bool, true, false, not}
use borrow.Author.Tests.{not-true, not-false}
use Rattle.words.specs.Places.{line_number}
use Rattle.words.specs.declared.names.Name.{Name}
use Rattle.words.specs.declared.places.LineNumber.{LineNumber}
use Rattle.words.specs.declared.symbols.Quotation.{Quotation}
use Rattle.words.specs.declared.symbols.Scanned.{Scanned}
use Rattle.words.specs.declared.symbols.Token.{Token}
use Rattle.words.specs.declared.symbols.Token.TheVariants.{EndOfLine, Keyword, Not, Infix, Call, Named, Number, Hexadecimal, LineOnly, Quoted, Symbol, Unreadable}
use Rattle.scanner.specs.Tokens.{reads}
use Rattle.grammar.specs.Tests.{on_name, on_text, on_line}
use Rattle.grammar.specs.Trees.{goto, gosub}
use Rattle.statements.specs.Statements.{Begun, bad, done}
use Rattle.grammar.specs.bridge.Answers.{line_of}
use Rattle.statements.specs.bridge.Answers.{name_of, is_quoted, begun_answer}
use Rattle.statements.specs.declared.reading.StatementRead.{StatementRead}

-- ---- a test that the code turned around, by what it did then

pub passed : {b test : Bool} → b ≡ test → not b ≡ false → test ≡ true
passed {b} e h = sym e ∙ not-false b h

pub failed : {b test : Bool} → b ≡ test → not b ≡ true → test ≡ false
failed {b} e h = sym e ∙ not-true b h

-- ---- what holds of each way holds of the choice

pub by_name_in : {A : Type 0} (P : A → Type 0) (t : Token) (go : Name → A) (other : A)
    → ((v : Name) → name_of t ≡ Some v → t ≡ Named v → P (go v)) → (name_of t ≡ None → P other) → P (on_name t go other)
by_name_in P EndOfLine go other found none = none refl
by_name_in P (Keyword w) go other found none = none refl
by_name_in P Not go other found none = none refl
by_name_in P (Infix op) go other found none = none refl
by_name_in P (Call f) go other found none = none refl
by_name_in P (Named v) go other found none = found v refl refl
by_name_in P (Number n) go other found none = none refl
by_name_in P (Hexadecimal n) go other found none = none refl
by_name_in P (LineOnly l) go other found none = none refl
by_name_in P (Quoted q) go other found none = none refl
by_name_in P (Symbol s) go other found none = none refl
by_name_in P Unreadable go other found none = none refl

pub by_name : (P : Begun → Type 0) (t : Token) (go : Name → Begun) (other : Begun)
    → ((v : Name) → name_of t ≡ Some v → t ≡ Named v → P (go v)) → (name_of t ≡ None → P other) → P (on_name t go other)
by_name P t go other found none = by_name_in P t go other found none

pub by_line : (P : Begun → Type 0) (t : Token) (go : LineNumber → Begun) (other : Begun)
    → ((l : LineNumber) → line_of t ≡ Some l → reads t ≡ true → P (go l)) → (line_of t ≡ None → P other) → P (on_line t go other)
by_line P EndOfLine go other found none = none refl
by_line P (Keyword w) go other found none = none refl
by_line P Not go other found none = none refl
by_line P (Infix op) go other found none = none refl
by_line P (Call f) go other found none = none refl
by_line P (Named v) go other found none = none refl
by_line P (Number n) go other found none = found (line_number n) refl refl
by_line P (Hexadecimal n) go other found none = none refl
by_line P (LineOnly l) go other found none = found l refl refl
by_line P (Quoted q) go other found none = none refl
by_line P (Symbol s) go other found none = none refl
by_line P Unreadable go other found none = none refl

pub by_text : {A : Type 0} (P : A → Type 0) (t : Token) (go : Quotation → A) (other : A)
    → ((q : Quotation) → is_quoted t ≡ true → t ≡ Quoted q → P (go q)) → (is_quoted t ≡ false → P other) → P (on_text t go other)
by_text P EndOfLine go other found none = none refl
by_text P (Keyword w) go other found none = none refl
by_text P Not go other found none = none refl
by_text P (Infix op) go other found none = none refl
by_text P (Call f) go other found none = none refl
by_text P (Named v) go other found none = none refl
by_text P (Number n) go other found none = none refl
by_text P (Hexadecimal n) go other found none = none refl
by_text P (LineOnly l) go other found none = none refl
by_text P (Quoted q) go other found none = found q refl refl
by_text P (Symbol s) go other found none = none refl
by_text P Unreadable go other found none = none refl

-- a line number reads
pub line_reads : (t : Token) {l : LineNumber} → line_of t ≡ Some l → reads t ≡ true
line_reads t e = by_line (λ b. reads t ≡ true) t (λ l. bad) bad (λ l f a. a) (λ f. cc)

-- ---- what was found tells which way the answer goes

module _ (t : Token) (go : Name → Begun) (other : Begun) {n : Option Name} (is : n ≡ name_of t) {r : Option StatementRead} where
  pub named : {v : Name} → n ≡ Some v → r ≡ begun_answer (go v) → r ≡ begun_answer (on_name t go other)
  named {v} e h =
      by_name (λ b. r ≡ begun_answer b) t go other (λ w f a. let same : w ≡ v = cc in rw same h) (λ f. cc)

  pub unnamed : n ≡ None → r ≡ begun_answer other → r ≡ begun_answer (on_name t go other)
  unnamed e h = by_name (λ b. r ≡ begun_answer b) t go other (λ w f a. cc) (λ f. h)

module _ (t : Token) (go : LineNumber → Begun) (other : Begun) {n : Option LineNumber} (is : n ≡ line_of t) {r : Option StatementRead} where
  pub numbered : {l : LineNumber} → n ≡ Some l → r ≡ begun_answer (go l) → r ≡ begun_answer (on_line t go other)
  numbered {l} e h =
      by_line (λ b. r ≡ begun_answer b) t go other (λ m f a. let same : m ≡ l = cc in rw same h) (λ f. cc)

  pub unnumbered : n ≡ None → r ≡ begun_answer other → r ≡ begun_answer (on_line t go other)
  unnumbered e h = by_line (λ b. r ≡ begun_answer b) t go other (λ m f a. cc) (λ f. h)

-- GOSUB is answered as GOTO is
pub jump_same : (t : Token) (u : Scanned)
    → begun_answer (on_line t (λ l. done (goto l) u) bad) ≡ begun_answer (on_line t (λ l. done (gosub l) u) bad)
jump_same t u =
    by_line (λ b. begun_answer (on_line t (λ l. done (goto l) u) bad) ≡ begun_answer b) t (λ l. done (gosub l) u) bad
    (λ l f a. sym (numbered t (λ l. done (goto l) u) bad refl f refl))
    (λ f. sym (unnumbered t (λ l. done (goto l) u) bad refl f refl))
