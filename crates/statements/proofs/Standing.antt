-- How a statement that reads begins: which tokens stand there, and where its formulas begin.
use Rattle.std.specs.Prelude.{Some}
use mathlib.Core.Path.{◌≡◌, refl}
use mathlib.Core.Bool.{Bool, true, false, ◌||◌}
use mathlib.Core.List.{List, []}
use Prim.Native.Nat.{ℕ}
use Rattle.words.specs.Places.{place}
use Rattle.words.specs.declared.names.Name.{Name}
use Rattle.words.specs.declared.places.LineNumber.{LineNumber}
use Rattle.words.specs.declared.symbols.Quotation.{Quotation}
use Rattle.words.specs.declared.symbols.Scanned.{Scanned}
use Rattle.words.specs.declared.symbols.Token.{Token}
use Rattle.words.specs.declared.symbols.Token.TheVariants.{EndOfLine, Keyword, Not, Infix, Call, Named, Number, Hexadecimal, LineOnly, Quoted, Symbol, Unreadable}
use Rattle.words.specs.declared.symbols.Sign.{Sign}
use Rattle.words.specs.declared.symbols.Sign.TheVariants.{Open, Close, Comma, Semicolon, Colon, Question, Equal, Minus}
use Rattle.words.specs.declared.symbols.Word.{Word}
use Rattle.words.specs.declared.symbols.Word.TheVariants.{Let, Print, If, Then, Else, Goto, Gosub, Return, For, To, Step, Next, Line, Input, End, Stop, Rem, While, Wend, Data, Read, Restore}
use Rattle.words.proofs.Choices.{by_test}
use Rattle.scanner.specs.Tokens.{token_at}
use Rattle.items.specs.Items as item
use Rattle.items.specs.Items.{DataItems, items_from}
use Rattle.grammar.specs.Tests.{choose, is_symbol, is_keyword, ends_statement, on_text}
use Rattle.grammar.specs.Trees.{Formula, number, Variable, Item, Statement, empty, assign, print, if_then, if_else, goto, gosub, return, for, next, next_of, while, wend, line_input, data_of, read, restore, restore_to, end, stop, remark}
use Rattle.grammar.specs.Formulas as formulas
use Rattle.grammar.specs.Formulas.{Reading, good, after, quoted_bytes, enough, formula_of}
use Rattle.statements.specs.Statements.{Begun, bad, done, choice, on_formula, variable_of, assign_at, Items, no_items, items, items_at, printed, print_at, if_at, for_at, target_at, input_at, held, data_at, NameList, unlisted, listed, names_at, filled_by, read_at, led_by_word, led_by_sign, led_by_number, led_by_token, begun_by, begun_at}
use Rattle.grammar.specs.bridge.Answers.{line_of}
use Rattle.statements.specs.bridge.Answers.{is_quoted, items_of}
use Rattle.statements.proofs.Findings.{by_name, by_line, by_text}

-- ---- the tokens of each statement, from its first one, t, to the one that follows it, u

-- the token itself, or the one after it where it is a certain word, which may be left out
unfoldable pub past : Word → List ℕ → Scanned → Scanned
past x s t = choose (is_keyword x t.token) (λ _. after s t) (λ _. t)

pub past_word : (x : Word) (s : List ℕ) (t : Scanned) → is_keyword x t.token ≡ true → past x s t ≡ after s t
unfolding past
past_word x s t e = rw e

pub past_none : (x : Word) (s : List ℕ) (t : Scanned) → is_keyword x t.token ≡ false → past x s t ≡ t
unfolding past
past_none x s t e = rw e

-- a word alone
pub record Bare (s : List ℕ) (t : Scanned) (x : Word) (u : Scanned) : Type 0 where
  pub word : t.token ≡ Keyword x
  pub next : u ≡ after s t

-- the name of a variable
pub record Target (s : List ℕ) (t : Scanned) (v : Variable) : Type 0 where
  pub name : Name
  pub named : t.token ≡ Named name
  pub is : v ≡ variable_of s name

-- v = e, from v on
pub record Assigned (s : List ℕ) (t : Scanned) (v : Variable) (f : Formula) (u : Scanned) : Type 0 where
  pub target : Target s t v
  pub equal : is_symbol Equal (after s t).token ≡ true
  pub value : formula_of s (after s (after s t)) ≡ good f u

-- PRINT, or a question mark
abbrev pub is_print : Token → Bool
is_print t = is_keyword Print t || is_symbol Question t

pub record Printed (s : List ℕ) (t : Scanned) (is : List Item) (u : Scanned) : Type 0 where
  pub word : is_print t.token ≡ true
  pub shows : items_of s (after s t) ≡ items is u

-- GOTO l, where the GOTO that begins a part of an IF may be left out
pub record Gone (s : List ℕ) (first : Bool) (t : Scanned) (l : LineNumber) (u : Scanned) : Type 0 where
  pub bare : is_keyword Goto t.token ≡ false → first ≡ true
  pub line : line_of (past Goto s t).token ≡ Some l
  pub next : u ≡ after s (past Goto s t)

-- GOSUB l
pub record Called (s : List ℕ) (t : Scanned) (l : LineNumber) (u : Scanned) : Type 0 where
  pub word : t.token ≡ Keyword Gosub
  pub line : line_of (after s t).token ≡ Some l
  pub next : u ≡ after s (after s t)

-- a FOR's step, from STEP on, if it stands
abbrev pub step_of : List ℕ → Scanned → Reading
step_of s t = choose (is_keyword Step t.token) (λ _. formula_of s (after s t)) (λ _. good (number 1) t)

-- v = a TO b STEP c, from v on
pub record Counted (s : List ℕ) (t : Scanned) (v : Variable) (a b c : Formula) (u : Scanned) : Type 0 where
  pub target : Target s t v
  pub equal : is_symbol Equal (after s t).token ≡ true
  pub upto : Scanned
  pub from : formula_of s (after s (after s t)) ≡ good a upto
  pub to : is_keyword To upto.token ≡ true
  pub steps : Scanned
  pub limit : formula_of s (after s upto) ≡ good b steps
  pub by : step_of s steps ≡ good c u

pub record Looped (s : List ℕ) (t : Scanned) (v : Variable) (a b c : Formula) (u : Scanned) : Type 0 where
  pub word : t.token ≡ Keyword For
  pub counts : Counted s (after s t) v a b c u

-- NEXT v
pub record Turned (s : List ℕ) (t : Scanned) (v : Variable) (u : Scanned) : Type 0 where
  pub word : t.token ≡ Keyword Next
  pub target : Target s (after s t) v
  pub next : u ≡ after s (after s t)

-- WHILE
pub record Repeated (s : List ℕ) (t : Scanned) (c : Formula) (u : Scanned) : Type 0 where
  pub word : t.token ≡ Keyword While
  pub condition : formula_of s (after s t) ≡ good c u

-- a text and its semicolon, if they stand, and the variable
unfoldable pub text_at : List ℕ → Scanned → List ℕ
text_at s t = on_text t.token (λ q. quoted_bytes s q) []

unfoldable pub past_text : List ℕ → Scanned → Scanned
past_text s t = on_text t.token (λ q. after s (after s t)) t

pub past_text_lem : (s : List ℕ) (t : Scanned) (q : Quotation) → t.token ≡ Quoted q → past_text s t ≡ after s (after s t)
unfolding past_text
past_text_lem s t q e = rw e

pub past_no_text : (s : List ℕ) (t : Scanned) → is_quoted t.token ≡ false → past_text s t ≡ t
unfolding past_text
past_no_text s t e = by_text (λ w. w ≡ t) t.token _ _ (λ q f n. cc) (λ f. refl)

pub no_text : (s : List ℕ) (t : Scanned) → is_quoted t.token ≡ false → [] ≡ text_at s t
unfolding text_at
no_text s t e = by_text (λ w. [] ≡ w) t.token (λ q. quoted_bytes s q) [] (λ q f n. cc) (λ f. refl)

pub record Asked (s : List ℕ) (t : Scanned) (text : List ℕ) (v : Variable) (u : Scanned) : Type 0 where
  pub shows : text ≡ text_at s t
  pub mark : is_quoted t.token ≡ true → is_symbol Semicolon (after s t).token ≡ true
  pub target : Target s (past_text s t) v
  pub next : u ≡ after s (past_text s t)

-- LINE INPUT
pub record Entered (s : List ℕ) (t : Scanned) (text : List ℕ) (v : Variable) (u : Scanned) : Type 0 where
  pub word : t.token ≡ Keyword Line
  pub input : is_keyword Input (after s t).token ≡ true
  pub asks : Asked s (after s (after s t)) text v u

-- DATA and its items, from where its word ends
pub record Held (s : List ℕ) (t : Scanned) (l : List (List ℕ)) (u : Scanned) : Type 0 where
  pub word : t.token ≡ Keyword Data
  pub end : ℕ
  pub lists : items_from s t.next.0 ≡ item.items l end
  pub next : u ≡ token_at s (place end)

-- READ and its variables
pub record Filled (s : List ℕ) (t : Scanned) (vs : List Variable) (u : Scanned) : Type 0 where
  pub word : t.token ≡ Keyword Read
  pub names : names_at (enough s) s (after s t) ≡ listed vs u

-- RESTORE l
pub record Restored (s : List ℕ) (t : Scanned) (l : LineNumber) (u : Scanned) : Type 0 where
  pub word : t.token ≡ Keyword Restore
  pub line : line_of (after s t).token ≡ Some l
  pub next : u ≡ after s (after s t)

-- THEN, or a GOTO with its line number after it
pub data Way (s : List ℕ) (u : Scanned) : Type 0 where
  by_then : is_keyword Then u.token ≡ true → Way s u
  by_goto : (l : LineNumber) → is_keyword Goto u.token ≡ true → line_of (after s u).token ≡ Some l → Way s u

-- IF c THEN
pub record Chosen (s : List ℕ) (t : Scanned) (c : Formula) (u : Scanned) : Type 0 where
  pub word : t.token ≡ Keyword If
  pub condition : formula_of s (after s t) ≡ good c u
  pub way : Way s u

module _ (s : List ℕ) (first : Bool) (t : Scanned) where
  -- what stands there where a statement was done; it is no IF
  abbrev pub Stands : Statement → Scanned → Type 0
  Stands empty u = (ends_statement t.token ≡ true) × (u ≡ t)
  Stands (assign v f) u = Assigned s (past Let s t) v f u
  Stands (print is) u = Printed s t is u
  Stands (if_then c p) u = ⊥
  Stands (if_else c p q) u = ⊥
  Stands (goto l) u = Gone s first t l u
  Stands (gosub l) u = Called s t l u
  Stands return u = Bare s t Return u
  Stands (for v a b c) u = Looped s t v a b c u
  Stands next u = Bare s t Next u
  Stands (next_of v) u = Turned s t v u
  Stands (while c) u = Repeated s t c u
  Stands wend u = Bare s t Wend u
  Stands (line_input text v) u = Entered s t text v u
  Stands (data_of l) u = Held s t l u
  Stands (read vs) u = Filled s t vs u
  Stands restore u = Bare s t Restore u
  Stands (restore_to l) u = Restored s t l u
  Stands end u = Bare s t End u
  Stands stop u = Bare s t Stop u
  Stands remark u = Bare s t Rem u

  abbrev pub Seen : Begun → Type 0
  Seen bad = Unit {0}
  Seen (done x u) = Stands x u
  Seen (choice c u) = Chosen s t c u

-- ---- each statement

-- where a test must hold, or a formula follow
module _ (P : Begun → Type 0) (none : P bad) where
  if_so : (test : Bool) (go : Unit {0} → Begun) → (test ≡ true → P (go tt)) → P (choose test go (λ _. bad))
  if_so true go h = h refl
  if_so false go h = none

  if_formula : (x : Reading) (go : Formula → Scanned → Begun) → ((f : Formula) (u : Scanned) → x ≡ good f u → P (go f u)) → P (on_formula x go)
  if_formula formulas.bad go h = none
  if_formula (formulas.good f u) go h = h f u refl

module _ (s : List ℕ) (first : Bool) (t : Scanned) where
  abbrev S : Begun → Type 0
  S b = Seen s first t b

  assign_seen : (w : Scanned) → past Let s t ≡ w → (v : Name) → w.token ≡ Named v → S (assign_at s (variable_of s v) (after s w))
  assign_seen w p v n =
      if_so S tt (is_symbol Equal (after s w).token) _ λ e.
      if_formula S tt (formula_of s (after s (after s w))) _ λ f u i.
      rw p (record { target = record { name = v; named = n; is = refl }; equal = e; value = i })

  for_seen : t.token ≡ Keyword For → (v : Name) → (after s t).token ≡ Named v → S (for_at s (variable_of s v) (after s (after s t)))
  unfolding for_at
  for_seen w v n =
      let name : Target s (after s t) (variable_of s v) = record { name = v; named = n; is = refl } in
      if_so S tt (is_symbol Equal (after s (after s t)).token) _ λ e.
      if_formula S tt (formula_of s (after s (after s (after s t)))) _ λ from x i.
      if_so S tt (is_keyword To x.token) _ λ g.
      if_formula S tt (formula_of s (after s x)) _ λ to y j.
      by_test (is_keyword Step y.token)
      (λ h. rw h
      (if_formula S tt (formula_of s (after s y)) _ λ by u k.
      record { word = w; counts = record { target = name; equal = e; upto = x; from = i; to = g; steps = y; limit = j; by = rw h k } }))
      (λ h. rw h
      (record { word = w; counts = record { target = name; equal = e; upto = x; from = i; to = g; steps = y; limit = j; by = rw h } }))

  print_seen : is_print t.token ≡ true → S (print_at s (after s t))
  unfolding print_at items_of
  print_seen r = by_items (items_at (enough s) s (after s t)) (λ is u i. record { word = r; shows = i })
    where
      by_items : (x : Items) → ((is : List Item) (u : Scanned) → x ≡ items is u → Printed s t is u) → S (printed x)
      by_items no_items h = tt
      by_items (items is u) h = h is u refl

  if_seen : t.token ≡ Keyword If → (x : Reading) → formula_of s (after s t) ≡ x → S (if_at s x)
  if_seen w formulas.bad i = tt
  if_seen w (formulas.good c u) i =
      by_test (is_keyword Then u.token)
      (λ e. rw e (record { word = w; condition = i; way = by_then e }))
      λ e. rw e
      (if_so S tt (is_keyword Goto u.token) _ λ g.
      by_line S (after s u).token _ _ (λ l n r. record { word = w; condition = i; way = by_goto l g n }) (λ n. tt))

  module _ (word : t.token ≡ Keyword Line) (input : is_keyword Input (after s t).token ≡ true) where
    abbrev x : Scanned
    x = after s (after s t)

    target_seen : (w : Scanned) (text : List ℕ) → past_text s x ≡ w → text ≡ text_at s x
        → (is_quoted x.token ≡ true → is_symbol Semicolon (after s x).token ≡ true) → S (target_at s text w)
    target_seen w text p e m =
        by_name S w.token _ _
        (λ v f n. record {
          word = word;
          input = input;
          asks = record { shows = e; mark = m; target = rw p (record { name = v; named = n; is = refl }); next = rw p };
        })
        (λ f. tt)

    input_seen : S (input_at s x)
    unfolding input_at past_text text_at
    input_seen =
        by_text S x.token _ _
        (λ q f n.
        if_so S tt (is_symbol Semicolon (after s x).token) _ λ e.
        target_seen (after s (after s x)) (quoted_bytes s q) (rw n) (rw n) (λ _. e))
        (λ f. target_seen x [] (past_no_text s x f) (no_text s x f) (λ e. cc))

  data_seen : t.token ≡ Keyword Data → S (data_at s t)
  unfolding data_at
  data_seen w = by_items (items_from s t.next.0) (λ l p i. record { word = w; end = p; lists = i; next = refl })
    where
      by_items : (x : DataItems) → ((l : List (List ℕ)) (p : ℕ) → x ≡ item.items l p → Held s t l (token_at s (place p))) → S (held s x)
      by_items item.bad h = tt
      by_items (item.items l p) h = h l p refl

  read_seen : t.token ≡ Keyword Read → S (read_at s (after s t))
  unfolding read_at
  read_seen w = by_names (names_at (enough s) s (after s t)) (λ vs u i. record { word = w; names = i })
    where
      by_names : (x : NameList) → ((vs : List Variable) (u : Scanned) → x ≡ listed vs u → Filled s t vs u) → S (filled_by x)
      by_names unlisted h = tt
      by_names (listed vs u) h = h vs u refl

  -- ---- by the first token

  number_seen : is_keyword Goto t.token ≡ false → S (begun_by s (led_by_number first t))
  number_seen k =
      let p = past_none Goto s t k in
      by_test first
      (λ e. rw e (by_line (Seen s true t) t.token _ _ (λ l n r. record { bare = λ _. refl; line = rw p n; next = rw p }) (λ n. tt)))
      (λ e. rw e tt)

  module _ {x : Word} (w : t.token ≡ Keyword x) where
    bare : Bare s t x (after s t)
    bare = record { word = w; next = refl }

  word_seen : (x : Word) → t.token ≡ Keyword x → S (begun_by s (led_by_word s x t))
  word_seen Let w = by_name S (after s t).token _ _ (λ v f n. assign_seen (after s t) (past_word Let s t (rw w)) v n) (λ n. tt)
  word_seen Print w = print_seen (rw w)
  word_seen If w = if_seen w (formula_of s (after s t)) refl
  word_seen Then w = tt
  word_seen Else w = (rw w, refl)
  word_seen Goto w =
      let p = past_word Goto s t (rw w) in
      by_line S (after s t).token _ _
      (λ l n r. record { bare = λ e. let h = rw w at e in cc; line = rw p n; next = rw p })
      (λ n. tt)
  word_seen Gosub w = by_line S (after s t).token _ _ (λ l n r. record { word = w; line = n; next = refl }) (λ n. tt)
  word_seen Return w = bare w
  word_seen For w = by_name S (after s t).token _ _ (λ v f n. for_seen w v n) (λ n. tt)
  word_seen To w = tt
  word_seen Step w = tt
  word_seen Next w =
      by_name S (after s t).token _ _
      (λ v f n. record { word = w; target = record { name = v; named = n; is = refl }; next = refl })
      (λ n. bare w)
  word_seen Line w = if_so S tt (is_keyword Input (after s t).token) _ λ i. input_seen w i
  word_seen Input w = tt
  word_seen End w = bare w
  word_seen Stop w = bare w
  word_seen Rem w = bare w
  word_seen While w = if_formula S tt (formula_of s (after s t)) _ λ c u i. record { word = w; condition = i }
  word_seen Wend w = bare w
  word_seen Data w = data_seen w
  word_seen Read w = read_seen w
  word_seen Restore w = by_line S (after s t).token _ _ (λ l n r. record { word = w; line = n; next = refl }) (λ n. bare w)

  mark_seen : (x : Sign) → t.token ≡ Symbol x → S (begun_by s (led_by_sign s x t))
  mark_seen Open w = tt
  mark_seen Close w = tt
  mark_seen Comma w = tt
  mark_seen Semicolon w = tt
  mark_seen Colon w = (rw w, refl)
  mark_seen Question w = print_seen (rw w)
  mark_seen Equal w = tt
  mark_seen Minus w = tt

  token_seen : (token : Token) → t.token ≡ token → S (begun_by s (led_by_token s first token t))
  token_seen EndOfLine w = (rw w, refl)
  token_seen (Keyword x) w = word_seen x w
  token_seen Not w = tt
  token_seen (Infix op) w = tt
  token_seen (Call f) w = tt
  token_seen (Named v) w = by_name S t.token _ _ (λ u f n. assign_seen t (past_none Let s t (rw w)) u n) (λ n. tt)
  token_seen (Number n) w = number_seen (rw w)
  token_seen (Hexadecimal n) w = tt
  token_seen (LineOnly l) w = number_seen (rw w)
  token_seen (Quoted q) w = tt
  token_seen (Symbol x) w = mark_seen x w
  token_seen Unreadable w = tt

-- what stands at a place
pub begun_seen : (s : List ℕ) (first : Bool) (p : ℕ) → Seen s first (token_at s (place p)) (begun_at s first p)
unfolding begun_at
begun_seen s first p = token_seen s first (token_at s (place p)) (token_at s (place p)).token refl
