-- How statements read, each from the token t that it begins with, and the parts that they make.
use Rattle.std.specs.Prelude.{Bool, true, false, ◌||◌, Option, Some, None, List, [], ◌∷◌, ℕ, zero, suc}
use Rattle.words.specs.Names.{name_bytes, telling_of}
use Rattle.words.specs.Places.{place}
use Rattle.words.specs.declared.names.Name.{Name}
use Rattle.words.specs.declared.symbols.Scanned.{Scanned}
use Rattle.words.specs.declared.symbols.Token.{Token}
use Rattle.words.specs.declared.symbols.Token.TheVariants.{
  EndOfLine,
  Keyword,
  Not,
  Infix,
  Call,
  Named,
  Number,
  Hexadecimal,
  LineOnly,
  Quoted,
  Symbol,
  Unreadable,
}
use Rattle.words.specs.declared.symbols.Sign.{Sign}
use Rattle.words.specs.declared.symbols.Sign.TheVariants.{
  Open,
  Close,
  Comma,
  Semicolon,
  Colon,
  Question,
  Equal,
  Minus,
}
use Rattle.words.specs.declared.symbols.Word.{Word}
use Rattle.words.specs.declared.symbols.Word.TheVariants.{
  Let,
  Print,
  If,
  Then,
  Else,
  Goto,
  Gosub,
  Return,
  For,
  To,
  Step,
  Next,
  Line,
  Input,
  End,
  Stop,
  Rem,
  While,
  Wend,
  Data,
  Read,
  Restore,
}
use Rattle.scanner.specs.Tokens.{token_at}
use Rattle.grammar.specs.Tests.{choose, is_symbol, is_keyword, ends_statement, ends_line, on_name, on_text, on_line}
use Rattle.grammar.specs.Trees.{Formula, number, Variable, Item, comma, semicolon, shown, Statement, empty, assign, print, if_then, if_else, goto, gosub, return, for, next, next_of, while, wend, line_input, data_of, read, restore, restore_to, end, stop, remark, Part, last, more}
use Rattle.items.specs.Items as item
use Rattle.items.specs.Items.{DataItems, items_from}
use Rattle.grammar.specs.Formulas as formulas
use Rattle.grammar.specs.Formulas.{Reading, after, quoted_bytes, enough, formula_of}
use Rattle.statements.specs.declared.leading.Lead.{Lead}

-- what a statement begins as: it does not read; it is done, and this token follows it; or it is an IF with this condition,
-- whose part begins after this token
pub data Begun : Type 0 where
  bad : Begun
  done : Statement → Scanned → Begun
  choice : Formula → Scanned → Begun

abbrev pub on_formula : Reading → (Formula → Scanned → Begun) → Begun
on_formula formulas.bad go = bad
on_formula (formulas.good f t) go = go f t

abbrev pub variable_of : List ℕ → Name → Variable
variable_of s v = record { kind = v.kind; telling = telling_of (name_bytes s v) }

-- v = e, from the equals sign on
abbrev pub assign_at : List ℕ → Variable → Scanned → Begun
assign_at s v t =
    choose (is_symbol Equal t.token)
    (λ _. on_formula (formula_of s (after s t)) (λ f u. done (assign v f) u))
    (λ _. bad)

-- ---- PRINT takes any sequence of `,`, `;` and formulas, no two formulas adjacent

pub data Items : Type 0 where
  no_items : Items
  items : List Item → Scanned → Items

abbrev pub with_item : Item → Items → Items
with_item i no_items = no_items
with_item i (items is t) = items (i ∷ is) t

abbrev pub is_separator : Token → Bool
is_separator t = is_symbol Comma t || is_symbol Semicolon t

-- a formula was read: more may follow only after a separator
abbrev pub after_shown : Reading → (Scanned → Items) → Items
after_shown formulas.bad go = no_items
after_shown (formulas.good f u) go =
    with_item (shown f) (choose (is_separator u.token) (λ _. go u) (λ _. items [] u))

unfoldable pub items_at : ℕ → List ℕ → Scanned → Items
items_at zero s t = no_items
items_at (suc n) s t =
    choose (is_symbol Comma t.token) (λ _. with_item comma (items_at n s (after s t))) λ _.
    choose (is_symbol Semicolon t.token) (λ _. with_item semicolon (items_at n s (after s t))) λ _.
    choose (ends_statement t.token) (λ _. items [] t) λ _.
    after_shown (formula_of s t) (λ u. items_at n s u)

abbrev pub printed : Items → Begun
printed no_items = bad
printed (items is t) = done (print is) t

unfoldable pub print_at : List ℕ → Scanned → Begun
print_at s t = printed (items_at (enough s) s t)

-- ---- the other statements

-- IF e THEN part, where GOTO n may stand for THEN n
abbrev pub if_at : List ℕ → Reading → Begun
if_at s formulas.bad = bad
if_at s (formulas.good c t) =
    choose (is_keyword Then t.token) (λ _. choice c t) λ _.
    choose (is_keyword Goto t.token) (λ _. on_line (after s t).token (λ l. choice c t) bad) λ _.
    bad

-- FOR v = e TO e [STEP e]; the step is 1 if left out
abbrev pub step_at : List ℕ → Variable → Formula → Formula → Scanned → Begun
step_at s v from to t =
    choose (is_keyword Step t.token)
    (λ _. on_formula (formula_of s (after s t)) (λ by u. done (for v from to by) u))
    (λ _. done (for v from to (number 1)) t)

abbrev pub limit_at : List ℕ → Variable → Formula → Scanned → Begun
limit_at s v from t =
    choose (is_keyword To t.token) (λ _. on_formula (formula_of s (after s t)) (λ to u. step_at s v from to u)) (λ _. bad)

unfoldable pub for_at : List ℕ → Variable → Scanned → Begun
for_at s v t =
    choose (is_symbol Equal t.token) (λ _. on_formula (formula_of s (after s t)) (λ from u. limit_at s v from u)) (λ _. bad)

-- LINE INPUT ["text";] v, from the text or the variable on
abbrev pub target_at : List ℕ → List ℕ → Scanned → Begun
target_at s text t = on_name t.token (λ v. done (line_input text (variable_of s v)) (after s t)) bad

unfoldable pub input_at : List ℕ → Scanned → Begun
input_at s t =
    on_text t.token
    (λ q. choose (is_symbol Semicolon (after s t).token) (λ _. target_at s (quoted_bytes s q) (after s (after s t))) (λ _. bad))
    (target_at s [] t)

-- ---- DATA, READ and RESTORE

-- DATA's items are read by bytes, from where its word ends
abbrev pub held : List ℕ → DataItems → Begun
held s item.bad = bad
held s (item.items l p) = done (data_of l) (token_at s (place p))

unfoldable pub data_at : List ℕ → Scanned → Begun
data_at s t = held s (items_from s t.next.0)

-- READ takes variables parted by commas
pub data NameList : Type 0 where
  unlisted : NameList
  listed : List Variable → Scanned → NameList

abbrev pub with_name : Variable → NameList → NameList
with_name v unlisted = unlisted
with_name v (listed vs t) = listed (v ∷ vs) t

unfoldable pub names_at : ℕ → List ℕ → Scanned → NameList
names_at zero s t = unlisted
names_at (suc n) s t =
    on_name t.token
    (λ v. with_name (variable_of s v) (choose (is_symbol Comma (after s t).token) (λ _. names_at n s (after s (after s t))) (λ _. listed [] (after s t))))
    unlisted

abbrev pub filled_by : NameList → Begun
filled_by unlisted = bad
filled_by (listed vs t) = done (read vs) t

unfoldable pub read_at : List ℕ → Scanned → Begun
read_at s t = filled_by (names_at (enough s) s t)

-- a statement by the word that leads it, from the token after that word on; an empty one is followed by what stands there, and DATA is
-- read from its own word on
abbrev pub by_word : List ℕ → Word → Scanned → Begun
by_word s Let t = on_name t.token (λ v. assign_at s (variable_of s v) (after s t)) bad
by_word s Print t = print_at s t
by_word s If t = if_at s (formula_of s t)
by_word s Then t = bad
by_word s Else t = done empty t
by_word s Goto t = on_line t.token (λ l. done (goto l) (after s t)) bad
by_word s Gosub t = on_line t.token (λ l. done (gosub l) (after s t)) bad
by_word s Return t = done return t
by_word s For t = on_name t.token (λ v. for_at s (variable_of s v) (after s t)) bad
by_word s To t = bad
by_word s Step t = bad
by_word s Next t = on_name t.token (λ v. done (next_of (variable_of s v)) (after s t)) (done next t)
by_word s Line t = choose (is_keyword Input t.token) (λ _. input_at s (after s t)) (λ _. bad)
by_word s Input t = bad
by_word s End t = done end t
by_word s Stop t = done stop t
by_word s Rem t = done remark t
by_word s While t = on_formula (formula_of s t) (λ c u. done (while c) u)
by_word s Wend t = done wend t
by_word s Data t = data_at s t
by_word s Read t = read_at s t
by_word s Restore t = on_line t.token (λ l. done (restore_to l) (after s t)) (done restore t)

-- ---- how a statement is led: by its word, given or understood

abbrev pub led_by : Word → Scanned → Option Lead
led_by w t = Some (record { word = w; ahead = t })

-- before ELSE stands an empty statement; what follows DATA is no token
abbrev pub led_by_word : List ℕ → Word → Scanned → Option Lead
led_by_word s w t = choose (is_keyword Else (Keyword w) || is_keyword Data (Keyword w)) (λ _. led_by w t) (λ _. led_by w (after s t))

-- before a colon too; a question mark is PRINT
abbrev pub led_by_sign : List ℕ → Sign → Scanned → Option Lead
led_by_sign s Open t = None
led_by_sign s Close t = None
led_by_sign s Comma t = None
led_by_sign s Semicolon t = None
led_by_sign s Colon t = led_by Else t
led_by_sign s Question t = led_by Print (after s t)
led_by_sign s Equal t = None
led_by_sign s Minus t = None

-- a line number at the start of a part is a GOTO statement
abbrev pub led_by_number : Bool → Scanned → Option Lead
led_by_number first t = choose first (λ _. led_by Goto t) (λ _. None)

-- LET may be left out
abbrev pub led_by_token : List ℕ → Bool → Token → Scanned → Option Lead
led_by_token s first EndOfLine t = led_by Else t
led_by_token s first (Keyword w) t = led_by_word s w t
led_by_token s first Not t = None
led_by_token s first (Infix op) t = None
led_by_token s first (Call f) t = None
led_by_token s first (Named v) t = led_by Let t
led_by_token s first (Number n) t = led_by_number first t
led_by_token s first (Hexadecimal n) t = None
led_by_token s first (LineOnly l) t = led_by_number first t
led_by_token s first (Quoted q) t = None
led_by_token s first (Symbol sign) t = led_by_sign s sign t
led_by_token s first Unreadable t = None

-- `first` says that the statement is the first of a part of an IF
abbrev pub lead_of : List ℕ → Bool → Scanned → Option Lead
lead_of s first t = led_by_token s first t.token t

abbrev pub begun_by : List ℕ → Option Lead → Begun
begun_by s (Some lead) = by_word s lead.word lead.ahead
begun_by s None = bad

-- the statement at a place
unfoldable pub begun_at : List ℕ → Bool → ℕ → Begun
begun_at s first p = begun_by s (lead_of s first (token_at s (place p)))

-- ---- parts

-- nothing that reads, or a part and the token that ends it: ELSE or the line's end
pub data PartReading : Type 0 where
  bad_part : PartReading
  good_part : Part → Scanned → PartReading

abbrev pub mapped_part : (Part → Part) → PartReading → PartReading
mapped_part make bad_part = bad_part
mapped_part make (good_part p t) = good_part (make p) t

-- statements are parted by colons; a part runs to its ELSE or the line's end
abbrev pub following : ℕ → Statement → Scanned → (ℕ → PartReading) → PartReading
following p statement t go =
    choose (is_symbol Colon t.token) (λ _. mapped_part (more p statement) (go t.next.0)) λ _.
    choose (ends_statement t.token) (λ _. good_part (last p statement) t) λ _.
    bad_part

-- ELSE goes with the nearest IF that has none
abbrev pub branched : ℕ → Formula → PartReading → (ℕ → PartReading) → PartReading
branched p c bad_part go = bad_part
branched p c (good_part part t) go =
    choose (is_keyword Else t.token)
    (λ _. mapped_part (λ other. last p (if_else c part other)) (go t.next.0))
    (λ _. good_part (last p (if_then c part)) t)

abbrev pub on_begun : Begun → (Statement → Scanned → PartReading) → (Formula → Scanned → PartReading) → PartReading
on_begun bad go branch = bad_part
on_begun (done statement t) go branch = go statement t
on_begun (choice c t) go branch = branch c t

-- the part that begins at a place
unfoldable pub part_at : ℕ → List ℕ → Bool → ℕ → PartReading
part_at zero s first p = bad_part
part_at (suc n) s first p =
    on_begun (begun_at s first p)
    (λ statement t. following p statement t (λ q. part_at n s false q))
    (λ c t. branched p c (part_at n s true t.next.0) (λ q. part_at n s true q))

-- the bytes of the line bound how deep it goes
unfoldable pub part_of : List ℕ → Bool → ℕ → PartReading
part_of s first p = part_at (enough s) s first p

-- ---- a line

pub data LineReading : Type 0 where
  does_not_read : LineReading
  reads : Part → LineReading

-- no ELSE is left over
abbrev pub whole : PartReading → LineReading
whole bad_part = does_not_read
whole (good_part part t) = choose (ends_line t.token) (λ _. reads part) (λ _. does_not_read)

-- what a line's bytes after its number mean
unfoldable pub read_line : List ℕ → LineReading
read_line s = whole (part_at (enough s) s false 0)
