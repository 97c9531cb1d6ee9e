-- What a part's first statement does, by how it begins.
use Rattle.std.specs.Prelude.{Option, ℕ, None, Some}
use mathlib.Core.Path.{◌≡◌, refl, sym, ap, ◌∙◌}
use mathlib.Core.Bool.{Bool, true, false, ◌||◌, false≢true}
use mathlib.Core.List.{List, ◌∷◌, []}
use Prim.Native.Nat.{ℕ}
use types.Run.{OneOf, miss}
use Rattle.whole.proofs.Never.{never}
use Rattle.words.specs.declared.places.Place.{Place}
use Rattle.words.specs.declared.symbols.Scanned.{Scanned}
use Rattle.words.specs.Places.{place}
use Rattle.words.specs.declared.symbols.Sign.{Sign}
use Rattle.words.specs.declared.symbols.Sign.TheVariants.{Open, Close, Comma, Semicolon, Colon, Question, Equal, Minus}
use Rattle.words.specs.declared.symbols.Token.{Token}
use Rattle.words.specs.declared.symbols.Token.TheVariants.{EndOfLine, Keyword, Not, Infix, Call, Named, Number, Hexadecimal, LineOnly, Quoted, Symbol, Unreadable}
use Rattle.words.specs.declared.symbols.Word.{Word}
use Rattle.words.specs.declared.symbols.Word.TheVariants.{Let, Print, If, Then, Else, Goto, Gosub, Return, For, To, Step, Next, Line, Input, End, Stop, Rem, While, Wend, Data, Read, Restore}
use Rattle.words.proofs.Choices.{by_test}
use Rattle.scanner.specs.Tokens.{token_at}
use Rattle.grammar.specs.Tests.{is_symbol, is_keyword, ends_statement}
use Rattle.grammar.specs.Trees as tree
use Rattle.grammar.specs.Trees.{Part, last, more}
use Rattle.grammar.specs.Formulas.{good, after, enough, formula_of}
use Rattle.statements.specs.Statements.{Begun, done, items, print_at, if_at, input_at, listed, names_at, read_at, by_word, led_by_sign, led_by_token, lead_of, begun_by, begun_at, PartReading, good_part, part_of, led_by}
use Rattle.statements.specs.bridge.Answers.{items_of}
use Rattle.statements.proofs.Parts.{part_by, unrolled}
use Rattle.statements.proofs.Views.{Final, plain, thens, elses, more_view, final_view}
use Rattle.machine.specs.Machine as spec
use native.Mathlib.Omega.{arith}
use Rattle.statements.specs.Parts.{Rest, nothing, part, head_of, tail_of, place_of, deepest}
use Rattle.statements.proofs.Depths.{head_shallow, rest_shallow, then_shallow, else_shallow}
use Rattle.machine.specs.bridge.Holding.{lines_at, position_of, Shallow, Parted, Positioned, Sound, State}
use Rattle.machine.specs.Repeats.{is_while}
use Rattle.machine.specs.bridge.Seeking.{wish_of, test_of}
use Rattle.machine.specs.bridge.Wanted.{Told}
use Rattle.turns.specs.bridge.Turns.{Turn, turned_to, after_of, Turns, AnyRecords, Standing}
use Rattle.machine.specs.declared.positions.Next.TheVariants as next
use Rattle.machine.specs.declared.records.Record.{Record}
use Rattle.statements.proofs.Firsts.{true_part}
use Rattle.repeating.specs.bridge.Repeating.{WhileStands}
use Rattle.turns.specs.Steps.{part_begun, here_of, do_statement}
use Rattle.turns.specs.bridge.Doing.{Begins, Does}
use Rattle.statements.proofs.Ways.{if_so, by_items, by_condition, by_repeat, by_read, by_input}
use Rattle.turns.proofs.Doing.{any_told, goes_turn}
use Rattle.machine.proofs.Tokens.{word_tag}
use Rattle.statements.specs.declared.leading.Lead.{Lead}

-- ---- what is left of a part after its first statement, which a token ends

pub record After (text : List ℕ) (here : Place) (u : Scanned) (rest : Rest) : Type 0 where
  pub placed : Positioned text (after_of here u)
  pub is : position_of text (after_of here u) ≡ record { lines = lines_at text here.0; rest = rest }

module _ {text line : List ℕ} {here : Place} (st : Standing text line here) (u : Scanned) where
  -- a colon: the rest reads
  pub after_colon : {rest : Part} {end : Scanned} → is_symbol Colon u.token ≡ true → part_of line false u.next.0 ≡ good_part rest end
      → Shallow rest → After text here u (part rest)
  after_colon {rest} {end} c e low =
      let e' = rw st.is at (true_part line u.next.0 e) in
      record {
        placed = record { begins = st.begins; reads = λ _. record { of = rest; end = end; is = e'; shallow = low } };
        is = rw (c, e');
      }

  -- none: the line is over
  pub after_last : is_symbol Colon u.token ≡ false → After text here u nothing
  after_last c =
      record {
        placed = record { begins = st.begins; reads = λ h. let z = rw c at h in never (cc) };
        is = rw c;
      }

-- ---- a part that reads

-- a colon ends a statement
colon_ends : (t : Token) → is_symbol Colon t ≡ true → ends_statement t ≡ true
colon_ends EndOfLine e = refl
colon_ends (Keyword w) e = absurd (false≢true e)
colon_ends Not e = absurd (false≢true e)
colon_ends (Infix op) e = absurd (false≢true e)
colon_ends (Call f) e = absurd (false≢true e)
colon_ends (Named v) e = absurd (false≢true e)
colon_ends (Number n) e = absurd (false≢true e)
colon_ends (Hexadecimal n) e = absurd (false≢true e)
colon_ends (LineOnly l) e = absurd (false≢true e)
colon_ends (Quoted q) e = absurd (false≢true e)
colon_ends (Symbol s) e = e
colon_ends Unreadable e = absurd (false≢true e)

ends_by : (p : ℕ) (go : Bool → ℕ → PartReading) (x : tree.Statement) (t : Scanned) {q : Part} {u : Scanned} → part_by p go (done x t) ≡ good_part q u
    → ends_statement t.token ≡ true
ends_by p go x t e =
    by_test (is_symbol Colon t.token) (λ c. colon_ends t.token c) λ c.
    by_test (ends_statement t.token) (λ f. f) λ f.
    let h = rw (c, f) at e in never (cc)

-- a token of a line, wherever it stands
pub record From (line : List ℕ) (t : Scanned) : Type 0 where
  pub place : Place
  pub is : t ≡ token_at line place

abbrev FromLead : List ℕ → Option Lead → Type 0
FromLead line (Some lead) = From line lead.ahead
FromLead line None = Unit {0}

module _ (line : List ℕ) (first : Bool) where
  from_token : (token : Token) (q : Place) → FromLead line (led_by_token line first token (token_at line q))
  from_token EndOfLine q = record { place = q; is = refl }
  from_token (Keyword w) q =
      by_test (is_keyword Else (Keyword w) || is_keyword Data (Keyword w)) (λ e. rw e (record { place = q; is = refl })) (λ e. rw e (record { place = (token_at line q).next; is = refl }))
  from_token Not q = tt
  from_token (Infix op) q = tt
  from_token (Call f) q = tt
  from_token (Named v) q = record { place = q; is = refl }
  from_token (Number n) q = by_test first (λ e. rw e (record { place = q; is = refl })) (λ e. rw e tt)
  from_token (Hexadecimal n) q = tt
  from_token (LineOnly l) q = by_test first (λ e. rw e (record { place = q; is = refl })) (λ e. rw e tt)
  from_token (Quoted s) q = tt
  from_token (Symbol x) q = from_sign x
    where
      from_sign : (x : Sign) → FromLead line (led_by_sign line x (token_at line q))
      from_sign Open = tt
      from_sign Close = tt
      from_sign Comma = tt
      from_sign Semicolon = tt
      from_sign Colon = record { place = q; is = refl }
      from_sign Question = record { place = (token_at line q).next; is = refl }
      from_sign Equal = tt
      from_sign Minus = tt
  from_token Unreadable q = tt

-- its first statement does
last_begins : (line : List ℕ) (at q : ℕ) (x : tree.Statement) (end : Scanned) → Final line true at q x end
    → part_by at (part_of line) (begun_at line true at) ≡ good_part (last q x) end → Shallow (last q x) → Begins (begun_at line true at)
unfolding deepest
last_begins line at q x end (plain f) e h = rw f.begun (ends_by at (part_of line) x end (rw f.begun at e), head_shallow (last q x) h)
last_begins line at q x end (thens f) e h = rw f.begun (let k = head_shallow (last q x) h in omega arith)
last_begins line at q x end (elses f) e h = rw f.begun (let k = head_shallow (last q x) h in omega arith)

begins_of : (line : List ℕ) (at : ℕ) (p : Part) (end : Scanned) → part_of line true at ≡ good_part p end → Shallow p → Begins (begun_at line true at)
begins_of line at (last q x) end e h = last_begins line at q x end (final_view line true at e) (sym (unrolled line true at) ∙ e) h
begins_of line at (more q x rest) end e h =
    let f = more_view line true at e in
    rw f.begun (colon_ends f.end.token f.colon, head_shallow (more q x rest) h)

part_begins : {line : List ℕ} {at : ℕ} → Parted line at → Begins (begun_at line true at)
part_begins {line} {at} p = begins_of line at p.of p.end p.is p.shallow

-- how it is led
module _ (line : List ℕ) (at : ℕ) {l : Option Lead} (is : l ≡ lead_of line true (token_at line (place at))) where
  lead_there : begun_at line true at ≡ begun_by line l
  unfolding begun_at
  lead_there = ap (begun_by line) (sym is)

  -- by a word, from a token of the line on
  module _ {w : Word} {t : Scanned} (by : l ≡ led_by w t) where
    pub lead_begins : Parted line at → Begins (by_word line w t)
    lead_begins p = rw (lead_there, by) at (part_begins p)

    pub lead_from : From line t
    lead_from = rw (sym is ∙ by) at (from_token line true (token_at line (place at)).token (place at))

  -- not by nothing
  pub lead_reads : {A : Type 0} → l ≡ None → Parted line at → A
  lead_reads by p = absurd (rw (lead_there, by) at (part_begins p))

-- ---- where a WHILE stands, by what is left of its part

module _ {text line : List ℕ} {here : Place} {at : ℕ} (st : Standing text line here) (t : Scanned) (c : tree.Formula) (u : Scanned)
    (reads : formula_of line t ≡ good c u) where
  while_by : (rest : Rest) {end : Scanned} → After text here u rest → part_of line true at ≡ good_part (part_begun at (tree.while c) rest) end
      → Shallow (part_begun at (tree.while c) rest) → WhileStands text line here (place at) t c u
  while_by rest {end} a e low =
      let e' = rw st.is at e in
      record {
        reads = reads;
        after = a.placed;
        own = record { begins = st.begins; reads = λ _. record { of = part_begun at (tree.while c) rest; end = end; is = e'; shallow = low } };
        itself = rw e' (sym (ap (here_of at c) a.is));
      }

  while-last : (q : ℕ) (x : tree.Statement) (end : Scanned) → begun_at line true at ≡ done (tree.while c) u → Final line true at q x end
      → part_of line true at ≡ good_part (last q x) end → Shallow (last q x) → WhileStands text line here (place at) t c u
  while-last q x end b (plain f) e low =
      let g = f.begun in
      let y : x ≡ tree.while c = cc in
      let z : end ≡ u = cc in
      while_by nothing (after_last st u (rw z at f.no_colon)) (rw (f.at, y) at e) (rw (f.at, y) at low)
  while-last q x end b (thens f) e low = let g = f.begun in never (cc)
  while-last q x end b (elses f) e low = let g = f.begun in never (cc)

  while_stands : begun_at line true at ≡ done (tree.while c) u → (p : Part) (end : Scanned) → part_of line true at ≡ good_part p end → Shallow p
      → WhileStands text line here (place at) t c u
  while_stands b (last q x) end e low = while-last q x end b (final_view line true at e) e low
  while_stands b (more q x rest) end e low =
      let f = more_view line true at e in
      let g = f.begun in
      let y : x ≡ tree.while c = cc in
      let z : f.end ≡ u = cc in
      while_by (part rest) (after_colon st u (rw z at f.colon) (rw z at f.goes) (rest_shallow q x rest low)) (rw (f.at, y) at e) (rw (f.at, y) at low)

module _ (text line : List ℕ) (here : Place) (at : ℕ) (m : State) (found : Option ℕ) (entry : Record) (input space room : List ℕ) (r : Turn)
    (space' room' : List ℕ) where
  abbrev D : Begun → Type 0
  D b = Does text line here at m found entry input space room r space' room' b

  abbrev TurnsAs : Part → Type 0
  TurnsAs p =
      Turns text m input space room (Told text m.tables.numbers.names (test_of (wish_of here.0 (place_of p) (head_of p))) m.depth found entry)
      (λ n. do_statement text (place_of p) (head_of p) n (record { lines = lines_at text here.0; rest = tail_of p })) r space' room'

  last_does : Standing text line here → (q : ℕ) (x : tree.Statement) (end : Scanned) → Final line true at q x end → Shallow (last q x)
      → D (begun_at line true at) → TurnsAs (last q x)
  last_does st q x end (plain f) low d =
      let a = after_last st end f.no_colon in
      rw f.at (rw a.is at ((rw f.begun at d) a.placed))
  last_does st q x end (thens {c = c} {part = p} f) low d =
      ((rw f.begun at d) p end (record { lines = lines_at text here.0; rest = nothing }) refl f.goes (then_shallow q c p low)).0 f.no_else
  last_does st q x end (elses {c = c} {part = p} {other = o} f) low d =
      let k = else_shallow q c p o low in
      ((rw f.begun at d) p f.middle (record { lines = lines_at text here.0; rest = nothing }) refl f.goes k.0).1 f.is_else o end f.other_goes k.1

  part_does : Standing text line here → (p : Part) (end : Scanned) → part_of line true at ≡ good_part p end → Shallow p
      → D (begun_at line true at) → TurnsAs p
  part_does st (last q x) end e low d = last_does st q x end (final_view line true at e) low d
  part_does st (more q x rest) end e low d =
      let f = more_view line true at e in
      let a = after_colon st f.end f.colon f.goes (rest_shallow q x rest low) in
      rw f.at (rw a.is at ((rw f.begun at d) a.placed))

  -- what its first statement does is what the definition does of it
  pub lead_does : Standing text line here → {l : Option Lead} → l ≡ lead_of line true (token_at line (place at)) → {w : Word} {t : Scanned} → l ≡ led_by w t
      → Parted line at → D (by_word line w t) → (p : Part) (end : Scanned) → part_of line true at ≡ good_part p end → TurnsAs p
  lead_does st is by low d p end i =
      let j = low.is in let k : low.of ≡ p = cc in part_does st p end i (rw (← k) low.shallow) (rw (lead_there line at is, by) d)

  pub print_does : (t : Scanned)
      → ((is : List tree.Item) (u : Scanned) → Positioned text (after_of here u) → items_of line t ≡ items is u
      → Turns text m input space room AnyRecords (λ n. do_statement text at (tree.print is) n (position_of text (after_of here u))) r space' room')
      → D (print_at line t)
  print_does t h = by_items D tt line t (λ is u e p. any_told (h is u p e))

  pub if_does : (t : Scanned)
      → ((c : tree.Formula) (way : Scanned) (p : Part) (u : Scanned) (after : spec.Position) → after.lines ≡ lines_at text here.0
      → formula_of line t ≡ good c way → part_of line true way.next.0 ≡ good_part p u → Shallow p
      → (is_keyword Else u.token ≡ false → Turns text m input space room AnyRecords (λ n. do_statement text at (tree.if_then c p) n after) r space' room')
      × (is_keyword Else u.token ≡ true → (q : Part) (v : Scanned) → part_of line true u.next.0 ≡ good_part q v → Shallow q
      → Turns text m input space room AnyRecords (λ n. do_statement text at (tree.if_else c p q) n after) r space' room'))
      → D (if_at line (formula_of line t))
  if_does t h =
      by_condition D tt line t (λ c way e p u after l g low.
      let both = h c way p u after l e g low in
      (λ i. any_told (both.0 i), λ i q v j lower. any_told (both.1 i q v j lower)))

  pub input_does : (t : Scanned)
      → ((prompt : List ℕ) (v : tree.Variable) (u : Scanned) → Positioned text (after_of here u) → input_at line (after line t) ≡ done (tree.line_input prompt v) u
      → Turns text m input space room AnyRecords (λ n. do_statement text at (tree.line_input prompt v) n (position_of text (after_of here u))) r space' room')
      → D (by_word line Line t)
  input_does t h = if_so D tt (is_keyword Input t.token) _ (by_input D tt line (after line t) (λ prompt v u e p. any_told (h prompt v u p e)))

  pub read_does : (t : Scanned)
      → ((vs : List tree.Variable) (u : Scanned) → Positioned text (after_of here u) → names_at (enough line) line t ≡ listed vs u
      → Turns text m input space room AnyRecords (λ n. do_statement text at (tree.read vs) n (position_of text (after_of here u))) r space' room')
      → D (read_at line t)
  read_does t h = by_read D tt line t (λ vs u e p. any_told (h vs u p e))

  pub while_does : Standing text line here → {l : Option Lead} → l ≡ lead_of line true (token_at line (place at)) → {t : Scanned} → l ≡ led_by While t
      → Parted line at
      → ((c : tree.Formula) (u : Scanned) → WhileStands text line here (place at) t c u
      → Turns text m input space room (Told text m.tables.numbers.names (is_while here.0 at) m.depth found entry)
      (λ n. do_statement text at (tree.while c) n (position_of text (after_of here u))) r space' room')
      → D (by_word line While t)
  while_does st is {t} by p h =
      by_repeat D tt line t
      (λ c u e _. h c u (while_stands st t c u e (lead_there line at is ∙ rw by (rw e)) p.of p.end p.is p.shallow))

-- ---- words that lead an empty statement or a remark, or none

abbrev other_words : List ℕ
other_words = 3 ∷ 4 ∷ 9 ∷ 10 ∷ 13 ∷ 16 ∷ []

module _ (text line : List ℕ) (here : Place) (at : ℕ) (m : State) (found : Option ℕ) (entry : Record) (input space room : List ℕ)
    (r : Turn) (sound : Sound m input space room) (t : Scanned) (e : r ≡ turned_to m (next.On (after_of here t))) where
  -- the run goes on there
  pub other_does : (w : Word) → OneOf other_words (word_tag w) → Does text line here at m found entry input space room r space room (by_word line w t)
  other_does Let h = absurd (miss other_words 0 tt h)
  other_does Print h = absurd (miss other_words 1 tt h)
  other_does If h = absurd (miss other_words 2 tt h)
  other_does Then h = tt
  other_does Else h = λ p. rw e (goes_turn sound _ here t p)
  other_does Goto h = absurd (miss other_words 5 tt h)
  other_does Gosub h = absurd (miss other_words 6 tt h)
  other_does Return h = absurd (miss other_words 7 tt h)
  other_does For h = absurd (miss other_words 8 tt h)
  other_does To h = tt
  other_does Step h = tt
  other_does Next h = absurd (miss other_words 11 tt h)
  other_does Line h = absurd (miss other_words 12 tt h)
  other_does Input h = tt
  other_does End h = absurd (miss other_words 14 tt h)
  other_does Stop h = absurd (miss other_words 15 tt h)
  other_does Rem h = λ p. rw e (goes_turn sound _ here t p)
  other_does While h = absurd (miss other_words 17 tt h)
  other_does Wend h = absurd (miss other_words 18 tt h)
  other_does Data h = absurd (miss other_words 19 tt h)
  other_does Read h = absurd (miss other_words 20 tt h)
  other_does Restore h = absurd (miss other_words 21 tt h)
