-- The cursor law: where the items of a text go on, and those that are left from there.
use Rattle.std.specs.Prelude.{Ok, Some, None, Option}
use mathlib.Core.Path.{◌≡◌, refl, sym, ap, ◌∙◌}
use mathlib.Core.Logic.{⊎_elim}
use mathlib.Core.Bool.{true, false, ◌||◌, false≢true}
use mathlib.Core.List.{List, [], ◌∷◌, ◌++◌}
use Prim.Native.Nat.{ℕ, suc, ◌+◌, ◌≤◌}
use native.Mathlib.Omega.{arith}
use lib.ListN.{length}
use Rattle.whole.proofs.Never.{never}
use Rattle.words.specs.Places.{place}
use Rattle.words.specs.declared.places.Place.{Place}
use Rattle.words.specs.declared.symbols.Scanned.{Scanned}
use Rattle.words.specs.declared.symbols.Sign.TheVariants.{Open, Close, Comma, Semicolon, Colon, Question, Equal, Minus}
use Rattle.words.specs.declared.symbols.Token.{Token}
use Rattle.words.specs.declared.symbols.Token.TheVariants.{EndOfLine, Keyword, Not, Infix, Call, Named, Number, Hexadecimal, LineOnly, Quoted, Symbol, Unreadable}
use Rattle.words.specs.declared.symbols.Word.{Word}
use Rattle.words.specs.declared.symbols.Word.TheVariants as word
use Rattle.words.proofs.Choices.{by_test}
use Rattle.scanner.specs.Tokens.{◌upto◌, token_at}
use Rattle.scanner.proofs.Ends.{token_ends}
use Rattle.items.specs.Items as item
use Rattle.items.specs.Items.{DataItems, items_from}
use Rattle.items.proofs.Inside.{Over}
use Rattle.items.proofs.Listing.{items_end}
use Rattle.items.proofs.After.{over_token}
use Rattle.loader.specs.Lines.{Line, lines_of, line_at}
use Rattle.loader.specs.Loading.{load_of}
use Rattle.loader.specs.declared.lines.LineSpan.{LineSpan}
use Rattle.grammar.specs.Tests.{is_symbol, is_keyword}
use Rattle.grammar.specs.Trees.{Statement, empty, assign, print, if_then, if_else, goto, gosub, return, for, next, next_of, while, wend, line_input, data_of, read, restore, restore_to, end, stop, remark, Part, last, more}
use Rattle.statements.specs.Parts.{head_of}
use Rattle.statements.specs.Statements.{done, choice, held, data_at, led_by_word, led_by_token, lead_of, begun_at, good_part, part_of, led_by}
use Rattle.statements.specs.bridge.Answers.{begun_answer}
use Rattle.statements.specs.declared.leading.Lead.{Lead}
use Rattle.statements.proofs.Views.{Final, plain, thens, elses, more_view, final_view}
use Rattle.reader.specs.bridge.Walking.{follows_done, start_of, StartsAs}
use Rattle.machine.specs.Items.{items_in, items_of}
use Rattle.machine.specs.Order.{Stand, stands, word_of}
use Rattle.machine.specs.bridge.Holding.{lines_at, body_of, feed_after, start_after, StandsFrom, Outside, from_line, from_statement, Inside, Feeds}
use Rattle.machine.proofs.Standing.{told_as}
use Rattle.order.specs.bridge.Walking.{lines_from, Ahead, lead_at}
use Rattle.order.specs.declared.texts.Spot.{Spot}
use Rattle.order.proofs.Lining.{steps}
use Rattle.order.proofs.Texting.{body_at, here_ahead, told, reached_next, Parting, not_over, parting, onward_at, onward_over}
use Rattle.order.proofs.Words.{WordedAs, part_led}

-- ---- a statement of a text, by its place or by its spot

pub ahead_from : {text : List ℕ} {spot : Spot} {xs : List Stand} → Ahead text spot xs → StandsFrom text spot.line.place.0 spot.at.0 xs
ahead_from a = record { begins = a.begins; before = a.before; parts = a.parts; whole = a.whole; onto = a.onto; all = a.all }

pub from_ahead : {text : List ℕ} {line : ℕ} {at : Place} {xs : List Stand} {span : LineSpan} → load_of text ≡ Ok tt → line_at text (place line) ≡ Some span
    → StandsFrom text line at.0 xs → Ahead text (record { line = span; at = at }) xs
from_ahead {text} loads e s =
    let t = told_as s.begins loads e in
    record {
      loads = loads;
      begins = rw t.starts s.begins;
      spans = ap (line_at text) t.starts ∙ e;
      before = s.before;
      parts = s.parts;
      whole = rw t.starts s.whole;
      onto = rw t.starts s.onto;
      all = rw t.starts s.all;
    }

-- one does stand at a spot
pub by_first : {text : List ℕ} {spot : Spot} (P : List Stand → Type 0) (ys : List Stand) → Ahead text spot ys
    → ((x : Stand) (xs : List Stand) → Ahead text spot (x ∷ xs) → P (x ∷ xs)) → P ys
by_first P [] a h = absurd (not_over a)
by_first P (y ∷ ys) a h = h y ys a

-- ---- a statement that is no DATA statement holds no items

pub none_in : (x : Statement) → (word_of x ≡ word.Data → ⊥) → items_in x ≡ []
none_in empty h = refl
none_in (assign v f) h = refl
none_in (print is) h = refl
none_in (if_then c p) h = refl
none_in (if_else c p q) h = refl
none_in (goto l) h = refl
none_in (gosub l) h = refl
none_in return h = refl
none_in (for v from to by) h = refl
none_in next h = refl
none_in (next_of v) h = refl
none_in (while c) h = refl
none_in wend h = refl
none_in (line_input t v) h = refl
none_in (data_of l) h = absurd (h refl)
none_in (read vs) h = refl
none_in restore h = refl
none_in (restore_to l) h = refl
none_in end h = refl
none_in stop h = refl
none_in remark h = refl

other_word : (l : Option Lead) (q : Part) → ((t : Scanned) → l ≡ led_by word.Data t → ⊥) → WordedAs l q → word_of (head_of q) ≡ word.Data → ⊥
other_word None q h w e = w
other_word (Some lead) q h w e = h lead.ahead (ap (λ y. led_by y lead.ahead) (sym w ∙ e))

pub items_none : {text : List ℕ} {spot : Spot} {x : Stand} {xs : List Stand} → Ahead text spot (x ∷ xs) → ((t : Scanned) → lead_at text spot ≡ led_by word.Data t → ⊥)
    → items_of (x ∷ xs) ≡ items_of xs
unfolding items_of
items_none {text} {spot} a h =
    let p = parting a in
    let t = told (here_ahead a) in
    let w = part_led (body_of (lines_from text spot)) spot.at.0 p.first p.end (rw t.body at p.reads) in
    rw (p.is, none_in (head_of p.first) (other_word (lead_at text spot) p.first h w))

-- ---- a DATA statement

-- the statement that is led so, and the token that follows it
record DataPart (s : List ℕ) (p : ℕ) (t : Scanned) (q : Part) : Type 0 where
  items : List (List ℕ)
  ending : ℕ
  lists : items_from s t.next.0 ≡ item.items items ending
  head : head_of q ≡ data_of items
  begun : begun_at s true p ≡ done (data_of items) (token_at s (place ending))

module _ (s : List ℕ) (p : ℕ) (t : Scanned) where
  data_done : (x : DataItems) → items_from s t.next.0 ≡ x → begun_at s true p ≡ held s x → (q : Part) {u : Scanned} → begun_at s true p ≡ done (head_of q) u
      → DataPart s p t q
  data_done item.bad e b q g = never (cc)
  data_done (item.items l k) e b q g = record { items = l; ending = k; lists = e; head = cc; begun = b }

  data_choice : {P : Type 0} (x : DataItems) → begun_at s true p ≡ held s x → {c : _} {u : Scanned} → begun_at s true p ≡ choice c u → P
  data_choice item.bad b g = never (cc)
  data_choice (item.items l k) b g = never (cc)

  data_begun : lead_of s true (token_at s (place p)) ≡ led_by word.Data t → begun_at s true p ≡ held s (items_from s t.next.0)
  unfolding begun_at data_at
  data_begun e = rw e

  data_part : lead_of s true (token_at s (place p)) ≡ led_by word.Data t → (q : Part) (u : Scanned) → part_of s true p ≡ good_part q u → DataPart s p t q
  data_part l (more k x r) u e = data_done (items_from s t.next.0) refl (data_begun l) (more k x r) (more_view s true p e).begun
  data_part l (last k x) u e = by_final (final_view s true p e)
    where
      by_final : {y : Statement} → Final s true p k y u → DataPart s p t (last k y)
      by_final (plain f) = data_done (items_from s t.next.0) refl (data_begun l) _ f.begun
      by_final (thens f) = data_choice (items_from s t.next.0) (data_begun l) f.begun
      by_final (elses f) = data_choice (items_from s t.next.0) (data_begun l) f.begun

-- it is led by its own word
abbrev word_in : Option Lead → Word
word_in (Some l) = l.word
word_in None = word.Rem

abbrev ahead_in : Scanned → Option Lead → Scanned
ahead_in t (Some l) = l.ahead
ahead_in t None = t

word_token : (s : List ℕ) (w : Word) (t u : Scanned) → led_by_word s w t ≡ led_by word.Data u → u ≡ t
word_token s w t u e =
    by_test (is_keyword word.Else (Keyword w) || is_keyword word.Data (Keyword w))
    (λ b. sym (ap (ahead_in t) (rw b at e)))
    (λ b. let d : w ≡ word.Data = ap word_in (rw b at e) in let z : true ≡ false = rw d at b in absurd (false≢true (sym z)))

data_token : (s : List ℕ) (token : Token) (t u : Scanned) → led_by_token s true token t ≡ led_by word.Data u → u ≡ t
data_token s EndOfLine t u e = let d = ap word_in e in never (cc)
data_token s (Keyword w) t u e = word_token s w t u e
data_token s Not t u e = never (cc)
data_token s (Infix op) t u e = never (cc)
data_token s (Call f) t u e = never (cc)
data_token s (Named v) t u e = let d = ap word_in e in never (cc)
data_token s (Number n) t u e = let d = ap word_in e in never (cc)
data_token s (Hexadecimal n) t u e = never (cc)
data_token s (LineOnly l) t u e = let d = ap word_in e in never (cc)
data_token s (Quoted q) t u e = never (cc)
data_token s (Symbol Open) t u e = never (cc)
data_token s (Symbol Close) t u e = never (cc)
data_token s (Symbol Comma) t u e = never (cc)
data_token s (Symbol Semicolon) t u e = never (cc)
data_token s (Symbol Colon) t u e = let d = ap word_in e in never (cc)
data_token s (Symbol Question) t u e = let d = ap word_in e in never (cc)
data_token s (Symbol Equal) t u e = never (cc)
data_token s (Symbol Minus) t u e = never (cc)
data_token s Unreadable t u e = never (cc)

data_within : (s : List ℕ) (p : Place) (t : Scanned) → lead_of s true (token_at s p) ≡ led_by word.Data t → t.next.0 ≤ length s
data_within s p t e =
    let u = token_at s p in
    let same = data_token s u.token u t e in
    rw same (token_ends s p).within

-- ---- after a DATA statement: its line goes on after a colon, or is over

module _ {text : List ℕ} {spot : Spot} {x : Stand} {xs : List Stand} (a : Ahead text spot (x ∷ xs)) (p : Parting text spot x xs) (k : ℕ) (l : List (List ℕ))
    (b : begun_at (body_at text spot.line) true spot.at.0 ≡ done (data_of l) (token_at (body_at text spot.line) (place k))) where
  abbrev body : List ℕ
  body = body_at text spot.line

  abbrev place' : Place
  place' = spot.line.place

  follows : StartsAs body (start_of (follows_done (token_at body (place k)))) p.others
  follows =
      (steps body spot.at.0 {read = begun_answer (done (data_of l) (token_at body (place k)))} (ap begun_answer (sym b)) refl).1 p.first p.others p.onto

  colon_after : token_at body (place k) ≡ (Symbol Colon upto (k + 1))
      → Outside text place'.0 (k + 1) (items_of xs)
  colon_after e =
      from_statement (λ z. omega arith) xs (ahead_from (onward_at p (here_ahead a) (place (k + 1)) (rw e at follows))) refl

  end_after : token_at body (place k) ≡ (EndOfLine upto length body)
      → Outside text spot.line.next.0 0 (items_of xs)
  end_after e =
      let r = reached_next (here_ahead a) in
      from_line refl r.before r.all (ap items_of (sym (onward_over p (here_ahead a) (rw e at follows))))

  after_data : k ≤ length body → Over body k
      → let f = feed_after place' spot.line.next (token_at body (place k)) in Outside text f.line.0 f.at.0 (items_of xs)
  after_data h o =
      ⊎_elim (λ e. rw e (end_after e)) (λ e. rw e (colon_after e)) (over_token body k h o)

-- so a DATA statement of the text has its items, and those after it
pub inside_data : {text : List ℕ} {spot : Spot} {x : Stand} {xs : List Stand} {t : Scanned} → Ahead text spot (x ∷ xs) → lead_at text spot ≡ led_by word.Data t
    → Inside text spot.line.place.0 t.next.0 (items_of (x ∷ xs))
unfolding items_of
inside_data {text} {spot} {x} {xs} {t} a e =
    let p = parting a in
    let u = told (here_ahead a) in
    let s = body_at text spot.line in
    let lead : lead_of s true (token_at s spot.at) ≡ led_by word.Data t = rw u.body e in
    let d = data_part s spot.at.0 t lead p.first p.end p.reads in
    let low = data_within s spot.at t lead in
    let z = items_end (suc (length s)) s t.next.0 low d.items d.ending d.lists in
    let next : place (start_after (lines_at text spot.line.place.0)) ≡ spot.line.next = rw u.here (sym u.next) in
    record {
      begins = a.begins;
      within = rw (← u.body) low;
      own = d.items;
      end = d.ending;
      reads = rw (← u.body) d.lists;
      others = items_of xs;
      after = rw (next, ← u.body) (after_data a p d.ending d.items d.begun z.within z.over);
      all = ap (λ y. items_in (head_of y.part) ++ items_of xs) p.is ∙ rw d.head;
    }

-- ---- outside of one

pub record AllFrom (text : List ℕ) (line : ℕ) (l : List (List ℕ)) : Type 0 where
  pub before : List Line
  pub lines : lines_of text ≡ before ++ lines_at text line
  pub all : l ≡ items_of (stands (lines_at text line))

pub outside_line : {text : List ℕ} {line at : ℕ} {l : List (List ℕ)} → Outside text line at l → at ≡ 0 → AllFrom text line l
outside_line (from_line z before e all) h = record { before = before; lines = e; all = all }
outside_line (from_statement z xs s all) h = absurd (z h)

pub record SomeFrom (text : List ℕ) (line at : ℕ) (l : List (List ℕ)) : Type 0 where
  pub xs : List Stand
  pub stands : StandsFrom text line at xs
  pub all : l ≡ items_of xs

pub outside_statement : {text : List ℕ} {line at : ℕ} {l : List (List ℕ)} → Outside text line at l → (at ≡ 0 → ⊥) → SomeFrom text line at l
outside_statement (from_line z before e all) h = absurd (h z)
outside_statement (from_statement z xs s all) h = record { xs = xs; stands = s; all = all }

-- both ways of going on after a DATA statement are outside of one
pub feeds_after : {text : List ℕ} (line onto : Place) (t : Scanned) {l : List (List ℕ)}
    → (let f = feed_after line onto t in Outside text f.line.0 f.at.0 l) → Feeds text (feed_after line onto t) l
feeds_after line onto t o = by_test (is_symbol Colon t.token) (λ e. rw e (rw e at o)) (λ e. rw e (rw e at o))
