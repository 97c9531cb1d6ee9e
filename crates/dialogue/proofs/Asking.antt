-- LINE INPUT: its text is printed, a line of input is taken, and the variable is set to it.
use Rattle.std.specs.Prelude.{Err, Ok, Option, Some, None}
use Rattle.std.specs.Option.{unwrap_or}
use mathlib.Core.Path.{◌≡◌, refl, sym, ap, ◌∙◌}
use mathlib.Core.List.{List, [], ◌∷◌}
use Prim.Native.Nat.{ℕ, zero, suc, ◌+◌, ◌-◌, ◌≤◌, ◌<◌}
use native.Mathlib.Omega.{arith}
use borrow.Author.Tests.{le-ltb, lt-ltb}
use types.Run.{OneOf, miss}
use lib.ListN.{length, take, drop, length-drop, drop_of_length-le}
use lib.Seq.{drop-drop, length-take-le}
use Rattle.whole.specs.declared.errors.Error.{Error}
use Rattle.whole.specs.declared.errors.Error.TheVariants.{OutOfStringSpace, TypeMismatch, LineBufferOverflow, InputPastEnd, OutputFull}
use Rattle.whole.specs.Texts.{longest_string}
use Rattle.whole.proofs.Never.{never}
use Rattle.words.specs.declared.names.Kind.TheVariants as kind
use Rattle.words.specs.declared.names.Name.{Name}
use Rattle.words.specs.Names.{Telling}
use Rattle.words.specs.Places.{place}
use Rattle.words.specs.declared.places.Place.{Place}
use Rattle.words.specs.declared.symbols.Quotation.{Quotation}
use Rattle.words.specs.declared.symbols.Scanned.{Scanned}
use Rattle.words.specs.declared.symbols.Sign.TheVariants.{Semicolon}
use Rattle.words.specs.declared.symbols.Token.{Token}
use Rattle.words.specs.declared.symbols.Token.TheVariants.{Named, Quoted}
use Rattle.words.proofs.Choices.{by_test}
use Rattle.scanner.proofs.Ends.{scanned_ends}
use Rattle.space.specs.Moves.{copied}
use Rattle.space.proofs.Frames.{copied-length, copied_bytes, copied_past}
use Rattle.loader.specs.Lines.{extent_or, ending_of, extent_at}
use Rattle.loader.specs.declared.lines.Extent.{Extent}
use Rattle.loader.proofs.Extents.{walked}
use Rattle.grammar.specs.Tests.{choose, is_symbol, on_text}
use Rattle.grammar.specs.Trees.{Variable, line_input}
use Rattle.grammar.specs.Formulas.{after, quoted_bytes}
use Rattle.statements.specs.Statements.{Begun, bad, done, variable_of, target_at, input_at}
use Rattle.statements.proofs.Findings.{by_name, by_text}
use Rattle.variables.specs.declared.tables.Tables.{Tables}
use Rattle.variables.specs.bridge.Memory.{Tells, Storable, space_stored}
use Rattle.variables.specs.Tables.{sum_of}
use Rattle.variables.specs.declared.tables.Tables.{Tables}
use Rattle.formulas.specs.bridge.Memory.{Scans}
use Rattle.machine.specs.Machine as spec
use Rattle.machine.specs.Machine.{with_input, longest_input_line}
use Rattle.machine.specs.bridge.Holding.{position_of, Positioned, printed_as, state_of, Sound, Same, State}
use Rattle.machine.specs.declared.state.Machine.{Machine}
use Rattle.machine.specs.bridge.Taking.{taken_at}
use Rattle.machine.specs.declared.state.Printer.{Printer}
use Rattle.machine.specs.declared.positions.Next.{Next}
use Rattle.machine.specs.declared.positions.Next.TheVariants as next
use Rattle.turns.specs.bridge.Turns.{Turn, turned_to, after_of, Leaves, Leads, Turns, AnyRecords, with_printer, with_taken, Storage, storage_of, string_set, stored_turn}
use Rattle.machine.specs.declared.records.Record.{Record}
use Rattle.machine.proofs.Takes.{took, untaken}
use Rattle.machine.proofs.Writing.{not_printed, room_length, written_grows, room_above, fitting_after, write-full}
use Rattle.turns.specs.Steps as step
use Rattle.turns.specs.Steps.{goes_on, fails, first_line, take_line, line_taken, input_line, filled, do_statement}
use Rattle.dialogue.specs.bridge.Asking.{Laid, takes_line, fills_in}
use Rattle.turns.proofs.Keeping.{settled_kept, sound_kept, leaves_unprinted}
use Rattle.turns.proofs.Leading.{leads_on, turns_fails, turns_then}
use Rattle.turns.proofs.Making.{leads_unmade, leads_made}
use Rattle.turns.proofs.Storing.{string_settled, string_long, leads_string, sound_tables, turns_stored}
use Rattle.machine.proofs.Tokens.{token_tag, no_names, no_name}
use Rattle.dialogue.proofs.Printing.{leads_written, printed_none, printed_more, printed_leaves}

-- ---- a line of input

-- an extent further on
abbrev further : ℕ → Extent → Extent
further p e = record { end = place (p + e.end.0); next = place (p + e.next.0) }

or_further : (n p q : ℕ) (a b : Extent) → a ≡ further p b → extent_or n (p + q) a ≡ further p (extent_or n q b)
or_further zero p q a b e = e
or_further (suc n) p q a b e = let h : p + q + suc n ≡ p + (q + suc n) = omega arith in rw h

extent_further : (p q : ℕ) (s : List ℕ) → extent_at (p + q) s ≡ further p (extent_at q s)
unfolding extent_at
extent_further p q [] = refl
extent_further p q (b ∷ t) =
    let h : p + q + 1 ≡ p + (q + 1) = omega arith in
    or_further (ending_of (b ∷ t)) p q (extent_at (p + q + 1) t) (extent_at (q + 1) t) (rw h (extent_further p (q + 1) t))

-- what is taken of the input from a place on goes as far as the line's extent
record Reach (input : List ℕ) (p : ℕ) (e : Extent) : Type 0 where
  low : p ≤ e.end.0
  mid : e.end.0 ≤ e.next.0
  inside : e.next.0 ≤ length input
  size : length (take (e.end.0 - p) (drop p input)) ≡ e.end.0 - p
  is : take_line (drop p input) ≡ record { bytes = take (e.end.0 - p) (drop p input); left = drop e.next.0 input }

-- the definition counts its places from there
reach : (input : List ℕ) (p : ℕ) {e : Extent} → p < length input → e ≡ extent_at p (drop p input) → Reach input p e
reach input p {e} h q =
    let s = drop p input in
    let l = length-drop p input in
    let z = extent_at 0 s in
    let w = walked s 0 (omega arith) refl in
    let f : e ≡ further p z = q ∙ ap (λ i. extent_at i s) (omega arith) ∙ extent_further p 0 s in
    let end : e.end.0 ≡ p + z.end.0 = ap (λ x. x.end.0) f in
    let next : e.next.0 ≡ p + z.next.0 = ap (λ x. x.next.0) f in
    let a : e.end.0 - p ≡ z.end.0 - 0 = omega arith in
    let b : drop z.next.0 s ≡ drop e.next.0 input = drop-drop z.next.0 p input ∙ ap (λ i. drop i input) (sym next) in
    record {
      low = omega arith;
      mid = omega (arith, w.mid);
      inside = omega (arith, w.inside);
      size = length-take-le (e.end.0 - p) s (omega (arith, w.mid, w.inside));
      is = ap (first_line s) w.lines ∙ rw (a, b);
    }

some_taken : (s : List ℕ) (n : spec.Machine) (v : Variable) (go : spec.Machine → step.Next) → 0 < length s
    → input_line s n v go ≡ line_taken n v (take_line s) go
some_taken [] n v go h = absurd (omega arith)
some_taken (b ∷ s) n v go h = refl

module _ (input : List ℕ) (p : ℕ) {e : Extent} (h : p < length input) (k : Reach input p e) (v : Variable) (after : spec.Position) where
  takes : (n : spec.Machine) → n.input ≡ drop p input
      → takes_line v after n ≡ line_taken n v (record { bytes = take (e.end.0 - p) (drop p input); left = drop e.next.0 input }) (λ o. goes_on o after)
  takes n i =
      let go : spec.Machine → step.Next = λ o. goes_on o after in
      ap (λ x. input_line x n v go) i ∙ some_taken (drop p input) n v go (rw (length-drop p input) (omega arith)) ∙ ap (λ t. line_taken n v t go) k.is

  -- too long,
  taken_long : longest_input_line < e.end.0 - p → (n : spec.Machine) → n.input ≡ drop p input → takes_line v after n ≡ fails LineBufferOverflow n
  taken_long b n i = takes n i ∙ rw (lt-ltb longest_input_line (length (take (e.end.0 - p) (drop p input))) (rw k.size b))

  -- or not
  taken_short : e.end.0 - p ≤ longest_input_line → (n : spec.Machine) → n.input ≡ drop p input → n.taken ≡ p
      → takes_line v after n ≡ fills_in v (take (e.end.0 - p) (drop p input)) after (with_input n (drop e.next.0 input) e.next.0)
  taken_short b n i t =
      let l = ap length i ∙ length-drop p input in
      let c : n.taken + (length n.input - length (drop e.next.0 input)) ≡ e.next.0 =
      rw (length-drop e.next.0 input) (omega (arith, k.low, k.mid, k.inside)) in
      takes n i
      ∙ rw (le-ltb longest_input_line (length (take (e.end.0 - p) (drop p input))) (rw k.size b))
      (ap (λ c. fills_in v (take (e.end.0 - p) (drop p input)) after (with_input n (drop e.next.0 input) c)) c)

-- the machine with another count of what was taken
module _ {m : State} {input space room : List ℕ} (k : ℕ) where
  taken_sound : Sound m input space room → k ≤ length input → Sound (with_taken m k) input space room
  taken_sound sound h =
      let t = sound.settled in
      record {
        settled = record { numbers = t.numbers; strings = t.strings; all = t.all; within = t.within; small = t.small };
        fitting = sound.fitting;
        taken = h;
        deep = sound.deep;
      }

  taken_same : {text : List ℕ} {rs : List Record} {n : spec.Machine} → Same text rs m input space room n
      → Same text rs (with_taken m k) input space room (with_input n (drop k input) k)
  taken_same s =
      record {
        variables = s.variables;
        records = s.records;
        record_room = s.record_room;
        slots = s.slots;
        few = s.few;
        column = s.column;
        output = s.output;
        output_room = s.output_room;
        left = refl;
        taken = refl;
        feeds = s.feeds;
        steps = s.steps;
        limit = s.limit;
        placed = s.placed;
      }

module _ (text : List ℕ) {m : State} {input space room : List ℕ} (sound : Sound m input space room) (v : Variable) (after : spec.Position) where
  -- no bytes are left
  takes_none : length input ≤ m.taken
      → Turns text m input space room AnyRecords (takes_line v after) (turned_to m (next.Fails InputPastEnd)) space room
  takes_none h =
      turns_fails (leaves_unprinted sound refl refl refl)
      (λ rs t n s. record { machine = n; is = ap (λ i. input_line i n v (λ o. goes_on o after)) (s.left ∙ drop_of_length-le input h); same = s })

  module _ {e : Extent} (h : m.taken < length input) (k : Reach input m.taken e) where
    -- the line is too long
    takes_long : longest_input_line < e.end.0 - m.taken
        → Turns text m input space room AnyRecords (takes_line v after) (turned_to m (next.Fails LineBufferOverflow)) space room
    takes_long b =
        turns_fails (leaves_unprinted sound refl refl refl)
        (λ rs t n s. record { machine = n; is = taken_long input m.taken h k v after b n s.left; same = s })

    -- it is taken
    takes_short : e.end.0 - m.taken ≤ longest_input_line → {r : Turn} {space' : List ℕ}
        → (Sound (with_taken m e.next.0) input space room
        → Turns text (with_taken m e.next.0) input space room AnyRecords (fills_in v (take (e.end.0 - m.taken) (drop m.taken input)) after) r space' room)
        → Turns text m input space room AnyRecords (takes_line v after) r space' room
    takes_short b t =
        let w = taken_sound e.next.0 sound k.inside in
        turns_then (leaves_unprinted {r = turned_to (with_taken m e.next.0) next.Ends} w refl refl refl)
        (λ rs u n s.
        record {
          machine = with_input n (drop e.next.0 input) e.next.0;
          is = taken_short input m.taken h k v after b n s.left s.taken;
          same = taken_same e.next.0 s;
        })
        (t w)

  -- so where none is taken, and where one is
  pub takes_fault : {x : Error} → taken_at input m.taken ≡ Err x
      → Turns text m input space room AnyRecords (takes_line v after) (turned_to m (next.Fails x)) space room
  takes_fault e =
      untaken input m.taken (λ x. Turns text m input space room AnyRecords (takes_line v after) (turned_to m (next.Fails x)) space room) e
      takes_none
      (λ h b. takes_long h (reach input m.taken h refl) b)

  pub takes_line_lem : {e : Extent} → taken_at input m.taken ≡ Ok e → {r : Turn} {space' : List ℕ}
      → (Sound (with_taken m e.next.0) input space room
      → Turns text (with_taken m e.next.0) input space room AnyRecords (fills_in v (take (e.end.0 - m.taken) (drop m.taken input)) after) r space' room)
      → Turns text m input space room AnyRecords (takes_line v after) r space' room
  takes_line_lem q =
      let k = took input m.taken q in takes_short k.some (reach input m.taken k.some k.is) k.short

-- ---- the variable is set to the line

module _ (program : List ℕ) {m : State} {input space room : List ℕ} (sound : Sound m input space room) (b : List ℕ) where
  -- there is no room for it
  pub fills_none : (v : Variable) (after : spec.Position) → length space < m.used + length b
      → Turns program m input space room AnyRecords (fills_in v b after) (turned_to m (next.Fails OutOfStringSpace)) space room
  fills_none v after h =
      turns_fails (leaves_unprinted sound refl refl refl)
      (λ rs t n s. leads_unmade sound.settled b (λ o. filled v.kind v.telling b o (λ p. goes_on p after)) s h)

  module _ (fits : m.used + length b ≤ length space) where
    -- the bytes stand right after the variables'
    leads_filled : (v : Variable) (after : spec.Position) {rs : List Record} {n : spec.Machine} → Same program rs m input space room n
        → Leads program rs m input (copied space m.used b) room (fills_in v b after n)
        (λ o. filled v.kind v.telling b o (λ p. goes_on p after))
    leads_filled v after s = leads_made sound.settled b (λ o. filled v.kind v.telling b o (λ p. goes_on p after)) s fits

    -- a number's variable takes none
    pub fills_number : (name : Telling) (after : spec.Position)
        → Turns program m input space room AnyRecords (fills_in (record { kind = kind.Whole; telling = name }) b after)
        (turned_to m (next.Fails TypeMismatch)) (copied space m.used b) room
    fills_number name after =
        let long = copied-length space m.used b in
        turns_fails (leaves_unprinted (sound_kept long sound) long refl refl)
        (λ rs t n s. leads_filled (record { kind = kind.Whole; telling = name }) after s)

    -- a string's is set
    pub fills_string : (name : Telling) → Tells name → (here : Place) (u : Scanned) → Positioned program (after_of here u)
        → Turns program m input space room AnyRecords
        (fills_in (record { kind = kind.Text; telling = name }) b (position_of program (after_of here u)))
        (stored_turn (string_set m name (length b)) here u)
        (space_stored m.tables.strings m.used name (copied space m.used b) (length b)) room
    fills_string name own here u p =
        let long = copied-length space m.used b in
        let k = settled_kept long sound.settled in
        let f : m.used + length b ≤ length (copied space m.used b) = rw long fits in
        let after = position_of program (after_of here u) in
        turns_stored here u (string_set m name (length b)) (sound_tables sound (string_settled name own (length b) k f))
        (string_long name own (length b) k f ∙ long) refl refl p
        (λ rs t n s.
        leads_on (leads_filled (record { kind = kind.Text; telling = name }) after s)
        (λ o e.
        rw (copied_bytes space m.used b fits) at (leads_string name own (length b) k f e (λ o. goes_on o after))))

-- ---- the text is printed first

module _ (program : List ℕ) {m : State} {input space room : List ℕ} (sound : Sound m input space room) (at : ℕ) (b : List ℕ) (v : Variable)
    (after : spec.Position) where
  -- there is no room for it
  pub asks_full : printed_as m.printer (length room) b ≡ None
      → Turns program m input space room AnyRecords (λ n. do_statement program at (line_input b v) n after) (turned_to m (next.Fails OutputFull))
      space (copied room m.printer.written b)
  asks_full e =
      rw (copied_past room m.printer.written b (not_printed m.printer room b e))
      (turns_fails (leaves_unprinted sound refl refl refl)
      (λ rs t n s. record { machine = n; is = rw (write-full sound.fitting b n s.column s.output s.output_room e); same = s }))

  printed_leaves_it : {x : Next} → Leaves m input space room (turned_to (with_printer m (unwrap_or (printed_as m.printer (length room) b) m.printer)) x)
      space (copied room m.printer.written b)
  printed_leaves_it =
      let fit = sound.fitting in
      printed_leaves
      (printed_more (printed_none sound.settled fit) (unwrap_or (printed_as m.printer (length room) b) m.printer) refl
      (room_length fit b) (fitting_after fit b) (written_grows fit b) (room_above fit b))
      sound

  -- it was printed
  pub asks_on : {q : Printer} → printed_as m.printer (length room) b ≡ Some q → {m' : State} {room' : List ℕ}
      → m' ≡ with_printer m q → room' ≡ copied room m.printer.written b
      → {r : Turn} {space' : List ℕ}
      → (Sound m' input space room' → Turns program m' input space room' AnyRecords (takes_line v after) r space' room')
      → Turns program m input space room AnyRecords (λ n. do_statement program at (line_input b v) n after) r space' room'
  asks_on e f g t =
      let l = rw e at (printed_leaves_it {x = next.Ends}) in
      rw g
      (turns_then l
      (λ rs u n s. rw e at (leads_written s sound.fitting b (takes_line v after)))
      ((rw (f, g) at t) l.sound))

-- printing leaves the strings
pub laid_printed : {m m' : Machine} {tables : Tables} {lengths space : List ℕ} {p : Printer} → state_of m' tables ≡ with_printer (state_of m tables) p
    → Laid m lengths space → Laid m' lengths space
laid_printed {m} {m'} e l = let u : m'.used.0 ≡ m.used.0 = ap (λ x. x.used) e in record { all = l.all ∙ sym u; within = rw u l.within }

-- ---- its text and its variable

-- all tokens but texts
abbrev no_texts : List ℕ
no_texts = 0 ∷ 1 ∷ 2 ∷ 3 ∷ 4 ∷ 5 ∷ 6 ∷ 7 ∷ 8 ∷ 10 ∷ 11 ∷ []

no_text : (t : Token) (go : Quotation → Begun) (other : Begun) → OneOf no_texts (token_tag t) → on_text t go other ≡ other
no_text t go other o =
    by_text (λ b. OneOf no_texts (token_tag t) → b ≡ other) t go other (λ q f w h. absurd (miss no_texts 9 tt (rw w at h))) (λ f h. refl) o

text_of : (s b : List ℕ) (t : Scanned) {prompt : List ℕ} {v : Variable} {u : Scanned} → target_at s b t ≡ done (line_input prompt v) u → prompt ≡ b
text_of s b t {prompt} {v} {u} =
    by_name (λ x. x ≡ done (line_input prompt v) u → prompt ≡ b) t.token _ _ (λ w f n e. cc)
    (λ f e. never (cc))

-- the variable is the one that the token names, and what follows it follows the statement
pub target_is : (s b : List ℕ) (t : Scanned) {name : Name} {v : Variable} {u : Scanned} → t.token ≡ Named name
    → target_at s b t ≡ done (line_input b v) u → (v ≡ variable_of s name) × (u ≡ after s t)
target_is s b t w e = let h = rw w at e in (cc, cc)

pub not_target : (s b : List ℕ) (t : Scanned) {v : Variable} {u : Scanned} → OneOf no_names (token_tag t.token)
    → target_at s b t ≡ done (line_input b v) u → ⊥
not_target s b t o e =
    let h = rw (no_name t.token (λ v. done (line_input b (variable_of s v)) (after s t)) bad o) at e in
    never (cc)

module _ (s : List ℕ) (t : Scanned) {prompt : List ℕ} {v : Variable} {u : Scanned} (e : input_at s t ≡ done (line_input prompt v) u) where
  -- a quoted text comes first,
  pub input_quoted : (q : Quotation) → t.token ≡ Quoted q
      → (target_at s (quoted_bytes s q) (after s (after s t)) ≡ done (line_input (quoted_bytes s q) v) u) × (prompt ≡ quoted_bytes s q)
  unfolding input_at
  input_quoted q w =
      let h = rw w at e in
      by_test (is_symbol Semicolon (after s t).token)
      (λ c. let k = rw c at h in let p = text_of s (quoted_bytes s q) (after s (after s t)) k in (rw p at k, p))
      (λ c. let k = rw c at h in never (cc))

  -- or none
  pub input_bare : OneOf no_texts (token_tag t.token) → (target_at s [] t ≡ done (line_input [] v) u) × (prompt ≡ [])
  unfolding input_at
  input_bare o =
      let k = rw (no_text t.token (λ q. choose (is_symbol Semicolon (after s t).token) (λ _. target_at s (quoted_bytes s q) (after s (after s t))) (λ _. bad)) (target_at s [] t) o) at e in
      let p = text_of s [] t k in (rw p at k, p)

-- a text lies within its line
pub quoted_inside : {s : List ℕ} {t : Scanned} {q : Quotation} → Scans s t → t.token ≡ Quoted q → q.at + q.len < length s
quoted_inside {s} {q = q} h w = (scanned_ends s h.from h.is).text q w

pub quoted_part : (s : List ℕ) (a n : ℕ) → take (a + n - a) (drop a s) ≡ take n (drop a s)
quoted_part s a n = let e : a + n - a ≡ n = omega arith in rw e

-- what storing the line begins with
pub fills_storable : (lengths : List ℕ) (used : ℕ) (space : List ℕ) {space' : List ℕ} (b : List ℕ) → sum_of lengths ≡ used → space' ≡ copied space used b
    → used + length b ≤ length space → length b ≤ longest_input_line → Storable lengths used space' (length b) × (length b ≤ longest_string)
fills_storable lengths used space b s e f h = let l = copied-length space used b in (record { all = s; fits = rw (e, l) f }, omega arith)

-- the tables after a string is stored, or was not for lack of room
pub storage_tables : (m : Machine) (s : Option Machine) {S : Storage} {tables : Tables} → storage_of m s tables ≡ S → tables ≡ S.state.tables
storage_tables m None e = ap (λ x. x.state.tables) e
storage_tables m (Some n) e = ap (λ x. x.state.tables) e
