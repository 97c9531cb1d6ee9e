-- An operand, by its first token: what is made of what stands behind it.
use Rattle.std.specs.Prelude.{Err, Ok, Result, ℕ}
use Rattle.whole.specs.declared.errors.Error.{Error}
use mathlib.Core.Path.{◌≡◌, refl, sym, ap, ◌∙◌}
use mathlib.Core.Bool.{false}
use mathlib.Core.List.{List, []}
use Prim.Native.Nat.{ℕ, zero, suc, ◌+◌, ◌-◌, ◌≤◌}
use native.Mathlib.Omega.{arith}
use lib.ListN.{length}
use Rattle.whole.specs.Whole.{negated, flipped}
use Rattle.whole.proofs.Never.{never}
use Rattle.words.specs.Names.{name_bytes, telling_of}
use Rattle.words.specs.declared.names.Name.{Name}
use Rattle.words.specs.declared.symbols.Function.{Function}
use Rattle.words.specs.declared.symbols.Quotation.{Quotation}
use Rattle.words.specs.declared.symbols.Scanned.{Scanned}
use Rattle.words.specs.declared.symbols.Sign.{Sign}
use Rattle.words.specs.declared.symbols.Sign.TheVariants.{Open, Minus}
use Rattle.words.specs.declared.symbols.Token.TheVariants as token
use Rattle.scanner.specs.Tokens.{token_at}
use Rattle.scanner.proofs.Ends.{scanned_ends}
use Rattle.grammar.specs.Trees.{Formula, number, variable, text, minus, none}
use Rattle.grammar.specs.Formulas.{not_level, tightest, good, after, quoted_bytes}
use Rattle.skimming.specs.bridge.Remaining.{weight, formula_in, operand_of, arguments_of}
use Rattle.std.specs.Prelude.{None}
use Rattle.skimming.proofs.Weights.{weight-enough, symbol_reads, after_lighter}
use Rattle.expressions.proofs.Answering.{not_read}
use Rattle.expressions.proofs.Steps.{OperandMet}
use Rattle.skimming.proofs.Fuel.{operand_is}
use Rattle.expressions.specs.Types.{depth_of}
use Rattle.expressions.specs.bridge.Nots.{turned, nots_of}
use Rattle.expressions.specs.declared.nots.Nots.{Nots}
use Rattle.expressions.proofs.Chains.{nots, nots_depth, behind, behind_lighter, chain_operand, chained}
use Rattle.expressions.proofs.Views.{made, opened_view, negated_view, complemented_view, call_view}
use Rattle.variables.specs.Strings as strings
use Rattle.variables.specs.Strings.{Room, Outcome, value, fault, make, let_all_go}
use Rattle.variables.specs.Variables.{Variables}
use Rattle.strings.specs.Functions.{answered}
use Rattle.operators.specs.Values.{whole_then, variable_value, value_of}
use Rattle.variables.specs.bridge.Memory.{text_length, answered_as, Looked, Agrees, GoesOn, Made, strings_in}
use Rattle.variables.specs.Tables.{names_in, numbers_in}
use Rattle.formulas.specs.bridge.Memory.{whole_as, flipped_by, closed_as, Scans, Reads, OperandReads, Evaluated}
use Rattle.variables.specs.declared.values.Worked.{Worked}
use Rattle.variables.specs.declared.values.Worked.TheVariants as worked
use Rattle.operators.proofs.Sides.{answer_gives}
use Rattle.variables.proofs.Agreements.{framed_less}
use Rattle.variables.proofs.Looking.{looked_self}
use Rattle.formulas.proofs.Making.{number_made}
use Rattle.formulas.proofs.Nesting.{argument_depth}
use Rattle.variables.specs.declared.tables.Tables.{Tables}

-- ---- what does not read is no operand

pub not_operand : (s : List ℕ) (level : ℕ) (t : Scanned) {P : Type 0} {f : Formula} {u : Scanned} → OperandMet 9 s level t None
    → operand_of s level t ≡ good f u → P
unfolding operand_of
not_operand s level t m e =
    let b = not_read 9 (operand_of s level t) (m _ (omega (arith, weight-enough s t))) refl in
    never (cc)

-- ---- a quoted text lies within its line

pub quoted_within : {s : List ℕ} {t : Scanned} → Scans s t → (q : Quotation) → t.token ≡ token.Quoted q → q.at + q.len ≤ length s
quoted_within {s} {t} k q e = let h = (scanned_ends s k.from k.is).text q e in omega arith

-- ---- what the minus sign and NOT make of what is behind them

answered_none : (x : Result ℕ Error) (t : Scanned) → text_length (answered_as x t) ≡ 0
answered_none (Ok w) t = refl
answered_none (Err e) t = refl

module _ (op : ℕ → Result ℕ Error) where
  abbrev fronted : Result Worked Error → Result Worked Error
  fronted r = whole_as r (λ w t. answered_as (op w) t)

  fronted_length : (r : Result Worked Error) → text_length (fronted r) ≤ text_length r
  fronted_length (Ok (worked.Whole w t)) = omega (arith, answered_none (op w) t)
  fronted_length (Ok (worked.Text n t)) = omega arith
  fronted_length (Err e) = omega arith

  fronted_agrees : (r : Result Worked Error) (space : List ℕ) (used : ℕ) (o : Outcome) → Agrees r space used o
      → Agrees (fronted r) space used (whole_then o (λ w after. answered (op w) [] after))
  fronted_agrees (Ok (worked.Whole w t)) space used (value (strings.whole v) room) (e, h) = rw e ((answer_gives (op v) t space used).0 room h)
  fronted_agrees (Ok (worked.Text n t)) space used (value (strings.text b) room) h = refl
  fronted_agrees (Err x) space used (fault e room) h = h
  fronted_agrees (Ok (worked.Whole w t)) space used (value (strings.text b) room) h = elim h [ ]
  fronted_agrees (Ok (worked.Whole w t)) space used (fault e room) h = elim h [ ]
  fronted_agrees (Ok (worked.Text n t)) space used (value (strings.whole v) room) h = elim h [ ]
  fronted_agrees (Ok (worked.Text n t)) space used (fault e room) h = elim h [ ]
  fronted_agrees (Err x) space used (value _ room) h = elim h [ ]

  fronted_goes : (r : Result Worked Error) (u : Scanned) (space : List ℕ) → GoesOn r u → GoesOn (fronted r) u
  fronted_goes (Ok (worked.Whole w t)) u space e = rw e (answer_gives (op w) u space 0).1
  fronted_goes (Ok (worked.Text n t)) u space e = tt
  fronted_goes (Err x) u space e = tt

-- ---- and a parenthesis of what it closes

closed_length : (line : List ℕ) (r : Result Worked Error) → text_length (closed_as line r) ≤ text_length r
closed_length line (Ok (worked.Whole w t)) = omega arith
closed_length line (Ok (worked.Text n t)) = omega arith
closed_length line (Err e) = omega arith

closed_agrees : (line : List ℕ) (r : Result Worked Error) (space : List ℕ) (used : ℕ) (o : Outcome) → Agrees r space used o
    → Agrees (closed_as line r) space used o
closed_agrees line (Ok (worked.Whole w t)) space used (value (strings.whole v) room) h = h
closed_agrees line (Ok (worked.Text n t)) space used (value (strings.text b) room) h = h
closed_agrees line (Err x) space used (fault e room) h = h
closed_agrees line (Ok (worked.Whole w t)) space used (value (strings.text b) room) h = elim h [ ]
closed_agrees line (Ok (worked.Whole w t)) space used (fault e room) h = elim h [ ]
closed_agrees line (Ok (worked.Text n t)) space used (value (strings.whole v) room) h = elim h [ ]
closed_agrees line (Ok (worked.Text n t)) space used (fault e room) h = elim h [ ]
closed_agrees line (Err x) space used (value _ room) h = elim h [ ]

closed_goes : (line : List ℕ) (r : Result Worked Error) (u : Scanned) → GoesOn r u → GoesOn (closed_as line r) (after line u)
closed_goes line (Ok (worked.Whole w t)) u e = rw e refl
closed_goes line (Ok (worked.Text n t)) u e = rw e refl
closed_goes line (Err x) u e = tt

-- ---- what the calls begin with, where so many pairs may nest; `a` is the token after the first

module _ (line : List ℕ) (level : ℕ) (t : Scanned) {f : Formula} {u : Scanned} (e : operand_of line level t ≡ good f u) {a : Scanned}
    (b : a ≡ after line t) where
  behind_scans : Scans line a
  behind_scans = record { from = t.next; is = b }

  module _ {x : Sign} (i : t.token ≡ token.Symbol x) where
    pub sign_lighter : weight line a + 4 ≤ weight line t
    sign_lighter = rw b (after_lighter line t (rw i))

    -- a pair does where one stands
    pub opened_room : (room : ℕ) → depth_of f ≤ room → x ≡ Open → 1 ≤ room
    unfolding depth_of
    opened_room room d j = let v = opened_view line level t e (i ∙ ap token.Symbol j) in omega (arith, rw v.is at d)

    pub opened_asks : (room : ℕ) → depth_of f ≤ room → x ≡ Open → Scans line a × Reads (room - 1) (formula_in line 0 a)
    unfolding depth_of
    opened_asks room d j =
        let v = opened_view line level t e (i ∙ ap token.Symbol j) in
        (behind_scans, record { of = v.of; next = v.at; is = ap (formula_in line 0) b ∙ v.from; shallow = omega (arith, rw v.is at d) })

    pub negated_asks : (room : ℕ) → depth_of f ≤ room → x ≡ Minus → Scans line a × OperandReads room line a
    unfolding depth_of
    negated_asks room d j =
        let m = (negated_view line level t e (i ∙ ap token.Symbol j)).1 in
        let r : Reads room (operand_of line tightest a) = record { of = m.of; next = u; is = ap (operand_of line tightest) b ∙ m.from; shallow = rw m.is at d } in
        (behind_scans, record { level = tightest; reads = r })

  -- after the parenthesis that opens
  module _ {g : Function} (i : t.token ≡ token.Call g) {first : Scanned} (d : first ≡ token_at line a.next) where
    pub call_is : arguments_of line g none (formula_in line 0 first) ≡ good f u
    call_is =
        let v = (call_view line level t e g i).1 in
        ap (λ x. arguments_of line g none (formula_in line 0 x)) (d ∙ ap (after line) b) ∙ ap (arguments_of line g none) v.from ∙ v.lists

    pub call_lighter : weight line first + 8 ≤ weight line t
    call_lighter =
        let o = symbol_reads Open (after line t).token (call_view line level t e g i).0 in
        let h = ap (weight line) (d ∙ ap (after line) b) in
        omega (arith, after_lighter line t (rw i), after_lighter line (after line t) o)

    pub call_room : (room : ℕ) → depth_of f ≤ room → 1 ≤ room
    call_room room h =
        let v = (call_view line level t e g i).1 in omega (arith, argument_depth line g none v.of v.at v.lists)

    pub call_asks : (room : ℕ) → depth_of f ≤ room → Scans line first × Reads (room - 1 + 1) (arguments_of line g none (formula_in line 0 first))
    call_asks room h = (record { from = a.next; is = d }, record { of = f; next = u; is = call_is; shallow = omega arith })

-- ---- a chain of NOT, passed over

module _ (line : List ℕ) (level : ℕ) (t : Scanned) {f : Formula} {u : Scanned} (e : operand_of line level t ≡ good f u) (i : t.token ≡ token.Not)
    {x : Nots} (p : x ≡ nots_of line t) where
  pub chain_lighter : weight line x.ahead + 4 ≤ weight line t
  chain_lighter = rw p (behind_lighter line t i)

  -- so many of them, and the formula behind
  record Fronts : Type 0 where
    more : ℕ
    of : Formula
    is : f ≡ nots (suc more) of
    from : formula_in line not_level x.ahead ≡ good of u
    parity : x.odd ≡ turned (suc more) false

  fronts : Fronts
  fronts =
      let c = chained line t i in
      let k = (complemented_view line level t e i).0 in
      let m = made (nots (suc c.more)) (formula_in line not_level (nots_of line t).ahead) (sym (chain_operand line level t i k ∙ c.reads) ∙ e) in
      record { more = c.more; of = m.of; is = m.is; from = rw p m.from; parity = rw p c.parity }

  pub chain_asks : Scans line t → (room : ℕ) → depth_of f ≤ room → Scans line x.ahead × Reads room (formula_in line not_level x.ahead)
  chain_asks s room d =
      let m = fronts in
      let h = rw (m.is, nots_depth (suc m.more) m.of) at d in
      (rw p (behind line (Scans line) (λ at. record { from = at; is = refl }) t s), record { of = m.of; next = u; is = m.from; shallow = h })

-- what the word of a formula comes to behind so many of them
whole_then_lem : (h : ℕ → ℕ) (o : Outcome) → whole_then (whole_then o (λ w after. answered (Ok (h w)) [] after)) (λ w after. value (strings.whole (flipped w)) after)
    ≡ whole_then o (λ w after. answered (Ok (flipped (h w))) [] after)
unfolding let_all_go
whole_then_lem h (value (strings.whole w) room) = refl
whole_then_lem h (value (strings.text b) room) = refl
whole_then_lem h (fault e room) = refl

chain_worth : (n : ℕ) (g : Formula) (vars : Variables) (room : Room)
    → value_of (nots (suc n) g) vars room ≡ whole_then (value_of g vars room) (λ w after. answered (Ok (flipped_by (suc n) w)) [] after)
unfolding value_of let_all_go nots flipped_by
chain_worth zero g vars room = refl
chain_worth (suc n) g vars room = rw (chain_worth n g vars room) (whole_then_lem (flipped_by (suc n)) (value_of g vars room))

-- ---- what comes of each token

-- an answer made for all variables that the tables hold is the formula's
made_evaluated : {tables : Tables} {f : Formula} {u : Scanned} {before : List ℕ} {used : ℕ} {r : Result Worked Error} {now : List ℕ}
    → ((vars : Variables) → Looked vars tables before → Made before used used (value_of f vars) u r now)
    → Evaluated tables f u before used r now
made_evaluated {tables} {before = before} h =
    let m = h (record {
      numbers = numbers_in (names_in tables.numbers.names) tables.numbers.words;
      strings = strings_in (names_in tables.strings.names) tables.strings.lengths before;
    }) looked_self in
    record { framed = m.framed; agrees = λ vars l. (h vars l).agrees; goes = m.goes }

done_as : {tables : Tables} {f g : Formula} {u v : Scanned} {before : List ℕ} {used : ℕ} {r : Result Worked Error} {now : List ℕ}
    → f ≡ g → u ≡ v → Evaluated tables g v before used r now → Evaluated tables f u before used r now
done_as i j d = rw (i, j) d

module _ (line : List ℕ) (level : ℕ) (t : Scanned) {f : Formula} {u : Scanned} (e : operand_of line level t ≡ good f u) {a : Scanned}
    (b : a ≡ after line t) where
  leaf_is : (g : Formula) → operand_of line level t ≡ good g (after line t) → (f ≡ g) × (u ≡ a)
  leaf_is g i = let j = sym e ∙ i in let k : u ≡ after line t = cc in (cc, k ∙ sym b)

  module _ {tables : Tables} {used : ℕ} where
    word_done : (w : ℕ) (space : List ℕ) → used ≤ length space → operand_of line level t ≡ good (number w) (after line t)
        → Evaluated tables f u space used (Ok (worked.Whole w a)) space
    unfolding value_of
    word_done w space h i =
        let j = leaf_is (number w) i in
        done_as j.0 j.1 (made_evaluated (λ vars l. number_made space used a h refl))

    pub number_done : (w : ℕ) (space : List ℕ) → used ≤ length space → t.token ≡ token.Number w
        → Evaluated tables f u space used (Ok (worked.Whole w a)) space
    number_done w space h i = word_done w space h (operand_is line level t i)

    pub hexadecimal_done : (w : ℕ) (space : List ℕ) → used ≤ length space → t.token ≡ token.Hexadecimal w
        → Evaluated tables f u space used (Ok (worked.Whole w a)) space
    hexadecimal_done w space h i = word_done w space h (operand_is line level t i)

    module _ {before now : List ℕ} (r : Result Worked Error) where
      pub named_done : (v : Name) → t.token ≡ token.Named v
          → ((vars : Variables) → Looked vars tables before
          → Made before used used (variable_value v.kind (telling_of (name_bytes line v)) vars) a r now)
          → Evaluated tables f u before used r now
      unfolding value_of
      named_done v i h =
          let j = leaf_is (variable v.kind (telling_of (name_bytes line v))) (operand_is line level t i) in
          done_as j.0 j.1 (made_evaluated h)

      pub quoted_done : (q : Quotation) → t.token ≡ token.Quoted q → Made before used used (make (quoted_bytes line q)) a r now
          → Evaluated tables f u before used r now
      unfolding value_of
      quoted_done q i h =
          let j = leaf_is (text (quoted_bytes line q)) (operand_is line level t i) in
          done_as j.0 j.1 (made_evaluated (λ vars l. h))

      -- what wants a whole number of the formula behind it
      fronted_done : (op : ℕ → Result ℕ Error) (make : Formula → Formula) (g : Formula) → f ≡ make g
          → ((vars : Variables) (room : Room) → value_of (make g) vars room ≡ whole_then (value_of g vars room) (λ w after. answered (op w) [] after))
          → Evaluated tables g u before used r now → Evaluated tables f u before used (fronted op r) now
      fronted_done op make g i worth d = record {
        framed = framed_less (fronted op r) (fronted_length op r) d.framed;
        agrees = λ vars l room x.
            rw (i, worth vars room) (fronted_agrees op r now used (value_of g vars room) (d.agrees vars l room x));
        goes = fronted_goes op r u now d.goes;
      }

      pub complemented_done : (i : t.token ≡ token.Not) {x : Nots} → x ≡ nots_of line t
          → ((g : Formula) (v : Scanned) → formula_in line not_level x.ahead ≡ good g v → Evaluated tables g v before used r now)
          → {q : Result Worked Error} → ((n : ℕ) → x.odd ≡ turned n false → q ≡ whole_as r (λ w t. Ok (worked.Whole (flipped_by n w) t)))
          → Evaluated tables f u before used q now
      complemented_done i p h turns =
          let m = fronts line level t e i p in
          let n = suc m.more in
          rw (turns n m.parity)
          (fronted_done (λ w. Ok (flipped_by n w)) (nots n) m.of m.is (λ vars room. chain_worth m.more m.of vars room) (h m.of u m.from))

      module _ {x : Sign} (i : t.token ≡ token.Symbol x) where
        -- in parentheses
        pub opened_done : x ≡ Open
            → ((g : Formula) (v : Scanned) → formula_in line 0 a ≡ good g v → Evaluated tables g v before used r now)
            → Evaluated tables f u before used (closed_as line r) now
        unfolding value_of
        opened_done j h =
            let v = opened_view line level t e (i ∙ ap token.Symbol j) in
            let d = h v.of v.at (ap (formula_in line 0) b ∙ v.from) in
            done_as v.is v.next
            (record {
              framed = framed_less (closed_as line r) (closed_length line r) d.framed;
              agrees = λ vars l room x. closed_agrees line r now used (value_of v.of vars room) (d.agrees vars l room x);
              goes = closed_goes line r v.at d.goes;
            })

        pub negated_done : x ≡ Minus
            → ((k : ℕ) (g : Formula) (v : Scanned) → operand_of line k a ≡ good g v → Evaluated tables g v before used r now)
            → Evaluated tables f u before used (whole_as r (λ w t. answered_as (negated w) t)) now
        unfolding value_of
        negated_done j h =
            let m = (negated_view line level t e (i ∙ ap token.Symbol j)).1 in
            fronted_done (λ w. negated w) minus m.of m.is (λ vars room. refl)
            (h tightest m.of u (ap (operand_of line tightest) b ∙ m.from))
