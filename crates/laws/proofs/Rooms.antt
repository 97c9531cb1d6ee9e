-- What a formula comes to in two rooms: the same value or the same error, as far as the rooms allow. How near the rooms are, and which errors
-- are spared on which side, is left open: any two rooms but for 14, and rooms with the same space and live bytes with nothing spared.
use Rattle.std.specs.Prelude.{Err, Ok, Result, ℕ}
use mathlib.Core.Path.{◌≡◌, refl}
use mathlib.Core.Bool.{Bool, true, false, cond, not, ◌&&◌, false≢true}
use mathlib.Core.List.{List, [], ◌∷◌, ◌++◌}
use Prim.Native.Nat.{ℕ, suc, ◌+◌, ◌-◌}
use native.Mathlib.Omega.{arith}
use lib.Dec.{ltb, leb}
use lib.ListN.{length, take, drop, get_or, replicate}
use Rattle.whole.specs.Bytes.{blank}
use Rattle.whole.specs.Digits.{val_of}
use Rattle.whole.specs.Texts.{signed_numeral, hexadecimal, longest_string}
use Rattle.whole.specs.Whole.{applied, negated, flipped, say, magnitude, signum}
use Rattle.whole.specs.declared.arithmetic.Operator.{Operator}
use Rattle.whole.specs.declared.arithmetic.Operator.TheVariants as operator
use Rattle.whole.specs.declared.errors.Error.{Error}
use Rattle.whole.specs.declared.errors.Error.TheVariants.{TypeMismatch, OutOfStringSpace}
use Rattle.words.specs.Spellings.{same_bytes}
use Rattle.words.specs.declared.names.Kind.TheVariants as kind
use Rattle.words.specs.declared.symbols.Function.{Function}
use Rattle.words.specs.declared.symbols.Function.TheVariants as function
use Rattle.words.proofs.Choices.{by_test, both}
use Rattle.grammar.specs.Trees as tree
use Rattle.grammar.specs.Trees.{Formula, Arguments}
use Rattle.grammar.specs.Functions.{wants}
use Rattle.grammar.specs.Formulas.{count_of}
use Rattle.grammar.specs.declared.wanting.Want.{Want}
use Rattle.variables.specs.Strings.{Value, whole, text, Room, Outcome, value, fault, then, with_string, make, let_go, let_all_go, produced}
use Rattle.variables.specs.Variables.{Variables, word_of, bytes_of}
use Rattle.strings.specs.Functions.{argument, word, bytes, answered, within, ranged, place_of, fill_right, fill_byte, mid_length, instr_start, instr_texts, called}
use Rattle.operators.specs.Values.{whole_then, is_before, on_texts, joined, left_right, sides, Taken, taken, stopped, meets, want_at, tested, further, result, value_of, values_of}
use Rattle.laws.specs.Laws.{is_fre, without_fre, none_with_fre}

pub data Side : Type 0 where
  left_side : Side
  right_side : Side

-- the same value or the same error in rooms that are near, or an error that is spared on one side
pub data Agree (Near : Room → Room → Type 0) (Spared : Side → Error → Type 0) : Outcome → Outcome → Type 0 where
  values : (v : Value) {r s : Room} → Near r s → Agree Near Spared (value v r) (value v s)
  faults : {e : Error} {r s : Room} → Near r s → Agree Near Spared (fault e r) (fault e s)
  on_left : {e : Error} {r : Room} {o : Outcome} → Spared left_side e → Agree Near Spared (fault e r) o
  on_right : {e : Error} {r : Room} {o : Outcome} → Spared right_side e → Agree Near Spared o (fault e r)

-- the same of a function's arguments
pub data AllAgree (Near : Room → Room → Type 0) (Spared : Side → Error → Type 0) : Taken → Taken → Type 0 where
  takens : (vs : List Value) {r s : Room} → Near r s → AllAgree Near Spared (taken vs r) (taken vs s)
  stops : {e : Error} {r s : Room} → Near r s → AllAgree Near Spared (stopped e r) (stopped e s)
  stops_left : {e : Error} {r : Room} {t : Taken} → Spared left_side e → AllAgree Near Spared (stopped e r) t
  stops_right : {e : Error} {r : Room} {t : Taken} → Spared right_side e → AllAgree Near Spared t (stopped e r)

-- what making a string and letting one go must do
pub record Lasting (Near : Room → Room → Type 0) (Spared : Side → Error → Type 0) : Type 0 where
  pub makes : (b : List ℕ) (r s : Room) → Near r s → Agree Near Spared (make b r) (make b s)
  pub frees : (v : Value) (r s : Room) → Near r s → Near (let_go v r) (let_go v s)

module _ (Near : Room → Room → Type 0) (Spared : Side → Error → Type 0) (k : Lasting Near Spared) where
  -- ---- one thing after another

  then_agree : {o p : Outcome} (go : Value → Room → Outcome) → Agree Near Spared o p
      → ((v : Value) (r s : Room) → Near r s → Agree Near Spared (go v r) (go v s)) → Agree Near Spared (then o go) (then p go)
  then_agree go (values v n) h = h v _ _ n
  then_agree go (faults n) h = faults n
  then_agree go (on_left x) h = on_left x
  then_agree go (on_right x) h = on_right x

  whole_agree : {o p : Outcome} (go : ℕ → Room → Outcome) → Agree Near Spared o p
      → ((w : ℕ) (r s : Room) → Near r s → Agree Near Spared (go w r) (go w s)) → Agree Near Spared (whole_then o go) (whole_then p go)
  whole_agree go (values (whole w) n) h = h w _ _ n
  whole_agree go (values (text b) n) h = faults n
  whole_agree go (faults n) h = faults n
  whole_agree go (on_left x) h = on_left x
  whole_agree go (on_right x) h = on_right x

  further_agree : {t u : Taken} (go : List Value → Room → Taken) → AllAgree Near Spared t u
      → ((vs : List Value) (r s : Room) → Near r s → AllAgree Near Spared (go vs r) (go vs s))
      → AllAgree Near Spared (further t go) (further u go)
  further_agree go (takens vs n) h = h vs _ _ n
  further_agree go (stops n) h = stops n
  further_agree go (stops_left x) h = stops_left x
  further_agree go (stops_right x) h = stops_right x

  tested_agree : {o p : Outcome} (w : Want) (vs : List Value) → Agree Near Spared o p → AllAgree Near Spared (tested w vs o) (tested w vs p)
  tested_agree w vs (values v n) = by_test (meets w v) (λ e. rw e (takens (vs ++ (v ∷ [])) n)) (λ e. rw e (stops n))
  tested_agree w vs (faults n) = stops n
  tested_agree w vs (on_left x) = stops_left x
  tested_agree w vs (on_right x) = stops_right x

  result_agree : {t u : Taken} (go : List Value → Room → Outcome) → AllAgree Near Spared t u
      → ((vs : List Value) (r s : Room) → Near r s → Agree Near Spared (go vs r) (go vs s))
      → Agree Near Spared (result t go) (result u go)
  result_agree go (takens vs n) h = h vs _ _ n
  result_agree go (stops n) h = faults n
  result_agree go (stops_left x) h = on_left x
  result_agree go (stops_right x) h = on_right x

  -- ---- results

  all_free : (vs : List Value) {r s : Room} → Near r s → Near (let_all_go vs r) (let_all_go vs s)
  unfolding let_all_go
  all_free [] n = n
  all_free (v ∷ vs) n = all_free vs (k.frees v _ _ n)

  answered_agree : (a : Result ℕ Error) (vs : List Value) {r s : Room} → Near r s → Agree Near Spared (answered a vs r) (answered a vs s)
  answered_agree (Ok w) vs n = values (whole w) (all_free vs n)
  answered_agree (Err e) vs n = faults n

  produced_agree : (b : List ℕ) (vs : List Value) {r s : Room} → Near r s → Agree Near Spared (produced b vs r) (produced b vs s)
  unfolding produced
  produced_agree b vs n =
      by_test (ltb longest_string (length b)) (λ e. rw e (faults n))
      (λ e. rw e (then_agree (λ v after. value v (let_all_go vs after)) (k.makes b _ _ n) (λ v r s m. values v (all_free vs m))))

  ranged_agree : (t : Bool) {o p : Outcome} {r s : Room} → Near r s → Agree Near Spared o p → Agree Near Spared (ranged t r o) (ranged t s p)
  ranged_agree true n h = h
  ranged_agree false n h = faults n

  called_agree : (f : Function) (vs : List Value) {r s : Room} → is_fre f ≡ false → Near r s → Agree Near Spared (called f vs r) (called f vs s)
  called_agree function.Len vs x n = answered_agree (Ok (length (bytes vs 0))) vs n
  called_agree function.Asc vs x n = ranged_agree (leb 1 (length (bytes vs 0))) n (answered_agree (Ok (get_or (bytes vs 0) 0 0)) vs n)
  called_agree function.Chr vs x n = ranged_agree (within 0 (word vs 0)) n (produced_agree (word vs 0 ∷ []) vs n)
  called_agree function.Left vs x n = ranged_agree (within 0 (word vs 1)) n (produced_agree (take (word vs 1) (bytes vs 0)) vs n)
  called_agree function.Right vs x n =
      ranged_agree (within 0 (word vs 1)) n (produced_agree (drop (length (bytes vs 0) - word vs 1) (bytes vs 0)) vs n)
  called_agree function.Mid vs x n =
      ranged_agree (within 1 (word vs 1) && within 0 (mid_length vs)) n
      (produced_agree (take (mid_length vs) (drop (word vs 1 - 1) (bytes vs 0))) vs n)
  called_agree function.Space vs x n = ranged_agree (within 0 (word vs 0)) n (produced_agree (replicate (word vs 0) blank) vs n)
  called_agree function.String vs x n =
      ranged_agree (within 0 (word vs 0) && fill_right (argument vs 1)) n
      (produced_agree (replicate (word vs 0) (fill_byte (argument vs 1))) vs n)
  called_agree function.Instr vs x n =
      ranged_agree (within 1 (instr_start vs)) n
      (answered_agree (Ok (place_of (instr_start vs) (bytes vs (instr_texts vs)) (bytes vs (suc (instr_texts vs))))) vs n)
  called_agree function.Str vs x n = produced_agree (signed_numeral (word vs 0)) vs n
  called_agree function.Hex vs x n = produced_agree (hexadecimal (word vs 0)) vs n
  called_agree function.Val vs x n = answered_agree (val_of (bytes vs 0)) vs n
  called_agree function.Abs vs x n = answered_agree (magnitude (word vs 0)) vs n
  called_agree function.Sgn vs x n = answered_agree (Ok (signum (word vs 0))) vs n
  called_agree function.Fre vs x n = absurd (false≢true (cc))

  -- ---- operators

  texts_agree : (op : Operator) (a b : List ℕ) {r s : Room} → Near r s → Agree Near Spared (on_texts op a b r) (on_texts op a b s)
  texts_agree operator.Multiply a b n = faults n
  texts_agree operator.Divide a b n = faults n
  texts_agree operator.Modulo a b n = faults n
  texts_agree operator.Add a b n = produced_agree (a ++ b) (text a ∷ text b ∷ []) n
  texts_agree operator.Subtract a b n = faults n
  texts_agree operator.Equal a b n = answered_agree (say (same_bytes a b)) (text a ∷ text b ∷ []) n
  texts_agree operator.Unequal a b n = answered_agree (say (not (same_bytes a b))) (text a ∷ text b ∷ []) n
  texts_agree operator.Less a b n = answered_agree (say (is_before a b)) (text a ∷ text b ∷ []) n
  texts_agree operator.Greater a b n = answered_agree (say (is_before b a)) (text a ∷ text b ∷ []) n
  texts_agree operator.AtMost a b n = answered_agree (say (not (is_before b a))) (text a ∷ text b ∷ []) n
  texts_agree operator.AtLeast a b n = answered_agree (say (not (is_before a b))) (text a ∷ text b ∷ []) n
  texts_agree operator.And a b n = faults n
  texts_agree operator.Or a b n = faults n
  texts_agree operator.Xor a b n = faults n
  texts_agree operator.Eqv a b n = faults n
  texts_agree operator.Imp a b n = faults n

  joined_agree : (op : Operator) (a b : Value) {r s : Room} → Near r s → Agree Near Spared (joined op a b r) (joined op a b s)
  joined_agree op (whole a) (whole b) n = answered_agree (applied op a b) [] n
  joined_agree op (whole a) (text b) n = faults n
  joined_agree op (text a) (whole b) n = faults n
  joined_agree op (text a) (text b) n = texts_agree op a b n

  sides_agree : (op : Operator) {o p : Outcome} (right : Room → Outcome) → Agree Near Spared o p
      → ((r s : Room) → Near r s → Agree Near Spared (right r) (right s)) → Agree Near Spared (sides op o right) (sides op p right)
  sides_agree op right h g =
      then_agree (λ a room. cond (left_right op a) (then (right room) (λ b after. joined op a b after)) (fault TypeMismatch room)) h
      (λ a r s n. by_test (left_right op a)
      (λ e. rw e (then_agree (λ b after. joined op a b after) (g r s n) (λ b r s m. joined_agree op a b m)))
      (λ e. rw e (faults n)))

  -- ---- formulas

  called_free : (f : Function) (t : Bool) → not (is_fre f) && t ≡ true → is_fre f ≡ false
  called_free f t e = by_test (is_fre f) (λ x. absurd (false≢true (rw x at e))) (λ x. x)

  mutual
    unfolding value_of without_fre

    pub value_agrees : (f : Formula) (vars : Variables) → without_fre f ≡ true → {r s : Room} → Near r s
        → Agree Near Spared (value_of f vars r) (value_of f vars s)
    value_agrees (tree.number w) vars x n = values (whole w) n
    value_agrees (tree.variable kind.Whole name) vars x n = values (whole (word_of vars.numbers name)) n
    value_agrees (tree.variable kind.Text name) vars x n = k.makes (bytes_of vars.strings name) _ _ n
    value_agrees (tree.text b) vars x n = k.makes b _ _ n
    value_agrees (tree.inside f) vars x n = value_agrees f vars x n
    value_agrees (tree.minus f) vars x n =
        whole_agree (λ w after. answered (negated w) [] after) (value_agrees f vars x n) (λ w r s m. answered_agree (negated w) [] m)
    value_agrees (tree.complement f) vars x n =
        whole_agree (λ w after. value (whole (flipped w)) after) (value_agrees f vars x n) (λ w r s m. values (whole (flipped w)) m)
    value_agrees (tree.two_sided op f g) vars x n =
        let h = both (without_fre f) (without_fre g) x in
        sides_agree op (λ after. value_of g vars after) (value_agrees f vars h.0 n) (λ r s m. value_agrees g vars h.1 m)
    value_agrees (tree.call f a) vars x n =
        let h = both (not (is_fre f)) (none_with_fre a) x in
        result_agree (λ vs after. called f vs after) (values_agree a (wants f (count_of a)) vars h.1 n)
        (λ vs r s m. called_agree f vs (called_free f (none_with_fre a) x) m)

    pub values_agree : (a : Arguments) (ws : List Want) (vars : Variables) → none_with_fre a ≡ true → {r s : Room} → Near r s
        → AllAgree Near Spared (values_of a ws vars r) (values_of a ws vars s)
    values_agree tree.none ws vars x n = takens [] n
    values_agree (tree.also a f) ws vars x n =
        let h = both (none_with_fre a) (without_fre f) x in
        further_agree (λ vs after. tested (want_at ws (count_of a)) vs (value_of f vars after)) (values_agree a ws vars h.0 n)
        (λ vs r s m. tested_agree (want_at ws (count_of a)) vs (value_agrees f vars h.1 m))

-- ---- any two rooms, but for 14

abbrev AnyRooms : Room → Room → Type 0
AnyRooms r s = Unit {0}

abbrev IsFourteen : Side → Error → Type 0
IsFourteen side e = e ≡ OutOfStringSpace

abbrev pub AgreeBarFourteen : Outcome → Outcome → Type 0
AgreeBarFourteen o p = Agree AnyRooms IsFourteen o p

fourteen_lasts : Lasting AnyRooms IsFourteen
unfolding make
fourteen_lasts = record {
  makes = λ b r s n.
      by_test (ltb r.limit (r.live + length b)) (λ e. rw e (on_left refl)) (λ e. rw e
      (by_test (ltb s.limit (s.live + length b)) (λ f. rw f (on_right refl)) (λ f. rw f (values (text b) tt))));
  frees = λ v r s n. tt;
}

-- what a formula without FRE comes to does not hang on the room: the same value or the same error, unless one of them is 14
pub same_in_any_room : (f : Formula) (vars : Variables) (r s : Room) → without_fre f ≡ true
    → AgreeBarFourteen (value_of f vars r) (value_of f vars s)
same_in_any_room f vars r s x = value_agrees AnyRooms IsFourteen fourteen_lasts f vars x tt

-- ---- rooms with the same space and the same live bytes: nothing is spared

pub record SameSpace (r s : Room) : Type 0 where
  pub limit : s.limit ≡ r.limit
  pub live : s.live ≡ r.live

abbrev pub Nothing : Side → Error → Type 0
Nothing side e = ⊥

space_lasts : Lasting SameSpace Nothing
unfolding make let_go
space_lasts = record {
  makes = λ b r s n.
      let same : ltb s.limit (s.live + length b) ≡ ltb r.limit (r.live + length b) = rw (n.limit, n.live) in
      by_test (ltb r.limit (r.live + length b)) (λ e. rw (same, e) (faults n))
      (λ e.
      let grown : SameSpace (with_string (length b) r) (with_string (length b) s) = record { limit = n.limit; live = omega arith } in
      rw (same, e) (values (text b) grown));
  frees = freed;
}
  where
    freed : (v : Value) (r s : Room) → SameSpace r s → SameSpace (let_go v r) (let_go v s)
    freed (whole w) r s n = n
    freed (text b) r s n = record { limit = n.limit; live = omega arith }

pub same_in_same_space : (f : Formula) (vars : Variables) (r s : Room) → without_fre f ≡ true → SameSpace r s
    → Agree SameSpace Nothing (value_of f vars r) (value_of f vars s)
same_in_same_space f vars r s x n = value_agrees SameSpace Nothing space_lasts f vars x n
