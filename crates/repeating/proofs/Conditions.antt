-- WHILE: with no record of its own and with one, by its WEND and its condition.
use Rattle.std.specs.Prelude.{None, Option, Some, ℕ, Result, Ok}
use mathlib.Core.Path.{◌≡◌, refl, sym, ap, ◌∙◌}
use mathlib.Core.Logic.{◌⊎◌}
use mathlib.Core.Bool.{Bool, false≢true}
use mathlib.Core.List.{List, ◌∷◌}
use Prim.Native.Nat.{ℕ, ◌+◌, ◌≤◌, ◌<◌}
use native.Mathlib.Omega.{arith}
use borrow.Author.Tests.{eq-eqb, ne_eqb}
use Rattle.whole.proofs.Never.{never}
use Rattle.whole.specs.declared.errors.Error.TheVariants.{WhileWithoutWend}
use Rattle.words.specs.declared.places.Place.{Place}
use Rattle.words.specs.declared.symbols.Scanned.{Scanned}
use Rattle.loader.specs.Lines.{Line}
use Rattle.grammar.specs.Trees as tree
use Rattle.grammar.specs.Trees.{Formula, Statement}
use Rattle.statements.specs.Parts.{Rest, nothing, part, place_of}
use Rattle.variables.specs.bridge.Memory.{mismatch_of}
use Rattle.variables.specs.declared.values.Worked.{Worked}
use Rattle.variables.specs.declared.values.Worked.TheVariants.{Whole}
use Rattle.variables.proofs.Agreements.{NoWhole}
use Rattle.machine.specs.Machine as spec
use Rattle.machine.specs.Order.{Stand, past, Partner, none, some, wend_for}
use Rattle.machine.specs.Repeats.{start_of, is_while, wend_of}
use Rattle.machine.specs.bridge.Holding.{lines_at, position_of, Positioned, record_of, records_in, while_record, Placed, Paired, Sound, Same, State}
use Rattle.machine.specs.bridge.Wanted.{Told}
use Rattle.machine.specs.declared.positions.Position.{Position}
use Rattle.machine.specs.declared.positions.Next.{Next}
use Rattle.machine.specs.declared.positions.Next.TheVariants as next
use Rattle.machine.specs.declared.records.Record.{Record}
use Rattle.machine.proofs.Searching.{while_found}
use Rattle.machine.proofs.Standing.{begins_at}
use Rattle.order.specs.bridge.Walking.{Ahead, PartnerAs}
use Rattle.order.specs.declared.texts.Spot.{Spot}
use Rattle.order.proofs.Laws.{stand_here}
use Rattle.turns.specs.Steps as step
use Rattle.turns.specs.Steps.{goes_on, worked_whole, part_begun, here_of, tested, while_by, do_statement}
use Rattle.turns.specs.bridge.Turns.{Turn, turned_to, pushed_turn, after_of, Leaves, Turns, Valued, GoesPast, with_depth}
use Rattle.turns.proofs.Keeping.{sound_kept, leaves_unprinted}
use Rattle.turns.proofs.Leading.{turns_fails, turns_on}
use Rattle.turns.proofs.Pushing.{sound_depth, same_fewer, turns_pushed}
use Rattle.turns.proofs.Wholes.{turns_as, turns_none, turns_whole}
use Rattle.repeating.specs.bridge.Repeating.{WhileStands, PastWend}
use Rattle.repeating.proofs.Back.{same_found}
use Rattle.whole.specs.declared.errors.Error.{Error}

-- a turn of which what was told of the records can't be
turns_never : {text : List ℕ} {m : State} {input space room : List ℕ} {ToldHere : List Record → Type 0} {does : spec.Machine → step.Next} {r : Turn} {space' room' : List ℕ}
    → Leaves m input space room r space' room'
    → ((rs : List Record) → ToldHere rs → (n : spec.Machine) → Same text rs m input space room n → ⊥)
    → Turns text m input space room ToldHere does r space' room'
turns_never leaves h = record { leaves = leaves; comes = λ rs t n s. absurd (h rs t n s) }

by_partner : {P : Type 0} (p : Partner) → (p ≡ none → P) → ((w : Stand) → p ≡ some w → P) → P
by_partner none n s = n refl
by_partner (some w) n s = s w refl

not_none : {w : Stand} → some w ≡ none → ⊥
not_none e = never (cc)

-- ---- the WEND that was found

-- none was
pub over_none : (text : List ℕ) (p : Partner) → PartnerAs text None p → p ≡ none
over_none text none h = refl
over_none text (some w) h = absurd h

-- it stands at a spot
pub record MetAt (text : List ℕ) (spot : Spot) (p : Partner) : Type 0 where
  pub wend : Stand
  pub is : p ≡ some wend
  pub rest : List Stand
  pub ahead : Ahead text spot (wend ∷ rest)

pub met_at : {text : List ℕ} {spot : Spot} (p : Partner) → PartnerAs text (Some spot) p → MetAt text spot p
met_at none h = absurd h
met_at (some w) h = record { wend = w; is = refl; rest = h.rest; ahead = h.ahead }

-- the part that a statement at a place begins stands there
begun_place : (at : ℕ) (x : Statement) (r : Rest) → place_of (part_begun at x r) ≡ at
begun_place at x nothing = refl
begun_place at x (part p) = refl

module _ {text line : List ℕ} {here at : Place} {first : Scanned} {c : Formula} {u : Scanned} (k : WhileStands text line here at first c u)
    {m : State} {input space room : List ℕ} (sound : Sound m input space room) where
  abbrev lines : List Line
  lines = lines_at text here.0

  abbrev back : spec.Position
  back = position_of text (after_of here u)

  abbrev does : spec.Machine → step.Next
  does n = do_statement text at.0 (tree.while c) n back

  abbrev test : spec.Record → Bool
  test = is_while here.0 at.0

  abbrev ToldHere : Option ℕ → Record → List Record → Type 0
  ToldHere f entry = Told text m.tables.numbers.names test m.depth f entry

  -- what is done with the condition's value, where it has its WEND
  abbrev goes : Stand → ℕ → spec.Machine → step.Next
  goes w v n = tested n (spec.sought test n.records) v w (here_of at.0 c back) back

  as_worked : (w : Stand) → wend_for at.0 lines ≡ some w → (n : spec.Machine) → does n ≡ worked_whole c n (goes w)
  as_worked w e n =
      ap (λ p. while_by p at.0 c n back) e
      ∙ ap (λ s. worked_whole c n (λ v o. tested o (spec.sought (is_while s at.0) o.records) v w (here_of at.0 c back) back))
      (begins_at k.own.begins)

  -- with no WEND
  pub no_wend : (f : Option ℕ) (entry : Record) → wend_for at.0 lines ≡ none
      → Turns text m input space room (ToldHere f entry) does (turned_to m (next.Fails WhileWithoutWend)) space room
  no_wend f entry e =
      turns_fails (leaves_unprinted sound refl refl refl)
      (λ rs t n s. record { machine = n; is = ap (λ p. while_by p at.0 c n back) e; same = s })

  -- ---- it has no record

  module _ {w : Stand} (e : wend_for at.0 lines ≡ some w) (entry : Record) {space' : List ℕ} where
    pub first_none : (r : Result Worked Error) → NoWhole r → Valued m c u space r space'
        → Turns text m input space room (ToldHere None entry) does (turned_to m (next.Fails (mismatch_of r))) space' room
    first_none r h v = turns_as (as_worked w e) (turns_none (goes w) sound r h v)

    module _ {x : ℕ} {y : Scanned} (v : Valued m c u space (Ok (Whole x y)) space') where
      -- the search for it finds none
      goes-missing : {rs : List Record} {n : spec.Machine} → ToldHere None entry rs → Same text rs m input space' room n
          → goes w x n ≡ tested n spec.missing x w (here_of at.0 c back) back
      goes-missing {n = n} t s = ap (λ z. tested n z x w (here_of at.0 c back) back) (ap (spec.sought test) s.records ∙ t)

      pub first_false : x ≡ 0 → {q : Position} → Positioned text q → position_of text q ≡ past w
          → Turns text m input space room (ToldHere None entry) does (turned_to m (next.On q)) space' room
      first_false z p there =
          turns_as (as_worked w e)
          (turns_whole (goes w) sound v
          (turns_on (leaves_unprinted (sound_kept v.framed.long sound) refl refl refl) p
          (λ rs t n s. record { machine = n; is = goes-missing t s ∙ rw (eq-eqb x 0 z) (ap (goes_on n) (sym there)); same = s })))

      -- a record is made, with the place of its WEND
      module _ {spot : Spot} {rest : List Stand} (ahead : Ahead text spot (w ∷ rest)) where
        abbrev held : Record
        held = while_record here at spot.line.place spot.at

        held_is : record_of text m.tables.numbers.names held ≡ spec.again (here_of at.0 c back)
        held_is = ap spec.again k.itself

        held_paired : Paired text held
        held_paired =
            let h = stand_here ahead in
            record {
              ongoing = refl;
              wend = w;
              is = ap wend_of k.itself ∙ ap (λ i. wend_for i lines) (begun_place at.0 (tree.while c) back.rest) ∙ e;
              line = ap start_of h.lines ∙ begins_at ahead.begins;
              at = h.at;
            }

        held_placed : Placed text m.tables.numbers.count held
        held_placed = record { back = k.own; known = λ f. absurd (false≢true f); paired = λ _. held_paired }

        pub first_true : (x ≡ 0 → ⊥) → Turns text m input space room (ToldHere None entry) does (pushed_turn m held (next.On (after_of here y))) space' room
        first_true z =
            rw v.goes
            (turns_as (as_worked w e)
            (turns_whole (goes w) sound v
            (turns_pushed held (next.On (after_of here u)) (spec.again (here_of at.0 c back)) held_is (λ o. goes_on o back)
            (sound_kept v.framed.long sound) refl refl refl held_placed (λ o S s. (k.after, (refl, s)))
            (λ rs t n s. record { machine = n; is = goes-missing t s ∙ rw (ne_eqb x 0 z); same = s }))))

  -- ---- its record is there

  module _ {slot : ℕ} (low : slot < m.depth) (entry : Record) where
    -- so it has its WEND
    has_wend : (rs : List Record) → ToldHere (Some slot) entry rs → (n : spec.Machine) → Same text rs m input space room n
        → wend_for at.0 lines ≡ none → ⊥
    has_wend rs t n s e =
        let p = rw (← t.at) at (s.placed slot low) in
        let h = while_found text m.tables.numbers.names p here.0 at.0 t.passes in
        not_none (sym h.is ∙ e)

    abbrev Found-turns : Turn → List ℕ → Type 0
    Found-turns r space' = Turns text m input space room (ToldHere (Some slot) entry) does r space' room

    by_wend : {r : Turn} {space' : List ℕ} → Leaves m input space room r space' room → ((w : Stand) → wend_for at.0 lines ≡ some w → Found-turns r space')
        → Found-turns r space'
    by_wend leaves h = by_partner (wend_for at.0 lines) (λ e. turns_never leaves (λ rs t n s. has_wend rs t n s e)) h

    pub found_none : {space' : List ℕ} (r : Result Worked Error) → NoWhole r → Valued m c u space r space'
        → Found-turns (turned_to m (next.Fails (mismatch_of r))) space'
    found_none r h v =
        let long = v.framed.long in
        by_wend (leaves_unprinted (sound_kept long sound) long refl refl) (λ w e. turns_as (as_worked w e) (turns_none (goes w) sound r h v))

    module _ {space' : List ℕ} {x : ℕ} {y : Scanned} (v : Valued m c u space (Ok (Whole x y)) space') where
      sound_at : (d : ℕ) → d ≤ m.records → Sound (with_depth m d) input space' room
      sound_at d h = sound_depth d h (sound_kept v.framed.long sound)

      goes-found : (w : Stand) {rs : List Record} {n : spec.Machine} → ToldHere (Some slot) entry rs → Same text rs m input space' room n
          → goes w x n
          ≡ tested n (spec.found (record_of text m.tables.numbers.names entry) (records_in text m.tables.numbers.names rs slot)) x w (here_of at.0 c back) back
      goes-found w {n = n} t s = ap (λ z. tested n z x w (here_of at.0 c back) back) (ap (spec.sought test) s.records ∙ t.is)

      -- it stays, and the body is done
      pub found_true : (x ≡ 0 → ⊥) → Found-turns (turned_to (with_depth m (slot + 1)) (next.On (after_of here y))) space'
      found_true z =
          let d : slot + 1 ≤ m.records = omega (arith, sound.deep) in
          rw v.goes
          (by_wend (leaves_unprinted (sound_at (slot + 1) d) v.framed.long refl refl)
          (λ w e. turns_as (as_worked w e)
          (turns_whole (goes w) sound v
          (turns_on (leaves_unprinted (sound_at (slot + 1) d) refl refl refl) k.after
          (λ rs t n s. record { machine = _; is = goes-found w t s ∙ rw (ne_eqb x 0 z); same = same_found t s })))))

      -- or is dropped, and the run goes on after the WEND
      pub found_false : x ≡ 0 → {nx : Next} → PastWend text nx (wend_for at.0 lines) → Found-turns (turned_to (with_depth m slot) nx) space'
      found_false z {nx} p =
          let d : slot ≤ m.records = omega (arith, sound.deep) in
          let b : slot ≤ m.depth = omega arith in
          by_wend (leaves_unprinted (sound_at slot d) v.framed.long refl refl)
          (λ w e.
          let g : GoesPast text nx w = rw e at p in
          rw g.is
          (turns_as (as_worked w e)
          (turns_whole (goes w) sound v
          (turns_on (leaves_unprinted (sound_at slot d) refl refl refl) g.placed
          (λ rs t n s.
          record {
            machine = spec.with_records n (records_in text m.tables.numbers.names rs slot);
            is = goes-found w t s
                ∙ rw (eq-eqb x 0 z) (ap (goes_on (spec.with_records n (records_in text m.tables.numbers.names rs slot))) (sym g.there));
            same = same_fewer slot b s;
          })))))
