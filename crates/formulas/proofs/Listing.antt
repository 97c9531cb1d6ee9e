-- A function's arguments from left to right: what those so far, as they are worked out, have to do with the whole call.
use Rattle.std.specs.Prelude.{Result, Err, Ok}
use mathlib.Core.Path.{◌≡◌, refl, sym, ap, ◌∙◌}
use mathlib.Core.Bool.{Bool, true}
use mathlib.Core.List.{List, [], ◌∷◌, ◌++◌}
use Prim.Native.Nat.{ℕ, suc, ◌+◌, ◌≤◌, ◌<◌}
use native.Mathlib.Omega.{arith}
use lib.Dec.{eqb}
use lib.ListN.{length, take, drop}
use lib.Seq.{drop-drop}
use Rattle.whole.specs.declared.errors.Error.{Error}
use Rattle.words.specs.declared.places.Place.{Place}
use Rattle.words.specs.declared.symbols.Function.{Function}
use Rattle.words.specs.declared.symbols.Function.TheVariants.{Instr}
use Rattle.words.specs.declared.symbols.Scanned.{Scanned}
use Rattle.words.specs.declared.symbols.Sign.TheVariants.{Comma}
use Rattle.scanner.specs.Tokens.{token_at}
use Rattle.space.proofs.Parts.{front_less, part_below}
use Rattle.grammar.specs.Trees.{Formula, call, Arguments, none, also}
use Rattle.grammar.specs.Functions.{takes, wants}
use Rattle.grammar.specs.Formulas as formulas
use Rattle.grammar.specs.Formulas.{good}
use Rattle.skimming.specs.bridge.Remaining.{weight, formula_in, arguments_of}
use Rattle.grammar.specs.declared.wanting.Want.{Want}
use Rattle.expressions.specs.Types.{depth_of}
use Rattle.expressions.proofs.Sorting.{few}
use Rattle.skimming.proofs.Weights.{symbol_reads, after_lighter}
use Rattle.skimming.proofs.Fuel.{arguments_unrolled}
use Rattle.expressions.proofs.Views.{Listed, list_view, list_ends}
use Rattle.variables.specs.Strings.{Room}
use Rattle.variables.specs.Variables.{Variables}
use Rattle.strings.specs.Functions.{called}
use Rattle.operators.specs.Values as values
use Rattle.operators.specs.Values.{stopped, want_at, value_of, values_of}
use Rattle.functions.specs.bridge.Memory.{count_of, want_by, taken_as}
use Rattle.strings.specs.bridge.Memory.{argument_length, argument_in, given_length, values_in, Placed}
use Rattle.variables.specs.bridge.Memory.{Looked, Held, Agrees, Made}
use Rattle.formulas.specs.bridge.Memory.{Scans, Reads, Ready, Evaluated}
use Rattle.strings.specs.declared.arguments.Given.{Given}
use Rattle.strings.specs.declared.arguments.Given.TheVariants as goal
use Rattle.functions.specs.declared.arguments.Taken.{Taken}
use Rattle.functions.specs.declared.arguments.Taken.TheVariants as taken
use Rattle.variables.specs.declared.values.Worked.{Worked}
use Rattle.formulas.proofs.Faults.{arguments_fault, arguments_call}
use Rattle.formulas.proofs.Growing.{values_kept, more_count, more_length, more_values}
use Rattle.variables.proofs.Looking.{looked_kept}
use Rattle.formulas.proofs.Taking.{want_told, argument_of, worth, Taking, taken_fault, taken_all, taken_more, refused, met_next}
use Rattle.formulas.proofs.Climbing.{formula_less}
use Rattle.formulas.proofs.Nesting.{argument_depth}
use Rattle.variables.specs.declared.tables.Tables.{Tables}

-- ---- the arguments so far

-- their values, and the room that is left
pub record Had (used : ℕ) (has : Given) (now : List ℕ) (x : values.Taken) : Type 0 where
  pub room : Room
  pub is : x ≡ values.taken (values_in has (drop used now)) room
  pub held : Held room now (used + given_length has)

module _ (line : List ℕ) (tables : Tables) (function : Function) (three : Bool) (used : ℕ) where
  -- they were worked out, and the one that begins here is the next of a whole call; w is the weight of the first one's first token
  pub record Listing (w : ℕ) (f : Formula) (u : Scanned) (before : List ℕ) (has : Given) (here : Scanned) (now : List ℕ) : Type 0 where
    pub ready : Ready line tables.strings.lengths before used
    pub so_far : Arguments
    pub all : Arguments
    pub is : f ≡ call function all
    pub takes_them : takes function (formulas.count_of all) ≡ true
    pub wanted : (place : ℕ) → place < formulas.count_of all
        → want_at (wants function (formulas.count_of all)) place ≡ want_by function three place
    pub counted : count_of has ≡ formulas.count_of so_far
    pub lists : arguments_of line function so_far (formula_in line 0 here) ≡ good f u
    pub scans : Scans line here
    pub lighter : weight line here ≤ w
    pub long : length now ≡ length before
    pub kept : take used now ≡ take used before
    pub fits : used + given_length has ≤ length now
    pub agrees : (vars : Variables) → Looked vars tables before → (room : Room) → Held room before used
        → Had used has now (values_of so_far (wants function (formulas.count_of all)) vars room)

  -- the first one
  pub listing_begins : (t : Scanned) (f : Formula) (u : Scanned) (space : List ℕ)
      → arguments_of line function none (formula_in line 0 t) ≡ good f u
      → Scans line t → Ready line tables.strings.lengths space used
      → ((a : Arguments) (v : Scanned) → function ≡ Instr → arguments_of line Instr none (formula_in line 0 t) ≡ good (call Instr a) v
      → three ≡ eqb (formulas.count_of a) 3)
      → Listing (weight line t) f u space goal.None t space
  unfolding value_of formulas.count_of
  listing_begins t f u space e s r third =
      let x = formula_in line 0 t in
      let k = arguments_call line function none x e in
      let b = k.b in
      let told : function ≡ Instr → three ≡ eqb (formulas.count_of b) 3 =
      λ i. third b u i (ap (λ g. arguments_of line g none x) (sym i) ∙ e ∙ ap (λ g. good g u) (k.is ∙ ap (λ g. call g b) i)) in
      record {
        ready = r;
        so_far = none;
        all = b;
        is = k.is;
        takes_them = k.takes_them;
        wanted = λ place l. want_told function three (formulas.count_of b) place k.takes_them l told;
        counted = refl;
        lists = e;
        scans = s;
        lighter = omega arith;
        long = refl;
        kept = refl;
        fits = omega (arith, r.within);
        agrees = λ vars l room y. record { room = room; is = refl; held = record { limit = y.limit; lives = omega (arith, y.lives) } };
      }

module _ {line : List ℕ} {tables : Tables} {function : Function} {three : Bool} {used w : ℕ} {f : Formula} {u : Scanned}
    {before now : List ℕ} {has : Given} {here : Scanned}
    (c : Listing line tables function three used w f u before has here now) where
  here_view : Listed line function c.so_far (formula_in line 0 here) f u
  here_view = list_view line function c.so_far (formula_in line 0 here) c.lists

  -- there are fewer than the function takes
  fewer : formulas.count_of c.so_far < formulas.count_of c.all
  fewer =
      let k = arguments_call line function c.so_far (formula_in line 0 here) c.lists in
      let i = sym k.is ∙ c.is in
      let j : k.b ≡ c.all = cc in
      rw j at k.longer

  below_three : count_of has < 3
  below_three = omega (arith, fewer, c.counted, few function (formulas.count_of c.all) c.takes_them)

  want_here : want_at (wants function (formulas.count_of c.all)) (formulas.count_of c.so_far) ≡ want_by function three (count_of has)
  want_here = c.wanted (formulas.count_of c.so_far) fewer ∙ ap (want_by function three) (sym c.counted)

  -- the next one's text stands after those so far
  module _ {n : ℕ} (len : n ≡ given_length has) where
    -- what working it out begins with
    pub next_ready : Ready line tables.strings.lengths now (used + n)
    next_ready = record {
      variables = omega (arith, c.ready.variables);
      within = rw len c.fits;
      small = omega (arith, c.ready.small, c.long);
      short = c.ready.short;
    }

    pub next_asks : (room : ℕ) → depth_of f ≤ room + 1 → Ready line tables.strings.lengths now (used + n) × (Scans line here × Reads room (formula_in line 0 here))
    next_asks room d =
        let v = here_view in
        let h = argument_depth line function c.so_far v.of v.at v.lists in
        (next_ready, (c.scans, record { of = v.of; next = v.at; is = v.from; shallow = omega arith }))

  module _ {n : ℕ} (len : n ≡ given_length has) (r : Result Worked Error) {next : List ℕ}
      (h : (g : Formula) (v : Scanned) → formula_in line 0 here ≡ good g v
      → Evaluated tables g v now (used + n) r next) where
    abbrev live : ℕ
    live = used + given_length has

    abbrev ws : List Want
    ws = wants function (formulas.count_of c.all)

    done : Evaluated tables here_view.of here_view.at now live r next
    done = rw len at (h here_view.of here_view.at here_view.from)

    pub listing_long : length next ≡ length before
    listing_long = done.framed.long ∙ c.long

    kept_before : take used next ≡ take used before
    kept_before = front_less next now live used (omega arith) done.framed.kept ∙ c.kept

    -- the next one's value, of the room that those before it leave
    next_agrees : (vars : Variables) → Looked vars tables before → (room : Room)
        → (k : Had used has now (values_of c.so_far ws vars room)) → Agrees r next live (value_of here_view.of vars k.room)
    next_agrees vars l room k = done.agrees vars (looked_kept l used c.ready.variables c.kept) k.room k.held

    -- the next one's error, or its type's, is the whole call's
    pub listing_fault : {x : Result Taken Error} {e : Error} → x ≡ taken_as function three has r → x ≡ Err e
        → Evaluated tables f u before used (Err e) next
    unfolding value_of
    listing_fault {e = e} told i =
        let v = here_view in
        let not-met = taken_fault function three has r v.at done.goes told i in
        record {
          framed = record {
            long = listing_long;
            kept = kept_before;
            fits = omega (arith, done.framed.fits);
            short = omega arith;
          };
          agrees = λ vars l room y.
              let k = c.agrees vars l room y in
              let o = value_of v.of vars k.room in
              let want = want_at ws (formulas.count_of c.so_far) in
              let a = next_agrees vars l room k in
              let st = refused want (values_in has (drop used now)) next live function three has r o e want_here a not-met in
              let q : values_of (also c.so_far v.of) ws vars room ≡ stopped e st.left = rw k.is st.is in
              let z = arguments_fault line function c.so_far v.of v.at (v.lists ∙ ap (λ g. good g u) c.is) ws vars room e st.left q in
              rw (c.is, z) refl;
          goes = tt;
        }

    module _ {comma : Bool} {more : Given} {place : Place} (t : Taking function three has r here_view.at comma more place) where
      grown_length : given_length more ≡ given_length has + argument_length (argument_of r)
      grown_length = ap given_length t.grown ∙ more_length (argument_of r) has below_three

      grown_fits : used + given_length more ≤ length next
      grown_fits = omega (arith, grown_length, t.long, done.framed.fits)

      grown_values : values_in has (drop used now) ++ (argument_in (argument_of r) (drop live next) ∷ []) ≡ values_in more (drop used next)
      grown_values =
          let p = part_below next now live used (given_length has) (omega arith) done.framed.kept in
          let i = values_kept has (drop used now) (drop used next) p in
          let j = drop-drop (given_length has) used next in
          rw (t.grown, more_values (argument_of r) has (drop used next) below_three, i, j)

      -- those so far and the next one
      had_more : (vars : Variables) → Looked vars tables before → (room : Room) → Held room before used
          → Had used more next (values_of (also c.so_far here_view.of) ws vars room)
      unfolding value_of
      had_more vars l room y =
          let k = c.agrees vars l room y in
          let o = value_of here_view.of vars k.room in
          let want = want_at ws (formulas.count_of c.so_far) in
          let x = worth r next live o t.fine (next_agrees vars l room k) in
          let m = met_next want (values_in has (drop used now)) next live (argument_of r) o x (rw want_here t.meets) in
          record {
            room = x.room;
            is = rw k.is (m ∙ ap (λ vs. values.taken vs x.room) grown_values);
            held = record { limit = x.held.limit; lives = omega (arith, x.held.lives, grown_length) };
          }

    module _ {x : Result Taken Error} {more : Given} {place : Place} (told : x ≡ taken_as function three has r) where
      -- they are all
      pub all_placed : x ≡ Ok (taken.All more place) → Placed next used more
      all_placed i =
          let t = taken_all function three has r here_view.at done.goes told i in
          record { within = grown_fits t; small = omega (arith, c.ready.small, c.long, done.framed.long) }

      pub listing_ends : {then : Scanned} → x ≡ Ok (taken.All more place) → then ≡ token_at line place → (q : Result Worked Error) {end : List ℕ}
          → Made next used (used + given_length more) (called function (values_in more (drop used next))) then q end
          → Evaluated tables f u before used q end
      unfolding value_of
      listing_ends i b q m =
          let v = here_view in
          let t = taken_all function three has r v.at done.goes told i in
          let e = (list_ends line function c.so_far v.of v.at t.follows v.lists).applied in
          record {
            framed = record {
              long = m.framed.long ∙ listing_long;
              kept = m.framed.kept ∙ kept_before;
              fits = m.framed.fits;
              short = m.framed.short;
            };
            agrees = λ vars l room y.
                let k = had_more t vars l room y in
                let n = sym c.is ∙ e.is in
                let j : c.all ≡ also c.so_far v.of = cc in
                let z : values_of c.all ws vars room ≡ values.taken (values_in more (drop used next)) k.room =
                ap (λ b. values_of b ws vars room) j ∙ k.is in
                rw (c.is, z) (m.agrees k.room k.held);
            goes = rw (e.next, ← (b ∙ ap (token_at line) t.begins)) m.goes;
          }

      -- one more follows
      pub listing_lightens : {then : Scanned} → x ≡ Ok (taken.More more place) → then ≡ token_at line place → weight line then < weight line here
      listing_lightens i b =
          let v = here_view in
          let t = taken_more function three has r v.at done.goes told i in
          let l = ap (weight line) (b ∙ ap (token_at line) t.begins) in
          omega (arith, formula_less line 0 here v.from, after_lighter line v.at (symbol_reads Comma v.at.token t.follows))

      pub listing_goes : {then : Scanned} → x ≡ Ok (taken.More more place) → then ≡ token_at line place
          → Listing line tables function three used w f u before more then next
      unfolding formulas.count_of
      listing_goes i b =
          let v = here_view in
          let t = taken_more function three has r v.at done.goes told i in
          record {
            ready = c.ready;
            so_far = also c.so_far v.of;
            all = c.all;
            is = c.is;
            takes_them = c.takes_them;
            wanted = c.wanted;
            counted = ap count_of t.grown ∙ more_count (argument_of r) has below_three ∙ ap suc c.counted;
            lists = rw (b ∙ ap (token_at line) t.begins)
                (rw (arguments_unrolled line function c.so_far v.of v.at, t.follows) at v.lists);
            scans = record { from = place; is = b };
            lighter = omega (arith, listing_lightens i b, c.lighter);
            long = listing_long;
            kept = kept_before;
            fits = grown_fits t;
            agrees = had_more t;
          }
