-- The code's loop over the variables of a READ.
use Rattle.std.specs.Prelude.{Err, Ok}
use mathlib.Core.Path.{◌≡◌, refl, sym, ap, ◌∙◌}
use mathlib.Core.Bool.{true, false}
use mathlib.Core.List.{List, [], ◌∷◌}
use Prim.Native.Nat.{ℕ}
use Rattle.whole.specs.declared.errors.Error.{Error}
use Rattle.whole.proofs.Never.{never}
use Rattle.words.specs.Names.{name_bytes, telling_of}
use Rattle.words.specs.declared.names.Name.{Name}
use Rattle.words.specs.declared.places.Place.{Place}
use Rattle.words.specs.declared.symbols.Scanned.{Scanned}
use Rattle.words.specs.declared.symbols.Sign.TheVariants.{Comma}
use Rattle.words.specs.declared.symbols.Token.TheVariants.{Named}
use Rattle.grammar.specs.Tests.{is_symbol}
use Rattle.grammar.specs.Trees as tree
use Rattle.grammar.specs.Trees.{Variable}
use Rattle.grammar.specs.Formulas.{after, enough}
use Rattle.statements.specs.Statements.{variable_of, NameList, unlisted, listed, with_name, names_at}
use Rattle.statements.proofs.Naming.{others_at, names_some}
use Rattle.machine.specs.Machine as spec
use Rattle.machine.specs.bridge.Holding.{position_of, Positioned, Sound, Same, State}
use Rattle.machine.specs.declared.positions.Next.{Next}
use Rattle.machine.specs.declared.positions.Next.TheVariants as next
use Rattle.machine.specs.declared.records.Record.{Record}
use Rattle.machine.specs.declared.state.Machine.{Machine}
use Rattle.turns.specs.Steps as step
use Rattle.turns.specs.Steps.{goes_on, given, next_item, read_items, do_statement}
use Rattle.turns.specs.bridge.Turns.{turned_to, after_of, Leads, Leaves, Turns, AnyRecords}
use Rattle.turns.proofs.Keeping.{leaves_unprinted}
use Rattle.turns.proofs.Leading.{leads_self, leads_on, turns_fails, turns_on}
use Rattle.feeding.specs.bridge.Giving.{Sets, Gives}

-- ---- what stands at a token: a variable, and the others after its comma

record Apart (v : Variable) (x : NameList) (rest : List Variable) (end : Scanned) : Type 0 where
  others : List Variable
  is : rest ≡ v ∷ others
  lists : x ≡ listed others end

apart : (v : Variable) (x : NameList) {rest : List Variable} {end : Scanned} → with_name v x ≡ listed rest end → Apart v x rest end
apart v unlisted e = never (cc)
apart v (listed vs t) e = record { others = vs; is = cc; lists = cc }

-- the variable that the token names comes first
pub record First (line : List ℕ) (target : Scanned) (name : Name) (rest : List Variable) (end : Scanned) : Type 0 where
  pub others : List Variable
  pub is : rest ≡ variable_of line name ∷ others
  pub lists : others_at line (after line target) (names_at (enough line) line) ≡ listed others end

pub first : {line : List ℕ} {target : Scanned} {name : Name} {rest : List Variable} {end : Scanned} → target.token ≡ Named name
    → names_at (enough line) line target ≡ listed rest end → First line target name rest end
first {line} {target} {name} w e =
    let k = apart (variable_of line name) (others_at line (after line target) (names_at (enough line) line)) (sym (names_some line target name w) ∙ e) in
    record { others = k.others; is = k.is; lists = k.lists }

module _ {line : List ℕ} {target : Scanned} {name : Name} {rest : List Variable} {end : Scanned} (f : First line target name rest end) where
  -- without a comma it is the last
  pub first_last : is_symbol Comma (after line target).token ≡ false → (f.others ≡ []) × (end ≡ after line target)
  first_last e = let h = rw e at f.lists in (cc, cc)

  pub first_more : is_symbol Comma (after line target).token ≡ true → names_at (enough line) line (after line (after line target)) ≡ listed f.others end
  first_more e = rw e at f.lists

-- ---- the machine on the way

pub sets_then : {m m' m'' : State} {space space' space'' : List ℕ} → Sets m space m' space' → Sets m' space' m'' space'' → Sets m space m'' space''
sets_then a b =
    record {
      settled = b.settled;
      printer = b.printer ∙ a.printer;
      taken = b.taken ∙ a.taken;
      steps = b.steps ∙ a.steps;
      depth = b.depth ∙ a.depth;
      records = b.records ∙ a.records;
      long = b.long ∙ a.long;
    }

sets_sound : {m m' : State} {input space space' room : List ℕ} → Sets m space m' space' → Sound m input space room → Sound m' input space' room
sets_sound k s =
    record { settled = k.settled; fitting = rw k.printer s.fitting; taken = rw k.taken s.taken; deep = rw (k.depth, k.records) s.deep }

sets_leaves : {m m' : State} {input space space' room : List ℕ} {x : Next} → Sets m space m' space' → Sound m input space room
    → Leaves m input space room (turned_to m' x) space' room
sets_leaves k s = leaves_unprinted (sets_sound k s) k.long k.steps k.printer

-- ---- the loop: the variables from a token on are left

pub record Fills (text line : List ℕ) (all : List Variable) (end : Scanned) (m : State) (space : List ℕ) (m' : State) (target : Scanned) (space' : List ℕ) : Type 0 where
  pub rest : List Variable
  pub reads : names_at (enough line) line target ≡ listed rest end
  pub leads : (rs : List Record) (input room : List ℕ) (n : spec.Machine) → Same text rs m input space room n → (go : spec.Machine → step.Next)
      → Leads text rs m' input space' room (read_items all n go) (λ o. read_items rest o go)

pub fills_begin : {text line : List ℕ} {all : List Variable} {end first : Scanned} {m : State} {space : List ℕ} → names_at (enough line) line first ≡ listed all end
    → Fills text line all end m space m first space
fills_begin {all = all} e = record { rest = all; reads = e; leads = λ rs input room n s go. leads_self s }

read_first : (v : Variable) (vs : List Variable) (m : spec.Machine) (go : spec.Machine → step.Next)
    → read_items (v ∷ vs) m go ≡ next_item m.items m (λ b n. given v.kind v.telling b n (λ o. read_items vs o go))
unfolding read_items
read_first v vs m go = refl

read_none : (m : spec.Machine) (go : spec.Machine → step.Next) → read_items [] m go ≡ go m
unfolding read_items
read_none m go = refl

module _ {text line : List ℕ} {all : List Variable} {end : Scanned} {m : State} {space : List ℕ} {m' : State} {target : Scanned} {space' : List ℕ}
    (h : Fills text line all end m space m' target space') {name : Name} (w : target.token ≡ Named name) where
  abbrev here : First line target name h.rest end
  here = first w h.reads

  -- what the definition does with the variable
  abbrev does : spec.Machine → (spec.Machine → step.Next) → step.Next
  does n go = next_item n.items n (λ b o. given name.kind (telling_of (name_bytes line name)) b o go)

  leads_first : (rs : List Record) (input room : List ℕ) (n : spec.Machine) → Same text rs m input space room n → (go : spec.Machine → step.Next)
      → Leads text rs m' input space' room (read_items all n go) (λ o. does o (λ p. read_items here.others p go))
  leads_first rs input room n s go =
      let l = h.leads rs input room n s go in
      record {
        machine = l.machine;
        is = l.is ∙ ap (λ vs. read_items vs l.machine go) here.is ∙ read_first (variable_of line name) here.others l.machine go;
        same = l.same;
      }

  -- it was set, and others are left
  pub fills_on : (x : Machine) {m'' : State} {space'' : List ℕ} → is_symbol Comma (after line target).token ≡ true
      → Gives text m' space' does (Ok x) m'' space'' → Fills text line all end m space m'' (after line (after line target)) space''
  fills_on x c g =
      record {
        rest = here.others;
        reads = first_more here c;
        leads = λ rs input room n s go.
            leads_on (leads_first rs input room n s go) (λ o e. g rs input room o e (λ p. read_items here.others p go));
      }

  module _ (input room : List ℕ) (here' : Place) (at : ℕ) (sound : Sound m input space room) where
    -- it was the last
    pub fills_last : (x : Machine) {m'' : State} {space'' : List ℕ} → is_symbol Comma (after line target).token ≡ false → Sets m space m'' space''
        → Gives text m' space' does (Ok x) m'' space'' → Positioned text (after_of here' end)
        → Turns text m input space room AnyRecords (λ n. do_statement text at (tree.read all) n (position_of text (after_of here' end)))
        (turned_to m'' (next.On (after_of here' (after line target)))) space'' room
    fills_last x c k g p =
        let z = first_last here c in
        let go : spec.Machine → step.Next = λ o. goes_on o (position_of text (after_of here' end)) in
        rw (← z.1)
        (turns_on (sets_leaves k sound) p
        (λ rs t n s.
        leads_on (leads_on (leads_first rs input room n s go) (λ o e. g rs input room o e (λ q. read_items here.others q go)))
        (λ o e. record { machine = o; is = ap (λ vs. read_items vs o go) z.0 ∙ read_none o go; same = e })))

    -- an error ends the statement
    pub fills_fails : (x : Machine) {e : Error} {m'' : State} {space'' : List ℕ} → Sets m space m'' space''
        → Gives text m' space' does (Err (x, e)) m'' space'' → (past : spec.Position)
        → Turns text m input space room AnyRecords (λ n. do_statement text at (tree.read all) n past) (turned_to m'' (next.Fails e)) space'' room
    fills_fails x k g past =
        turns_fails (sets_leaves k sound)
        (λ rs t n s.
        leads_on (leads_first rs input room n s (λ o. goes_on o past)) (λ o e. g rs input room o e (λ q. read_items here.others q (λ p. goes_on p past))))
