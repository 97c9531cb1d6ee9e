-- The tables that hold some variables, entry by entry: a name reads there as it does among the variables.
use Rattle.std.specs.Prelude.{None, Option, Some, ℕ, Ok, Err}
use mathlib.Core.Path.{◌≡◌, refl, sym, ap, ◌∙◌}
use mathlib.Core.Bool.{cond}
use mathlib.Core.List.{List, [], ◌∷◌, ◌++◌, map, append_assoc}
use Prim.Native.Nat.{ℕ, zero, suc, ◌+◌, ◌-◌, ◌*◌, ◌≤◌}
use native.Mathlib.Omega.{arith}
use borrow.Author.Tests.{le-leb}
use lib.Dec.{leb}
use lib.ListN.{length, take, get_or, replicate, length-append}
use Rattle.words.specs.Names.{Telling, name_width, telling, alike}
use Rattle.words.specs.declared.names.Kind.{Kind}
use Rattle.words.specs.declared.names.Kind.TheVariants as kind
use Rattle.words.proofs.Choices.{by_test}
use Rattle.variables.specs.Variables.{NumberVariable, StringVariable, Variables, word_of, bytes_of, joined_strings, most_variables}
use Rattle.variables.specs.Tables.{names_long, name_bytes, strings_table, names_from, names_in, numbers_in, slot_from, slot_in, sum_of}
use Rattle.variables.proofs.Lookups as lookups
use Rattle.variables.proofs.Lookups.{First, slot_first}
use Rattle.variables.proofs.Names.{alike-telling}
use Rattle.variables.proofs.Naming.{names_laid}
use Rattle.asking.specs.Asking.{string_asked, asked}
use Rattle.asking.specs.declared.questions.Asked.TheVariants.{Text}
use Rattle.loader.specs.declared.refusals.Refusal.TheVariants.{NoVariable}
use Rattle.runner.specs.Run.{tables_of}
use Rattle.promises.specs.Questions.{string, value_for, Says, its_word, its_part, Holds}
use Rattle.whole.proofs.Never.{never}

-- ---- numbers

-- unused entries read as 0 whatever their name
unused_word : (ns : List Telling) (m : ℕ) (name : Telling) → word_of (numbers_in ns (replicate m 0)) name ≡ 0
unfolding word_of numbers_in
unused_word [] m name = refl
unused_word (n ∷ ns) zero name = refl
unused_word (n ∷ ns) (suc m) name = by_test (alike n name) (λ t. rw t) (λ t. rw t (unused_word ns m name))

word_told : (vs : List NumberVariable) (n m : ℕ) (zeros : List ℕ) (name : Telling) → length vs ≤ n
    → word_of (numbers_in (names_from n (name_bytes (map (λ (v : NumberVariable). v.name) vs) ++ zeros)) (map (λ (v : NumberVariable). v.word) vs ++ replicate m 0)) name
    ≡ word_of vs name
unfolding word_of numbers_in name_bytes
word_told [] n m zeros name h = unused_word (names_from n zeros) m name
word_told (v ∷ vs) zero m zeros name h = absurd (omega arith)
word_told (v ∷ vs) (suc n) m zeros name h =
    rw (names_laid n v.name (map (λ (v : NumberVariable). v.name) vs) zeros, alike-telling v.name name)
    (by_test (alike v.name name) (λ t. rw t) (λ t. rw t (word_told vs n m zeros name (omega arith))))

-- ---- strings

zeros_sum : (i m : ℕ) → sum_of (take i (replicate m 0)) ≡ 0
unfolding sum_of
zeros_sum zero m = refl
zeros_sum (suc i) zero = refl
zeros_sum (suc i) (suc m) = omega (arith, zeros_sum i m)

zeros_at : (i m : ℕ) → ◌≡◌ {A = ℕ} (get_or (replicate m 0) i 0) 0
zeros_at zero zero = refl
zeros_at zero (suc m) = refl
zeros_at (suc i) zero = refl
zeros_at (suc i) (suc m) = zeros_at i m

abbrev lengths_of : List StringVariable → List ℕ
lengths_of vs = map (λ (v : StringVariable). length v.bytes) vs

abbrev names_of : List StringVariable → List ℕ
names_of vs = name_bytes (map (λ (v : StringVariable). v.name) vs)

-- where a string stands among those joined
record Stands (space : List ℕ) (bytes : List ℕ) (from len : ℕ) : Type 0 where
  front : List ℕ
  back : List ℕ
  there : space ≡ front ++ (bytes ++ back)
  before : length front ≡ from
  long : length bytes ≡ len

stands_next : (b : List ℕ) {space bytes : List ℕ} {from len : ℕ} → Stands space bytes from len → Stands (b ++ space) bytes (length b + from) len
stands_next b {space} {bytes} s =
    record {
      front = b ++ s.front;
      back = s.back;
      there = ap (b ++◌) s.there ∙ sym (append_assoc b s.front (bytes ++ s.back));
      before = omega (arith, length-append b s.front, s.before);
      long = s.long;
    }

-- of the entry that has the name, the lengths before it
abbrev StandsAt : List StringVariable → List ℕ → Telling → ℕ → ℕ → Type 0
StandsAt vs back name m i =
    Stands (joined_strings vs ++ back) (bytes_of vs name) (sum_of (take i (lengths_of vs ++ replicate m 0))) (get_or (lengths_of vs ++ replicate m 0) i 0)

string_first : (v : StringVariable) (vs : List StringVariable) (ns : List Telling) (m i : ℕ) (back : List ℕ) (name : Telling)
    → First name (telling v.name ∷ ns) i → ((j : ℕ) → First name ns j → StandsAt vs back name m j) → StandsAt (v ∷ vs) back name m i
unfolding joined_strings bytes_of sum_of
string_first v vs ns m zero back name (lookups.here e) go =
    rw (sym (alike-telling v.name name) ∙ e)
    (record {
      front = [];
      back = joined_strings vs ++ back;
      there = append_assoc v.bytes (joined_strings vs) back;
      before = refl;
      long = refl;
    })
string_first v vs ns m (suc i) back name (lookups.later e f) go =
    rw (sym (alike-telling v.name name) ∙ e, append_assoc v.bytes (joined_strings vs) back) (stands_next v.bytes (go i f))

string_found : (vs : List StringVariable) (n m i : ℕ) (zeros back : List ℕ) (name : Telling) → length vs ≤ n
    → First name (names_from n (names_of vs ++ zeros)) i
    → StandsAt vs back name m i
unfolding joined_strings bytes_of name_bytes
string_found [] n m i zeros back name h f =
    record { front = []; back = back; there = refl; before = sym (zeros_sum i m); long = sym (zeros_at i m) }
string_found (v ∷ vs) zero m i zeros back name h f = absurd (omega arith)
string_found (v ∷ vs) (suc n) m i zeros back name h f =
    string_first v vs _ m i back name (rw (names_laid n v.name (map (λ (v : StringVariable). v.name) vs) zeros) at f)
    (λ j g. string_found vs n m j zeros back name (omega arith) g)

string_missing : (vs : List StringVariable) (k n : ℕ) (zeros : List ℕ) (name : Telling) → length vs ≤ n
    → slot_from k (names_from n (names_of vs ++ zeros)) name ≡ None → bytes_of vs name ≡ []
unfolding bytes_of slot_from name_bytes
string_missing [] k n zeros name h e = refl
string_missing (v ∷ vs) k zero zeros name h e = absurd (omega arith)
string_missing (v ∷ vs) k (suc n) zeros name h e =
    let x = rw (names_laid n v.name (map (λ (v : StringVariable). v.name) vs) zeros, alike-telling v.name name) at e in
    by_test (alike v.name name)
    (λ t. let s : Some k ≡ None = rw t at x in never (cc))
    (λ t. rw t (string_missing vs (suc k) n zeros name (omega arith) (rw t at x)))

-- ---- both

module _ (vars : Variables) (space : List ℕ) (h : Holds vars space) (name : Telling) where
  abbrev table : List ℕ
  table = (strings_table vars.strings).names

  abbrev lengths : List ℕ
  lengths = (strings_table vars.strings).lengths

  part_said : {from len : ℕ} → Stands space (bytes_of vars.strings name) from len
      → Says space (cond (leb (from + len) (length space)) (Ok (Text (record { 0 = from }) len)) (Err NoVariable)) (string (bytes_of vars.strings name))
  part_said {from} {len} s =
      let b = bytes_of vars.strings name in
      let l = ap length s.there ∙ length-append s.front (b ++ s.back) in
      let k = length-append b s.back in
      let inside : from + len ≤ length space = omega (arith, l, k, s.before, s.long) in
      rw (le-leb (from + len) (length space) inside, ← s.before, ← s.long) (its_part s.front b s.back s.there)

  string_said : (x : Option ℕ) → slot_in table name ≡ x → Says space (string_asked x lengths (length space)) (string (bytes_of vars.strings name))
  unfolding names_in
  string_said None e =
      rw (string_missing vars.strings 0 most_variables (replicate (names_long - name_width * length vars.strings) 0) name h.strings e)
      (its_part [] [] space refl)
  string_said (Some i) e =
      let s = string_found vars.strings most_variables (most_variables - length vars.strings) i
      (replicate (names_long - name_width * length vars.strings) 0) h.unused name h.strings (slot_first table name i e) in
      part_said (rw h.joined s)

  pub value_said : (k : Kind) → Says space (asked k name (tables_of vars) (length space)) (value_for vars k name)
  unfolding names_in
  value_said kind.Whole =
      rw (word_told vars.numbers most_variables (most_variables - length vars.numbers) (replicate (names_long - name_width * length vars.numbers) 0) name h.numbers)
      (its_word (word_of vars.numbers name))
  value_said kind.Text = string_said (slot_in table name) refl
