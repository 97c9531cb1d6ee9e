use mathlib.Core.Path.{◌≡◌}
use mathlib.Core.List.{List, ◌++◌, map}
use Prim.Native.Nat.{ℕ}
use lib.ListN.{length}
use Rattle.words.specs.Classes.{capital_of}
use Rattle.words.specs.bridge.Packed.{packed}
use Rattle.words.proofs.Packing.{Bound}
use Rattle.words.proofs.vocabulary.pack.Given as goal

-- the letters that have been passed are in the number
abbrev pub invariant-loop-letter : goal.invariant-loop-letter
invariant-loop-letter l = record {
  passed : List ℕ;
  all : l.letters ≡ l.letter-iterator.iter.rest.now ++ passed;
  room : Bound (length passed) l.number;
  told : l.number ≡ packed (map capital_of passed);
}
