-- A look into the table finds the byte's class: the table's rule is one test that antt computes.
use mathlib.Core.Path.{refl}
use mathlib.Core.List.{List, ◌∷◌, ◌++◌}
use native.Mathlib.Omega.{arith}
use lib.ListN.{replicate}
use Rattle.whole.specs.Bytes.{bytes}
use Rattle.whole.specs.Digits.{is_digit}
use Rattle.words.specs.Spellings.{same_bytes, meaning}
use Rattle.words.specs.Classes.{capital_of, is_letter, signs, class_of}
use Rattle.words.specs.declared.classes.ByteClass.{ByteClass}
use Rattle.words.specs.declared.classes.ByteClass.TheVariants.{Letter, Digit, Blank, Sign, Quote, Other}
use Rattle.words.proofs.Classing.{rank, right_from, looked}
use Rattle.words.proofs.classes.class_of.Goals as goal

-- what stands in the table, run by run
classes : List ByteClass
classes = replicate 32 Other
    ++ (Blank ∷ Other ∷ Quote ∷ (replicate 5 Other
    ++ (replicate 6 Sign
    ++ (replicate 2 Other
    ++ (replicate 10 Digit
    ++ (replicate 6 Sign
    ++ (Other ∷ (replicate 26 Letter
    ++ (Other ∷ Sign ∷ (replicate 4 Other
    ++ (replicate 26 Letter ++ replicate 133 Other)))))))))))

pub returns : goal.returns
unfolding classes rank right_from class_of capital_of is_letter is_digit signs bytes same_bytes meaning
returns c = looked classes refl refl c.args.byte c.from.result c.from.ensures (omega arith) _
