-- Worked examples, computed by the checker: names that are one variable's, and names that are not.
use Rattle.std.specs.Prelude.{◌≡◌, refl, true, false, ◌++◌, replicate}
use Rattle.whole.specs.Bytes.{bytes, leading}
use Rattle.words.specs.Classes.{capital_of}
use Rattle.words.specs.Spellings.{same_bytes}
use Rattle.words.specs.Names.{telling, telling_of, alike}

-- small letters are capitals
pub names_alike : alike (telling_of (bytes "Rinse")) (telling_of (bytes "RINSE")) ≡ true
unfolding bytes leading telling telling_of capital_of same_bytes
names_alike = refl

-- RINSE and RIVET are two variables, and so are R and RI
pub names_apart : alike (telling_of (bytes "RINSE")) (telling_of (bytes "RIVET")) ≡ false
unfolding bytes leading telling telling_of capital_of same_bytes
names_apart = refl

pub names_longer : alike (telling_of (bytes "R")) (telling_of (bytes "RI")) ≡ false
unfolding bytes leading telling telling_of capital_of same_bytes
names_longer = refl

-- the 40th character tells
pub fortieth_tells : alike (telling_of (replicate 39 65 ++ bytes "B")) (telling_of (replicate 39 65 ++ bytes "C")) ≡ false
unfolding bytes leading telling telling_of capital_of same_bytes
fortieth_tells = refl
