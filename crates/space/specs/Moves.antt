-- What a slice holds after bytes were moved in it. Where what is asked for does not lie in the slice, it is as it was.
use Rattle.std.specs.Prelude.{Bool, cond, ◌&&◌, List, ◌++◌, ℕ, ◌+◌, ◌-◌, leb, length, take, drop, replicate}

-- bytes in the place of as many others, from an offset on
unfoldable pub overlaid : List ℕ → ℕ → List ℕ → List ℕ
overlaid space to bytes = take to space ++ (bytes ++ drop (to + length bytes) space)

-- whether so many bytes from an offset on lie in the slice
abbrev pub lies : List ℕ → ℕ → ℕ → Bool
lies space at count = leb (at + count) (length space)

-- bytes copied in
unfoldable pub copied : List ℕ → ℕ → List ℕ → List ℕ
copied space to bytes = cond (lies space to (length bytes)) (overlaid space to bytes) space

-- bytes of the slice itself moved, over an overlap too
unfoldable pub moved : List ℕ → ℕ → ℕ → ℕ → List ℕ
moved space from to count =
    cond (lies space from count && lies space to count) (overlaid space to (take count (drop from space))) space

-- zeros from an offset to the end
unfoldable pub cleared : List ℕ → ℕ → List ℕ
cleared space from = take from space ++ replicate (length space - from) 0
