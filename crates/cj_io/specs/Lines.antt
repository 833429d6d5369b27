-- Lines of bytes. POSIX.1-2017, 3.206, "Line", and 3.243, "Newline Character".
use Rattle.std.specs.Prelude.{◌≡◌, ◌≢◌, ◌<◌, ℕ, List, [], ◌∷◌, ◌++◌, Option, length, drop}
use Rattle.std.specs.List.{All}
use Rattle.std.specs.Io.{StartsWith}
use Rattle.std.specs.Io.KnownBytes.{Consumes, IsAtEnd, prepend_known}
use Rattle.cj_io.specs.declared.reader.LineReader.{LineReader}
use Rattle.cj_io.specs.declared.taken.Kept.{Kept}
use Rattle.cj_io.specs.declared.taken.Kept.TheVariants.{Cut, TooLong, Whole}
use Rattle.cj_io.specs.declared.taken.Taken.{Taken}
use Rattle.cj_io.specs.declared.taken.Taken.TheVariants.{End, Line, Rest}

-- the byte at a line's end
abbrev pub line_feed : ℕ
line_feed = 10

-- the most bytes of a line that is kept whole
abbrev pub most_bytes : ℕ
most_bytes = 67_108_864

-- no byte is a line's end
abbrev pub IsPlain : List ℕ → Type 0
IsPlain bytes = All (λ b. b ≢ line_feed) bytes

-- what is kept of a line: all of it, or else a beginning
-- rule: control-reading
abbrev pub IsKept : Kept → List ℕ → List ℕ → Type 0
IsKept Whole kept line = kept ≡ line
IsKept TooLong kept line = StartsWith line kept × (most_bytes < length line)
IsKept Cut kept line = StartsWith line kept

-- what a reader has read and not given out
abbrev pub waiting : LineReader → List ℕ
waiting r = drop r.begin r.chunk.items

-- that, and then what its input has left
abbrev pub coming : LineReader → Option (List ℕ) → Option (List ℕ)
coming r left = prepend_known (waiting r) left

-- the next line of what was coming, up to its end; or what stood behind the last line end
-- rule: control-reading
abbrev pub Reads : Taken → Kept → List ℕ → Option (List ℕ) → Option (List ℕ) → Type 0
Reads End state kept old new = IsAtEnd old
Reads Line state kept old new =
    (line : List ℕ) × IsPlain line × IsKept state kept line
    × Consumes old new (line ++ line_feed ∷ [])
Reads Rest state kept old new =
    (line : List ℕ) × IsPlain line × IsKept state kept line × Consumes old new line × IsAtEnd new
