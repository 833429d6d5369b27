-- Where a cursor stands on the lines of a text (YAML 1.2.2, 6.1, 6.3 and 6.7).
use Rattle.std.specs.Prelude.{ℕ, ◌+◌, ◌≡◌, ◌≤◌, List, [], ◌∷◌, ◌++◌, length, drop, slice_index}
use Rattle.std.specs.Prelude.{Bool, false, cond, not, ◌&&◌, ◌||◌, ◌==◌, Option, None, Some, Result, MatchResult}
use Rattle.cj_yaml.specs.BlockStyle.{indent}
use Rattle.cj_yaml.specs.OnLines.{is_gap}
use Rattle.cj_yaml.specs.declared.cursor.Cursor.{Cursor}
use Rattle.cj_yaml.specs.declared.fault.FaultKind.TheVariants.{OutOfMemory}
use Rattle.cj_yaml.specs.declared.fault.Stop.{Stop}

-- a space
abbrev pub is_space : ℕ → Bool
is_space b = b == 32

-- how many bytes in front pass a test
abbrev pub leading : (ℕ → Bool) → List ℕ → ℕ
leading test [] = 0
leading test (b ∷ rest) = cond (test b) (leading test rest + 1) 0

-- a byte of a document's marker
abbrev pub is_mark : ℕ → Bool
is_mark b = (b == 45) || (b == 46)

-- a byte twice at an offset, and a gap
abbrev pub ends_marker : List ℕ → ℕ → ℕ → Bool
ends_marker text at b =
    (slice_index text at == b) && (slice_index text (at + 1) == b)
    && is_gap (slice_index text (at + 2))

-- `---` or `...` and a gap at an offset, as a line of a document's marker begins (c-forbidden, 9.1)
abbrev pub is_marker : List ℕ → ℕ → Bool
is_marker text at =
    is_mark (slice_index text at) && ends_marker text (at + 1) (slice_index text at)

-- how many bytes the line break at an offset has (b-break, 5.4)
abbrev pub break_len : List ℕ → ℕ → ℕ
break_len text at =
    cond (slice_index text at == 10) 1
    (cond (slice_index text at == 13) (cond (slice_index text (at + 1) == 10) 2 1) 0)

-- what stands behind the spaces of a line: content, that is, neither a gap, a comment nor a marker
-- (6.3, 6.6); or nothing, at the end of the text
abbrev pub is_line : ℕ → List ℕ → Bool
is_line n [] = n == 0
is_line n (b ∷ rest) =
    not (is_gap b) && not (b == 35) && not ((n == 0) && is_marker (b ∷ rest) 0)

-- the column of such a line's content; none at the end of the text
abbrev pub column_of : ℕ → List ℕ → Option ℕ
column_of n [] = None
column_of n (b ∷ rest) = Some n

-- whether a further line of the collection at a column follows
abbrev pub goes_on : ℕ → ℕ → List ℕ → Bool
goes_on column n [] = false
goes_on column n (b ∷ rest) = n == column

-- the cursor goes to what stands behind the spaces of the line that begins there
abbrev pub line_begun : Cursor → ℕ → Cursor
line_begun c line =
    record c {
      line = line;
      at = line + leading is_space (drop line c.text.now);
      indent = leading is_space (drop line c.text.now);
    }

-- the cursor is behind the spaces of a line, which are so many, and this follows
pub record IsOnLine (c : Cursor) (n : ℕ) (rest : List ℕ) : Type 0 where
  pub there : drop c.at c.text.now ≡ rest
  pub column : c.at ≡ c.line + n
  pub spaces : c.indent ≡ n
  pub inside : c.at ≤ length c.text.now

-- the cursor is at the end of a line and this one follows, or it is on this one already
pub data IsBefore : Cursor → ℕ → List ℕ → Type 0 where
  at_break : {c : Cursor} {n : ℕ} {rest : List ℕ} → drop c.at c.text.now ≡ 10 ∷ (indent n ++ rest)
      → IsBefore c n rest
  on_line : {c : Cursor} {n : ℕ} {rest : List ℕ} → IsOnLine c n rest → IsBefore c n rest

-- there is a value of which that holds, or memory was asked for and refused
abbrev pub OkOrMemory : {A : Type 0} → Result A Stop → (A → Type 0) → Type 0
OkOrMemory result P = MatchResult result P (λ stop. stop.kind ≡ OutOfMemory)
