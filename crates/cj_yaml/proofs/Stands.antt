-- Where a cursor stands on a line.
use Rattle.std.proofs.Common.{◌≡◌, ◌≢◌, ℕ, zero, suc, ◌+◌, ◌-◌, ◌<◌, ◌≤◌, ◌==◌, ◌&&◌, ◌||◌, not, List, [], ◌∷◌, ◌++◌, length, drop, get_or, Bool, true, false, true≢false, refl, sym, ap, ◌∙◌, subst, arith}
use Rattle.std.proofs.lemmas.Bool.{and_parts}
use Rattle.std.proofs.lemmas.List.{drop_at, drop-drop, length-append, length-drop}
use Rattle.cj_yaml.specs.BlockStyle.{indent}
use Rattle.cj_yaml.specs.Cursors.{IsBefore, IsOnLine, at_break, break_len, is_line, is_marker, is_space, leading, line_begun, on_line}
use Rattle.cj_yaml.specs.OnLines.{StandsPlain, is_blank, is_break, is_gap}
use Rattle.cj_yaml.specs.declared.cursor.Cursor.{Cursor}
use Rattle.cj_yaml.proofs.Breaks.{len_of}
use Rattle.cj_yaml.proofs.Leading.{leading_indent, leading_none}
use Rattle.cj_yaml.proofs.PlainEnds.{byte_at, not_true}

-- The byte at an offset is the first of what is left.
pub first_of : (s rest : List ℕ) (at : ℕ) → drop at s ≡ rest → get_or s at 0 ≡ get_or rest 0 0
first_of s rest at there = byte_at s rest at 0 at (omega arith) there

-- Where something is left, the end isn't reached.
pub some_left : (s rest : List ℕ) (at b : ℕ) → drop at s ≡ b ∷ rest → at < length s
some_left s rest at b there =
    let count : length s - at ≡ length (b ∷ rest) = sym (length-drop at s) ∙ ap length there in omega (arith, count)

-- What is left behind a front.
pub left_behind : (s front rest : List ℕ) (at n : ℕ) → drop at s ≡ front ++ rest → length front ≡ n
    → drop (at + n) s ≡ rest
left_behind s front rest at n there e = sym (drop-drop n at s) ∙ ap (drop n) there ∙ drop_at front rest n e

-- So many spaces.
pub length_indent : (n : ℕ) → length (indent n) ≡ n
length_indent zero = refl
length_indent (suc n) = let e = length_indent n in omega (arith, e)

-- For line_content: a test of two that fails.
neither : (a b : Bool) → (a || b) ≡ false → (a ≡ false) × (b ≡ false)
neither false false e = (refl, refl)
neither true b e = absurd (true≢false e)
neither false true e = absurd (true≢false e)

-- What stands on a line begins with no blank and no break but the end, and no comment.
pub line_first : (n : ℕ) (rest : List ℕ) → is_line n rest ≡ true
    → (is_blank (get_or rest 0 0) ≡ false) × ((get_or rest 0 0 == 10) ≡ false) × ((get_or rest 0 0 == 13) ≡ false)
    × ((get_or rest 0 0 == 35) ≡ false)
line_first n [] is = (refl, refl, refl, refl)
line_first n (b ∷ rest) is =
    let all = and_parts (not (is_gap b) && not (b == 35)) (not ((n == 0) && is_marker (b ∷ rest) 0)) is in
    let two = and_parts (not (is_gap b)) (not (b == 35)) all.0 in
    let gap = neither (is_blank b) (is_break b) (not_true (is_gap b) two.0) in
    let ends = neither ((b == 10) || (b == 13)) (b == 0) gap.1 in
    let breaks = neither (b == 10) (b == 13) ends.0 in
    (gap.0, breaks.0, breaks.1, not_true (b == 35) two.1)

-- It begins with no space.
pub line_no_space : (n : ℕ) (rest : List ℕ) → is_line n rest ≡ true → is_space (get_or rest 0 0) ≡ false
line_no_space n rest is =
    (neither (get_or rest 0 0 == 32) (get_or rest 0 0 == 9) (line_first n rest is).0).0

-- No blank is passed where none stands.
pub no_blanks : (c d : Cursor) → d ≡ record c { at = c.at + leading is_blank (drop c.at c.text.now) }
    → is_blank (get_or c.text.now c.at 0) ≡ false → d ≡ c
no_blanks c d moved stop =
    let none : leading is_blank (drop c.at c.text.now) ≡ 0 =
    leading_none is_blank (drop c.at c.text.now)
    (ap is_blank (sym (first_of c.text.now (drop c.at c.text.now) c.at refl)) ∙ stop) in
    let same : c.at + leading is_blank (drop c.at c.text.now) ≡ c.at = omega (arith, none) in
    moved ∙ ap (λ (n : ℕ). record c { at = n }) same

-- Behind a line break the cursor is behind the spaces of the line.
pub begun_on : (c : Cursor) (n : ℕ) (rest : List ℕ) → is_line n rest ≡ true
    → drop c.at c.text.now ≡ 10 ∷ (indent n ++ rest) → IsOnLine (line_begun c (c.at + 1)) n rest
begun_on c n rest is there =
    let below : drop (c.at + 1) c.text.now ≡ indent n ++ rest =
    left_behind c.text.now (10 ∷ []) (indent n ++ rest) c.at 1 there refl in
    let spaces : leading is_space (drop (c.at + 1) c.text.now) ≡ n =
    ap (leading is_space) below ∙ leading_indent n rest (line_no_space n rest is) in
    let whole : length c.text.now - (c.at + 1) ≡ n + length rest =
    sym (length-drop (c.at + 1) c.text.now) ∙ ap length below ∙ length-append (indent n) rest
    ∙ ap (λ (k : ℕ). k + length rest) (length_indent n) in
    let some = some_left c.text.now (indent n ++ rest) c.at 10 there in
    record {
      there =
          ap (λ (k : ℕ). drop ((c.at + 1) + k) c.text.now) spaces
          ∙ left_behind c.text.now (indent n) rest (c.at + 1) n below (length_indent n);
      column = ap (λ (k : ℕ). (c.at + 1) + k) spaces;
      spaces = spaces;
      inside = omega (arith, spaces, whole, some);
    }

-- Before a line the cursor is at no blank and at no comment.
pub before_first : (c : Cursor) (n : ℕ) (rest : List ℕ) → is_line n rest ≡ true → IsBefore c n rest
    → (is_blank (get_or c.text.now c.at 0) ≡ false) × ((get_or c.text.now c.at 0 == 35) ≡ false)
before_first c n rest is (at_break there) =
    let e = first_of c.text.now (10 ∷ (indent n ++ rest)) c.at there in (ap is_blank e, ap (λ b. b == 35) e)
before_first c n rest is (on_line o) =
    let e = first_of c.text.now rest c.at o.there in
    let first = line_first n rest is in (ap is_blank e ∙ first.0, ap (λ b. b == 35) e ∙ first.3)

-- It is within the text.
pub before_inside : (c : Cursor) (n : ℕ) (rest : List ℕ) → IsBefore c n rest → c.at ≤ length c.text.now
before_inside c n rest (at_break there) = omega (arith, some_left c.text.now (indent n ++ rest) c.at 10 there)
before_inside c n rest (on_line o) = o.inside

-- For pass_line: nothing is passed before the line break.
pub unmoved : (c d e : Cursor) (n : ℕ) (rest : List ℕ) → is_line n rest ≡ true → IsBefore c n rest
    → (c.at ≤ length c.text.now → d ≡ record c { at = c.at + leading is_blank (drop c.at c.text.now) })
    → (get_or d.text.now d.at 0 ≢ 35 → e ≡ d) → e ≡ c
unmoved c d e n rest is before moved stays =
    let first = before_first c n rest is before in
    let same : d ≡ c = no_blanks c d (moved (before_inside c n rest before)) first.0 in
    let here : get_or c.text.now c.at 0 ≢ 35 = λ h. true≢false (sym (ap (λ b. b == 35) h) ∙ first.1) in
    stays (subst (λ (x : Cursor). get_or x.text.now x.at 0 ≢ 35) (sym same) here) ∙ same

-- For passed_here: no break begins there.
no_break : (b : ℕ) (pair : Bool) → (b == 10) ≡ false → (b == 13) ≡ false → len_of b pair ≡ 0
no_break b pair e f = rw (e, f) refl

-- For break_passed: the line behind a break, where the cursor was before it.
passed_here : (c f : Cursor) (n : ℕ) (rest : List ℕ) (line : ℕ) → is_line n rest ≡ true → IsBefore c n rest
    → line ≡ c.at + break_len c.text.now c.at → c.at < line
    → (line ≤ length c.text.now → f ≡ line_begun c line) → IsOnLine f n rest
passed_here c f n rest line is (at_break there) p some r =
    let one : break_len c.text.now c.at ≡ 1 =
    ap (λ b. len_of b (get_or c.text.now (c.at + 1) 0 == 10))
    (first_of c.text.now (10 ∷ (indent n ++ rest)) c.at there) in
    let inside = some_left c.text.now (indent n ++ rest) c.at 10 there in
    let place : line ≡ c.at + 1 = p ∙ ap (λ (k : ℕ). c.at + k) one in
    let moved : f ≡ line_begun c (c.at + 1) = r (omega (arith, place, inside)) ∙ ap (line_begun c) place in
    subst (λ (x : Cursor). IsOnLine x n rest) (sym moved) (begun_on c n rest is there)
passed_here c f n rest line is (on_line o) p some r =
    let first = line_first n rest is in
    let none : break_len c.text.now c.at ≡ 0 =
    ap (λ b. len_of b (get_or c.text.now (c.at + 1) 0 == 10)) (first_of c.text.now rest c.at o.there)
    ∙ no_break (get_or rest 0 0) (get_or c.text.now (c.at + 1) 0 == 10) first.1 first.2 in
    absurd (omega (arith, none, some, p))

-- For pass_line: behind a line break.
pub break_passed : (c e f : Cursor) (n : ℕ) (rest : List ℕ) (line : ℕ) → is_line n rest ≡ true → IsBefore c n rest
    → e ≡ c → line ≡ e.at + break_len e.text.now e.at → e.at < line
    → (line ≤ length e.text.now → f ≡ line_begun e line) → IsOnLine f n rest
break_passed c e f n rest line is before same =
    subst (λ (x : Cursor). line ≡ x.at + break_len x.text.now x.at → x.at < line
    → (line ≤ length x.text.now → f ≡ line_begun x line)
    → IsOnLine f n rest) (sym same)
    (passed_here c f n rest line is before)

-- For stays_on_line: where no break is passed, the cursor is on the line.
stays_here : (c : Cursor) (n : ℕ) (rest : List ℕ) (line : ℕ) → IsBefore c n rest
    → line ≡ c.at + break_len c.text.now c.at → line ≤ c.at → IsOnLine c n rest
stays_here c n rest line (at_break there) p none =
    let one : break_len c.text.now c.at ≡ 1 =
    ap (λ b. len_of b (get_or c.text.now (c.at + 1) 0 == 10))
    (first_of c.text.now (10 ∷ (indent n ++ rest)) c.at there) in
    absurd (omega (arith, none, one, p))
stays_here c n rest line (on_line o) p none = o

-- For pass_line: where there is no line break.
pub stays_on_line : (c e : Cursor) (n : ℕ) (rest : List ℕ) (line : ℕ) → IsBefore c n rest → e ≡ c
    → line ≡ e.at + break_len e.text.now e.at → line ≤ e.at → IsOnLine e n rest
stays_on_line c e n rest line before same =
    subst (λ (x : Cursor). line ≡ x.at + break_len x.text.now x.at → line ≤ x.at → IsOnLine x n rest) (sym same)
    (stays_here c n rest line before)

-- For plain_key: what is behind a plain text.
pub behind_plain : (s : List ℕ) (at stop : ℕ) (t rest : List ℕ) → StandsPlain s at t rest → stop ≡ at + length t
    → drop stop s ≡ rest
behind_plain s at stop t rest p e =
    ap (λ (k : ℕ). drop k s) e ∙ left_behind s t rest at (length t) p.there refl
