-- Texts are gone through byte by byte: may they be plain, and may they be literal?
use Rattle.std.proofs.Common.{◌≡◌, ℕ, ◌+◌, ◌<◌, ◌≤◌, ◌==◌, ◌&&◌, ◌||◌, not, List, length, drop, get_or, Bool, true, false, sym, ap, ◌∙◌}
use Rattle.std.proofs.lemmas.List.{drop_all, drop_more}
use Rattle.cj_yaml.specs.BlockStyle.{are_shown_lines, may_be_in_line}
use Rattle.cj_yaml.specs.Words.{is_plain_rest, may_be_behind}

-- For are_plain: a byte that may not stand there.
pub plain_stops : (s : List ℕ) (i before : ℕ) (all may : Bool) → i < length s
    → is_plain_rest before (drop i s) ≡ all → may ≡ may_be_behind before (get_or s i 0) → may ≡ false
    → false ≡ all
plain_stops s i before all may h is e stop =
    ap (λ x. x && is_plain_rest (get_or s i 0) (drop (i + 1) s)) (sym stop ∙ e)
    ∙ ap (is_plain_rest before) (sym (drop_more s i 0 h)) ∙ is

-- For are_plain: one that may.
pub plain_goes_on : (s : List ℕ) (i before : ℕ) (all may : Bool) → i < length s
    → is_plain_rest before (drop i s) ≡ all → may ≡ may_be_behind before (get_or s i 0) → may ≡ true
    → is_plain_rest (get_or s i 0) (drop (i + 1) s) ≡ all
plain_goes_on s i before all may h is e go =
    ap (λ x. x && is_plain_rest (get_or s i 0) (drop (i + 1) s)) (sym go ∙ e)
    ∙ ap (is_plain_rest before) (sym (drop_more s i 0 h)) ∙ is

-- For are_plain: nothing is left.
pub plain_ends : (s : List ℕ) (i before : ℕ) (all : Bool) → length s ≤ i
    → is_plain_rest before (drop i s) ≡ all → (not (before == 32) && not (before == 58)) ≡ all
plain_ends s i before all h is = ap (is_plain_rest before) (sym (drop_all i s h)) ∙ is

-- For are_shown_lines: a byte that may not stand there.
pub lines_stop : (s : List ℕ) (i before : ℕ) (lines all may : Bool) → i < length s
    → are_shown_lines before lines (drop i s) ≡ all → may ≡ may_be_in_line before (get_or s i 0) → may ≡ false
    → false ≡ all
lines_stop s i before lines all may h is e stop =
    ap (λ x. x && are_shown_lines (get_or s i 0) (lines || (get_or s i 0 == 10)) (drop (i + 1) s)) (sym stop ∙ e)
    ∙ ap (are_shown_lines before lines) (sym (drop_more s i 0 h)) ∙ is

-- For are_shown_lines: one that may.
pub lines_go_on : (s : List ℕ) (i before : ℕ) (lines all may : Bool) → i < length s
    → are_shown_lines before lines (drop i s) ≡ all → may ≡ may_be_in_line before (get_or s i 0) → may ≡ true
    → are_shown_lines (get_or s i 0) (lines || (get_or s i 0 == 10)) (drop (i + 1) s) ≡ all
lines_go_on s i before lines all may h is e go =
    ap (λ x. x && are_shown_lines (get_or s i 0) (lines || (get_or s i 0 == 10)) (drop (i + 1) s)) (sym go ∙ e)
    ∙ ap (are_shown_lines before lines) (sym (drop_more s i 0 h)) ∙ is

-- For are_shown_lines: nothing is left.
pub lines_end : (s : List ℕ) (i before : ℕ) (lines all : Bool) → length s ≤ i
    → are_shown_lines before lines (drop i s) ≡ all → (lines && not (before == 32)) ≡ all
lines_end s i before lines all h is = ap (are_shown_lines before lines) (sym (drop_all i s h)) ∙ is
