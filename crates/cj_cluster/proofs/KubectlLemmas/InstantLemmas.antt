-- The texts of printed times: their lengths, and how a text with an offset comes apart.
use Rattle.std.proofs.Common.{◌≡◌, ◌≤◌, ◌<◌, ◌+◌, ◌-◌, ◌/◌, ◌%◌, ℕ, suc, List, [], ◌∷◌, ◌++◌, length, take, drop, get_or, refl, sym, ap, ◌∙◌, subst, arith, inl, inr, lit<}
use Rattle.std.proofs.Math.Seq.{take-append_seam, drop-append_seam, take-length}
use Rattle.std.proofs.lemmas.List.{length-append}
use Rattle.std.proofs.lemmas.Str.{IsUtf8-from_ascii}
use Rattle.std.proofs.lemmas.Str.Ascii.{IsAscii-nil, IsAscii-cons}
use Rattle.std.specs.Str.{IsAscii, IsUtf8}
use Rattle.jiff_fmt.specs.Text.{pad2}
use Rattle.cj_base.specs.Instant.{last_second}
use Rattle.cj_zone.specs.ReadTime.{numbers_text}
use Rattle.cj_zone.specs.TimeText.{time_text_of}
use Rattle.cj_zone.proofs.ReadLemmas.{prints_as}
use Rattle.cj_cluster.specs.kubectl.Instants.{IsDistance, IsShown, IsApart}

-- ---- printed times

-- For printed_utf8: before ASCII text the two digits of a number below 100 make ASCII text.
two : (n : ℕ) (rest : List ℕ) → n < 100 → IsAscii rest → IsAscii ((48 + n / 10) ∷ (48 + n % 10) ∷ rest)
two n rest small h =
    IsAscii-cons (48 + n / 10) ((48 + n % 10) ∷ rest) (omega (arith, small))
    (IsAscii-cons (48 + n % 10) rest (omega (arith, small)) h)

-- For printed_utf8: a colon, and two digits.
colon_two : (n : ℕ) (rest : List ℕ) → n < 100 → IsAscii rest → IsAscii (58 ∷ (48 + n / 10) ∷ (48 + n % 10) ∷ rest)
colon_two n rest small h = IsAscii-cons 58 ((48 + n / 10) ∷ (48 + n % 10) ∷ rest) (lit< tt) (two n rest small h)

-- For printed_utf8: a dash, and two digits.
dash_two : (n : ℕ) (rest : List ℕ) → n < 100 → IsAscii rest → IsAscii (45 ∷ (48 + n / 10) ∷ (48 + n % 10) ∷ rest)
dash_two n rest small h = IsAscii-cons 45 ((48 + n / 10) ∷ (48 + n % 10) ∷ rest) (lit< tt) (two n rest small h)

-- For printed_utf8: a `T`, and two digits.
t_two : (n : ℕ) (rest : List ℕ) → n < 100 → IsAscii rest → IsAscii (84 ∷ (48 + n / 10) ∷ (48 + n % 10) ∷ rest)
t_two n rest small h = IsAscii-cons 84 ((48 + n / 10) ∷ (48 + n % 10) ∷ rest) (lit< tt) (two n rest small h)

-- For printed_utf8: the time of a day and a `Z` are ASCII text.
clock_ascii : (h n s : ℕ) → h < 100 → n < 100 → s < 100 → IsAscii (84 ∷ pad2 h ++ 58 ∷ pad2 n ++ 58 ∷ pad2 s ++ 90 ∷ [])
clock_ascii h n s eh en es =
    t_two h (58 ∷ pad2 n ++ 58 ∷ pad2 s ++ 90 ∷ []) eh (colon_two n (58 ∷ pad2 s ++ 90 ∷ []) en
    (colon_two s (90 ∷ []) es (IsAscii-cons 90 [] (lit< tt) IsAscii-nil)))

-- For printed_utf8: a date before ASCII text makes ASCII text.
date_ascii : (c y m d : ℕ) (rest : List ℕ) → c < 100 → y < 100 → m < 100 → d < 100 → IsAscii rest
    → IsAscii (pad2 c ++ pad2 y ++ 45 ∷ pad2 m ++ 45 ∷ pad2 d ++ rest)
date_ascii c y m d rest ec ey em ed h =
    two c (pad2 y ++ 45 ∷ pad2 m ++ 45 ∷ pad2 d ++ rest) ec (two y (45 ∷ pad2 m ++ 45 ∷ pad2 d ++ rest) ey
    (dash_two m (45 ∷ pad2 d ++ rest) em (dash_two d rest ed h)))

-- For shown_by: a printed time is UTF-8.
pub printed_utf8 : (t : ℕ) → t ≤ last_second → IsUtf8 (time_text_of t)
printed_utf8 t h =
    let at = prints_as t h in
    let n = at.numbers in
    let small = at.small in
    let clock = clock_ascii n.hour n.minute n.second small.hour small.minute small.second in
    let rest = 84 ∷ pad2 n.hour ++ 58 ∷ pad2 n.minute ++ 58 ∷ pad2 n.second ++ 90 ∷ [] in
    let text = date_ascii n.century n.year n.month n.day rest small.century small.year small.month small.day clock in
    subst IsUtf8 at.text (IsUtf8-from_ascii (numbers_text n) text)

-- For shown_by: a printed time is its date and time of the day, and a `Z` behind them.
pub zulu : (t : ℕ) → t ≤ last_second → take 19 (time_text_of t) ++ 90 ∷ [] ≡ time_text_of t
zulu t h = let at = prints_as t h in subst (λ x. take 19 x ++ 90 ∷ [] ≡ x) at.text refl

-- A printed time has 20 bytes.
pub printed_length : (t : ℕ) → t ≤ last_second → length (time_text_of t) ≡ 20
printed_length t h = let at = prints_as t h in subst (λ x. length x ≡ 20) at.text refl

-- Its date and time of the day have 19.
pub clock_length : (t : ℕ) → t ≤ last_second → length (take 19 (time_text_of t)) ≡ 19
clock_length t h = let at = prints_as t h in subst (λ x. length (take 19 x) ≡ 19) at.text refl

-- For shown_by: what stands before the `Z` is the first 19 bytes.
pub before_zulu : (clock text : List ℕ) → length clock ≡ 19 → clock ++ 90 ∷ [] ≡ text → clock ≡ take 19 text
before_zulu clock text long e =
    sym (subst (λ n. take n (clock ++ 90 ∷ []) ≡ clock) long (take-append_seam clock (90 ∷ []))) ∙ ap (take 19) e

-- ---- texts with an offset

-- The first 19 bytes of a text that is so many bytes and others behind them.
front_is : (clock rest : List ℕ) → length clock ≡ 19 → take 19 (clock ++ rest) ≡ clock
front_is clock rest long = subst (λ n. take n (clock ++ rest) ≡ clock) long (take-append_seam clock rest)

-- And what is behind them.
back_is : (clock rest : List ℕ) → length clock ≡ 19 → drop 19 (clock ++ rest) ≡ rest
back_is clock rest long = subst (λ n. drop n (clock ++ rest) ≡ rest) long (drop-append_seam clock rest)

-- how a text that shows a clock is split in two
pub record IsParted (clock rest : List ℕ) (sign shown : ℕ) (offset : List ℕ) : Type 0 where
  pub clock_is : clock ≡ take 19 (time_text_of shown)
  pub rest_is : rest ≡ sign ∷ offset

-- For apart: a text that shows a clock is split behind the time that it shows.
pub split_behind : (text clock rest : List ℕ) (sign shown distance : ℕ) (s : IsShown text sign shown distance)
    → clock ≡ take 19 text → rest ≡ drop 19 text → IsParted clock rest sign shown s.offset
split_behind text clock rest sign shown distance s front back =
    let long = clock_length shown s.in_range in record {
      clock_is = front ∙ ap (take 19) s.text_is ∙ front_is (take 19 (time_text_of shown)) (sign ∷ s.offset) long;
      rest_is = back ∙ ap (drop 19) s.text_is ∙ back_is (take 19 (time_text_of shown)) (sign ∷ s.offset) long;
    }

-- For apart: what stands behind the sign.
pub behind_sign : (rest offset : List ℕ) (sign : ℕ) → rest ≡ sign ∷ offset → take (length rest - 1) (drop 1 rest)
    ≡ offset
behind_sign rest offset sign e =
    ap (λ r. take (length r - 1) (drop 1 r)) e ∙ ap (λ n. take n offset) (less_one offset) ∙ take-length offset
  where
    less_one : (xs : List ℕ) → suc (length xs) - 1 ≡ length xs
    less_one xs = omega arith

-- For apart: some bytes are the first of them and those behind it.
pub with_sign : (rest : List ℕ) (n : ℕ) → length rest ≡ suc n
    → rest ≡ get_or rest 0 0 ∷ take (length rest - 1) (drop 1 rest)
with_sign [] n h = absurd (omega (arith, h))
with_sign (x ∷ xs) n h = ap (λ ys. x ∷ ys) (sym (behind_sign (x ∷ xs) xs x refl))

-- A distance is written in five bytes.
distance_length : (text : List ℕ) (d : ℕ) → IsDistance text d → length text ≡ 5
distance_length text d h = ap length h.text_is

-- For read_instant: a text that shows a clock has 25 bytes.
shown_length : (text : List ℕ) (sign shown distance : ℕ) → IsShown text sign shown distance → length text ≡ 25
shown_length text sign shown distance s =
    ap length s.text_is ∙ length-append (take 19 (time_text_of shown)) (sign ∷ s.offset)
    ∙ sum _ _ (clock_length shown s.in_range) (distance_length s.offset distance s.far)
  where
    sum : (a b : ℕ) → a ≡ 19 → b ≡ 5 → a + suc b ≡ 25
    sum a b h k = omega (arith, h, k)

-- For read_instant: a text with an offset has 25 bytes.
pub apart_length : (text : List ℕ) (t : ℕ) → IsApart text t → length text ≡ 25
apart_length text t (inl a) = shown_length text 43 a.shown a.distance a.is_shown
apart_length text t (inr b) = shown_length text 45 b.shown b.distance b.is_shown

-- For apart: a distance is of less than a day.
pub distance_small : (text : List ℕ) (d : ℕ) → IsDistance text d → d < 100000
distance_small text d h = omega (arith, h.hours_in, h.minutes_in, h.seconds_are)
