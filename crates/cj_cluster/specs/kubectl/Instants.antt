-- Times as clients print them (RFC 3339, section 5.6), without a fraction: at UTC by `Z`, or at a
-- clock that is a number of hours and minutes ahead of UTC or behind it.
use Rattle.std.specs.Prelude.{◌≡◌, ◌⊎◌, ℕ, ◌+◌, ◌*◌, ◌≤◌, List, ◌∷◌, ◌++◌, take}
use Rattle.jiff_fmt.specs.Text.{pad2}
use Rattle.cj_base.specs.Instant.{last_second}
use Rattle.cj_zone.specs.TimeText.{time_text_of}

-- `HH:MM`, as seconds
pub record IsDistance (text : List ℕ) (seconds : ℕ) : Type 0 where
  pub hours : ℕ
  pub minutes : ℕ
  pub hours_in : hours ≤ 23
  pub minutes_in : minutes ≤ 59
  pub text_is : text ≡ pad2 hours ++ 58 ∷ pad2 minutes
  pub seconds_are : seconds ≡ hours * 3600 + minutes * 60

-- what a clock shows, up to its second, and behind it a sign and how far the clock is from UTC
pub record IsShown (text : List ℕ) (sign shown distance : ℕ) : Type 0 where
  pub offset : List ℕ
  pub in_range : shown ≤ last_second
  pub far : IsDistance offset distance
  pub text_is : text ≡ take 19 (time_text_of shown) ++ sign ∷ offset

-- a clock ahead of UTC shows a later time than UTC's
pub record IsAhead (text : List ℕ) (t : ℕ) : Type 0 where
  pub shown : ℕ
  pub distance : ℕ
  pub is_shown : IsShown text 43 shown distance
  pub later : t + distance ≡ shown

-- a clock behind UTC shows an earlier one
pub record IsBehind (text : List ℕ) (t : ℕ) : Type 0 where
  pub shown : ℕ
  pub distance : ℕ
  pub is_shown : IsShown text 45 shown distance
  pub earlier : shown + distance ≡ t

abbrev pub IsApart : List ℕ → ℕ → Type 0
IsApart text t = IsAhead text t ⊎ IsBehind text t

-- the text prints this instant
-- rule: cluster-times
pub record IsInstant (text : List ℕ) (t : ℕ) : Type 0 where
  pub in_range : t ≤ last_second
  pub printed : (text ≡ time_text_of t) ⊎ IsApart text t

abbrev pub IsNoInstant : List ℕ → Type 0
IsNoInstant text = (t : ℕ) → IsInstant text t → ⊥
