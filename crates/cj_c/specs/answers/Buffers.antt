-- What a call that gives a text leaves in its caller's buffer, by its status.
use Rattle.std.specs.Prelude.{◌≡◌, ◌⊎◌, ℕ, ◌<◌, ◌≤◌, List, ◌++◌, drop, length, string_bytes, Result, Ok, Err}
use Rattle.cj_base.specs.declared.refusal.Refusal.{Refusal}
use Rattle.cj_c.specs.Status.{done, memory, refused, room}
use Rattle.cj_c.specs.declared.answers.told.Told.{Told}
use Rattle.cj_c.specs.declared.answers.told.Told.TheVariants as Was

-- the whole text, at the beginning of the buffer, and its length; or its length alone, where the
-- buffer is too small
-- rule: library-answers
abbrev pub IsGiven : List ℕ → ℕ → List ℕ → List ℕ → ℕ → ℕ → Type 0
IsGiven text given old new size status =
    ((status ≡ given) × (length text ≤ length old) × (new ≡ text ++ drop (length text) old)
    × (size ≡ length text))
    ⊎ ((status ≡ room) × (length old < length text) × (new ≡ old) × (size ≡ length text))

-- there was no memory, and all stays as it was
abbrev pub IsUnchanged : List ℕ → List ℕ → ℕ → ℕ → Type 0
IsUnchanged old new was is = (new ≡ old) × (is ≡ was)

-- of the text: an answer, a refusal, or none for want of memory
abbrev pub IsLeft : Result Told Refusal → List ℕ → List ℕ → ℕ → ℕ → ℕ → Type 0
IsLeft (Ok (Was.Done text)) old new was is status =
    IsGiven (string_bytes text) done old new is status
IsLeft (Ok (Was.Refused text)) old new was is status =
    IsGiven (string_bytes text) refused old new is status
IsLeft (Err e) old new was is status = (status ≡ memory) × IsUnchanged old new was is

-- it is such an answer, or such a refusal
abbrev pub IsTold : (List ℕ → Type 0) → (List ℕ → Type 0) → Told → Type 0
IsTold IsAnswer IsRefusal (Was.Done text) = IsAnswer (string_bytes text)
IsTold IsAnswer IsRefusal (Was.Refused text) = IsRefusal (string_bytes text)

-- what such a call leaves: an answer, or a refusal, as far as the buffer has room; or there was no
-- memory
-- rule: library-answers
abbrev pub IsAnswered : (List ℕ → Type 0) → (List ℕ → Type 0) → List ℕ → List ℕ → ℕ → ℕ → ℕ → Type 0
IsAnswered IsAnswer IsRefusal old new was is status =
    ((text : List ℕ) × IsAnswer text × IsGiven text done old new is status)
    ⊎ (((text : List ℕ) × IsRefusal text × IsGiven text refused old new is status)
    ⊎ ((status ≡ memory) × IsUnchanged old new was is))
