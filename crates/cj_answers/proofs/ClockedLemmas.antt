-- Times by a zone's clock, and a text as the clock shows it, part by part.
use Rattle.std.proofs.Common.{◌≡◌, ℕ, ◌%◌, ◌≤◌, ℤ, pos, ◌+ℤ◌, ◌*ℤ◌, unsigned_abs, List, [], ◌++◌, refl, sym, ap, ◌∙◌, subst, arith, append_assoc, append-nil, inl, inr, ◌⊎◌}
use Rattle.std.specs.Prelude.{Ok}
use Rattle.jiff_core.proofs.SignedLemmas.{signed_arith}
use Rattle.jiff_core.specs.declared.civil.datetime.DateTime.{DateTime}
use Rattle.jiff_core.specs.declared.offset.Offset.{Offset}
use Rattle.jiff_core.specs.DateTime.{civil_nanos}
use Rattle.jiff_core.specs.Timestamp.{IsOffsetSeconds, nanos_of_seconds}
use Rattle.jiff_fmt.specs.Temporal.{parse_timestamp}
use Rattle.jiff_fmt.specs.Text.{offset_text}
use Rattle.jiff_fmt.proofs.RoundTrip.{parse_timestamp-offset}
use Rattle.jiff.specs.Names.{iso_datetime_text}
use Rattle.cj_base.specs.Instant.{last_second}
use Rattle.cj_base.specs.declared.civil.Civil.{Civil}
use Rattle.cj_zone.specs.declared.zone.Zone.{Zone}
use Rattle.cj_zone.specs.Civil.{civil_at, truncated}
use Rattle.cj_zone.specs.Offset.{zone_offset}
use Rattle.cj_zone.specs.TimeText.{time_text_of}
use Rattle.cj_zone.proofs.ZoneLemmas.{civil_at-truncated, nanos_of_sum}
use Rattle.cj_answers.specs.Clocked.{Adds, AddsFront, IsByClock, IsNotShown, IsTimeByClock, IsWhole, IsWithin, blanks, clock_words, joined, same, spaces, time, utc_words, words}

-- For time_at: a time at an offset in whole minutes is read as the instant.
pub shown_reads : (t : ℕ) (dt : DateTime) (o : Offset) → t ≤ last_second → IsWhole o.seconds
    → civil_nanos dt ≡ pos t *ℤ pos 1_000_000_000 +ℤ nanos_of_seconds o.seconds
    → parse_timestamp (iso_datetime_text dt ++ offset_text o) ≡ Ok (pos t *ℤ pos 1_000_000_000)
shown_reads t dt o h whole e =
    parse_timestamp-offset dt (record {
      nanosecond = pos t *ℤ pos 1_000_000_000;
      in_range = (omega (arith, signed_arith), omega (arith, signed_arith));
    }) o whole e

-- A datetime is within the minute to which it is truncated.
within_truncated : (dt : DateTime) (civil : Civil) → civil ≡ truncated dt → IsWithin civil dt
within_truncated dt civil e =
    subst (λ c. IsWithin c dt) (sym e) (record { year = refl; month = refl; day = refl; hour = refl; minute = refl })

-- For time_at: what a clock shows that is as far ahead as the zone's is what the zone's clock shows.
pub within_zone : (zone : Zone) (t : ℕ) (seconds : ℤ) (dt : DateTime) → IsOffsetSeconds seconds
    → zone_offset zone t ≡ seconds → civil_nanos dt ≡ pos t *ℤ pos 1_000_000_000 +ℤ nanos_of_seconds seconds
    → IsWithin (civil_at zone t) dt
within_zone zone t seconds dt range is e =
    within_truncated dt (civil_at zone t) (civil_at-truncated dt zone t (subst IsOffsetSeconds (sym is) range)
    (e ∙ ap (λ s. pos t *ℤ pos 1_000_000_000 +ℤ nanos_of_seconds s) (sym is)
    ∙ nanos_of_sum (pos t) (zone_offset zone t)))

-- For push_part: a text is shown as it is.
pub adds_same : (zone : Zone) (text old new : List ℕ) → new ≡ old ++ text → Adds zone text old new
adds_same zone text old new e = record { shown = text; by_clock = same text; is = e }

-- Two texts one after the other, of which each is shown, are shown.
pub adds_both : (zone : Zone) (text first second old mid new : List ℕ) → text ≡ first ++ second
    → Adds zone first old mid → Adds zone second mid new → Adds zone text old new
adds_both zone text first second old mid new parts one two = record {
  shown = one.shown ++ two.shown;
  by_clock = subst (λ xs. IsByClock zone xs (one.shown ++ two.shown)) (sym parts)
      (joined first second one.shown two.shown one.by_clock two.by_clock);
  is = two.is ∙ ap (λ xs. xs ++ two.shown) one.is ∙ append_assoc old one.shown two.shown;
}

-- For push_time: a part, and the instant behind it by the clock.
pub adds_time : (zone : Zone) (t : ℕ) (front text old mid new : List ℕ) → t ≤ last_second
    → IsTimeByClock zone t text → mid ≡ old ++ front → new ≡ mid ++ text
    → Adds zone (front ++ time_text_of t) old new
adds_time zone t front text old mid new h clock one two =
    adds_both zone (front ++ time_text_of t) front (time_text_of t) old mid new refl
    (adds_same zone front old mid one) (record { shown = text; by_clock = time t text h clock; is = two })

-- For push_wide: blanks are put behind a text.
pub adds_blanks : (zone : Zone) (text old mid new : List ℕ) → Adds zone text old mid → new ≡ mid ++ blanks
    → Adds zone text old new
adds_blanks zone text old mid new adds e =
    adds_both zone text text [] old mid new (sym (append-nil text)) adds
    (record { shown = blanks; by_clock = spaces; is = e })

-- For push_headed: the words of a heading between two texts.
pub adds_words : (zone : Zone) (front rest old before behind new : List ℕ) → Adds zone front old before
    → behind ≡ before ++ clock_words zone → Adds zone rest behind new
    → Adds zone (front ++ (utc_words ++ rest)) old new
adds_words zone front rest old before behind new one e two =
    let words_add : Adds zone utc_words before behind = record { shown = clock_words zone; by_clock = words; is = e } in
    adds_both zone (front ++ (utc_words ++ rest)) front (utc_words ++ rest) old before new refl one
    (adds_both zone (utc_words ++ rest) utc_words rest before behind new refl words_add two)

-- For text_by_clock: what is added to nothing.
pub adds_whole : (zone : Zone) (text new : List ℕ) → Adds zone text [] new → IsByClock zone text new
adds_whole zone text new adds = subst (λ xs. IsByClock zone text xs) (sym adds.is) adds.by_clock

-- For the loops: at first nothing is shown.
pub front_none : (zone : Zone) (text old : List ℕ) → AddsFront zone text text old old
front_none zone text old =
    record { front = []; parts = refl; adds = adds_same zone [] old old (sym (append-nil old)) }

-- For the loops: a part more is shown, and what follows it is left.
pub front_more : (zone : Zone) (text rest more old mid new : List ℕ) → AddsFront zone text rest old mid
    → AddsFront zone rest more mid new → AddsFront zone text more old new
front_more zone text rest more old mid new one two = record {
  front = one.front ++ two.front;
  parts = one.parts ∙ ap (λ xs. one.front ++ xs) two.parts ∙ sym (append_assoc one.front two.front more);
  adds = adds_both zone (one.front ++ two.front) one.front two.front old mid new refl one.adds two.adds;
}

-- For the loops: a part of the rest is shown.
pub front_part : (zone : Zone) (rest part more mid new : List ℕ) → rest ≡ part ++ more → Adds zone part mid new
    → AddsFront zone rest more mid new
front_part zone rest part more mid new parts adds = record { front = part; parts = parts; adds = adds }

-- For the loops: the rest is shown, so all of the text is.
pub front_all : (zone : Zone) (text rest old mid new : List ℕ) → AddsFront zone text rest old mid
    → Adds zone rest mid new → Adds zone text old new
front_all zone text rest old mid new one adds =
    adds_both zone text one.front rest old mid new one.parts one.adds adds
