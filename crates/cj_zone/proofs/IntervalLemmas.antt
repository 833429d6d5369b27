-- The clock of a rule goes by one of two offsets.
use Rattle.std.proofs.Common.{◌≡◌, ℕ, inl, inr, refl, sym, subst, ℤ, Bool, true, false, Option, None, Some, option_map, if◌then◌else◌, arith, pos, negsuc, w32, w64, unsigned_abs, ◌<◌}
use Rattle.jiff_core.specs.declared.Offset.{Offset}
use Rattle.jiff_tz.specs.declared.posix.Dst.{Dst}
use Rattle.jiff_tz.specs.declared.posix.TimeZone.{TimeZone as Rule}
use Rattle.jiff_tz.specs.PosixRule.{match_some, dst_at_by, in_window, utc_window}
use Rattle.jiff_tz.specs.PosixRule as PosixRule
use Rattle.jiff_tz.specs.Year.{year_of_nanos}
use Rattle.jiff_core.specs.Timestamp.{IsOffsetSeconds}
use Rattle.jiff_core.proofs.SignedLemmas.{signed_arith, back_small}
use mir.Val.{to_z, of_z}
use Rattle.cj_zone.specs.Interval.{IsOneOf, IsOffsetInterval, dst_seconds, other_seconds}
use Rattle.jiff_tz.specs.PosixText.{tz_view, dst_view}

-- Whether it is daylight saving time or not, the offset is one of the two.
pick : (std : Offset) (d : Dst) (b : Bool) → IsOneOf std.seconds d.offset.seconds
    (match_some (if b then Some d else None) std (λ d. d.offset)).seconds
pick std d true = inr refl
pick std d false = inl refl

-- The same of a rule that may have no daylight saving time.
by_dst : (std : Offset) (dst : Option Dst) (n : ℤ)
    → IsOneOf std.seconds (dst_seconds std.seconds (option_map dst_view dst))
    (match_some (dst_at_by std dst n) std (λ d. d.offset)).seconds
by_dst std None n = inl refl
by_dst std (Some d) n = pick std d (in_window (utc_window d (year_of_nanos n) std) n)

-- a rule's clock goes by one of two offsets
pub by_rule : (rule : Rule) (n : ℤ) → IsOneOf rule.std_offset.seconds (other_seconds (tz_view rule))
    (PosixRule.offset_at rule n).seconds
by_rule rule n = by_dst rule.std_offset rule.dst n

-- An offset is less than 26 hours either way, so that it fits.
offset_small : (z : ℤ) → IsOffsetSeconds z → unsigned_abs z < 93_600
offset_small (pos n) h = let low = h.0 in let high = h.1 in omega (arith, signed_arith)
offset_small (negsuc n) h = let low = h.0 in let high = h.1 in omega (arith, signed_arith)

-- an offset comes back from its bits as it was
pub back_offset : (z : ℤ) → IsOffsetSeconds z → to_z w64 (of_z w64 (to_z w32 (of_z w32 z))) ≡ z
back_offset z h =
    let small = offset_small z h in
    rw (back_small w32 z (omega arith)) (back_small w64 z (omega arith))

-- For of_rule: the second offset told is that of daylight saving time, where there is one.
pub other_back : (rule : Rule) (d : Dst) → rule.dst ≡ Some d
    → to_z w64 (of_z w64 (to_z w32 (of_z w32 d.offset.seconds))) ≡ other_seconds (tz_view rule)
other_back rule d e = rw (back_offset d.offset.seconds d.offset.in_range, e) refl

-- For of_rule: without daylight saving time the second offset told is the standard one.
pub none_back : (rule : Rule) → rule.dst ≡ None → to_z w64 (of_z w64 (to_z w32 (of_z w32 rule.std_offset.seconds)))
    ≡ other_seconds (tz_view rule)
none_back rule e = rw (back_offset rule.std_offset.seconds rule.std_offset.in_range, e) refl

-- An offset comes back from 64 bits as it was.
pub from_bits : (z : ℤ) → IsOffsetSeconds z → to_z w64 (of_z w64 z) ≡ z
from_bits z h = let small = offset_small z h in back_small w64 z (omega arith)

-- clocks that are always equally far ahead have the same intervals
pub same_clock : (f g : ℕ → ℤ) (one other : ℤ) (from last : ℕ) → ((t : ℕ) → f t ≡ g t)
    → IsOffsetInterval g one other from last
    → IsOffsetInterval f one other from last
same_clock f g one other from last same h = record {
  one_in = h.one_in;
  other_in = h.other_in;
  is_one_of = λ t above within. subst (IsOneOf one other) (sym (same t)) (h.is_one_of t above within);
}
