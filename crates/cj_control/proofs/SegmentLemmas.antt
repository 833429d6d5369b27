-- Which bytes of a name stay as they are in a path.
use Rattle.std.proofs.Common.{◌≡◌, ◌≢◌, ◌∙◌, ◌<◌, ℕ, true, false, not, true≢false, refl, sym, ap, arith}
use Rattle.std.specs.Prelude.{IsTrue}
use Rattle.std.proofs.lemmas.Bool.{agree_below, agree_below_at}
use Rattle.std.proofs.lemmas.Bool.Decides.{nat_tests}
use Rattle.std.proofs.lemmas.List.Elements.{All-weaker}
use Rattle.percent_encoding.specs.AsciiSet.{contains, should_percent_encode}
use Rattle.percent_encoding.specs.Percent.{IsKept}
use Rattle.percent_encoding.proofs.AsciiSetLemmas.{escaped_from_inside, kept_from_outside}
use Rattle.percent_encoding.proofs.PercentLemmas.{All-percent_encode, IsEscapeByte, percent_encode_unchanged, round_trip}
use Rattle.cj_control.specs.declared.sent.TheConstants.{SEGMENT}
use Rattle.cj_control.specs.Sent.{SegmentLaw, is_unreserved}

-- The set has the ASCII bytes that aren't unreserved.
set_bytes : agree_below (contains SEGMENT) (λ b. not (is_unreserved b)) 128 ≡ true
set_bytes = refl

-- Unreserved bytes are ASCII.
unreserved_is_ascii : (b : ℕ) → is_unreserved b ≡ true → b < 128
unreserved_is_ascii b u = grind (arith, nat_tests)

-- Unreserved bytes stay as they are.
unreserved_is_kept : (b : ℕ) → is_unreserved b ≡ true → IsKept SEGMENT b
unreserved_is_kept b u =
    let small = unreserved_is_ascii b u in
    kept_from_outside SEGMENT b small
    (agree_below_at (contains SEGMENT) (λ k. not (is_unreserved k)) 128 b set_bytes small ∙ ap not u)

-- A byte that stays as it is is no slash.
kept_is_no_slash : (b : ℕ) → should_percent_encode SEGMENT b ≡ false → b ≢ 47
kept_is_no_slash b kept is =
    true≢false (sym (escaped_from_inside SEGMENT 47 refl) ∙ sym (ap (should_percent_encode SEGMENT) is) ∙ kept)

-- Nor is a byte of an escape.
escape_is_no_slash : (b : ℕ) → IsEscapeByte b → b ≢ 47
escape_is_no_slash b h is = grind arith

-- For segment_law.
pub segments : SegmentLaw
segments name = record {
  same = λ all.
      percent_encode_unchanged SEGMENT name
      (All-weaker (λ b. IsTrue (is_unreserved b)) (IsKept SEGMENT) unreserved_is_kept name all);
  whole = All-percent_encode (λ b. b ≢ 47) SEGMENT name kept_is_no_slash escape_is_no_slash;
  back = λ small. round_trip SEGMENT name refl small;
}
