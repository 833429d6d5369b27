-- fence_law: its ensures, that whoever calls what, once, alone, claimed and rising hold, and that no call takes the
-- last success back; and the samples.
use Rattle.cj_fence.proofs.laws.fence_law.Goals as goal
use Rattle.cj_fence.proofs.FenceLemmas.Whole.{fenced}
use Rattle.cj_fence.proofs.FenceLemmas.Success.{success_kept}
use Rattle.cj_fence.proofs.FenceLemmas.Samples.{not_under_forbid, not_again, not_by_name, not_at_once, whole_is_legal, whole_follows, whole_keeps_to, another_name, one_may_start, one_starts, two_helps, late_start, late_is_refused, not_beside, first_deletes, then_starts, helper_waits, helper_deletes, adopts, not_adopted, other_policy, no_other, not_left_out, is_conflict, nothing_made, not_garbage, not_by_cache, created_is_legal, not_started_so, rows_late, takes_another, not_refused, counts_once, drops_nameless, no_name, no_version, orphan_keeps_to, orphan_breaks, not_of_another, sends_success, success_is_written, success_stays, no_earlier_success, no_same_success, not_for_nothing}

pub returns-clause-fence : goal.returns-clause-fence
returns-clause-fence c =
    let n0 = not_under_forbid in
    let n1 = not_again in
    let n2 = not_by_name in
    let n3 = not_at_once in
    let l = whole_is_legal in
    let f = whole_follows in
    let k = whole_keeps_to in
    let s = another_name in
    let s0 = one_may_start in
    let s1 = one_starts in
    let s2 = two_helps in
    let s3 = late_start in
    let s4 = late_is_refused in
    let s5 = not_beside in
    let s6 = first_deletes in
    let s7 = then_starts in
    let s8 = helper_waits in
    let s9 = helper_deletes in
    let s10 = adopts in
    let s11 = not_adopted in
    let s12 = other_policy in
    let s13 = no_other in
    let s14 = not_left_out in
    let s15 = is_conflict in
    let s16 = nothing_made in
    let s17 = not_garbage in
    let s18 = not_by_cache in
    let s19 = created_is_legal in
    let s20 = not_started_so in
    let s21 = rows_late in
    let s22 = takes_another in
    let s23 = not_refused in
    let s24 = counts_once in
    let s25 = drops_nameless in
    let s26 = no_name in
    let s27 = no_version in
    let s28 = orphan_keeps_to in
    let s29 = orphan_breaks in
    let s30 = not_of_another in
    fenced

pub returns-clause-success : goal.returns-clause-success
returns-clause-success c =
    let s0 = sends_success in
    let s1 = success_is_written in
    let s2 = success_stays in
    let s3 = no_earlier_success in
    let s4 = no_same_success in
    let s5 = not_for_nothing in
    success_kept
