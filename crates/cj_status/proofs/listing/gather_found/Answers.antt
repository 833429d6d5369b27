-- gather_found: a turn of its loop keeps the loop's invariant, which its clause ok follows from.
use Rattle.std.proofs.Common.{◌≡◌, ◌∙◌, ap, sym, refl, ℕ, ◌+◌, ◌<◌, suc, Bool, true, false, cond, List, [], ◌∷◌, ◌++◌, drop, length, map, filter, Option, None, Some, arith, append_assoc, add-one, get_or}
use Rattle.std.proofs.Math.Seq.{drop-cons}
use Rattle.cj_types.specs.declared.job.Job.{Job}
use Rattle.cj_types.specs.Uids.{uid_text}
use Rattle.cj_status.specs.declared.refs.JobRef.{JobRef}
use Rattle.cj_status.specs.Mine.{is_running, present}
use Rattle.cj_status.specs.Picked.{gathered}
use Rattle.cj_status.specs.Refs.{ref}
use Rattle.cj_status.proofs.listing.gather_found.Goals as goal

-- one that was found, and the rest
apart : (p : Job → Bool) (one : Option Job) (rest : List (Option Job)) → gathered p (present (one ∷ rest))
    ≡ gathered p (present (one ∷ [])) ++ gathered p (present rest)
apart p None rest = refl
apart p (Some job) rest =
    elim (p job) as (λ b. map ref (cond b (job ∷ filter p (present rest)) (filter p (present rest)))
    ≡ map ref (cond b (job ∷ []) []) ++ map ref (filter p (present rest))) [
      | true ↦ refl
      | false ↦ refl
    ]

-- For a turn of the loop: with the Job added, if it was found and passes, the items and those that
-- pass of the rest are the same answer.
found_more : (p : Job → Bool) (found : List (Option Job)) (i : ℕ) (one : Option Job) (done more all : List JobRef)
    → one ≡ get_or found i one → i < length found → done ++ gathered p (present (drop i found)) ≡ all
    → more ≡ done ++ gathered p (present (one ∷ []))
    → more ++ gathered p (present (drop (i + 1) found)) ≡ all
found_more p found i one done more all e h k m =
    let d : drop i found ≡ one ∷ drop (suc i) found = drop-cons found i one h ∙ ap (λ x. x ∷ drop (suc i) found) (sym e)
    in
    let some = gathered p (present (one ∷ [])) in
    ap (λ l. l ++ gathered p (present (drop (i + 1) found))) m ∙ append_assoc done some
    (gathered p (present (drop (i + 1) found)))
    ∙ ap (λ n. done ++ (some ++ gathered p (present (drop n found)))) (add-one i)
    ∙ ap (λ l. done ++ l) (sym (apart p one (drop (suc i) found))) ∙ ap (λ l. done ++ gathered p (present l)) (sym d)
    ∙ k

pub loop-one-preserved : goal.loop-one-preserved
loop-one-preserved c =
    found_more (is_running (uid_text c.args.uid.now)) c.args.found.now c.loop-one.one-index c.one-item.result
    c.loop-one.items.items _ _ c.one-item.is (omega arith) c.loop-one.invariant c.in_ok-push_running.ensures.ok
