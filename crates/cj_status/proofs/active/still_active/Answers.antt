-- still_active: a turn of its loop keeps the loop's invariant, which its clause ok follows from.
use Rattle.std.proofs.Common.{◌≡◌, ◌∙◌, ap, sym, refl, ℕ, ◌+◌, ◌<◌, zero, suc, Bool, true, false, cond, List, [], ◌∷◌, ◌++◌, drop, length, Option, None, arith, append_assoc, add-one, get_or}
use Rattle.std.proofs.Math.Seq.{drop-cons}
use Rattle.cj_types.specs.declared.job.Job.{Job}
use Rattle.cj_types.specs.Uids.{uid_text}
use Rattle.cj_status.specs.Active.{is_found, still_active}
use Rattle.cj_status.proofs.active.still_active.Goals as goal

-- Of names for which nothing was found none is still active.
none_found : (uid : List ℕ) (names : List (List ℕ)) → still_active uid names [] ≡ []
none_found uid [] = refl
none_found uid (name ∷ names) = refl

-- by what was found for the first of the names
first_by : (uid name : List ℕ) (names : List (List ℕ)) (found : List (Option Job)) (i : ℕ)
    → still_active uid (name ∷ names) (drop i found)
    ≡ cond (is_found uid name (get_or found i None)) (name ∷ still_active uid names (drop (suc i) found))
    (still_active uid names (drop (suc i) found))
first_by uid name names [] zero = sym (none_found uid names)
first_by uid name names [] (suc i) = sym (none_found uid names)
first_by uid name names (one ∷ found) zero = refl
first_by uid name names (one ∷ found) (suc i) = first_by uid name names found i

-- A name that is kept or not is behind those put down just as it is before the rest.
kept_first : (b : Bool) (name : List ℕ) (done rest : List (List ℕ)) → cond b (done ++ name ∷ []) done ++ rest ≡ done
    ++ cond b (name ∷ rest) rest
kept_first true name done rest = append_assoc done (name ∷ []) rest
kept_first false name done rest = refl

-- For a turn of the loop: with the name put down, if its Job was found unfinished, the names and
-- those still active of the rest are the same answer.
names_more : (uid name text : List ℕ) (names : List (List ℕ)) (found : List (Option Job)) (i : ℕ) (keeps : Bool)
    (done more all : List (List ℕ))
    → name ≡ get_or names i name → i < length names → text ≡ name → keeps ≡ is_found uid text (get_or found i None)
    → done ++ still_active uid (drop i names) (drop i found) ≡ all → more ≡ cond keeps (done ++ name ∷ []) done
    → more ++ still_active uid (drop (i + 1) names) (drop (i + 1) found) ≡ all
names_more uid name text names found i keeps done more all e h t f k m =
    let rest = still_active uid (drop (suc i) names) (drop (suc i) found) in
    let d : drop i names ≡ name ∷ drop (suc i) names = drop-cons names i name h
    ∙ ap (λ x. x ∷ drop (suc i) names) (sym e) in
    let g : keeps ≡ is_found uid name (get_or found i None) = f ∙ ap (λ x. is_found uid x (get_or found i None)) t in
    ap (λ l. l ++ still_active uid (drop (i + 1) names) (drop (i + 1) found)) m
    ∙ ap (λ n. cond keeps (done ++ name ∷ []) done ++ still_active uid (drop n names) (drop n found)) (add-one i)
    ∙ kept_first keeps name done rest
    ∙ ap (λ b. done ++ cond b (name ∷ rest) rest) g
    ∙ ap (λ l. done ++ l) (sym (first_by uid name (drop (suc i) names) found i))
    ∙ ap (λ l. done ++ still_active uid l (drop i found)) (sym d) ∙ k

pub loop-i-preserved : goal.loop-i-preserved
loop-i-preserved c =
    let same_length = ap length c.as_slice-name-items.ensures in
    names_more (uid_text c.args.uid.now) c.name-item.result c.as_str.result.now c.args.names.now
    c.args.found.now c.loop-i.i c.is_found_at-keeps.result c.loop-i.all _ _
    (c.name-item.is ∙ ap (λ l. get_or l c.loop-i.i c.name-item.result) c.as_slice-name-items.ensures)
    (omega (arith, same_length)) c.as_str.ensures.value c.is_found_at-keeps.ensures c.loop-i.invariant
    c.in_ok-push_kept.ensures.ok
