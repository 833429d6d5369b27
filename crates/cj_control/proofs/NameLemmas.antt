-- What stands before and behind the slash of a name.
use Rattle.std.proofs.Common.{◌≡◌, ◌≢◌, ℕ, suc, ◌<◌, false, Bor, Some, None, Result, Ok, Err, inl, inr, List, [], ◌∷◌, ◌++◌, refl, sym, ap, ◌∙◌, arith}
use Rattle.std.specs.Prelude.{◌==◌, IfOk, codes, get_or, length, if◌then◌else◌}
use Rattle.std.proofs.lemmas.Bool.Decides.{nat_tests}
use Rattle.std.proofs.lemmas.Str.Pattern.{IsSplitOnceResult, split_parts}
use Rattle.cj_control.specs.Lines.{whole}
use Rattle.serde_json.specs.Data.{Data}
use Rattle.serde_json.specs.View.{view}
use Rattle.cj_fence.specs.declared.objects.Job.{Job}
use Rattle.cj_control.specs.declared.calls.CronParts.{CronParts}
use Rattle.cj_control.specs.declared.sent.Request.{Request}
use Rattle.cj_control.specs.Created.{created_body}
use Rattle.cj_control.specs.Parts.{PostsIt, marks_of}
use Rattle.cj_control.specs.declared.sent.Verb.TheVariants as By
use Rattle.cj_control.specs.Sent.{IsRequest, event_path, events_path}
use Rattle.cj_control.specs.SentFor.{IsOfNoSync, PostsJob, name_in, namespace_in}

-- A byte that isn't the slash isn't it by the test.
no_slash : (c : ℕ) → (c ≡ 47 → ⊥) → (c == 47) ≡ false
no_slash c n = grind (arith, nat_tests)

-- For parts: what stands before the first slash.
pub before_slash : (xs ys : List ℕ) → ((i : ℕ) → i < length xs → get_or xs i 0 ≢ 47)
    → namespace_in (xs ++ (47 ∷ ys)) ≡ xs
before_slash [] ys free = refl
before_slash (x ∷ xs) ys free =
    ap (λ b. if b then [] else x ∷ namespace_in (xs ++ (47 ∷ ys))) (no_slash x (free 0 (omega arith)))
    ∙ ap (λ l. x ∷ l) (before_slash xs ys (λ i l. free (suc i) (omega arith)))

-- For parts: what stands behind it.
pub behind_slash : (xs ys : List ℕ) → ((i : ℕ) → i < length xs → get_or xs i 0 ≢ 47)
    → name_in (xs ++ (47 ∷ ys)) ≡ ys
behind_slash [] ys free = refl
behind_slash (x ∷ xs) ys free =
    ap (λ b. if b then xs ++ (47 ∷ ys) else name_in (xs ++ (47 ∷ ys))) (no_slash x (free 0 (omega arith)))
    ∙ behind_slash xs ys (λ i l. free (suc i) (omega arith))

-- For parts: where there is no slash, all stands before it.
pub all_before : (xs : List ℕ) → ((i : ℕ) → i < length xs → get_or xs i 0 ≢ 47) → namespace_in xs ≡ xs
all_before [] free = refl
all_before (x ∷ xs) free =
    ap (λ b. if b then [] else x ∷ namespace_in xs) (no_slash x (free 0 (omega arith)))
    ∙ ap (λ l. x ∷ l) (all_before xs (λ i l. free (suc i) (omega arith)))

-- For parts: and nothing behind it.
pub none_behind : (xs : List ℕ) → ((i : ℕ) → i < length xs → get_or xs i 0 ≢ 47) → name_in xs ≡ []
none_behind [] free = refl
none_behind (x ∷ xs) free =
    ap (λ b. if b then xs else name_in xs) (no_slash x (free 0 (omega arith)))
    ∙ none_behind xs (λ i l. free (suc i) (omega arith))

-- For parts: where the text is split.
pub parts_some : (bs : List ℕ) (x : Bor (List ℕ) × Bor (List ℕ)) → IsSplitOnceResult 47 bs (Some x)
    → (x.0.now ≡ namespace_in bs) × (x.1.now ≡ name_in bs)
parts_some bs x h =
    let p = split_parts 47 bs (Some x) h (omega arith) in
    (sym (ap namespace_in p.0 ∙ before_slash x.0.now x.1.now p.1), sym (ap name_in p.0 ∙ behind_slash x.0.now x.1.now p.1))

-- For parts: where it isn't.
pub parts_none : (bs : List ℕ) → IsSplitOnceResult 47 bs None → (bs ≡ namespace_in bs) × ([] ≡ name_in bs)
parts_none bs h =
    let p = split_parts 47 bs None h (omega arith) in (sym (all_before bs p), sym (none_behind bs p))

-- A byte that isn't the dot isn't it by the test.
no_dot : (c : ℕ) → (c ≡ 46 → ⊥) → (c == 46) ≡ false
no_dot c n = grind (arith, nat_tests)

-- For whole: what stands before the first dot, and a Z.
pub whole_before : (xs ys : List ℕ) → ((i : ℕ) → i < length xs → get_or xs i 0 ≢ 46)
    → whole (xs ++ (46 ∷ ys)) ≡ xs ++ codes "Z"
whole_before [] ys free = refl
whole_before (x ∷ xs) ys free =
    ap (λ b. if b then codes "Z" else x ∷ whole (xs ++ (46 ∷ ys))) (no_dot x (free 0 (omega arith)))
    ∙ ap (λ l. x ∷ l) (whole_before xs ys (λ i l. free (suc i) (omega arith)))

-- For whole: where there is no dot, all of it.
pub whole_all : (xs : List ℕ) → ((i : ℕ) → i < length xs → get_or xs i 0 ≢ 46) → whole xs ≡ xs
whole_all [] free = refl
whole_all (x ∷ xs) free =
    ap (λ b. if b then codes "Z" else x ∷ whole xs) (no_dot x (free 0 (omega arith)))
    ∙ ap (λ l. x ∷ l) (whole_all xs (λ i l. free (suc i) (omega arith)))

-- For whole: where the text is split.
pub whole_some : (bs : List ℕ) (x y : Bor (List ℕ)) → IsSplitOnceResult 46 bs (Some (x, y))
    → x.now ++ codes "Z" ≡ whole bs
whole_some bs x y h =
    let p = split_parts 46 bs (Some (x, y)) h (omega arith) in sym (ap whole p.0 ∙ whole_before x.now y.now p.1)

-- For whole: where it isn't.
pub whole_none : (bs : List ℕ) → IsSplitOnceResult 46 bs None → bs ≡ whole bs
whole_none bs h = sym (whole_all bs (split_parts 46 bs None h (omega arith)))

-- For create_request: the Job of a CronJob's template says what the call says.
pub posts_job : (s : CronParts) (n : List ℕ) (j : Job) (r : Request) → PostsIt s n j r → PostsJob n j r
posts_job s n j r p = (
  created_body s.api s.head (name_in n) (marks_of s j) s.by (view s.template),
  record {
    api = s.api;
    head = s.head;
    marks = marks_of s j;
    by = s.by;
    template = view s.template;
    is = refl;
    placed = p.of.placed;
    owner = p.of.owner;
    time = refl;
    policy = refl;
  },
  p.is,
)

-- For event: a POST of an Event is of no sync.
pub event_of_no_sync : {E : Type 0} (namespace : List ℕ) (body : Data) (r : Result Request E)
    → IfOk r (IsRequest By.Post (events_path namespace) (Some body)) → IfOk r IsOfNoSync
event_of_no_sync namespace body (Ok r) h = inr (inl (namespace, body, h))
event_of_no_sync namespace body (Err e) h = tt

-- For event_patch: a merge patch of an Event is of no sync.
pub event_patch_of_no_sync : {E : Type 0} (namespace name : List ℕ) (body : Data) (r : Result Request E)
    → IfOk r (IsRequest By.MergePatch (event_path namespace name) (Some body)) → IfOk r IsOfNoSync
event_patch_of_no_sync namespace name body (Ok r) h = inr (inr (namespace, name, body, h))
event_patch_of_no_sync namespace name body (Err e) h = tt
