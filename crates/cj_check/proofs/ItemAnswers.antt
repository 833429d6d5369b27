-- What the items of a list are answered, one after another.
use Rattle.std.proofs.Common.{◌≡◌, ◌<◌, ◌≤◌, ◌+◌, ◌∙◌, ℕ, suc, List, [], ◌∷◌, ◌++◌, length, drop, get_or, sym, ap, subst, append_assoc, append-nil, arith}
use Rattle.std.proofs.lemmas.List.{drop_all}
use Rattle.std.proofs.Math.Seq.{drop-cons}
use Rattle.cj_args.specs.declared.request.CheckRequest.{CheckRequest}
use Rattle.cj_zone.specs.declared.zone.Zone.{Zone}
use Rattle.cj_check.specs.CheckList.{AreChecked, IsItemAnswer}
use Rattle.cj_answers.specs.Outcome.{outcome_of}
use Rattle.cj_check.specs.Seen.{IsItem, IsNoneSeen}
use Rattle.cj_check.specs.declared.seen.SeenKeys.{SeenKeys}
use Rattle.cj_answers.specs.declared.answer.Answer.{Answer}

-- with the answers of the rest behind these, they are those of all, of items behind none
pub record Begins (r : CheckRequest) (zones : List Zone) (all : List (List ℕ)) (seen : SeenKeys) (rest : List (List ℕ))
    (answers : List Answer) : Type 0 where
  pub start : SeenKeys
  pub none : IsNoneSeen start
  pub whole : (more : List Answer) → AreChecked r zones seen rest more → AreChecked r zones start all (answers ++ more)

-- For list_reports: before the first item there is no answer.
pub begins_none : (r : CheckRequest) (zones : List Zone) (all : List (List ℕ)) (seen : SeenKeys) (answers : List Answer)
    → answers ≡ [] → IsNoneSeen seen → Begins r zones all seen all answers
begins_none r zones all seen answers is none = record {
  start = seen;
  none = none;
  whole = λ more h. subst (λ xs. AreChecked r zones seen all (xs ++ more)) (sym is) h;
}

-- From one of its places on a list is what stands there and the rest behind it.
rest_at : (texts : List (List ℕ)) (i : ℕ) (x : List ℕ) → i < length texts → x ≡ get_or texts i x
    → drop i texts ≡ x ∷ drop (i + 1) texts
rest_at texts i x inside at =
    let next : suc i ≡ i + 1 = omega arith in
    drop-cons texts i x inside ∙ ap (λ y. y ∷ drop (suc i) texts) (sym at) ∙ ap (λ n. x ∷ drop n texts) next

-- With the answer of the next item the answers go on.
begins_item : (r : CheckRequest) (zones : List Zone) (all : List (List ℕ)) (seen later : SeenKeys)
    (rest : List (List ℕ))
    (text : List ℕ) (answers : List Answer) (a : Answer) → Begins r zones all seen (text ∷ rest) answers
    → IsItem zones seen later text (IsItemAnswer r zones text (outcome_of a))
    → Begins r zones all later rest (answers ++ a ∷ [])
begins_item r zones all seen later rest text answers a begins is = record {
  start = begins.start;
  none = begins.none;
  whole = λ more h. subst (AreChecked r zones begins.start all) (sym (append_assoc answers (a ∷ []) more))
      (begins.whole (a ∷ more) (record { later = later; item = is; rest = h }));
}

-- For list_reports: so it is with the item at a place.
pub begins_at : (r : CheckRequest) (zones : List Zone) (texts : List (List ℕ)) (seen later : SeenKeys) (i : ℕ)
    (x : List ℕ)
    (answers : List Answer) (a : Answer) (longer : List Answer) → i < length texts → x ≡ get_or texts i x
    → Begins r zones texts seen (drop i texts) answers
    → IsItem zones seen later x (IsItemAnswer r zones x (outcome_of a)) → longer ≡ answers ++ a ∷ []
    → Begins r zones texts later (drop (i + 1) texts) longer
begins_at r zones texts seen later i x answers a longer inside at begins is longer_is =
    subst (Begins r zones texts later (drop (i + 1) texts)) (sym longer_is)
    (begins_item r zones texts seen later (drop (i + 1) texts) x answers a
    (subst (λ xs. Begins r zones texts seen xs answers) (rest_at texts i x inside at) begins) is)

-- For list_reports: behind the last item they are the answers of all.
pub begins_end : (r : CheckRequest) (zones : List Zone) (texts : List (List ℕ)) (seen : SeenKeys) (i : ℕ)
    (answers : List Answer)
    → length texts ≤ i → Begins r zones texts seen (drop i texts) answers
    → (start : SeenKeys) × IsNoneSeen start × AreChecked r zones start texts answers
begins_end r zones texts seen i answers past begins =
    let done : Begins r zones texts seen [] answers =
    subst (λ xs. Begins r zones texts seen xs answers) (drop_all i texts past) begins in
    (done.start, done.none, subst (AreChecked r zones done.start texts) (append-nil answers) (done.whole [] tt))
