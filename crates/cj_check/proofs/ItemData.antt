-- What is found of the items of a list, one after another.
use Rattle.std.proofs.Common.{◌≡◌, ◌<◌, ◌≤◌, ◌+◌, ◌∙◌, ℕ, suc, List, [], ◌∷◌, ◌++◌, length, drop, get_or, sym, ap, subst, append_assoc, append-nil, arith}
use Rattle.std.proofs.lemmas.List.{drop_all}
use Rattle.std.proofs.Math.Seq.{drop-cons}
use Rattle.serde_json.specs.Data.{Data}
use Rattle.cj_zone.specs.declared.zone.Zone.{Zone}
use Rattle.cj_check.specs.Seen.{IsItem, IsNoneSeen}
use Rattle.cj_check.specs.AsJson.{AreItemData, IsItemTold}
use Rattle.cj_check.specs.declared.seen.SeenKeys.{SeenKeys}

-- with the values of the rest behind these, from a place on, they are those of all, of items behind none
pub record Leads (zones : List Zone) (all : List (List ℕ)) (seen : SeenKeys) (place : ℕ) (rest : List (List ℕ))
    (values : List Data) : Type 0 where
  pub start : SeenKeys
  pub none : IsNoneSeen start
  pub whole : (more : List Data) → AreItemData zones seen place rest more
      → AreItemData zones start 1 all (values ++ more)

-- For list_reports: before the first item there is no value.
pub leads_none : (zones : List Zone) (all : List (List ℕ)) (seen : SeenKeys) (values : List Data) → values ≡ []
    → IsNoneSeen seen
    → Leads zones all seen 1 all values
leads_none zones all seen values is none = record {
  start = seen;
  none = none;
  whole = λ more h. subst (λ xs. AreItemData zones seen 1 all (xs ++ more)) (sym is) h;
}

-- From one of its places on a list is what stands there and the rest behind it.
rest_at : (texts : List (List ℕ)) (i : ℕ) (x : List ℕ) → i < length texts → x ≡ get_or texts i x
    → drop i texts ≡ x ∷ drop (i + 1) texts
rest_at texts i x inside at =
    let next : suc i ≡ i + 1 = omega arith in
    drop-cons texts i x inside ∙ ap (λ y. y ∷ drop (suc i) texts) (sym at) ∙ ap (λ n. x ∷ drop n texts) next

-- With the value of the next item the values go on.
leads_item : (zones : List Zone) (all : List (List ℕ)) (seen later : SeenKeys) (place : ℕ) (rest : List (List ℕ))
    (text : List ℕ)
    (values : List Data) (d : Data) → Leads zones all seen place (text ∷ rest) values
    → IsItem zones seen later text (IsItemTold zones place text d)
    → Leads zones all later (place + 1) rest (values ++ d ∷ [])
leads_item zones all seen later place rest text values d leads is = record {
  start = leads.start;
  none = leads.none;
  whole = λ more h. subst (AreItemData zones leads.start 1 all) (sym (append_assoc values (d ∷ []) more))
      (leads.whole (d ∷ more) (record { later = later; item = is; rest = h }));
}

-- For list_reports: so it is with the item at a place.
pub leads_at : (zones : List Zone) (texts : List (List ℕ)) (seen later : SeenKeys) (i place : ℕ) (x : List ℕ)
    (values : List Data) (d : Data) (longer : List Data) → i < length texts → x ≡ get_or texts i x
    → Leads zones texts seen place (drop i texts) values → IsItem zones seen later x (IsItemTold zones place x d)
    → longer ≡ values ++ d ∷ [] → Leads zones texts later (place + 1) (drop (i + 1) texts) longer
leads_at zones texts seen later i place x values d longer inside at leads is longer_is =
    subst (Leads zones texts later (place + 1) (drop (i + 1) texts)) (sym longer_is)
    (leads_item zones texts seen later place (drop (i + 1) texts) x values d
    (subst (λ xs. Leads zones texts seen place xs values) (rest_at texts i x inside at) leads) is)

-- For list_reports: behind the last item they are those of all.
pub leads_end : (zones : List Zone) (texts : List (List ℕ)) (seen : SeenKeys) (i place : ℕ) (values : List Data)
    → length texts ≤ i → Leads zones texts seen place (drop i texts) values
    → (start : SeenKeys) × IsNoneSeen start × AreItemData zones start 1 texts values
leads_end zones texts seen i place values past leads =
    let done : Leads zones texts seen place [] values =
    subst (λ xs. Leads zones texts seen place xs values) (drop_all i texts past) leads in
    (done.start, done.none, subst (AreItemData zones done.start 1 texts) (append-nil values) (done.whole [] tt))
