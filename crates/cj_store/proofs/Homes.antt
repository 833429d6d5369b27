-- Uids and versions of the current objects, after a write of one of them.
use Rattle.std.proofs.Common.{◌≡◌, ◌⊎◌, inl, inr, ℕ, ◌+◌, ◌≤◌, Option, Some, None, refl, sym, ap, ◌∙◌, subst, arith}
use Rattle.std.specs.Option.{option_map}
use Rattle.std.specs.FinMap as map
use Rattle.cj_types.specs.Keys.{Place, place_cmp}
use Rattle.cj_types.specs.declared.cron.CronJob.{CronJob}
use Rattle.cj_types.specs.declared.job.Job.{Job}
use Rattle.cj_types.specs.declared.meta.Meta.{Meta}
use Rattle.cj_table.proofs.Puts.{put_split, removal_split}
use Rattle.cj_store.specs.Content.{Content, Home, CronAt, JobAt, meta_at, uid_at, IsCounted, HasOwnUids}

-- an object with this metadata stands at the place, else all is as it was
abbrev pub PutAt : Content → Content → Home → Meta → Type 0
PutAt s t home m = (h : Home) → ((h ≡ home) × (meta_at t h ≡ Some m)) ⊎ (meta_at t h ≡ meta_at s h)

-- no object is new
abbrev pub RemovedAt : Content → Content → Type 0
RemovedAt s t = (h : Home) → (meta_at t h ≡ None) ⊎ (meta_at t h ≡ meta_at s h)

-- the uid is the next one, or that of the object that stands there
abbrev pub Given : Content → Home → Meta → Type 0
Given s home m = (m.uid ≡ s.uids + 1) ⊎ (uid_at s home ≡ Some m.uid)

-- Metadata that two equal options have are equal.
some_is : (a b : Meta) → ◌≡◌ {A = Option Meta} (Some a) (Some b) → a ≡ b
some_is a b e = cc

-- For counted_put: the numbers of an object, the one put or another, are within the counts.
counted_by : (s t : Content) (home : Home) (m : Meta) → IsCounted s → s.version ≤ t.version → s.uids ≤ t.uids
    → m.version ≤ t.version → m.uid ≤ t.uids
    → (h : Home) (x : Meta) → ((h ≡ home) × (meta_at t h ≡ Some m)) ⊎ (meta_at t h ≡ meta_at s h) → meta_at t h ≡ Some x
    → (x.version ≤ t.version) × (x.uid ≤ t.uids)
counted_by s t home m old later more version uid h x (inl e) is =
    subst (λ (y : Meta). (y.version ≤ t.version) × (y.uid ≤ t.uids)) (some_is m x (sym e.1 ∙ is)) (version, uid)
counted_by s t home m old later more version uid h x (inr e) is =
    let was = old h x (sym e ∙ is) in
    let a : x.version ≤ s.version = was.0 in
    let b : x.uid ≤ s.uids = was.1 in
    (omega arith, omega arith)

-- With an object put whose uid and version are within the counts, those of all objects are.
pub counted_put : (s t : Content) (home : Home) (m : Meta) → IsCounted s → PutAt s t home m → s.version ≤ t.version
    → s.uids ≤ t.uids → m.version ≤ t.version → m.uid ≤ t.uids → IsCounted t
counted_put s t home m old put later more version uid = λ h x is. counted_by s t home m old later more version uid h x
    (put h) is

-- For counted_removal: the uid and version of an object that is left are within the counts.
counted_left : (s t : Content) → IsCounted s → s.version ≤ t.version → s.uids ≤ t.uids
    → (h : Home) (x : Meta) → (meta_at t h ≡ None) ⊎ (meta_at t h ≡ meta_at s h) → meta_at t h ≡ Some x
    → (x.version ≤ t.version) × (x.uid ≤ t.uids)
counted_left s t old later more h x (inl e) is = absurd (let none : None ≡ Some x = sym e ∙ is in cc)
counted_left s t old later more h x (inr e) is =
    let was = old h x (sym e ∙ is) in
    let a : x.version ≤ s.version = was.0 in
    let b : x.uid ≤ s.uids = was.1 in
    (omega arith, omega arith)

-- After a deletion the uids and versions of all objects are within the counts still.
pub counted_removal : (s t : Content) → IsCounted s → RemovedAt s t → s.version ≤ t.version → s.uids ≤ t.uids
    → IsCounted t
counted_removal s t old removal later more = λ h x is. counted_left s t old later more h x (removal h) is

-- an object with that uid is the one at the place
there_by : (s : Content) (home h : Home) (b : Meta) (u : ℕ) (o : Option Meta) → meta_at s home ≡ o → HasOwnUids s
    → option_map (λ (m : Meta). m.uid) o ≡ Some u → meta_at s h ≡ Some b → u ≡ b.uid → home ≡ h
there_by s home h b u None at own e is same = absurd (cc e)
there_by s home h b u (Some a) at own e is same = own home h a b at is (let f : a.uid ≡ u = cc e in f ∙ same)

-- An object that has the uid of one that is put stands at its place.
mine : (s : Content) (home : Home) (m : Meta) → IsCounted s → HasOwnUids s → Given s home m → (h : Home) (b : Meta)
    → meta_at s h ≡ Some b → m.uid ≡ b.uid → home ≡ h
mine s home m counted own (inl new) h b is same = absurd (let at : b.uid ≤ s.uids = (counted h b is).1 in omega arith)
mine s home m counted own (inr old) h b is same = there_by s home h b m.uid (meta_at s home) refl own old is same

-- For own_put: two objects with one uid stand at one place, be either of them the one put or not.
own_by : (s t : Content) (home : Home) (m : Meta) → IsCounted s → HasOwnUids s → Given s home m
    → (g h : Home) (a b : Meta)
    → ((g ≡ home) × (meta_at t g ≡ Some m)) ⊎ (meta_at t g ≡ meta_at s g)
    → ((h ≡ home) × (meta_at t h ≡ Some m)) ⊎ (meta_at t h ≡ meta_at s h)
    → meta_at t g ≡ Some a → meta_at t h ≡ Some b → a.uid ≡ b.uid → g ≡ h
own_by s t home m counted own given g h a b (inl e) (inl f) x y same = e.0 ∙ sym f.0
own_by s t home m counted own given g h a b (inl e) (inr f) x y same =
    e.0 ∙ mine s home m counted own given h b (sym f ∙ y) (ap (λ (z : Meta). z.uid) (some_is m a (sym e.1 ∙ x)) ∙ same)
own_by s t home m counted own given g h a b (inr e) (inl f) x y same =
    sym (f.0 ∙ mine s home m counted own given g a (sym e ∙ x) (ap (λ (z : Meta). z.uid) (some_is m b (sym f.1 ∙ y))
    ∙ sym same))
own_by s t home m counted own given g h a b (inr e) (inr f) x y same = own g h a b (sym e ∙ x) (sym f ∙ y) same

-- With an object put that has the next uid, or its old one, no two objects have one uid.
pub own_put : (s t : Content) (home : Home) (m : Meta) → IsCounted s → HasOwnUids s → PutAt s t home m → Given s home m
    → HasOwnUids t
own_put s t home m counted own put given = λ g h a b x y same. own_by s t home m counted own given g h a b (put g)
    (put h) x y same

-- An object that stands after a deletion stood there before.
left : (s t : Content) (h : Home) (a : Meta) → (meta_at t h ≡ None) ⊎ (meta_at t h ≡ meta_at s h) → meta_at t h ≡ Some a
    → meta_at s h ≡ Some a
left s t h a (inl e) x = absurd (let none : None ≡ Some a = sym e ∙ x in cc)
left s t h a (inr e) x = sym e ∙ x

-- After a deletion no two objects have one uid still.
pub own_removal : (s t : Content) → HasOwnUids s → RemovedAt s t → HasOwnUids t
own_removal s t own removal = λ g h a b x y same. own g h a b (left s t g a (removal g) x) (left s t h b (removal h) y)
    same

-- ---- the writes

-- the content with other objects of one kind, after one write more
abbrev pub with_crons : Content → map.FinMap place_cmp CronJob → ℕ → Content
with_crons s crons uids = record { crons = crons; jobs = s.jobs; version = s.version + 1; uids = uids }

abbrev pub with_jobs : Content → map.FinMap place_cmp Job → ℕ → Content
with_jobs s jobs uids = record { crons = s.crons; jobs = jobs; version = s.version + 1; uids = uids }

module _ {X : Type 0} (f : X → Meta) (home : Place → Home) where
  -- For put_home: the same, from what the map has at q after the insert.
  put_by : (m n : map.FinMap place_cmp X) (k : Place) (v : X) (q : Place) → map.get n q ≡ map.get (map.insert m k v) q
      → ((q ≡ k) × (map.get (map.insert m k v) q ≡ Some v)) ⊎ (map.get (map.insert m k v) q ≡ map.get m q)
      → ((home q ≡ home k) × (option_map f (map.get n q) ≡ Some (f v)))
      ⊎ (option_map f (map.get n q) ≡ option_map f (map.get m q))
  put_by m n k v q e (inl x) = inl (ap home x.0, ap (option_map f) (e ∙ x.1))
  put_by m n k v q e (inr x) = inr (ap (option_map f) (e ∙ x))

  -- With an object put at k, q's place is k's and has its metadata, or q has the one of before.
  put_home : (m n : map.FinMap place_cmp X) (k : Place) (v : X) (q : Place) → n ≡ map.insert m k v
      → ((home q ≡ home k) × (option_map f (map.get n q) ≡ Some (f v)))
      ⊎ (option_map f (map.get n q) ≡ option_map f (map.get m q))
  put_home m n k v q e = put_by m n k v q (ap (λ (t : map.FinMap place_cmp X). map.get t q) e) (put_split m k v q)

  -- For removal_home: the same, from what the map has at q after the removal.
  removal_by : (m n : map.FinMap place_cmp X) (k q : Place) → map.get n q ≡ map.get (map.remove m k) q
      → ((q ≡ k) × (map.get (map.remove m k) q ≡ None)) ⊎ (map.get (map.remove m k) q ≡ map.get m q)
      → (option_map f (map.get n q) ≡ None) ⊎ (option_map f (map.get n q) ≡ option_map f (map.get m q))
  removal_by m n k q e (inl x) = inl (ap (option_map f) (e ∙ x.1))
  removal_by m n k q e (inr x) = inr (ap (option_map f) (e ∙ x))

  -- With the object at k removed, q has no metadata, or that of before.
  removal_home : (m n : map.FinMap place_cmp X) (k q : Place) → n ≡ map.remove m k
      → (option_map f (map.get n q) ≡ None) ⊎ (option_map f (map.get n q) ≡ option_map f (map.get m q))
  removal_home m n k q e = removal_by m n k q (ap (λ (t : map.FinMap place_cmp X). map.get t q) e) (removal_split m k q)

-- With a CronJob put at a key its metadata is at that place, and all else as it was.
pub cron_put : (s : Content) (n : map.FinMap place_cmp CronJob) (k : Place) (c : CronJob) (u : ℕ)
    → n ≡ map.insert s.crons k c → PutAt s (with_crons s n u) (CronAt k) c.meta
cron_put s n k c u e (CronAt q) = put_home (λ (x : CronJob). x.meta) CronAt s.crons n k c q e
cron_put s n k c u e (JobAt q) = inr refl

-- With a Job put at a key its metadata is at that place, and all else as it was.
pub job_put : (s : Content) (n : map.FinMap place_cmp Job) (k : Place) (j : Job) (u : ℕ) → n ≡ map.insert s.jobs k j
    → PutAt s (with_jobs s n u) (JobAt k) j.meta
job_put s n k j u e (CronAt q) = inr refl
job_put s n k j u e (JobAt q) = put_home (λ (x : Job). x.meta) JobAt s.jobs n k j q e

-- A removal of a key's CronJob leaves each place as it was or without an object.
pub cron_removal : (s : Content) (n : map.FinMap place_cmp CronJob) (k : Place) (u : ℕ) → n ≡ map.remove s.crons k
    → RemovedAt s (with_crons s n u)
cron_removal s n k u e (CronAt q) = removal_home (λ (x : CronJob). x.meta) CronAt s.crons n k q e
cron_removal s n k u e (JobAt q) = inr refl

-- A removal of a key's Job leaves each place as it was or without an object.
pub job_removal : (s : Content) (n : map.FinMap place_cmp Job) (k : Place) (u : ℕ) → n ≡ map.remove s.jobs k
    → RemovedAt s (with_jobs s n u)
job_removal s n k u e (CronAt q) = inr refl
job_removal s n k u e (JobAt q) = removal_home (λ (x : Job). x.meta) JobAt s.jobs n k q e

-- Where no object of a kind is stored, there is no metadata at any key of it.
none_in : {X : Type 0} (f : X → Meta) (m : map.FinMap place_cmp X) (q : Place) → m ≡ map.empty
    → option_map f (map.get m q) ≡ None
none_in {X = X} f m q e = ap (λ (t : map.FinMap place_cmp X). option_map f (map.get t q)) e
    ∙ ap (option_map f) (map.get-empty place_cmp q)

-- Where no object of either kind is stored, there is no metadata at any place.
no_meta : (s : Content) → s.crons ≡ map.empty → s.jobs ≡ map.empty → (h : Home) → meta_at s h ≡ None
no_meta s e f (CronAt q) = none_in (λ (x : CronJob). x.meta) s.crons q e
no_meta s e f (JobAt q) = none_in (λ (x : Job). x.meta) s.jobs q f

-- before the first write there is no object
pub no_home : (s : Content) → s.crons ≡ map.empty → s.jobs ≡ map.empty → (h : Home) (m : Meta) → meta_at s h ≡ Some m
    → ⊥
no_home s e f h m is = let none : None ≡ Some m = sym (no_meta s e f h) ∙ is in absurd (cc none)
