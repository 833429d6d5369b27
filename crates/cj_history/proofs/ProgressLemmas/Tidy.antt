-- What a plan cleans up is gone after its drops, and stays so.
use Rattle.std.proofs.Common.{◌≡◌, ◌≢◌, ◌⊎◌, inl, inr, ℕ, ◌≤◌, List, [], ◌∷◌, Option, Some, sym, ap, subst, ◌∙◌, arith}
use Rattle.std.specs.FinMap as map
use Rattle.cj_types.specs.Keys.{Place}
use Rattle.cj_types.specs.declared.job.Job.{Job}
use Rattle.cj_types.specs.declared.job.JobDraft.{JobDraft}
use Rattle.cj_store.specs.Content.{Content}
use Rattle.cj_store.specs.Change.{after, job_added}
use Rattle.cj_store.specs.Jobs.{new_job}
use Rattle.cj_status.specs.declared.refs.JobRef.{JobRef}
use Rattle.cj_decide.specs.laws.Laws.{IsIn}
use Rattle.cj_state.specs.declared.state.State.{State}
use Rattle.cj_world_laws.proofs.OnceLemmas.Maps.{put_at, removal_at}
use Rattle.cj_history.specs.progress.Syncs.{IsTidied}
use Rattle.cj_history.proofs.ProgressLemmas.Calls.{Dropped, absent, found}
use Rattle.cj_history.proofs.ProgressLemmas.Aside.{AreKeyed, Same}

-- no Job at the reference's key has its uid
abbrev pub IsGone : JobRef → Content → Type 0
IsGone r s = (x : Job) → map.get s.jobs r.key ≡ Some x → x.meta.uid ≢ r.uid

-- of all that is to be cleaned up each is still to be dropped, or gone
pub record IsTidy (u : ℕ) (all rs : List JobRef) (s : Content) : Type 0 where
  pub uids : u ≤ s.uids
  pub keys : AreKeyed s
  pub gone : (r : JobRef) → IsIn r all → IsIn r rs ⊎ IsGone r s

-- What others leave leaves it so.
pub tidy_still : (w u : ℕ) (k : Place) (o : Option Place) (all : List JobRef) → ((r : JobRef) → IsIn r all → r.uid ≤ u)
    → (rs : List JobRef) (s t : State) → Same w k o s t → IsTidy u all rs s.store → IsTidy u all rs t.store
tidy_still w u k o all old rs s t same f = record {
  uids = (let a = f.uids in let b = same.more in omega (arith, a, b));
  keys = same.keys;
  gone = λ r i. by r (old r i) (f.gone r i);
}
  where
    by : (r : JobRef) → r.uid ≤ u → IsIn r rs ⊎ IsGone r s.store → IsIn r rs ⊎ IsGone r t.store
    by r l (inl i) = inl i
    by r l (inr g) = inr (same.never r.key r.uid (let a = f.uids in omega (arith, a, l)) g)

-- A Job that is gone stays so when another is dropped.
gone_kept : (q : JobRef) (r : JobRef) (a b : Content) → Dropped a r b → IsGone q a → IsGone q b
gone_kept q r a b (absent e n) g = subst (IsGone q) (sym e) g
gone_kept q r a b (found j at same e) g =
    subst (IsGone q) (sym e) (λ x h. g x (removal_at a.jobs j.key q.key x h).1)

-- After its drop a Job is gone.
dropped_gone : (r : JobRef) (a b : Content) → AreKeyed a → Dropped a r b → IsGone r b
dropped_gone r a b keys (absent e n) = subst (IsGone r) (sym e) n
dropped_gone r a b keys (found j at same e) =
    subst (IsGone r) (sym e) (λ x h. absurd ((removal_at a.jobs j.key r.key x h).0 (sym (keys r.key j at))))

-- A drop leaves what is dropped gone.
pub tidy_kept : (u : ℕ) (all : List JobRef) (r : JobRef) (rs : List JobRef) (a b : Content)
    → Dropped a r b → IsTidy u all (r ∷ rs) a → IsTidy u all rs b
tidy_kept u all r rs a b d f = record {
  uids = uids d;
  keys = keys d;
  gone = λ q i. by q (f.gone q i);
}
  where
    uids : Dropped a r b → u ≤ b.uids
    uids (absent e n) = subst (λ (x : Content). u ≤ x.uids) (sym e) f.uids
    uids (found j at same e) = subst (λ (x : Content). u ≤ x.uids) (sym e) f.uids

    keys : Dropped a r b → AreKeyed b
    keys (absent e n) = subst AreKeyed (sym e) f.keys
    keys (found j at same e) = subst AreKeyed (sym e) (λ i x h. f.keys i x (removal_at a.jobs j.key i x h).1)

    by : (q : JobRef) → IsIn q (r ∷ rs) ⊎ IsGone q a → IsIn q rs ⊎ IsGone q b
    by q (inl (inl same)) = inr (subst (λ (x : JobRef). IsGone x b) same (dropped_gone r a b f.keys d))
    by q (inl (inr i)) = inl i
    by q (inr g) = inr (gone_kept q r a b d g)

-- Where nothing is left to drop, all is gone.
pub tidied : (u : ℕ) (all : List JobRef) (s : Content) → IsTidy u all [] s → IsTidied all s
tidied u all s f r i = by (f.gone r i)
  where
    by : IsIn r [] ⊎ IsGone r s → IsGone r s
    by (inl x) = absurd x
    by (inr g) = g

-- What is gone stays so in what others leave.
pub still_gone : (w u : ℕ) (k : Place) (o : Option Place) (all : List JobRef) → ((r : JobRef) → IsIn r all → r.uid ≤ u)
    → (s t : State) → Same w k o s t → u ≤ s.store.uids → IsTidied all s.store → IsTidied all t.store
still_gone w u k o all old s t same l g r i = same.never r.key r.uid (let a = old r i in omega (arith, a, l)) (g r i)

-- What is gone stays so when a Job is made, whose uid is a new one.
pub tidy_made : (u : ℕ) (all rs : List JobRef) → ((r : JobRef) → IsIn r all → r.uid ≤ u)
    → (s : Content) (d : JobDraft) (at : ℕ)
    → IsTidy u all rs s → IsTidy u all rs (after s (job_added (new_job s d at)))
tidy_made u all rs old s d at f = record {
  uids = (let a = f.uids in omega (arith, a));
  keys = λ q x h. key q x (put_at s.jobs d.key q (new_job s d at) x h);
  gone = λ r i. by r (old r i) (f.gone r i);
}
  where
    key : (q : Place) (x : Job) → ((q ≡ d.key) × (new_job s d at ≡ x)) ⊎ ((q ≢ d.key) × (map.get s.jobs q ≡ Some x))
        → x.key ≡ q
    key q x (inl e) = ap (λ (z : Job). z.key) (sym e.1) ∙ sym e.0
    key q x (inr e) = f.keys q x e.1

    one : (r : JobRef) → r.uid ≤ u → IsGone r s → (x : Job)
        → ((r.key ≡ d.key) × (new_job s d at ≡ x)) ⊎ ((r.key ≢ d.key) × (map.get s.jobs r.key ≡ Some x))
        → x.meta.uid ≢ r.uid
    one r l g x (inl e) n =
        let a = f.uids in let b = ap (λ (z : Job). z.meta.uid) e.1 in absurd (omega (arith, a, b, l, n))
    one r l g x (inr e) n = g x e.1 n

    by : (r : JobRef) → r.uid ≤ u → IsIn r rs ⊎ IsGone r s
        → IsIn r rs ⊎ IsGone r (after s (job_added (new_job s d at)))
    by r l (inl i) = inl i
    by r l (inr g) = inr (λ x h. one r l g x (put_at s.jobs d.key r.key (new_job s d at) x h))
