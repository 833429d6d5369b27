-- A Job that is taken out and put again.
use Rattle.std.proofs.Common.{◌≡◌, Bool, true, false, cond, Option, Some, None, refl, sym, ap, ◌∙◌}
use Rattle.std.specs.FinMap as map
use Rattle.std.specs.Ordering.{eq_by_cmp}
use Rattle.cj_types.specs.Keys.{Place, place_cmp}
use Rattle.cj_types.specs.declared.job.Job.{Job}
use Rattle.cj_table.proofs.Order.{places_total}
use Rattle.cj_table.proofs.Puts.{alike, removal_there}

-- For put_removal, key by key: what is taken out and then put is what is put at once.
over : (t : Bool) (v : Job) (o : Option Job) → cond t (Some v) (cond t None o) ≡ cond t (Some v) o
over true v o = refl
over false v o = refl

-- For put: a Job that is put after its key was taken out is as if put at once.
pub put_removal : (m : map.FinMap place_cmp Job) (k : Place) (v : Job)
    → map.insert (map.remove m k) k v ≡ map.insert m k v
put_removal m k v = alike _ _ (λ q.
    map.get-insert places_total (map.remove m k) k v q
    ∙ ap (cond (eq_by_cmp place_cmp q k) (Some v)) (map.get-remove places_total m k q)
    ∙ over (eq_by_cmp place_cmp q k) v (map.get m q)
    ∙ sym (map.get-insert places_total m k v q))

-- For put: where a key was taken out nothing stands at it.
pub gone_at : (m : map.FinMap place_cmp Job) (k : Place) → map.get (map.remove m k) k ≡ None
gone_at m k = removal_there m k
