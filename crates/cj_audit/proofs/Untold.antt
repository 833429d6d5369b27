-- Of a list without CronJobs no Job is noted.
use Rattle.std.proofs.Common.{◌≡◌, inl, inr, false, List, [], ◌∷◌}
use Rattle.std.specs.BTreeSet.{BTreeSet}
use Rattle.cj_types.specs.declared.job.Job.{Job}
use Rattle.cj_cluster.specs.Content.{Content}
use Rattle.cj_cluster.specs.declared.kubectl.notes.ItemNote.{ItemNote}
use Rattle.cj_audit.specs.declared.finding.Finding.{Finding}
use Rattle.cj_audit.specs.Findings.{IsStrayJob, tells_crons}
use Rattle.cj_audit.specs.Notes.{AnyOf, Notes}
use Rattle.cj_audit.proofs.Noting.{notes_none}

module _ (content : Content) (notes : List ItemNote) (none : tells_crons content notes ≡ false) where
  -- No Job of such a list is a stray.
  no_stray : (jobs : List Job) (f : Finding) → AnyOf (IsStrayJob content notes) jobs f → ⊥
  no_stray [] f h = h
  no_stray (job ∷ jobs) f (inl h) = absurd (cc (none, h.told))
  no_stray (job ∷ jobs) f (inr h) = no_stray jobs f h

  -- For note_strays: the set stays as it is.
  pub untold : (jobs : List Job) (s : BTreeSet Finding) → Notes (AnyOf (IsStrayJob content notes) jobs) s s
  untold jobs s = notes_none (AnyOf (IsStrayJob content notes) jobs) s (no_stray jobs)
