-- The numbers of writes: Kubernetes API concepts, "Resource versions".
use Rattle.std.specs.Prelude.{ℕ}
use Rattle.cj_types.specs.declared.event.Object.{Object}
use Rattle.cj_types.specs.declared.event.Object.TheVariants as Kind
use Rattle.cj_types.specs.declared.event.Event.{Event}
use Rattle.cj_types.specs.declared.event.Event.TheVariants.{Added, Modified, Deleted}

-- the resource version in an object's metadata
abbrev pub object_version : Object → ℕ
object_version (Kind.Cron cron) = cron.meta.version
object_version (Kind.Job job) = job.meta.version

-- the resource version of the object that an event carries
-- rule: events
abbrev pub version_of : Event → ℕ
version_of (Added object) = object_version object
version_of (Modified object) = object_version object
version_of (Deleted object) = object_version object
