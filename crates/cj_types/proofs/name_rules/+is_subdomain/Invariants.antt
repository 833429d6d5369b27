-- is_subdomain: it calls itself with fewer bytes.
use Rattle.std.proofs.Common.{length}
use Rattle.cj_types.proofs.name_rules.+is_subdomain.Given as goal

abbrev pub decreases-is_subdomain : goal.decreases-is_subdomain
decreases-is_subdomain l = length l.bytes.now
