-- Versions of the API (Kubernetes, "The Kubernetes API", "API groups and versioning").
use Rattle.std.specs.Prelude.{ℕ, List, codes}
use Rattle.cj_control.specs.declared.api.ApiVersion.{ApiVersion}
use Rattle.cj_control.specs.declared.api.ApiVersion.TheVariants.{BatchV1, BatchV1Beta1}

abbrev pub api_text : ApiVersion → List ℕ
api_text BatchV1 = codes "batch/v1"
api_text BatchV1Beta1 = codes "batch/v1beta1"
