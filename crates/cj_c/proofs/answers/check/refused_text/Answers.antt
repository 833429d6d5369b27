-- refused_text: its clause ok, of a manifest that has faults.
use Rattle.std.proofs.Common.{◌≢◌, [], ◌∙◌, subst, inr, List, string_bytes}
use Rattle.std.proofs.lemmas.Result.{IfOk-weaker}
use Rattle.cj_base.specs.declared.faults.FieldFault.{FieldFault}
use Rattle.cj_base.specs.declared.refusal.Refusal.{Refusal}
use Rattle.cj_manifest.specs.Either as either
use Rattle.cj_manifest.specs.Reading.{IsRefused}
use Rattle.cj_audit.specs.Faults.{faults_data}
use Rattle.cj_c.specs.answers.Texts.{IsJsonText}
use Rattle.cj_c.proofs.answers.check.refused_text.Goals as goal

pub returns-in-Invalid-clause-ok : goal.returns-in-Invalid-clause-ok
returns-in-Invalid-clause-ok c = λ bytes zones_text zones are refused.
    let faulty = subst (λ (e : Refusal). IsRefused (either.manifest_faults zones) bytes e) c.in-Invalid.is refused in
    IfOk-weaker c.faulty_text.result _ _ (λ s text. inr (inr (record {
      zones = zones;
      zones_are = are;
      value = faulty.0;
      reads = faulty.1;
      any = subst (λ (fs : List FieldFault). fs ≢ []) faulty.2 faulty.3;
      printed =
          subst (λ (fs : List FieldFault). IsJsonText (faults_data fs) (string_bytes s)) (c.as_slice.ensures
          ∙ faulty.2) text;
    }))) c.faulty_text.ensures.ok
