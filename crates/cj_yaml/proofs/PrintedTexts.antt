-- What is printed of a text reads back.
use Rattle.std.proofs.Common.{inl, inr, sym, ap, ◌∙◌, subst}
use Rattle.serde_json.specs.Read.{read}
use Rattle.cj_yaml.specs.Words.{IsPlainText, plain, as_json, coded}
use Rattle.cj_yaml.specs.ReadsBack.{PrintedReadsBack}
use Rattle.cj_yaml.proofs.CodedTexts.{coded_again}
use Rattle.cj_yaml.proofs.JsonTexts.{string_again}

-- By how it is printed.
pub reads_back : PrintedReadsBack
reads_back t printed u (plain p l e) = inl (subst IsPlainText (sym e) p, e)
reads_back t printed u (as_json o e) = inr (ap read e ∙ string_again t)
reads_back t printed u (coded o e) = inr (ap read e ∙ coded_again t u)
