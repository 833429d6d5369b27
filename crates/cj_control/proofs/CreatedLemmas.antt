-- A created Job's annotations, read back, and the starts that test for them.
use Rattle.std.proofs.Common.{◌≡◌, ◌∙◌, List, ℕ, false, true≢false, refl, sym, ap}
use Rattle.std.specs.Prelude.{codes, bytes_eq, Option, Some, option_and_then, unwrap_or}
use Rattle.std.proofs.lemmas.Slice.Eq.{bytes_eq-Decides}
use Rattle.serde_json.specs.Data.{Data, Members, put, string}
use Rattle.serde_json.specs.Find.{as_str, get_member}
use Rattle.serde_json.proofs.Views.{get_member-put, get_member-put_other}
use Rattle.cj_manifest.specs.Members.{unless_null}
use Rattle.cj_control.specs.declared.created.MarkTexts.{MarkTexts}
use Rattle.cj_control.specs.declared.hold.Hold.{Hold}
use Rattle.cj_control.specs.declared.hold.Hold.TheVariants.{Parallelism, Suspend, Unsaid}
use Rattle.cj_control.specs.declared.request.HeldBy.{HeldBy}
use Rattle.cj_control.specs.Created.{annotations, hold_by, template_members, CreatedLaw}
use Rattle.cj_control.specs.Objects.{hold_of, hold_text}
use Rattle.cj_control.specs.Requests.{HoldLaw, StartLaw, tested}

-- Texts that differ at a byte aren't one.
apart : (q k : List ℕ) → bytes_eq q k ≡ false → q ≡ k → ⊥
apart q k e h = true≢false (sym ((bytes_eq-Decides q k).1 h) ∙ e)

abbrev held : List ℕ
held = codes "cronsim/held"

abbrev mark : List ℕ
mark = codes "cronsim/template"

abbrev policy : List ℕ
policy = codes "cronsim/policy"

abbrev time : List ℕ
time = codes "batch.kubernetes.io/cronjob-scheduled-timestamp"

module _ (by : HeldBy) (m : MarkTexts) (ms : Members) where
  abbrev kind : Data
  kind = tested (hold_by by)

  abbrev timed : Members
  timed = put time (string m.time) ms

  abbrev ruled : Members
  ruled = put policy (string m.policy) timed

  abbrev marked : Members
  marked = put mark (string m.template) ruled

  -- The annotation that a Job is held is there, with its kind.
  held_at : get_member held (annotations by m ms) ≡ Some kind
  held_at = get_member-put held kind marked

  -- The annotation of the policy is there, under what is put after it.
  policy_at : get_member policy (annotations by m ms) ≡ Some (string m.policy)
  policy_at = get_member-put_other policy held kind marked (apart policy held refl)
      ∙ get_member-put_other policy mark (string m.template) ruled (apart policy mark refl)
      ∙ get_member-put policy (string m.policy) timed

  -- The annotation of the time is there, under what is put after it.
  time_at : get_member time (annotations by m ms) ≡ Some (string m.time)
  time_at = get_member-put_other time held kind marked (apart time held refl)
      ∙ get_member-put_other time mark (string m.template) ruled (apart time mark refl)
      ∙ get_member-put_other time policy (string m.policy) timed (apart time policy refl)
      ∙ get_member-put time (string m.time) ms

-- A text that is found is read.
text_of : (o : Option Data) (s : List ℕ) → o ≡ Some (string s)
    → option_and_then as_str (option_and_then unless_null o) ≡ Some s
text_of o s e = ap (λ x. option_and_then as_str (option_and_then unless_null x)) e

-- The text of a hold reads back as that hold.
text_back : (hold : Hold) → hold_of (Some (hold_text hold)) ≡ Some hold
text_back Suspend = refl
text_back Parallelism = refl
text_back Unsaid = refl

-- For start_law: holds that read back from one text are one.
pub holds_apart : HoldLaw
holds_apart one other e =
    ap (λ o. unwrap_or o one) (sym (text_back one) ∙ ap (λ t. hold_of (Some t)) e ∙ text_back other)

-- Holds whose tests are one are one.
tests_apart : (one other : Hold) → Some (tested one) ≡ Some (tested other) → one ≡ other
tests_apart one other e =
    ap (λ o. unwrap_or o one)
    (sym (text_back one) ∙ ap (λ o. hold_of (option_and_then as_str o)) e ∙ text_back other)

-- For created_law.
pub created_back : CreatedLaw
created_back api h name m by template =
    let ms = template_members (codes "annotations") template in
    let found = text_of (get_member held (annotations by m ms)) (hold_text (hold_by by)) (held_at by m ms) in
    record {
      named = refl;
      placed = refl;
      owned = refl;
      timed = text_of (get_member time (annotations by m ms)) m.time (time_at by m ms);
      policy = text_of (get_member policy (annotations by m ms)) m.policy (policy_at by m ms);
      held = found;
      waits = ap hold_of found ∙ text_back (hold_by by);
      unended = refl;
      standing = refl;
      unpinned = refl;
    }

-- For start_law: the start of the hold by which a Job is created.
pub starts_only : StartLaw
starts_only api h name m by template =
    let ms = template_members (codes "annotations") template in
    let found = ap (λ x. option_and_then unless_null x) (held_at by m ms) in
    record {
      its = found;
      only = λ other is. tests_apart other (hold_by by) (sym is ∙ found);
    }
