-- A history that is read once, from its oldest entry on.
use Rattle.std.proofs.Common.{◌≡◌, ◌≢◌, ◌∙◌, ◌&&◌, ◌||◌, ℕ, Bool, true, false, if◌then◌else◌, List, [], ◌∷◌, Option, Some, None, Result, Ok, Err, refl, sym, ap}
use Rattle.std.specs.Prelude.{◌==◌, bytes_eq, unwrap_or}
use Rattle.std.specs.Ordering.{nat_cmp}
use Rattle.std.specs.BTreeMap as tree
use Rattle.std.specs.FinMap as map
use Rattle.std.specs.Map.{lookup}
use Rattle.std.proofs.lemmas.Slice.Eq.{bytes_eq-Decides}
use Rattle.cj_base.specs.declared.refusal.Refusal.{Refusal}
use Rattle.cj_types.specs.declared.policy.Reason.{Reason}
use Rattle.cj_types.specs.declared.policy.Reason.TheVariants.{FailedCreate, JobAlreadyActive, TooManyMissedTimes, UnknownTimeZone}
use Rattle.cj_types.specs.Keys.{Place, place_cmp}
use Rattle.cj_table.proofs.Apart.{places_apart}
use Rattle.cj_calls.specs.declared.call.Call.{Call}
use Rattle.cj_calls.specs.declared.reply.Reply.{Reply}
use Rattle.cj_calls.specs.Rows.{Told}
use Rattle.cj_report.specs.Reasons as said
use Rattle.cj_report.specs.Tellings.{key_of, has, no_reason, told, reasons_told, Adds, Takes, Tells, Knows}
use Rattle.cj_report.specs.declared.tellings.ReasonSet.{ReasonSet}
use Rattle.cj_report.specs.declared.tellings.Tellings.{Tellings}

-- ---- keys

-- Where both of two are true, each of them is.
both_true : (a b : Bool) → (a && b) ≡ true → (a ≡ true) × (b ≡ true)
both_true true b e = (refl, e)
both_true false b e = absurd (cc e)

-- A key that tests as the same as another is that one.
one_key : (key other : Place) → said.is_key key (Some other) ≡ true → other ≡ key
one_key key other e =
    let parts = both_true (bytes_eq other.namespace key.namespace) (bytes_eq other.name key.name) e in
    let a : other.namespace ≡ key.namespace = (bytes_eq-Decides other.namespace key.namespace).0 parts.0 in
    let b : other.name ≡ key.name = (bytes_eq-Decides other.name key.name).0 parts.1 in
    λ i. record { namespace = a i; name = b i }

-- A key tests as the same as itself.
own_key : (key : Place) → said.is_key key (Some key) ≡ true
own_key key =
    ap (λ (a : Bool). a && bytes_eq key.name key.name) ((bytes_eq-Decides key.namespace key.namespace).1 refl)
    ∙ (bytes_eq-Decides key.name key.name).1 refl

-- A key that doesn't test as the same as another isn't that one.
other_key : (key other : Place) → said.is_key key (Some other) ≡ false → key ≢ other
other_key key other e same =
    let own : said.is_key key (Some other) ≡ true = ap (λ (k : Place). said.is_key key (Some k)) (sym same)
    ∙ own_key key in
    absurd (cc (sym own ∙ e))

-- ---- reasons are told of a key

-- For there: of the key itself a reason is told that was told before or is new.
at_key : (before new : Bool) → (before || new) ≡ ((new && true) || before)
at_key true true = refl
at_key true false = refl
at_key false true = refl
at_key false false = refl

-- For apart: of another key no reason is told but what was told before.
elsewhere : (before new : Bool) → before ≡ ((new && false) || before)
elsewhere before true = refl
elsewhere before false = refl

module _ (m : map.FinMap place_cmp ReasonSet) (key : Place) (reasons : List Reason) (set : ReasonSet)
    (adds : Adds reasons (told m key) set) (other : Place) (reason : Reason) where
  abbrev Is : Bool → Type 0
  Is b = has reason (told (map.insert m key set) other)
      ≡ ((said.is_told reason reasons && b) || has reason (told m other))

  -- Of the key itself, a reason is told that is one of the list or was told before.
  there : key ≡ other → Is true
  there same =
      ap (λ (k : Place). has reason (told (map.insert m key set) k)) (sym same)
      ∙ ap (λ (o : Option ReasonSet). has reason (unwrap_or o no_reason)) ((places_apart ReasonSet).put_here m key set)
      ∙ adds reason
      ∙ ap (λ (k : Place). has reason (told m k) || said.is_told reason reasons) same
      ∙ at_key (has reason (told m other)) (said.is_told reason reasons)

  -- Of a key that isn't this one, a reason is told just where it was told before.
  apart : other ≢ key → Is false
  apart differ =
      ap (λ (o : Option ReasonSet). has reason (unwrap_or o no_reason))
      ((places_apart ReasonSet).put_other m key other set differ)
      ∙ elsewhere (has reason (told m other)) (said.is_told reason reasons)

  -- For tells_put: the list's reasons are added for a key just where it tests as this one.
  either : (b : Bool) → said.is_key other (Some key) ≡ b → Is b
  either true e = there (one_key other key e)
  either false e = apart (other_key other key e)

-- where a set stands at the key that has the reasons of the list too
pub tells_put : (before after : map.FinMap place_cmp ReasonSet) (held : Option Place)
    (key copy : Place) (reasons : List Reason) (old new : ReasonSet)
    → Some key ≡ held → copy ≡ key → old ≡ told before key → Adds reasons old new → after ≡ map.insert before copy new
    → Tells held reasons before after
tells_put before after held key copy reasons old new is_held same at adds put other reason =
    let adds_at : Adds reasons (told before key) new =
    λ r. adds r ∙ ap (λ (s : ReasonSet). has r s || said.is_told r reasons) at in
    ap (λ (m : map.FinMap place_cmp ReasonSet). has reason (told m other))
    (put ∙ ap (λ (k : Place). map.insert before k new) same)
    ∙ either before key reasons new adds_at other reason (said.is_key other (Some key)) refl
    ∙ ap (λ (o : Option Place). (said.is_told reason reasons && said.is_key other o) || has reason (told before other))
    is_held

-- ---- a history

-- No reason is one of the set that has none.
none_of : (reason : Reason) → has reason no_reason ≡ false
none_of FailedCreate = refl
none_of JobAlreadyActive = refl
none_of TooManyMissedTimes = refl
none_of UnknownTimeZone = refl

-- of no entry
pub knows_nothing : (t : Tellings) → tree.IsEmpty t.keys → t.reasons ≡ map.empty → Knows t []
knows_nothing t keys reasons = record {
  keys = λ number. ap (λ (es : List (ℕ × Place)). lookup (tree.is_at (nat_cmp number)) es) keys;
  reasons = λ key reason.
      ap (λ (m : map.FinMap place_cmp ReasonSet). has reason (told m key)) reasons
      ∙ ap (λ (o : Option ReasonSet). has reason (unwrap_or o no_reason)) (map.get-empty place_cmp key)
      ∙ none_of reason;
}

-- A reason is among those that a call tells with its answer just where their entry tells it.
accepted : (reason : Reason) (call : Call) (answer : Result Reply Refusal)
    → said.is_told reason (reasons_told call answer) ≡ said.tells reason call answer
accepted reason call (Ok reply) = refl
accepted reason call (Err refusal) = refl

-- one entry more: its reasons are told of the key that its caller had before it
pub knows_more : (t : Told) (before between after : Tellings) (number : ℕ) (reasons : List Reason) (key : Option Place)
    → number ≡ t.caller.number → reasons ≡ reasons_told t.call t.answer → key ≡ said.answered_key t.answer
    → Tells (key_of before.keys number) reasons before.reasons between.reasons → between.keys ≡ before.keys
    → Takes number key between.keys after.keys → after.reasons ≡ between.reasons
    → (h : List Told) → Knows before h → Knows after (t ∷ h)
knows_more t before between after number reasons key n r k tells keys_stay takes reasons_stay h knows = record {
  keys = λ other.
      takes other
      ∙ ap (λ (m : tree.BTreeMap ℕ Place). said.or_before (if number == other then key else None) (key_of m other))
      keys_stay
      ∙ ap (λ (x : ℕ). said.or_before (if x == other then key else None) (key_of before.keys other)) n
      ∙ ap (λ (o : Option Place). said.or_before (if t.caller.number == other then o else None)
      (key_of before.keys other)) k
      ∙ ap (λ (o : Option Place). said.or_before (said.taken other t) o) (knows.keys other);
  reasons = λ other reason.
      ap (λ (m : map.FinMap place_cmp ReasonSet). has reason (told m other)) reasons_stay
      ∙ tells other reason
      ∙ ap (λ (rs : List Reason). (said.is_told reason rs && said.is_key other (key_of before.keys number))
      || has reason (told before.reasons other)) r
      ∙ ap (λ (b : Bool). (b && said.is_key other (key_of before.keys number))
      || has reason (told before.reasons other)) (accepted reason t.call t.answer)
      ∙ ap (λ (x : ℕ). (said.tells reason t.call t.answer && said.is_key other (key_of before.keys x))
      || has reason (told before.reasons other)) n
      ∙ ap (λ (o : Option Place). (said.tells reason t.call t.answer && said.is_key other o)
      || has reason (told before.reasons other)) (knows.keys t.caller.number)
      ∙ ap (λ (b : Bool). (said.tells reason t.call t.answer && said.is_key other (said.held t.caller.number h)) || b)
      (knows.reasons other reason);
}
