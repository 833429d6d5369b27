-- The callers of an object, one after another.
use Rattle.std.proofs.Common.{◌≡◌, ◌∙◌, ℕ, List, ◌∷◌, Option, option_and_then, String, string_bytes, sym, ap}
use Rattle.std.specs.declared.alloc.Global.{Global}
use Rattle.serde_json.specs.View.{members_view, view}
use Rattle.serde_json.specs.declared.value.Value.{Value}
use Rattle.serde_json.specs.Data.{Members}
use Rattle.cj_calls.specs.declared.caller.Role.{Role}
use Rattle.cj_manifest.specs.Members.{unless_null}
use Rattle.cj_script.specs.declared.callers.Named.{Named}
use Rattle.cj_script.specs.Callers.{role_in, with_callers, with_role}

-- The callers with one more of that name, if its role is one, and then those of the members after
-- it.
after : List Named → List ℕ → Members → Option (Option Role) → Option (List Named)
after callers name ms o = option_and_then (λ role. with_callers (with_role callers name role) ms) o

-- one caller more
pub callers-more : (callers : List Named) (entries rest : List (String Global × Value)) (name : String
    Global) (value : Value) (text : List ℕ) (o : Option (Option Role))
    → entries ≡ (name, value) ∷ rest → text ≡ string_bytes name → role_in (unless_null (view value)) ≡ o
    → with_callers callers (members_view entries)
    ≡ option_and_then (λ role. with_callers (with_role callers text role) (members_view rest)) o
unfolding after
callers-more callers entries rest name value text o e t is =
    ap (λ es. with_callers callers (members_view es)) e
    ∙ ap (λ n. after callers n (members_view rest) (role_in (unless_null (view value)))) (sym t)
    ∙ ap (after callers text (members_view rest)) is
