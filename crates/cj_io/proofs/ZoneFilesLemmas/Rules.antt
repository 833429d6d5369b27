-- The zones of rules, one after another.
use Rattle.std.proofs.Common.{◌≡◌, ◌+◌, ◌∙◌, ◌<◌, ℕ, List, ◌∷◌, Bor, drop, get_or, length, map, Result, Ok, Err, IfErr, IsErrAnd, ap, subst, inl, inr, rules, arith}
use Rattle.std.proofs.lemmas.List.{drop_more}
use Rattle.cj_zone.specs.declared.zone.Zone.{Zone}
use Rattle.cj_zone.proofs.ClockLemmas.{clock_read}
use Rattle.cj_io.specs.declared.zone_files.refused.Refused.{Refused}
use Rattle.cj_io.specs.zone_files.Rules.{AddsRule, AddsRules, IsNoRule, Refuses, rule_in}

-- A rule that is refused adds nothing.
no_rule : (zones more : List Zone) (pair : List ℕ) → IsNoRule zones pair → AddsRule zones pair more → ⊥
no_rule zones more pair (inl no_sign) h = absurd (omega (arith, no_sign, h.inside))
no_rule zones more pair (inr (inl refused)) h = absurd (cc (refused, h.adds.free))
no_rule zones more pair (inr (inr none)) h = clock_read (rule_in pair) h.adds.clock.rules h.adds.clock.clock none

-- the zones that the rest of the rules leads to from these are those that all the rules lead to from the first
pub record Leads (from : List Zone) (pairs : List (List ℕ)) (zones : List Zone) (rest : List (List ℕ)) : Type 0 where
  pub whole : (all : List Zone) → AddsRules zones rest all → AddsRules from pairs all
  pub back : (all : List Zone) → AddsRules from pairs all → AddsRules zones rest all

-- For leads_nowhere: no zones come of a refused rule and others behind it.
ends : (zones : List Zone) (pair : List ℕ) (rest : List (List ℕ)) (all : List Zone) → IsNoRule zones pair
    → AddsRules zones (pair ∷ rest) all → ⊥
ends zones pair rest all refused (more, h, k) = no_rule zones more pair refused h

-- Where the rules lead to one that is refused, there are no zones of the rules.
leads_nowhere : (from : List Zone) (pairs : List (List ℕ)) (zones : List Zone) (pair : List ℕ) (rest : List (List ℕ))
    → Leads from pairs zones (pair ∷ rest) → IsNoRule zones pair
    → (all : List Zone) → AddsRules from pairs all → ⊥
leads_nowhere from pairs zones pair rest leads refused all h = ends zones pair rest all refused (leads.back all h)

-- For handed_on: a refusal for one reason is one for another that follows from it.
refuses_for : (r e : Refused) (P Q : Type 0) → (P → Q) → r ≡ e → Refuses e P → Refuses r Q
refuses_for r e P Q f is (inl memory) = inl (is ∙ memory)
refuses_for r e P Q f is (inr (zone, p)) = inr (is ∙ zone, f p)

-- A refusal that is handed on, for another reason.
pub handed_on : {T : Type 0} (result : Result T Refused) (e : Refused) (P Q : Type 0) → (P → Q)
    → IsErrAnd result (λ r. r ≡ e) → Refuses e P → IfErr result (λ r. Refuses r Q)
handed_on (Ok x) e P Q f is h = search rules
handed_on (Err r) e P Q f is h = refuses_for r e P Q f is h

-- the bytes of texts that are lent
abbrev pub texts : List (Bor (List ℕ)) → List (List ℕ)
texts words = map (λ w. w.now) words

-- For rule_refused: the rest of the texts begins with the one at its place.
text_at : (words : List (Bor (List ℕ))) (i : ℕ) (w : Bor (List ℕ)) → i < length words
    → texts (drop i words) ≡ (get_or words i w).now ∷ texts (drop (i + 1) words)
text_at words i w lt = ap texts (drop_more words i w lt)

-- Where the rules lead to one at a place that is refused, there are no zones of the rules.
pub rule_refused : (from : List Zone) (words : List (Bor (List ℕ))) (i : ℕ) (w : Bor (List ℕ)) (zones : List Zone)
    → i < length words → Leads from (texts words) zones (texts (drop i words)) → IsNoRule zones (get_or words i w).now
    → (all : List Zone) → AddsRules from (texts words) all → ⊥
rule_refused from words i w zones lt leads =
    leads_nowhere from (texts words) zones (get_or words i w).now (texts (drop (i + 1) words))
    (subst (λ rest. Leads from (texts words) zones rest) (text_at words i w lt) leads)
