-- is_subdomain: its one clause, without a dot, and with a first label that is right or wrong.
use Rattle.std.proofs.Common.{◌+◌, ◌-◌, ◌&&◌, sym, ap, ◌∙◌, drop, length, length-drop, arith}
use Rattle.std.proofs.lemmas.List.{take_all}
use Rattle.cj_types.specs.Names.{is_subdomain}
use Rattle.cj_types.proofs.Subdomains.{at_dot, no_dot}
use Rattle.cj_types.proofs.name_rules.+is_subdomain.Goals as goal

pub returns-in-None : goal.returns-in-None
returns-in-None t c = c.is_label.ensures ∙ sym (no_dot c.args.bytes.now (sym c.first_dot.ensures ∙ c.in-None.is))

pub returns-then-starts_well : goal.returns-then-starts_well
returns-then-starts_well t c =
    let bytes = c.args.bytes.now in
    let dot = c.in-Some.dot in
    let parts = at_dot bytes dot (sym c.first_dot.ensures ∙ c.in-Some.is) in
    let rest = is_subdomain (drop (dot + 1) bytes) in
    let whole = take_all (length bytes - (dot + 1)) (drop (dot + 1) bytes) (simp length-drop (omega arith)) in
    c.is_subdomain.ensures ∙ ap is_subdomain whole
    ∙ sym (parts ∙ ap (λ b. b && rest) (sym c.is_label-starts_well.ensures ∙ c.if-starts_well.true))

pub returns-else-starts_well : goal.returns-else-starts_well
returns-else-starts_well t c =
    let parts = at_dot c.args.bytes.now c.in-Some.dot (sym c.first_dot.ensures ∙ c.in-Some.is) in
    let rest = is_subdomain (drop (c.in-Some.dot + 1) c.args.bytes.now) in
    c.if-starts_well.false ∙ sym (parts ∙ ap (λ b. b && rest) (sym c.is_label-starts_well.ensures
    ∙ c.if-starts_well.false))
