-- CronKey::job_key: what Key::well_formed requires, that the name and the namespace are a key's.
use Rattle.std.proofs.Common.{◌≡◌, ◌/◌, sym, subst}
use Rattle.std.specs.Prelude.{IsTrue}
use Rattle.cj_types.specs.Names.{longest}
use Rattle.cj_types.specs.Keys.{is_place, place}
use Rattle.cj_types.specs.Made.{made_name}
use Rattle.cj_types.proofs.MadeNames.{made_decimal}
use Rattle.cj_types.proofs.cron_key.CronKey.job_key.Goals as goal

pub well_formed-requires : goal.well_formed-requires
well_formed-requires c =
    let key = c.args.self.now in
    let namespace : c.namespace.result.now ≡ key.namespace = cc (c.namespace.ensures, c.key-2.ensures.value) in
    let name : c.as_str.result.now ≡ made_name key.name c.args.time = cc
    (c.as_str.ensures, c.in_ok-name.ensures.ok, c.name.ensures.value, c.key.ensures.value) in
    subst (λ n. IsTrue (is_place longest (place n c.as_str.result.now))) (sym namespace)
    (subst (λ m. IsTrue (is_place longest (place key.namespace m))) (sym name)
    (made_decimal key.namespace key.name (c.args.time / 60) c.in_ok-name.ensures.minutes c.key.ensures.short))
