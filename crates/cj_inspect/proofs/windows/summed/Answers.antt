-- summed: its clause ok, from its five parts.
use Rattle.std.proofs.Common.{◌≡◌, ◌∙◌, ◌++◌, ℕ, List, ap, subst, string_bytes}
use Rattle.cj_zone.specs.Table.{zones_of}
use Rattle.cj_upcoming.specs.Standings.{AreStandings}
use Rattle.cj_inspect.proofs.windows.summed.Goals as goal

-- Five texts of which three are others make the same text.
five : (t a b c d e b' c' e' : List ℕ) → t ≡ a ++ (b' ++ (c' ++ (d ++ e'))) → b' ≡ b → c' ≡ c → e' ≡ e
    → t ≡ a ++ (b ++ (c ++ (d ++ e)))
five t a b c d e b' c' e' is eb ec ee =
    is ∙ ap (λ x. a ++ (x ++ (c' ++ (d ++ e')))) eb ∙ ap (λ x. a ++ (b ++ (x ++ (d ++ e')))) ec
    ∙ ap (λ x. a ++ (b ++ (c ++ (d ++ x)))) ee

pub returns : goal.returns
returns c = record {
  ok = record {
    table = c.as_str.result.now;
    standings = string_bytes c.in_ok-standings.standings;
    told = subst (λ t. AreStandings (zones_of c.args.zones.now) t c.args.crons.now
        (string_bytes c.in_ok-standings.standings))
        c.from.ensures c.in_ok-standings.ensures.ok;
    fullest = c.as_str-4.result.now;
    are = five _ _ _ _ _ _ _ _ _ c.in_ok-text.ensures c.as_str-2.ensures.value
        (c.as_str-3.ensures.value ∙ c.in_ok-changes.ensures.ok)
        (c.as_str-5.ensures.value ∙ c.in_ok-last.ensures.ok);
  };
}
