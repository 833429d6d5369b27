-- window_lines: its clause ok, from its four parts.
use Rattle.std.proofs.Common.{◌≡◌, ◌∙◌, ◌++◌, ℕ, List, ap, subst, string_bytes}
use Rattle.cj_zone.specs.Table.{zones_of}
use Rattle.cj_upcoming.specs.Standings.{AreStandings}
use Rattle.cj_upcoming.proofs.report.window_lines.Goals as goal

-- Four texts that are four others make the same text.
four : (t a b c d a' b' c' d' : List ℕ) → t ≡ a' ++ (b' ++ (c' ++ d')) → a' ≡ a → b' ≡ b → c' ≡ c → d' ≡ d
    → t ≡ a ++ (b ++ (c ++ d))
four t a b c d a' b' c' d' e ea eb ec ed =
    e ∙ ap (λ x. x ++ (b' ++ (c' ++ d'))) ea ∙ ap (λ x. a ++ (x ++ (c' ++ d'))) eb
    ∙ ap (λ x. a ++ (b ++ (x ++ d'))) ec ∙ ap (λ x. a ++ (b ++ (c ++ x))) ed

pub returns-clause-ok : goal.returns-clause-ok
returns-clause-ok c = record {
  standings = string_bytes c.in_ok-standings.standings;
  told = subst (λ t. AreStandings (zones_of c.args.zones.now) t c.args.crons.now
      (string_bytes c.in_ok-standings.standings))
      c.from.ensures c.in_ok-standings.ensures.ok;
  peaks = c.in_ok-fullest.ensures.ok.0;
  fullest = c.in_ok-fullest.ensures.ok.1;
  are = four _ _ _ _ _ _ _ _ _ c.in_ok-text.ensures (c.as_str.ensures.value ∙ c.in_ok-started.ensures.ok)
      c.as_str-2.ensures.value (c.as_str-3.ensures.value ∙ c.in_ok-changes.ensures.ok)
      (c.as_str-4.ensures.value ∙ c.in_ok-fullest.ensures.ok.2);
}
