-- plain_key: a plain text that is printed is the key, and the cursor is behind it.
use Rattle.std.proofs.Common.{◌≡◌, IsUtf8, true≢false, drop, string_bytes, true, sym, ap, ◌∙◌, subst}
use Rattle.cj_yaml.specs.Words.{IsPlainText, is_plain_line}
use Rattle.cj_yaml.proofs.Stands.{behind_plain}
use Rattle.cj_yaml.proofs.block.Reader.plain_key.Goals as goal
use Rattle.cj_yaml.proofs.block.Reader.plain_key.Goals.{in-Some+in_ok-warn, in_default-key_warning}

pub returns-in_default : goal.returns-in_default
returns-in_default c =
    record {
      printed = λ t rest flat stands word utf8.
          let shown = c.plain_on_line-stop.ensures.printed t rest flat stands in
          let same : c.in_ok-bytes.bytes.items ≡ t = c.in_ok-bytes.ensures.items ∙ shown.0 in
          absurd (true≢false (sym (c.in_default.ensures.succeeds (subst IsUtf8 (sym same) utf8))));
    }

pub returns : goal.returns
returns c =
    record {
      printed = λ t rest flat stands word utf8.
          let shown = c.plain_on_line-stop.ensures.printed t rest flat stands in
          let same : c.in_ok-bytes.bytes.items ≡ t = c.in_ok-bytes.ensures.items ∙ shown.0 in
          let read : string_bytes c.in-Ok.plain ≡ t = ap (λ v. v.items) c.in-Ok.ensures.ok ∙ same in
          let found : c.in_ok-found.found ≡ c.in-Ok.plain =
          c.in_ok-found.ensures.text (subst IsPlainText (sym read) word)
          (subst (λ x. is_plain_line x ≡ true) (sym read) stands.plain) in
          let text : c.match-key_warning.self.cursor.text.now ≡ c.args.self.now.cursor.text.now =
          elim c.match-key_warning.branch [
            | in-Some+in_ok-warn w ↦ ap (λ s. s.cursor.text.now) w.self-is
            | in_default-key_warning w ↦ ap (λ s. s.cursor.text.now) w.self-is
          ] in (
            ap string_bytes found ∙ read,
            ap (drop c.plain_on_line-stop.result.1) text
                ∙ behind_plain c.args.self.now.cursor.text.now c.args.self.now.cursor.at
                c.plain_on_line-stop.result.1 t rest stands shown.1,
          );
    }
