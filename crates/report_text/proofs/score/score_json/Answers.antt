use Rattle.std.proofs.Common.{ap, ◌∙◌}
use Rattle.serde_json.specs.Written.{compact_text, has_float}
use Rattle.report_text.specs.Score.{score_text}
use Rattle.report_text.proofs.Values.{no_float}
use Rattle.report_text.proofs.score.score_json.Goals as goal

pub returns : goal.returns
unfolding score_text
returns c =
    ap (λ v. v.items) c.into_bytes.ensures.value
    ∙ (c.in_ok-to_string.ensures.text (ap has_float c.in_ok-value.ensures ∙ no_float c.args.names.now c.args.rows.now)
    ∙ ap compact_text c.in_ok-value.ensures)
