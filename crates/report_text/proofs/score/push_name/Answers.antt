use Rattle.report_text.proofs.Values.{next-name, next-ascii, place-none}
use Rattle.std.proofs.Common.{ap, ◌∙◌, map, sym}
use Rattle.serde_json.specs.Data.{string}
use Rattle.report_text.proofs.score.push_name.Goals as goal

pub name_value-requires : goal.name_value-requires
name_value-requires c = next-ascii c.args.names.now c.args.place c.in-Some.name.now c.in-Some.ensures.name c.requires.ascii

pub returns-in_ok-push-in-Some : goal.returns-in_ok-push-in-Some
returns-in_ok-push-in-Some c =
    next-name c.args.names.now c.args.place c.in-Some.name.now _ _ _ c.in-Some.ensures.name c.requires.before
    c.in_ok-name_value-in-Some.ensures c.in_ok-push-in-Some.ensures.items

pub returns-in-None : goal.returns-in-None
returns-in-None c = c.requires.before ∙ sym (ap (map string) (place-none c.args.names.now c.args.place c.in-None.ensures.name))
