use Rattle.std.proofs.Common.{◌≡◌, ◌<◌, ℕ, suc, ◌+◌, List, [], ◌∷◌, ◌++◌, length, take, drop, ap, ◌∙◌, arith}
use Rattle.std.proofs.Math.Seq.{split_at, take-suc}
use Rattle.std.specs.Prelude.{get_or}
use Rattle.match_data.specs.declared.script_line.ScriptLine.{ScriptLine}
use Rattle.match_data.specs.declared.script_line.ScriptLine.TheVariants.{Tick}
use Rattle.match_hall.specs.Script.{after_script}
use Rattle.match_hall.proofs.StoppedDrain.{draining-stop}
use Rattle.match_hall.proofs.laws.a_script_stops_at_a_line.Goals as goal

one-more : (script : List ScriptLine) (at : ℕ) → at < length script → take (at + 1) script ≡ take at script ++ get_or script at (Tick 0) ∷ []
one-more script at there = let next : at + 1 ≡ suc at = omega arith in rw next (take-suc script at (Tick 0) there)

pub returns : goal.returns
returns g c = record {
  script = λ show m old new before now h. (
    take h.at m.script,
    get_or m.script h.at (Tick 0),
    drop (suc h.at) m.script,
    split_at m.script h.at (Tick 0) h.there,
    h.state ∙ ap (after_script m.commands old) (one-more m.script h.at h.there),
    h.text,
  );
  drain = λ number turns old new before now h. (h.at, h.there, h.state, h.text);
  draining = λ old new before now h. draining-stop old new before now h;
  put = λ before now text h. (h.gained, h.rest, h.put, h.whole);
}
