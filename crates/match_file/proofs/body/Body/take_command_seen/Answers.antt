use Rattle.std.proofs.Common.{◌≡◌, ltb, length, false, true, not, refl, sym, ◌∙◌, arith}
use Rattle.std.proofs.lemmas.Bool.{lt-ltb}
use Rattle.game_trait.specs.CommandList.{has_command}
use Rattle.match_data.specs.Data.{most_commands}
use Rattle.match_file.proofs.SeenLaws.{command_taken}
use Rattle.match_file.proofs.body.Body.take_command_seen.Goals as goal

pub returns-then-branch-clause-some : goal.returns-then-branch-clause-some
returns-then-branch-clause-some c =
    let line = c.in-Some.ensures in
    let room : ltb (length c.args.self.now.commands) (most_commands c.args.opening.now.version) ≡ true = lt-ltb _ _ (omega (arith, c.if-len-most_commands.false, c.len.ensures, c.most_commands.ensures)) in
    let player : ltb c.in-Some.command.player (length c.args.self.now.players) ≡ true = lt-ltb _ _ (omega arith) in
    let added : true ≡ not (has_command c.args.self.now.commands c.in-Some.command.from c.in-Some.command.number) = sym c.if-branch.true ∙ c.in_ok-insert.ensures.added in
    let new : has_command c.args.self.now.commands c.in-Some.command.from c.in-Some.command.number ≡ false =
    elim (has_command c.args.self.now.commands c.in-Some.command.from c.in-Some.command.number) as (λ v. true ≡ not v → v ≡ false)
    [ true ↦ λ e. e | false ↦ λ _. refl ] added in
    let put = rw new at c.in_ok-insert.ensures.ok in
    rw put (command_taken c.args.opening.now c.args.self.now c.in-Some.command c.args.text.now c.in-Some.rest.now c.requires
    line.1 (rw c.ranges-2.ensures at line.0 c.args.opening.now.version) (sym c.may_open.ensures ∙ c.if-not-may_open.false) room player new)
