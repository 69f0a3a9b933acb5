-- What one mirror of a setup tells to `own` is read by the others.
use Rattle.std.proofs.Common.{◌≡◌, ◌≤◌, ◌<◌, ◌-◌, ℕ, Bool, true, false, cond, eqb, List, length, Ok, ap, sym, subst, arith}
use Rattle.std.proofs.lemmas.Bool.{leb-true, lt-ltb}
use Rattle.game_trait.specs.Acts.{has_act}
use Rattle.game_trait.specs.declared.command.Act.{Act}
use Rattle.game_trait.specs.declared.command.Command.{Command}
use Rattle.game_trait.specs.declared.limits.TheConstants.{GREATEST_NUMBER, MOST_PLAYERS, MOST_PLAYERS_IN_1}
use Rattle.command_lines.specs.CommandLine.{command_line}
use Rattle.match_setup.specs.Setup.{Layout}
use Rattle.match_data.specs.Data.{MatchData, IsMatch, IsCommand}
use Rattle.live_text.specs.declared.request.Request.TheVariants.{Own, Cmd}
use Rattle.live_text.specs.Requests.{request_at}
use Rattle.live_text.specs.Texts.{MayAsk, request_text}
use Rattle.live_text.proofs.TextLaws.{again}
use Rattle.live_mirror.specs.Led.{IsLed, IsOfSetup}
use Rattle.live_mirror.specs.Session.{SessionState, own_command, terms_of}
use Rattle.live_mirror.proofs.Arrivals.{are_terms, of_number, of_setup}

last-of : (one : Bool) (n : ℕ) → n < cond {A = ℕ} one MOST_PLAYERS_IN_1 MOST_PLAYERS → n ≤ cond {A = ℕ} one (MOST_PLAYERS_IN_1 - 1) (MOST_PLAYERS - 1)
last-of true n h = omega arith
last-of false n h = omega arith

module _ {W : Type 0} (start : Layout → W) (m : MatchData) (number : ℕ) (s : SessionState W) (is : IsLed start number s) (setup : IsOfSetup start m s) where
  names-are : length s.names ≡ length m.names
  names-are = ap (λ (ns : List (List ℕ)). length ns) setup.names

  -- an own command that may be asked is one of the match
  pub own-is : (player : ℕ) (act : Act) → s.mirror.clock < s.mirror.length → MayAsk (terms_of s) (Own player act) → IsCommand m (own_command s player act)
  own-is player act before may = record {
    time = omega (arith, before, setup.length);
    from = omega (arith, of_number start number s is, is.there, (of_setup start number s is).mirrors, setup.mirrors);
    number = leb-true s.next GREATEST_NUMBER may.1;
    player = omega (arith, may.3, names-are);
    act = subst (λ (v : ℕ). has_act v act ≡ true) setup.version may.4;
  }

  -- a command of the match is read as it stands, where there is room for it
  pub read-as : (x : Command) → IsMatch m → IsCommand m x → 0 < s.mirror.spare → request_at (terms_of s) (command_line x) ≡ Ok (Cmd x)
  unfolding request_text
  read-as x match of room =
      let few : x.player ≤ cond {A = ℕ} (eqb m.version 1) (MOST_PLAYERS_IN_1 - 1) (MOST_PLAYERS - 1) = (let a = of.player in let b = match.player_count in last-of (eqb m.version 1) x.player (omega (arith, a, b))) in
      let few_here : x.player ≤ cond {A = ℕ} (eqb s.version 1) (MOST_PLAYERS_IN_1 - 1) (MOST_PLAYERS - 1) =
      subst (λ (v : ℕ). x.player ≤ cond {A = ℕ} (eqb v 1) (MOST_PLAYERS_IN_1 - 1) (MOST_PLAYERS - 1)) (sym setup.version) few in
      again (terms_of s) (Cmd x) (are_terms start number s is) (
        lt-ltb 0 s.mirror.spare room,
        (
          (omega arith, omega (arith, of.time, setup.length)),
          ((omega arith, omega (arith, of.from, setup.mirrors)), ((omega arith, of.number), ((omega arith, few_here), subst (λ (v : ℕ). has_act v x.act ≡ true) (sym setup.version) of.act))),
        ),
        omega (arith, of.player, names-are),
      )
