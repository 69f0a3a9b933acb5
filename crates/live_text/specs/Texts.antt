-- The text that a request has.
use Rattle.std.specs.Prelude.{◌≡◌, ℕ, ◌<◌, ◌≤◌, ◌-◌, true, List, [], ◌∷◌, codes, decimal}
use Rattle.game_trait.specs.declared.limits.TheConstants.{LONGEST_MATCH, MOST_COPIES, MOST_MIRRORS, MOST_PLANS}
use Rattle.command_lines.specs.CommandLine.{act_word, command_line, last_player, CommandFits}
use Rattle.game_trait.specs.Acts.{has_act}
use Rattle.tss_io.specs.Lines.{spaced}
use Rattle.live_text.specs.declared.request.Terms.{Terms}
use Rattle.live_text.specs.declared.request.Request.{Request}
use Rattle.live_text.specs.declared.request.Request.TheVariants.{Own, Cmd, Tick, Turn, Step, Restagger, World, Run, Commands, End}
use Rattle.live_text.specs.Requests.{ranges_of}

-- the one line of a request
unfoldable pub request_text : Request → List ℕ
request_text (Own player act) = spaced (codes "own" ∷ decimal player ∷ act_word act ∷ [])
request_text (Cmd x) = command_line x
request_text Tick = codes "tick"
request_text Turn = codes "turn"
request_text (Step copy) = spaced (codes "step" ∷ decimal copy ∷ [])
request_text (Restagger plan) = spaced (codes "restagger" ∷ decimal plan ∷ [])
request_text (World copy) = spaced (codes "world" ∷ decimal copy ∷ [])
request_text (Run copy) = spaced (codes "run" ∷ decimal copy ∷ [])
request_text Commands = codes "commands"
request_text End = codes "end"

-- a mirror of such a match may be asked this: all that it names is there, and there is room for it
abbrev pub MayAsk : Terms → Request → Type 0
MayAsk t (Own player act) =
    (t.can_arrive ≡ true) × (t.can_number ≡ true) × (player ≤ last_player t.version)
    × (player < t.players) × (has_act t.version act ≡ true)
MayAsk t (Cmd x) =
    (t.can_arrive ≡ true) × CommandFits t.version (ranges_of t) x × (x.player < t.players)
MayAsk t Tick = Unit {0}
MayAsk t Turn = Unit {0}
MayAsk t (Step copy) = copy ≤ t.copies - 1
MayAsk t (Restagger plan) = (t.can_restagger ≡ true) × (plan ≤ t.plans - 1)
MayAsk t (World copy) = copy ≤ t.copies - 1
MayAsk t (Run copy) = copy ≤ t.copies - 1
MayAsk t Commands = Unit {0}
MayAsk t End = Unit {0}

-- the numbers of a match
pub record AreTerms (t : Terms) : Type 0 where
  pub length : t.length ≤ LONGEST_MATCH
  pub mirrors : t.mirrors ≤ MOST_MIRRORS
  pub copies : t.copies ≤ MOST_COPIES
  pub plans : t.plans ≤ MOST_PLANS
