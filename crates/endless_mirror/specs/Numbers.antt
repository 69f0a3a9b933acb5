-- How a mirror's own numbers go round.
use Rattle.std.specs.Prelude.{ℕ, ◌+◌, ◌==◌, ◌&&◌, if◌then◌else◌, List, [], ◌∷◌}
use Rattle.game_trait.specs.Game.{Rules}
use Rattle.live_text.specs.declared.request.Request.{Request}
use Rattle.live_text.specs.declared.request.Request.TheVariants.{Own, Cmd, Tick, Turn, Step, Restagger, World, Run, Commands, End}
use Rattle.endless_mirror.specs.Session.{SessionState, is_past, how_far, is_ahead, after_request}

-- how far a request moves the number of the own next command, round the circle
unfoldable pub number_moved : {W : Type 0} → SessionState W → Request → ℕ
number_moved s (Own player act) = if is_past s then 0 else 1
number_moved s (Cmd x) =
    if (x.from == s.number) && is_ahead s.next x.number then how_far s.next x.number + 1 else 0
number_moved s Tick = 0
number_moved s Turn = 0
number_moved s (Step copy) = 0
number_moved s (Restagger plan) = 0
number_moved s (World copy) = 0
number_moved s (Run copy) = 0
number_moved s Commands = 0
number_moved s End = 0

-- and requests, one after another
unfoldable pub numbers_moved : {W : Type 0} → Rules W → SessionState W → List Request → ℕ
numbers_moved rules s [] = 0
numbers_moved rules s (r ∷ rs) =
    number_moved s r + numbers_moved rules (after_request rules s r) rs
