-- How a session of peers with windows begins.
use Rattle.std.proofs.Common.{◌≡◌, ℕ, ◌^◌, ◌≤◌, ◌<◌, [], length, get_or, refl, arith}
use Rattle.std.proofs.lemmas.List.{length-map}
use Rattle.game_trait.specs.Game.{Rules}
use Rattle.sync_model.specs.State.{opening_state}
use Rattle.sync_model.proofs.Trailing.{trailing-opening}
use Rattle.rolling_mirror.proofs.Windows.{opening-window}
use Rattle.peer_model.specs.Net.{new_net}
use Rattle.peer_model.proofs.Starting.{opening-unused, new-session}
use Rattle.peer_window.specs.Window.{IsRolled}
use Rattle.peer_window.specs.Session.{Opening, whole_of, roll_of, new_roll_net, IsBeside}

opening-rolled :
    {W : Type 0} (rules : Rules W) (opening : W) (n : ℕ) (o : Opening) → 0 < length (get_or o.plans 0 []) → 0 < o.window → 2 ^ 32 ≤ n
    → IsRolled rules (whole_of opening n o) (roll_of opening o)
opening-rolled rules opening n o some window long =
    let delays = get_or o.plans 0 [] in
    let copies : length (opening_state opening n o.plans 0 0).runs ≡ length delays = length-map delays (λ delay. []) in
    record {
      window = opening-window rules opening o.window n o.plans 0 0 (omega arith);
      trailing = trailing-opening delays;
      within = window;
      in_session = omega arith;
      long = long;
    }

pub new-beside :
    {W : Type 0} (rules : Rules W) (slots n : ℕ) (opening : W) (each : ℕ → Opening) → ((i : ℕ) → 0 < length (get_or (each i).plans 0 [])) → ((i : ℕ) → 0 < (each i).window) → 2 ^ 32 ≤ n
    → IsBeside rules slots (new_net (λ i. whole_of opening n (each i))) (new_roll_net (λ i. roll_of opening (each i)))
new-beside rules slots n opening each some window long =
    record {
      session = new-session slots (λ i. whole_of opening n (each i)) (λ i. opening-unused opening n (each i).plans 0 0);
      log = λ o. refl;
      packets = refl;
      peers = λ i. record {
        queues = λ o. refl;
        known = λ j o. refl;
        heard = λ j. refl;
        rolled = opening-rolled rules opening n (each i) (some i) (window i) long;
      };
    }
