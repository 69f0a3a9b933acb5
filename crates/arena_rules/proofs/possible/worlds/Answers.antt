use Rattle.std.proofs.Common.{pos, neg_ℤ, [], ◌∷◌, replicate, map, refl, arith, lit<, lit≤}
use Rattle.std.specs.List.{range_with_len}
use Rattle.std.proofs.lemmas.List.Elements.{All-cons, All-nil, All-map, All-replicate}
use Rattle.match_setup.specs.Ground.{is_open}
use Rattle.arena_rules.specs.Player.{place, same_place}
use Rattle.match_setup.specs.Setup.{same_cell, pickup_cell}
use Rattle.arena_rules.specs.World.{IsPlayer, IsShot, IsPickup}
use Rattle.match_setup.specs.Worked.{yard, lane, at}
use Rattle.arena_rules.specs.Worked.{ann_home, bob_home, dead, live, shot, item, crowd, spread}
use Rattle.match_setup.specs.declared.face.Face.TheVariants.{N}
use Rattle.match_setup.specs.declared.pickup.Kind.TheVariants.{Gold}
use Rattle.arena_rules.specs.declared.pickup.Pickup.{Pickup}
use Rattle.arena_rules.proofs.Telling.{IsWorld-one, no_players, no_shots, no_pickups}
use Rattle.match_setup.proofs.Telling.{IsGrid-yard, IsGrid-lane, All-from_test, IsDistinct-from_test}
use Rattle.arena_rules.proofs.Computing.{computing}
use Rattle.std.specs.List.{IsDistinct}
use Rattle.arena_rules.proofs.possible.worlds.Goals as goal

pub returns : goal.returns
unfolding computing IsDistinct
returns c = record {
  least = IsWorld-one (live ann_home (at 4 1 N) 1 0 (neg_ℤ (pos 1000000)))
      (record {
        home = refl;
        score = (omega arith, omega arith);
        state = record { free = refl; health = (lit≤ tt, lit≤ tt); ammo = lit≤ tt };
      });
  most = IsWorld-one (live ann_home (at 4 1 N) 3 9 (pos 1000000))
      (record {
        home = refl;
        score = (omega arith, omega arith);
        state = record { free = refl; health = (lit≤ tt, lit≤ tt); ammo = lit≤ tt };
      });
  dead = record {
    grid = IsGrid-yard;
    players = record {
      count = lit≤ tt;
      each = All-cons (IsPlayer yard) (dead ann_home 10 (pos 0))
          (dead ann_home 0 (pos 0) ∷ live bob_home ann_home 3 5 (pos 0) ∷ [])
          (record { home = refl; score = (omega arith, omega arith); state = lit≤ tt })
          (All-cons (IsPlayer yard) (dead ann_home 0 (pos 0)) (live bob_home ann_home 3 5 (pos 0) ∷ []) (record { home = refl; score = (omega arith, omega arith); state = lit≤ tt })
          (All-cons (IsPlayer yard) (live bob_home ann_home 3 5 (pos 0)) []
          (record {
            home = refl;
            score = (omega arith, omega arith);
            state = record { free = refl; health = (lit≤ tt, lit≤ tt); ammo = lit≤ tt };
          })
          (All-nil (IsPlayer yard))));
      apart = ((refl, (refl, tt)), ((refl, tt), (tt, tt)));
    };
    shots = no_shots yard 3;
    pickups = no_pickups yard;
    time = lit< tt;
  };
  players = record {
    grid = IsGrid-lane;
    players = record {
      count = lit≤ tt;
      each = All-map (IsPlayer lane) (λ x. live (at x 0 N) (at x 0 N) 3 5 (pos 0)) (range_with_len 0 32)
          (All-from_test (λ x. is_open lane x 0) (λ x. IsPlayer lane (live (at x 0 N) (at x 0 N) 3 5 (pos 0)))
          (range_with_len 0 32) (λ x free. record {
            home = free;
            score = (omega arith, omega arith);
            state = record { free = free; health = (lit≤ tt, lit≤ tt); ammo = lit≤ tt };
          }) refl);
      apart = IsDistinct-from_test same_place (map place (crowd 32).players) refl;
    };
    shots = no_shots lane 32;
    pickups = no_pickups lane;
    time = lit< tt;
  };
  shots = record {
    grid = IsGrid-yard;
    players = record {
      count = lit≤ tt;
      each = All-cons (IsPlayer yard) (dead ann_home 1 (pos 0)) []
          (record { home = refl; score = (omega arith, omega arith); state = lit≤ tt }) (All-nil (IsPlayer yard));
      apart =
          (tt, tt);
    };
    shots = record {
      count = lit≤ tt;
      each = All-cons (IsShot yard 1) (shot 0 (at 2 2 N) 1) (replicate 63 (shot 0 (at 2 2 N) 8))
          (record { owner = lit< tt; free = refl; left = (lit≤ tt, lit≤ tt) })
          (All-replicate (IsShot yard 1) 63 (shot 0 (at 2 2 N) 8)
          (record { owner = lit< tt; free = refl; left = (lit≤ tt, lit≤ tt) }));
    };
    pickups = no_pickups yard;
    time = lit< tt;
  };
  pickups = record {
    grid = IsGrid-lane;
    players = no_players lane;
    shots = no_shots lane 0;
    pickups = record {
      count = lit≤ tt;
      each = All-map (IsPickup lane) (λ x. item x 0 Gold 20) (range_with_len 0 32)
          (All-from_test (λ x. is_open lane x 0) (λ x. IsPickup lane (item x 0 Gold 20)) (range_with_len 0 32)
          (λ x free. record { free = free; wait = lit≤ tt }) refl);
      apart = IsDistinct-from_test same_cell (map (λ (p : Pickup). pickup_cell p.place) (spread 32).pickups) refl;
    };
    time = lit< tt;
  };
  last = record { grid = IsGrid-yard; players = no_players yard; shots = no_shots yard 0; pickups = no_pickups yard; time = lit< tt };
}
