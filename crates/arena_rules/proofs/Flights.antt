-- The shots fly one after the other.
use Rattle.std.proofs.Common.{◌≡◌, ℕ, ◌+◌, ◌<◌, ◌≤◌, Option, Some, None, List, ◌∷◌, ◌++◌, length, drop, get_or, refl, sym, ap, ◌∙◌, append_assoc, append-nil}
use Rattle.std.proofs.lemmas.List.{drop_more, drop_all}
use Rattle.std.specs.List.{cons_option}
use Rattle.std.specs.Option.{option_to_list}
use Rattle.match_setup.specs.Ground.{Grid}
use Rattle.arena_rules.specs.Beat.{Flight, Flights, flown, flights, with_first}
use Rattle.arena_rules.specs.declared.player.Player.{Player}
use Rattle.arena_rules.specs.declared.shot.Shot.{Shot}
use Rattle.match_setup.specs.declared.face.Face.TheVariants.{N}

-- one shot more
flights-cons : (grid : Grid) (players : List Player) (shot : Shot) (shots : List Shot)
    → flights grid players (shot ∷ shots) ≡ with_first (flown grid players shot).shot
    (flights grid (flown grid players shot).players shots)
unfolding flights
flights-cons grid players shot shots = refl

-- the shots that fly on, with the one before them
kept_first : (kept : List Shot) (shot : Option Shot) (others : List Shot) → kept ++ cons_option shot others ≡ (kept ++ option_to_list shot) ++ others
kept_first kept (Some shot) others = simp append_assoc refl
kept_first kept None others = simp append-nil refl

-- what all shots leave, with those kept so far in front
abbrev pub after_kept : List Shot → Flights → Flights
after_kept kept rest = record { players = rest.players; shots = kept ++ rest.shots }

-- the next shot
pub flights-next : (grid : Grid) (first now new : List Player) (shots kept : List Shot) (i : ℕ) (d : Shot) (shot : Option Shot)
    → i < length shots → flown grid now (get_or shots i d) ≡ record { players = new; shot = shot }
    → flights grid first shots ≡ after_kept kept (flights grid now (drop i shots))
    → flights grid first shots ≡ after_kept (kept ++ option_to_list shot) (flights grid new (drop (i + 1) shots))
flights-next grid first now new shots kept i d shot within flight so_far =
    so_far
    ∙ ap (λ l. after_kept kept (flights grid now l)) (drop_more shots i d within)
    ∙ ap (after_kept kept) (flights-cons grid now (get_or shots i d) (drop (i + 1) shots))
    ∙ ap (λ (f : Flight). after_kept kept (with_first f.shot (flights grid f.players (drop (i + 1) shots)))) flight
    ∙ ap (λ l. record { players = (flights grid new (drop (i + 1) shots)).players; shots = l }) (kept_first kept shot (flights grid new (drop (i + 1) shots)).shots)

-- no shot is left
pub flights-all : (grid : Grid) (first now : List Player) (shots kept : List Shot) (i : ℕ) → length shots ≤ i
    → flights grid first shots ≡ after_kept kept (flights grid now (drop i shots))
    → flights grid first shots ≡ record { players = now; shots = kept }
unfolding flights
flights-all grid first now shots kept i past so_far = so_far ∙ rw drop_all (rw append-nil refl)

-- what stands past a list's end, in the words of the goals
abbrev pub no_shot : Shot
no_shot = record { owner = 0; spot = record { x = 0; y = 0; face = N }; left = 0 }

-- lists with one rest have the same element at its front
pub drop-next : {X : Type 0} (xs ys : List X) (i : ℕ) (d : X) → i < length xs → i < length ys
    → drop i xs ≡ drop i ys → (get_or xs i d ≡ get_or ys i d) × (drop (i + 1) xs ≡ drop (i + 1) ys)
drop-next xs ys i d x_there y_there same =
    let both : get_or xs i d ∷ drop (i + 1) xs ≡ get_or ys i d ∷ drop (i + 1) ys = sym (drop_more xs i d x_there) ∙ same ∙ drop_more ys i d y_there in
    (ap (λ l. get_or l 0 d) both, ap (λ l. drop 1 l) both)
