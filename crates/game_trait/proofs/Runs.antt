-- Runs joined end to end: their beats, their commands and their worlds.
use Rattle.std.proofs.Common.{◌≡◌, ◌+◌, List, [], ◌∷◌, ◌++◌, map, refl, ap, arith}
use Rattle.game_trait.specs.declared.command.Command.{Command}
use Rattle.game_trait.specs.declared.command.Item.{Item}
use Rattle.game_trait.specs.declared.command.Item.TheVariants.{Cmd, Beat}
use Rattle.game_trait.specs.Game.{Rules}
use Rattle.game_trait.specs.Run.{beats, commands_of, world_of}

-- beats add up
pub beats-append : (a b : List Item) → beats (a ++ b) ≡ beats a + beats b
unfolding beats
beats-append [] b = omega arith
beats-append (Cmd x ∷ a) b = beats-append a b
beats-append (Beat ∷ a) b = omega (arith, beats-append a b)

-- commands join
pub commands_of-append : (a b : List Item) → commands_of (a ++ b) ≡ commands_of a ++ commands_of b
unfolding commands_of
commands_of-append [] b = refl
commands_of-append (Cmd x ∷ a) b = ap (λ (l : List Command). x ∷ l) (commands_of-append a b)
commands_of-append (Beat ∷ a) b = commands_of-append a b

-- a run goes on from the world that its front leaves
pub world_of-append :
    {W : Type 0} (rules : Rules W) (opening : W) (a b : List Item)
    → world_of rules opening (a ++ b) ≡ world_of rules (world_of rules opening a) b
unfolding world_of
world_of-append rules opening [] b = refl
world_of-append rules opening (Cmd x ∷ a) b = world_of-append rules (rules.apply opening x) a b
world_of-append rules opening (Beat ∷ a) b = world_of-append rules (rules.beat opening) a b

-- no item changes nothing
pub world_of-none : {W : Type 0} (rules : Rules W) (opening : W) → opening ≡ world_of rules opening []
unfolding world_of
world_of-none rules opening = refl

-- one more command
pub world_of-command :
    {W : Type 0} (rules : Rules W) (opening : W) (a : List Item) (x : Command)
    → world_of rules opening (a ++ Cmd x ∷ []) ≡ rules.apply (world_of rules opening a) x
unfolding world_of
world_of-command rules opening a x = world_of-append rules opening a (Cmd x ∷ [])

-- one more beat
pub world_of-beat :
    {W : Type 0} (rules : Rules W) (opening : W) (a : List Item)
    → world_of rules opening (a ++ Beat ∷ []) ≡ rules.beat (world_of rules opening a)
unfolding world_of
world_of-beat rules opening a = world_of-append rules opening a (Beat ∷ [])

-- commands alone have no beat
pub beats-map_Cmd : (xs : List Command) → beats (map Cmd xs) ≡ 0
unfolding beats
beats-map_Cmd [] = refl
beats-map_Cmd (x ∷ xs) = beats-map_Cmd xs

-- commands made items are the same commands
pub commands_of-map_Cmd : (xs : List Command) → commands_of (map Cmd xs) ≡ xs
unfolding commands_of
commands_of-map_Cmd [] = refl
commands_of-map_Cmd (x ∷ xs) = ap (λ (l : List Command). x ∷ l) (commands_of-map_Cmd xs)
