-- The tests of equality decide equality.
use Rattle.std.proofs.Common.{◌≡◌, ℕ, zero, suc, true, false, refl, ap, sym, ◌∙◌}
use Rattle.std.specs.Bool.{Decides}
use Rattle.std.proofs.lemmas.Bool.Decides.{Decides-eqb, Decides-and, Decides-like}
use Rattle.game_trait.specs.declared.command.Act.{Act}
use Rattle.game_trait.specs.declared.command.Act.TheVariants.{Go, Left, Right, Shoot, Dash}
use Rattle.game_trait.specs.declared.command.Command.{Command}
use Rattle.game_trait.specs.declared.command.Item.{Item}
use Rattle.game_trait.specs.declared.command.Item.TheVariants.{Cmd, Beat}
use Rattle.game_trait.specs.Run.{act_place, same_command, same_item}

-- the act at a place
act_at : ℕ → Act
act_at zero = Go
act_at (suc zero) = Left
act_at (suc (suc zero)) = Right
act_at (suc (suc (suc zero))) = Shoot
act_at (suc (suc (suc (suc n)))) = Dash

act_at-place : (a : Act) → act_at (act_place a) ≡ a
unfolding act_at
act_at-place Go = refl
act_at-place Left = refl
act_at-place Right = refl
act_at-place Shoot = refl
act_at-place Dash = refl

-- acts with one place are one act
act_place-same : (a b : Act) → act_place a ≡ act_place b → a ≡ b
act_place-same a b e = sym (act_at-place a) ∙ ap act_at e ∙ act_at-place b

pub same_command-Decides : (x y : Command) → Decides (same_command x y) (x ≡ y)
unfolding same_command
same_command-Decides x y =
    Decides-like _
    (λ (all : (x.time ≡ y.time) × ((x.from ≡ y.from) × ((x.number ≡ y.number) × ((x.player ≡ y.player) × (act_place x.act ≡ act_place y.act))))).
    let time = all.0 in let from = all.1.0 in let number = all.1.1.0 in let player = all.1.1.1.0 in let act = act_place-same x.act y.act all.1.1.1.1 in
    λ i. record { time = time i; from = from i; number = number i; player = player i; act = act i })
    (λ e. (ap (λ (c : Command). c.time) e, (ap (λ (c : Command). c.from) e, (ap (λ (c : Command). c.number) e, (ap (λ (c : Command). c.player) e, ap (λ (c : Command). act_place c.act) e)))))
    (Decides-and _ _ (Decides-eqb x.time y.time)
    (Decides-and _ _ (Decides-eqb x.from y.from)
    (Decides-and _ _ (Decides-eqb x.number y.number)
    (Decides-and _ _ (Decides-eqb x.player y.player) (Decides-eqb (act_place x.act) (act_place y.act))))))

-- the command of an item, or another where it has none
command_or : Command → Item → Command
command_or d (Cmd x) = x
command_or d Beat = d

pub same_item-Decides : (a b : Item) → Decides (same_item a b) (a ≡ b)
unfolding same_item command_or
same_item-Decides (Cmd x) (Cmd y) = Decides-like _ (λ e. ap Cmd e) (λ e. ap (command_or x) e) (same_command-Decides x y)
same_item-Decides (Cmd x) Beat = (λ e. absurd cc, λ e. absurd cc)
same_item-Decides Beat (Cmd y) = (λ e. absurd cc, λ e. absurd cc)
same_item-Decides Beat Beat = (λ e. refl, λ e. refl)

-- commands that aren't one differ by the test
pub not_same : (x y : Command) → ((x ≡ y) → ⊥) → same_command x y ≡ false
not_same x y differ =
    elim (same_command x y) as (λ v. same_command x y ≡ v → v ≡ false) [ true ↦ λ e. absurd (differ ((same_command-Decides x y).0 e)) | false ↦ λ e. refl ] refl
