-- How long ordered parts are, and how many commands are still to come.
use Rattle.std.proofs.Common.{◌≡◌, refl, ◌∙◌, sym, ℕ, ◌+◌, ◌≤◌, Bool, true, cond, List, [], ◌∷◌, ◌++◌, length, map, arith, eqb, leb, length-append}
use Rattle.std.proofs.lemmas.Bool.Decides.{nat_tests}
use Rattle.std.proofs.lemmas.List.{length-map}
use Rattle.std.specs.List.{filter}
use Rattle.game_trait.specs.declared.command.Command.{Command}
use Rattle.game_trait.specs.declared.command.Item.{Item}
use Rattle.game_trait.specs.declared.command.Item.TheVariants.{Cmd, Beat}
use Rattle.game_trait.specs.Keys.{in_key_order}
use Rattle.game_trait.specs.Count.{times}
use Rattle.game_trait.specs.Ordered.{due_at, tick_of}
use Rattle.game_trait.proofs.Counts.{times-append, times-in_key_order, times-filter, times-all}

pub length-in_key_order : (xs : List Command) → length (in_key_order xs) ≡ length xs
length-in_key_order xs = sym (times-all (in_key_order xs)) ∙ times-in_key_order (λ _. true) xs ∙ times-all xs

length-due_at : (accepted : List Command) (t : ℕ) → length (due_at accepted t) ≡ times (λ x. eqb x.time t) accepted
length-due_at accepted t =
    sym (times-all (due_at accepted t))
    ∙ times-in_key_order (λ _. true) (filter (λ x. eqb x.time t) accepted)
    ∙ times-filter (λ _. true) (λ x. eqb x.time t) accepted

-- commands made items are as many
pub length-commands : (xs : List Command) → length (map Cmd xs) ≡ length xs
length-commands xs = length-map {A = Command} {B = Item} xs (λ x. Cmd x)

-- a tick is its commands and one beat
pub length-tick_of-due :
    (accepted : List Command) (t : ℕ) → length (tick_of accepted t) ≡ length (due_at accepted t) + 1
length-tick_of-due accepted t =
    let both = length-append (map Cmd (due_at accepted t)) (Beat ∷ []) in
    let same = length-commands (due_at accepted t) in
    omega arith

pub length-tick_of : (accepted : List Command) (t : ℕ) → length (tick_of accepted t) ≡ times (λ x. eqb x.time t) accepted + 1
length-tick_of accepted t =
    let whole = length-tick_of-due accepted t in
    let due = length-due_at accepted t in
    omega arith

-- the commands from a tick on are those of the tick and those from the next on
pub times-from : (accepted : List Command) (t : ℕ) → times (λ x. leb t x.time) accepted ≡ times (λ x. eqb x.time t) accepted + times (λ x. leb (t + 1) x.time) accepted
unfolding times
times-from [] t = refl
times-from (x ∷ xs) t =
    let rest = times-from xs t in
    let here : cond {A = ℕ} (leb t x.time) 1 0 ≡ cond {A = ℕ} (eqb x.time t) 1 0 + cond {A = ℕ} (leb (t + 1) x.time) 1 0 = grind (arith, nat_tests) in
    omega arith

-- one command more counts at most one
pub times-push : (p : Command → Bool) (accepted : List Command) (x : Command) → times p (accepted ++ x ∷ []) ≤ times p accepted + 1
unfolding times
times-push p accepted x =
    let both = times-append p accepted (x ∷ []) in
    let one : cond {A = ℕ} (p x) 1 0 ≤ 1 = grind arith in
    omega arith
