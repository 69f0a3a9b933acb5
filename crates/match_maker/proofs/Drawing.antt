-- The commands that were drawn, and their lags.
use Rattle.std.proofs.Common.{◌≡◌, ℕ, zero, suc, ◌+◌, ◌/◌, ◌%◌, ◌≤◌, ◌<◌, false, if◌then◌else◌, List, [], ◌∷◌, ◌++◌, map, length, get_or, refl, sym, ap, ◌∙◌, arith}
use Rattle.std.proofs.lemmas.Bool.Decides.{nat_tests}
use Rattle.std.proofs.lemmas.List.{map-append, length-map, get_or-map}
use Rattle.std.proofs.lemmas.List.Folds.{list_any-append}
use Rattle.game_trait.specs.declared.command.Command.{Command}
use Rattle.game_trait.specs.Keys.{is_named}
use Rattle.game_trait.specs.CommandList.{has_command}
use Rattle.match_maker.specs.Below.{joined_below, each_below}
use Rattle.match_maker.specs.Generator.{command_at, lag}
use Rattle.match_maker.proofs.Lists.{joined_more, length_each, get_each}

-- commands in different places have different names
command_at-apart : (seed j k : ℕ) → k < j → is_named (j % 8) (j / 8) (command_at seed k) ≡ false
command_at-apart seed j k h = grind (arith, nat_tests)

-- a command's name isn't among those before it
pub command_at-new : (seed j k : ℕ) → k ≤ j → has_command (each_below (command_at seed) k) (j % 8) (j / 8) ≡ false
unfolding joined_below
command_at-new seed j zero h = refl
command_at-new seed j (suc k) h =
    list_any-append (is_named (j % 8) (j / 8)) (each_below (command_at seed) k) (command_at seed k ∷ [])
    ∙ rw (command_at-new seed j k (omega (arith, h)), command_at-apart seed j k (omega (arith, h))) refl

-- n rows
pub rows-long : {R : Type 0} → (items : R → List ℕ) (rows : List R) (seed n : ℕ)
    → map items rows ≡ each_below (λ j. each_below (lag seed j) 8) n → length rows ≡ n
rows-long items rows seed n h =
    sym (length-map rows items) ∙ (ap length h ∙ length_each (λ j. each_below (lag seed j) 8) n)

-- the row of a command
pub row-at : {R : Type 0} → (items : R → List ℕ) (rows : List R) (seed n place : ℕ) (row : R)
    → map items rows ≡ each_below (λ j. each_below (lag seed j) 8) n → place < n → row ≡ get_or rows place row
    → items row ≡ each_below (lag seed place) 8
row-at items rows seed n place row h l e =
    ap items e
    ∙ (sym (get_or-map items rows place row [] (omega (arith, rows-long items rows seed n h, l)))
    ∙ (ap (λ xs. get_or xs place []) h ∙ get_each (λ j. each_below (lag seed j) 8) n place [] l))

-- the lag of a command at a mirror
pub lag-at : {R : Type 0} → (items : R → List ℕ) (rows : List R) (seed n place mirror : ℕ) (row : R) (x : ℕ)
    → map items rows ≡ each_below (λ j. each_below (lag seed j) 8) n → place < n → row ≡ get_or rows place row
    → mirror < 8 → x ≡ get_or (items row) mirror 0 → x ≡ lag seed place mirror
lag-at items rows seed n place mirror row x h l e m g =
    g ∙ (ap (λ xs. get_or xs mirror 0) (row-at items rows seed n place row h l e) ∙ get_each (lag seed place) 8 mirror 0 m)

-- one more row
pub rows-more : {R : Type 0} → (items : R → List ℕ) (rows more : List R) (seed n : ℕ) (row : R)
    → map items rows ≡ each_below (λ j. each_below (lag seed j) 8) n → items row ≡ each_below (lag seed n) 8 → more ≡ rows ++ row ∷ []
    → map items more ≡ each_below (λ j. each_below (lag seed j) 8) (n + 1)
rows-more items rows more seed n row h r e =
    ap (map items) e
    ∙ (map-append items rows (row ∷ [])
    ∙ (ap (λ xs. xs ++ items row ∷ []) h
    ∙ (ap (λ xs. each_below (λ j. each_below (lag seed j) 8) n ++ xs ∷ []) r
    ∙ sym (joined_more (λ j. each_below (lag seed j) 8 ∷ []) n))))

-- one more command
pub commands-more : (seed n : ℕ) (commands more : List Command)
    → commands ≡ each_below (command_at seed) n
    → more ≡ (if has_command commands (n % 8) (n / 8) then commands else commands ++ command_at seed n ∷ [])
    → more ≡ each_below (command_at seed) (n + 1)
commands-more seed n commands more h e =
    let new : has_command commands (n % 8) (n / 8) ≡ false =
    ap (λ xs. has_command xs (n % 8) (n / 8)) h ∙ command_at-new seed n n (omega arith) in
    (e ∙ rw new refl) ∙ (ap (λ xs. xs ++ command_at seed n ∷ []) h ∙ sym (joined_more (λ j. command_at seed j ∷ []) n))
