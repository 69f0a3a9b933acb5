-- One command, one tick more, appended and executed.
use Rattle.std.proofs.Common.{◌≡◌, refl, ◌∙◌, sym, ap, ℕ, ◌+◌, ◌-◌, ◌≤◌, ◌<◌, List, [], ◌∷◌, ◌++◌, length, map, set, arith, length-append}
use Rattle.std.proofs.lemmas.List.{length-take-le, map-append}
use Rattle.std.specs.Prelude.{Some, None}
use Rattle.game_trait.specs.declared.command.Command.{Command}
use Rattle.game_trait.specs.declared.command.Item.{Item}
use Rattle.game_trait.specs.declared.command.Item.TheVariants.{Cmd, Beat}
use Rattle.game_trait.specs.Game.{Rules}
use Rattle.game_trait.specs.Run.{world_of}
use Rattle.game_trait.specs.Ordered.{ordered, tick_of, due_at}
use Rattle.game_trait.proofs.Runs.{world_of-append, world_of-none}
use Rattle.game_trait.proofs.OrderedParts.{ordered-join, ordered-more}
use Rattle.executed_list.specs.Segments.{OneList, run_grown, end_of}
use Rattle.executed_list.proofs.Grown.{grown-none, grown-push, grown-grown}
use Rattle.pending_list.specs.Buckets.{start_of}
use Rattle.pending_list.proofs.Walks.{IsWalked, walked_by, FoundDue, walk-begun, walk-more, walk-left, walk-done}
use Rattle.game_trait.proofs.Lengths.{length-commands}

-- one command more
commands-more :
    (xs ys : List Command) (x : Command) → ys ≡ xs ++ x ∷ [] → map Cmd ys ≡ map Cmd xs ++ Cmd x ∷ []
commands-more xs ys x e = ap (λ (l : List Command). map Cmd l) e ∙ map-append Cmd xs (x ∷ [])

-- items more, once some were put there
pub grown-on :
    (s now after : OneList) (a b c : List Item) → now ≡ run_grown s a → after ≡ run_grown now b
    → c ≡ a ++ b → after ≡ run_grown s c
grown-on s now after a b c at_now at_after at_c =
    at_after ∙ ap (λ (l : OneList). run_grown l b) at_now ∙ grown-grown s a b
    ∙ ap (run_grown s) (sym at_c)

pub world-on :
    {W : Type 0} (rules : Rules W) (opening now after : W) (a b c : List Item)
    → now ≡ world_of rules opening a → after ≡ world_of rules now b → c ≡ a ++ b
    → after ≡ world_of rules opening c
world-on {W} rules opening now after a b c at_now at_after at_c =
    at_after ∙ ap (λ (w : W). world_of rules w b) at_now ∙ sym (world_of-append rules opening a b)
    ∙ ap (world_of rules opening) (sym at_c)

pub world-command :
    {W : Type 0} (rules : Rules W) (w : W) (x : Command)
    → rules.apply w x ≡ world_of rules w (Cmd x ∷ [])
unfolding world_of
world-command rules w x = refl

pub world-beat :
    {W : Type 0} (rules : Rules W) (w : W) → rules.beat w ≡ world_of rules w (Beat ∷ [])
unfolding world_of
world-beat rules w = refl

-- the room of a tick that stands within an ordered part
pub tick-room :
    (all : List Command) (start t stop : ℕ) → start ≤ t → t < stop
    → length (ordered all start t) + (length (due_at all t) + 1) ≤ length (ordered all start stop)
tick-room all start t stop low high =
    let whole = ordered-join all start (t + 1) stop (omega arith) (omega arith) in
    let more = ordered-more all start t low in
    let one = length-append (ordered all start (t + 1)) (ordered all (t + 1) stop) in
    let two = length-append (ordered all start t) (tick_of all t) in
    let three = length-append (map Cmd (due_at all t)) (Beat ∷ []) in
    let four = length-commands (due_at all t) in
    let five :
    length (ordered all start stop)
    ≡ length (ordered all start (t + 1) ++ ordered all (t + 1) stop) =
    ap (λ (l : List Item). length l) whole in
    let six : length (ordered all start (t + 1)) ≡ length (ordered all start t ++ tick_of all t) =
    ap (λ (l : List Item). length l) more in
    omega arith

pub grown-spare :
    (s now : OneList) (a : List Item) → now ≡ run_grown s a → now.spare ≡ s.spare - length a
grown-spare s now a e = ap (λ (l : OneList). l.spare) e

-- what a walk through a tick's commands has appended, and what it has executed
abbrev pub Appended : List Command → ℕ → ℕ → ℕ → OneList → OneList → Type 0
Appended all t start place s now = now ≡ run_grown s (map Cmd (walked_by all t start place))

abbrev pub Executed : {W : Type 0} → Rules W → List Command → ℕ → ℕ → ℕ → W → W → Type 0
Executed rules all t start place opening now =
    now ≡ world_of rules opening (map Cmd (walked_by all t start place))

none-walked :
    (all : List Command) (t start : ℕ) → start ≡ start_of all t
    → [] ≡ map Cmd (walked_by all t start start)
none-walked all t start begun =
    sym (ap (λ (l : List Command). map Cmd l) (walk-begun all t start begun).1)

pub appended-none :
    (all : List Command) (t start : ℕ) (s : OneList) → start ≡ start_of all t
    → end_of s.ends 0 ≡ length s.items → Appended all t start start s s
appended-none all t start s begun first =
    grown-none s first ∙ ap (run_grown s) (none-walked all t start begun)

pub executed-none : {W : Type 0} (rules : Rules W) (all : List Command) (t start : ℕ) (w : W) → start ≡ start_of all t → Executed rules all t start start w w
executed-none rules all t start w begun = world_of-none rules w ∙ ap (world_of rules w) (none-walked all t start begun)

module _ {all : List Command} {t start place : ℕ} (h : IsWalked all t start place) where
  -- there is room for one more
  pub room-more :
      (s now : OneList) (x : Command) → length (due_at all t) ≤ s.spare
      → Appended all t start place s now → FoundDue all t place (Some x) → 0 < now.spare
  room-more s now x room appended at =
      let left = walk-left h x at in
      let spare = grown-spare s now (map Cmd (walked_by all t start place)) appended in
      let many = length-commands (walked_by all t start place) in
      let taken = length-take-le (place - start) (due_at all t) (omega arith) in
      omega arith

  pub appended-more :
      (s now after : OneList) (x : Command) → Appended all t start place s now
      → FoundDue all t place (Some x)
      → after
      ≡ record {
        items = now.items ++ Cmd x ∷ [];
        ends = set now.ends 0 (length now.items + 1);
        spare = now.spare - 1;
      }
      → Appended all t start (place + 1) s after
  appended-more s now after x appended at pushed =
      grown-on s now after (map Cmd (walked_by all t start place)) (Cmd x ∷ [])
      (map Cmd (walked_by all t start (place + 1))) appended
      (pushed ∙ grown-push now (Cmd x)) (commands-more (walked_by all t start place)
      (walked_by all t start (place + 1)) x (walk-more h x at).1)

  pub executed-more :
      {W : Type 0} (rules : Rules W) (w now after : W) (x : Command)
      → Executed rules all t start place w now → FoundDue all t place (Some x)
      → after ≡ rules.apply now x → Executed rules all t start (place + 1) w after
  executed-more rules w now after x executed at applied =
      world-on rules w now after (map Cmd (walked_by all t start place)) (Cmd x ∷ [])
      (map Cmd (walked_by all t start (place + 1))) executed
      (applied ∙ world-command rules now x) (commands-more (walked_by all t start place)
      (walked_by all t start (place + 1)) x (walk-more h x at).1)

  pub appended-all :
      (s now : OneList) → Appended all t start place s now → FoundDue all t place None
      → now ≡ run_grown s (map Cmd (due_at all t))
  appended-all s now appended at =
      appended ∙ ap (λ (l : List Command). run_grown s (map Cmd l)) (walk-done h at).0

  pub executed-all :
      {W : Type 0} (rules : Rules W) (w now : W) → Executed rules all t start place w now → FoundDue all t place None → now ≡ world_of rules w (map Cmd (due_at all t))
  executed-all rules w now executed at = executed ∙ ap (λ (l : List Command). world_of rules w (map Cmd l)) (walk-done h at).0
