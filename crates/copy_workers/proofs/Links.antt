-- One link: what it keeps, and what is fair.
use Rattle.std.proofs.Common.{◌≡◌, ℕ, ◌+◌, ◌<◌, ◌≤◌, min, List, [], ◌∷◌, ◌++◌, length, ap, sym, ◌∙◌, arith, length-append}
use Rattle.std.specs.List.{AllByRecursion}
use Rattle.std.proofs.lemmas.List.{length_push}
use Rattle.game_trait.specs.declared.command.Command.{Command}
use Rattle.game_trait.proofs.KeyOrder.{all-weaker}
use Rattle.link_ring.specs.declared.message.Message.TheVariants.{Cmd, Mark}
use Rattle.copy_workers.specs.Messages.{commands_in, IsOrderly}
use Rattle.tss_base.specs.Totals.{total}
use Rattle.copy_workers.specs.Feed.{Task, Hearing, least_mark, missed, with_mark, with_command}
use Rattle.copy_workers.specs.Feeding.{Hears, IsFair}
use Rattle.copy_workers.proofs.Lists.{total-at, all-at, all-changed}
use Rattle.copy_workers.proofs.MessageLists.{mark_after-mark, mark_after-command, commands_in-mark, commands_in-command, orderly-front, orderly-marks, length-parts}

-- nothing came
pub hears-missed : (h : Hearing) (known : ℕ) → h.known ≡ 0 → Hears h → Hears (missed h known)
hears-missed h known none hears =
    record { kept = hears.kept; each = omega (arith, hears.each); known = omega (arith, hears.known); least = omega (arith, hears.known) }

-- a mark came
pub hears-mark : (h : Hearing) (n known : ℕ) → h.known ≤ known + 1 → Hears h → Hears (with_mark h n known)
hears-mark h n known fewer hears =
    let longer = length_push h.got (Mark n) in
    record {
      kept = sym (mark_after-mark 0 h.got n);
      each = omega (arith, longer, hears.each);
      known = omega (arith, longer, hears.known);
      least = omega (arith, longer, hears.least);
    }

-- a command came
pub hears-command : (h : Hearing) (x : Command) (known : ℕ) → h.known ≤ known + 1 → Hears h → Hears (with_command h x known)
hears-command h x known fewer hears =
    let longer = length_push h.got (Cmd x) in
    record {
      kept = hears.kept ∙ sym (mark_after-command 0 h.got x);
      each = omega (arith, longer, hears.each);
      known = omega (arith, longer, hears.known);
      least = omega (arith, longer, hears.least);
    }

-- the count of commands of a link
abbrev pub heard_commands : Hearing → ℕ
heard_commands h = length (commands_in h.got)

-- a mark is no command
pub commands-mark : (h : Hearing) (n known : ℕ) → heard_commands (with_mark h n known) ≡ heard_commands h
commands-mark h n known = ap (λ (l : List Command). length l) (commands_in-mark h.got n)

-- a command is one
pub commands-command : (h : Hearing) (x : Command) (known : ℕ) → heard_commands (with_command h x known) ≡ heard_commands h + 1
commands-command h x known = ap (λ (l : List Command). length l) (commands_in-command h.got x) ∙ length-append (commands_in h.got) (x ∷ [])

-- what is fair was so before one link heard more
pub fair-before :
    (job : Task) (front : List Hearing) (h k : Hearing) (back : List Hearing)
    → (IsOrderly job.length k.got → IsOrderly job.length h.got) → heard_commands h ≤ heard_commands k
    → IsFair job (front ++ k ∷ back) → IsFair job (front ++ h ∷ back)
fair-before job front h k back orderly fewer fair =
    record {
      orderly =
          all-changed (λ g. IsOrderly job.length g.got) (λ g. IsOrderly job.length g.got) front k h back (λ g o. o)
          (orderly (all-at (λ g. IsOrderly job.length g.got) front k back fair.orderly)) fair.orderly;
      few = (let a = total-at heard_commands front h back in let b = total-at heard_commands front k back in let c = fair.few in omega arith);
    }

-- fair before, where nothing came
pub fair-missed :
    (job : Task) (front : List Hearing) (h : Hearing) (back : List Hearing) (known : ℕ) → IsFair job (front ++ missed h known ∷ back) → IsFair job (front ++ h ∷ back)
fair-missed job front h back known fair = fair-before job front h (missed h known) back (λ o. o) (omega arith) fair

-- fair before a mark
pub fair-mark :
    (job : Task) (front : List Hearing) (h : Hearing) (back : List Hearing) (n known : ℕ) → IsFair job (front ++ with_mark h n known ∷ back) → IsFair job (front ++ h ∷ back)
fair-mark job front h back n known fair =
    fair-before job front h (with_mark h n known) back (orderly-front job.length 0 h.got (Mark n ∷ [])) (omega (arith, commands-mark h n known)) fair

-- fair before a command
pub fair-command :
    (job : Task) (front : List Hearing) (h : Hearing) (back : List Hearing) (x : Command) (known : ℕ)
    → IsFair job (front ++ with_command h x known ∷ back) → IsFair job (front ++ h ∷ back)
fair-command job front h back x known fair =
    fair-before job front h (with_command h x known) back (orderly-front job.length 0 h.got (Cmd x ∷ [])) (omega (arith, commands-command h x known)) fair

-- no mark is below the least
pub least-all : (length : ℕ) (hs : List Hearing) → AllByRecursion (λ h. least_mark length hs ≤ h.kept) hs
unfolding least_mark
least-all length [] = tt
least-all length (h ∷ hs) =
    (omega arith, all-weaker (λ g. least_mark length hs ≤ g.kept) (λ g. min h.kept (least_mark length hs) ≤ g.kept) hs (λ g k. omega arith) (least-all length hs))

-- where each link was asked n times and the least mark is below the length, that link's commands and misses fill n but for its marks
pub least-tries :
    (length n : ℕ) (hs : List Hearing) → AllByRecursion Hears hs → AllByRecursion (λ h. IsOrderly length h.got) hs → AllByRecursion (λ h. h.tries ≡ n) hs
    → least_mark length hs < length → n ≤ least_mark length hs + total (λ h. heard_commands h + h.risen) hs
unfolding least_mark
least-tries length n [] hears orderly tries below = absurd (omega arith)
least-tries length n (h ∷ hs) hears orderly tries below =
    let parts = length-parts h.got in
    let marks = orderly-marks length 0 h.got orderly.0 in
    let each = hears.0.each in
    let kept = hears.0.kept in
    let same : h.tries ≡ n = tries.0 in
    let rest : least_mark length hs < length → n ≤ least_mark length hs + total (λ g. heard_commands g + g.risen) hs = least-tries length n hs hears.1 orderly.1 tries.1 in
    least-either h.kept (least_mark length hs) length n (heard_commands h + h.risen) (total (λ g. heard_commands g + g.risen) hs) (omega arith) rest below
  where
    least-either : (a b length n c t : ℕ) → n ≤ a + c → (b < length → n ≤ b + t) → min a b < length → n ≤ min a b + (c + t)
    least-either a b length n c t here rest below = grind arith
