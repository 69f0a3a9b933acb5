-- Lists of messages joined: commands, marks, order.
use Rattle.std.proofs.Common.{◌≡◌, ℕ, suc, ◌+◌, ◌<◌, ◌≤◌, List, [], ◌∷◌, ◌++◌, map, length, refl, ap, ◌∙◌, arith}
use Rattle.game_trait.specs.declared.command.Command.{Command}
use Rattle.game_trait.specs.Ordered.{due_at}
use Rattle.link_ring.specs.declared.message.Message.{Message}
use Rattle.link_ring.specs.declared.message.Message.TheVariants.{Cmd, Mark}
use Rattle.copy_workers.specs.Messages.{tick_messages, messages, commands_in, marks_in, mark_after, OrderlyAfter}

-- one tick more
pub messages-more : (plan : List Command) (n : ℕ) → messages plan (n + 1) ≡ messages plan n ++ tick_messages plan n
unfolding messages
messages-more plan n = (let e : n + 1 ≡ suc n = omega arith in ap (messages plan) e)

-- commands of two lists
pub commands_in-append : (a b : List Message) → commands_in (a ++ b) ≡ commands_in a ++ commands_in b
unfolding commands_in
commands_in-append [] b = refl
commands_in-append (Cmd x ∷ a) b = ap (λ (l : List Command). x ∷ l) (commands_in-append a b)
commands_in-append (Mark n ∷ a) b = commands_in-append a b

-- the commands of a tick
commands_in-map : (xs : List Command) (n : ℕ) → commands_in (map Cmd xs ++ Mark n ∷ []) ≡ xs
unfolding commands_in
commands_in-map [] n = refl
commands_in-map (x ∷ xs) n = ap (λ (l : List Command). x ∷ l) (commands_in-map xs n)

-- one more tick is sent
pub commands_in-tick : (sent : List Message) (plan : List Command) (t : ℕ) → commands_in (sent ++ tick_messages plan t) ≡ commands_in sent ++ due_at plan t
commands_in-tick sent plan t =
    commands_in-append sent (tick_messages plan t) ∙ ap (λ (l : List Command). commands_in sent ++ l) (commands_in-map (due_at plan t) (t + 1))

-- one more message is received
pub commands_in-mark : (got : List Message) (n : ℕ) → commands_in (got ++ Mark n ∷ []) ≡ commands_in got
unfolding commands_in
commands_in-mark [] n = refl
commands_in-mark (Cmd x ∷ a) n = ap (λ (l : List Command). x ∷ l) (commands_in-mark a n)
commands_in-mark (Mark m ∷ a) n = commands_in-mark a n

-- one command more
pub commands_in-command : (got : List Message) (x : Command) → commands_in (got ++ Cmd x ∷ []) ≡ commands_in got ++ x ∷ []
unfolding commands_in
commands_in-command got x = commands_in-append got (Cmd x ∷ [])

-- the last mark of two lists
pub mark_after-append : (m : ℕ) (a b : List Message) → mark_after m (a ++ b) ≡ mark_after (mark_after m a) b
unfolding mark_after
mark_after-append m [] b = refl
mark_after-append m (Cmd x ∷ a) b = mark_after-append m a b
mark_after-append m (Mark n ∷ a) b = mark_after-append n a b

-- a mark is the last
pub mark_after-mark : (m : ℕ) (a : List Message) (n : ℕ) → mark_after m (a ++ Mark n ∷ []) ≡ n
unfolding mark_after
mark_after-mark m a n = mark_after-append m a (Mark n ∷ [])

-- a command leaves the mark
pub mark_after-command : (m : ℕ) (a : List Message) (x : Command) → mark_after m (a ++ Cmd x ∷ []) ≡ mark_after m a
unfolding mark_after
mark_after-command m a x = mark_after-append m a (Cmd x ∷ [])

-- the parts of an orderly list are orderly
pub orderly-front : (length m : ℕ) (a b : List Message) → OrderlyAfter length m (a ++ b) → OrderlyAfter length m a
unfolding OrderlyAfter
orderly-front length m [] b h = tt
orderly-front length m (Cmd x ∷ a) b h = (h.0, h.1, orderly-front length m a b h.2)
orderly-front length m (Mark n ∷ a) b h = (h.0, h.1, orderly-front length n a b h.2)

-- orderly behind a front
pub orderly-back : (length m : ℕ) (a b : List Message) → OrderlyAfter length m (a ++ b) → OrderlyAfter length (mark_after m a) b
unfolding OrderlyAfter mark_after
orderly-back length m [] b h = h
orderly-back length m (Cmd x ∷ a) b h = orderly-back length m a b h.2
orderly-back length m (Mark n ∷ a) b h = orderly-back length n a b h.2

-- a mark rises, up to the length
pub orderly-mark : (length m : ℕ) (a : List Message) (n : ℕ) → OrderlyAfter length m (a ++ Mark n ∷ []) → (mark_after m a < n) × (n ≤ length)
unfolding OrderlyAfter
orderly-mark length m a n h = (let k = orderly-back length m a (Mark n ∷ []) h in (k.0, k.1))

-- a command comes before the last mark
pub orderly-command : (length m : ℕ) (a : List Message) (x : Command) → OrderlyAfter length m (a ++ Cmd x ∷ []) → (mark_after m a < length) × (x.time < length)
unfolding OrderlyAfter
orderly-command length m a x h = (let k = orderly-back length m a (Cmd x ∷ []) h in (k.0, k.1))

-- marks rise from 1, so there are no more of them than the last says
pub orderly-marks : (length m : ℕ) (a : List Message) → OrderlyAfter length m a → m + marks_in a ≤ mark_after m a
unfolding OrderlyAfter mark_after marks_in
orderly-marks length m [] h = omega arith
orderly-marks length m (Cmd x ∷ a) h = orderly-marks length m a h.2
orderly-marks length m (Mark n ∷ a) h = omega (arith, orderly-marks length n a h.2, h.0)

-- no mark is above the length
pub orderly-most : (length m : ℕ) (a : List Message) → m ≤ length → OrderlyAfter length m a → mark_after m a ≤ length
unfolding OrderlyAfter mark_after
orderly-most length m [] most h = most
orderly-most length m (Cmd x ∷ a) most h = orderly-most length m a most h.2
orderly-most length m (Mark n ∷ a) most h = orderly-most length n a h.1 h.2

-- messages are commands and marks
pub length-parts : (a : List Message) → length a ≡ length (commands_in a) + marks_in a
unfolding commands_in marks_in
length-parts [] = omega arith
length-parts (Cmd x ∷ a) = omega (arith, length-parts a)
length-parts (Mark n ∷ a) = omega (arith, length-parts a)
