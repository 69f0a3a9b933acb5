-- Events that are made one after another.
use Rattle.std.proofs.Common.{◌≡◌, ◌∙◌, sym, subst, ℕ, ◌+◌, ◌≤◌, ◌<◌, List, [], ◌∷◌}
use Rattle.std.proofs.Common.{◌++◌, length, drop, get_or, arith, append_assoc, length-append}
use Rattle.std.specs.List.{AllByRecursion}
use Rattle.std.proofs.lemmas.List.{drop_more, drop_all, append-nil}
use Rattle.game_trait.specs.declared.event.Event.{Event}
use Rattle.game_trait.specs.declared.event.Event.TheVariants.{Tick}
use Rattle.game_trait.specs.declared.event.Reply.{Reply}
use Rattle.sync_model.specs.State.{MirrorState}
use Rattle.sync_model.specs.Change.{Fits, next, said, after, answers}
use Rattle.sync_model.specs.History.{HasRoom, HasRoomAlong}
use Rattle.sync_model.proofs.Along.{all-fit-next}

-- of these events a mirror that stood in a first state has still some to make, the answers so far
-- are told, and all answers have room among so many
pub record IsOnItsWay {W : Type 0} (s0 : MirrorState W) (es : List Event) (most : ℕ)
    (s : MirrorState W) (rest : List Event) (told : List Reply) : Type 0 where
  pub fits : AllByRecursion (Fits s) rest
  pub room : HasRoomAlong s rest
  pub few : length told + length rest ≤ most
  pub state : after s rest ≡ after s0 es
  pub replies : told ++ answers s rest ≡ answers s0 es

module _ {W : Type 0} {s0 : MirrorState W} {es : List Event} {most : ℕ} {s : MirrorState W}
    {place : ℕ} {told : List Reply} where
  -- the next event stands before the rest
  next-first :
      place < length es → IsOnItsWay s0 es most s (drop place es) told
      → IsOnItsWay s0 es most s (get_or es place Tick ∷ drop (place + 1) es) told
  next-first there h =
      subst (λ (rest : List Event). IsOnItsWay s0 es most s rest told)
      (drop_more es place Tick there) h

  -- there is room for the next event
  pub next-room :
      place < length es → IsOnItsWay s0 es most s (drop place es) told
      → HasRoom s (get_or es place Tick)
  unfolding HasRoomAlong
  next-room there h = (next-first there h).room.0

  -- it is made
  pub next-made :
      (t : MirrorState W) (r : Reply) → place < length es → t ≡ next s (get_or es place Tick)
      → r ≡ said s (get_or es place Tick) → IsOnItsWay s0 es most s (drop place es) told
      → IsOnItsWay s0 es most t (drop (place + 1) es) (told ++ r ∷ [])
  unfolding HasRoomAlong after answers
  next-made t r there made answer on_its_way =
      let e = get_or es place Tick in
      let rest = drop (place + 1) es in
      let h = next-first there on_its_way in
      let longer = length-append told (said s e ∷ []) in
      let few = h.few in
      rw (made, answer) (record {
        fits = all-fit-next s e rest h.fits.1;
        room = h.room.1;
        few = omega arith;
        state = h.state;
        replies = append_assoc told (said s e ∷ []) (answers (next s e) rest) ∙ h.replies;
      })

  -- no event is left
  pub all-made :
      length es ≤ place → IsOnItsWay s0 es most s (drop place es) told
      → (s ≡ after s0 es) × (told ≡ answers s0 es)
  unfolding after answers
  all-made past on_its_way =
      let h =
      subst (λ (rest : List Event). IsOnItsWay s0 es most s rest told) (drop_all place es past)
      on_its_way in
      (h.state, sym (append-nil told) ∙ h.replies)
