-- What the joins give is what the finish asks.
use Rattle.std.proofs.Common.{◌≡◌, ℕ, zero, suc, ◌+◌, ◌<◌, List, [], ◌∷◌, map, length, get_or, refl, ap, sym, ◌∙◌, subst, Vec, arith}
use Rattle.std.specs.declared.alloc.Global.{Global}
use Rattle.std.specs.List.{AllByRecursion, AllZip}
use Rattle.std.proofs.lemmas.List.{get_or_default, length-map}
use Rattle.game_trait.specs.declared.command.Command.{Command}
use Rattle.link_ring.specs.declared.send.LinkSend.{LinkSend}
use Rattle.link_ring.specs.declared.receive.LinkReceive.{LinkReceive}
use Rattle.link_ring.specs.Ends.{sent_of}
use Rattle.sync_model.specs.State.{MirrorState}
use Rattle.copy_workers.specs.declared.feeder_job.FeederEnd.{FeederEnd}
use Rattle.copy_workers.specs.Messages.{messages, commands_in}
use Rattle.race_hall.specs.declared.finish.Sender.{Sender}
use Rattle.race_hall.specs.Entries.{own}
use Rattle.race_hall.specs.Race.{plan_of, count_from}
use Rattle.race_hall.specs.Undelivered.{IsSenderOf}
use Rattle.race_hall.specs.Undelivered.{sender_of_end}
use Rattle.link_mesh.specs.Mesh.{sender_at, place_at, IsLinkedAt}
use Rattle.race_hall.specs.AfterJoins.{Holding, AreHeld, AreJoined}
use Rattle.race_hall.proofs.JobResults.{fed-sent}
use Rattle.link_mesh.proofs.Mesh.{sender-below}
use Rattle.race_hall.proofs.Numbered.{numbered-each}

map-get : {X Y : Type 0} (f : X → Y) (xs : List X) (i : ℕ) (d : X) (v : Y) → i < length xs → v ≡ get_or (map f xs) i v → v ≡ f (get_or xs i d)
map-get f [] i d v below here = absurd (omega arith)
map-get f (x ∷ xs) zero d v below here = here
map-get f (x ∷ xs) (suc i) d v below here = map-get f xs i d v (omega arith) here

end-is : {W : Type 0} (h : Holding W) (mirrors : List (MirrorState W)) (ends : List FeederEnd) → AreJoined h mirrors ends
    → (k : ℕ) → k < h.course.mirrors → get_or ends k (h.end k) ≡ h.end k
end-is h mirrors ends a k below =
    a.each_end k (get_or ends k (h.end k)) below (get_or_default ends k (h.end k) (get_or ends k (h.end k)) (let c = a.ends_count in omega arith))

-- what a map gives at mirror k
at-end : {W Y : Type 0} (f : FeederEnd → Y) (h : Holding W) (mirrors : List (MirrorState W)) (ends : List FeederEnd) → AreJoined h mirrors ends
    → (k : ℕ) (v : Y) → k < h.course.mirrors → v ≡ get_or (map f ends) k v → v ≡ f (h.end k)
at-end f h mirrors ends a k v below here =
    map-get f ends k (h.end k) v (let c = a.ends_count in omega arith) here ∙ ap f (end-is h mirrors ends a k below)

pub joined-held : {W : Type 0} (h : Holding W) (mirrors : List (MirrorState W)) (ends : List FeederEnd) → AreJoined h mirrors ends
    → AreHeld h mirrors (map (λ e. e.sends) ends) (map (λ e. e.receives) ends) (map sender_of_end ends)
joined-held {W} h mirrors ends a =
    let count = a.ends_count in
    let sends_long = length-map ends (λ (e : FeederEnd). e.sends) in
    let rows_long = length-map ends (λ (e : FeederEnd). e.receives) in
    let senders_long = length-map ends sender_of_end in
    record {
      race = record {
        fit = a.fit;
        room = a.room;
        few = a.few;
        fed = a.fed;
        count = omega arith;
        sent = λ k v below here.
            subst (λ (u : Vec LinkSend Global). AllByRecursion (λ s. sent_of s ≡ messages (plan_of h.course k) (h.end k).marked) u.items)
            (sym (at-end (λ (e : FeederEnd). e.sends) h mirrors ends a k v (omega arith) here))
            (fed-sent h.course k (h.job k) (h.end k) (own (h.seat k) (h.history k)) (a.fed k (omega arith)));
        each =
            subst (λ (n : ℕ). AllZip (IsSenderOf h.course (λ k. (h.end k).marked)) (count_from 0 n) (map sender_of_end ends)) (senders_long ∙ count)
            (numbered-each (IsSenderOf h.course (λ k. (h.end k).marked)) 0 (map sender_of_end ends) (λ j one below here.
            (let k : 0 + j ≡ j = omega arith in
            let low : j < h.course.mirrors = omega arith in
            let is : one ≡ sender_of_end (h.end j) = at-end sender_of_end h mirrors ends a j one low here in
            let f = a.fed j low in
            subst (λ (i : ℕ). IsSenderOf h.course (λ k. (h.end k).marked) i one) (sym k) (subst (IsSenderOf h.course (λ k. (h.end k).marked) j) (sym is)
            (record { plan = f.ends.plan ∙ f.of.plan; issued = f.ends.issued ∙ ap (λ (plan : List Command). length (commands_in (messages plan (h.end j).marked))) f.of.plan })))));
      };
      mirrors_count = a.mirrors_count;
      rows_count = rows_long ∙ count;
      at = λ m s v below here row.
          let is = at-end (λ (e : FeederEnd). e.receives) h mirrors ends a m v below row in
          let items : v.items ≡ (h.end m).receives.items = ap (λ (u : Vec LinkReceive Global). u.items) is in
          let links = a.links_count m below in
          let long = ap (λ (l : List LinkReceive). length l) items in
          record {
            there = below;
            closed = a.closed m s below here;
            ends = items;
            count = omega arith;
            linked = λ j r u low at from.
                (let there : sender_at m j < h.course.mirrors = sender-below m j (length v.items) h.course.mirrors (sender_at m j) low (omega arith) refl in
                let sends = at-end (λ (e : FeederEnd). e.sends) h mirrors ends a (sender_at m j) u there from in
                subst (λ (w : Vec LinkSend Global). IsLinkedAt (place_at m j) w.items r) (sym sends)
                (a.linked m j r below (omega arith) (at ∙ ap (λ (l : List LinkReceive). get_or l j r) items)));
          };
    }

pub held-same : {W : Type 0} (h : Holding W) (mirrors : List (MirrorState W)) (ends : List FeederEnd)
    (sends : List (Vec LinkSend Global)) (rows : List (Vec LinkReceive Global)) (senders : List Sender)
    → sends ≡ map (λ e. e.sends) ends → rows ≡ map (λ e. e.receives) ends → senders ≡ map sender_of_end ends
    → AreJoined h mirrors ends → AreHeld h mirrors sends rows senders
held-same h mirrors ends sends rows senders a b c joined =
    subst (λ (l : List (Vec LinkSend Global)). AreHeld h mirrors l rows senders) (sym a)
    (subst (λ (l : List (Vec LinkReceive Global)). AreHeld h mirrors (map (λ e. e.sends) ends) l senders) (sym b)
    (subst (λ (l : List Sender). AreHeld h mirrors (map (λ e. e.sends) ends) (map (λ e. e.receives) ends) l) (sym c) (joined-held h mirrors ends joined)))
