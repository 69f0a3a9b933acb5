-- Looking at links: both ends stay the ends that they were, and nothing more is sent or received.
use Rattle.std.proofs.Common.{◌≡◌, ◌≢◌, ℕ, ◌+◌, ◌<◌, true, false, cond, List, [], ◌∷◌, ◌++◌, length, get_or, set, refl, ap, sym, ◌∙◌, subst, Vec, arith}
use Rattle.std.specs.Prelude.{nat_lt}
use Rattle.std.specs.declared.alloc.Global.{Global}
use Rattle.std.specs.List.{AllByRecursion, AllZip}
use Rattle.std.proofs.lemmas.Bool.Decides.{nat_tests}
use Rattle.std.proofs.lemmas.List.Elements.{length_all_zip}
use Rattle.std.proofs.lemmas.List.{get_or-set_other, get_or-set_same, get_or_default}
use Rattle.link_ring.specs.declared.message.Message.{Message}
use Rattle.link_ring.specs.declared.send.LinkSend.{LinkSend}
use Rattle.link_ring.specs.declared.receive.LinkReceive.{LinkReceive}
use Rattle.link_ring.specs.Ends.{sent_of, received_of, waiting_of, IsLink, SameSend, SameReceive}
use Rattle.link_ring.proofs.Later.{link-later, same_send-trans}
use Rattle.link_mesh.specs.Mesh.{sender_at, place_at, SameSent, SameReceived, SameSends, IsLinkedAt, IsRowLinked, AllSent, IsWholeTo}
use Rattle.link_mesh.proofs.Zips.{zip-same, zip-through, zip-change, zip-get}

same_send-same : (a : LinkSend) → SameSend a a
same_send-same a = ((refl, refl, refl, refl), refl)

pub same_receive-same : (a : LinkReceive) → SameReceive a a
same_receive-same a = ((refl, refl, refl, refl), refl)

same_receive-trans : (a b c : LinkReceive) → SameReceive a b → SameReceive b c → SameReceive a c
same_receive-trans a b c h k = ((k.0.0 ∙ h.0.0, k.0.1 ∙ h.0.1, k.0.2 ∙ h.0.2, k.0.3 ∙ h.0.3), k.1 ∙ h.1)

pub received-same : (a : LinkReceive) → SameReceived a a
received-same a = record { received = refl; same = same_receive-same a }

received-trans : (a b c : LinkReceive) → SameReceived a b → SameReceived b c → SameReceived a c
received-trans a b c h k = record { received = k.received ∙ h.received; same = same_receive-trans a b c h.same k.same }

pub row-same : (row : List LinkReceive) → AllZip SameReceived row row
row-same row = zip-same SameReceived received-same row

pub row-change : (first now : List LinkReceive) (i : ℕ) (d r : LinkReceive) → AllZip SameReceived first now → SameReceived (get_or now i d) r → AllZip SameReceived first (set now i r)
row-change first now i d r h k = zip-change SameReceived received-trans first now i d r h k

pub sent-same : (a : LinkSend) → SameSent a a
sent-same a = record { sent = refl; same = same_send-same a }

sent-trans : (a b c : LinkSend) → SameSent a b → SameSent b c → SameSent a c
sent-trans a b c h k = record { sent = k.sent ∙ h.sent; same = same_send-trans a b c h.same k.same }

sends-trans : (a b c : Vec LinkSend Global) → SameSends a b → SameSends b c → SameSends a c
sends-trans a b c h k = zip-through SameSent SameSent SameSent a.items b.items c.items sent-trans h k

sends-same : (a : Vec LinkSend Global) → SameSends a a
sends-same a = zip-same SameSent sent-same a.items

pub all-sends-same : (sends : List (Vec LinkSend Global)) → AllZip SameSends sends sends
all-sends-same sends = zip-same SameSends sends-same sends

pub all-sends-trans : (a b c : List (Vec LinkSend Global)) → AllZip SameSends a b → AllZip SameSends b c → AllZip SameSends a c
all-sends-trans a b c h k = zip-through SameSends SameSends SameSends a b c sends-trans h k

pub sends-change : (first now : List (Vec LinkSend Global)) (i : ℕ) (d v : Vec LinkSend Global) → AllZip SameSends first now → SameSends (get_or now i d) v → AllZip SameSends first (set now i v)
sends-change first now i d v h k = zip-change SameSends sends-trans first now i d v h k

pub one-sent : (sends : List LinkSend) (i : ℕ) (d s : LinkSend) → sent_of s ≡ sent_of (get_or sends i d) → SameSend (get_or sends i d) s → AllZip SameSent sends (set sends i s)
one-sent sends i d s sent same = zip-change SameSent sent-trans sends sends i d s (zip-same SameSent sent-same sends) (record { sent = sent; same = same })

-- what every end was sent stays so
pub all-sent-later : (more : List Message) (xs ys : List LinkSend) → AllByRecursion (λ s. sent_of s ≡ more) xs → AllZip SameSent xs ys → AllByRecursion (λ s. sent_of s ≡ more) ys
all-sent-later more [] [] h k = tt
all-sent-later more [] (y ∷ ys) h k = absurd k
all-sent-later more (x ∷ xs) [] h k = absurd k
all-sent-later more (x ∷ xs) (y ∷ ys) h k = (k.0.sent ∙ h.0, all-sent-later more xs ys h.1 k.1)

pub all_sent-later : (sent : ℕ → List Message) (first now : List (Vec LinkSend Global)) → AllSent sent first → AllZip SameSends first now → AllSent sent now
all_sent-later sent first now all same k v below here =
    let long = length_all_zip SameSends first now same in
    let old = all k (get_or first k v) (omega arith) (get_or_default first k v (get_or first k v) (omega arith)) in
    let pair = zip-get SameSends first now k v same below in
    subst (λ (u : Vec LinkSend Global). AllByRecursion (λ s. sent_of s ≡ sent k) u.items) (sym here) (all-sent-later (sent k) (get_or first k v).items (get_or now k v).items old pair)

-- two ends of a link go on being that
linked-later : (place : ℕ) (xs ys : List LinkSend) (r q : LinkReceive) → IsLinkedAt place xs r → AllZip SameSent xs ys → SameReceive r q → IsLinkedAt place ys q
linked-later place xs ys r q h k received =
    let long = length_all_zip SameSent xs ys k in
    record {
      below = (let a = h.below in omega arith);
      linked = λ s e.
          let old : IsLink (get_or xs place s) r = h.linked (get_or xs place s) (get_or_default xs place s (get_or xs place s) h.below) in
          let pair = zip-get SameSent xs ys place s k (let b = h.below in omega arith) in
          let same : SameSend (get_or xs place s) s = subst (λ (t : LinkSend). SameSend (get_or xs place s) t) (sym e) pair.same in
          link-later (get_or xs place s) s r q old same received;
    }

pub sender-below : (m j links senders k : ℕ) → j < links → links + 1 ≡ senders → k ≡ sender_at m j → k < senders
sender-below m j links senders k below count is =
    elim (nat_lt j m) as (λ v. k ≡ cond v j (j + 1) → k < senders) [ true ↦ λ e. omega arith | false ↦ λ e. omega arith ] is

-- and so do all of a mirror, whatever was looked at meanwhile
pub row_linked-later :
    (m : ℕ) (first now : List (Vec LinkSend Global)) (row0 row : List LinkReceive)
    → length row + 1 ≡ length first → IsRowLinked m first row0 → AllZip SameSends first now → AllZip SameReceived row0 row → IsRowLinked m now row
row_linked-later m first now row0 row count linked same rows j r v below here there =
    let long = length_all_zip SameSends first now same in
    let wide = length_all_zip SameReceived row0 row rows in
    let low : sender_at m j < length now = sender-below m j (length row) (length now) (sender_at m j) below (omega arith) refl in
    let old = linked j (get_or row0 j r) (get_or first (sender_at m j) v) (omega arith) (get_or_default row0 j r (get_or row0 j r) (omega arith))
    (get_or_default first (sender_at m j) v (get_or first (sender_at m j) v) (omega arith)) in
    let pair = zip-get SameSends first now (sender_at m j) v same low in
    let end : SameReceived (get_or row0 j r) r = subst (λ (q : LinkReceive). SameReceived (get_or row0 j r) q) (sym here) (zip-get SameReceived row0 row j r rows below) in
    linked-later (place_at m j) (get_or first (sender_at m j) v).items v.items (get_or row0 j r) r old
    (subst (λ (u : Vec LinkSend Global). SameSends (get_or first (sender_at m j) v) u) (sym there) pair) end.same

-- the link at a place of the row that is being looked at
pub row-linked :
    (m j : ℕ) (sends0 sends : List (Vec LinkSend Global)) (row0 row : List LinkReceive) (d : LinkReceive) (e : Vec LinkSend Global) (k place : ℕ) (items : List LinkSend)
    → length row0 + 1 ≡ length sends0 → IsRowLinked m sends0 row0 → AllZip SameSends sends0 sends → AllZip SameReceived row0 row → j < length row
    → k ≡ sender_at m j → place ≡ place_at m j → items ≡ (get_or sends k e).items → IsLinkedAt place items (get_or row j d)
row-linked m j sends0 sends row0 row d e k place items count linked same rows below which where_ is =
    let long = length_all_zip SameSends sends0 sends same in
    let wide = length_all_zip SameReceived row0 row rows in
    let v = get_or sends (sender_at m j) e in
    let low : sender_at m j < length sends = sender-below m j (length row) (length sends) (sender_at m j) below (omega arith) refl in
    let now : IsLinkedAt (place_at m j) (get_or sends (sender_at m j) e).items (get_or row j d) =
    row_linked-later m sends0 sends row0 row (omega arith) linked same rows j (get_or row j d) v below
    (get_or_default row j d (get_or row j d) below) (get_or_default sends (sender_at m j) e v low) in
    subst (λ (l : List LinkSend). IsLinkedAt place l (get_or row j d)) (sym (is ∙ ap (λ (i : ℕ). (get_or sends i e).items) which))
    (subst (λ (p : ℕ). IsLinkedAt p (get_or sends (sender_at m j) e).items (get_or row j d)) (sym where_) now)

pub row-whole :
    (m j : ℕ) (sends0 sends : List (Vec LinkSend Global)) (row : List LinkReceive) (e : Vec LinkSend Global) (k : ℕ) (items : List LinkSend) (new : LinkReceive)
    → AllZip SameSends sends0 sends → j < length row → k < length sends → k ≡ sender_at m j → items ≡ (get_or sends k e).items
    → ((sent : List Message) → AllByRecursion (λ s. sent_of s ≡ sent) items → received_of new ++ waiting_of new ≡ sent)
    → ((sent : ℕ → List Message) → AllSent sent sends0 → IsWholeTo sent m j row)
    → (sent : ℕ → List Message) → AllSent sent sends0 → IsWholeTo sent m (j + 1) (set row j new)
row-whole m j sends0 sends row e k items new same below there which is one before sent all i r low here =
    let long_sends = length_all_zip SameSends sends0 sends same in
    elim (nat_lt i j) as (λ v. nat_lt i j ≡ v → received_of r ++ waiting_of r ≡ sent (sender_at m i)) [
      | true ↦ λ t.
          (let less : i < j = grind (arith, nat_tests) in
          let other : i ≢ j = (λ q. omega arith) in
          before sent all i r less (here ∙ get_or-set_other row j i new r other))
      | false ↦ λ t.
          (let is_last : j ≡ i = grind (arith, nat_tests) in
          let new_is : r ≡ new = here ∙ ap (λ (n : ℕ). get_or (set row j new) n r) (sym is_last) ∙ get_or-set_same row j new r below in
          let now = all_sent-later sent sends0 sends all same k (get_or sends k e) there (get_or_default sends k e (get_or sends k e) there) in
          let result = one (sent k) (subst (AllByRecursion (λ s. sent_of s ≡ sent k)) (sym is) now) in
          ap (λ (q : LinkReceive). received_of q ++ waiting_of q) new_is ∙ result ∙ ap sent which ∙ ap (λ (n : ℕ). sent (sender_at m n)) is_last)
    ]
    refl
