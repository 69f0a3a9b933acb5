-- Whatever a net line does to the links of a net, they stay what they are.
use Rattle.std.proofs.Common.{◌≡◌, ℕ, zero, suc, ◌<◌, max, Bool, true, false, cond, ◌==◌, List, [], ◌∷◌, ◌++◌, length, get_or, set, take, drop, map, filter}
use Rattle.std.proofs.Common.{replicate, Contains, Option, Some, None, inl, inr, refl, ap, sym, ◌∙◌, subst, append-nil, arith}
use Rattle.std.proofs.lemmas.List.{get_or_at, get_or_append_left, get_or_past, length-append, length-set, length-map, length-replicate, get_or-set_same, get_or-set_other, get_or-replicate, get_or-map}
use Rattle.std.proofs.lemmas.List.Elements.{filter-append}
use Rattle.std.proofs.lemmas.Bool.{cases_eq, cases_lt}
use Rattle.std.proofs.lemmas.Bool.Decides.{nat_tests}
use Rattle.std.proofs.Math.Seq.{drop-append_seam}
use Rattle.game_trait.specs.declared.command.Command.{Command}
use Rattle.game_trait.specs.Count.{times}
use Rattle.game_trait.specs.Keys.{NamesDiffer}
use Rattle.game_trait.specs.CommandList.{command_named, has_command}
use Rattle.game_trait.proofs.CommandLists.{names-push, command_named-Contains}
use Rattle.game_trait.proofs.Lists.{all-push}
use Rattle.match_data.specs.Data.{MatchData}
use Rattle.match_hall.specs.Script.{changed_at}
use Rattle.match_hall.proofs.Along.{changed_at-set}
use Rattle.lossy_text.specs.declared.net_line.NetLine.{NetLine}
use Rattle.lossy_text.specs.declared.net_line.NetLine.TheVariants.{Issue, Send, Carry, Ack, Hear, Turn}
use Rattle.lossy_link.specs.Ends.{is_open}
use Rattle.lossy_link.specs.Link.{LinkState, IsLinked, new_link, has_flown, next_of, brings, brought, after_put, after_take, after_send, after_carry, after_ack, after_hear}
use Rattle.lossy_link.specs.Links.{NetLinks, IsLinkOf, AreLinks, row_at, link_at, changed, row_issued, after_issue, next_links, new_links, new_rows, is_from}
use Rattle.lossy_link.specs.Way.{IsThere}
use Rattle.lossy_link.proofs.LinkLaws.{new-IsLinked, put-IsLinked, take-IsLinked, send-IsLinked, carry-IsLinked, ack-IsLinked, hear-IsLinked, next-none, brought-is}
use Rattle.lossy_link.proofs.Places.{IsPlace, changed-rows, changed-row, changed-same, changed-other, same-place}
use Rattle.lossy_link.proofs.Names.{names-most, own-most, own-length, found-named}

-- ---- what a step of one link leaves as it was

-- what was sent, what was received, and the room
pub record IsStill (l t : LinkState) : Type 0 where
  pub sent : t.sent ≡ l.sent
  pub received : t.received ≡ l.received
  pub room : t.room ≡ l.room

pub send-still : (k : ℕ) (l : LinkState) → IsStill l (after_send k l)
unfolding after_send
send-still k l =
    elim (is_open l.acked l.sent k) as (λ v. IsStill l (cond v (record l { packets = set l.packets k true }) l))
    [ true ↦ record { sent = refl; received = refl; room = refl } | false ↦ record { sent = refl; received = refl; room = refl } ]

pub ack-still : (l : LinkState) → IsStill l (after_ack l)
unfolding after_ack
ack-still l = record { sent = refl; received = refl; room = refl }

pub hear-still : (k : ℕ) (l : LinkState) → IsStill l (after_hear k l)
unfolding after_hear
hear-still k l =
    elim (has_flown l.counts k) as (λ v. IsStill l (cond v (record l { acked = max l.acked k }) l))
    [ true ↦ record { sent = refl; received = refl; room = refl } | false ↦ record { sent = refl; received = refl; room = refl } ]

pub carry-sent : (k : ℕ) (l : LinkState) → ((after_carry k l).sent ≡ l.sent) × ((after_carry k l).room ≡ l.room)
unfolding after_carry
carry-sent k l = (refl, refl)

pub carry-received : (k : ℕ) (l : LinkState) → (after_carry k l).received ≡ l.received ++ brought k l
unfolding after_carry
carry-received k l = refl

pub take-received : (l : LinkState) → ((after_take l).received ≡ l.received ++ next_of l) × ((after_take l).sent ≡ l.sent) × ((after_take l).room ≡ l.room)
unfolding after_take
take-received l = (refl, refl, refl)

pub put-sent : (x : Command) (l : LinkState) → ((after_put x l).sent ≡ l.sent ++ x ∷ []) × ((after_put x l).received ≡ l.received) × ((after_put x l).room ≡ l.room)
unfolding after_put
put-sent x l = (refl, refl, refl)

-- nothing is brought where all was received
brought-none : (k : ℕ) (l : LinkState) → l.received ≡ l.sent → brought k l ≡ []
brought-none k l all =
    brought-is k l ∙ elim (brings k l) as (λ v. cond v (next_of l) [] ≡ []) [ true ↦ next-none l all | false ↦ refl ]

-- ---- one link of all

-- it is still a link of its mirror, whatever the other links are
moved : (m : MatchData) (n : NetLinks) (rows : List (List LinkState)) (i : ℕ) (l k : LinkState) → k ≡ l → IsLinkOf m n i l → IsLinkOf m (record n { rows = rows }) i k
moved m n rows i l k same h = subst (λ (t : LinkState). IsLinkOf m (record n { rows = rows }) i t) (sym same) (record { linked = h.linked; sent = h.sent; room = h.room })

changed-at :
    (f : LinkState → LinkState) (from to i j : ℕ) (rows : List (List LinkState)) → IsPlace rows from to → i ≡ from → j ≡ to
    → link_at (changed f from to rows) i j ≡ f (link_at rows from to)
changed-at f from to i j rows there a b =
    subst (λ (k : ℕ). link_at (changed f from to rows) k j ≡ f (link_at rows from to)) (sym a)
    (subst (λ (k : ℕ). link_at (changed f from to rows) from k ≡ f (link_at rows from to)) (sym b) (changed-same f from to rows there))

pub place-in : (m : MatchData) (n : NetLinks) (from to : ℕ) → AreLinks m n → from < m.mirrors → to < m.mirrors → IsPlace n.rows from to
place-in m n from to h a b = record { from = (let rows = h.rows in omega arith); to = (let row = h.row from a in omega arith) }

changed-AreLinks :
    (m : MatchData) (n : NetLinks) (f : LinkState → LinkState) (from to : ℕ) → from < m.mirrors → to < m.mirrors → AreLinks m n
    → IsLinkOf m n from (f (link_at n.rows from to))
    → (from ≡ to → (f (link_at n.rows from to)).received ≡ (f (link_at n.rows from to)).sent)
    → AreLinks m (record n { rows = changed f from to n.rows })
changed-AreLinks m n f from to a b h here own =
    let there = place-in m n from to h a b in
    let rows = changed f from to n.rows in
    record {
      room = h.room;
      there = h.there;
      differ = h.differ;
      rows = changed-rows f from to n.rows there ∙ h.rows;
      row = λ i below. changed-row f from to n.rows i there ∙ h.row i below;
      links = λ i j bi bj.
          elim (same-place i j from to) [
            | inl same ↦ subst (λ (k : ℕ). IsLinkOf m (record n { rows = rows }) k (link_at rows i j)) (sym same.0)
                (moved m n rows from (f (link_at n.rows from to)) (link_at rows i j) (changed-at f from to i j n.rows there same.0 same.1) here)
            | inr apart ↦ moved m n rows i (link_at n.rows i j) (link_at rows i j) (changed-other f from to n.rows i j there apart) (h.links i j bi bj)
          ];
      own = λ i below.
          elim (same-place i i from to) [
            | inl same ↦ subst (λ (t : LinkState). t.received ≡ t.sent) (sym (changed-at f from to i i n.rows there same.0 same.1)) (own (sym same.0 ∙ same.1))
            | inr apart ↦ subst (λ (t : LinkState). t.received ≡ t.sent) (sym (changed-other f from to n.rows i i there apart)) (h.own i below)
          ];
    }

-- a step that leaves what was sent and received
still-AreLinks :
    (m : MatchData) (n : NetLinks) (f : LinkState → LinkState) (from to : ℕ) → from < m.mirrors → to < m.mirrors → AreLinks m n
    → IsStill (link_at n.rows from to) (f (link_at n.rows from to)) → IsLinked (f (link_at n.rows from to))
    → AreLinks m (record n { rows = changed f from to n.rows })
still-AreLinks m n f from to a b h still linked =
    let before = h.links from to a b in
    changed-AreLinks m n f from to a b h (record { linked = linked; sent = still.sent ∙ before.sent; room = still.room ∙ before.room })
    (λ same. still.received ∙ subst (λ (k : ℕ). (link_at n.rows from k).received ≡ (link_at n.rows from k).sent) same (h.own from a) ∙ sym still.sent)

carry-AreLinks :
    (m : MatchData) (n : NetLinks) (k from to : ℕ) → from < m.mirrors → to < m.mirrors → AreLinks m n
    → AreLinks m (record n { rows = changed (after_carry k) from to n.rows })
carry-AreLinks m n k from to a b h =
    let l = link_at n.rows from to in
    let before = h.links from to a b in
    let kept = carry-sent k l in
    changed-AreLinks m n (after_carry k) from to a b h
    (record { linked = carry-IsLinked k l before.linked; sent = kept.0 ∙ before.sent; room = kept.1 ∙ before.room })
    (λ same.
    let all : l.received ≡ l.sent = subst (λ (j : ℕ). (link_at n.rows from j).received ≡ (link_at n.rows from j).sent) same (h.own from a) in
    carry-received k l ∙ ap (λ (xs : List Command). l.received ++ xs) (brought-none k l all) ∙ append-nil l.received ∙ all ∙ sym kept.0)

-- ---- a command is issued

issued-set :
    (x : Command) (from : ℕ) (rows : List (List LinkState)) → IsPlace rows from from
    → changed_at (row_issued x from) from rows
    ≡ set rows from (set (map (after_put x) (row_at rows from)) from (after_take (after_put x (link_at rows from from))))
issued-set x from rows there =
    let row = row_at rows from in
    let long = length-map row (after_put x) in
    changed_at-set (row_issued x from) from rows [] there.from
    ∙ ap (set rows from) (changed_at-set after_take from (map (after_put x) row) (new_link 0) (let below = there.to in omega arith)
    ∙ ap (λ (t : LinkState). set (map (after_put x) row) from (after_take t)) (get_or-map (after_put x) row from (new_link 0) (new_link 0) there.to))

issued-row : (x : Command) (from i : ℕ) (rows : List (List LinkState)) → IsPlace rows from from → length (row_at (changed_at (row_issued x from) from rows) i) ≡ length (row_at rows i)
issued-row x from i rows there =
    let row = set (map (after_put x) (row_at rows from)) from (after_take (after_put x (link_at rows from from))) in
    ap (λ (rs : List (List LinkState)). length (row_at rs i)) (issued-set x from rows there)
    ∙ elim (cases_eq i from) [
      | inl same ↦ subst (λ (j : ℕ). length (get_or (set rows from row) j []) ≡ length (row_at rows j)) (sym same)
          (ap (λ (r : List LinkState). length r) (get_or-set_same rows from row [] there.from)
          ∙ length-set (map (after_put x) (row_at rows from)) from (after_take (after_put x (link_at rows from from))) ∙ length-map (row_at rows from) (after_put x))
      | inr apart ↦ ap (λ (r : List LinkState). length r) (get_or-set_other rows from i row [] apart)
    ]

pub issued-own :
    (x : Command) (from : ℕ) (rows : List (List LinkState)) → IsPlace rows from from
    → link_at (changed_at (row_issued x from) from rows) from from ≡ after_take (after_put x (link_at rows from from))
issued-own x from rows there =
    let puts = map (after_put x) (row_at rows from) in
    let own = after_take (after_put x (link_at rows from from)) in
    let long = length-map (row_at rows from) (after_put x) in
    ap (λ (rs : List (List LinkState)). link_at rs from from) (issued-set x from rows there)
    ∙ ap (λ (r : List LinkState). get_or r from (new_link 0)) (get_or-set_same rows from (set puts from own) [] there.from)
    ∙ get_or-set_same puts from own (new_link 0) (let below = there.to in omega arith)

pub issued-same :
    (x : Command) (from j : ℕ) (rows : List (List LinkState)) → IsPlace rows from from → j < length (row_at rows from) → (j ≡ from → ⊥)
    → link_at (changed_at (row_issued x from) from rows) from j ≡ after_put x (link_at rows from j)
issued-same x from j rows there below apart =
    let puts = map (after_put x) (row_at rows from) in
    let own = after_take (after_put x (link_at rows from from)) in
    ap (λ (rs : List (List LinkState)). link_at rs from j) (issued-set x from rows there)
    ∙ ap (λ (r : List LinkState). get_or r j (new_link 0)) (get_or-set_same rows from (set puts from own) [] there.from)
    ∙ get_or-set_other puts from j own (new_link 0) apart
    ∙ get_or-map (after_put x) (row_at rows from) j (new_link 0) (new_link 0) below

pub issued-other :
    (x : Command) (from i j : ℕ) (rows : List (List LinkState)) → IsPlace rows from from → (i ≡ from → ⊥)
    → link_at (changed_at (row_issued x from) from rows) i j ≡ link_at rows i j
issued-other x from i j rows there apart =
    let row = set (map (after_put x) (row_at rows from)) from (after_take (after_put x (link_at rows from from))) in
    ap (λ (rs : List (List LinkState)). link_at rs i j) (issued-set x from rows there)
    ∙ ap (λ (r : List LinkState). get_or r j (new_link 0)) (get_or-set_other rows from i row [] apart)

-- a mirror that has received all from itself receives what it issues
pub own-next : (x : Command) (l : LinkState) → l.received ≡ l.sent → next_of (after_put x l) ≡ x ∷ []
unfolding after_put
own-next x l all =
    ap (take 1) (ap (λ (xs : List Command). drop (length xs) (l.sent ++ x ∷ [])) all ∙ drop-append_seam l.sent (x ∷ []))

-- the commands of a mirror, and one more
pub own-more : (issued : List Command) (x : Command) (from : ℕ) → x.from ≡ from → filter (is_from from) (issued ++ x ∷ []) ≡ filter (is_from from) issued ++ x ∷ []
own-more issued x from is =
    let here : (x.from == from) ≡ true = grind (arith, nat_tests) in
    filter-append (is_from from) issued (x ∷ []) ∙ ap (λ (b : Bool). filter (is_from from) issued ++ cond b (x ∷ []) []) here

other-more : (issued : List Command) (x : Command) (from : ℕ) → (x.from ≡ from → ⊥) → filter (is_from from) (issued ++ x ∷ []) ≡ filter (is_from from) issued
other-more issued x from apart =
    let here : (x.from == from) ≡ false = grind (arith, nat_tests) in
    filter-append (is_from from) issued (x ∷ []) ∙ ap (λ (b : Bool). filter (is_from from) issued ++ cond b (x ∷ []) []) here ∙ append-nil (filter (is_from from) issued)

-- there is room for a command that wasn't issued before
pub issue-room :
    (m : MatchData) (n : NetLinks) (x : Command) (from to : ℕ) → AreLinks m n → from < m.mirrors → to < m.mirrors
    → x.from ≡ from → Contains m.commands x → has_command n.issued x.from x.number ≡ false
    → (length (link_at n.rows from to).sent < (link_at n.rows from to).room) × (length n.issued < n.room)
issue-room m n x from to h a b is there new =
    let differ = names-push n.issued x h.differ new in
    let all = all-push (Contains m.commands) n.issued x h.there there in
    let most = names-most m.commands (n.issued ++ x ∷ []) differ all in
    let own = own-most from m.commands (n.issued ++ x ∷ []) differ all in
    let l = h.links from to a b in
    let sent = ap (λ (xs : List Command). length xs) l.sent in
    let more = ap (λ (xs : List Command). length xs) (own-more n.issued x from is) in
    let room = l.room in
    let whole = h.room in (
      omega (arith, own-length from (n.issued ++ x ∷ []), length-append (filter (is_from from) n.issued) (x ∷ [])),
      omega (arith, length-append n.issued (x ∷ [])),
    )

issue-AreLinks :
    (m : MatchData) (n : NetLinks) (x : Command) (from : ℕ) → from < m.mirrors → AreLinks m n → x.from ≡ from
    → Contains m.commands x → has_command n.issued x.from x.number ≡ false → AreLinks m (after_issue (Some x) from n)
issue-AreLinks m n x from a h is there new =
    let place = place-in m n from from h a a in
    let rows = changed_at (row_issued x from) from n.rows in
    let put : (j : ℕ) → j < m.mirrors → IsLinked (after_put x (link_at n.rows from j)) =
    λ j below. put-IsLinked x (link_at n.rows from j) (issue-room m n x from j h a below is there new).0 (h.links from j a below).linked in
    let sent : (j : ℕ) → j < m.mirrors → (after_put x (link_at n.rows from j)).sent ≡ filter (is_from from) (n.issued ++ x ∷ []) =
    λ j below. (put-sent x (link_at n.rows from j)).0 ∙ ap (λ (xs : List Command). xs ++ x ∷ []) (h.links from j a below).sent ∙ sym (own-more n.issued x from is) in
    let own = link_at n.rows from from in
    let taken = take-received (after_put x own) in
    record {
      room = h.room;
      there = all-push (Contains m.commands) n.issued x h.there there;
      differ = names-push n.issued x h.differ new;
      rows = ap (λ (rs : List (List LinkState)). length rs) (issued-set x from n.rows place)
          ∙ length-set n.rows from (set (map (after_put x) (row_at n.rows from)) from (after_take (after_put x own)))
          ∙ h.rows;
      row = λ i below. issued-row x from i n.rows place ∙ h.row i below;
      links = λ i j bi bj.
          elim (cases_eq i from) [
            | inl same ↦ subst (λ (k : ℕ). IsLinkOf m (after_issue (Some x) from n) k (link_at rows k j)) (sym same)
                (elim (cases_eq j from) [
                  | inl here ↦ subst (λ (k : ℕ). IsLinkOf m (after_issue (Some x) from n) from (link_at rows from k)) (sym here)
                      (subst (λ (t : LinkState). IsLinkOf m (after_issue (Some x) from n) from t) (sym (issued-own x from n.rows place))
                      (record {
                        linked = take-IsLinked (after_put x own) (put from a);
                        sent = taken.1 ∙ sent from a;
                        room = taken.2 ∙ (put-sent x own).2 ∙ (h.links from from a a).room;
                      }))
                  | inr apart ↦ subst (λ (t : LinkState). IsLinkOf m (after_issue (Some x) from n) from t)
                      (sym (issued-same x from j n.rows place (let row = h.row from a in omega arith) apart))
                      (record { linked = put j bj; sent = sent j bj; room = (put-sent x (link_at n.rows from j)).2 ∙ (h.links from j a bj).room })
                ])
            | inr apart ↦
                (let before = h.links i j bi bj in
                subst (λ (t : LinkState). IsLinkOf m (after_issue (Some x) from n) i t) (sym (issued-other x from i j n.rows place apart))
                (record { linked = before.linked; sent = before.sent ∙ sym (other-more n.issued x i (λ e. apart (sym e ∙ is))); room = before.room }))
          ];
      own = λ i below.
          elim (cases_eq i from) [
            | inl same ↦ subst (λ (k : ℕ). (link_at rows k k).received ≡ (link_at rows k k).sent) (sym same)
                (subst (λ (t : LinkState). t.received ≡ t.sent) (sym (issued-own x from n.rows place))
                (taken.0 ∙ ap (λ (xs : List Command). xs ++ next_of (after_put x own)) ((put-sent x own).1 ∙ h.own from a)
                ∙ ap (λ (xs : List Command). own.sent ++ xs) (own-next x own (h.own from a)) ∙ sym (put-sent x own).0 ∙ sym taken.1))
            | inr apart ↦ subst (λ (t : LinkState). t.received ≡ t.sent) (sym (issued-other x from i i n.rows place apart)) (h.own i below)
          ];
    }

-- ---- each line

pub next-AreLinks :
    (m : MatchData) (n : NetLinks) (l : NetLine) → IsThere m.mirrors l → AreLinks m n → AreLinks m (next_links m.commands n l)
unfolding next_links
next-AreLinks m n (Issue from number) a h =
    elim (has_command n.issued from number) as (λ v. has_command n.issued from number ≡ v → AreLinks m (cond v n (after_issue (command_named m.commands from number) from n))) [
      | true ↦ λ e. h
      | false ↦ λ e. issued (command_named m.commands from number) refl e
    ]
    refl
  where
    issued : (found : Option Command) → command_named m.commands from number ≡ found → has_command n.issued from number ≡ false → AreLinks m (after_issue found from n)
    issued None is new = h
    issued (Some x) is new =
        let named = found-named m.commands from number x is in
        issue-AreLinks m n x from a h named.0 (command_named-Contains m.commands from number x is)
        (subst (λ (k : ℕ). has_command n.issued k x.number ≡ false) (sym named.0) (subst (λ (k : ℕ). has_command n.issued from k ≡ false) (sym named.1) new))
next-AreLinks m n (Send from to k) a h =
    let l = link_at n.rows from to in
    still-AreLinks m n (after_send k) from to a.0 a.1 h (send-still k l) (send-IsLinked k l (h.links from to a.0 a.1).linked)
next-AreLinks m n (Carry from to k) a h = carry-AreLinks m n k from to a.0 a.1 h
next-AreLinks m n (Ack from to) a h =
    let l = link_at n.rows from to in
    still-AreLinks m n after_ack from to a.0 a.1 h (ack-still l) (ack-IsLinked l (h.links from to a.0 a.1).linked)
next-AreLinks m n (Hear from to k) a h =
    let l = link_at n.rows from to in
    still-AreLinks m n (after_hear k) from to a.0 a.1 h (hear-still k l) (hear-IsLinked k l (h.links from to a.0 a.1).linked)
next-AreLinks m n (Turn mirror) a h = h

-- ---- the start

-- the rows up to one that isn't there yet
new-length : (commands : List Command) (mirrors n : ℕ) → length (new_rows commands mirrors n) ≡ n
unfolding new_rows
new-length commands mirrors zero = refl
new-length commands mirrors (suc n) =
    omega (arith, length-append (new_rows commands mirrors n) (replicate mirrors (new_link (times (is_from n) commands)) ∷ []), new-length commands mirrors n)

new-row : (commands : List Command) (mirrors n i : ℕ) → i < n → row_at (new_rows commands mirrors n) i ≡ replicate mirrors (new_link (times (is_from i) commands))
unfolding new_rows
new-row commands mirrors zero i below = absurd (omega arith)
new-row commands mirrors (suc n) i below =
    let rows = new_rows commands mirrors n in
    let row = replicate mirrors (new_link (times (is_from n) commands)) in
    let long = new-length commands mirrors n in
    elim (cases_eq i n) [
      | inl same ↦ subst (λ (k : ℕ). get_or (rows ++ row ∷ []) k [] ≡ replicate mirrors (new_link (times (is_from k) commands))) (sym same) (get_or_at rows row [] [] n long)
      | inr apart ↦ get_or_append_left rows (row ∷ []) [] i (omega arith) ∙ new-row commands mirrors n i (omega arith)
    ]

none-received : (n room i : ℕ) → (get_or (replicate n (new_link room)) i (new_link 0)).received ≡ []
none-received zero room i = refl
none-received (suc n) room zero = refl
none-received (suc n) room (suc i) = none-received n room i

pub new-received : (commands : List Command) (mirrors f i : ℕ) → (link_at (new_links mirrors commands).rows f i).received ≡ []
new-received commands mirrors f i =
    elim (cases_lt f mirrors) [
      | inl below ↦ ap (λ (row : List LinkState). (get_or row i (new_link 0)).received) (new-row commands mirrors mirrors f below) ∙ none-received mirrors (times (is_from f) commands) i
      | inr past ↦ ap (λ (row : List LinkState). (get_or row i (new_link 0)).received)
          (get_or_past (new_rows commands mirrors mirrors) f [] (let long = new-length commands mirrors mirrors in
          omega arith))
    ]

pub new-AreLinks : (m : MatchData) → AreLinks m (new_links m.mirrors m.commands)
unfolding NamesDiffer
new-AreLinks m =
    let n = new_links m.mirrors m.commands in
    let room : ℕ → ℕ = λ i. times (is_from i) m.commands in
    let row : (i : ℕ) → i < m.mirrors → row_at n.rows i ≡ replicate m.mirrors (new_link (room i)) = λ i below. new-row m.commands m.mirrors m.mirrors i below in
    let at : (i j : ℕ) → i < m.mirrors → j < m.mirrors → link_at n.rows i j ≡ new_link (room i) =
    λ i j bi bj. ap (λ (r : List LinkState). get_or r j (new_link 0)) (row i bi) ∙ get_or-replicate m.mirrors j (new_link (room i)) (new_link 0) bj in
    record {
      room = refl;
      there = tt;
      differ = tt;
      rows = new-length m.commands m.mirrors m.mirrors;
      row = λ i below. ap (λ (r : List LinkState). length r) (row i below) ∙ length-replicate m.mirrors (new_link (room i));
      links = λ i j bi bj. subst (λ (t : LinkState). IsLinkOf m n i t) (sym (at i j bi bj)) (record { linked = new-IsLinked (room i); sent = refl; room = refl });
      own = λ i below. subst (λ (t : LinkState). t.received ≡ t.sent) (sym (at i i below below)) refl;
    }
