-- A net stays on its way, whatever line comes next; and that line may be made.
use Rattle.std.proofs.Common.{◌≡◌, ℕ, zero, suc, ◌<◌, Bool, true, false, cond, ◌==◌, List, [], ◌∷◌, ◌++◌, length, get_or, set, take, drop, filter}
use Rattle.std.proofs.Common.{Contains, Option, Some, None, ◌⊎◌, inl, inr, refl, ap, sym, ◌∙◌, subst, append-nil, arith}
use Rattle.std.specs.List.{AllByRecursion}
use Rattle.std.proofs.lemmas.List.{length-replicate, get_or-set_same, get_or-set_other, get_or-replicate}
use Rattle.std.proofs.lemmas.Bool.{cases_eq}
use Rattle.std.proofs.lemmas.Bool.Decides.{nat_tests}
use Rattle.game_trait.specs.declared.command.Command.{Command}
use Rattle.game_trait.specs.declared.event.Event.TheVariants.{Arrive}
use Rattle.game_trait.specs.Keys.{NamesDiffer}
use Rattle.game_trait.specs.CommandList.{command_named, has_command}
use Rattle.game_trait.proofs.CommandLists.{names-push, command_named-Contains, found-has, NamesDiffer-front}
use Rattle.game_trait.proofs.KeyOrder.{NamesDiffer-filter}
use Rattle.game_trait.proofs.Lists.{all-filter, all-first}
use Rattle.std.specs.Option.{is_some}
use Rattle.sync_model.specs.State.{MirrorState}
use Rattle.sync_model.specs.Change.{next, after}
use Rattle.sync_model.specs.History.{HasRoomAlong}
use Rattle.sync_model.specs.Turns.{turn}
use Rattle.match_data.specs.Data.{MatchData, IsMatch}
use Rattle.match_data.specs.declared.script_line.ScriptLine.{ScriptLine}
use Rattle.match_data.specs.declared.script_line.ScriptLine.TheVariants as lines
use Rattle.match_hall.specs.Script.{events_of, arrival_of, changed_at, told_at, after_line, after_script}
use Rattle.match_hall.specs.Ready.{IsReady}
use Rattle.match_hall.proofs.Along.{changed_at-set, told_at-get}
use Rattle.mirror_core.proofs.WholeTurns.{turn-fits, turn-room}
use Rattle.lossy_text.specs.declared.net_line.NetLine.{NetLine}
use Rattle.lossy_text.specs.declared.net_line.NetLine.TheVariants.{Issue, Send, Carry, Ack, Hear, Turn}
use Rattle.lossy_link.specs.Link.{LinkState, new_link, next_of, brings, brought, after_put, after_send, after_carry, after_ack, after_hear}
use Rattle.lossy_link.specs.Links.{NetLinks, AreLinks, row_at, link_at, changed, told, row_issued, after_issue, next_links, new_links, script_of, arriving, listed, is_from}
use Rattle.lossy_link.specs.Net.{NetState, net_mirror, opening_net, next_net, after_net}
use Rattle.lossy_link.specs.Way.{IsThere, AtMirror, IsNet}
use Rattle.lossy_link.proofs.LinkLaws.{next-split, brought-is}
use Rattle.lossy_link.proofs.Places.{IsPlace, changed-same, changed-other, same-place}
use Rattle.lossy_link.proofs.Names.{found-named}
use Rattle.lossy_link.proofs.LinksLaws.{send-still, ack-still, hear-still, carry-received, take-received, put-sent, place-in, issued-own, issued-same}
use Rattle.lossy_link.proofs.LinksLaws.{issued-other, own-next, own-more, next-AreLinks, new-received, new-AreLinks}
use Rattle.lossy_link.proofs.AtMirror.{start-AtMirror, same-AtMirror, at-copies, MayArrive, may-arrive, arrive-AtMirror, turn-AtMirror}

-- what a mirror has received from each
abbrev pub column : List (List LinkState) → ℕ → ℕ → List Command
column rows i = λ from. (link_at rows from i).received

-- ---- commands that may arrive

-- the command that comes next of a link: it is of the link's mirror and of the match, and has a new name
pub record IsNew (m : MatchData) (rows : List (List LinkState)) (to : ℕ) (x : Command) : Type 0 where
  pub there : Contains m.commands x
  pub differ : NamesDiffer (column rows to x.from ++ x ∷ [])

last-all : (P : Command → Type 0) (xs : List Command) (x : Command) → AllByRecursion P (xs ++ x ∷ []) → P x
last-all P [] x h = h.0
last-all P (y ∷ ys) x h = last-all P ys x h.1

filter-all : (p : Command → Bool) (xs : List Command) → AllByRecursion (λ x. p x ≡ true) (filter p xs)
filter-all p [] = tt
filter-all p (x ∷ xs) =
    elim (p x) as (λ v. p x ≡ v → AllByRecursion (λ y. p y ≡ true) (cond v (x ∷ filter p xs) (filter p xs)))
    [ true ↦ λ e. (e, filter-all p xs) | false ↦ λ e. filter-all p xs ]
    refl

-- a link brings nothing or one command
pub brought-cases : (k : ℕ) (l : LinkState) → (brought k l ≡ []) ⊎ ((x : Command) × (brought k l ≡ x ∷ []) × (next_of l ≡ x ∷ []))
brought-cases k l =
    subst (λ (xs : List Command). (xs ≡ []) ⊎ ((x : Command) × (xs ≡ x ∷ []) × (next_of l ≡ x ∷ []))) (sym (brought-is k l))
    (elim (brings k l) as (λ v. (cond v (next_of l) [] ≡ []) ⊎ ((x : Command) × (cond v (next_of l) [] ≡ x ∷ []) × (next_of l ≡ x ∷ []))) [
      | true ↦ first (drop (length l.received) l.sent)
      | false ↦ inl refl
    ])
  where
    first : (xs : List Command) → (take 1 xs ≡ []) ⊎ ((x : Command) × (take 1 xs ≡ x ∷ []) × (take 1 xs ≡ x ∷ []))
    first [] = inl refl
    first (x ∷ xs) = inr (x, refl, refl)

-- what is next of a link from a mirror
pub next-new :
    (m : MatchData) (n : NetLinks) (from to : ℕ) (x : Command) → AreLinks m n → from < m.mirrors → to < m.mirrors → next_of (link_at n.rows from to) ≡ x ∷ []
    → IsNew m n.rows to x × (x.from ≡ from)
next-new m n from to x h a b is =
    let l = link_at n.rows from to in
    let of = h.links from to a b in
    let split : l.sent ≡ (l.received ++ x ∷ []) ++ drop 1 (drop (length l.received) l.sent) =
    next-split l of.linked ∙ ap (λ (xs : List Command). (l.received ++ xs) ++ drop 1 (drop (length l.received) l.sent)) is in
    let rest = drop 1 (drop (length l.received) l.sent) in
    let passes : (P : Command → Type 0) → AllByRecursion P l.sent → P x =
    λ P all. last-all P l.received x (all-first P (l.received ++ x ∷ []) rest (subst (λ (ys : List Command). AllByRecursion P ys) split all)) in
    let own : x.from ≡ from = (let e : (x.from == from)
    ≡ true = passes (λ y. is_from from y ≡ true)
    (subst (λ (ys : List Command). AllByRecursion (λ y. is_from from y ≡ true) ys) (sym of.sent)
    (filter-all (is_from from) n.issued)) in grind (arith, nat_tests)) in
    let differ : NamesDiffer (l.received ++ x ∷ []) =
    NamesDiffer-front (l.received ++ x ∷ []) rest (subst NamesDiffer (sym of.sent ∙ split) (NamesDiffer-filter (is_from from) n.issued h.differ)) in (
      record {
        there = passes (Contains m.commands) (subst (λ (ys : List Command). AllByRecursion (Contains m.commands) ys) (sym of.sent) (all-filter (Contains m.commands) (is_from from) n.issued h.there));
        differ = subst (λ (k : ℕ). NamesDiffer (column n.rows to k ++ x ∷ [])) (sym own) differ;
      },
      own,
    )

-- what a mirror issues that it didn't issue before
issue-new :
    (m : MatchData) (n : NetLinks) (x : Command) → AreLinks m n → x.from < m.mirrors → Contains m.commands x → has_command n.issued x.from x.number ≡ false
    → IsNew m n.rows x.from x
issue-new m n x h a there new =
    let of = h.links x.from x.from a a in
    let more : filter (is_from x.from) (n.issued ++ x ∷ []) ≡ column n.rows x.from x.from ++ x ∷ [] =
    own-more n.issued x x.from refl ∙ ap (λ (ys : List Command). ys ++ x ∷ []) (sym of.sent ∙ sym (h.own x.from a)) in
    record {
      there = there;
      differ = subst NamesDiffer more (NamesDiffer-filter (is_from x.from) (n.issued ++ x ∷ []) (names-push n.issued x h.differ new));
    }

-- ---- the line that is made

line-arrives :
    {W : Type 0} (commands : List Command) (to : ℕ) (x : Command) (s : MirrorState W) → command_named commands x.from x.number ≡ Some x
    → after_line commands (lines.Arrive to x.from x.number) s ≡ next s (Arrive x)
unfolding events_of after
line-arrives {W} commands to x s is = ap (λ (found : Option Command). after s (arrival_of found)) is

line-turns : {W : Type 0} (commands : List Command) (i : ℕ) (s : MirrorState W) → after_line commands (lines.Turn i) s ≡ turn s
unfolding events_of
line-turns commands i s = refl

-- a command of a new name may arrive
pub arrival-ready :
    {W : Type 0} (m : MatchData) (opening : W) (n : NetState W) (to : ℕ) (x : Command) → IsMatch m → IsNet m opening n → to < m.mirrors → IsNew m n.links.rows to x
    → IsReady m (lines.Arrive to x.from x.number) n.mirrors
unfolding events_of HasRoomAlong
arrival-ready {W} m opening n to x sound h there new =
    let may : (d : MirrorState W) → MayArrive m (get_or n.mirrors to d) x =
    λ d. may-arrive m opening (column n.links.rows to) (get_or n.mirrors to d) x sound (h.mirrors to d there) new.there new.differ in
    record {
      line =
          (let d = net_mirror opening m in
          let command = (may d).command in
          let has : has_command m.commands x.from x.number ≡ true = sym (found-has m.commands x.from x.number) ∙ ap (λ (o : Option Command). is_some o) (may d).named in
          (there, command.from, command.number, has));
      there = (let count = h.count in omega arith);
      copies = λ d. at-copies m opening (column n.links.rows to) (get_or n.mirrors to d) (h.mirrors to d there);
      fits = λ d. rw (may d).named ((may d).fits, tt);
      room = λ d. rw (may d).named ((may d).room, tt);
    }

pub turn-ready :
    {W : Type 0} (m : MatchData) (opening : W) (n : NetState W) (i : ℕ) → IsNet m opening n → i < m.mirrors → IsReady m (lines.Turn i) n.mirrors
unfolding events_of
turn-ready {W} m opening n i h there =
    record {
      line = there;
      there = (let count = h.count in omega arith);
      copies = λ d. at-copies m opening (column n.links.rows i) (get_or n.mirrors i d) (h.mirrors i d there);
      fits = λ d. turn-fits (get_or n.mirrors i d);
      room = λ d. turn-room (get_or n.mirrors i d) (length (get_or n.mirrors i d).runs);
    }

pub told-link : {Y : Type 0} (g : LinkState → List Y) (from to : ℕ) (rows : List (List LinkState)) → IsPlace rows from to → told g from to rows ≡ g (link_at rows from to)
told-link g from to rows there =
    told_at-get (λ row. told_at g to row) from rows [] there.from ∙ told_at-get g to (row_at rows from) (new_link 0) there.to

-- the script line of a net line may be made
pub net-ready :
    {W : Type 0} (m : MatchData) (opening : W) (n : NetState W) (l : NetLine) (s : ScriptLine) → IsMatch m → IsThere m.mirrors l → IsNet m opening n
    → script_of m.commands n.links l ≡ s ∷ [] → IsReady m s n.mirrors
unfolding script_of
net-ready {W} m opening n (Issue from number) s sound a h is =
    elim (has_command n.links.issued from number) as
    (λ v. has_command n.links.issued from number ≡ v
    → cond v [] (arriving from (listed (command_named m.commands from number))) ≡ s ∷ [] → IsReady m s n.mirrors) [
      | true ↦ λ e k. absurd cc
      | false ↦ λ e k. found (command_named m.commands from number) refl e k
    ]
    refl is
  where
    found : (o : Option Command) → command_named m.commands from number ≡ o → has_command n.links.issued from number ≡ false → arriving from (listed o) ≡ s ∷ [] → IsReady m s n.mirrors
    found None e new k = absurd cc
    found (Some x) e new k =
        let named = found-named m.commands from number x e in
        let one : lines.Arrive from x.from x.number ≡ s = cc in
        let fresh = subst (λ (j : ℕ). has_command n.links.issued j x.number ≡ false) (sym named.0) (subst (λ (j : ℕ). has_command n.links.issued from j ≡ false) (sym named.1) new) in
        let mine = issue-new m n.links x h.links (subst (λ (j : ℕ). j < m.mirrors) (sym named.0) a) (command_named-Contains m.commands from number x e) fresh in
        subst (λ (t : ScriptLine). IsReady m t n.mirrors) one
        (arrival-ready m opening n from x sound h a (subst (λ (j : ℕ). IsNew m n.links.rows j x) named.0 mine))
net-ready m opening n (Send from to k) s sound a h is = absurd cc
net-ready {W} m opening n (Carry from to k) s sound a h is =
    let l = link_at n.links.rows from to in
    let told_is = told-link (brought k) from to n.links.rows (place-in m n.links from to h.links a.0 a.1) in
    elim (brought-cases k l) [
      | inl none ↦ absurd (let no : [] ≡ s ∷ [] = ap (λ (xs : List Command). arriving to xs) (sym none ∙ sym told_is) ∙ is in cc)
      | inr one ↦
          (let x = one.0 in
          let same : lines.Arrive to x.from x.number ∷ [] ≡ s ∷ [] = ap (λ (xs : List Command). arriving to xs) (sym one.1 ∙ sym told_is) ∙ is in
          let first : lines.Arrive to x.from x.number ≡ s = cc in
          let new = next-new m n.links from to x h.links a.0 a.1 one.2 in
          subst (λ (t : ScriptLine). IsReady m t n.mirrors) first (arrival-ready m opening n to x sound h a.1 new.0))
    ]
net-ready m opening n (Ack from to) s sound a h is = absurd cc
net-ready m opening n (Hear from to k) s sound a h is = absurd cc
net-ready m opening n (Turn i) s sound a h is = (let one : lines.Turn i ≡ s = cc in subst (λ (t : ScriptLine). IsReady m t n.mirrors) one (turn-ready m opening n i h a))

-- ---- the net after a line

-- mirrors of which one is changed
mirrors-changed :
    {W : Type 0} (P Q : ℕ → MirrorState W → Type 0) (g : MirrorState W → MirrorState W) (to : ℕ) (ms : List (MirrorState W)) → to < length ms
    → ((s : MirrorState W) → P to s → Q to (g s)) → (i : ℕ) → ((s : MirrorState W) → (i ≡ to → ⊥) → P i s → Q i s)
    → (d : MirrorState W) → P i (get_or ms i d) → Q i (get_or (changed_at g to ms) i d)
mirrors-changed {W} P Q g to ms there own i others d here =
    let set_is = changed_at-set g to ms d there in
    subst (λ (xs : List (MirrorState W)). Q i (get_or xs i d)) (sym set_is)
    (elim (cases_eq i to) [
      | inl same ↦ subst (λ (k : ℕ). Q k (get_or (set ms to (g (get_or ms to d))) k d)) (sym same)
          (subst (Q to) (sym (get_or-set_same ms to (g (get_or ms to d)) d there)) (own (get_or ms to d) (subst (λ (k : ℕ). P k (get_or ms k d)) same here)))
      | inr apart ↦ subst (Q i) (sym (get_or-set_other ms to i (g (get_or ms to d)) d apart)) (others (get_or ms i d) apart here)
    ])

changed_at-count : {X : Type 0} (f : X → X) (i : ℕ) (xs : List X) → length (changed_at f i xs) ≡ length xs
unfolding changed_at
changed_at-count f i [] = refl
changed_at-count f zero (x ∷ xs) = refl
changed_at-count f (suc i) (x ∷ xs) = ap (λ (n : ℕ). suc n) (changed_at-count f i xs)

-- where what was received stays, all mirrors stay
still-column :
    (f : LinkState → LinkState) (from to : ℕ) (rows : List (List LinkState)) → IsPlace rows from to → (f (link_at rows from to)).received ≡ (link_at rows from to).received
    → (i k : ℕ) → column (changed f from to rows) i k ≡ column rows i k
still-column f from to rows there still i k =
    elim (same-place k i from to) [
      | inl same ↦ subst (λ (a : ℕ). (link_at (changed f from to rows) a i).received ≡ (link_at rows a i).received) (sym same.0)
          (subst (λ (b : ℕ). (link_at (changed f from to rows) from b).received ≡ (link_at rows from b).received) (sym same.1)
          (ap (λ (t : LinkState). t.received) (changed-same f from to rows there) ∙ still))
      | inr apart ↦ ap (λ (t : LinkState). t.received) (changed-other f from to rows k i there apart)
    ]

-- a command arrives at a mirror
arrived-mirrors :
    {W : Type 0} (m : MatchData) (opening : W) (n : NetState W) (rows : List (List LinkState)) (to : ℕ) (x : Command) → IsMatch m → IsNet m opening n → to < m.mirrors → IsNew m n.links.rows to x
    → column rows to x.from ≡ column n.links.rows to x.from ++ x ∷ []
    → ((k : ℕ) → (k ≡ x.from → ⊥) → column rows to k ≡ column n.links.rows to k)
    → ((i k : ℕ) → i < m.mirrors → (i ≡ to → ⊥) → column rows i k ≡ column n.links.rows i k)
    → (i : ℕ) (d : MirrorState W) → i < m.mirrors
    → AtMirror m opening (column rows i) (get_or (changed_at (after_line m.commands (lines.Arrive to x.from x.number)) to n.mirrors) i d)
arrived-mirrors {W} m opening n rows to x sound h there new here others apart i d below =
    mirrors-changed (λ j s. AtMirror m opening (column n.links.rows j) s) (λ j s. AtMirror m opening (column rows j) s)
    (after_line m.commands (lines.Arrive to x.from x.number)) to n.mirrors (let count = h.count in omega arith)
    (λ s at.
    (let may = may-arrive m opening (column n.links.rows to) s x sound at new.there new.differ in
    subst (AtMirror m opening (column rows to)) (sym (line-arrives m.commands to x s may.named))
    (arrive-AtMirror m opening (column n.links.rows to) (column rows to) s x sound at new.there new.differ here others)))
    i (λ s other at. same-AtMirror m opening (column n.links.rows i) (column rows i) s (λ k. apart i k below other) at)
    d (h.mirrors i d below)

still-net :
    {W : Type 0} (m : MatchData) (opening : W) (n : NetState W) (f : LinkState → LinkState) (from to : ℕ) → IsNet m opening n → from < m.mirrors → to < m.mirrors
    → (f (link_at n.links.rows from to)).received ≡ (link_at n.links.rows from to).received
    → AreLinks m (record n.links { rows = changed f from to n.links.rows })
    → IsNet m opening (record { links = record n.links { rows = changed f from to n.links.rows }; mirrors = n.mirrors })
still-net m opening n f from to h a b still links =
    let place = place-in m n.links from to h.links a b in
    record {
      links = links;
      count = h.count;
      mirrors = λ i d below. same-AtMirror m opening (column n.links.rows i) (column (changed f from to n.links.rows) i) (get_or n.mirrors i d)
          (λ k. still-column f from to n.links.rows place still i k) (h.mirrors i d below);
    }

pub net-next :
    {W : Type 0} (m : MatchData) (opening : W) (n : NetState W) (l : NetLine) → IsMatch m → IsThere m.mirrors l → IsNet m opening n → IsNet m opening (next_net m.commands n l)
unfolding next_links script_of after_script
net-next {W} m opening n (Issue from number) sound a h =
    let links = next-AreLinks m n.links (Issue from number) a h.links in
    elim (has_command n.links.issued from number) as (λ v. has_command n.links.issued from number ≡ v → AreLinks m (cond v n.links (after_issue (command_named m.commands from number) from n.links))
    → IsNet m opening (record {
      links = cond v n.links
          (after_issue (command_named m.commands from number) from n.links);
      mirrors =
          after_script m.commands n.mirrors (cond v [] (arriving from (listed (command_named m.commands from number))));
    })) [
      | true ↦ λ e k. record { links = k; count = h.count; mirrors = h.mirrors }
      | false ↦ λ e k. found (command_named m.commands from number) refl e k
    ]
    refl links
  where
    found : (o : Option Command) → command_named m.commands from number ≡ o → has_command n.links.issued from number ≡ false → AreLinks m (after_issue o from n.links)
        → IsNet m opening (record { links = after_issue o from n.links; mirrors = after_script m.commands n.mirrors (arriving from (listed o)) })
    found None e new k = record { links = k; count = h.count; mirrors = h.mirrors }
    found (Some x) e new k =
        let named = found-named m.commands from number x e in
        let fresh = subst (λ (j : ℕ). has_command n.links.issued j x.number ≡ false) (sym named.0) (subst (λ (j : ℕ). has_command n.links.issued from j ≡ false) (sym named.1) new) in
        let mine = subst (λ (j : ℕ). IsNew m n.links.rows j x) named.0
        (issue-new m n.links x h.links (subst (λ (j : ℕ). j < m.mirrors) (sym named.0) a)
        (command_named-Contains m.commands from number x e) fresh) in
        let place = place-in m n.links from from h.links a a in
        let own = link_at n.links.rows from from in
        let rows = changed_at (row_issued x from) from n.links.rows in
        let here : column rows from from ≡ column n.links.rows from from ++ x ∷ [] =
        ap (λ (t : LinkState). t.received) (issued-own x from n.links.rows place) ∙ (take-received (after_put x own)).0
        ∙ ap (λ (xs : List Command). xs ++ next_of (after_put x own)) (put-sent x own).1
        ∙ ap (λ (xs : List Command). own.received ++ xs) (own-next x own (h.links.own from a)) in
        record {
          links = k;
          count = changed_at-count (after_line m.commands (lines.Arrive from x.from x.number)) from n.mirrors ∙ h.count;
          mirrors = arrived-mirrors m opening n rows from x sound h a mine
              (subst (λ (j : ℕ). column rows from j ≡ column n.links.rows from j ++ x ∷ []) (sym named.0) here)
              (λ j apart. ap (λ (t : LinkState). t.received) (issued-other x from j from n.links.rows place (λ e. apart (e ∙ sym named.0))))
              (λ i j below apart. elim (cases_eq j from) [
                | inl same ↦ subst (λ (b : ℕ). column rows i b ≡ column n.links.rows i b) (sym same)
                    (ap (λ (t : LinkState). t.received) (issued-same x from i n.links.rows place (let row = h.links.row from a in omega arith) apart) ∙ (put-sent x (link_at n.links.rows from i)).1)
                | inr other ↦ ap (λ (t : LinkState). t.received) (issued-other x from j i n.links.rows place other)
              ]);
        }
net-next m opening n (Send from to k) sound a h =
    still-net m opening n (after_send k) from to h a.0 a.1 (send-still k (link_at n.links.rows from to)).received (next-AreLinks m n.links (Send from to k) a h.links)
net-next {W} m opening n (Carry from to k) sound a h =
    let l = link_at n.links.rows from to in
    let rows = changed (after_carry k) from to n.links.rows in
    let place = place-in m n.links from to h.links a.0 a.1 in
    let links = next-AreLinks m n.links (Carry from to k) a h.links in
    let told_is = told-link (brought k) from to n.links.rows place in
    elim (brought-cases k l) [
      | inl none ↦
          (let still = still-net m opening n (after_carry k) from to h a.0 a.1 (carry-received k l ∙ ap (λ (xs : List Command). l.received ++ xs) none ∙ append-nil l.received) links in
          subst (λ (xs : List Command). IsNet m opening (record { links = record n.links { rows = rows }; mirrors = after_script m.commands n.mirrors (arriving to xs) })) (sym (told_is ∙ none)) still)
      | inr one ↦
          (let x = one.0 in
          let new = next-new m n.links from to x h.links a.0 a.1 one.2 in
          let got : (link_at rows from to).received ≡ l.received ++ x ∷ [] =
          ap (λ (t : LinkState). t.received) (changed-same (after_carry k) from to n.links.rows place) ∙ carry-received k l ∙ ap (λ (xs : List Command). l.received ++ xs) one.1 in
          let made : IsNet m opening (record { links = record n.links { rows = rows }; mirrors = changed_at (after_line m.commands (lines.Arrive to x.from x.number)) to n.mirrors }) =
          record {
            links = links;
            count = changed_at-count (after_line m.commands (lines.Arrive to x.from x.number)) to n.mirrors ∙ h.count;
            mirrors = arrived-mirrors m opening n rows to x sound h a.1 new.0
                (subst (λ (j : ℕ). column rows to j ≡ column n.links.rows to j ++ x ∷ []) (sym new.1) got)
                (λ j apart. ap (λ (t : LinkState). t.received) (changed-other (after_carry k) from to n.links.rows j to place (inl (λ e. apart (e ∙ sym new.1)))))
                (λ i j below apart. ap (λ (t : LinkState). t.received) (changed-other (after_carry k) from to n.links.rows j i place (inr apart)));
          } in
          subst (λ (xs : List Command). IsNet m opening (record { links = record n.links { rows = rows }; mirrors = after_script m.commands n.mirrors (arriving to xs) })) (sym (told_is ∙ one.1)) made)
    ]
net-next m opening n (Ack from to) sound a h =
    still-net m opening n after_ack from to h a.0 a.1 (ack-still (link_at n.links.rows from to)).received (next-AreLinks m n.links (Ack from to) a h.links)
net-next m opening n (Hear from to k) sound a h =
    still-net m opening n (after_hear k) from to h a.0 a.1 (hear-still k (link_at n.links.rows from to)).received (next-AreLinks m n.links (Hear from to k) a h.links)
net-next {W} m opening n (Turn i) sound a h =
    record {
      links = h.links;
      count = changed_at-count (after_line m.commands (lines.Turn i)) i n.mirrors ∙ h.count;
      mirrors = λ j d below.
          mirrors-changed (λ b s. AtMirror m opening (column n.links.rows b) s) (λ b s. AtMirror m opening (column n.links.rows b) s)
          (after_line m.commands (lines.Turn i)) i n.mirrors (let count = h.count in omega arith)
          (λ s at. subst (AtMirror m opening (column n.links.rows i)) (sym (line-turns m.commands i s)) (turn-AtMirror m opening (column n.links.rows i) s at))
          j (λ s other at. at)
          d (h.mirrors j d below);
    }

-- ---- along

pub net-along :
    {W : Type 0} (m : MatchData) (opening : W) (n : NetState W) (ls : List NetLine) → IsMatch m
    → AllByRecursion (IsThere m.mirrors) ls → IsNet m opening n → IsNet m opening (after_net m.commands n ls)
unfolding after_net
net-along m opening n [] sound there h = h
net-along m opening n (l ∷ ls) sound there h = net-along m opening (next_net m.commands n l) ls sound there.1 (net-next m opening n l sound there.0 h)

pub net-opening : {W : Type 0} (m : MatchData) (opening : W) → IsNet m opening (opening_net opening m)
net-opening {W} m opening =
    record {
      links = new-AreLinks m;
      count = length-replicate m.mirrors (net_mirror opening m);
      mirrors = λ i d below.
          subst (AtMirror m opening (column (new_links m.mirrors m.commands).rows i)) (sym (get_or-replicate m.mirrors i (net_mirror opening m) d below))
          (start-AtMirror opening m (column (new_links m.mirrors m.commands).rows i) (λ k. new-received m.commands m.mirrors k i));
    }
