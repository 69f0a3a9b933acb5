-- What a live mirror told at its end, whatever it was told before.
use Rattle.std.specs.List.{AllByRecursion, Contains}
use Rattle.std.proofs.lemmas.List.{length-map}
use Rattle.std.proofs.lemmas.List.Elements.{All-from_recursion, All-contains}
use Rattle.std.proofs.Common.{◌≡◌, inl, inr, ℕ, ◌+◌, length, arith, Bool, true, false, cond, ltb, List, [], ◌∷◌, ◌++◌, Result, Ok, Err, refl, sym, ap, subst, ◌∙◌, append_assoc, append-nil}
use Rattle.tss_io.specs.declared.cause.Cause.{Cause}
use Rattle.tss_io.specs.declared.cause.Cause.TheVariants.{Number, Long}
use Rattle.tss_io.specs.Kinds.{is_long}
use Rattle.tss_io.specs.Lines.{Lines, torn, line, lines_of}
use Rattle.tss_io.specs.Results.{◌>>=◌}
use Rattle.line_talk.specs.Hearing.{Hearing, hear, told_of, fresh, led_on, kept}
use Rattle.match_file.specs.Around.{Around, first_due, in_match, behind}
use Rattle.match_data.specs.Data.{MatchData, IsCommand, most_commands}
use Rattle.game_trait.specs.Acts.{has_act}
use Rattle.game_trait.specs.declared.command.Command.{Command}
use Rattle.game_trait.specs.declared.event.Event.TheVariants as events
use Rattle.game_trait.proofs.KeyOrder.{all-weaker}
use Rattle.sync_model.specs.State.{opening_state}
use Rattle.report_text.specs.Ends.{done_line}
use Rattle.live_text.specs.declared.request.Request.{Request}
use Rattle.live_text.specs.declared.request.Request.TheVariants.{Own, Cmd, Tick, Turn, Step, Restagger, World as AskWorld, Run, Commands, End}
use Rattle.live_talk.specs.Head.{Place, heading, asking, refused, head_machine, led_to, after_head, is_over_at, place_after, told_at, opening_headed}
use Rattle.live_talk.specs.Lines.{next_line}
use Rattle.live_talk.specs.Staging.{Staging, shown_by}
use Rattle.live_talk.specs.Talked.{TalkState, talk_kind, talk_way, asked_by, led_by, told_by, talk_from}
use Rattle.live_mirror.specs.Events.{after_requests, FitAlong, IsOfMatch}
use Rattle.live_laws.specs.Events.{IsAmong}
use Rattle.live_mirror.specs.Led.{begun, IsLed, IsOfSetup}
use Rattle.live_laws.specs.Record.{MayBeCommands, IsEnd, AreEnds, AreAllEnds}
use Rattle.live_mirror.specs.Session.{SessionState, after_request, opening_session}
use Rattle.live_mirror.specs.Told.{answer_text, record_part}
use Rattle.live_mirror.specs.Way.{LiveState, live_way, session_asking}
use Rattle.live_laws.specs.Talks.{EndedTalk, IsTalkOf, AreTalksOf, ArrivedAtOne, AreAllTalks, states_of}
use Rattle.live_mirror.proofs.Arrivals.{of_setup, of_number, arrived-next}
use Rattle.live_mirror.proofs.LedLaws.{Holds, after-more, fit-more, step}
use Rattle.live_laws.proofs.RecordLaws.{told_behind}

-- ---- at an `end`

-- what a mirror of this number told in all, where it stands so behind its `end`: it is one of a match,
-- and closed with what a record has of it, and `done`
record ClosesWithItsPart {W : Type 0} (g : Staging W) (number : ℕ) (told : List ℕ) (s : SessionState W) : Type 0 where
  pub game : MatchData
  pub setup : IsOfSetup g.opening game s
  pub arrived : AllByRecursion (IsOfMatch game) s.mirror.history
  pub is_end : (commands : List Command) → AllByRecursion (IsAmong commands) s.mirror.history → IsEnd (g.opening game.layout) game commands number s
  pub numbered : s.number ≡ number
  pub front : List ℕ
  pub told_is : told ≡ front ++ (record_part (shown_by g game.names) number s.mirror ++ done_line)

module _ {W : Type 0} (g : Staging W) where
  end_told : (number : ℕ) (s : SessionState W) → IsLed g.opening number s → ClosesWithItsPart g number (answer_text (shown_by g s.names) s End ++ done_line) (after_request s End)
  end_told number s is =
      let ended = after_request s End in
      let show = shown_by g s.names in
      let first = begun g.opening is.game number in
      let led : IsLed g.opening number ended = record {
        game = is.game;
        is_match = is.is_match;
        there = is.there;
        asked = is.asked ++ End ∷ [];
        fit = fit-more is.asked first End is.fit tt;
        led = ap (λ (u : SessionState W). after_request u End) is.led ∙ sym (after-more is.asked first End);
        arrived = arrived-next g.opening number s End is tt;
      } in
      let names = (of_setup g.opening number s is).names in
      let numbered = of_number g.opening number s is in
      let told = told_behind show s in
      let its : record_part show s.number ended.mirror ≡ record_part (shown_by g is.game.names) number ended.mirror = λ i. record_part (shown_by g (names i)) (numbered i) ended.mirror in
      record {
        game = is.game;
        setup = of_setup g.opening number ended led;
        arrived = led.arrived;
        is_end = λ commands among. record { asked = is.asked; fit = led.fit; ended = led.led; among = among };
        numbered = numbered;
        front = told.0;
        told_is = ap (λ (text : List ℕ). text ++ done_line) told.1
            ∙ append_assoc told.0 (record_part show s.number ended.mirror) done_line
            ∙ ap (λ (text : List ℕ). told.0 ++ (text ++ done_line)) its;
      }

  -- no other request ends a match
  abbrev Talk : Type 0
  Talk = TalkState (SessionState W)

  goes-on : (t u : Talk) → t.is_over ≡ false → t ≡ u → u.is_over ≡ true → ⊥
  goes-on t u going same over = let k = sym going ∙ ap (λ (v : Talk). v.is_over) same ∙ over in cc

  abbrev After : Talk → Request → Talk
  After t r = led_by (session_asking g) t (Ok r)

  request-end : (number : ℕ) (t u : Talk) (r : Request) → IsLed g.opening number t.session → After t r ≡ u → u.is_over ≡ true
      → ClosesWithItsPart g number (told_by (session_asking g) t (Ok r)) u.session
  request-end number t u (Own player act) is same over = absurd (goes-on (After t (Own player act)) u refl same over)
  request-end number t u (Cmd x) is same over = absurd (goes-on (After t (Cmd x)) u refl same over)
  request-end number t u Tick is same over = absurd (goes-on (After t Tick) u refl same over)
  request-end number t u Turn is same over = absurd (goes-on (After t Turn) u refl same over)
  request-end number t u (Step copy) is same over = absurd (goes-on (After t (Step copy)) u refl same over)
  request-end number t u (Restagger plan) is same over = absurd (goes-on (After t (Restagger plan)) u refl same over)
  request-end number t u (AskWorld copy) is same over = absurd (goes-on (After t (AskWorld copy)) u refl same over)
  request-end number t u (Run copy) is same over = absurd (goes-on (After t (Run copy)) u refl same over)
  request-end number t u Commands is same over = absurd (goes-on (After t Commands) u refl same over)
  request-end number t u End is same over =
      subst (λ (v : Talk). ClosesWithItsPart g number (answer_text (shown_by g t.session.names) t.session End ++ done_line) v.session) same (end_told number t.session is)

  asked-end : (number : ℕ) (t u : Talk) (q : Result Request Cause) → t.is_over ≡ false → IsLed g.opening number t.session → led_by (session_asking g) t q ≡ u → u.is_over ≡ true
      → ClosesWithItsPart g number (told_by (session_asking g) t q) u.session
  asked-end number t u (Ok r) going is same over = request-end number t u r is same over
  asked-end number t u (Err cause) going is same over = absurd (goes-on (led_by (session_asking g) t (Err cause)) u going same over)

  -- ---- no line of a head ends a match

  abbrev IsOpen : Place Talk → Type 0
  IsOpen (heading due at) = Unit {0}
  IsOpen (asking t) = t.is_over ≡ false
  IsOpen refused = Unit {0}

  opened : (number next : ℕ) (at : Around (Unit {0})) → IsOpen (after_head (led_to (talk_kind (session_asking g)) number next at))
  opened number next first_due = tt
  opened number next (in_match a) = tt
  opened number next (behind m t) =
      elim (ltb number m.mirrors) as (λ there. IsOpen (after_head ((cond there (Ok (opening_session (g.opening m.layout) m number)) (Err Number) >>= λ s. Ok (talk_from s next)) >>= λ u. Ok (asking u)))) [
        | true ↦ refl
        | false ↦ tt
      ]

  headed : (number next : ℕ) (r : Result (Around (Unit {0})) Cause) → IsOpen (after_head (r >>= λ read. led_to (talk_kind (session_asking g)) number next read))
  headed number next (Ok at) = opened number next at
  headed number next (Err cause) = tt

  abbrev placed : ℕ → Place Talk → List ℕ → Place Talk
  placed number p l = place_after (talk_kind (session_asking g)) (talk_way (session_asking g)) number p l

  head-open : (number due : ℕ) (at : Around (Unit {0})) (l : List ℕ) → IsOpen (placed number (heading due at) l)
  head-open number due at l =
      let next = next_line due in
      let take = (head_machine (talk_kind (session_asking g)).first_line).take in
      elim (is_long l) as (λ long. IsOpen (after_head (cond long (Err Long) (take at l >>= λ read. led_to (talk_kind (session_asking g)) number next read)))) [
        | true ↦ tt
        | false ↦ headed number next (take at l)
      ]

  -- ---- a line

  same-talk : (t u : Talk) → asking t ≡ asking u → t ≡ u
  same-talk t u e = cc

  never-open : (t : Talk) → t.is_over ≡ false → t.is_over ≡ true → ⊥
  never-open t going over = let k = sym going ∙ over in cc

  line-end : (number : ℕ) (p : Place Talk) (l : List ℕ) (u : Talk) → is_over_at (talk_way (session_asking g)) p ≡ false → Holds g number p → placed number p l ≡ asking u → u.is_over ≡ true
      → ClosesWithItsPart g number (told_at (talk_kind (session_asking g)) (talk_way (session_asking g)) number p l) u.session
  line-end number (heading due at) l u going here e over = absurd (never-open u (subst IsOpen e (head-open number due at l)) over)
  line-end number (asking t) l u going here e over =
      asked-end number t u (asked_by (session_asking g) t.session l) going here (same-talk (led_by (session_asking g) t (asked_by (session_asking g) t.session l)) u e) over
  line-end number refused l u going here e over = absurd cc

  -- ---- what is told

  -- behind its `end` nothing is heard
  over-hear : (h : Hearing (LiveState W)) (lines : Lines) → (live_way g).is_over h.state ≡ true → hear (live_way g) h lines ≡ h
  unfolding hear
  over-hear h (torn bytes) e = rw e refl
  over-hear h (line l rest) e = rw e refl

  over-told : (h : Hearing (LiveState W)) (lines : Lines) → (live_way g).is_over h.state ≡ true → told_of (live_way g) h lines ≡ []
  unfolding told_of
  over-told h (torn bytes) e = refl
  over-told h (line l rest) e = rw e refl

  torn-place : (h : Hearing (LiveState W)) (bytes : List ℕ) → (hear (live_way g) h (torn bytes)).state ≡ h.state
  unfolding hear
  torn-place h bytes = elim ((live_way g).is_over h.state) as (λ over. (cond over h (record h { begun = kept (h.begun ++ bytes) })).state ≡ h.state) [ true ↦ refl | false ↦ refl ]

  told-before : (number : ℕ) (a b : List ℕ) (s : SessionState W) → ClosesWithItsPart g number b s → ClosesWithItsPart g number (a ++ b) s
  told-before number a b s part = record {
    game = part.game;
    setup = part.setup;
    arrived = part.arrived;
    is_end = part.is_end;
    numbered = part.numbered;
    front = a ++ part.front;
    told_is = ap (λ (text : List ℕ). a ++ text) part.told_is ∙ sym (append_assoc a part.front (record_part (shown_by g part.game.names) number s.mirror ++ done_line));
  }

  one-line : (number : ℕ) (h : Hearing (LiveState W)) (l : List ℕ) (u : Talk) → h.state.number ≡ number → Holds g number h.state.place → (live_way g).is_over h.state ≡ false
      → (led_on (live_way g) h l).state.place ≡ asking u → u.is_over ≡ true → ClosesWithItsPart g number ((live_way g).told h.state (kept (h.begun ++ l))) u.session
  one-line number h l u me here going e over =
      let own : Holds g h.state.number h.state.place = subst (λ (n : ℕ). Holds g n h.state.place) (sym me) here in
      subst (λ (n : ℕ). ClosesWithItsPart g n ((live_way g).told h.state (kept (h.begun ++ l))) u.session) me
      (line-end h.state.number h.state.place (kept (h.begun ++ l)) u going own e over)

  along : (number : ℕ) (lines : Lines) (h : Hearing (LiveState W)) (u : Talk) → h.state.number ≡ number → Holds g number h.state.place → (live_way g).is_over h.state ≡ false
      → (hear (live_way g) h lines).state.place ≡ asking u → u.is_over ≡ true → ClosesWithItsPart g number (told_of (live_way g) h lines) u.session
  unfolding hear told_of
  along number (torn bytes) h u me here going e over =
      absurd (let k = sym going ∙ ap (λ (x : LiveState W). is_over_at (talk_way (session_asking g)) x.place) (sym (torn-place h bytes)) ∙ ap (is_over_at (talk_way (session_asking g))) e ∙ over in cc)
  along number (line l rest) h u me here going e over =
      let on = led_on (live_way g) h l in
      let there : Holds g number on.state.place = subst (λ (n : ℕ). Holds g number (placed n h.state.place (kept (h.begun ++ l)))) (sym me) (step g number h.state.place (kept (h.begun ++ l)) here) in
      let told = (live_way g).told h.state (kept (h.begun ++ l)) in
      let heard : (hear (live_way g) on rest).state.place ≡ asking u = ap (λ (b : Bool). (cond b h (hear (live_way g) on rest)).state.place) (sym going) ∙ e in
      let split : told_of (live_way g) h (line l rest) ≡ told ++ told_of (live_way g) on rest = ap (λ (b : Bool). cond b [] (told ++ told_of (live_way g) on rest)) going in
      subst (λ (text : List ℕ). ClosesWithItsPart g number text u.session) (sym split)
      (elim ((live_way g).is_over on.state) as (λ b. (live_way g).is_over on.state ≡ b → ClosesWithItsPart g number (told ++ told_of (live_way g) on rest) u.session) [
        | true ↦ λ ended.
            let place : on.state.place ≡ asking u = ap (λ (x : Hearing (LiveState W)). x.state.place) (sym (over-hear on rest ended)) ∙ heard in
            subst (λ (text : List ℕ). ClosesWithItsPart g number text u.session) (sym (ap (λ (text : List ℕ). told ++ text) (over-told on rest ended) ∙ append-nil told))
            (one-line number h l u me here going place over)
        | false ↦ λ more. told-before number told (told_of (live_way g) on rest) u.session (along number rest on u me there more heard over)
      ] refl)

  closes : (number : ℕ) (bytes : List ℕ) (u : Talk) → (hear (live_way g) (fresh (opening_headed number)) (lines_of bytes)).state.place ≡ asking u → u.is_over ≡ true
      → ClosesWithItsPart g number (told_of (live_way g) (fresh (opening_headed number)) (lines_of bytes)) u.session
  closes number bytes u e over = along number (lines_of bytes) (fresh (opening_headed number)) u refl tt refl e over

-- ---- talks with the mirrors of one setup

module _ {W : Type 0} (g : Staging W) (m : MatchData) (number : ℕ) (t : EndedTalk W) (talk : IsTalkOf g m number t) where
  part : ClosesWithItsPart g number (told_of (live_way g) (fresh (opening_headed number)) (lines_of t.bytes)) t.state
  part = closes g number t.bytes (record { session = t.state; line = talk.line; is_over = true }) talk.heard refl

  -- what was told closes with a record's part, and `done`
  pub talk_closes : (front : List ℕ) × (t.state.number ≡ number)
      × (told_of (live_way g) (fresh (opening_headed number)) (lines_of t.bytes) ≡ front ++ (record_part (shown_by g m.names) number t.state.mirror ++ done_line))
  talk_closes =
      let names : part.game.names ≡ m.names = sym part.setup.names ∙ talk.setup.names in
      (part.front, part.numbered, part.told_is ∙ ap (λ (ns : List (List ℕ)). part.front ++ (record_part (shown_by g ns) number t.state.mirror ++ done_line)) names)

  same-opening : begun g.opening part.game number ≡ begun g.opening m number
  same-opening =
      let opening = sym part.setup.opening ∙ talk.setup.opening in
      let ticks = sym part.setup.length ∙ talk.setup.length in
      let plans = sym part.setup.plans ∙ talk.setup.plans in
      let names = sym part.setup.names ∙ talk.setup.names in
      let version = sym part.setup.version ∙ talk.setup.version in
      let mirrors = sym part.setup.mirrors ∙ talk.setup.mirrors in
      λ i. record {
        mirror = opening_state (opening i) (ticks i) (plans i) (most_commands (version i)) 1024;
        names = names i;
        number = number;
        version = version i;
        mirrors = mirrors i;
        next = 0;
      }

  -- it stands behind the `end` of requests of the match
  talk_ends : (commands : List Command) → AllByRecursion (IsAmong commands) t.state.mirror.history → IsEnd (g.opening m.layout) m commands number t.state
  talk_ends commands among =
      let e = part.is_end commands among in
      let all = e.asked ++ End ∷ [] in
      record {
        asked = e.asked;
        fit = subst (λ (u : SessionState W). FitAlong u all) same-opening e.fit;
        ended = subst (λ (u : SessionState W). t.state ≡ after_requests u all) same-opening e.ended;
        among = among;
      }

  -- what arrived is of the match
  talk_arrived : (x : Command) → Contains t.state.mirror.history (events.Arrive x) → IsCommand m x
  talk_arrived x there =
      let history = t.state.mirror.history in
      let is : IsCommand part.game x = All-contains (IsOfMatch part.game) history (events.Arrive x) (All-from_recursion (IsOfMatch part.game) history part.arrived) there in
      let names : part.game.names ≡ m.names = sym part.setup.names ∙ talk.setup.names in
      record {
        time = omega (arith, is.time, part.setup.length, talk.setup.length);
        from = omega (arith, is.from, part.setup.mirrors, talk.setup.mirrors);
        number = is.number;
        player = omega (arith, is.player, ap (λ (l : List (List ℕ)). length l) names);
        act = subst (λ (v : ℕ). has_act v x.act ≡ true) (sym part.setup.version ∙ talk.setup.version) is.act;
      }

arrived_is : {W : Type 0} (g : Staging W) (m : MatchData) (n : ℕ) (talks : List (EndedTalk W)) (x : Command) → AreTalksOf g m n talks → ArrivedAtOne talks x → IsCommand m x
unfolding AreTalksOf ArrivedAtOne
arrived_is g m n [] x each there = absurd there
arrived_is g m n (t ∷ ts) x each (inl here) = talk_arrived g m n t each.0 x here
arrived_is g m n (t ∷ ts) x each (inr there) = arrived_is g m (n + 1) ts x each.1 there

talks_end : {W : Type 0} (g : Staging W) (m : MatchData) (commands : List Command) (n : ℕ) (talks : List (EndedTalk W)) → AreTalksOf g m n talks → AllByRecursion (λ t. AllByRecursion (IsAmong commands) t.state.mirror.history) talks
    → AreEnds (g.opening m.layout) m commands n (states_of talks)
unfolding AreTalksOf AreEnds
talks_end g m commands n [] each all = tt
talks_end g m commands n (t ∷ ts) each all = (talk_ends g m n t each.0 commands all.0, talks_end g m commands (n + 1) ts each.1 all.1)

abbrev state_of : {W : Type 0} → EndedTalk W → SessionState W
state_of t = t.state

-- talks with all mirrors of a match leave them as the laws of ends ask
pub all_talks_end : {W : Type 0} (g : Staging W) (m : MatchData) (commands : List Command) (talks : List (EndedTalk W)) → AreAllTalks g m commands talks
    → MayBeCommands m commands × AreAllEnds g.opening m commands (states_of talks)
all_talks_end g m commands talks all = (
  record {
    differ = all.arrived.differ;
    few = all.arrived.few;
    each = all-weaker (ArrivedAtOne talks) (IsCommand m) commands (λ x there. arrived_is g m 0 talks x all.each there) all.arrived.only;
  },
  (length-map talks state_of ∙ all.count, talks_end g m commands 0 talks all.each all.arrived.all),
)
