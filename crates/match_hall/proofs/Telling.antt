-- Watchers that are told what changes a mirror, event by event.
use Rattle.std.proofs.Common.{◌≡◌, ℕ, zero, suc, ◌+◌, ◌<◌, ◌≤◌, Bool, true, false, cond, List, [], ◌∷◌, ◌++◌, length, get_or, take, drop, refl, ap, sym, ◌∙◌, subst, append_assoc, take_all, arith}
use Rattle.std.specs.Prelude.{filter}
use Rattle.std.specs.List.{AllByRecursion}
use Rattle.std.proofs.lemmas.Grind.{take_at_read}
use Rattle.std.proofs.lemmas.List.{append-nil, drop_more}
use Rattle.std.proofs.lemmas.List.Elements.{All-from_recursion, All-get_or, filter-append}
use Rattle.std.proofs.lemmas.Bool.{eqb-true}
use Rattle.game_trait.specs.declared.command.Command.{Command}
use Rattle.game_trait.specs.declared.event.Event.{Event}
use Rattle.game_trait.specs.declared.event.Note.{Note}
use Rattle.game_trait.specs.declared.event.Reply.{Reply}
use Rattle.game_trait.specs.Count.{times}
use Rattle.sync_model.specs.State.{MirrorState}
use Rattle.sync_model.specs.Change.{Fits, next, said, answers, changes, is_change}
use Rattle.sync_model.specs.Change.{after as after_events}
use Rattle.sync_model.specs.History.{HasRoomAlong, IsReached, first_state}
use Rattle.sync_model.proofs.History.{history-next, unchanged-next}
use Rattle.sync_model.proofs.Room.{said-same, first-next, reached_kept}
use Rattle.match_data.specs.Data.{MatchData, IsMatch, IsScriptLine}
use Rattle.match_data.specs.declared.script_line.ScriptLine.{ScriptLine}
use Rattle.watch_board.specs.Behaviour.{Behaviour}
use Rattle.watch_board.specs.Told.{AreTold}
use Rattle.watch_board.proofs.Told.{AreTold-none, AreTold-more}
use Rattle.match_hall.specs.Script.{mirror_of, names, events_of, after_line, after_lines, arrives_at, restaggers_at, opening_mirror}
use Rattle.match_hall.specs.Notes.{note_of, notes_from, notes_of, notes_where, notes_with, IsToldOn}
use Rattle.match_hall.proofs.OnWay.{OnWay, line-fits, line-room, way-line, way-other}

-- ---- notes

notes_from-append :
    {W : Type 0} (number : ℕ) (s : MirrorState W) (es fs : List Event)
    → notes_from number s (es ++ fs) ≡ notes_from number s es ++ notes_from number (after_events s es) fs
unfolding notes_from after_events
notes_from-append number s [] fs = refl
notes_from-append number s (e ∷ es) fs = ap (λ (ns : List Note). note_of number s e ∷ ns) (notes_from-append number (next s e) es fs)

-- an event that changes a mirror gives it one note more
note-more :
    {W : Type 0} (number : ℕ) (s : MirrorState W) (e : Event) → IsReached s → changes s e ≡ true
    → notes_of number (next s e) ≡ notes_of number s ++ note_of number s e ∷ []
unfolding notes_from
note-more {W} number s e here h =
    let grown : (next s e).history ≡ s.history ++ e ∷ [] = rw h at (history-next s e) in
    let answer : said (after_events (first_state s) s.history) e ≡ said s e = said-same (after_events (first_state s) s.history) s e (sym here) in
    ap (λ (es : List Event). notes_from number (first_state (next s e)) es) grown
    ∙ ap (λ (t : MirrorState W). notes_from number t (s.history ++ e ∷ [])) (first-next s e)
    ∙ notes_from-append number (first_state s) s.history (e ∷ [])
    ∙ ap (λ (r : Reply). notes_of number s ++ record { mirror = number; event = e; reply = r } ∷ []) answer

-- an event that changes nothing gives none
note-each :
    {W : Type 0} (number : ℕ) (s : MirrorState W) (e : Event) → IsReached s → (v : Bool) → changes s e ≡ v
    → notes_of number (next s e) ≡ notes_of number s ++ cond v (note_of number s e ∷ []) []
note-each number s e here true h = note-more number s e here h
note-each {W} number s e here false h =
    ap (λ (t : MirrorState W). notes_of number t) (unchanged-next s e h) ∙ sym (append-nil (notes_of number s))

-- events give a mirror the notes of those of which the answers tell of a change
notes-more :
    {W : Type 0} (number : ℕ) (es : List Event) (s : MirrorState W) → IsReached s
    → notes_of number (after_events s es) ≡ notes_of number s ++ notes_with number es (answers s es)
unfolding after_events answers notes_with
notes-more number [] s here = sym (append-nil (notes_of number s))
notes-more number (e ∷ es) s here =
    let rest = notes_with number es (answers (next s e) es) in
    notes-more number es (next s e) (reached_kept s e here)
    ∙ ap (λ (ns : List Note). ns ++ rest) (note-each number s e here (changes s e) refl)
    ∙ append_assoc (notes_of number s) (notes_where number e (said s e)) rest

-- the answers are as many as the events
pub answers-count : {W : Type 0} (es : List Event) (s : MirrorState W) → length (answers s es) ≡ length es
unfolding answers
answers-count [] s = refl
answers-count (e ∷ es) s = ap (λ (n : ℕ). suc n) (answers-count es (next s e))

-- the next event and its answer
with-next :
    (number : ℕ) (es : List Event) (rs : List Reply) (i : ℕ) (d : Event) (q : Reply) → i < length es → length rs ≡ length es
    → notes_with number (take (suc i) es) (take (suc i) rs)
    ≡ notes_with number (take i es) (take i rs) ++ notes_where number (get_or es i d) (get_or rs i q)
unfolding notes_with
with-next number [] rs i d q below same = absurd (omega arith)
with-next number (e ∷ es) [] i d q below same = absurd (omega arith)
with-next number (e ∷ es) (r ∷ rs) zero d q below same = append-nil (notes_where number e r)
with-next number (e ∷ es) (r ∷ rs) (suc i) d q below same =
    ap (λ (ns : List Note). notes_where number e r ++ ns) (with-next number es rs i d q (omega arith) (omega arith))
    ∙ sym (append_assoc (notes_where number e r) (notes_with number (take i es) (take i rs)) (notes_where number (get_or es i d) (get_or rs i q)))

-- ---- events and their answers, which are told one after the other

-- before the first
pub told_with-none : (number : ℕ) (es : List Event) (rs : List Reply) (ws : List Behaviour) (out : List ℕ) → AreTold (notes_with number (take 0 es) (take 0 rs)) ws ws out out
unfolding notes_with
told_with-none number es rs ws out = AreTold-none ws out

-- one more
told_with-more :
    (number : ℕ) (es : List Event) (rs : List Reply) (i : ℕ) (d : Event) (q : Reply) (ns : List Note) (old now new : List Behaviour) (before between after : List ℕ)
    → i < length es → length rs ≡ length es → notes_where number (get_or es i d) (get_or rs i q) ≡ ns
    → AreTold (notes_with number (take i es) (take i rs)) old now before between → AreTold ns now new between after
    → AreTold (notes_with number (take (i + 1) es) (take (i + 1) rs)) old new before after
told_with-more number es rs i d q ns old now new before between after below same is first second =
    let n : i + 1 ≡ suc i = omega arith in
    subst (λ (ms : List Note). AreTold ms old new before after)
    (sym
    (ap (λ (k : ℕ). notes_with number (take k es) (take k rs)) n ∙ with-next number es rs i d q below same
    ∙ ap (λ (ms : List Note). notes_with number (take i es) (take i rs) ++ ms) is))
    (AreTold-more (notes_with number (take i es) (take i rs)) ns old now new before between after first second)

-- the answer tells of no change
pub told_with-unchanged :
    (number : ℕ) (es : List Event) (rs : List Reply) (i : ℕ) (d : Event) (q : Reply) (old now : List Behaviour) (before between : List ℕ)
    → i < length es → length rs ≡ length es → is_change (get_or rs i q) ≡ false
    → AreTold (notes_with number (take i es) (take i rs)) old now before between
    → AreTold (notes_with number (take (i + 1) es) (take (i + 1) rs)) old now before between
told_with-unchanged number es rs i d q old now before between below same unchanged told =
    told_with-more number es rs i d q [] old now now before between between below same (rw unchanged refl) told (AreTold-none now between)

-- the answer tells of a change, and so were the watchers
pub told_with-changed :
    (number : ℕ) (es : List Event) (rs : List Reply) (i : ℕ) (d : Event) (q : Reply) (old now new : List Behaviour) (before between after : List ℕ)
    → i < length es → length rs ≡ length es → is_change (get_or rs i q) ≡ true
    → AreTold (notes_with number (take i es) (take i rs)) old now before between
    → AreTold ((record { mirror = number; event = get_or es i d; reply = get_or rs i q }) ∷ []) now new between after
    → AreTold (notes_with number (take (i + 1) es) (take (i + 1) rs)) old new before after
told_with-changed number es rs i d q old now new before between after below same changed first second =
    told_with-more number es rs i d q ((record { mirror = number; event = get_or es i d; reply = get_or rs i q }) ∷ []) old now new before between after below same (rw changed refl) first second

-- ---- a mirror that came from one state to another

-- nothing happened
pub told-nothing : {W : Type 0} (number : ℕ) (s : MirrorState W) (ws : List Behaviour) (out : List ℕ) → IsToldOn number s s ws ws out out
told-nothing number s ws out = record { notes = []; more = sym (append-nil (notes_of number s)); told = AreTold-none ws out }

-- events were made together, and those that changed the mirror were told
pub told-together :
    {W : Type 0} (number : ℕ) (s t : MirrorState W) (es : List Event) (rs : List Reply) (old new : List Behaviour) (before after : List ℕ)
    → IsReached s → t ≡ after_events s es → rs ≡ answers s es → AreTold (notes_with number es rs) old new before after
    → IsToldOn number s t old new before after
told-together {W} number s t es rs old new before after here made answered told = record {
  notes = notes_with number es rs;
  more =
      ap (λ (u : MirrorState W). notes_of number u) made ∙ notes-more number es s here
      ∙ ap (λ (qs : List Reply). notes_of number s ++ notes_with number es qs) (sym answered);
  told = told;
}

-- some were told, and then others
pub told-more :
    {W : Type 0} (number : ℕ) (s t u : MirrorState W) (old now new : List Behaviour) (before between after : List ℕ)
    → IsToldOn number s t old now before between → IsToldOn number t u now new between after → IsToldOn number s u old new before after
told-more number s t u old now new before between after first second = record {
  notes = first.notes ++ second.notes;
  more =
      second.more ∙ ap (λ (ns : List Note). ns ++ second.notes) first.more
      ∙ append_assoc (notes_of number s) first.notes second.notes;
  told = AreTold-more first.notes second.notes old now new before between after first.told second.told;
}

-- ---- the lines of a script that name a mirror

pub after_lines-append :
    {W : Type 0} (commands : List Command) (ls rest : List ScriptLine) (s : MirrorState W)
    → after_lines commands (ls ++ rest) s ≡ after_lines commands rest (after_lines commands ls s)
unfolding after_lines
after_lines-append commands [] rest s = refl
after_lines-append commands (l ∷ ls) rest s = after_lines-append commands ls rest (after_line commands l s)

one-named : (number : ℕ) (l : ScriptLine) → names number l ≡ true → filter (names number) (l ∷ []) ≡ l ∷ []
one-named number l h = rw h refl

none-named : (number : ℕ) (l : ScriptLine) → names number l ≡ false → filter (names number) (l ∷ []) ≡ []
none-named number l h = rw h refl

-- how far the mirror of this number has come along a front of the script, and what watchers were told meanwhile
pub record IsToldTo {W : Type 0} (m : MatchData) (number : ℕ) (script : List ScriptLine) (i : ℕ)
    (begun s : MirrorState W) (old new : List Behaviour) (before after : List ℕ) : Type 0 where
  pub all : script ≡ m.script
  pub opening : W
  pub way : OnWay m opening number (drop i script) s
  pub state : s ≡ after_lines m.commands (filter (names number) (take i script)) begun
  pub told : IsToldOn number begun s old new before after

-- before the first line
pub told_to-none :
    {W : Type 0} (m : MatchData) (number : ℕ) (script : List ScriptLine) (s : MirrorState W) (ws : List Behaviour) (out : List ℕ) → script ≡ m.script
    → (opening : W) × (s ≡ opening_mirror opening m number) → IsToldTo m number script 0 s s ws ws out out
unfolding after_events after_lines times
told_to-none {W} m number script s ws out all begun = record {
  all = all;
  opening = begun.0;
  way = record {
    es = [];
    reached = begun.1;
    named = tt;
    arrivals = (let same = ap (λ (ls : List ScriptLine). times (arrives_at number) ls) all in omega arith);
    restaggers = (let same = ap (λ (ls : List ScriptLine). times (restaggers_at number) ls) all in omega arith);
  };
  state = refl;
  told = told-nothing number s ws out;
}

-- what the next line finds, where it names the mirror
pub record IsOwnLine {W : Type 0} (m : MatchData) (l : ScriptLine) (s : MirrorState W) : Type 0 where
  pub line : IsScriptLine m l
  pub fits : AllByRecursion (Fits s) (events_of m.commands (length s.runs) l)
  pub room : HasRoomAlong s (events_of m.commands (length s.runs) l)

-- a line of the script is one of the match
script-line : (m : MatchData) (script : List ScriptLine) (i : ℕ) (d : ScriptLine) → IsMatch m → script ≡ m.script → i < length script → IsScriptLine m (get_or script i d)
script-line m script i d sound all below =
    subst (λ (ls : List ScriptLine). IsScriptLine m (get_or ls i d)) (sym all)
    (All-get_or (IsScriptLine m) m.script i d (subst (λ (ls : List ScriptLine). i < length ls) all below) (All-from_recursion (IsScriptLine m) m.script sound.script))

-- the way of the mirror that the next line names
own-way :
    {W : Type 0} (m : MatchData) (opening : W) (number : ℕ) (script : List ScriptLine) (i : ℕ) (s : MirrorState W) (d : ScriptLine)
    → i < length script → names number (get_or script i d) ≡ true → OnWay m opening number (drop i script) s
    → OnWay m opening (mirror_of (get_or script i d)) (get_or script i d ∷ drop (i + 1) script) s
own-way {W} m opening number script i s d below named way =
    subst (λ (n : ℕ). OnWay m opening n (get_or script i d ∷ drop (i + 1) script) s) (sym (eqb-true (mirror_of (get_or script i d)) number named))
    (subst (λ (ls : List ScriptLine). OnWay m opening number ls s) (drop_more script i d below) way)

pub own-line :
    {W : Type 0} (m : MatchData) (number : ℕ) (script : List ScriptLine) (i : ℕ) (begun s : MirrorState W) (old new : List Behaviour) (before after : List ℕ) (d : ScriptLine)
    → IsMatch m → i < length script → names number (get_or script i d) ≡ true → IsToldTo m number script i begun s old new before after
    → IsOwnLine m (get_or script i d) s
own-line {W} m number script i begun s old new before after d sound below named told =
    let l = get_or script i d in
    let here = script-line m script i d sound told.all below in
    let way = own-way m told.opening number script i s d below named told.way in
    record {
      line = here;
      fits = line-fits m told.opening l (drop (i + 1) script) s sound here way;
      room = line-room m told.opening l (drop (i + 1) script) s way;
    }

-- a line that names the mirror
pub told_to-own :
    {W : Type 0} (m : MatchData) (number : ℕ) (script : List ScriptLine) (i : ℕ) (begun s t : MirrorState W) (old now new : List Behaviour) (before between after : List ℕ) (d : ScriptLine)
    → IsMatch m → i < length script → names number (get_or script i d) ≡ true → IsToldTo m number script i begun s old now before between
    → t ≡ after_line m.commands (get_or script i d) s → IsToldOn number s t now new between after
    → IsToldTo m number script (i + 1) begun t old new before after
unfolding after_lines
told_to-own {W} m number script i begun s t old now new before between after d sound below named told made more =
    let l = get_or script i d in
    let here = script-line m script i d sound told.all below in
    let way = own-way m told.opening number script i s d below named told.way in
    let on = way-line m told.opening l (drop (i + 1) script) s here way in
    let lines : filter (names number) (take (i + 1) script) ≡ filter (names number) (take i script) ++ l ∷ [] =
    ap (filter (names number)) (take_at_read script i d below).1 ∙ filter-append (names number) (take i script) (l ∷ [])
    ∙ ap (λ (ls : List ScriptLine). filter (names number) (take i script) ++ ls) (one-named number l named) in
    record {
      all = told.all;
      opening = told.opening;
      way = subst (λ (v : MirrorState W). OnWay m told.opening number (drop (i + 1) script) v) (sym made)
          (subst (λ (n : ℕ). OnWay m told.opening n (drop (i + 1) script) (after_line m.commands l s)) (eqb-true (mirror_of l) number named) on);
      state =
          made ∙ ap (after_line m.commands l) told.state
          ∙ sym (after_lines-append m.commands (filter (names number) (take i script)) (l ∷ []) begun)
          ∙ ap (λ (ls : List ScriptLine). after_lines m.commands ls begun) (sym lines);
      told = told-more number begun s t old now new before between after told.told more;
    }

-- a line that names another
pub told_to-other :
    {W : Type 0} (m : MatchData) (number : ℕ) (script : List ScriptLine) (i : ℕ) (begun s : MirrorState W) (old new : List Behaviour) (before after : List ℕ) (d : ScriptLine)
    → i < length script → names number (get_or script i d) ≡ false → IsToldTo m number script i begun s old new before after
    → IsToldTo m number script (i + 1) begun s old new before after
told_to-other {W} m number script i begun s old new before after d below named told =
    let l = get_or script i d in
    let lines : filter (names number) (take (i + 1) script) ≡ filter (names number) (take i script) =
    ap (filter (names number)) (take_at_read script i d below).1 ∙ filter-append (names number) (take i script) (l ∷ [])
    ∙ ap (λ (ls : List ScriptLine). filter (names number) (take i script) ++ ls) (none-named number l named) ∙ append-nil (filter (names number) (take i script)) in
    record {
      all = told.all;
      opening = told.opening;
      way = way-other m told.opening number l (drop (i + 1) script) s
          (subst (λ (ls : List ScriptLine). OnWay m told.opening number ls s) (drop_more script i d below) told.way);
      state = told.state ∙ ap (λ (ls : List ScriptLine). after_lines m.commands ls begun) (sym lines);
      told = told.told;
    }

-- no line is left
pub told_to-all :
    {W : Type 0} (m : MatchData) (number : ℕ) (script : List ScriptLine) (i : ℕ) (begun s : MirrorState W) (old new : List Behaviour) (before after : List ℕ)
    → length script ≤ i → IsToldTo m number script i begun s old new before after
    → s ≡ after_lines m.commands (filter (names number) m.script) begun
told_to-all m number script i begun s old new before after past told =
    told.state ∙ ap (λ (ls : List ScriptLine). after_lines m.commands (filter (names number) ls) begun) (take_all i script past ∙ told.all)
