-- The script line by line: what was made of it so far, and what it printed.
use Rattle.std.proofs.Common.{◌≡◌, ℕ, ◌+◌, ◌≤◌, ◌<◌, List, [], ◌∷◌, ◌++◌, length, get_or, set, take, drop, refl, ap, sym, ◌∙◌, subst, append_assoc, take_all, arith}
use Rattle.std.specs.List.{AllByRecursion}
use Rattle.std.proofs.lemmas.Grind.{take_at_read}
use Rattle.std.proofs.lemmas.List.{append-nil, drop_more}
use Rattle.std.proofs.lemmas.List.Elements.{All-from_recursion, All-get_or}
use Rattle.game_trait.specs.declared.command.Command.{Command}
use Rattle.sync_model.specs.State.{MirrorState}
use Rattle.sync_model.specs.Change.{Fits}
use Rattle.sync_model.specs.History.{HasRoomAlong}
use Rattle.match_data.specs.Data.{MatchData, IsMatch, IsScriptLine}
use Rattle.match_data.specs.declared.script_line.ScriptLine.{ScriptLine}
use Rattle.match_hall.specs.Script.{mirror_of, events_of, after_line, changed_at, told_at, opening_mirrors, after_script}
use Rattle.match_hall.specs.Report.{Showing, line_text, script_text}
use Rattle.match_hall.specs.Stops.{IsStoppedScript}
use Rattle.match_hall.proofs.OnWay.{OnWay, AllOnWay, all-line, all-opening, line-mirror, line-fits, line-room, way-copies}
use Rattle.match_hall.proofs.Along.{changed_at-set, told_at-get}

-- ---- scripts one behind the other

pub after_script-append :
    {W : Type 0} (commands : List Command) (mirrors : List (MirrorState W)) (ls rest : List ScriptLine)
    → after_script commands mirrors (ls ++ rest) ≡ after_script commands (after_script commands mirrors ls) rest
unfolding after_script
after_script-append commands mirrors [] rest = refl
after_script-append commands mirrors (l ∷ ls) rest = after_script-append commands (changed_at (after_line commands l) (mirror_of l) mirrors) ls rest

pub script_text-append :
    {W : Type 0} (show : Showing W) (commands : List Command) (mirrors : List (MirrorState W)) (ls rest : List ScriptLine)
    → script_text show commands mirrors (ls ++ rest)
    ≡ script_text show commands mirrors ls ++ script_text show commands (after_script commands mirrors ls) rest
unfolding after_script script_text
script_text-append show commands mirrors [] rest = refl
script_text-append show commands mirrors (l ∷ ls) rest =
    let next = changed_at (after_line commands l) (mirror_of l) mirrors in
    let here = told_at (line_text show commands l) (mirror_of l) mirrors in
    ap (λ (text : List ℕ). here ++ text) (script_text-append show commands next ls rest)
    ∙ sym (append_assoc here (script_text show commands next ls) (script_text show commands (after_script commands next ls) rest))

-- ---- the lines that are made

-- the state and the text, where the first n lines are made
pub record IsMadeTo {W : Type 0} (show : Showing W) (m : MatchData) (script : List ScriptLine) (i : ℕ) (begun mirrors : List (MirrorState W)) (old out : List ℕ) : Type 0 where
  pub all : script ≡ m.script
  pub opening : W
  pub count : length begun ≡ m.mirrors
  pub way : AllOnWay m opening (drop i script) mirrors
  pub state : mirrors ≡ after_script m.commands begun (take i script)
  pub text : out ≡ old ++ script_text show m.commands begun (take i script)

-- what the next line finds: its mirror is there, and its events fit it and find room
pub record IsNext {W : Type 0} (m : MatchData) (l : ScriptLine) (mirrors : List (MirrorState W)) : Type 0 where
  pub line : IsScriptLine m l
  pub there : mirror_of l < length mirrors
  pub copies : (s : MirrorState W) → s ≡ get_or mirrors (mirror_of l) s → length s.runs ≡ length m.delays
  pub fits : (s : MirrorState W) → s ≡ get_or mirrors (mirror_of l) s → AllByRecursion (Fits s) (events_of m.commands (length s.runs) l)
  pub room : (s : MirrorState W) → s ≡ get_or mirrors (mirror_of l) s → HasRoomAlong s (events_of m.commands (length s.runs) l)

pub made-next :
    {W : Type 0} (show : Showing W) (m : MatchData) (script : List ScriptLine) (i : ℕ) (begun mirrors : List (MirrorState W)) (old out : List ℕ) (d : ScriptLine)
    → IsMatch m → i < length script → IsMadeTo show m script i begun mirrors old out → IsNext m (get_or script i d) mirrors
made-next {W} show m script i begun mirrors old out d sound below made =
    let l = get_or script i d in
    let way = subst (λ (ls : List ScriptLine). AllOnWay m made.opening ls mirrors) (drop_more script i d below) made.way in
    let here : IsScriptLine m l =
    subst (λ (ls : List ScriptLine). IsScriptLine m (get_or ls i d)) (sym made.all)
    (All-get_or (IsScriptLine m) m.script i d (subst (λ (ls : List ScriptLine). i < length ls) made.all below) (All-from_recursion (IsScriptLine m) m.script sound.script)) in
    let there : mirror_of l < length mirrors = (let in_match = line-mirror m l here in let count = way.count in omega arith) in
    let at : (s : MirrorState W) → s ≡ get_or mirrors (mirror_of l) s → OnWay m made.opening (mirror_of l) (l ∷ drop (i + 1) script) s =
    λ s is. subst (OnWay m made.opening (mirror_of l) (l ∷ drop (i + 1) script)) (sym is) (way.each (mirror_of l) s there) in
    record {
      line = here;
      there = there;
      copies = λ s is. way-copies m made.opening (mirror_of l) (l ∷ drop (i + 1) script) s (at s is);
      fits = λ s is. line-fits m made.opening l (drop (i + 1) script) s sound here (at s is);
      room = λ s is. line-room m made.opening l (drop (i + 1) script) s (at s is);
    }

-- the mirrors after one line more
made-state :
    {W : Type 0} (show : Showing W) (m : MatchData) (script : List ScriptLine) (i : ℕ) (begun mirrors : List (MirrorState W)) (old out : List ℕ) (d : ScriptLine)
    (s t : MirrorState W) → i < length script → IsMadeTo show m script i begun mirrors old out → IsNext m (get_or script i d) mirrors
    → s ≡ get_or mirrors (mirror_of (get_or script i d)) s → t ≡ after_line m.commands (get_or script i d) s
    → set mirrors (mirror_of (get_or script i d)) t ≡ after_script m.commands begun (take (i + 1) script)
unfolding after_script
made-state {W} show m script i begun mirrors old out d s t below made next is changed =
    let l = get_or script i d in
    let k = mirror_of l in
    ap (set mirrors k) (changed ∙ ap (after_line m.commands l) is)
    ∙ sym (changed_at-set (after_line m.commands l) k mirrors s next.there)
    ∙ ap (λ (ss : List (MirrorState W)). changed_at (after_line m.commands l) k ss) made.state
    ∙ sym (after_script-append m.commands begun (take i script) (l ∷ []))
    ∙ ap (after_script m.commands begun) (sym (take_at_read script i d below).1)

-- one line more
pub made-more :
    {W : Type 0} (show : Showing W) (m : MatchData) (script : List ScriptLine) (i : ℕ) (begun mirrors : List (MirrorState W)) (old out new : List ℕ) (d : ScriptLine)
    (s t : MirrorState W) → i < length script → IsMadeTo show m script i begun mirrors old out → IsNext m (get_or script i d) mirrors
    → s ≡ get_or mirrors (mirror_of (get_or script i d)) s → t ≡ after_line m.commands (get_or script i d) s
    → new ≡ out ++ line_text show m.commands (get_or script i d) s
    → IsMadeTo show m script (i + 1) begun (set mirrors (mirror_of (get_or script i d)) t) old new
unfolding script_text
made-more {W} show m script i begun mirrors old out new d s t below made next is changed put =
    let l = get_or script i d in
    let rest = drop (i + 1) script in
    let k = mirror_of l in
    let front = script_text show m.commands begun (take i script) in
    let here = line_text show m.commands l s in
    let told : told_at (line_text show m.commands l) k mirrors ≡ here =
    told_at-get (line_text show m.commands l) k mirrors s next.there ∙ ap (line_text show m.commands l) (sym is) in
    let way = subst (λ (ls : List ScriptLine). AllOnWay m made.opening ls mirrors) (drop_more script i d below) made.way in
    let one : script_text show m.commands mirrors (l ∷ []) ≡ here = append-nil (told_at (line_text show m.commands l) k mirrors) ∙ told in
    record {
      all = made.all;
      opening = made.opening;
      count = made.count;
      way = subst (λ (u : MirrorState W). AllOnWay m made.opening rest (set mirrors k u))
          (sym (changed ∙ ap (after_line m.commands l) is))
          (all-line m made.opening l rest mirrors s next.line next.there way);
      state = made-state show m script i begun mirrors old out d s t below made next is changed;
      text =
          put
          ∙ ap (λ (text : List ℕ). text ++ here) made.text
          ∙ append_assoc old front here
          ∙ ap (λ (text : List ℕ). old ++ (front ++ text)) (sym one ∙ ap (λ (ss : List (MirrorState W)). script_text show m.commands ss (l ∷ [])) made.state)
          ∙ ap (λ (text : List ℕ). old ++ text) (sym (script_text-append show m.commands begun (take i script) (l ∷ []))
          ∙ ap (script_text show m.commands begun) (sym (take_at_read script i d below).1));
    }

-- a line was made, and nothing was appended for it
pub made-stopped :
    {W : Type 0} (show : Showing W) (m : MatchData) (script : List ScriptLine) (i : ℕ) (begun mirrors : List (MirrorState W)) (old out new : List ℕ) (d : ScriptLine)
    (s t : MirrorState W) → i < length script → IsMadeTo show m script i begun mirrors old out → IsNext m (get_or script i d) mirrors
    → s ≡ get_or mirrors (mirror_of (get_or script i d)) s → t ≡ after_line m.commands (get_or script i d) s → new ≡ out
    → IsStoppedScript show m begun (set mirrors (mirror_of (get_or script i d)) t) old new
made-stopped {W} show m script i begun mirrors old out new d s t below made next is changed same =
    record {
      at = i;
      there = subst (λ (ls : List ScriptLine). i < length ls) made.all below;
      state = made-state show m script i begun mirrors old out d s t below made next is changed ∙ ap (λ (ls : List ScriptLine). after_script m.commands begun (take (i + 1) ls)) made.all;
      text = same ∙ made.text ∙ ap (λ (ls : List ScriptLine). old ++ script_text show m.commands begun (take i ls)) made.all;
    }

-- no line is left
pub made-all :
    {W : Type 0} (show : Showing W) (m : MatchData) (script : List ScriptLine) (i : ℕ) (begun mirrors : List (MirrorState W)) (old out : List ℕ)
    → length script ≤ i → IsMadeTo show m script i begun mirrors old out
    → (mirrors ≡ after_script m.commands begun m.script) × (out ≡ old ++ script_text show m.commands begun m.script)
made-all show m script i begun mirrors old out past made =
    let whole : take i script ≡ m.script = take_all i script past ∙ made.all in
    (made.state ∙ ap (after_script m.commands begun) whole, made.text ∙ ap (λ (ls : List ScriptLine). old ++ script_text show m.commands begun ls) whole)

-- there are as many mirrors as before
pub made-count :
    {W : Type 0} (show : Showing W) (m : MatchData) (script : List ScriptLine) (i : ℕ) (begun mirrors : List (MirrorState W)) (old out : List ℕ)
    → IsMadeTo show m script i begun mirrors old out → length mirrors ≡ length begun
made-count show m script i begun mirrors old out made = made.way.count ∙ sym made.count

-- no line is made yet
pub made-opening :
    {W : Type 0} (show : Showing W) (m : MatchData) (script : List ScriptLine) (mirrors : List (MirrorState W)) (out : List ℕ) → script ≡ m.script
    → (opening : W) × (mirrors ≡ opening_mirrors opening m)
    → IsMadeTo show m script 0 mirrors mirrors out out
unfolding after_script script_text
made-opening {W} show m script mirrors out all begun =
    let way : AllOnWay m begun.0 script mirrors = rw (begun.1, all) (all-opening m begun.0) in
    record {
      all = all;
      opening = begun.0;
      count = way.count;
      way = way;
      state = refl;
      text = sym (append-nil out);
    }
