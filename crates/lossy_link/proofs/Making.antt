-- Net lines that are made one after another.
use Rattle.std.proofs.Common.{◌≡◌, ℕ, ◌+◌, ◌<◌, ◌≤◌, List, [], ◌∷◌, ◌++◌, length, get_or, take, drop, replicate, refl, ap, sym, ◌∙◌, subst, append_assoc, append-nil, take_all}
use Rattle.std.specs.List.{AllByRecursion}
use Rattle.std.specs.Prelude.{Result, Ok, Err, OnOk}
use Rattle.std.proofs.lemmas.List.{take-append-drop}
use Rattle.std.proofs.lemmas.Grind.{take_at_read}
use Rattle.game_trait.specs.declared.command.Command.{Command}
use Rattle.game_trait.proofs.Lists.{all-at}
use Rattle.sync_model.specs.State.{MirrorState, opening_state}
use Rattle.match_data.specs.Data.{MatchData, IsMatch, all_plans}
use Rattle.match_data.specs.declared.script_line.ScriptLine.{ScriptLine}
use Rattle.match_hall.specs.Script.{mirror_of, changed_at, told_at, after_line, after_script}
use Rattle.match_hall.specs.Report.{Showing, line_text, script_text}
use Rattle.match_hall.specs.Stops.{IsFrontPut}
use Rattle.lossy_text.specs.declared.net_line.NetLine.{NetLine}
use Rattle.lossy_link.specs.Links.{NetLinks, new_links, next_links, script_of, note_text}
use Rattle.lossy_link.specs.Net.{NetState, net_mirror, opening_net, next_net, net_line_text, after_net, net_text}
use Rattle.lossy_link.specs.Way.{IsThere, IsNet}
use Rattle.lossy_link.proofs.NetLaws.{net-next}

-- ---- one line

pub made-script :
    {W : Type 0} (commands : List Command) (n : NetState W) (l : NetLine) (links : NetLinks) (ms : List (MirrorState W)) (s : ScriptLine)
    → links ≡ next_links commands n.links l → script_of commands n.links l ≡ s ∷ [] → ms ≡ changed_at (after_line commands s) (mirror_of s) n.mirrors
    → ◌≡◌ {A = NetState W} (record { links = links; mirrors = ms }) (next_net commands n l)
unfolding after_script
made-script {W} commands n l links ms s linked is made =
    ap (λ (k : NetLinks). record { links = k; mirrors = ms }) linked
    ∙ ap (λ (k : List (MirrorState W)). record { links = next_links commands n.links l; mirrors = k }) (made ∙ ap (after_script commands n.mirrors) (sym is))

pub made-note :
    {W : Type 0} (commands : List Command) (n : NetState W) (l : NetLine) (links : NetLinks)
    → links ≡ next_links commands n.links l → script_of commands n.links l ≡ [] → ◌≡◌ {A = NetState W} (record { links = links; mirrors = n.mirrors }) (next_net commands n l)
unfolding after_script
made-note {W} commands n l links linked is =
    ap (λ (k : NetLinks). record { links = k; mirrors = n.mirrors }) linked
    ∙ ap (λ (k : List (MirrorState W)). record { links = next_links commands n.links l; mirrors = k }) (ap (after_script commands n.mirrors) (sym is))

pub text-script :
    {W : Type 0} (show : Showing W) (commands : List Command) (n : NetState W) (l : NetLine) (s : ScriptLine)
    → note_text n.links l ≡ [] → script_of commands n.links l ≡ s ∷ []
    → told_at (line_text show commands s) (mirror_of s) n.mirrors ≡ net_line_text show commands n l
unfolding script_text
text-script show commands n l s none is = rw (none, is) (sym (append-nil (told_at (line_text show commands s) (mirror_of s) n.mirrors)))

pub text-note :
    {W : Type 0} (show : Showing W) (commands : List Command) (n : NetState W) (l : NetLine) (note : List ℕ)
    → note ≡ note_text n.links l → script_of commands n.links l ≡ [] → note ≡ net_line_text show commands n l
unfolding script_text
text-note show commands n l note put is = rw is (put ∙ sym (append-nil (note_text n.links l)))

-- ---- line by line

pub after_net-append :
    {W : Type 0} (commands : List Command) (n : NetState W) (ls rest : List NetLine) → after_net commands n (ls ++ rest) ≡ after_net commands (after_net commands n ls) rest
unfolding after_net
after_net-append commands n [] rest = refl
after_net-append commands n (l ∷ ls) rest = after_net-append commands (next_net commands n l) ls rest

pub net_text-append :
    {W : Type 0} (show : Showing W) (commands : List Command) (n : NetState W) (ls rest : List NetLine)
    → net_text show commands n (ls ++ rest) ≡ net_text show commands n ls ++ net_text show commands (after_net commands n ls) rest
unfolding after_net net_text
net_text-append show commands n [] rest = refl
net_text-append show commands n (l ∷ ls) rest =
    ap (λ (text : List ℕ). net_line_text show commands n l ++ text) (net_text-append show commands (next_net commands n l) ls rest)
    ∙ sym (append_assoc (net_line_text show commands n l) (net_text show commands (next_net commands n l) ls) (net_text show commands (after_net commands (next_net commands n l) ls) rest))

-- the first n lines are made
pub record IsMadeTo {W : Type 0} (show : Showing W) (m : MatchData) (lines : List NetLine) (i : ℕ) (begun n : NetState W) (old out : List ℕ) : Type 0 where
  pub way : (opening : W) × IsNet m opening n
  pub state : n ≡ after_net m.commands begun (take i lines)
  pub text : out ≡ old ++ net_text show m.commands begun (take i lines)

pub made-none : {W : Type 0} (show : Showing W) (m : MatchData) (lines : List NetLine) (n : NetState W) (out : List ℕ) → (opening : W) × IsNet m opening n → IsMadeTo show m lines 0 n n out out
unfolding after_net net_text
made-none show m lines n out way = record { way = way; state = refl; text = sym (append-nil out) }

pub made-more :
    {W : Type 0} (show : Showing W) (m : MatchData) (lines : List NetLine) (i : ℕ) (begun n next : NetState W) (old out new : List ℕ) (d : NetLine) → IsMatch m
    → AllByRecursion (IsThere m.mirrors) lines → i < length lines → IsMadeTo show m lines i begun n old out
    → next ≡ next_net m.commands n (get_or lines i d) → new ≡ out ++ net_line_text show m.commands n (get_or lines i d)
    → IsMadeTo show m lines (i + 1) begun next old new
unfolding after_net net_text
made-more {W} show m lines i begun n next old out new d sound there below made is put =
    let l = get_or lines i d in
    let split : take (i + 1) lines ≡ take i lines ++ l ∷ [] = (take_at_read lines i d below).1 in
    record {
      way = (made.way.0, subst (IsNet m made.way.0) (sym is) (net-next m made.way.0 n l sound (all-at (IsThere m.mirrors) lines i d there below) made.way.1));
      state = is ∙ ap (λ (k : NetState W). next_net m.commands k l) made.state ∙ sym (after_net-append m.commands begun (take i lines) (l ∷ [])) ∙ ap (after_net m.commands begun) (sym split);
      text =
          put ∙ ap (λ (text : List ℕ). text ++ net_line_text show m.commands n l) made.text
          ∙ append_assoc old (net_text show m.commands begun (take i lines)) (net_line_text show m.commands n l)
          ∙ ap (λ (text : List ℕ). old ++ (net_text show m.commands begun (take i lines) ++ text))
          (ap (λ (k : NetState W). net_line_text show m.commands k l) made.state ∙ sym (append-nil (net_line_text show m.commands (after_net m.commands begun (take i lines)) l)))
          ∙ ap (λ (text : List ℕ). old ++ text) (sym (net_text-append show m.commands begun (take i lines) (l ∷ [])) ∙ ap (net_text show m.commands begun) (sym split));
    }

pub made-all :
    {W : Type 0} (show : Showing W) (m : MatchData) (lines : List NetLine) (i : ℕ) (begun n : NetState W) (old out : List ℕ) → length lines ≤ i → IsMadeTo show m lines i begun n old out
    → (n ≡ after_net m.commands begun lines) × (out ≡ old ++ net_text show m.commands begun lines)
made-all show m lines i begun n old out past made =
    let whole = take_all i lines past in
    (made.state ∙ ap (after_net m.commands begun) whole, made.text ∙ ap (λ (ls : List NetLine). old ++ net_text show m.commands begun ls) whole)

pub made-front :
    {W : Type 0} (show : Showing W) (m : MatchData) (lines : List NetLine) (i : ℕ) (begun n : NetState W) (old out new : List ℕ) → IsMadeTo show m lines i begun n old out → new ≡ out
    → IsFrontPut old new (net_text show m.commands begun lines)
made-front show m lines i begun n old out new made same =
    record {
      gained = net_text show m.commands begun (take i lines);
      rest = net_text show m.commands (after_net m.commands begun (take i lines)) (drop i lines);
      put = same ∙ made.text;
      whole = ap (net_text show m.commands begun) (sym (take-append-drop i lines)) ∙ net_text-append show m.commands begun (take i lines) (drop i lines);
    }

-- what holds anyway holds where all went well
pub on_ok_of : {T E P : Type 0} (r : Result T E) → P → OnOk r P
on_ok_of (Ok x) p = p
on_ok_of (Err e) p = tt

-- ---- the start

pub opened :
    {W : Type 0} (m : MatchData) (opening : W) (room : ℕ) (links : NetLinks) (ms : List (MirrorState W)) → room ≡ length m.commands
    → links ≡ new_links m.mirrors m.commands → ms ≡ replicate m.mirrors (opening_state opening m.length (all_plans m) room 0)
    → ◌≡◌ {A = NetState W} (record { links = links; mirrors = ms }) (opening_net opening m)
unfolding net_mirror
opened {W} m opening room links ms size linked made =
    ap (λ (k : NetLinks). record { links = k; mirrors = ms }) linked
    ∙ ap (λ (k : List (MirrorState W)). record { links = new_links m.mirrors m.commands; mirrors = k })
    (made ∙ ap (λ (j : ℕ). replicate m.mirrors (opening_state opening m.length (all_plans m) j 0)) size)
