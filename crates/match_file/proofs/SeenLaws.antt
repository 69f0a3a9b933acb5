-- Lines that are seen at once, and that they are taken as ever.
use Rattle.std.proofs.Common.{◌≡◌, ℕ, ◌-◌, ◌<◌, ◌≤◌, true, false, Bool, ltb, ◌&&◌, List, [], ◌∷◌, ◌++◌, length, Ok, refl, ap, length-append, append_assoc, arith}
use Rattle.std.specs.Prelude.{decimal}
use Rattle.std.specs.Prelude.{codes}
use Rattle.game_trait.specs.declared.command.Command.{Command}
use Rattle.game_trait.specs.declared.limits.TheConstants.{GREATEST_NUMBER}
use Rattle.game_trait.specs.CommandList.{has_command}
use Rattle.command_lines.specs.CommandLine.{CommandFits, act_word, command_line}
use Rattle.tss_io.specs.Lines.{as_line, spaced, lines_of}
use Rattle.tss_io.specs.Kinds.{Kind, Sound, step, line_words}
use Rattle.tss_io.specs.Machines.{take_words}
use Rattle.tss_io.specs.Runs.{line_step}
use Rattle.tss_io.proofs.Results.{then}
use Rattle.tss_io.proofs.Spaced.{Lacks, Lacks-spaced, lines_of-line}
use Rattle.tss_io.proofs.KindLaws.{ExactKind, line_text, line_again}
use Rattle.match_file.specs.declared.body.Body.{Body}
use Rattle.match_file.specs.declared.body.Stage.{Stage}
use Rattle.match_file.specs.declared.body.Stage.TheVariants.{Open, InScript, Ended}
use Rattle.match_file.specs.declared.opening.Opening.{Opening}
use Rattle.match_data.specs.declared.script_line.ScriptLine.TheVariants.{Turn, Arrive}
use Rattle.match_data.specs.Data.{most_commands}
use Rattle.match_file.specs.Kinds.{is_open, is_script, is_ended, has_room, ranges_of}
use Rattle.match_file.specs.Reading.{body_entries, body_table, may_open, take, is_last}
use Rattle.match_file.specs.Sections.{IsOpening}
use Rattle.match_file.specs.Text.{script_line}
use Rattle.match_file.proofs.BodyLaws.{kind_again}
use Rattle.match_file.proofs.ExactKinds.{arrive_exact, turn_exact, command_exact}
use Rattle.match_file.proofs.OpeningLaws.{opening_small}

-- ---- lines as their words

-- a word, and more of the line
more_words : (word next : List ℕ) (words : List (List ℕ)) (rest : List ℕ) → as_line (spaced (word ∷ next ∷ words)) ++ rest ≡ word ++ 32 ∷ (as_line (spaced (next ∷ words)) ++ rest)
unfolding spaced
more_words word next words rest = simp append_assoc refl

-- the last word
last_word : (word rest : List ℕ) → as_line (spaced (word ∷ [])) ++ rest ≡ word ++ 10 ∷ rest
unfolding spaced
last_word word rest = simp append_assoc refl

-- an arrival's line, by its parts
pub arrival_stands : (text front mirror from rest : List ℕ) (m f n : ℕ) → text ≡ codes "arrive " ++ front → front ≡ decimal m ++ 32 ∷ mirror → mirror ≡ decimal f ++ 32 ∷ from
    → from ≡ decimal n ++ 10 ∷ rest → text ≡ as_line (script_line (Arrive m f n)) ++ rest
arrival_stands text front mirror from rest m f n e0 e1 e2 e3 =
    rw (
      e0,
      e1,
      e2,
      e3,
      more_words (codes "arrive") (decimal m) (decimal f ∷ decimal n ∷ []) rest,
      more_words (decimal m) (decimal f) (decimal n ∷ []) rest,
      more_words (decimal f) (decimal n) [] rest,
      last_word (decimal n) rest,
    ) refl

pub turn_stands : (text front rest : List ℕ) (m : ℕ) → text ≡ codes "turn " ++ front → front ≡ decimal m ++ 10 ∷ rest → text ≡ as_line (script_line (Turn m)) ++ rest
turn_stands text front rest m e0 e1 = rw (e0, e1, more_words (codes "turn") (decimal m) [] rest, last_word (decimal m) rest) refl

pub command_stands : (text front time from number player rest : List ℕ) (c : Command) → text ≡ codes "cmd " ++ front → front ≡ decimal c.time ++ 32 ∷ time → time ≡ decimal c.from ++ 32 ∷ from
    → from ≡ decimal c.number ++ 32 ∷ number → number ≡ decimal c.player ++ 32 ∷ player → player ≡ as_line (act_word c.act) ++ rest → text ≡ as_line (command_line c) ++ rest
unfolding spaced
command_stands text front time from number player rest c e0 e1 e2 e3 e4 e5 =
    rw (
      e0,
      e1,
      e2,
      e3,
      e4,
      e5,
      more_words (codes "cmd") (decimal c.time) (decimal c.from ∷ decimal c.number ∷ decimal c.player ∷ act_word c.act ∷ []) rest,
      more_words (decimal c.time) (decimal c.from) (decimal c.number ∷ decimal c.player ∷ act_word c.act ∷ []) rest,
      more_words (decimal c.from) (decimal c.number) (decimal c.player ∷ act_word c.act ∷ []) rest,
      more_words (decimal c.number) (decimal c.player) (act_word c.act ∷ []) rest,
      more_words (decimal c.player) (act_word c.act) [] rest,
    ) refl

-- ---- a line that is seen at once is taken

seen : {R A : Type 0} {k : Kind Body R A Body} {Fits : Body → A → Type 0} (o : Opening) → ExactKind k Fits
    → (b : Body) (a : A) → Sound k Fits b a → take_words (body_table o).entries b k.keyword ((k.form b).words a)
    ≡ step k b ((k.form b).words a)
    → is_last b ≡ false → (text rest : List ℕ) → text ≡ as_line (line_text k b a) ++ rest
    → (line_step (take o) b (lines_of text) ≡ Ok (k.put b a, lines_of rest)) × (length rest < length text)
unfolding line_step
seen {k = k} o x b a h led going text rest e =
    let l : List ℕ = line_text k b a in
    let g = kind_again o x b a h led going in
    let lacks : Lacks 10 l = Lacks-spaced (line_words k b a) (x.keyword, (x.form b).fit a h.fits) in (
      rw (e, lines_of-line l rest lacks) (then _ _ _ _ (line_again l (lines_of rest) g.1) (then _ _ _ _ g.2 refl)),
      omega (arith, ap length e, length-append (as_line l) rest, length-append l (10 ∷ [])),
    )

script_on : (stage : Stage) → is_script stage ≡ true → is_ended stage ≡ false
script_on Open h = absurd cc
script_on InScript h = refl
script_on Ended h = absurd cc

open_on : (stage : Stage) (some : Bool) → (is_open stage && some) ≡ true → is_ended stage ≡ false
open_on Open some h = refl
open_on InScript some h = absurd cc
open_on Ended some h = absurd cc

pub arrival_taken : (o : Opening) (b : Body) (m f n : ℕ) (text rest : List ℕ) → IsOpening o → text ≡ as_line (script_line (Arrive m f n)) ++ rest
    → m ≤ o.mirrors - 1 → f ≤ o.mirrors - 1 → n ≤ GREATEST_NUMBER → is_script b.stage ≡ true → has_room b.script ≡ true → has_command b.commands f n ≡ true
    → (line_step (take o) b (lines_of text) ≡ Ok (record b { script = b.script ++ Arrive m f n ∷ [] }, lines_of rest)) × (length rest < length text)
unfolding take_words body_entries
arrival_taken o b m f n text rest is e mirror from number stands room named =
    seen o (arrive_exact o (opening_small o is)) b (m, (f, n))
    (record { stands = stands; fits = ((omega arith, mirror), ((omega arith, from), (omega arith, number))); room = room; tests = (named, tt) }) refl (script_on b.stage stands) text rest e

pub turn_taken : (o : Opening) (b : Body) (m : ℕ) (text rest : List ℕ) → IsOpening o → text ≡ as_line (script_line (Turn m)) ++ rest
    → m ≤ o.mirrors - 1 → is_script b.stage ≡ true → has_room b.script ≡ true
    → (line_step (take o) b (lines_of text) ≡ Ok (record b { script = b.script ++ Turn m ∷ [] }, lines_of rest)) × (length rest < length text)
unfolding take_words body_entries
turn_taken o b m text rest is e mirror stands room =
    seen o (turn_exact o (opening_small o is)) b m (record { stands = stands; fits = (omega arith, mirror); room = room; tests = tt }) refl (script_on b.stage stands) text rest e

pub command_taken : (o : Opening) (b : Body) (c : Command) (text rest : List ℕ) → IsOpening o → text ≡ as_line (command_line c) ++ rest
    → CommandFits o.version (ranges_of o) c → may_open b ≡ true → ltb (length b.commands) (most_commands o.version) ≡ true → ltb c.player (length b.players) ≡ true
    → has_command b.commands c.from c.number ≡ false
    → (line_step (take o) b (lines_of text) ≡ Ok (record b { commands = b.commands ++ c ∷ [] }, lines_of rest)) × (length rest < length text)
unfolding take_words body_entries
command_taken o b c text rest is e fits stands room player new =
    seen o (command_exact o (opening_small o is)) b c
    (record { stands = stands; fits = fits; room = room; tests = (player, (rw new refl, tt)) }) refl (open_on b.stage _ stands) text rest e
