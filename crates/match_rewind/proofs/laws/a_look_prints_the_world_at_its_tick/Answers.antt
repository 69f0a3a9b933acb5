use Rattle.std.proofs.Common.{◌≡◌, ℕ, List, [], ◌∷◌, ◌++◌, refl, sym, ap, ◌∙◌, append_assoc}
use Rattle.std.proofs.lemmas.List.{append-nil}
use Rattle.game_trait.specs.declared.command.Command.{Command}
use Rattle.game_trait.specs.Ordered.{time_ordered}
use Rattle.match_data.specs.Data.{MatchData}
use Rattle.report_text.specs.Ends.{done_line}
use Rattle.report_text.specs.Hits.{hits_line}
use Rattle.report_text.specs.Worlds.{Showing, block_text, at_head}
use Rattle.rewind_store.specs.Rewound.{hits_of}
use Rattle.match_rewind.specs.Rewind.{looks_text, rewind_text}
use Rattle.match_rewind.proofs.laws.a_look_prints_the_world_at_its_tick.Goals as goal

one : {W : Type 0} (show : Showing W) (opening : W) (m : MatchData) (room tick : ℕ)
    → rewind_text show opening m room (tick ∷ []) ≡ block_text show.lines show.names (at_head tick) (time_ordered show.rules opening m.commands tick) ++ (hits_line 0 ++ done_line)
unfolding rewind_text looks_text hits_of
one show opening m room tick =
    ap (λ (t : List ℕ). t ++ (hits_line (hits_of room [] (tick ∷ [])) ++ done_line)) (append-nil _)

more : {W : Type 0} (show : Showing W) (opening : W) (commands : List Command) (ts us : List ℕ)
    → looks_text show opening commands (ts ++ us) ≡ looks_text show opening commands ts
    ++ looks_text show opening commands us
unfolding looks_text
more show opening commands [] us = refl
more show opening commands (t ∷ ts) us =
    ap (λ (l : List ℕ). block_text show.lines show.names (at_head t) (time_ordered show.rules opening commands t) ++ l) (more show opening commands ts us)
    ∙ sym (append_assoc (block_text show.lines show.names (at_head t) (time_ordered show.rules opening commands t)) (looks_text show opening commands ts) (looks_text show opening commands us))

all : {W : Type 0} (show : Showing W) (opening : W) (m : MatchData) (room : ℕ) (ticks : List ℕ)
    → rewind_text show opening m room ticks ≡ looks_text show opening m.commands ticks ++ (hits_line (hits_of room [] ticks) ++ done_line)
unfolding rewind_text
all show opening m room ticks = refl

pub returns : goal.returns
returns g c = record { one = λ show opening m room tick. one show opening m room tick; all = λ show opening m room ticks. all show opening m room ticks; more = λ show opening commands ts us. more show opening commands ts us }
