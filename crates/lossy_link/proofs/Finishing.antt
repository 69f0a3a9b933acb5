-- How a net ends: the lines that are left are made, its mirrors are drained and shown, and `done` is put.
use Rattle.std.proofs.Common.{◌≡◌, ℕ, List, [], ◌++◌, map, ap, sym, ◌∙◌, subst, append_assoc}
use Rattle.game_trait.specs.Game.{Rules}
use Rattle.sync_model.specs.State.{MirrorState}
use Rattle.sync_model.specs.Turns.{drain}
use Rattle.report_text.specs.Ends.{done_line}
use Rattle.match_data.specs.Data.{MatchData}
use Rattle.match_hall.specs.Report.{Showing, drains_text, mirrors_text}
use Rattle.match_hall.specs.Stops.{IsFrontPut, IsStoppedDraining}
use Rattle.match_hall.proofs.Fronts.{front-none, front-first, front-second}
use Rattle.match_hall.proofs.StoppedDrain.{draining-front}
use Rattle.lossy_text.specs.declared.net_line.NetLine.{NetLine}
use Rattle.lossy_text.specs.Data.{LossyData, IsLossy}
use Rattle.lossy_link.specs.Net.{NetState, net_mirror, after_net, net_text, made_net, HasEach}
use Rattle.lossy_link.specs.Finish.{rows_lines, closed_net, end_text, ended_net, IsEndedNet}
use Rattle.lossy_link.specs.Way.{IsNet}
use Rattle.lossy_link.proofs.Ended.{made-way, net-ended, end-each}

-- the net that was made of a match is one of it
pub made-net : {W : Type 0} (opening : W) (x y : LossyData) (n : NetState W) → x ≡ y → IsLossy x → n ≡ made_net opening y → IsNet x.game opening n
made-net opening x y n same sound made =
    subst (IsNet x.game opening) (sym (made ∙ ap (λ (z : LossyData). made_net opening z) (sym same))) (made-way x opening sound)

-- the lines that are left, put behind none
pub left-lines :
    {W : Type 0} (n k : NetState W) (none lines slice : List NetLine) → k ≡ n → none ≡ [] → lines ≡ none ++ rows_lines 0 k.links.rows → slice ≡ lines
    → slice ≡ rows_lines 0 n.links.rows
left-lines n k none lines slice same empty put is =
    is ∙ put ∙ ap (λ (ls : List NetLine). ls ++ rows_lines 0 k.links.rows) empty ∙ ap (λ (s : NetState _). rows_lines 0 s.links.rows) same

-- ---- step by step

-- what is left was made
pub record IsClosed {W : Type 0} (show : Showing W) (m : MatchData) (n k : NetState W) (old out : List ℕ) : Type 0 where
  pub state : k ≡ closed_net m.commands n
  pub text : out ≡ old ++ net_text show m.commands n (rows_lines 0 n.links.rows)

pub closed :
    {W : Type 0} (show : Showing W) (m : MatchData) (n k : NetState W) (lines : List NetLine) (old out : List ℕ) → lines ≡ rows_lines 0 n.links.rows
    → k ≡ after_net m.commands n lines → out ≡ old ++ net_text show m.commands n lines → IsClosed show m n k old out
closed show m n k lines old out left made put = record {
  state = made ∙ ap (λ (ls : List NetLine). after_net m.commands n ls) left;
  text = put ∙ ap (λ (ls : List NetLine). old ++ net_text show m.commands n ls) left;
}

-- and the mirrors were drained
pub record AreDrained {W : Type 0} (m : MatchData) (n : NetState W) (mirrors : List (MirrorState W)) (old out : List ℕ) : Type 0 where
  pub state : mirrors ≡ (ended_net m.commands n).mirrors
  pub text : out ≡ old ++ drains_text 0 (closed_net m.commands n).mirrors

pub drained :
    {W : Type 0} (show : Showing W) (m : MatchData) (n k : NetState W) (mirrors : List (MirrorState W)) (old mid out : List ℕ) → IsClosed show m n k old mid
    → mirrors ≡ map (λ s. drain s) k.mirrors → out ≡ mid ++ drains_text 0 k.mirrors → AreDrained m n mirrors mid out
drained show m n k mirrors old mid out h made put = record {
  state = made ∙ ap (λ (s : NetState _). map (λ t. drain t) s.mirrors) h.state;
  text = put ∙ ap (λ (s : NetState _). mid ++ drains_text 0 s.mirrors) h.state;
}

-- and shown, under the names of the match
pub shown :
    {W : Type 0} (show : Showing W) (m g : MatchData) (n : NetState W) (mirrors : List (MirrorState W)) (old out : List ℕ) → g ≡ m → AreDrained m n mirrors old out
    → mirrors_text (record show { names = g.names }) 0 mirrors ≡ mirrors_text (record show { names = m.names }) 0 (ended_net m.commands n).mirrors
shown show m g n mirrors old out same h =
    ap (λ (ss : List (MirrorState _)). mirrors_text (record show { names = g.names }) 0 ss) h.state
    ∙ ap (λ (y : MatchData). mirrors_text (record show { names = y.names }) 0 (ended_net m.commands n).mirrors) same

-- ---- where memory ran out

-- what ending prints of a match over its net
abbrev pub due : {W : Type 0} → Showing W → LossyData → NetState W → List ℕ
due show x n = end_text (record show { names = x.game.names }) x.game.commands n

-- a front of it at a match that is the same
front-same : {W : Type 0} (show : Showing W) (x y : LossyData) (n : NetState W) (old out : List ℕ) → x ≡ y → IsFrontPut old out (due show x n) → IsFrontPut old out (due show y n)
front-same show x y n old out same h = subst (λ (z : LossyData). IsFrontPut old out (due show z n)) same h

-- at a line that was left
pub front-left :
    {W : Type 0} (show : Showing W) (x y : LossyData) (n : NetState W) (lines : List NetLine) (old out : List ℕ) → x ≡ y → lines ≡ rows_lines 0 n.links.rows
    → IsFrontPut old out (net_text (record show { names = x.game.names }) x.game.commands n lines) → IsFrontPut old out (due show y n)
front-left show x y n lines old out same left h =
    front-same show x y n old out same
    (front-first old out _ _ (subst (λ (ls : List NetLine). IsFrontPut old out (net_text (record show { names = x.game.names }) x.game.commands n ls)) left h))

-- at a turn of draining
pub front-drained :
    {W : Type 0} (show : Showing W) (opening : W) (x y : LossyData) (n k : NetState W) (mirrors : List (MirrorState W)) (old mid out : List ℕ) → x ≡ y
    → IsClosed (record show { names = x.game.names }) x.game n k old mid → IsStoppedDraining k.mirrors mirrors mid out → IsFrontPut old out (due show y n)
front-drained show opening x y n k mirrors old mid out same h stopped =
    front-same show x y n old out same
    (front-second old mid out _ _ h.text
    (front-first mid out _ _
    (subst (λ (s : NetState _). IsFrontPut mid out (drains_text 0 s.mirrors)) h.state (draining-front k.mirrors mirrors mid out (net_mirror opening x.game) stopped))))

-- at a mirror that is shown
pub front-shown :
    {W : Type 0} (show : Showing W) (x y : LossyData) (g : MatchData) (n k : NetState W) (mirrors : List (MirrorState W)) (old mid end out : List ℕ) → x ≡ y → g ≡ x.game
    → IsClosed (record show { names = x.game.names }) x.game n k old mid → AreDrained x.game n mirrors mid end
    → IsFrontPut end out (mirrors_text (record show { names = g.names }) 0 mirrors) → IsFrontPut old out (due show y n)
front-shown show x y g n k mirrors old mid end out same match h d front =
    front-same show x y n old out same
    (front-second old mid out _ _ h.text
    (front-second mid end out _ _ d.text
    (front-first end out _ _ (subst (λ (l : List ℕ). IsFrontPut end out l) (shown show x.game g n mirrors mid end match d) front))))

-- at the last line
pub front-last :
    {W : Type 0} (show : Showing W) (x y : LossyData) (g : MatchData) (n k : NetState W) (mirrors : List (MirrorState W)) (old mid end last out : List ℕ) → x ≡ y → g ≡ x.game
    → IsClosed (record show { names = x.game.names }) x.game n k old mid → AreDrained x.game n mirrors mid end
    → last ≡ end ++ mirrors_text (record show { names = g.names }) 0 mirrors → out ≡ last → IsFrontPut old out (due show y n)
front-last show x y g n k mirrors old mid end last out same match h d put unchanged =
    front-same show x y n old out same
    (front-second old mid out _ _ h.text
    (front-second mid end out _ _ d.text
    (front-second end last out _ _ (put ∙ ap (λ (l : List ℕ). end ++ l) (shown show x.game g n mirrors mid end match d)) (front-none last out done_line unchanged))))

-- ---- the end

pub whole-text :
    {W : Type 0} (show : Showing W) (x y : LossyData) (g : MatchData) (n k : NetState W) (mirrors : List (MirrorState W)) (old mid end last out : List ℕ) → x ≡ y → g ≡ x.game
    → IsClosed (record show { names = x.game.names }) x.game n k old mid → AreDrained x.game n mirrors mid end
    → last ≡ end ++ mirrors_text (record show { names = g.names }) 0 mirrors → out ≡ last ++ done_line → out ≡ old ++ due show y n
whole-text show x y g n k mirrors old mid end last out same match h d put done =
    let lost = net_text (record show { names = x.game.names }) x.game.commands n (rows_lines 0 n.links.rows) in
    let drains = drains_text 0 (closed_net x.game.commands n).mirrors in
    let texts = mirrors_text (record show { names = x.game.names }) 0 (ended_net x.game.commands n).mirrors in
    done ∙ ap (λ (l : List ℕ). l ++ done_line) (put ∙ ap (λ (l : List ℕ). end ++ l) (shown show x.game g n mirrors mid end match d)) ∙ append_assoc end texts done_line
    ∙ ap (λ (l : List ℕ). l ++ (texts ++ done_line)) d.text ∙ append_assoc mid drains (texts ++ done_line)
    ∙ ap (λ (l : List ℕ). l ++ (drains ++ (texts ++ done_line))) h.text ∙ append_assoc old lost (drains ++ (texts ++ done_line))
    ∙ ap (λ (z : LossyData). old ++ due show z n) same

pub ended :
    {W : Type 0} (show : Showing W) (x y : LossyData) (n k : NetState W) (mirrors : List (MirrorState W)) (old mid out : List ℕ) → x ≡ y
    → IsClosed show x.game n k old mid → AreDrained x.game n mirrors mid out → record k { mirrors = mirrors } ≡ ended_net y.game.commands n
ended show x y n k mirrors old mid out same h d =
    ap (λ (s : NetState _). record s { mirrors = mirrors }) h.state
    ∙ ap (λ (ms : List (MirrorState _)). record (closed_net x.game.commands n) { mirrors = ms }) d.state
    ∙ ap (λ (z : LossyData). ended_net z.game.commands n) same

pub ended-net :
    {W : Type 0} (rules : Rules W) (opening : W) (x y : LossyData) (n k : NetState W) → x ≡ y → IsLossy x → k ≡ ended_net y.game.commands n → n ≡ made_net opening y
    → IsEndedNet rules y opening k
ended-net rules opening x y n k same sound end made =
    subst (IsEndedNet rules y opening) (sym (end ∙ ap (λ (s : NetState _). ended_net y.game.commands s) made)) (net-ended rules y opening (subst IsLossy same sound))

pub ended-each :
    {W : Type 0} (opening : W) (x y : LossyData) (n k : NetState W) → x ≡ y → IsLossy x → k ≡ ended_net y.game.commands n → n ≡ made_net opening y
    → HasEach y.game.mirrors k
ended-each opening x y n k same sound end made =
    subst (HasEach y.game.mirrors) (sym (end ∙ ap (λ (s : NetState _). ended_net y.game.commands s) made)) (end-each y opening (subst IsLossy same sound))
