-- Mirrors that are played to watchers, one after another.
use Rattle.std.proofs.Common.{◌≡◌, ℕ, zero, suc, ◌+◌, ◌<◌, ◌≤◌, List, [], ◌∷◌, ◌++◌, length, get_or, set, take, drop, map, refl, ap, sym, ◌∙◌, subst, append_assoc, arith}
use Rattle.std.specs.Prelude.{filter, option_map}
use Rattle.std.proofs.lemmas.Grind.{take_at_read}
use Rattle.std.proofs.lemmas.Option.{get_or_from_slice_get, slice_get-get_or}
use Rattle.std.proofs.lemmas.List.{append-nil, drop_more, drop_all, take_all, length-map, length-take, length-drop, length-append}
use Rattle.std.proofs.Math.Seq.{set-append_seam, get_or-append_seam}
use Rattle.game_trait.specs.declared.event.Note.{Note}
use Rattle.sync_model.specs.State.{MirrorState}
use Rattle.sync_model.specs.Turns.{drain}
use Rattle.match_data.specs.Data.{MatchData}
use Rattle.watch_board.specs.Behaviour.{Behaviour}
use Rattle.watch_board.specs.Told.{AreTold}
use Rattle.watch_board.proofs.Told.{AreTold-none, AreTold-more}
use Rattle.match_hall.specs.Script.{names, after_lines, after_script, opening_mirror, opening_mirrors}
use Rattle.match_hall.specs.Notes.{notes_from, notes_of, notes_of_all, IsToldOn}
use Rattle.match_hall.proofs.MirrorLines.{own-lines}
use Rattle.match_hall.proofs.OnWay.{opening-at, all-opening}
use Rattle.match_hall.proofs.Whole.{after_script-count}

notes_of_all-append :
    {W : Type 0} (n : ℕ) (ss ts : List (MirrorState W)) → notes_of_all n (ss ++ ts) ≡ notes_of_all n ss ++ notes_of_all (n + length ss) ts
unfolding notes_of_all
notes_of_all-append n [] ts = (let same : n ≡ n + 0 = omega arith in ap (λ (k : ℕ). notes_of_all k ts) same)
notes_of_all-append n (s ∷ ss) ts =
    let same : (n + 1) + length ss ≡ n + suc (length ss) = omega arith in
    ap (λ (ns : List Note). notes_of n s ++ ns) (notes_of_all-append (n + 1) ss ts ∙ ap (λ (k : ℕ). notes_of_all (n + 1) ss ++ notes_of_all k ts) same)
    ∙ sym (append_assoc (notes_of n s) (notes_of_all (n + 1) ss) (notes_of_all (n + suc (length ss)) ts))

get_or-map : {X : Type 0} (f : X → X) (xs : List X) (i : ℕ) (d e : X) → i < length xs → get_or (map f xs) i d ≡ f (get_or xs i e)
get_or-map f [] i d e below = absurd (omega arith)
get_or-map f (x ∷ xs) zero d e below = refl
get_or-map f (x ∷ xs) (suc i) d e below = get_or-map f xs i d e (omega arith)

-- the mirrors of a match at its end, of which each made its own lines and was drained
abbrev pub ends-of : {W : Type 0} → MatchData → List (MirrorState W) → List (MirrorState W)
ends-of m begun = map (λ s. drain s) (after_script m.commands begun m.script)

ends-count : {W : Type 0} (m : MatchData) (begun : List (MirrorState W)) → length (ends-of m begun) ≡ length begun
ends-count {W} m begun = length-map (after_script m.commands begun m.script) (λ (s : MirrorState W). drain s) ∙ after_script-count m.commands m.script begun

own-end :
    {W : Type 0} (m : MatchData) (begun : List (MirrorState W)) (at : ℕ) (d e : MirrorState W) → at < length begun
    → get_or (ends-of m begun) at d ≡ drain (after_lines m.commands (filter (names at) m.script) (get_or begun at e))
own-end {W} m begun at d e below =
    let within : at < length (after_script m.commands begun m.script) = (let same = after_script-count m.commands m.script begun in omega arith) in
    let lines = after_lines m.commands (filter (names at) m.script) in
    get_or-map (λ (s : MirrorState W). drain s) (after_script m.commands begun m.script) at d e within
    ∙ ap (λ (s : MirrorState W). drain s)
    (get_or_from_slice_get (after_script m.commands begun m.script) at (lines (get_or begun at e)) e
    (own-lines m.commands begun m.script at ∙ ap (option_map lines) (slice_get-get_or begun at e below)))

-- the first n mirrors are played, and what changed them was told
pub record IsPlayedTo {W : Type 0} (m : MatchData) (at : ℕ) (begun mirrors : List (MirrorState W)) (old new : List Behaviour) (before after : List ℕ) : Type 0 where
  pub opening : W
  pub opened : begun ≡ opening_mirrors opening m
  pub state : mirrors ≡ take at (ends-of m begun) ++ drop at begun
  pub told : AreTold (notes_of_all 0 (take at (ends-of m begun))) old new before after

opened-count : {W : Type 0} (m : MatchData) (opening : W) (begun : List (MirrorState W)) → begun ≡ opening_mirrors opening m → length begun ≡ m.mirrors
opened-count {W} m opening begun opened = ap (λ (ss : List (MirrorState W)). length ss) opened ∙ (all-opening m opening).count

-- before the first
pub played-none :
    {W : Type 0} (m : MatchData) (begun : List (MirrorState W)) (ws : List Behaviour) (out : List ℕ) → (opening : W) × (begun ≡ opening_mirrors opening m)
    → IsPlayedTo m 0 begun begun ws ws out out
unfolding notes_of_all
played-none m begun ws out opened = record { opening = opened.0; opened = opened.1; state = refl; told = AreTold-none ws out }

front-long : {W : Type 0} (m : MatchData) (begun : List (MirrorState W)) (at : ℕ) → at < length begun → length (take at (ends-of m begun)) ≡ at
front-long m begun at below = (let long = length-take at (ends-of m begun) in let same = ends-count m begun in omega arith)

-- the next mirror is there, and stands as the match begins
pub played-next :
    {W : Type 0} (m : MatchData) (at : ℕ) (begun mirrors : List (MirrorState W)) (old new : List Behaviour) (before after : List ℕ) (d : MirrorState W)
    → at < m.mirrors → (played : IsPlayedTo m at begun mirrors old new before after)
    → get_or mirrors at d ≡ opening_mirror played.opening m at
played-next {W} m at begun mirrors old new before after d below played =
    let within : at < length begun = (let count = opened-count m played.opening begun played.opened in omega arith) in
    let same : 0 + at ≡ at = omega arith in
    ap (λ (ss : List (MirrorState W)). get_or ss at d) (played.state ∙ ap (λ (ss : List (MirrorState W)). take at (ends-of m begun) ++ ss) (drop_more begun at d within))
    ∙ ap (λ (n : ℕ). get_or (take at (ends-of m begun) ++ get_or begun at d ∷ drop (at + 1) begun) n d) (sym (front-long m begun at within))
    ∙ get_or-append_seam (take at (ends-of m begun)) (get_or begun at d) (drop (at + 1) begun) d
    ∙ ap (λ (ss : List (MirrorState W)). get_or ss at d) played.opened
    ∙ opening-at played.opening m 0 m.mirrors at d below ∙ ap (opening_mirror played.opening m) same

-- there are as many as before
pub played-count :
    {W : Type 0} (m : MatchData) (at : ℕ) (begun mirrors : List (MirrorState W)) (old new : List Behaviour) (before after : List ℕ)
    → IsPlayedTo m at begun mirrors old new before after → (length mirrors ≡ length begun) × (length begun ≡ m.mirrors)
played-count {W} m at begun mirrors old new before after played = (
  (let all = ap (λ (ss : List (MirrorState W)). length ss) played.state ∙ length-append (take at (ends-of m begun)) (drop at begun) in
      let front = length-take at (ends-of m begun) in
      let behind = length-drop at begun in
      let same = ends-count m begun in
      omega arith),
  opened-count m played.opening begun played.opened,
)

-- one mirror more
pub played-more :
    {W : Type 0} (m : MatchData) (at : ℕ) (begun mirrors : List (MirrorState W)) (old now new : List Behaviour) (before between after : List ℕ) (s t : MirrorState W)
    → at < m.mirrors → IsPlayedTo m at begun mirrors old now before between → s ≡ get_or mirrors at s
    → t ≡ drain (after_lines m.commands (filter (names at) m.script) s) → IsToldOn at s t now new between after
    → IsPlayedTo m (at + 1) begun (set mirrors at t) old new before after
unfolding notes_of_all notes_from opening_mirror
played-more {W} m at begun mirrors old now new before between after s t below played is made told =
    let ends = ends-of m begun in
    let within : at < length begun = (let count = opened-count m played.opening begun played.opened in omega arith) in
    let there : at < length ends = (let count = ends-count m begun in omega arith) in
    let first : s ≡ opening_mirror played.opening m at = is ∙ played-next m at begun mirrors old now before between s below played in
    let from : get_or begun at s ≡ s =
    (let same : 0 + at ≡ at = omega arith in
    ap (λ (ss : List (MirrorState W)). get_or ss at s) played.opened ∙ opening-at played.opening m 0 m.mirrors at s below ∙ ap (opening_mirror played.opening m) same ∙ sym first) in
    let end : get_or ends at t ≡ t =
    own-end m begun at t s within ∙ ap (λ (u : MirrorState W). drain (after_lines m.commands (filter (names at) m.script) u)) from ∙ sym made in
    let split : take (at + 1) ends ≡ take at ends ++ t ∷ [] = (take_at_read ends at t there).1 ∙ ap (λ (u : MirrorState W). take at ends ++ u ∷ []) end in
    let fresh : notes_of at s ≡ [] = ap (λ (u : MirrorState W). notes_of at u) first in
    let notes : notes_of at t ≡ told.notes = told.more ∙ ap (λ (ns : List Note). ns ++ told.notes) fresh in
    let long : 0 + length (take at ends) ≡ at = (let n = front-long m begun at within in omega arith) in
    let all : notes_of_all 0 (take (at + 1) ends) ≡ notes_of_all 0 (take at ends) ++ told.notes =
    ap (λ (ss : List (MirrorState W)). notes_of_all 0 ss) split ∙ notes_of_all-append 0 (take at ends) (t ∷ [])
    ∙ ap (λ (n : ℕ). notes_of_all 0 (take at ends) ++ notes_of_all n (t ∷ [])) long
    ∙ ap (λ (ns : List Note). notes_of_all 0 (take at ends) ++ ns) (append-nil (notes_of at t) ∙ notes) in
    record {
      opening = played.opening;
      opened = played.opened;
      state =
          ap (λ (ss : List (MirrorState W)). set ss at t) (played.state ∙ ap (λ (ss : List (MirrorState W)). take at ends ++ ss) (drop_more begun at s within))
          ∙ ap (λ (n : ℕ). set (take at ends ++ get_or begun at s ∷ drop (at + 1) begun) n t) (sym (front-long m begun at within))
          ∙ set-append_seam (take at ends) (get_or begun at s) (drop (at + 1) begun) t
          ∙ sym (append_assoc (take at ends) (t ∷ []) (drop (at + 1) begun))
          ∙ ap (λ (ss : List (MirrorState W)). ss ++ drop (at + 1) begun) (sym split);
      told = subst (λ (ns : List Note). AreTold ns old new before after) (sym all)
          (AreTold-more (notes_of_all 0 (take at ends)) told.notes old now new before between after played.told told.told);
    }

-- the same, where its place is another name of the number
pub played-more_at :
    {W : Type 0} (m : MatchData) (at k : ℕ) (begun mirrors : List (MirrorState W)) (old now new : List Behaviour) (before between after : List ℕ) (s t : MirrorState W)
    → k ≡ at → at < m.mirrors → IsPlayedTo m at begun mirrors old now before between → s ≡ get_or mirrors k s
    → t ≡ drain (after_lines m.commands (filter (names at) m.script) s) → IsToldOn at s t now new between after
    → IsPlayedTo m (at + 1) begun (set mirrors k t) old new before after
played-more_at m at k begun mirrors old now new before between after s t same below played is made told =
    subst (λ (n : ℕ). IsPlayedTo m (at + 1) begun (set mirrors n t) old new before after) (sym same)
    (played-more m at begun mirrors old now new before between after s t below played (is ∙ ap (λ (n : ℕ). get_or mirrors n s) same) made told)

-- all are played
pub played-all :
    {W : Type 0} (m : MatchData) (at : ℕ) (begun mirrors : List (MirrorState W)) (old new : List Behaviour) (before after : List ℕ)
    → m.mirrors ≤ at → IsPlayedTo m at begun mirrors old new before after
    → (mirrors ≡ map (λ s. drain s) (after_script m.commands begun m.script)) × AreTold (notes_of_all 0 mirrors) old new before after
played-all {W} m at begun mirrors old new before after past played =
    let ends = ends-of m begun in
    let count = opened-count m played.opening begun played.opened in
    let whole : take at ends ≡ ends = take_all at ends (let same = ends-count m begun in omega arith) in
    let state : mirrors ≡ ends =
    played.state ∙ ap (λ (ss : List (MirrorState W)). take at ends ++ ss) (drop_all at begun (omega arith)) ∙ append-nil (take at ends) ∙ whole in
    (state, subst (λ (ss : List (MirrorState W)). AreTold (notes_of_all 0 ss) old new before after) (whole ∙ sym state) played.told)
