-- What no request changes of a mirror's match.
use Rattle.std.proofs.Common.{◌≡◌, ℕ, List, [], length, subst, ◌∙◌}
use Rattle.std.proofs.lemmas.List.{length-map}
use Rattle.game_trait.specs.declared.command.Item.{Item}
use Rattle.sync_model.proofs.Cases.{SameParts, after-fixed}
use Rattle.match_data.specs.Data.{MatchData}
use Rattle.live_text.specs.declared.request.Request.{Request}
use Rattle.live_mirror.specs.Events.{after_requests}
use Rattle.live_mirror.specs.Session.{SessionState, opening_session}
use Rattle.live_mirror.proofs.Made.{are-made}

-- what each copy has run before any event
abbrev no_run : ℕ → List Item
no_run delay = []

module _
    {W : Type 0} (opening : W) (m : MatchData) (number : ℕ) (rs : List Request) where
  abbrev start : SessionState W
  start = opening_session opening m number

  -- its opening world, length, plans and copies are the match's
  pub same-parts : SameParts start.mirror (after_requests start rs).mirror
  same-parts = let es = are-made rs start in subst (SameParts start.mirror) es.2 (after-fixed es.0 start.mirror)

  pub copies-are : length (after_requests start rs).mirror.runs ≡ length m.delays
  copies-are = same-parts.copies ∙ length-map m.delays no_run
