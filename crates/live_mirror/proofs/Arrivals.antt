-- What arrives at a live mirror is of its match.
use Rattle.std.proofs.Common.{◌≡◌, ℕ, ◌<◌, Bool, true, false, cond, List, [], ◌∷◌, length, refl, ap, sym, subst, ◌∙◌, arith}
use Rattle.std.specs.List.{AllByRecursion}
use Rattle.std.proofs.lemmas.Bool.{leb-true, leb-false}
use Rattle.game_trait.proofs.Lists.{all-append}
use Rattle.game_trait.specs.declared.command.Act.{Act}
use Rattle.game_trait.specs.declared.command.Command.{Command}
use Rattle.game_trait.specs.declared.event.Event.{Event}
use Rattle.game_trait.specs.declared.event.Event.TheVariants as events
use Rattle.game_trait.specs.declared.limits.TheConstants.{GREATEST_NUMBER}
use Rattle.match_setup.specs.Setup.{Layout}
use Rattle.game_trait.specs.Acts.{has_act}
use Rattle.sync_model.specs.History.{changing}
use Rattle.sync_model.specs.Turns.{turn_events, turns_of}
use Rattle.sync_model.proofs.Legal.{all-changing}
use Rattle.match_data.specs.Data.{MatchData, IsMatch, IsCommand}
use Rattle.live_text.specs.declared.request.Request.{Request}
use Rattle.live_text.specs.declared.request.Request.TheVariants.{Own, Cmd, Tick, Turn, Step, Restagger, World as AskWorld, Run, Commands, End}
use Rattle.live_text.specs.Texts.{MayAsk, AreTerms}
use Rattle.live_mirror.specs.Events.{Makes, IsOfMatch}
use Rattle.live_mirror.specs.Led.{begun, IsLed, IsOfSetup}
use Rattle.live_mirror.specs.Session.{SessionState, terms_of, is_past, own_command, after_request}
use Rattle.live_mirror.proofs.Kept.{session_kept}
use Rattle.live_mirror.proofs.Made.{IsTurning, turn-turning, turns-turning, is-made}
use Rattle.live_mirror.proofs.Parts.{same-parts, copies-are}

-- ---- the mirror is one of its match's setup

pub of_setup : {W : Type 0} (start : Layout → W) (number : ℕ) (s : SessionState W) (is : IsLed start number s) → IsOfSetup start is.game s
of_setup {W} start number s is =
    let kept = session_kept is.asked (begun start is.game number) in
    let parts = same-parts (start is.game.layout) is.game number is.asked in
    record {
      version = ap (λ (u : SessionState W). u.version) is.led ∙ kept.version;
      mirrors = ap (λ (u : SessionState W). u.mirrors) is.led ∙ kept.mirrors;
      names = ap (λ (u : SessionState W). u.names) is.led ∙ kept.names;
      opening = ap (λ (u : SessionState W). u.mirror.opening) is.led ∙ parts.opening;
      length = ap (λ (u : SessionState W). u.mirror.length) is.led ∙ parts.length;
      plans = ap (λ (u : SessionState W). u.mirror.plans) is.led ∙ parts.plans;
    }

pub of_number : {W : Type 0} (start : Layout → W) (number : ℕ) (s : SessionState W) → IsLed start number s → s.number ≡ number
of_number {W} start number s is = ap (λ (u : SessionState W). u.number) is.led ∙ (session_kept is.asked (begun start is.game number)).number

pub are_terms : {W : Type 0} (start : Layout → W) (number : ℕ) (s : SessionState W) → IsLed start number s → AreTerms (terms_of s)
are_terms {W} start number s is =
    let of = of_setup start number s is in
    let game = is.is_match in
    let copies : length s.mirror.runs ≡ length is.game.delays =
    ap (λ (u : SessionState W). length u.mirror.runs) is.led ∙ copies-are (start is.game.layout) is.game number is.asked in
    record {
      length = omega (arith, of.length, game.ticks.1);
      mirrors = omega (arith, of.mirrors, game.mirrors.1);
      copies = omega (arith, copies, game.delays.few_copies);
      plans = omega (arith, ap (λ (ps : List (List ℕ)). length ps) of.plans, game.plan_count);
    }

-- ---- what a request makes that may be asked

turning-of : (m : MatchData) (copies : ℕ) (es : List Event) → AllByRecursion (IsTurning copies) es → AllByRecursion (IsOfMatch m) es
turning-of m copies [] h = tt
turning-of m copies (events.Tick ∷ es) h = (tt, turning-of m copies es h.1)
turning-of m copies (events.Step c ∷ es) h = (tt, turning-of m copies es h.1)
turning-of m copies (events.Arrive x ∷ es) h = absurd h.0
turning-of m copies (events.Restagger p ∷ es) h = absurd h.0

cmd-of : {W : Type 0} (start : Layout → W) (m : MatchData) (s : SessionState W) (x : Command) → IsMatch m → IsOfSetup start m s → MayAsk (terms_of s) (Cmd x) → IsCommand m x
cmd-of start m s x is of may =
    let fits = may.1 in
    record {
      time = omega (arith, fits.0.1, of.length, is.ticks.0);
      from = omega (arith, fits.1.0.1, of.mirrors, is.mirrors.0);
      number = fits.1.1.0.1;
      player = omega (arith, may.2, ap (λ (names : List (List ℕ)). length names) of.names);
      act = subst (λ (v : ℕ). has_act v x.act ≡ true) of.version fits.1.1.1.1;
    }

own-of :
    {W : Type 0} (start : Layout → W) (m : MatchData) (s : SessionState W) (player : ℕ) (act : Act) (es : List Event) (past : Bool) → is_past s ≡ past → IsOfSetup start m s → s.number < m.mirrors
    → MayAsk (terms_of s) (Own player act) → es ≡ cond past [] (events.Arrive (own_command s player act) ∷ []) → AllByRecursion (IsOfMatch m) es
own-of start m s player act es true e of there may same = subst (AllByRecursion (IsOfMatch m)) (sym same) tt
own-of start m s player act es false e of there may same =
    let x : IsCommand m (own_command s player act) = record {
      time = omega (arith, leb-false s.mirror.length s.mirror.clock e, of.length);
      from = there;
      number = leb-true s.next GREATEST_NUMBER may.1;
      player = omega (arith, may.3, ap (λ (names : List (List ℕ)). length names) of.names);
      act = subst (λ (v : ℕ). has_act v act ≡ true) of.version may.4;
    } in
    subst (AllByRecursion (IsOfMatch m)) (sym same) (x, tt)

made-of : {W : Type 0} (start : Layout → W) (m : MatchData) (s : SessionState W) (r : Request) (es : List Event) → IsMatch m → IsOfSetup start m s → s.number < m.mirrors → MayAsk (terms_of s) r → Makes s r es
    → AllByRecursion (IsOfMatch m) es
made-of start m s (Own player act) es is of there may makes = own-of start m s player act es (is_past s) refl of there may makes
made-of start m s (Cmd x) es is of there may makes = subst (AllByRecursion (IsOfMatch m)) (sym makes) (cmd-of start m s x is of may, tt)
made-of start m s Tick es is of there may makes = subst (AllByRecursion (IsOfMatch m)) (sym makes) (tt, tt)
made-of start m s Turn es is of there may makes =
    subst (AllByRecursion (IsOfMatch m)) (sym makes) (turning-of m (length s.mirror.runs) (turn_events (length s.mirror.runs)) (turn-turning (length s.mirror.runs)))
made-of start m s (Step copy) es is of there may makes = subst (AllByRecursion (IsOfMatch m)) (sym makes) (tt, tt)
made-of start m s (Restagger plan) es is of there may makes = subst (AllByRecursion (IsOfMatch m)) (sym makes) (tt, tt)
made-of start m s (AskWorld copy) es is of there may makes = subst (AllByRecursion (IsOfMatch m)) (sym makes) tt
made-of start m s (Run copy) es is of there may makes = subst (AllByRecursion (IsOfMatch m)) (sym makes) tt
made-of start m s Commands es is of there may makes = subst (AllByRecursion (IsOfMatch m)) (sym makes) tt
made-of start m s End es is of there may makes =
    subst (AllByRecursion (IsOfMatch m)) (sym makes.1) (turning-of m (length s.mirror.runs) (turns_of (length s.mirror.runs) makes.0) (turns-turning (length s.mirror.runs) makes.0))

pub arrived-next : {W : Type 0} (start : Layout → W) (number : ℕ) (s : SessionState W) (r : Request) (is : IsLed start number s) → MayAsk (terms_of s) r → AllByRecursion (IsOfMatch is.game) (after_request s r).mirror.history
arrived-next start number s r is may =
    let made = is-made s r in
    let there : s.number < is.game.mirrors = omega (arith, of_number start number s is, is.there) in
    let new = made-of start is.game s r made.0 is.is_match (of_setup start number s is) there may made.1.makes in
    subst (AllByRecursion (IsOfMatch is.game)) (sym made.1.history)
    (all-append (IsOfMatch is.game) s.mirror.history (changing s.mirror made.0) is.arrived (all-changing (IsOfMatch is.game) s.mirror made.0 new))
