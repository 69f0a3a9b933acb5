-- Between two mirrors only a packet that is carried is received.
use Rattle.std.proofs.Common.{◌≡◌, ℕ, ◌<◌, Bool, true, false, cond, List, length, Option, Some, None, inl, inr, refl, ap, sym, ◌∙◌, subst, arith}
use Rattle.std.proofs.lemmas.Bool.{cases_eq}
use Rattle.game_trait.specs.declared.command.Command.{Command}
use Rattle.game_trait.specs.CommandList.{command_named, has_command}
use Rattle.match_data.specs.Data.{MatchData}
use Rattle.match_hall.specs.Script.{changed_at}
use Rattle.lossy_text.specs.declared.net_line.NetLine.{NetLine}
use Rattle.lossy_text.specs.declared.net_line.NetLine.TheVariants.{Issue, Send, Carry, Ack, Hear, Turn}
use Rattle.lossy_link.specs.Link.{LinkState, after_put, after_send, after_carry, after_ack, after_hear}
use Rattle.lossy_link.specs.Links.{NetLinks, AreLinks, row_at, link_at, changed, row_issued, after_issue, next_links}
use Rattle.lossy_link.specs.Way.{IsThere}
use Rattle.lossy_link.proofs.LinksLaws.{IsStill, send-still, ack-still, hear-still, put-sent, place-in, issued-same, issued-other}
use Rattle.lossy_link.proofs.Places.{IsPlace, changed-same, changed-other, same-place}

-- a step of one link that receives nothing
still :
    (f : LinkState → LinkState) (from to i j : ℕ) (rows : List (List LinkState)) → IsPlace rows from to
    → IsStill (link_at rows from to) (f (link_at rows from to)) → (link_at (changed f from to rows) i j).received ≡ (link_at rows i j).received
still f from to i j rows there kept =
    elim (same-place i j from to) [
      | inl same ↦ subst (λ (k : ℕ). (link_at (changed f from to rows) k j).received ≡ (link_at rows k j).received) (sym same.0)
          (subst (λ (k : ℕ). (link_at (changed f from to rows) from k).received ≡ (link_at rows from k).received) (sym same.1)
          (ap (λ (l : LinkState). l.received) (changed-same f from to rows there) ∙ kept.received))
      | inr apart ↦ ap (λ (l : LinkState). l.received) (changed-other f from to rows i j there apart)
    ]

-- a command that is issued
issued :
    (m : MatchData) (n : NetLinks) (own i j : ℕ) (x : Command) → AreLinks m n → own < m.mirrors → i < m.mirrors → j < m.mirrors → (i ≡ j → ⊥)
    → (link_at (changed_at (row_issued x own) own n.rows) i j).received ≡ (link_at n.rows i j).received
issued m n own i j x h here a b apart =
    let place = place-in m n own own h here here in
    elim (cases_eq i own) [
      | inl same ↦ subst (λ (k : ℕ). (link_at (changed_at (row_issued x own) own n.rows) k j).received ≡ (link_at n.rows k j).received) (sym same)
          (ap (λ (l : LinkState). l.received) (issued-same x own j n.rows place (let row = h.row own here in omega arith) (λ e. apart (same ∙ sym e)))
          ∙ (put-sent x (link_at n.rows own j)).1)
      | inr other ↦ ap (λ (l : LinkState). l.received) (issued-other x own i j n.rows place other)
    ]

pub only-carried :
    (m : MatchData) (n : NetLinks) (line : NetLine) (i j : ℕ) → AreLinks m n → IsThere m.mirrors line → i < m.mirrors → j < m.mirrors → (i ≡ j → ⊥)
    → ((packet : ℕ) → line ≡ Carry i j packet → ⊥) → (link_at (next_links m.commands n line).rows i j).received ≡ (link_at n.rows i j).received
unfolding next_links
only-carried m n (Issue own number) i j h here a b apart other =
    elim (has_command n.issued own number) as (λ v. (link_at (cond v n (after_issue (command_named m.commands own number) own n)).rows i j).received ≡ (link_at n.rows i j).received) [
      | true ↦ refl
      | false ↦ found (command_named m.commands own number)
    ]
  where
    found : (o : Option Command) → (link_at (after_issue o own n).rows i j).received ≡ (link_at n.rows i j).received
    found None = refl
    found (Some x) = issued m n own i j x h here a b apart
only-carried m n (Send f t k) i j h here a b apart other = still (after_send k) f t i j n.rows (place-in m n f t h here.0 here.1) (send-still k (link_at n.rows f t))
only-carried m n (Ack f t) i j h here a b apart other = still after_ack f t i j n.rows (place-in m n f t h here.0 here.1) (ack-still (link_at n.rows f t))
only-carried m n (Hear f t k) i j h here a b apart other = still (after_hear k) f t i j n.rows (place-in m n f t h here.0 here.1) (hear-still k (link_at n.rows f t))
only-carried m n (Turn mirror) i j h here a b apart other = refl
only-carried m n (Carry f t k) i j h here a b apart other =
    elim (same-place i j f t) [
      | inl same ↦ absurd (other k (ap (λ (c : ℕ). Carry c t k) (sym same.0) ∙ ap (λ (c : ℕ). Carry i c k) (sym same.1)))
      | inr elsewhere ↦ ap (λ (l : LinkState). l.received) (changed-other (after_carry k) f t n.rows i j (place-in m n f t h here.0 here.1) elsewhere)
    ]
