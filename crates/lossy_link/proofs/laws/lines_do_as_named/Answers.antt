use Rattle.std.proofs.Common.{◌≡◌, refl, ◌∙◌, ap, ℕ, ◌≤◌, true, false, length, List, arith}
use Rattle.std.proofs.lemmas.List.{length-append, get_or-set_same}
use Rattle.game_trait.specs.declared.command.Command.{Command}
use Rattle.game_trait.specs.CommandList.{has_command}
use Rattle.lossy_text.specs.declared.net_line.NetLine.{NetLine}
use Rattle.lossy_text.specs.declared.net_line.NetLine.TheVariants.{Issue, Send, Carry, Ack, Hear, Turn}
use Rattle.lossy_link.specs.Link.{LinkState, IsLinked, has_flown, after_ack, after_hear}
use Rattle.lossy_link.specs.Links.{NetLinks, next_links}
use Rattle.lossy_link.proofs.Linking.{issue-step}
use Rattle.lossy_link.proofs.laws.lines_do_as_named.Goals as goal

again : (commands : List Command) (n : NetLinks) (from number : ℕ) → has_command n.issued from number ≡ true → next_links commands n (Issue from number) ≡ n
unfolding next_links
again commands n from number old = rw old refl

other : (commands : List Command) (n : NetLinks) (line : NetLine) → ((from number : ℕ) → line ≡ Issue from number → ⊥) → (next_links commands n line).issued ≡ n.issued
unfolding next_links
other commands n (Issue from number) none = absurd (none from number refl)
other commands n (Send from to packet) none = refl
other commands n (Carry from to packet) none = refl
other commands n (Ack from to) none = refl
other commands n (Hear from to count) none = refl
other commands n (Turn mirror) none = refl

acked : (l : LinkState) → IsLinked l → has_flown (after_ack l).counts (length l.received) ≡ true
unfolding after_ack
acked l h =
    let sent = ap length h.prefix.1 ∙ length-append l.received h.prefix.0 in
    let room = h.room in
    let counts = h.count_room in
    get_or-set_same l.counts (length l.received) true false (omega arith)

heard : (k : ℕ) (l : LinkState) → has_flown l.counts k ≡ true → k ≤ (after_hear k l).acked
unfolding after_hear
heard k l flown = rw flown (omega arith)

pub returns : goal.returns
returns c = record {
  issued = λ commands n from number x new is. ap (λ (m : NetLinks). m.issued) (issue-step commands n from number x new is);
  again = again;
  other = other;
  ack = acked;
  hear = heard;
}
