-- Each kind of line is exact: what is read by it is written so, and what it writes is read.
use Rattle.std.proofs.Common.{ℕ, ◌-◌, refl, arith, lit<, lit≤}
use Rattle.game_trait.specs.declared.limits.TheConstants.{GREATEST_NET_NUMBER}
use Rattle.tss_io.specs.Forms.{is_word, InRange, number}
use Rattle.tss_io.proofs.FormLaws.{ExactField, number_exact, only_exact, then_exact}
use Rattle.tss_io.proofs.KindLaws.{ExactKind}
use Rattle.match_data.specs.Data.{MatchData, IsMatch}
use Rattle.game_trait.specs.declared.limits.TheConstants.{MOST_NET_LINES}
use Rattle.lossy_text.specs.declared.tail.Tail.{Tail}
use Rattle.lossy_text.specs.Kinds.{net_kind, issue_kind, send_kind, carry_kind, ack_kind, hear_kind, turn_kind}

-- ---- the numbers of each kind

abbrev pub NetFits : Tail → ℕ → Type 0
NetFits t count = InRange 0 MOST_NET_LINES count

abbrev pub CommandFits : MatchData → Tail → ℕ × ℕ → Type 0
CommandFits m t a = InRange 0 (m.mirrors - 1) a.0 × InRange 0 GREATEST_NET_NUMBER a.1

abbrev pub LinkFits : MatchData → Tail → ℕ × ℕ → Type 0
LinkFits m t a = InRange 0 (m.mirrors - 1) a.0 × InRange 0 (m.mirrors - 1) a.1

abbrev pub PacketFits : MatchData → Tail → ℕ × (ℕ × ℕ) → Type 0
PacketFits m t a = InRange 0 (m.mirrors - 1) a.0 × (InRange 0 (m.mirrors - 1) a.1.0 × InRange 0 GREATEST_NET_NUMBER a.1.1)

abbrev pub TurnFits : MatchData → Tail → ℕ → Type 0
TurnFits m t mirror = InRange 0 (m.mirrors - 1) mirror

-- ---- the kinds

pub mirror_exact : (m : MatchData) → IsMatch m → ExactField (number 0 (m.mirrors - 1)) (InRange 0 (m.mirrors - 1)) (λ _. 1)
mirror_exact m is = let few = is.mirrors.1 in number_exact 0 (m.mirrors - 1) 1 (lit< tt) (omega arith) (omega arith)

pub great_exact : ExactField (number 0 GREATEST_NET_NUMBER) (InRange 0 GREATEST_NET_NUMBER) (λ _. 6)
great_exact = number_exact 0 999999 6 (lit< tt) (lit< tt) (lit< tt)

unfoldable pub net_exact : ExactKind net_kind NetFits
unfolding is_word
net_exact = record { keyword = refl; longest = λ _. 7; form = λ _. only_exact (number_exact 0 262144 6 (lit< tt) (lit< tt) (lit< tt)); short = λ _ _ _. lit≤ tt }

unfoldable pub issue_exact : (m : MatchData) → IsMatch m → ExactKind (issue_kind m) (CommandFits m)
unfolding is_word
issue_exact m is = record { keyword = refl; longest = λ _. 9; form = λ _. then_exact (mirror_exact m is) (only_exact great_exact); short = λ _ _ _. lit≤ tt }

unfoldable pub send_exact : (m : MatchData) → IsMatch m → ExactKind (send_kind m) (PacketFits m)
unfolding is_word
send_exact m is = record { keyword = refl; longest = λ _. 11; form = λ _. then_exact (mirror_exact m is) (then_exact (mirror_exact m is) (only_exact great_exact)); short = λ _ _ _. lit≤ tt }

unfoldable pub carry_exact : (m : MatchData) → IsMatch m → ExactKind (carry_kind m) (PacketFits m)
unfolding is_word
carry_exact m is = record { keyword = refl; longest = λ _. 11; form = λ _. then_exact (mirror_exact m is) (then_exact (mirror_exact m is) (only_exact great_exact)); short = λ _ _ _. lit≤ tt }

unfoldable pub ack_exact : (m : MatchData) → IsMatch m → ExactKind (ack_kind m) (LinkFits m)
unfolding is_word
ack_exact m is = record { keyword = refl; longest = λ _. 4; form = λ _. then_exact (mirror_exact m is) (only_exact (mirror_exact m is)); short = λ _ _ _. lit≤ tt }

unfoldable pub hear_exact : (m : MatchData) → IsMatch m → ExactKind (hear_kind m) (PacketFits m)
unfolding is_word
hear_exact m is = record { keyword = refl; longest = λ _. 11; form = λ _. then_exact (mirror_exact m is) (then_exact (mirror_exact m is) (only_exact great_exact)); short = λ _ _ _. lit≤ tt }

unfoldable pub turn_exact : (m : MatchData) → IsMatch m → ExactKind (turn_kind m) (TurnFits m)
unfolding is_word
turn_exact m is = record { keyword = refl; longest = λ _. 2; form = λ _. only_exact (mirror_exact m is); short = λ _ _ _. lit≤ tt }
