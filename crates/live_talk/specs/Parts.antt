-- How what hears a live text is kept.
use Rattle.std.specs.Prelude.{ℕ}
use Rattle.match_file.specs.Around.{Around, first_due, in_match}
use Rattle.match_file.specs.ByLine.{at_of, IsRight}
use Rattle.live_talk.specs.declared.headed.Head.{Head}
use Rattle.live_talk.specs.declared.headed.Head.TheVariants.{First, Match}
use Rattle.live_talk.specs.declared.headed.Part.{Part}
use Rattle.live_talk.specs.declared.headed.Part.TheVariants.{InHead, Behind, Refused}
use Rattle.live_talk.specs.Head.{Place, heading, asking, refused}

-- what was read of its head
abbrev pub read_of : Head → Around (Unit {0})
read_of First = first_due
read_of (Match reading) = in_match (at_of reading)

-- where it stands in its text, at the line of this number
abbrev pub place_of : {S : Type 0} → ℕ → Part S → Place S
place_of line (InHead head) = heading line (read_of head)
place_of line (Behind s) = asking s
place_of line Refused = refused

-- what was read of a head is right
abbrev pub IsRightHead : Head → Type 0
IsRightHead First = Unit {0}
IsRightHead (Match reading) = IsRight reading

abbrev pub IsRightPart : {S : Type 0} → Part S → Type 0
IsRightPart (InHead head) = IsRightHead head
IsRightPart (Behind s) = Unit {0}
IsRightPart Refused = Unit {0}
