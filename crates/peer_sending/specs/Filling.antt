-- A packet that is put slot by slot.
use Rattle.std.specs.Prelude.{◌≡◌, ℕ, List, ◌++◌}
use Rattle.peer_packet.specs.declared.cursor.Cursor.{Cursor}
use Rattle.peer_packet.specs.Packet.{Part}
use Rattle.peer_packet.specs.Filling.{filled}

-- a packet with so much room has all of these parts, and goes on behind them with the room that is left
abbrev pub GoesOn : ℕ → ℕ → List Part → Type 0
GoesOn room left ps = (more : List Part)
    → filled room (ps ++ more) ≡ record { parts = ps ++ (filled left more).parts; cursor = (filled left more).cursor }

-- it ends among these parts, whatever else is due, and leaves this cursor
abbrev pub EndsWith : ℕ → List Part → Cursor → Type 0
EndsWith room ps c = (more : List Part)
    → filled room (ps ++ more) ≡ record { parts = (filled room ps).parts; cursor = c }
