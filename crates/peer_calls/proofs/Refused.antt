-- What a call that is refused leaves, and what making a packet changes.
use Rattle.std.proofs.Common.{◌≡◌, ℕ, Bool, true, false, cond, refl}
use Rattle.peer_packet.specs.declared.cursor.Cursor.{Cursor}
use Rattle.peer_calls.specs.declared.config.Config.{Config}
use Rattle.peer_calls.specs.State.{State}
use Rattle.peer_calls.specs.Sending.{after_packet, filled_for}
use Rattle.peer_model.specs.Peer.{put}

alone-if : {W : Type 0} (b : Bool) (k : ℕ → Cursor) (s : State W) → record (cond b (record s { cursor = k }) s) { cursor = s.cursor } ≡ s
alone-if true k s = refl
alone-if false k s = refl

pub cursor-alone : {W : Type 0} (c : Config) (to room : ℕ) (s : State W) → record (after_packet c to room s) { cursor = s.cursor } ≡ s
cursor-alone c to room s = alone-if _ (put to (filled_for c to room s).cursor s.cursor) s
