-- What a `Held` owns: what a `Box<Engine>` owns, where there is an engine.
use Rattle.std.specs.Prelude.{Option, Some, None}
use base.Fml.{Fml, ftrue}
use base.Stored.{Coded}
use denote.RawPtr.{Ptr}
use Rattle.std.specs.Box.Ownership.{box_owns}
use Rattle.std.specs.Coded.{coded_option}
use Rattle.std.specs.Global.{Global}
use Rattle.std_heap.specs.contracts.GlobalAllocator.TheImpl.{ghosts}
use Rattle.peer_c.specs.contracts.engine.Engine.{the_row}

-- the engine's box at the pointer, and the right to free it; where there is none, nothing
abbrev pub held_owns : Global → Ptr → Option the_row.Denot → Fml
held_owns alloc p None = ftrue
held_owns alloc p (Some engine) = box_owns (ghosts.dealloc_token alloc) the_row p engine

abbrev pub engine_coded : Coded (Option the_row.Denot)
engine_coded = coded_option the_row.coded
