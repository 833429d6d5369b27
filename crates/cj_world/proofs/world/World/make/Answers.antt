-- World::make: what advance requires of the state (room, sound), where the history isn't full.
use Rattle.cj_world.proofs.Keeps.{room_for, sound_now, room_left}
use Rattle.cj_world.proofs.world.World.make.Goals as goal

pub advance-requires-clause-room : goal.advance-requires-clause-room
advance-requires-clause-room c = room_for _ _ _ c.self.invariant
    (room_left _ _ _ _ c.self.view_is c.is_full.ensures c.if-is_full.false)

pub advance-requires-clause-sound : goal.advance-requires-clause-sound
advance-requires-clause-sound c = sound_now _ _ _ c.self.invariant
    (room_left _ _ _ _ c.self.view_is c.is_full.ensures c.if-is_full.false)
