-- What a handle owns: where it is full, the same as a box of the timetable.
use Rattle.std.specs.Prelude.{Bool, true, false, []}
use base.Fml.{Fml, ftrue}
use base.Stored.{Coded}
use denote.RawPtr.{Ptr}
use Rattle.std.specs.Box.Ownership.{box_owns}
use Rattle.std.specs.Global.{Global}
use Rattle.std_heap.specs.contracts.GlobalAllocator.TheImpl.{ghosts}
use Rattle.cj_zone.specs.Zones.{utc_zone}
use Rattle.cj_c.specs.declared.timetable.Timetable.{Timetable}
use Rattle.cj_c.specs.contracts.timetable.Timetable.{the_row}

-- ownership of the timetable at the pointer and of its block, where there is one
-- rule: library-handle
abbrev pub held_owns : Bool → Global → Ptr → the_row.Denot → Fml
held_owns false alloc p t = ftrue
held_owns true alloc p t = box_owns (ghosts.dealloc_token alloc) the_row p t

abbrev pub timetable_coded : Coded the_row.Denot
timetable_coded = the_row.coded

-- in the place of the timetable where none is kept
abbrev pub no_timetable : Timetable
no_timetable = record {
  schedule = record {
    minutes = 0;
    hours = 0;
    days = 0;
    months = 0;
    weekdays = 0;
    day_open = false;
    weekday_open = false;
  };
  zone = utc_zone [];
}
