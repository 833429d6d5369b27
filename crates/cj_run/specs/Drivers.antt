-- What the run loop drives, as definitions see it: the participants but for the workers, and what
-- was noted of Jobs.
use Rattle.cj_run.specs.Made.{Notes, notes}
use Rattle.cj_run.specs.Rounds.{Watch, watch}
use Rattle.cj_run.specs.declared.drive.Driver.{Driver}
use Rattle.cj_run.specs.declared.made.Made.{Made}

abbrev pub noted_in : Made → Notes
noted_in m = notes m.last m.counts m.running.items

abbrev pub notes_of : Driver → Notes
notes_of p = noted_in p.made

abbrev pub watch_of : Driver → Watch
watch_of p = watch p.runners.items (notes_of p)
