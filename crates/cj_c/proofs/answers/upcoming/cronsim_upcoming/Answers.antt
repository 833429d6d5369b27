-- cronsim_upcoming: what it leaves for the window that there is.
use Rattle.std.proofs.Common.{inl, rules}
use Rattle.cj_c.proofs.answers.upcoming.cronsim_upcoming.Goals as goal

pub returns : goal.returns
returns c =
    inl (
      c.in-Some-new.window,
      (search rules, search rules),
      c.leave_window.ensures,
    )
