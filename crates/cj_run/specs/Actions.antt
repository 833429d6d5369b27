-- What the participants of a run do, but for its workers.
use Rattle.std.specs.Prelude.{◌≡◌, ℕ, All, List, [], ◌++◌, None}
use Rattle.std.specs.List.{AllZip}
use Rattle.cj_zone.specs.declared.table.ZoneTable.{ZoneTable}
use Rattle.cj_calls.specs.declared.call.Call.{Call}
use Rattle.cj_calls.specs.declared.call.Call.TheVariants.{Shut}
use Rattle.cj_calls.specs.declared.caller.Role.{Role}
use Rattle.cj_calls.specs.declared.caller.Role.TheVariants.{User}
use Rattle.cj_script.specs.declared.operations.operation.Operation.{Operation}
use Rattle.cj_hub.specs.Receipts.{IsReceipt, PassView}
use Rattle.cj_hub.specs.declared.receipt.Receipt.{Receipt}
use Rattle.cj_script.specs.operations.Calls.{IsUnseenCall}
use Rattle.cj_script.specs.declared.simulation.scenario.Simulation.{Simulation}
use Rattle.cj_run.specs.Drivers.{notes_of, watch_of}
use Rattle.cj_run.specs.Made.{Notes, no_notes}
use Rattle.cj_run.specs.Rounds.{GoesRounds, watch}
use Rattle.cj_run.specs.Simulations.{operations_below}
use Rattle.cj_run.specs.Turns.{AllInstants}
use Rattle.cj_run.specs.declared.participants.Participants.{Participants}
use Rattle.cj_run.specs.declared.drive.Driver.{Driver}
use Rattle.cj_run.specs.declared.rest.Follower.{Follower}

-- the call was entered, and the pass got its receipt
pub record Called (call : Call) (p p' : PassView) : Type 0 where
  pub receipt : Receipt
  pub is : IsReceipt p call receipt p'

-- the receipt is of the operation's call, made in the role
abbrev pub IsOf : Role → ZoneTable → Operation → Receipt → Type 0
IsOf role zones operation r = IsUnseenCall zones operation r.entry.call
    × (r.entry.caller.role ≡ role)

-- each receipt is of the call of its operation, made in the role
abbrev pub AreOf : Role → ZoneTable → List Operation → List Receipt → Type 0
AreOf role zones operations rs = AllZip (IsOf role zones) operations rs

-- the pass got one receipt for each of the operations, in their order, made in its role
-- rule: run-edits
pub record Does (zones : ZoneTable) (operations : List Operation) (p p' : PassView) : Type 0 where
  pub news : List Receipt
  pub kept : p' ≡ record p { receipts = p.receipts ++ news }
  pub are : AreOf p.role zones operations news

-- up to the clock's last instant the user did all that the scenario says, and at each one the
-- runners went their round and the informer followed
pub record HasDriven (c : Simulation) (a b : Driver) : Type 0 where
  pub instants : ℕ
  pub all : AllInstants c.span instants
  pub did : Does c.zones (operations_below c instants) a.user b.user
  pub rounds : GoesRounds c instants a.follower b.follower (watch_of a) (watch_of b)

-- and then the informer shut the queue
pub record HasRunLoop (c : Simulation) (a b : Driver) : Type 0 where
  pub last : Follower
  pub driven : HasDriven c a (record b { follower = last })
  pub shut : Called Shut last.pass b.follower.pass

abbrev pub IsUnused : PassView → Type 0
IsUnused p = p.receipts ≡ []

-- the informer has done nothing yet; it asks for at most 500 events at once
pub record IsFresh (f : Follower) : Type 0 where
  pub informer : f.informer ≡ record { max = 500; seen = None }
  pub unused : IsUnused f.pass

-- nobody has done anything yet
pub record AreFresh (p : Driver) : Type 0 where
  pub user : IsUnused p.user
  pub role : p.user.role ≡ User
  pub follower : IsFresh p.follower
  pub runners : All IsUnused p.runners.items
  pub made : notes_of p ≡ no_notes

-- those who had done nothing before did so
pub record HaveRunLoop (c : Simulation) (b : Driver) : Type 0 where
  pub before : Driver
  pub fresh : AreFresh before
  pub ran : HasRunLoop c before b

-- all that user, runners and informer of a run did, over that many instants
-- rules: run-clock, run-edits, run-jobs
pub record HasDone (c : Simulation) (instants : ℕ) (participants : Participants) : Type 0 where
  pub did : AreOf User c.zones (operations_below c instants) participants.user.receipts
  pub idle : List PassView
  pub idle_still : All IsUnused idle
  pub made : Notes
  pub first : Follower
  pub fresh : IsFresh first
  pub last : Follower
  pub rounds : GoesRounds c instants first last (watch idle no_notes)
      (watch participants.runners.items made)
  pub shut : Called Shut last.pass participants.informer
