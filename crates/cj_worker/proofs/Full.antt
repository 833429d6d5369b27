-- Ends that say that the history is full.
use Rattle.std.proofs.Common.{List, Result, Ok, Err, IsTrue, ℕ}
use Rattle.cj_base.specs.declared.refusal.Refusal.{Refusal}
use Rattle.cj_base.specs.declared.refusal.Refusal.TheVariants as No
use Rattle.cj_types.specs.declared.policy.Reason.{Reason}
use Rattle.cj_calls.specs.declared.call.Call.TheVariants as Of
use Rattle.cj_calls.specs.declared.end.End.TheVariants.{Again}
use Rattle.cj_calls.specs.declared.reply.Reply.{Reply}
use Rattle.cj_calls.specs.Rows.{Told, is_in_row, is_refused}
use Rattle.cj_hub.specs.declared.asking.CallError.{CallError}
use Rattle.cj_hub.specs.declared.asking.CallError.TheVariants as At
use Rattle.cj_hub.specs.declared.receipt.Receipt.{Receipt}
use Rattle.cj_hub.specs.Runs.{at_desk, IfFull, IsAsked, IsTurnedAway, TellsFull}
use Rattle.cj_worker.specs.declared.error.SyncError.{SyncError}
use Rattle.cj_worker.specs.declared.error.SyncError.TheVariants.{Refused, Starved, Lost}
use Rattle.cj_worker.specs.Ends.{EndsFull, IsBrokenFull}
use Rattle.cj_worker.specs.Errors.{ErrorFull, HasErred, error_of, why_of, end_by, end_of}

-- For call_on: an error says that the history is full where the refusal that it comes from does.
pub lost_full : (r : Refusal) (P : Type 0) → IfFull r P → ErrorFull (error_of r) P
lost_full No.HistoryFull P is = is
lost_full No.Estranged P is = tt
lost_full r P is = tt

-- No Finish is entered as refused with HistoryFull.
finish_row : (ms : ℕ) (rs : List Reason) (r : Refusal) (P : Type 0)
    → IsTrue (is_refused (Of.Finish (Again ms) rs) r) → IfFull r P
finish_row ms rs No.HistoryFull P row = cc
finish_row ms rs r P row = tt

-- For Held::retry: the refusal of an error at a Finish is HistoryFull only where the history is
-- full.
pub finish_full : (ms : ℕ) (rs : List Reason) (h : SyncError) (es : List Told) (P : Type 0)
    → HasErred (Of.Finish (Again ms) rs) h es → ErrorFull h P → IfFull (why_of h) P
finish_full ms rs (Refused r) es P one is = finish_row ms rs r P (rw one.says at one.row)
finish_full ms rs Starved es P one is = tt
finish_full ms rs (Lost r) es P one is = is

-- No Take is entered as refused with HistoryFull.
take_row : (a : Result Reply Refusal) (P : Type 0) → IsTrue (is_in_row Of.Take a) → EndsFull (end_by a) P
take_row (Err No.HistoryFull) P row = cc
take_row (Err r) P row = tt
take_row (Ok r) P row = tt

-- For sync_one: where a Take gave no key, the sync is Broken by HistoryFull only where it was
-- answered so.
pub take_full : (h : CallError) (es : List Told) (P : Type 0) → IsAsked Of.Take (Err h) es
    → TellsFull (at_desk {X = Receipt} (Err h)) P
    → EndsFull (end_of h) P
take_full (At.Refused r) es P one is = take_row r.entry.answer P (rw one.says.1 at one.row)
take_full (At.Unentered No.Empty) es P one is = tt
take_full (At.Unentered r) es P one is = is

-- For sync_one: where the Take is answered as at a full history, the sync is Broken by that.
pub take_at_full : (h : CallError) → IsTurnedAway (at_desk {X = Receipt} (Err h)) → IsBrokenFull (end_of h)
take_at_full (At.Refused r) is = absurd is
take_at_full (At.Unentered No.HistoryFull) is = tt
take_at_full (At.Unentered No.Estranged) is = tt
take_at_full (At.Unentered r) is = absurd is
