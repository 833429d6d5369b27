-- What a caller adds to a history that makes calls one after the other, and stops at the first that
-- is refused.
use Rattle.std.specs.Prelude.{◌≡◌, ◌⊎◌, IsOk, List, [], ◌∷◌, Err}
use Rattle.cj_base.specs.declared.refusal.Refusal.{Refusal}
use Rattle.cj_base.specs.declared.refusal.Refusal.TheVariants as No
use Rattle.cj_calls.specs.declared.call.Call.{Call}
use Rattle.cj_calls.specs.declared.call.Call.TheVariants as Of
use Rattle.cj_calls.specs.declared.end.End.TheVariants.{Well, Again}
use Rattle.cj_calls.specs.Rows.{Told}
use Rattle.cj_decide.specs.Decision.{Planned}
use Rattle.cj_worker.specs.declared.gate.Point.{Point}
use Rattle.cj_worker.specs.declared.gate.Point.TheVariants.{Taken, Seen, Listed, Claimed, Made}

-- the call that ends a sync
abbrev pub IsFinish : Call → Type 0
IsFinish (Of.Finish end reasons) = Unit {0}
IsFinish _ = ⊥

-- the entries are of just these calls, in order, all accepted
-- rule: sync-calls
abbrev pub AllAccepted : List Call → List Told → Type 0
AllAccepted [] [] = Unit {0}
AllAccepted [] (e ∷ es) = ⊥
AllAccepted (c ∷ cs) [] = ⊥
AllAccepted (c ∷ cs) (e ∷ es) = (e.call ≡ c) × IsOk e.answer × AllAccepted cs es

-- the entries are of a beginning of these calls, in order, all accepted, and the sync isn't ended
-- by them
-- rule: sync-calls
abbrev pub Begun : List Call → List Told → Type 0
Begun cs [] = Unit {0}
Begun [] (e ∷ es) = ⊥
Begun (c ∷ cs) (e ∷ es) = (e.call ≡ c) × IsOk e.answer × (IsFinish c → ⊥) × Begun cs es

-- the entries are of a beginning of these calls, in order, up to the first refusal
-- rule: sync-calls
abbrev pub FirstRefused : List Call → List Told → Refusal → Type 0
FirstRefused [] es r = ⊥
FirstRefused (c ∷ cs) [] r = ⊥
FirstRefused (c ∷ cs) (e ∷ es) r = (e.call ≡ c) ×
    (((e.answer ≡ Err r) × (es ≡ [])) ⊎ (IsOk e.answer × FirstRefused cs es r))

-- the call that a point comes after
-- rule: stopped-sync
abbrev pub Names : Point → Call → Type 0
Names Taken c = c ≡ Of.Take
Names Seen c = c ≡ Of.SeeCron
Names Listed c = c ≡ Of.SeeJobs
Names Claimed c = (p : Planned) × (c ≡ Of.Claim p)
Names Made c = c ≡ Of.MakeNext

-- the entries are of these calls up to and with the one that the point names, in order, all
-- accepted
-- rule: stopped-sync
abbrev pub StopsAt : Point → List Call → List Told → Type 0
StopsAt point [] es = ⊥
StopsAt point (c ∷ cs) [] = ⊥
StopsAt point (c ∷ cs) (e ∷ es) = (e.call ≡ c) × IsOk e.answer ×
    ((Names point c × (es ≡ [])) ⊎ StopsAt point cs es)

-- the last entry meets P
abbrev pub EndsWith : (Told → Type 0) → List Told → Type 0
EndsWith P [] = ⊥
EndsWith P (e ∷ []) = P e
EndsWith P (e ∷ f ∷ es) = EndsWith P (f ∷ es)

abbrev pub IsWell : Call → Type 0
IsWell (Of.Finish Well reasons) = Unit {0}
IsWell _ = ⊥

-- an accepted Finish that says that all went well
-- rule: sync-ends
abbrev pub IsDone : Told → Type 0
IsDone e = IsWell e.call × IsOk e.answer

abbrev pub IsAgain : Call → Type 0
IsAgain (Of.Finish (Again at) reasons) = Unit {0}
IsAgain _ = ⊥

-- an accepted Finish that asks for another try
-- rule: sync-ends
abbrev pub IsPutOff : Told → Type 0
IsPutOff e = IsAgain e.call × IsOk e.answer

-- a Take from an empty line of a shut queue
-- rule: sync-ends
abbrev pub IsShut : Told → Type 0
IsShut e = (e.call ≡ Of.Take) × (e.answer ≡ Err No.ShutDown)

-- the accepted call that a point comes after
-- rule: stopped-sync
abbrev pub IsAt : Point → Told → Type 0
IsAt point e = Names point e.call × IsOk e.answer
