-- A log of numbered events: what it keeps, and what it tells.
use Rattle.std.proofs.Common.{◌≡◌, ◌∙◌, ap, sym, subst, refl, ℕ, ◌+◌, ◌-◌, ◌≤◌, min, nat_lt, Bool, true, false, cond, List, [], ◌∷◌, ◌++◌, length, take, drop, fold, Ok, Err, arith, add-zero, zero-add, length-append, length-drop}
use Rattle.std.proofs.Math.Seq.{drop-nil}
use Rattle.std.proofs.lemmas.List.{append-nil, append_assoc, drop-drop}
use Rattle.std.proofs.lemmas.Bool.Decides.{nat_tests}
use Rattle.circular_buffer.specs.Buffer.{Buffer, buffer, keep_last}
use Rattle.cj_base.specs.declared.refusal.Refusal.TheVariants.{Expired}
use Rattle.cj_types.specs.declared.event.Event.{Event}
use Rattle.cj_types.specs.Events.{version_of}
use Rattle.cj_watch.specs.Numbers.{IsNumbered, later}
use Rattle.cj_watch.specs.Log.{Log, IsWindow, latest, pushed, since}
use Rattle.cj_watch.specs.Laws.{KeepsLatest, TellsAll}
use Rattle.cj_watch.proofs.Pieces.{piece_is, last_of_last}
use Rattle.cj_watch.proofs.Numbered.{numbered_drop, numbered_take, numbered_snoc, later_is}

-- a push keeps what the type keeps
pub push_keeps : (log : Log) (e : Event) → IsWindow log → version_of e ≡ log.count + 1 → IsWindow (pushed log e)
push_keeps log e h v =
    let len : ℕ = length log.kept in
    let more : List Event = log.kept ++ e ∷ [] in
    let k : ℕ = length more - log.window in
    let one : length more ≡ len + 1 = length-append log.kept (e ∷ []) in
    let left : length (drop k more) ≡ length more - k = length-drop k more in
    let next : version_of e ≡ log.count - len + len + 1 = omega (arith, h.size) in
    let from : log.count - len + k ≡ log.count + 1 - length (drop k more) = omega (arith, h.size, h.nonempty) in
    record {
      nonempty = h.nonempty;
      size = omega (arith, h.size, h.nonempty);
      numbered = subst (λ n. IsNumbered n (drop k more)) from
          (numbered_drop (log.count - len) k more (numbered_snoc (log.count - len) log.kept e h.numbered next));
    }

-- also where the new events stand in a ring
pub put_keeps : (log : Log) (e : Event) (ring : Buffer Event) (n : ℕ) → IsWindow log → version_of e ≡ log.count + 1
    → ring ≡ buffer (keep_last log.window (log.kept ++ e ∷ [])) log.window → n ≡ version_of e
    → IsWindow (record { kept = ring.items; count = n; window = ring.capacity })
put_keeps log e ring n h v r c =
    subst (λ (b : Buffer Event). IsWindow (record { kept = b.items; count = n; window = b.capacity })) (sym r)
    (subst (λ k. IsWindow (record { kept = latest log.window (log.kept ++ e ∷ []); count = k; window = log.window }))
    (sym (c ∙ v)) (push_keeps log e h v))

-- the copies from the first later event on are the answer
pub told : (log : Log) (v m start end : ℕ) → IsWindow log → nat_lt (v + log.window) log.count ≡ false
    → start ≡ min (v - (log.count - length log.kept)) (length log.kept) → end ≡ min (length log.kept) (start + m)
    → since log v m ≡ Ok (take (end - start) (drop start log.kept))
told log v m start end h f a b =
    let n : ℕ = log.count - length log.kept in
    ap (λ b. cond b (Err (Expired (log.count - log.window))) (Ok (take m (later v log.kept)))) f
    ∙ ap (λ (xs : List Event). Ok (take m xs)) (later_is n v log.kept h.numbered)
    ∙ ap (λ (xs : List Event). Ok xs) (sym (piece_is log.kept (v - n) m start end a b))

-- For told_numbered: what it says, by whether the version is gone or served.
told_by : (log : Log) (v m : ℕ) (es : List Event) (b : Bool) → IsWindow log → nat_lt (v + log.window) log.count ≡ b
    → cond b (Err (Expired (log.count - log.window))) (Ok (take m (later v log.kept))) ≡ Ok es → IsNumbered v es
told_by log v m es true h t e = absurd (cc e)
told_by log v m es false h t e =
    let n : ℕ = log.count - length log.kept in
    let le : log.count ≤ v + log.window = grind (arith, nat_tests) in
    let from : n + (v - n) ≡ v = omega (arith, h.size, le) in
    let same : take m (later v log.kept) ≡ es = cc e in
    let rest : take m (drop (v - n) log.kept) ≡ es = ap (take m) (sym (later_is n v log.kept h.numbered)) ∙ same in
    subst (λ (xs : List Event). IsNumbered v xs) rest
    (numbered_take v m (drop (v - n) log.kept) (subst (λ k. IsNumbered k (drop (v - n) log.kept)) from
    (numbered_drop n (v - n) log.kept h.numbered)))

-- what is told follows on the version
pub told_numbered : (log : Log) (v m : ℕ) (es : List Event) → IsWindow log → since log v m ≡ Ok es → IsNumbered v es
told_numbered log v m es h e = told_by log v m es (nat_lt (v + log.window) log.count) h refl e

-- The log that keeps these events, of so many in all, with this window.
abbrev log_at : List Event → ℕ → ℕ → Log
log_at es n w = record { kept = es; count = n; window = w }

-- A log that keeps the last of some events keeps, after more are pushed, the last of all of them.
pushes : (w : ℕ) (xs : List Event) (c : ℕ) (es : List Event)
    → fold pushed (record { kept = latest w xs; count = c; window = w }) es
    ≡ record { kept = latest w (xs ++ es); count = c + length es; window = w }
pushes w xs c [] = ap (λ (ys : List Event). log_at (latest w ys) c w) (sym (append-nil xs))
    ∙ ap (λ n. log_at (latest w (xs ++ [])) n w) (sym (add-zero c))
pushes w xs c (e ∷ es) =
    let here : pushed (log_at (latest w xs) c w) e ≡ log_at (latest w (xs ++ e ∷ [])) (c + 1) w =
    ap (λ (ys : List Event). log_at ys (c + 1) w) (last_of_last w xs (e ∷ [])) in
    let counted : c + 1 + length es ≡ c + length (e ∷ es) = omega arith in
    ap (λ (l : Log). fold pushed l es) here ∙ pushes w (xs ++ e ∷ []) (c + 1) es
    ∙ ap (λ (ys : List Event). log_at (latest w ys) (c + 1 + length es) w) (append_assoc xs (e ∷ []) es)
    ∙ ap (λ n. log_at (latest w (xs ++ e ∷ es)) n w) counted

-- For watch_laws: a log keeps the last of all events, as many as its window, and counts them all.
pub keeps_latest : KeepsLatest
keeps_latest w es =
    let none : [] ≡ latest w [] = sym (drop-nil (0 - w)) in
    ap (λ (ys : List Event). fold pushed (log_at ys 0 w) es) none ∙ pushes w [] 0 es
    ∙ ap (λ n. log_at (latest w es) n w) (zero-add (length es))

-- For watch_laws: what a log tells of a version is what the list of all events says of it.
pub tells_all : TellsAll
tells_all w es v m h =
    let n : ℕ = length es in
    let k : ℕ = n - w in
    ap (λ (l : Log). since l v m) (keeps_latest w es)
    ∙ elim (nat_lt (v + w) n) as (λ b. nat_lt (v + w) n ≡ b
    → cond b (Err (Expired k)) (Ok (take m (later v (drop k es)))) ≡ cond b (Err (Expired k)) (Ok (take m (drop v es)))) [
      | true ↦ λ t. refl
      | false ↦ λ t.
          let le : n ≤ v + w = grind (arith, nat_tests) in
          let whole : k + (v - (0 + k)) ≡ v = omega arith in
          ap (λ (ys : List Event). Ok (take m ys)) (later_is (0 + k) v (drop k es) (numbered_drop 0 k es h)
          ∙ drop-drop (v - (0 + k)) k es ∙ ap (λ i. drop i es) whole)
    ] refl
