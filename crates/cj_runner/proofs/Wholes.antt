-- What comes of all shares.
use Rattle.std.proofs.Common.{◌≡◌, ℕ, zero, suc, Bool, true, false, All, arith, List, [], ◌∷◌, ◌++◌, Option, Some, None, Result, Ok, Err, IfOk, IfSome, IfNone, MatchOption, map, Vec, vec_len, take, drop, refl, ap, sym, subst, ◌∙◌, append_assoc, inl, inr}
use Rattle.std.proofs.lemmas.List.{append-nil, flat_map_more, map-append, map-id, map_push, take-append-drop}
use Rattle.std.specs.List.{AllByRecursion, AllZip, flat_map}
use Rattle.std.specs.Result.{result_ok}
use Rattle.std.specs.Iterator.{Yields}
use Rattle.std.specs.Vec.Iter.{into_iter_items, into_iter_len, into_iter_steps}
use Rattle.std.specs.declared.vec.IntoIter.{IntoIter}
use Rattle.std.proofs.lemmas.Iterator.Adapters.{YieldsList-from_vec}
use Rattle.std.proofs.lemmas.Iterator.Consumers.{YieldsList-end}
use Rattle.cj_calls.specs.declared.call.Call.{Call}
use Rattle.cj_hub.specs.Receipts.{PassView}
use Rattle.cj_hub.specs.declared.receipt.Receipt.{Receipt}
use Rattle.cj_runner.specs.Dues.{is_due, due_ends}
use Rattle.cj_runner.specs.Ends.{IsPart, HandedBack, CameBack, AreEnded, calls_of}
use Rattle.cj_runner.specs.Shares.{AreShares, Came, HasCome, HasEnded, IsGathered}
use Rattle.cj_runner.specs.declared.ending.Ends.{Ends}
use Rattle.cj_runner.specs.declared.gather.Gathered.{Gathered}
use Rattle.cj_runner.specs.declared.running.Running.{Running}
use Rattle.cj_runner.specs.declared.shares.Share.{Share}
use Rattle.cj_runner.specs.declared.threads.ShareEnd.{ShareEnd}
use Rattle.cj_runner.proofs.Calls.{due-append}
use Rattle.cj_runner.proofs.Parts.{part_skip, part_after, part_before, part_both}

-- ---- the list, split

-- For share_out: with a share more, the passes of the shares are those so far and its own.
pub owners_more : (shares shares' : List Share) (s : Share) (ps : List PassView) → shares' ≡ shares ++ s ∷ []
    → map (λ x. x.pass) shares ≡ ps → map (λ x. x.pass) shares' ≡ ps ++ s.pass ∷ []
owners_more shares shares' s ps more is = ap (λ (xs : List Share). map (λ x. x.pass) xs) more
    ∙ map_push (λ (x : Share). x.pass) shares s ∙ ap (λ (qs : List PassView). qs ++ s.pass ∷ []) is

-- For share_out: with a share more of the first n that were left, the shares and the rest are still
-- the list.
pub parts_more : (shares shares' : List Share) (s : Share) (n : ℕ) (left rest all : List Running)
    → shares' ≡ shares ++ s ∷ [] → s.running.items ≡ take n left → rest ≡ drop n left
    → flat_map (λ x. x.running.items) shares ++ left ≡ all → flat_map (λ x. x.running.items) shares' ++ rest ≡ all
parts_more shares shares' s n left rest all more mine others is =
    let before = flat_map (λ (x : Share). x.running.items) shares in
    ap (λ (xs : List Share). flat_map (λ x. x.running.items) xs ++ rest) more
    ∙ ap (λ (rs : List Running). rs ++ rest) (sym (flat_map_more (λ (x : Share). x.running.items) [] shares s))
    ∙ append_assoc before s.running.items rest ∙ ap (λ (rs : List Running). before ++ (rs ++ rest)) mine
    ∙ ap (λ (rs : List Running). before ++ (take n left ++ rs)) others
    ∙ ap (λ (rs : List Running). before ++ rs) (take-append-drop n left) ∙ is

-- ---- threads

-- Where a list is matched with a second, and that with a third, the first is matched with the
-- third.
zip_then : {A B C : Type 0} (R : A → B → Type 0) (S : B → C → Type 0) (T : A → C → Type 0)
    → ((a : A) (b : B) (c : C) → R a b → S b c → T a c) → (xs : List A) (ys : List B) (zs : List C)
    → AllZip R xs ys → AllZip S ys zs → AllZip T xs zs
zip_then R S T join [] [] [] h k = tt
zip_then R S T join [] [] (z ∷ zs) h k = absurd k
zip_then R S T join [] (y ∷ ys) zs h k = absurd h
zip_then R S T join (x ∷ xs) [] zs h k = absurd h
zip_then R S T join (x ∷ xs) (y ∷ ys) [] h k = absurd k
zip_then R S T join (x ∷ xs) (y ∷ ys) (z ∷ zs) h k = (join x y z h.0 k.0, zip_then R S T join xs ys zs h.1 k.1)

-- Two lists that are matched one by one are matched with one more pair behind them.
zip_more : {A B : Type 0} (R : A → B → Type 0) (xs : List A) (ys : List B) (x : A) (y : B) → AllZip R xs ys → R x y
    → AllZip R (xs ++ x ∷ []) (ys ++ y ∷ [])
zip_more R [] [] x y h one = (one, tt)
zip_more R [] (b ∷ ys) x y h one = absurd h
zip_more R (a ∷ xs) [] x y h one = absurd h
zip_more R (a ∷ xs) (b ∷ ys) x y h one = (h.0, zip_more R xs ys x y h.1 one)

-- Matched lists stay so with one more member in the first and its match pushed onto the second.
pub zip_pushed : {A B : Type 0} (R : A → B → Type 0) (xs : List A) (ys ys' : List B) (x : A) (y : B)
    → ys' ≡ ys ++ y ∷ [] → AllZip R xs ys → R x y → AllZip R (xs ++ x ∷ []) ys'
zip_pushed R xs ys ys' x y more h one = rw more (zip_more R xs ys x y h one)

-- Where a result that is Ok has P, and Q follows from P, its value kept as an Option has Q.
pub if_ok : {H E : Type 0} (r : Result H E) (o : Option H) (P Q : H → Type 0) → o ≡ result_ok r → IfOk r P
    → ((h : H) → P h → Q h) → IfSome o Q
if_ok (Ok h) o P Q is p then = subst (λ x. IfSome x Q) (sym is) (then h p)
if_ok (Err e) o P Q is p then = subst (λ x. IfSome x Q) (sym is) tt

-- a list that was gone through by value was gone through whole
pub all_yielded : {A Z : Type 0} (v : Vec A Z) (ys : List A) (s t u : IntoIter A Z) → into_iter_items s ≡ v.items
    → into_iter_len s ≡ vec_len v → Yields (into_iter_steps {X = A} {Z = Z}) s ys t → into_iter_steps t None u
    → ys ≡ v.items
all_yielded v ys s t u items len by ends = sym (map-id ys)
    ∙ (YieldsList-end (YieldsList-from_vec v.items items (len ∙ v.ok.0)) ys t by None u refl ends).0

-- the thread of this share, if it was started
abbrev pub IsOf : {H : Type 0} → (H → Share) → (H → ℕ) → ℕ → Share → Option H → Type 0
IsOf share_of now_of now share o = IfSome o (λ h. (share_of h ≡ share) × (now_of h ≡ now))

-- what came of a thread, if it was started
abbrev pub ComesOf : {H : Type 0} → (H → Share) → (H → ℕ) → Option H → Option ShareEnd → Type 0
ComesOf share_of now_of o e = MatchOption o (e ≡ None) (λ h. IfSome e (λ x. Came (now_of h) (share_of h) x))

-- Of a thread that wasn't started nothing comes.
pub comes_none : {H : Type 0} (share_of : H → Share) (now_of : H → ℕ) (o : Option H) → o ≡ None
    → ComesOf share_of now_of o None
comes_none share_of now_of o is = subst (λ q. ComesOf share_of now_of q None) (sym is) refl

-- Of a thread that was started comes what it hands back for its share.
pub comes_some : {H : Type 0} (share_of : H → Share) (now_of : H → ℕ) (o : Option H) (h : H) (x : ShareEnd) → o ≡ Some h
    → Came (now_of h) (share_of h) x → ComesOf share_of now_of o (Some x)
comes_some share_of now_of o h x is came = subst (λ q. ComesOf share_of now_of q (Some x)) (sym is) came

-- For come_all: what came of a share's thread, if it was started, is what came of the share.
come_of : {H : Type 0} (share_of : H → Share) (now_of : H
    → ℕ) (now : ℕ) (share : Share) (o : Option H) (e : Option ShareEnd) → IsOf share_of now_of now share o
    → ComesOf share_of now_of o e → HasCome now share e
come_of share_of now_of now share o None is of = tt
come_of share_of now_of now share None (Some x) is of = absurd (cc of)
come_of share_of now_of now share (Some h) (Some x) is of =
    subst (λ (s : Share). Came now s x) is.0 (subst (λ (n : ℕ). Came n (share_of h) x) is.1 of)

-- For run_shares: what came of all the threads, in order, is what came of the shares.
pub come_all : {H : Type 0} (share_of : H → Share) (now_of : H → ℕ) (now : ℕ) (shares gone : List Share)
    (started joined : List (Option H)) (ends : List (Option ShareEnd)) → gone ≡ shares → joined ≡ started
    → AllZip (IsOf share_of now_of now) gone started → AllZip (ComesOf share_of now_of) joined ends
    → AllZip (HasCome now) shares ends
come_all share_of now_of now shares gone started joined ends e f h k =
    subst (λ (xs : List Share). AllZip (HasCome now) xs ends) e
    (zip_then (IsOf share_of now_of now) (ComesOf share_of now_of) (HasCome now)
    (come_of share_of now_of now) gone started ends h (subst (λ os. AllZip (ComesOf share_of now_of) os ends) f k))

-- ---- passes that come back

pub record Back (now : ℕ) (shares : List Share) (back : List PassView) : Type 0 where
  pub kept : List PassView
  pub part : IsPart kept (map (λ s. s.pass) shares)
  pub news : List Receipt
  pub handed : HandedBack kept back news
  pub due : IsPart (calls_of news) (due_ends now (flat_map (λ s. s.running.items) shares))

-- With a share more of which nothing came back, the passes that came back are those so far.
back_less : (now : ℕ) (s : Share) (shares : List Share) (back : List PassView) → Back now shares back
    → Back now (s ∷ shares) back
back_less now s shares back b = record {
  kept = b.kept;
  part = part_skip b.kept (map (λ x. x.pass) shares) s.pass b.part;
  news = b.news;
  handed = b.handed;
  due =
      subst (λ (cs : List Call). IsPart (calls_of b.news) cs)
      (sym (due-append now s.running.items (flat_map (λ x. x.running.items) shares)))
      (part_after (calls_of b.news) (due_ends now (flat_map (λ x. x.running.items) shares))
      (due_ends now s.running.items) b.due);
}

-- the calls of one share and of the others
joined_due : (now : ℕ) (mine : List Running) (others : List Running) (e : Ends) (news : List Receipt)
    → HasEnded now mine e → IsPart (calls_of news) (due_ends now others)
    → IsPart (calls_of (e.receipts.items ++ news)) (due_ends now (mine ++ others))
joined_due now mine others e news h rest =
    let made = calls_of e.receipts.items in
    let all : due_ends now (mine ++ others) ≡ made ++ (h.rest ++ due_ends now others) =
    due-append now mine others ∙ ap (λ (cs : List Call). cs ++ due_ends now others) h.due
    ∙ append_assoc made h.rest (due_ends now others) in
    let here : calls_of (e.receipts.items ++ news) ≡ made ++ calls_of news =
    map-append (λ (r : Receipt). r.entry.call) e.receipts.items news in
    rw (all, here) (part_both (calls_of news) (h.rest ++ due_ends now others) made
    (part_after (calls_of news) (due_ends now others) h.rest rest))

-- With a share more whose thread handed its pass back, that pass comes back before those so far.
back_more : (now : ℕ) (s : Share) (e : ShareEnd) (shares : List Share) (back : List PassView) → Came now s e
    → Back now shares back → Back now (s ∷ shares) (e.pass ∷ back)
back_more now s e shares back came b = record {
  kept = s.pass ∷ b.kept;
  part = inl (refl, b.part);
  news = e.ends.receipts.items ++ b.news;
  handed = (e.ends.receipts.items, b.news, refl, came.keeps, b.handed);
  due = joined_due now s.running.items (flat_map (λ x. x.running.items) shares) e.ends b.news came.ended b.due;
}

-- The passes that were kept came back, with receipts of ends due in the shares.
come_back : (now : ℕ) (shares : List Share) (ends : List (Option ShareEnd)) (kept : List ShareEnd)
    → AllZip (HasCome now) shares ends → IsPart (map (λ (x : ShareEnd). Some x) kept) ends
    → Back now shares (map (λ (x : ShareEnd). x.pass) kept)
come_back now shares ends [] h part = record { kept = []; part = tt; news = []; handed = refl; due = tt }
come_back now [] [] (k ∷ kept) h part = absurd part
come_back now [] (o ∷ ends) (k ∷ kept) h part = absurd h
come_back now (s ∷ shares) [] (k ∷ kept) h part = absurd h
come_back now (s ∷ shares) (o ∷ ends) (k ∷ kept) h part = elim part [
  | inl a ↦ back_more now s k shares (map (λ (x : ShareEnd). x.pass) kept)
      (subst (λ (x : Option ShareEnd). HasCome now s x) (sym a.0) h.0) (come_back now shares ends kept h.1 a.1)
  | inr b ↦ back_less now s shares (map (λ (x : ShareEnd). x.pass) (k ∷ kept))
      (come_back now shares ends (k ∷ kept) h.1 b)
]

-- For run: the passes that were gathered came back, with receipts of ends due in the whole list.
pub came_back : (now : ℕ) (passes : List PassView)
    (running left : List Running) (shares : List Share) (ends : List (Option ShareEnd)) (g : Gathered)
    → AreShares passes running shares left
    → AllZip (HasCome now) shares ends → IsGathered ends g → CameBack now running passes g.passes.items
came_back now passes running left shares ends g split come h =
    let b = come_back now shares ends h.kept come h.part in record {
      kept = b.kept;
      part = subst (λ (ps : List PassView). IsPart b.kept ps) split.owners b.part;
      news = b.news;
      handed = subst (λ (ps : List PassView). HandedBack b.kept ps b.news) (sym h.passes) b.handed;
      due =
          subst (λ (cs : List Call). IsPart (calls_of b.news) cs)
          (sym (due-append now (flat_map (λ s. s.running.items) shares) left)
          ∙ ap (λ (rs : List Running). due_ends now rs) split.parts)
          (part_before (calls_of b.news) (due_ends now (flat_map (λ s. s.running.items) shares))
          (due_ends now left) b.due);
    }

-- ---- all of them, where nothing stopped them

-- Where nothing stopped a share, its receipts are of just the ends that are due in it.
whole_share : (now : ℕ) (mine : List Running) (e : Ends) → HasEnded now mine e → e.stop ≡ None
    → calls_of e.receipts.items ≡ due_ends now mine
whole_share now mine e h quiet =
    let none : h.rest ≡ [] = subst (λ o. IfNone o (h.rest ≡ [])) quiet h.all in
    sym (h.due ∙ ap (λ (cs : List Call). calls_of e.receipts.items ++ cs) none ∙ append-nil (calls_of e.receipts.items))

-- Where all shares came back and nothing stopped them, just the ends that are due in them were
-- made.
ended_all : (now : ℕ) (shares : List Share) (kept : List ShareEnd)
    → AllZip (HasCome now) shares (map (λ (x : ShareEnd). Some x) kept) → AllByRecursion (λ e. e.ends.stop ≡ None) kept
    → AreEnded now (flat_map (λ s. s.running.items) shares) (map (λ s. s.pass) shares)
    (map (λ (x : ShareEnd). x.pass) kept) (flat_map (λ e. e.ends.receipts.items) kept)
ended_all now [] [] h quiet = record { ends = refl; handed = refl }
ended_all now [] (k ∷ kept) h quiet = absurd h
ended_all now (s ∷ shares) [] h quiet = absurd h
ended_all now (s ∷ shares) (k ∷ kept) h quiet =
    let others = flat_map (λ (e : ShareEnd). e.ends.receipts.items) kept in
    let a = ended_all now shares kept h.1 quiet.1 in record {
      ends =
          map-append (λ (r : Receipt). r.entry.call) k.ends.receipts.items others
          ∙ ap (λ (cs : List Call). cs ++ calls_of others) (whole_share now s.running.items k.ends h.0.ended quiet.0)
          ∙ ap (λ (cs : List Call). due_ends now s.running.items ++ cs) a.ends
          ∙ sym (due-append now s.running.items (flat_map (λ x. x.running.items) shares));
      handed = (k.ends.receipts.items, others, refl, h.0.keeps, a.handed);
    }

-- For run: where there is no reason to stop and nothing left is due, just the ends due in the list
-- were made.
pub are_ended : (now : ℕ) (passes : List PassView)
    (running left : List Running) (shares : List Share) (ends : List (Option ShareEnd)) (g : Gathered)
    → AreShares passes running shares left
    → AllZip (HasCome now) shares ends → IsGathered ends g → g.stop ≡ None → due_ends now left ≡ []
    → AreEnded now running passes g.passes.items g.receipts.items
are_ended now passes running left shares ends g split come h none no_more =
    let w = h.whole none in
    let a = ended_all now shares h.kept (subst (λ (es : List (Option ShareEnd)). AllZip (HasCome now) shares es) w.all
    come) w.quiet in
    let whole : due_ends now (flat_map (λ s. s.running.items) shares) ≡ due_ends now running =
    sym (append-nil (due_ends now (flat_map (λ s. s.running.items) shares)))
    ∙ ap (λ (cs : List Call). due_ends now (flat_map (λ s. s.running.items) shares) ++ cs) (sym no_more)
    ∙ sym (due-append now (flat_map (λ s. s.running.items) shares) left)
    ∙ ap (λ (rs : List Running). due_ends now rs) split.parts in record {
      ends = ap calls_of w.joined ∙ a.ends ∙ whole;
      handed = rw (h.passes, w.joined, ← split.owners) a.handed;
    }

-- ---- nothing is due

-- For leave and end_due: where no Job of a list is due, it has no ends that are due.
pub none_due : (now : ℕ) (rs : List Running) → All (λ r. is_due now r ≡ false) rs → due_ends now rs ≡ []
none_due now [] h = refl
none_due now (r ∷ rs) h =
    let here : is_due now r ≡ false = h 0 r (omega arith) in
    rw here (none_due now rs (λ k d lt. h (suc k) d (omega arith)))

-- For each_not: where a list has no ends that are due, its first Job isn't due, and the rest has
-- none.
first_not : (now : ℕ) (b : Bool) (r : Running) (rs : List Running) → is_due now r ≡ b → due_ends now (r ∷ rs) ≡ []
    → (is_due now r ≡ false) × (due_ends now rs ≡ [])
first_not now false r rs is none = (is, (rw is at none))
first_not now true r rs is none = absurd (cc (rw is at none))

-- For end_due: where a list has no ends that are due, none of its Jobs is due.
pub each_not : (now : ℕ) (rs : List Running) → due_ends now rs ≡ [] → All (λ r. is_due now r ≡ false) rs
each_not now [] none k d lt = absurd (omega arith)
each_not now (r ∷ rs) none zero d lt = (first_not now (is_due now r) r rs refl none).0
each_not now (r ∷ rs) none (suc k) d lt = each_not now rs (first_not now (is_due now r) r rs refl none).1 k d
    (omega arith)

-- Passes that come back as they were come back with no new receipts.
all_same : (passes : List PassView) → HandedBack passes passes []
all_same [] = refl
all_same (p ∷ ps) = (
  [],
  [],
  refl,
  record {
    own = tt;
    kept = ap (λ (rs : List Receipt). record p { receipts = rs })
        (sym (append-nil p.receipts));
  },
  all_same ps,
)

-- A list is a part of itself.
part_whole : {X : Type 0} (xs : List X) → IsPart xs xs
part_whole [] = tt
part_whole (x ∷ xs) = inl (refl, part_whole xs)

-- For end_due: all passes, handed back as they were, came back.
pub none_back : (now : ℕ) (running : List Running) (passes : List PassView) → CameBack now running passes passes
none_back now running passes = record {
  kept = passes;
  part = part_whole passes;
  news = [];
  handed = all_same passes;
  due = tt;
}

-- For end_due: where nothing is due, an empty list of receipts has all the ends, and all passes
-- come back.
pub none_ended : (now : ℕ) (running : List Running) (passes : List PassView) (rs : List Receipt)
    → due_ends now running ≡ [] → rs ≡ [] → AreEnded now running passes passes rs
none_ended now running passes rs none is = record {
  ends = ap (λ (qs : List Receipt). calls_of qs) is ∙ sym none;
  handed = subst (λ (qs : List Receipt). HandedBack passes passes qs) (sym is) (all_same passes);
}
