-- What a writer holds after several writes.
use Rattle.std.proofs.Common.{◌≡◌, ◌∙◌, ◌+◌, ◌-◌, ℕ, List, [], ◌++◌, length, take, drop, sym, ap, subst, append_assoc, append-nil}
use Rattle.std.proofs.Math.Seq.{take-add, take-append-add}
use Rattle.std.proofs.lemmas.List.{take_rest}
use Rattle.std.specs.Prelude.{Option, Some, None}
use Rattle.std.specs.Io.KnownBytes.{Appends, Keeps}
use Rattle.cj_io.specs.Writing.{AppendsSome, HasPrinted, Prints}

-- one write after another
pub appends_both : (a b c : Option (List ℕ)) (xs ys : List ℕ) → Appends a b xs → Appends b c ys → Appends a c (xs ++ ys)
appends_both None b c xs ys h k = tt
appends_both (Some a) None c xs ys h k = absurd h
appends_both (Some a) (Some b) None xs ys h k = absurd k
appends_both (Some a) (Some b) (Some c) xs ys h k = k ∙ ap (λ l. l ++ ys) h ∙ append_assoc a xs ys

-- nothing was written
pub appends_none : (a : Option (List ℕ)) → Appends a a []
appends_none None = tt
appends_none (Some a) = sym (append-nil a)

-- A writer that keeps what it has after some bytes were appended has these appended.
pub appends_kept : (a b c : Option (List ℕ)) (xs : List ℕ) → Appends a b xs → Keeps b c → Appends a c xs
appends_kept None b c xs h k = tt
appends_kept (Some a) None c xs h k = absurd h
appends_kept (Some a) (Some b) None xs h k = absurd k
appends_kept (Some a) (Some b) (Some c) xs h k = k ∙ h

-- a beginning, and a beginning of what is left
pub appends_more : (a b c : Option (List ℕ)) (xs : List ℕ) (n m : ℕ) → Appends a b (take n xs)
    → Appends b c (take m (take (length xs - n) (drop n xs))) → Appends a c (take (n + m) xs)
appends_more a b c xs n m h k =
    let rest : take m (take (length xs - n) (drop n xs)) ≡ take m (drop n xs) = ap (λ l. take m l) (take_rest xs n) in
    subst (λ l. Appends a c l) (sym (take-add n m xs)) (appends_both a b c _ _ h (subst (λ l. Appends b c l) rest k))

-- none of it was written
pub appends_nothing : (a : Option (List ℕ)) (xs : List ℕ) → AppendsSome a a xs
appends_nothing a xs = (0, appends_none a)

-- ---- text that waits

-- For Pending::print: a text is printed where nothing was written and it waits behind what waited.
pub prints_waiting : (a : Option (List ℕ)) (waited text waits : List ℕ) → waits ≡ waited ++ text
    → Prints a waited text a waits
prints_waiting a waited text waits e = record { written = []; appended = appends_none a; are = sym e }

-- For Pending::print: a text is printed where it was written with all that waited, and none waits.
pub prints_all : (a b : Option (List ℕ)) (waited text waits all : List ℕ) → all ≡ waited ++ text → Appends a b all
    → waits ≡ [] → Prints a waited text b waits
prints_all a b waited text waits all e h w = record {
  written = all;
  appended = h;
  are = sym e ∙ sym (ap (λ l. all ++ l) w ∙ append-nil all);
}

-- A writer that is as at the start, where nothing waits, has printed the empty text.
pub nothing_printed : (a : Option (List ℕ)) (waits : List ℕ) → waits ≡ [] → HasPrinted a a waits []
nothing_printed a waits e = record { written = []; appended = appends_none a; is = sym e }

module _ (start old new : Option (List ℕ)) (waits text : List ℕ) (h : HasPrinted start old waits text) where
  -- a text more
  pub printed_more : (line waits' : List ℕ) → Prints old waits line new waits'
      → HasPrinted start new waits' (text ++ line)
  printed_more line waits' p = record {
    written = h.written ++ p.written;
    appended = appends_both start old new h.written p.written h.appended p.appended;
    is = ap (λ l. l ++ line) h.is ∙ append_assoc h.written waits line ∙ ap (λ l. h.written ++ l) p.are
        ∙ sym (append_assoc h.written p.written waits');
  }

  -- of a text more a beginning
  pub printed_some : (line : List ℕ) → AppendsSome old new (waits ++ line) → AppendsSome start new (text ++ line)
  printed_some line s =
      let is : text ++ line ≡ h.written ++ (waits ++ line) = ap (λ l. l ++ line) h.is
      ∙ append_assoc h.written waits line in
      let cut : take (length h.written + s.0) (text ++ line) ≡ h.written ++ take s.0 (waits ++ line) =
      ap (λ l. take (length h.written + s.0) l) is ∙ take-append-add h.written (waits ++ line) s.0 in (
        length h.written + s.0,
        subst (λ l. Appends start new l) (sym cut)
            (appends_both start old new h.written _ h.appended s.1),
      )

  -- what waited was written
  pub printed_whole : Appends old new waits → Appends start new text
  printed_whole w = subst (λ l. Appends start new l) (sym h.is)
      (appends_both start old new h.written waits h.appended w)

  -- Where a beginning of what waited was written, a beginning of the whole text was.
  pub printed_begun : AppendsSome old new waits → AppendsSome start new text
  printed_begun s =
      let cut : take (length h.written + s.0) text ≡ h.written ++ take s.0 waits =
      ap (λ l. take (length h.written + s.0) l) h.is ∙ take-append-add h.written waits s.0 in (
        length h.written + s.0,
        subst (λ l. Appends start new l) (sym cut)
            (appends_both start old new h.written _ h.appended s.1),
      )
