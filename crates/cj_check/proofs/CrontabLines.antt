-- The lines of a text, and the entries of a crontab.
use Rattle.std.proofs.Common.{◌≡◌, ◌≢◌, ◌⊎◌, inl, inr, ℕ, suc, ◌+◌, ◌<◌, ◌≤◌, Bool, true, false, cond, List, [], ◌∷◌, ◌++◌, Bor, length, take, drop, get_or, refl, sym, ap, ◌∙◌, subst, append_assoc, take-append-drop, take_all, arith, zero-lt-suc, lt-suc_self}
use Rattle.std.specs.Prelude.{◌==◌}
use Rattle.std.proofs.lemmas.Bool.Decides.{nat_tests}
use Rattle.std.specs.List.{All, AllByRecursion, AllZip}
use Rattle.std.specs.Prelude.{Option, None, Some, IfSome, option_map, nat_lt}
use Rattle.std.proofs.lemmas.List.{take_more}
use Rattle.std.proofs.lemmas.List.Elements.{recursion_from_All}
use Rattle.cj_io.specs.Lines.{IsPlain}
use Rattle.cj_check.specs.declared.crontab.entries.Entry.{Entry}
use Rattle.cj_check.specs.Crontab.{Adds, AddsOne, AddsUnless, AreEntries, AreRead, IsEntry, is_silent, lines_behind, lines_in, onto_line, telling, without_blanks}

-- the first byte of a text ends its first line, or is in it
lines_cons : (b : ℕ) (bs : List ℕ) (t : Bool) → (b == 10) ≡ t
    → lines_in (b ∷ bs) ≡ cond t ([] ∷ lines_in bs) (onto_line b (lines_in bs))
unfolding lines_in
lines_cons b bs t e = rw e refl

-- no bytes are an empty line
lines_none : lines_in [] ≡ [] ∷ []
unfolding lines_in
lines_none = refl

-- a byte that is no line feed
not_feed : (b : ℕ) → b ≢ 10 → (b == 10) ≡ false
not_feed b ne = grind (arith, nat_tests)

-- a text in which no line ends is one line
plain_alone : (text : List ℕ) → AllByRecursion (λ b. b ≢ 10) text → lines_in text ≡ text ∷ []
plain_alone [] h = lines_none
plain_alone (b ∷ bs) h = lines_cons b bs false (not_feed b h.0) ∙ ap (onto_line b) (plain_alone bs h.1)

-- what stands before a line feed is the first line
plain_before : (line more : List ℕ) → AllByRecursion (λ b. b ≢ 10) line
    → lines_in (line ++ 10 ∷ more) ≡ line ∷ lines_in more
plain_before [] more h = lines_cons 10 more true refl
plain_before (b ∷ bs) more h =
    lines_cons b (bs ++ 10 ∷ more) false (not_feed b h.0) ∙ ap (onto_line b) (plain_before bs more h.1)

-- a text without a line feed is one line
pub one_line : (text : List ℕ) (k : ℕ) → IsPlain (take k text) → length text ≤ k → lines_in text ≡ text ∷ []
one_line text k plain all =
    plain_alone text (recursion_from_All (λ b. b ≢ 10) text (subst IsPlain (take_all k text all) plain))

-- a text in two at a line feed
at_feed : (bytes : List ℕ) (k : ℕ) → k < length bytes → get_or bytes k 0 ≡ 10
    → bytes ≡ take k bytes ++ 10 ∷ drop (k + 1) bytes
at_feed bytes k lt is =
    sym (take-append-drop (k + 1) bytes)
    ∙ ap (λ l. l ++ drop (k + 1) bytes) (take_more bytes k 0 lt ∙ ap (λ y. take k bytes ++ y ∷ []) is)
    ∙ append_assoc (take k bytes) (10 ∷ []) (drop (k + 1) bytes)

-- a line feed ends the first line
pub further_lines : (text : List ℕ) (k : ℕ) → IsPlain (take k text) → k < length text → get_or text k 0 ≡ 10
    → lines_in text ≡ take k text ∷ lines_in (drop (k + 1) text)
further_lines text k plain lt is =
    ap lines_in (at_feed text k lt is)
    ∙ plain_before (take k text) (drop (k + 1) text) (recursion_from_All (λ b. b ≢ 10) (take k text) plain)

-- ---- entries

-- of what was read of a crontab, before a line of that many behind the first: its entries, and what is left of its
-- bytes
pub record Goes (bytes : List ℕ) (before : ℕ) (rest : Option (List ℕ)) (entries : List Entry) : Type 0 where
  pub read : AreRead (telling 1 (lines_in bytes)) (telling (before + 1) (lines_behind rest)) entries
  pub room : length entries ≤ 100_000
  pub within : IfSome rest (λ t. length t + before ≤ length bytes)

-- one entry more, for one line more
zip_push : (es : List Entry) (ls : List (ℕ × List ℕ)) (e : Entry) (l : ℕ × List ℕ) → AllZip IsEntry es ls → IsEntry e l
    → AllZip IsEntry (es ++ e ∷ []) (ls ++ l ∷ [])
zip_push [] [] e l h is = (is, tt)
zip_push [] (x ∷ ls) e l h is = absurd h
zip_push (d ∷ es) [] e l h is = absurd h
zip_push (d ∷ es) (x ∷ ls) e l h is = (h.0, zip_push es ls e l h.1 is)

module _ (all : List (ℕ × List ℕ)) where
  -- a line that says something has its entry
  one_more : (l : ℕ × List ℕ) (more : List (ℕ × List ℕ)) (es es' : List Entry) → AddsOne l es es'
      → AreRead all (l ∷ more) es → AreRead all more es'
  one_more l more es es' adds r = record {
    read = r.read ++ l ∷ [];
    are = r.are ∙ sym (append_assoc r.read (l ∷ []) more);
    entries_are = subst (λ xs. AllZip IsEntry xs (r.read ++ l ∷ [])) (sym adds.grows)
        (zip_push es r.read adds.entry l r.entries_are adds.is);
  }

  -- and one that says nothing has none
  goes_on : (t : Bool) (l : ℕ × List ℕ) (more : List (ℕ × List ℕ)) (es es' : List Entry) → AddsUnless t l es es'
      → AreRead all (cond t more (l ∷ more)) es → AreRead all more es'
  goes_on true l more es es' same r = subst (AreRead all more) (sym same) r
  goes_on false l more es es' adds r = one_more l more es es' adds r

-- a line is read
pub line_read : (bytes text line : List ℕ) (before : ℕ) (behind : Option (List ℕ)) (es es' : List Entry)
    → Goes bytes before (Some text) es → lines_in text ≡ line ∷ lines_behind behind → Adds (before + 1) line es es'
    → AreRead (telling 1 (lines_in bytes)) (telling (before + 1 + 1) (lines_behind behind)) es'
line_read bytes text line before behind es es' g is adds =
    goes_on (telling 1 (lines_in bytes)) (is_silent (without_blanks line)) (before + 1, without_blanks line)
    (telling (before + 1 + 1) (lines_behind behind)) es es' adds
    (subst (λ ls. AreRead (telling 1 (lines_in bytes)) (telling (before + 1) ls) es) is g.read)

-- what is left stays within the bytes
shorter_within : (text bytes : List ℕ) (before : ℕ) (behind : Option (List ℕ)) → length text + before ≤ length bytes
    → IfSome behind (λ t. length t < length text) → IfSome behind (λ t. length t + (before + 1) ≤ length bytes)
shorter_within text bytes before None le h = tt
shorter_within text bytes before (Some t) le h = omega (arith, le, h)

-- and the reading goes on
pub line_goes : (bytes text line : List ℕ) (before : ℕ) (behind : Option (List ℕ)) (es es' : List Entry)
    → Goes bytes before (Some text) es → lines_in text ≡ line ∷ lines_behind behind
    → IfSome behind (λ t. length t < length text) → Adds (before + 1) line es es' → length es' ≤ 100_000
    → Goes bytes (before + 1) behind es'
line_goes bytes text line before behind es es' g is short adds room = record {
  read = line_read bytes text line before behind es es' g is adds;
  room = room;
  within = shorter_within text bytes before behind g.within short;
}

-- the lines that are left
abbrev pub lines_left : Option (Bor (List ℕ)) → List (List ℕ)
lines_left rest = lines_behind (option_map (λ t. t.now) rest)

-- a crontab is being read, or nothing more is read of it
abbrev pub Reads : List ℕ → ℕ → Option (Bor (List ℕ)) → List Entry → Type 0
Reads bytes before rest es =
    Goes bytes before (option_map (λ t. t.now) rest) es ⊎ ((rest ≡ None) × AreEntries bytes es)

-- what was read is all, or too much
full : (bytes : List ℕ) (left : List (ℕ × List ℕ)) (es : List Entry)
    → AreRead (telling 1 (lines_in bytes)) left es → nat_lt 100_000 (length es) ≡ true → AreEntries bytes es
full bytes left es r much = record { left = left; read = r; all = λ le. grind (arith, nat_tests) }

-- where no line is left, all have their entries
all_read : (bytes : List ℕ) (before : ℕ) (es : List Entry) → Goes bytes before None es → AreEntries bytes es
all_read bytes before es g = record { left = []; read = g.read; all = λ _. refl }

-- so it is at the end
pub read_whole : (bytes : List ℕ) (before : ℕ) (rest : Option (Bor (List ℕ))) (es : List Entry) → rest ≡ None
    → Reads bytes before rest es → AreEntries bytes es
read_whole bytes before rest es none (inl g) =
    all_read bytes before es
    (subst (λ (o : Option (Bor (List ℕ))). Goes bytes before (option_map (λ t. t.now) o) es) none g)
read_whole bytes before rest es none (inr x) = x.1

-- nothing is read yet
pub begins : (bytes : Bor (List ℕ)) → Reads bytes.now 0 (Some bytes) []
begins bytes = inl (record {
  read = record { read = []; are = refl; entries_are = tt };
  room = omega arith;
  within = omega arith;
})

-- a line was read, by whether there is an entry too many
reads_by : (bytes text line : List ℕ) (before : ℕ) (behind : Option (Bor (List ℕ))) (es es' : List Entry) (t : Bool)
    → nat_lt 100_000 (length es') ≡ t → Goes bytes before (Some text) es
    → lines_in text ≡ line ∷ lines_behind (option_map (λ t. t.now) behind)
    → IfSome (option_map (λ t. t.now) behind) (λ t. length t < length text) → Adds (before + 1) line es es'
    → Reads bytes (before + 1) (cond t None behind) es'
reads_by bytes text line before behind es es' true much g is short adds =
    inr (
      refl,
      full bytes (telling (before + 1 + 1) (lines_behind (option_map (λ t. t.now) behind))) es'
          (line_read bytes text line before (option_map (λ t. t.now) behind) es es' g is adds) much,
    )
reads_by bytes text line before behind es es' false few g is short adds =
    inl (line_goes bytes text line before (option_map (λ t. t.now) behind) es es' g is short adds
    (grind (arith, nat_tests)))

-- what is behind a line is shorter than the text that begins with it
seen_shorter : (behind : Option (Bor (List ℕ))) (n : ℕ) → IfSome behind (λ t. length t.now < n)
    → IfSome (option_map (λ t. t.now) behind) (λ t. length t < n)
seen_shorter None n h = tt
seen_shorter (Some t) n h = h

-- a line is read, and so the reading goes on, or ends
pub reads_on : (bytes line : List ℕ) (number : ℕ) (text : Bor (List ℕ)) (behind : Option (Bor (List ℕ)))
    (es es' : List Entry) → Reads bytes number (Some text) es
    → lines_in text.now ≡ line ∷ lines_behind (option_map (λ t. t.now) behind)
    → IfSome behind (λ t. length t.now < length text.now) → Adds (number + 1) line es es'
    → Reads bytes (number + 1) (cond (nat_lt 100_000 (length es')) None behind) es'
reads_on bytes line number text behind es es' (inl g) is short adds =
    reads_by bytes text.now line number behind es es' (nat_lt 100_000 (length es')) refl g is
    (seen_shorter behind (length text.now) short) adds
reads_on bytes line number text behind es es' (inr x) is short adds = (let e = x.0 in absurd cc)

-- the number of a line isn't above that of the bytes
pub number_fits : (bytes : List ℕ) (number : ℕ) (text : Bor (List ℕ)) (es : List Entry)
    → Reads bytes number (Some text) es → number ≤ length bytes
number_fits bytes number text es (inl g) = let le = g.within in omega (arith, le)
number_fits bytes number text es (inr x) = (let e = x.0 in absurd cc)

-- each turn leaves fewer lines
pub fewer_lines : (line : List ℕ) (text : Bor (List ℕ)) (behind : Option (Bor (List ℕ))) (t : Bool)
    → lines_in text.now ≡ line ∷ lines_behind (option_map (λ t. t.now) behind)
    → length (lines_left (cond t None behind)) < length (lines_left (Some text))
fewer_lines line text behind true is = rw is (zero-lt-suc _)
fewer_lines line text behind false is = rw is (lt-suc_self _)
