-- A text is refused with the fault that it has, and with no other.
use Rattle.std.proofs.Common.{◌≡◌, ◌≢◌, ◌⊎◌, ℕ, ◌<◌, ◌≤◌, nat_lt, Bool, true, false, List, [], ◌∷◌, length, Some, None, Result, Ok, Err, refl, sym, ap, ◌∙◌, arith, inl, inr, codes}
use Rattle.std.proofs.lemmas.Bool.Decides.{nat_tests}
use Rattle.std.specs.Result.{result_err}
use Rattle.cj_base.specs.declared.schedule_fault.ScheduleCause.{ScheduleCause}
use Rattle.cj_base.specs.declared.schedule_fault.ScheduleCause.TheVariants.{Length, Empty, Zone, Macro, Fields, Syntax, Range, Order, Step}
use Rattle.cj_base.specs.declared.schedule_fault.ScheduleFault.{ScheduleFault}
use Rattle.cj_schedule.specs.Faults.{ArePlaced, IsFirstFault, HasFieldFault, IsTextFault, IsFault}
use Rattle.cj_schedule.specs.Grammar.{are_blanks, meaning_of}
use Rattle.cj_schedule.specs.Numbers.{Lists}
use Rattle.cj_schedule.specs.Pieces.{Piece}
use Rattle.cj_schedule.specs.Reading.{five, fault, fields_of, begins, has_zone, macro_of, words_lists, lists_or_fault}
use Rattle.cj_schedule.proofs.FaultLemmas.{faulty_by}
use Rattle.cj_schedule.proofs.Laws.{lists_complete}
use Rattle.cj_schedule.proofs.Words.{texts, words_at, words_complete}
use Rattle.cj_schedule.specs.one_fault.OneFault.{IsWhole, IsFaultOf, NoTwoFaults, FaultyIsNoSchedule, ToldIsFault}
use Rattle.cj_schedule.proofs.OneFaultLemmas.Fields.{first_faulty, first_not_zero}
use Rattle.cj_schedule.proofs.OneFaultLemmas.Placed.{placed_read, placed_words}

abbrev failed : ScheduleFault → Result Lists ScheduleFault
failed f = Err f

-- Refusals that are the same have the same fault.
one_failed : (a b : ScheduleFault) → failed a ≡ failed b → a ≡ b
one_failed a b h = cc

-- A text of at most 1,024 bytes is not too long by the test of the reading.
is_short : (text : List ℕ) → length text ≤ 1024 → nat_lt 1024 (length text) ≡ false
is_short text short = grind (arith, nat_tests)

-- ---- faults of the whole text, by its words

-- A text of at most 1,024 bytes is read as its words are.
by_words : (text : List ℕ) (r : Result Lists ScheduleFault) → length text ≤ 1024 → words_lists (words_at 0 text) ≡ r
    → lists_or_fault text ≡ r
unfolding lists_or_fault
by_words text r short h = rw (is_short text short) h

-- Words the first of which names a zone are refused with Zone.
zone_read : (ps : List Piece) (word : List ℕ) (words : List (List ℕ)) → texts ps ≡ word ∷ words → has_zone word ≡ true
    → words_lists ps ≡ failed (fault Zone)
unfolding words_lists
zone_read [] word words e zone = cc
zone_read (p ∷ ps) word words e zone =
    let same : p.text ≡ word = cc in
    let here : has_zone p.text ≡ true = ap has_zone same ∙ zone in
    rw here refl

-- For macro_stands: a single word that is no macro of the table is refused with Macro.
macro_alone : (p : Piece) (word : List ℕ) (words : List (List ℕ)) → texts (p ∷ []) ≡ word ∷ words
    → (words ≢ []) ⊎ (meaning_of word ≡ None) → macro_of p.text [] ≡ failed (fault Macro)
unfolding macro_of
macro_alone p word words e (inl more) = let none : words ≡ [] = cc in absurd (more none)
macro_alone p word words e (inr none) =
    let same : p.text ≡ word = cc in
    let here : meaning_of p.text ≡ None = ap meaning_of same ∙ none in
    rw here refl

-- A macro that has other words behind it, or isn't in the table, is refused with Macro.
macro_stands : (ps : List Piece) (p : Piece) (word : List ℕ) (words : List (List ℕ)) → texts (p ∷ ps) ≡ word ∷ words
    → (words ≢ []) ⊎ (meaning_of word ≡ None) → macro_of p.text ps ≡ failed (fault Macro)
unfolding macro_of
macro_stands [] p word words e h = macro_alone p word words e h
macro_stands (q ∷ qs) p word words e h = refl

-- Words the first of which is such a macro, and names no zone, are refused with Macro.
macro_read : (ps : List Piece) (word : List ℕ) (words : List (List ℕ)) → texts ps ≡ word ∷ words → has_zone word ≡ false
    → begins (codes "@") word ≡ true
    → (words ≢ []) ⊎ (meaning_of word ≡ None) → words_lists ps ≡ failed (fault Macro)
unfolding words_lists
macro_read [] word words e zone at h = cc
macro_read (p ∷ ps) word words e zone at h =
    let same : p.text ≡ word = cc in
    let no_zone : has_zone p.text ≡ false = ap has_zone same ∙ zone in
    let at_sign : begins (codes "@") p.text ≡ true = ap (begins (codes "@")) same ∙ at in
    rw (no_zone, at_sign) (macro_stands ps p word words e h)

-- Words of which other than four follow the first are not five.
not_five : (p : Piece) (ps : List Piece) (word : List ℕ) (words : List (List ℕ)) → texts (p ∷ ps) ≡ word ∷ words
    → length words ≢ 4 → five (p ∷ ps) ≡ None
not_five p [] word words e h = refl
not_five p (a ∷ []) word words e h = refl
not_five p (a ∷ b ∷ []) word words e h = refl
not_five p (a ∷ b ∷ c ∷ []) word words e h = refl
not_five p (a ∷ b ∷ c ∷ d ∷ []) word words e h =
    let same : texts (a ∷ b ∷ c ∷ d ∷ []) ≡ words = cc in absurd (h (sym (ap length same)))
not_five p (a ∷ b ∷ c ∷ d ∷ x ∷ rest) word words e h = refl

-- Words that begin as a field does, and aren't five, are refused with Fields.
fields_read : (ps : List Piece) (word : List ℕ) (words : List (List ℕ)) → texts ps ≡ word ∷ words
    → has_zone word ≡ false → begins (codes "@") word ≡ false → length words ≢ 4
    → words_lists ps ≡ failed (fault Fields)
unfolding words_lists fields_of
fields_read [] word words e zone at h = cc
fields_read (p ∷ ps) word words e zone at h =
    let same : p.text ≡ word = cc in
    let no_zone : has_zone p.text ≡ false = ap has_zone same ∙ zone in
    let no_at : begins (codes "@") p.text ≡ false = ap (begins (codes "@")) same ∙ at in
    rw (no_zone, no_at, not_five p ps word words e h) refl

-- A text of blanks alone is refused with Empty.
empty_read : (text : List ℕ) → are_blanks text ≡ true → words_lists (words_at 0 text) ≡ failed (fault Empty)
unfolding words_lists
empty_read text h = rw (placed_read [] 0 text h) refl

-- A text with a fault of the whole is refused with that fault.
text_fault_read : (text : List ℕ) (cause : ScheduleCause) → IsTextFault text cause
    → lists_or_fault text ≡ failed (fault cause)
unfolding lists_or_fault
text_fault_read text Length h =
    let long : nat_lt 1024 (length text) ≡ true = grind (arith, nat_tests) in
    rw long refl
text_fault_read text Empty (short, blanks) = by_words text _ short (empty_read text blanks)
text_fault_read text Zone (word, words, short, are, zone) = by_words text _ short
    (zone_read (words_at 0 text) word words (words_complete (word ∷ words) 0 text are) zone)
text_fault_read text Macro (word, words, short, are, zone, at, h) =
    by_words text _ short (macro_read (words_at 0 text) word words (words_complete (word ∷ words) 0 text are) zone at h)
text_fault_read text Fields (word, words, short, are, (zone, at), h) =
    by_words text _ short (fields_read (words_at 0 text) word words (words_complete (word ∷ words) 0 text are) zone at
    h)
text_fault_read text Syntax h = absurd h
text_fault_read text Range h = absurd h
text_fault_read text Order h = absurd h
text_fault_read text Step h = absurd h

-- ---- faults of the fields

-- For whole_short, by whether the text is longer than 1,024 bytes: it isn't.
short_by : (text : List ℕ) (long : Bool) → nat_lt 1024 (length text) ≡ long → IsWhole text → length text ≤ 1024
short_by text true e whole =
    let long : 1024 < length text = grind (arith, nat_tests) in absurd (whole Length long)
short_by text false e whole = grind (arith, nat_tests)

-- A text without a fault of the whole has at most 1,024 bytes.
whole_short : (text : List ℕ) → IsWhole text → length text ≤ 1024
whole_short text whole = short_by text _ refl whole

-- A test that can't be true is false.
false_unless : (b : Bool) → (b ≡ true → ⊥) → b ≡ false
false_unless true h = absurd (h refl)
false_unless false h = refl

-- Five words of a text without a fault of the whole are refused with the first field's fault.
five_words_read : (text : List ℕ) (a b c d e : Piece) (f : ScheduleFault) → IsWhole text
    → ArePlaced 0 text (a ∷ b ∷ c ∷ d ∷ e ∷ []) → IsFirstFault a b c d e f
    → words_lists (words_at 0 text) ≡ failed f
unfolding words_lists fields_of
five_words_read text a b c d e f whole placed first =
    let short = whole_short text whole in
    let are = placed_words (a ∷ b ∷ c ∷ d ∷ e ∷ []) 0 text placed in
    let others = texts (b ∷ c ∷ d ∷ e ∷ []) in
    let no_zone : has_zone a.text ≡ false = false_unless (has_zone a.text)
    (λ zone. whole Zone (a.text, others, short, are, zone)) in
    let no_at : begins (codes "@") a.text ≡ false =
    false_unless (begins (codes "@") a.text) (λ at. whole Macro
    (a.text, others, short, are, no_zone, at, inl (λ none. absurd cc))) in
    rw (placed_read (a ∷ b ∷ c ∷ d ∷ e ∷ []) 0 text placed)
    (rw (no_zone, no_at) (first_faulty (record { minute = a; hour = b; day = c; month = d; weekday = e }) f first))

-- A text that has a fault is refused with that one.
fault_read : (text : List ℕ) (f : ScheduleFault) → IsFaultOf text f → lists_or_fault text ≡ failed f
fault_read text f (inl (field, byte, h)) =
    text_fault_read text f.cause h
    ∙ ap (λ n. failed (record { field = n; byte = 0; cause = f.cause })) (sym field)
    ∙ ap (λ n. failed (record { field = f.field; byte = n; cause = f.cause })) (sym byte)
fault_read text f (inr (whole, (a, b, c, d, e, placed, first))) =
    by_words text (failed f) (whole_short text whole) (five_words_read text a b c d e f whole placed first)

-- ---- the laws

-- For fault_laws: no text has two faults.
pub no_two_faults : NoTwoFaults
no_two_faults text a b h k = one_failed a b (sym (fault_read text a h) ∙ fault_read text b k)

-- What is refused is not also read as lists.
no_schedule : (r : Result Lists ScheduleFault) (f : ScheduleFault) (lists : Lists) → r ≡ failed f → r ≡ Ok lists → ⊥
no_schedule r f lists h k = let both : failed f ≡ Ok lists = sym h ∙ k in absurd cc

-- For fault_laws: a text that has a fault is no schedule.
pub faulty_is_no_schedule : FaultyIsNoSchedule
faulty_is_no_schedule text f h s schedule =
    no_schedule (lists_or_fault text) f schedule.lists (fault_read text f h)
    (lists_complete text schedule.lists schedule.short schedule.fields)

-- Where a reading's fault is given, the reading is refused with it.
has_failed : (r : Result Lists ScheduleFault) (f : ScheduleFault) → result_err r ≡ Some f → r ≡ failed f
has_failed (Ok lists) f h = cc
has_failed (Err g) f h = let same : g ≡ f = cc in ap failed same

-- A text that is refused with the fault of a field has no fault of the whole.
no_text_fault : (text : List ℕ) (f : ScheduleFault) → lists_or_fault text ≡ failed f → HasFieldFault text f
    → IsWhole text
no_text_fault text f told (a, b, c, d, e, placed, first) cause h =
    let same : fault cause ≡ f = one_failed (fault cause) f (sym (text_fault_read text cause h) ∙ told) in
    first_not_zero a b c d e f first (sym (ap (λ (g : ScheduleFault). g.field) same))

-- For told_is_fault: a fault of the grammar with which a text is refused is the text's own.
told_by : (text : List ℕ) (f : ScheduleFault) → lists_or_fault text ≡ failed f → IsFault text f → IsFaultOf text f
told_by text f told (inl h) = inl h
told_by text f told (inr (short, h)) = inr (no_text_fault text f told h, h)

-- For fault_laws: the fault by which a text is refused is one that it has.
pub told_is_fault : ToldIsFault
told_is_fault text f h =
    let told = has_failed (lists_or_fault text) f h in told_by text f told (faulty_by text (Err f) told)
