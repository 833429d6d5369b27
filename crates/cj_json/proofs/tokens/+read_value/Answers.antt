-- read_value: by its first token; items and members go on by one at each turn.
use Rattle.std.proofs.Common.{rules, ◌≡◌, ◌∙◌, ◌-◌, ◌<◌, ◌≤◌, ◌∷◌, [], length, true, Some, None, Err, IfErr, inr, refl, sym, ap, subst, arith}
use Rattle.json.specs.Token.{Token}
use Rattle.json.specs.Json.{after_end_array, read_key}
use Rattle.json.specs.Reads.{token_of}
use Rattle.json.proofs.Grammar.{read_key-shorter}
use Rattle.serde_json.specs.Data.{items_depth, members_depth, null, boolean, string, put}
use Rattle.serde_json.specs.View.{items_view, members_view, view}
use Rattle.serde_json.specs.declared.value.Value.{Array, Bool, Null, Object, String, the_lemmas}
use Rattle.serde_json.proofs.Views.{view-Array, view-Object}
use Rattle.cj_json.specs.Tokens.{Begins, BeginsItems, BeginsNoItems, BeginsNoMembers, BeginsNone, IsUnread}
use Rattle.cj_base.specs.declared.refusal.Refusal.TheVariants.{Syntax}
use Rattle.cj_json.proofs.TokenLemmas.{MembersLead, array_lacks, deep_array, deep_object, items_lack, key_lacks, member_lacks, nothing_begins, number_lacks, number_unread, object_lacks, other_begins, unread, array_begins, boolean_begins, followed-more, followed-none, is_number, items_depth-push, leads-end, begins_none, members-end, members-more, members-start, members_depth-put, null_begins, object_begins, string_begins}
use Rattle.cj_json.proofs.tokens.+read_value.Goals as goal

pub read_items-items-preserved : goal.read_items-items-preserved
read_items-items-preserved t c =
    let l = c.items in
    let n = l.invariant.turns.0 in
    let r = c.read_value.new.reader in
    let v = c.in_ok-item.item in
    let found = c.in_ok-item.ensures in
    let going : (after_end_array l.reader ≡ None) × (c.take_end_array.new.self ≡ l.reader) = grind arith in
    let less : length r < length l.reader = rw (← going.1) found.shorter in
    let first : Begins c.args.levels l.reader r (view v) = rw (← going.1) found.ok in
    let pushed = c.in_ok-push.ensures.ok in
    record {
      turns = (
        n - 1,
        followed-more c.args.levels c.args.reader.now l.found.items v c.push.new.list.items n l.reader r pushed
            l.invariant.turns.1 going.0 less first,
      );
      flat =
          subst (λ vs. items_depth (items_view vs) ≤ c.args.levels) (sym pushed)
          (items_depth-push l.found.items v c.args.levels l.invariant.flat found.flat);
      shorter = omega (arith, less, l.invariant.shorter);
    }

pub read_items-returns-clause-ok : goal.read_items-returns-clause-ok
read_items-returns-clause-ok t c =
    let l = c.items in
    let n = l.invariant.turns.0 in
    let r = c.take_end_array.new.self in
    let over : after_end_array l.reader ≡ Some r = grind arith in
    subst (λ ds. BeginsItems c.args.levels c.args.reader.now r ds) (followed-none l.found.items)
    (leads-end c.args.levels c.args.reader.now _ n l.reader r l.invariant.turns.1 over)

pub read_members-members-preserved : goal.read_members-members-preserved
read_members-members-preserved t c =
    let l = c.members in
    let n = l.invariant.turns.0 in
    let k = c.in-Some.name.now in
    let s = c.next_key.new.self in
    let r = c.read_value.new.reader in
    let v = c.in_ok-member.member in
    let found = c.in_ok-member.ensures in
    let before = members_view l.found.entries in
    let named : read_key l.reader ≡ Some (Some k, s) = grind arith in
    let keyed = read_key-shorter l.reader (Some k) s named in
    let less = found.shorter in
    let placed : members_view c.put.new.map.entries ≡ put k (view v) before = c.in_ok-put.ensures.ok in
    record {
      turns = (
        n - 1,
        subst (λ ms. MembersLead c.args.levels c.args.reader.now ms (n - 1) r) (sym placed)
            (members-more c.args.levels c.args.reader.now before n l.reader s r k (view v) l.invariant.turns.1 named
            keyed less found.ok),
      );
      flat =
          subst (λ ms. members_depth ms ≤ c.args.levels) (sym placed)
          (members_depth-put k (view v) before c.args.levels found.flat l.invariant.flat);
      shorter = omega (arith, keyed, less, l.invariant.shorter);
    }

pub read_members-returns-clause-ok : goal.read_members-returns-clause-ok
read_members-returns-clause-ok t c =
    let l = c.members in
    let n = l.invariant.turns.0 in
    let r = c.next_key.new.self in
    let over : read_key l.reader ≡ Some (None, r) = grind arith in
    members-end c.args.levels c.args.reader.now (members_view l.found.entries) n l.reader r l.invariant.turns.1 over

-- a text
pub read_value-returns-in_ok-from_str-in-String-clause-ok :
    goal.read_value-returns-in_ok-from_str-in-String-clause-ok
read_value-returns-in_ok-from_str-in-String-clause-ok t c =
    let d = view (String c.in_ok-from_str-in-String.field-0) in
    let r = c.next.new.self in
    let s = c.in-String.text.now in
    let any : c.args.reader.now ≡ token_of c.in_ok-token.token ∷ r = grind arith in
    let first : c.args.reader.now ≡ Token.string s ∷ r = grind (arith, any) in
    let seen : d ≡ string s = search (rules, the_lemmas) in
    subst (λ ts. Begins c.args.levels ts r d) (sym first) (string_begins c.args.levels s r d seen)

pub read_value-returns-in-Number-clause-ok : goal.read_value-returns-in-Number-clause-ok
read_value-returns-in-Number-clause-ok t c =
    let r = c.next.new.self in
    let s = c.in-Number.text.now in
    let any : c.args.reader.now ≡ token_of c.in_ok-token.token ∷ r = grind arith in
    let first : c.args.reader.now ≡ Token.number s ∷ r = grind (arith, any) in
    is_number c.args.levels s r c.args.reader.now c.number_value.result first c.number_value.ensures.ok

pub read_value-returns-in-Bool-clause-ok : goal.read_value-returns-in-Bool-clause-ok
read_value-returns-in-Bool-clause-ok t c =
    let d = view (Bool c.in-Bool.b) in
    let r = c.next.new.self in
    let any : c.args.reader.now ≡ token_of c.in_ok-token.token ∷ r = grind arith in
    let first : c.args.reader.now ≡ Token.boolean c.in-Bool.b ∷ r = grind (arith, any) in
    let seen : d ≡ boolean c.in-Bool.b = search (rules, the_lemmas) in
    subst (λ ts. Begins c.args.levels ts r d) (sym first) (boolean_begins c.args.levels c.in-Bool.b r d seen)

pub read_value-returns-in-Null-clause-ok : goal.read_value-returns-in-Null-clause-ok
read_value-returns-in-Null-clause-ok t c =
    let d = view Null in
    let r = c.next.new.self in
    let any : c.args.reader.now ≡ token_of c.in_ok-token.token ∷ r = grind arith in
    let first : c.args.reader.now ≡ Token.null ∷ r = grind (arith, any) in
    let seen : d ≡ null = search (rules, the_lemmas) in
    subst (λ ts. Begins c.args.levels ts r d) (sym first) (null_begins c.args.levels r d seen)

-- an array
pub read_value-returns-in_ok-read_items-in-BeginArray-clause-ok :
    goal.read_value-returns-in_ok-read_items-in-BeginArray-clause-ok
read_value-returns-in_ok-read_items-in-BeginArray-clause-ok t c =
    let r = c.next.new.self in
    let end = c.read_items.new.reader in
    let found = c.in_ok-read_items-in-BeginArray in
    let any : c.args.reader.now ≡ token_of c.in_ok-token.token ∷ r = grind arith in
    let first : c.args.reader.now ≡ Token.begin_array ∷ r = any ∙ ap (λ k. token_of k ∷ r) c.in-BeginArray.is in
    let seen = view-Array found.field-0 in
    subst (λ ts. Begins c.args.levels ts end (view (Array found.field-0))) (sym first)
    (subst (λ d. Begins c.args.levels (Token.begin_array ∷ r) end d) (sym seen)
    (array_begins c.args.levels r end (items_view found.field-0.items) (omega arith) found.ensures.ok))

-- an object
pub read_value-returns-in_ok-read_members-in-BeginObject-clause-ok :
    goal.read_value-returns-in_ok-read_members-in-BeginObject-clause-ok
read_value-returns-in_ok-read_members-in-BeginObject-clause-ok t c =
    let r = c.next.new.self in
    let end = c.read_members.new.reader in
    let found = c.in_ok-read_members-in-BeginObject in
    let any : c.args.reader.now ≡ token_of c.in_ok-token.token ∷ r = grind arith in
    let first : c.args.reader.now ≡ Token.begin_object ∷ r = any ∙ ap (λ k. token_of k ∷ r) c.in-BeginObject.is in
    let seen = view-Object found.field-0 in
    subst (λ ts. Begins c.args.levels ts end (view (Object found.field-0))) (sym first)
    (subst (λ d. Begins c.args.levels (Token.begin_object ∷ r) end d) (sym seen)
    (object_begins c.args.levels r end (members_view found.field-0.entries) (omega arith) found.ensures.ok))

-- ---- where nothing is read

pub read_items-returns-in_err-item-clause-err : goal.read_items-returns-in_err-item-clause-err
read_items-returns-in_err-item-clause-err t c =
    let l = c.items in
    let e = c.in_err-item.field-0.0 in
    let going : (after_end_array l.reader ≡ None) × (c.take_end_array.new.self ≡ l.reader) = grind arith in
    let lacks : IsUnread (BeginsNone c.args.levels l.reader) e = rw (← going.1) c.in_err-item.ensures.err in
    let told : c.from_residual.result ≡ Err e = search rules in
    subst (λ r. IfErr r (IsUnread (BeginsNoItems c.args.levels c.args.reader.now))) (sym told)
    (unread _ _ e
    (items_lack c.args.levels c.args.reader.now _ l.invariant.turns.0 l.reader l.invariant.turns.1 going.0) lacks)

pub read_members-members-init : goal.read_members-members-init
read_members-members-init t c =
    let ts = c.args.reader.now in
    let none : c.new-found.result.entries ≡ [] = c.new-found.ensures.empty in
    record {
      turns = (
        length ts,
        subst (λ es. MembersLead c.args.levels ts (members_view es) (length ts) ts) (sym none)
            (members-start c.args.levels ts),
      );
      flat = subst (λ es. members_depth (members_view es) ≤ c.args.levels) (sym none) (omega arith);
      shorter = omega arith;
    }

pub read_members-returns-in_err-name-clause-err : goal.read_members-returns-in_err-name-clause-err
read_members-returns-in_err-name-clause-err t c =
    let l = c.members in
    let none : read_key l.reader ≡ None = grind arith in
    let told : c.from_residual.result ≡ Err Syntax = search rules in
    subst (λ r. IfErr r (IsUnread (BeginsNoMembers c.args.levels c.args.reader.now))) (sym told)
    (inr (refl, key_lacks c.args.levels c.args.reader.now _ l.invariant.turns.0 l.reader l.invariant.turns.1 none))

pub read_members-returns-in_err-member-clause-err : goal.read_members-returns-in_err-member-clause-err
read_members-returns-in_err-member-clause-err t c =
    let l = c.members in
    let e = c.in_err-member.field-0.0 in
    let k = c.in-Some.name.now in
    let s = c.next_key.new.self in
    let named : read_key l.reader ≡ Some (Some k, s) = grind arith in
    let told : c.from_residual-in_err-member.result ≡ Err e = search rules in
    subst (λ r. IfErr r (IsUnread (BeginsNoMembers c.args.levels c.args.reader.now))) (sym told)
    (unread _ _ e
    (member_lacks c.args.levels c.args.reader.now _ l.invariant.turns.0 l.reader s k l.invariant.turns.1 named)
    c.in_err-member.ensures.err)

pub read_value-returns-in_err-token-clause-err : goal.read_value-returns-in_err-token-clause-err
read_value-returns-in_err-token-clause-err t c =
    let none : c.args.reader.now ≡ [] = grind arith in
    let told : c.from_residual.result ≡ Err Syntax = search rules in
    subst (λ r. IfErr r (IsUnread (BeginsNone c.args.levels c.args.reader.now))) (sym told)
    (inr (refl, nothing_begins c.args.levels c.args.reader.now none))

pub read_value-returns-then-levels-eq0-clause-err : goal.read_value-returns-then-levels-eq0-clause-err
read_value-returns-then-levels-eq0-clause-err t c =
    let r = c.next.new.self in
    let any : c.args.reader.now ≡ token_of c.in_ok-token.token ∷ r = grind arith in
    let first : c.args.reader.now ≡ Token.begin_array ∷ r = any ∙ ap (λ k. token_of k ∷ r) c.in-BeginArray.is in
    inr (refl, deep_array c.args.levels c.args.reader.now r (omega arith) first)

-- an array without its items
pub read_value-returns-in_err-read_items-in-BeginArray-clause-err :
    goal.read_value-returns-in_err-read_items-in-BeginArray-clause-err
read_value-returns-in_err-read_items-in-BeginArray-clause-err t c =
    let r = c.next.new.self in
    let e = c.in_err-read_items-in-BeginArray.field-0.0 in
    let any : c.args.reader.now ≡ token_of c.in_ok-token.token ∷ r = grind arith in
    let first : c.args.reader.now ≡ Token.begin_array ∷ r = any ∙ ap (λ k. token_of k ∷ r) c.in-BeginArray.is in
    let told : c.from_residual-in_err-read_items-in-BeginArray.result ≡ Err e = search rules in
    subst (λ r. IfErr r (IsUnread (BeginsNone c.args.levels c.args.reader.now))) (sym told)
    (unread _ _ e (array_lacks c.args.levels c.args.reader.now r (omega arith) first)
    c.in_err-read_items-in-BeginArray.ensures.err)

pub read_value-returns-then-levels-eq0-2-clause-err : goal.read_value-returns-then-levels-eq0-2-clause-err
read_value-returns-then-levels-eq0-2-clause-err t c =
    let r = c.next.new.self in
    let any : c.args.reader.now ≡ token_of c.in_ok-token.token ∷ r = grind arith in
    let first : c.args.reader.now ≡ Token.begin_object ∷ r = any ∙ ap (λ k. token_of k ∷ r) c.in-BeginObject.is in
    inr (refl, deep_object c.args.levels c.args.reader.now r (omega arith) first)

-- an object without its members
pub read_value-returns-in_err-read_members-in-BeginObject-clause-err :
    goal.read_value-returns-in_err-read_members-in-BeginObject-clause-err
read_value-returns-in_err-read_members-in-BeginObject-clause-err t c =
    let r = c.next.new.self in
    let e = c.in_err-read_members-in-BeginObject.field-0.0 in
    let any : c.args.reader.now ≡ token_of c.in_ok-token.token ∷ r = grind arith in
    let first : c.args.reader.now ≡ Token.begin_object ∷ r = any ∙ ap (λ k. token_of k ∷ r) c.in-BeginObject.is in
    let told : c.from_residual-in_err-read_members-in-BeginObject.result ≡ Err e = search rules in
    subst (λ r. IfErr r (IsUnread (BeginsNone c.args.levels c.args.reader.now))) (sym told)
    (unread _ _ e (object_lacks c.args.levels c.args.reader.now r (omega arith) first)
    c.in_err-read_members-in-BeginObject.ensures.err)

pub read_value-returns-in-Number-clause-err : goal.read_value-returns-in-Number-clause-err
read_value-returns-in-Number-clause-err t c =
    let r = c.next.new.self in
    let s = c.in-Number.text.now in
    let any : c.args.reader.now ≡ token_of c.in_ok-token.token ∷ r = grind arith in
    let first : c.args.reader.now ≡ Token.number s ∷ r = grind (arith, any) in
    number_unread _ _ c.number_value.result (number_lacks c.args.levels c.args.reader.now r s first)
    c.number_value.ensures.err

pub read_value-returns-in-EndObject-clause-err : goal.read_value-returns-in-EndObject-clause-err
read_value-returns-in-EndObject-clause-err t c =
    let r = c.next.new.self in
    let first : c.args.reader.now ≡ token_of c.in_ok-token.token ∷ r = grind arith in
    let none : begins_none (token_of c.in_ok-token.token) ≡ true = grind arith in
    inr (refl, other_begins c.args.levels c.args.reader.now r (token_of c.in_ok-token.token) first none)
