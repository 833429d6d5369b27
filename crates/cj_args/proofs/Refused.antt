-- When words are refused.
use Rattle.std.specs.Prelude.{IfErr, Option}
use Rattle.std.specs.Result.{IsErrAnd}
use Rattle.std.proofs.Common.{◌≡◌, ◌≢◌, ◌⊎◌, true, inl, inr, List, rules, Result, Ok, Err}
use Rattle.clap.specs.declared.error.Error.{Error}
use Rattle.clap.specs.Values.{kind_of}
use Rattle.clap.specs.Words.{App, Row, Text, subcommand_of, takes}
use Rattle.clap.specs.declared.error.kind.ErrorKind.TheVariants as Kind
use Rattle.cj_args.specs.declared.request.Request.{Request}
use Rattle.cj_args.specs.declared.word_fault.WordFault.{WordFault}
use Rattle.cj_args.specs.declared.word_fault.WordFault.TheVariants as Fault
use Rattle.cj_args.specs.Command.{IsOfRows, RefusesWords, cronsim_app}

-- the fault that an error of `clap` becomes
abbrev pub IsFaultOf : Error → WordFault → Type 0
IsFaultOf error e = ((kind_of error ≡ Kind.OutOfMemory) × (e ≡ Fault.OutOfMemory))
    ⊎ ((kind_of error ≢ Kind.OutOfMemory) × (e ≡ Fault.Refused error))

-- For by_clap: the fault that an error of clap becomes is why the words are refused.
fault_by_clap : (words : List Text) (error : Error) (e : WordFault)
    → (takes cronsim_app words ≡ true → kind_of error ≡ Kind.OutOfMemory)
    → IsFaultOf error e → RefusesWords words e
fault_by_clap words error e passes (inl (at, is)) = rw is (search rules)
fault_by_clap words error e passes (inr (at, is)) = rw is (λ taken. at (passes taken))

-- what `clap` refuses for another cause than memory isn't what it takes
pub by_clap : {T : Type 0} (words : List Text) (error : Error) (result : Result T WordFault) (a : App)
    → IsErrAnd result (IsFaultOf error) → a ≡ cronsim_app → (takes a words ≡ true → kind_of error ≡ Kind.OutOfMemory)
    → IfErr result (RefusesWords words)
by_clap words error (Ok x) a is app passes = search rules
by_clap words error (Err e) a is app passes = fault_by_clap words error e (λ taken. passes (rw app taken)) is

-- For by_values: Incomplete is why words are refused whose values no request has.
value_fault : (words : List Text) (rows : Option (Text × List Row)) (e : WordFault)
    → e ≡ Fault.Incomplete → ((r : Request) → ¬ (IsOfRows rows r)) → rows ≡ subcommand_of cronsim_app words
    → RefusesWords words e
value_fault words rows e is none at = rw (is, ← at) none

-- For by_values: where no request was read, the words have none, or memory was wanting.
fault_by_values : (words : List Text) (rows : Option (Text × List Row)) (e : WordFault)
    → (e ≡ Fault.Incomplete) ⊎ (e ≡ Fault.OutOfMemory)
    → (e ≡ Fault.Incomplete → (r : Request) → ¬ (IsOfRows rows r)) → rows ≡ subcommand_of cronsim_app words
    → RefusesWords words e
fault_by_values words rows e (inl is) none at = value_fault words rows e is (none is) at
fault_by_values words rows e (inr is) none at = rw is (search rules)

-- words that `clap` takes are refused where no request has their values, or where memory was wanting
pub by_values : {T : Type 0} (words : List Text) (rows : Option (Text × List Row)) (result : Result T WordFault)
    → IfErr result (λ e. (e ≡ Fault.Incomplete) ⊎ (e ≡ Fault.OutOfMemory))
    → IfErr result (λ e. e ≡ Fault.Incomplete → (r : Request) → ¬ (IsOfRows rows r))
    → rows ≡ subcommand_of cronsim_app words → IfErr result (RefusesWords words)
by_values words rows (Ok x) is none at = search rules
by_values words rows (Err e) is none at = fault_by_values words rows e is none at
