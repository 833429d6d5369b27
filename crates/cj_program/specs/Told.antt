-- What the program says where the words of a command line are no request.
use Rattle.std.specs.Prelude.{◌≡◌, ◌⊎◌, ℕ, List, [], codes, string_bytes}
use Rattle.clap.specs.Values.{kind_of}
use Rattle.clap.specs.declared.error.Error.{Error}
use Rattle.clap.specs.declared.error.kind.ErrorKind.TheVariants.{DisplayHelp, DisplayVersion}
use Rattle.cj_io.specs.declared.exit_status.ExitStatus.{ExitStatus}
use Rattle.cj_io.specs.declared.exit_status.ExitStatus.TheVariants.{Success, Usage}
use Rattle.cj_program.specs.declared.told.Told.{Told}
use Rattle.cj_args.specs.declared.word_fault.WordFault.{WordFault}
use Rattle.cj_args.specs.declared.word_fault.WordFault.TheVariants.{Incomplete, OutOfMemory, Refused}

-- help or the version was asked for
abbrev pub IsAsked : Error → Type 0
IsAsked e = (kind_of e ≡ DisplayHelp) ⊎ (kind_of e ≡ DisplayVersion)

-- the exit status, and the bytes on standard output and on standard error
pub record Telling : Type 0 where
  pub status : ExitStatus
  pub printed : List ℕ
  pub said : List ℕ

abbrev pub telling_of : Told → Telling
telling_of t = record { status = t.status; printed = string_bytes t.printed; said = string_bytes t.said }

-- what was asked for is printed, with success; what is wrong with words is said on standard error
abbrev pub TellsOf : Error → Telling → Type 0
TellsOf e t = (IsAsked e × (t.status ≡ Success) × (t.said ≡ []))
    ⊎ (¬ (IsAsked e) × (t.status ≡ Usage) × (t.printed ≡ []))

-- rule: statuses
abbrev pub Tells : WordFault → Telling → Type 0
Tells (Refused e) t = TellsOf e t
Tells Incomplete t = t ≡ record { status = Usage; printed = []; said = codes "cronsim: incomplete words\n" }
Tells OutOfMemory t = ⊥
