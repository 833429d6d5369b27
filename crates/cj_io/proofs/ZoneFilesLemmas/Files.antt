-- The zones of files, one after another.
use Rattle.std.proofs.Common.{◌≡◌, ◌+◌, ◌<◌, ◌∙◌, ℕ, List, ◌∷◌, drop, get_or, length, sym, ap, subst}
use Rattle.std.proofs.lemmas.List.{drop_more}
use Rattle.cj_zone.specs.declared.zone.Zone.{Zone}
use Rattle.cj_io.specs.declared.zone_files.file.ZoneFile.{ZoneFile}
use Rattle.cj_io.specs.zone_files.Files.{AddsFile, AddsFiles}

-- the zones that the rest of the files leads to from these are among those that all lead to from the first
pub record Leads (from : List Zone) (files : List ZoneFile) (zones : List Zone) (rest : List ZoneFile) : Type 0 where
  pub whole : (all : List Zone) → AddsFiles zones rest all → AddsFiles from files all

-- Where the files lead to one that was added or passed over, they lead on to those behind it.
pub leads_file : (from zones more : List Zone) (files rest : List ZoneFile) (file : ZoneFile)
    → Leads from files zones (file ∷ rest) → AddsFile zones file more → Leads from files more rest
leads_file from zones more files rest file leads h = record { whole = λ all k. leads.whole all (more, h, k) }

-- The same for the file at a place.
pub leads_at : (from zones more : List Zone) (files : List ZoneFile) (i : ℕ) (file : ZoneFile) → i < length files
    → file ≡ get_or files i file → Leads from files zones (drop i files) → AddsFile zones file more
    → Leads from files more (drop (i + 1) files)
leads_at from zones more files i file lt is leads h =
    let begins : drop i files ≡ file ∷ drop (i + 1) files =
    drop_more files i file lt ∙ ap (λ f. f ∷ drop (i + 1) files) (sym is) in
    leads_file from zones more files (drop (i + 1) files) file
    (subst (λ rest. Leads from files zones rest) begins leads) h
