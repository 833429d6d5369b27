-- What is read of files, one after another.
use Rattle.std.proofs.Common.{◌+◌, ◌<◌, ℕ, List, ◌∷◌, drop, get_or, length, sym, subst, inl, inr, refl, []}
use Rattle.std.proofs.lemmas.List.{drop_more}
use Rattle.cj_zone.specs.declared.zone.Zone.{Zone}
use Rattle.cj_cluster.specs.declared.kubectl.fault.ListFault.{ListFault}
use Rattle.cj_cluster.specs.kubectl.Reading.{IsRefusedList}
use Rattle.cj_inspect.specs.declared.cron_files.CronFile.{CronFile}
use Rattle.cj_inspect.specs.declared.cron_files.FileCrons.{FileCrons}
use Rattle.cj_inspect.specs.CronFiles.{AddsFile, AddsFiles, Stops}

-- what the rest of the files leads to from what was found so far is what all lead to from the first, and where one of
-- the rest is the first that is refused, it is so of all
pub record Leads (zones : List Zone) (from : List FileCrons) (files : List CronFile) (found : List FileCrons)
    (rest : List CronFile) : Type 0 where
  pub whole : (all : List FileCrons) → AddsFiles zones rest found all → AddsFiles zones files from all
  pub stops : (bad : CronFile) (fault : ListFault) → Stops zones rest bad fault → Stops zones files bad fault

-- Where the files lead to one that was read, they lead on to those behind it.
leads_file : (zones : List Zone) (from found more : List FileCrons) (files rest : List CronFile) (file : CronFile)
    → Leads zones from files found (file ∷ rest) → AddsFile zones file found more → Leads zones from files more rest
leads_file zones from found more files rest file leads h = record {
  whole = λ all k. leads.whole all (more, h, k);
  stops = λ bad fault k. leads.stops bad fault (inr (h.read, h.is_file, k));
}

-- For read_files: the step at a file that is read.
pub leads_at : (zones : List Zone) (from found more : List FileCrons) (files : List CronFile) (i : ℕ) (other : CronFile)
    → i < length files → Leads zones from files found (drop i files)
    → AddsFile zones (get_or files i other) found more → Leads zones from files more (drop (i + 1) files)
leads_at zones from found more files i other lt leads h =
    leads_file zones from found more files (drop (i + 1) files) (get_or files i other)
    (subst (λ rest. Leads zones from files found rest) (drop_more files i other lt) leads) h

-- For read_files: a file that is refused is the first.
pub stops_at : (zones : List Zone) (from found : List FileCrons) (files : List CronFile) (i : ℕ) (other : CronFile)
    (fault : ListFault) → i < length files → Leads zones from files found (drop i files)
    → IsRefusedList (get_or files i other).bytes.now fault → Stops zones files (get_or files i other) fault
stops_at zones from found files i other fault lt leads h =
    let file = get_or files i other in
    leads.stops file fault
    (subst (λ rest. Stops zones rest file fault) (sym (drop_more files i other lt)) (inl (refl, h)))

-- For sources_told: the file that ends the reading is refused.
pub stopped : (zones : List Zone) (files : List CronFile) (bad : CronFile) (fault : ListFault)
    → Stops zones files bad fault
    → IsRefusedList bad.bytes.now fault
stopped zones [] bad fault h = absurd h
stopped zones (file ∷ files) bad fault (inl h) = h.1
stopped zones (file ∷ files) bad fault (inr h) = stopped zones files bad fault h.2
