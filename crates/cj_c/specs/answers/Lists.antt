-- Why the list of a cluster's objects is refused that a call is given.
use Rattle.std.specs.Prelude.{◌≢◌, ◌⊎◌, ℕ, List, codes}
use Rattle.serde_json.specs.Data.{Data, null}
use Rattle.cj_cluster.specs.kubectl.Reading.{IsRefusedList}
use Rattle.cj_cluster.specs.declared.kubectl.fault.ListFault.{ListFault}
use Rattle.cj_cluster.specs.declared.kubectl.fault.ListFault.TheVariants as Why
use Rattle.cj_zone.specs.declared.zone.Zone.{Zone}
use Rattle.cj_audit.specs.Faults.{one_fault}
use Rattle.cj_c.specs.answers.Texts.{IsJsonText}
use Rattle.cj_c.specs.answers.Zones.{AreZonesOf, IsZonesRefusal}

-- the fault of a list, where it isn't want of memory
-- rule: library-lists
abbrev pub list_fault_data : ListFault → Data
list_fault_data Why.Syntax = one_fault (codes "Syntax") (codes "$")
list_fault_data Why.Form = one_fault (codes "Form") (codes "$")
list_fault_data Why.Memory = null

pub record IsNoList (bytes zones_text text : List ℕ) : Type 0 where
  pub zones : List Zone
  pub zones_are : AreZonesOf zones_text zones
  pub fault : ListFault
  pub refused : IsRefusedList bytes fault
  pub told : fault ≢ Why.Memory
  pub printed : IsJsonText (list_fault_data fault) text

-- why it is refused: the zones are, which are looked at first; or it is no list
-- rule: library-lists
abbrev pub IsListRefusal : List ℕ → List ℕ → List ℕ → Type 0
IsListRefusal bytes zones_text text =
    IsZonesRefusal zones_text text ⊎ IsNoList bytes zones_text text
