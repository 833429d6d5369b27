-- How a cluster's objects are followed (Kubernetes API concepts, "Efficient detection of changes"
-- and "Retrieving large results sets in chunks"): what is asked, and what an answer or an event
-- changes.
use Rattle.std.specs.Prelude.{◌==◌, ◌&&◌, ◌||◌, nat_le, nat_lt, ℕ, List, [], ◌∷◌, ◌++◌, codes, bytes_eq, Bool, false, if◌then◌else◌, Option, Some, None, option_and_then, option_map}
use Rattle.serde_json.specs.Data.{Data, Items}
use Rattle.serde_json.specs.Find.{as_array}
use Rattle.serde_json.specs.View.{items_view, view}
use Rattle.percent_encoding.specs.Percent.{percent_encode}
use Rattle.percent_encoding.specs.declared.ascii_set.TheConstants.{NON_ALPHANUMERIC}
use Rattle.cj_manifest.specs.Members.{present}
use Rattle.cj_manifest.specs.Owners.{text_at}
use Rattle.cj_machine.specs.Mirror.{meta_text, resource, version}
use Rattle.cj_control.specs.Objects.{is_text, list_or_none}
use Rattle.cj_control.specs.declared.api.ApiVersion.{ApiVersion}
use Rattle.cj_machine.specs.declared.feed.answers.Change.{Change}
use Rattle.cj_machine.specs.declared.feed.answers.Event.{Event}
use Rattle.cj_machine.specs.declared.feed.answers.Page.{Page}
use Rattle.cj_machine.specs.declared.feed.answers.Verdict.{Verdict}
use Rattle.cj_machine.specs.declared.feed.answers.Verdict.TheVariants.{Busy, Done, Expired, Refused, TooLarge}
use Rattle.cj_machine.specs.declared.feed.answers.Change.TheVariants.{Bookmark, Gone, Put}
use Rattle.cj_machine.specs.declared.source.Source.{Source}
use Rattle.cj_machine.specs.declared.source.Source.TheVariants.{Crons, Jobs}

-- ---- paths

-- the objects of all namespaces, or of one
abbrev pub objects_path : ApiVersion → Option (List ℕ) → Source → List ℕ
objects_path api None source =
    codes "/apis/" ++ (version api source ++ (codes "/" ++ resource source))
objects_path api (Some namespace) source =
    codes "/apis/" ++ (version api source ++ (codes "/namespaces/"
    ++ (namespace ++ (codes "/" ++ resource source))))

-- a parameter of a query, percent-encoded
abbrev pub parameter : List ℕ → Option (List ℕ) → List ℕ
parameter name None = []
parameter name (Some value) = name ++ percent_encode NON_ALPHANUMERIC value

-- the selector, of CronJobs alone
abbrev pub selects : Option (List ℕ) → Source → List ℕ
selects selector Crons = parameter (codes "&labelSelector=") selector
selects selector Jobs = []

-- ---- what a server answers

-- 200; 410, the version or the token isn't kept any more; 429 and 5xx, later again; 413, by which a
-- transport says that an answer is larger than it takes (RFC 9110, 15.5.14)
abbrev pub verdict : ℕ → Verdict
verdict status =
    if status == 200 then Done
    else (if status == 410 then Expired
    else (if status == 429 || (nat_le 500 status && nat_lt status 600) then Busy
    else (if status == 413 then TooLarge
    else Refused)))

abbrev pub unless_empty : Option (List ℕ) → Option (List ℕ)
unless_empty None = None
unless_empty (Some []) = None
unless_empty (Some (x ∷ xs)) = Some (x ∷ xs)

-- a page of a list: its items, the list's version, and the token of the next page (ListMeta)
pub record PageSaid : Type 0 where
  pub items : Items
  pub version : List ℕ
  pub next : Option (List ℕ)

abbrev pub page_view : Page → PageSaid
page_view p = record {
  items = items_view p.items.now;
  version = p.version.now;
  next = option_map (λ s. s.now) p.next;
}

abbrev pub page_at : Data → Option (List ℕ) → Option PageSaid
page_at d None = None
page_at d (Some version) = Some (record {
  items = list_or_none (option_and_then as_array (present (codes "items") d));
  version = version;
  next = unless_empty (meta_text (codes "continue") d);
})

abbrev pub page_in : Option Data → Option PageSaid
page_in None = None
page_in (Some d) = page_at d (unless_empty (meta_text (codes "resourceVersion") d))

abbrev pub change_of : List ℕ → Option Change
change_of kind =
    if bytes_eq kind (codes "ADDED") || bytes_eq kind (codes "MODIFIED") then Some Put
    else (if bytes_eq kind (codes "DELETED") then Some Gone
    else (if bytes_eq kind (codes "BOOKMARK") then Some Bookmark
    else None))

abbrev pub is_error : Option Data → Bool
is_error None = false
is_error (Some d) = is_text (codes "ERROR") (text_at (codes "type") d)

-- an event of a watch: what it says of an object, and the object's version
pub record EventSaid : Type 0 where
  pub change : Change
  pub object : Data
  pub version : List ℕ

abbrev pub event_view : Event → EventSaid
event_view e = record { change = e.change; object = view e.object.now; version = e.version.now }

abbrev pub event_of : Option Change → Option Data → Option EventSaid
event_of None shown = None
event_of (Some change) None = None
event_of (Some change) (Some shown) = option_map
    (λ version. record { change = change; object = shown; version = version })
    (unless_empty (meta_text (codes "resourceVersion") shown))

abbrev pub event_in : Option Data → Option EventSaid
event_in None = None
event_in (Some d) = event_of (option_and_then change_of (text_at (codes "type") d))
    (present (codes "object") d)
