-- The Jobs that answers tell of, noted one after the other.
use Rattle.std.proofs.Common.{◌≡◌, ◌+◌, ◌<◌, ◌∙◌, ℕ, List, [], ◌∷◌, Option, Some, None, length, get_or, drop, sym, ap}
use Rattle.std.specs.List.{cons_option, filter_map}
use Rattle.std.proofs.lemmas.List.{drop_more}
use Rattle.cj_types.specs.declared.event.Event.{Event}
use Rattle.cj_types.specs.declared.job.Job.{Job}
use Rattle.cj_hub.specs.declared.receipt.Receipt.{Receipt}
use Rattle.cj_script.specs.simulation.Runs.{RunTable}
use Rattle.cj_run.specs.Made.{Notes, job_added, noted_all, noted_news, noted_told, seen}

-- From a place on a list is its item there, and then what is behind it.
from_there : {X : Type 0} (xs : List X) (i : ℕ) (x : X) → i < length xs → x ≡ get_or xs i x
    → drop i xs ≡ x ∷ drop (i + 1) xs
from_there xs i x lt is = drop_more xs i x lt ∙ ap (λ y. y ∷ drop (i + 1) xs) (sym is)

-- For Made::note_all: to note a Job and then those behind it is to note all from that Job on.
pub note_more : (runs : RunTable) (now last : ℕ) (jobs : List Job) (i : ℕ) (job : Job) (n n' : Notes) → i < length jobs
    → job ≡ get_or jobs i job
    → n' ≡ seen runs now last job n
    → noted_all runs now last (drop (i + 1) jobs) n' ≡ noted_all runs now last (drop i jobs) n
note_more runs now last jobs i job n n' lt is e =
    ap (λ (m : Notes). noted_all runs now last (drop (i + 1) jobs) m) e
    ∙ ap (λ (js : List Job). noted_all runs now last js n) (sym (from_there jobs i job lt is))

-- For event_more: to note a Job, if there is one, and then others is to note all of them.
first_noted : (runs : RunTable) (now last : ℕ) (o : Option Job) (jobs : List Job) (n n' : Notes)
    → n' ≡ noted_all runs now last (cons_option o []) n
    → noted_all runs now last jobs n' ≡ noted_all runs now last (cons_option o jobs) n
first_noted runs now last None jobs n n' e = ap (λ (m : Notes). noted_all runs now last jobs m) e
first_noted runs now last (Some job) jobs n n' e = ap (λ (m : Notes). noted_all runs now last jobs m) e

-- For Made::note_events: to note the Job that an event tells of and then those of the events behind it is to note those
-- of all from that event on.
pub event_more : (runs : RunTable) (now last : ℕ) (events : List Event) (i : ℕ) (event : Event) (n n' : Notes)
    → i < length events
    → event ≡ get_or events i event
    → n' ≡ noted_all runs now last (filter_map job_added (event ∷ [])) n
    → noted_all runs now last (filter_map job_added (drop (i + 1) events)) n'
    ≡ noted_all runs now last (filter_map job_added (drop i events)) n
event_more runs now last events i event n n' lt is e =
    first_noted runs now last (job_added event) (filter_map job_added (drop (i + 1) events)) n n' e
    ∙ ap (λ (es : List Event). noted_all runs now last (filter_map job_added es) n)
    (sym (from_there events i event lt is))

-- For Made::note_news: to note what a receipt tells of and then what those behind it do is to note all from that one
-- on.
pub news_more : (runs : RunTable) (now : ℕ) (rs : List Receipt) (i : ℕ) (r : Receipt) (n n' : Notes) → i < length rs
    → r ≡ get_or rs i r
    → n' ≡ noted_told runs now r.entry.answer n
    → noted_news runs now (drop (i + 1) rs) n' ≡ noted_news runs now (drop i rs) n
news_more runs now rs i r n n' lt is e =
    ap (λ (m : Notes). noted_news runs now (drop (i + 1) rs) m) e
    ∙ ap (λ (xs : List Receipt). noted_news runs now xs n) (sym (from_there rs i r lt is))
