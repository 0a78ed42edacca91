-- The line of a dump: what is known after the entries of a journal, and what these count up to. This project's own.
use Rattle.std.specs.Prelude.{ℕ, List, [], ◌∷◌, ◌++◌, codes, filter, length, map}
use Rattle.serde_json.specs.Data.{Data, number, unsigned, string, array, object, member, no_members}
use Rattle.serde_json.specs.View.{items_of}
use Rattle.serde_json.specs.Written.{compact_text}
use Rattle.ev_types.specs.Kinds.{kind_same}
use Rattle.ev_types.specs.declared.contents.Kind.{Kind}
use Rattle.ev_types.specs.declared.contents.Kind.TheVariants.{Cds, Lds}
use Rattle.ev_types.specs.declared.events.Entry.{Entry}
use Rattle.ev_types.specs.declared.rows.Phase.{Phase}
use Rattle.ev_types.specs.declared.rows.Phase.TheVariants.{Clusters, Listeners, Serving}
use Rattle.ev_types.specs.declared.rows.RowStatus.{RowStatus}
use Rattle.ev_types.specs.declared.rows.RowStatus.TheVariants.{Warming, Active, Draining, Dropped}
use Rattle.ev_tally.specs.Tallies.{tally_of}
use Rattle.ev_tally.specs.declared.counts.Tally.{Tally}
use Rattle.ev_actors.specs.Journals.{JournalParts, world_now}
use Rattle.ev_registry.specs.Views.{view_of}
use Rattle.ev_registry.specs.declared.views.View.{View}
use Rattle.ev_registry.specs.declared.views.ViewRow.{ViewRow}

-- a generation's status in a word
abbrev pub status_text : RowStatus → List ℕ
status_text Warming = codes "warming"
status_text Active = codes "active"
status_text Draining = codes "draining"
status_text Dropped = codes "dropped"

-- how far the proxy has booted, in a word
abbrev pub phase_text : Phase → List ℕ
phase_text Clusters = codes "clusters"
phase_text Listeners = codes "listeners"
phase_text Serving = codes "serving"

-- a number as data
abbrev pub number_tree : ℕ → Data
number_tree n = number (unsigned n)

-- a generation, with how many connections are open on it
abbrev pub row_tree : ViewRow → Data
row_tree row = object
    (member (codes "connections") (number_tree row.connections)
    (member (codes "name") (string row.name)
    (member (codes "number") (number_tree row.number)
    (member (codes "status") (string (status_text row.status)) no_members))))

-- those of a kind among generations
abbrev pub of_kind : Kind → List ViewRow → List ViewRow
of_kind kind rows = filter (λ (row : ViewRow). kind_same row.kind kind) rows

-- the generations of a kind, in their order
abbrev pub rows_tree : Kind → List ViewRow → Data
rows_tree kind rows = array (items_of (map row_tree (of_kind kind rows)))

-- responses answered without and with a refusal, accepts that opened a connection, and generations destroyed
abbrev pub counters_tree : Tally → Data
counters_tree tally = object
    (member (codes "ack") (number_tree tally.acks)
    (member (codes "nack") (number_tree tally.nacks)
    (member (codes "opened") (number_tree tally.opened)
    (member (codes "reaped") (number_tree tally.reaped) no_members))))

-- what is shown after these entries
abbrev pub dump_tree : View → List Entry → Data
dump_tree shown entries = object
    (member (codes "clusters") (rows_tree Cds shown.rows)
    (member (codes "counters") (counters_tree (tally_of entries))
    (member (codes "entries") (number_tree (length entries))
    (member (codes "listeners") (rows_tree Lds shown.rows)
    (member (codes "phase") (string (phase_text shown.phase))
    (member (codes "version") (number_tree shown.version) no_members))))))

-- the line: of the world that these entries have led to
unfoldable pub dump_text : JournalParts → List ℕ
dump_text parts = compact_text (dump_tree (view_of (world_now parts)) parts.journal) ++ 10 ∷ []
