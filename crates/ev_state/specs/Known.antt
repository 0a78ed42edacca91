-- What the managers answer where verdicts are asked for.
use Rattle.std.specs.Prelude.{List, Option, option_map}
use Rattle.std.specs.List.{list_any}
use Rattle.ev_types.specs.declared.rows.GenRow.{GenRow}
use Rattle.ev_types.specs.declared.rows.Live.{Live}
use Rattle.ev_model.specs.Live.{live_of}
use Rattle.ev_model.specs.Rows.{serving_row}
use Rattle.ev_model.specs.Versions.{is_kept}
use Rattle.ev_lookups.specs.Keys.{named}
use Rattle.ev_lookups.specs.declared.kind_keys.Key.{Key}
use Rattle.ev_indexes.specs.declared.state.State.{State}
use Rattle.ev_indexes.specs.Indexes.{depends_on}
use Rattle.ev_indexes.specs.Newest.{newest_in}
use Rattle.ev_indexes.specs.Reads.{holders_in}
use Rattle.ev_verdicts.specs.Known.{Answers}
use Rattle.ev_subscription.specs.Subscriptions.{SubscriptionParts}

-- what is seen of the row that serves the name
abbrev pub serving_in : List GenRow → Key → Option Live
serving_in rows key = option_map live_of (serving_row key.kind key.name rows)

-- the answers of these managers and of this subscription
abbrev pub answers_by : State → SubscriptionParts → Answers
answers_by s subscription = record {
  newest = λ kind name. newest_in s.table.rows (named kind name);
  serving = λ kind name. serving_in s.table.rows (named kind name);
  holders = λ address. holders_in s.table.rows address;
  watched = λ kind name. list_any (depends_on (named kind name)) s.table.rows;
  kept = λ kind name version. is_kept subscription.versions kind name version;
}

-- the managers' state and the subscription before a response
pub record BeforeParts : Type 0 where
  pub managers : State
  pub subscription : SubscriptionParts

-- what they answer
abbrev pub answers_before : BeforeParts → Answers
answers_before before = answers_by before.managers before.subscription
