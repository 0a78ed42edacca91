-- What is accepted at a cluster that asks by the private name of a place is accepted after the report of each secret
-- that the key of the place names.
use Rattle.std.proofs.Common.{◌≡◌, ◌∙◌, ℕ, ◌+◌, ◌<◌, ◌≤◌, ◌==◌, nat_lt, Bool, true, false, ◌&&◌, List, ◌++◌, length, take, decimal, Some, None, codes, refl, sym, ap, subst, arith}
use Rattle.std.specs.Prelude.{Contains, slice_get, option_and_then}
use Rattle.std.specs.List.{list_any}
use Rattle.std.specs.Str.{bytes_eq}
use Rattle.std.proofs.lemmas.Bool.{or_left}
use Rattle.std.proofs.lemmas.Bool.Decides.{nat_tests}
use Rattle.serde_json.specs.Data.{Data}
use Rattle.ev_types.specs.Events.{IsMainSide, IsStream, MayMake}
use Rattle.ev_types.specs.Same.{bytes_decide}
use Rattle.ev_types.specs.Scripts.{IsScript}
use Rattle.ev_types.specs.declared.clusters.Cluster.{Cluster}
use Rattle.ev_types.specs.declared.clusters.Discovery.{Discovery}
use Rattle.ev_types.specs.declared.clusters.Discovery.TheVariants.{Eds as by_name}
use Rattle.ev_types.specs.declared.contents.Content.TheVariants.{Cluster as a_cluster}
use Rattle.ev_types.specs.declared.contents.Kind.TheVariants.{Eds, Sds}
use Rattle.ev_types.specs.declared.events.Actor.{Actor}
use Rattle.ev_types.specs.declared.events.Actor.TheVariants.{Stream}
use Rattle.ev_types.specs.declared.events.Entry.{Entry}
use Rattle.ev_types.specs.declared.events.Event.{Event}
use Rattle.ev_types.specs.declared.events.Event.TheVariants.{Response, FetchTimeout}
use Rattle.ev_types.specs.declared.events.Line.{Line}
use Rattle.ev_types.specs.declared.events.Profile.{Profile}
use Rattle.ev_types.specs.declared.journals.Format.{Format}
use Rattle.ev_types.specs.declared.limits.TheConstants.{ITEM_LIMIT}
use Rattle.ev_model.specs.Entries.{MadeRow, last_settled, made_of}
use Rattle.ev_model.specs.Laws.{Accepts, Told, WasWarm}
use Rattle.ev_model.specs.Operations.{IsRunOf, Operation, is_earlier, line_operation, operation_of, operations_of, entries_of}
use Rattle.ev_model.specs.Watching.{cluster_secrets, discovery_dependencies, each_once, has_dependency, is_dependency, referred}
use Rattle.ev_model_laws.proofs.PlaceLemmas.{entry_answered}
use Rattle.ev_model_laws.proofs.WarmedLemmas.{runs_warmed}
use Rattle.ev_model_laws.proofs.HoldLemmas.{side_holds}
use Rattle.ev_script.specs.declared.trees.ScriptTrees.{ScriptTrees}
use Rattle.ev_expand.specs.Fronts.{event_of, stream_at, up_to}
use Rattle.ev_expand.specs.Guarding.{Guarded, guarded_by, private_name}
use Rattle.ev_expand.specs.Private.{first_use}
use Rattle.ev_expand.specs.Said.{given_lines, lines_in}
use Rattle.ev_expand.proofs.CountLemmas.{guarded_few}
use Rattle.ev_tls.specs.declared.awaited.Awaited.TheVariants.{Secret}
use Rattle.ev_tls.specs.References.{by_secrets}
use Rattle.ev_tls.specs.Sealing.{is_due, tls_rules}
use Rattle.ev_tls.specs.Told.{is_told, told_by}
use Rattle.ev_expand.specs.Runs.{place_given, run_told}
use Rattle.ev_tls.specs.Sealed.{StandsBefore, WasTold, sealed_script}
use Rattle.ev_expand.proofs.DueLemmas.{named_due}
use Rattle.ev_expand.proofs.FrontLawLemmas.{IsFrontAt, front_at, given_before, given_rises, up_to_at}
use Rattle.ev_expand.proofs.ListLemmas.{in_contains}
use Rattle.ev_expand.proofs.NamedLemmas.{NamedBefore, NamesEndpoints, warmed_named}
use Rattle.ev_expand.proofs.OrderLemmas.{DoneBefore, IsOfLine, done_before, entry_in, is_behind, line_in, of_line}
use Rattle.ev_expand.proofs.SaidPlaceLemmas.{IsSaid, line_place, said_is, stream_is, timer_main}
use Rattle.ev_tls.proofs.TellingLemmas.{IsOwnLine, telling_line}
use Rattle.ev_tls.proofs.TextLemmas.{FollowsDue, text_follows}
use Rattle.ev_tls.proofs.ToldLemmas.{IsToldAt, complete_told, due_is_complete, told_at}

-- the generation of this number is a cluster that asks for its endpoints by the private name of this place
pub record AsksFor (journal : List Entry) (number place : ℕ) : Type 0 where
  pub row : MadeRow
  pub made : made_of journal number ≡ Some row
  pub cluster : Cluster
  pub content : row.content ≡ a_cluster cluster
  pub limited : Bool
  pub fresh : Bool
  pub asks : cluster.discovery ≡ by_name (private_name (codes "tls/") place) limited fresh

-- the guarded key of this place names the secret
pub record KeyNames (profile : Profile) (lines : List Data) (place : ℕ) (secret : List ℕ) : Type 0 where
  pub guarded : Guarded
  pub there : slice_get (guarded_by (by_secrets profile) lines) place ≡ Some guarded
  pub named : Contains guarded.key.names secret

-- ---- who names endpoints

stream_main : (actor : Actor) → IsStream actor → IsMainSide actor
stream_main actor is = subst IsMainSide (sym (stream_is actor is)) tt

names_main : (workers : ℕ) (name : List ℕ) (actor : Actor) (event : Event) → NamesEndpoints name event → MayMake workers actor event → IsMainSide actor
names_main workers name actor (Response response) names may = stream_main actor may
names_main workers name actor (FetchTimeout timeout) names may = timer_main actor may
names_main workers name actor event names may = absurd names

names_own : (name : List ℕ) (event : Event) → NamesEndpoints name event → is_behind event ≡ false
names_own name (Response response) names = refl
names_own name (FetchTimeout timeout) names = refl
names_own name event names = absurd names

-- ---- in a run

module _ (trees : ScriptTrees) (format : Format) (journal : List Entry) (kept : IsScript (sealed_script trees)) (run : IsRunOf format (sealed_script trees) journal) where
  abbrev profile : Profile
  profile = trees.header.profile

  -- the line of the text by which an entry names endpoints
  record IsNamedBy (name : List ℕ) (entry : Entry) : Type 0 where
    line : Line
    does : line_operation line ≡ operation_of entry
    said : IsSaid profile 2 (given_lines (tls_rules profile) (lines_in trees)) line
    names : NamesEndpoints name line.event

  named_by : (k : ℕ) (name : List ℕ) (named : NamedBefore journal k name) → IsNamedBy name named.entry
  named_by k name named =
      let entry : Entry = named.entry in
      let may : MayMake (sealed_script trees).workers entry.actor entry.event =
      (entry_answered (run_told format (sealed_script trees) journal) named.place entry run.run.answers named.there).may in
      let main : IsMainSide entry.actor = names_main (sealed_script trees).workers name entry.actor entry.event named.names may in
      let holds : entries_of journal entry.actor ≡ operations_of (sealed_script trees) entry.actor =
      side_holds format (sealed_script trees) journal entry.actor kept main run in
      let own : IsOfLine (sealed_script trees) (operation_of entry) =
      of_line (sealed_script trees) (operation_of entry)
      (entry_in (sealed_script trees) journal entry.actor named.place entry holds named.there refl) (names_own name entry.event named.names) in
      record {
        line = own.line;
        does = own.is;
        said = said_is profile 2 (given_lines (tls_rules profile) (lines_in trees)) own.line own.among;
        names = subst (λ (o : Operation). NamesEndpoints name o.event) (sym own.is) named.names;
      }

  below : (n m : ℕ) → n < m → nat_lt n m ≡ true
  below n m h = grind (arith, nat_tests)

  earlier_at : (a b : Operation) → a.at < b.at → is_earlier a b ≡ true
  earlier_at a b h = or_left (nat_lt a.at b.at) ((a.at == b.at) && nat_lt a.step b.step) (below a.at b.at h)

  -- what a line became is done before an entry of the stream after it
  own_before : (index : ℕ) (tree : Data) (own : IsOwnLine trees index tree) (q : ℕ) (entry : Entry) → slice_get journal q ≡ Some entry → entry.actor ≡ Stream
      → place_given (tls_rules profile) (lines_in trees) index < entry.at → DoneBefore journal q (line_operation own.line)
  own_before index tree own q entry there by less =
      done_before (sealed_script trees) journal Stream q entry (line_operation own.line) kept
      (side_holds format (sealed_script trees) journal Stream kept tt run) there by
      (line_in (sealed_script trees) Stream own.line own.among own.by)
      (earlier_at (line_operation own.line) (operation_of entry) (omega (arith, own.at, less)))

  stands : (k index : ℕ) (tree : Data) (own : IsOwnLine trees index tree) (q : ℕ) → slice_get (lines_in trees) index ≡ Some tree → q < k
      → DoneBefore journal q (line_operation own.line) → StandsBefore profile journal k (lines_in trees) index
  stands k index tree own q there less done = record {
    place = done.place;
    earlier = omega (arith, done.earlier, less);
    by = record {
      entry = done.entry;
      there = done.there;
      by = ap (λ (o : Operation). o.actor) done.does ∙ own.by;
      at = ap (λ (o : Operation). o.at) done.does ∙ own.at;
      own = ap (λ (o : Operation). o.step) done.does;
    };
    says = ap (option_and_then (event_of profile)) there ∙ own.says ∙ sym (ap (λ (o : Operation). Some o.event) done.does);
  }

  -- a line that reports a secret was done before the entry of a line that follows one not before it
  told_before : (k index place : ℕ) (secret : List ℕ) → IsToldAt profile (lines_in trees) (index + 1) (Secret secret) → (q : ℕ) (entry : Entry)
      → slice_get journal q ≡ Some entry → entry.actor ≡ Stream → entry.at ≡ 2 + place → given_before (tls_rules profile) (lines_in trees) index < place → q < k
      → WasTold profile journal k (lines_in trees) secret
  told_before k index place secret told q entry there by at behind less =
      let here : IsFrontAt (lines_in trees) told.index told.front = front_at (lines_in trees) told.index told.front told.there in
      let own : IsOwnLine trees told.index told.front.line = telling_line trees told.index told.front secret kept told.there told.tells in
      let rises : given_before (tls_rules profile) (lines_in trees) told.index ≤ given_before (tls_rules profile) (lines_in trees) index =
      given_rises (tls_rules profile) (lines_in trees) told.index index told.front told.within told.there in
      let done : DoneBefore journal q (line_operation own.line) =
      own_before told.index told.front.line own q entry there by (omega (arith, rises, behind, at)) in
      record {
        index = told.index;
        told = record {
          line = told.front.line;
          there = here.here;
          connected = subst (λ ls. stream_at profile ls ≡ true) (up_to_at (lines_in trees) told.index told.front told.there) told.connected;
          tells = in_contains (told_by profile told.front.line) (Secret secret) told.tells;
        };
        before = stands k told.index told.front.line own q here.here less done;
      }

  -- where the place of a guarded key is due each secret that it names was reported
  due_told : (n place : ℕ) (line : Line) (secret : List ℕ) (behind : FollowsDue profile (lines_in trees) n (private_name (codes "tls/") place) line)
      → KeyNames profile (lines_in trees) place secret → IsToldAt profile (lines_in trees) (behind.index + 1) (Secret secret)
  due_told n place line secret behind names =
      let up_to_is : up_to behind.front ≡ take (behind.index + 1) (lines_in trees) = up_to_at (lines_in trees) behind.index behind.front behind.there in
      let few : length (guarded_by (by_secrets profile) (lines_in trees)) < ITEM_LIMIT = guarded_few (tls_rules profile) (λ line some. refl) (lines_in trees) kept.few_items in
      let due : is_due profile behind.front names.guarded ≡ true =
      named_due (tls_rules profile) (lines_in trees) behind.index place behind.front names.guarded few behind.there names.there behind.due.names in
      let heard : is_told profile (up_to behind.front) (Secret secret) ≡ true =
      complete_told profile (up_to behind.front) names.guarded.key secret (due_is_complete profile behind.front names.guarded due) names.named in
      told_at profile (lines_in trees) (behind.index + 1) (Secret secret) (subst (λ ls. is_told profile ls (Secret secret) ≡ true) up_to_is heard)

  -- what is accepted at a cluster that asks by the private name of a place was warm, so that name's endpoints were
  -- reported before
  pub sealed_by_key : first_use profile (codes "tls/") (lines_in trees) ≡ None → (k : ℕ) (worker : Actor) (number place : ℕ) (secret : List ℕ)
      → Accepts (run_told format (sealed_script trees) journal) k worker number → AsksFor journal number place → KeyNames profile (lines_in trees) place secret
      → WasTold profile journal k (lines_in trees) secret
  sealed_by_key unused k worker number place secret accepts asks names =
      let told : Told = run_told format (sealed_script trees) journal in
      let warm : WasWarm told number (last_settled (take k journal) worker) k = runs_warmed told run.run.answers k worker number accepts in
      let name : List ℕ = private_name (codes "tls/") place in
      let depends : has_dependency Eds name asks.row.content ≡ true =
      ap (has_dependency Eds name) asks.content
      ∙ ap (λ (discovery : Discovery). list_any (is_dependency Eds name) (each_once (discovery_dependencies discovery ++ referred Sds (cluster_secrets asks.cluster)))) asks.asks
      ∙ or_left (bytes_eq name name) _ ((bytes_decide name name).1 refl) in
      let named : NamedBefore journal k name =
      warmed_named told k number (last_settled (take k journal) worker) asks.row name warm asks.made depends in
      let by_line : IsNamedBy name named.entry = named_by k name named in
      let at : ℕ = by_line.said.index in
      let behind : FollowsDue profile (lines_in trees) at name by_line.line =
      text_follows profile (lines_in trees) at (2 + at) by_line.said.tree by_line.line (decimal (place + 1)) unused by_line.said.there by_line.said.is by_line.names in
      told_before k behind.index at secret (due_told at place by_line.line secret behind names) named.place named.entry named.there
      (sym (ap (λ (o : Operation). o.actor) by_line.does) ∙ behind.due.by)
      (sym (ap (λ (o : Operation). o.at) by_line.does) ∙ line_place profile (2 + at) by_line.said.tree by_line.line by_line.said.is)
      behind.behind named.earlier
