-- Each generation is what the resource of its number made.
use Rattle.std.proofs.Common.{◌≡◌, ℕ, zero, suc, ◌+◌, List, [], ◌∷◌, ◌++◌, length, take, Option, Some, None, refl, sym, ap, ◌∙◌, subst, append-nil, append_assoc, length-append, add-one, arith, Bool, true, false, subst₂, ◌&&◌}
use Rattle.std.specs.Prelude.{slice_get}
use Rattle.std.specs.List.{All, flat_map, fold, zip}
use Rattle.std.proofs.lemmas.List.Elements.{All-nil, All-cons, All-append, All-map, All-weaker, All-filter, All-contains}
use Rattle.std.proofs.lemmas.Grind.{flat_map-append}
use Rattle.ev_types.specs.Items.{ItemParts, ResponseParts}
use Rattle.ev_types.specs.declared.contents.Kind.{Kind}
use Rattle.ev_types.specs.declared.contents.Kind.TheVariants.{Cds, Eds, Lds, Rds, Sds, Ecds}
use Rattle.ev_types.specs.declared.contents.Body.{Body}
use Rattle.ev_types.specs.declared.contents.Body.TheVariants.{Good, Bad, Beat}
use Rattle.ev_types.specs.declared.contents.Content.{Content}
use Rattle.ev_types.specs.declared.events.Actor.{Actor}
use Rattle.ev_types.specs.declared.events.Answer.{Answer}
use Rattle.ev_types.specs.declared.events.Answer.TheVariants.{Ignored}
use Rattle.ev_types.specs.declared.events.Entry.{Entry}
use Rattle.ev_types.specs.declared.events.Event.{Event}
use Rattle.ev_types.specs.declared.events.Event.TheVariants.{Connect, Disconnect, Response, Health, FetchTimeout, DrainTimeout, TtlExpired, Publish, Reap, Accept, Close, Settle}
use Rattle.ev_types.specs.declared.events.Verdict.{Verdict}
use Rattle.ev_types.specs.declared.events.Verdict.TheVariants.{New, InPlace, Back, Same, Kept, Unasked, Renewed, Refused}
use Rattle.ev_types.specs.declared.journals.Format.{Format}
use Rattle.ev_types.specs.declared.rows.GenRow.{GenRow}
use Rattle.ev_types.specs.declared.rows.RowStatus.{RowStatus}
use Rattle.ev_model.specs.World.{World, opening}
use Rattle.ev_model.specs.Live.{lives_of}
use Rattle.ev_model.specs.Verdicts.{verdicts_for}
use Rattle.ev_model.specs.Watching.{is_watched}
use Rattle.ev_model.specs.Rows.{with_statuses, status_left, with_removals, replaced_status, new_row, add_row, keep_value, keep_version, with_content, told_of_refusal, refuse, add_item, add_items, made_names, with_first, is_row_of, arrived, rows_left, rows_replaced, rows_with_new, serving_row, add_in_place, go_back, renew}
use Rattle.ev_model.specs.Tidy.{promoted_status, tidy, promoted_rows}
use Rattle.ev_model.specs.Signals.{ended_status, with_end, forget_version}
use Rattle.ev_model.specs.Step.{step, answered}
use Rattle.ev_model.specs.Entries.{MadeRow, made_by, made_with, made_in_response, made_in, made_rows, made_of}
use Rattle.ev_model_laws.specs.Kept.{made_as, AreMade, BeginChains}
use Rattle.ev_model_laws.proofs.EventLemmas.{step-leads}
use Rattle.ev_model.specs.Laws.{Told, world_told, IsEntryAt}
use Rattle.ev_model_laws.proofs.PlaceLemmas.{take_one, IsAnswered, world_next}
use Rattle.std.specs.Option.{IfSome}
use Rattle.std.specs.Cmp.{first_so, second_so}
use Rattle.std.specs.Str.{bytes_eq}
use Rattle.std.proofs.lemmas.Option.{IfSome_then}
use Rattle.ev_types.specs.Kinds.{kind_same, kind_decides}
use Rattle.ev_types.specs.Same.{bytes_decide}
use Rattle.ev_types.specs.Statuses.{is_active}
use Rattle.ev_types.specs.declared.origins.KeptChain.{KeptChain}
use Rattle.ev_types.specs.declared.rows.Arrival.TheVariants.{Bad as bad}
use Rattle.ev_model.specs.Origins.{kept_from}
use Rattle.ev_model_laws.proofs.KeepLemmas.{with_content-holds}
use Rattle.ev_model_laws.proofs.TidyLists.{found_in}
use Rattle.ev_model_laws.proofs.OriginLemmas.{MakesMore, chains_more, serving_begins}

-- the one of this number among those that were made
abbrev pub numbered_in : List MadeRow → ℕ → Option MadeRow
numbered_in made zero = None
numbered_in made (suc place) = slice_get made place

made_numbered : (entries : List Entry) (number : ℕ) → made_of entries number ≡ numbered_in (made_rows entries) number
made_numbered entries zero = refl
made_numbered entries (suc place) = refl

-- what is at a place is there with more after it
pub get_first : {X : Type 0} (xs ys : List X) (place : ℕ) (x : X) → slice_get xs place ≡ Some x → slice_get (xs ++ ys) place ≡ Some x
get_first [] ys place x there = absurd (cc)
get_first (first ∷ xs) ys zero x there = there
get_first (first ∷ xs) ys (suc place) x there = get_first xs ys place x there

get_behind : {X : Type 0} (xs : List X) (x : X) → slice_get (xs ++ x ∷ []) (length xs) ≡ Some x
get_behind [] x = refl
get_behind (first ∷ xs) x = get_behind xs x

numbered_more : (made more : List MadeRow) (number : ℕ) (m : MadeRow) → numbered_in made number ≡ Some m → numbered_in (made ++ more) number ≡ Some m
numbered_more made more zero m there = absurd (cc)
numbered_more made more (suc place) m there = get_first made more place m there

-- a generation that some entries made is the one of its number with more entries
pub made_more : (entries more : List Entry) (number : ℕ) (m : MadeRow) → made_of entries number ≡ Some m → made_of (entries ++ more) number ≡ Some m
made_more entries more number m there =
    made_numbered (entries ++ more) number
    ∙ ap (λ (made : List MadeRow). numbered_in made number) (flat_map-append (λ (entry : Entry). made_in entry.event entry.answer) entries more)
    ∙ numbered_more (made_rows entries) (made_rows more) number m (sym (made_numbered entries number) ∙ there)

-- the row is the one of its number
abbrev IsMade : List MadeRow → GenRow → Type 0
IsMade made row = numbered_in made row.number ≡ Some (made_as row)

-- so are all rows, their chains began with generations of their names, and as many were made as numbers were allocated
record MadeIn (made : List MadeRow) (world : World) : Type 0 where
  rows : All (IsMade made) world.rows
  chains : All (BeginChains (numbered_in made)) world.rows
  drawn : length made ≡ world.made

-- with other rows
with_rows : (made : List MadeRow) (rows : List GenRow) (world : World) → All (IsMade made) rows → All (BeginChains (numbered_in made)) rows
    → MadeIn made world → MadeIn made (record world { rows = rows })
with_rows made rows world are chains before = record { rows = are; chains = chains; drawn = before.drawn }

same_statuses : (P : GenRow → Type 0) (status_of : GenRow → RowStatus) (rows : List GenRow)
    → ((row : GenRow) (status : RowStatus) → P row → P (record row { status = status })) → All P rows → All P (with_statuses status_of rows)
same_statuses P status_of rows stays are =
    All-map P (λ (row : GenRow). record row { status = status_of row }) rows
    (All-weaker P (λ (row : GenRow). P (record row { status = status_of row })) (λ (row : GenRow) is. stays row (status_of row) is) rows are)

statuses_made : (made : List MadeRow) (status_of : GenRow → RowStatus) (world : World) → MadeIn made world
    → MadeIn made (record world { rows = with_statuses status_of world.rows })
statuses_made made status_of world are = record {
  rows = same_statuses (IsMade made) status_of world.rows (λ row status is. is) are.rows;
  chains = same_statuses (BeginChains (numbered_in made)) status_of world.rows (λ row status begin. begin) are.chains;
  drawn = are.drawn;
}

-- rows and count are as they were
as_they_were : (made : List MadeRow) (before after : World) → after.rows ≡ before.rows → after.made ≡ before.made → MadeIn made before → MadeIn made after
as_they_were made before after rows drawn are = record {
  rows = subst (All (IsMade made)) (sym rows) are.rows;
  chains = subst (All (BeginChains (numbered_in made))) (sym rows) are.chains;
  drawn = are.drawn ∙ sym drawn;
}

tidied_made : (made : List MadeRow) (world : World) → MadeIn made world → MadeIn made (tidy world)
tidied_made made world are =
    as_they_were made (record world { rows = promoted_rows world.arrivals world.results world.rows }) (tidy world) refl refl
    (statuses_made made (promoted_status world.arrivals world.results world.rows) world are)

removals_made : (made : List MadeRow) (kind : Kind) (response : ResponseParts) (world : World) → MadeIn made world → MadeIn made (with_removals kind response world)
removals_made made Cds response world are =
    as_they_were made (record world { rows = rows_left Cds response world.rows }) (with_removals Cds response world) refl refl
    (statuses_made made (status_left Cds response) world are)
removals_made made Eds response world are = as_they_were made world (with_removals Eds response world) refl refl are
removals_made made Lds response world are =
    as_they_were made (record world { rows = rows_left Lds response world.rows }) (with_removals Lds response world) refl refl
    (statuses_made made (status_left Lds response) world are)
removals_made made Rds response world are = as_they_were made world (with_removals Rds response world) refl refl are
removals_made made Sds response world are = as_they_were made world (with_removals Sds response world) refl refl are
removals_made made Ecds response world are = as_they_were made world (with_removals Ecds response world) refl refl are

makes_more : (made more : List MadeRow) → MakesMore (numbered_in made) (numbered_in (made ++ more))
makes_more made more = record { is = λ number m there. numbered_more made more number m there }

more_made : (made more : List MadeRow) (rows : List GenRow) → All (IsMade made) rows → All (IsMade (made ++ more)) rows
more_made made more rows are =
    All-weaker (IsMade made) (IsMade (made ++ more)) (λ (row : GenRow) is. numbered_more made more row.number (made_as row) is) rows are

more_begin : (made more : List MadeRow) (rows : List GenRow) → All (BeginChains (numbered_in made)) rows
    → All (BeginChains (numbered_in (made ++ more))) rows
more_begin made more rows begin =
    All-weaker (BeginChains (numbered_in made)) (BeginChains (numbered_in (made ++ more)))
    (λ (row : GenRow). chains_more (numbered_in made) (numbered_in (made ++ more)) row (makes_more made more)) rows begin

module _ (made : List MadeRow) (kind : Kind) (item : ItemParts) (content : Content) (world : World) (are : MadeIn made world) where
  -- what the resource makes, and all that was made with it
  abbrev new_made : MadeRow
  new_made = record { kind = kind; name = item.name; content = content }

  abbrev all_made : List MadeRow
  all_made = made ++ new_made ∷ []

  -- it has the next number
  placed_next : numbered_in all_made (world.made + 1) ≡ Some new_made
  placed_next = ap (numbered_in all_made) (add-one world.made ∙ ap suc (sym are.drawn)) ∙ get_behind made new_made

  -- the new generation with chains of the generation that serves, if there is one
  row_made : (serving : Option GenRow)
      → IfSome serving (λ row. (row.kind ≡ kind) × (row.name ≡ item.name) × BeginChains (numbered_in all_made) row)
      → MadeIn all_made (add_row kind item content (kept_from serving content) world)
  row_made serving known =
      let chains : List KeptChain = kept_from serving content in
      let new : GenRow = new_row kind world.made item.name content chains in
      let olds : MadeIn made (record world { rows = rows_replaced kind item.name world.rows }) =
      statuses_made made (replaced_status kind item.name) world are in
      as_they_were all_made (record world { rows = rows_with_new kind world.made item.name content chains world.rows; made = world.made + 1 })
      (add_row kind item content chains world) refl refl
      (record {
        rows = All-append (IsMade all_made) (rows_replaced kind item.name world.rows) (new ∷ [])
            (more_made made (new_made ∷ []) (rows_replaced kind item.name world.rows) olds.rows)
            (All-cons (IsMade all_made) new [] placed_next (All-nil (IsMade all_made)));
        chains = All-append (BeginChains (numbered_in all_made)) (rows_replaced kind item.name world.rows) (new ∷ [])
            (more_begin made (new_made ∷ []) (rows_replaced kind item.name world.rows) olds.chains)
            (All-cons (BeginChains (numbered_in all_made)) new []
            (serving_begins (numbered_in all_made) kind item.name content (world.made + 1) placed_next serving known)
            (All-nil (BeginChains (numbered_in all_made))));
        drawn = omega (arith, length-append made (new_made ∷ []), are.drawn);
      })

  -- the generation that serves the name is of its kind and name, and its chains began so
  serving_known : IfSome (serving_row kind item.name world.rows)
      (λ row. (row.kind ≡ kind) × (row.name ≡ item.name) × BeginChains (numbered_in all_made) row)
  serving_known =
      let test : GenRow → Bool = λ (row : GenRow). is_row_of kind item.name row && is_active row.status in
      IfSome_then (serving_row kind item.name world.rows) (found_in test world.rows)
      (λ (row : GenRow) found.
      let named : is_row_of kind item.name row ≡ true = first_so (is_row_of kind item.name row) (is_active row.status) found.1 in (
        (kind_decides row.kind kind).0 (first_so (kind_same row.kind kind) (bytes_eq row.name item.name) named),
        (bytes_decide row.name item.name).0 (second_so (kind_same row.kind kind) (bytes_eq row.name item.name) named),
        All-contains (BeginChains (numbered_in all_made)) world.rows row (more_begin made (new_made ∷ []) world.rows are.chains) found.0,
      ))

none_made : (made : List MadeRow) (world : World) → MadeIn made world → MadeIn (made ++ []) world
none_made made world are = subst (λ (ms : List MadeRow). MadeIn ms world) (sym (append-nil made)) are

-- a good resource makes what its verdict says, and any other nothing
new_by : (made : List MadeRow) (kind : Kind) (item : ItemParts) (body : Body) (world : World) → MadeIn made world
    → MadeIn (made ++ made_by kind New item.name body) (with_content (λ content. add_row kind item content []) body world)
new_by made kind item (Good content) world are = row_made made kind item content world are None tt
new_by made kind item (Bad rule) world are = none_made made world are
new_by made kind item Beat world are = none_made made world are

in_place_by : (made : List MadeRow) (kind : Kind) (item : ItemParts) (body : Body) (world : World) → MadeIn made world
    → MadeIn (made ++ made_by kind InPlace item.name body) (with_content (add_in_place kind item) body world)
in_place_by made kind item (Good content) world are =
    row_made made kind item content world are (serving_row kind item.name world.rows) (serving_known made kind item content world are)
in_place_by made kind item (Bad rule) world are = none_made made world are
in_place_by made kind item Beat world are = none_made made world are

back_made : (made : List MadeRow) (kind : Kind) (item : ItemParts) (world : World) → MadeIn made world → MadeIn made (go_back kind item world)
back_made made kind item world are =
    as_they_were made (record world { rows = rows_replaced kind item.name world.rows }) (go_back kind item world) refl refl
    (statuses_made made (replaced_status kind item.name) world are)

told_made : (made : List MadeRow) (kind : Kind) (name : List ℕ) (world : World) (watched : Bool) → MadeIn made world
    → is_watched (lives_of world) kind name ≡ watched → MadeIn made (told_of_refusal kind name world)
told_made made kind name world true are is = simp is (as_they_were made world (record world { arrivals = world.arrivals ++ arrived world.made kind bad name ∷ [] }) refl refl are)
told_made made kind name world false are is = simp is are

refused_made : (made : List MadeRow) (kind : Kind) (name : List ℕ) (world : World) → MadeIn made world → MadeIn made (refuse kind name world)
refused_made made Cds name world are = are
refused_made made Eds name world are = told_made made Eds name world _ are refl
refused_made made Lds name world are = are
refused_made made Rds name world are = told_made made Rds name world _ are refl
refused_made made Sds name world are = told_made made Sds name world _ are refl
refused_made made Ecds name world are = told_made made Ecds name world _ are refl

item_made : (made : List MadeRow) (kind : Kind) (verdict : Verdict) (item : ItemParts) (world : World) → MadeIn made world
    → MadeIn (made ++ made_by kind verdict item.name item.body) (add_item kind verdict item world)
item_made made kind New item world are = new_by made kind item item.body world are
item_made made kind InPlace item world are = in_place_by made kind item item.body world are
item_made made kind Back item world are =
    none_made made _ (with_content-holds (MadeIn made) (λ content. go_back kind item) item.body world (λ content. back_made made kind item world are) are)
item_made made kind Same item world are =
    none_made made _ (with_content-holds (MadeIn made) (λ content. keep_version kind item) item.body world
    (λ content. as_they_were made world (keep_version kind item world) refl refl are) are)
item_made made kind Kept item world are =
    none_made made _ (with_content-holds (MadeIn made) (keep_value kind item) item.body world
    (λ content. as_they_were made world (keep_value kind item content world) refl refl are) are)
item_made made kind Unasked item world are = none_made made world are
item_made made kind Renewed item world are = none_made made _ (as_they_were made world (renew kind item.name world) refl refl are)
item_made made kind (Refused rule) item world are = none_made made _ (refused_made made kind item.name world are)

items_made : (made : List MadeRow) (kind : Kind) (judged : List (Verdict × ItemParts)) (world : World) → MadeIn made world
    → MadeIn (made ++ flat_map (λ (one : Verdict × ItemParts). made_by kind one.0 one.1.name one.1.body) judged)
    (fold (λ (w : World) (one : Verdict × ItemParts). add_item kind one.0 one.1 w) world judged)
items_made made kind [] world are = none_made made world are
items_made made kind (one ∷ judged) world are =
    subst (λ (ms : List MadeRow). MadeIn ms (fold (λ (w : World) (one : Verdict × ItemParts). add_item kind one.0 one.1 w) (add_item kind one.0 one.1 world) judged))
    (append_assoc made (made_by kind one.0 one.1.name one.1.body)
    (flat_map (λ (one : Verdict × ItemParts). made_by kind one.0 one.1.name one.1.body) judged))
    (items_made (made ++ made_by kind one.0 one.1.name one.1.body) kind judged (add_item kind one.0 one.1 world)
    (item_made made kind one.0 one.1 world are))

first_made : (made : List MadeRow) (kind : Kind) (names : List (List ℕ)) (world : World) → MadeIn made world → MadeIn made (with_first kind names world)
first_made made Cds names world are = as_they_were made world (with_first Cds names world) refl refl are
first_made made Eds names world are = are
first_made made Lds names world are = as_they_were made world (with_first Lds names world) refl refl are
first_made made Rds names world are = are
first_made made Sds names world are = are
first_made made Ecds names world are = are

answered_made : (made : List MadeRow) (kind : Kind) (response : ResponseParts) (verdicts : List Verdict) (world : World) → MadeIn made world
    → MadeIn (made ++ made_with kind verdicts response.items) (answered kind response verdicts world).0
answered_made made kind response verdicts world are =
    let all : List MadeRow = made ++ made_with kind verdicts response.items in
    let left : World = with_removals kind response world in
    let filled : World = add_items kind verdicts response.items left in
    tidied_made all (with_first kind (made_names verdicts response.items) filled)
    (first_made all kind (made_names verdicts response.items) filled
    (items_made made kind (zip verdicts response.items) left (removals_made made kind response world are)))

end_made : (made : List MadeRow) (kind : Kind) (name : List ℕ) (world : World) → MadeIn made world → MadeIn made (with_end kind name world)
end_made made Cds name world are = statuses_made made (ended_status Cds name) world are
end_made made Eds name world are = as_they_were made world (with_end Eds name world) refl refl are
end_made made Lds name world are = statuses_made made (ended_status Lds name) world are
end_made made Rds name world are = as_they_were made world (with_end Rds name world) refl refl are
end_made made Sds name world are = are
end_made made Ecds name world are = are

-- what is ignored makes nothing
ignored_makes : (event : Event) → made_in event Ignored ≡ []
ignored_makes (Response response) = refl
ignored_makes event = refl

module _ (made : List MadeRow) (format : Format) (world : World) (actor : Actor) (event : Event) (are : MadeIn made world) where
  abbrev MadeBy : World × Answer → Type 0
  MadeBy did = MadeIn (made ++ made_in event did.1) did.0

  by_none : (did : World × Answer) (same : Event) → event ≡ same → made_in same did.1 ≡ [] → MadeIn made did.0 → MadeBy did
  by_none did same is none after =
      subst (λ (more : List MadeRow). MadeIn (made ++ more) did.0) (sym (ap (λ (e : Event). made_in e did.1) is ∙ none)) (none_made made did.0 after)

  -- an event keeps that each generation is what its resource made
  step-made : MadeBy (step format world actor event)
  step-made = step-leads MadeBy format world actor event (record {
    ignored = by_none (world, Ignored) event refl (ignored_makes event) are;
    connected = λ is. by_none _ Connect is refl (tidied_made made (record world { stream = true }) (as_they_were made world _ refl refl are));
    disconnected = λ is. by_none _ Disconnect is refl (tidied_made made (record world { stream = false }) (as_they_were made world _ refl refl are));
    replied = λ kind response is typed.
        let verdicts : List Verdict = verdicts_for kind (lives_of world) world.versions response in
        let all : made_in event (answered kind response verdicts world).1 ≡ made_with kind verdicts response.items =
        ap (λ (e : Event). made_in e (answered kind response verdicts world).1) is
        ∙ ap (λ (of : Option Kind). made_in_response of response verdicts) typed in
        subst (λ (more : List MadeRow). MadeIn (made ++ more) (answered kind response verdicts world).0) (sym all)
        (answered_made made kind response verdicts world are);
    resulted = λ cluster host healthy rows is.
        by_none _ (Health cluster host healthy) is refl (tidied_made made _ (as_they_were made world _ refl refl are));
    timed = λ timeout name is named. by_none _ (FetchTimeout timeout) is refl (tidied_made made _ (as_they_were made world _ refl refl are));
    clusters_late = λ timeout is. by_none _ (FetchTimeout timeout) is refl (tidied_made made _ (as_they_were made world _ refl refl are));
    listeners_late = λ timeout is. by_none _ (FetchTimeout timeout) is refl (tidied_made made _ (as_they_were made world _ refl refl are));
    expired = λ name numbers is. by_none _ (DrainTimeout name) is refl (tidied_made made _ (as_they_were made world _ refl refl are));
    ended = λ kind name is bounded.
        by_none _ (TtlExpired kind name) is refl
        (tidied_made made _ (end_made made kind name (forget_version kind name world) (as_they_were made world _ refl refl are)));
    unchanged = λ is. by_none _ Publish is refl are;
    published = λ is. by_none _ Publish is refl (as_they_were made world _ refl refl are);
    reaped = λ is. by_none _ Reap is refl (record {
      rows = All-filter _ (IsMade made) world.rows are.rows;
      chains = All-filter _ (BeginChains (numbered_in made)) world.rows are.chains;
      drawn = are.drawn;
    });
    accepted = λ ask worker is by. by_none _ (Accept ask) is refl (as_they_were made world _ refl refl are);
    closed = λ connection worker is by. by_none _ (Close connection) is refl (as_they_were made world _ refl refl are);
    settled = λ worker is by. by_none _ Settle is refl (as_they_were made world _ refl refl are);
  })

from_rows : (entries : List Entry) → MakesMore (numbered_in (made_rows entries)) (made_of entries)
from_rows entries = record { is = λ number m there. made_numbered entries number ∙ there }

to_rows : (entries : List Entry) → MakesMore (made_of entries) (numbered_in (made_rows entries))
to_rows entries = record { is = λ number m there. sym (made_numbered entries number) ∙ there }

to_made : (entries : List Entry) (world : World) → MadeIn (made_rows entries) world → AreMade world entries
to_made entries world are = record {
  rows = All-weaker (IsMade (made_rows entries)) (λ (row : GenRow). made_of entries row.number ≡ Some (made_as row))
      (λ (row : GenRow) is. made_numbered entries row.number ∙ is) world.rows are.rows;
  chains = All-weaker (BeginChains (numbered_in (made_rows entries))) (BeginChains (made_of entries))
      (λ (row : GenRow). chains_more (numbered_in (made_rows entries)) (made_of entries) row (from_rows entries)) world.rows are.chains;
  drawn = are.drawn;
}

from_made : (entries : List Entry) (world : World) → AreMade world entries → MadeIn (made_rows entries) world
from_made entries world are = record {
  rows = All-weaker (λ (row : GenRow). made_of entries row.number ≡ Some (made_as row)) (IsMade (made_rows entries))
      (λ (row : GenRow) is. sym (made_numbered entries row.number) ∙ is) world.rows are.rows;
  chains = All-weaker (BeginChains (made_of entries)) (BeginChains (numbered_in (made_rows entries)))
      (λ (row : GenRow). chains_more (made_of entries) (numbered_in (made_rows entries)) row (to_rows entries)) world.rows are.chains;
  drawn = are.drawn;
}

-- an entry keeps it
pub made_next : (told : Told) (k : ℕ) (entry : Entry) → IsEntryAt told k entry → IsAnswered told k entry
    → AreMade (world_told told k) (take k told.journal) → AreMade (world_told told (k + 1)) (take (k + 1) told.journal)
made_next told k entry there answered are =
    let world : World = world_told told k in
    let before : List Entry = take k told.journal in
    let did : World × Answer = step told.format world entry.actor entry.event in
    let all : made_rows (take (k + 1) told.journal) ≡ made_rows before ++ made_in entry.event did.1 =
    ap made_rows (take_one told.journal k entry there)
    ∙ flat_map-append (λ (e : Entry). made_in e.event e.answer) before (entry ∷ [])
    ∙ ap (λ (ms : List MadeRow). made_rows before ++ ms)
    (append-nil (made_in entry.event entry.answer) ∙ ap (made_in entry.event) answered.answer) in
    to_made (take (k + 1) told.journal) (world_told told (k + 1))
    (subst₂ MadeIn (sym all) (sym (world_next told k entry there))
    (step-made (made_rows before) told.format world entry.actor entry.event (from_made before world are)))

pub opens_made : (workers : ℕ) (node : List ℕ) → AreMade (opening workers node) []
opens_made workers node = record { rows = All-nil _; chains = All-nil _; drawn = refl }
