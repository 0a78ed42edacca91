-- What others do leaves what a worker holds and has open.
use Rattle.std.proofs.Common.{◌≡◌, ℕ, Bool, true, false, not, ◌&&◌, ◌==◌, cond, List, [], ◌∷◌, ◌++◌, filter, length, refl, sym, ap, ◌∙◌}
use Rattle.std.specs.Prelude.{⊤, slice_index_or}
use Rattle.std.specs.Cmp.{first_so}
use Rattle.std.proofs.lemmas.Bool.{true≢false}
use Rattle.std.proofs.lemmas.List.{append-nil, get_or-set_other, get_or_append_left}
use Rattle.std.proofs.lemmas.List.Elements.{filter-append}
use Rattle.ev_types.specs.Events.{MayMake}
use Rattle.ev_types.specs.Same.{numbers_decide}
use Rattle.ev_types.specs.declared.events.Actor.{Actor}
use Rattle.ev_types.specs.declared.events.Actor.TheVariants.{Worker}
use Rattle.ev_types.specs.declared.events.Ask.{Ask}
use Rattle.ev_types.specs.declared.events.Entry.{Entry}
use Rattle.ev_types.specs.declared.events.Event.{Event}
use Rattle.ev_types.specs.declared.events.Event.TheVariants.{Connect, Disconnect, Response, Health, FetchTimeout, DrainTimeout, TtlExpired, Publish, Reap, Accept, Close, Settle}
use Rattle.ev_types.specs.declared.journals.Format.{Format}
use Rattle.ev_model.specs.declared.pictures.Choice.{Choice}
use Rattle.ev_model.specs.declared.pictures.Choice.TheVariants.{NoListener, NoChain, On}
use Rattle.ev_model.specs.declared.pictures.Picture.{Picture}
use Rattle.ev_model.specs.declared.pictures.Shown.{Shown}
use Rattle.ev_model.specs.World.{World, OpenMember, nothing_shown, last_version}
use Rattle.ev_model.specs.Choice.{choice_of}
use Rattle.ev_model.specs.Dead.{last_picture, shown_at, picture_at, picture_held, version_held}
use Rattle.ev_model.specs.Picture.{shown_of, shown_same, has_number}
use Rattle.ev_types.specs.declared.events.Answer.TheVariants.{Unchanged, Version}
use Rattle.ev_model.specs.Connections.{accepted, closed, is_closing, is_member, is_chain_shown, is_open, left_open, listener_after, members_of, moved_on}
use Rattle.ev_model.specs.Step.{step}
use Rattle.ev_model.specs.Runs.{world_after}
use Rattle.ev_model_laws.specs.Kept.{HoldsPublished}
use Rattle.ev_model_laws.proofs.OperationLists.{filter_through}
use Rattle.ev_model_laws.proofs.KeepLemmas.{either, seen_of, step-each}
use Rattle.ev_model_laws.proofs.SeenLemmas.{IsSameSeen, same_seen}
use Rattle.ev_model_laws.proofs.HeldLemmas.{step-held}
use Rattle.ev_worker.specs.Workers.{HasWorker, SameOpen}

-- the world after entries and others after them
pub after_append : (format : Format) (world : World) (entries others : List Entry)
    → world_after format world (entries ++ others) ≡ world_after format (world_after format world entries) others
after_append format world [] others = refl
after_append format world (entry ∷ entries) others = after_append format (step format world entry.actor entry.event).0 entries others

-- each worker holds a picture that was published
pub held_after : (format : Format) (world : World) (entries : List Entry) → HoldsPublished world → HoldsPublished (world_after format world entries)
held_after format world [] holds = holds
held_after format world (entry ∷ entries) holds =
    held_after format (step format world entry.actor entry.event).0 entries (step-held format world entry.actor entry.event holds)

another : (one other : ℕ) → (one ≡ other → ⊥) → (one == other) ≡ false
another one other apart = by (one == other) refl
  where
    by : (b : Bool) → (one == other) ≡ b → (one == other) ≡ false
    by true is = absurd (apart ((numbers_decide one other).0 is))
    by false is = is

-- none of these entries is the worker's
abbrev pub AreOfOthers : ℕ → List Entry → Type 0
AreOfOthers number [] = ⊤
AreOfOthers number (entry ∷ entries) = ((worker : ℕ) → entry.actor ≡ Worker worker → worker ≡ number → ⊥) × AreOfOthers number entries

module _ (number : ℕ) (picture : Picture) (opened : List OpenMember) where
  -- a connection of the worker is none of another's
  not_other : (worker connection other : ℕ) → (worker ≡ number → ⊥) → (m : OpenMember) → is_member number connection m ≡ true → (m.worker == worker) ≡ false
  not_other worker connection other apart m is =
      let own : m.worker ≡ number = (numbers_decide m.worker number).0 (first_so (m.worker == number) (m.connection == connection) is) in
      another m.worker worker (λ same. apart (sym same ∙ own))

  none_opened : (worker connection other : ℕ) (choice : Choice) → (worker ≡ number → ⊥) → filter (is_member number connection) (members_of worker other choice) ≡ []
  none_opened worker connection other choice apart = by choice
    where
      no : (worker == number) ≡ false
      no = another worker number apart

      by : (choice : Choice) → filter (is_member number connection) (members_of worker other choice) ≡ []
      by NoListener = refl
      by NoChain = refl
      by (On listener chain origin course) = simp no refl

  -- what another accepts leaves them
  accept_leaves : (worker : ℕ) (shown : Picture) (ask : Ask) (all : List OpenMember) → (worker ≡ number → ⊥) → SameOpen number (accepted shown ask worker all).opened all
  accept_leaves worker shown ask all apart connection = by (is_open all worker ask.conn) refl
    where
      by : (b : Bool) → is_open all worker ask.conn ≡ b → filter (is_member number connection) (accepted shown ask worker all).opened ≡ filter (is_member number connection) all
      by true is = simp is refl
      by false is =
          simp is
          (filter-append (is_member number connection) all (members_of worker ask.conn (choice_of shown ask))
          ∙ ap (λ ms. filter (is_member number connection) all ++ ms) (none_opened worker connection ask.conn (choice_of shown ask) apart)
          ∙ append-nil (filter (is_member number connection) all))

  -- so does what another closes
  close_leaves : (worker closing : ℕ) (all : List OpenMember) → (worker ≡ number → ⊥) → SameOpen number (closed closing worker all).opened all
  close_leaves worker closing all apart connection = by (is_open all worker closing) refl
    where
      stays : (m : OpenMember) → is_member number connection m ≡ true → not (is_member worker closing m) ≡ true
      stays m is = ap (λ b. not (b && (m.connection == closing))) (not_other worker connection closing apart m is)

      by : (b : Bool) → is_open all worker closing ≡ b → filter (is_member number connection) (closed closing worker all).opened ≡ filter (is_member number connection) all
      by true is = simp is (sym (filter_through (is_member number connection) (λ (m : OpenMember). not (is_member worker closing m)) stays all))
      by false is = simp is refl

  -- what another's settle moves
  moved_leaves : (worker connection : ℕ) (shown : Shown) → (worker ≡ number → ⊥) → (all : List OpenMember)
      → filter (is_member number connection) (moved_on shown worker all) ≡ filter (is_member number connection) all
  moved_leaves worker connection shown apart [] = refl
  moved_leaves worker connection shown apart (m ∷ ms) =
      by (m.worker == worker) (is_member number connection m) refl (not_other worker connection worker apart m) (moved_leaves worker connection shown apart ms)
    where
      by : (t u : Bool) → is_member number connection m ≡ u → (is_member number connection m ≡ true → t ≡ false)
          → filter (is_member number connection) (moved_on shown worker ms) ≡ filter (is_member number connection) ms
          → filter (is_member number connection) (cond t (record m { listener = listener_after shown m }) m ∷ moved_on shown worker ms)
          ≡ filter (is_member number connection) (m ∷ ms)
      by true true own not_its rest = absurd (true≢false (not_its own))
      by true false own not_its rest =
          ap
          (λ b. cond b (record m { listener = listener_after shown m } ∷ filter (is_member number connection) (moved_on shown worker ms))
          (filter (is_member number connection) (moved_on shown worker ms)))
          own
          ∙ rest
          ∙ sym (ap (λ b. cond b (m ∷ filter (is_member number connection) ms) (filter (is_member number connection) ms)) own)
      by false u own not_its rest = ap (λ ms. cond (is_member number connection m) (m ∷ ms) ms) rest

  -- and what it closes
  settle_leaves : (worker : ℕ) (expired : List ℕ) (shown : Shown) (all : List OpenMember) → (worker ≡ number → ⊥)
      → SameOpen number (moved_on shown worker (left_open shown expired worker all)) all
  settle_leaves worker expired shown all apart connection =
      moved_leaves worker connection shown apart (left_open shown expired worker all)
      ∙ sym (filter_through (is_member number connection) (λ (m : OpenMember). not (is_closing shown expired worker m)) stays all)
    where
      stays : (m : OpenMember) → is_member number connection m ≡ true → not (is_closing shown expired worker m) ≡ true
      stays m is =
          ap (λ b. not (b && has_number m.listener expired && not (is_chain_shown m.origin shown))) (not_other worker connection worker apart m is)

  -- no step of another changes what the worker holds and has open
  pub step_leaves : (format : Format) (world : World) (actor : Actor) (event : Event) → HoldsPublished world → ((worker : ℕ) → actor ≡ Worker worker → worker ≡ number → ⊥)
      → HasWorker number picture opened world → HasWorker number picture opened (step format world actor event).0
  step_leaves format world actor event published apart has = step-each (HasWorker number picture opened) format world actor event has (record {
    managed = λ event is.
        let same : IsSameSeen (seen_of world) (seen_of (step format world actor event).0) = same_seen format world actor event is in
        record {
          holds =
              (λ i. record { version = slice_index_or (same.held i) number 0; shown = slice_index_or (same.pictures i) (slice_index_or (same.held i) number 0) nothing_shown })
              ∙ has.holds;
          has = λ connection. has.has connection ∙ ap (filter (is_member number connection)) (sym same.opened);
        };
    published = either (HasWorker number picture opened) (shown_same (shown_of world) (shown_at world (last_version world))) (world, Unchanged)
        (record world { pictures = world.pictures ++ shown_of world ∷ [] }, Version (length world.pictures)) has (record {
          holds =
              ap (λ (shown : Shown). record { version = version_held world number; shown = shown })
              (get_or_append_left world.pictures (shown_of world ∷ []) nothing_shown (version_held world number) (published number))
              ∙ has.holds;
          has = has.has;
        });
    reaped = record { holds = has.holds; has = has.has };
    accepted = λ ask worker is. record {
      holds = has.holds;
      has = λ connection. has.has connection ∙ sym (accept_leaves worker (picture_held world worker) ask world.opened (apart worker is) connection);
    };
    closed = λ connection worker is. record {
      holds = has.holds;
      has = λ other. has.has other ∙ sym (close_leaves worker connection world.opened (apart worker is) other);
    };
    settled = λ worker is. record {
      holds =
          ap (λ version. picture_at world version) (get_or-set_other world.held worker number (last_version world) 0 (λ same. apart worker is (sym same)))
          ∙ has.holds;
      has = λ connection. has.has connection ∙ sym (settle_leaves worker world.expired (last_picture world).shown world.opened (apart worker is) connection);
    };
  })

  -- nor do entries of others
  pub entries_leave : (format : Format) (world : World) (entries : List Entry) → HoldsPublished world
      → AreOfOthers number entries → HasWorker number picture opened world → HasWorker number picture opened (world_after format world entries)
  entries_leave format world [] published others has = has
  entries_leave format world (entry ∷ entries) published others has =
      entries_leave format (step format world entry.actor entry.event).0 entries (step-held format world entry.actor entry.event published) others.1
      (step_leaves format world entry.actor entry.event published others.0 has)

-- no accept, close or settle of a worker draws a number
pub worker_draws : (format : Format) (workers worker : ℕ) (world : World) (event : Event) → MayMake workers (Worker worker) event
    → (step format world (Worker worker) event).0.made ≡ world.made
worker_draws format workers worker world Connect may = absurd may
worker_draws format workers worker world Disconnect may = absurd may
worker_draws format workers worker world (Response response) may = absurd may
worker_draws format workers worker world (Health cluster host healthy) may = absurd may
worker_draws format workers worker world (FetchTimeout timeout) may = absurd may
worker_draws format workers worker world (DrainTimeout listener) may = absurd may
worker_draws format workers worker world (TtlExpired kind name) may = absurd may
worker_draws format workers worker world Publish may = absurd may
worker_draws format workers worker world Reap may = absurd may
worker_draws format workers worker world (Accept ask) may = refl
worker_draws format workers worker world (Close connection) may = refl
worker_draws format workers worker world Settle may = refl
