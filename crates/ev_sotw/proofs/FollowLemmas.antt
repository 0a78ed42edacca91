-- What is known follows the entries.
use Rattle.std.proofs.Common.{◌≡◌, ◌∙◌, ℕ, Bool, true, false, not, cond, ◌&&◌, ◌||◌, ◌⊎◌, inl, inr, List, [], ◌∷◌, ◌++◌, map, filter, codes, Option, Some, None, option_and_then, refl, sym, ap}
use Rattle.std.specs.Prelude.{filter_map, unwrap_or}
use Rattle.std.specs.List.{last_or, flat_map, cons_option}
use Rattle.std.specs.Str.{bytes_eq}
use Rattle.std.proofs.lemmas.Bool.{false≢true}
use Rattle.std.proofs.lemmas.List.Folds.{list_any-append}
use Rattle.serde_json.specs.Data.{array, object, member, no_members}
use Rattle.serde_json.specs.View.{items_of}
use Rattle.ev_journal.specs.Rendering.{verdict_tree, row_object}
use Rattle.ev_types.specs.Events.{op_of}
use Rattle.ev_types.specs.Same.{bytes_decide}
use Rattle.ev_types.specs.declared.contents.Kind.{Kind}
use Rattle.ev_types.specs.declared.contents.Kind.TheVariants.{Cds, Eds, Lds, Rds, Sds, Ecds}
use Rattle.ev_types.specs.declared.contents.Request.{Request}
use Rattle.ev_types.specs.declared.events.Answer.{Answer}
use Rattle.ev_types.specs.declared.events.Answer.TheVariants.{Ignored, Done, Moved, Replied, Version, Unchanged, Reaped, InUse, NoListener, NoChain, On, NotOpen, Settled}
use Rattle.ev_types.specs.declared.events.Entry.{Entry}
use Rattle.ev_model.specs.Requests.{other_than}
use Rattle.ev_model.specs.Verdicts.{is_among}
use Rattle.ev_sotw.specs.Names.{with_names}
use Rattle.ev_sotw.proofs.NameSetLemmas.{among_sorted, among_with, among_other, sorted-in_order, same-names}
use Rattle.ev_sotw.proofs.SearchLemmas.{or_last, search_more}
use Rattle.ev_sotw.specs.Stated.{Stated, is_connect, is_moved, opens, reply_in, nonce_by, nonce_said, last_nonce, version_said, last_version, asked, given_up, asked_said, is_asked, names_asked, known_of, sotw_request, request_told, answer_told, entry_told}
use Rattle.ev_sotw.specs.Follows.{after_entry, type_by, after_all, FollowsEntries, request_by, answer_by, entry_by}
use Rattle.ev_sotw.specs.declared.state.SotwState.{SotwState}

found_last : {A : Type 0} (found : Option A) (before : A) → or_last found before ≡ unwrap_or found before
found_last None before = refl
found_last (Some x) before = refl

-- ---- nonces

moved_no_reply : (answer : Answer) → is_moved answer ≡ true → reply_in answer ≡ None
moved_no_reply (Moved requests) h = refl
moved_no_reply (Replied requests verdicts) h = absurd (false≢true h)
moved_no_reply Ignored h = refl
moved_no_reply Done h = refl
moved_no_reply (Version version) h = refl
moved_no_reply Unchanged h = refl
moved_no_reply (Reaped numbers) h = refl
moved_no_reply InUse h = refl
moved_no_reply NoListener h = refl
moved_no_reply NoChain h = refl
moved_no_reply (On listener chain way) h = refl
moved_no_reply NotOpen h = refl
moved_no_reply (Settled closed moved version) h = refl

and_last : (a b : Bool) → (a && b) ≡ true → b ≡ true
and_last true b h = h
and_last false b h = absurd (false≢true h)

nonce_after : (kind : Kind) (stated : Stated) (before : List ℕ)
    → unwrap_or (option_and_then (nonce_by kind) (reply_in stated.entry.answer)) (cond (opens stated.entry) [] before) ≡ unwrap_or (nonce_said kind stated) before
nonce_after kind stated before = by (opens stated.entry) refl
  where
    by : (b : Bool) → opens stated.entry ≡ b
        → unwrap_or (option_and_then (nonce_by kind) (reply_in stated.entry.answer)) (cond b [] before)
        ≡ unwrap_or (cond b (Some []) (option_and_then (nonce_by kind) (reply_in stated.entry.answer))) before
    by true is = ap (λ reply. unwrap_or (option_and_then (nonce_by kind) reply) []) (moved_no_reply stated.entry.answer (and_last (is_connect stated.entry.event) (is_moved stated.entry.answer) is))
    by false is = refl

-- ---- names

among_kept : (test : List ℕ → Bool) (names : List (List ℕ)) (name : List ℕ) → is_among name (filter test names) ≡ (is_among name names && test name)
among_kept test [] name = refl
among_kept test (first ∷ names) name = by (bytes_eq first name) refl (test first) refl (among_kept test names name)
  where
    by : (b : Bool) → bytes_eq first name ≡ b → (t : Bool) → test first ≡ t
        → is_among name (filter test names) ≡ (is_among name names && test name)
        → is_among name (cond t (first ∷ filter test names) (filter test names)) ≡ ((b || is_among name names) && test name)
    by true is true passes rest =
        ap (λ b. b || is_among name (filter test names)) is ∙ sym (ap test (sym ((bytes_decide first name).0 is)) ∙ passes)
    by true is false fails rest =
        let away : test name ≡ false = ap test (sym ((bytes_decide first name).0 is)) ∙ fails in
        rest ∙ (λ i. is_among name names && away i) ∙ and_false (is_among name names) ∙ sym away
      where
        and_false : (b : Bool) → (b && false) ≡ false
        and_false true = refl
        and_false false = refl
    by false isnt true passes rest = ap (λ b. b || is_among name (filter test names)) isnt ∙ rest
    by false isnt false fails rest = rest

-- an entry that says that a name is asked for asks for it
said_asked : (kind : Kind) (name : List ℕ) (stated : Stated) → asked_said kind name stated ≡ Some true → is_among name (asked kind stated) ≡ true
said_asked kind name stated = by (opens stated.entry) (is_among name (asked kind stated)) (is_among name (given_up kind stated))
  where
    by : (o a g : Bool) → cond o (Some a) (cond a (Some true) (cond g (Some false) None)) ≡ Some true → a ≡ true
    by true true g h = refl
    by true false g h = absurd (cc)
    by false true g h = refl
    by false false true h = absurd (cc)
    by false false false h = absurd (cc)

some_true : (found : Option Bool) → unwrap_or found false ≡ true → found ≡ Some true
some_true None h = absurd (false≢true h)
some_true (Some b) h = ap Some h

or_right : (a b : Bool) → b ≡ true → (a || b) ≡ true
or_right true b h = refl
or_right false b h = h

or_left : (a b : Bool) → a ≡ true → (a || b) ≡ true
or_left true b h = refl
or_left false b h = absurd (false≢true h)

-- a name that is asked for in the end was asked for by some entry
asked_once : (kind : Kind) (name : List ℕ) (entries : List Stated) (so_far : Option Bool) → unwrap_or (last_or so_far (filter_map (asked_said kind name) entries)) false ≡ true
    → (so_far ≡ Some true) ⊎ (is_among name (flat_map (asked kind) entries) ≡ true)
asked_once kind name [] so_far h = inl (some_true so_far h)
asked_once kind name (stated ∷ entries) so_far h = by (asked_said kind name stated) refl h (asked_once kind name entries)
  where
    here : is_among name (asked kind stated) ≡ true → is_among name (flat_map (asked kind) (stated ∷ entries)) ≡ true
    here is = list_any-append (λ n. bytes_eq n name) (asked kind stated) (flat_map (asked kind) entries) ∙ or_left _ _ is

    later : is_among name (flat_map (asked kind) entries) ≡ true → is_among name (flat_map (asked kind) (stated ∷ entries)) ≡ true
    later is = list_any-append (λ n. bytes_eq n name) (asked kind stated) (flat_map (asked kind) entries) ∙ or_right (is_among name (asked kind stated)) _ is

    by : (said : Option Bool) → asked_said kind name stated ≡ said
        → unwrap_or (last_or so_far (cons_option said (filter_map (asked_said kind name) entries))) false ≡ true
        → ((o : Option Bool) → unwrap_or (last_or o (filter_map (asked_said kind name) entries)) false ≡ true → (o ≡ Some true) ⊎ (is_among name (flat_map (asked kind) entries) ≡ true))
        → (so_far ≡ Some true) ⊎ (is_among name (flat_map (asked kind) (stated ∷ entries)) ≡ true)
    by None is found rest = elim (rest so_far found) [ inl e ↦ inl e | inr e ↦ inr (later e) ]
    by (Some b) is found rest = elim (rest (Some b) found) [ inl e ↦ inr (here (said_asked kind name stated (is ∙ e))) | inr e ↦ inr (later e) ]

-- a name is among those that are asked for where it is asked for
pub among_asked : (kind : Kind) (entries : List Stated) (name : List ℕ) → is_among name (names_asked kind entries) ≡ is_asked kind entries name
among_asked kind entries name =
    among_sorted (filter (is_asked kind entries) (flat_map (asked kind) entries)) name
    ∙ among_kept (is_asked kind entries) (flat_map (asked kind) entries) name
    ∙ by (is_asked kind entries name) refl
  where
    none_true : {A : Type 0} → None ≡ Some true → A
    none_true e = absurd (cc)

    and_self : (b : Bool) → (b && false) ≡ false
    and_self true = refl
    and_self false = refl

    by : (b : Bool) → is_asked kind entries name ≡ b → (is_among name (flat_map (asked kind) entries) && b) ≡ b
    by true is = elim (asked_once kind name entries None is) [ inl e ↦ none_true e | inr e ↦ ap (λ a. a && true) e ]
    by false is = and_self (is_among name (flat_map (asked kind) entries))

names_after : (kind : Kind) (entries : List Stated) (stated : Stated)
    → with_names (asked kind stated) (other_than (given_up kind stated) (cond (opens stated.entry) [] (names_asked kind entries))) ≡ names_asked kind (entries ++ stated ∷ [])
names_after kind entries stated =
    let old : List (List ℕ) = cond (opens stated.entry) [] (names_asked kind entries) in
    let all : List Stated = entries ++ stated ∷ [] in
    same-names (with_names (asked kind stated) (other_than (given_up kind stated) old)) (names_asked kind all)
    (sorted-in_order (asked kind stated ++ other_than (given_up kind stated) old)) (sorted-in_order (filter (is_asked kind all) (flat_map (asked kind) all)))
    (λ name. among_with (asked kind stated) (other_than (given_up kind stated) (cond (opens stated.entry) [] (names_asked kind entries))) name
    ∙ ap (λ b. is_among name (asked kind stated) || b) (among_other (given_up kind stated) (cond (opens stated.entry) [] (names_asked kind entries)) name)
    ∙ by name (opens stated.entry) (is_among name (asked kind stated)) (is_among name (given_up kind stated)) (among_asked kind entries name)
    ∙ sym (among_asked kind (entries ++ stated ∷ []) name ∙ search_more (asked_said kind name) entries stated false))
  where
    by : (name : List ℕ) (o a g : Bool) → is_among name (names_asked kind entries) ≡ is_asked kind entries name
        → (a || (is_among name (cond o [] (names_asked kind entries)) && not g)) ≡ or_last (cond o (Some a) (cond a (Some true) (cond g (Some false) None))) (is_asked kind entries name)
    by name true true g is = refl
    by name true false g is = refl
    by name false true g is = refl
    by name false false true is = and_false (is_among name (names_asked kind entries))
      where
        and_false : (b : Bool) → (b && false) ≡ false
        and_false true = refl
        and_false false = refl
    by name false false false is = and_true (is_among name (names_asked kind entries)) ∙ is
      where
        and_true : (b : Bool) → (b && true) ≡ b
        and_true true = refl
        and_true false = refl

-- ---- all of a type

follows_type : (kind : Kind) (entries : List Stated) (stated : Stated) → after_entry kind stated (known_of kind entries) ≡ known_of kind (entries ++ stated ∷ [])
follows_type kind entries stated = λ i. record {
  version = (sym (found_last (version_said kind stated) (last_version kind entries)) ∙ sym (search_more (version_said kind) entries stated [])) i;
  nonce = (nonce_after kind stated (last_nonce kind entries) ∙ sym (found_last (nonce_said kind stated) (last_nonce kind entries)) ∙ sym (search_more (nonce_said kind) entries stated [])) i;
  names = names_after kind entries stated i;
}

pub follows_all : (entries : List Stated) (stated : Stated) (state : SotwState) → FollowsEntries entries state → FollowsEntries (entries ++ stated ∷ []) (after_all stated state)
follows_all entries stated state follows = record {
  clusters = ap (after_entry Cds stated) follows.clusters ∙ follows_type Cds entries stated;
  endpoints = ap (after_entry Eds stated) follows.endpoints ∙ follows_type Eds entries stated;
  listeners = ap (after_entry Lds stated) follows.listeners ∙ follows_type Lds entries stated;
  routes = ap (after_entry Rds stated) follows.routes ∙ follows_type Rds entries stated;
  secrets = ap (after_entry Sds stated) follows.secrets ∙ follows_type Sds entries stated;
  extensions = ap (after_entry Ecds stated) follows.extensions ∙ follows_type Ecds entries stated;
}

-- ---- what is written

known_by : (entries : List Stated) (state : SotwState) → FollowsEntries entries state → (kind : Kind) → type_by state kind ≡ known_of kind entries
known_by entries state follows Cds = follows.clusters
known_by entries state follows Eds = follows.endpoints
known_by entries state follows Lds = follows.listeners
known_by entries state follows Rds = follows.routes
known_by entries state follows Sds = follows.secrets
known_by entries state follows Ecds = follows.extensions

requests_same : (entries : List Stated) (state : SotwState) → FollowsEntries entries state → (requests : List Request) → map (request_by state) requests ≡ map (request_told entries) requests
requests_same entries state follows [] = refl
requests_same entries state follows (request ∷ requests) = λ i. told i ∷ requests_same entries state follows requests i
  where
    told : request_by state request ≡ request_told entries request
    told = ap (λ known. sotw_request known request) (known_by entries state follows request.kind)

answer_same : (entries : List Stated) (state : SotwState) → FollowsEntries entries state → (answer : Answer) → answer_by state answer ≡ answer_told entries answer
answer_same entries state follows (Moved requests) = ap (λ made. object (member (codes "requests") (array (items_of made)) no_members)) (requests_same entries state follows requests)
answer_same entries state follows (Replied requests verdicts) =
    ap (λ made. object (member (codes "requests") (array (items_of made)) (member (codes "verdicts") (array (items_of (map verdict_tree verdicts))) no_members)))
    (requests_same entries state follows requests)
answer_same entries state follows answer = refl

pub entry_same : (entries : List Stated) (state : SotwState) (entry : Entry) → FollowsEntries entries state → entry_by state entry ≡ entry_told entries entry
entry_same entries state entry follows = ap (row_object entry.actor entry.at entry.step (op_of entry.event)) (answer_same entries state follows entry.answer)
