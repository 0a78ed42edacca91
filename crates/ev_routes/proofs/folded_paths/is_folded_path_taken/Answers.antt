use Rattle.std.proofs.Common.{◌≡◌, ◌||◌, ◌++◌, ◌∙◌, List, ℕ, codes, sym, ap}
use Rattle.std.specs.Str.{bytes_eq, str_to_ascii_lowercase}
use Rattle.ev_types.specs.declared.routes.PathMatch.{PathMatch}
use Rattle.ev_model.specs.Conditions.{lower_match}
use Rattle.ev_model.specs.Paths.{begins_with, is_path_taken, without_query}
use Rattle.ev_routes.proofs.InCase.{query_lower}
use Rattle.ev_routes.proofs.folded_paths.is_folded_path_taken.Goals as goal

-- the path without its query, in lower case, is that of the path in lower case
bare_lower : (path bare : List ℕ) → bare ≡ without_query path → str_to_ascii_lowercase bare ≡ without_query (str_to_ascii_lowercase path)
bare_lower path bare is = ap str_to_ascii_lowercase is ∙ sym (query_lower path)

pub returns-in-Path : goal.returns-in-Path
returns-in-Path c =
    let path = c.args.path.now in
    let bare = bare_lower path c.without_query.result.now c.without_query.ensures in
    let whole = c.as_bytes-in-Path.ensures.value ∙ c.as_str-in-Path.ensures.bytes in
    c.same_lower.ensures
    ∙ (λ i. bytes_eq (bare i) (str_to_ascii_lowercase (whole i)))
    ∙ ap (λ (m : PathMatch). is_path_taken (str_to_ascii_lowercase path) (lower_match m)) (sym c.in-Path.is)

pub returns-then-same_lower : goal.returns-then-same_lower
returns-then-same_lower c =
    let path = c.args.path.now in
    let lower = str_to_ascii_lowercase path in
    let bare = bare_lower path c.without_query-bare.result.now c.without_query-bare.ensures in
    let front = c.as_bytes-front.ensures.value ∙ c.as_str-in-Separated.ensures.bytes in
    let same : c.same_lower-in-Separated.result ≡ bytes_eq (without_query lower) (str_to_ascii_lowercase c.in-Separated.front) =
    c.same_lower-in-Separated.ensures ∙ (λ i. bytes_eq (bare i) (str_to_ascii_lowercase (front i))) in
    c.if-same_lower.true
    ∙ ap (λ b. b || begins_with (without_query lower) (str_to_ascii_lowercase c.in-Separated.front ++ codes "/")) (sym c.if-same_lower.true ∙ same)
    ∙ ap (λ (m : PathMatch). is_path_taken lower (lower_match m)) (sym c.in-Separated.is)

pub returns-else-same_lower : goal.returns-else-same_lower
returns-else-same_lower c =
    let path = c.args.path.now in
    let lower = str_to_ascii_lowercase path in
    let bare = bare_lower path c.without_query-bare.result.now c.without_query-bare.ensures in
    let front = c.as_bytes-front.ensures.value ∙ c.as_str-in-Separated.ensures.bytes in
    let same : c.same_lower-in-Separated.result ≡ bytes_eq (without_query lower) (str_to_ascii_lowercase c.in-Separated.front) =
    c.same_lower-in-Separated.ensures ∙ (λ i. bytes_eq (bare i) (str_to_ascii_lowercase (front i))) in
    c.goes_on_lower.ensures
    ∙ (λ i. begins_with (bare i) (str_to_ascii_lowercase (front i) ++ codes "/"))
    ∙ ap (λ b. b || begins_with (without_query lower) (str_to_ascii_lowercase c.in-Separated.front ++ codes "/")) (sym c.if-same_lower.false ∙ same)
    ∙ ap (λ (m : PathMatch). is_path_taken lower (lower_match m)) (sym c.in-Separated.is)
