use Rattle.std.proofs.Common.{◌≡◌, ℕ, Bool, List, [], ◌∷◌, ◌++◌, ◌||◌, cond, map, Option, Some, sym, ap, ◌∙◌}
use Rattle.std.specs.Str.{bytes_eq}
use Rattle.indexmap.specs.IndexSet.{contains}
use Rattle.std.proofs.lemmas.List.{map-append}
use Rattle.serde_json.specs.Data.{Data}
use Rattle.serde_json.specs.View.{view}
use Rattle.ev_tls.specs.Told.{value_shown}
use Rattle.ev_tls.specs.Known.{shown_value, later_value, gives_to}
use Rattle.ev_tls.proofs.KnownLemmas.{later_more, gives_more}
use Rattle.ev_tls.proofs.known.Values.take_all.Goals as goal

pub loop-name-preserved : goal.loop-name-preserved
loop-name-preserved c =
    let v : List ℕ × Data = (c.in-Some.name, view c.in-Some.value) in
    let so_far : List (List ℕ × Data) = map value_shown c.loop-name.yielded in
    let all : map value_shown (c.loop-name.yielded ++ (c.in-Some.name, c.in-Some.value) ∷ []) ≡ so_far ++ v ∷ [] = map-append value_shown c.loop-name.yielded ((c.in-Some.name, c.in-Some.value) ∷ []) in
    record {
      values = λ name.
          c.in_ok-put.ensures name ∙ ap (λ (o : Option Data). cond (bytes_eq c.in-Some.name name) (Some (view c.in-Some.value)) o) (c.loop-name.invariant.values name)
          ∙ sym (ap (later_value name (shown_value c.args.self.now name)) all ∙ later_more name (shown_value c.args.self.now name) so_far v);
      names = λ name.
          c.in_ok-insert.ensures name
          ∙ ap (λ (n : List ℕ). bytes_eq n name || contains bytes_eq c.loop-name.names name) c.in_ok-copy.ensures.equal
          ∙ ap (λ (t : Bool). bytes_eq c.in-Some.name name || t) (c.loop-name.invariant.names name)
          ∙ sym (ap (gives_to name) all ∙ gives_more name so_far v);
    }
