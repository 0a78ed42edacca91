-- The table begins under its rule.
use Rattle.std.proofs.Common.{◌≡◌, [], ◌∷◌, ◌++◌, Some, sym, ap, ◌∙◌, subst}
use Rattle.atomic_table.specs.Table.{opening}
use Rattle.ev_gate.specs.declared.view.Terms.{Terms}
use Rattle.ev_gate.specs.Rule.{IsKept, first_view}
use Rattle.ev_gate.proofs.Steps.{starts}
use Rattle.ev_gate.proofs.gate.Gate.make_table.Goals as goal

pub new-requires : goal.new-requires
new-requires g c =
    let terms : Terms g.row.V.Denot = record { value = c.of.result; seats = c.args.seats } in
    let items : c.push_reserved.new.self.items ≡ Some c.args.value ∷ [] = c.push_reserved.ensures.items ∙ ap (λ l. l ++ Some c.args.value ∷ []) c.in-Ok.ensures.items in
    let version : g.V.Stands.version_of (g.V.Stands.opening terms.value.value) (g.V.Stands.commits terms.value.value) ≡ c.args.version = ap (λ v. g.V.Stands.version_of (g.V.Stands.opening v) (g.V.Stands.commits v)) c.of.ensures ∙ sym c.requires.version in
    subst (λ l. IsKept g.V.Stands.opening g.V.Stands.commits g.V.Stands.version_of terms (opening (0 ∷ 0 ∷ c.args.version ∷ []) l (first_view g.V.Stands.opening g.V.Stands.commits g.V.Stands.version_of terms))) (sym items)
    (subst (λ n. IsKept g.V.Stands.opening g.V.Stands.commits g.V.Stands.version_of terms (opening (0 ∷ 0 ∷ n ∷ []) (Some c.args.value ∷ []) (first_view g.V.Stands.opening g.V.Stands.commits g.V.Stands.version_of terms))) version
    (starts g.V.Stands.opening g.V.Stands.commits g.V.Stands.version_of terms c.args.value c.of.ensures c.requires.some_seat c.requires.few))
