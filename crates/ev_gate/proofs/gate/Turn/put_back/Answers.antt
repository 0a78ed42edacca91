-- The value goes back, and the next ticket is served.
use Rattle.std.proofs.Common.{◌≡◌, ◌⊎◌, ◌≤◌, [], subst, ◌∷◌, ◌++◌, Some, sym, ap, ◌∙◌, arith}
use Rattle.atomic_table.specs.Table.{rest}
use Rattle.ev_gate.proofs.Turning.{holds_empty_is, ends_as}
use Rattle.ev_gate.proofs.gate.Turn.put_back.Goals as goal

pub fetch_add-served-requires : goal.fetch_add-served-requires
fetch_add-served-requires g c =
    let t = c.args.self in
    let e = c.exchange-slot.ensures in
    let view = ap (λ m. m.0) e.3 in (
      e.0 ∙ t.here,
      (let w = t.gate.now.sized.0 in omega arith),
      ends_as g.V.Stands.opening g.V.Stands.commits g.V.Stands.version_of t.gate.now.table.shared.key t.gate.now.table.shared.table_id.slots c.exchange-slot.new.seat.id c.exchange-slot.new.seat.me t.value
          (ap (λ m. m.1) e.3 ∙ ap (λ l. (0, Some t.value) ∷ rest l) (holds_empty_is t.seat.me.1 t.slot_is_out))
          (ap (λ v. v.spent) view ∙ t.served.0) (ap (λ v. v.queued) view ∙ t.served.1) (ap (λ v. v.serving) view ∙ t.served.2)
          (c.requires.opening ∙ ap (λ v. v.opening) (sym view))
          (subst (λ v. (g.V.Stands.commits t.value ≡ v.start ++ v.since) ⊎ ((x : _) × (g.V.Stands.commits t.value ≡ (v.start ++ v.since) ++ (v.number, x) ∷ []))) (sym view) c.requires.own)
          (subst (λ v. g.V.Stands.version_of (g.V.Stands.opening t.value) (v.start ++ v.since) ≤ g.V.Stands.version_of (g.V.Stands.opening t.value) (g.V.Stands.commits t.value)) (sym view) c.requires.version),
    )
