use Rattle.std.proofs.Common.{OnOk, refl, sym, subst}
use Rattle.std.proofs.lemmas.Result.{on_ok_weaker}
use Rattle.ev_tls.specs.declared.awaited.Awaited.{Awaited}
use Rattle.ev_tls.specs.declared.known.Told.{Told}
use Rattle.ev_tls.specs.Known.{Adds}
use Rattle.ev_tls.proofs.KnownLemmas.{adds_secret, adds_endpoints}
use Rattle.ev_tls.proofs.known.Told.add.Goals as goal

pub returns-in-Secret : goal.returns-in-Secret
returns-in-Secret c =
    let new : Told = record { secrets = c.insert.new.names; endpoints = c.args.self.now.endpoints } in
    subst (λ (a : Awaited). OnOk c.insert.result (Adds c.args.self.now new a)) (sym c.in-Secret.is)
    (on_ok_weaker c.insert.result (λ h. adds_secret c.args.self.now new c.in-Secret.name h (λ o. refl)) c.insert.ensures)

pub returns-in-Endpoints : goal.returns-in-Endpoints
returns-in-Endpoints c =
    let new : Told = record { secrets = c.args.self.now.secrets; endpoints = c.insert-in-Endpoints.new.names } in
    subst (λ (a : Awaited). OnOk c.insert-in-Endpoints.result (Adds c.args.self.now new a)) (sym c.in-Endpoints.is)
    (on_ok_weaker c.insert-in-Endpoints.result (λ h. adds_endpoints c.args.self.now new c.in-Endpoints.name h (λ o. refl)) c.insert-in-Endpoints.ensures)
