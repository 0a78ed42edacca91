use Rattle.std.proofs.Common.{sym, subst}
use Rattle.std.proofs.lemmas.Result.{IfOk-weaker}
use Rattle.ev_retirement.proofs.WorldLemmas.{shows_stands}
use Rattle.ev_retirement.specs.Holders.{HoldersParts, HoldsFor}
use Rattle.ev_retirement.proofs.holders.Holders.dead_of_all.Goals as goal

pub returns : goal.returns
returns c = record {
  world =
      IfOk-weaker c.dead.result _ _
      (λ dead is world stands.
      let here : HoldsFor _ world = subst (λ (v : HoldersParts). HoldsFor v world) (sym c.self.view_is) stands in
      is world here.retired here.opened (λ n. shows_stands n c.self.inside.pictures world here.pictures)) c.dead.ensures.world;
}
