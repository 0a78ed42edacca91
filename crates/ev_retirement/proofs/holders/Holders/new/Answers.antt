use Rattle.ev_retirement.proofs.holders.Holders.new.Goals as goal

pub returns : goal.returns
returns c = record {
  world = λ node. record { pictures = c.in_ok-pictures.ensures.world node; opened = c.new-2.ensures.stands; retired = c.new-3.ensures.world; marked = tt };
}
