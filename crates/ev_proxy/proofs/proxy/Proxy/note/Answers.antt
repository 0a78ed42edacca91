use Rattle.std.proofs.Common.{ℕ, ◌||◌, List, refl, ap, ◌∙◌}
use Rattle.ev_indexes.specs.Due.{is_one_of}
use Rattle.ev_proxy.specs.Proxies.{noted_each}
use Rattle.ev_proxy.proofs.proxy.Proxy.note.Goals as goal

pub returns-clause-noted : goal.returns-clause-noted
returns-clause-noted c = record {
  state = refl;
  deferred = refl;
  holders = λ world at.
      c.in_ok-note_each.ensures world at
      ∙ (λ i. record c.args.self.now.holders { drain = noted_each world.rows (c.as_slice-2.ensures.elements i) c.args.self.now.holders.drain });
  changed = λ n. c.in_ok-put_all.ensures n ∙ ap (λ (ns : List ℕ). is_one_of c.args.self.now.changed n || is_one_of ns n) c.as_slice.ensures.elements;
}
