use Rattle.std.proofs.Common.{◌∙◌, rules}
use Rattle.std.specs.Cmp.Lexicographic.{slice_cmp}
use Rattle.std.specs.Ordering.{nat_cmp, is_lt}
use Rattle.std.specs.Str.{bytes_eq}
use Rattle.std.proofs.lemmas.Cmp.{nat_list_cmp_total}
use Rattle.std.proofs.lemmas.List.Filters.{dedup_is}
use Rattle.std.proofs.lemmas.List.MinMax.{ranks_by}
use Rattle.std.proofs.lemmas.List.Sorted.{answers_always}
use Rattle.ev_indexes.proofs.SortLemmas.{names-sorted}
use Rattle.ev_indexes.proofs.watched.sort.Goals as goal

pub returns : goal.returns
returns c =
    dedup_is bytes_eq _ _ c.dedup.ensures.filtered
    ∙ names-sorted c.args.names.now.items c.sort_unstable_by.new.self.items c.sort_unstable_by.ensures.permutation
    (c.sort_unstable_by.ensures.sorted (λ x y. is_lt (slice_cmp nat_cmp x y)) (ranks_by nat_list_cmp_total (λ x. x)) (answers_always _ _ _ (λ f a r g h. search rules)))
