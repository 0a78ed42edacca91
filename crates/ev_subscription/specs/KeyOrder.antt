-- The laws of the order of names of kinds.
use Rattle.std.specs.Prelude.{◌≡◌, ◌&&◌, nat_eq, Some, refl}
use Rattle.std.specs.Cmp.{IsTotalOrder, IsPartialOrder, partial_order_from_agreeing_total}
use Rattle.std.specs.Ordering.{eq_by_cmp}
use Rattle.std.specs.Cmp.Lexicographic.{on_texts, texts_ties}
use Rattle.std.specs.Str.{bytes_eq}
use Rattle.std.proofs.Common.{◌∙◌}
use Rattle.ev_types.specs.Kinds.{kind_same}
use Rattle.ev_types.specs.declared.contents.Kind.{Kind}
use Rattle.ev_types.specs.declared.contents.Kind.TheVariants.{Cds, Eds, Lds, Rds, Sds, Ecds}
use Rattle.ev_lookups.specs.Keys.{key_same}
use Rattle.ev_lookups.specs.declared.kind_keys.Key.{Key}
use Rattle.ev_subscription.specs.Held.{key_code, key_order, kind_place}

-- kinds are the same where their places are
places_tie : (a b : Kind) → kind_same a b ≡ nat_eq (kind_place a) (kind_place b)
places_tie Cds Cds = refl
places_tie Cds Eds = refl
places_tie Cds Lds = refl
places_tie Cds Rds = refl
places_tie Cds Sds = refl
places_tie Cds Ecds = refl
places_tie Eds Cds = refl
places_tie Eds Eds = refl
places_tie Eds Lds = refl
places_tie Eds Rds = refl
places_tie Eds Sds = refl
places_tie Eds Ecds = refl
places_tie Lds Cds = refl
places_tie Lds Eds = refl
places_tie Lds Lds = refl
places_tie Lds Rds = refl
places_tie Lds Sds = refl
places_tie Lds Ecds = refl
places_tie Rds Cds = refl
places_tie Rds Eds = refl
places_tie Rds Lds = refl
places_tie Rds Rds = refl
places_tie Rds Sds = refl
places_tie Rds Ecds = refl
places_tie Sds Cds = refl
places_tie Sds Eds = refl
places_tie Sds Lds = refl
places_tie Sds Rds = refl
places_tie Sds Sds = refl
places_tie Sds Ecds = refl
places_tie Ecds Cds = refl
places_tie Ecds Eds = refl
places_tie Ecds Lds = refl
places_tie Ecds Rds = refl
places_tie Ecds Sds = refl
places_tie Ecds Ecds = refl

-- the order of keys is total
pub keys_total : IsTotalOrder key_order
keys_total = on_texts key_code

-- the order ties the same keys
pub keys_tie : (a b : Key) → key_same a b ≡ eq_by_cmp key_order a b
keys_tie a b = (λ i. places_tie a.kind b.kind i && bytes_eq a.name b.name) ∙ texts_ties (key_code a) (key_code b)

pub keys_partial : IsPartialOrder key_same (λ (a b : Key). Some (key_order a b))
keys_partial = partial_order_from_agreeing_total key_order keys_total (λ a b. refl) keys_tie
