-- Where requests go.
use Rattle.std.proofs.Common.{◌≡◌, ◌∙◌, ap}
use Rattle.std.specs.Prelude.{◌||◌, ◌&&◌, ◌==◌, [], ◌∷◌, length, map, not, codes}
use Rattle.std.specs.List.{list_any}
use Rattle.serde_json.specs.Data.{Data}
use Rattle.ev_types.specs.declared.events.Profile.{Profile}
use Rattle.ev_types.specs.declared.events.Profile.TheVariants.{Own, Envoy}
use Rattle.ev_tree.specs.Forms.{is_wrong, is_given, given_or, inside, listed, object_of, objects_of}
use Rattle.ev_tree.specs.Broken.{none_broken, either_broken, any_broken}
use Rattle.ev_tree.specs.Counts.{exactly_one}
use Rattle.ev_route_json.specs.Targets.{entry_of, entry_broken, other_specifiers, entries_of, clusters_of, has_weight, is_empty_text, target_broken, target_with, target_of, has_text, is_by_header, envoy_entry_broken, has_other_specifier, specifiers_given, envoy_target_broken, is_target_elsewhere, envoy_target_with, envoy_target_of, proxy_entry_broken, proxy_target_broken, target_in, target_broken_in, proxy_broken_in}
use Rattle.ev_tree.specs.Floats.{whole}
use Rattle.ev_whole_laws.proofs.Forms.{field-is_given, field-is_wrong, inside-object, listed-objects, number_of-whole, object-is_given, object-is_wrong, objects-is_wrong, text_of-whole}
use Rattle.ev_whole_laws.proofs.Parts.{any_broken-whole, list_any-whole, map-whole}
use Rattle.ev_whole_laws.proofs.Presence.{any_doubled-whole, any_given-whole}

pub entry_of-whole : (entry : Data) → entry_of (whole entry) ≡ entry_of entry
unfolding entry_of
entry_of-whole entry = λ i. record {
  name = given_or [] (text_of-whole (codes "name") entry i);
  weight = given_or 0 (number_of-whole (codes "weight") entry i);
}

pub entry_broken-whole : (entry : Data) → entry_broken (whole entry) ≡ entry_broken entry
unfolding entry_broken
entry_broken-whole entry = λ i. record none_broken {
  v6 =
      is_wrong (text_of-whole (codes "name") entry i)
      || is_wrong (number_of-whole (codes "weight") entry i)
      || field-is_wrong (codes "cluster_header") entry i;
  v22 = field-is_given (codes "cluster_header") entry i;
  v23 = length (given_or [] (text_of-whole (codes "name") entry i)) == 0;
}

pub entries_of-whole : (tree : Data) → entries_of (whole tree) ≡ map whole (entries_of tree)
unfolding entries_of
entries_of-whole tree = ap (λ (t : Data). listed (objects_of (codes "clusters") t)) (inside-object (codes "weighted_clusters") tree) ∙ listed-objects (codes "clusters") (inside (object_of (codes "weighted_clusters") tree))

pub clusters_of-whole : (tree : Data) → clusters_of (whole tree) ≡ clusters_of tree
clusters_of-whole tree = λ i. (ap (map entry_of) (entries_of-whole tree) ∙ map-whole entry_of entry_of-whole (entries_of tree)) i

target_broken-whole : (tree : Data) → target_broken (whole tree) ≡ target_broken tree
unfolding target_broken
target_broken-whole tree = λ i. either_broken ((ap (any_broken entry_broken) (entries_of-whole tree) ∙ any_broken-whole entry_broken entry_broken-whole (entries_of tree)) i) (record none_broken {
  v6 =
      is_wrong (text_of-whole (codes "cluster") tree i)
      || object-is_wrong (codes "weighted_clusters") tree i
      || (ap (λ (t : Data). is_wrong (objects_of (codes "clusters") t)) (inside-object (codes "weighted_clusters") tree) ∙ objects-is_wrong (codes "clusters") (inside (object_of (codes "weighted_clusters") tree))) i
      || any_doubled-whole other_specifiers tree i;
  v22 =
      not (exactly_one (is_given (text_of-whole (codes "cluster") tree i) ∷ object-is_given (codes "weighted_clusters") tree i ∷ []))
      || any_given-whole other_specifiers tree i;
  v23 = is_empty_text (text_of-whole (codes "cluster") tree i);
  v24 = object-is_given (codes "weighted_clusters") tree i && not (has_weight (clusters_of-whole tree i));
})

pub target_of-whole : (tree : Data) → target_of (whole tree) ≡ target_of tree
unfolding target_of
target_of-whole tree = λ i. target_with (clusters_of-whole tree i) (given_or [] (text_of-whole (codes "cluster") tree i))

-- ---- as Envoy reads it

is_by_header-whole : (entry : Data) → is_by_header (whole entry) ≡ is_by_header entry
is_by_header-whole entry = λ i. has_text (text_of-whole (codes "cluster_header") entry i)

envoy_entry_broken-whole : (entry : Data) → envoy_entry_broken (whole entry) ≡ envoy_entry_broken entry
unfolding envoy_entry_broken
envoy_entry_broken-whole entry = λ i. record none_broken {
  v6 =
      is_wrong (text_of-whole (codes "name") entry i)
      || is_wrong (number_of-whole (codes "weight") entry i)
      || is_wrong (text_of-whole (codes "cluster_header") entry i);
  v23 = not (is_by_header-whole entry i) && length (given_or [] (text_of-whole (codes "name") entry i)) == 0;
}

-- the list of entries has the wrong form
entries_wrong : (tree : Data) → is_wrong (objects_of (codes "clusters") (inside (object_of (codes "weighted_clusters") (whole tree)))) ≡ is_wrong (objects_of (codes "clusters") (inside (object_of (codes "weighted_clusters") tree)))
entries_wrong tree =
    ap (λ (t : Data). is_wrong (objects_of (codes "clusters") t)) (inside-object (codes "weighted_clusters") tree)
    ∙ objects-is_wrong (codes "clusters") (inside (object_of (codes "weighted_clusters") tree))

specifiers_given-whole : (tree : Data) → specifiers_given (whole tree) ≡ specifiers_given tree
specifiers_given-whole tree = λ i.
    is_given (text_of-whole (codes "cluster") tree i)
    ∷ object-is_given (codes "weighted_clusters") tree i
    ∷ is_given (text_of-whole (codes "cluster_header") tree i)
    ∷ is_given (text_of-whole (codes "cluster_specifier_plugin") tree i)
    ∷ object-is_given (codes "inline_cluster_specifier_plugin") tree i
    ∷ []

envoy_target_broken-whole : (tree : Data) → envoy_target_broken (whole tree) ≡ envoy_target_broken tree
unfolding envoy_target_broken
envoy_target_broken-whole tree = λ i. either_broken ((ap (any_broken envoy_entry_broken) (entries_of-whole tree) ∙ any_broken-whole envoy_entry_broken envoy_entry_broken-whole (entries_of tree)) i) (record none_broken {
  v6 =
      is_wrong (text_of-whole (codes "cluster") tree i)
      || object-is_wrong (codes "weighted_clusters") tree i
      || entries_wrong tree i
      || is_wrong (text_of-whole (codes "cluster_header") tree i)
      || is_wrong (text_of-whole (codes "cluster_specifier_plugin") tree i)
      || object-is_wrong (codes "inline_cluster_specifier_plugin") tree i;
  v22 = not (exactly_one (specifiers_given-whole tree i));
  v23 = is_empty_text (text_of-whole (codes "cluster") tree i);
  v24 = object-is_given (codes "weighted_clusters") tree i && not (has_weight (clusters_of-whole tree i));
})

has_other_specifier-whole : (tree : Data) → has_other_specifier (whole tree) ≡ has_other_specifier tree
has_other_specifier-whole tree = λ i.
    is_given (text_of-whole (codes "cluster_header") tree i)
    || is_given (text_of-whole (codes "cluster_specifier_plugin") tree i)
    || object-is_given (codes "inline_cluster_specifier_plugin") tree i

is_target_elsewhere-whole : (tree : Data) → is_target_elsewhere (whole tree) ≡ is_target_elsewhere tree
unfolding is_target_elsewhere
is_target_elsewhere-whole tree = λ i.
    has_other_specifier-whole tree i
    || (ap (list_any is_by_header) (entries_of-whole tree) ∙ list_any-whole is_by_header is_by_header-whole (entries_of tree)) i

envoy_target_of-whole : (tree : Data) → envoy_target_of (whole tree) ≡ envoy_target_of tree
unfolding envoy_target_of
envoy_target_of-whole tree = λ i. envoy_target_with (is_target_elsewhere-whole tree i) (target_of-whole tree i)

proxy_entry_broken-whole : (entry : Data) → proxy_entry_broken (whole entry) ≡ proxy_entry_broken entry
unfolding proxy_entry_broken
proxy_entry_broken-whole entry = λ i. record none_broken {
  v6 = is_wrong (text_of-whole (codes "name") entry i) || is_wrong (number_of-whole (codes "weight") entry i);
  v23 = length (given_or [] (text_of-whole (codes "name") entry i)) == 0;
}

proxy_target_broken-whole : (tree : Data) → proxy_target_broken (whole tree) ≡ proxy_target_broken tree
unfolding proxy_target_broken
proxy_target_broken-whole tree = λ i. either_broken ((ap (any_broken proxy_entry_broken) (entries_of-whole tree) ∙ any_broken-whole proxy_entry_broken proxy_entry_broken-whole (entries_of tree)) i) (record none_broken {
  v6 = is_wrong (text_of-whole (codes "cluster") tree i) || object-is_wrong (codes "weighted_clusters") tree i || entries_wrong tree i;
  v22 = not (exactly_one (is_given (text_of-whole (codes "cluster") tree i) ∷ object-is_given (codes "weighted_clusters") tree i ∷ []));
  v23 = is_empty_text (text_of-whole (codes "cluster") tree i);
  v24 = object-is_given (codes "weighted_clusters") tree i && not (has_weight (clusters_of-whole tree i));
})

-- ---- in a profile

pub target_in-whole : (profile : Profile) (tree : Data) → target_in profile (whole tree) ≡ target_in profile tree
target_in-whole Own tree = target_of-whole tree
target_in-whole Envoy tree = envoy_target_of-whole tree

pub target_broken_in-whole : (profile : Profile) (tree : Data) → target_broken_in profile (whole tree) ≡ target_broken_in profile tree
target_broken_in-whole Own tree = target_broken-whole tree
target_broken_in-whole Envoy tree = envoy_target_broken-whole tree

pub proxy_broken_in-whole : (profile : Profile) (tree : Data) → proxy_broken_in profile (whole tree) ≡ proxy_broken_in profile tree
proxy_broken_in-whole Own tree = target_broken-whole tree
proxy_broken_in-whole Envoy tree = proxy_target_broken-whole tree
