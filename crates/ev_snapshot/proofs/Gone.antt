-- What goes by changes, and which chains come, is among what the changes touch.
use Rattle.std.proofs.Common.{◌≡◌, ◌∙◌, ℕ, ◌==◌, ◌||◌, not, Bool, true, false, cond, List, [], ◌∷◌, filter, find, map, Option, Some, None, refl, sym, ap, subst, true≢false}
use Rattle.std.specs.List.{AllByRecursion, flat_map, list_any}
use Rattle.std.specs.Option.{is_some, option_map, option_to_list}
use Rattle.std.specs.Str.{bytes_eq}
use Rattle.std.proofs.lemmas.List.Folds.{list_any-append}
use Rattle.ev_types.specs.Same.{numbers_decide}
use Rattle.ev_types.specs.Origins.{origin_decides}
use Rattle.ev_types.specs.declared.origins.Origin.{Origin}
use Rattle.ev_model.specs.Connections.{chains_shown, is_chain_shown, shares_origin, shows_chain}
use Rattle.ev_model.specs.Picture.{has_number, is_shown}
use Rattle.ev_model.specs.Sorted.{put_by}
use Rattle.ev_model.specs.Versions.{is_before}
use Rattle.ev_model.specs.declared.pictures.ServedChain.{ServedChain}
use Rattle.ev_model.specs.declared.pictures.ServedListener.{ServedListener}
use Rattle.ev_model.specs.declared.pictures.Shown.{Shown}
use Rattle.ev_layers.specs.Rows.{IsInOrder, IsPairwise, named, numbered}
use Rattle.ev_layers.proofs.Numbered.{found_number}
use Rattle.ev_layers.proofs.Order.{ahead, found_passes, own_name, same_name}
use Rattle.ev_snapshot.specs.declared.changes.Changes.{Changes}
use Rattle.ev_snapshot.specs.declared.changes.ListenerChange.{ListenerChange}
use Rattle.ev_snapshot.specs.Changes.{IsOrdered, put_listener, put_listeners, shown_with, without}
use Rattle.ev_snapshot.specs.Touched.{AreBegun, AreGone, begun_at, cluster_touches, listener_touches, numbers_taken, numbers_touched, served_begun}
use Rattle.ev_snapshot.proofs.Numbered.{shown_parts}
use Rattle.ev_snapshot.proofs.Shown.{changed, clusters_put, l_changed, l_name, l_number, l_served, listeners_put, name as cluster_name, number as cluster_number, served as cluster_served}
use Rattle.ev_snapshot.proofs.Touched.{put_all, touches, touches_of, touches_served, untouched}

-- either of two
first_of : (a b : Bool) → a ≡ true → a || b ≡ true
first_of true b h = refl
first_of false b h = absurd (true≢false (sym h))

second_of : (a b : Bool) → b ≡ true → a || b ≡ true
second_of true b h = refl
second_of false b h = h

either : {P : Type 0} (a b : Bool) → a || b ≡ true → (a ≡ true → P) → (b ≡ true → P) → P
either true b h p q = p refl
either false b h p q = q h

-- what a search finds has its number among the numbers
found_has : {X : Type 0} (number : X → ℕ) (p : X → Bool) (xs : List X) (x : X) → find p xs ≡ Some x → has_number (number x) (map number xs) ≡ true
found_has number p [] x e = absurd cc
found_has number p (y ∷ ys) x e = by (p y) e (found_has number p ys x)
  where
    by : (b : Bool) → cond b (Some y) (find p ys) ≡ Some x → (find p ys ≡ Some x → has_number (number x) (map number ys) ≡ true)
        → (number y == number x) || has_number (number x) (map number ys) ≡ true
    by true e rest = let one : y ≡ x = cc in first_of (number y == number x) (has_number (number x) (map number ys)) ((numbers_decide (number y) (number x)).1 (ap number one))
    by false e rest = second_of (number y == number x) (has_number (number x) (map number ys)) (rest e)

-- what is found by whatever test is found by its name, where names are in order
own_named : {X : Type 0} (name : X → List ℕ) (p : X → Bool) (xs : List X) (y : X) → IsPairwise (λ a b. is_before (name a) (name b)) xs → find p xs ≡ Some y
    → named name xs (name y) ≡ Some y
own_named name p [] y s e = absurd cc
own_named name p (x ∷ xs) y s e = by (p x) e (own_named name p xs y s.1)
  where
    apart : (zs : List _) → AllByRecursion (λ z. is_before (name x) (name z) ≡ true) zs → find p zs ≡ Some y → bytes_eq (name x) (name y) ≡ false
    apart [] all e = absurd cc
    apart (z ∷ zs) all e = at (p z) e (apart zs all.1)
      where
        at : (b : Bool) → cond b (Some z) (find p zs) ≡ Some y → (find p zs ≡ Some y → bytes_eq (name x) (name y) ≡ false) → bytes_eq (name x) (name y) ≡ false
        at true h rest = let one : z ≡ y = cc in subst (λ w. bytes_eq (name x) (name w) ≡ false) one (ahead (name x) (name z) (name z) all.0 (own_name (name z)))
        at false h rest = rest h

    by : (b : Bool) → cond b (Some x) (find p xs) ≡ Some y → (find p xs ≡ Some y → named name xs (name y) ≡ Some y) → named name (x ∷ xs) (name y) ≡ Some y
    by true h rest =
        let one : x ≡ y = cc in
        subst (λ w. named name (x ∷ xs) (name w) ≡ Some w) one (λ i. cond (own_name (name x) i) (Some x) (named name xs (name x)))
    by false h rest = (λ i. cond (apart xs s.0 h i) (Some x) (named name xs (name y))) ∙ rest h

module _ {C X : Type 0} (number : X → ℕ) (name : X → List ℕ) (changed : C → ℕ) (served : C → Option X) where
  -- the numbers that a change touches
  abbrev pub touched : List X → C → List ℕ
  touched xs c = changed c ∷ numbers_taken number name xs (served c)

  module _ (xs : List X) (x : X) (order : IsInOrder number name xs) (at : named name xs (name x) ≡ Some x) where
    -- a number under which the element's name is found is its number
    touch_number : (k : ℕ) → touches_of number name changed served (name x) (numbered number xs k) ≡ true → k ≡ number x
    touch_number k h = by (numbered number xs k) refl h
      where
        by : (o : Option X) → numbered number xs k ≡ o → touches_of number name changed served (name x) o ≡ true → k ≡ number x
        by None e h = absurd (true≢false (sym h))
        by (Some y) e h =
            let own : named name xs (name y) ≡ Some y = own_named name (λ z. number z == k) xs y order.names e in
            let same : name y ≡ name x = same_name (name y) (name x) h in
            let both : Some y ≡ Some x = sym own ∙ ap (named name xs) same ∙ at in
            let one : y ≡ x = cc in
            sym ((numbers_decide (number y) k).0 (found_passes (λ z. number z == k) xs y e)) ∙ ap number one

    touch_has : (c : C) → touches number name changed served xs (name x) c ≡ true → has_number (number x) (touched xs c) ≡ true
    touch_has c h =
        either (touches_of number name changed served (name x) (numbered number xs (changed c))) (touches_served number name changed served xs (name x) (served c)) h
        (λ e. first_of (changed c == number x) (has_number (number x) (numbers_taken number name xs (served c))) ((numbers_decide (changed c) (number x)).1 (touch_number (changed c) e)))
        (λ e. second_of (changed c == number x) (has_number (number x) (numbers_taken number name xs (served c))) (taken (served c) e))
      where
        taken : (s : Option X) → touches_served number name changed served xs (name x) s ≡ true → has_number (number x) (numbers_taken number name xs s) ≡ true
        taken None e = absurd (true≢false (sym e))
        taken (Some s) e =
            either (touches_of number name changed served (name x) (numbered number xs (number s))) (bytes_eq (name s) (name x)) e
            (λ f. first_of (number s == number x) (has_number (number x) (option_to_list (option_map number (named name xs (name s)))))
            ((numbers_decide (number s) (number x)).1 (touch_number (number s) f)))
            (λ f. second_of (number s == number x) (has_number (number x) (option_to_list (option_map number (named name xs (name s)))))
            (subst (λ o. has_number (number x) (option_to_list (option_map number o)) ≡ true) (sym (ap (named name xs) (same_name (name s) (name x) f) ∙ at))
            (first_of (number x == number x) false ((numbers_decide (number x) (number x)).1 refl))))

    any_touch_has : (cs : List C) → list_any (touches number name changed served xs (name x)) cs ≡ true → has_number (number x) (flat_map (touched xs) cs) ≡ true
    any_touch_has [] h = absurd (true≢false (sym h))
    any_touch_has (c ∷ cs) h =
        list_any-append (λ n. n == number x) (touched xs c) (flat_map (touched xs) cs)
        ∙ either (touches number name changed served xs (name x) c) (list_any (touches number name changed served xs (name x)) cs) h
        (λ e. first_of (has_number (number x) (touched xs c)) (has_number (number x) (flat_map (touched xs) cs)) (touch_has c e))
        (λ e. second_of (has_number (number x) (touched xs c)) (has_number (number x) (flat_map (touched xs) cs)) (any_touch_has cs e))

  -- a number that goes is touched
  pub gone_touched : (xs : List X) (cs : List C) (n : ℕ) → IsInOrder number name xs → has_number n (map number xs) ≡ true
      → has_number n (map number (put_all number name changed served cs (without number (map changed cs) xs))) ≡ false
      → has_number n (flat_map (touched xs) cs) ≡ true
  gone_touched xs cs n order there gone = by (numbered number xs n) refl
    where
      ys : List X
      ys = put_all number name changed served cs (without number (map changed cs) xs)

      by : (o : Option X) → numbered number xs n ≡ o → has_number n (flat_map (touched xs) cs) ≡ true
      by None e = absurd (true≢false (sym (ap is_some (sym e) ∙ found_number number n xs ∙ there)))
      by (Some x) e =
          let is : number x ≡ n = (numbers_decide (number x) n).0 (found_passes (λ z. number z == n) xs x e) in
          let at : named name xs (name x) ≡ Some x = own_named name (λ z. number z == n) xs x order.names e in
          subst (λ k. has_number k (flat_map (touched xs) cs) ≡ true) is (any_touch_has xs x order at cs (some (list_any (touches number name changed served xs (name x)) cs) refl is at))
        where
          some : (t : Bool) → list_any (touches number name changed served xs (name x)) cs ≡ t → number x ≡ n → named name xs (name x) ≡ Some x
              → list_any (touches number name changed served xs (name x)) cs ≡ true
          some true h is at = h
          some false h is at =
              absurd (true≢false
              (sym (found_has number (λ z. bytes_eq (name z) (name x)) (put_all number name changed served cs (without number (map changed cs) xs)) x
              (untouched number name changed served xs (name x) cs order h ∙ at))
              ∙ ap (λ k. has_number k (map number (put_all number name changed served cs (without number (map changed cs) xs)))) is ∙ gone))

-- what a filter keeps is there still
has_kept : (n : ℕ) (q : ℕ → Bool) (xs : List ℕ) → q n ≡ true → has_number n xs ≡ true → has_number n (filter q xs) ≡ true
has_kept n q [] passes h = absurd (true≢false (sym h))
has_kept n q (x ∷ xs) passes h = by (q x) refl h (has_kept n q xs passes)
  where
    by : (b : Bool) → q x ≡ b → ((x == n) || has_number n xs) ≡ true → (has_number n xs ≡ true → has_number n (filter q xs) ≡ true)
        → has_number n (cond b (x ∷ filter q xs) (filter q xs)) ≡ true
    by true e h rest = either (x == n) (has_number n xs) h (first_of (x == n) (has_number n (filter q xs))) (λ f. second_of (x == n) (has_number n (filter q xs)) (rest f))
    by false e h rest = either (x == n) (has_number n xs) h
        (λ f. absurd (true≢false (sym (ap q ((numbers_decide x n).0 f) ∙ passes) ∙ e)))
        rest

neither : (a b : Bool) → a || b ≡ false → (a ≡ false) × (b ≡ false)
neither true b h = absurd (true≢false h)
neither false b h = (refl, h)

-- what goes is touched, and isn't shown
pub are_gone : (changes : Changes) (before after : Shown) (numbers : List ℕ) → IsOrdered before → after ≡ shown_with changes before
    → numbers ≡ filter (λ n. not (is_shown n after)) (numbers_touched changes before) → AreGone numbers before after
are_gone changes before after numbers order is all n there hidden =
    ap (has_number n) all
    ∙ has_kept n (λ m. not (is_shown m after)) (numbers_touched changes before) (ap not hidden)
    (list_any-append (λ m. m == n) (flat_map (cluster_touches before.clusters) changes.clusters) (flat_map (listener_touches before.listeners) changes.listeners)
    ∙ either (has_number n (map cluster_number before.clusters)) (has_number n (map l_number before.listeners)) (sym (shown_parts n before) ∙ there)
    (λ e. first_of (has_number n (flat_map (cluster_touches before.clusters) changes.clusters)) (has_number n (flat_map (listener_touches before.listeners) changes.listeners))
    (gone_touched cluster_number cluster_name changed cluster_served before.clusters changes.clusters n order.clusters e
    (ap (λ xs. has_number n (map cluster_number xs)) (sym (clusters_put changes.clusters (without cluster_number (map changed changes.clusters) before.clusters))) ∙ gone.0)))
    (λ e. second_of (has_number n (flat_map (cluster_touches before.clusters) changes.clusters)) (has_number n (flat_map (listener_touches before.listeners) changes.listeners))
    (gone_touched l_number l_name l_changed l_served before.listeners changes.listeners n order.listeners e
    (ap (λ xs. has_number n (map l_number xs)) (sym (listeners_put changes.listeners (without l_number (map l_changed changes.listeners) before.listeners))) ∙ gone.1))))
  where
    gone : (has_number n (map cluster_number (shown_with changes before).clusters) ≡ false) × (has_number n (map l_number (shown_with changes before).listeners) ≡ false)
    gone = neither (has_number n (map cluster_number (shown_with changes before).clusters)) (has_number n (map l_number (shown_with changes before).listeners))
        (sym (shown_parts n (shown_with changes before)) ∙ ap (is_shown n) (sym is) ∙ hidden)

-- ---- chains that come
module _ {X : Type 0} (p : X → Bool) where
  any_put : (b : X → X → Bool) (x : X) (ys : List X) → list_any p (put_by b x ys) ≡ true → (p x || list_any p ys) ≡ true
  any_put b x [] h = h
  any_put b x (y ∷ ys) h = by (b x y) h (any_put b x ys)
    where
      by : (t : Bool) → list_any p (cond t (x ∷ y ∷ ys) (y ∷ put_by b x ys)) ≡ true → (list_any p (put_by b x ys) ≡ true → (p x || list_any p ys) ≡ true)
          → (p x || (p y || list_any p ys)) ≡ true
      by true h rest = h
      by false h rest = either (p y) (list_any p (put_by b x ys)) h
          (λ e. second_of (p x) (p y || list_any p ys) (first_of (p y) (list_any p ys) e))
          (λ e. either (p x) (list_any p ys) (rest e) (first_of (p x) (p y || list_any p ys)) (λ f. second_of (p x) (p y || list_any p ys) (second_of (p y) (list_any p ys) f)))

  any_kept : (q : X → Bool) (ys : List X) → list_any p (filter q ys) ≡ true → list_any p ys ≡ true
  any_kept q [] h = h
  any_kept q (y ∷ ys) h = by (q y) h (any_kept q ys)
    where
      by : (t : Bool) → list_any p (cond t (y ∷ filter q ys) (filter q ys)) ≡ true → (list_any p (filter q ys) ≡ true → list_any p ys ≡ true) → (p y || list_any p ys) ≡ true
      by true h rest = either (p y) (list_any p (filter q ys)) h (first_of (p y) (list_any p ys)) (λ e. second_of (p y) (list_any p ys) (rest e))
      by false h rest = second_of (p y) (list_any p ys) (rest h)

-- a chain that comes with what serves now began with one of the generations that are told
begun_chain : (before : Shown) (o : Origin) (cs : List ServedChain) → is_chain_shown (Some o) before ≡ false
    → list_any (λ (c : ServedChain). shares_origin (Some o) c.origin) cs ≡ true → has_number o.listener (flat_map (begun_at before) cs) ≡ true
begun_chain before o [] new h = absurd (true≢false (sym h))
begun_chain before o (c ∷ cs) new h =
    list_any-append (λ n. n == o.listener) (begun_at before c) (flat_map (begun_at before) cs)
    ∙ either (shares_origin (Some o) c.origin) (list_any (λ (x : ServedChain). shares_origin (Some o) x.origin) cs) h
    (λ e. first_of (has_number o.listener (begun_at before c)) (has_number o.listener (flat_map (begun_at before) cs)) (by c.origin refl e))
    (λ e. second_of (has_number o.listener (begun_at before c)) (has_number o.listener (flat_map (begun_at before) cs)) (begun_chain before o cs new e))
  where
    by : (given : Option Origin) → c.origin ≡ given → shares_origin (Some o) given ≡ true → has_number o.listener (begun_at before c) ≡ true
    by None is e = absurd (true≢false (sym e))
    by (Some p) is e =
        let one : o ≡ p = (origin_decides o p).0 e in
        let same : c.origin ≡ Some o = is ∙ ap Some (sym one) in
        let hidden : is_chain_shown c.origin before ≡ false = ap (λ g. is_chain_shown g before) same ∙ new in
        ap (λ t. has_number o.listener (cond t [] (option_to_list (option_map (λ (x : Origin). x.listener) c.origin)))) hidden
        ∙ ap (λ g. has_number o.listener (option_to_list (option_map (λ (x : Origin). x.listener) g))) same
        ∙ first_of (o.listener == o.listener) false ((numbers_decide o.listener o.listener).1 refl)

begun_put : (before : Shown) (o : Origin) (changes : List ListenerChange) (xs : List ServedListener) → is_chain_shown (Some o) before ≡ false
    → list_any (shows_chain (Some o)) xs ≡ false → list_any (shows_chain (Some o)) (put_listeners changes xs) ≡ true
    → has_number o.listener (flat_map (λ (c : ListenerChange). served_begun before c.served) changes) ≡ true
begun_put before o [] xs new none h = absurd (true≢false (sym h ∙ none))
begun_put before o (c ∷ cs) xs new none h =
    list_any-append (λ n. n == o.listener) (served_begun before c.served) (flat_map (λ (d : ListenerChange). served_begun before d.served) cs)
    ∙ by (list_any (shows_chain (Some o)) (put_listener c.served xs)) refl (λ e. begun_put before o cs (put_listener c.served xs) new e h)
  where
    served : (s : Option ServedListener) → list_any (shows_chain (Some o)) (put_listener s xs) ≡ true → has_number o.listener (served_begun before s) ≡ true
    served None e = absurd (true≢false (sym e ∙ none))
    served (Some l) e =
        either (shows_chain (Some o) l) (list_any (shows_chain (Some o)) (filter (λ other. not ((l_number other == l_number l) || bytes_eq (l_name other) (l_name l))) xs))
        (any_put (shows_chain (Some o)) (λ one other. is_before (l_name one) (l_name other)) l
        (filter (λ other. not ((l_number other == l_number l) || bytes_eq (l_name other) (l_name l))) xs) e)
        (λ f. begun_chain before o (chains_shown l) new f)
        (λ f. absurd (true≢false (sym (any_kept (shows_chain (Some o)) (λ other. not ((l_number other == l_number l) || bytes_eq (l_name other) (l_name l))) xs f) ∙ none)))

    by : (t : Bool) → list_any (shows_chain (Some o)) (put_listener c.served xs) ≡ t
        → (list_any (shows_chain (Some o)) (put_listener c.served xs) ≡ false
        → has_number o.listener (flat_map (λ (d : ListenerChange). served_begun before d.served) cs) ≡ true)
        → (has_number o.listener (served_begun before c.served) || has_number o.listener (flat_map (λ (d : ListenerChange). served_begun before d.served) cs)) ≡ true
    by true e rest = first_of (has_number o.listener (served_begun before c.served)) (has_number o.listener (flat_map (λ (d : ListenerChange). served_begun before d.served) cs)) (served c.served e)
    by false e rest = second_of (has_number o.listener (served_begun before c.served)) (has_number o.listener (flat_map (λ (d : ListenerChange). served_begun before d.served) cs))
        (rest e)

none_kept : {X : Type 0} (p q : X → Bool) (xs : List X) → list_any p xs ≡ false → list_any p (filter q xs) ≡ false
none_kept p q xs none = by (list_any p (filter q xs)) refl
  where
    by : (t : Bool) → list_any p (filter q xs) ≡ t → t ≡ false
    by true e = absurd (true≢false (sym (any_kept p q xs e) ∙ none))
    by false e = refl

pub are_begun : (changes : Changes) (before after : Shown) (numbers : List ℕ) → after ≡ shown_with changes before
    → numbers ≡ flat_map (λ (c : ListenerChange). served_begun before c.served) changes.listeners → AreBegun numbers before after
are_begun changes before after numbers is all o new come =
    ap (has_number o.listener) all
    ∙ begun_put before o changes.listeners (without l_number (map l_changed changes.listeners) before.listeners) new
    (none_kept (shows_chain (Some o)) (λ x. not (has_number (l_number x) (map l_changed changes.listeners))) before.listeners new)
    (ap (is_chain_shown (Some o)) (sym is) ∙ come)
