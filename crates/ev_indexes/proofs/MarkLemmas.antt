-- Marks of rows, and what each change of results or of marks does to them.
use native.Mathlib.Omega.{arith}
use Rattle.std.proofs.Common.{◌≡◌, ◌∙◌, ℕ, suc, ◌<◌, ◌≤◌, Bool, true, false, true≢false, cond, ◌&&◌, ◌||◌, nat_eq, List, [], ◌∷◌, Option, None, Some, IfSome, option_map, unwrap_or, slice_set, filter, map, length, refl, sym, ap, subst}
use Rattle.std.specs.List.{list_any}
use Rattle.std.specs.Map.{lookup, set_value}
use Rattle.std.specs.Option.{option_map_or}
use Rattle.std.proofs.lemmas.Bool.{eqb-true, eq-eqb}
use Rattle.ev_types.specs.SameHosts.{host_same, host_decides, has_host, place_of, NeedsHosts}
use Rattle.ev_types.specs.Hosts.{HostRowParts}
use Rattle.ev_types.specs.declared.hosts.Host.{Host}
use Rattle.ev_indexes.specs.Results.{HostResults, result_among, NotesAmong, is_eligible_among}
use Rattle.ev_hosts.specs.Chosen.{chosen_by}
use Rattle.ev_hosts.proofs.ChosenLemmas.{chosen_map}
use Rattle.ev_indexes.specs.KeptEndpoints.{chosen_in}
use Rattle.ev_indexes.specs.Marked.{has_repeats, usable_at, marks_with, rows_marked, IsMarkedBy, AreMarked, NotesMark}
use Rattle.ev_indexes.specs.declared.marked.MarkedRows.{MarkedRows}

-- two tests that agree on each row of another host agree on rows without the host
outside : (f g : HostRowParts → Bool) (host : Host) → ((row : HostRowParts) → host_same row.host host ≡ false → f row ≡ g row)
    → (rows : List HostRowParts) → has_host host rows ≡ false → map f rows ≡ map g rows
outside f g host same [] none = refl
outside f g host same (row ∷ rows) none = by (host_same row.host host) refl none (outside f g host same rows)
  where
    by : (b : Bool) → host_same row.host host ≡ b → (b || has_host host rows) ≡ false → (has_host host rows ≡ false → map f rows ≡ map g rows)
        → map f (row ∷ rows) ≡ map g (row ∷ rows)
    by true e h rest = absurd (true≢false h)
    by false e h rest = λ i. same row e i ∷ rest h i

either_false : (a b : Bool) → (a || b) ≡ false → (a ≡ false) × (b ≡ false)
either_false true b h = absurd (true≢false h)
either_false false b h = (refl, h)

-- a result of a host changes the mark at the host's place, and no other one
pub marks-map : (e f : HostRowParts → Bool) (host : Host) (healthy : Bool)
    → ((row : HostRowParts) → host_same row.host host ≡ false → e row ≡ f row)
    → ((row : HostRowParts) → host_same row.host host ≡ true → (row.usable && healthy) ≡ f row)
    → (rows : List HostRowParts) → has_repeats rows ≡ false → marks_with host healthy rows (map e rows) ≡ map f rows
marks-map e f host healthy other own [] apart = refl
marks-map e f host healthy other own (row ∷ rows) apart =
    let parts = either_false (has_host row.host rows) (has_repeats rows) apart in
    by parts.0 (host_same row.host host) refl (place_of host rows) (marks-map e f host healthy other own rows parts.1)
  where
    by : has_host row.host rows ≡ false → (b : Bool) → host_same row.host host ≡ b → (o : Option ℕ)
        → option_map_or (λ place. slice_set (map e rows) place (usable_at rows place && healthy)) o (map e rows) ≡ map f rows
        → option_map_or (λ place. slice_set (e row ∷ map e rows) place (usable_at (row ∷ rows) place && healthy)) (cond b (Some 0) (option_map suc o)) (e row ∷ map e rows)
        ≡ f row ∷ map f rows
    by none true same o rest =
        λ i. own row same i ∷ outside e f host other rows ((λ j. has_host (sym ((host_decides row.host host).0 same) j) rows) ∙ none) i
    by none false same None rest = λ i. other row same i ∷ rest i
    by none false same (Some place) rest = λ i. other row same i ∷ rest i

-- a look-up of rows goes by the marked rows of the number
pub lookup-rows_marked : (test : ℕ → Bool) (es : List (ℕ × MarkedRows)) → lookup test (rows_marked es) ≡ option_map (λ (m : MarkedRows). m.rows) (lookup test es)
lookup-rows_marked test [] = refl
lookup-rows_marked test (e ∷ es) = by (test e.0) (lookup test es) (lookup-rows_marked test es)
  where
    by : (b : Bool) (o : Option MarkedRows) {r : Option (List HostRowParts)} → r ≡ option_map (λ (m : MarkedRows). m.rows) o
        → cond b (Some e.1.rows) r ≡ option_map (λ (m : MarkedRows). m.rows) (cond b (Some e.1) o)
    by true o h = refl
    by false o h = h

-- other marked rows for one number
pub rows-changed : (es fs : List (ℕ × MarkedRows)) (number : ℕ) (u : Option MarkedRows) → ((n : ℕ) → lookup (nat_eq n) fs ≡ cond (nat_eq number n) u (lookup (nat_eq n) es))
    → (n : ℕ) → lookup (nat_eq n) (rows_marked fs) ≡ cond (nat_eq number n) (option_map (λ (m : MarkedRows). m.rows) u) (lookup (nat_eq n) (rows_marked es))
rows-changed es fs number u updates n =
    lookup-rows_marked (nat_eq n) fs ∙ ap (option_map (λ (m : MarkedRows). m.rows)) (updates n) ∙ by (nat_eq number n)
  where
    by : (b : Bool) → option_map (λ (m : MarkedRows). m.rows) (cond b u (lookup (nat_eq n) es)) ≡ cond b (option_map (λ (m : MarkedRows). m.rows) u) (lookup (nat_eq n) (rows_marked es))
    by true = refl
    by false = sym (lookup-rows_marked (nat_eq n) es)

-- what is marked of the rows of a number are those that may be chosen
pub chosen-found : (results : HostResults) (es : List (ℕ × MarkedRows)) (n : ℕ) (o : Option MarkedRows) → lookup (nat_eq n) es ≡ o → AreMarked results es
    → option_map (λ (m : MarkedRows). chosen_by m.marks m.rows) o ≡ chosen_in (record { hosts = results; marked = rows_marked es }) n
chosen-found results es n o at are =
    by o (subst (λ (p : Option MarkedRows). IfSome p (IsMarkedBy results n)) at (are n))
    ∙ ap (option_map (λ (rows : List HostRowParts). filter (is_eligible_among results n true) rows)) (sym (lookup-rows_marked (nat_eq n) es ∙ ap (option_map (λ (m : MarkedRows). m.rows)) at))
  where
    by : (o : Option MarkedRows) → IfSome o (IsMarkedBy results n)
        → option_map (λ (m : MarkedRows). chosen_by m.marks m.rows) o ≡ option_map (λ (rows : List HostRowParts). filter (is_eligible_among results n true) rows) (option_map (λ (m : MarkedRows). m.rows) o)
    by None is = refl
    by (Some m) is = ap Some ((λ i. chosen_by (is.marks i) m.rows) ∙ chosen_map (is_eligible_among results n true) m.rows)

-- marked rows with the same rows in place of others change no row
pub rows_marked-set_value : (test : ℕ → Bool) (es : List (ℕ × MarkedRows)) (m w : MarkedRows) → lookup test es ≡ Some m → w.rows ≡ m.rows
    → rows_marked (set_value test es w) ≡ rows_marked es
rows_marked-set_value test [] m w at same = refl
rows_marked-set_value test (e ∷ es) m w at same = by (test e.0) at (rows_marked-set_value test es m w)
  where
    by : (b : Bool) → cond b (Some e.1) (lookup test es) ≡ Some m → (lookup test es ≡ Some m → w.rows ≡ m.rows → rows_marked (set_value test es w) ≡ rows_marked es)
        → rows_marked (cond b ((e.0, w) ∷ es) (e ∷ set_value test es w)) ≡ rows_marked (e ∷ es)
    by true here rest =
        let own : e.1 ≡ m = cc in
        λ i. (e.0, (same ∙ (λ j. (sym own j).rows)) i) ∷ rows_marked es
    by false there rest = ap (λ (rs : List (ℕ × List HostRowParts)). (e.0, e.1.rows) ∷ rs) (rest there same)

-- rows are marked by the results of their number alone
pub marked-same : (results more : HostResults) (n : ℕ) → ((h : Host) → result_among more n h ≡ result_among results n h)
    → (m : MarkedRows) → IsMarkedBy results n m → IsMarkedBy more n m
marked-same results more n same m is = record {
  marks = is.marks ∙ each m.rows;
  apart = is.apart;
}
  where
    each : (rows : List HostRowParts) → map (is_eligible_among results n true) rows ≡ map (is_eligible_among more n true) rows
    each [] = refl
    each (row ∷ rows) = λ i. (row.usable && unwrap_or (sym (same row.host) i) false) ∷ each rows i

-- marked rows of one number changed, and the results of no other one
module _ (results more : HostResults) (es fs : List (ℕ × MarkedRows)) (number : ℕ) (u : Option MarkedRows)
    (updates : (n : ℕ) → lookup (nat_eq n) fs ≡ cond (nat_eq number n) u (lookup (nat_eq n) es))
    (same : (n : ℕ) (h : Host) → nat_eq number n ≡ false → result_among more n h ≡ result_among results n h) where
  pub marked-changed : IfSome u (IsMarkedBy more number) → AreMarked results es → AreMarked more fs
  marked-changed own are n = subst (λ (o : Option MarkedRows). IfSome o (IsMarkedBy more n)) (sym (updates n)) (by (nat_eq number n) refl)
    where
      if_other : (o : Option MarkedRows) → nat_eq number n ≡ false → IfSome o (IsMarkedBy results n) → IfSome o (IsMarkedBy more n)
      if_other None e h = tt
      if_other (Some m) e h = marked-same results more n (λ h. same n h e) m h

      by : (b : Bool) → nat_eq number n ≡ b → IfSome (cond b u (lookup (nat_eq n) es)) (IsMarkedBy more n)
      by true e = subst (λ k. IfSome u (IsMarkedBy more k)) (eqb-true number n e) own
      by false e = if_other (lookup (nat_eq n) es) e (are n)

-- a result of one number leaves those of the others
pub noted-others : (results more : HostResults) (number : ℕ) (host : Host) (healthy : Bool) → NotesAmong results more number host healthy
    → (n : ℕ) (h : Host) → nat_eq number n ≡ false → result_among more n h ≡ result_among results n h
noted-others results more number host healthy notes n h e = notes n h ∙ (λ i. cond (e i && host_same host h) (Some healthy) (result_among results n h))

-- marked rows with the result of a host are marked by the results with it
pub marked-noted : (results more : HostResults) (number : ℕ) (host : Host) (healthy : Bool) → NotesAmong results more number host healthy → (m w : MarkedRows)
    → w.rows ≡ m.rows → w.marks ≡ marks_with host healthy m.rows m.marks → IsMarkedBy results number m → IsMarkedBy more number w
marked-noted results more number host healthy notes m w rows marks is = record {
  marks = marks ∙ ap (marks_with host healthy m.rows) is.marks
      ∙ marks-map (is_eligible_among results number true) (is_eligible_among more number true) host healthy other own m.rows is.apart
      ∙ ap (map (is_eligible_among more number true)) (sym rows);
  apart = ap has_repeats rows ∙ is.apart;
}
  where
    noted : (row : HostRowParts) → result_among more number row.host ≡ cond (host_same host row.host) (Some healthy) (result_among results number row.host)
    noted row = notes number row.host ∙ (λ i. cond (eq-eqb number number refl i && host_same host row.host) (Some healthy) (result_among results number row.host))

    turned : (row : HostRowParts) (b : Bool) → host_same row.host host ≡ b → host_same host row.host ≡ b
    turned row true e = (host_decides host row.host).1 (sym ((host_decides row.host host).0 e))
    turned row false e = by (host_same host row.host) refl
      where
        by : (c : Bool) → host_same host row.host ≡ c → c ≡ false
        by true k = absurd (true≢false (sym ((host_decides row.host host).1 (sym ((host_decides host row.host).0 k))) ∙ e))
        by false k = refl

    other : (row : HostRowParts) → host_same row.host host ≡ false → is_eligible_among results number true row ≡ is_eligible_among more number true row
    other row e = λ i. row.usable && unwrap_or (sym (noted row ∙ (λ j. cond (turned row false e j) (Some healthy) (result_among results number row.host))) i) false

    own : (row : HostRowParts) → host_same row.host host ≡ true → (row.usable && healthy) ≡ is_eligible_among more number true row
    own row e = λ i. row.usable && unwrap_or (sym (noted row ∙ (λ j. cond (turned row true e j) (Some healthy) (result_among results number row.host))) i) false

-- what a result does to marked rows that are there
pub notes-mark : (es fs : List (ℕ × MarkedRows)) (number : ℕ) (host : Host) (healthy : Bool) (m w : MarkedRows) → lookup (nat_eq number) es ≡ Some m
    → w.rows ≡ m.rows → w.marks ≡ marks_with host healthy m.rows m.marks → rows_marked fs ≡ rows_marked es
    → ((n : ℕ) → lookup (nat_eq n) fs ≡ cond (nat_eq number n) (Some w) (lookup (nat_eq n) es)) → NotesMark es fs number host healthy
notes-mark es fs number host healthy m w at rows marks same updates = record {
  rows = same;
  marks = λ results more notes are.
      marked-changed results more es fs number (Some w) updates (noted-others results more number host healthy notes)
      (marked-noted results more number host healthy notes m w rows marks (subst (λ (o : Option MarkedRows). IfSome o (IsMarkedBy results number)) at (are number))) are;
}

-- and where none are
pub notes-none : (es : List (ℕ × MarkedRows)) (number : ℕ) (host : Host) (healthy : Bool) → lookup (nat_eq number) es ≡ None → NotesMark es es number host healthy
notes-none es number host healthy none = record {
  rows = refl;
  marks = λ results more notes are.
      marked-changed results more es es number None (λ n. same n (nat_eq number n) refl) (noted-others results more number host healthy notes) tt are;
}
  where
    same : (n : ℕ) (b : Bool) → nat_eq number n ≡ b → lookup (nat_eq n) es ≡ cond b None (lookup (nat_eq n) es)
    same n true e = (λ i. lookup (nat_eq (sym (eqb-true number n e) i)) es) ∙ none
    same n false e = refl

-- the hosts of rows, one that comes again later left out
abbrev once : List HostRowParts → List Host
once [] = []
once (row ∷ rows) = cond (has_host row.host rows) (once rows) (row.host ∷ once rows)

-- each host of the rows is there
once-has : (rows : List HostRowParts) (host : Host) → has_host host rows ≡ true → list_any (host_same host) (once rows) ≡ true
once-has [] host among = absurd (true≢false (sym among))
once-has (row ∷ rows) host among = by (has_host row.host rows) refl (host_same row.host host) refl among (once-has rows host)
  where
    turned : host_same row.host host ≡ true → host_same host row.host ≡ true
    turned e = (host_decides host row.host).1 (sym ((host_decides row.host host).0 e))

    by : (a : Bool) → has_host row.host rows ≡ a → (b : Bool) → host_same row.host host ≡ b → (b || has_host host rows) ≡ true
        → (has_host host rows ≡ true → list_any (host_same host) (once rows) ≡ true)
        → list_any (host_same host) (cond a (once rows) (row.host ∷ once rows)) ≡ true
    by true e true same h rest = rest ((λ i. has_host (sym ((host_decides row.host host).0 same) i) rows) ∙ e)
    by true e false same h rest = rest h
    by false e true same h rest = λ i. turned same i || list_any (host_same host) (once rows)
    by false e false same h rest = last (host_same host row.host) (rest h)
      where
        last : (c : Bool) → list_any (host_same host) (once rows) ≡ true → (c || list_any (host_same host) (once rows)) ≡ true
        last true k = refl
        last false k = k

-- and they are fewer than the rows where one comes again
once-few : (rows : List HostRowParts) → length (once rows) ≤ length rows
once-few [] = omega arith
once-few (row ∷ rows) = by (has_host row.host rows) (once-few rows)
  where
    by : (a : Bool) → length (once rows) ≤ length rows → length (cond a (once rows) (row.host ∷ once rows)) ≤ suc (length rows)
    by true h = omega (arith, h)
    by false h = omega (arith, h)

once-fewer : (rows : List HostRowParts) → has_repeats rows ≡ true → length (once rows) < length rows
once-fewer [] repeats = absurd (true≢false (sym repeats))
once-fewer (row ∷ rows) repeats = by (has_host row.host rows) repeats (once-few rows) (once-fewer rows)
  where
    by : (a : Bool) → (a || has_repeats rows) ≡ true → length (once rows) ≤ length rows → (has_repeats rows ≡ true → length (once rows) < length rows)
        → length (cond a (once rows) (row.host ∷ once rows)) < suc (length rows)
    by true h few fewer = omega (arith, few)
    by false h few fewer = omega (arith, fewer h)

-- rows that need as many hosts as they are have none twice
pub no_repeats : (rows : List HostRowParts) (count : ℕ) → NeedsHosts rows count → count ≡ length rows → has_repeats rows ≡ false
no_repeats rows count needs all = by (has_repeats rows) refl
  where
    by : (b : Bool) → has_repeats rows ≡ b → b ≡ false
    by true e =
        let enough : count ≤ length (once rows) = needs (once rows) (once-has rows) in
        let fewer = once-fewer rows e in
        absurd (omega (arith, enough, fewer, all))
    by false e = refl
