-- Trees that were read of an input without fault have the forms of its lines, and are no deeper than a reader goes.
use Rattle.std.proofs.Common.{◌≡◌, ◌∙◌, ℕ, zero, suc, ◌+◌, ◌<◌, ◌≤◌, ◌⊎◌, inl, inr, Bool, true, false, cond, eqb, List, [], ◌∷◌, length, map, take, get_or, Option, None, Some, option_map, option_and_then, Ok, refl, sym, ap, subst, arith, eqb-true}
use Rattle.std.specs.Prelude.{All, IsTrue, slice_index}
use Rattle.std.specs.Str.{is_utf8}
use Rattle.std.proofs.lemmas.Bool.{false≢true, leb-true}
use Rattle.std.proofs.lemmas.List.Elements.{All-nil, All-cons}
use Rattle.serde_json.specs.Data.{Data}
use Rattle.serde_json.specs.Read.{read}
use Rattle.serde_json.specs.View.{view}
use Rattle.serde_json.proofs.Nesting.{depth-read}
use Rattle.ev_io.specs.Lines.{lines_of, onto_first, feeds_in}
use Rattle.ev_types.specs.declared.events.Line.{Line}
use Rattle.ev_script.specs.declared.forms.Settings.{Settings}
use Rattle.ev_script.specs.declared.trees.ScriptTrees.{ScriptTrees}
use Rattle.ev_script.specs.declared.fault_kinds.FaultKind.TheVariants.{NotLine, NoSuchWorker}
use Rattle.ev_script.specs.Members.{tree_of, tree_told}
use Rattle.ev_script.specs.Content.{is_above}
use Rattle.ev_script.specs.Header.{settings_of}
use Rattle.ev_script.specs.Faults.{LineForms, Input, plain_lines, worker_of, index_at, EndsLine, EndsScriptLine, tree_at, settings_in, profile_by, profile_in, named_at, HasNoFault}
use Rattle.ev_script.specs.Lines.{line_of}
use Rattle.ev_script.specs.ReadScript.{HeadsScripts}
use Rattle.ev_script.specs.ReadTrees.{IsTreesAnswer}
use Rattle.ev_trees.specs.Trees.{IsReadable}
use Rattle.ev_expand.specs.Said.{lines_in, HasLine, AllAt}

-- ---- where lines end

-- the place at which a line ends: by its line feed, or at the end of the bytes
record LineEnd (bytes : List ℕ) (i : ℕ) : Type 0 where
  place : ℕ
  within : place ≤ length bytes
  index : feeds_in (take place bytes) ≡ i
  ends : ((place < length bytes) × (slice_index bytes place ≡ 10)) ⊎ ((place ≡ length bytes) × (feeds_in bytes < length (lines_of bytes)))

-- after a byte that is a line feed
end_behind_feed : (byte : ℕ) (bytes : List ℕ) (i : ℕ) → eqb byte 10 ≡ true → LineEnd bytes i → LineEnd (byte ∷ bytes) (suc i)
end_behind_feed byte bytes i feed found = record {
  place = suc found.place;
  within = omega (arith, found.within);
  index = ap (λ t. cond t (suc (feeds_in (take found.place bytes))) (feeds_in (take found.place bytes))) feed ∙ ap suc found.index;
  ends = by found.ends;
}
  where
    by : ((found.place < length bytes) × (slice_index bytes found.place ≡ 10)) ⊎ ((found.place ≡ length bytes) × (feeds_in bytes < length (lines_of bytes)))
        → ((suc found.place < length (byte ∷ bytes)) × (slice_index (byte ∷ bytes) (suc found.place) ≡ 10))
        ⊎ ((suc found.place ≡ length (byte ∷ bytes)) × (feeds_in (byte ∷ bytes) < length (lines_of (byte ∷ bytes))))
    by (inl h) = inl (omega (arith, h.0), h.1)
    by (inr h) = inr (omega (arith, h.0), subst (λ t. cond t (suc (feeds_in bytes)) (feeds_in bytes) < length (cond t ([] ∷ lines_of bytes) (onto_first byte (lines_of bytes)))) (sym feed) (omega (arith, h.1)))

-- after another byte
end_behind_byte : (byte : ℕ) (bytes : List ℕ) (i : ℕ) → eqb byte 10 ≡ false → LineEnd bytes i → LineEnd (byte ∷ bytes) i
end_behind_byte byte bytes i other found = record {
  place = suc found.place;
  within = omega (arith, found.within);
  index = ap (λ t. cond t (suc (feeds_in (take found.place bytes))) (feeds_in (take found.place bytes))) other ∙ found.index;
  ends = by found.ends;
}
  where
    longer : (lines : List (List ℕ)) → length lines ≤ length (onto_first byte lines)
    longer [] = omega arith
    longer (line ∷ lines) = omega arith

    by : ((found.place < length bytes) × (slice_index bytes found.place ≡ 10)) ⊎ ((found.place ≡ length bytes) × (feeds_in bytes < length (lines_of bytes)))
        → ((suc found.place < length (byte ∷ bytes)) × (slice_index (byte ∷ bytes) (suc found.place) ≡ 10))
        ⊎ ((suc found.place ≡ length (byte ∷ bytes)) × (feeds_in (byte ∷ bytes) < length (lines_of (byte ∷ bytes))))
    by (inl h) = inl (omega (arith, h.0), h.1)
    by (inr h) = inr (omega (arith, h.0), subst (λ t. cond t (suc (feeds_in bytes)) (feeds_in bytes) < length (cond t ([] ∷ lines_of bytes) (onto_first byte (lines_of bytes)))) (sym other) (omega (arith, h.1, longer (lines_of bytes))))

-- each line ends
line_ends : (bytes : List ℕ) (i : ℕ) → i < length (lines_of bytes) → LineEnd bytes i
line_ends [] i h = absurd (omega arith)
line_ends (byte ∷ bytes) i h = by (λ j k. line_ends bytes j k) (eqb byte 10) refl i h
  where
    first : eqb byte 10 ≡ true → LineEnd (byte ∷ bytes) 0
    first feed = record {
      place = 0;
      within = omega arith;
      index = refl;
      ends = inl (omega arith, eqb-true byte 10 feed);
    }

    -- the last line, which isn't closed
    alone : eqb byte 10 ≡ false → lines_of bytes ≡ [] → (j : ℕ) → j < 1 → LineEnd (byte ∷ bytes) j
    alone other none j k = by_bytes bytes none
      where
        by_bytes : (bs : List ℕ) → lines_of bs ≡ [] → LineEnd (byte ∷ bs) j
        by_bytes [] empty = record {
          place = 1;
          within = omega arith;
          index = ap (λ t. cond t 1 0) other ∙ omega arith;
          ends = inr (omega arith, subst (λ t. cond t 1 0 < length (cond t ([] ∷ []) ((byte ∷ []) ∷ []))) (sym other) (omega arith));
        }
        by_bytes (b ∷ bs) empty = absurd (some (eqb b 10) (lines_of bs) empty)
          where
            some : (t : Bool) (lines : List (List ℕ)) → cond t ([] ∷ lines) (onto_first b lines) ≡ [] → ⊥
            some true lines e = cc
            some false [] e = cc
            some false (line ∷ lines) e = cc

    others : ((j : ℕ) → j < length (lines_of bytes) → LineEnd bytes j) → eqb byte 10 ≡ false → (lines : List (List ℕ)) → lines_of bytes ≡ lines → (j : ℕ) → j < length (onto_first byte lines) → LineEnd (byte ∷ bytes) j
    others rest other [] is j k = alone other is j k
    others rest other (line ∷ lines) is j k = end_behind_byte byte bytes j other (rest j (subst (λ ls. j < length ls) (sym is) k))

    by : ((j : ℕ) → j < length (lines_of bytes) → LineEnd bytes j) → (t : Bool) → eqb byte 10 ≡ t → (j : ℕ) → j < length (cond t ([] ∷ lines_of bytes) (onto_first byte (lines_of bytes))) → LineEnd (byte ∷ bytes) j
    by rest true feed zero k = first feed
    by rest true feed (suc j) k = end_behind_feed byte bytes j feed (rest j (omega arith))
    by rest false other j k = others rest other (lines_of bytes) refl j k

-- ---- the forms

-- at this place the tree has the form of a line, of a script with these settings
pub record HasForm (forms : LineForms) (settings : Settings) (at : ℕ) (tree : Data) : Type 0 where
  pub named : Option ℕ
  pub reads : forms.lines settings.profile at tree ≡ Some named
  pub below : is_above settings.workers named ≡ false

-- a worker that is none of the script's would be a fault
below_by : (workers : ℕ) (named : Option ℕ) → ((worker : ℕ) → named ≡ Some worker → workers ≤ worker → ⊥) → is_above workers named ≡ false
below_by workers None never = refl
below_by workers (Some worker) never = by (is_above workers (Some worker)) refl
  where
    by : (b : Bool) → is_above workers (Some worker) ≡ b → b ≡ false
    by true h = absurd (never worker refl (leb-true workers worker h))
    by false h = refl

form_by : (forms : LineForms) (settings : Settings) (at : ℕ) (tree : Data) (found : Option (Option ℕ)) → forms.lines settings.profile at tree ≡ found → (found ≡ None → ⊥)
    → ((worker : ℕ) → found ≡ Some (Some worker) → settings.workers ≤ worker → ⊥) → HasForm forms settings at tree
form_by forms settings at tree None is some below = absurd (some refl)
form_by forms settings at tree (Some named) is some below =
    record { named = named; reads = is; below = below_by settings.workers named (λ worker e above. below worker (ap Some e) above) }

-- the form of a line of an input without fault
line_form : (forms : LineForms) (input : Input) (settings : Settings) (i : ℕ) (tree : Data) → input.audit ≡ false → IsTrue input.ended → HasNoFault forms input
    → settings_in forms (lines_of input.bytes) ≡ Some settings → suc i < length (lines_of input.bytes)
    → tree_of (get_or (lines_of input.bytes) (suc i) []) ≡ Some tree → HasForm forms settings (i + 2) tree
line_form forms input settings i tree whole ended sound heads within is =
    let found = line_ends input.bytes (suc i) within in
    let place : ℕ = found.place in
    let here : tree_at input place ≡ Some tree = ap (λ n. tree_of (get_or (lines_of input.bytes) n [])) found.index ∙ is in
    let at : index_at input place + 1 ≡ i + 2 = omega (arith, found.index) in
    let profile : profile_in forms (lines_of input.bytes) ≡ settings.profile = ap profile_by heads in
    let reads : named_at forms input place ≡ forms.lines settings.profile (i + 2) tree =
    (λ j. option_and_then (forms.lines (profile j) (at j)) (here j)) in
    let line : EndsScriptLine input place = record {
      ends = ends_at found.ends;
      before = λ start h begins. false≢true (sym whole ∙ begins.audit);
    } in
    let later : 0 < index_at input place = omega (arith, found.index) in
    form_by forms settings (i + 2) tree (forms.lines settings.profile (i + 2) tree) refl
    (λ none. sound place NotLine (line, later, reads ∙ none))
    (λ worker names above. sound place NoSuchWorker (line, later, record { worker = worker; settings = settings; names = reads ∙ names; heads = heads; above = above }))
  where
    ends_at : {p : ℕ} → ((p < length input.bytes) × (slice_index input.bytes p ≡ 10)) ⊎ ((p ≡ length input.bytes) × (feeds_in input.bytes < length (lines_of input.bytes))) → EndsLine input p
    ends_at (inl h) = inl h
    ends_at (inr h) = inr (ended, h.0, h.1)

by_places : (P : ℕ → Data → Type 0) (at : ℕ) (values : List (List ℕ)) → ((i : ℕ) (other : List ℕ) → i < length values → P (at + i) (tree_told (get_or values i other))) → AllAt P at (map tree_told values)
by_places P at [] each = tt
by_places P at (value ∷ values) each = (
  subst (λ n. P n (tree_told value)) (omega arith) (each 0 value (omega arith)),
  by_places P (at + 1) values (λ i other h. subst (λ n. P n (tree_told (get_or values i other))) (omega arith) (each (suc i) other (omega arith))),
)

-- the trees that were read have the forms
pub trees_have_forms : (forms : LineForms) (input : Input) (trees : ScriptTrees) → HeadsScripts forms → IsTreesAnswer forms input (Ok trees)
    → AllAt (HasForm forms (settings_of trees.header)) 2 (lines_in trees)
trees_have_forms forms input trees heads answer =
    by_places (HasForm forms (settings_of trees.header)) 2 trees.lines.items
    (λ i other h. subst (λ n. HasForm forms (settings_of trees.header) n (tree_told (get_or trees.lines.items i other))) (omega arith)
    (line_form forms input (settings_of trees.header) i (tree_told (get_or trees.lines.items i other)) answer.0.script answer.0.ended answer.0.sound
    (ap (option_and_then forms.heads) answer.1.head ∙ heads (view trees.head) ∙ ap (option_map settings_of) answer.1.header)
    (omega (arith, answer.0.lines))
    (ap (λ n. tree_of (get_or (lines_of input.bytes) n [])) (omega arith) ∙ answer.1.lines i other h)))

-- ---- lines of scripts

some_is : {A : Type 0} (x y : A) → Some x ≡ Some y → x ≡ y
some_is x y h = cc

line_by : (settings : Settings) (at : ℕ) (tree : Data) (named : Option ℕ) (found : Option Line) → line_of settings.profile at tree ≡ found
    → option_map (λ (line : Line). worker_of line.actor) found ≡ Some named → is_above settings.workers named ≡ false → HasLine settings at tree
line_by settings at tree named None is reads below = absurd (cc)
line_by settings at tree named (Some line) is reads below =
    record { line = line; is = is; below = ap (is_above settings.workers) (some_is (worker_of line.actor) named reads) ∙ below }

-- what has the plain form is a line
pub plain_line : (settings : Settings) (at : ℕ) (tree : Data) → HasForm plain_lines settings at tree → HasLine settings at tree
plain_line settings at tree form = line_by settings at tree form.named (line_of settings.profile at tree) refl form.reads form.below

plain_at : (settings : Settings) (at : ℕ) (trees : List Data) → AllAt (HasForm plain_lines settings) at trees → AllAt (HasLine settings) at trees
plain_at settings at [] all = tt
plain_at settings at (tree ∷ trees) all = (plain_line settings at tree all.0, plain_at settings (at + 1) trees all.1)

-- the trees of a script's lines are lines at their places
pub trees_have_lines : (input : Input) (trees : ScriptTrees) → IsTreesAnswer plain_lines input (Ok trees) → AllAt (HasLine (settings_of trees.header)) 2 (lines_in trees)
trees_have_lines input trees answer = plain_at (settings_of trees.header) 2 (lines_in trees) (trees_have_forms plain_lines input trees (λ tree. refl) answer)

-- ---- how deep they are

read_by : (b : Bool) (found : Option Data) (tree : Data) → cond b found None ≡ Some tree → found ≡ Some tree
read_by true found tree h = h
read_by false found tree h = absurd (cc)

read_within : (text : List ℕ) (tree : Data) → tree_of text ≡ Some tree → IsReadable tree
read_within text tree h = depth-read text tree (read_by (is_utf8 text) (read text) tree h)

each_value : (P : Data → Type 0) (values : List (List ℕ)) → ((i : ℕ) (other : List ℕ) → i < length values → P (tree_told (get_or values i other))) → All P (map tree_told values)
each_value P [] each = All-nil P
each_value P (value ∷ values) each =
    All-cons P (tree_told value) (map tree_told values) (each 0 value (omega arith)) (each_value P values (λ i other h. each (suc i) other (omega arith)))

-- trees that were read are no deeper than a reader goes
pub trees_are_readable : (forms : LineForms) (input : Input) (trees : ScriptTrees) → IsTreesAnswer forms input (Ok trees) → All IsReadable (view trees.head ∷ lines_in trees)
trees_are_readable forms input trees answer =
    All-cons IsReadable (view trees.head) (lines_in trees) (read_within (get_or (lines_of input.bytes) 0 []) (view trees.head) answer.1.head)
    (each_value IsReadable trees.lines.items
    (λ i other h. read_within (get_or (lines_of input.bytes) (i + 1) []) (tree_told (get_or trees.lines.items i other)) (answer.1.lines i other h)))
