-- What the lines become is a script.
use Rattle.std.proofs.Common.{◌≡◌, ◌∙◌, ℕ, ◌+◌, ◌≤◌, ◌&&◌, ◌==◌, not, Bool, true, false, cond, List, [], ◌∷◌, ◌++◌, length, map, codes, Option, None, Some, option_map, option_and_then, unwrap_or, Ok, refl, sym, ap, subst, arith}
use Rattle.std.proofs.lemmas.Bool.{false≢true}
use Rattle.serde_json.specs.Data.{Data, string}
use Rattle.serde_json.specs.Find.{get}
use Rattle.serde_json.specs.View.{view}
use Rattle.ev_types.specs.declared.events.Actor.TheVariants.{Stream}
use Rattle.ev_types.specs.declared.events.Event.TheVariants.{Response}
use Rattle.ev_types.specs.declared.events.Profile.{Profile}
use Rattle.ev_script.specs.declared.forms.Settings.{Settings}
use Rattle.ev_tree.specs.Forms.{given_or, text_of}
use Rattle.ev_wire.specs.Kinds.{kind_with}
use Rattle.ev_wire.specs.Responses.{response_kind, nonce_of, has_head, response_of}
use Rattle.ev_script.specs.Members.{has_only, member_of, is_op}
use Rattle.ev_script.specs.LineForms.{with_only, line_at}
use Rattle.ev_script.specs.Lines.{line_of}
use Rattle.ev_script.specs.declared.trees.ScriptTrees.{ScriptTrees}
use Rattle.ev_script.specs.Faults.{Input, plain_lines, HasNoFault}
use Rattle.ev_script.specs.Header.{settings_of}
use Rattle.ev_script.specs.ReadTrees.{IsTreesAnswer}
use Rattle.ev_script.specs.Script.{script_of}
use Rattle.ev_trees.specs.Trees.{text_of_trees}
use Rattle.ev_expand.specs.declared.text_so_far.TextSoFar.{TextSoFar}
use Rattle.ev_expand.specs.Said.{HasLine, AllAt, lines_in, input_of_text}
use Rattle.ev_expand.proofs.FormLemmas.{HasForm, trees_have_forms, plain_line}
use Rattle.ev_expand.proofs.ScriptLemmas.{trees_said}
use Rattle.ev_sotw.specs.Discovery.{DiscoveryParts, is_discovery, has_parts_of, parts_in, discovery_of}
use Rattle.ev_sotw.specs.Delta.{delta_message}
use Rattle.ev_sotw.specs.Told.{IsDiscovery, response_told}
use Rattle.ev_sotw.proofs.ReadLemmas.{read_so}
use Rattle.ev_sotw.specs.Searches.{with_before}
use Rattle.ev_sotw.specs.Lines.{response_in, sotw_lines}
use Rattle.ev_sotw.specs.Deltas.{removed_at, delta_line, delta_of, deltas_of}
use Rattle.ev_sotw_delta.specs.DeltaText.{written_of, delta_script, IsWritten}
use Rattle.ev_sotw_delta.proofs.DeltaLemmas.{placed_delta}

-- ---- responses that lines bring

and_first : (a b : Bool) → (a && b) ≡ true → a ≡ true
and_first true b h = refl
and_first false b h = absurd (false≢true h)

and_last : (a b : Bool) → (a && b) ≡ true → b ≡ true
and_last true b h = h
and_last false b h = absurd (false≢true h)

cond_some : {A : Type 0} (b : Bool) (x : Option A) (y : A) → cond b x None ≡ Some y → (b ≡ true) × (x ≡ Some y)
cond_some true x y h = (refl, h)
cond_some false x y h = absurd (cc)

not_nil : (xs : List ℕ) → not (length xs == 0) ≡ true → 1 ≤ length xs
not_nil [] h = absurd (false≢true h)
not_nil (x ∷ xs) h = omega arith

head_nonce : (tree : Data) → has_head tree ≡ true → 1 ≤ length (nonce_of tree)
unfolding has_head
head_nonce tree h = not_nil (nonce_of tree) (and_last _ (not (length (nonce_of tree) == 0)) h)

kind_same_url : (profile : Profile) (tree : Data) → kind_with profile (given_or [] (text_of (codes "type_url") tree)) ≡ response_kind profile tree
unfolding response_kind
kind_same_url profile tree = refl

some_is : {A : Type 0} (x y : A) → Some x ≡ Some y → x ≡ y
some_is x y h = cc

discovery_is : (profile : Profile) (tree : Data) (response : DiscoveryParts) → discovery_of profile tree ≡ Some response → IsDiscovery profile response
discovery_is profile tree response h =
    let parts = cond_some (is_discovery profile tree) (Some (parts_in profile tree)) response h in
    subst (IsDiscovery profile) (some_is (parts_in profile tree) response parts.1) (record {
      kind = kind_same_url profile tree;
      nonce = head_nonce tree (and_first (has_head tree) (has_parts_of (response_kind profile tree) tree) parts.0);
    })

member_discovery : (profile : Profile) (found : Option Data) (response : DiscoveryParts) → option_and_then (discovery_of profile) found ≡ Some response → IsDiscovery profile response
member_discovery profile None response h = absurd (cc)
member_discovery profile (Some tree) response h = discovery_is profile tree response h

pub response_is : (profile : Profile) (line : Data) (response : DiscoveryParts) → response_in profile line ≡ Some response → IsDiscovery profile response
response_is profile line response h =
    let inner = cond_some (is_op (codes "response") line) (with_only (codes "message" ∷ []) line (member_of (discovery_of profile) (codes "message") line)) response h in
    let member = cond_some (has_only (codes "op" ∷ codes "message" ∷ []) line) (member_of (discovery_of profile) (codes "message") line) response inner.1 in
    member_discovery profile (get (codes "message") line) response member.1

-- ---- the line that is made

made_line : (profile : Profile) (at : ℕ) (message : Data) → line_of profile at (delta_line message) ≡ line_at at Stream (option_map (λ response. Response response) (response_of profile message))
made_line profile at message = refl

-- the line that is made of a response
pub line_made : (profile : Profile) (at : ℕ) (response : DiscoveryParts) (removed : List (List ℕ)) → IsDiscovery profile response
    → line_of profile at (delta_line (delta_message response (map string removed)))
    ≡ Some (record { at = at; actor = Stream; event = Response (response_told profile response removed) })
line_made profile at response removed is =
    made_line profile at (delta_message response (map string removed))
    ∙ ap (λ found. line_at at Stream (option_map (λ r. Response r) found)) (read_so profile response removed is).reads

-- ---- lines by their places

-- a response names none
abbrev no_worker : DiscoveryParts → Option ℕ
no_worker response = None

response_has : (settings : Settings) (at : ℕ) (before : List Data) (line : Data) (found : Option DiscoveryParts) (named : Option ℕ) → response_in settings.profile line ≡ found
    → option_map no_worker found ≡ Some named → HasLine settings at (delta_of settings.profile before line)
response_has settings at before line None named is reads = absurd (cc)
response_has settings at before line (Some response) named is reads =
    let made : delta_of settings.profile before line ≡ delta_line (delta_message response (map string (removed_at settings.profile before response))) =
    ap (λ found. unwrap_or (option_map (λ r. delta_line (delta_message r (map string (removed_at settings.profile before r)))) found) line) is in
    record {
      line = record { at = at; actor = Stream; event = Response (response_told settings.profile response (removed_at settings.profile before response)) };
      is = ap (line_of settings.profile at) made ∙ line_made settings.profile at response (removed_at settings.profile before response) (response_is settings.profile line response is);
      below = refl;
    }

-- what a line becomes is a line
pub delta_has : (settings : Settings) (at : ℕ) (before : List Data) (line : Data) → HasForm sotw_lines settings at line → HasLine settings at (delta_of settings.profile before line)
delta_has settings at before line form = by (is_op (codes "response") line) refl form.reads
  where
    by : (b : Bool) → is_op (codes "response") line ≡ b
        → cond b (option_map no_worker (response_in settings.profile line)) (plain_lines.lines settings.profile at line) ≡ Some form.named → HasLine settings at (delta_of settings.profile before line)
    by true op reads = response_has settings at before line (response_in settings.profile line) form.named refl reads
    by false op reads =
        let none : response_in settings.profile line ≡ None =
        ap (λ b. cond b (with_only (codes "message" ∷ []) line (member_of (discovery_of settings.profile) (codes "message") line)) None) op in
        let same : delta_of settings.profile before line ≡ line =
        ap (λ found. unwrap_or (option_map (λ r. delta_line (delta_message r (map string (removed_at settings.profile before r)))) found) line) none in
        subst (HasLine settings at) (sym same) (plain_line settings at line (record { named = form.named; reads = reads; below = form.below }))

pub deltas_have : (settings : Settings) (at : ℕ) (before lines : List Data) → AllAt (HasForm sotw_lines settings) at lines → AllAt (HasLine settings) at (map (placed_delta settings.profile) (with_before before lines))
deltas_have settings at before [] all = tt
deltas_have settings at before (line ∷ lines) all = (delta_has settings at before line all.0, deltas_have settings (at + 1) (before ++ line ∷ []) lines all.1)

-- ---- the text

-- the text that was written is a script without fault, of the lines that the trees are
pub text_is_script : (input : Input) (trees : ScriptTrees) (text : TextSoFar) → IsTreesAnswer sotw_lines input (Ok trees) → IsWritten (written_of trees) text
    → HasNoFault plain_lines (input_of_text text.bytes.items) × (script_of false text.bytes.items ≡ Some (delta_script trees))
text_is_script input trees text read written =
    let settings : Settings = settings_of trees.header in
    let deltas : List Data = deltas_of trees.header.profile (lines_in trees) in
    let all : AllAt (HasLine settings) 2 deltas = deltas_have settings 2 [] (lines_in trees) (trees_have_forms sotw_lines input trees (λ tree. refl) read) in
    let script = trees_said trees.header (view trees.head) deltas read.1.header all written.read_back written.fits.limits in
    let bytes : text.bytes.items ≡ text_of_trees (written_of trees) = written.text_is.bytes in (
      subst (λ bs. HasNoFault plain_lines (input_of_text bs)) (sym bytes) script.0,
      ap (script_of false) bytes ∙ script.1,
    )
