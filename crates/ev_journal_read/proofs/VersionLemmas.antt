-- The versions of a request as its object has them.
use Rattle.std.proofs.Common.{◌≡◌, ◌≢◌, ℕ, List, [], ◌∷◌, length, Bool, true, false, Some, option_map, option_and_then, Ordering, Less, Equal, Greater, codes, refl, sym, ap, ◌∙◌, true≢false, arith}
use Rattle.std.specs.Prelude.{⊤, All}
use Rattle.std.specs.Ordering.{match_ordering}
use Rattle.serde_json.specs.Data.{Data, null, boolean, number, string, array, object, Members, no_members, member, put}
use Rattle.serde_json.specs.Find.{as_str}
use Rattle.ev_types.specs.Texts.{IsName}
use Rattle.ev_wire.specs.Requests.{version_members, with_versions}
use Rattle.ev_wire.proofs.RequestLemmas.{versions_given}
use Rattle.ev_journal.specs.Rows.{text_members, chosen_versions}
use Rattle.ev_journal_read.specs.Trees.{pair_of, pairs_of}
use Rattle.ev_journal_read.proofs.EachLemmas.{All-first, All-rest, All-none, All-more}
use Rattle.ev_journal_read.proofs.Canonical.{AreSorted}
use Rattle.ev_journal_read.proofs.ReadBack.{joined, AreBelow, joined-nil, joined-one, put_last, AreBelow-next}
use Rattle.ev_journal_read.proofs.RowTrees.{AreGood-none, AreGood-version_members}
use Rattle.ev_journal_read.proofs.PartLemmas.{name_of-string}

abbrev IsText : Data → Type 0
IsText null = ⊥
IsText (boolean b) = ⊥
IsText (number n) = ⊥
IsText (string s) = ⊤
IsText (array ds) = ⊥
IsText (object ms) = ⊥

-- each member is a text at a name
abbrev pub HaveTexts : Members → Type 0
HaveTexts no_members = ⊤
HaveTexts (member k d ms) = IsName k × IsText d × HaveTexts ms

abbrev pub HasName : List ℕ × List ℕ → Type 0
HasName version = IsName version.0

-- each version has a name
abbrev pub AreNamed : List (List ℕ × List ℕ) → Type 0
AreNamed versions = All (λ (version : List ℕ × List ℕ). IsName version.0) versions

HaveTexts-put_at : (o : Ordering) (k l s : List ℕ) (e : Data) (ms : Members) → IsName k → HaveTexts (member l e ms) → HaveTexts (put k (string s) ms)
    → HaveTexts (match_ordering o (member k (string s) (member l e ms)) (member l (string s) ms) (member l e (put k (string s) ms)))
HaveTexts-put_at Less k l s e ms named h later = (named, tt, h)
HaveTexts-put_at Equal k l s e ms named h later = (h.0, tt, h.2)
HaveTexts-put_at Greater k l s e ms named h later = (h.0, h.1, later)

HaveTexts-put : (k s : List ℕ) (ms : Members) → IsName k → HaveTexts ms → HaveTexts (put k (string s) ms)
HaveTexts-put k s no_members named h = (named, tt, tt)
HaveTexts-put k s (member l e ms) named h = HaveTexts-put_at _ k l s e ms named h (HaveTexts-put k s ms named h.2)

HaveTexts-version_members : (versions : List (List ℕ × List ℕ)) (ms : Members) → AreNamed versions → HaveTexts ms → HaveTexts (version_members versions ms)
HaveTexts-version_members [] ms named h = h
HaveTexts-version_members (v ∷ vs) ms named h =
    HaveTexts-version_members vs (put v.0 (string v.1) ms) (All-rest HasName v vs named) (HaveTexts-put v.0 v.1 ms (All-first HasName v vs named) h)

pair_read : (k s : List ℕ) → IsName k → pair_of k (string s) ≡ Some (k, s)
pair_read k s named = ap (option_and_then (λ (name : List ℕ). option_map (λ (text : List ℕ). (name, text)) (as_str (string s)))) (name_of-string k named)

-- such members read as their names and texts
pairs_read : (ms : Members) → HaveTexts ms → pairs_of ms ≡ Some (text_members ms)
pairs_read no_members h = refl
pairs_read (member k null ms) h = absurd h.1
pairs_read (member k (boolean b) ms) h = absurd h.1
pairs_read (member k (number n) ms) h = absurd h.1
pairs_read (member k (string s) ms) h =
    ap (option_and_then (λ (one : List ℕ × List ℕ). option_map (λ rest. one ∷ rest) (pairs_of ms))) (pair_read k s h.0)
    ∙ ap (option_map (λ rest. (k, s) ∷ rest)) (pairs_read ms h.2)
pairs_read (member k (array ds) ms) h = absurd h.1
pairs_read (member k (object inner) ms) h = absurd h.1

pub pairs_of-versions : (versions : List (List ℕ × List ℕ)) → AreNamed versions → pairs_of (version_members versions no_members) ≡ Some (chosen_versions versions)
pairs_of-versions versions named = pairs_read (version_members versions no_members) (HaveTexts-version_members versions no_members named tt)

-- sorted members are the object of their names and texts
members_again : (ms found : Members) → HaveTexts ms → AreSorted ms → AreBelow found ms → version_members (text_members ms) found ≡ joined found ms
members_again no_members found h sorted below = sym (joined-nil found)
members_again (member k null ms) found h sorted below = absurd h.1
members_again (member k (boolean b) ms) found h sorted below = absurd h.1
members_again (member k (number n) ms) found h sorted below = absurd h.1
members_again (member k (string s) ms) found h sorted below =
    ap (version_members (text_members ms)) (put_last found k (string s) (string s) ms below)
    ∙ members_again ms (joined found (member k (string s) no_members)) h.2 sorted.1 (AreBelow-next found k (string s) ms below sorted.0)
    ∙ joined-one found k (string s) ms
members_again (member k (array ds) ms) found h sorted below = absurd h.1
members_again (member k (object inner) ms) found h sorted below = absurd h.1

-- the versions that are chosen have the same object
pub version_members-chosen : (versions : List (List ℕ × List ℕ)) → AreNamed versions → version_members (chosen_versions versions) no_members ≡ version_members versions no_members
version_members-chosen versions named =
    members_again (version_members versions no_members) no_members (HaveTexts-version_members versions no_members named tt)
    (AreGood-version_members versions no_members AreGood-none).sorted tt

pub chosen_versions-twice : (versions : List (List ℕ × List ℕ)) → AreNamed versions → chosen_versions (chosen_versions versions) ≡ chosen_versions versions
chosen_versions-twice versions named = ap text_members (version_members-chosen versions named)

AreNamed-text_members : (ms : Members) → HaveTexts ms → AreNamed (text_members ms)
AreNamed-text_members no_members h = All-none HasName
AreNamed-text_members (member k null ms) h = absurd h.1
AreNamed-text_members (member k (boolean b) ms) h = absurd h.1
AreNamed-text_members (member k (number n) ms) h = absurd h.1
AreNamed-text_members (member k (string s) ms) h = All-more HasName (k, s) (text_members ms) h.0 (AreNamed-text_members ms h.2)
AreNamed-text_members (member k (array ds) ms) h = absurd h.1
AreNamed-text_members (member k (object inner) ms) h = absurd h.1

pub AreNamed-chosen : (versions : List (List ℕ × List ℕ)) → AreNamed versions → AreNamed (chosen_versions versions)
AreNamed-chosen versions named = AreNamed-text_members (version_members versions no_members) (HaveTexts-version_members versions no_members named tt)

-- ---- versions that are given stay given

abbrev has_member : Members → Bool
has_member no_members = false
has_member (member k d ms) = true

has_member-put_at : (o : Ordering) (k l : List ℕ) (d e : Data) (ms : Members)
    → has_member (match_ordering o (member k d (member l e ms)) (member l d ms) (member l e (put k d ms))) ≡ true
has_member-put_at Less k l d e ms = refl
has_member-put_at Equal k l d e ms = refl
has_member-put_at Greater k l d e ms = refl

has_member-put : (k : List ℕ) (d : Data) (ms : Members) → has_member (put k d ms) ≡ true
has_member-put k d no_members = refl
has_member-put k d (member l e ms) = has_member-put_at _ k l d e ms

has_member-versions : (versions : List (List ℕ × List ℕ)) (ms : Members) → has_member ms ≡ true → has_member (version_members versions ms) ≡ true
has_member-versions [] ms h = h
has_member-versions (v ∷ vs) ms h = has_member-versions vs (put v.0 (string v.1) ms) (has_member-put v.0 (string v.1) ms)

none_left : (versions : List (List ℕ × List ℕ)) → length versions ≡ 0 → has_member (version_members versions no_members) ≡ false
none_left [] h = refl
none_left (v ∷ vs) h = absurd (omega arith)

pub with_versions-chosen : (versions : List (List ℕ × List ℕ)) (ms : Members) → AreNamed versions → with_versions (chosen_versions versions) ms ≡ with_versions versions ms
with_versions-chosen [] ms named = refl
with_versions-chosen (v ∷ vs) ms named =
    let same = version_members-chosen (v ∷ vs) named in
    let given = has_member-versions vs (put v.0 (string v.1) no_members) (has_member-put v.0 (string v.1) no_members) in
    let some : length (chosen_versions (v ∷ vs)) ≢ 0 =
    λ e. true≢false (sym given ∙ sym (ap has_member same) ∙ none_left (chosen_versions (v ∷ vs)) e) in
    sym (versions_given (chosen_versions (v ∷ vs)) ms some)
    ∙ ap (λ held. put (codes "initialResourceVersions") (object held) ms) same
