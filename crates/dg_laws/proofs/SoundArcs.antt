-- A sound graph with an arc more, or without some of its arcs, is sound.
use Rattle.std.proofs.Common.{◌≡◌, ℕ, ◌<◌, ◌≤◌, Bool, true, false, not, cond, ◌&&◌, ◌||◌, List, [], ◌∷◌, ◌++◌, Option, filter, length, Contains, IsTrue, nat_le, refl, sym, ap, ◌∙◌, subst, inl, inr, arith, append-nil, le-leb, leb-true, length-append}
use Rattle.std.proofs.lemmas.Bool.{and_parts, and_from, or_left, or_right, or_parts, or_from, not-true, not_from_false, cases_Bool}
use Rattle.std.proofs.lemmas.List.Elements.{Contains-push_cases, filter-append}
use Rattle.std.proofs.lemmas.List.Folds.{list_any-append}
use Rattle.std.specs.List.{list_any}
use Rattle.dg_base.specs.declared.ids.NodeId.{NodeId}
use Rattle.dg_base.specs.declared.ids.Label.{Label}
use Rattle.dg_base.specs.declared.ids.Kind.{Kind}
use Rattle.dg_base.specs.declared.ids.ArcRec.{ArcRec}
use Rattle.dg_base.specs.Same.{same_node, same_label, same_arc}
use Rattle.dg_base.specs.Role.{given, taken, is_array}
use Rattle.dg_base.specs.Tables.{Tables}
use Rattle.dg_base.specs.Graph.{Graph, has_node, arcs_into}
use Rattle.dg_base.specs.Chain.{kind_of}
use Rattle.dg_base.specs.Sound.{IsSound, max_arcs, role_by, role_at, agree, arcs_once, IsLinked}
use Rattle.dg_base.specs.Changes.{with_arc, without_arc, without_arcs_into}
use Rattle.dg_laws.proofs.Members.{Contains-from_filter}
use Rattle.dg_laws.proofs.Filters.{length_filter_le, any-filter, filter_shorter}
use Rattle.dg_laws.proofs.Among.{same-swap}
use Rattle.dg_laws.proofs.Ids.{same_node-is, nodes_tell, labels_tell, same_label-is}
use Rattle.dg_laws.proofs.Ends.{ends_tell}
use Rattle.dg_laws.proofs.Nodes.{IsLinked-from_sound, has_node-member}
use Rattle.dg_laws.proofs.SoundParts.{FitsArc, IsSound-node, IsSound-arc, IsSound-from, IsLinked-from, Keeps, kind_of-kept, FitsNode-moved}

-- ---- the same nodes

abbrev pub with_arcs : Graph → List ArcRec → Graph
with_arcs g as_ = record { nodes = g.nodes; arcs = as_ }

pub with_arcs-keeps : (g : Graph) (as_ : List ArcRec) → Keeps g (with_arcs g as_)
with_arcs-keeps g as_ = record { origins = λ n there. refl }

pub with_arcs-linked : {t : Tables} {g : Graph} → IsSound t g → (as_ : List ArcRec) → ((a : ArcRec) → Contains as_ a → IsTrue (has_node g a.src.node) × IsTrue (has_node g a.node)) →
    IsLinked (with_arcs g as_)
with_arcs-linked {t} {g} s as_ ends = IsLinked-from (with_arcs g as_) s.ids_rise (λ x c. (IsSound-node s x c).from) ends

-- kinds stay
pub with_arcs-kind : {t : Tables} {g : Graph} → IsSound t g → (as_ : List ArcRec) → ((a : ArcRec) → Contains as_ a → IsTrue (has_node g a.src.node) × IsTrue (has_node g a.node)) →
    (n : NodeId) → IsTrue (has_node g n) → kind_of (with_arcs g as_) n ≡ kind_of g n
with_arcs-kind {t} {g} s as_ ends n there = kind_of-kept (IsLinked-from_sound s) (with_arcs-linked s as_ ends) (with_arcs-keeps g as_) n there

-- what an arc has to be that a graph with the same nodes has
with_arcs-sound : {t : Tables} {g : Graph} → IsSound t g → (as_ : List ArcRec) → IsTrue (arcs_once as_) → length as_ ≤ max_arcs →
    ((a : ArcRec) → Contains as_ a → FitsArc t g a) →
    ((a : ArcRec) → Contains as_ a → IsTrue (is_array (role_at t g a.node a.input) || nat_le (length (arcs_into (with_arcs g as_) a.node a.input)) 1)) → IsSound t (with_arcs g as_)
with_arcs-sound {t} {g} s as_ once few fits few_into =
    IsSound-from t (with_arcs g as_) s.ids_rise
    (λ x c.
    let f = IsSound-node s x c in
    FitsNode-moved f f.from f.only (with_arcs-kind s as_ ends x.id (has_node-member (IsLinked-from_sound s) x c)))
    once
    (λ a c.
    let f = fits a c in
    arc_kept a f (few_into a c) (with_arcs-kind s as_ ends a.src.node f.src_there) (with_arcs-kind s as_ ends a.node f.there))
    few
  where
    ends : (a : ArcRec) → Contains as_ a → IsTrue (has_node g a.src.node) × IsTrue (has_node g a.node)
    ends a c = let f = fits a c in (f.src_there, f.there)

    arc_kept : (a : ArcRec) → FitsArc t g a → IsTrue (is_array (role_at t g a.node a.input) || nat_le (length (arcs_into (with_arcs g as_) a.node a.input)) 1) →
        kind_of (with_arcs g as_) a.src.node ≡ kind_of g a.src.node → kind_of (with_arcs g as_) a.node ≡ kind_of g a.node → FitsArc t (with_arcs g as_) a
    arc_kept a f one src_kind kind = record {
      src_there = f.src_there;
      there = f.there;
      types_agree =
          ap (λ (o : Option Kind). agree (given (role_by t o a.src.label)) (taken (role_at t (with_arcs g as_) a.node a.input))) src_kind
          ∙ ap (λ (o : Option Kind). agree (given (role_at t g a.src.node a.src.label)) (taken (role_by t o a.input))) kind
          ∙ f.types_agree;
      few = ap (λ (o : Option Kind). is_array (role_by t o a.input) || nat_le (length (arcs_into (with_arcs g as_) a.node a.input)) 1) kind ∙ one;
    }

-- ---- fewer arcs

pub arcs_once-filter : (p : ArcRec → Bool) (as_ : List ArcRec) → IsTrue (arcs_once as_) → IsTrue (arcs_once (filter p as_))
arcs_once-filter p [] h = refl
arcs_once-filter p (a ∷ as_) h =
    let both = and_parts (not (list_any (same_arc a) as_)) (arcs_once as_) h in
    by_test (p a) both.0 (arcs_once-filter p as_ both.1)
  where
    by_test : (b : Bool) → not (list_any (same_arc a) as_) ≡ true → IsTrue (arcs_once (filter p as_)) → IsTrue (arcs_once (cond b (a ∷ filter p as_) (filter p as_)))
    by_test true new rest = and_from _ _ (not_from_false _ (any-filter (same_arc a) p as_ (not-true _ new))) rest
    by_test false new rest = rest

-- an input has no more arcs where some are left out
pub arcs_into-fewer : (g : Graph) (p : ArcRec → Bool) (n : NodeId) (i : Label) → length (arcs_into (with_arcs g (filter p g.arcs)) n i) ≤ length (arcs_into g n i)
arcs_into-fewer g p n i = filter_shorter (λ a. same_node a.node n && same_label a.input i) p g.arcs

one_or_array : (array : Bool) (m k : ℕ) → m ≤ k → (array || nat_le k 1) ≡ true → (array || nat_le m 1) ≡ true
one_or_array true m k le h = refl
one_or_array false m k le h = let one : k ≤ 1 = leb-true k 1 h in le-leb m 1 (omega (arith, le, one))

-- the graph with those of its arcs that pass a test
pub fewer_arcs-sound : {t : Tables} {g : Graph} → IsSound t g → (p : ArcRec → Bool) → IsSound t (with_arcs g (filter p g.arcs))
fewer_arcs-sound {t} {g} s p =
    with_arcs-sound s (filter p g.arcs) (arcs_once-filter p g.arcs s.arcs_differ)
    (let le = length_filter_le p g.arcs in let few = s.arcs_few in omega (arith, le, few))
    (λ a c. IsSound-arc s a (Contains-from_filter p g.arcs a c).0)
    (λ a c.
    one_or_array (is_array (role_at t g a.node a.input)) _ _ (arcs_into-fewer g p a.node a.input) (IsSound-arc s a (Contains-from_filter p g.arcs a c).0).few)

pub without_arc-sound : {t : Tables} {g : Graph} → IsSound t g → (a : ArcRec) → IsSound t (without_arc g a)
without_arc-sound s a = fewer_arcs-sound s (λ b. not (same_arc a b))

pub without_arcs_into-sound : {t : Tables} {g : Graph} → IsSound t g → (n : NodeId) (i : Label) → IsSound t (without_arcs_into g n i)
without_arcs_into-sound s n i = fewer_arcs-sound s (λ a. not (same_node a.node n && same_label a.input i))

-- ---- one arc more

same_arc-swap : (a b : ArcRec) → same_arc a b ≡ same_arc b a
same_arc-swap a b =
    let ends = same-swap ends_tell a.src b.src in
    let nodes = same-swap nodes_tell a.node b.node in
    let labels = same-swap labels_tell a.input b.input in
    cc

arcs_once-push : (as_ : List ArcRec) (a : ArcRec) → IsTrue (arcs_once as_) → list_any (same_arc a) as_ ≡ false → IsTrue (arcs_once (as_ ++ a ∷ []))
arcs_once-push [] a h new = refl
arcs_once-push (b ∷ bs) a h new =
    let both = and_parts (not (list_any (same_arc b) bs)) (arcs_once bs) h in
    let apart = or_parts (same_arc a b) (list_any (same_arc a) bs) new in
    let here : list_any (same_arc b) (bs ++ a ∷ []) ≡ false =
    list_any-append (same_arc b) bs (a ∷ []) ∙ or_from _ _ (not-true _ both.0) (or_from _ _ (same_arc-swap b a ∙ apart.0) refl)
    in
    and_from _ _ (not_from_false _ here) (arcs_once-push bs a both.1 apart.1)

-- a new arc between nodes that are there, of one type, into an array or into an input that has none
pub with_arc-sound : {t : Tables} {g : Graph} → IsSound t g → (a : ArcRec) → IsTrue (has_node g a.src.node) → IsTrue (has_node g a.node) →
    IsTrue (agree (given (role_at t g a.src.node a.src.label)) (taken (role_at t g a.node a.input))) →
    list_any (same_arc a) g.arcs ≡ false → length g.arcs < max_arcs →
    (is_array (role_at t g a.node a.input) ≡ false → arcs_into g a.node a.input ≡ []) → IsSound t (with_arc g a)
with_arc-sound {t} {g} s a src_there there types new few single =
    with_arcs-sound s (g.arcs ++ a ∷ []) (arcs_once-push g.arcs a s.arcs_differ new)
    (let long = length-append g.arcs (a ∷ []) in omega (arith, long, few)) fits into
  where
    one_into : IsTrue (is_array (role_at t g a.node a.input) || nat_le (length (arcs_into g a.node a.input)) 1)
    one_into =
        elim (cases_Bool (is_array (role_at t g a.node a.input))) [
          | inl array ↦ or_left _ _ array
          | inr one ↦ or_right _ _ (ap (λ (z : List ArcRec). nat_le (length z) 1) (single one))
        ]

    fits : (b : ArcRec) → Contains (g.arcs ++ a ∷ []) b → FitsArc t g b
    fits b c =
        elim (Contains-push_cases g.arcs a b c) [
          | inl old ↦ IsSound-arc s b old
          | inr last ↦
              let own : FitsArc t g a = record { src_there = src_there; there = there; types_agree = types; few = one_into } in
              subst (FitsArc t g) last own
        ]

    -- the arcs into an input, where the new one is into that input or isn't
    into_test : (b : ArcRec) (c : Bool) → FitsArc t g b → (same_node a.node b.node && same_label a.input b.input) ≡ c →
        IsTrue (is_array (role_at t g b.node b.input) || nat_le (length (arcs_into g b.node b.input ++ cond c (a ∷ []) [])) 1)
    into_test b true f e =
        let both = and_parts (same_node a.node b.node) (same_label a.input b.input) e in
        let node : a.node ≡ b.node = same_node-is a.node b.node both.0 in
        let input : a.input ≡ b.input = same_label-is a.input b.input both.1 in
        elim (cases_Bool (is_array (role_at t g b.node b.input))) [
          | inl array ↦ or_left _ _ array
          | inr one ↦
              let single_here : is_array (role_at t g a.node a.input) ≡ false = ap (λ (n : NodeId). is_array (role_at t g n a.input)) node ∙ ap (λ (i : Label). is_array (role_at t g b.node i)) input ∙ one in
              let none : arcs_into g b.node b.input ≡ [] = ap (λ (n : NodeId). arcs_into g n b.input) (sym node) ∙ ap (arcs_into g a.node) (sym input) ∙ single single_here in
              or_right _ _ (ap (λ (z : List ArcRec). nat_le (length (z ++ a ∷ [])) 1) none)
        ]
    into_test b false f e = ap (λ (z : List ArcRec). is_array (role_at t g b.node b.input) || nat_le (length z) 1) (append-nil (arcs_into g b.node b.input)) ∙ f.few

    into : (b : ArcRec) → Contains (g.arcs ++ a ∷ []) b → IsTrue (is_array (role_at t g b.node b.input) || nat_le (length (arcs_into (with_arcs g (g.arcs ++ a ∷ [])) b.node b.input)) 1)
    into b c =
        ap (λ (z : List ArcRec). is_array (role_at t g b.node b.input) || nat_le (length z) 1) (filter-append (λ z. same_node z.node b.node && same_label z.input b.input) g.arcs (a ∷ []))
        ∙ into_test b _ (fits b c) refl
