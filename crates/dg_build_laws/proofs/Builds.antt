-- What an output `build` gives says the path of a game object or of a collection.
use Rattle.std.proofs.Common.{◌≡◌, ◌⊎◌, inl, inr, ℕ, Bool, true, false, cond, ◌&&◌, ◌||◌, ◌==◌, eqb, List, [], ◌∷◌, Option, Some, None, map, length, refl, sym, ap, subst, true≢false}
use Rattle.std.proofs.lemmas.Bool.{and_parts, or_cases, eqb-true}
use Rattle.std.specs.List.{list_all}
use Rattle.dg_base.specs.declared.ids.NodeId.{NodeId}
use Rattle.dg_base.specs.declared.ids.Kind.{Kind}
use Rattle.dg_base.specs.declared.ids.Endpoint.{Endpoint}
use Rattle.dg_base.specs.declared.datum.Datum.{Datum}
use Rattle.dg_base.specs.declared.datum.Datum.TheVariants as datum
use Rattle.dg_base.specs.declared.graph.Node.{Node}
use Rattle.dg_base.specs.declared.answer.Answer.{Answer}
use Rattle.dg_base.specs.declared.rule.Rule.TheVariants as rule
use Rattle.dg_base.specs.declared.schema.Role.{Role}
use Rattle.dg_base.specs.declared.schema.Role.TheVariants as role
use Rattle.dg_base.specs.declared.schema.ArgVal.{ArgVal}
use Rattle.dg_base.specs.declared.schema.Made.{Made}
use Rattle.dg_base.specs.declared.schema.Made.TheVariants as made
use Rattle.dg_base.specs.Graph.{Graph}
use Rattle.dg_base.specs.Chain.{chain, kind_along}
use Rattle.dg_base.specs.Rule.{arg_rule_of, is_defective, is_open_label, has_open, property_rule, rule_by, rule_along, endpoints}
use Rattle.dg_base.specs.Value.{made_good, arg_value, answer_by, value_within, value_at}
use Rattle.dg_labels.specs.declared.kinds.TheConstants.{GAME_OBJECT, COLLECTION}
use Rattle.dg_labels.specs.declared.labels.TheConstants.{BUILD}
use Rattle.dg_rows.specs.Rows.{PlainKind, entry_at, role_of, kind_at, rows_of}
use Rattle.dg_kinds_go.specs.Objects.{is_go_path, go_build}
use Rattle.dg_kinds_coll.specs.Collections.{is_collection_path, coll_build}
use Rattle.dg_kinds_coll.specs.Kinds.{defold_kinds}
use Rattle.dg_kinds_coll.specs.Defold.{defold_made, defold_tables}
use Rattle.dg_build.specs.Contents.{path_in}
use Rattle.dg_build.proofs.Built.{game_objects, collections}
use Rattle.dg_build_laws.specs.Laws.{build_of}
use Rattle.dg_build_laws.proofs.Lists.{at_test}
use Rattle.dg_build_laws.proofs.Arguments.{OfGood, OfMade}
use Rattle.dg_build_laws.proofs.Values.{Light, called_light}

abbrev pub IsBuiltPath : List ℕ → Type 0
IsBuiltPath path = (is_go_path path ≡ true) ⊎ (is_collection_path path ≡ true)

abbrev pub SaysPath : Datum → Type 0
SaysPath d = IsBuiltPath (path_in d)

made_says : (m : Made) → ((d : Datum) → m ≡ made_good d → SaysPath d) → OfMade SaysPath m
made_says (made.Good d) h = h d refl
made_says (made.Fault c) h = tt

-- ---- the two kinds that have the output

abbrev is_built : Kind → Bool
is_built k = (k.0 == COLLECTION.0) || (k.0 == GAME_OBJECT.0)

-- of a kind that isn't one of them the label is no output, and of none a property
abbrev fits_kind : Kind → Role → Bool
fits_kind k (role.Output ty cached) = is_built k
fits_kind k (role.Property ty) = false
fits_kind k _ = true

abbrev fits_row : PlainKind → Bool
fits_row x = fits_kind x.kind (role_of (entry_at x.rows BUILD))

same_kind : (a b : Kind) → eqb a.0 b.0 ≡ true → b ≡ a
same_kind a b is = ap (λ m. let kind : Kind = record { 0 = m } in kind) (sym (eqb-true a.0 b.0 is))

fits_at : (xs : List PlainKind) (k : Kind) → list_all fits_row xs ≡ true → fits_kind k (role_of (entry_at (rows_of (kind_at xs k)) BUILD)) ≡ true
fits_at [] k h = refl
fits_at (x ∷ xs) k h =
    let both = and_parts (fits_row x) (list_all fits_row xs) h in
    by_test (eqb k.0 x.kind.0) refl both.0 (fits_at xs k both.1)
  where
    by_test : (b : Bool) → eqb k.0 x.kind.0 ≡ b → fits_row x ≡ true → fits_kind k (role_of (entry_at (rows_of (kind_at xs k)) BUILD)) ≡ true →
        fits_kind k (role_of (entry_at (rows_of (cond b (Some x) (kind_at xs k))) BUILD)) ≡ true
    by_test true is here rest = subst (λ (z : Kind). fits_kind z (role_of (entry_at x.rows BUILD)) ≡ true) (same_kind k x.kind is) here
    by_test false is here rest = rest

fits_all : (k : Kind) → fits_kind k (defold_tables.role k BUILD) ≡ true
fits_all k = fits_at defold_kinds k refl

built_says : (k : Kind) (args : List ArgVal) → is_built k ≡ true → OfMade SaysPath (defold_made k BUILD args)
built_says k args h =
    elim (or_cases (k.0 == COLLECTION.0) (k.0 == GAME_OBJECT.0) h) [
      | inl is ↦ subst (λ (z : Kind). OfMade SaysPath (defold_made z BUILD args)) (same_kind k COLLECTION is) (made_says (coll_build args) (λ d e. inr (collections args d e)))
      | inr is ↦ subst (λ (z : Kind). OfMade SaysPath (defold_made z BUILD args)) (same_kind k GAME_OBJECT is) (made_says (go_build args) (λ d e. inl (game_objects args d e)))
    ]

-- ---- the value at the output

module _ (g : Graph) (n : NodeId) (value : Endpoint → Answer) where
  role_says : (k : Kind) (xs : List Node) (r : Role) → fits_kind k r ≡ true →
      OfGood (Light SaysPath) (answer_by defold_tables (build_of n) value (rule_by defold_tables g k xs (build_of n) r))
  role_says k xs (role.Output ty cached) fit =
      let args = map (arg_rule_of g n xs) (defold_tables.args k BUILD) in
      at_test (λ r. OfGood (Light SaysPath) (answer_by defold_tables (build_of n) value r)) (is_defective xs) rule.Defective (rule.Call k BUILD args) tt
      (called_light SaysPath defold_tables (build_of n) k BUILD value args (built_says k (map (arg_value defold_tables k value) args) fit))
  role_says k xs (role.Property ty) fit = absurd (true≢false (sym fit))
  role_says k xs (role.Input ty array cascade substitute) fit = tt
  role_says k xs role.Nothing fit = closed (defold_tables.is_open k)
    where
      -- the label isn't an open one
      closed : (b : Bool) → OfGood (Light SaysPath) (answer_by defold_tables (build_of n) value
          (cond (b && (is_open_label BUILD && has_open xs BUILD)) (property_rule xs BUILD datum.Nil) rule.Absent))
      closed true = tt
      closed false = tt

  along_says : (xs : List Node) (o : Option Kind) → OfGood (Light SaysPath) (answer_by defold_tables (build_of n) value (rule_along defold_tables g xs (build_of n) o))
  along_says xs None = tt
  along_says xs (Some k) = role_says k xs (defold_tables.role k BUILD) (fits_all k)

pub build_says : (g : Graph) (n : NodeId) → OfGood (Light SaysPath) (value_at defold_tables g (build_of n))
build_says g n = along_says g n (λ e. value_within (length (endpoints defold_tables g)) defold_tables g e) (chain g n) (kind_along (chain g n))
