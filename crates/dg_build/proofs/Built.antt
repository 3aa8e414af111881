-- The values that the outputs `build` give say their paths.
use Rattle.std.proofs.Common.{◌≡◌, ◌∙◌, List, Bool, true, false, cond, Option, Some, None, refl, sym, ap, true≢false, subst}
use Rattle.dg_base.specs.declared.datum.Datum.{Datum, items_hidden-the_row-FieldOf-1}
use Rattle.dg_base.specs.declared.answer.FaultCode.{FaultCode}
use Rattle.dg_base.specs.declared.answer.FaultCode.TheVariants as code
use Rattle.dg_base.specs.declared.schema.ArgVal.{ArgVal}
use Rattle.dg_base.specs.declared.schema.Made.{Made}
use Rattle.dg_base.specs.declared.schema.Made.TheVariants as made
use Rattle.dg_base.specs.Value.{made_good}
use Rattle.dg_labels.specs.declared.labels.TheConstants.{PATH}
use Rattle.dg_kinds_go.specs.Values.{value_at, text_in, field_in, or_nil}
use Rattle.dg_kinds_go.specs.Objects.{is_go_path}
use Rattle.dg_kinds_coll.specs.Collections.{is_collection_path, coll_value}
use Rattle.dg_build.specs.Contents.{path_in}
use Rattle.dg_build.specs.Built.{GameObjectsSayTheirPaths, CollectionsSayTheirPaths}

abbrev is_good : Made → Bool
is_good (made.Good d) = true
is_good (made.Fault c) = false

abbrev good_or : Datum → Made → Datum
good_or e (made.Good d) = d
good_or e (made.Fault c) = e

-- what a production gives where its test passes
given : (b : Bool) (v built : Datum) (c : FaultCode) → cond b (made_good v) (made.Fault c) ≡ made_good built → (b ≡ true) × (v ≡ built)
given true v built c e = (refl, ap (good_or v) e)
given false v built c e = absurd (true≢false (sym (ap is_good e)))

of_object : (v : Option Datum) (built : Datum) → is_go_path (text_in (field_in v PATH)) ≡ true → or_nil v ≡ built → is_go_path (path_in built) ≡ true
of_object (Some d) built is e = subst (λ b. is_go_path (path_in b) ≡ true) e is
of_object None built is e = absurd (true≢false (sym is))

pub game_objects : GameObjectsSayTheirPaths
game_objects args built e =
    let v = value_at args 0 in
    let g = given (is_go_path (text_in (field_in v PATH))) (or_nil v) built code.BadName e in
    of_object v built g.0 g.1

text_or_nil : (v : Option Datum) → text_in (Some (or_nil v)) ≡ text_in v
text_or_nil None = refl
text_or_nil (Some d) = refl

path_of : (args : List ArgVal) → path_in (coll_value args) ≡ text_in (Some (or_nil (value_at args 0)))
path_of args = simp (items_hidden-the_row-FieldOf-1)

pub collections : CollectionsSayTheirPaths
collections args built e =
    let g = given (is_collection_path (text_in (value_at args 0))) (coll_value args) built code.BadName e in
    ap is_collection_path (ap path_in (sym g.1) ∙ path_of args ∙ text_or_nil (value_at args 0)) ∙ g.0
