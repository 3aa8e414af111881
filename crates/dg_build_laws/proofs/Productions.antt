-- Each production of the schema keeps what its arguments keep.
use Rattle.std.proofs.Common.{◌≡◌, ℕ, Bool, true, false, cond, List, [], ◌∷◌, Option, Some, None, map, refl, ap, ◌∙◌}
use Rattle.std.specs.Prelude.{codes}
use Rattle.std.specs.Option.{IfSome, option_map}
use Rattle.dg_base.specs.declared.ids.Kind.{Kind}
use Rattle.dg_base.specs.declared.ids.Label.{Label}
use Rattle.dg_base.specs.declared.datum.Datum.{Datum}
use Rattle.dg_base.specs.declared.datum.Datum.TheVariants as datum
use Rattle.dg_base.specs.declared.datum.PropVal.{PropVal}
use Rattle.dg_base.specs.declared.answer.FaultCode.TheVariants as code
use Rattle.dg_base.specs.declared.schema.ArgVal.{ArgVal}
use Rattle.dg_base.specs.declared.schema.Made.TheVariants as made
use Rattle.dg_base.specs.First.{is_in_range, sum_of_args}
use Rattle.dg_base.specs.Value.{made_good}
use Rattle.dg_labels.specs.declared.kinds.TheConstants as kinds
use Rattle.dg_labels.specs.declared.labels.TheConstants as labels
use Rattle.dg_geom.specs.declared.transform.Transform.{Transform}
use Rattle.dg_kinds_go.specs.Values.{value_at, values_at, props_at, or_nil, text_in, items_in, field_in}
use Rattle.dg_kinds_go.specs.Sum.{sum_total}
use Rattle.dg_kinds_go.specs.Join.{join_joined}
use Rattle.dg_kinds_go.specs.Files.{file_resource, script_resource}
use Rattle.dg_kinds_go.specs.Components.{replaced, declared_in, ref_or_fault, ref_with, ref_component, is_type_name, embedded_value, embedded_component}
use Rattle.dg_kinds_go.specs.Objects.{has_equals, id_in, object_value, go_object, is_go_path, go_build}
use Rattle.dg_kinds_go.specs.Go.{is_output_of, go_components_made, go_objects_made, go_made}
use Rattle.dg_kinds_coll.specs.Places.{place_at, place_in}
use Rattle.dg_kinds_coll.specs.Entries.{children_in, is_child, behind, entry_of, moved_place, ahead, moved_entry, moved_entries}
use Rattle.dg_kinds_coll.specs.Instances.{go_instance_with, go_instance, prefix_of, sub_or_fault, coll_instance_with, coll_instance}
use Rattle.dg_kinds_coll.specs.Collections.{is_named, instance_entry, instance_entries, sub_entries, flat_ids, flat_value, coll_flat, is_collection_path, coll_value, coll_build}
use Rattle.dg_kinds_coll.specs.Defold.{defold_made}
use Rattle.dg_build_laws.proofs.Lists.{at_test, Each, Each-append, Each-map, Each-mapped, Each-weaker, Each-flat_map}
use Rattle.dg_build_laws.proofs.Kept.{Kept, record_kept, list_kept, plain_kept, items_kept, field_kept, or_nil_kept}
use Rattle.dg_build_laws.proofs.Arguments.{OfMade, KeptArg, value_at_kept, values_at_kept}

-- values of open properties, texts, and what was there or nothing
props_kept : (ps : List PropVal) → Kept (datum.List (map datum.Prop ps))
props_kept ps = list_kept (map datum.Prop ps) (Each-mapped Kept datum.Prop (λ p. plain_kept (datum.Prop p) refl) ps)

texts_kept : (prefix : List ℕ) (ts : List (List ℕ)) → Kept (datum.List (map (behind prefix) ts))
texts_kept prefix ts = list_kept (map (behind prefix) ts) (Each-mapped Kept (behind prefix) (λ t. plain_kept (behind prefix t) refl) ts)

or_nils_kept : (os : List (Option Datum)) → Each (λ o. IfSome o Kept) os → Kept (datum.List (map or_nil os))
or_nils_kept os h =
    list_kept (map or_nil os) (Each-map Kept or_nil os (Each-weaker (λ o. IfSome o Kept) (λ o. Kept (or_nil o)) or_nil_kept os h))

-- ---- entries

-- an entry has the object of what it is made from
entry_kept : (prefix : List ℕ) (child : Bool) (place : Transform) (from : Option Datum) → IfSome from Kept → Kept (entry_of prefix child place from)
entry_kept prefix child place from h =
    record_kept _ refl (
      plain_kept (behind prefix (id_in from)) refl,
      (
        plain_kept (datum.Flag child) refl,
        (
          texts_kept prefix (children_in from),
          (
            plain_kept (datum.Vec3 place.position) refl,
            (
              plain_kept (datum.Quat place.rotation) refl,
              (
                plain_kept (datum.Vec3 place.scale) refl,
                (or_nil_kept (field_in from labels.OBJECT) (field_kept from labels.OBJECT h), tt),
              ),
            ),
          ),
        ),
      ),
    )

moved_kept : (prefix : List ℕ) (outer : Transform) (from : Datum) → Kept from → IfSome (moved_entry prefix outer (Some from)) Kept
moved_kept prefix outer from h = by_place (moved_place outer (Some from))
  where
    by_place : (o : Option Transform) → IfSome (option_map (λ place. entry_of prefix (is_child (Some from)) place (Some from)) o) Kept
    by_place None = tt
    by_place (Some place) = entry_kept prefix (is_child (Some from)) place (Some from) h

ahead_kept : (d : Option Datum) (ds : Option (List Datum)) → IfSome d Kept → IfSome ds (Each Kept) → IfSome (ahead d ds) (Each Kept)
ahead_kept (Some d) (Some ds) h k = (h, k)
ahead_kept _ _ h k = tt

all_moved_kept : (prefix : List ℕ) (outer : Transform) (ds : List Datum) → Each Kept ds → IfSome (moved_entries prefix outer ds) (Each Kept)
all_moved_kept prefix outer [] h = tt
all_moved_kept prefix outer (d ∷ ds) h =
    ahead_kept (moved_entry prefix outer (Some d)) (moved_entries prefix outer ds) (moved_kept prefix outer d h.0) (all_moved_kept prefix outer ds h.1)

module _ (args : List ArgVal) (h : Each KeptArg args) where
  given : (n : ℕ) → Kept (or_nil (value_at args n))
  given n = or_nil_kept (value_at args n) (value_at_kept args h n)

  -- ---- numbers, texts and resources

  sum_kept : OfMade Kept (sum_total args)
  sum_kept =
      at_test (OfMade Kept) (is_in_range (sum_of_args args)) (made_good (datum.Dec (sum_of_args args))) (made.Fault code.Range)
      (plain_kept (datum.Dec (sum_of_args args)) refl) tt

  join_kept : OfMade Kept (join_joined args)
  join_kept = plain_kept _ refl

  file_kept : OfMade Kept (file_resource args)
  file_kept = record_kept _ refl (given 0, (props_kept [], tt))

  script_kept : OfMade Kept (script_resource args)
  script_kept = record_kept _ refl (given 0, (props_kept (props_at args 1), tt))

  -- ---- components

  ref_kept : OfMade Kept (ref_component args)
  ref_kept = of_resource (value_at args 3) (value_at_kept args h 3)
    where
      of_replaced : (resource : Datum) → Kept resource → (ps : Option (List PropVal)) → OfMade Kept (ref_or_fault args resource ps)
      of_replaced resource r None = tt
      of_replaced resource r (Some ps) =
          let path = or_nil_kept (field_in (Some resource) labels.PATH) (field_kept (Some resource) labels.PATH r) in
          record_kept _ refl (given 0, (path, (given 1, (given 2, (props_kept ps, tt)))))

      of_resource : (o : Option Datum) → IfSome o Kept → OfMade Kept (ref_with args o)
      of_resource None r = tt
      of_resource (Some resource) r = of_replaced resource r (replaced (props_at args 4) (declared_in (Some resource)))

  -- the only records that have data
  embedded_kept : OfMade Kept (embedded_component args)
  embedded_kept = by_test (is_type_name (text_in (value_at args 1))) refl
    where
      text_or_nil : (o : Option Datum) → text_in (Some (or_nil o)) ≡ text_in o
      text_or_nil None = refl
      text_or_nil (Some d) = refl

      by_test : (b : Bool) → is_type_name (text_in (value_at args 1)) ≡ b → OfMade Kept (cond b (made_good (embedded_value args)) (made.Fault code.BadName))
      by_test true e =
          record_kept _ (ap is_type_name (text_or_nil (value_at args 1)) ∙ e) (given 0, (given 1, (given 2, (given 3, (given 4, tt)))))
      by_test false e = tt

  -- ---- game objects

  object_kept : OfMade Kept (go_object args)
  object_kept =
      at_test (OfMade Kept) (has_equals (map id_in (values_at args 1))) (made.Fault code.DuplicateId) (made_good (object_value args)) tt
      (record_kept _ refl (given 0, (or_nils_kept (values_at args 1) (values_at_kept args h 1), tt)))

  go_build_kept : OfMade Kept (go_build args)
  go_build_kept =
      at_test (OfMade Kept) (is_go_path (text_in (field_in (value_at args 0) labels.PATH))) (made_good (or_nil (value_at args 0))) (made.Fault code.BadName)
      (given 0) tt

  -- ---- instances

  instance_kept : OfMade Kept (go_instance args)
  instance_kept = of_object (value_at args 4) (value_at_kept args h 4)
    where
      of_object : (o : Option Datum) → IfSome o Kept → OfMade Kept (go_instance_with args o)
      of_object None r = tt
      of_object (Some object) r =
          record_kept _ refl (given 0, (given 1, (given 2, (given 3, (or_nils_kept (values_at args 5) (values_at_kept args h 5), (r, tt))))))

  sub_kept : OfMade Kept (coll_instance args)
  sub_kept = of_flat (value_at args 4) (value_at_kept args h 4)
    where
      of_moved : (o : Option (List Datum)) → IfSome o (Each Kept) → OfMade Kept (sub_or_fault args o)
      of_moved None r = tt
      of_moved (Some entries) r = record_kept _ refl (given 0, (list_kept entries r, tt))

      of_flat : (o : Option Datum) → IfSome o Kept → OfMade Kept (coll_instance_with args o)
      of_flat None r = tt
      of_flat (Some flat) r =
          let prefix = prefix_of (text_in (value_at args 0)) in
          let entries = items_in (Some flat) in
          of_moved (moved_entries prefix (place_at args) entries) (all_moved_kept prefix (place_at args) entries (items_kept (Some flat) r))

  -- ---- collections

  entries_kept : (os : List (Option Datum)) (named : List ℕ → Bool) → Each (λ o. IfSome o Kept) os → Each Kept (map (instance_entry named) os)
  entries_kept os named r =
      Each-map Kept (instance_entry named) os
      (Each-weaker (λ o. IfSome o Kept) (λ o. Kept (instance_entry named o)) (λ o k. entry_kept (codes "/") (named (id_in o)) (place_in o) o k) os r)

  subs_kept : (os : List (Option Datum)) → Each (λ o. IfSome o Kept) os → Each Kept (sub_entries os)
  subs_kept os r =
      Each-flat_map Kept (λ s. items_in (field_in s labels.ENTRIES)) os
      (Each-weaker (λ o. IfSome o Kept) (λ o. Each Kept (items_in (field_in o labels.ENTRIES)))
      (λ o k. items_kept (field_in o labels.ENTRIES) (field_kept o labels.ENTRIES k)) os r)

  flat_kept : OfMade Kept (coll_flat args)
  flat_kept =
      let instances = values_at args 0 in
      let subs = values_at args 1 in
      at_test (OfMade Kept) (has_equals (flat_ids args)) (made.Fault code.DuplicateId) (made_good (flat_value args)) tt
      (list_kept _ (Each-append Kept (instance_entries instances) (sub_entries subs)
      (entries_kept instances (is_named instances) (values_at_kept args h 0)) (subs_kept subs (values_at_kept args h 1))))

  coll_build_kept : OfMade Kept (coll_build args)
  coll_build_kept =
      at_test (OfMade Kept) (is_collection_path (text_in (value_at args 0))) (made_good (coll_value args)) (made.Fault code.BadName)
      (record_kept _ refl (given 0, (given 1, (given 2, (given 3, tt))))) tt

  -- ---- all of them

  components_kept : (k : Kind) (l : Label) → OfMade Kept (go_components_made k l args)
  components_kept k l =
      at_test (OfMade Kept) (is_output_of k l kinds.COMPONENT_REF labels.COMPONENT) _ _ ref_kept
      (at_test (OfMade Kept) (is_output_of k l kinds.COMPONENT_EMBEDDED labels.COMPONENT) _ _ embedded_kept
      (plain_kept datum.Nil refl))

  objects_kept : (k : Kind) (l : Label) → OfMade Kept (go_objects_made k l args)
  objects_kept k l =
      at_test (OfMade Kept) (is_output_of k l kinds.GAME_OBJECT labels.OBJECT) _ _ object_kept
      (at_test (OfMade Kept) (is_output_of k l kinds.GAME_OBJECT labels.BUILD) _ _ go_build_kept
      (components_kept k l))

  go_kept : (k : Kind) (l : Label) → OfMade Kept (go_made k l args)
  go_kept k l =
      at_test (OfMade Kept) (is_output_of k l kinds.SUM labels.TOTAL) _ _ sum_kept
      (at_test (OfMade Kept) (is_output_of k l kinds.JOIN labels.JOINED) _ _ join_kept
      (at_test (OfMade Kept) (is_output_of k l kinds.RESOURCE_FILE labels.RESOURCE) _ _ file_kept
      (at_test (OfMade Kept) (is_output_of k l kinds.SCRIPT_FILE labels.RESOURCE) _ _ script_kept
      (objects_kept k l))))

  pub made_kept : (k : Kind) (l : Label) → OfMade Kept (defold_made k l args)
  made_kept k l =
      at_test (OfMade Kept) (is_output_of k l kinds.GO_INSTANCE labels.INSTANCE) _ _ instance_kept
      (at_test (OfMade Kept) (is_output_of k l kinds.COLL_INSTANCE labels.INSTANCE) _ _ sub_kept
      (at_test (OfMade Kept) (is_output_of k l kinds.COLLECTION labels.FLAT) _ _ flat_kept
      (at_test (OfMade Kept) (is_output_of k l kinds.COLLECTION labels.BUILD) _ _ coll_build_kept
      (go_kept k l))))
