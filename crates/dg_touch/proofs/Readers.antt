-- The outputs that read: those of a node that have an argument of some sort.
use Rattle.std.proofs.Common.{◌≡◌, ◌≢◌, Bool, true, Option, Some, filter, Contains, sym, ap, ◌∙◌, subst, true≢false}
use Rattle.std.specs.List.{list_any}
use Rattle.dg_base.specs.declared.ids.NodeId.{NodeId}
use Rattle.dg_base.specs.declared.ids.Label.{Label}
use Rattle.dg_base.specs.declared.ids.Kind.{Kind}
use Rattle.dg_base.specs.declared.ids.Endpoint.{Endpoint}
use Rattle.dg_base.specs.declared.schema.Role.{Role}
use Rattle.dg_base.specs.declared.schema.Role.TheVariants as role
use Rattle.dg_base.specs.declared.schema.ArgSpec.{ArgSpec}
use Rattle.dg_base.specs.declared.schema.ArgSpec.TheVariants as arg
use Rattle.dg_base.specs.Role.{is_output}
use Rattle.dg_base.specs.Tables.{Tables, AreTables}
use Rattle.dg_base.specs.Graph.{Graph}
use Rattle.dg_base.specs.Chain.{kind_of}
use Rattle.dg_base.specs.Touched.{outputs, args_of, is_input_arg, outputs_reading}
use Rattle.dg_laws.proofs.Members.{Contains-map, Contains-filter, list_any_from}
use Rattle.dg_touch.specs.Reads.{ReadsInput}

abbrev pub end : NodeId → Label → Endpoint
end n l = record { node = n; label = l }

module _ {t : Tables} (laws : AreTables t) where
  is_something : (r : Role) → is_output r ≡ true → r ≢ role.Nothing
  is_something r h none = true≢false (sym h ∙ ap is_output none)

  pub outputs-has : (k : Kind) (l : Label) → is_output (t.role k l) ≡ true → Contains (outputs t (Some k)) l
  outputs-has k l out = Contains-filter (λ z. is_output (t.role k z)) (t.labels k) l (laws.others k l (is_something (t.role k l) out)) out

  pub outputs_reading-has : (g : Graph) (reads : ArgSpec → Bool) (n : NodeId) (k : Kind) (l : Label) (a : ArgSpec) →
      kind_of g n ≡ Some k → is_output (t.role k l) ≡ true → Contains (t.args k l) a → reads a ≡ true → Contains (outputs_reading t g reads n) (end n l)
  outputs_reading-has g reads n k l a is out c r =
      Contains-map (end n) (filter (λ z. list_any reads (args_of t (kind_of g n) z)) (outputs t (kind_of g n))) l (
      subst (λ (o : Option Kind). Contains (filter (λ z. list_any reads (args_of t o z)) (outputs t o)) l) (sym is) (
      Contains-filter (λ z. list_any reads (t.args k z)) (outputs t (Some k)) l (outputs-has k l out) (list_any_from reads (t.args k l) a c r)))

  -- an endpoint whose rule reads an input is among the outputs that read such inputs
  pub readers-has : {g : Graph} {e : Endpoint} {i : Label} → ReadsInput t g e i → (holds : Label → Bool) → holds i ≡ true →
      Contains (outputs_reading t g (is_input_arg holds) e.node) e
  readers-has {g} {e} {i} r holds h = outputs_reading-has g (is_input_arg holds) e.node r.kind e.label (arg.Input i) r.is r.output r.arg h
