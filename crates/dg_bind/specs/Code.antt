-- Bindings and names as plain data, and the names and nodes in a map as the list of their bindings.
use Rattle.std.specs.Prelude.{ℕ, List, map, refl, string_bytes}
use Rattle.std.specs.declared.string.String.{String}
use Rattle.std.specs.Coded.{Coded, code_by, coded×, coded_list, coded_ℕ}
use Rattle.dg_base.specs.contracts.ids.NodeId as node_type
use Rattle.dg_base.specs.declared.ids.NodeId.{NodeId}
use Rattle.dg_bind.specs.Bindings.{Binding}
use Rattle.dg_bind.specs.Scope.{Scope}

-- a binding is coded by its name and its node
abbrev pub binding_code : Coded Binding
binding_code = code_by (List ℕ × NodeId) (coded× (coded_list coded_ℕ) node_type.the_row.coded)
    (λ b. (b.name, b.node)) (λ p. record { name = p.0; node = p.1 }) (λ _. refl)

-- the names before a step, by their two lists
abbrev pub scope_code : Coded Scope
scope_code = code_by (List Binding × List (List ℕ)) (coded× (coded_list binding_code) (coded_list (coded_list coded_ℕ)))
    (λ s. (s.bound, s.new)) (λ p. record { bound = p.0; new = p.1 }) (λ _. refl)

-- what a map from names to nodes holds
abbrev pub binding : {A : Type 0} → String A × NodeId → Binding
binding b = record { name = string_bytes b.0; node = b.1 }

abbrev pub bindings_in : {A : Type 0} → List (String A × NodeId) → List Binding
bindings_in bs = map binding bs
