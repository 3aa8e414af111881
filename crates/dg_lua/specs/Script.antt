-- What a script declares.
use Rattle.std.specs.Prelude.{ℕ, Bool, ◌==◌, List, [], ◌∷◌, ◌++◌, cond, Option, Some, None, is_some, codes}
use Rattle.std.specs.Option.{option_map}
use Rattle.std.specs.List.{slice_split}
use Rattle.dg_base.specs.Names.{place_of}
use Rattle.dg_lua.specs.declared.declaration.Declaration.{Declaration}
use Rattle.dg_lua.specs.Parts.{behind_blanks, behind, and_then, Taken, taken, string_in, behind_bracket}
use Rattle.dg_lua.specs.Values.{Valued, value_in}

-- ---- a line

-- the id of a declaration, and what stands behind the comma and its blanks
abbrev pub id_in : List ℕ → Option Taken
id_in line =
    and_then (behind (codes "go.property(") (behind_blanks line)) (λ rest.
    and_then (string_in (behind_blanks rest)) (λ id.
    option_map (λ more. taken id.text (behind_blanks more)) (behind (codes ",") (behind_blanks id.behind))))

-- a declaration, where the bracket that closes stands behind its value
abbrev pub declared_by : List ℕ → Valued → Option Declaration
declared_by id value =
    option_map (λ rest. record { id = id; ptype = value.ptype; text = value.text }) (behind_bracket value.behind)

-- what a line declares: `go.property(`, an id, a comma, a value and `)`; what stands behind is free
abbrev pub declaration_in : List ℕ → Option Declaration
declaration_in line = and_then (id_in line) (λ id. and_then (value_in id.behind) (declared_by id.text))

-- ---- a script

abbrev pub is_line_feed : ℕ → Bool
is_line_feed b = b == 10

abbrev pub in_front : Option Declaration → List Declaration → List Declaration
in_front None more = more
in_front (Some one) more = one ∷ more

-- all that lines declare, in order
abbrev pub declared_in : List (List ℕ) → List Declaration
declared_in [] = []
declared_in (line ∷ lines) = in_front (declaration_in line) (declared_in lines)

abbrev pub is_among : List (List ℕ) → List ℕ → Bool
is_among ids id = is_some (place_of ids id)

-- the declarations whose id is none of these, and no earlier one's
abbrev pub first_ones : List (List ℕ) → List Declaration → List Declaration
first_ones ids [] = []
first_ones ids (one ∷ more) =
    cond (is_among ids one.id) (first_ones ids more) (one ∷ first_ones (ids ++ one.id ∷ []) more)

-- what a script declares: of equal ids the first
abbrev pub declarations : List ℕ → List Declaration
declarations text = first_ones [] (declared_in (slice_split is_line_feed text))
