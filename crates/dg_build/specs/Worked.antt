-- Small values of which the checker computes the build files.
use Rattle.std.specs.Prelude.{ℕ, List, [], ◌∷◌, Bool, true, map, codes, ℤ, pos}
use Rattle.dg_base.specs.declared.datum.Datum.{Datum}
use Rattle.dg_base.specs.declared.datum.Datum.TheVariants as datum
use Rattle.dg_base.specs.declared.datum.PType.TheVariants as ptype
use Rattle.dg_base.specs.declared.datum.PropVal.{PropVal}
use Rattle.dg_labels.specs.declared.labels.TheConstants.{ID, PATH, TYPE, DATA, POSITION, PROPS, COMPONENTS, OBJECT, ENTRIES, CHILDREN, NAME, SCALE_ALONG_Z}
use Rattle.dg_kinds_go.specs.Values.{field}
use Rattle.dg_kinds_coll.specs.Places.{equal3}
use Rattle.dg_build.specs.Contents.{Content}

abbrev pub text : List ℕ → Datum
text t = datum.Text t

-- an embedded component, and one of a resource; where a place isn't said nothing is moved, turned or scaled
abbrev pub embedded : List ℕ → List ℕ → List ℕ → Datum
embedded id kind body = datum.Rec (field ID (text id) ∷ field TYPE (text kind) ∷ field DATA (text body) ∷ [])

abbrev pub of_resource : List ℕ → List ℕ → List PropVal → Datum
of_resource id path props =
    datum.Rec (field ID (text id) ∷ field PATH (text path) ∷ field PROPS (datum.List (map datum.Prop props)) ∷ [])

abbrev pub game_object : List ℕ → List Datum → Datum
game_object path components = datum.Rec (field PATH (text path) ∷ field COMPONENTS (datum.List components) ∷ [])

abbrev pub entry : List ℕ → ℤ → List (List ℕ) → Datum → Datum
entry id n children object = datum.Rec (
    field ID (text id)
    ∷ field POSITION (datum.Vec3 (equal3 n))
    ∷ field CHILDREN (datum.List (map text children))
    ∷ field OBJECT object
    ∷ []
    )

abbrev pub collection : List ℕ → List ℕ → Bool → List Datum → Datum
collection path name along_z entries = datum.Rec (
    field PATH (text path)
    ∷ field NAME (text name)
    ∷ field SCALE_ALONG_Z (datum.Flag along_z)
    ∷ field ENTRIES (datum.List entries)
    ∷ []
    )

-- one open name, whose label is 1,024
abbrev pub one_name : List (List ℕ)
one_name = codes "speed" ∷ []

abbrev pub speed : PropVal
speed = record { name = record { 0 = 1024 }; ptype = ptype.Number; text = codes "1" }

abbrev pub content : List ℕ → List ℕ → Content
content kind body = record { kind = kind; body = body }

abbrev pub one_content : Datum
one_content = game_object (codes "/a.go") (embedded (codes "b") (codes "t") (codes "x") ∷ [])

-- two equal contents and one of another type
abbrev pub three_contents : Datum
three_contents =
    game_object (codes "/a.go")
    (embedded (codes "b") (codes "t") (codes "x") ∷ embedded (codes "c") (codes "u") (codes "x") ∷ embedded (codes "d") (codes "t") (codes "x") ∷ [])

-- a component of a resource, which has a property
abbrev pub with_property : Datum
with_property = game_object (codes "/a.go") (of_resource (codes "s") (codes "/s.script") (speed ∷ []) ∷ [])

-- two objects of equal texts, of which one is the other's child
abbrev pub parent_and_child : Datum
parent_and_child =
    collection (codes "/a.collection") (codes "a") true
    (entry (codes "/b") (pos 1000000000) (codes "/c" ∷ []) (game_object [] []) ∷ entry (codes "/c") (pos 0) [] (game_object [] []) ∷ [])
