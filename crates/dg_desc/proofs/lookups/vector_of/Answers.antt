use Rattle.std.proofs.Common.{ap, ◌∙◌, ◌≡◌, ℤ, w64}
use Rattle.std.proofs.lemmas.Int.{to_z-of_z}
use Rattle.dg_base.specs.declared.datum.V3.{V3}
use Rattle.dg_desc.specs.declared.known.FieldName.TheVariants as name
use Rattle.dg_desc.specs.Lookups.{number_of}
use Rattle.dg_desc.proofs.lookups.vector_of.Goals as goal

abbrev vector : ℤ → ℤ → ℤ → V3
vector x y z = record { x = x; y = y; z = z }

three : (x y z a b c : ℤ) → x ≡ a → y ≡ b → z ≡ c → vector x y z ≡ vector a b c
three x y z a b c p q r = ap (λ v. vector v y z) p ∙ ap (λ v. vector a v z) q ∙ ap (λ v. vector a b v) r

pub returns : goal.returns
returns c =
    let fields = c.args.fields.now in
    let other = to_z-of_z w64 c.args.other c.ranges.other in
    three _ _ _ _ _ _
    (to_z-of_z w64 c.number_of.result (record { sfits = c.number_of.type_inv }) ∙ c.number_of.ensures ∙ ap (λ o. number_of o name.X fields) other)
    (to_z-of_z w64 c.number_of-2.result (record { sfits = c.number_of-2.type_inv }) ∙ c.number_of-2.ensures ∙ ap (λ o. number_of o name.Y fields) other)
    (to_z-of_z w64 c.number_of-3.result (record { sfits = c.number_of-3.type_inv }) ∙ c.number_of-3.ensures ∙ ap (λ o. number_of o name.Z fields) other)
