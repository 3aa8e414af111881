-- Positions, scales and rotations: what is printed of them may stand there, and reads as them.
use Rattle.std.proofs.Common.{◌≡◌, ℕ, suc, ◌==◌, Bool, true, false, cond, ◌&&◌, List, [], ◌∷◌, ◌++◌, length, ℤ, pos, FitsSigned, w64, Option, Some, None, option_map, refl, ap, sym, ◌∙◌, append_assoc, append-nil, ne_eqb, arith}
use Rattle.std.specs.Ordering.{int_eq}
use Rattle.dg_base.specs.declared.datum.V3.{V3}
use Rattle.dg_base.specs.declared.datum.V4.{V4}
use Rattle.dg_decimal.specs.Canonical.{canonical}
use Rattle.dg_ptext.specs.declared.tree.Field.{Field}
use Rattle.dg_ptext.specs.declared.tree.Value.{Value}
use Rattle.dg_desc.specs.declared.known.Message.{Message}
use Rattle.dg_desc.specs.declared.known.Message.TheVariants as messages
use Rattle.dg_desc.specs.declared.known.FieldName.{FieldName}
use Rattle.dg_desc.specs.declared.known.FieldName.TheVariants as name
use Rattle.dg_desc.specs.declared.known.Form.TheVariants as form
use Rattle.dg_desc.specs.Known.{label_of, place_in}
use Rattle.dg_desc.specs.Faults.{fault_of}
use Rattle.dg_desc.specs.Lookups.{last_value, fields_in, number_or, one, vector_of, quaternion_of, position_of, rotation_of, scale_of, scale3_of}
use Rattle.dg_desc.specs.Trees.{bare, message, differing, unless_empty, vector_fields, vector_tree, quaternion_fields, rotation_tree, scale3_tree}
use Rattle.dg_desc.specs.Canonical.{is_even, differing_vector, is_unturned, differing_rotation}
use Rattle.dg_desc.proofs.Groups.{Group, whole, is_known, IsGroup, IsWhole, last_of, last-whole, fault-whole}
use Rattle.dg_desc.proofs.Numbers.{inside, message_group, number_fits, number_group, number_again, zero_fits, one_fits}

-- ---- positions and scales

pub record VectorFits (v : V3) : Type 0 where
  pub x : FitsSigned w64 v.x
  pub y : FitsSigned w64 v.y
  pub z : FitsSigned w64 v.z

abbrev pub GivenVectorFits : Option V3 → Type 0
GivenVectorFits None = Unit {0}
GivenVectorFits (Some v) = VectorFits v

vector_of_fits : (other : ℤ) → FitsSigned w64 other → (fields : List Field) → VectorFits (vector_of other fields)
vector_of_fits other h fields = record {
  x = number_fits other h (last_value name.X fields);
  y = number_fits other h (last_value name.Y fields);
  z = number_fits other h (last_value name.Z fields);
}

pub position_fits : (fields : List Field) → GivenVectorFits (position_of fields)
position_fits fields = by_value (last_value name.Position fields)
  where
    by_value : (o : Option Value) → GivenVectorFits (option_map (λ v. vector_of (pos 0) (fields_in v)) o)
    by_value None = tt
    by_value (Some v) = vector_of_fits (pos 0) zero_fits (fields_in v)

scale_fits : (three even : Option Value) → GivenVectorFits (scale_of three even)
scale_fits (Some v) even = vector_of_fits one one_fits (fields_in v)
scale_fits None None = tt
scale_fits None (Some v) =
    let h = number_fits one one_fits (Some v) in
    record { x = h; y = h; z = h }

pub scale3_fits : (fields : List Field) → GivenVectorFits (scale3_of fields)
scale3_fits fields = scale_fits (last_value name.Scale3 fields) (last_value name.Scale fields)

vector_groups : ℤ → V3 → List Group
vector_groups other v = (name.X, differing name.X other v.x) ∷ (name.Y, differing name.Y other v.y) ∷ (name.Z, differing name.Z other v.z) ∷ []

vector_whole : (other : ℤ) (v : V3) → VectorFits v → IsWhole messages.Vector (vector_groups other v) []
unfolding vector_groups
vector_whole other v h = record {
  groups = (
    number_group messages.Vector name.X other v.x refl refl h.x,
    (
      number_group messages.Vector name.Y other v.y refl refl h.y,
      (number_group messages.Vector name.Z other v.z refl refl h.z, tt),
    ),
  );
  unknown = tt;
  others_fit = refl;
}

vector_parts : (other : ℤ) (v : V3) → vector_fields other v ≡ whole (vector_groups other v) []
unfolding vector_groups
vector_parts other v =
    let x = differing name.X other v.x in
    let y = differing name.Y other v.y in
    let z = differing name.Z other v.z in
    append_assoc x y z ∙ ap (λ (rest : List Field). x ++ (y ++ rest)) (sym (append-nil z))

vector_fault : (other : ℤ) (v : V3) → VectorFits v → (line : ℕ) → fault_of messages.Vector line (vector_fields other v) ≡ None
unfolding vector_groups
vector_fault other v h line =
    ap (fault_of messages.Vector line) (vector_parts other v)
    ∙ fault-whole messages.Vector (vector_groups other v) [] (vector_whole other v h) refl line

vector_again : (other : ℤ) (v : V3) → VectorFits v → vector_of other (vector_fields other v) ≡ v
unfolding vector_groups
vector_again other v h =
    let w = vector_whole other v h in
    let gs = vector_groups other v in
    ap (vector_of other) (vector_parts other v)
    ∙ (λ i. record {
      x = (ap (number_or other) (last-whole messages.Vector name.X gs [] w refl) ∙ number_again name.X other v.x h.x) i;
      y = (ap (number_or other) (last-whole messages.Vector name.Y gs [] w refl) ∙ number_again name.Y other v.y h.y) i;
      z = (ap (number_or other) (last-whole messages.Vector name.Z gs [] w refl) ∙ number_again name.Z other v.z h.z) i;
    })

-- ---- what is printed as nothing

no_fields : (xs ys : List Field) → (length (xs ++ ys) == 0) ≡ ((length xs == 0) && (length ys == 0))
no_fields [] ys = refl
no_fields (x ∷ xs) ys = some (length (xs ++ ys)) ∙ ap (λ b. b && (length ys == 0)) (sym (some (length xs)))
  where
    some : (n : ℕ) → (suc n == 0) ≡ false
    some n = ne_eqb (suc n) 0 (λ e. omega (arith, e))

no_number : (n : FieldName) (other z : ℤ) → (length (differing n other z) == 0) ≡ int_eq z other
no_number n other z = by_test (int_eq z other)
  where
    by_test : (b : Bool) → (length (cond b [] (bare n (canonical z) ∷ [])) == 0) ≡ b
    by_test true = refl
    by_test false = refl

even_is : (other : ℤ) (v : V3) → (length (vector_fields other v) == 0) ≡ is_even other v
even_is other v =
    let x = differing name.X other v.x in
    let y = differing name.Y other v.y in
    let z = differing name.Z other v.z in
    no_fields (x ++ y) z
    ∙ (λ i. (no_fields x y ∙ (λ j. no_number name.X other v.x j && no_number name.Y other v.y j)) i && no_number name.Z other v.z i)

pub vector_group : (m : Message) (n : FieldName) (other : ℤ) (p : Option V3) → is_known m n ≡ true
    → (place_in m (label_of n)).form ≡ form.Inner messages.Vector → GivenVectorFits p → IsGroup m (n, vector_tree n other p)
vector_group m n other None known is h = record { known = known; named = tt; fits = refl }
vector_group m n other (Some v) known is h =
    let fields = vector_fields other v in
    message_group m messages.Vector n fields known is (vector_fault other v h 0) (length fields == 0)

pub given_again : (n : FieldName) (other : ℤ) (p : Option V3) → GivenVectorFits p
    → option_map (λ v. vector_of other (fields_in v)) (last_of (vector_tree n other p)) ≡ differing_vector other p
given_again n other None h = refl
given_again n other (Some v) h =
    let fields = vector_fields other v in
    ap (λ b. option_map (λ v. vector_of other (fields_in v)) (last_of (cond b [] (message n fields ∷ [])))) (even_is other v)
    ∙ by_test (is_even other v)
  where
    by_test : (b : Bool)
        → option_map (λ v. vector_of other (fields_in v)) (last_of (cond b [] (message n (vector_fields other v) ∷ []))) ≡ cond b None (Some v)
    by_test true = refl
    by_test false = ap (λ (fields : List Field). Some (vector_of other fields)) (inside (vector_fields other v)) ∙ ap Some (vector_again other v h)

pub given_printed : (n : FieldName) (other : ℤ) (p : Option V3) → vector_tree n other (differing_vector other p) ≡ vector_tree n other p
given_printed n other None = refl
given_printed n other (Some v) = by_test (is_even other v) (even_is other v)
  where
    by_test : (b : Bool) → (length (vector_fields other v) == 0) ≡ b
        → vector_tree n other (cond b None (Some v)) ≡ unless_empty n (vector_fields other v)
    by_test true e = ap (λ b. cond b [] (message n (vector_fields other v) ∷ [])) (sym e)
    by_test false e = refl

-- one scale isn't printed
pub scale_again : (p : Option V3) → GivenVectorFits p → scale_of (last_of (scale3_tree p)) None ≡ differing_vector one p
scale_again p h = by_value (last_of (scale3_tree p)) ∙ given_again name.Scale3 one p h
  where
    by_value : (o : Option Value) → scale_of o None ≡ option_map (λ v. vector_of one (fields_in v)) o
    by_value None = refl
    by_value (Some v) = refl

-- ---- rotations

pub record QuaternionFits (q : V4) : Type 0 where
  pub x : FitsSigned w64 q.x
  pub y : FitsSigned w64 q.y
  pub z : FitsSigned w64 q.z
  pub w : FitsSigned w64 q.w

abbrev pub GivenRotationFits : Option V4 → Type 0
GivenRotationFits None = Unit {0}
GivenRotationFits (Some q) = QuaternionFits q

pub rotation_fits : (fields : List Field) → GivenRotationFits (rotation_of fields)
rotation_fits fields = by_value (last_value name.Rotation fields)
  where
    by_value : (o : Option Value) → GivenRotationFits (option_map (λ v. quaternion_of (fields_in v)) o)
    by_value None = tt
    by_value (Some v) = record {
      x = number_fits (pos 0) zero_fits (last_value name.X (fields_in v));
      y = number_fits (pos 0) zero_fits (last_value name.Y (fields_in v));
      z = number_fits (pos 0) zero_fits (last_value name.Z (fields_in v));
      w = number_fits one one_fits (last_value name.W (fields_in v));
    }

quaternion_groups : V4 → List Group
quaternion_groups q =
    (name.X, differing name.X (pos 0) q.x) ∷ (name.Y, differing name.Y (pos 0) q.y) ∷ (name.Z, differing name.Z (pos 0) q.z)
    ∷ (name.W, differing name.W one q.w) ∷ []

quaternion_whole : (q : V4) → QuaternionFits q → IsWhole messages.Quaternion (quaternion_groups q) []
unfolding quaternion_groups
quaternion_whole q h = record {
  groups = (
    number_group messages.Quaternion name.X (pos 0) q.x refl refl h.x,
    (
      number_group messages.Quaternion name.Y (pos 0) q.y refl refl h.y,
      (
        number_group messages.Quaternion name.Z (pos 0) q.z refl refl h.z,
        (number_group messages.Quaternion name.W one q.w refl refl h.w, tt),
      ),
    ),
  );
  unknown = tt;
  others_fit = refl;
}

quaternion_parts : (q : V4) → quaternion_fields q ≡ whole (quaternion_groups q) []
unfolding quaternion_groups
quaternion_parts q =
    let x = differing name.X (pos 0) q.x in
    let y = differing name.Y (pos 0) q.y in
    let z = differing name.Z (pos 0) q.z in
    let w = differing name.W one q.w in
    append_assoc (x ++ y) z w ∙ (append_assoc x y (z ++ w) ∙ ap (λ (rest : List Field). x ++ (y ++ (z ++ rest))) (sym (append-nil w)))

quaternion_fault : (q : V4) → QuaternionFits q → (line : ℕ) → fault_of messages.Quaternion line (quaternion_fields q) ≡ None
unfolding quaternion_groups
quaternion_fault q h line =
    ap (fault_of messages.Quaternion line) (quaternion_parts q)
    ∙ fault-whole messages.Quaternion (quaternion_groups q) [] (quaternion_whole q h) refl line

quaternion_again : (q : V4) → QuaternionFits q → quaternion_of (quaternion_fields q) ≡ q
unfolding quaternion_groups
quaternion_again q h =
    let w = quaternion_whole q h in
    let gs = quaternion_groups q in
    ap quaternion_of (quaternion_parts q)
    ∙ (λ i. record {
      x = (ap (number_or (pos 0)) (last-whole messages.Quaternion name.X gs [] w refl) ∙ number_again name.X (pos 0) q.x h.x) i;
      y = (ap (number_or (pos 0)) (last-whole messages.Quaternion name.Y gs [] w refl) ∙ number_again name.Y (pos 0) q.y h.y) i;
      z = (ap (number_or (pos 0)) (last-whole messages.Quaternion name.Z gs [] w refl) ∙ number_again name.Z (pos 0) q.z h.z) i;
      w = (ap (number_or one) (last-whole messages.Quaternion name.W gs [] w refl) ∙ number_again name.W one q.w h.w) i;
    })

unturned_is : (q : V4) → (length (quaternion_fields q) == 0) ≡ is_unturned q
unturned_is q =
    let x = differing name.X (pos 0) q.x in
    let y = differing name.Y (pos 0) q.y in
    let z = differing name.Z (pos 0) q.z in
    let w = differing name.W one q.w in
    no_fields (x ++ y ++ z) w
    ∙ (λ i. (no_fields (x ++ y) z
    ∙ (λ j. (no_fields x y ∙ (λ k. no_number name.X (pos 0) q.x k && no_number name.Y (pos 0) q.y k)) j && no_number name.Z (pos 0) q.z j)) i
    && no_number name.W one q.w i)

pub rotation_group : (m : Message) (p : Option V4) → is_known m name.Rotation ≡ true
    → (place_in m (label_of name.Rotation)).form ≡ form.Inner messages.Quaternion → GivenRotationFits p → IsGroup m (name.Rotation, rotation_tree p)
rotation_group m None known is h = record { known = known; named = tt; fits = refl }
rotation_group m (Some q) known is h =
    let fields = quaternion_fields q in
    message_group m messages.Quaternion name.Rotation fields known is (quaternion_fault q h 0) (length fields == 0)

pub rotation_again : (p : Option V4) → GivenRotationFits p
    → option_map (λ v. quaternion_of (fields_in v)) (last_of (rotation_tree p)) ≡ differing_rotation p
rotation_again None h = refl
rotation_again (Some q) h =
    let fields = quaternion_fields q in
    ap (λ b. option_map (λ v. quaternion_of (fields_in v)) (last_of (cond b [] (message name.Rotation fields ∷ [])))) (unturned_is q)
    ∙ by_test (is_unturned q)
  where
    by_test : (b : Bool)
        → option_map (λ v. quaternion_of (fields_in v)) (last_of (cond b [] (message name.Rotation (quaternion_fields q) ∷ []))) ≡ cond b None (Some q)
    by_test true = refl
    by_test false = ap (λ (fields : List Field). Some (quaternion_of fields)) (inside (quaternion_fields q)) ∙ ap Some (quaternion_again q h)

pub rotation_printed : (p : Option V4) → rotation_tree (differing_rotation p) ≡ rotation_tree p
rotation_printed None = refl
rotation_printed (Some q) = by_test (is_unturned q) (unturned_is q)
  where
    by_test : (b : Bool) → (length (quaternion_fields q) == 0) ≡ b → rotation_tree (cond b None (Some q)) ≡ unless_empty name.Rotation (quaternion_fields q)
    by_test true e = ap (λ b. cond b [] (message name.Rotation (quaternion_fields q) ∷ [])) (sym e)
    by_test false e = refl
