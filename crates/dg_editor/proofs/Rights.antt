-- What holds of an editor holds of it one revision on, where the changes fit.
use Rattle.std.proofs.Common.{◌≡◌, ℕ, ◌+◌, ◌<◌, ◌≤◌, Bool, false, true, cond, Ok, Err, nat_eq, nat_lt, List, [], ◌∷◌, length, map, All, IsTrue, arith}
use Rattle.std.proofs.lemmas.Bool.Decides.{nat_tests}
use Rattle.std.proofs.lemmas.List.Elements.{All-cons, All-weaker}
use Rattle.dg_base.specs.declared.ids.Endpoint.{Endpoint}
use Rattle.dg_base.specs.declared.limits.TheConstants.{REVISIONS}
use Rattle.dg_base.specs.Tables.{Tables}
use Rattle.dg_base.specs.Graph.{Graph}
use Rattle.dg_base.specs.Sound.{IsSound, ids_below}
use Rattle.dg_history.specs.History.{History}
use Rattle.dg_laws.proofs.SoundParts.{below-member}
use Rattle.dg_laws.proofs.Members.{list_all_from}
use Rattle.dg_line.specs.Revisions.{Seen, followed}
use Rattle.dg_line.specs.Tickets.{Pin}
use Rattle.dg_editor.specs.Changes.{Changed}
use Rattle.dg_editor.specs.Machine.{State, advanced}
use Rattle.dg_editor.specs.Fits.{LeadTo, LeadFrom, IsBelow, IsRight}
use Rattle.dg_editor.specs.Seeing.{Editing, state_of}
use Rattle.dg_editor.specs.declared.cause.EditCause.TheVariants as edit

-- not full
pub no-limit : (n : ℕ) → n + 1 < REVISIONS → nat_eq (n + 1) REVISIONS ≡ false
no-limit n l = grind (arith, nat_tests)

pub limit : (n : ℕ) → n + 1 ≡ REVISIONS → nat_eq (n + 1) REVISIONS ≡ true
limit n e = grind (arith, nat_tests)

-- where there is room, what is given is what is accepted
pub room-gives : (b : Bool) (x y : State) → cond b (Err edit.LineFull) (Ok x) ≡ Ok y → x ≡ y
room-gives true x y e = let no : ⊥ = cc in absurd no
room-gives false x y e = cc

-- what contracts see of an editor is the next state
pub state-is : {N M : Type 0} (t : Tables) (old new : Editing N M) (g : Graph) (next : ℕ) (es : List Endpoint) (h : History Changed) →
    new.here.revision ≡ followed t old.here.revision g next es → new.passed ≡ old.here ∷ old.passed → new.history ≡ h →
    state_of new ≡ advanced t (state_of old) g next es h
state-is t old new g next es h now passed is = λ i. record { now = now i; passed = map (λ p. p.revision) (passed i); history = is i }

pub advanced-right : (t : Tables) (s : State) → IsRight t s → (g : Graph) (next : ℕ) (es : List Endpoint) (h : History Changed) → IsSound t g → 1 ≤ next → IsTrue (ids_below g next) →
    LeadTo g h.undo → LeadFrom g h.redo → All (IsBelow next) h.undo → All (IsBelow next) h.redo → IsRight t (advanced t s g next es h)
advanced-right t s r g next es h sound some below to from us rs = record {
  some = some;
  below = below;
  number = let n = r.number in omega (arith, n);
  sound = All-cons (λ (r : Seen). IsSound t r.graph) (followed t s.now g next es) (s.now ∷ s.passed) sound r.sound;
  to = to;
  from = from;
  undo_below = us;
  redo_below = rs;
}

-- ids that are below a number are below a greater one
lt_test : (a m n : ℕ) → a < n → n ≤ m → nat_lt a m ≡ true
lt_test a m n l k = grind (arith, nat_tests)

pub below-more : (g : Graph) (n m : ℕ) → n ≤ m → IsTrue (ids_below g n) → IsTrue (ids_below g m)
below-more g n m l h = list_all_from (λ x. nat_lt x.id.0 m) g.nodes (λ x c. lt_test x.id.0 m n (below-member g n h x c) l)

pub below-all : (cs : List Changed) (n m : ℕ) → n ≤ m → All (IsBelow n) cs → All (IsBelow m) cs
below-all cs n m l h = All-weaker (IsBelow n) (IsBelow m) (λ c b. (below-more c.before n m l b.0, below-more c.after n m l b.1)) cs h
