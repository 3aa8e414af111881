-- What a loop with a stack does at each node of a walk.
use Rattle.std.proofs.Common.{◌≡◌, ◌∙◌, ◌+◌, ◌<◌, ℕ, Bool, true, false, not, cond, ◌||◌, List, [], ◌∷◌, ◌++◌, fold, length, reverse, IsTrue, refl, sym, ap, inl, inr, arith, length-append, true≢false}
use Rattle.std.proofs.Math.Bool.{or_comm}
use Rattle.std.proofs.lemmas.Bool.{or_cases, or_left}
use Rattle.std.proofs.lemmas.List.{reverse-append, length-reverse}
use Rattle.dg_base.specs.declared.ids.NodeId.{NodeId}
use Rattle.dg_base.specs.Same.{same_node}
use Rattle.dg_base.specs.Order.{is_node_among}
use Rattle.dg_base.specs.Tables.{Tables}
use Rattle.dg_base.specs.Graph.{Graph}
use Rattle.dg_base.specs.Sound.{IsSound, IsLinked}
use Rattle.dg_base.specs.Walk.{walk_within}
use Rattle.dg_base.specs.Owned.{enough_levels}
use Rattle.dg_laws.proofs.Among.{among-append, among-push, among-last}
use Rattle.dg_laws.proofs.Ids.{same_node-is, nodes_tell}
use Rattle.dg_laws.proofs.Walks.{IsClosed, IsIn, walks-pop, work, work-push}
use Rattle.dg_laws.proofs.Nodes.{IsLinked-from_sound}
use Rattle.dg_laws.proofs.GraphWalks.{ids_from, ids_from-itself, unmet-ids_from, IsClosed-owned, IsClosed-taken_with}
use Rattle.dg_over.specs.declared.walk.Follow.{Follow}
use Rattle.dg_over.specs.declared.walk.Follow.TheVariants as follow
use Rattle.dg_over.specs.Follow.{followed}

pub IsClosed-followed : {g : Graph} → IsLinked g → (t : Tables) (f : Follow) (n : NodeId) → IsClosed same_node (followed t g f) (ids_from g n)
IsClosed-followed l t follow.Owned n = IsClosed-owned l t n
IsClosed-followed l t follow.Taken n = IsClosed-taken_with l t n

among-reverse : (ns : List NodeId) (m : NodeId) → is_node_among (reverse ns) m ≡ is_node_among ns m
among-reverse [] m = refl
among-reverse (n ∷ ns) m =
    ap (λ (z : List NodeId). is_node_among z m) (reverse-append (n ∷ []) ns)
    ∙ among-push nodes_tell (reverse ns) n m
    ∙ ap (λ b. b || same_node m n) (among-reverse ns m)
    ∙ or_comm (is_node_among ns m) (same_node m n)

-- ---- at the start

pub there_first : (g : Graph) (n : NodeId) (stack : List NodeId) → stack ≡ n ∷ [] → IsIn same_node stack (ids_from g n)
there_first g n stack is m h =
    elim (or_cases (same_node m n) false (sym (ap (λ (z : List NodeId). is_node_among z m) is) ∙ h)) [
      | inl same ↦ ap (is_node_among (ids_from g n)) (same_node-is m n same) ∙ ids_from-itself g n
      | inr none ↦ absurd (true≢false (sym none))
    ]

pub so_far_first : (follow : NodeId → List NodeId) (k : ℕ) (n : NodeId) (met stack : List NodeId) → met ≡ [] → stack ≡ n ∷ [] →
    fold (walk_within same_node k follow) met (reverse stack) ≡ walk_within same_node k follow [] n
so_far_first follow k n met stack none one =
    ap (λ (z : List NodeId). fold (walk_within same_node k follow) z (reverse stack)) none ∙ ap (λ (z : List NodeId). fold (walk_within same_node k follow) [] (reverse z)) one

-- ---- a node that wasn't met: what follows it goes on the stack, the first one last

pub new_one : (b a : Bool) → a ≡ true → a ≡ not b → b ≡ false
new_one true a h is = absurd (true≢false (sym h ∙ is))
new_one false a h is = refl

-- the lists before such a round of a walk and after it
pub record Round (t : Tables) (g : Graph) (f : Follow) (from n : NodeId) (met stack rest met' stack' : List NodeId) : Type 0 where
  pub sound : IsSound t g
  pub there : IsIn same_node stack (ids_from g from)
  pub popped : stack ≡ rest ++ n ∷ []
  pub new : is_node_among met n ≡ false
  pub noted : met' ≡ met ++ n ∷ []
  pub pushed : stack' ≡ rest ++ reverse (followed t g f n)

module _ {t : Tables} {g : Graph} {f : Follow} {from n : NodeId} {met stack rest met' stack' : List NodeId} (r : Round t g f from n met stack rest met' stack') where
  closed : IsClosed same_node (followed t g f) (ids_from g from)
  closed = IsClosed-followed (IsLinked-from_sound r.sound) t f from

  it_is_there : IsTrue (is_node_among (ids_from g from) n)
  it_is_there = r.there n (ap (λ (z : List NodeId). is_node_among z n) r.popped ∙ among-last nodes_tell rest n)

  pub there_next : IsIn same_node stack' (ids_from g from)
  there_next m h =
      elim (or_cases (is_node_among rest m) (is_node_among (reverse (followed t g f n)) m)
      (sym (among-append nodes_tell rest (reverse (followed t g f n)) m) ∙ sym (ap (λ (z : List NodeId). is_node_among z m) r.pushed) ∙ h)) [
        | inl old ↦ r.there m (ap (λ (z : List NodeId). is_node_among z m) r.popped ∙ among-append nodes_tell rest (n ∷ []) m ∙ or_left _ _ old)
        | inr new ↦ closed.stays n m it_is_there (sym (among-reverse (followed t g f n) m) ∙ new)
      ]

  pub so_far_next : (all : List NodeId) → fold (walk_within same_node (enough_levels g) (followed t g f)) met (reverse stack) ≡ all →
      fold (walk_within same_node (enough_levels g) (followed t g f)) met' (reverse stack') ≡ all
  so_far_next all h =
      let k = enough_levels g in
      let go = followed t g f in
      let pop = walks-pop nodes_tell go (ids_from g from) closed k met rest n (unmet-ids_from g from met) it_is_there in
      ap (λ (z : List NodeId). fold (walk_within same_node k go) z (reverse stack')) r.noted
      ∙ ap (λ (z : List NodeId). fold (walk_within same_node k go) (met ++ n ∷ []) (reverse z)) r.pushed
      ∙ sym (ap (λ b. cond b (fold (walk_within same_node k go) met (reverse rest)) (fold (walk_within same_node k go) (met ++ n ∷ []) (reverse (rest ++ reverse (go n))))) r.new)
      ∙ sym pop
      ∙ sym (ap (λ (z : List NodeId). fold (walk_within same_node k go) met (reverse z)) r.popped)
      ∙ h

  pub work_next : work same_node (followed t g f) met' (ids_from g from) + length stack' < work same_node (followed t g f) met (ids_from g from) + length stack
  work_next =
      let go = followed t g f in
      let less = work-push nodes_tell go met (ids_from g from) n it_is_there r.new in
      let before : length stack ≡ length rest + 1 = ap length r.popped ∙ length-append rest (n ∷ []) in
      let after : length stack' ≡ length rest + length (go n) = ap length r.pushed ∙ length-append rest (reverse (go n)) ∙ ap (λ k. length rest + k) (length-reverse (go n)) in
      let work_is : work same_node go met' (ids_from g from) ≡ work same_node go (met ++ n ∷ []) (ids_from g from) = ap (λ (z : List NodeId). work same_node go z (ids_from g from)) r.noted in
      omega (arith, less, before, after, work_is)
