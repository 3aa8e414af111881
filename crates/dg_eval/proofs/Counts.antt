-- How many productions were counted so far, and how many there will be.
use Rattle.std.proofs.Common.{◌≡◌, ℕ, ◌+◌, ◌≤◌, List, [], ◌∷◌, ◌++◌, Option, None, map, take, drop, length, refl, sym, ap, ◌∙◌, subst, arith}
use Rattle.std.proofs.Math.Seq.{take-append_seam, drop-append_seam}
use Rattle.std.proofs.lemmas.List.{map-append}
use Rattle.std.proofs.lemmas.List.Sums.{sum_by-append}
use Rattle.std.specs.List.{slice_get}
use Rattle.dg_base.specs.declared.ids.Endpoint.{Endpoint}
use Rattle.dg_base.specs.Tables.{Tables, AreTables}
use Rattle.dg_base.specs.Graph.{Graph}
use Rattle.dg_base.specs.Sound.{IsSound}
use Rattle.dg_base.specs.Rule.{dependencies}
use Rattle.dg_base.specs.Value.{answer_by, productions_by, enough_fuel, value_at}
use Rattle.dg_base.specs.Evaluation.{Evaluated, evaluated, productions_at, productions}
use Rattle.dg_walks.proofs.Growing.{Begins, begins-same, evaluated-begins, unwound-begins}
use Rattle.dg_cache.specs.declared.entry.Entry.{Entry}
use Rattle.dg_cache.specs.Entries.{ends_of}
use Rattle.dg_eval.specs.declared.frame.Frame.{Frame}
use Rattle.dg_eval.specs.Results.{so_far, newly_listed}
use Rattle.dg_eval.proofs.Frames.{open_of, IsFrame, frame_productions}
use Rattle.dg_eval.proofs.Rounds.{Going, finished, last}

-- the first of what there is now are those from before
pub begins-kept : {X : Type 0} (xs ys : List X) → Begins xs ys → take (length xs) ys ≡ xs
begins-kept {X} xs ys b = ap (take (length xs)) b.1 ∙ take-append_seam xs b.0

module _ (t : Tables) (g : Graph) where
  productions-begins : (xs ys : List Endpoint) → Begins xs ys → productions t g ys ≡ productions t g xs + productions t g (drop (length xs) ys)
  productions-begins xs ys b =
      ap (productions t g) b.1
      ∙ sum_by-append (productions_at t g) xs b.0
      ∙ ap (λ (z : List Endpoint). productions t g xs + productions t g z) (sym (ap (drop (length xs)) b.1 ∙ drop-append_seam xs b.0))

  -- the count after some rounds, where `before` and `now` are what was listed
  abbrev pub IsCounted : ℕ → ℕ → List Endpoint → List Endpoint → Type 0
  IsCounted old new before now = new + productions t g before ≡ old + productions t g now

  module _ (known : List Endpoint) (w : Evaluated) (e : Endpoint) where
    -- the count that is due
    abbrev pub due : ℕ
    due = productions t g (newly_listed t g known w e)

    begins : Begins w.listed (evaluated t g known w e).listed
    begins = evaluated-begins (dependencies t g) known (enough_fuel t g) [] w e

    -- when all is listed
    pub counted-all : (old new : ℕ) (v : Evaluated) → v ≡ evaluated t g known w e → IsCounted old new w.listed v.listed → new ≡ old + due
    counted-all old new v is h =
        let all : productions t g v.listed ≡ productions t g w.listed + due = ap (λ (z : Evaluated). productions t g z.listed) is ∙ productions-begins w.listed (evaluated t g known w e).listed begins in
        omega (arith, all, h)

    -- while something is open
    pub counted-most : (old new : ℕ) (es : List Endpoint) → Begins es (evaluated t g known w e).listed → IsCounted old new w.listed es → new ≤ old + due
    counted-most old new es b h =
        let all = productions-begins w.listed (evaluated t g known w e).listed begins in
        let more = productions-begins es (evaluated t g known w e).listed b in
        omega (arith, all, more, h)

    -- before anything is listed
    pub counted-none : (old new : ℕ) → new ≡ old → new ≤ old + due
    counted-none old new is = omega (arith, is)

  -- what was listed is among the first of all that will be
  pub listed_so_far : {known : List Entry} {all : Evaluated} {stack : List Frame} {results : List Entry} {hits : List Endpoint} →
      Going t g known all stack results hits → Begins (ends_of results) all.listed
  listed_so_far {known} {all} {stack} {results} {hits} going =
      subst (λ (w : Evaluated). Begins (ends_of results) w.listed) going.left
      (unwound-begins (dependencies t g) (ends_of known) (map open_of stack) (enough_fuel t g) [] (so_far results hits))

  -- one more is finished
  pub counted-push : {f : Frame} → IsFrame t g f → (before : List Endpoint) (results results' : List Entry) (a : _) (old now new : ℕ) →
      results' ≡ results ++ record { at = f.at; value = a } ∷ [] → new ≡ now + productions_by t (value_at t g) f.rule →
      IsCounted old now before (ends_of results) → IsCounted old new before (ends_of results')
  counted-push {f} i before results results' a old now new is raised h =
      let made = frame_productions i in
      let ends : ends_of results' ≡ ends_of results ++ f.at ∷ [] = ap ends_of is ∙ map-append (λ z. z.at) results (record { at = f.at; value = a } ∷ []) in
      let sum : productions t g (ends_of results') ≡ productions t g (ends_of results) + productions t g (f.at ∷ []) = ap (productions t g) ends ∙ sum_by-append (productions_at t g) (ends_of results) (f.at ∷ []) in
      omega (arith, made, sum, raised, h)

  -- in a round that would finish one more
  pub counted_round : IsSound t g → AreTables t → {known : List Entry} (w : Evaluated) (e : Endpoint) (fs : List Frame) (f : Frame) {results : List Entry} {hits : List Endpoint} →
      Going t g known (evaluated t g (ends_of known) w e) (fs ++ f ∷ []) results hits → slice_get f.needs (length f.answers) ≡ None → (old now new : ℕ) →
      IsCounted old now w.listed (ends_of results) → new ≤ now + productions_by t (value_at t g) f.rule → new ≤ old + due (ends_of known) w e
  counted_round sound laws {known} w e fs f {results} {hits} going none old now new h most =
      let a = answer_by t f.at (value_at t g) f.rule in
      let all = now + productions_by t (value_at t g) f.rule in
      let next = finished sound laws fs f going none a refl in
      let sum = counted-push (last sound laws fs f going) w.listed results (results ++ record { at = f.at; value = a } ∷ []) a old now all refl refl h in
      let le = counted-most (ends_of known) w e old all (ends_of (results ++ record { at = f.at; value = a } ∷ [])) (listed_so_far next) sum in
      omega (arith, most, le)
