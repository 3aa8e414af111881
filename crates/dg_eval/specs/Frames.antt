-- The endpoints that are open, the lowest first, and what one round makes of the last one.
use Rattle.std.specs.Prelude.{◌≡◌, List, [], ◌∷◌, ◌++◌, Option, Some, None, Bool, cond, map}
use Rattle.dg_base.specs.declared.ids.Endpoint.{Endpoint}
use Rattle.dg_base.specs.declared.answer.Answer.{Answer}
use Rattle.dg_base.specs.declared.answer.Answer.TheVariants as answer
use Rattle.dg_base.specs.Order.{is_end_among}
use Rattle.dg_base.specs.Tables.{Tables}
use Rattle.dg_base.specs.Graph.{Graph}
use Rattle.dg_base.specs.Rule.{rule_of, dependencies}
use Rattle.dg_cache.specs.declared.entry.Entry.{Entry}
use Rattle.dg_eval.specs.declared.frame.Frame.{Frame}
use Rattle.dg_cache.specs.Entries.{value_in}

abbrev pub ends_open : List Frame → List Endpoint
ends_open fs = map (λ f. f.at) fs

-- an endpoint that is just opened
abbrev pub opened : Tables → Graph → Endpoint → Frame
opened t g e = record { at = e; rule = rule_of t g e; needs = dependencies t g e; answers = [] }

abbrev pub with_answer : Frame → Answer → Frame
with_answer f a = record { at = f.at; rule = f.rule; needs = f.needs; answers = f.answers ++ a ∷ [] }

abbrev pub or_else : Option Answer → Option Answer → Option Answer
or_else (Some a) other = Some a
or_else None other = other

-- the answer of an endpoint that was met or is known; one that is open is a cycle
abbrev pub answer_met : Bool → List Entry → List Entry → Endpoint → Option Answer
answer_met is_open results known e = cond is_open (Some answer.Cycle) (or_else (value_in results e) (value_in known e))

-- the frames in place of the last one, after a look at the next endpoint that it names
abbrev pub frames_after : Tables → Graph → Frame → Endpoint → Option Answer → List Frame
frames_after t g f d (Some a) = with_answer f a ∷ []
frames_after t g f d None = f ∷ opened t g d ∷ []

-- the open endpoints after a look at the next endpoint that the last one names
abbrev pub ends_after : List Endpoint → Endpoint → Option Answer → List Endpoint
ends_after way d (Some a) = way
ends_after way d None = cond (is_end_among way d) way (way ++ d ∷ [])

abbrev pub hits_by : Option Answer → Option Answer → List Endpoint → Endpoint → List Endpoint
hits_by (Some a) k hits e = hits
hits_by None None hits e = hits
hits_by None (Some a) hits e = cond (is_end_among hits e) hits (hits ++ e ∷ [])

-- the hits after a look at an endpoint
abbrev pub hits_after : Bool → List Entry → List Entry → List Endpoint → Endpoint → List Endpoint
hits_after is_open results known hits e = cond is_open hits (hits_by (value_in results e) (value_in known e) hits e)
