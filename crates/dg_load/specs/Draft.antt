-- What a load has made so far, step by step.
use Rattle.std.specs.Prelude.{ℕ, ◌+◌, List, [], ◌∷◌, ◌++◌, true, Option, Some, None}
use Rattle.dg_base.specs.declared.ids.Label.{Label}
use Rattle.dg_base.specs.declared.ids.Kind.{Kind}
use Rattle.dg_base.specs.declared.datum.Datum.{Datum}
use Rattle.dg_base.specs.declared.datum.Datum.TheVariants as datum
use Rattle.dg_base.specs.declared.datum.V3.{V3}
use Rattle.dg_base.specs.declared.datum.V4.{V4}
use Rattle.dg_base.specs.declared.step.NodeRef.{NodeRef}
use Rattle.dg_base.specs.declared.step.NodeRef.TheVariants as ref
use Rattle.dg_base.specs.declared.step.Step.{Step}
use Rattle.dg_base.specs.declared.step.Step.TheVariants as step
use Rattle.dg_labels.specs.declared.labels.TheConstants as labels
use Rattle.dg_sources.specs.declared.bad.BadCode.{BadCode}
use Rattle.dg_sources.specs.declared.bad.Unread.{Unread}
use Rattle.dg_load.specs.declared.draft.Draft.{Draft}
use Rattle.dg_load.specs.declared.draft.Place.{Place}

-- nothing but these interned names
abbrev pub started : List (List ℕ) → Draft
started names = record { names = names; makes = 0; steps = []; bound = []; bad = [] }

-- the node of the k-th making step
abbrev pub new : ℕ → NodeRef
new k = ref.New k

-- ---- steps

abbrev pub stepped : Step → Draft → Draft
stepped s d = record d { steps = d.steps ++ s ∷ [] }

-- a step that makes a node, whose number is that of the making steps before
abbrev pub making : Step → Draft → Draft
making s d = record (stepped s d) { makes = d.makes + 1 }

abbrev pub made : Kind → Draft → Draft
made kind d = making (step.Make kind) d

abbrev pub overridden : ℕ → Draft → Draft
overridden root d = making (step.Override (new root)) d

abbrev pub set : ℕ → Label → Datum → Draft → Draft
set k label value d = stepped (step.Set (new k) label value) d

abbrev pub set_text : ℕ → Label → List ℕ → Draft → Draft
set_text k label words d = set k label (datum.Text words) d

abbrev pub connected : ℕ → Label → ℕ → Label → Draft → Draft
connected from output to input d = stepped (step.Connect (new from) output (new to) input) d

abbrev pub marked : ℕ → Draft → Draft
marked k d = stepped (step.Mark (new k) true) d

-- ---- what is set where a file says it

abbrev pub set_vector : ℕ → Label → Option V3 → Draft → Draft
set_vector k label None d = d
set_vector k label (Some v) d = set k label (datum.Vec3 v) d

abbrev pub set_rotation : ℕ → Option V4 → Draft → Draft
set_rotation k None d = d
set_rotation k (Some q) d = set k labels.ROTATION (datum.Quat q) d

abbrev pub placed : ℕ → Place → Draft → Draft
placed k p d = set_vector k labels.SCALE3 p.scale3 (set_rotation k p.rotation (set_vector k labels.POSITION p.position d))

-- ---- names and bad places

abbrev pub bound : List ℕ → ℕ → Draft → Draft
bound name k d = record d { bound = d.bound ++ record { name = name; node = k } ∷ [] }

abbrev pub noted : List ℕ → ℕ → BadCode → Draft → Draft
noted path line code d = record d { bad = d.bad ++ record { path = path; line = line; code = code } ∷ [] }

-- ---- files

-- the node of a file
abbrev pub file_made : Kind → List ℕ → Draft → Draft
file_made kind path d = set_text d.makes labels.PATH path (bound path d.makes (made kind d))

-- the node of a file that can't be read is defective
abbrev pub refused : ℕ → List ℕ → Unread → Draft → Draft
refused k path why d = noted path why.line why.code (marked k d)
