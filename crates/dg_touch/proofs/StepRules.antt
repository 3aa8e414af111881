-- Each step touches every endpoint whose rule it changes.
use Rattle.std.proofs.Common.{Bool, true, false, cond, ◌&&◌, Option, Some, None, Ok, Err}
use Rattle.std.specs.Prelude.{IfOk}
use Rattle.dg_base.specs.declared.ids.NodeId.{NodeId}
use Rattle.dg_base.specs.declared.ids.Label.{Label}
use Rattle.dg_base.specs.declared.ids.ArcRec.{ArcRec}
use Rattle.dg_base.specs.declared.datum.Datum.{Datum}
use Rattle.dg_base.specs.declared.schema.Ty.{Ty}
use Rattle.dg_base.specs.declared.schema.Role.{Role}
use Rattle.dg_base.specs.declared.schema.Role.TheVariants as role
use Rattle.dg_base.specs.declared.step.Step.{Step}
use Rattle.dg_base.specs.declared.step.Step.TheVariants as step
use Rattle.dg_base.specs.declared.step.TxCode.TheVariants as code
use Rattle.dg_base.specs.Role.{taken, has_type, is_prop_named}
use Rattle.dg_base.specs.Tables.{Tables, AreTables}
use Rattle.dg_base.specs.Chain.{kind_of}
use Rattle.dg_base.specs.Rule.{is_open_label}
use Rattle.dg_base.specs.Sound.{role_at}
use Rattle.dg_base.specs.Changes.{with_value, without_value, without_arc, is_arc}
use Rattle.dg_base.specs.Progress.{Progress, changed_to, IsReady}
use Rattle.dg_base.specs.Steps.{make_step, override_step, set_by, is_open_kind, set_step, clear_by, clear_step, disconnect_arc, disconnect_step, delete_step, mark_step, node_named, step_of}
use Rattle.dg_base.specs.Touched.{touched_values, touched_readers, touched_doomed, touched_outputs, touched_by}
use Rattle.dg_laws.proofs.SoundSteps.{make_step-leads}
use Rattle.dg_laws.proofs.SoundOverrides.{override_step-leads}
use Rattle.dg_laws.proofs.SoundApplied.{node_named-is}
use Rattle.dg_touch.specs.Laws.{RulesAgreeOutside}
use Rattle.dg_touch.proofs.Results.{ok_both}
use Rattle.dg_touch.proofs.ArcChanges.{rules-without_arc}
use Rattle.dg_touch.proofs.ValueChanges.{rules-with_value, rules-without_value, rules-with_mark}
use Rattle.dg_touch.proofs.NodesGone.{rules-without_doomed}
use Rattle.dg_touch.proofs.StepsGrow.{make_step-grows, override_step-grows, rules-new}
use Rattle.dg_touch.proofs.ConnectRules.{connect_step-rules}

module _ {t : Tables} (laws : AreTables t) (p : Progress) where
  -- what was touched at a label of a node holds what changed
  abbrev ValuesAgree : NodeId → Label → Progress → Type 0
  ValuesAgree n l q = RulesAgreeOutside t p.graph q.graph (touched_values t p.graph (Some n) l)

  pub set_step-rules : (target : Option NodeId) (l : Label) (v : Datum) →
      IfOk (set_step t p target l v) (λ q. RulesAgreeOutside t p.graph q.graph (touched_values t p.graph target l))
  set_step-rules None l v = tt
  set_step-rules (Some n) l v = by_role (is_open_kind t (kind_of p.graph n)) (role_at t p.graph n l)
    where
      by_test : (b : Bool) → IfOk (cond b (Ok (changed_to p (with_value p.graph n l v))) (Err code.ValueType)) (ValuesAgree n l)
      by_test true = rules-with_value laws p.graph n l v
      by_test false = tt

      by_open : (b : Bool) → IfOk (cond b (cond (is_prop_named l v) (Ok (changed_to p (with_value p.graph n l v))) (Err code.ValueType)) (Err code.NotProperty)) (ValuesAgree n l)
      by_open true = by_test (is_prop_named l v)
      by_open false = tt

      by_role : (opens : Bool) (w : Role) → IfOk (set_by p n l v opens w) (ValuesAgree n l)
      by_role opens (role.Property ty) = by_test (has_type ty v)
      by_role opens role.Nothing = by_open (opens && is_open_label l)
      by_role opens (role.Output ty cached) = tt
      by_role opens (role.Input ty array cascade substitute) = tt

  pub clear_step-rules : (target : Option NodeId) (l : Label) →
      IfOk (clear_step t p target l) (λ q. RulesAgreeOutside t p.graph q.graph (touched_values t p.graph target l))
  clear_step-rules None l = tt
  clear_step-rules (Some n) l = by_role (is_open_kind t (kind_of p.graph n)) (role_at t p.graph n l)
    where
      by_open : (b : Bool) → IfOk (cond b (Ok (changed_to p (without_value p.graph n l))) (Err code.NotProperty)) (ValuesAgree n l)
      by_open true = rules-without_value laws p.graph n l
      by_open false = tt

      by_role : (opens : Bool) (w : Role) → IfOk (clear_by p n l opens w) (ValuesAgree n l)
      by_role opens (role.Property ty) = rules-without_value laws p.graph n l
      by_role opens role.Nothing = by_open (opens && is_open_label l)
      by_role opens (role.Output ty cached) = tt
      by_role opens (role.Input ty array cascade substitute) = tt

  pub mark_step-rules : (target : Option NodeId) (d : Bool) →
      IfOk (mark_step p target d) (λ q. RulesAgreeOutside t p.graph q.graph (touched_outputs t p.graph target))
  mark_step-rules None d = tt
  mark_step-rules (Some n) d = rules-with_mark laws p.graph n d

  pub disconnect_step-rules : (source : Option NodeId) (l : Label) (target : Option NodeId) (i : Label) →
      IfOk (disconnect_step t p source l target i) (λ q. RulesAgreeOutside t p.graph q.graph (touched_readers t p.graph target i))
  disconnect_step-rules None l target i = tt
  disconnect_step-rules (Some n) l None i = tt
  disconnect_step-rules (Some n) l (Some m) i = by_type (taken (role_at t p.graph m i))
    where
      a : ArcRec
      a = record { src = record { node = n; label = l }; node = m; input = i }

      by_test : (b : Bool) → IfOk (cond b (Ok (changed_to p (without_arc p.graph a))) (Err code.NoArc)) (λ q. RulesAgreeOutside t p.graph q.graph (touched_readers t p.graph (Some m) i))
      by_test true = rules-without_arc laws p.graph a
      by_test false = tt

      by_type : (o : Option Ty) → IfOk (disconnect_arc p a o) (λ q. RulesAgreeOutside t p.graph q.graph (touched_readers t p.graph (Some m) i))
      by_type None = tt
      by_type (Some ty) = by_test (is_arc p.graph a)

module _ {t : Tables} {p : Progress} (laws : AreTables t) (r : IsReady t p) where
  pub delete_step-rules : (target : Option NodeId) → IfOk (delete_step t p target) (λ q. RulesAgreeOutside t p.graph q.graph (touched_doomed t p.graph target))
  delete_step-rules None = tt
  delete_step-rules (Some n) = rules-without_doomed laws r.sound n

  -- ---- each step

  pub step_of-rules : (s : Step) → IfOk (step_of t p s) (λ q. RulesAgreeOutside t p.graph q.graph (touched_by t p q s))
  step_of-rules (step.Make k) = ok_both (make_step p k) (λ q w led. rules-new laws r led.ready w) (make_step-grows p k) (make_step-leads r k)
  step_of-rules (step.Override n) =
      ok_both (override_step t p (node_named p n)) (λ q w led. rules-new laws r led.ready w)
      (override_step-grows t p (node_named p n)) (override_step-leads r (node_named p n) (node_named-is p n))
  step_of-rules (step.Set n l v) = set_step-rules laws p (node_named p n) l v
  step_of-rules (step.Clear n l) = clear_step-rules laws p (node_named p n) l
  step_of-rules (step.Connect s l n i) = connect_step-rules laws r (node_named p s) l (node_named p n) i (node_named-is p s) (node_named-is p n)
  step_of-rules (step.Disconnect s l n i) = disconnect_step-rules laws p (node_named p s) l (node_named p n) i
  step_of-rules (step.Delete n) = delete_step-rules (node_named p n)
  step_of-rules (step.Mark n d) = mark_step-rules laws p (node_named p n) d
