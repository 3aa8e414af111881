-- What words come to before a command is played.
use Rattle.std.proofs.Common.{◌≡◌, ℕ, List, Bool, true, false, cond, Option, Some, Result, Ok, Err, map, refl, sym, ap, ◌∙◌, subst}
use Rattle.std.specs.Prelude.{IfSome, Vec, nat_lt, length}
use Rattle.std.specs.declared.alloc.Global.{Global}
use Rattle.dg_base.specs.declared.refusal.Refusal.{Refusal}
use Rattle.dg_base.specs.declared.refusal.Refusal.TheVariants.{Because}
use Rattle.dg_base.specs.Refusal.{Gives}
use Rattle.dg_base.specs.Tables.{Tables}
use Rattle.dg_editor.specs.Machine.{State as Editor}
use Rattle.dg_script.specs.declared.command.Command.{Command}
use Rattle.dg_script.specs.declared.command.BadLine.{BadLine}
use Rattle.dg_script.specs.Script.{lines_in, script_in}
use Rattle.dg_tool.specs.declared.halt.Halt.{Halt}
use Rattle.dg_tool.specs.declared.halt.Halt.TheVariants as halt
use Rattle.dg_tool.specs.declared.halt.Limit.TheVariants as limit
use Rattle.dg_tool.specs.declared.piece.Piece.{Piece}
use Rattle.dg_tool.specs.Input.{commands_in, in_grammar, max_lines, Tells as TellsOf}
use Rattle.dg_tool.specs.declared.due.Output.{Output}
use Rattle.dg_tool.specs.declared.start.Started.{Started}
use Rattle.dg_tool.specs.declared.start.Started.TheVariants as started
use Rattle.dg_tool.specs.declared.status.Status.TheVariants as status
use Rattle.dg_tool.specs.Out.{Doing, Tells, out_of_doing}
use Rattle.dg_tool.specs.Seen.{all_plain, line_in}
use Rattle.dg_tool.specs.Statement.{IsOutput, IsStarted, told_alone}
use Rattle.dg_tool.proofs.Outputs.{lines_within, plain-ok, told-output, within-plain}
use Rattle.dg_tool.proofs.Tellings.{told-on, told-started}

-- what is so of the tree that is told
pub told_by : {T : Type 0} (told : Option T) (P : T → Type 0) (t : T) → IfSome told P → told ≡ Some t → P t
told_by told P t all is = subst (λ o. IfSome o P) is all

-- a script is refused, and the files don't fail
abbrev IsFault : {X : Type 0} → Result X Halt → Type 0
IsFault (Err halt.FileFault) = Unit {0}
IsFault _ = ⊥

grammar_fault : (large : Bool) (r : Result (List Command) BadLine) → IsFault (cond large (Err (halt.TooLarge limit.Lines)) (in_grammar r)) → ⊥
grammar_fault true r is = is
grammar_fault false (Ok commands) is = is
grammar_fault false (Err bad) is = is

pub commands_fault : (bytes : List ℕ) → commands_in bytes ≡ Err halt.FileFault → ⊥
commands_fault bytes is = grammar_fault (nat_lt max_lines (length (lines_in bytes))) (script_in bytes) (subst IsFault (sym is) tt)

-- lines alone
pub told_started : {X : Type 0} (editor : X → Editor) (t : Tables) (r : Result (Vec Piece Global) (Refusal Halt)) (given : Result (List (List ℕ)) Halt) →
    TellsOf (λ (ps : Vec Piece Global). ps.items) r (all_plain given) → IsStarted editor t (told_alone r) (Tells given)
told_started editor t (Ok ps) given is = let p = plain-ok given ps.items is in (p.0, ap Tells p.1, p.2)
told_started {X} editor t (Err e) given is =
    told-started (λ (ls : List (List ℕ)). ls) t Tells (λ _. refl) X editor e given
    (subst (λ g. TellsOf (λ (ls : List (List ℕ)). ls) (Err e) g) (within-plain given)
    (told-on (λ (ps : Vec Piece Global). ps.items) (λ (ls : List (List ℕ)). ls) lines_within (λ _. refl) e (all_plain given) is))

-- a script that is refused is no fault of the files
pub commands_sound : {X : Type 0} (view : X → List Command) (e : Refusal Halt) (bytes : List ℕ) → Gives view (Err e) (commands_in bytes) → e ≡ Because halt.FileFault → ⊥
commands_sound view e bytes gives is = commands_fault bytes (subst (λ f. Gives view (Err f) (commands_in bytes)) is gives)

-- lines that are told are the output
pub told-out-of : {X D : Type 0} (editor : X → Editor) (t : Tables) (d : Doing) (o : Output D) (ps : Vec Piece Global) (s : Started X) → s ≡ started.Told ps → IsStarted editor t (Ok s) d →
    o.status ≡ status.Done → o.pieces ≡ ps → IsOutput t (Ok o) (out_of_doing t d)
told-out-of editor t d o ps s is told done same =
    told-output t d o ps.items done (ap (λ (v : Vec Piece Global). v.items) same) (subst (λ x. IsStarted editor t (Ok x) d) is told)
