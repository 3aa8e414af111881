-- Which words are which step of a transaction.
use Rattle.std.specs.Prelude.{ℕ, List, [], ◌∷◌, true, false, cond, Result, Ok, Err, bytes_eq, codes}
use Rattle.dg_base.specs.declared.datum.Datum.{Datum}
use Rattle.dg_base.specs.declared.datum.Datum.TheVariants as datum
use Rattle.dg_script.specs.declared.command.ScriptCode.{ScriptCode}
use Rattle.dg_script.specs.declared.command.ScriptCode.TheVariants.{Value, Arity}
use Rattle.dg_script.specs.declared.command.SetWords.TheVariants as set
use Rattle.dg_script.specs.declared.command.StepWords.{StepWords}
use Rattle.dg_script.specs.declared.command.StepWords.TheVariants as step
use Rattle.dg_script.specs.declared.verbs.StepVerb.{StepVerb}
use Rattle.dg_script.specs.declared.verbs.StepVerb.TheVariants as verb
use Rattle.dg_script.specs.declared.words.Word.{Word}
use Rattle.dg_base.specs.Refusal.{and_then}
use Rattle.dg_script.specs.Forms.{is_bare, name_of, node_of, kind_of, type_of, decimal_of, switch_of, ep_of, arc_end_of, parts_of, splits_by_name}

-- make KIND NAME
abbrev pub make_in : List Word → Result StepWords ScriptCode
make_in (kind ∷ name ∷ []) = and_then (kind_of kind.text) (λ k. and_then (name_of name.text) (λ n. Ok (step.Make k n)))
make_in _ = Err Arity

-- override NAME NODE
abbrev pub override_in : List Word → Result StepWords ScriptCode
override_in (name ∷ node ∷ []) = and_then (name_of name.text) (λ n. and_then (node_of node.text) (λ m. Ok (step.Override n m)))
override_in _ = Err Arity

-- clear EP
abbrev pub clear_in : List Word → Result StepWords ScriptCode
clear_in (at ∷ []) = and_then (ep_of at.text) (λ ep. Ok (step.Clear ep))
clear_in _ = Err Arity

-- delete NODE
abbrev pub delete_in : List Word → Result StepWords ScriptCode
delete_in (node ∷ []) = and_then (node_of node.text) (λ n. Ok (step.Delete n))
delete_in _ = Err Arity

-- defective NODE on, defective NODE off
abbrev pub defective_in : List Word → Result StepWords ScriptCode
defective_in (node ∷ on ∷ []) = and_then (node_of node.text) (λ n. and_then (switch_of on.text) (λ s. Ok (step.Defective n s)))
defective_in _ = Err Arity

-- connect EP EP, both of schema labels
abbrev pub connect_in : List Word → Result StepWords ScriptCode
connect_in (src ∷ dst ∷ []) = and_then (arc_end_of src.text) (λ s. and_then (arc_end_of dst.text) (λ d. Ok (step.Connect s d)))
connect_in _ = Err Arity

-- disconnect EP EP, both of schema labels
abbrev pub disconnect_in : List Word → Result StepWords ScriptCode
disconnect_in (src ∷ dst ∷ []) = and_then (arc_end_of src.text) (λ s. and_then (arc_end_of dst.text) (λ d. Ok (step.Disconnect s d)))
disconnect_in _ = Err Arity

-- vec3 X Y Z
abbrev pub vec3_in : List Word → Result Datum ScriptCode
vec3_in (x ∷ y ∷ z ∷ []) =
    and_then (decimal_of x) (λ a. and_then (decimal_of y) (λ b. and_then (decimal_of z) (λ c. Ok (datum.Vec3 (record { x = a; y = b; z = c })))))
vec3_in _ = Err Arity

-- quat X Y Z W
abbrev pub quat_in : List Word → Result Datum ScriptCode
quat_in (x ∷ y ∷ z ∷ w ∷ []) =
    and_then (decimal_of x) (λ a. and_then (decimal_of y) (λ b. and_then (decimal_of z) (λ c. and_then (decimal_of w) (λ d.
    Ok (datum.Quat (record { x = a; y = b; z = c; w = d }))))))
quat_in _ = Err Arity

-- a quoted word, or `true`, `false` or a decimal without quotes
abbrev pub value_of : Word → Result Datum ScriptCode
value_of word =
    cond word.quoted (Ok (datum.Text word.text)) (cond (bytes_eq word.text (codes "true")) (Ok (datum.Flag true))
    (cond (bytes_eq word.text (codes "false")) (Ok (datum.Flag false)) (and_then (decimal_of word) (λ z. Ok (datum.Dec z)))))

abbrev pub one_value_in : Word → List Word → Result Datum ScriptCode
one_value_in word [] = value_of word
one_value_in word (_ ∷ _) = Err Arity

-- the value that the words from the third on are
abbrev pub value_in : List Word → Result Datum ScriptCode
value_in [] = Err Arity
value_in (word ∷ words) =
    cond (is_bare word (codes "vec3")) (vec3_in words) (cond (is_bare word (codes "quat")) (quat_in words) (one_value_in word words))

-- set EP VALUE at a schema label
abbrev pub set_plain_in : Word → List Word → Result StepWords ScriptCode
set_plain_in at words = and_then (value_in words) (λ value. and_then (ep_of at.text) (λ ep. Ok (step.Set ep (set.Plain value))))

-- set EP TYPE TEXT at an open name; the text stands in quotes
abbrev pub quoted_of : Word → Result (List ℕ) ScriptCode
quoted_of word = cond word.quoted (Ok word.text) (Err Value)

abbrev pub set_named_in : Word → List Word → Result StepWords ScriptCode
set_named_in at (type ∷ text ∷ []) =
    and_then (type_of type) (λ t. and_then (quoted_of text) (λ x. and_then (ep_of at.text) (λ ep. Ok (step.Set ep (set.Named t x)))))
set_named_in at _ = Err Arity

-- the last `.` or `:` of the second word says which of the two it is
abbrev pub set_in : List Word → Result StepWords ScriptCode
set_in [] = Err Arity
set_in (at ∷ words) = cond (splits_by_name (parts_of at.text)) (set_named_in at words) (set_plain_in at words)

abbrev pub step_in : StepVerb → List Word → Result StepWords ScriptCode
step_in verb.Make words = make_in words
step_in verb.Override words = override_in words
step_in verb.Set words = set_in words
step_in verb.Clear words = clear_in words
step_in verb.Delete words = delete_in words
step_in verb.Defective words = defective_in words
step_in verb.Connect words = connect_in words
step_in verb.Disconnect words = disconnect_in words
