-- The forms of words: names, nodes, endpoints, kinds, types and numbers. A word of another form is
-- the code Value.
use Rattle.std.specs.Prelude.{ℕ, ◌+◌, ◌-◌, ◌*◌, List, [], ◌∷◌, Bool, true, false, cond, ◌&&◌, ◌==◌, bytes_eq, not, nat_le, Option, Some, None, Result, Ok, Err, ℤ, length, count_by, codes}
use Rattle.std.specs.List.{list_all}
use Rattle.std.specs.Char.{is_ascii_digit}
use Rattle.dg_base.specs.declared.ids.Kind.{Kind}
use Rattle.dg_base.specs.declared.datum.PType.{PType}
use Rattle.dg_base.specs.declared.datum.PType.TheVariants as ptype
use Rattle.dg_labels.specs.Kinds.{kind_named}
use Rattle.dg_text.specs.LastMark.{Split, split_at_last}
use Rattle.dg_text.specs.Names.{is_name}
use Rattle.dg_decimal.specs.declared.refusal.DecimalRefusal.{DecimalRefusal}
use Rattle.dg_decimal.specs.Reading.{reading}
use Rattle.dg_script.specs.declared.command.ScriptCode.{ScriptCode}
use Rattle.dg_script.specs.declared.command.ScriptCode.TheVariants.{Value}
use Rattle.dg_script.specs.declared.command.EpWords.{EpWords}
use Rattle.dg_script.specs.declared.words.Word.{Word}
use Rattle.dg_base.specs.Refusal.{and_then}

abbrev pub checked : {X : Type 0} → Bool → X → Result X ScriptCode
checked passes x = cond passes (Ok x) (Err Value)

abbrev pub valued : {X : Type 0} → Option X → Result X ScriptCode
valued None = Err Value
valued (Some x) = Ok x

-- a name: an ASCII letter or `_`, and then such characters and digits
abbrev pub name_of : List ℕ → Result (List ℕ) ScriptCode
name_of text = checked (is_name text) text

-- a name of a pin, which isn't `now`
abbrev pub is_now : List ℕ → Bool
is_now text = bytes_eq text (codes "now")

abbrev pub pin_name_of : List ℕ → Result (List ℕ) ScriptCode
pin_name_of text = checked (is_name text && not (is_now text)) text

-- a pin to be asked: a name, or None for `now`
abbrev pub pin_of : List ℕ → Result (Option (List ℕ)) ScriptCode
pin_of text = cond (is_now text) (Ok None) (and_then (name_of text) (λ name. Ok (Some name)))

-- a node: any word with at most 64 `@`
abbrev pub is_at : ℕ → Bool
is_at b = b == 64

abbrev pub is_node : List ℕ → Bool
is_node text = nat_le (count_by is_at text) 64

abbrev pub node_of : List ℕ → Result (List ℕ) ScriptCode
node_of text = checked (is_node text) text

-- an endpoint is split at its last `.` or `:`
abbrev pub parts_of : List ℕ → Option Split
parts_of text = split_at_last (codes ".:") text

-- an open name stands behind a `:`
abbrev pub is_by_name : Split → Bool
is_by_name split = split.mark == 58

-- both sides are there, and the first is a node
abbrev pub is_endpoint : Split → Bool
is_endpoint split = (nat_le 1 (length split.before) && nat_le 1 (length split.behind)) && is_node split.before

abbrev pub ep_at : Option Split → Result EpWords ScriptCode
ep_at None = Err Value
ep_at (Some split) = checked (is_endpoint split) (record { node = split.before; by_name = is_by_name split; label = split.behind })

abbrev pub ep_of : List ℕ → Result EpWords ScriptCode
ep_of text = ep_at (parts_of text)

-- the last mark of the word is a `:`
abbrev pub splits_by_name : Option Split → Bool
splits_by_name None = false
splits_by_name (Some split) = is_by_name split

-- an end of an arc is a schema label's
abbrev pub schema_ep : EpWords → Result EpWords ScriptCode
schema_ep ep = checked (not ep.by_name) ep

abbrev pub arc_end_of : List ℕ → Result EpWords ScriptCode
arc_end_of text = and_then (ep_of text) schema_ep

-- the kind of a name
abbrev pub kind_of : List ℕ → Result Kind ScriptCode
kind_of text = valued (kind_named text)

-- the types of open properties
abbrev pub type_named : List ℕ → Option PType
type_named text =
    cond (bytes_eq text (codes "number")) (Some ptype.Number) (cond (bytes_eq text (codes "hash")) (Some ptype.Hash)
    (cond (bytes_eq text (codes "url")) (Some ptype.Url) (cond (bytes_eq text (codes "vector3")) (Some ptype.Vector3)
    (cond (bytes_eq text (codes "vector4")) (Some ptype.Vector4) (cond (bytes_eq text (codes "quat")) (Some ptype.Quat)
    (cond (bytes_eq text (codes "boolean")) (Some ptype.Boolean) None))))))

-- a word that stands there without quotes
abbrev pub is_bare : Word → List ℕ → Bool
is_bare word name = not word.quoted && bytes_eq word.text name

abbrev pub type_of : Word → Result PType ScriptCode
type_of word = cond word.quoted (Err Value) (valued (type_named word.text))

-- a decimal stands without quotes, and is a signed 64-bit number of billionths
abbrev pub in_value : Result ℤ DecimalRefusal → Result ℤ ScriptCode
in_value (Ok z) = Ok z
in_value (Err refusal) = Err Value

abbrev pub decimal_of : Word → Result ℤ ScriptCode
decimal_of word = cond word.quoted (Err Value) (in_value (reading word.text))

-- a count: 1 to 20 digits, and at most 1,000,000
abbrev pub is_number : List ℕ → Bool
is_number text = (nat_le 1 (length text) && nat_le (length text) 20) && list_all is_ascii_digit text

abbrev pub number_from : ℕ → List ℕ → ℕ
number_from first [] = first
number_from first (b ∷ bs) = number_from (first * 10 + (b - 48)) bs

abbrev pub count_of : List ℕ → Result ℕ ScriptCode
count_of text = checked (is_number text && nat_le (number_from 0 text) 1000000) (number_from 0 text)

-- `on` or `off`
abbrev pub switch_of : List ℕ → Result Bool ScriptCode
switch_of text = cond (bytes_eq text (codes "on")) (Ok true) (cond (bytes_eq text (codes "off")) (Ok false) (Err Value))
