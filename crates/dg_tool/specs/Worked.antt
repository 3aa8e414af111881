-- Scripts of which the checker computes what they print.
use Rattle.std.specs.Prelude.{◌≡◌, ℕ, List, ◌∷◌, [], ◌++◌, codes, map}
use Rattle.dg_files.specs.Tree.{Tree}
use Rattle.dg_kinds_coll.specs.Defold.{defold_tables}
use Rattle.dg_tool.specs.declared.status.Status.TheVariants as status
use Rattle.dg_deeds.specs.declared.deed.Deed.TheVariants.{Put}
use Rattle.dg_tool.specs.Out.{Out, out_of}

-- a script at /e.txt, and the words that play it
abbrev pub tree_with : List ℕ → Tree
tree_with script = record { path = codes "/e.txt"; bytes = script } ∷ []

abbrev pub run_words : List (List ℕ)
run_words = codes "run" ∷ codes "/e.txt" ∷ codes "--workers" ∷ codes "0" ∷ []

abbrev pub out_of_bytes : List ℕ → Out
out_of_bytes script = out_of defold_tables (tree_with script) run_words

-- it is played to its end and does nothing but print these lines
abbrev pub prints : List ℕ → List (List ℕ) → Type 0
prints script lines = ((out_of_bytes script).status ≡ status.Done) × ((out_of_bytes script).deeds ≡ map Put lines)

abbrev pub line : List ℕ → List ℕ
line text = text ++ 10 ∷ []

-- a name that isn't bound, in a step, in a question, and for an alias; and a block without steps
abbrev pub unbound : List ℕ
unbound =
    line (codes "set a.value 1") ++ line (codes "ask now a.value") ++ line (codes "alias b a") ++ line (codes "begin") ++ codes "end"

abbrev pub unbound_lines : List (List ℕ)
unbound_lines =
    line (codes "1: refused step 1 NoName") ∷ line (codes "2: NoName") ∷ line (codes "3: NoName") ∷ line (codes "4: Empty") ∷ []

-- a number is made, set and asked for
abbrev pub making : List ℕ
making = line (codes "make Num a") ++ line (codes "set a.value 1.5") ++ codes "ask now a.value"

abbrev pub made_lines : List (List ℕ)
made_lines = line (codes "1: ok") ∷ line (codes "2: ok") ∷ line (codes "3: 1.5") ∷ []

-- a block that is refused at its third step, and an interned name that stays
abbrev pub refusing : List ℕ
refusing =
    line (codes "make ScriptFile a") ++ line (codes "begin") ++ line (codes "set a:x number \"1\"") ++ line (codes "make Num b")
    ++ line (codes "set b.text \"t\"") ++ line (codes "end") ++ line (codes "ask now a:x") ++ line (codes "ask now b.value") ++ codes "ask now a:y"

abbrev pub refused_lines : List (List ℕ)
refused_lines =
    line (codes "1: ok") ∷ line (codes "2: refused step 3 NotProperty") ∷ line (codes "7: fault 1:x NoEndpoint") ∷ line (codes "8: NoName")
    ∷ line (codes "9: NoLabel") ∷ []

-- a component that goes with the object that owns it
abbrev pub deleting : List ℕ
deleting =
    line (codes "make GameObject g") ++ line (codes "make ComponentEmbedded c") ++ line (codes "set c.id \"c\"")
    ++ line (codes "connect c.component g.components") ++ line (codes "delete g") ++ codes "ask now c.id"

abbrev pub deleted_lines : List (List ℕ)
deleted_lines =
    line (codes "1: ok") ∷ line (codes "2: ok") ∷ line (codes "3: ok") ∷ line (codes "4: ok") ∷ line (codes "5: ok")
    ∷ line (codes "6: fault 2.id NoEndpoint") ∷ []

-- what is no collection and no game object is built as nothing
abbrev pub building : List ℕ
building = line (codes "make Num a") ++ line (codes "build b") ++ codes "build a"

abbrev pub building_lines : List (List ℕ)
building_lines = line (codes "1: ok") ∷ line (codes "2: NoName") ∷ line (codes "3: fault 1.build NoEndpoint") ∷ []

-- a block that isn't closed
abbrev pub unclosed : List ℕ
unclosed = line (codes "begin") ++ codes "make Num a"
