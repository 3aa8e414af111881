-- What a call that may be refused answers, against what the definitions give.
use Rattle.std.specs.Prelude.{◌≡◌, Result, Ok, Err}
use Rattle.dg_base.specs.declared.refusal.Refusal.{Refusal}
use Rattle.dg_base.specs.declared.refusal.Refusal.TheVariants as refusal

-- what is answered, seen so, is what is given, and a cause is the one that is given. Where memory is
-- refused nothing is said.
abbrev pub Gives : {X Y C : Type 0} → (X → Y) → Result X (Refusal C) → Result Y C → Type 0
Gives view (Ok x) given = given ≡ Ok (view x)
Gives view (Err (refusal.Because c)) given = given ≡ Err c
Gives view (Err refusal.NoMemory) given = Unit {0}

-- what comes after a step that may be refused: the first refusal is that of all
abbrev pub and_then : {A B C : Type 0} → Result A C → (A → Result B C) → Result B C
and_then (Ok a) next = next a
and_then (Err c) next = Err c
